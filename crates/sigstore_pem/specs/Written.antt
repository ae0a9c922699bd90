-- The text of a certificate (RFC 7468, sections 2 and 5): what generators write.
use Rattle.std.specs.Prelude.{ℕ, zero, suc, ◌+◌, ◌/◌, List, [], ◌∷◌, ◌++◌, length, take, drop}
use Rattle.base64.specs.Engines.{standard}
use Rattle.base64.specs.GeneralPurpose.{encode_of}
use Rattle.sigstore_pem.specs.Pem.{begin_line, end_line, certificate_label}

-- so many lines of 64 characters, the last of which may be shorter, each ended by LF
unfoldable pub wrapped_in : ℕ → List ℕ → List ℕ
wrapped_in zero text = []
wrapped_in (suc count) text = take 64 text ++ (10 ∷ wrapped_in count (drop 64 text))

-- a text in lines of 64 characters and a last one of the rest
abbrev pub wrapped : List ℕ → List ℕ
wrapped text = wrapped_in ((length text + 63) / 64) text

-- the text of a certificate
abbrev pub certificate_text : List ℕ → List ℕ
certificate_text der =
    begin_line certificate_label ++ (10 ∷ (wrapped (encode_of standard der) ++ (end_line certificate_label ++ (10 ∷ []))))
