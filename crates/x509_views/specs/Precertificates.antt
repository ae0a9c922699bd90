-- The signed part of a precertificate, from that of its certificate (RFC 6962, 3.2).
use Rattle.std.specs.Prelude.{ℕ, ◌++◌, List, [], ◌∷◌, Option, Some, None, Ok}
use Rattle.foundation.specs.Steps.{◌>>=◌}
use Rattle.der_grammar.specs.Outcome.{Outcome}
use Rattle.der_grammar.specs.Grammar.{framed}
use Rattle.spki_core.specs.Reading.{Reading, of_der, before}
use Rattle.x509_views.specs.Extensions.{Found, found_of}

-- the contents of 1.3.6.1.4.1.11129.2.4.2 (RFC 6962, 3.3)
abbrev pub sct_oid : List ℕ
sct_oid = 43 ∷ 6 ∷ 1 ∷ 4 ∷ 1 ∷ 214 ∷ 121 ∷ 2 ∷ 4 ∷ 2 ∷ []

-- a signed part of what stands before its extensions, and of these
unfoldable pub written_anew : List ℕ → List ℕ → Outcome (List ℕ)
written_anew front list = do
  sequence ← framed 48 list
  extensions ← framed 163 sequence
  framed 48 (front ++ extensions)

-- the list without that extension
abbrev pub without : List ℕ → Found → List ℕ
without list found = before list found.from ++ found.behind

abbrev pub rewritten : List ℕ → List ℕ → List ℕ → Option Found → Reading (List ℕ)
rewritten tbs front list None = Ok tbs
rewritten tbs front list (Some found) = of_der (written_anew front (without list found))

-- TBSCertificate without the extension that holds the timestamps; the others stay, and lengths are written anew
abbrev pub precert_of : List ℕ → List ℕ → Option (List ℕ) → Reading (List ℕ)
precert_of tbs front None = Ok tbs
precert_of tbs front (Some list) = rewritten tbs front list (found_of sct_oid list)
