-- The lines of a provider file, as they are written.
use Rattle.std.specs.Prelude.{ℕ, List, [], ◌∷◌, ◌++◌, codes}
use Rattle.base64.specs.Engines.{standard}
use Rattle.base64.specs.GeneralPurpose.{encode_of}
use Rattle.sigstore_keys.specs.declared.scheme.SigningScheme.{SigningScheme}
use Rattle.sigstore_keys.specs.Scheme.{scheme_name_of}

-- a field: base64 (RFC 4648, section 4), or a dash for no bytes
abbrev pub field_text : List ℕ → List ℕ
field_text [] = codes "-"
field_text (byte ∷ bytes) = encode_of standard (byte ∷ bytes)

-- `armor SORT TEXT DER`
unfoldable pub armor_line : List ℕ → List ℕ → List ℕ → List ℕ
armor_line sort text der = codes "armor " ++ sort ++ 32 ∷ field_text text ++ 32 ∷ field_text der ++ 10 ∷ []

-- `accept SCHEME KEY SUBJECT SIGNATURE`
unfoldable pub accept_line : SigningScheme → List ℕ → List ℕ → List ℕ → List ℕ
accept_line scheme key subject signature =
    codes "accept " ++ scheme_name_of scheme ++ 32 ∷ field_text key ++ 32 ∷ field_text subject ++ 32 ∷ field_text signature ++ 10 ∷ []
