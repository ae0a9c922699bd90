-- The forms of GeneralName that aren't looked into (RFC 5280, 4.2.1.6).
use Rattle.std.specs.Prelude.{ℕ, List, [], ◌∷◌, refl}
use Rattle.der_grammar.specs.Types.{AsnType}
use Rattle.x509_core.specs.AnyOf.{any_of_type}

-- otherName [0], dNSName [2], x400Address [3], directoryName [4], ediPartyName [5], iPAddress [7] and registeredID [8]
abbrev pub other_tags : List ℕ
other_tags = 160 ∷ 130 ∷ 163 ∷ 164 ∷ 165 ∷ 135 ∷ 136 ∷ []

abbrev pub other_name_type : AsnType (ℕ × List ℕ)
other_name_type = any_of_type other_tags refl
