-- Extensions that have to be known (RFC 5280, 4.2).
use Rattle.std.specs.Prelude.{ℕ, List, [], ◌∷◌, Bool, false, not, ◌&&◌, ◌==◌}
use Rattle.std.specs.List.{list_any}
use Rattle.der_grammar.specs.Types.{is_in}
use Rattle.x509_views.specs.Extensions.{OneExtension}

-- id-ce, 2.5.29, with a last arc, as its contents
abbrev pub extension_oid : ℕ → List ℕ
extension_oid last = 0x55 ∷ 0x1d ∷ last ∷ []

-- subject key identifier, key usage, subject alternative name, basic constraints, CRL distribution points, certificate policies,
-- authority key identifier and extended key usage
abbrev pub known_numbers : List ℕ
known_numbers = 14 ∷ 15 ∷ 17 ∷ 19 ∷ 31 ∷ 32 ∷ 35 ∷ 37 ∷ []

abbrev pub is_known : List ℕ → Bool
is_known [] = false
is_known (first ∷ []) = false
is_known (first ∷ second ∷ []) = false
is_known (first ∷ second ∷ last ∷ []) = first == 0x55 && second == 0x1d && is_in last known_numbers
is_known (first ∷ second ∷ third ∷ fourth ∷ more) = false

abbrev pub is_unknown : Bool → List ℕ → Bool
is_unknown critical oid = critical && not (is_known oid)

-- who doesn't know a critical extension has to refuse the certificate
unfoldable pub has_unknown_critical : List OneExtension → Bool
has_unknown_critical extensions = list_any (λ x. is_unknown x.critical x.oid) extensions
