-- Whether a certificate may issue others, by its basic constraints (RFC 5280, 4.2.1.9).
use Rattle.std.specs.Prelude.{ℕ, List, Bool, true, false, nat_le, Option, Some, None, Ok, Err, if◌then◌else◌, refl}
use Rattle.der_grammar.specs.Outcome.{Outcome}
use Rattle.der_grammar.specs.Grammar.{read_all}
use Rattle.der_grammar.specs.Types.{AsnType, sequence_type, components_as, followed_by, optional_component}
use Rattle.der_grammar.specs.Booleans.{false_by_default}
use Rattle.der_core.specs.Unsigned.{uint_type}
use Rattle.der_numbers.specs.Numbers.{number_from}
use Rattle.path_core.specs.declared.basic_constraints.BasicConstraints.{BasicConstraints}
use Rattle.path_core.specs.declared.authority.CaConstraint.{CaConstraint}
use Rattle.path_core.specs.declared.authority.CaConstraint.TheVariants.{NotCa, Ca, Unreadable}

-- SEQUENCE { cA BOOLEAN DEFAULT FALSE, pathLenConstraint INTEGER (0..MAX) OPTIONAL }
abbrev pub basic_constraints_type : AsnType BasicConstraints
basic_constraints_type = sequence_type (components_as (λ x. record { ca = x.0; path_length = x.1 }) (λ b. (b.ca, b.path_length))
    (followed_by false_by_default (optional_component uint_type) refl) (λ a. refl) (λ b. refl))

abbrev pub authority_of : BasicConstraints → CaConstraint
authority_of b = if b.ca then Ca b.path_length else NotCa

abbrev pub or_unreadable : Outcome BasicConstraints → CaConstraint
or_unreadable (Ok b) = authority_of b
or_unreadable (Err e) = Unreadable

-- by the extension's value; left out, it may not
abbrev pub authority_in : Option (List ℕ) → CaConstraint
authority_in None = NotCa
authority_in (Some value) = or_unreadable (read_all basic_constraints_type.grammar value)

-- so many are no more than the number that the path length's contents write
abbrev pub is_room : ℕ → List ℕ → Bool
is_room below path_length = nat_le below (number_from 0 path_length)

-- it may issue certificates, above so many intermediates
abbrev pub stands_above : ℕ → CaConstraint → Bool
stands_above below NotCa = false
stands_above below (Ca None) = true
stands_above below (Ca (Some path_length)) = is_room below path_length
stands_above below Unreadable = false

-- it may not, and says so readably
abbrev pub is_no_ca : CaConstraint → Bool
is_no_ca NotCa = true
is_no_ca (Ca path_length) = false
is_no_ca Unreadable = false
