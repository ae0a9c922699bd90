-- Authorities that are asked one by one.
use Rattle.std.proofs.Common.{◌≡◌, Bool, true, false, ◌||◌, if◌then◌else◌, List, ◌∷◌, Option, Some, Ok, Err, refl, ap, ◌∙◌}
use Rattle.std.specs.Prelude.{⊤}
use Rattle.std.specs.List.{list_any}
use Rattle.sigstore_types.specs.declared.authority.TsaAuthority.{TsaAuthority}
use Rattle.sigstore_keys.specs.Good.{Judge}
use Rattle.sigstore_tsa_parts.specs.declared.error.Error.{Error}
use Rattle.sigstore_tsa.specs.declared.stamp.Stamp.{Stamp}
use Rattle.sigstore_tsa.specs.Authorities.{is_accepted, is_of_window, is_outside, answered, first_accepting}
use Rattle.sigstore_tsa.specs.Stamped.{under_of}

or_assoc : (a b c : Bool) → (a || (b || c)) ≡ ((a || b) || c)
or_assoc true b c = refl
or_assoc false b c = refl

module _ (accepts : Judge) (stamp : Stamp) (authority : TsaAuthority) (others : List TsaAuthority) (outside : Bool) where
  abbrev accepted_by : TsaAuthority → Bool
  accepted_by authority = is_accepted (under_of accepts stamp authority)

  abbrev outside_of : TsaAuthority → Bool
  outside_of authority = is_outside (under_of accepts stamp authority)

  pub one_refuses : (e : Error) → under_of accepts stamp authority ≡ Err e
      → answered stamp.time (list_any accepted_by (authority ∷ others)) (outside || list_any outside_of (authority ∷ others))
      ≡ answered stamp.time (list_any accepted_by others) ((outside || is_of_window e) || list_any outside_of others)
  one_refuses e h =
      ap (λ r. answered stamp.time (is_accepted r || list_any accepted_by others) (outside || (is_outside r || list_any outside_of others))) h
      ∙ ap (λ w. answered stamp.time (list_any accepted_by others) w) (or_assoc outside (is_of_window e) (list_any outside_of others))

  pub one_accepts : (x : ⊤) → under_of accepts stamp authority ≡ Ok x
      → answered stamp.time (list_any accepted_by (authority ∷ others)) (outside || list_any outside_of (authority ∷ others)) ≡ Ok stamp.time
  one_accepts x h =
      ap (λ r. answered stamp.time (is_accepted r || list_any accepted_by others) (outside || (is_outside r || list_any outside_of others))) h

  -- the first that accepts is passed over where it refuses, and is the authority where it accepts
  pub first_passed : (e : Error) → under_of accepts stamp authority ≡ Err e
      → first_accepting accepts stamp (authority ∷ others) ≡ first_accepting accepts stamp others
  first_passed e h = ap (λ r. if is_accepted r then Some authority else first_accepting accepts stamp others) h

  pub first_found : (x : ⊤) → under_of accepts stamp authority ≡ Ok x → first_accepting accepts stamp (authority ∷ others) ≡ Some authority
  first_found x h = ap (λ r. if is_accepted r then Some authority else first_accepting accepts stamp others) h
