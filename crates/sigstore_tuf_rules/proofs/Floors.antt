-- No document that is put in force is below the floor of those before it.
use Rattle.std.proofs.Common.{◌≡◌, ℕ, ◌+◌, ◌≤◌, nat_lt, cond, if◌then◌else◌, List, [], ◌∷◌, Bool, true, false, Option, Some, None, Result, Ok, Err, codes, refl, sym, ap, ◌∙◌, subst, arith, le_refl, le_trans}
use Rattle.std.specs.Prelude.{⊤, option_map, option_and_then}
use Rattle.std.specs.List.{AllByRecursion}
use Rattle.std.specs.Ordering.{is_eq}
use Rattle.std.proofs.lemmas.Bool.Decides.{nat_tests}
use Rattle.std.proofs.lemmas.Slice.Eq.{bytes_eq-Decides}
use Rattle.std.proofs.lemmas.Map.Text.{is_eq-slice_cmp}
use Rattle.foundation.specs.Results.{step_ok, some_same}
use Rattle.sigstore_types_parts.specs.Entries.{at_name, text_cmp}
use Rattle.sigstore_tuf_text.specs.declared.error.Error.{Error}
use Rattle.sigstore_tuf_text.specs.declared.error.Error.TheVariants as tuf
use Rattle.sigstore_tuf_parts.specs.declared.snapshot.Snapshot.{Snapshot}
use Rattle.sigstore_tuf_parts.specs.declared.timestamp.MetaFile.{MetaFile}
use Rattle.sigstore_tuf_parts.specs.declared.timestamp.Timestamp.{Timestamp}
use Rattle.sigstore_tuf_rules.specs.declared.documents.Held.{Held}
use Rattle.sigstore_tuf_rules.specs.declared.documents.InForce.{InForce}
use Rattle.sigstore_tuf_rules.specs.Documents.{content_of}
use Rattle.sigstore_tuf_rules.specs.Serving.{version_in}
use Rattle.sigstore_tuf_rules.specs.Update.{not_below_of, newer_than_of, newer_of, kept_pin_of, kept_pins_in, kept_pins_of}
use Rattle.sigstore_tuf_rules.specs.Floor.{Floor, floor_of, NoLower, NotBelow, Standing, standing_of, KeepsFloor, FloorsHold}

-- ---- versions

no_lower_stays : (o : Option ℕ) → NoLower o o
no_lower_stays None = tt
no_lower_stays (Some n) = (n, refl, le_refl n)

no_lower_joins : (a b c : Option ℕ) → NoLower a b → NoLower b c → NoLower a c
no_lower_joins None b c p q = tt
no_lower_joins (Some n) None c p q = let never : None ≡ Some p.0 = p.1 in cc
no_lower_joins (Some n) (Some m) c p q = let same : m ≡ p.0 = some_same m p.0 p.1 in (q.0, q.1, le_trans p.2 (subst (λ k. k ≤ q.0) same q.2))

below_stays : (f : Floor) → NotBelow f f
below_stays f = record { timestamp = no_lower_stays f.timestamp; pins = λ name. no_lower_stays (f.pins name) }

below_joins : (a b c : Floor) → NotBelow a b → NotBelow b c → NotBelow a c
below_joins a b c p q = record {
  timestamp = no_lower_joins a.timestamp b.timestamp c.timestamp p.timestamp q.timestamp;
  pins = λ name. no_lower_joins (a.pins name) (b.pins name) (c.pins name) (p.pins name) (q.pins name);
}

-- ---- standings

pub floor_stays : (a : Standing) → KeepsFloor a a
floor_stays a = (le_refl a.0, λ same. below_stays a.1)

between : (a b c : ℕ) → a ≤ b → b ≤ c → a ≡ c → a ≡ b
between a b c p q same = omega (arith, p, q, same)

pub floor_joins : (a b c : Standing) → KeepsFloor a b → KeepsFloor b c → KeepsFloor a c
floor_joins a b c p q = (
  le_trans p.0 q.0,
  λ same.
      let first = between a.0 b.0 c.0 p.0 q.0 same in
      below_joins a.1 b.1 c.1 (p.1 first) (q.1 (sym first ∙ same)),
)

later_keep : (first next : Standing) (later : List Standing) → KeepsFloor first next → AllByRecursion (KeepsFloor next) later → AllByRecursion (KeepsFloor first) later
later_keep first next [] k h = tt
later_keep first next (x ∷ xs) k h = (floor_joins first next x k h.0, later_keep first next xs k h.1)

pub floors_hold : FloorsHold
floors_hold first [] h = tt
floors_hold first (next ∷ later) h = (h.0, later_keep first next later h.0 (floors_hold next later h.1))

-- ---- each document that is put in force

-- a higher root has a floor of its own
pub floor_above : (old new : InForce) → version_in new ≡ version_in old + 1 → KeepsFloor (standing_of old) (standing_of new)
floor_above old new next = (omega (arith, next), λ same. absurd (higher (version_in old) (version_in new) next same))
  where
    higher : (m n : ℕ) → n ≡ m + 1 → m ≡ n → ⊥
    higher m n p q = omega (arith, p, q)

-- the same timestamp and snapshot under the same root
pub floor_same : (old new : InForce) → version_in new ≡ version_in old → new.timestamp ≡ old.timestamp → new.snapshot ≡ old.snapshot → KeepsFloor (standing_of old) (standing_of new)
floor_same old new v t s = (
  subst (λ n. version_in old ≤ n) (sym v) (le_refl (version_in old)),
  λ same. record {
    timestamp = subst (λ (o : Option (Held Timestamp)). NoLower (option_map (λ (held : Held Timestamp). (content_of held).version) old.timestamp) (option_map (λ (held : Held Timestamp). (content_of held).version) o)) (sym t) (no_lower_stays (option_map (λ (held : Held Timestamp). (content_of held).version) old.timestamp));
    pins = λ name. subst (λ (o : Option (Held Snapshot)). NoLower ((floor_of old).pins name) (option_and_then (λ (held : Held Snapshot). option_map (λ (pin : MetaFile). pin.version) (at_name name (content_of held).meta)) o)) (sym s) (no_lower_stays ((floor_of old).pins name));
  },
)

least : (role : List ℕ) (trusted new : ℕ) → not_below_of role trusted new ≡ Ok tt → trusted ≤ new
least role trusted new h = by_test (nat_lt new trusted) refl h
  where
    by_test : (b : Bool) → nat_lt new trusted ≡ b → ◌≡◌ {A = Result ⊤ Error} (if b then Err (tuf.Rollback role trusted new) else Ok tt) (Ok tt) → trusted ≤ new
    by_test true e h = cc
    by_test false e h = grind (arith, nat_tests)

-- a newer timestamp
newer_floor : (o : Option (Held Timestamp)) (held : Held Timestamp) → newer_of o (content_of held) ≡ Ok tt → NoLower (option_map (λ (h : Held Timestamp). (content_of h).version) o) (Some (content_of held).version)
unfolding newer_than_of
newer_floor None held h = tt
newer_floor (Some old) held h =
    let a = step_ok (not_below_of (codes "timestamp") (content_of old).version (content_of held).version) _ tt h in
    ((content_of held).version, refl, least (codes "timestamp") (content_of old).version (content_of held).version a.1)

pub timestamp_floor : (old : InForce) (held : Held Timestamp) → newer_of old.timestamp (content_of held) ≡ Ok tt → KeepsFloor (standing_of old) (standing_of (record old { timestamp = Some held }))
timestamp_floor old held h = (le_refl (version_in old), λ same. record { timestamp = newer_floor old.timestamp held h; pins = λ name. no_lower_stays ((floor_of old).pins name) })

-- a snapshot that keeps the pins
kept_one : (name : List ℕ) (pin : MetaFile) (o : Option MetaFile) → kept_pin_of name pin o ≡ Ok tt → (new : MetaFile) × (o ≡ Some new) × (pin.version ≤ new.version)
kept_one name pin None h = cc
kept_one name pin (Some new) h = (new, refl, least name pin.version new.version h)

kept_at : (es : List (List ℕ × MetaFile)) (new : Snapshot) → kept_pins_in es new ≡ Ok tt → (name : List ℕ) (pin : MetaFile) → at_name name es ≡ Some pin → (q : MetaFile) × (at_name name new.meta ≡ Some q) × (pin.version ≤ q.version)
kept_at [] new h name pin at = cc
kept_at (e ∷ es) new h name pin at = by_test (is_eq (text_cmp name e.0)) refl at (λ k. kept_at es new s.2 name pin k)
  where
    s : (x : ⊤) × (kept_pin_of e.0 e.1 (at_name e.0 new.meta) ≡ Ok x) × (kept_pins_in es new ≡ Ok tt)
    s = step_ok (kept_pin_of e.0 e.1 (at_name e.0 new.meta)) (λ x. kept_pins_in es new) tt h

    by_test : (b : Bool) → is_eq (text_cmp name e.0) ≡ b → cond b (Some e.1) (at_name name es) ≡ Some pin → (at_name name es ≡ Some pin → (q : MetaFile) × (at_name name new.meta ≡ Some q) × (pin.version ≤ q.version))
        → (q : MetaFile) × (at_name name new.meta ≡ Some q) × (pin.version ≤ q.version)
    by_test true t at rec =
        let same : name ≡ e.0 = (bytes_eq-Decides name e.0).0 (sym (is_eq-slice_cmp name e.0) ∙ t) in
        let k = kept_one e.0 e.1 (at_name e.0 new.meta) s.1 in
        (k.0, ap (λ n. at_name n new.meta) same ∙ k.1, subst (λ (p : MetaFile). p.version ≤ (k.0).version) (some_same e.1 pin at) k.2)
    by_test false t at rec = rec at

pins_floor : (o : Option (Held Snapshot)) (held : Held Snapshot) → kept_pins_of o (content_of held) ≡ Ok tt → (name : List ℕ)
    → NoLower (option_and_then (λ (h : Held Snapshot). option_map (λ (pin : MetaFile). pin.version) (at_name name (content_of h).meta)) o) (option_map (λ (pin : MetaFile). pin.version) (at_name name (content_of held).meta))
pins_floor None held h name = tt
pins_floor (Some old) held h name = by_pin (at_name name (content_of old).meta) refl
  where
    by_pin : (o : Option MetaFile) → at_name name (content_of old).meta ≡ o → NoLower (option_map (λ (pin : MetaFile). pin.version) o) (option_map (λ (pin : MetaFile). pin.version) (at_name name (content_of held).meta))
    by_pin None at = tt
    by_pin (Some pin) at =
        let k = kept_at (content_of old).meta (content_of held) h name pin at in
        ((k.0).version, ap (option_map (λ (p : MetaFile). p.version)) k.1, k.2)

pub snapshot_floor : (old : InForce) (held : Held Snapshot) → kept_pins_of old.snapshot (content_of held) ≡ Ok tt → KeepsFloor (standing_of old) (standing_of (record old { snapshot = Some held; targets = [] }))
snapshot_floor old held h = (
  le_refl (version_in old),
  λ same. record { timestamp = no_lower_stays (option_map (λ (x : Held Timestamp). (content_of x).version) old.timestamp); pins = λ name. pins_floor old.snapshot held h name },
)
