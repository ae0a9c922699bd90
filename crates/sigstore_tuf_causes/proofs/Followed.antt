-- The delegations that follow a document.
use Rattle.std.proofs.Common.{◌≡◌, ℕ, if◌then◌else◌, List, [], ◌∷◌, Bool, true, false, Option, Some, None, Ok, bytes_eq, refl, sym, ap, ◌∙◌, subst}
use Rattle.std.specs.Prelude.{find, is_some, ok_or}
use Rattle.std.specs.List.{AllByRecursion}
use Rattle.std.proofs.lemmas.Slice.Eq.{bytes_eq-Decides}
use Rattle.foundation.specs.Steps.{◌>>=◌}
use Rattle.foundation.specs.Results.{step_ok, ok_same}
use Rattle.sigstore_types_parts.specs.Entries.{at_name}
use Rattle.sigstore_tuf_text.specs.declared.error.Error.TheVariants as tuf
use Rattle.sigstore_tuf_text.specs.declared.error.Rule.TheVariants as rule
use Rattle.sigstore_tuf_parts.specs.declared.targets.DelegatedRole.{DelegatedRole}
use Rattle.sigstore_tuf_parts.specs.declared.targets.Delegations.{Delegations}
use Rattle.sigstore_tuf_parts.specs.declared.targets.Targets.{Targets}
use Rattle.sigstore_tuf_parts.specs.Delegation.{matches_path_of}
use Rattle.sigstore_tuf_parts.specs.Targets.{role_keys_in}
use Rattle.sigstore_tuf_rules.specs.declared.documents.Held.{Held}
use Rattle.sigstore_tuf_rules.specs.declared.documents.InForce.{InForce}
use Rattle.sigstore_tuf_rules.specs.Documents.{content_of}
use Rattle.sigstore_tuf_rules.specs.declared.visit.Visit.{Visit}
use Rattle.sigstore_tuf_rules.specs.declared.visit.Next.{Next}
use Rattle.sigstore_tuf_rules.specs.Order.{is_top_level, nothing_next, with_name, pattern_or, matching, delegated_in, by}
use Rattle.sigstore_tuf_rules.specs.Trusted.{RoleAuthority, authority_in}
use Rattle.sigstore_tuf_rules.specs.Delegated.{not_top_level_of, delegation_of}
use Rattle.sigstore_tuf_rules.proofs.Updates.{ok_some}
use Rattle.sigstore_tuf_causes.proofs.Growing.{Grows}

pub each_map : {A : Type 0} (P Q : A → Type 0) (xs : List A) → ((x : A) → P x → Q x) → AllByRecursion P xs → AllByRecursion Q xs
each_map P Q [] f h = tt
each_map P Q (x ∷ xs) f h = (f x h.0, each_map P Q xs f h.1)

-- ---- names

-- a role of this name is among these, and isn't a top-level one
abbrev pub IsNamed : List DelegatedRole → List ℕ → Type 0
IsNamed ds name = (is_top_level name ≡ false) × (is_some (find (λ (r : DelegatedRole). bytes_eq r.name name) ds) ≡ true)

further : (d : DelegatedRole) (ds : List DelegatedRole) (name : List ℕ) → IsNamed ds name → IsNamed (d ∷ ds) name
further d ds name h = (h.0, by_first (bytes_eq d.name name))
  where
    by_first : (b : Bool) → is_some (if b then Some d else find (λ (r : DelegatedRole). bytes_eq r.name name) ds) ≡ true
    by_first true = refl
    by_first false = h.1

here : (d : DelegatedRole) (ds : List DelegatedRole) → is_top_level d.name ≡ false → IsNamed (d ∷ ds) d.name
here d ds low = (low, ap (λ b. is_some (if b then Some d else find (λ (r : DelegatedRole). bytes_eq r.name d.name) ds)) ((bytes_eq-Decides d.name d.name).1 refl))

-- those that follow are named by the delegations
pub matching_named : (path : List ℕ) (ds : List DelegatedRole) (next : Next) → matching path ds ≡ Ok next → AllByRecursion (IsNamed ds) next.names
matching_named path [] next h = subst (λ (m : Next). AllByRecursion (IsNamed []) m.names) (ok_same nothing_next next h) tt
matching_named path (d ∷ later) next h = by_top (is_top_level d.name) refl h (λ m k. matching_named path later m k)
  where
    Named : Next → Type 0
    Named m = AllByRecursion (IsNamed (d ∷ later)) m.names

    Later : Type 0
    Later = (m : Next) → matching path later ≡ Ok m → AllByRecursion (IsNamed later) m.names

    rest : Later → (m : Next) → matching path later ≡ Ok m → Named m
    rest rec m k = each_map (IsNamed later) (IsNamed (d ∷ later)) m.names (further d later) (rec m k)

    by_end : (b : Bool) → is_top_level d.name ≡ false → (if b then Ok (record { names = d.name ∷ []; ends = true }) else (matching path later >>= λ m. Ok (with_name d.name m))) ≡ Ok next → Later → Named next
    by_end true low h rec = subst Named (ok_same _ next h) (here d later low, tt)
    by_end false low h rec =
        let m = step_ok (matching path later) _ next h in
        subst Named (ok_same _ next m.2) (here d later low, rest rec m.0 m.1)

    by_found : (b : Bool) → is_top_level d.name ≡ false
        → (if b then (if d.terminating then Ok (record { names = d.name ∷ []; ends = true }) else (matching path later >>= λ m. Ok (with_name d.name m))) else matching path later) ≡ Ok next → Later → Named next
    by_found true low h rec = by_end d.terminating low h rec
    by_found false low h rec = rest rec next h

    by_top : (b : Bool) → is_top_level d.name ≡ b
        → (if b then matching path later
        else (pattern_or (matches_path_of d path) >>= λ found. (if found then (if d.terminating then Ok (record { names = d.name ∷ []; ends = true }) else (matching path later >>= λ m. Ok (with_name d.name m))) else matching path later))) ≡ Ok next
        → Later → Named next
    by_top true top h rec = rest rec next h
    by_top false low h rec = let f = step_ok (pattern_or (matches_path_of d path)) _ next h in by_found f.0 low f.2 rec

-- ---- their delegations

-- whoever is named so is delegated to
pub named_delegation : (set : InForce) (delegator name : List ℕ) (held : Held Targets) → at_name delegator set.targets ≡ Some held → IsNamed (delegated_in (content_of held).delegations) name
    → (authority : RoleAuthority) × (delegation_of set (by delegator name) ≡ Ok authority)
unfolding delegation_of
named_delegation set delegator name held at named = by_delegations (content_of held).delegations refl named
  where
    by_role : (d : Delegations) → (content_of held).delegations ≡ Some d → (o : Option DelegatedRole) → find (λ (r : DelegatedRole). bytes_eq r.name name) d.roles ≡ o → is_top_level name ≡ false → is_some o ≡ true
        → (authority : RoleAuthority) × (delegation_of set (by delegator name) ≡ Ok authority)
    by_role d there None is low some = cc
    by_role d there (Some r) is low some = (record { keys = d.keys; role = role_keys_in r }, rw (low, at, there, is) refl)

    by_delegations : (o : Option Delegations) → (content_of held).delegations ≡ o → IsNamed (delegated_in o) name → (authority : RoleAuthority) × (delegation_of set (by delegator name) ≡ Ok authority)
    by_delegations None is h = let never : false ≡ true = h.1 in cc
    by_delegations (Some d) is h = by_role d is (find (λ (r : DelegatedRole). bytes_eq r.name name) d.roles) refl h.0 h.1

-- a delegation stays where the delegator's document does
pub delegation_grows : (old new : InForce) (v : Visit) (authority : RoleAuthority) → Grows old new → delegation_of old v ≡ Ok authority → delegation_of new v ≡ Ok authority
unfolding delegation_of
delegation_grows old new v authority g h =
    let t = step_ok (not_top_level_of v.name) _ authority h in
    let d = step_ok (ok_or (at_name v.delegator old.targets) (tuf.UnknownRole v.delegator)) _ authority t.2 in
    let there = ok_some (at_name v.delegator old.targets) (tuf.UnknownRole v.delegator) d.0 d.1 in
    ap (λ o. not_top_level_of v.name >>= λ x. (ok_or o (tuf.UnknownRole v.delegator) >>= λ (delegator : Held Targets). (ok_or (content_of delegator).delegations (tuf.Malformed rule.NoDelegations) >>= λ ds. ok_or (authority_in v.name ds) (tuf.UnknownRole v.name))))
    (g.held v.delegator d.0 there ∙ sym there) ∙ h
