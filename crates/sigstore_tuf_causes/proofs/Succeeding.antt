-- A store carries the floor from one client to the next.
use Rattle.std.proofs.Common.{◌≡◌, inl, ℕ, ◌<◌, ◌≤◌, ◌==◌, List, [], ◌∷◌, Bool, true, false, Option, Some, None, refl, sym, ap, ◌∙◌, subst, arith, le_trans}
use Rattle.std.specs.Prelude.{⊤, option_map, IfSome}
use Rattle.std.specs.List.{AllByRecursion}
use Rattle.std.proofs.lemmas.Bool.Decides.{nat_tests}
use Rattle.foundation.specs.Results.{some_same}
use Rattle.foundation.specs.Watched.{IfTold}
use Rattle.sigstore_keys.specs.Crypto.{Crypto}
use Rattle.sigstore_tuf_parts.specs.declared.root.Root as declared_root
use Rattle.sigstore_tuf_parts.specs.declared.timestamp.Timestamp as declared_timestamp
use Rattle.sigstore_tuf_parts.specs.Document.{Document, content_in}
use Rattle.sigstore_tuf_text.specs.Names.{timestamp_name}
use Rattle.sigstore_tuf_outside.specs.Repository.{Files}
use Rattle.sigstore_tuf_rules.specs.declared.documents.Held.{Held}
use Rattle.sigstore_tuf_rules.specs.Documents.{content_of}
use Rattle.sigstore_tuf_rules.specs.Floor.{floor_of, NoLower}
use Rattle.sigstore_tuf_rules.specs.Serving.{version_in}
use Rattle.sigstore_tuf_runs.specs.State.{State}
use Rattle.sigstore_tuf_runs.specs.Carried.{IsTimestamp, HasItsVersion, HoldsTimestamp, timestamp_file}
use Rattle.sigstore_tuf_causes.specs.Succession.{IsCall, AreCalls, end_of, IsUnder, Succeeds, StoreCarriesFloor}
use Rattle.sigstore_tuf_causes.proofs.FloorCarried.{none_holds, file_there}
use Rattle.sigstore_tuf_causes.proofs.Keeping.{all_map}

-- what the earlier client trusts at its end is in the store
calls_hold : (crypto : Crypto) (first : State) (calls : List State) → AreCalls crypto first calls → HoldsTimestamp crypto first → HoldsTimestamp crypto (end_of first calls)
calls_hold crypto first [] c h = h
calls_hold crypto first (next ∷ later) c h = calls_hold crypto next later c.1 (c.0.carries.kept c.0.undisturbed h)

-- no timestamp is trusted, and the store has the earlier one's; or one is trusted that isn't below it; or a later root is in force
data Stands (root : Document declared_root.Root) (file : Option (List ℕ)) (low : ℕ) (state : State) : Type 0 where
  before : state.documents.timestamp ≡ None → timestamp_file state.store ≡ Some file → Stands root file low state
  trusting : (held : Held declared_timestamp.Timestamp) → state.documents.timestamp ≡ Some held → state.documents.root ≡ root → low ≤ (content_of held).version → Stands root file low state
  beyond : (content_in root).version < version_in state.documents → Stands root file low state

module _ (crypto : Crypto) (root : Document declared_root.Root) (files : Files) (doc : Document declared_timestamp.Timestamp) (stored : IsTimestamp crypto (content_in root) (files timestamp_name) doc) where
  abbrev floor : ℕ
  floor = (content_in doc).version

  abbrev StandsSo : State → Type 0
  StandsSo state = Stands root (files timestamp_name) floor state

  abbrev AtLeast : State → Type 0
  AtLeast state = IfSome state.documents.timestamp (λ held. floor ≤ (content_of held).version)

  numbered : (state : State) → state.documents.root ≡ root → version_in state.documents ≡ (content_in root).version
  numbered state e = ap (λ (d : Document declared_root.Root). (content_in d).version) e

  at_least : (state : State) → IsUnder root state → StandsSo state → AtLeast state
  at_least state under (before none file) = subst (λ (t : Option (Held declared_timestamp.Timestamp)). IfSome t (λ held. floor ≤ (content_of held).version)) (sym none) tt
  at_least state under (trusting held there at le) = subst (λ (t : Option (Held declared_timestamp.Timestamp)). IfSome t (λ held. floor ≤ (content_of held).version)) (sym there) le
  at_least state under (beyond higher) = by_timestamp state.documents.timestamp under
    where
      never : (m n : ℕ) → n ≡ m → m < n → ⊥
      never m n e h = omega (arith, e, h)

      by_timestamp : (t : Option (Held declared_timestamp.Timestamp)) → IfSome t (λ held. state.documents.root ≡ root) → IfSome t (λ held. floor ≤ (content_of held).version)
      by_timestamp None u = tt
      by_timestamp (Some held) u = absurd (never (content_in root).version (version_in state.documents) (numbered state u) higher)

  not_lower : (low high : ℕ) → NoLower (Some low) (Some high) → low ≤ high
  not_lower low high h = subst (λ n. low ≤ n) (sym (some_same high h.0 h.1)) h.2

  call_stands : (old new : State) → IsCall crypto old new → IsUnder root new → StandsSo old → StandsSo new
  call_stands old new c under (beyond higher) = beyond (omega (arith, higher, c.carries.floor.0))
  call_stands old new c under (before none file) = by_timestamp new.documents.timestamp refl under
    where
      at : (files' : Files) × (old.store.told ≡ Some files') × (files' timestamp_name ≡ files timestamp_name)
      at = file_there old.store.told (files timestamp_name) file

      resumed : (held : Held declared_timestamp.Timestamp) → new.documents.timestamp ≡ Some held → new.documents.root ≡ root → floor ≤ (content_of held).version
      resumed held there same =
          let below = subst (λ told. IfTold told (λ files. (d : Document declared_timestamp.Timestamp) → IsTimestamp crypto (content_in new.documents.root) (files timestamp_name) d → IfSome new.documents.timestamp (λ h. (content_in d).version ≤ (content_of h).version))) at.1
          (c.carries.resumed c.undisturbed (inl none)) in
          let is : IsTimestamp crypto (content_in new.documents.root) (at.0 timestamp_name) doc =
          subst (λ (f : Option (List ℕ)). IsTimestamp crypto (content_in new.documents.root) f doc) (sym at.2) (subst (λ (d : Document declared_root.Root). IsTimestamp crypto (content_in d) (files timestamp_name) doc) (sym same) stored) in
          subst (λ (t : Option (Held declared_timestamp.Timestamp)). IfSome t (λ h. floor ≤ (content_of h).version)) there (below doc is)

      by_timestamp : (t : Option (Held declared_timestamp.Timestamp)) → new.documents.timestamp ≡ t → IfSome t (λ held. new.documents.root ≡ root) → StandsSo new
      by_timestamp None e u = before e (c.carries.left e ∙ file)
      by_timestamp (Some held) e u = trusting held e u (resumed held e u)
  call_stands old new c under (trusting held there at le) = by_timestamp new.documents.timestamp refl under
    where
      kept : version_in old.documents ≡ version_in new.documents → NoLower (Some (content_of held).version) (floor_of new.documents).timestamp
      kept same =
          subst (λ (t : Option (Held declared_timestamp.Timestamp)). NoLower (option_map (λ (h : Held declared_timestamp.Timestamp). (content_of h).version) t) (floor_of new.documents).timestamp) there (c.carries.floor.1 same).timestamp

      rises : version_in old.documents < version_in new.documents → StandsSo new
      rises h = beyond (subst (λ n. n < version_in new.documents) (numbered old at) h)

      without : (t : Option (Held declared_timestamp.Timestamp)) → t ≡ None → NoLower (Some (content_of held).version) (option_map (λ (h : Held declared_timestamp.Timestamp). (content_of h).version) t) → ⊥
      without t e h = let never : None ≡ Some h.0 = sym (ap (option_map (λ (h : Held declared_timestamp.Timestamp). (content_of h).version)) e) ∙ h.1 in cc

      higher : (m n : ℕ) → m ≤ n → (m ≡ n → ⊥) → m < n
      higher m n le other = by_test (m == n) refl
        where
          same : (m == n) ≡ true → m ≡ n
          same e = grind (arith, nat_tests)

          by_test : (b : Bool) → (m == n) ≡ b → m < n
          by_test true e = absurd (other (same e))
          by_test false e = grind (arith, nat_tests)

      by_timestamp : (t : Option (Held declared_timestamp.Timestamp)) → new.documents.timestamp ≡ t → IfSome t (λ held. new.documents.root ≡ root) → StandsSo new
      by_timestamp None e u = rises (higher (version_in old.documents) (version_in new.documents) c.carries.floor.0 (λ same. without new.documents.timestamp e (kept same)))
      by_timestamp (Some next) e u =
          let same : version_in old.documents ≡ version_in new.documents = numbered old at ∙ sym (numbered new u) in
          trusting next e u (le_trans le (not_lower (content_of held).version (content_of next).version
          (subst (λ (t : Option (Held declared_timestamp.Timestamp)). NoLower (Some (content_of held).version) (option_map (λ (h : Held declared_timestamp.Timestamp). (content_of h).version) t)) e (kept same))))

  calls_stand : (first : State) (calls : List State) → AreCalls crypto first calls → AllByRecursion (IsUnder root) calls → StandsSo first → AllByRecursion AtLeast calls
  calls_stand first [] c u s = tt
  calls_stand first (next ∷ later) c u s = let t = call_stands first next c.0 u.0 s in (at_least next u.0 t, calls_stand next later c.1 u.1 t)

module _ (crypto : Crypto) (first : State) (earlier : List State) (begin : State) (later : List State) (s : Succeeds crypto first earlier begin later) where
  abbrev last : State
  last = end_of first earlier

  abbrev Trusts : Option (Held declared_timestamp.Timestamp) → Type 0
  Trusts t = IfSome t (HasItsVersion crypto (content_in last.documents.root) (s.files timestamp_name))

  held_at_end : Trusts last.documents.timestamp
  held_at_end = subst (λ told. IfTold told (λ files. IfSome last.documents.timestamp (HasItsVersion crypto (content_in last.documents.root) (files timestamp_name)))) s.told
      (calls_hold crypto first earlier s.earlier_calls (none_holds crypto first s.first_trusts_none))

  -- no lower version than the one at the end, or there is none at the end
  module _ (t : Option (Held declared_timestamp.Timestamp)) where
    abbrev NotBelow : State → Type 0
    NotBelow state = IfSome state.documents.timestamp (λ held. NoLower (option_map (λ (h : Held declared_timestamp.Timestamp). (content_of h).version) t) (Some (content_of held).version))

  each_none : (state : State) → NotBelow None state
  each_none state = by_timestamp state.documents.timestamp
    where
      by_timestamp : (t : Option (Held declared_timestamp.Timestamp)) → IfSome t (λ held. ⊤)
      by_timestamp None = tt
      by_timestamp (Some held) = tt

  all_none : (states : List State) → AllByRecursion (NotBelow None) states
  all_none [] = tt
  all_none (x ∷ xs) = (each_none x, all_none xs)

  each_above : (held : Held declared_timestamp.Timestamp) (low : ℕ) → low ≡ (content_of held).version → (state : State) → IfSome state.documents.timestamp (λ h. low ≤ (content_of h).version) → NotBelow (Some held) state
  each_above held low same state h = by_timestamp state.documents.timestamp h
    where
      by_timestamp : (t : Option (Held declared_timestamp.Timestamp)) → IfSome t (λ h. low ≤ (content_of h).version) → IfSome t (λ h. NoLower (Some (content_of held).version) (Some (content_of h).version))
      by_timestamp None h = tt
      by_timestamp (Some x) h = ((content_of x).version, refl, subst (λ n. n ≤ (content_of x).version) same h)

  carried : (t : Option (Held declared_timestamp.Timestamp)) → Trusts t → AllByRecursion (NotBelow t) later
  carried None h = all_none later
  carried (Some held) h =
      all_map (λ (state : State). IfSome state.documents.timestamp (λ x. (content_in h.doc).version ≤ (content_of x).version)) (NotBelow (Some held)) later (each_above held (content_in h.doc).version h.version_is)
      (calls_stand crypto last.documents.root s.files h.doc h.is begin later s.later_calls s.same_root (before s.begin_trusts_none (ap (option_map (λ (files : Files). files timestamp_name)) s.handed_on)))

pub store_carries_floor : StoreCarriesFloor
store_carries_floor crypto first earlier begin later s = carried crypto first earlier begin later s (end_of first earlier).documents.timestamp (held_at_end crypto first earlier begin later s)
