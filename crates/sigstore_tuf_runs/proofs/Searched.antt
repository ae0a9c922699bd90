-- One visit of a search, as the code makes it.
use Rattle.std.proofs.Common.{◌≡◌, ◌≢◌, ℕ, zero, suc, arith, ◌==◌, ◌||◌, ◌&&◌, not, if◌then◌else◌, List, [], ◌∷◌, Bool, true, false, Option, Some, None, Result, Ok, Err, refl, sym, ap, ◌∙◌, subst}
use Rattle.std.proofs.lemmas.Bool.Decides.{nat_tests}
use Rattle.std.specs.Prelude.{⊤, option_map, option_and_then, is_some, ok_or, IfOk, IfErr}
use Rattle.foundation.specs.Steps.{◌>>=◌}
use Rattle.foundation.specs.Results.{some_same, step_ok}
use Rattle.jiff_core.specs.declared.timestamp.Timestamp as jiff
use Rattle.sigstore_types_parts.specs.Entries.{at_name}
use Rattle.sigstore_tuf_text.specs.declared.error.Error.{Error}
use Rattle.sigstore_tuf_parts.specs.declared.snapshot.Snapshot.{Snapshot}
use Rattle.sigstore_tuf_parts.specs.declared.targets.Targets.{Targets}
use Rattle.sigstore_tuf_parts.specs.declared.timestamp.Timestamp.{Timestamp}
use Rattle.sigstore_tuf_parts.specs.declared.timestamp.MetaFile.{MetaFile}
use Rattle.sigstore_tuf_text.specs.Names.{pin_name}
use Rattle.sigstore_tuf_rules.specs.Names.{role_pin_in}
use Rattle.sigstore_tuf_rules.specs.declared.documents.Held.{Held}
use Rattle.sigstore_tuf_rules.specs.declared.documents.InForce.{InForce}
use Rattle.sigstore_tuf_parts.specs.Threshold.{is_among}
use Rattle.sigstore_tuf_runs.specs.State.{Session, State}
use Rattle.sigstore_tuf_rules.specs.SearchServing.{unexpired_of, all_pinned_of, search_serves_of}
use Rattle.sigstore_tuf_rules.specs.Taking.{top_targets}
use Rattle.sigstore_tuf_runs.specs.Adopt.{unfetched, absent, refused, kept, adopted}
use Rattle.sigstore_tuf_rules.specs.Delegated.{update_role_of}
use Rattle.sigstore_tuf_rules.proofs.RolePuts.{role_put, taken_some}
use Rattle.sigstore_tuf_rules.specs.Documents.{content_of}
use Rattle.sigstore_tuf_rules.specs.declared.visit.Visit.{Visit}
use Rattle.sigstore_tuf_rules.specs.declared.visit.Walk.{Walk}
use Rattle.sigstore_tuf_rules.specs.Order.{Tree, missing, is_pinned, visited as one_more, still, having_read, read_of, read_named, visit_of, unread_of}
use Rattle.sigstore_tuf_runs.specs.Search.{tree_in, IsSnapshot, IsOpen, IsGap, gap_error, Advances, AdoptsRole, Readies, wanting, untouched, looked_at, had, Searches, ended, visited}

pub if_ok_map : {T E : Type 0} {P Q : T → Type 0} (r : Result T E) → ((x : T) → P x → Q x) → IfOk r P → IfOk r Q
if_ok_map (Ok x) f h = f x h
if_ok_map (Err e) f h = tt

pub if_err_map : {T E : Type 0} {P Q : E → Type 0} (r : Result T E) → ((e : E) → P e → Q e) → IfErr r P → IfErr r Q
if_err_map (Ok x) f h = tt
if_err_map (Err e) f h = f e h

-- the document of a name that is in force
pub named_is : (set : InForce) (snapshot : Snapshot) (path name : List ℕ) (held : Held Targets) (w w' : Walk) → at_name name set.targets ≡ Some held → w' ≡ having_read name w
    → read_named (tree_in set snapshot path) name w ≡ read_of (tree_in set snapshot path) (content_of held) w'
named_is set snapshot path name held w w' at same =
    ap (λ o. ok_or (option_map content_of o) (missing name) >>= λ doc. read_of (tree_in set snapshot path) doc (having_read name w)) at ∙ ap (read_of (tree_in set snapshot path) (content_of held)) (sym same)

pub none_named : (set : InForce) (snapshot : Snapshot) (path name : List ℕ) (w : Walk) → at_name name set.targets ≡ None → IsGap (read_named (tree_in set snapshot path) name w) (gap_error (missing name))
none_named set snapshot path name w at = (missing name, ap (λ o. ok_or (option_map content_of o) (missing name) >>= λ doc. read_of (tree_in set snapshot path) doc (having_read name w)) at, refl)

-- the pin of a role in the snapshot in force
pub pin_of : (o : Option (Held Snapshot)) (snapshot : Snapshot) (name : List ℕ) → option_map content_of o ≡ Some snapshot
    → option_and_then (λ (held : Held Snapshot). at_name (pin_name name) (content_of held).meta) o ≡ at_name (pin_name name) snapshot.meta
pin_of None snapshot name e = cc
pin_of (Some held) snapshot name e = ap (λ (s : Snapshot). at_name (pin_name name) s.meta) (some_same (content_of held) snapshot e)

-- a visit of a pinned role reads its document
pub visit_is : (set : InForce) (snapshot : Snapshot) (path : List ℕ) (v : Visit) (w : Walk) (pin : MetaFile) → IsSnapshot set snapshot → IsOpen v w → role_pin_in set v.name ≡ Some pin
    → visit_of (tree_in set snapshot path) v w ≡ read_named (tree_in set snapshot path) v.name (one_more v w)
visit_is set snapshot path v w pin at allowed pinned =
    let is : is_pinned snapshot v.name ≡ true = ap is_some (sym (pin_of set.snapshot snapshot v.name at) ∙ pinned) in
    rw (allowed.0, allowed.1, is) refl

-- ---- what is pending

-- no more visits, or a name that was read: the search goes on with the others
module _ (session : Session) (snapshot : Snapshot) (path : List ℕ) where
  still_there : (tree : Tree) (v : Visit) (w : Walk) → ((w.left == 0) || is_among w.read v.name) ≡ true → visit_of tree v w ≡ Ok (still w)
  still_there tree v w e = rw e refl

  not_both : (a b c : Bool) → (a || b) ≡ true → (not a && (not b && c)) ≡ false
  not_both true b c e = refl
  not_both false true c e = refl
  not_both false false c e = cc

  passed : (v : Visit) (vs : List Visit) (w : Walk) (old new : State) (result : Result Walk Error) → ((w.left == 0) || is_among w.read v.name) ≡ true → Searches session snapshot path vs w old new result
      → Searches session snapshot path (v ∷ vs) w old new result
  passed v vs w old new result e s =
      visited v vs w (still w) old old new result (untouched (not_both (w.left == 0) (is_among w.read v.name) (is_some (role_pin_in old.documents v.name)) e) refl refl)
      (still_there (tree_in old.documents snapshot path) v w e) s

  -- nothing is visited after the end
  pub drained : (vs : List Visit) (w : Walk) (state : State) → (w.left == 0) ≡ true → Searches session snapshot path vs w state state (Ok w)
  drained [] w state e = ended w state
  drained (v ∷ vs) w state e = passed v vs w state state (Ok w) (ap (λ b. b || is_among w.read v.name) e) (drained vs w state e)

  or_second : (a : Bool) → (a || true) ≡ true
  or_second true = refl
  or_second false = refl

  among : (v : Visit) (w : Walk) → is_among w.read v.name ≡ true → ((w.left == 0) || is_among w.read v.name) ≡ true
  among v w e = ap (λ b. (w.left == 0) || b) e ∙ or_second (w.left == 0)

  -- all were read
  pub all_read : (vs : List Visit) (w : Walk) (state : State) → unread_of w.read vs ≡ None → Searches session snapshot path vs w state state (Ok w)
  all_read [] w state e = ended w state
  all_read (v ∷ vs) w state e = by_test (is_among w.read v.name) refl e (λ h. all_read vs w state h)
    where
      by_test : (b : Bool) → is_among w.read v.name ≡ b → (if b then unread_of w.read vs else Some (v, vs)) ≡ None → (unread_of w.read vs ≡ None → Searches session snapshot path vs w state state (Ok w))
          → Searches session snapshot path (v ∷ vs) w state state (Ok w)
      by_test true b e f = passed v vs w state state (Ok w) (among v w b) (f e)
      by_test false b e f = cc

  -- those before the first that wasn't read are passed over
  pub skips : (vs : List Visit) (v : Visit) (rest : List Visit) (w : Walk) (old new : State) (result : Result Walk Error) → unread_of w.read vs ≡ Some (v, rest) → Searches session snapshot path (v ∷ rest) w old new result
      → Searches session snapshot path vs w old new result
  skips [] v rest w old new result e s = cc
  skips (u ∷ us) v rest w old new result e s = by_test (is_among w.read u.name) refl e (λ h. skips us v rest w old new result h s)
    where
      same : ◌≡◌ {A = Option (Visit × List Visit)} (Some (u, us)) (Some (v, rest)) → Searches session snapshot path (u ∷ us) w old new result
      same e = let is = some_same (u, us) (v, rest) e in subst (λ (x : Visit × List Visit). Searches session snapshot path (x.0 ∷ x.1) w old new result) (sym is) s

      by_test : (b : Bool) → is_among w.read u.name ≡ b → (if b then unread_of w.read us else Some (u, us)) ≡ Some (v, rest) → (unread_of w.read us ≡ Some (v, rest) → Searches session snapshot path us w old new result)
          → Searches session snapshot path (u ∷ us) w old new result
      by_test true b e f = passed u us w old new result (among u w b) (f e)
      by_test false b e f = same e

  -- a visit that was made, and the search that went on
  pub goes_on : (v : Visit) (vs : List Visit) (w w' : Walk) (vs' : List Visit) (old mid new : State) (result : Result Walk Error) → Readies session v w old mid (Ok tt) → Advances (tree_in mid.documents snapshot path) v vs w w' vs'
      → Searches session snapshot path vs' w' mid new result
      → Searches session snapshot path (v ∷ vs) w old new result
  goes_on v vs w w' vs' old mid new result r p s =
      visited v vs w p.0 old mid new result r p.1
      (subst (λ x. Searches session snapshot path x p.0.walk mid new result) p.3 (subst (λ x. Searches session snapshot path vs' x mid new result) p.2 s))

-- the first that wasn't read
pub is_unread : (read : List (List ℕ)) (vs : List Visit) (v : Visit) (rest : List Visit) → unread_of read vs ≡ Some (v, rest) → is_among read v.name ≡ false
is_unread read [] v rest e = cc
is_unread read (u ∷ us) v rest e = by_test (is_among read u.name) refl e (λ h. is_unread read us v rest h)
  where
    by_test : (b : Bool) → is_among read u.name ≡ b → (if b then unread_of read us else Some (u, us)) ≡ Some (v, rest) → (unread_of read us ≡ Some (v, rest) → is_among read v.name ≡ false) → is_among read v.name ≡ false
    by_test true b e f = f e
    by_test false b e f = let is = some_same (u, us) (v, rest) e in subst (λ (x : Visit × List Visit). is_among read x.0.name ≡ false) is b

-- ---- the snapshot stays

ready_snapshot : (session : Session) (v : Visit) (w : Walk) (old new : State) (result : Result ⊤ Error) → Readies session v w old new result → new.documents.snapshot ≡ old.documents.snapshot
ready_snapshot session v w old new result (wanting s r) = ap (λ (x : State). x.documents.snapshot) s
ready_snapshot session v w old new result (untouched n s r) = ap (λ (x : State). x.documents.snapshot) s
ready_snapshot session v w old new result (looked_at n h c) = ap (λ (x : State). x.documents.snapshot) c.same
ready_snapshot session v w old new result (had answer n h a is) = by_adoption answer a
  where
    by_adoption : (answer : Result Bool Error) → AdoptsRole session v old new answer → new.documents.snapshot ≡ old.documents.snapshot
    by_adoption answer (unfetched e f u r) = ap (λ (x : InForce). x.snapshot) u.documents
    by_adoption answer (absent f u r) = ap (λ (x : InForce). x.snapshot) u.documents
    by_adoption answer (refused bytes e f j u r) = ap (λ (x : InForce). x.snapshot) u.documents
    by_adoption answer (kept bytes f j u r) = ap (λ (x : InForce). x.snapshot) u.documents
    by_adoption answer (adopted bytes written f j w r) =
        let p = role_put session.crypto old.documents v bytes (Some session.now) new.documents (taken_some (update_role_of session.crypto old.documents v bytes (Some session.now)) new.documents j) in
        ap (λ (x : InForce). x.snapshot) p.new_is

pub snapshot_stays : (session : Session) (v : Visit) (w : Walk) (old new : State) (result : Result ⊤ Error) (snapshot : Snapshot) → Readies session v w old new result → IsSnapshot old.documents snapshot → IsSnapshot new.documents snapshot
snapshot_stays session v w old new result snapshot r at = ap (option_map (λ (h : Held Snapshot). content_of h)) (ready_snapshot session v w old new result r) ∙ at

pub none_left : (n : ℕ) → n ≡ 0 → (n == 0) ≡ true
none_left n e = ap (λ m. m == 0) e

pub some_left : (n : ℕ) → n ≢ 0 → (n == 0) ≡ false
some_left zero h = absurd (h refl)
some_left (suc n) h = grind (arith, nat_tests)

-- ---- the snapshot of a search

module _ (now : jiff.Timestamp) where
  all_there : (timestamp : Option (Held Timestamp)) (snapshot : Option (Held Snapshot)) (targets : Option (Held Targets)) → all_pinned_of timestamp snapshot targets now ≡ Ok tt → (held : Held Snapshot) × (snapshot ≡ Some held)
  all_there None snapshot targets e = cc
  all_there (Some timestamp) None targets e = cc
  all_there (Some timestamp) (Some snapshot) targets e = (snapshot, refl)

-- documents that serve a search have a snapshot
pub served_snapshot : (set : InForce) (now : jiff.Timestamp) → search_serves_of set now ≡ Ok tt → (held : Held Snapshot) × (set.snapshot ≡ Some held)
unfolding search_serves_of
served_snapshot set now e = let s = step_ok (unexpired_of set now) _ tt e in all_there now set.timestamp set.snapshot (top_targets set) s.2
