-- What a search leaves of the documents in force: more roles, and the rest as it was.
use Rattle.std.proofs.Common.{◌≡◌, ℕ, List, Bool, true, false, cond, Some, Result, Ok, Err, refl, sym, ap, ◌∙◌, subst}
use Rattle.std.specs.Prelude.{⊤, is_some}
use Rattle.std.specs.Ordering.{is_eq}
use Rattle.std.proofs.lemmas.Slice.Eq.{bytes_eq-Decides}
use Rattle.std.proofs.lemmas.Map.Text.{is_eq-slice_cmp}
use Rattle.sigstore_types_parts.specs.Entries.{at_name, text_cmp}
use Rattle.sigstore_tuf_text.specs.declared.error.Error.{Error}
use Rattle.sigstore_tuf_parts.specs.declared.snapshot.Snapshot.{Snapshot}
use Rattle.sigstore_tuf_parts.specs.declared.targets.Targets.{Targets}
use Rattle.sigstore_tuf_rules.specs.declared.documents.Held.{Held}
use Rattle.sigstore_tuf_rules.specs.declared.documents.InForce.{InForce}
use Rattle.sigstore_tuf_runs.specs.State.{Session, State}
use Rattle.sigstore_tuf_rules.specs.Taking.{top_targets}
use Rattle.sigstore_tuf_runs.specs.Adopt.{unfetched, absent, refused, kept, adopted}
use Rattle.sigstore_tuf_rules.specs.declared.visit.Visit.{Visit}
use Rattle.sigstore_tuf_rules.specs.declared.visit.Walk.{Walk}
use Rattle.sigstore_tuf_rules.specs.Delegated.{update_role_of, with_role}
use Rattle.sigstore_tuf_runs.specs.Search.{AdoptsRole, is_held, Readies, wanting, untouched, looked_at, had, Searches, ended, short, unready, gapped, visited, FindsVisits, unserved, searched}
use Rattle.sigstore_tuf_outside.proofs.Files.{at_insert}
use Rattle.sigstore_tuf_rules.proofs.Authorised.{Stays, stays_same, stays_joins}
use Rattle.sigstore_tuf_rules.proofs.RolePuts.{RolePut, role_put, role_stays, top_stays, taken_some}

pub record Grows (old new : InForce) : Type 0 where
  pub roots : new.roots ≡ old.roots
  pub root : new.root ≡ old.root
  pub timestamp : new.timestamp ≡ old.timestamp
  pub snapshot : new.snapshot ≡ old.snapshot
  pub top : top_targets new ≡ top_targets old
  pub held : (name : List ℕ) (h : Held Targets) → at_name name old.targets ≡ Some h → at_name name new.targets ≡ Some h

pub grows_stays : (a : InForce) → Grows a a
grows_stays a = record { roots = refl; root = refl; timestamp = refl; snapshot = refl; top = refl; held = λ name h is. is }

pub grows_same : (old new : InForce) → new ≡ old → Grows old new
grows_same old new e = subst (Grows old) (sym e) (grows_stays old)

pub grows_joins : {a b c : InForce} → Grows a b → Grows b c → Grows a c
grows_joins p q = record {
  roots = q.roots ∙ p.roots;
  root = q.root ∙ p.root;
  timestamp = q.timestamp ∙ p.timestamp;
  snapshot = q.snapshot ∙ p.snapshot;
  top = q.top ∙ p.top;
  held = λ name h is. q.held name h (p.held name h is);
}

-- a role more
at_other : (old : InForce) (name : List ℕ) (x : Held Targets) → is_held old name ≡ false → (q : List ℕ) (h : Held Targets) → at_name q old.targets ≡ Some h → at_name q (with_role old name x).targets ≡ Some h
at_other old name x none q h is = at_insert q name x old.targets ∙ by_test (is_eq (text_cmp q name)) refl
  where
    by_test : (b : Bool) → is_eq (text_cmp q name) ≡ b → cond b (Some x) (at_name q old.targets) ≡ Some h
    by_test true e =
        let same : q ≡ name = (bytes_eq-Decides q name).0 (sym (is_eq-slice_cmp q name) ∙ e) in
        let never : true ≡ false = sym (ap is_some is) ∙ ap (is_held old) same ∙ none in cc
    by_test false e = is

put_grows : (session : Session) (old : InForce) (v : Visit) (bytes : List ℕ) (new : InForce) → is_held old v.name ≡ false → RolePut session.crypto old v bytes new → Grows old new
put_grows session old v bytes new none p = subst (Grows old) (sym p.new_is) (record {
  roots = refl;
  root = refl;
  timestamp = refl;
  snapshot = refl;
  top = top_stays old v.name p.held p.other;
  held = at_other old v.name p.held none;
})

-- what holds where nothing changes, and where a role's document is put in force, holds of a visit that is made ready
module _ (session : Session) (v : Visit) (w : Walk) (P : InForce → InForce → Type 0) (stays : (a : InForce) → P a a)
    (puts : (old new : InForce) (bytes : List ℕ) → is_held old v.name ≡ false → update_role_of session.crypto old v bytes (Some session.now) ≡ Ok new → P old new) where
  same_lift : (old new : InForce) → new ≡ old → P old new
  same_lift old new e = subst (P old) (sym e) (stays old)

  adopts_lift : (old new : State) (answer : Result Bool Error) → is_held old.documents v.name ≡ false → AdoptsRole session v old new answer → P old.documents new.documents
  adopts_lift old new answer none (unfetched e f u r) = same_lift old.documents new.documents u.documents
  adopts_lift old new answer none (absent f u r) = same_lift old.documents new.documents u.documents
  adopts_lift old new answer none (refused bytes e f j u r) = same_lift old.documents new.documents u.documents
  adopts_lift old new answer none (kept bytes f j u r) = same_lift old.documents new.documents u.documents
  adopts_lift old new answer none (adopted bytes written f j k r) =
      puts old.documents new.documents bytes none (taken_some (update_role_of session.crypto old.documents v bytes (Some session.now)) new.documents j)

  pub ready_lift : (old new : State) (result : Result ⊤ Error) → Readies session v w old new result → P old.documents new.documents
  ready_lift old new result (wanting s r) = same_lift old.documents new.documents (ap (λ (x : State). x.documents) s)
  ready_lift old new result (untouched n s r) = same_lift old.documents new.documents (ap (λ (x : State). x.documents) s)
  ready_lift old new result (looked_at n h c) = same_lift old.documents new.documents (ap (λ (x : State). x.documents) c.same)
  ready_lift old new result (had answer n h a is) = adopts_lift old new answer h a

pub ready_grows : (session : Session) (v : Visit) (w : Walk) (old new : State) (result : Result ⊤ Error) → Readies session v w old new result → Grows old.documents new.documents
ready_grows session v w old new result r =
    ready_lift session v w Grows grows_stays
    (λ a b bytes none u. put_grows session a v bytes b none (role_put session.crypto a v bytes (Some session.now) b u)) old new result r

-- ---- the whole search

module _ (session : Session) (snapshot : Snapshot) (path : List ℕ) (P : InForce → InForce → Type 0) (stays : (a : InForce) → P a a)
    (joins : (a b c : InForce) → P a b → P b c → P a c)
    (readies : (v : Visit) (w : Walk) (old new : State) (result : Result ⊤ Error) → Readies session v w old new result → P old.documents new.documents) where
  pub searches_lift : {vs : List Visit} {w : Walk} {old new : State} {result : Result Walk Error} → Searches session snapshot path vs w old new result → P old.documents new.documents
  searches_lift (ended u state) = stays state.documents
  searches_lift (short us u state) = stays state.documents
  searches_lift (unready v us u old new e r) = readies v u old new (Err e) r
  searches_lift (gapped v us u old new e r g) = readies v u old new (Ok tt) r
  searches_lift (visited v us u step old mid new result r s more) = joins old.documents mid.documents new.documents (readies v u old mid (Ok tt) r) (searches_lift more)

module _ (session : Session) (path : List ℕ) (P : InForce → InForce → Type 0) (stays : (a : InForce) → P a a)
    (joins : (a b c : InForce) → P a b → P b c → P a c)
    (readies : (v : Visit) (w : Walk) (old new : State) (result : Result ⊤ Error) → Readies session v w old new result → P old.documents new.documents) where
  pub finds_lift : (old new : State) (result : Result (List Visit) Error) → FindsVisits session path old new result → P old.documents new.documents
  finds_lift old new result (unserved e h same is) = subst (λ (s : State). P old.documents s.documents) (sym same) (stays old.documents)
  finds_lift old new result (searched snapshot answer ok there s is) = searches_lift session _ path P stays joins readies s

pub search_grows : (session : Session) (snapshot : Snapshot) (path : List ℕ) (vs : List Visit) (w : Walk) (old new : State) (result : Result Walk Error) → Searches session snapshot path vs w old new result → Grows old.documents new.documents
search_grows session snapshot path vs w old new result s = searches_lift session snapshot path Grows grows_stays (λ a b c p q. grows_joins p q) (ready_grows session) s

pub finds_grows : (session : Session) (path : List ℕ) (old new : State) (result : Result (List Visit) Error) → FindsVisits session path old new result → Grows old.documents new.documents
finds_grows session path old new result f = finds_lift session path Grows grows_stays (λ a b c p q. grows_joins p q) (ready_grows session) old new result f

-- the documents stay authorised
pub finds_stays : (session : Session) (path : List ℕ) (old new : State) (result : Result (List Visit) Error) → FindsVisits session path old new result → Stays session.crypto old.documents new.documents
finds_stays session path old new result f =
    finds_lift session path (Stays session.crypto) (stays_same session.crypto) (stays_joins session.crypto)
    (λ v w a b r p. ready_lift session v w (Stays session.crypto) (stays_same session.crypto) (λ x y bytes none u. role_stays session.crypto x v bytes (Some session.now) y u) a b r p) old new result f
