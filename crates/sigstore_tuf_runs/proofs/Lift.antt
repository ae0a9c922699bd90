-- What holds of each adoption and each seeding holds of a whole run, where it holds of one after the other.
use Rattle.std.proofs.Common.{◌≡◌, ◌≢◌, inl, inr, ℕ, zero, suc, ◌+◌, ◌-◌, ◌^◌, ◌==◌, if◌then◌else◌, List, [], ◌∷◌, Bool, true, false, Option, Some, None, Result, Ok, Err, refl, sym, ap, subst, arith}
use Rattle.std.specs.Prelude.{⊤}
use Rattle.std.proofs.lemmas.Bool.Decides.{nat_tests}
use Rattle.jiff_core.specs.declared.timestamp.Timestamp as jiff
use Rattle.foundation.specs.Results.{some_same}
use Rattle.sigstore_keys.specs.Crypto.{Crypto}
use Rattle.sigstore_tuf_text.specs.declared.error.Error.{Error}
use Rattle.sigstore_tuf_text.specs.declared.error.Error.TheVariants as tuf
use Rattle.sigstore_tuf_text.specs.declared.error.TransportFault.TheVariants as transport
use Rattle.sigstore_tuf_rules.specs.declared.documents.InForce.{InForce}
use Rattle.sigstore_tuf_rules.specs.declared.kind.Kind.{Kind}
use Rattle.sigstore_tuf_rules.specs.declared.kind.Kind.TheVariants.{Root, Timestamp, Snapshot, Targets}
use Rattle.sigstore_tuf_runs.specs.declared.step.Step.{Step}
use Rattle.sigstore_tuf_runs.specs.declared.step.Step.TheVariants.{WalkRoots, CheckRoot, Seed, Fetch, CheckTimestamp, CheckSnapshot}
use Rattle.sigstore_tuf_runs.specs.State.{Session, State}
use Rattle.sigstore_tuf_runs.specs.Adopt.{Adopts, Seeds}
use Rattle.sigstore_tuf_rules.specs.Serving.{version_in, root_serves_of, timestamp_serves_of, snapshot_serves_of}
use Rattle.sigstore_tuf_runs.specs.Run.{Turn, Loop, IsIdle, Stops, Repeats, next_root, alone, root_loop, WalksRoots, SavesRoot, Attaches, roots_unrecalled, roots_recalled, roots_left, Checks, said, Refetches, moment_of, Reseeds, Does, Runs}

-- a root is asked for by the next number
abbrev pub IsAsked : Kind → State → Type 0
IsAsked (Root number) old = (number ≡ version_in old.documents + 1) × (version_in old.documents ≢ 2 ^ 64 - 1)
IsAsked Timestamp old = ⊤
IsAsked Snapshot old = ⊤
IsAsked Targets old = ⊤

-- the steps of a refresh ask for no root but in the walk
abbrev pub NotRoot : Kind → Type 0
NotRoot (Root number) = ⊥
NotRoot Timestamp = ⊤
NotRoot Snapshot = ⊤
NotRoot Targets = ⊤

abbrev pub AsksNoRoot : Step → Type 0
AsksNoRoot (Seed k) = NotRoot k
AsksNoRoot (Fetch k) = NotRoot k
AsksNoRoot WalkRoots = ⊤
AsksNoRoot CheckRoot = ⊤
AsksNoRoot CheckTimestamp = ⊤
AsksNoRoot CheckSnapshot = ⊤

abbrev pub AskNoRoots : List Step → Type 0
AskNoRoots [] = ⊤
AskNoRoots (step ∷ steps) = AsksNoRoot step × AskNoRoots steps

pub asked_later : (k : Kind) (old : State) → NotRoot k → IsAsked k old
asked_later (Root number) old other = absurd other
asked_later Timestamp old other = tt
asked_later Snapshot old other = tt
asked_later Targets old other = tt

-- what the loops over roots ask for
pub next_root_is : (set : InForce) (k : Kind) (rest : ⊤) → alone (next_root set) ≡ Some (k, rest) → (k ≡ Root (version_in set + 1)) × (version_in set ≢ 2 ^ 64 - 1)
next_root_is set k rest h = by_test (version_in set == 2 ^ 64 - 1) refl h
  where
    by_test : (b : Bool) → (version_in set == 2 ^ 64 - 1) ≡ b → alone (if b then None else Some (version_in set + 1)) ≡ Some (k, rest)
        → (k ≡ Root (version_in set + 1)) × (version_in set ≢ 2 ^ 64 - 1)
    by_test true e h = cc
    by_test false e h = (sym (ap (λ (p : Kind × ⊤). p.0) (some_same _ _ h)), λ is. grind (arith, nat_tests))

pub root_asks : (limit : Result ⊤ Error) (work : ⊤) (state : State) (k : Kind) (rest : ⊤) → (root_loop limit).next work state.documents ≡ Some (k, rest) → IsAsked k state
root_asks limit work state k rest h = let is = next_root_is state.documents k rest h in subst (λ k. IsAsked k state) (sym is.0) (refl, is.1)

module _ (P : State → State → Result ⊤ Error → Type 0) (joins : (a b c : State) (result : Result ⊤ Error) → P a b (Ok tt) → P b c result → P a c result) (stays : (a : State) → P a a (Ok tt)) where
  pub same_state : (old new : State) (result : Result ⊤ Error) → new ≡ old → P old old result → P old new result
  same_state old new result e p = subst (λ new. P old new result) (sym e) p

  pub same_result : (old new : State) (result said : Result ⊤ Error) → result ≡ said → P old new said → P old new result
  same_result old new result said e p = subst (P old new) (sym e) p

  idle_lift : {W : Type 0} (loop : Loop W) (work : W) (old new : State) (result : Result ⊤ Error) → IsIdle loop work old new result → P old new result
  idle_lift loop work old new result (none, same, is) = same_state old new result same (same_result old old result (Ok tt) is (stays old))

  -- what holds of each turn that is asked for holds of a loop
  module _ (turn : Turn) (turns : (k : Kind) (old new : State) (answer : Result Bool Error) → IsAsked k old → turn k old new answer → P old new (said answer)) where
    stops_lift : (k : Kind) (old new : State) (result : Result ⊤ Error) → IsAsked k old → Stops turn k old new result → P old new result
    stops_lift k old new (Ok x) asked a = turns k old new (Ok false) asked a
    stops_lift k old new (Err e) asked a = turns k old new (Err e) asked a

    pub roots_lift : (limit : Result ⊤ Error) → ((a : State) → P a a limit) → (n : ℕ) (old new : State) (result : Result ⊤ Error) → Repeats turn (root_loop limit) n tt old new result → P old new result
    roots_lift limit limited zero old new result (inl i) = idle_lift (root_loop limit) tt old new result i
    roots_lift limit limited zero old new result (inr (k, (rest, next, same, is))) = same_state old new result same (same_result old old result limit is (limited old))
    roots_lift limit limited (suc n) old new result (inl i) = idle_lift (root_loop limit) tt old new result i
    roots_lift limit limited (suc n) old new result (inr (k, (rest, next, inl s))) = stops_lift k old new result (root_asks limit tt old k rest next) s
    roots_lift limit limited (suc n) old new result (inr (k, (rest, next, inr (mid, a, r)))) =
        joins old mid new result (turns k old mid (Ok true) (root_asks limit tt old k rest next) a) (roots_lift limit limited n mid new result r)

  -- what holds of the store's roots and of the write of the root in force holds of a store that is handed in
  pub attach_lift : (crypto : Crypto)
      (seeds : (k : Kind) (old new : State) (answer : Result Bool Error) → IsAsked k old → Seeds crypto k None old new answer → P old new (said answer))
      (saves : (old new : State) (result : Result ⊤ Error) → SavesRoot old new result → P old new result)
      (old new : State) (result : Result ⊤ Error) → Attaches crypto old new result → P old new result
  attach_lift crypto seeds saves old new result (roots_unrecalled e r is) =
      same_result old new result (Err e) is (roots_lift (λ k. Seeds crypto k None) seeds (Ok tt) stays (roots_left old.documents) old new (Err e) r)
  attach_lift crypto seeds saves old new result (roots_recalled mid r s) =
      joins old mid new result (roots_lift (λ k. Seeds crypto k None) seeds (Ok tt) stays (roots_left old.documents) old mid (Ok tt) r) (saves mid new result s)

  -- what holds of each adoption, seeding and look holds of a run of steps
  module _ (session : Session)
      (adopts : (k : Kind) (old new : State) (answer : Result Bool Error) → IsAsked k old → Adopts session k old new answer → P old new (said answer))
      (seeds : (k : Kind) (now : Option jiff.Timestamp) (old new : State) (answer : Result Bool Error) → IsAsked k old → Seeds session.crypto k now old new answer → P old new (said answer))
      (refuses : (a : State) (e : Error) → P a a (Err e)) where
    checks_lift : (test : InForce → Result ⊤ Error) (old new : State) (result : Result ⊤ Error) → Checks test old new result → P old new result
    checks_lift test old new (Ok x) c = same_state old new (Ok x) c.same (stays old)
    checks_lift test old new (Err e) c = same_state old new (Err e) c.same (refuses old e)

    pub walks_lift : (old new : State) (result : Result ⊤ Error) → WalksRoots session session.config.max_root_rotations old new result → P old new result
    walks_lift old new result w =
        roots_lift (Adopts session) adopts (Err (tuf.Transport (transport.Rotations session.config.max_root_rotations))) (λ a. refuses a _) session.config.max_root_rotations old new result w

    pub refetches_lift : (k : Kind) (old new : State) (result : Result ⊤ Error) → IsAsked k old → Refetches session k old new result → P old new result
    refetches_lift k old new result asked (inl (current, same, is)) = same_state old new result same (same_result old old result (Ok tt) is (stays old))
    refetches_lift k old new result asked (inr (other, (answer, a, is))) = same_result old new result (said answer) is (adopts k old new answer asked a)

    pub reseeds_lift : (k : Kind) (old new : State) (result : Result ⊤ Error) → IsAsked k old → Reseeds session k old new result → P old new result
    reseeds_lift k old new result asked (inl (there, same, is)) = same_state old new result same (same_result old old result (Ok tt) is (stays old))
    reseeds_lift k old new result asked (inr (none, (answer, s, is))) = same_result old new result (said answer) is (seeds k (moment_of k session.now) old new answer asked s)

    pub does_lift : (step : Step) (old new : State) (result : Result ⊤ Error) → AsksNoRoot step → Does session step old new result → P old new result
    does_lift WalkRoots old new result asks d = walks_lift old new result d
    does_lift CheckRoot old new result asks d = checks_lift (λ set. root_serves_of set session.now) old new result d
    does_lift (Seed k) old new result asks d = reseeds_lift k old new result (asked_later k old asks) d
    does_lift (Fetch k) old new result asks d = refetches_lift k old new result (asked_later k old asks) d
    does_lift CheckTimestamp old new result asks d = checks_lift (λ set. timestamp_serves_of set session.now) old new result d
    does_lift CheckSnapshot old new result asks d = checks_lift (λ set. snapshot_serves_of set session.now) old new result d

    pub runs_lift : (steps : List Step) (old new : State) (result : Result ⊤ Error) → AskNoRoots steps → Runs session steps old new result → P old new result
    runs_lift [] old new result asks (same, is) = same_state old new result same (same_result old old result (Ok tt) is (stays old))
    runs_lift (step ∷ steps) old new result asks (inl (e, d, is)) = same_result old new result (Err e) is (does_lift step old new (Err e) asks.0 d)
    runs_lift (step ∷ steps) old new result asks (inr (mid, d, r)) = joins old mid new result (does_lift step old mid (Ok tt) asks.0 d) (runs_lift steps mid new result asks.1 r)
