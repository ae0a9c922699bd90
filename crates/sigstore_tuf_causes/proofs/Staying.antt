-- The documents in force stay authorised in a whole call.
use Rattle.std.proofs.Common.{List, Bool, Option, Some, None, Result, Ok}
use Rattle.std.specs.Prelude.{⊤}
use Rattle.jiff_core.specs.declared.timestamp.Timestamp as jiff
use Rattle.sigstore_keys.specs.Crypto.{Crypto}
use Rattle.sigstore_tuf_text.specs.declared.error.Error.{Error}
use Rattle.sigstore_tuf_rules.specs.declared.kind.Kind.{Kind}
use Rattle.sigstore_tuf_runs.specs.State.{Session, State}
use Rattle.sigstore_tuf_runs.specs.Adopt.{Adopts, unfetched, absent, refused, kept, adopted, Seeds, unloaded, unkept, unseeded, equal, seeded}
use Rattle.sigstore_tuf_runs.specs.Run.{said, SavesRoot, Attaches, Does, Runs, refresh_steps, RunsSteps}
use Rattle.sigstore_tuf_runs.specs.declared.step.Step.{Step}
use Rattle.sigstore_tuf_runs.proofs.Lift.{IsAsked, AsksNoRoot, AskNoRoots, attach_lift, does_lift, runs_lift}
use Rattle.sigstore_tuf_rules.proofs.Authorised.{Stays, stays_same, stays_joins, judged_stays, same}

module _ (crypto : Crypto) where
  abbrev P : State → State → Result ⊤ Error → Type 0
  P old new result = Stays crypto old.documents new.documents

  joins : (a b c : State) (result : Result ⊤ Error) → P a b (Ok tt) → P b c result → P a c result
  joins a b c result p q = stays_joins crypto a.documents b.documents c.documents p q

  seeds : (k : Kind) (now : Option jiff.Timestamp) (old new : State) (answer : Result Bool Error) → IsAsked k old → Seeds crypto k now old new answer → P old new (said answer)
  seeds k now old new answer asked (unloaded e l u r) = same crypto _ _ u.documents
  seeds k now old new answer asked (unkept l u r) = same crypto _ _ u.documents
  seeds k now old new answer asked (unseeded bytes e l j u r) = same crypto _ _ u.documents
  seeds k now old new answer asked (equal bytes l j u r) = same crypto _ _ u.documents
  seeds k now old new answer asked (seeded bytes l j s r) = judged_stays crypto k now _ _ bytes j

  saves : (old new : State) (result : Result ⊤ Error) → SavesRoot old new result → P old new result
  saves old new result s = same crypto _ _ s.documents

  stays : (a : State) → P a a (Ok tt)
  stays a = stays_same crypto a.documents

  pub attach_stays : (old new : State) (result : Result ⊤ Error) → Attaches crypto old new result → Stays crypto old.documents new.documents
  attach_stays old new result a = attach_lift P joins stays crypto (λ k old new answer asked s. seeds k None old new answer asked s) saves old new result a

module _ (session : Session) where
  adopts : (k : Kind) (old new : State) (answer : Result Bool Error) → IsAsked k old → Adopts session k old new answer → Stays session.crypto old.documents new.documents
  adopts k old new answer asked (unfetched e f u r) = same session.crypto _ _ u.documents
  adopts k old new answer asked (absent f u r) = same session.crypto _ _ u.documents
  adopts k old new answer asked (refused bytes e f j u r) = same session.crypto _ _ u.documents
  adopts k old new answer asked (kept bytes f j u r) = same session.crypto _ _ u.documents
  adopts k old new answer asked (adopted bytes written f j w r) = judged_stays session.crypto k (Some session.now) _ _ bytes j

  pub does_stays : (step : Step) (old new : State) (result : Result ⊤ Error) → AsksNoRoot step → Does session step old new result → Stays session.crypto old.documents new.documents
  does_stays step old new result asks d =
      does_lift (P session.crypto) (joins session.crypto) (stays session.crypto) session adopts (seeds session.crypto) (λ a e. stays_same session.crypto a.documents) step old new result asks d

  pub runs_stay : (steps : List Step) (old new : State) (result : Result ⊤ Error) → AskNoRoots steps → Runs session steps old new result → Stays session.crypto old.documents new.documents
  runs_stay steps old new result asks r =
      runs_lift (P session.crypto) (joins session.crypto) (stays session.crypto) session adopts (seeds session.crypto) (λ a e. stays_same session.crypto a.documents) steps old new result asks r

  pub refresh_stays : (old new : State) (result : Result ⊤ Error) → RunsSteps session refresh_steps old new result → Stays session.crypto old.documents new.documents
  refresh_stays old new result r = runs_stay refresh_steps old new result (tt, (tt, (tt, (tt, (tt, (tt, (tt, (tt, (tt, (tt, tt)))))))))) r.runs
