-- Up to the end of a refresh from a first root no document of a delegated role is in force.
use Rattle.std.proofs.Common.{◌≡◌, ◌⊎◌, inl, inr, List, Bool, Option, Some, None, Result, Ok, codes, sym, subst}
use Rattle.std.specs.Prelude.{⊤, ℕ}
use Rattle.jiff_core.specs.declared.timestamp.Timestamp as jiff
use Rattle.foundation.specs.Results.{step_ok, ok_same}
use Rattle.sigstore_types_parts.specs.Entries.{at_name}
use Rattle.sigstore_keys.specs.Crypto.{Crypto}
use Rattle.sigstore_tuf_text.specs.declared.error.Error.{Error}
use Rattle.sigstore_tuf_parts.specs.Document.{content_in}
use Rattle.sigstore_tuf_parts.specs.RootRoles.{root_document, meets_role_of}
use Rattle.sigstore_tuf_parts.specs.declared.targets.Targets as declared
use Rattle.sigstore_tuf_rules.specs.declared.documents.Held.{Held}
use Rattle.sigstore_tuf_rules.specs.declared.documents.InForce.{InForce}
use Rattle.sigstore_tuf_rules.specs.declared.kind.Kind.{Kind}
use Rattle.sigstore_tuf_rules.specs.declared.kind.Kind.TheVariants.{Root, Timestamp, Snapshot, Targets}
use Rattle.sigstore_tuf_runs.specs.State.{Session, State}
use Rattle.sigstore_tuf_rules.specs.Update.{first_root_of}
use Rattle.sigstore_tuf_runs.specs.Adopt.{Adopts, unfetched, absent, refused, kept, adopted, Seeds, unloaded, unkept, unseeded, equal, seeded}
use Rattle.sigstore_tuf_runs.specs.Run.{said, Attaches, refresh_steps, RunsSteps}
use Rattle.sigstore_tuf_outside.proofs.Files.{inserted}
use Rattle.sigstore_tuf_rules.proofs.Updates.{Puts, judged_puts}
use Rattle.sigstore_tuf_runs.proofs.Lift.{IsAsked, attach_lift, runs_lift}
use Rattle.sigstore_verify.specs.Cause.{OnlyTop}

pub first_root_only : (crypto : Crypto) (bytes : List ℕ) (set : InForce) → first_root_of crypto bytes ≡ Ok set → OnlyTop set
unfolding first_root_of
first_root_only crypto bytes set h =
    let a = step_ok (root_document bytes) _ set h in
    let b = step_ok (meets_role_of crypto (content_in a.0) (codes "root") a.0) _ set a.2 in
    subst OnlyTop (ok_same _ set b.2) (λ name held h. cc)

-- what keeps it so
abbrev Keeps : InForce → InForce → Type 0
Keeps old new = OnlyTop old → OnlyTop new

same : (old new : InForce) → new ≡ old → Keeps old new
same old new e only = subst OnlyTop (sym e) only

puts_only : (crypto : Crypto) (k : Kind) (now : Option jiff.Timestamp) (old new : InForce) (bytes : List ℕ) → Puts crypto old bytes k now new → Keeps old new
puts_only crypto (Root number) now old new bytes p only = subst OnlyTop (sym p.new_is) (λ name held h. cc)
puts_only crypto Timestamp now old new bytes p only = subst OnlyTop (sym p.new_is) only
puts_only crypto Snapshot now old new bytes p only = subst OnlyTop (sym p.new_is) (λ name held h. cc)
puts_only crypto Targets now old new bytes p only = subst OnlyTop (sym p.new_is) (λ name held h. by_place name held (inserted name (codes "targets") p.held held old.targets h))
  where
    by_place : (name : List ℕ) (held : Held declared.Targets) → ((name ≡ codes "targets") × (held ≡ p.held)) ⊎ (at_name name old.targets ≡ Some held) → name ≡ codes "targets"
    by_place name held (inl is) = is.0
    by_place name held (inr there) = only name held there

abbrev P : State → State → Result ⊤ Error → Type 0
P old new result = Keeps old.documents new.documents

joins : (a b c : State) (result : Result ⊤ Error) → P a b (Ok tt) → P b c result → P a c result
joins a b c result p q only = q (p only)

stays : (a : State) → P a a (Ok tt)
stays a only = only

seeds : (crypto : Crypto) (k : Kind) (now : Option jiff.Timestamp) (old new : State) (answer : Result Bool Error) → IsAsked k old → Seeds crypto k now old new answer → P old new (said answer)
seeds crypto k now old new answer asked (unloaded e l u r) = same _ _ u.documents
seeds crypto k now old new answer asked (unkept l u r) = same _ _ u.documents
seeds crypto k now old new answer asked (unseeded bytes e l j u r) = same _ _ u.documents
seeds crypto k now old new answer asked (equal bytes l j u r) = same _ _ u.documents
seeds crypto k now old new answer asked (seeded bytes l j s r) = puts_only crypto k now _ _ bytes (judged_puts crypto old.documents bytes k now new.documents j)

adopts : (session : Session) (k : Kind) (old new : State) (answer : Result Bool Error) → IsAsked k old → Adopts session k old new answer → P old new (said answer)
adopts session k old new answer asked (unfetched e f u r) = same _ _ u.documents
adopts session k old new answer asked (absent f u r) = same _ _ u.documents
adopts session k old new answer asked (refused bytes e f j u r) = same _ _ u.documents
adopts session k old new answer asked (kept bytes f j u r) = same _ _ u.documents
adopts session k old new answer asked (adopted bytes written f j w r) =
    puts_only session.crypto k (Some session.now) _ _ bytes (judged_puts session.crypto old.documents bytes k (Some session.now) new.documents j)

pub attach_only : (crypto : Crypto) (old new : State) (result : Result ⊤ Error) → Attaches crypto old new result → OnlyTop old.documents → OnlyTop new.documents
attach_only crypto old new result a =
    attach_lift P joins stays crypto (λ k old new answer asked s. seeds crypto k None old new answer asked s) (λ old new result s. same _ _ s.documents) old new result a

pub refresh_only : (session : Session) (old new : State) (result : Result ⊤ Error) → RunsSteps session refresh_steps old new result → OnlyTop old.documents → OnlyTop new.documents
refresh_only session old new result r =
    runs_lift P joins stays session (adopts session) (seeds session.crypto) (λ a e only. only) refresh_steps old new result
    (tt, (tt, (tt, (tt, (tt, (tt, (tt, (tt, (tt, (tt, tt)))))))))) r.runs
