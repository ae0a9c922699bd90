-- The calls keep the documents authorised.
use Rattle.std.proofs.Common.{Result, subst, sym}
use Rattle.std.specs.Prelude.{⊤}
use Rattle.sigstore_keys.specs.Crypto.{Crypto}
use Rattle.sigstore_tuf_text.specs.declared.error.Error.{Error}
use Rattle.sigstore_tuf_rules.specs.declared.documents.InForce.{InForce}
use Rattle.sigstore_tuf_runs.specs.State.{Session, State}
use Rattle.sigstore_tuf_runs.specs.Run.{Attaches, refresh_steps, RunsSteps}
use Rattle.sigstore_tuf_rules.specs.Authorised.{AreAuthorised, given_in}
use Rattle.sigstore_tuf_rules.proofs.Authorised.{Stays}
use Rattle.sigstore_tuf_causes.proofs.Staying.{attach_stays, refresh_stays}

pub stays_whole : (crypto : Crypto) (old new : InForce) → Stays crypto old new → AreAuthorised crypto (given_in old) old → AreAuthorised crypto (given_in new) new
stays_whole crypto old new s k = let at = s.authorised k in subst (λ g. AreAuthorised crypto g new) (sym at.1) at.0

pub attach_authorised : (crypto : Crypto) (old new : State) (result : Result ⊤ Error) → Attaches crypto old new result → AreAuthorised crypto (given_in old.documents) old.documents
    → AreAuthorised crypto (given_in new.documents) new.documents
attach_authorised crypto old new result a k = stays_whole crypto old.documents new.documents (attach_stays crypto old new result a) k

pub refresh_authorised : (session : Session) (old new : State) (result : Result ⊤ Error) → RunsSteps session refresh_steps old new result → AreAuthorised session.crypto (given_in old.documents) old.documents
    → AreAuthorised session.crypto (given_in new.documents) new.documents
refresh_authorised session old new result r k = stays_whole session.crypto old.documents new.documents (refresh_stays session old new result r) k
