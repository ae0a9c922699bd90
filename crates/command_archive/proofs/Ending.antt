-- What `archive` said and was taken whole means.
use Rattle.std.proofs.Common.{◌≡◌, inr, ℕ, List, Ok, sym, ap, ◌∙◌, subst}
use Rattle.foundation.specs.Watched.{Watched}
use Rattle.command_files.specs.Ending.{TakesAll}
use Rattle.command_files.specs.Starting.{Command}
use Rattle.command_files.specs.declared.answer.Status.{Status}
use Rattle.command_files.specs.declared.answer.Status.TheVariants as status
use Rattle.sigstore_verify.specs.FromRoot.{trust_path}
use Rattle.command_archive.specs.declared.output.Output.{Output}
use Rattle.command_archive.specs.Output.{status_of, octets_of}
use Rattle.command_archive.specs.Run.{Environment, Says, SaysWhole, Means}
use Rattle.command_archive.specs.Complete.{anchor_in, Completes}
use Rattle.command_archive.proofs.Completing.{walks_so, archive_writes}
use Rattle.command_archive.proofs.Offered.{root_short, offered_spelled}
use Rattle.command_archive.proofs.Never.{never_output, never_memory}

module _ (command : Command) (before after : Environment) (out out' : Watched (List ℕ)) where
  whole : (said : Output) (ended : Status) → Says command before after (Ok said) → TakesAll out out' (octets_of said) → ended ≡ status_of said → SaysWhole command before after out out' ended
  whole said ended s w e = record { said = said; says = s; written = w; ended_is = e }

  pub said_means : (said : Output) (ended : Status) → Says command before after (Ok said) → TakesAll out out' (octets_of said) → ended ≡ status_of said → Means command before after out out' ended
  said_means said status.Accepted s w e = whole said status.Accepted s w e
  said_means said status.Refused s w e = whole said status.Refused s w e
  said_means said status.Usage s w e = whole said status.Usage s w e
  said_means said status.Input s w e = whole said status.Input s w e
  said_means said status.Output s w e = absurd (never_output command before after said s (sym e))
  said_means said status.Memory s w e = absurd (never_memory command before after said s (sym e))

  pub said_completes : (said : Output) (ended : Status) → Says command before after (Ok said) → TakesAll out out' (octets_of said) → ended ≡ status_of said → Completes command before after out out' ended
  said_completes said ended s w e chain f offer =
      let anchor = anchor_in f in
      let spelled = offered_spelled anchor.crypto offer.folders anchor.root anchor.now trust_path chain offer.offers (root_short f.held f.anchored f.anchored_is) in
      let so = archive_writes anchor before.outside after.outside chain spelled.0 spelled.1 offer said (walks_so command before after f said s) in
      inr (inr (record { bytes = spelled.0; spells = spelled.1; written = subst (λ (o : Output). TakesAll out out' (octets_of o)) so.0 w; accepted = e ∙ ap status_of so.0 }, so.1))
