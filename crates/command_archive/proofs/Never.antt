-- Nothing is said with a status that says that nothing was, or that a write failed.
use Rattle.std.proofs.Common.{◌≡◌, ℕ, List, Some, Result, Ok, Err, sym, subst}
use Rattle.std.specs.Prelude.{⊤}
use Rattle.command_files.specs.Answer.{stop_answer}
use Rattle.command_files.specs.Starting.{Command, misworded, lacking, unstarted, stopped, begun}
use Rattle.command_files.specs.declared.answer.Answer.{Answer}
use Rattle.command_files.specs.declared.answer.Status.{Status}
use Rattle.command_files.specs.declared.answer.Status.TheVariants as status
use Rattle.command_files.specs.declared.gather.CommandStop.{CommandStop}
use Rattle.command_files.specs.declared.gather.CommandStop.TheVariants.{Words, Malformed, Input, Memory}
use Rattle.command_verify.specs.Run.{tuf_answer}
use Rattle.sigstore_verify.specs.Inputs.{Anchor, Places}
use Rattle.trust_archive.specs.declared.error.ArchiveError.{ArchiveError}
use Rattle.trust_archive.specs.Spelling.{spelling_of}
use Rattle.foundation.specs.Results.{ok_same, no_both}
use Rattle.command_archive.specs.declared.output.Output.{Output}
use Rattle.command_archive.specs.declared.output.Output.TheVariants.{Lines}
use Rattle.command_archive.specs.Output.{status_of}
use Rattle.command_archive.specs.Run.{Environment, spelled, Walks, walk_refused, walked_to, Says}

-- a status with which something is said
Told : Status → Type 0
Told status.Accepted = ⊤
Told status.Refused = ⊤
Told status.Usage = ⊤
Told status.Input = ⊤
Told status.Output = ⊥
Told status.Memory = ⊥

of_stop : (stop : CommandStop) (line : Answer) → stop_answer stop ≡ Some line → Told line.status
unfolding stop_answer Told
of_stop Words line h = cc
of_stop (Malformed which) line h = cc
of_stop (Input which) line h = cc
of_stop Memory line h = cc

as_lines : (said : Output) (line : Answer) → said ≡ Lines line → Told line.status → Told (status_of said)
as_lines said line e t = subst (λ (o : Output). Told (status_of o)) (sym e) t

of_spelled : (r : Result (List ℕ) ArchiveError) → Told (status_of (spelled r))
unfolding Told
of_spelled (Ok bytes) = tt
of_spelled (Err e) = tt

of_walks : (anchor : Anchor) (before after : Places) (said : Output) → Walks anchor before after said → Told (status_of said)
unfolding Told tuf_answer
of_walks anchor before after said (walk_refused e n p s) = as_lines said (tuf_answer e) s tt
of_walks anchor before after said (walked_to chain p s) = subst (λ (o : Output). Told (status_of o)) (sym s) (of_spelled (spelling_of chain))

of_says : (command : Command) (before after : Environment) (said : Output) → Says command before after (Ok said) → Told (status_of said)
of_says command before after said (unstarted e s o eq) = no_both said e eq
of_says command before after said (stopped line (misworded w i h) o eq) = as_lines said line (ok_same said (Lines line) eq) (of_stop Words line h)
of_says command before after said (stopped line (lacking stop l h) o eq) = as_lines said line (ok_same said (Lines line) eq) (of_stop stop line h)
of_says command before after said (begun layout anchored b w) = of_walks _ _ _ said w

pub never_output : (command : Command) (before after : Environment) (said : Output) → Says command before after (Ok said) → status_of said ≡ status.Output → ⊥
unfolding Told
never_output command before after said s e = subst Told e (of_says command before after said s)

pub never_memory : (command : Command) (before after : Environment) (said : Output) → Says command before after (Ok said) → status_of said ≡ status.Memory → ⊥
unfolding Told
never_memory command before after said s e = subst Told e (of_says command before after said s)
