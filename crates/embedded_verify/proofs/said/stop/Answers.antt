use Rattle.std.proofs.Common.{◌≡◌, string_bytes, List, ℕ, sym, ◌∙◌, subst}
use Rattle.command_files.specs.declared.answer.Status.TheVariants as status
use Rattle.embedded_verify.specs.Means.{Means}
use Rattle.embedded_verify.proofs.Reading.{unread_means}
use Rattle.embedded_verify.proofs.said.stop.Goals as goal
use Rattle.embedded_verify.proofs.said.stop.Goals.{in-Input, in_default}

pub returns : goal.returns
returns c =
    λ request unread. subst (λ (t : List ℕ). Means request c.match-said.status t (string_bytes c.new.result)) (sym c.into_string.ensures)
    (unread_means request c.args.said c.match-said.status (string_bytes c.new.result) unread
    (λ e. elim c.match-said.branch [ in-Input w ↦ (let f : status.Usage ≡ status.Input = sym e ∙ w.in-Input.is in cc) | in_default w ↦ w.status-is ])
    (λ e. elim c.match-said.branch [ in-Input w ↦ w.status-is | in_default w ↦ absurd (w.in_default.not-Input e) ])
    c.new.ensures.bytes)
