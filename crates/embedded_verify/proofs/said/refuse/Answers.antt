use Rattle.std.proofs.Common.{string_bytes, nat_eq, length, sym, ap, ◌∙◌, subst, List, ℕ}
use Rattle.embedded_verify.specs.Means.{Means}
use Rattle.embedded_verify.proofs.Saying.{refused_means, asks_means, same_text}
use Rattle.embedded_verify.proofs.said.refuse.Goals as goal

pub returns-then-not-is_empty : goal.returns-then-not-is_empty
returns-then-not-is_empty c =
    asks_means c.args.asked.now c.args.known.verdict (string_bytes c.args.known.kept) (string_bytes c.in_ok-verdict.field-0.questions) (string_bytes c.new.result) c.requires.known
    c.requires.refused c.in_ok-verdict.ensures.questions
    (ap (λ (xs : List ℕ). nat_eq (length xs) 0) (sym c.as_bytes.ensures.value) ∙ sym c.is_empty.ensures ∙ c.if-not-is_empty.true) c.new.ensures.bytes

pub returns : goal.returns
returns c =
    subst (λ (t : List ℕ). Means c.args.asked.now.request.now 1 t (string_bytes c.args.known.kept)) (sym c.into_string.ensures)
    (refused_means c.args.asked.now c.args.known.verdict c.in_ok-verdict.field-0.verdict (string_bytes c.args.known.kept) c.requires.known c.requires.refused c.in_ok-verdict.ensures.verdict c.if-verdict.false (sym c.as_str.ensures ∙ same_text _ _ (sym c.ne.ensures ∙ c.if-ne.false) ∙ c.as_str-else-verdict.ensures))
