use Rattle.std.proofs.Common.{string_bytes, sym, subst, ℕ, List}
use Rattle.embedded_verify.specs.Means.{Means}
use Rattle.embedded_verify.proofs.Saying.{accepted_means}
use Rattle.embedded_verify.proofs.said.decide.Goals as goal

pub returns-then-known : goal.returns-then-known
returns-then-known c =
    subst (λ (n : ℕ). Means c.args.asked.now.request.now n (string_bytes c.accept.result.out) (string_bytes c.accept.result.kept)) (sym c.accept.ensures.status)
    (subst (λ (t : List ℕ). Means c.args.asked.now.request.now 0 t (string_bytes c.accept.result.kept)) (sym c.accept.ensures.out)
    (subst (λ (t : List ℕ). Means c.args.asked.now.request.now 0 c.in_ok-known.known.verdict.said.text t) (sym c.accept.ensures.kept)
    (accepted_means c.args.asked.now c.in_ok-known.known.verdict (string_bytes c.in_ok-known.known.kept) c.in_ok-known.ensures c.if-known.true)))
