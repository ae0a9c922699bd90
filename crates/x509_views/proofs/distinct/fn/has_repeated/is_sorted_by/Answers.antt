use Rattle.std.proofs.Common.{◌∙◌, ap, refl}
use Rattle.std.specs.Ordering.{nat_cmp, is_lt, is_some_and}
use Rattle.std.specs.Cmp.Lexicographic.{lists_agrees}
use Rattle.x509_views.proofs.distinct.fn.has_repeated.is_sorted_by.Goals as goal

pub returns : goal.returns
returns c = c.lt.ensures ∙ ap (is_some_and is_lt) (lists_agrees {R = nat_cmp} (λ x y. refl) c.args.first.now.now c.args.second.now.now)
