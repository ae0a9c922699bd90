use Rattle.std.proofs.Common.{rules}
use Rattle.std.specs.Ordering.{nat_cmp, is_lt}
use Rattle.std.specs.Cmp.Lexicographic.{slice_cmp}
use Rattle.std.proofs.lemmas.List.Sorted.{answers_always}
use Rattle.x509_views.proofs.Repeated.{repeats-sorted}
use Rattle.x509_views.proofs.distinct.has_repeated.Goals as goal

pub returns : goal.returns
returns c =
    repeats-sorted (λ oid. oid.now) c.args.identifiers.items c.sort_unstable.new.self.items c.is_sorted_by-rises.result c.sort_unstable.ensures.permutation c.sort_unstable.ensures.sorted
    (rw c.deref.ensures.value at (c.is_sorted_by-rises.ensures.cases (λ x y. is_lt (slice_cmp nat_cmp x.now y.now)) (answers_always _ _ _ (λ f a r f' k. search rules))))
