use Rattle.std.proofs.Common.{◌≡◌}
use Rattle.std.specs.List.{list_any}
use Rattle.x509_views.specs.Walk.{coming}
use Rattle.path_core.specs.Extensions.{is_unknown}
use Rattle.path_core.proofs.extensions.has_unknown_critical.Given as goal

-- no extension that was passed is critical and unknown
abbrev pub invariant-extensions : goal.invariant-extensions
invariant-extensions l =
    (goal.iterator-extensions).can_next l.extension-iterator ×
    (goal.iterator-extensions).is_finite l.extension-iterator ×
    (list_any (λ x. is_unknown x.critical x.oid) (coming l.fn.extensions) ≡ list_any (λ x. is_unknown x.critical x.oid) (coming l.extension-iterator))
