use Rattle.std.proofs.Common.{◌≡◌}
use Rattle.x509_views.specs.Walk.{coming}
use Rattle.certificate_fields.specs.Fields.{value_of}
use Rattle.certificate_fields.proofs.extension.extension_value.Given as goal

-- no extension that was passed has the identifier
abbrev pub invariant-extensions : goal.invariant-extensions
invariant-extensions l =
    (goal.iterator-extensions).can_next l.extension-iterator ×
    (goal.iterator-extensions).is_finite l.extension-iterator ×
    (value_of l.oid (coming l.fn.extensions) ≡ value_of l.oid (coming l.extension-iterator))
