use Rattle.std.proofs.Common.{◌≡◌, drop}
use Rattle.cms.specs.Signing.{type_among}
use Rattle.cms.proofs.finalize.type_among.Given as goal

abbrev pub invariant-attributes : goal.invariant-attributes
invariant-attributes l = type_among l.fn.content_type l.fn.attributes ≡ type_among l.fn.content_type (drop l.attribute-index l.attributes)
