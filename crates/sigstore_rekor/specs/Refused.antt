-- What the refusals of the parts of an answer are.
use Rattle.sigstore_types_parts.specs.declared.error.TypesError.{TypesError}
use Rattle.sigstore_types_parts.specs.declared.error.TypesError.TheVariants as types
use Rattle.sigstore_rekor_parts.specs.declared.error.ResponseRule.{ResponseRule}
use Rattle.sigstore_rekor_parts.specs.declared.error.ResponseRule.TheVariants as rule
use Rattle.sigstore_rekor_parts.specs.declared.error.Error.{Error}
use Rattle.sigstore_rekor_parts.specs.declared.error.Error.TheVariants.{InvalidResponse, NoMemory}

abbrev pub refused_rule : TypesError → ResponseRule
refused_rule types.Hex = rule.Hex
refused_rule (types.Length expected actual) = rule.Length
refused_rule (types.Checkpoint broken) = rule.Checkpoint
refused_rule other = rule.Entry other

-- all but want of memory is an invalid answer
abbrev pub refused_of : TypesError → Error
refused_of types.NoMemory = NoMemory
refused_of other = InvalidResponse (refused_rule other)
