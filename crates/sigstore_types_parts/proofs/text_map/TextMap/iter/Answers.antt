use Rattle.std.proofs.Common.{subst}
use Rattle.std.specs.List.Sorted.{IsStrictlySortedBy}
use Rattle.std.specs.Map.{keys_of}
use Rattle.sigstore_types_parts.specs.Entries.{text_cmp}
use Rattle.sigstore_types_parts.proofs.EntryFacts.{named-ascend}
use Rattle.sigstore_types_parts.proofs.text_map.TextMap.iter.Goals as goal

pub returns-clause-ordered : goal.returns-clause-ordered
returns-clause-ordered g c =
    subst (λ es. IsStrictlySortedBy text_cmp (keys_of es)) c.self.view_is (named-ascend c.self.inside.inner.entries c.iter.ensures.ordered)
