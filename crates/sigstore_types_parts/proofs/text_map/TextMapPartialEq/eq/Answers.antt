use Rattle.std.proofs.Common.{◌∙◌, ap₂}
use Rattle.sigstore_types_parts.specs.Entries.{same_entries}
use Rattle.sigstore_types_parts.proofs.EntryFacts.{pointwise-named}
use Rattle.sigstore_types_parts.proofs.text_map.TextMapPartialEq.eq.Goals as goal

pub returns : goal.returns
returns g c =
    c.eq.ensures ∙ pointwise-named g.T.PartialEq.eq c.self.inside.inner.entries c.other.inside.inner.entries
    ∙ ap₂ (same_entries g.T.PartialEq.eq) c.self.view_is c.other.view_is
