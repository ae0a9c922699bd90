use Rattle.std.proofs.Common.{◌∙◌, ap}
use Rattle.sigstore_types_parts.specs.Entries.{at_name}
use Rattle.sigstore_types_parts.proofs.EntryFacts.{lookup-named}
use Rattle.sigstore_types_parts.proofs.text_map.TextMap.get.Goals as goal

pub returns : goal.returns
returns g c = c.get.ensures.value ∙ lookup-named c.args.name.now c.self.inside.inner.entries ∙ ap (at_name c.args.name.now) c.self.view_is
