use Rattle.std.proofs.Common.{◌∙◌, ap}
use Rattle.sigstore_types_parts.specs.Entries.{at_name}
use Rattle.command_files.proofs.Keyed.{lookup-keyed}
use Rattle.command_files.proofs.byte_map.ByteMap.get.Goals as goal

pub returns : goal.returns
returns g c = c.get.ensures.value ∙ lookup-keyed c.args.key.now c.self.inside.inner.entries ∙ ap (at_name c.args.key.now) c.self.view_is
