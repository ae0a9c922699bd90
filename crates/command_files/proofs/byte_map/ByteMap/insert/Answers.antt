use Rattle.std.proofs.Common.{◌∙◌, ap}
use Rattle.std.specs.BTreeMap.{insert_entry}
use Rattle.sigstore_types_parts.specs.Entries.{text_cmp}
use Rattle.command_files.specs.ByteMap.{keyed}
use Rattle.command_files.proofs.Keyed.{keyed-insert_entry}
use Rattle.command_files.proofs.byte_map.ByteMap.insert.Goals as goal

pub returns : goal.returns
returns g c =
    ap keyed c.in_ok-insert.ensures.entries
    ∙ keyed-insert_entry c.self.inside.inner.entries c.into_vec.result c.args.item
    ∙ ap (λ k. insert_entry text_cmp (keyed c.self.inside.inner.entries) k c.args.item) c.into_vec.ensures
    ∙ ap (λ es. insert_entry text_cmp es c.args.key c.args.item) c.self.view_is
