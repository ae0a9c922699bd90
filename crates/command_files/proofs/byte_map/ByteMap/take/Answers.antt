use Rattle.std.proofs.Common.{◌∙◌, ap, subst}
use Rattle.std.specs.List.Sorted.{IsStrictlySortedBy}
use Rattle.std.specs.BTreeMap.{is_at}
use Rattle.std.specs.Map.{keys_of, remove_entry}
use Rattle.sigstore_types_parts.specs.Entries.{text_cmp, at_name}
use Rattle.command_files.specs.ByteMap.{keyed}
use Rattle.command_files.proofs.Keyed.{lookup-keyed, keyed-remove_entry, keyed-ascend}
use Rattle.command_files.proofs.byte_map.ByteMap.take.Goals as goal

pub returns-clause-taken : goal.returns-clause-taken
returns-clause-taken g c = c.remove.ensures.value ∙ lookup-keyed c.args.key.now c.self.inside.inner.entries ∙ ap (at_name c.args.key.now) c.self.view_is

pub returns-clause-others : goal.returns-clause-others
returns-clause-others g c =
    ap keyed c.remove.ensures.entries ∙ keyed-remove_entry c.args.key.now c.self.inside.inner.entries
    ∙ ap (remove_entry (is_at (text_cmp c.args.key.now))) c.self.view_is

pub returns-clause-ordered : goal.returns-clause-ordered
returns-clause-ordered g c = subst (λ es. IsStrictlySortedBy text_cmp (keys_of es)) c.self.view_is (keyed-ascend c.self.inside.inner.entries c.len.ensures.ordered)
