use Rattle.std.proofs.Common.{◌∙◌, ap}
use Rattle.std.specs.BTreeMap.{insert_entry}
use Rattle.sigstore_types_parts.specs.Entries.{text_cmp, named}
use Rattle.sigstore_types_parts.proofs.EntryFacts.{named-insert_entry}
use Rattle.sigstore_types_parts.proofs.text_map.TextMap.insert.Goals as goal

pub returns-clause-ok : goal.returns-clause-ok
returns-clause-ok g c =
    ap named c.in_ok-insert.ensures.entries
    ∙ named-insert_entry c.self.inside.inner.entries c.into_string.result c.args.item
    ∙ ap (λ k. insert_entry text_cmp (named c.self.inside.inner.entries) k c.args.item) c.into_string.ensures
    ∙ ap (λ es. insert_entry text_cmp es c.args.name c.args.item) c.self.view_is
