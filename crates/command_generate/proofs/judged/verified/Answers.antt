use Rattle.std.proofs.Common.{Some, ap, ◌∙◌, length, rules}
use Rattle.sigstore_tuf_outside.specs.Memory.{folders_of}
use Rattle.command_generate.specs.Workload.{tables_in}
use Rattle.command_generate.proofs.Items.{answered_with}
use Rattle.command_generate.proofs.judged.verified.Goals as goal

pub returns : goal.returns
returns c =
    answered_with (tables_in c.args.workload.now) c.args.item.now _ _ c.verify_from_root.result _ _ _ _ _ _
    (c.as_bytes-2.ensures ∙ c.requires.root) c.default.ensures c.moment.ensures c.requires.policy c.as_bytes-3.ensures
    (ap length c.as_bytes-4.ensures) c.repository_offers.ensures c.requires.signed
    (record {
      folders = ap (λ f. Some (folders_of f.metadata f.targets)) c.new-repository.ensures ∙ ap (λ w. w.told) c.in-Ok.ensures.seen;
      repo_quiet = search rules;
      files = ap (λ w. w.told) c.new-store.ensures.seen;
      bytes = ap Some c.as_bytes.ensures;
      source_quiet = search rules;
    })
    c.verify_from_root.ensures
