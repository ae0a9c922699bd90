use Rattle.std.proofs.Common.{ap, sym, ◌∙◌, subst, [], ◌∷◌}
use Rattle.std.specs.Prelude.{option_copied, option_map}
use Rattle.sigstore_tuf_parts.specs.declared.targets.Targets.{Targets}
use Rattle.sigstore_tuf_rules.specs.declared.documents.Held.{Held}
use Rattle.sigstore_tuf_runs.specs.Adopt.{KeepsWhere}
use Rattle.sigstore_tuf_rules.specs.Names.{role_file}
use Rattle.sigstore_tuf_runs.proofs.Steps.{all_as}
use Rattle.sigstore_tuf_client.proofs.search.save_role.Goals as goal

pub returns-in-Ok : goal.returns-in-Ok
returns-in-Ok g c =
    subst (λ o. KeepsWhere (role_file c.args.name.now ∷ []) (option_map (λ (held : Held Targets). held.bytes) o) (g.S.MetadataStore.seen c.args.store.now) (g.S.MetadataStore.seen c.save_alone.new.store) c.save_alone.result) (sym (ap option_copied c.in-Some.is) ∙ (rw c.as_str.ensures at c.get.ensures))
    (record { saves = all_as _ _ _ _ (ap (λ n. n ∷ []) (c.as_str-in-Ok.ensures ∙ c.in-Ok.ensures ∙ ap role_file c.as_str-in-Some.ensures)) (rw c.as_bytes.ensures at c.save_alone.ensures) })
