use Rattle.std.proofs.Common.{◌∙◌, sym}
use Rattle.sigstore_tuf_outside.proofs.Files.{kept_tame}
use Rattle.sigstore_tuf_outside.proofs.memory_store.MemoryStoreMetadataStore.store.Goals as goal

pub invariant_of-self-2 : goal.invariant_of-self-2
invariant_of-self-2 c = record { tame = kept_tame c.put.result _ _ _ _ (sym c.is_bad_name.ensures ∙ c.if-is_bad_name.false) c.args.self.now.tame c.put.ensures.ok c.put.ensures.err }
