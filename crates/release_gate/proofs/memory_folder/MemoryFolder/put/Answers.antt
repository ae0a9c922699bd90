use Rattle.std.proofs.Common.{◌∙◌, ap}
use Rattle.sigstore_tuf_outside.specs.Memory.{files_of}
use Rattle.sigstore_tuf_outside.specs.Store.{with_file}
use Rattle.sigstore_tuf_outside.proofs.Files.{files_of_insert}
use Rattle.release_gate.proofs.memory_folder.MemoryFolder.put.Goals as goal

pub returns-clause-ok : goal.returns-clause-ok
returns-clause-ok c =
    ap files_of c.in_ok-insert.ensures.ok
    ∙ files_of_insert c.args.self.now.files c.in_ok-new.field-0 c.in_ok-new-2.field-0
    ∙ ap (λ name. with_file name c.in_ok-new-2.field-0 (files_of c.args.self.now.files)) c.in_ok-new.ensures
    ∙ ap (λ bytes. with_file c.args.name.now bytes (files_of c.args.self.now.files)) c.in_ok-new-2.ensures
