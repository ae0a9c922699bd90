use Rattle.std.proofs.Common.{◌≡◌, ℕ, ◌∙◌}
use Rattle.sigstore_tuf_outside.specs.Memory.{no_folders, folders_of}
use Rattle.sigstore_tuf_text.specs.Names.{timestamp_name, snapshot_name, targets_name}
use Rattle.workload.specs.Published.{publishing, trust_name}
use Rattle.workload.specs.Trust.{trust_file}
use Rattle.workload.proofs.Filled.{with_document, with_file_put, told_so}
use Rattle.workload.proofs.publishing.repository.Goals as goal

pub returns-clause-seen : goal.returns-clause-seen
unfolding publishing
returns-clause-seen c =
    let first = folders_of c.put_metadata.new.self.metadata c.put_metadata.new.self.targets in
    let second = folders_of c.put_metadata-2.new.self.metadata c.put_metadata-2.new.self.targets in
    let third = folders_of c.put_metadata-3.new.self.metadata c.put_metadata-3.new.self.targets in
    let last = folders_of c.put_target.new.self.metadata c.put_target.new.self.targets in
    let one =
    with_document timestamp_name _ c.args.timestamp.now _ first no_folders
    c.as_bytes.ensures c.empty-made.ensures.folders c.in_ok-put_metadata.ensures.ok in
    let two = with_document snapshot_name _ c.args.snapshot.now _ second _ c.as_bytes-2.ensures one c.in_ok-put_metadata-2.ensures.ok in
    let three = with_document targets_name _ c.args.targets.now _ third _ c.as_bytes-3.ensures two c.in_ok-put_metadata-3.ensures.ok in
    let four =
    with_file_put trust_name _ trust_file _ last _ (c.as_bytes-4.ensures ∙ c.in_ok-file.ensures) three c.in_ok-put_target.ensures.ok in
    let none : c.put_target.new.self.calls.faults ≡ 0 = cc in
    told_so (publishing c.args.timestamp.now c.args.snapshot.now c.args.targets.now) _ _ _ four none
