use Rattle.std.proofs.Common.{◌∙◌, ap, length}
use Rattle.sigstore_keys.proofs.Subjects.{subject_size}
use Rattle.sigstore_keys.proofs.provider.answers_alike.Goals as goal

pub verify_prehashed-requires-clause-size : goal.verify_prehashed-requires-clause-size
verify_prehashed-requires-clause-size g c = ap length c.requires.digest ∙ subject_size c.args.scheme c.args.message.now c.requires.has_digest
