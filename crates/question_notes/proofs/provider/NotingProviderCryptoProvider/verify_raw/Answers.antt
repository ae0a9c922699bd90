use Rattle.std.proofs.Common.{◌∙◌, ap, not}
use Rattle.command_files.specs.Rows.{accepts_of}
use Rattle.question_notes.proofs.provider.NotingProviderCryptoProvider.verify_raw.Goals as goal

pub returns : goal.returns
returns c =
    c.answer.ensures
    ∙ ap (λ s. not (accepts_of c.args.self.now.notes.now.refused.now.rows c.args.scheme c.args.key.now s c.args.signature.now)) (c.as_bytes.ensures ∙ c.new-subject.ensures)
