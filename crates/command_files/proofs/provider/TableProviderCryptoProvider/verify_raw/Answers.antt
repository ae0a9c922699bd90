use Rattle.std.proofs.Common.{◌∙◌, ap}
use Rattle.command_files.specs.Rows.{accepts_of}
use Rattle.command_files.proofs.provider.TableProviderCryptoProvider.verify_raw.Goals as goal

pub returns : goal.returns
returns c =
    c.accepts.ensures ∙ ap (λ s. accepts_of c.args.self.now.rows c.args.scheme c.args.key.now s c.args.signature.now) (c.as_bytes.ensures ∙ c.new-subject.ensures)
