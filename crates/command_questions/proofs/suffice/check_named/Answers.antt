use Rattle.sigstore_tuf_rules.specs.Config.{default_config}
use Rattle.sigstore_verify.specs.Inputs.{anchor_by}
use Rattle.command_files.specs.Tables.{crypto_of}
use Rattle.command_questions.proofs.Sufficing.{trusted_alone}
use Rattle.command_questions.proofs.suffice.check_named.Goals as goal

pub returns-in-Ok-read_archive : goal.returns-in-Ok-read_archive
returns-in-Ok-read_archive c =
    trusted_alone (anchor_by (crypto_of c.args.tables.now) c.args.root.now default_config c.args.now) c.args.path.now c.args.chain.now c.in-Ok-read_archive.again
    c.in-Ok.archive c.as_bytes.result.now c.default-config.result c.in-Ok.ensures.ok c.as_bytes.ensures c.default-config.ensures c.in-Ok-read_archive.ensures.trusted
