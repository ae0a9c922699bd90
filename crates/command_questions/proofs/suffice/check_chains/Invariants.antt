use Rattle.sigstore_tuf_rules.specs.Config.{default_config}
use Rattle.sigstore_verify.specs.Inputs.{anchor_by}
use Rattle.command_files.specs.Tables.{crypto_of}
use Rattle.command_questions.proofs.SufficingForTargets.{Carries}
use Rattle.command_questions.proofs.suffice.check_chains.Given as goal

abbrev pub invariant-chains : goal.invariant-chains
invariant-chains l =
    Carries (anchor_by (crypto_of l.tables) l.request.root.now default_config l.request.moment) l.request.downloads.now l.chains l.i
