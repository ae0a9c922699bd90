use Rattle.std.proofs.Common.{List, OnOk, subst}
use Rattle.sigstore_tuf_rules.specs.Config.{default_config}
use Rattle.sigstore_tuf_rules.specs.declared.chain.TrustChain.{TrustChain}
use Rattle.sigstore_verify.specs.Inputs.{anchor_by}
use Rattle.command_files.specs.Tables.{crypto_of}
use Rattle.command_questions.specs.Suffice.{AreTrustedAlone}
use Rattle.command_questions.proofs.Sufficing.{both}
use Rattle.command_questions.proofs.suffice.check_had.Goals as goal

pub returns : goal.returns
returns c =
    let anchor = anchor_by (crypto_of c.args.tables.now) c.args.request.now.root.now default_config c.args.request.now.moment in
    both _ _ c.check_chains.result c.in_ok-check_stop.ensures
    (subst (λ (cs : List TrustChain). OnOk c.check_chains.result (AreTrustedAlone anchor c.args.request.now.downloads.now cs)) c.as_slice.ensures c.check_chains.ensures)
