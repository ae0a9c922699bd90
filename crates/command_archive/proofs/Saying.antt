-- What the parts of a run of `archive` say of the whole.
use Rattle.std.proofs.Common.{◌≡◌, ℕ, List, Result, Ok, Err, IfOk, subst}
use Rattle.jiff_core.specs.declared.timestamp.Timestamp as jiff
use Rattle.foundation.specs.declared.no_memory.NoMemory.{NoMemory}
use Rattle.sigstore_tuf_rules.specs.Config.{default_config}
use Rattle.sigstore_tuf_rules.specs.declared.chain.TrustChain.{TrustChain}
use Rattle.sigstore_tuf_rules.specs.declared.config.UpdaterConfig.{UpdaterConfig}
use Rattle.sigstore_verify.specs.Inputs.{Anchor, anchor_by, Places}
use Rattle.sigstore_verify.specs.Promises.{PromisesChain}
use Rattle.trust_archive.specs.Spelling.{spelling_of}
use Rattle.command_files.specs.Tables.{crypto_of}
use Rattle.command_files.specs.declared.gather.Anchored.{Anchored}
use Rattle.command_verify.specs.Run.{anchor_of}
use Rattle.command_archive.specs.declared.output.Output.{Output}
use Rattle.command_archive.specs.Run.{spelled, Walks, walked_to}

pub walked_said : (anchor : Anchor) (before after : Places) (chain : TrustChain) (result : Result Output NoMemory) → PromisesChain anchor before after (Ok chain)
    → IfOk result (λ said. said ≡ spelled (spelling_of chain)) → IfOk result (Walks anchor before after)
walked_said anchor before after chain (Ok said) p s = walked_to chain p s
walked_said anchor before after chain (Err e) p s = tt

-- what is said of an anchor is said of the inputs'
pub walked_at : (anchored : Anchored) (taken now : jiff.Timestamp) (root : List ℕ) (config : UpdaterConfig) (before after : Places) (result : Result Output NoMemory)
    → root ≡ anchored.root → config ≡ default_config → taken ≡ now
    → IfOk result (Walks (anchor_by (crypto_of anchored.tables) root config taken) before after)
    → IfOk result (Walks (anchor_of anchored now) before after)
walked_at anchored taken now root config before after result r c t h =
    let P : List ℕ → UpdaterConfig → jiff.Timestamp → Type 0
    = λ (x : List ℕ) (y : UpdaterConfig) (z : jiff.Timestamp). IfOk result (Walks (anchor_by (crypto_of anchored.tables) x y z) before after) in
    subst (λ (z : jiff.Timestamp). P anchored.root default_config z) t
    (subst (λ (y : UpdaterConfig). P anchored.root y taken) c (subst (λ (x : List ℕ). P x config taken) r h))
