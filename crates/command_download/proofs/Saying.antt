-- What a run says of what is asked of it, it says of the words and the inputs.
use Rattle.std.proofs.Common.{◌≡◌, ℕ, List, Result, subst}
use Rattle.jiff_core.specs.declared.timestamp.Timestamp as jiff
use Rattle.foundation.specs.declared.no_memory.NoMemory.{NoMemory}
use Rattle.sigstore_tuf_rules.specs.Config.{default_config}
use Rattle.sigstore_tuf_rules.specs.declared.config.UpdaterConfig.{UpdaterConfig}
use Rattle.sigstore_tuf_runs.specs.State.{session_of}
use Rattle.command_files.specs.Tables.{crypto_of}
use Rattle.command_files.specs.declared.answer.Answer.{Answer}
use Rattle.command_files.specs.declared.gather.Anchored.{Anchored}
use Rattle.command_download.specs.declared.layout.Download.{Download}
use Rattle.command_download.specs.Client.{anchor_by, Outside}
use Rattle.command_download.specs.Run.{anchor_of, Runs}

pub runs_at : (anchored : Anchored) (taken now : jiff.Timestamp) (root : List ℕ) (config : UpdaterConfig) (given downloads : List Download) (before after : Outside) (result : Result Answer NoMemory)
    → root ≡ anchored.root → config ≡ default_config → taken ≡ now → given ≡ downloads
    → Runs (anchor_by (session_of (crypto_of anchored.tables) config taken) root) given before after result → Runs (anchor_of anchored now) downloads before after result
runs_at anchored taken now root config given downloads before after result r c t d h =
    let P : List ℕ → UpdaterConfig → jiff.Timestamp → List Download → Type 0
    = λ (x : List ℕ) (y : UpdaterConfig) (z : jiff.Timestamp) (ds : List Download). Runs (anchor_by (session_of (crypto_of anchored.tables) y z) x) ds before after result in
    subst (λ ds. P anchored.root default_config now ds) d
    (subst (λ (z : jiff.Timestamp). P anchored.root default_config z given) t
    (subst (λ (y : UpdaterConfig). P anchored.root y taken given) c (subst (λ (x : List ℕ). P x config taken given) r h)))
