-- The chains of the targets in turn, by the loop over them, and behind the refresh.
use Rattle.std.proofs.Common.{◌≡◌, ℕ, ◌+◌, ◌<◌, List, [], ◌∷◌, ◌++◌, length, drop, get_or, Option, Some, None, Result, Ok, Err, IfOk, sym, ap, ◌∙◌, subst, append_assoc, append-nil}
use Rattle.jiff_core.specs.declared.timestamp.Timestamp as jiff
use Rattle.foundation.specs.declared.no_memory.NoMemory.{NoMemory}
use Rattle.sigstore_keys.specs.Crypto.{Crypto}
use Rattle.sigstore_tuf_rules.specs.Config.{default_config}
use Rattle.sigstore_tuf_rules.specs.declared.config.UpdaterConfig.{UpdaterConfig}
use Rattle.sigstore_tuf_rules.specs.declared.chain.TrustChain.{TrustChain}
use Rattle.sigstore_tuf_rules.specs.declared.documents.InForce.{InForce}
use Rattle.sigstore_tuf_runs.specs.State.{Session, session_of}
use Rattle.command_download.specs.Chains.{anchor_with, Comes, came}
use Rattle.command_download.specs.declared.chains.Chains.{Chains}
use Rattle.command_download.specs.declared.fault.DownloadFault.{DownloadFault}
use Rattle.command_download.specs.declared.layout.Download.{Download}
use Rattle.command_download.specs.Client.{Anchor, anchor_by, Outside, Refreshes, Delivers, DeliversEach, all_done, failed, goes_on}
use Rattle.command_download.proofs.Delivering.{first_of}

module _ (session : Session) (set : InForce) (downloads : List Download) (begun : Outside) where
  -- what the downloads that are left come to stands behind these chains
  abbrev pub Carries : ℕ → Outside → List TrustChain → Type 0
  Carries i now had =
      (after : Outside) (chains : List TrustChain) (stop : Option DownloadFault) → DeliversEach session set (drop i downloads) now after chains stop
      → DeliversEach session set downloads begun after (had ++ chains) stop

  pub carries_first : Carries 0 begun []
  carries_first after chains stop run = run

  module _ (i : ℕ) (d : Download) (old : Outside) (had : List TrustChain) (less : i < length downloads) (is : d ≡ get_or downloads i d) (carries : Carries i old had) where
    first_is : drop i downloads ≡ d ∷ drop (i + 1) downloads
    first_is = first_of downloads i d less ∙ ap (λ x. x ∷ drop (i + 1) downloads) (sym is)

    pub carries_on : (mid : Outside) (chain : TrustChain) (had' : List TrustChain) → Delivers session set d old mid (Ok chain) → had' ≡ had ++ chain ∷ [] → Carries (i + 1) mid had'
    carries_on mid chain had' one pushed after chains stop rest =
        let run = goes_on d (drop (i + 1) downloads) old mid after chain chains stop one rest in
        let whole = carries after (chain ∷ chains) stop (subst (λ ds. DeliversEach session set ds old after (chain ∷ chains) stop) (sym first_is) run) in
        subst (λ (cs : List TrustChain). DeliversEach session set downloads begun after cs stop)
        (sym (append_assoc had (chain ∷ []) chains) ∙ ap (λ (cs : List TrustChain). cs ++ chains) (sym pushed)) whole

    pub stopped_so : (after : Outside) (fault : DownloadFault) → Delivers session set d old after (Err fault) → DeliversEach session set downloads begun after had (Some fault)
    stopped_so after fault one =
        let run = failed d (drop (i + 1) downloads) old after fault one in
        subst (λ (cs : List TrustChain). DeliversEach session set downloads begun after cs (Some fault)) (append-nil had)
        (carries after [] (Some fault) (subst (λ ds. DeliversEach session set ds old after [] (Some fault)) (sym first_is) run))

  pub done_so : (i : ℕ) (now : Outside) (had : List TrustChain) → drop i downloads ≡ [] → Carries i now had → DeliversEach session set downloads begun now had None
  done_so i now had none carries =
      subst (λ (cs : List TrustChain). DeliversEach session set downloads begun now cs None) (append-nil had)
      (carries now [] None (subst (λ ds. DeliversEach session set ds now now [] None) (sym none) (all_done now)))

-- behind the refresh
pub came_so : (anchor : Anchor) (downloads : List Download) (before mid after : Outside) (set : InForce) (result : Result Chains NoMemory)
    → Refreshes anchor before mid (Ok set) → IfOk result (λ had. DeliversEach anchor.session set downloads mid after had.chains had.stop)
    → IfOk result (λ had. Comes anchor downloads before after had)
came_so anchor downloads before mid after set (Ok had) refreshes each = came mid set refreshes each
came_so anchor downloads before mid after set (Err e) refreshes each = tt

-- within the program's limits
pub within_limits : (crypto : Crypto) (root : List ℕ) (now : jiff.Timestamp) (config : UpdaterConfig) (downloads : List Download) (before after : Outside) (result : Result Chains NoMemory)
    → config ≡ default_config → IfOk result (λ had. Comes (anchor_by (session_of crypto config now) root) downloads before after had)
    → IfOk result (λ had. Comes (anchor_with crypto root now) downloads before after had)
within_limits crypto root now config downloads before after result same comes =
    subst (λ (c : UpdaterConfig). IfOk result (λ had. Comes (anchor_by (session_of crypto c now) root) downloads before after had)) same comes
