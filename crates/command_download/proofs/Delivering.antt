-- The targets in turn, by the loop over them.
use Rattle.std.proofs.Common.{◌≡◌, ℕ, ◌+◌, ◌<◌, List, [], ◌∷◌, ◌++◌, length, drop, get_or, Option, Some, None, Ok, Err, refl, sym, ap, ◌∙◌, subst, add-one, drop-cons, append_assoc, append-nil}
use Rattle.sigstore_tuf_rules.specs.declared.chain.TrustChain.{TrustChain}
use Rattle.sigstore_tuf_rules.specs.declared.documents.InForce.{InForce}
use Rattle.sigstore_tuf_runs.specs.State.{Session}
use Rattle.command_download.specs.declared.fault.DownloadFault.{DownloadFault}
use Rattle.command_download.specs.declared.fault.DownloadFault.TheVariants.{NoMemory}
use Rattle.command_download.specs.declared.layout.Download.{Download}
use Rattle.command_download.specs.Client.{Outside, Delivers, DeliversEach, all_done, wanting, failed, goes_on}
use Rattle.command_download.specs.Report.{target_line, targets_lines}

pub first_of : (ds : List Download) (i : ℕ) (d : Download) → i < length ds → drop i ds ≡ get_or ds i d ∷ drop (i + 1) ds
first_of ds i d h = rw (add-one, drop-cons ds i d)

-- the line that was pushed is that of the target
pub line_so : (text text' name file : List ℕ) (d : Download) (chain : TrustChain) → text' ≡ text ++ target_line name file → name ≡ d.target → file ≡ chain.file → text' ≡ text ++ target_line d.target chain.file
line_so text text' name file d chain h n f = h ∙ ap (λ n. text ++ target_line n file) n ∙ ap (λ f. text ++ target_line d.target f) f

module _ (session : Session) (set : InForce) (downloads : List Download) (begun : Outside) where
  -- all of them, up to the stop, with the lines on those that were done
  abbrev pub Done : Outside → Option DownloadFault → List ℕ → Type 0
  Done after stop text = (all : List TrustChain) × DeliversEach session set downloads begun after all stop × (targets_lines downloads all ≡ text)

  -- what the downloads that are left do, all of them do
  abbrev pub Carries : ℕ → Outside → List ℕ → Type 0
  Carries i now text =
      (after : Outside) (chains : List TrustChain) (stop : Option DownloadFault) → DeliversEach session set (drop i downloads) now after chains stop
      → Done after stop (text ++ targets_lines (drop i downloads) chains)

  pub carries_first : Carries 0 begun []
  carries_first after chains stop run = (chains, run, refl)

  module _ (i : ℕ) (d : Download) (old : Outside) (text : List ℕ) (less : i < length downloads) (is : d ≡ get_or downloads i d) (carries : Carries i old text) where
    first_is : drop i downloads ≡ d ∷ drop (i + 1) downloads
    first_is = first_of downloads i d less ∙ ap (λ x. x ∷ drop (i + 1) downloads) (sym is)

    pub carries_on : (mid : Outside) (chain : TrustChain) (text' : List ℕ) → Delivers session set d old mid (Ok chain) → text' ≡ text ++ target_line d.target chain.file → Carries (i + 1) mid text'
    carries_on mid chain text' one line after chains stop rest =
        let run = goes_on d (drop (i + 1) downloads) old mid after chain chains stop one rest in
        let whole = carries after (chain ∷ chains) stop (subst (λ ds. DeliversEach session set ds old after (chain ∷ chains) stop) (sym first_is) run) in (
          whole.0,
          whole.1,
          whole.2 ∙ ap (λ ds. text ++ targets_lines ds (chain ∷ chains)) first_is
              ∙ sym (append_assoc text (target_line d.target chain.file) (targets_lines (drop (i + 1) downloads) chains))
              ∙ ap (λ t. t ++ targets_lines (drop (i + 1) downloads) chains) (sym line),
        )

    pub done_failed : (after : Outside) (fault : DownloadFault) → Delivers session set d old after (Err fault) → Done after (Some fault) text
    done_failed after fault one =
        let run = failed d (drop (i + 1) downloads) old after fault one in
        let whole = carries after [] (Some fault) (subst (λ ds. DeliversEach session set ds old after [] (Some fault)) (sym first_is) run) in
        (whole.0, whole.1, whole.2 ∙ append-nil text)

    pub done_wanting : (mid : Outside) (chain : TrustChain) → Delivers session set d old mid (Ok chain) → (all : List TrustChain) × DeliversEach session set downloads begun mid all (Some NoMemory)
    done_wanting mid chain one =
        let run = goes_on d (drop (i + 1) downloads) old mid mid chain [] (Some NoMemory) one (wanting (drop (i + 1) downloads) mid) in
        let whole = carries mid (chain ∷ []) (Some NoMemory) (subst (λ ds. DeliversEach session set ds old mid (chain ∷ []) (Some NoMemory)) (sym first_is) run) in
        (whole.0, whole.1)

  pub done_all : (i : ℕ) (now : Outside) (text : List ℕ) → drop i downloads ≡ [] → Carries i now text → Done now None text
  done_all i now text none carries =
      let whole = carries now [] None (subst (λ ds. DeliversEach session set ds now now [] None) (sym none) (all_done now)) in
      (whole.0, whole.1, whole.2 ∙ append-nil text)
