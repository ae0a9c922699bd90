-- What is asked of a download, and suffices.
use Rattle.std.proofs.Common.{◌≡◌, ℕ, ◌+◌, ◌<◌, List, [], ◌∷◌, length, drop, get_or, Some, Ok, Err, IfOk, Result, sym, ap, ◌∙◌, subst, add-one, drop-cons}
use Rattle.std.specs.Prelude.{slice_get}
use Rattle.std.proofs.lemmas.Option.{slice_get_within, get_or_from_slice_get}
use Rattle.jiff_core.specs.declared.timestamp.Timestamp as jiff
use Rattle.foundation.specs.declared.no_memory.NoMemory.{NoMemory}
use Rattle.sigstore_tuf_rules.specs.Config.{default_config}
use Rattle.sigstore_tuf_rules.specs.declared.chain.TrustChain.{TrustChain}
use Rattle.sigstore_verify.specs.Inputs.{Anchor, anchor_by}
use Rattle.command_files.specs.declared.gather.Anchored.{Anchored}
use Rattle.command_files.specs.declared.tables.TableProvider.{TableProvider}
use Rattle.command_files.specs.declared.tables.Tables.{Tables}
use Rattle.command_files.specs.Tables.{crypto_of}
use Rattle.command_download.specs.declared.chains.Chains.{Chains}
use Rattle.command_download.specs.declared.chains.DownloadRequest.{DownloadRequest}
use Rattle.command_download.specs.declared.layout.Download.{Download}
use Rattle.command_download.specs.Chains.{anchor_with, anchor_under, Comes}
use Rattle.command_download.specs.Client.{Outside}
use Rattle.question_notes.specs.Believing.{believing}
use Rattle.question_notes.specs.declared.noted.Noted.{Noted}
use Rattle.command_questions.specs.DownloadMeans.{Asks}
use Rattle.command_questions.specs.Suffice.{IsTrustedFor, AreTrustedAlone, SufficeForTargets}

-- ---- the chains in turn

got_first : {A : Type 0} (xs : List A) (i : ℕ) (x : A) → i < length xs → drop i xs ≡ get_or xs i x ∷ drop (i + 1) xs
got_first xs i x h = rw (add-one, drop-cons xs i x)

-- the one that was found by its place, and those behind it
pub found_first : {A : Type 0} (xs : List A) (i : ℕ) (x : A) → slice_get xs i ≡ Some x → drop i xs ≡ x ∷ drop (i + 1) xs
found_first xs i x h = got_first xs i x (slice_get_within xs i x h) ∙ ap (λ y. y ∷ drop (i + 1) xs) (get_or_from_slice_get xs i x x h)

-- the one of the loop, and those behind it
pub met_first : {A : Type 0} (xs : List A) (i : ℕ) (x : A) → i < length xs → x ≡ get_or xs i x → drop i xs ≡ x ∷ drop (i + 1) xs
met_first xs i x less is = got_first xs i x less ∙ ap (λ y. y ∷ drop (i + 1) xs) (sym is)

module _ (anchor : Anchor) (downloads : List Download) (chains : List TrustChain) where
  -- where the chains that are left are trusted, all are
  abbrev pub Carries : ℕ → Type 0
  Carries i = AreTrustedAlone anchor (drop i downloads) (drop i chains) → AreTrustedAlone anchor downloads chains

  pub carries_first : Carries 0
  carries_first rest = rest

  pub carries_on : (i : ℕ) (d : Download) (c : TrustChain) → drop i downloads ≡ d ∷ drop (i + 1) downloads → drop i chains ≡ c ∷ drop (i + 1) chains
      → IsTrustedFor anchor d.target c → Carries i → Carries (i + 1)
  carries_on i d c ds cs one all rest =
      all (subst (λ (x : List Download). AreTrustedAlone anchor x (drop i chains)) (sym ds)
      (subst (λ (y : List TrustChain). AreTrustedAlone anchor (d ∷ drop (i + 1) downloads) y) (sym cs) (one, rest)))

  pub carried : (i : ℕ) → drop i chains ≡ [] → Carries i → AreTrustedAlone anchor downloads chains
  carried i none all = all (subst (λ (y : List TrustChain). AreTrustedAlone anchor (drop i downloads) y) (sym none) tt)

-- ---- a download

-- the run with the provider that notes
pub had_noting : (request : DownloadRequest) (before after : Outside) (result : Result Chains NoMemory) (held given : TableProvider) → held ≡ given
    → IfOk result (λ had. Comes (anchor_under (believing held.rows) request) request.downloads.now before after had)
    → IfOk result (λ had. Comes (anchor_under (believing given.rows) request) request.downloads.now before after had)
had_noting request before after result held given same comes =
    subst (λ (t : TableProvider). IfOk result (λ had. Comes (anchor_under (believing t.rows) request) request.downloads.now before after had)) same comes

module _ (anchored : Anchored) (downloads given : List Download) (now : jiff.Timestamp) (root : List ℕ) (same : given ≡ downloads) (rooted : root ≡ anchored.root) where
  -- what holds of downloads and a root that the inputs hold
  of_inputs : (P : List Download → List ℕ → Type 0) → P given root → P downloads anchored.root
  of_inputs P p = subst (P downloads) rooted (subst (λ (ds : List Download). P ds root) same p)

  -- what was noted is asked by the inputs, and suffices
  pub asks : (before after : Outside) (judged : Result Chains NoMemory) (held : TableProvider) (noted : Result Noted NoMemory) → held ≡ anchored.tables.provider
      → IfOk judged (λ had. Comes (anchor_with (believing held.rows) root now) given before after had)
      → IfOk noted (λ n. SufficeForTargets (anchor_by (crypto_of n.tables) root default_config now) given judged)
      → IfOk noted (λ n. Asks anchored downloads now n.tables before after)
  asks before after judged held (Err e) refused comes suffice = tt
  asks before after (Err e) held (Ok n) refused comes suffice = absurd suffice
  asks before after (Ok had) held (Ok n) refused comes suffice =
      let by_held = of_inputs (λ ds r. Comes (anchor_with (believing held.rows) r now) ds before after had) comes in
      record {
        had = had;
        comes = subst (λ (t : TableProvider). Comes (anchor_with (believing t.rows) anchored.root now) downloads before after had) refused by_held;
        suffice = of_inputs (λ ds r. SufficeForTargets (anchor_by (crypto_of n.tables) r default_config now) ds (Ok had)) suffice;
      }

-- at the same moment
pub asks_at : (anchored : Anchored) (downloads : List Download) (now told : jiff.Timestamp) (rows : Tables) (before after : Outside) → now ≡ told
    → Asks anchored downloads now rows before after → Asks anchored downloads told rows before after
asks_at anchored downloads now told rows before after same a = subst (λ (n : jiff.Timestamp). Asks anchored downloads n rows before after) same a
