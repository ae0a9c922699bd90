-- What the parts of a run of `check` say of the whole.
use Rattle.std.proofs.Common.{◌≡◌, inl, inr, ℕ, List, Option, Some, Result, Ok, Err, IfOk, codes, refl, sym, ap, ◌∙◌, subst}
use Rattle.jiff_core.specs.declared.timestamp.Timestamp as jiff
use Rattle.foundation.specs.Results.{some_same, no_both}
use Rattle.foundation.specs.Watched.{Watched}
use Rattle.foundation.specs.declared.no_memory.NoMemory.{NoMemory}
use Rattle.sigstore_tuf_rules.specs.Config.{default_config}
use Rattle.sigstore_tuf_rules.specs.Trusted.{Trusted}
use Rattle.sigstore_tuf_rules.specs.declared.chain.TrustChain.{TrustChain}
use Rattle.sigstore_tuf_rules.specs.declared.config.UpdaterConfig.{UpdaterConfig}
use Rattle.sigstore_verify.specs.FromRoot.{trust_path}
use Rattle.sigstore_verify.specs.Inputs.{Anchor, anchor_by}
use Rattle.command_files.specs.Answer.{answer}
use Rattle.command_files.specs.Tables.{crypto_of}
use Rattle.command_files.specs.declared.answer.Answer.{Answer}
use Rattle.command_files.specs.declared.answer.Status.TheVariants as status
use Rattle.command_files.specs.declared.gather.Anchored.{Anchored}
use Rattle.command_verify.specs.Report.{chain_text}
use Rattle.command_verify.specs.Run.{said_of, anchor_of}
use Rattle.command_verify.proofs.ReportThere.{chain_text_there}
use Rattle.command_archive.specs.declared.finding.CheckFault.{CheckFault}
use Rattle.command_archive.specs.declared.finding.CheckFault.TheVariants as fault
use Rattle.command_archive.specs.Check.{Finds, unread, read, wanting, fault_answer}
use Rattle.command_archive.specs.CheckRun.{Outside, SaysTrusted, Checks, trusts, withholds, declines, wants}

-- a chain that is found is trusted
found_trusted : (anchor : Anchor) (least : Option ℕ) (old new : Watched (List ℕ)) (chain : TrustChain) → Finds anchor least old new (Ok chain)
    → Trusted anchor.crypto anchor.root anchor.now anchor.config.max_delegations trust_path chain
found_trusted anchor least old new chain (unread u e) = no_both chain fault.Unread e
found_trusted anchor least old new chain (read bytes w t) = t.0.trusted.trusted
found_trusted anchor least old new chain (wanting e) = no_both chain fault.NoMemory e

module _ (anchor : Anchor) (least : Option ℕ) (out : Option (List ℕ)) (before after : Outside) where
  pub trusts_said : (chain : TrustChain) (result : Result Answer NoMemory) → Finds anchor least before.archive after.archive (Ok chain)
      → SaysTrusted chain out before.shelf after.shelf result → Checks anchor least out before after result
  trusts_said chain (Err e) f s = wants e s refl
  trusts_said chain (Ok said) f (line, told, inl (d, is)) =
      let t = chain_text_there anchor.crypto anchor.root anchor.now anchor.config.max_delegations trust_path chain (codes "trusted")
      (found_trusted anchor least before.archive after.archive chain f) in
      trusts chain t.0 f t.1 d
      (ap (λ (a : Answer). Ok a) (is ∙ some_same line (answer status.Accepted t.0) (sym told ∙ ap said_of t.1)))
  trusts_said chain (Ok said) f (line, told, inr (u, is)) = withholds chain f u (ap (λ (a : Answer). Ok a) is)

  pub declines_said : (why : CheckFault) (result : Result Answer NoMemory) → Finds anchor least before.archive after.archive (Err why)
      → after.shelf ≡ before.shelf → IfOk result (λ said. fault_answer why ≡ Some said) → Checks anchor least out before after result
  declines_said why (Err e) f same s = wants e (ap (λ w. w.told) same) refl
  declines_said why (Ok said) f same s = declines why said f same s refl

-- what is said of an anchor is said of the inputs'
pub checks_at : (anchored : Anchored) (taken now : jiff.Timestamp) (root : List ℕ) (config : UpdaterConfig) (least : Option ℕ) (out : Option (List ℕ))
    (before after : Outside) (result : Result Answer NoMemory) → root ≡ anchored.root → config ≡ default_config → taken ≡ now
    → Checks (anchor_by (crypto_of anchored.tables) root config taken) least out before after result
    → Checks (anchor_of anchored now) least out before after result
checks_at anchored taken now root config least out before after result r c t h =
    let P : List ℕ → UpdaterConfig → jiff.Timestamp → Type 0
    = λ (x : List ℕ) (y : UpdaterConfig) (z : jiff.Timestamp). Checks (anchor_by (crypto_of anchored.tables) x y z) least out before after result in
    subst (λ (z : jiff.Timestamp). P anchored.root default_config z) t
    (subst (λ (y : UpdaterConfig). P anchored.root y taken) c (subst (λ (x : List ℕ). P x config taken) r h))
