-- On what the answer of the gate rests.
use Rattle.std.proofs.Common.{◌≡◌, List, Result, Ok, Err, refl, sym, subst}
use Rattle.sigstore_tuf_text.specs.declared.error.Error.{Error as TufError}
use Rattle.sigstore_tuf_text.specs.declared.error.Error.TheVariants as tuf
use Rattle.sigstore_tuf_rules.specs.declared.chain.TrustChain.{TrustChain}
use Rattle.sigstore_judgement.specs.declared.error.Error.{Error}
use Rattle.sigstore_judgement.specs.declared.error.Error.TheVariants as verify
use Rattle.sigstore_judgement.specs.declared.trust.Material.{Material}
use Rattle.sigstore_verify.specs.FromRoot.{TrustsChain}
use Rattle.release_gate.specs.declared.gate.GateFault.{GateFault}
use Rattle.release_gate.specs.declared.line.GateLine.{GateLine}
use Rattle.release_gate.specs.Folder.{Call}
use Rattle.release_gate.specs.Gate.{GateInputs, kept_of, terms_of, fault_of_tuf, fault_of_trust, gated_under}
use Rattle.release_gate.specs.Rests.{WalksUnder, IsBeforeFolder, Rests, uncalled, walked}

before_tuf : (e : TufError) → IsBeforeFolder (fault_of_tuf e)
before_tuf tuf.NoMemory = tt
before_tuf e = tt

before_trust : (e : Error) (chain : TrustChain) → IsBeforeFolder (fault_of_trust e chain)
before_trust verify.NoMemory chain = tt
before_trust e chain = tt

module _ (D : Type 0) (gave : D → Call → D → Type 0) (given : GateInputs) (old new : D) where
  pub tuf_rests : (e : TufError) (fault : GateFault) → fault ≡ fault_of_tuf e → new ≡ old → Rests gave old new given (Err fault)
  tuf_rests e fault is same = uncalled fault (subst IsBeforeFolder (sym is) (before_tuf e)) same refl

  pub trust_rests : (e : Error) (chain : TrustChain) (fault : GateFault) → fault ≡ fault_of_trust e chain → new ≡ old → Rests gave old new given (Err fault)
  trust_rests e chain fault is same = uncalled fault (subst IsBeforeFolder (sym is) (before_trust e chain)) same refl

  pub folder_rests : (chain : TrustChain) (material : Material) (walk : Result (List GateLine) GateFault) → TrustsChain given.anchor chain → kept_of chain.file ≡ Ok material
      → WalksUnder gave (terms_of given material) given.max old new walk → Rests gave old new given (gated_under chain walk)
  folder_rests chain material walk trusted usable walks =
      walked (record { chain = chain; trusted = trusted; material = material; usable = usable }) walk walks refl
