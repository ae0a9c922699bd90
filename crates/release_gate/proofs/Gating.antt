-- The gate: what its answers mean, and that it has to answer where nothing outside fails.
use Rattle.std.proofs.Common.{◌≡◌, ◌≢◌, ◌⊎◌, inl, inr, ◌≤◌, List, length, Option, Some, Result, Ok, Err, refl, sym, ap, subst, ◌∙◌, arith}
use Rattle.foundation.specs.Watched.{Watched, IfTold}
use Rattle.foundation.specs.Results.{ok_same, err_same, no_both}
use Rattle.sigstore_tuf_text.specs.declared.error.Error.{Error as TufError}
use Rattle.sigstore_tuf_text.specs.declared.error.Error.TheVariants as tuf
use Rattle.sigstore_tuf_rules.specs.declared.chain.TrustChain.{TrustChain}
use Rattle.sigstore_judgement.specs.declared.error.Error.{Error}
use Rattle.sigstore_judgement.specs.declared.error.Error.TheVariants as verify
use Rattle.sigstore_judgement.specs.declared.trust.Material.{Material}
use Rattle.sigstore_verify.specs.Cause.{ChainCause}
use Rattle.sigstore_verify.specs.Complete.{TellsQuietly, StaysWarm}
use Rattle.sigstore_verify.specs.FromRoot.{TrustsChain}
use Rattle.sigstore_verify.specs.Promises.{PromisesChain}
use Rattle.release_gate.specs.declared.gate.GateFault.{GateFault}
use Rattle.release_gate.specs.declared.gate.GateFault.TheVariants as gate
use Rattle.release_gate.specs.declared.gate.Gated.{Gated}
use Rattle.release_gate.specs.declared.line.GateLine.{GateLine}
use Rattle.release_gate.specs.declared.walk.FolderStop.{FolderStop}
use Rattle.release_gate.specs.declared.walk.FolderStop.TheVariants as stop
use Rattle.release_gate.specs.Folder.{Contents}
use Rattle.release_gate.specs.Gate.{GateInputs, Outside, places_in, kept_of, terms_of, fault_of_tuf, fault_of_trust, fault_of_stop, HasTrust, GateCause, FolderCause, JudgesUnder}
use Rattle.release_gate.specs.Names.{max_names, AreOnce}
use Rattle.release_gate.specs.Promises.{Favours, IsJudgedUnder, chain_refused, trust_refused as trust_unusable, folder_judged as folder_runs, Promises}
use Rattle.release_gate.specs.Walk.{StopCause}

-- ---- want of memory, or not

tuf_want : (e : TufError) → (e ≡ tuf.NoMemory) ⊎ (e ≢ tuf.NoMemory)
tuf_want tuf.NoMemory = inl refl
tuf_want e = inr (λ h. cc)

want : (e : Error) → (e ≡ verify.NoMemory) ⊎ (e ≢ verify.NoMemory)
want verify.NoMemory = inl refl
want e = inr (λ h. cc)

-- ---- when it has to answer

of_told : (told : Option Contents) (contents : Contents) (P : Contents → Type 0) → told ≡ Some contents → IfTold told P → P contents
of_told told contents P e h = rw e at h

-- a quiet folder that lists few names, none twice, doesn't stop
module _ (old new : Watched Contents) (contents : Contents) (tells : TellsQuietly old new contents) (few : length contents.names ≤ max_names)
    (once : AreOnce contents.names) where
  pub stops_never : (s : FolderStop) → StopCause old new s → s ≡ stop.NoMemory
  stops_never stop.Failed h = let quiet = tells.quiet in absurd (omega (arith, quiet, h))
  stops_never (stop.TooMany count) h =
      let told = of_told old.told contents _ tells.told h.1 in
      let many = h.0 in
      absurd (omega (arith, told, many, few))
  stops_never (stop.Doubled name) h =
      let told = of_told old.told contents _ tells.told h in
      let single = once name in
      let twice = told.1.twice in
      absurd (omega (arith, single, twice))
  stops_never (stop.Vanished name) h = absurd (of_told old.told contents _ tells.told h.1)
  stops_never stop.NoMemory h = refl

-- what is said of such a folder isn't a fault, unless memory is wanting
pub never_stopped : (old new : Watched Contents) (contents : Contents) → TellsQuietly old new contents → length contents.names ≤ max_names
    → AreOnce contents.names → (fault : GateFault) → FolderCause old new fault → fault ≡ gate.NoMemory
never_stopped old new contents tells few once fault (s, is, cause) = is ∙ ap fault_of_stop (stops_never old new contents tells few once s cause)

module _ (given : GateInputs) (before after : Outside) where
  abbrev Cause : GateFault → Type 0
  Cause fault = GateCause given before after fault

  -- ---- what each refusal means

  by_tuf : (e : TufError) → ChainCause given.anchor (places_in before) (places_in after) e → after.folder ≡ before.folder → Cause (fault_of_tuf e)
  by_tuf tuf.NoMemory h s = tt
  by_tuf e h s = (h, s)

  by_trust : (e : Error) (chain : TrustChain) → TrustsChain given.anchor chain → (e ≢ verify.NoMemory → kept_of chain.file ≡ Err e) → after.folder ≡ before.folder → Cause (fault_of_trust e chain)
  by_trust verify.NoMemory chain t h s = tt
  by_trust e chain t h s = (t, h (λ same. cc), s)

  by_stop : (s : FolderStop) → HasTrust given.anchor → StopCause before.folder after.folder s → Cause (fault_of_stop s)
  by_stop stop.Failed t h = (t, h)
  by_stop (stop.TooMany count) t h = (t, h)
  by_stop (stop.Doubled name) t h = (t, h)
  by_stop (stop.Vanished name) t h = (t, h)
  by_stop stop.NoMemory t h = tt

  -- ---- the exits

  pub tuf_refused : (e : TufError) (fault : GateFault) → PromisesChain given.anchor (places_in before) (places_in after) (Err e) → after.folder ≡ before.folder → fault ≡ fault_of_tuf e
      → Promises given before after (Err fault)
  tuf_refused e fault p s is = record {
    accepted = tt;
    refused = subst Cause (sym is) (by_tuf e p.refused s);
    runs = chain_refused e p.runs s (ap Err is);
    complete = λ chain contents f. by_offer chain contents f (p.complete chain f.offer);
    stored = tt;
  }
    where
      by_offer : (chain : TrustChain) (contents : Contents) (f : Favours given before after chain contents)
          → (◌≡◌ {A = Result TrustChain TufError} (Err e) (Err tuf.NoMemory)) ⊎ ((◌≡◌ {A = Result TrustChain TufError} (Err e) (Ok chain)) × StaysWarm after.store f.offer)
          → (◌≡◌ {A = Result Gated GateFault} (Err fault) (Err gate.NoMemory)) ⊎ (IsJudgedUnder chain (Err fault) × StaysWarm after.store f.offer)
      by_offer chain contents f (inl h) = inl (ap Err (is ∙ ap fault_of_tuf (err_same e tuf.NoMemory h)))
      by_offer chain contents f (inr h) = let both = h.0 in cc

  pub trust_refused : (e : Error) (chain : TrustChain) (fault : GateFault) → PromisesChain given.anchor (places_in before) (places_in after) (Ok chain) → (e ≢ verify.NoMemory → kept_of chain.file ≡ Err e)
      → after.folder ≡ before.folder → fault ≡ fault_of_trust e chain → Promises given before after (Err fault)
  trust_refused e chain fault p unusable s is = record {
    accepted = tt;
    refused = subst Cause (sym is) (by_trust e chain p.accepted unusable s);
    runs = trust_unusable chain e p.runs unusable s (ap Err is);
    complete = λ offered contents f. by_offer offered contents f (p.complete offered f.offer) (want e);
    stored = tt;
  }
    where
      by_offer : (offered : TrustChain) (contents : Contents) (f : Favours given before after offered contents)
          → (◌≡◌ {A = Result TrustChain TufError} (Ok chain) (Err tuf.NoMemory)) ⊎ ((◌≡◌ {A = Result TrustChain TufError} (Ok chain) (Ok offered)) × StaysWarm after.store f.offer)
          → (e ≡ verify.NoMemory) ⊎ (e ≢ verify.NoMemory) → (◌≡◌ {A = Result Gated GateFault} (Err fault) (Err gate.NoMemory)) ⊎ (IsJudgedUnder offered (Err fault) × StaysWarm after.store f.offer)
      by_offer offered contents f (inl h) w = cc
      by_offer offered contents f (inr h) (inl w) = inl (ap Err (is ∙ ap (λ x. fault_of_trust x chain) w))
      by_offer offered contents f (inr h) (inr other) =
          let same = ok_same chain offered h.0 in
          no_both f.material e (sym f.usable ∙ ap (λ (c : TrustChain). kept_of c.file) (sym same) ∙ unusable other)

  module _ (chain : TrustChain) (material : Material) (p : PromisesChain given.anchor (places_in before) (places_in after) (Ok chain)) (usable : kept_of chain.file ≡ Ok material) where
    pub folder_refused : (fault : GateFault) → JudgesUnder (terms_of given material) given.max before.folder after.folder (Err fault) → Promises given before after (Err fault)
    folder_refused fault j = record {
      accepted = tt;
      refused = subst Cause (sym j.refused.1) (by_stop j.refused.0 (record { chain = chain; trusted = p.accepted; material = material; usable = usable }) j.refused.2);
      runs = folder_runs chain material (Err fault) p.runs usable j refl;
      complete = λ offered contents f. inl (ap Err (never_stopped before.folder after.folder contents f.folder f.few f.once fault j.refused));
      stored = tt;
    }

    pub folder_judged : (lines : List GateLine) → JudgesUnder (terms_of given material) given.max before.folder after.folder (Ok lines)
        → Promises given before after (Ok (record { chain = chain; lines = lines }))
    folder_judged lines j = record {
      accepted = record { trusted = p.accepted; material = material; usable = usable; judged = j.given };
      refused = tt;
      runs = folder_runs chain material (Ok lines) p.runs usable j refl;
      complete = λ offered contents f. by_offer offered contents f (p.complete offered f.offer);
      stored = p.stored;
    }
      where
        by_offer : (offered : TrustChain) (contents : Contents) (f : Favours given before after offered contents)
            → (◌≡◌ {A = Result TrustChain TufError} (Ok chain) (Err tuf.NoMemory)) ⊎ ((◌≡◌ {A = Result TrustChain TufError} (Ok chain) (Ok offered)) × StaysWarm after.store f.offer)
            → (◌≡◌ {A = Result Gated GateFault} (Ok (record { chain = chain; lines = lines })) (Err gate.NoMemory)) ⊎ (IsJudgedUnder offered (Ok (record { chain = chain; lines = lines })) × StaysWarm after.store f.offer)
        by_offer offered contents f (inl h) = cc
        by_offer offered contents f (inr h) = inr (record { gated = record { chain = chain; lines = lines }; is = refl; same = ok_same chain offered h.0 }, h.1)
