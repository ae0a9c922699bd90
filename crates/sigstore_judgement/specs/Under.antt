-- The judgement of a bundle under a trust file, both from their bytes.
use Rattle.std.specs.Prelude.{◌≡◌, ◌≢◌, ℕ, List, Result, Ok, Err}
use Rattle.foundation.specs.Steps.{◌>>=◌}
use Rattle.foundation.specs.Watched.{Watched}
use Rattle.jiff_core.specs.declared.timestamp.Timestamp as jiff
use Rattle.sigstore_types_parts.specs.declared.error.TypesError.{TypesError}
use Rattle.sigstore_types.specs.declared.bundle.Bundle.{Bundle}
use Rattle.sigstore_types.specs.declared.trusted_root.TrustedRoot.{TrustedRoot}
use Rattle.sigstore_types.specs.Bundle.{bundle_of_bytes}
use Rattle.sigstore_types.specs.TrustedRoot.{trusted_root_of_bytes}
use Rattle.sigstore_keys.specs.Crypto.{Crypto}
use Rattle.sigstore_keys.specs.Digest.{digests_by}
use Rattle.sigstore_judgement.specs.declared.asked.Asked as declared
use Rattle.sigstore_judgement.specs.declared.error.Error.{Error}
use Rattle.sigstore_judgement.specs.declared.error.Error.TheVariants as verify
use Rattle.sigstore_judgement.specs.declared.report.JudgedBundle.{JudgedBundle}
use Rattle.sigstore_judgement.specs.declared.trust.Material.{Material}
use Rattle.sigstore_judgement.specs.Artifact.{Read}
use Rattle.sigstore_judgement.specs.Error.{lowered}
use Rattle.sigstore_judgement.specs.Grounds.{Terms, terms_with}
use Rattle.sigstore_judgement.specs.Judged.{judged_of, needed_by}
use Rattle.sigstore_policy.specs.Policy.{Meaning}
use Rattle.sigstore_policy.specs.declared.policy.Policy as policy
use Rattle.sigstore_judgement.specs.Promise.{VerifiesKept}
use Rattle.sigstore_judgement.specs.Trust.{material_of}

-- ---- the trust file and the bundle, from their bytes

-- a trust file that isn't read
abbrev pub trust_fault : TypesError → Error
trust_fault e = lowered verify.TrustRoot e

-- a bundle that isn't read
abbrev pub bundle_fault : TypesError → Error
bundle_fault e = lowered verify.InvalidBundle e

abbrev pub or_fault : {T : Type 0} → (TypesError → Error) → Result T TypesError → Result T Error
or_fault fault (Ok x) = Ok x
or_fault fault (Err e) = Err (fault e)

abbrev pub trust_of : List ℕ → Result TrustedRoot Error
trust_of bytes = or_fault trust_fault (trusted_root_of_bytes bytes)

abbrev pub bundle_of : List ℕ → Result Bundle Error
bundle_of bytes = or_fault bundle_fault (bundle_of_bytes bytes)

-- ---- what is asked

-- of a bundle under a trust file that isn't read yet: who decides signatures and reads armoured texts, the policy, the moment, the bundle's
-- bytes, and the greatest length of the artifact
pub record Asked : Type 0 where
  pub crypto : Crypto
  pub policy : Meaning
  pub now : jiff.Timestamp
  pub bundle : List ℕ
  pub max : ℕ

-- what a call of the code is asked
abbrev pub asked_with : {P : Type 0} → policy.Ghosts P → Crypto → jiff.Timestamp → declared.Asked P → Asked
asked_with p crypto now asked = record {
  crypto = crypto;
  policy = p.meant asked.policy.now;
  now = now;
  bundle = asked.bundle.now;
  max = asked.max_artifact;
}

-- with what is kept of the trust file
abbrev pub terms_of : Asked → Material → Terms
terms_of asked material = terms_with asked.crypto material asked.now asked.policy

-- ---- the judgement

-- The file is read, a verifier is made of it, then the bundle is read, then the artifact; the first that refuses answers.
pub data JudgesBundle (asked : Asked) (file : List ℕ) (source source' : Watched (List ℕ)) (result : Result JudgedBundle Error) : Type 0 where
  trust_refused : (e : Error) → (e ≢ verify.NoMemory → trust_of file ≡ Err e) → source' ≡ source → result ≡ Err e
      → JudgesBundle asked file source source' result
  verifier_refused : (trust : TrustedRoot) (e : Error) → trust_of file ≡ Ok trust
      → (e ≢ verify.NoMemory → material_of trust ≡ Err e) → source' ≡ source → result ≡ Err e
      → JudgesBundle asked file source source' result
  bundle_refused : (trust : TrustedRoot) (material : Material) (e : Error) → trust_of file ≡ Ok trust → material_of trust ≡ Ok material
      → (e ≢ verify.NoMemory → bundle_of asked.bundle ≡ Err e) → source' ≡ source
      → result ≡ Err e → JudgesBundle asked file source source' result
  judged : (trust : TrustedRoot) (material : Material) (read : Bundle) → trust_of file ≡ Ok trust → material_of trust ≡ Ok material
      → bundle_of asked.bundle ≡ Ok read → VerifiesKept (terms_of asked material) read source source' asked.max result
      → JudgesBundle asked file source source' result

-- What is made of a trust file and of an artifact's bytes: the trust file is read and can be used, the bundle is read, and it is judged
-- over the bytes; the first that refuses answers.
unfoldable pub verdict_by : Asked → List ℕ → List ℕ → Result JudgedBundle Error
verdict_by asked file bytes = do
  trust ← trust_of file
  material ← material_of trust
  bundle ← bundle_of asked.bundle
  report ← judged_of (terms_of asked material) bundle (Read bytes)
  Ok (record { result = report; digests = digests_by (needed_by asked.policy bundle) bytes })
