-- On what the verdict on one artifact rests: on what the calls of the folder gave, whether the folder tells its files or not.
use Rattle.std.specs.Prelude.{◌≡◌, ℕ, ◌<◌, ◌≤◌, List, length, Contains, Some, None, Result, Ok, Err}
use Rattle.sigstore_types.specs.Bundle.{bundle_of_bytes}
use Rattle.release_gate.specs.declared.folder.FolderFault.TheVariants as fault
use Rattle.release_gate.specs.declared.line.Verdict.{Verdict}
use Rattle.release_gate.specs.declared.line.Verdict.TheVariants.{Unsigned, BundleTooLong}
use Rattle.release_gate.specs.declared.walk.FolderStop.{FolderStop}
use Rattle.release_gate.specs.declared.walk.FolderStop.TheVariants as stop
use Rattle.release_gate.specs.Folder.{Call, bundle_asked}
use Rattle.release_gate.specs.Given.{Gives, GivesWhole, GivesFailed}
use Rattle.release_gate.specs.Names.{bundle_name}
use Rattle.release_gate.specs.Terms.{RuleTerms}
use Rattle.release_gate.specs.Verdict.{max_bundle, by_bundle}

-- The verdict by an artifact's bytes: one that is the same whatever they are; that of the whole artifact, which was given to its end,
-- within the limit; or that of one of which more than the limit was given. Or a call for its bytes failed, or memory is wanting.
pub data Reads {D : Type 0} (gave : D → Call → D → Type 0) (by : List ℕ → Verdict) (max : ℕ) (name : List ℕ) (old new : D)
    (result : Result Verdict FolderStop) : Type 0 where
  unneeded : (verdict : Verdict) → ((bytes : List ℕ) → by bytes ≡ verdict) → new ≡ old → result ≡ Ok verdict
      → Reads gave by max name old new result
  whole : (bytes : List ℕ) → GivesWhole gave name old bytes new → length bytes ≤ max → result ≡ Ok (by bytes)
      → Reads gave by max name old new result
  longer : (bytes : List ℕ) → Gives gave name old bytes new → max < length bytes → result ≡ Ok (by bytes)
      → Reads gave by max name old new result
  unread : (bytes : List ℕ) → GivesFailed gave name old bytes new → result ≡ Err stop.Failed → Reads gave by max name old new result
  unheld : result ≡ Err stop.NoMemory → Reads gave by max name old new result

-- The verdict by the bundle of a name, which was listed: that is longer than 16 MiB; or it was given whole, and then the artifact is read.
-- Or there was none, or the call for it failed, or memory is wanting.
pub data ReadsBy {D : Type 0} (gave : D → Call → D → Type 0) (terms : RuleTerms) (max : ℕ) (bundle name : List ℕ) (old new : D)
    (result : Result Verdict FolderStop) : Type 0 where
  long : (seen : ℕ) → gave old (bundle_asked bundle max_bundle (Err (fault.TooLong seen))) new → result ≡ Ok (BundleTooLong seen)
      → ReadsBy gave terms max bundle name old new result
  given : (file : List ℕ) (mid : D) → gave old (bundle_asked bundle max_bundle (Ok (Some file))) mid
      → Reads gave (λ bytes. by_bundle terms max bytes (bundle_of_bytes file)) max name mid new result
      → ReadsBy gave terms max bundle name old new result
  vanished : gave old (bundle_asked bundle max_bundle (Ok None)) new → result ≡ Err (stop.Vanished bundle)
      → ReadsBy gave terms max bundle name old new result
  failed : gave old (bundle_asked bundle max_bundle (Err fault.Failed)) new → result ≡ Err stop.Failed
      → ReadsBy gave terms max bundle name old new result
  short : result ≡ Err stop.NoMemory → ReadsBy gave terms max bundle name old new result

-- The verdict on an artifact beside these names, which are listed: Unsigned where that of its own bundle isn't among them, and nothing is
-- called; else by that bundle. Or memory is wanting.
pub data Reading {D : Type 0} (gave : D → Call → D → Type 0) (terms : RuleTerms) (max : ℕ) (names : List (List ℕ)) (name : List ℕ)
    (old new : D) (result : Result Verdict FolderStop) : Type 0 where
  unsigned : (Contains names (bundle_name name) → ⊥) → new ≡ old → result ≡ Ok Unsigned → Reading gave terms max names name old new result
  signed : Contains names (bundle_name name) → ReadsBy gave terms max (bundle_name name) name old new result
      → Reading gave terms max names name old new result
  wanting : result ≡ Err stop.NoMemory → Reading gave terms max names name old new result
