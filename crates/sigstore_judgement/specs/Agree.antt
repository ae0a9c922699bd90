-- A blob and a reader that tells the same bytes get one answer.
use Rattle.std.specs.Prelude.{◌≡◌, ◌≢◌, ℕ, List, Err}
use Rattle.sigstore_types.specs.declared.bundle.Bundle.{Bundle}
use Rattle.sigstore_judgement.specs.declared.error.Error.TheVariants.{UnsupportedArtifact}
use Rattle.sigstore_judgement.specs.Artifact.{Blob, Read}
use Rattle.sigstore_judgement.specs.Grounds.{Terms}
use Rattle.sigstore_judgement.specs.Judged.{judged_of}

abbrev pub BlobAgrees : Type 0
BlobAgrees = (terms : Terms) (bundle : Bundle) (bytes : List ℕ) → judged_of terms bundle (Read bytes) ≢ Err UnsupportedArtifact
    → judged_of terms bundle (Blob bytes) ≡ judged_of terms bundle (Read bytes)
