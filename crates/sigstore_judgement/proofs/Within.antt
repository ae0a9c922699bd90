-- What was taken of a source is within the limit.
use Rattle.std.proofs.Common.{◌≡◌, ℕ, List, [], Option, Some, None, refl, sym, ap, ◌∙◌, arith}
use Rattle.std.specs.Io.KnownBytes.{prepend_known}
use Rattle.foundation.specs.Watched.{Watched}
use Rattle.sigstore_judgement.specs.Promise.{TookWithin}

none_before : (told : Option (List ℕ)) → told ≡ prepend_known [] told
none_before None = refl
none_before (Some bytes) = refl

-- nothing was taken
pub took_nothing : (old new : Watched (List ℕ)) (max : ℕ) → new ≡ old → TookWithin old new max
took_nothing old new max same = ([], none_before old.told ∙ ap (λ (w : Watched (List ℕ)). prepend_known [] w.told) (sym same), omega arith)
