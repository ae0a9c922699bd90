-- Folders to which files are put one after another.
use Rattle.std.proofs.Common.{◌≡◌, ℕ, List, Some, ap, ap₂, ◌∙◌}
use Rattle.foundation.specs.Watched.{Watched}
use Rattle.sigstore_tuf_outside.specs.Repository.{Folders}
use Rattle.sigstore_tuf_outside.specs.Memory.{folders_of, told_folders, with_metadata, with_target}

pub with_document : (name bytes given : List ℕ) (before after folders : Folders) → bytes ≡ given → before ≡ folders
    → after ≡ with_metadata name bytes before → after ≡ with_metadata name given folders
with_document name bytes given before after folders same begun put =
    put ∙ ap (λ x. with_metadata name x before) same ∙ ap (with_metadata name given) begun

pub with_file_put : (name bytes given : List ℕ) (before after folders : Folders) → bytes ≡ given → before ≡ folders
    → after ≡ with_target name bytes before → after ≡ with_target name given folders
with_file_put name bytes given before after folders same begun put =
    put ∙ ap (λ x. with_target name x before) same ∙ ap (with_target name given) begun

told : Folders → ℕ → Watched Folders
told folders faults = record { told = Some folders; faults = faults }

pub told_so : (folders : Folders) (metadata targets : List (List ℕ × List ℕ)) (faults : ℕ) → folders_of metadata targets ≡ folders → faults ≡ 0
    → told_folders metadata targets faults ≡ record { told = Some folders; faults = 0 }
unfolding told
told_so folders metadata targets faults is none = ap₂ told is none
