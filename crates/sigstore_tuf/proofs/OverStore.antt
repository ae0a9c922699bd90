-- A fetch from a store's files is what its load says.
use Rattle.std.proofs.Common.{◌≡◌, ℕ, List, Option, Some, None, Result, Ok, Err, refl, sym, ap, ◌∙◌, subst}
use Rattle.std.specs.Prelude.{option_map}
use Rattle.foundation.specs.Watched.{Watched, Rose, IfTold}
use Rattle.sigstore_tuf_outside.specs.declared.repository.FetchFault.{FetchFault}
use Rattle.sigstore_tuf_outside.specs.declared.store.StoreFault.{StoreFault}
use Rattle.sigstore_tuf_outside.specs.declared.store.StoreFault.TheVariants as store
use Rattle.sigstore_tuf_outside.specs.Repository.{Folders, Files, FailsOnly, WithinLimit, IsFile, Fetches}
use Rattle.sigstore_tuf_outside.specs.Store.{HoldsNoBadName, HasStoreCause, IsLoaded, Loads}
use Rattle.sigstore_tuf.specs.StoreRepository.{folders_in, folders_over, FetchesLoaded}

module _ (part : Folders → Files) (fetched : List ℕ) (name : List ℕ) (same : (files : Files) → part (folders_in files) fetched ≡ files name) (old new : Watched Files) (max : ℕ) (tame : IfTold old.told HoldsNoBadName) where
  failed_so : (loaded : Result (Option (List ℕ)) StoreFault) (result : Result (Option (List ℕ)) FetchFault) → HasStoreCause (Rose old.faults new.faults) name loaded → FetchesLoaded loaded max result → FailsOnly (Rose old.faults new.faults) result
  failed_so (Ok None) result c f = subst (FailsOnly (Rose old.faults new.faults)) (sym f) tt
  failed_so (Ok (Some bytes)) (Ok given) c f = tt
  failed_so (Ok (Some bytes)) (Err e) c f = subst (λ e. FailsOnly (Rose old.faults new.faults) (Err e)) (sym f.0) tt
  failed_so (Err store.BadName) result c f = subst (FailsOnly (Rose old.faults new.faults)) (sym f) tt
  failed_so (Err store.Failed) result c f = subst (FailsOnly (Rose old.faults new.faults)) (sym f) c.1
  failed_so (Err store.NoMemory) result c f = subst (FailsOnly (Rose old.faults new.faults)) (sym f) tt

  within_so : (loaded : Result (Option (List ℕ)) StoreFault) (result : Result (Option (List ℕ)) FetchFault) → FetchesLoaded loaded max result → WithinLimit max result
  within_so (Ok None) result f = subst (WithinLimit max) (sym f) tt
  within_so (Ok (Some bytes)) (Ok given) f = subst (λ g. WithinLimit max (Ok g)) (sym f.0) f.1
  within_so (Ok (Some bytes)) (Err e) f = subst (λ e. WithinLimit max (Err e)) (sym f.0) f.1
  within_so (Err store.BadName) result f = subst (WithinLimit max) (sym f) tt
  within_so (Err store.Failed) result f = subst (WithinLimit max) (sym f) tt
  within_so (Err store.NoMemory) result f = subst (WithinLimit max) (sym f) tt

  file_so : (files : Files) (loaded : Result (Option (List ℕ)) StoreFault) (result : Result (Option (List ℕ)) FetchFault) → HasStoreCause (Rose old.faults new.faults) name loaded → HoldsNoBadName files → IsLoaded (files name) loaded
      → FetchesLoaded loaded max result → IsFile (part (folders_in files) fetched) result
  file_so files (Ok None) result c t l f = subst (IsFile (part (folders_in files) fetched)) (sym f) (l ∙ sym (same files))
  file_so files (Ok (Some bytes)) (Ok given) c t l f = f.0 ∙ l ∙ sym (same files)
  file_so files (Ok (Some bytes)) (Err e) c t l f = subst (λ e. IsFile (part (folders_in files) fetched) (Err e)) (sym f.0) (bytes, same files ∙ sym l, refl)
  file_so files (Err store.BadName) result c t l f = subst (IsFile (part (folders_in files) fetched)) (sym f) (sym (t name c) ∙ sym (same files))
  file_so files (Err store.Failed) result c t l f = subst (IsFile (part (folders_in files) fetched)) (sym f) tt
  file_so files (Err store.NoMemory) result c t l f = subst (IsFile (part (folders_in files) fetched)) (sym f) tt

  told_so : (told : Option Files) (loaded : Result (Option (List ℕ)) StoreFault) (result : Result (Option (List ℕ)) FetchFault) → HasStoreCause (Rose old.faults new.faults) name loaded → IfTold told HoldsNoBadName → IfTold told (λ files. IsLoaded (files name) loaded)
      → FetchesLoaded loaded max result → IfTold (option_map folders_in told) (λ folders. IsFile (part folders fetched) result)
  told_so None loaded result c t l f = tt
  told_so (Some files) loaded result c t l f = file_so files loaded result c t l f

  pub loads_fetch : (loaded : Result (Option (List ℕ)) StoreFault) (result : Result (Option (List ℕ)) FetchFault) → Loads old new name loaded → FetchesLoaded loaded max result → Fetches part (folders_over old) (folders_over new) fetched max result
  loads_fetch loaded result l f = record {
    same = ap (option_map folders_in) l.same;
    later = l.later;
    failed = failed_so loaded result l.cause f;
    limit = within_so loaded result f;
    file = told_so old.told loaded result l.cause tame l.file f;
  }
