-- How the file of an entry is had (TUF specification, section 5.7).
use Rattle.std.specs.Prelude.{◌≡◌, ◌≢◌, ℕ, nat_lt, List, if◌then◌else◌, Bool, Option, Some, ok_or}
use Rattle.std.specs.Prelude.{None, Result, Ok, Err, ⊤}
use Rattle.foundation.specs.Steps.{◌>>=◌}
use Rattle.foundation.specs.Watched.{Watched}
use Rattle.sigstore_tuf_text.specs.declared.error.Error.{Error}
use Rattle.sigstore_tuf_text.specs.declared.error.Error.TheVariants.{IntegrityMismatch, Transport, NoMemory}
use Rattle.sigstore_tuf_text.specs.declared.error.Mismatch.TheVariants.{TooLong, NoDigest}
use Rattle.sigstore_tuf_text.specs.declared.error.TransportFault.TheVariants.{Absent}
use Rattle.sigstore_tuf_parts.specs.declared.targets.TargetFile.{TargetFile}
use Rattle.sigstore_tuf_parts.specs.Integrity.{integrity_of}
use Rattle.sigstore_tuf_outside.specs.Repository.{Folders, Files, target_files}
use Rattle.sigstore_tuf_rules.specs.declared.config.UpdaterConfig.{UpdaterConfig}
use Rattle.sigstore_tuf_rules.specs.Names.{target_name_of, kept_target}
use Rattle.sigstore_tuf_runs.specs.Adopt.{FetchesNamed, LoadsNamed, Saves}

-- The listed length is within the limit: else a listed length of 2^60 lets a repository send bytes without end (5.7).
abbrev pub within_of : UpdaterConfig → TargetFile → Result ⊤ Error
within_of config entry = if nat_lt config.target_max_length entry.length then Err (IntegrityMismatch TooLong) else Ok tt

-- The file is the entry's, by its length and digests (5.7): without it a mirror hands out whatever it likes under a listed name,
-- and so does whoever writes to the cache.
abbrev pub file_of : TargetFile → List ℕ → Result ⊤ Error
file_of entry bytes = integrity_of (Some entry.length) (Some entry.hashes) bytes

-- ---- the file in the store

abbrev pub if_pinned : List ℕ → Result ⊤ Error → Option (List ℕ)
if_pinned bytes (Ok x) = Some bytes
if_pinned bytes (Err e) = None

-- the stored bytes are given where they are the entry's
abbrev pub recalled_of : TargetFile → Result (Option (List ℕ)) Error → Result (Option (List ℕ)) Error
recalled_of entry (Ok None) = Ok None
recalled_of entry (Ok (Some bytes)) = Ok (if_pinned bytes (file_of entry bytes))
recalled_of entry (Err e) = Err e

-- the file of an entry in the store; nothing refuses but want of memory
pub record Recalls (entry : TargetFile) (path : List ℕ) (old new : Watched Files) (result : Result (Option (List ℕ)) Error) : Type 0 where
  pub loaded : Result (Option (List ℕ)) Error
  pub loads : LoadsNamed (kept_target path) old new loaded
  pub result_is : result ≡ recalled_of entry loaded

-- ---- the file in the repository

-- A fetched file is held against the entry, and written.
pub data TakesFile (entry : TargetFile) (path bytes : List ℕ) (store store' : Watched Files) (result : Result (List ℕ) Error) : Type 0 where
  differs : (e : Error) → file_of entry bytes ≡ Err e → store' ≡ store → result ≡ Err e → TakesFile entry path bytes store store' result
  unsaved : (e : Error) → file_of entry bytes ≡ Ok tt → Saves bytes (kept_target path) store store' (Err e) → result ≡ Err e
      → TakesFile entry path bytes store store' result
  given : file_of entry bytes ≡ Ok tt → Saves bytes (kept_target path) store store' (Ok tt) → result ≡ Ok bytes
      → TakesFile entry path bytes store store' result

-- what is asked of an entry before its file is fetched: its length, and its name in the repository, which is given
unfoldable pub fetch_name_of : Bool → UpdaterConfig → TargetFile → List ℕ → Result (List ℕ) Error
fetch_name_of consistent config entry path = do
  _ ← within_of config entry
  ok_or (target_name_of consistent entry path) (IntegrityMismatch NoDigest)

-- The file of an entry is fetched by its name, within its listed length, and taken so.
pub data Downloads (consistent : Bool) (config : UpdaterConfig) (entry : TargetFile) (path : List ℕ) (repo repo' : Watched Folders)
    (store store' : Watched Files) (result : Result (List ℕ) Error) : Type 0 where
  unnamed : (e : Error) → (e ≢ NoMemory → fetch_name_of consistent config entry path ≡ Err e) → repo' ≡ repo → store' ≡ store
      → result ≡ Err e → Downloads consistent config entry path repo repo' store store' result
  unfetched : (name : List ℕ) (e : Error) → fetch_name_of consistent config entry path ≡ Ok name
      → FetchesNamed target_files name entry.length repo repo' (Err e)
      → store' ≡ store → result ≡ Err e → Downloads consistent config entry path repo repo' store store' result
  absent : (name : List ℕ) → fetch_name_of consistent config entry path ≡ Ok name
      → FetchesNamed target_files name entry.length repo repo' (Ok None)
      → store' ≡ store → result ≡ Err (Transport Absent) → Downloads consistent config entry path repo repo' store store' result
  fetched : (name bytes : List ℕ) → fetch_name_of consistent config entry path ≡ Ok name
      → FetchesNamed target_files name entry.length repo repo' (Ok (Some bytes))
      → TakesFile entry path bytes store store' result → Downloads consistent config entry path repo repo' store store' result

-- The store's file is taken where it is the entry's; else the repository's.
pub data Obtains (consistent : Bool) (config : UpdaterConfig) (entry : TargetFile) (path : List ℕ) (repo repo' : Watched Folders)
    (store store' : Watched Files) (result : Result (List ℕ) Error) : Type 0 where
  unrecalled : (e : Error) → Recalls entry path store store' (Err e) → repo' ≡ repo → result ≡ Err e
      → Obtains consistent config entry path repo repo' store store' result
  recalled : (bytes : List ℕ) → Recalls entry path store store' (Ok (Some bytes)) → repo' ≡ repo → result ≡ Ok bytes
      → Obtains consistent config entry path repo repo' store store' result
  downloaded : (mid : Watched Files) → Recalls entry path store mid (Ok None)
      → Downloads consistent config entry path repo repo' mid store' result
      → Obtains consistent config entry path repo repo' store store' result
