-- What an updater's calls promise besides: of its store, which may be none, and of the chain that it keeps.
use Rattle.std.specs.Prelude.{◌≡◌, ℕ, List, Option, Some, None, Result, Ok, Err, ⊤}
use Rattle.std.specs.Borrow.{MutBor}
use Rattle.foundation.specs.Watched.{Watched, untold}
use Rattle.sigstore_tuf_text.specs.declared.error.Error.{Error}
use Rattle.sigstore_tuf_text.specs.declared.error.Error.TheVariants as tuf
use Rattle.sigstore_tuf_outside.specs.Repository.{Files}
use Rattle.sigstore_tuf_rules.specs.declared.chain.TrustChain.{TrustChain}
use Rattle.sigstore_tuf_runs.specs.State.{Session, State}
use Rattle.sigstore_tuf_runs.specs.Promises.{Got}

-- the same lent store, or none
abbrev pub SameOption : {S : Type 0} → Option (MutBor S) → Option (MutBor S) → Type 0
SameOption None None = ⊤
SameOption None (Some b) = ⊥
SameOption (Some a) None = ⊥
SameOption (Some a) (Some b) = b.ghost_name ≡ a.ghost_name

-- what the lent store shows; nothing where there is none
abbrev pub option_seen : {S : Type 0} → (S → Watched Files) → Option (MutBor S) → Watched Files
option_seen seen None = untold 0
option_seen seen (Some store) = seen store.now

-- the file is that of the chain that is kept; want of memory for the copy of the file leaves the chain that was kept before
pub data GivesFile (session : Session) (path : List ℕ) (old new : State) (kept : Option TrustChain)
    (result : Result (List ℕ) Error) : Type 0 where
  refused : (e : Error) → Got session path old new (Err e) → result ≡ Err e → GivesFile session path old new kept result
  uncopied : (chain : TrustChain) → Got session path old new (Ok chain) → result ≡ Err tuf.NoMemory
      → GivesFile session path old new kept result
  given : (chain : TrustChain) → Got session path old new (Ok chain) → kept ≡ Some chain → result ≡ Ok chain.file
      → GivesFile session path old new kept result
