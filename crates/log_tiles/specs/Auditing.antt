-- Whether two signed checkpoints of a log (C2SP tlog-checkpoint) are of one growing tree (RFC 6962, section 2.1.2).
use Rattle.std.specs.Prelude.{◌≡◌, ℕ, ◌≤◌, List, length, take, Option, bytes_eq, if◌then◌else◌, Result, Ok, Err, IfOk, IfErr, ⊤}
use Rattle.foundation.specs.Steps.{◌>>=◌}
use Rattle.foundation.specs.Watched.{Watched, IfTold, Since}
use Rattle.sigstore_keys.specs.Good.{Judge}
use Rattle.sigstore_keys.specs.Key.{spki_key_of}
use Rattle.sigstore_entries.specs.Checkpoint.{checkpoint_of}
use Rattle.sigstore_entries.specs.declared.checkpoint.Checkpoint.{Checkpoint}
use Rattle.sigstore_log.specs.Signed.{verified_of}
use Rattle.log_tiles.specs.Consistency.{AreConsistent, AreSizes}
use Rattle.log_tiles.specs.Whole.{tree_hash}
use Rattle.log_tiles.specs.Fault.{ConsistencyFault}
use Rattle.log_tiles.specs.Source.{Leaves}
use Rattle.log_tiles.specs.Asked.{OfProof}
use Rattle.log_tiles.specs.Proving.{IsProof, ProofCause}
use Rattle.log_tiles.specs.declared.auditing.Growth.{Growth}
use Rattle.log_tiles.specs.declared.error.WhichTree.{WhichTree}
use Rattle.log_tiles.specs.declared.error.WhichTree.TheVariants.{First, Second}
use Rattle.log_tiles.specs.declared.error.TileError.{TileError}
use Rattle.log_tiles.specs.declared.error.TileError.TheVariants as refusal

-- ---- the checkpoints

-- what was read or judged, or this refusal
abbrev pub or_refusal : {T E : Type 0} → Result T E → TileError → Result T TileError
or_refusal (Ok value) e = Ok value
or_refusal (Err cause) e = Err e

-- the checkpoint that a text is
abbrev pub checkpoint_as : WhichTree → List ℕ → Result Checkpoint TileError
checkpoint_as which text = or_refusal (checkpoint_of text) (refusal.Checkpoint which)

-- both checkpoints
unfoldable pub pair_of : List ℕ → List ℕ → Result (Checkpoint × Checkpoint) TileError
pair_of first second = do
  older ← checkpoint_as First first
  newer ← checkpoint_as Second second
  Ok (older, newer)

-- a checkpoint is signed under the key
abbrev pub signed_as : Judge → List ℕ → WhichTree → Checkpoint → Result ⊤ TileError
signed_as accepts key which checkpoint = or_refusal (verified_of accepts key checkpoint) (refusal.Signature which)

-- both checkpoints are of one log, as their first lines name it: one key may sign for several
abbrev pub of_one_log : Checkpoint → Checkpoint → Result ⊤ TileError
of_one_log older newer = if bytes_eq older.origin newer.origin then Ok tt else Err refusal.Origin

-- the key is read, both checkpoints are signed under it, and they are of one log
unfoldable pub pair_signed : Judge → List ℕ → Checkpoint → Checkpoint → Result ⊤ TileError
pair_signed accepts key older newer = do
  _ ← or_refusal (spki_key_of key) refusal.Key
  _ ← signed_as accepts key First older
  _ ← signed_as accepts key Second newer
  of_one_log older newer

-- two checkpoints of one log that are signed under a key
abbrev pub signed_pair : Judge → List ℕ → List ℕ → List ℕ → Result (Checkpoint × Checkpoint) TileError
signed_pair accepts key first second = do
  pair ← pair_of first second
  _ ← pair_signed accepts key pair.0 pair.1
  Ok pair

-- ---- their trees

-- the hashes are the proof of the tiles, where the leaves are told
abbrev pub IsOfTiles : Checkpoint → Checkpoint → Option Leaves → Leaves → Type 0
IsOfTiles older newer told hashes =
    IfTold told (λ leaves. newer.tree_size ≤ length leaves → IsProof older.tree_size newer.tree_size leaves hashes)

-- the proof of the tiles joins the trees of both checkpoints
pub record AreJoined (older newer : Checkpoint) (told : Option Leaves) (hashes : Leaves) : Type 0 where
  pub computed : IsOfTiles older newer told hashes
  pub accepted : AreConsistent older.tree_size older.root_hash newer.tree_size newer.root_hash hashes

-- what was found of two checkpoints: the sizes of their trees, and a proof of the tiles that joins these
pub record IsGrowth (older newer : Checkpoint) (told : Option Leaves) (found : Growth) : Type 0 where
  pub first : found.first ≡ older.tree_size
  pub second : found.second ≡ newer.tree_size
  pub joined : AreJoined older newer told found.proof

-- the proof of the tiles is refused for the roots of both checkpoints
pub record AreApart (older newer : Checkpoint) (told : Option Leaves) (e : TileError) : Type 0 where
  pub hashes : Leaves
  pub computed : IsOfTiles older newer told hashes
  pub refused : ConsistencyFault older.tree_size older.root_hash newer.tree_size newer.root_hash hashes e

-- why signed checkpoints aren't joined: no proof is made, or it is refused
abbrev pub GrowthCause : Checkpoint → Checkpoint → Watched Leaves → Watched Leaves → TileError → Type 0
GrowthCause older newer old new refusal.PathLength = AreApart older newer old.told refusal.PathLength
GrowthCause older newer old new (refusal.RootMismatch which computed) = AreApart older newer old.told (refusal.RootMismatch which computed)
GrowthCause older newer old new e =
    ProofCause (AreSizes older.tree_size newer.tree_size) (refusal.Sizes older.tree_size newer.tree_size)
    (OfProof older.tree_size newer.tree_size) newer.tree_size old new e

-- ---- the whole

-- of two checkpoints of one log that are signed under a key
pub record OfSigned (accepts : Judge) (key first second : List ℕ) (is : Checkpoint → Checkpoint → Type 0) : Type 0 where
  pub older : Checkpoint
  pub newer : Checkpoint
  pub signed : signed_pair accepts key first second ≡ Ok (older, newer)
  pub holds : is older newer

-- why two texts aren't joined: the first that they, the key, the signatures, the log, the sizes, the tiles and the roots are refused for
abbrev pub AuditCause : Judge → List ℕ → List ℕ → List ℕ → Watched Leaves → Watched Leaves → TileError → Type 0
AuditCause accepts key first second old new (refusal.Checkpoint which) =
    signed_pair accepts key first second ≡ Err (refusal.Checkpoint which)
AuditCause accepts key first second old new (refusal.Signature which) = signed_pair accepts key first second ≡ Err (refusal.Signature which)
AuditCause accepts key first second old new refusal.Key = signed_pair accepts key first second ≡ Err refusal.Key
AuditCause accepts key first second old new refusal.Origin = signed_pair accepts key first second ≡ Err refusal.Origin
AuditCause accepts key first second old new refusal.NoMemory = ⊤
AuditCause accepts key first second old new e = OfSigned accepts key first second (λ older newer. GrowthCause older newer old new e)

-- what an audit promises: the sizes of two signed checkpoints of one log, and a proof of the tiles that joins their trees; or why there is none
pub record Audits (accepts : Judge) (key first second : List ℕ) (old new : Watched Leaves) (result : Result Growth TileError) : Type 0 where
  pub since : Since old new
  pub joined : IfOk result (λ found. OfSigned accepts key first second (λ older newer. IsGrowth older newer old.told found))
  pub refused : IfErr result (AuditCause accepts key first second old new)

-- two checkpoints of the tree of these leaves
pub record AreOfTree (older newer : Checkpoint) (leaves : Leaves) : Type 0 where
  pub sizes : AreSizes older.tree_size newer.tree_size
  pub older_root : older.root_hash ≡ tree_hash (take older.tree_size leaves)
  pub newer_root : newer.root_hash ≡ tree_hash (take newer.tree_size leaves)
