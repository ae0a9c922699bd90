-- What is refused of two checkpoints, and that those of one tree aren't.
use Rattle.std.proofs.Common.{◌≡◌, ◌≢◌, ℕ, Bool, true, false, List, Option, Some, Result, Ok, Err, refl, sym, ◌∙◌, ap, arith, subst}
use Rattle.std.specs.Prelude.{⊤, bytes_eq, if◌then◌else◌}
use Rattle.std.proofs.lemmas.Option.{some_pair_parts, none-some}
use Rattle.foundation.specs.Steps.{◌>>=◌}
use Rattle.foundation.specs.Watched.{Watched, IfTold}
use Rattle.sigstore_keys.specs.Good.{Judge}
use Rattle.sigstore_keys.specs.Key.{spki_key_of}
use Rattle.sigstore_entries.specs.Checkpoint.{checkpoint_of}
use Rattle.sigstore_entries.specs.declared.checkpoint.Checkpoint.{Checkpoint}
use Rattle.sigstore_log.specs.Signed.{verified_of}
use Rattle.log_tiles.specs.Consistency.{Roots, roots_from}
use Rattle.log_tiles.specs.Fault.{RootFault}
use Rattle.log_tiles.specs.Source.{Leaves}
use Rattle.log_tiles.specs.Proving.{IsProof, Serves, Gives}
use Rattle.log_tiles.specs.Auditing.{or_refusal, checkpoint_as, pair_of, pair_signed, signed_pair, IsOfTiles, IsGrowth}
use Rattle.log_tiles.specs.Auditing.{GrowthCause, AuditCause, OfSigned, Audits, AreOfTree}
use Rattle.log_tiles.specs.Joining.{SignedCause}
use Rattle.log_tiles.specs.declared.auditing.Growth.{Growth}
use Rattle.log_tiles.specs.declared.error.WhichTree.{WhichTree}
use Rattle.log_tiles.specs.declared.error.WhichTree.TheVariants.{First, Second}
use Rattle.log_tiles.specs.declared.error.TileError.{TileError}
use Rattle.log_tiles.specs.declared.error.TileError.TheVariants as refusal

-- ---- which refusals a judgement has

-- the refusal of a step, or one behind it
step_refusal : {T E U : Type 0} (Is : TileError → Type 0) (step : Result T E) (mine e : TileError) (rest : T → Result U TileError)
    → Is mine → ((x : T) → rest x ≡ Err e → Is e) → (or_refusal step mine >>= rest) ≡ Err e → Is e
step_refusal Is (Ok x) mine e rest is behind h = behind x h
step_refusal Is (Err cause) mine e rest is behind h =
    let same : mine ≡ e = cc in
    subst Is same is

last_refusal : {T E : Type 0} (Is : TileError → Type 0) (step : Result T E) (mine e : TileError) → Is mine
    → or_refusal step mine ≡ Err e → Is e
last_refusal Is (Ok x) mine e is h = cc
last_refusal Is (Err cause) mine e is h =
    let same : mine ≡ e = cc in
    subst Is same is

OfKey : TileError → Type 0
OfKey refusal.Key = ⊤
OfKey (refusal.Signature which) = ⊤
OfKey refusal.Origin = ⊤
OfKey e = ⊥

OfText : TileError → Type 0
OfText (refusal.Checkpoint which) = ⊤
OfText e = ⊥

abbrev one_log : Bool → Result ⊤ TileError
one_log same = if same then Ok tt else Err refusal.Origin

of_origin : (same : Bool) (e : TileError) → one_log same ≡ Err e → OfKey e
unfolding OfKey
of_origin true e h = cc
of_origin false e h =
    let is : refusal.Origin ≡ e = cc in
    subst OfKey is tt

of_key : (accepts : Judge) (key : List ℕ) (older newer : Checkpoint) (e : TileError) → pair_signed accepts key older newer ≡ Err e → OfKey e
unfolding pair_signed OfKey
of_key accepts key older newer e h =
    step_refusal OfKey (spki_key_of key) refusal.Key e _ tt
    (λ read. step_refusal OfKey (verified_of accepts key older) (refusal.Signature First) e _ tt
    (λ x. step_refusal OfKey (verified_of accepts key newer) (refusal.Signature Second) e _ tt
    (λ y. of_origin (bytes_eq older.origin newer.origin) e)))
    h

abbrev both : Checkpoint → Checkpoint → Result (Checkpoint × Checkpoint) TileError
both older newer = Ok (older, newer)

none_last : (r : Result Checkpoint TileError) (older : Checkpoint) (e : TileError) → (r >>= both older) ≡ Err e → r ≡ Err e
none_last (Ok newer) older e h = cc
none_last (Err cause) older e h = cc

of_text : (first second : List ℕ) (e : TileError) → pair_of first second ≡ Err e → OfText e
unfolding pair_of OfText
of_text first second e h =
    step_refusal OfText (checkpoint_of first) (refusal.Checkpoint First) e _ tt
    (λ older behind. last_refusal OfText (checkpoint_of second) (refusal.Checkpoint Second) e tt
    (none_last (checkpoint_as Second second) older e behind))
    h

pub signed_cause : (accepts : Judge) (key : List ℕ) (older newer : Checkpoint) (old new : Watched Leaves) (e : TileError)
    → (e ≢ refusal.NoMemory → pair_signed accepts key older newer ≡ Err e) → SignedCause accepts key older newer old new e
unfolding OfKey
signed_cause accepts key older newer old new refusal.Key h = h (λ same. cc)
signed_cause accepts key older newer old new (refusal.Signature which) h = h (λ same. cc)
signed_cause accepts key older newer old new refusal.Origin h = h (λ same. cc)
signed_cause accepts key older newer old new refusal.NoMemory h = tt
signed_cause accepts key older newer old new e h = absurd (of_key accepts key older newer _ (h (λ same. cc)))

unsigned : (accepts : Judge) (key first second : List ℕ) (e : TileError) → pair_of first second ≡ Err e
    → signed_pair accepts key first second ≡ Err e
unsigned accepts key first second e h = rw h refl

pub text_cause : (accepts : Judge) (key first second : List ℕ) (old new : Watched Leaves) (e : TileError)
    → (e ≢ refusal.NoMemory → pair_of first second ≡ Err e) → AuditCause accepts key first second old new e
unfolding OfText
text_cause accepts key first second old new (refusal.Checkpoint which) h = unsigned accepts key first second _ (h (λ same. cc))
text_cause accepts key first second old new refusal.NoMemory h = tt
text_cause accepts key first second old new e h = absurd (of_text first second _ (h (λ same. cc)))

-- ---- checkpoints of one tree

told_is : {A : Type 0} (told : Option A) (x : A) (P : A → Type 0) → told ≡ Some x → IfTold told P → P x
told_is told x P e h = rw e at h

-- their proof is accepted
of_tree : (older newer : Checkpoint) (leaves hashes : Leaves) (old new : Watched Leaves) → AreOfTree older newer leaves
    → Serves leaves newer.tree_size old new → IsOfTiles older newer old.told hashes
    → roots_from older.tree_size newer.tree_size true hashes older.root_hash ≡ Some (older.root_hash, newer.root_hash)
of_tree older newer leaves hashes old new of s tiles =
    let is = told_is old.told leaves _ s.told tiles s.held in
    rw (of.older_root, of.newer_root) is.accepted.roots

root_fault : (given : Roots) (a b computed : List ℕ) (which : WhichTree) → Some given ≡ Some (a, b) → RootFault a b given which computed → ⊥
root_fault given a b computed First e fault =
    let parts = some_pair_parts given.0 a given.1 b e in
    fault.1 (fault.0 ∙ parts.0)
root_fault given a b computed Second e fault =
    let parts = some_pair_parts given.0 a given.1 b e in
    fault.2 (fault.1 ∙ parts.1)

growth_served : (older newer : Checkpoint) (leaves : Leaves) (old new : Watched Leaves) (e : TileError) → AreOfTree older newer leaves
    → Serves leaves newer.tree_size old new → GrowthCause older newer old new e → e ≡ refusal.NoMemory
growth_served older newer leaves old new (refusal.Sizes a b) of s cause = absurd (cause.0 of.sizes)
growth_served older newer leaves old new (refusal.IndexOutOfTree index size) of s cause = absurd (cause.0 of.sizes)
growth_served older newer leaves old new (refusal.TileAbsent level index) of s cause =
    let lacking = told_is old.told leaves _ s.told cause.1.lacking in
    absurd (omega (arith, lacking, cause.1.inside, s.held))
growth_served older newer leaves old new refusal.TileFailed of s cause = absurd (s.quiet cause.1)
growth_served older newer leaves old new (refusal.TileLength expected actual) of s cause =
    absurd (told_is old.told leaves _ s.told cause.1.untold)
growth_served older newer leaves old new refusal.PathLength of s cause =
    absurd (none-some _ (sym cause.refused.1 ∙ of_tree older newer leaves cause.hashes old new of s cause.computed))
growth_served older newer leaves old new (refusal.RootMismatch which computed) of s cause =
    let given = cause.refused.1.0 in
    absurd
    (root_fault given older.root_hash newer.root_hash computed which
    (sym cause.refused.1.1 ∙ of_tree older newer leaves cause.hashes old new of s cause.computed) cause.refused.1.2)
growth_served older newer leaves old new refusal.NoMemory of s cause = refl
growth_served older newer leaves old new e of s cause = absurd cause.1

pair_of_ok : Checkpoint × Checkpoint → Result (Checkpoint × Checkpoint) TileError → Checkpoint × Checkpoint
pair_of_ok other (Ok pair) = pair
pair_of_ok other (Err e) = other

pair_parts : (a b c d : Checkpoint) (r : Result (Checkpoint × Checkpoint) TileError) → r ≡ Ok (a, b) → r ≡ Ok (c, d) → (a ≡ c) × (b ≡ d)
unfolding pair_of_ok
pair_parts a b c d r one two =
    let pairs = ap (pair_of_ok (c, d)) (sym one ∙ two) in
    (ap (λ (x : Checkpoint × Checkpoint). x.0) pairs, ap (λ (x : Checkpoint × Checkpoint). x.1) pairs)

-- what holds of the signed checkpoints holds of these
of_these : (accepts : Judge) (key first second : List ℕ) (older newer : Checkpoint) (is : Checkpoint → Checkpoint → Type 0)
    → signed_pair accepts key first second ≡ Ok (older, newer) → OfSigned accepts key first second is → is older newer
of_these accepts key first second older newer is e of =
    let parts = pair_parts of.older of.newer older newer _ of.signed e in
    rw (← parts.0, ← parts.1) of.holds

pub refused_served : (accepts : Judge) (key first second : List ℕ) (older newer : Checkpoint) (leaves : Leaves) (old new : Watched Leaves)
    (e : TileError)
    → signed_pair accepts key first second ≡ Ok (older, newer) → AreOfTree older newer leaves → Serves leaves newer.tree_size old new
    → AuditCause accepts key first second old new e → e ≡ refusal.NoMemory
refused_served accepts key first second older newer leaves old new (refusal.Checkpoint which) e of s cause = let both = sym cause ∙ e in cc
refused_served accepts key first second older newer leaves old new (refusal.Signature which) e of s cause = let both = sym cause ∙ e in cc
refused_served accepts key first second older newer leaves old new refusal.Key e of s cause = let both = sym cause ∙ e in cc
refused_served accepts key first second older newer leaves old new refusal.Origin e of s cause = let both = sym cause ∙ e in cc
refused_served accepts key first second older newer leaves old new refusal.NoMemory e of s cause = refl
refused_served accepts key first second older newer leaves old new x e of s cause =
    growth_served older newer leaves old new _ of s (of_these accepts key first second older newer _ e cause)

pub audit_served : (accepts : Judge) (key first second : List ℕ) (older newer : Checkpoint) (leaves : Leaves) (old new : Watched Leaves)
    (result : Result Growth TileError) → Audits accepts key first second old new result
    → signed_pair accepts key first second ≡ Ok (older, newer) → AreOfTree older newer leaves → Serves leaves newer.tree_size old new
    → Gives (λ found. IsProof older.tree_size newer.tree_size leaves found.proof) result
audit_served accepts key first second older newer leaves old new (Ok found) audits e of s =
    let is = of_these accepts key first second older newer (λ a b. IsGrowth a b old.told found) e audits.joined in
    told_is old.told leaves _ s.told is.joined.computed s.held
audit_served accepts key first second older newer leaves old new (Err x) audits e of s =
    refused_served accepts key first second older newer leaves old new x e of s audits.refused
