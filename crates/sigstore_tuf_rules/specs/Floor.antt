-- The floor that documents in force are: what no later one goes below while the root stays (TUF specification, sections 5.4 and 5.5,
-- 'check for a rollback attack').
use Rattle.std.specs.Prelude.{◌≡◌, ℕ, ◌≤◌, List, [], ◌∷◌, Option, Some, None, option_map, option_and_then, ⊤}
use Rattle.std.specs.List.{AllByRecursion}
use Rattle.sigstore_types_parts.specs.Entries.{at_name}
use Rattle.sigstore_tuf_parts.specs.declared.snapshot.Snapshot.{Snapshot}
use Rattle.sigstore_tuf_parts.specs.declared.timestamp.MetaFile.{MetaFile}
use Rattle.sigstore_tuf_parts.specs.declared.timestamp.Timestamp.{Timestamp}
use Rattle.sigstore_tuf_rules.specs.declared.documents.Held.{Held}
use Rattle.sigstore_tuf_rules.specs.declared.documents.InForce.{InForce}
use Rattle.sigstore_tuf_rules.specs.Documents.{content_of}
use Rattle.sigstore_tuf_rules.specs.Serving.{version_in}

-- the timestamp's version, and the version by which the snapshot pins each name
pub record Floor : Type 0 where
  pub timestamp : Option ℕ
  pub pins : List ℕ → Option ℕ

abbrev pub floor_of : InForce → Floor
floor_of set = record {
  timestamp = option_map (λ (held : Held Timestamp). (content_of held).version) set.timestamp;
  pins = λ name. option_and_then
      (λ (held : Held Snapshot). option_map (λ (pin : MetaFile). pin.version) (at_name name (content_of held).meta)) set.snapshot;
}

-- a version that is there stays there, and is no smaller
abbrev pub NoLower : Option ℕ → Option ℕ → Type 0
NoLower None new = ⊤
NoLower (Some old) new = (version : ℕ) × (new ≡ Some version) × (old ≤ version)

pub record NotBelow (old new : Floor) : Type 0 where
  pub timestamp : NoLower old.timestamp new.timestamp
  pub pins : (name : List ℕ) → NoLower (old.pins name) (new.pins name)

-- a root's number, with a floor under it
abbrev pub Standing : Type 0
Standing = ℕ × Floor

abbrev pub standing_of : InForce → Standing
standing_of set = (version_in set, floor_of set)

-- the root's number isn't lower, and under the same root the floor isn't
abbrev pub KeepsFloor : Standing → Standing → Type 0
KeepsFloor old new = (old.0 ≤ new.0) × (old.0 ≡ new.0 → NotBelow old.1 new.1)

-- each keeps the floor of the one before it
abbrev pub KeepFloors : Standing → List Standing → Type 0
KeepFloors first [] = ⊤
KeepFloors first (next ∷ later) = KeepsFloor first next × KeepFloors next later

-- Calls of one client, or of several over what the one before left, join: where each keeps the floor of the one before it, all later ones
-- keep that of the first.
abbrev pub FloorsHold : Type 0
FloorsHold = (first : Standing) (later : List Standing) → KeepFloors first later → AllByRecursion (KeepsFloor first) later
