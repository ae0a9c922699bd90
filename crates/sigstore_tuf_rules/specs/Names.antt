-- The names under which documents are fetched and kept (TUF specification, sections 4.5, 5.3 to 5.7 and 6.2).
use Rattle.std.specs.Prelude.{◌≡◌, ℕ, List, [], ◌∷◌, ◌++◌, Bool, Option, Some, None, option_map, option_and_then}
use Rattle.std.specs.Prelude.{codes, if◌then◌else◌, nat_le, ◌==◌, ◌&&◌, ◌||◌}
use Rattle.percent_encoding.specs.Percent.{percent_encode_byte}
use Rattle.std.specs.Option.{option_or}
use Rattle.std.specs.Path.{slash, rsplit_once}
use Rattle.sigstore_types_parts.specs.Entries.{at_name}
use Rattle.sigstore_tuf_parts.specs.declared.targets.TargetFile.{TargetFile}
use Rattle.sigstore_tuf_parts.specs.declared.timestamp.MetaFile.{MetaFile}
use Rattle.sigstore_tuf_parts.specs.Document.{content_in}
use Rattle.sigstore_tuf_text.specs.Names.{root_name, timestamp_name, snapshot_name, targets_name, pin_name, versioned_name}
use Rattle.sigstore_tuf_rules.specs.declared.config.UpdaterConfig.{UpdaterConfig}
use Rattle.sigstore_tuf_parts.specs.declared.snapshot.Snapshot as declared
use Rattle.sigstore_tuf_rules.specs.declared.documents.Held.{Held}
use Rattle.sigstore_tuf_rules.specs.declared.documents.InForce.{InForce}
use Rattle.sigstore_tuf_rules.specs.declared.kind.Kind.{Kind}
use Rattle.sigstore_tuf_rules.specs.declared.kind.Kind.TheVariants.{Root, Timestamp, Snapshot, Targets}
use Rattle.sigstore_tuf_rules.specs.Documents.{content_of, snapshot_pin, targets_pin}

-- ---- documents in the repository

-- Names are consistent where the root in force says so: a repository that is being changed then has old and new files side by
-- side, so that who fetches meanwhile finds those that belong together.
abbrev pub is_consistent : InForce → Bool
is_consistent set = (content_in set.root).consistent_snapshot

-- what the documents in force pin the snapshot and the targets document by
abbrev pub snapshot_pin_in : InForce → Option MetaFile
snapshot_pin_in set = option_and_then (λ held. snapshot_pin (content_of held)) set.timestamp

abbrev pub targets_pin_in : InForce → Option MetaFile
targets_pin_in set = option_and_then (λ held. targets_pin (content_of held)) set.snapshot

-- the name of a document that is pinned so: under consistent names the pinned version stands before it
abbrev pub pinned_name : Bool → Option MetaFile → List ℕ → List ℕ
pinned_name consistent None name = name
pinned_name consistent (Some pin) name = if consistent then versioned_name pin.version name else name

-- the name of a document in the repository, by those in force
abbrev pub file_name : InForce → Kind → List ℕ
file_name set (Root number) = root_name number
file_name set Timestamp = timestamp_name
file_name set Snapshot = pinned_name (is_consistent set) (snapshot_pin_in set) snapshot_name
file_name set Targets = pinned_name (is_consistent set) (targets_pin_in set) targets_name

-- the name, as it is or with a version before it
pub data IsVersioned (name n : List ℕ) : Type 0 where
  plain : n ≡ name → IsVersioned name n
  versioned : (version : ℕ) → n ≡ versioned_name version name → IsVersioned name n

-- a name that a document of the kind may have there
abbrev pub IsNameOf : Kind → List ℕ → Type 0
IsNameOf (Root number) n = n ≡ root_name number
IsNameOf Timestamp n = n ≡ timestamp_name
IsNameOf Snapshot n = IsVersioned snapshot_name n
IsNameOf Targets n = IsVersioned targets_name n

-- ---- documents of delegated roles in the repository

abbrev pub is_letter : ℕ → Bool
is_letter c = (nat_le 65 c && nat_le c 90) || (nat_le 97 c && nat_le c 122)

abbrev pub is_digit : ℕ → Bool
is_digit c = nat_le 48 c && nat_le c 57

-- `-`, `.`, `_`, `~`
abbrev pub is_among_marks : ℕ → Bool
is_among_marks c = (c == 45) || ((c == 46) || ((c == 95) || (c == 126)))

-- a byte that stands in a file name as it is: a letter, a digit, `-`, `_`, `.` or `~` (RFC 3986, section 2.3)
abbrev pub is_unreserved : ℕ → Bool
is_unreserved c = is_letter c || (is_digit c || is_among_marks c)

-- another byte is a percent sign and its two hexadecimal digits (section 2.1): a role's name is its delegator's choice, and a slash in
-- it would lead into another folder
abbrev pub escaped : List ℕ → List ℕ
escaped [] = []
escaped (c ∷ cs) = if is_unreserved c then c ∷ escaped cs else percent_encode_byte c ++ escaped cs

abbrev pub role_file : List ℕ → List ℕ
role_file name = escaped name ++ codes ".json"

-- the name of a role's document; what the snapshot pins it by is the role's name as it is
abbrev pub role_pin_in : InForce → List ℕ → Option MetaFile
role_pin_in set name = option_and_then (λ (held : Held declared.Snapshot). at_name (pin_name name) (content_of held).meta) set.snapshot

abbrev pub role_name_in : InForce → List ℕ → List ℕ
role_name_in set name = pinned_name (is_consistent set) (role_pin_in set name) (role_file name)

-- how long a document may be
abbrev pub max_length : UpdaterConfig → Kind → ℕ
max_length config (Root number) = config.root_max_length
max_length config Timestamp = config.timestamp_max_length
max_length config Snapshot = config.snapshot_max_length
max_length config Targets = config.targets_max_length

-- ---- documents in the store

-- A root's name in the store. Roots have a folder of their own, apart from the documents that are replaced.
abbrev pub history_name : ℕ → List ℕ
history_name number = codes "root_history/" ++ root_name number

-- the root in force stands there too, for whoever looks
abbrev pub root_file : List ℕ
root_file = codes "root.json"

-- the name under which the store gives a document
abbrev pub kept_name : Kind → List ℕ
kept_name (Root number) = history_name number
kept_name Timestamp = timestamp_name
kept_name Snapshot = snapshot_name
kept_name Targets = targets_name

-- under consistent names the name by which it was fetched, then its own
abbrev pub both_names : Bool → Option MetaFile → List ℕ → List (List ℕ)
both_names consistent None name = name ∷ []
both_names consistent (Some pin) name = if consistent then versioned_name pin.version name ∷ name ∷ [] else name ∷ []

-- the names under which it is written
abbrev pub kept_names : InForce → Kind → List (List ℕ)
kept_names set (Root number) = history_name number ∷ root_file ∷ []
kept_names set Timestamp = timestamp_name ∷ []
kept_names set Snapshot = both_names (is_consistent set) (snapshot_pin_in set) snapshot_name
kept_names set Targets = targets_name ∷ []

-- ---- targets

abbrev pub first_of : List (List ℕ × List ℕ) → Option (List ℕ)
first_of [] = None
first_of (entry ∷ entries) = Some entry.1

-- the digest that the name of a target has, as it is written: SHA-256, else SHA-512, else the first of them
abbrev pub name_digest : TargetFile → Option (List ℕ)
name_digest entry = option_or (at_name (codes "sha256") entry.hashes)
    (option_or (at_name (codes "sha512") entry.hashes) (first_of entry.hashes))

-- `DIR/NAME` with the digest before its last part: `DIR/DIGEST.NAME`
abbrev pub name_in : List ℕ → List ℕ → Option (List ℕ × List ℕ) → List ℕ
name_in digest path None = digest ++ codes "." ++ path
name_in digest path (Some parts) = parts.0 ++ codes "/" ++ digest ++ codes "." ++ parts.1

abbrev pub digest_name : List ℕ → List ℕ → List ℕ
digest_name digest path = name_in digest path (rsplit_once slash path)

-- the name of a target's file in the repository; under consistent names there is none without a digest
abbrev pub target_name_of : Bool → TargetFile → List ℕ → Option (List ℕ)
target_name_of consistent entry path =
    if consistent then option_map (λ digest. digest_name digest path) (name_digest entry) else Some path

-- the name of a target in the store
abbrev pub kept_target : List ℕ → List ℕ
kept_target path = codes "targets/" ++ path
