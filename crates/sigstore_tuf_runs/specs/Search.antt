-- The search for a target over delegated roles, whose documents are fetched on the way (TUF specification, section 5.6.7).
use Rattle.std.specs.Prelude.{◌≡◌, ◌≢◌, ℕ, ◌==◌, ◌&&◌, not, List, [], ◌∷◌, Bool, true, false, if◌then◌else◌, bytes_eq}
use Rattle.std.specs.Prelude.{Option, Some, None, option_map, option_and_then, is_some, Result, Ok, Err, codes, ⊤}
use Rattle.std.specs.List.{last_or}
use Rattle.jiff_core.specs.declared.timestamp.Timestamp as jiff
use Rattle.sigstore_types_parts.specs.Entries.{at_name}
use Rattle.sigstore_keys.specs.Crypto.{Crypto}
use Rattle.sigstore_tuf_text.specs.declared.error.Error.{Error}
use Rattle.sigstore_tuf_text.specs.declared.error.Error.TheVariants.{Malformed, Transport, NoMemory}
use Rattle.sigstore_tuf_text.specs.declared.error.Rule.TheVariants as rule
use Rattle.sigstore_tuf_text.specs.declared.error.TransportFault.TheVariants.{Absent}
use Rattle.sigstore_tuf_parts.specs.declared.snapshot.Snapshot.{Snapshot}
use Rattle.sigstore_tuf_parts.specs.declared.targets.Targets.{Targets}
use Rattle.sigstore_tuf_parts.specs.declared.targets.TargetFile.{TargetFile}
use Rattle.sigstore_tuf_parts.specs.Threshold.{is_among}
use Rattle.sigstore_tuf_rules.specs.declared.documents.Held.{Held}
use Rattle.sigstore_tuf_rules.specs.declared.documents.InForce.{InForce}
use Rattle.sigstore_tuf_rules.specs.Documents.{content_of}
use Rattle.sigstore_tuf_rules.specs.Names.{role_pin_in, role_name_in, role_file}
use Rattle.sigstore_tuf_runs.specs.State.{Session, State}
use Rattle.sigstore_tuf_rules.specs.Taking.{taken_of}
use Rattle.sigstore_tuf_runs.specs.Adopt.{Adoption, AdoptsBy}
use Rattle.sigstore_tuf_rules.specs.declared.visit.Visit.{Visit}
use Rattle.sigstore_tuf_rules.specs.declared.visit.Walk.{Walk}
use Rattle.sigstore_tuf_rules.specs.Order.{Tree, Gap, Step, visit_of, pending_after, first_visit, first_walk}
use Rattle.sigstore_tuf_rules.specs.Delegated.{update_role_of, role_serves_of}
use Rattle.sigstore_tuf_runs.specs.Run.{Checks, said}
use Rattle.sigstore_tuf_rules.specs.SearchServing.{search_serves_of}

-- ---- one role

-- a delegated role, under the documents in force
abbrev pub role_adoption_of : Session → Visit → InForce → Adoption
role_adoption_of session v set = record {
  name = role_name_in set v.name;
  max = session.config.targets_max_length;
  judged = λ bytes. taken_of (update_role_of session.crypto set v bytes (Some session.now));
  kept = λ new. role_file v.name ∷ [];
  absence = Err (Transport Absent);
}

abbrev pub AdoptsRole : Session → Visit → State → State → Result Bool Error → Type 0
AdoptsRole session v old new result = AdoptsBy (role_adoption_of session v old.documents) old new result

-- A document in force serves a visit: the top-level one serves the whole search, and that of another role is looked at again.
abbrev pub visit_serves_of : Crypto → InForce → Visit → jiff.Timestamp → Result ⊤ Error
visit_serves_of crypto set v now = if bytes_eq v.name (codes "targets") then Ok tt else role_serves_of crypto set v now

-- the visit reads a document: visits are left, the name wasn't read, and it is pinned
abbrev pub reads : InForce → Visit → Walk → Bool
reads set v w = not (w.left == 0) && (not (is_among w.read v.name) && is_some (role_pin_in set v.name))

abbrev pub is_held : InForce → List ℕ → Bool
is_held set name = is_some (at_name name set.targets)

-- The document that a visit reads is there and serves: the one in force, or the one that is then fetched.
pub data Readies (session : Session) (v : Visit) (w : Walk) (old new : State) (result : Result ⊤ Error) : Type 0 where
  wanting : new ≡ old → result ≡ Err NoMemory → Readies session v w old new result
  untouched : reads old.documents v w ≡ false → new ≡ old → result ≡ Ok tt → Readies session v w old new result
  looked_at : reads old.documents v w ≡ true → is_held old.documents v.name ≡ true
      → Checks (λ set. visit_serves_of session.crypto set v session.now) old new result → Readies session v w old new result
  had : (answer : Result Bool Error) → reads old.documents v w ≡ true → is_held old.documents v.name ≡ false
      → AdoptsRole session v old new answer → result ≡ said answer → Readies session v w old new result

-- ---- the search

-- the documents of the roles in force
abbrev pub documents_of : InForce → List ℕ → Option Targets
documents_of set name = option_map content_of (at_name name set.targets)

-- what the order is over
abbrev pub tree_in : InForce → Snapshot → List ℕ → Tree
tree_in set snapshot path = record {
  documents = documents_of set;
  snapshot = snapshot;
  path = path;
}

-- a visit that is allowed, of a name that wasn't read
abbrev pub IsOpen : Visit → Walk → Type 0
IsOpen v w = ((w.left == 0) ≡ false) × (is_among w.read v.name ≡ false)

-- the snapshot in force is this one
abbrev pub IsSnapshot : InForce → Snapshot → Type 0
IsSnapshot set snapshot = option_map content_of set.snapshot ≡ Some snapshot

-- why there is no step: a pattern is malformed (a pinned name without a document never comes: it is had, or refused)
abbrev pub gap_error : Gap → Error
gap_error gap = Malformed rule.Pattern

-- the refusal is that of a gap
abbrev pub IsGap : Result Step Gap → Error → Type 0
IsGap r e = (gap : Gap) × (r ≡ Err gap) × (e ≡ gap_error gap)

-- The first visit that is pending is made: its document is had, it is read, and what follows it goes before the others, until none is
-- pending. The first that refuses answers; what was adopted before stays.
pub data Searches (session : Session) (snapshot : Snapshot) (path : List ℕ) : List Visit → Walk → State → State → Result Walk Error → Type 0 where
  ended : (w : Walk) (state : State) → Searches session snapshot path [] w state state (Ok w)
  short : (vs : List Visit) (w : Walk) (state : State) → Searches session snapshot path vs w state state (Err NoMemory)
  unready : (v : Visit) (vs : List Visit) (w : Walk) (old new : State) (e : Error) → Readies session v w old new (Err e)
      → Searches session snapshot path (v ∷ vs) w old new (Err e)
  gapped : (v : Visit) (vs : List Visit) (w : Walk) (old new : State) (e : Error) → Readies session v w old new (Ok tt)
      → (e ≢ NoMemory → IsGap (visit_of (tree_in new.documents snapshot path) v w) e)
      → Searches session snapshot path (v ∷ vs) w old new (Err e)
  visited : (v : Visit) (vs : List Visit) (w : Walk) (step : Step) (old mid new : State) (result : Result Walk Error)
      → Readies session v w old mid (Ok tt) → visit_of (tree_in mid.documents snapshot path) v w ≡ Ok step
      → Searches session snapshot path (pending_after v step vs) step.walk mid new result
      → Searches session snapshot path (v ∷ vs) w old new result

-- one visit whose document is there: what it leaves of the walk and of what is pending
abbrev pub Advances : Tree → Visit → List Visit → Walk → Walk → List Visit → Type 0
Advances tree v vs w w' vs' = (step : Step) × (visit_of tree v w ≡ Ok step) × (w' ≡ step.walk) × (vs' ≡ pending_after v step vs)

abbrev pub visits_in : Result Walk Error → Result (List Visit) Error
visits_in (Ok w) = Ok w.visits
visits_in (Err e) = Err e

-- The visits of the whole search, which begins with `targets`, in documents that serve it.
pub data FindsVisits (session : Session) (path : List ℕ) (old new : State) (result : Result (List Visit) Error) : Type 0 where
  unserved : (e : Error) → (e ≢ NoMemory → search_serves_of old.documents session.now ≡ Err e) → new ≡ old → result ≡ Err e
      → FindsVisits session path old new result
  searched : (snapshot : Held Snapshot) (answer : Result Walk Error) → search_serves_of old.documents session.now ≡ Ok tt
      → old.documents.snapshot ≡ Some snapshot
      → Searches session (content_of snapshot) path (first_visit ∷ []) (first_walk session.config.max_delegations) old new answer
      → result ≡ visits_in answer → FindsVisits session path old new result

-- ---- the entry

-- what the document of the last visit lists under the path; nothing where that visit read none
abbrev pub listed_by : InForce → List ℕ → List ℕ → Option TargetFile
listed_by set path name = option_and_then (λ (held : Held Targets). at_name path (content_of held).targets) (at_name name set.targets)

abbrev pub entry_after : InForce → List ℕ → List Visit → Option TargetFile
entry_after set path visits = option_and_then (λ (v : Visit). listed_by set path v.name) (last_or None visits)

-- the entry of a path, or none; want of memory for its copy tells nothing
pub data GivesInfo (session : Session) (path : List ℕ) (old new : State) (result : Result (Option TargetFile) Error) : Type 0 where
  unfound : (e : Error) → FindsVisits session path old new (Err e) → result ≡ Err e → GivesInfo session path old new result
  uncopied : (visits : List Visit) → FindsVisits session path old new (Ok visits) → result ≡ Err NoMemory
      → GivesInfo session path old new result
  given : (visits : List Visit) → FindsVisits session path old new (Ok visits) → result ≡ Ok (entry_after new.documents path visits)
      → GivesInfo session path old new result
