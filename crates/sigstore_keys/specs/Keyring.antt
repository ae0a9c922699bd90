-- A ring of keys: a finite map from ids to keys, each with the window in which it is used, where one is given.
use Rattle.std.specs.Prelude.{◌≡◌, ℕ, List, [], ◌∷◌, Bool, true, ◌&&◌, nat_eq, if◌then◌else◌, ⊤, Option, Some, None, Result, Err}
use Rattle.std.specs.Ordering.{is_gt}
use Rattle.std.specs.List.{starts_with, list_any}
use Rattle.std.specs.BTreeMap.{insert_entry}
use Rattle.jiff_core.specs.declared.timestamp.Timestamp.{Timestamp}
use Rattle.sigstore_types_parts.specs.declared.time_range.TimeRange.{TimeRange}
use Rattle.sigstore_types_parts.specs.TimeRange.{contains, has_started}
use Rattle.sigstore_types_parts.specs.Entries.{text_cmp, at_name}
use Rattle.sigstore_keys.specs.declared.error.Error.{Error}
use Rattle.sigstore_keys.specs.declared.error.Error.TheVariants.{Verification}
use Rattle.sigstore_keys.specs.declared.error.VerificationFault.TheVariants as fault
use Rattle.sigstore_keys.specs.declared.key.VerificationKey.{VerificationKey}
use Rattle.sigstore_keys.specs.declared.keyring.HeldKey.{HeldKey}
use Rattle.sigstore_keys.specs.declared.scheme.SigningScheme.{SigningScheme}
use Rattle.sigstore_keys.specs.Good.{Judge, is_good, verified_of, Good}
use Rattle.sigstore_keys.specs.Key.{same_sort}
use Rattle.sigstore_keys.specs.Scheme.{key_algorithm_of}

-- the ids with what is held under each, in ascending order of the ids' bytes
abbrev pub Ring : Type 0
Ring = List (List ℕ × HeldKey)

-- what is held under an id
abbrev pub held_at : List ℕ → Ring → Option HeldKey
held_at id ring = at_name id ring

-- the ring with a key held under an id, in place of the one there
abbrev pub with_held : List ℕ → HeldKey → Ring → Ring
with_held id held ring = insert_entry text_cmp ring id held

-- ---- windows; a key without one is used at any time

abbrev pub is_used_at : Timestamp → Option TimeRange → Bool
is_used_at time None = true
is_used_at time (Some window) = contains window time

abbrev pub is_used_by : Timestamp → Option TimeRange → Bool
is_used_by time None = true
is_used_by time (Some window) = has_started window time

-- ---- the key under an id

-- the key, where its window passes the test
abbrev pub key_where : (Option TimeRange → Bool) → Option HeldKey → Option VerificationKey
key_where test None = None
key_where test (Some held) = if test held.validity then Some held.key else None

abbrev pub key_in : List ℕ → Ring → Option VerificationKey
key_in id ring = key_where (λ window. true) (held_at id ring)

-- the key that is used at a time
abbrev pub key_at : List ℕ → Timestamp → Ring → Option VerificationKey
key_at id time ring = key_where (is_used_at time) (held_at id ring)

-- the key whose window has started by a time
abbrev pub key_by : List ℕ → Timestamp → Ring → Option VerificationKey
key_by id time ring = key_where (is_used_by time) (held_at id ring)

-- ---- the keys by a hint

-- the id begins with the hint, and the window has started by the time
abbrev pub is_meant : List ℕ → Timestamp → List ℕ × HeldKey → Bool
is_meant hint time entry = starts_with nat_eq entry.0 hint && is_used_by time entry.1.validity

abbrev pub keys_meant : List ℕ → Timestamp → Ring → List VerificationKey
keys_meant hint time [] = []
keys_meant hint time (entry ∷ ring) =
    if is_meant hint time entry then entry.1.key ∷ keys_meant hint time ring else keys_meant hint time ring

-- ---- the sorts of keys

-- the key is of the sort that signs under the scheme
abbrev pub is_key_of : SigningScheme → HeldKey → Bool
is_key_of scheme held = same_sort (key_algorithm_of held.key.scheme) (key_algorithm_of scheme)

-- some key, under any id and at any time, is
abbrev pub has_key_of : SigningScheme → Ring → Bool
has_key_of scheme ring = list_any (λ entry. is_key_of scheme entry.1) ring

-- ---- signatures

abbrev pub verified_with : Judge → Option VerificationKey → List ℕ → List ℕ → Result ⊤ Error
verified_with accepts None message signature = Err (Verification fault.NoKey)
verified_with accepts (Some key) message signature = verified_of accepts key message signature

-- the ring has a key under the id, by which the signature is good
pub record GoodUnder (accepts : Judge) (ring : Ring) (message signature id : List ℕ) : Type 0 where
  pub key : VerificationKey
  pub held : key_in id ring ≡ Some key
  pub good : Good accepts key message signature

-- ---- who signed

-- the hint means the key, and by it the signature is good
abbrev pub is_signer : Judge → List ℕ → Timestamp → List ℕ → List ℕ → List ℕ × HeldKey → Bool
is_signer accepts hint time message signature entry = is_meant hint time entry && is_good accepts entry.1.key message signature

-- the ids of the keys of which that holds
abbrev pub signers_of : Judge → List ℕ → Timestamp → List ℕ → List ℕ → Ring → List (List ℕ)
signers_of accepts hint time message signature [] = []
signers_of accepts hint time message signature (entry ∷ ring) =
    if is_signer accepts hint time message signature entry then entry.0 ∷ signers_of accepts hint time message signature ring
    else signers_of accepts hint time message signature ring

-- the lesser of two ids, by their bytes
abbrev pub lesser : Option (List ℕ) → Option (List ℕ) → Option (List ℕ)
lesser None other = other
lesser (Some id) None = Some id
lesser (Some id) (Some other) = if is_gt (text_cmp id other) then Some other else Some id

-- the least of ids
abbrev pub least_of : List (List ℕ) → Option (List ℕ)
least_of [] = None
least_of (id ∷ ids) = lesser (Some id) (least_of ids)

-- the least id of those by whose key the signature is good
abbrev pub least_signer_of : Judge → List ℕ → Timestamp → List ℕ → List ℕ → Ring → Option (List ℕ)
least_signer_of accepts hint time message signature ring = least_of (signers_of accepts hint time message signature ring)
