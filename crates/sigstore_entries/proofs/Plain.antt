-- What is written has no float, and nests no deeper than its type.
use Rattle.std.proofs.Common.{◌≡◌, ℕ, ◌≤◌, suc, List, [], ◌∷◌, map, false, Option, Some, None, option_map, refl, arith}
use Rattle.std.specs.Ordering.{nat_cmp, match_ordering}
use Rattle.std.specs.declared.cmp.Ordering.{Ordering}
use Rattle.std.specs.declared.cmp.Ordering.TheVariants.{Less, Equal, Greater}
use Rattle.std.specs.Cmp.Lexicographic.{slice_cmp}
use Rattle.std.proofs.lemmas.Bool.{or_from, or_parts}
use Rattle.serde_json.specs.Data.{Data, string, Items, Members, no_members, member, put, depth, items_depth, members_depth}
use Rattle.serde_json.specs.Written.{has_float, items_have_float, members_have_float}
use Rattle.serde_json.specs.View.{items_of}
use Rattle.sigstore_types_parts.specs.declared.member.TypesMember.{TypesMember}
use Rattle.sigstore_types_parts.specs.declared.member.TypesMember.TheVariants as m
use Rattle.sigstore_types_parts.specs.Error.{name_of}
use Rattle.sigstore_entries.specs.Writing.{octets_data, signed_data, list_data, some_list, with_member, members_of, object_of}
use Rattle.sigstore_entries.specs.Written.{kind_version_members, proof_members, entry_members, log_id_data, kind_version_data, checkpoint_data, proof_data, promise_data, entry_data}
use Rattle.sigstore_entries.specs.declared.checkpoint.Checkpoint.{Checkpoint}
use Rattle.sigstore_entries.specs.declared.entry.TransparencyLogEntry.{TransparencyLogEntry}
use Rattle.sigstore_entries.specs.declared.kind_version.KindVersion.{KindVersion}
use Rattle.sigstore_entries.specs.declared.log_id.LogId.{LogId}
use Rattle.sigstore_entries.specs.declared.inclusion_proof.InclusionProof.{InclusionProof}

-- a value without a float, of at most that depth
pub record IsPlain (n : ℕ) (d : Data) : Type 0 where
  pub whole : has_float d ≡ false
  pub low : depth d ≤ n

pub string_plain : (n : ℕ) (s : List ℕ) → IsPlain n (string s)
string_plain n s = record { whole = refl; low = omega arith }

-- ---- members

record ArePlain (n : ℕ) (ms : Members) : Type 0 where
  whole : members_have_float ms ≡ false
  low : members_depth ms ≤ n

one_more : (n : ℕ) (k : List ℕ) (d : Data) (ms : Members) → IsPlain n d → ArePlain n ms → ArePlain n (member k d ms)
one_more n k d ms p q = record { whole = or_from (has_float d) (members_have_float ms) p.whole q.whole; low = omega (arith, p.low, q.low) }

either : (n : ℕ) (o : Ordering) (a b c : Members) → ArePlain n a → ArePlain n b → ArePlain n c → ArePlain n (match_ordering o a b c)
either n Less a b c p q r = p
either n Equal a b c p q r = q
either n Greater a b c p q r = r

put_plain : (n : ℕ) (k : List ℕ) (d : Data) (ms : Members) → IsPlain n d → ArePlain n ms → ArePlain n (put k d ms)
put_plain n k d no_members p q = one_more n k d no_members p q
put_plain n k d (member l e ms) p q =
    let parts = or_parts (has_float e) (members_have_float ms) q.whole in
    let low = q.low in
    let first : IsPlain n e = record { whole = parts.0; low = omega arith } in
    let others : ArePlain n ms = record { whole = parts.1; low = omega arith } in
    either n (slice_cmp nat_cmp k l) _ _ _ (one_more n k d (member l e ms) p q) (one_more n l d ms p others) (one_more n l e (put k d ms) first (put_plain n k d ms p others))

-- a member that may be absent
abbrev pub IsPlainOption : ℕ → Option Data → Type 0
IsPlainOption n None = Unit {0}
IsPlainOption n (Some d) = IsPlain n d

abbrev pub ArePlainMembers : ℕ → List (TypesMember × Option Data) → Type 0
ArePlainMembers n [] = Unit {0}
ArePlainMembers n (first ∷ others) = IsPlainOption n first.1 × ArePlainMembers n others

with_plain : (n : ℕ) (m : TypesMember) (d : Option Data) (ms : Members) → IsPlainOption n d → ArePlain n ms → ArePlain n (with_member m d ms)
with_plain n m None ms p q = q
with_plain n m (Some d) ms p q = put_plain n (name_of m) d ms p q

members_plain : (n : ℕ) (members : List (TypesMember × Option Data)) → ArePlainMembers n members → ArePlain n (members_of members)
members_plain n [] h = record { whole = refl; low = omega arith }
members_plain n (first ∷ others) h = with_plain n first.0 first.1 (members_of others) h.0 (members_plain n others h.1)

pub object_plain : (n : ℕ) (members : List (TypesMember × Option Data)) → ArePlainMembers n members → IsPlain (suc n) (object_of members)
object_plain n members h = let all = members_plain n members h in record { whole = all.whole; low = omega (arith, all.low) }

-- ---- lists, and what may be absent

record ItemsPlain (n : ℕ) (ds : Items) : Type 0 where
  whole : items_have_float ds ≡ false
  low : items_depth ds ≤ n

items_plain : {T : Type 0} (n : ℕ) (writes : T → Data) (xs : List T) → ((x : T) → IsPlain n (writes x)) → ItemsPlain n (items_of (map writes xs))
items_plain n writes [] law = record { whole = refl; low = omega arith }
items_plain n writes (x ∷ xs) law =
    let first = law x in
    let others = items_plain n writes xs law in
    record { whole = or_from (has_float (writes x)) _ first.whole others.whole; low = omega (arith, first.low, others.low) }

pub list_plain : {T : Type 0} (n : ℕ) (writes : T → Data) (xs : List T) → ((x : T) → IsPlain n (writes x)) → IsPlain (suc n) (list_data writes xs)
list_plain n writes xs law = let all = items_plain n writes xs law in record { whole = all.whole; low = omega (arith, all.low) }

pub some_list_plain : {T : Type 0} (n : ℕ) (writes : T → Data) (xs : List T) → ((x : T) → IsPlain n (writes x)) → IsPlainOption (suc n) (some_list writes xs)
some_list_plain n writes [] law = tt
some_list_plain n writes (x ∷ xs) law = list_plain n writes (x ∷ xs) law

pub option_plain : {T : Type 0} (n : ℕ) (writes : T → Data) (o : Option T) → ((x : T) → IsPlain n (writes x)) → IsPlainOption n (option_map writes o)
option_plain n writes None law = tt
option_plain n writes (Some x) law = law x

-- ---- entries

kind_plain : (n : ℕ) (v : KindVersion) → IsPlain (suc n) (kind_version_data v)
unfolding kind_version_data
kind_plain n v = object_plain n (kind_version_members v) (string_plain n _, (string_plain n _, tt))

log_id_plain : (n : ℕ) (v : LogId) → IsPlain (suc n) (log_id_data v)
unfolding log_id_data
log_id_plain n v = object_plain n ((m.KeyId, Some (octets_data v.key_id)) ∷ []) (string_plain n _, tt)

checkpoint_plain : (n : ℕ) (v : Checkpoint) → IsPlain (suc n) (checkpoint_data v)
unfolding checkpoint_data
checkpoint_plain n v = object_plain n ((m.Envelope, Some (string v.text)) ∷ []) (string_plain n _, tt)

proof_plain : (n : ℕ) (v : InclusionProof) → IsPlain (suc (suc n)) (proof_data v)
unfolding proof_data
proof_plain n v =
    let leaf : (s : List ℕ) → IsPlain (suc n) (string s) = string_plain (suc n) in
    object_plain (suc n) (proof_members v) (
      option_plain (suc n) checkpoint_data v.checkpoint.checkpoint (checkpoint_plain n),
      (some_list_plain n octets_data v.hashes (λ x. string_plain n _), (leaf _, (leaf _, (leaf _, tt)))),
    )

promise_plain : (n : ℕ) (v : List ℕ) → IsPlain (suc n) (promise_data v)
promise_plain n v = object_plain n ((m.SignedEntryTimestamp, Some (octets_data v)) ∷ []) (string_plain n _, tt)

pub entry_plain : (n : ℕ) (v : TransparencyLogEntry) → IsPlain (suc (suc (suc n))) (entry_data v)
unfolding entry_data
entry_plain n v =
    let leaf : (s : List ℕ) → IsPlain (suc (suc n)) (string s) = string_plain (suc (suc n)) in
    object_plain (suc (suc n)) (entry_members v) (
      leaf _,
      (
        option_plain (suc (suc n)) promise_data v.inclusion_promise (promise_plain (suc n)),
        (
          option_plain (suc (suc n)) proof_data v.inclusion_proof (proof_plain n),
          (
            option_plain (suc (suc n)) signed_data v.integrated_time (λ x. leaf _),
            (kind_plain (suc n) v.kind_version, (log_id_plain (suc n) v.log_id, (leaf _, tt))),
          ),
        ),
      ),
    )
