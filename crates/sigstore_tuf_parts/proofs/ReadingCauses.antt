-- Bytes that aren't read as a document have the cause of their refusal.
use Rattle.std.proofs.Common.{◌≡◌, ℕ, List, [], ◌∷◌, Bool, true, false, if◌then◌else◌, bytes_eq, Option, Some, None, is_some, option_and_then, ok_or, Result, Ok, Err, codes, refl, sym, ap, ◌∙◌, subst, ◌⊎◌, inl, inr, ⊎_elim}
use Rattle.std.specs.Prelude.{⊤}
use Rattle.serde_json.specs.Written.{has_float}
use Rattle.serde_json.specs.Data.{Data, Items, no_items, item, Members, no_members, member}
use Rattle.serde_json.specs.Find.{get, as_null, as_bool, as_number, as_u64, as_str, as_array, as_object}
use Rattle.foundation.specs.Steps.{◌>>=◌}
use Rattle.sigstore_types_parts.specs.Instant.{instant_of}
use Rattle.sigstore_types_parts.specs.Parse.{json_of_bytes, parsed_of}
use Rattle.sigstore_types_parts.specs.Read as read
use Rattle.sigstore_types_parts.specs.Read.{required_of, optional_of, defaulted_of, sequence_of, map_of}
use Rattle.sigstore_types_parts.specs.declared.parse.JsonFault.{JsonFault}
use Rattle.sigstore_types_parts.specs.declared.parse.JsonFault.TheVariants as fault
use Rattle.sigstore_tuf_text.specs.declared.error.Error.{Error}
use Rattle.sigstore_tuf_text.specs.declared.error.Error.TheVariants as tuf
use Rattle.sigstore_tuf_text.specs.declared.error.Rule.{Rule}
use Rattle.sigstore_tuf_text.specs.declared.error.Rule.TheVariants as rule
use Rattle.sigstore_tuf_text.specs.declared.member.DocumentMember.{DocumentMember}
use Rattle.sigstore_tuf_text.specs.declared.member.DocumentMember.TheVariants as m
use Rattle.sigstore_tuf_parts.specs.Cause.{HasFrame, ReadCause}
use Rattle.sigstore_tuf_parts.specs.Document.{value_of, frame_of, signature_of, content_of, document_in, document_of}
use Rattle.sigstore_tuf_text.specs.Error.{error_of_fault}
use Rattle.sigstore_tuf_parts.specs.Head.{head_of}
use Rattle.sigstore_tuf_parts.specs.Header.{is_version_one_text, where_text, kind_of, spec_version_of, header_of}
use Rattle.sigstore_tuf_parts.specs.Keys.{key_val_of, key_in_of, role_keys_of}
use Rattle.sigstore_tuf_parts.specs.Root.{root_of}
use Rattle.sigstore_tuf_parts.specs.Snapshot.{snapshot_of}
use Rattle.sigstore_tuf_parts.specs.Targets.{target_file_of, grant_of, delegated_role_of, delegations_of, targets_of}
use Rattle.sigstore_tuf_parts.specs.Timestamp.{meta_file_of, timestamp_of}
use Rattle.sigstore_tuf_text.specs.Words.{member_name, required, optional, defaulted, u64, bool, text, moment, json, sequence, map}
use Rattle.sigstore_tuf_parts.proofs.Steps.{same_refusal, refused_by}

-- ---- each refusal of a reader is Json

abbrev IsJson : {T : Type 0} → Result T Error → Type 0
IsJson r = (e : Error) → r ≡ Err e → e ≡ tuf.Json

-- a reader refuses with Json alone
abbrev pub OnlyJson : {T : Type 0} → (Data → Result T Error) → Type 0
OnlyJson reads = (d : Data) (e : Error) → reads d ≡ Err e → e ≡ tuf.Json

given : {T : Type 0} (x : T) → IsJson (Ok x)
given x e h = cc

bind : {A B : Type 0} {r : Result A Error} {f : A → Result B Error} → IsJson r → ((a : A) → IsJson (f a)) → IsJson (r >>= f)
bind {r = r} {f = f} first later e h = ⊎_elim (λ g. first e g) (λ g. later g.0 e g.2) (refused_by r f e h)

or_json : {A : Type 0} (o : Option A) → IsJson (ok_or o tuf.Json)
or_json (Some x) e h = cc
or_json None e h = cc

object_only : (d : Data) (b : Bool) → IsJson (if b then Ok d else Err tuf.Json)
object_only d true e h = cc
object_only d false e h = cc

placed : {T : Type 0} (r : Result T Error) → IsJson r → IsJson (read.at (λ e. e) r)
placed (Ok x) is = is
placed (Err x) is = is

required_in_only : {T : Type 0} (reads : Data → Result T Error) → OnlyJson reads → (o : Option Data) → IsJson (read.required_in tuf.Json reads o)
required_in_only reads only None = λ e h. cc
required_in_only reads only (Some d) = only d

required_only : {T : Type 0} {reads : Data → Result T Error} → OnlyJson reads → (m : DocumentMember) → OnlyJson (required reads m)
unfolding required_of
required_only {reads = reads} only m d =
    bind (object_only d (is_some (as_object d))) (λ o. placed (read.required_in tuf.Json reads (get (member_name m) o)) (required_in_only reads only (get (member_name m) o)))

nullable_only : {T : Type 0} (reads : Data → Result T Error) → OnlyJson reads → (d : Data) (b : Bool) → IsJson (if b then Ok None else (reads d >>= λ x. Ok (Some x)))
nullable_only reads only d true = given None
nullable_only reads only d false = bind (only d) (λ x. given (Some x))

optional_in_only : {T : Type 0} (reads : Data → Result T Error) → OnlyJson reads → (o : Option Data) → IsJson (read.optional_in reads o)
optional_in_only reads only None = given None
optional_in_only reads only (Some d) = nullable_only reads only d (is_some (as_null d))

optional_only : {T : Type 0} {reads : Data → Result T Error} → OnlyJson reads → (m : DocumentMember) → OnlyJson (optional reads m)
unfolding optional_of
optional_only {reads = reads} only m d =
    bind (object_only d (is_some (as_object d))) (λ o. placed (read.optional_in reads (get (member_name m) o)) (optional_in_only reads only (get (member_name m) o)))

defaulted_in_only : {T : Type 0} (reads : Data → Result T Error) (default : T) → OnlyJson reads → (o : Option Data) → IsJson (read.defaulted_in reads default o)
defaulted_in_only reads default only None = given default
defaulted_in_only reads default only (Some d) = only d

defaulted_only : {T : Type 0} {reads : Data → Result T Error} → OnlyJson reads → (m : DocumentMember) (default : T) → OnlyJson (defaulted reads m default)
unfolding defaulted_of
defaulted_only {reads = reads} only m default d =
    bind (object_only d (is_some (as_object d))) (λ o. placed (read.defaulted_in reads default (get (member_name m) o)) (defaulted_in_only reads default only (get (member_name m) o)))

u64_only : OnlyJson u64
u64_only d = or_json (option_and_then as_u64 (as_number d))

bool_only : OnlyJson bool
bool_only d = or_json (as_bool d)

text_only : OnlyJson text
text_only d = or_json (as_str d)

moment_only : OnlyJson moment
moment_only d = or_json (option_and_then instant_of (as_str d))

json_only : OnlyJson json
json_only d = given d

items_only : {T : Type 0} (reads : Data → Result T Error) → OnlyJson reads → (ds : Items) → IsJson (read.items_of reads ds)
items_only reads only no_items = given []
items_only reads only (item d ds) = bind (only d) (λ x. bind (items_only reads only ds) (λ rest. given (x ∷ rest)))

sequence_only : {T : Type 0} {reads : Data → Result T Error} → OnlyJson reads → OnlyJson (sequence reads)
unfolding sequence_of
sequence_only {reads = reads} only d = bind (or_json (as_array d)) (items_only reads only)

entries_only : {T : Type 0} (reads : Data → Result T Error) → OnlyJson reads → (ms : Members) → IsJson (read.entries_of reads ms)
entries_only reads only no_members = given []
entries_only reads only (member k d ms) = bind (only d) (λ x. bind (entries_only reads only ms) (λ rest. given ((k, x) ∷ rest)))

map_only : {T : Type 0} {reads : Data → Result T Error} → OnlyJson reads → OnlyJson (map reads)
unfolding map_of
map_only {reads = reads} only d = bind (or_json (as_object d)) (entries_only reads only)

-- ---- the parts of documents

head_only : OnlyJson head_of
unfolding head_of
head_only d =
    bind (required_only text_only m.Type d) (λ type_.
    bind (required_only text_only m.SpecVersion d) (λ spec_version.
    bind (required_only u64_only m.Version d) (λ version.
    bind (required_only moment_only m.Expires d) (λ expires. given _))))

key_val_only : OnlyJson key_val_of
unfolding key_val_of
key_val_only d = bind (required_only text_only m.Public d) (λ public. given _)

key_in_only : OnlyJson key_in_of
unfolding key_in_of
key_in_only d =
    bind (required_only text_only m.Keytype d) (λ keytype.
    bind (required_only text_only m.Scheme d) (λ scheme.
    bind (required_only key_val_only m.Keyval d) (λ keyval. given _)))

role_keys_only : OnlyJson role_keys_of
unfolding role_keys_of
role_keys_only d =
    bind (required_only (sequence_only text_only) m.Keyids d) (λ keyids.
    bind (required_only u64_only m.Threshold d) (λ threshold. given _))

meta_file_only : OnlyJson meta_file_of
unfolding meta_file_of
meta_file_only d =
    bind (required_only u64_only m.Version d) (λ version.
    bind (optional_only u64_only m.Length d) (λ length.
    bind (optional_only (map_only text_only) m.Hashes d) (λ hashes. given _)))

target_file_only : OnlyJson target_file_of
unfolding target_file_of
target_file_only d =
    bind (required_only u64_only m.Length d) (λ length.
    bind (required_only (map_only text_only) m.Hashes d) (λ hashes.
    bind (optional_only json_only m.Custom d) (λ custom. given _)))

grant_only : OnlyJson grant_of
unfolding grant_of
grant_only d =
    bind (required_only text_only m.Name d) (λ name.
    bind (required_only (sequence_only text_only) m.Keyids d) (λ keyids.
    bind (required_only u64_only m.Threshold d) (λ threshold. given _)))

delegated_role_only : OnlyJson delegated_role_of
unfolding delegated_role_of
delegated_role_only d =
    bind (grant_only d) (λ grant.
    bind (defaulted_only bool_only m.Terminating false d) (λ terminating.
    bind (optional_only (sequence_only text_only) m.Paths d) (λ paths.
    bind (optional_only (sequence_only text_only) m.PathHashPrefixes d) (λ prefixes. given _))))

delegations_only : OnlyJson delegations_of
unfolding delegations_of
delegations_only d =
    bind (required_only (map_only key_in_only) m.Keys d) (λ keys.
    bind (defaulted_only (sequence_only delegated_role_only) m.Roles [] d) (λ roles. given _))

signature_only : OnlyJson signature_of
unfolding signature_of
signature_only d =
    bind (required_only text_only m.Keyid d) (λ keyid.
    bind (required_only text_only m.Sig d) (λ sig. given _))

-- ---- documents

pub root_only : OnlyJson root_of
unfolding root_of
root_only d =
    bind (head_only d) (λ head.
    bind (defaulted_only bool_only m.ConsistentSnapshot false d) (λ consistent.
    bind (required_only (map_only key_in_only) m.Keys d) (λ keys.
    bind (required_only (map_only role_keys_only) m.Roles d) (λ roles. given _))))

pub timestamp_only : OnlyJson timestamp_of
unfolding timestamp_of
timestamp_only d =
    bind (head_only d) (λ head.
    bind (required_only (map_only meta_file_only) m.Meta d) (λ meta. given _))

pub snapshot_only : OnlyJson snapshot_of
unfolding snapshot_of
snapshot_only d =
    bind (head_only d) (λ head.
    bind (required_only (map_only meta_file_only) m.Meta d) (λ meta. given _))

pub targets_only : OnlyJson targets_of
unfolding targets_of
targets_only d =
    bind (head_only d) (λ head.
    bind (required_only (map_only target_file_only) m.Targets d) (λ targets.
    bind (optional_only delegations_only m.Delegations d) (λ delegations. given _)))

-- ---- the frame

module _ {T : Type 0} (kind : List ℕ) (reads : Data → Result T Error) (only : OnlyJson reads) (bytes : List ℕ) (e : Error) where
  abbrev Cause : Error → Type 0
  Cause = ReadCause kind reads bytes

  -- a text passes the test, or the refusal is of its rule
  refused_text : (test : List ℕ → Bool) (r : Rule) (o : Option (List ℕ)) → where_text test r o ≡ Err e
      → (s : List ℕ) × (o ≡ Some s) × (test s ≡ false) × (e ≡ tuf.Malformed r)
  refused_text test r None h = cc
  refused_text test r (Some s) h = by_test (test s) refl h
    where
      by_test : (b : Bool) → test s ≡ b → ◌≡◌ {A = Result ⊤ Error} (if b then Ok tt else Err (tuf.Malformed r)) (Err e)
          → (t : List ℕ) × (Some s ≡ Some t) × (test t ≡ false) × (e ≡ tuf.Malformed r)
      by_test true p h = cc
      by_test false p h = (s, refl, p, cc)

  module _ (signed signatures : Data) (frame : HasFrame bytes signed signatures) where
    by_kind : kind_of kind signed ≡ Err e → Cause e
    unfolding kind_of
    by_kind h =
        let g = refused_text (λ s. bytes_eq s kind) rule.Kind (option_and_then as_str (get (codes "_type") signed)) h in
        subst Cause (sym g.3) (record { signed = signed; signatures = signatures; frame = frame; text = g.0; named = g.1; other = g.2 })

    by_spec_version : spec_version_of signed ≡ Err e → Cause e
    unfolding spec_version_of
    by_spec_version h =
        let g = refused_text is_version_one_text rule.SpecVersion (option_and_then as_str (get (codes "spec_version") signed)) h in
        subst Cause (sym g.3) (record { signed = signed; signatures = signatures; frame = frame; text = g.0; named = g.1; other = g.2 })

    by_header : header_of kind signed ≡ Err e → Cause e
    unfolding header_of
    by_header h = ⊎_elim by_kind (λ g. by_spec_version g.2) (refused_by (kind_of kind signed) (λ x. spec_version_of signed) e h)

    by_signatures : sequence signature_of signatures ≡ Err e → Cause e
    by_signatures h =
        let is : e ≡ tuf.Json = sequence_only signature_only signatures e h in
        subst Cause (sym is) (inr (record { signed = signed; signatures = signatures; frame = frame; unread = inl (h ∙ ap Err is) }))

    by_reads : reads signed ≡ Err e → Cause e
    by_reads h =
        let is : e ≡ tuf.Json = only signed e h in
        subst Cause (sym is) (inr (record { signed = signed; signatures = signatures; frame = frame; unread = inr (h ∙ ap Err is) }))

    by_content : content_of kind reads signed signatures ≡ Err e → Cause e
    unfolding content_of
    by_content h = ⊎_elim by_header (λ g. ⊎_elim by_signatures (λ k. ⊎_elim by_reads (λ j. cc) (refused_by (reads signed) _ e k.2)) (refused_by (sequence signature_of signatures) _ e g.2)) (refused_by (header_of kind signed) _ e h)

  module _ (value : Data) (parsed : parsed_of bytes ≡ Ok value) where
    lacks : (get (codes "signed") value ≡ None) ⊎ (get (codes "signatures") value ≡ None) → Cause (tuf.Malformed rule.Frame)
    lacks lacking = record { value = value; parsed = parsed; lacking = lacking }

    with_signatures : (signed : Data) → get (codes "signed") value ≡ Some signed → (o : Option Data) → get (codes "signatures") value ≡ o
        → (ok_or o (tuf.Malformed rule.Frame) >>= λ signatures. content_of kind reads signed signatures) ≡ Err e → Cause e
    with_signatures signed s None p h = same_refusal Cause (tuf.Malformed rule.Frame) e h (lacks (inr p))
    with_signatures signed s (Some signatures) p h = by_content signed signatures (record { value = value; parsed = parsed; signed_there = s; signatures_there = p }) h

    with_signed : (o : Option Data) → get (codes "signed") value ≡ o
        → (ok_or o (tuf.Malformed rule.Frame) >>= λ signed. frame_of (codes "signatures") value >>= λ signatures. content_of kind reads signed signatures) ≡ Err e → Cause e
    unfolding frame_of
    with_signed None p h = same_refusal Cause (tuf.Malformed rule.Frame) e h (lacks (inl p))
    with_signed (Some signed) p h = with_signatures signed p (get (codes "signatures") value) refl h

    by_document : document_in kind reads value ≡ Err e → Cause e
    unfolding document_in frame_of
    by_document h = with_signed (get (codes "signed") value) refl h

  by_fault : (f : JsonFault) → (parsed_of bytes ≡ Err f → Cause (error_of_fault f)) → parsed_of bytes ≡ Err f → document_of kind reads bytes ≡ Err e → Cause e
  unfolding document_of value_of
  by_fault f cause p h = same_refusal Cause (error_of_fault f) e (sym q ∙ h) (cause p)
    where
      q : document_of kind reads bytes ≡ Err (error_of_fault f)
      q = rw p refl

  -- reading a text never lacks memory
  no_memory : parsed_of bytes ≡ Err fault.NoMemory → ⊥
  unfolding parsed_of
  no_memory h = by_json (json_of_bytes bytes) h
    where
      by_float : (d : Data) (b : Bool) → ◌≡◌ {A = Result Data JsonFault} (if b then Err fault.Float else Ok d) (Err fault.NoMemory) → ⊥
      by_float d true h = cc
      by_float d false h = cc

      by_json : (o : Option Data) → (ok_or o fault.NotJson >>= λ d. if has_float d then Err fault.Float else Ok d) ≡ Err fault.NoMemory → ⊥
      by_json None h = cc
      by_json (Some d) h = by_float d (has_float d) h

  by_parsed : (r : Result Data JsonFault) → parsed_of bytes ≡ r → document_of kind reads bytes ≡ Err e → Cause e
  unfolding document_of value_of
  by_parsed (Err fault.NotJson) p h = by_fault fault.NotJson (λ q. inl q) p h
  by_parsed (Err fault.Float) p h = by_fault fault.Float (λ q. q) p h
  by_parsed (Err fault.NoMemory) p h = absurd (no_memory p)
  by_parsed (Ok value) p h = by_document value p (sym q ∙ h)
    where
      q : document_of kind reads bytes ≡ document_in kind reads value
      q = rw p refl

  pub read_cause : document_of kind reads bytes ≡ Err e → ReadCause kind reads bytes e
  read_cause h = by_parsed (parsed_of bytes) refl h
