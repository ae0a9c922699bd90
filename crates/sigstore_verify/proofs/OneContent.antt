-- Two signatures that are described by one body are one, over one content, or over two with one SHA-256 value.
use Rattle.std.proofs.Common.{◌≡◌, ◌<◌, ◌^◌, ℕ, ℤ, List, length, codes, bytes_eq, Bool, true, false, if◌then◌else◌, Option, Some, None, Result, Ok, Err, refl, sym, ap, ◌∙◌, subst, arith}
use Rattle.std.specs.Prelude.{⊤, MatchOption}
use Rattle.std.specs.Bool.{Decides}
use Rattle.std.proofs.lemmas.Slice.Eq.{bytes_eq-Decides}
use Rattle.serde_json.specs.Data.{Data}
use Rattle.sha2.specs.Sha256.{sha256}
use Rattle.foundation.specs.Results.{ok_same, some_same, step_ok}
use Rattle.sigstore_types_parts.specs.declared.hash_algorithm.HashAlgorithm.TheVariants.{Sha2256}
use Rattle.sigstore_entries.specs.declared.entry.TransparencyLogEntry.{TransparencyLogEntry}
use Rattle.sigstore_entries.specs.declared.kind_version.KindVersion.{KindVersion}
use Rattle.sigstore_entries.specs.declared.kind_version.KindVersion.TheVariants as kind
use Rattle.sigstore_envelopes.specs.declared.envelope.DsseEnvelope.{DsseEnvelope}
use Rattle.sigstore_envelopes.specs.declared.statement.Statement.{Statement}
use Rattle.sigstore_envelopes.specs.Encoding.{encoding_of}
use Rattle.sigstore_envelopes.proofs.Distinct.{distinct}
use Rattle.sigstore_merkle.specs.Collision.{IsCollision}
use Rattle.sigstore_rekor_parts.specs.Body.{body_json_of, body_of_value, body_of}
use Rattle.sigstore_rekor_parts.specs.HashedRekord.{hashed_rekord_v001_of, hashed_rekord_v002_of}
use Rattle.sigstore_rekor_parts.specs.Dsse.{dsse_v001_of, dsse_v002_of}
use Rattle.sigstore_rekor_parts.specs.Intoto.{intoto_v002_of}
use Rattle.sigstore_rekor_parts.specs.declared.body.RekorEntryBody.{RekorEntryBody}
use Rattle.sigstore_rekor_parts.specs.declared.body.RekorEntryBody.TheVariants as body
use Rattle.sigstore_binding.specs.declared.error.BindingError.{BindingError}
use Rattle.sigstore_binding.specs.Checks.{Check, Passes, AllPass}
use Rattle.sigstore_binding.specs.Described as binding
use Rattle.sigstore_binding.specs.Rows.{Message, Envelope, of_sole, sole, row_of}
use Rattle.sigstore_binding.specs.Verifier.{Readings, Signatory}
use Rattle.sigstore_types.specs.declared.content.SignatureContent.{SignatureContent}
use Rattle.sigstore_types.specs.declared.content.SignatureContent.TheVariants.{MessageSignature as OfMessage, DsseEnvelope as OfEnvelope}
use Rattle.sigstore_judgement.specs.Artifact.{Artifact, digest_of}
use Rattle.sigstore_judgement.specs.declared.error.Error.{Error}
use Rattle.sigstore_judgement.specs.declared.error.Error.TheVariants.{UnsupportedBundle}
use Rattle.sigstore_judgement.specs.Claim.{Claim, OfStatement, is_in_toto, typed_of, stated_of, claim_of}
use Rattle.sigstore_judgement.specs.Content.{signed_in}
use Rattle.sigstore_verify.specs.OnePlace.{differing, envelopes_differ, contents_differ, IsOneForm, IsSame}
use Rattle.sigstore_verify.proofs.Digests.{one_text}

-- ---- the kind of a body

kind_in : RekorEntryBody → KindVersion
kind_in (body.HashedRekordV001 b) = kind.HashedRekordV001
kind_in (body.HashedRekordV002 b) = kind.HashedRekordV002
kind_in (body.DsseV001 b) = kind.DsseV001
kind_in (body.DsseV002 b) = kind.DsseV002
kind_in (body.IntotoV002 b) = kind.IntotoV002

value_kind : (k : KindVersion) (d : Data) (b : RekorEntryBody) → body_of_value k d ≡ Ok b → k ≡ kind_in b
unfolding body_of_value kind_in
value_kind kind.HashedRekordV001 d b h = let s = step_ok (hashed_rekord_v001_of d) (λ x. Ok (body.HashedRekordV001 x)) b h in ap kind_in (ok_same _ _ s.2)
value_kind kind.HashedRekordV002 d b h = let s = step_ok (hashed_rekord_v002_of d) (λ x. Ok (body.HashedRekordV002 x)) b h in ap kind_in (ok_same _ _ s.2)
value_kind kind.DsseV001 d b h = let s = step_ok (dsse_v001_of d) (λ x. Ok (body.DsseV001 x)) b h in ap kind_in (ok_same _ _ s.2)
value_kind kind.DsseV002 d b h = let s = step_ok (dsse_v002_of d) (λ x. Ok (body.DsseV002 x)) b h in ap kind_in (ok_same _ _ s.2)
value_kind kind.IntotoV002 d b h = let s = step_ok (intoto_v002_of d) (λ x. Ok (body.IntotoV002 x)) b h in ap kind_in (ok_same _ _ s.2)

body_kind : (k : KindVersion) (bytes : List ℕ) (b : RekorEntryBody) → body_of k bytes ≡ Ok b → k ≡ kind_in b
unfolding body_of
body_kind k bytes b h = let s = step_ok (body_json_of bytes) (body_of_value k) b h in value_kind k s.0 b s.2

-- ---- checks that two signatures pass

-- what the entry logged is read, and is what the signature has
abbrev IsOwn : Result (List ℕ) BindingError → Option (List ℕ) → Type 0
IsOwn logged own = (bytes : List ℕ) × (logged ≡ Ok bytes) × (own ≡ Some bytes)

same_own : (logged : Result (List ℕ) BindingError) (own other : Option (List ℕ)) → IsOwn logged own → IsOwn logged other → (x : List ℕ) × (own ≡ Some x) × (other ≡ Some x)
same_own logged own other p q = (p.0, p.2, q.2 ∙ ap Some (ok_same _ _ (sym q.1 ∙ p.1)))

same_one : (logged : Result (List ℕ) BindingError) (own other : List ℕ) → IsOwn logged (Some own) → IsOwn logged (Some other) → own ≡ other
same_one logged own other p q = let one = same_own logged (Some own) (Some other) p q in some_same _ _ (one.1 ∙ sym one.2)

both_sole : {A : Type 0} (r : Result A BindingError) (f g : A → Check) → Passes (of_sole f r) → Passes (of_sole g r) → (x : A) × Passes (f x) × Passes (g x)
both_sole (Ok x) f g p q = (x, p, q)
both_sole (Err e) f g p q = cc

-- ---- a message

messages : (r r' : Readings) (w w' : Signatory) (o o' : Option (List ℕ)) (s s' : List ℕ) (t t' : Option ℤ) (b : RekorEntryBody)
    → AllPass (row_of r w (Message o s) t b) → AllPass (row_of r' w' (Message o' s') t' b)
    → (s ≡ s') × ((x : List ℕ) × (o ≡ Some x) × (o' ≡ Some x))
messages r r' w w' o o' s s' t t' (body.HashedRekordV001 b) p q = (same_one _ _ _ p.1.1.0 q.1.1.0, same_own _ _ _ p.0 q.0)
messages r r' w w' o o' s s' t t' (body.HashedRekordV002 b) p q = (same_one _ _ _ p.1.1.1.0 q.1.1.1.0, same_own _ _ _ p.1.0 q.1.0)
messages r r' w w' o o' s s' t t' (body.DsseV001 b) p q = let no = p.0 in cc
messages r r' w w' o o' s s' t t' (body.DsseV002 b) p q = let no = p.0 in cc
messages r r' w w' o o' s s' t t' (body.IntotoV002 b) p q = let no = p.0 in cc

-- ---- an envelope

-- what is named by one digest
IsNamed : KindVersion → DsseEnvelope → DsseEnvelope → Type 0
IsNamed kind.HashedRekordV001 d e = ⊥
IsNamed kind.HashedRekordV002 d e = sha256 (encoding_of d) ≡ sha256 (encoding_of e)
IsNamed kind.DsseV001 d e = sha256 d.payload ≡ sha256 e.payload
IsNamed kind.DsseV002 d e = ⊥
IsNamed kind.IntotoV002 d e = sha256 d.payload ≡ sha256 e.payload

envelopes : (r r' : Readings) (w w' : Signatory) (d e : DsseEnvelope) (t t' : Option ℤ) (b : RekorEntryBody)
    → AllPass (row_of r w (Envelope d) t b) → AllPass (row_of r' w' (Envelope e) t' b)
    → (d.signature.sig ≡ e.signature.sig) × IsNamed (kind_in b) d e
unfolding kind_in IsNamed
envelopes r r' w w' d e t t' (body.HashedRekordV001 b) p q = let no = p.0 in cc
envelopes r r' w w' d e t t' (body.HashedRekordV002 b) p q = (same_one _ _ _ p.1.1.1.0 q.1.1.1.0, same_one _ _ _ p.1.0 q.1.0)
envelopes r r' w w' d e t t' (body.DsseV001 b) p q =
    let signature = both_sole (sole b.spec.signatures) _ _ p.1.1.0 q.1.1.0 in
    (same_one _ _ _ signature.1 signature.2, one_text d.payload e.payload (same_one _ _ _ p.1.0 q.1.0))
envelopes r r' w w' d e t t' (body.DsseV002 b) p q = let no = p.0 in cc
envelopes r r' w w' d e t t' (body.IntotoV002 b) p q =
    let signature = both_sole (sole b.spec.content.envelope.signatures) _ _ p.1.1.1.0 q.1.1.1.0 in
    (same_one _ _ _ signature.1 signature.2, same_one _ _ _ p.1.0 q.1.0)

-- ---- what has one digest is one, or collides

by_test : (x y : List ℕ) (C : Type 0) (test : Bool) → Decides test (x ≡ y) → sha256 x ≡ sha256 y → (x ≡ y → C)
    → MatchOption {T = List ℕ × List ℕ} (if test then None else Some (x, y)) C (λ pair. IsCollision pair.0 pair.1)
by_test x y C true decides h same = same (decides.0 refl)
by_test x y C false decides h same = ((λ one. let no = decides.1 one in cc), h)

one_or_other : (x y : List ℕ) (C : Type 0) → sha256 x ≡ sha256 y → (x ≡ y → C) → MatchOption (differing x y) C (λ pair. IsCollision pair.0 pair.1)
one_or_other x y C h same = by_test x y C (bytes_eq x y) (bytes_eq-Decides x y) h same

-- ---- the type of an accepted envelope

abbrev pub IsTyped : SignatureContent → Type 0
IsTyped (OfMessage m) = ⊤
IsTyped (OfEnvelope d) = d.payload_type ≡ codes "application/vnd.in-toto+json"

by_test_ok : (test : Bool) → ◌≡◌ {A = Result ⊤ Error} (if test then Ok tt else Err UnsupportedBundle) (Ok tt) → test ≡ true
by_test_ok true h = refl
by_test_ok false h = cc

pub typed : (content : SignatureContent) (claim : Claim) → claim_of content ≡ Ok claim → IsTyped content
unfolding stated_of
typed (OfMessage m) claim h = tt
typed (OfEnvelope d) claim h =
    let stated = step_ok (stated_of d) (λ (s : Statement). Ok (OfStatement s)) claim h in
    let first = step_ok (typed_of d.payload_type) _ stated.0 stated.1 in
    (bytes_eq-Decides d.payload_type (codes "application/vnd.in-toto+json")).0 (by_test_ok (is_in_toto d.payload_type) first.1)

short : (type : List ℕ) → type ≡ codes "application/vnd.in-toto+json" → length type < 2 ^ 64
short type h = rw h (omega arith)

one_payload : (d e : DsseEnvelope) → IsTyped (OfEnvelope d) → IsTyped (OfEnvelope e) → encoding_of d ≡ encoding_of e → d.payload ≡ e.payload
one_payload d e p q h = (distinct d.payload_type d.payload e.payload_type e.payload (short d.payload_type p) (short e.payload_type q) h).1

-- ---- both contents

enveloped : (k : KindVersion) (d e : DsseEnvelope) (a b : Artifact) → IsTyped (OfEnvelope d) → IsTyped (OfEnvelope e) → (d.signature.sig ≡ e.signature.sig) × IsNamed k d e
    → MatchOption (envelopes_differ k d e) (IsSame (OfEnvelope d) a (OfEnvelope e) b) (λ pair. IsCollision pair.0 pair.1)
unfolding IsNamed
enveloped kind.HashedRekordV001 d e a b p q h = absurd h.1
enveloped kind.HashedRekordV002 d e a b p q h = one_or_other (encoding_of d) (encoding_of e) _ h.1 (λ one. (h.0, one_payload d e p q one))
enveloped kind.DsseV001 d e a b p q h = one_or_other d.payload e.payload _ h.1 (λ one. (h.0, one))
enveloped kind.DsseV002 d e a b p q h = absurd h.1
enveloped kind.IntotoV002 d e a b p q h = one_or_other d.payload e.payload _ h.1 (λ one. (h.0, one))

-- entries of one kind with one body
pub contents : (r r' : Readings) (w w' : Signatory) (c d : SignatureContent) (a b : Artifact) (x y : TransparencyLogEntry)
    → binding.Describes r w (signed_in c (digest_of a)) x → binding.Describes r' w' (signed_in d (digest_of b)) y
    → x.kind_version ≡ y.kind_version → x.canonicalized_body ≡ y.canonicalized_body → IsTyped c → IsTyped d → IsOneForm c d
    → MatchOption (contents_differ x.kind_version c d) (IsSame c a d b) (λ pair. IsCollision pair.0 pair.1)
contents r r' w w' (OfMessage m) (OfMessage n) a b x y p q kinds bodies typed_c typed_d form =
    let like : body_of y.kind_version y.canonicalized_body ≡ Ok p.body = rw (kinds, bodies) at p.read in
    let one : q.body ≡ p.body = ok_same _ _ (sym q.read ∙ like) in
    messages r r' w w' (digest_of a Sha2256) (digest_of b Sha2256) m.signature n.signature x.integrated_time y.integrated_time p.body p.same (rw one at q.same)
contents r r' w w' (OfEnvelope d) (OfEnvelope e) a b x y p q kinds bodies typed_c typed_d form =
    let like : body_of y.kind_version y.canonicalized_body ≡ Ok p.body = rw (kinds, bodies) at p.read in
    let one : q.body ≡ p.body = ok_same _ _ (sym q.read ∙ like) in
    let both = envelopes r r' w w' d e x.integrated_time y.integrated_time p.body p.same (rw one at q.same) in
    let is : kind_in p.body ≡ x.kind_version = sym (body_kind x.kind_version x.canonicalized_body p.body p.read) in
    enveloped x.kind_version d e a b typed_c typed_d (both.0, subst (λ k. IsNamed k d e) is both.1)
contents r r' w w' (OfMessage m) (OfEnvelope e) a b x y p q kinds bodies typed_c typed_d form = absurd form
contents r r' w w' (OfEnvelope d) (OfMessage n) a b x y p q kinds bodies typed_c typed_d form = absurd form
