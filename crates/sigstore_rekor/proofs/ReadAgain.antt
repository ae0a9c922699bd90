-- The bodies of requests are read as their values.
use Rattle.std.proofs.Common.{◌≡◌, ℕ, ◌≤◌, List, [], ◌∷◌, ◌++◌, Some, refl, sym, ap, ◌∙◌, append_assoc, append-nil, rules, arith}
use Rattle.std.specs.Prelude.{codes, false, Option, option_and_then}
use Rattle.json.specs.Token.{Token}
use Rattle.hex.specs.Hex.{encode_lower, IsBytes}
use Rattle.json.specs.Json as json
use Rattle.json.specs.Lex.{tokens}
use Rattle.json.specs.Print.{quoted, ArePrintable}
use Rattle.json.specs.Tree as tree
use Rattle.json.proofs.OnLiterals.{json_on_literals}
use Rattle.json.proofs.Printed.Tokens.{tokens-print}
use Rattle.serde_json.specs.Data.{Data, string, array}
use Rattle.serde_json.specs.Read.{read, max_depth, of_json}
use Rattle.serde_json.specs.View.{items_of}
use Rattle.serde_json.specs.Written.{outline, compact_text, has_float}
use Rattle.serde_json.proofs.Texts.{print-outline}
use Rattle.json.proofs.Printed.Trees.{value-json_tokens}
use Rattle.sigstore_types_parts.specs.declared.member.TypesMember.TheVariants as m
use Rattle.sigstore_entries.specs.Writing.{octets_data, some_text, object_of}
use Rattle.sigstore_envelopes.specs.declared.envelope.DsseEnvelope.{DsseEnvelope}
use Rattle.sigstore_envelopes.specs.Written.{envelope_data, signature_data}
use Rattle.sigstore_rekor_parts.specs.Members.{key_details_name_of}
use Rattle.sigstore_rekor_parts.specs.declared.key_details.RekorV2KeyDetails.{RekorV2KeyDetails}
use Rattle.sigstore_rekor_parts.specs.declared.key_details.RekorV2KeyDetails.TheVariants.{PkixEcdsaP256Sha256}
use Rattle.sigstore_rekor.specs.Written.{base64, envelope_text_of, hashed_rekord_written, dsse_written, verifier_text_of, hashed_rekord_v2_written}
use Rattle.sigstore_rekor.specs.ReadAgain.{holding, hashed_rekord_data, dsse_data, hashed_rekord_v2_data, sort_of, der_of, search_value}
use Rattle.sigstore_rekor.specs.ReadAgain.{EnvelopesAreRead, HashedRekordsAreRead, DsseEntriesAreRead, HashedRekordsV2AreRead, SearchesAreRead}
use Rattle.sigstore_rekor.specs.declared.hashed_rekord_v2.VerifierV2.{VerifierV2}
use Rattle.sigstore_rekor.specs.declared.hashed_rekord_v2.VerifierV2.TheVariants.{Certificate, PublicKey}
use Rattle.sigstore_rekor.specs.declared.queries.SearchIndex.TheVariants.{ByHash, ByEmail}
use Rattle.sigstore_rekor.proofs.ValueTexts.{text_before, whole_text, quoted_before}
use Rattle.sigstore_rekor.proofs.PlainTexts.{IsPlain, plain_hex, plain_base64}

-- what is made of the tokens that were read
abbrev made : Option (json.Json × List Token) → Option Data
made r = option_and_then of_json (option_and_then (λ p. json.if_last p.0 p.1) r)

-- a value that is written without blanks is read again
again : (d : Data) (text : List ℕ) → text ≡ text_before d [] → ArePrintable (tree.json_tokens (outline d)) → of_json (outline d) ≡ Some d
    → tree.depth (outline d) ≤ max_depth → read text ≡ Some d
again d text same printable back low =
    let ts = tree.json_tokens (outline d) in
    let seen : tokens text ≡ ts = ap tokens (same ∙ whole_text d ∙ sym (print-outline d)) ∙ tokens-print ts printable in
    ap made (ap (json.value max_depth) (seen ∙ sym (append-nil ts)) ∙ value-json_tokens (outline d) max_depth [] low) ∙ back

-- ---- entries of version 0.0.1

hashed_text : (hash signature key : List ℕ) → IsPlain hash → IsPlain signature → IsPlain key
    → hashed_rekord_written hash signature key ≡ text_before (hashed_rekord_data hash signature key) []
unfolding json_on_literals
hashed_text hash signature key p q r = rw (p, q, r)

hashed_read : (hash signature key : List ℕ) → IsPlain hash → IsPlain signature → IsPlain key
    → read (hashed_rekord_written hash signature key) ≡ Some (hashed_rekord_data hash signature key)
unfolding ArePrintable
hashed_read hash signature key p q r =
    again (hashed_rekord_data hash signature key) _ (hashed_text hash signature key p q r) (search rules) refl (omega arith)

pub hashed_rekords : HashedRekordsAreRead
hashed_rekords entry h s k =
    hashed_read (encode_lower entry.hash) (base64 entry.signature) (base64 entry.public_key)
    (plain_hex entry.hash h) (plain_base64 entry.signature s) (plain_base64 entry.public_key k)

dsse_text : (envelope verifier : List ℕ) → IsPlain verifier → dsse_written (quoted envelope) verifier ≡ text_before (dsse_data envelope verifier) []
unfolding json_on_literals
dsse_text envelope verifier p =
    ap (λ t. codes "{\"apiVersion\":\"0.0.1\",\"kind\":\"dsse\",\"spec\":{\"proposedContent\":{\"envelope\":" ++ t)
    (quoted_before envelope (codes ",\"verifiers\":[\"" ++ (verifier ++ codes "\"]}}}")))
    ∙ rw p

dsse_read : (envelope verifier : List ℕ) → IsPlain verifier → read (dsse_written (quoted envelope) verifier) ≡ Some (dsse_data envelope verifier)
unfolding ArePrintable
dsse_read envelope verifier p = again (dsse_data envelope verifier) _ (dsse_text envelope verifier p) (search rules) refl (omega arith)

pub dsse_entries : DsseEntriesAreRead
dsse_entries entry h = dsse_read entry.envelope (base64 entry.verifier) (plain_base64 entry.verifier h)

-- ---- entries of version 0.0.2

-- the text, part by part
v2_apart : (digest signature details opening der : List ℕ) → hashed_rekord_v2_written digest signature details (opening ++ (der ++ codes "\"}"))
    ≡ codes "{\"hashedRekordRequestV002\":{\"digest\":\"" ++ (digest ++ (codes "\",\"signature\":{\"content\":\"" ++ (signature
    ++ (codes "\",\"verifier\":{\"keyDetails\":\"" ++ (details ++ (codes "\"," ++ (opening ++ (der ++ codes "\"}}}}}"))))))))
v2_apart digest signature details opening der =
    ap (λ t. codes "{\"hashedRekordRequestV002\":{\"digest\":\"" ++ (digest ++ (codes "\",\"signature\":{\"content\":\"" ++ (signature
    ++ (codes "\",\"verifier\":{\"keyDetails\":\"" ++ (details ++ (codes "\"," ++ t)))))))
    (append_assoc opening (der ++ codes "\"}") (codes "}}}}") ∙ ap (λ t. opening ++ t) (append_assoc der (codes "\"}") (codes "}}}}")))

certificate_text : (digest signature details der : List ℕ) → IsPlain digest → IsPlain signature → IsPlain details → IsPlain der
    → hashed_rekord_v2_written digest signature details (codes "\"x509Certificate\":{\"rawBytes\":\"" ++ (der ++ codes "\"}"))
    ≡ text_before (hashed_rekord_v2_data digest signature details (codes "x509Certificate") der) []
unfolding json_on_literals
certificate_text digest signature details der p q r s = v2_apart digest signature details (codes "\"x509Certificate\":{\"rawBytes\":\"") der ∙ rw (p, q, r, s)

certificate_read : (digest signature details der : List ℕ) → IsPlain digest → IsPlain signature → IsPlain details → IsPlain der
    → read (hashed_rekord_v2_written digest signature details (codes "\"x509Certificate\":{\"rawBytes\":\"" ++ (der ++ codes "\"}")))
    ≡ Some (hashed_rekord_v2_data digest signature details (codes "x509Certificate") der)
unfolding ArePrintable
certificate_read digest signature details der p q r s =
    again (hashed_rekord_v2_data digest signature details (codes "x509Certificate") der) _ (certificate_text digest signature details der p q r s) (search rules) refl (omega arith)

key_text : (digest signature details der : List ℕ) → IsPlain digest → IsPlain signature → IsPlain details → IsPlain der
    → hashed_rekord_v2_written digest signature details (codes "\"publicKey\":{\"rawBytes\":\"" ++ (der ++ codes "\"}"))
    ≡ text_before (hashed_rekord_v2_data digest signature details (codes "publicKey") der) []
unfolding json_on_literals
key_text digest signature details der p q r s = v2_apart digest signature details (codes "\"publicKey\":{\"rawBytes\":\"") der ∙ rw (p, q, r, s)

key_read : (digest signature details der : List ℕ) → IsPlain digest → IsPlain signature → IsPlain details → IsPlain der
    → read (hashed_rekord_v2_written digest signature details (codes "\"publicKey\":{\"rawBytes\":\"" ++ (der ++ codes "\"}")))
    ≡ Some (hashed_rekord_v2_data digest signature details (codes "publicKey") der)
unfolding ArePrintable
key_read digest signature details der p q r s =
    again (hashed_rekord_v2_data digest signature details (codes "publicKey") der) _ (key_text digest signature details der p q r s) (search rules) refl (omega arith)

plain_details : (details : RekorV2KeyDetails) → IsPlain (key_details_name_of details)
unfolding json_on_literals
plain_details PkixEcdsaP256Sha256 = refl

sent_read : (digest signature details : List ℕ) (verifier : VerifierV2) → IsPlain digest → IsPlain signature → IsPlain details → IsBytes (der_of verifier)
    → read (hashed_rekord_v2_written digest signature details (verifier_text_of verifier))
    ≡ Some (hashed_rekord_v2_data digest signature details (sort_of verifier) (base64 (der_of verifier)))
sent_read digest signature details (Certificate der) p q r h = certificate_read digest signature details (base64 der) p q r (plain_base64 der h)
sent_read digest signature details (PublicKey der) p q r h = key_read digest signature details (base64 der) p q r (plain_base64 der h)

pub hashed_rekords_v2 : HashedRekordsV2AreRead
hashed_rekords_v2 entry h s k =
    sent_read (base64 entry.digest) (base64 entry.signature) (key_details_name_of entry.key_details) entry.verifier
    (plain_base64 entry.digest h) (plain_base64 entry.signature s) (plain_details entry.key_details) k

-- ---- an envelope

-- the value by its parts
abbrev value_by : List ℕ → List ℕ → List ℕ → List ℕ → Data
value_by payload payload_type keyid sig =
    object_of ((m.Payload, Some (octets_data payload)) ∷ (m.PayloadType, Some (string payload_type))
    ∷ (m.Signatures, Some (array (items_of (object_of ((m.SignatureKeyid, some_text keyid) ∷ (m.Sig, Some (octets_data sig)) ∷ []) ∷ [])))) ∷ [])

no_float_by : (payload payload_type keyid sig : List ℕ) → has_float (value_by payload payload_type keyid sig) ≡ false
unfolding json_on_literals
no_float_by payload payload_type [] sig = refl
no_float_by payload payload_type (c ∷ cs) sig = refl

no_float : (envelope : DsseEnvelope) → has_float (envelope_data envelope) ≡ false
unfolding envelope_data signature_data
no_float envelope = no_float_by envelope.payload envelope.payload_type envelope.signature.keyid.text envelope.signature.sig

-- the text of a value that is the envelope's
pub text_is : (envelope : DsseEnvelope) (v : Data) (s : List ℕ) → v ≡ envelope_data envelope → (has_float v ≡ false → s ≡ compact_text v)
    → s ≡ envelope_text_of envelope
text_is envelope v s same written = written (ap has_float same ∙ no_float envelope) ∙ ap compact_text same

envelope_read : (payload payload_type keyid sig : List ℕ)
    → read (compact_text (value_by payload payload_type keyid sig)) ≡ Some (value_by payload payload_type keyid sig)
unfolding ArePrintable json_on_literals
envelope_read payload payload_type [] sig =
    again (value_by payload payload_type [] sig) _ (sym (whole_text (value_by payload payload_type [] sig))) (search rules) refl (omega arith)
envelope_read payload payload_type (c ∷ cs) sig =
    again (value_by payload payload_type (c ∷ cs) sig) _ (sym (whole_text (value_by payload payload_type (c ∷ cs) sig))) (search rules) refl (omega arith)

pub envelopes : EnvelopesAreRead
unfolding envelope_data signature_data
envelopes envelope = envelope_read envelope.payload envelope.payload_type envelope.signature.keyid.text envelope.signature.sig

-- ---- searches

hash_text : (digits : List ℕ) → IsPlain digits
    → codes "{\"hash\":\"sha256:" ++ (digits ++ codes "\"}") ≡ text_before (holding (codes "hash") (string (codes "sha256:" ++ digits))) []
unfolding json_on_literals
hash_text digits p = rw p

email_text : (email : List ℕ) → codes "{\"email\":" ++ (quoted email ++ codes "}") ≡ text_before (holding (codes "email") (string email)) []
unfolding json_on_literals
email_text email = ap (λ t. codes "{\"email\":" ++ t) (quoted_before email (codes "}"))

pub searches : SearchesAreRead
unfolding ArePrintable
searches (ByHash hash) h =
    again (search_value (ByHash hash)) _ (hash_text (encode_lower hash) (plain_hex hash h)) (search rules) refl (omega arith)
searches (ByEmail email) h = again (search_value (ByEmail email)) _ (email_text email) (search rules) refl (omega arith)
