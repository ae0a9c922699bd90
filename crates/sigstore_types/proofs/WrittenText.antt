-- The text that a bundle is written as.
use Rattle.std.proofs.Common.{◌≡◌, ◌≤◌, ◌==◌, ℕ, suc, List, [], ◌∷◌, length, true, false, cond, ok_or, Option, Some, None, option_map, Result, Ok, Err, ap, ◌∙◌, eq-eqb, arith}
use Rattle.std.specs.Str.{IsUtf8}
use Rattle.std.specs.Str.Lossy.{utf8_valid_len}
use Rattle.std.proofs.lemmas.Str.{utf8_valid_len-IsUtf8}
use Rattle.serde_json.specs.Data.{Data, string, depth}
use Rattle.serde_json.specs.Read.{read, max_depth}
use Rattle.serde_json.specs.Written.{has_float, compact_text}
use Rattle.foundation.specs.Steps.{◌>>=◌}
use Rattle.foundation.specs.Results.{step_ok}
use Rattle.sigstore_types_parts.specs.Parse.{parsed_of}
use Rattle.sigstore_types_parts.specs.declared.member.TypesMember.{TypesMember}
use Rattle.sigstore_types_parts.specs.declared.member.TypesMember.TheVariants as m
use Rattle.sigstore_types_parts.specs.declared.parse.JsonFault.{JsonFault}
use Rattle.sigstore_types_parts.specs.declared.parse.JsonFault.TheVariants.{NotJson, Float}
use Rattle.sigstore_entries.specs.Entry.{json, faulted}
use Rattle.sigstore_entries.specs.Writing.{octets_data, holding}
use Rattle.sigstore_entries.specs.Written.{entry_data}
use Rattle.sigstore_entries.proofs.Plain.{IsPlain, IsPlainOption, string_plain, object_plain, list_plain, some_list_plain, option_plain, entry_plain}
use Rattle.sigstore_envelopes.proofs.ReadAgain.{envelope_plain}
use Rattle.sigstore_types.specs.Bundle.{entries_in, bundle_of, bundle_of_bytes}
use Rattle.sigstore_types.specs.Laws.{TimesFit}
use Rattle.sigstore_types.specs.Written.{message_digest_members, message_digest_data, message_signature_members, message_signature_data, message_in, envelope_in}
use Rattle.sigstore_types.specs.Written.{each_holding, certificate_in, chain_in, key_in, tokens_in, material_members, material_data, bundle_members, bundle_data, bundle_text_of}
use Rattle.sigstore_types.specs.declared.bundle.Bundle.{Bundle}
use Rattle.sigstore_types.specs.declared.content.SignatureContent.{SignatureContent}
use Rattle.sigstore_types.specs.declared.content.SignatureContent.TheVariants as content
use Rattle.sigstore_types.specs.declared.content.MessageSignature.{MessageSignature}
use Rattle.sigstore_types.specs.declared.content.MessageDigest.{MessageDigest}
use Rattle.sigstore_types.specs.declared.material.VerificationMaterial.{VerificationMaterial}
use Rattle.sigstore_types.specs.declared.material.VerificationMaterialContent.{VerificationMaterialContent}
use Rattle.sigstore_types.specs.declared.material.VerificationMaterialContent.TheVariants as material
use Rattle.sigstore_types.proofs.ReadAgain.{bundle_again}

-- ---- neither floats nor deep nesting

digest_plain : (n : ℕ) (v : MessageDigest) → IsPlain (suc n) (message_digest_data v)
unfolding message_digest_data
digest_plain n v = object_plain n (message_digest_members v) (string_plain n _, (string_plain n _, tt))

message_plain : (n : ℕ) (v : MessageSignature) → IsPlain (suc (suc n)) (message_signature_data v)
unfolding message_signature_data
message_plain n v =
    object_plain (suc n) (message_signature_members v) (option_plain (suc n) message_digest_data v.message_digest (digest_plain n), (string_plain (suc n) _, tt))

message_in_plain : (n : ℕ) (v : SignatureContent) → IsPlainOption (suc (suc n)) (message_in v)
message_in_plain n (content.MessageSignature message) = message_plain n message
message_in_plain n (content.DsseEnvelope envelope) = tt

envelope_in_plain : (n : ℕ) (v : SignatureContent) → IsPlainOption (suc (suc (suc n))) (envelope_in v)
envelope_in_plain n (content.MessageSignature message) = tt
envelope_in_plain n (content.DsseEnvelope envelope) = envelope_plain n envelope

holding_plain : (n : ℕ) (m : TypesMember) (d : Data) → IsPlain n d → IsPlain (suc n) (holding m d)
holding_plain n m d h = object_plain n ((m, Some d) ∷ []) (h, tt)

each_plain : (n : ℕ) (m : TypesMember) (v : List (List ℕ)) → IsPlain (suc (suc n)) (each_holding m v)
each_plain n m v = list_plain (suc n) (λ o. holding m (octets_data o)) v (λ o. holding_plain n m (octets_data o) (string_plain n _))

certificate_plain : (n : ℕ) (v : VerificationMaterialContent) → IsPlainOption (suc n) (certificate_in v)
certificate_plain n (material.Certificate certificate) = holding_plain n m.RawBytes (octets_data certificate) (string_plain n _)
certificate_plain n (material.X509CertificateChain chain) = tt
certificate_plain n (material.PublicKey hint) = tt

chain_plain : (n : ℕ) (v : VerificationMaterialContent) → IsPlainOption (suc (suc (suc n))) (chain_in v)
chain_plain n (material.Certificate certificate) = tt
chain_plain n (material.X509CertificateChain chain) = holding_plain (suc (suc n)) m.Certificates (each_holding m.RawBytes chain) (each_plain n m.RawBytes chain)
chain_plain n (material.PublicKey hint) = tt

key_plain : (n : ℕ) (v : VerificationMaterialContent) → IsPlainOption (suc n) (key_in v)
key_plain n (material.Certificate certificate) = tt
key_plain n (material.X509CertificateChain chain) = tt
key_plain n (material.PublicKey hint) = object_plain n ((m.Hint, option_map string hint) ∷ []) (option_plain n string hint (string_plain n), tt)

tokens_plain : (n : ℕ) (v : List (List ℕ)) → IsPlainOption (suc (suc (suc n))) (tokens_in v)
tokens_plain n [] = tt
tokens_plain n (token ∷ tokens) =
    holding_plain (suc (suc n)) m.Rfc3161Timestamps (each_holding m.SignedTimestamp (token ∷ tokens)) (each_plain n m.SignedTimestamp (token ∷ tokens))

material_plain : (n : ℕ) (v : VerificationMaterial) → IsPlain (suc (suc (suc (suc (suc n))))) (material_data v)
unfolding material_data
material_plain n v =
    object_plain (suc (suc (suc (suc n)))) (material_members v) (
      certificate_plain (suc (suc (suc n))) v.content,
      (
        key_plain (suc (suc (suc n))) v.content,
        (
          tokens_plain (suc n) v.rfc3161_timestamps,
          (some_list_plain (suc (suc (suc n))) entry_data v.tlog_entries (entry_plain n), (chain_plain (suc n) v.content, tt)),
        ),
      ),
    )

pub bundle_plain : (v : Bundle) → IsPlain 6 (bundle_data v)
unfolding bundle_data
bundle_plain v =
    object_plain 5 (bundle_members v)
    (envelope_in_plain 2 v.content, (string_plain 5 _, (message_in_plain 3 v.content, (material_plain 0 v.verification_material, tt))))

-- ---- the text

-- what is written is the text
pub text_written : (v : Bundle) (d : Data) (text : List ℕ) → d ≡ bundle_data v → (has_float d ≡ false → text ≡ compact_text d) → text ≡ bundle_text_of v
text_written v d text is h = h (ap has_float is ∙ (bundle_plain v).whole) ∙ ap compact_text is

parsed_back : (text : List ℕ) (d : Data) → IsUtf8 text → read text ≡ Some d → has_float d ≡ false → parsed_of text ≡ Ok d
unfolding parsed_of
parsed_back text d utf8 is plain =
    let whole : (utf8_valid_len text == length text) ≡ true = eq-eqb _ _ (utf8_valid_len-IsUtf8 text utf8) in
    let unless_float : Data → Result Data JsonFault = λ x. cond (has_float x) (Err Float) (Ok x) in
    ap (λ b. ok_or (cond b (read text) None) NotJson >>= unless_float) whole ∙ ap (λ o. ok_or o NotJson >>= unless_float) is ∙ ap (λ b. cond b (Err Float) (Ok d)) plain

-- and is read again, where some text was read as the bundle
pub text_again : (v : Bundle) (d : Data) (text : List ℕ) → d ≡ bundle_data v → IsUtf8 text → (depth d ≤ max_depth → read text ≡ Some d) → TimesFit (entries_in v)
    → (bytes : List ℕ) → bundle_of_bytes bytes ≡ Ok v → bundle_of_bytes text ≡ Ok v
unfolding bundle_of_bytes
text_again v d text is utf8 back fits bytes h =
    let plain = bundle_plain v in
    let low : depth d ≤ max_depth = omega (arith, ap depth is, plain.low) in
    let first = step_ok (json bytes) bundle_of v h in
    let parsed = parsed_back text d utf8 (back low) (ap has_float is ∙ plain.whole) in
    ap (λ r. faulted r >>= bundle_of) parsed ∙ ap bundle_of is ∙ bundle_again first.0 v fits first.2
