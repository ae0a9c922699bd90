-- Envelopes that were read are read again, where they are written.
use Rattle.std.proofs.Common.{◌≡◌, ℕ, suc, List, [], ◌∷◌, Option, Some, None, Result, Ok, Err, refl, sym, ap, subst}
use Rattle.serde_json.specs.Data.{Data, string}
use Rattle.foundation.specs.Steps.{◌>>=◌}
use Rattle.foundation.specs.Results.{step_ok, ok_same, no_both}
use Rattle.sigstore_types_parts.specs.Read as read
use Rattle.sigstore_types_parts.specs.Error.{types_of}
use Rattle.sigstore_types_parts.specs.declared.member.TypesMember.TheVariants as m
use Rattle.sigstore_entries.specs.Entry.{required, optional, text, bytes}
use Rattle.sigstore_entries.specs.Writing.{octets_data, list_data, some_text}
use Rattle.sigstore_entries.proofs.Found.{alone, IsRead, AllReadAgain, required_found, OptionRead, optional_found, some_read, WasRead, required_was, AllRead, AreReadAgain, sequence_were, sequence_back}
use Rattle.sigstore_entries.proofs.ReadAgain.{step, text_again, octets_again}
use Rattle.sigstore_entries.proofs.Plain.{IsPlain, IsPlainOption, string_plain, object_plain, list_plain}
use Rattle.sigstore_envelopes.specs.Envelope.{key_id_of, signature_of, only_of, envelope_of}
use Rattle.sigstore_envelopes.specs.Written.{signature_members, signature_data, envelope_members, envelope_data}
use Rattle.sigstore_envelopes.specs.declared.key_id.KeyId.{KeyId}
use Rattle.sigstore_envelopes.specs.declared.envelope.DsseSignature.{DsseSignature}
use Rattle.sigstore_envelopes.specs.declared.envelope.DsseEnvelope.{DsseEnvelope}

-- what is read of a key's name where it is written
record NameAgain (name : List ℕ) : Type 0 where
  read : Option (List ℕ)
  back : OptionRead text (some_text name) read
  is : key_id_of read ≡ record { text = name }

name_again : (name : List ℕ) → NameAgain name
name_again [] = record { read = None; back = refl; is = refl }
name_again (c ∷ cs) = record { read = Some (c ∷ cs); back = some_read text (string (c ∷ cs)) (c ∷ cs) (text_again (c ∷ cs)); is = refl }

signature_back : (sig : List ℕ) (keyid : KeyId) → IsRead bytes (octets_data sig) sig
    → IsRead signature_of (signature_data (record { sig = sig; keyid = keyid })) (record { sig = sig; keyid = keyid })
unfolding signature_of signature_data
signature_back sig keyid h =
    let made : DsseSignature = record { sig = sig; keyid = keyid } in
    let members = signature_members made in
    let name = name_again keyid.text in
    let first = required_found bytes m.Sig members (octets_data sig) sig refl h.back in
    let second = optional_found text m.SignatureKeyid members (some_text keyid.text) name.read (alone _) name.back in
    record { back = step _ _ sig _ first (step _ _ name.read _ second (ap (λ k. Ok (record made { keyid = k })) name.is)); there = refl }

signature_again : AreReadAgain signature_of signature_data
unfolding signature_of
signature_again v h =
    let sig = step_ok (required bytes m.Sig h.from) _ v h.was in
    let keyid = step_ok (optional text m.SignatureKeyid h.from) _ v sig.2 in
    subst (λ s. IsRead signature_of (signature_data s) s) (ok_same _ _ keyid.2)
    (signature_back sig.0 (key_id_of keyid.0) (octets_again sig.0 (required_was bytes m.Sig h.from sig.0 sig.1)))

-- the only signature of a list
only_was : (list : List DsseSignature) (v : DsseSignature) → only_of list ≡ Ok v → list ≡ v ∷ []
only_was [] v h = no_both _ _ (sym h)
only_was (s ∷ []) v h = ap (λ x. x ∷ []) (ok_same _ _ h)
only_was (s ∷ other ∷ others) v h = no_both _ _ (sym h)

abbrev made : List ℕ → List ℕ → DsseSignature → DsseEnvelope
made payload payload_type signature = record { payload = payload; payload_type = payload_type; signature = signature }

envelope_back : (payload payload_type : List ℕ) (signature : DsseSignature) → IsRead bytes (octets_data payload) payload → IsRead signature_of (signature_data signature) signature
    → IsRead envelope_of (envelope_data (made payload payload_type signature)) (made payload payload_type signature)
unfolding envelope_of envelope_data
envelope_back payload payload_type signature p s =
    let members = envelope_members (made payload payload_type signature) in
    let list = signature ∷ [] in
    let signatures = sequence_back signature_of signature_data list (s, tt) in
    let first = required_found bytes m.Payload members (octets_data payload) payload refl p.back in
    let second = required_found text m.PayloadType members (string payload_type) payload_type refl refl in
    let third = required_found (read.sequence_of types_of signature_of) m.Signatures members (list_data signature_data list) list refl signatures.back in
    record { back = step _ _ payload _ first (step _ _ payload_type _ second (step _ _ list _ third refl)); there = refl }

pub envelope_again : AreReadAgain envelope_of envelope_data
unfolding envelope_of
envelope_again v h =
    let payload = step_ok (required bytes m.Payload h.from) _ v h.was in
    let type = step_ok (required text m.PayloadType h.from) _ v payload.2 in
    let list = step_ok (required (read.sequence_of types_of signature_of) m.Signatures h.from) _ v type.2 in
    let only = step_ok (only_of list.0) _ v list.2 in
    let all = sequence_were signature_of list.0 (required_was (read.sequence_of types_of signature_of) m.Signatures h.from list.0 list.1) in
    let one = subst (AllRead signature_of) (only_was list.0 only.0 only.1) all in
    subst (λ e. IsRead envelope_of (envelope_data e) e) (ok_same _ _ only.2)
    (envelope_back payload.0 type.0 only.0 (octets_again payload.0 (required_was bytes m.Payload h.from payload.0 payload.1)) (signature_again only.0 one.0))

-- ---- neither floats nor deep nesting

text_plain : (n : ℕ) (s : List ℕ) → IsPlainOption n (some_text s)
text_plain n [] = tt
text_plain n (c ∷ cs) = string_plain n (c ∷ cs)

signature_plain : (n : ℕ) (v : DsseSignature) → IsPlain (suc n) (signature_data v)
unfolding signature_data
signature_plain n v = object_plain n (signature_members v) (text_plain n v.keyid.text, (string_plain n _, tt))

pub envelope_plain : (n : ℕ) (v : DsseEnvelope) → IsPlain (suc (suc (suc n))) (envelope_data v)
unfolding envelope_data
envelope_plain n v =
    let leaf : (s : List ℕ) → IsPlain (suc (suc n)) (string s) = string_plain (suc (suc n)) in
    object_plain (suc (suc n)) (envelope_members v)
    (leaf _, (leaf _, (list_plain (suc n) signature_data (v.signature ∷ []) (signature_plain n), tt)))
