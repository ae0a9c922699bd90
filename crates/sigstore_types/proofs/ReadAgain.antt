-- Bundles that were read are read again, where they are written.
use Rattle.std.proofs.Common.{◌≡◌, ◌<◌, ◌==◌, ℕ, zero, suc, List, [], ◌∷◌, length, bytes_eq, Bool, true, false, cond, ok_or, Option, Some, None, option_map, Result, Ok, Err, refl, sym, ap, subst, ◌∙◌}
use Rattle.std.proofs.lemmas.Bool.{cond-true}
use Rattle.std.proofs.lemmas.Slice.Eq.{bytes_eq-Decides}
use Rattle.serde_json.specs.Data.{Data, string}
use Rattle.foundation.specs.Steps.{◌>>=◌}
use Rattle.foundation.specs.Results.{step_ok, ok_same, no_both}
use Rattle.sigstore_types_parts.specs.Read as read
use Rattle.sigstore_types_parts.specs.Error.{types_of, name_of}
use Rattle.sigstore_types_parts.specs.HashAlgorithm.{algorithm_named}
use Rattle.sigstore_types_parts.specs.declared.hash_algorithm.HashAlgorithm.{HashAlgorithm}
use Rattle.sigstore_types_parts.specs.declared.hash_algorithm.HashAlgorithm.TheVariants.{Sha2256, Sha2384, Sha2512, Sha3256, Sha3384}
use Rattle.sigstore_types_parts.specs.declared.member.TypesMember.{TypesMember}
use Rattle.sigstore_types_parts.specs.declared.member.TypesMember.TheVariants as m
use Rattle.sigstore_types_parts.specs.declared.error.TypesError.{TypesError}
use Rattle.sigstore_types_parts.specs.declared.error.TypesError.TheVariants as e
use Rattle.sigstore_entries.specs.Entry.{required, optional, text, bytes, list, entry_of}
use Rattle.sigstore_entries.specs.Laws.{TimeFits}
use Rattle.sigstore_entries.specs.Writing.{octets_data, list_data, some_list, object_of, holding}
use Rattle.sigstore_entries.specs.Written.{entry_data}
use Rattle.sigstore_entries.specs.declared.entry.TransparencyLogEntry.{TransparencyLogEntry}
use Rattle.sigstore_entries.proofs.Found.{written_at, alone, IsRead, AllReadAgain, all_again, required_found, OptionRead, optional_found, some_read, WasRead, required_was, WereRead, optional_was, AllRead, AreReadAgain, sequence_were, sequence_back, list_found, list_was, option_back}
use Rattle.sigstore_entries.proofs.ReadAgain.{step, text_again, octets_again, entry_again}
use Rattle.sigstore_envelopes.specs.Envelope.{envelope_of}
use Rattle.sigstore_envelopes.specs.Written.{envelope_data}
use Rattle.sigstore_envelopes.specs.declared.envelope.DsseEnvelope.{DsseEnvelope}
use Rattle.sigstore_envelopes.proofs.ReadAgain.{envelope_again}
use Rattle.sigstore_types.specs.Bundle.{is_media_type, media_type_of, hint_of, certificate_of, some_of, signing_chain_of, one_material_of, material_content_of}
use Rattle.sigstore_types.specs.Bundle.{token_list_of, or_no_tokens, tokens_of, or_none, material_of, algorithm_of, message_digest_of, message_signature_of, one_content_of, content_of, bundle_of}
use Rattle.sigstore_types.specs.Laws.{TimesFit}
use Rattle.sigstore_types.specs.Members.{held_of, each_held}
use Rattle.sigstore_types.specs.TrustedRoot.{certificates_of, or_no_certificates, chain_of}
use Rattle.sigstore_types.specs.Written.{algorithm_name_of, message_digest_members, message_digest_data, message_signature_members, message_signature_data, message_in, envelope_in}
use Rattle.sigstore_types.specs.Written.{each_holding, certificate_in, chain_in, key_in, tokens_in, material_members, material_data, bundle_members, bundle_data}
use Rattle.sigstore_types.specs.declared.authority.Certificates.{Certificates}
use Rattle.sigstore_types.specs.declared.authority.Chain.{Chain}
use Rattle.sigstore_types.specs.declared.bundle.Bundle.{Bundle}
use Rattle.sigstore_types.specs.declared.content.SignatureContent.{SignatureContent}
use Rattle.sigstore_types.specs.declared.content.SignatureContent.TheVariants as content
use Rattle.sigstore_types.specs.declared.content.MessageSignature.{MessageSignature}
use Rattle.sigstore_types.specs.declared.content.MessageDigest.{MessageDigest}
use Rattle.sigstore_types.specs.declared.material.VerificationMaterial.{VerificationMaterial}
use Rattle.sigstore_types.specs.declared.material.VerificationMaterialContent.{VerificationMaterialContent}
use Rattle.sigstore_types.specs.declared.material.VerificationMaterialContent.TheVariants as material
use Rattle.sigstore_types.specs.declared.material.Hint.{Hint}
use Rattle.sigstore_types.specs.declared.material.SigningCertificate.{SigningCertificate}
use Rattle.sigstore_types.specs.declared.material.SigningChain.{SigningChain}
use Rattle.sigstore_types.specs.declared.material.TokenList.{TokenList}
use Rattle.sigstore_types.specs.declared.material.Tokens.{Tokens}

-- ---- a message signature

named_again : (a : HashAlgorithm) (error : TypesError) → ok_or (algorithm_named (algorithm_name_of a)) error ≡ Ok a
named_again Sha2256 error = refl
named_again Sha2384 error = refl
named_again Sha2512 error = refl
named_again Sha3256 error = refl
named_again Sha3384 error = refl

digest_again : AreReadAgain message_digest_of message_digest_data
unfolding message_digest_of message_digest_data algorithm_of
digest_again v h =
    let algorithm = step_ok (algorithm_of h.from) _ v h.was in
    let digest = step_ok (required bytes m.Digest h.from) _ v algorithm.2 in
    let is : digest.0 ≡ v.digest = ap (λ (d : MessageDigest). d.digest) (ok_same _ _ digest.2) in
    let octets = subst (λ d. IsRead bytes (octets_data d) d) is (octets_again digest.0 (required_was bytes m.Digest h.from digest.0 digest.1)) in
    let members = message_digest_members v in
    let name = algorithm_name_of v.algorithm in
    let first = required_found text m.Algorithm members (string name) name refl refl in
    let second = required_found bytes m.Digest members (octets_data v.digest) v.digest refl octets.back in
    record {
      back = step _ _ v.algorithm _ (step _ _ name _ first (named_again v.algorithm (e.Field m.Algorithm))) (step _ _ v.digest _ second refl);
      there = refl;
    }

message_back : (digest : Option MessageDigest) (signature : List ℕ) → OptionRead message_digest_of (option_map message_digest_data digest) digest
    → IsRead bytes (octets_data signature) signature
    → IsRead message_signature_of (message_signature_data (record { message_digest = digest; signature = signature })) (record { message_digest = digest; signature = signature })
unfolding message_signature_of message_signature_data
message_back digest signature d s =
    let members = message_signature_members (record { message_digest = digest; signature = signature }) in
    let first = optional_found message_digest_of m.MessageDigest members (option_map message_digest_data digest) digest (alone _) d in
    let second = required_found bytes m.Signature members (octets_data signature) signature refl s.back in
    record { back = step _ _ digest _ first (step _ _ signature _ second refl); there = refl }

message_again : AreReadAgain message_signature_of message_signature_data
unfolding message_signature_of
message_again v h =
    let digest = step_ok (optional message_digest_of m.MessageDigest h.from) _ v h.was in
    let signature = step_ok (required bytes m.Signature h.from) _ v digest.2 in
    subst (λ s. IsRead message_signature_of (message_signature_data s) s) (ok_same _ _ signature.2)
    (message_back digest.0 signature.0
    (option_back message_digest_of message_digest_data digest.0 digest_again (optional_was message_digest_of m.MessageDigest h.from digest.0 digest.1))
    (octets_again signature.0 (required_was bytes m.Signature h.from signature.0 signature.1)))

-- ---- what is signed

-- which of the two was read
abbrev ContentWas : SignatureContent → Type 0
ContentWas (content.MessageSignature message) = WasRead message_signature_of message
ContentWas (content.DsseEnvelope envelope) = WasRead envelope_of envelope

one_content_was : (message : Option MessageSignature) (envelope : Option DsseEnvelope) (v : SignatureContent) → WereRead message_signature_of message
    → WereRead envelope_of envelope → one_content_of message envelope ≡ Ok v → ContentWas v
one_content_was (Some message) None v p q h = subst ContentWas (ok_same _ _ h) p
one_content_was None (Some envelope) v p q h = subst ContentWas (ok_same _ _ h) q
one_content_was (Some message) (Some envelope) v p q h = no_both _ _ (sym h)
one_content_was None None v p q h = no_both _ _ (sym h)

content_was : (d : Data) (v : SignatureContent) → content_of d ≡ Ok v → ContentWas v
unfolding content_of
content_was d v h =
    let message = step_ok (optional message_signature_of m.MessageSignature d) _ v h in
    let envelope = step_ok (optional envelope_of m.DsseEnvelope d) (one_content_of message.0) v message.2 in
    one_content_was message.0 envelope.0 v (optional_was message_signature_of m.MessageSignature d message.0 message.1)
    (optional_was envelope_of m.DsseEnvelope d envelope.0 envelope.1) envelope.2

content_back : (members : List (TypesMember × Option Data)) (v : SignatureContent) → written_at (name_of m.MessageSignature) members ≡ message_in v
    → written_at (name_of m.DsseEnvelope) members ≡ envelope_in v → ContentWas v → content_of (object_of members) ≡ Ok v
unfolding content_of
content_back members (content.MessageSignature v) a b h =
    let back = some_read message_signature_of (message_signature_data v) v (message_again v h) in
    let first = optional_found message_signature_of m.MessageSignature members (Some (message_signature_data v)) (Some v) a back in
    step _ _ (Some v) _ first (step _ _ None _ (optional_found envelope_of m.DsseEnvelope members None None b refl) refl)
content_back members (content.DsseEnvelope v) a b h =
    let back = some_read envelope_of (envelope_data v) v (envelope_again v h) in
    let second = optional_found envelope_of m.DsseEnvelope members (Some (envelope_data v)) (Some v) b back in
    step _ _ None _ (optional_found message_signature_of m.MessageSignature members None None a refl) (step _ _ (Some v) _ second refl)

-- ---- octets that objects hold

itself : (m : TypesMember) (d : Data) → written_at (name_of m) ((m, Some d) ∷ []) ≡ Some d
itself m d = cond-true _ _ _ ((bytes_eq-Decides (name_of m) (name_of m)).1 refl)

held_again : (m : TypesMember) → AreReadAgain (held_of m) (λ o. holding m (octets_data o))
unfolding held_of
held_again m v h =
    let octets = octets_again v (required_was bytes m h.from v h.was) in
    record { back = required_found bytes m ((m, Some (octets_data v)) ∷ []) (octets_data v) v (itself m (octets_data v)) octets.back; there = refl }

each_again : (m : TypesMember) → AreReadAgain (each_held m) (each_holding m)
each_again m v h =
    sequence_back (held_of m) (λ o. holding m (octets_data o)) v (all_again (held_of m) (λ o. holding m (octets_data o)) v (held_again m) (sequence_were (held_of m) v h))

-- ---- whose signature it is

certificate_again : (v : List ℕ) → WasRead certificate_of (record { certificate = v }) → IsRead certificate_of (holding m.RawBytes (octets_data v)) (record { certificate = v })
unfolding certificate_of
certificate_again v h =
    let made : SigningCertificate = record { certificate = v } in
    let der = step_ok (required bytes m.RawBytes h.from) (λ c. Ok (record { certificate = c })) made h.was in
    let is : der.0 ≡ v = ap (λ (c : SigningCertificate). c.certificate) (ok_same _ _ der.2) in
    let octets = subst (λ o. IsRead bytes (octets_data o) o) is (octets_again der.0 (required_was bytes m.RawBytes h.from der.0 der.1)) in
    record { back = step _ _ v _ (required_found bytes m.RawBytes ((m.RawBytes, Some (octets_data v)) ∷ []) (octets_data v) v refl octets.back) refl; there = refl }

certificates_back : (v : List (List ℕ)) → WasRead (each_held m.RawBytes) v → IsRead certificates_of (each_holding m.RawBytes v) (record { list = v })
unfolding certificates_of
certificates_back v h = record { back = step _ _ v _ (each_again m.RawBytes v h).back refl; there = refl }

some_was : (list v : List (List ℕ)) → some_of list ≡ Ok v → list ≡ v
some_was [] v h = no_both _ _ (sym h)
some_was (c ∷ behind) v h = ok_same _ _ h

certificates_were : (found : Option Certificates) (v : List (List ℕ)) → WereRead certificates_of found → some_of (or_no_certificates found) ≡ Ok v
    → WasRead (each_held m.RawBytes) v
unfolding certificates_of
certificates_were None v h some = no_both _ _ (sym some)
certificates_were (Some found) v h some =
    let list = step_ok (each_held m.RawBytes h.from) (λ l. Ok (record { list = l })) found h.was in
    record { from = h.from; was = list.1 ∙ ap Ok (ap (λ (c : Certificates). c.list) (ok_same _ _ list.2) ∙ some_was found.list v some) }

-- the certificates of a chain that was read
record ChainWas (v : List (List ℕ)) : Type 0 where
  some : some_of v ≡ Ok v
  held : WasRead (each_held m.RawBytes) v

chain_was : (v : List (List ℕ)) → WasRead signing_chain_of (record { certificates = v }) → ChainWas v
unfolding signing_chain_of chain_of
chain_was v h =
    let made : SigningChain = record { certificates = v } in
    let chain = step_ok (chain_of h.from) _ made h.was in
    let certificates = step_ok (some_of chain.0.certificates) (λ c. Ok (record { certificates = c })) made chain.2 in
    let found = step_ok (optional certificates_of m.Certificates h.from) (λ c. Ok (record { certificates = or_no_certificates c })) chain.0 chain.1 in
    let is : certificates.0 ≡ v = ap (λ (c : SigningChain). c.certificates) (ok_same _ _ certificates.2) in
    let same : or_no_certificates found.0 ≡ chain.0.certificates = ap (λ (c : Chain). c.certificates) (ok_same _ _ found.2) in
    let some : some_of (or_no_certificates found.0) ≡ Ok v = ap some_of same ∙ certificates.1 ∙ ap Ok is in
    record {
      some = ap some_of (sym (some_was (or_no_certificates found.0) v some)) ∙ some;
      held = certificates_were found.0 v (optional_was certificates_of m.Certificates h.from found.0 found.1) some;
    }

signing_chain_again : (v : List (List ℕ)) → ChainWas v → IsRead signing_chain_of (holding m.Certificates (each_holding m.RawBytes v)) (record { certificates = v })
unfolding signing_chain_of chain_of
signing_chain_again v h =
    let members = (m.Certificates, Some (each_holding m.RawBytes v)) ∷ [] in
    let list : Certificates = record { list = v } in
    let chain : Chain = record { certificates = v } in
    let back = some_read certificates_of (each_holding m.RawBytes v) list (certificates_back v h.held) in
    let found = optional_found certificates_of m.Certificates members (Some (each_holding m.RawBytes v)) (Some list) refl back in
    record { back = step _ _ chain _ (step _ _ (Some list) _ found refl) (step _ _ v _ h.some refl); there = refl }

hint_read : (hint : Option (List ℕ)) → OptionRead text (option_map string hint) hint
hint_read None = refl
hint_read (Some v) = some_read text (string v) v (text_again v)

hint_again : (hint : Option (List ℕ)) → IsRead hint_of (object_of ((m.Hint, option_map string hint) ∷ [])) (record { hint = hint })
unfolding hint_of
hint_again hint = record {
  back = step _ _ hint _ (optional_found text m.Hint ((m.Hint, option_map string hint) ∷ []) (option_map string hint) hint (alone _) (hint_read hint)) refl;
  there = refl;
}

-- which of the three was read
abbrev MaterialWas : VerificationMaterialContent → Type 0
MaterialWas (material.Certificate certificate) = WasRead certificate_of (record { certificate = certificate })
MaterialWas (material.X509CertificateChain chain) = WasRead signing_chain_of (record { certificates = chain })
MaterialWas (material.PublicKey hint) = Unit {0}

one_material_was : (single : Option SigningCertificate) (chain : Option SigningChain) (key : Option Hint) (v : VerificationMaterialContent)
    → WereRead certificate_of single → WereRead signing_chain_of chain → one_material_of single chain key ≡ Ok v → MaterialWas v
one_material_was (Some single) None None v p q h = subst MaterialWas (ok_same _ _ h) p
one_material_was None (Some chain) None v p q h = subst MaterialWas (ok_same _ _ h) q
one_material_was None None (Some key) v p q h = subst MaterialWas (ok_same _ _ h) tt
one_material_was None None None v p q h = no_both _ _ (sym h)
one_material_was (Some single) (Some chain) None v p q h = no_both _ _ (sym h)
one_material_was (Some single) (Some chain) (Some key) v p q h = no_both _ _ (sym h)
one_material_was (Some single) None (Some key) v p q h = no_both _ _ (sym h)
one_material_was None (Some chain) (Some key) v p q h = no_both _ _ (sym h)

material_content_was : (d : Data) (v : VerificationMaterialContent) → material_content_of d ≡ Ok v → MaterialWas v
unfolding material_content_of
material_content_was d v h =
    let single = step_ok (optional certificate_of m.Certificate d) _ v h in
    let chain = step_ok (optional signing_chain_of m.X509CertificateChain d) _ v single.2 in
    let key = step_ok (optional hint_of m.PublicKey d) (one_material_of single.0 chain.0) v chain.2 in
    one_material_was single.0 chain.0 key.0 v (optional_was certificate_of m.Certificate d single.0 single.1)
    (optional_was signing_chain_of m.X509CertificateChain d chain.0 chain.1) key.2

-- what stands at the members of the three
record Stands (members : List (TypesMember × Option Data)) (v : VerificationMaterialContent) : Type 0 where
  single : written_at (name_of m.Certificate) members ≡ certificate_in v
  chain : written_at (name_of m.X509CertificateChain) members ≡ chain_in v
  key : written_at (name_of m.PublicKey) members ≡ key_in v

three_back : (members : List (TypesMember × Option Data)) (v : VerificationMaterialContent) → Stands members v → (single : Option SigningCertificate)
    (chain : Option SigningChain) (key : Option Hint) → OptionRead certificate_of (certificate_in v) single → OptionRead signing_chain_of (chain_in v) chain
    → OptionRead hint_of (key_in v) key → one_material_of single chain key ≡ Ok v → material_content_of (object_of members) ≡ Ok v
unfolding material_content_of
three_back members v stands single chain key a b c one =
    let first = optional_found certificate_of m.Certificate members (certificate_in v) single stands.single a in
    let second = optional_found signing_chain_of m.X509CertificateChain members (chain_in v) chain stands.chain b in
    let third = optional_found hint_of m.PublicKey members (key_in v) key stands.key c in
    step _ _ single _ first (step _ _ chain _ second (step _ _ key _ third one))

material_content_back : (members : List (TypesMember × Option Data)) (v : VerificationMaterialContent) → Stands members v → MaterialWas v
    → material_content_of (object_of members) ≡ Ok v
material_content_back members (material.Certificate c) stands h =
    three_back members (material.Certificate c) stands (Some (record { certificate = c })) None None
    (some_read certificate_of _ (record { certificate = c }) (certificate_again c h)) refl refl refl
material_content_back members (material.X509CertificateChain chain) stands h =
    three_back members (material.X509CertificateChain chain) stands None (Some (record { certificates = chain })) None refl
    (some_read signing_chain_of _ (record { certificates = chain }) (signing_chain_again chain (chain_was chain h))) refl refl
material_content_back members (material.PublicKey hint) stands h =
    three_back members (material.PublicKey hint) stands None None (Some (record { hint = hint })) refl refl
    (some_read hint_of _ (record { hint = hint }) (hint_again hint)) refl

-- ---- tokens

token_list_again : (v : List (List ℕ)) → WasRead (each_held m.SignedTimestamp) v → IsRead token_list_of (each_holding m.SignedTimestamp v) (record { list = v })
unfolding token_list_of
token_list_again v h = record { back = step _ _ v _ (each_again m.SignedTimestamp v h).back refl; there = refl }

-- what is read of tokens where they are written
record TokensAgain (v : List (List ℕ)) : Type 0 where
  read : Option Tokens
  back : OptionRead tokens_of (tokens_in v) read
  is : or_none read ≡ v

list_was_held : (found : TokenList) → WasRead token_list_of found → WasRead (each_held m.SignedTimestamp) found.list
unfolding token_list_of
list_was_held found h =
    let list = step_ok (each_held m.SignedTimestamp h.from) (λ l. Ok (record { list = l })) found h.was in
    record { from = h.from; was = list.1 ∙ ap Ok (ap (λ (t : TokenList). t.list) (ok_same _ _ list.2)) }

tokens_back : (v : List (List ℕ)) → WasRead (each_held m.SignedTimestamp) v
    → IsRead tokens_of (holding m.Rfc3161Timestamps (each_holding m.SignedTimestamp v)) (record { list = v })
unfolding tokens_of
tokens_back v h =
    let members = (m.Rfc3161Timestamps, Some (each_holding m.SignedTimestamp v)) ∷ [] in
    let list : TokenList = record { list = v } in
    let back = some_read token_list_of (each_holding m.SignedTimestamp v) list (token_list_again v h) in
    record {
      back = step _ _ (Some list) _ (optional_found token_list_of m.Rfc3161Timestamps members (Some (each_holding m.SignedTimestamp v)) (Some list) refl back) refl;
      there = refl;
    }

tokens_of_some : (v : List (List ℕ)) → WasRead (each_held m.SignedTimestamp) v → TokensAgain v
tokens_of_some [] h = record { read = None; back = refl; is = refl }
tokens_of_some (token ∷ tokens) h =
    let v = token ∷ tokens in
    let list : Tokens = record { list = v } in
    record { read = Some list; back = some_read tokens_of (holding m.Rfc3161Timestamps (each_holding m.SignedTimestamp v)) list (tokens_back v h); is = refl }

tokens_of_list : (found : Option TokenList) → WereRead token_list_of found → TokensAgain (or_no_tokens found)
tokens_of_list None h = record { read = None; back = refl; is = refl }
tokens_of_list (Some found) h = tokens_of_some found.list (list_was_held found h)

tokens_again : (found : Option Tokens) → WereRead tokens_of found → TokensAgain (or_none found)
unfolding tokens_of
tokens_again None h = record { read = None; back = refl; is = refl }
tokens_again (Some found) h =
    let list = step_ok (optional token_list_of m.Rfc3161Timestamps h.from) (λ l. Ok (record { list = or_no_tokens l })) found h.was in
    let is : or_no_tokens list.0 ≡ found.list = ap (λ (t : Tokens). t.list) (ok_same _ _ list.2) in
    subst TokensAgain is (tokens_of_list list.0 (optional_was token_list_of m.Rfc3161Timestamps h.from list.0 list.1))

-- ---- the material

entries_again : (entries : List TransparencyLogEntry) → TimesFit entries → AllRead entry_of entries → AllReadAgain entry_of entry_data entries
entries_again [] fits h = tt
entries_again (entry ∷ entries) fits h = (entry_again entry fits.0 h.0, entries_again entries fits.1 h.1)

abbrev made_material : VerificationMaterialContent → List TransparencyLogEntry → List (List ℕ) → VerificationMaterial
made_material content entries tokens = record { content = content; tlog_entries = entries; rfc3161_timestamps = tokens }

material_back : (v : VerificationMaterialContent) (entries : List TransparencyLogEntry) (tokens : List (List ℕ)) → MaterialWas v
    → AllReadAgain entry_of entry_data entries → TokensAgain tokens → IsRead material_of (material_data (made_material v entries tokens)) (made_material v entries tokens)
unfolding material_of material_data
material_back v entries tokens h e t =
    let members = material_members (made_material v entries tokens) in
    let first = material_content_back members v (record { single = alone _; chain = alone _; key = alone _ }) h in
    let second = list_found entry_of entry_data m.TlogEntries members entries (alone _) e in
    let third = optional_found tokens_of m.TimestampVerificationData members (tokens_in tokens) t.read (alone _) t.back in
    record { back = step _ _ v _ first (step _ _ entries _ second (step _ _ t.read _ third (ap (λ l. Ok (made_material v entries l)) t.is))); there = refl }

material_again : (v : VerificationMaterial) → TimesFit v.tlog_entries → WasRead material_of v → IsRead material_of (material_data v) v
unfolding material_of
material_again v fits h =
    let content = step_ok (material_content_of h.from) _ v h.was in
    let entries = step_ok (list entry_of m.TlogEntries h.from) _ v content.2 in
    let tokens = step_ok (optional tokens_of m.TimestampVerificationData h.from) _ v entries.2 in
    let is : made_material content.0 entries.0 (or_none tokens.0) ≡ v = ok_same _ _ tokens.2 in
    subst (λ x. IsRead material_of (material_data x) x) is
    (material_back content.0 entries.0 (or_none tokens.0) (material_content_was h.from content.0 content.1)
    (entries_again entries.0 (subst (λ (x : VerificationMaterial). TimesFit x.tlog_entries) (sym is) fits) (list_was entry_of m.TlogEntries h.from entries.0 entries.1))
    (tokens_again tokens.0 (optional_was tokens_of m.TimestampVerificationData h.from tokens.0 tokens.1)))

-- ---- the whole

media_was : (test : Bool) (name v : List ℕ) → cond test (Ok name) (Err e.MediaType) ≡ Ok v → name ≡ v
media_was true name v h = ok_same _ _ h
media_was false name v h = no_both _ _ (sym h)

-- a media type that was read is one of those that are known
known_type : (d : Data) (v : List ℕ) → media_type_of d ≡ Ok v → cond (is_media_type v) (Ok v) (Err e.MediaType) ≡ Ok v
unfolding media_type_of
known_type d v h =
    let name = step_ok (required text m.MediaType d) _ v h in
    subst (λ n. cond (is_media_type n) (Ok n) (Err e.MediaType) ≡ Ok v) (media_was _ name.0 v name.2) name.2

abbrev made_bundle : List ℕ → SignatureContent → VerificationMaterial → Bundle
made_bundle media_type content material = record { media_type = media_type; content = content; verification_material = material }

bundle_back : (media : List ℕ) (c : SignatureContent) (v : VerificationMaterial) → cond (is_media_type media) (Ok media) (Err e.MediaType) ≡ Ok media
    → ContentWas c → IsRead material_of (material_data v) v → bundle_of (bundle_data (made_bundle media c v)) ≡ Ok (made_bundle media c v)
unfolding bundle_of bundle_data media_type_of
bundle_back media c v known h k =
    let members = bundle_members (made_bundle media c v) in
    let first = required_found text m.MediaType members (string media) media refl refl in
    let second = required_found material_of m.VerificationMaterial members (material_data v) v refl k.back in
    let third = content_back members c (alone _) (alone _) h in
    step _ _ media _ (step _ _ media _ first known) (step _ _ v _ second (step _ _ c _ third refl))

pub bundle_again : (d : Data) (bundle : Bundle) → TimesFit bundle.verification_material.tlog_entries → bundle_of d ≡ Ok bundle → bundle_of (bundle_data bundle) ≡ Ok bundle
unfolding bundle_of
bundle_again d bundle fits h =
    let media = step_ok (media_type_of d) _ bundle h in
    let material = step_ok (required material_of m.VerificationMaterial d) _ bundle media.2 in
    let content = step_ok (content_of d) _ bundle material.2 in
    let is : made_bundle media.0 content.0 material.0 ≡ bundle = ok_same _ _ content.2 in
    subst (λ x. bundle_of (bundle_data x) ≡ Ok x) is
    (bundle_back media.0 content.0 material.0 (known_type d media.0 media.1) (content_was d content.0 content.1)
    (material_again material.0 (subst (λ (x : Bundle). TimesFit x.verification_material.tlog_entries) (sym is) fits)
    (required_was material_of m.VerificationMaterial d material.0 material.1)))
