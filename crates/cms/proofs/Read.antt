-- A value as one of any type has the value's encoding; the steps of a signer's information.
use Rattle.std.proofs.Common.{◌≡◌, ◌∙◌, ℕ, List, Option, Some, None, Ok, Err, refl, sym, ap, subst, true}
use Rattle.foundation.specs.Steps.{◌>>=◌}
use Rattle.foundation.specs.Results.{ok_same, step_ok}
use Rattle.der_grammar.specs.Outcome.{Outcome}
use Rattle.der_grammar.specs.Choices.{is_tag}
use Rattle.der_grammar.specs.Grammar.{Grammar, framed, read_all, write}
use Rattle.der_grammar.specs.Laws.{all-only, one-written}
use Rattle.der_grammar.specs.Sets.{set_from, set_of}
use Rattle.der_grammar.specs.Types.{any_type}
use Rattle.x509_core.specs.declared.algorithm.AlgorithmIdentifierOwned.{AlgorithmIdentifierOwned}
use Rattle.x509_core.specs.declared.attribute.Attribute.{Attribute}
use Rattle.x509_core.specs.Types.{attribute_type}
use Rattle.cms_parts.specs.declared.content_info.ContentInfo.{ContentInfo}
use Rattle.cms_parts.specs.declared.signed_data.SignedData.{SignedData}
use Rattle.cms_parts.specs.declared.signed_data.SignerInfo.{SignerInfo}
use Rattle.cms_parts.specs.CertificatesOnly.{content_of}
use Rattle.cms_parts.specs.Identifiers.{signed_data_oid}
use Rattle.cms_parts.specs.SignedData.{signed_data_type}
use Rattle.cms_parts.specs.Values.{any_from}
use Rattle.cms.specs.Building.{signed_data_of, built}
use Rattle.cms.specs.Error.{of_der}
use Rattle.cms.specs.Parts.{Collected, Signing}
use Rattle.cms.specs.Signing.{signed_by, signed_or, finalized_of, finalized, completed, encoded, if_added}
use Rattle.cms.specs.Digest.{digest_of}
use Rattle.cms.specs.declared.finalize.SigningInput.{SigningInput}

of_der_ok : {A : Type 0} (r : Outcome A) (a : A) → of_der r ≡ Ok a → r ≡ Ok a
of_der_ok (Ok b) a e = ap (λ z. Ok z) (ok_same b a e)
of_der_ok (Err d) a e = absurd cc

write_is : {A : Type 0} (g : Grammar A) (a : A) (c bytes : List ℕ) → g.contents a ≡ Ok c → framed (g.tag a) c ≡ Ok bytes → write g a ≡ Ok bytes
unfolding write
write_is g a c bytes first second = rw first second

write_any_is : (t : ℕ) (c bytes : List ℕ) → is_tag t ≡ true → framed t c ≡ Ok bytes → write any_type.grammar (t, c) ≡ Ok bytes
unfolding write
write_any_is t c bytes tagged second = rw tagged second

-- an encoding of a value under a tag that computes
pub any_alike : {A : Type 0} (g : Grammar A) (a : A) (v : ℕ × List ℕ) → is_tag (g.tag a) ≡ true → any_from g a ≡ Ok v
    → (bytes : List ℕ) × (write any_type.grammar v ≡ Ok bytes) × (write g a ≡ Ok bytes)
unfolding any_from
any_alike g a v tagged e =
    let m = step_ok (g.contents a) (λ c. framed (g.tag a) c >>= λ encoding. Ok (g.tag a, c)) v e in
    let n = step_ok (framed (g.tag a) m.0) (λ encoding. Ok (g.tag a, m.0)) v m.2 in
    let is : (g.tag a, m.0) ≡ v = ok_same (g.tag a, m.0) v n.2 in (
      n.0,
      subst (λ (z : ℕ × List ℕ). write any_type.grammar z ≡ Ok n.0) is (write_any_is (g.tag a) m.0 n.0 tagged n.1),
      write_is g a m.0 n.0 m.1 n.1,
    )

pub content_read : (signed : SignedData) (content : ContentInfo) → content_of signed ≡ Ok content
    → (bytes : List ℕ) × (content.content_type ≡ signed_data_oid) × (write any_type.grammar content.content ≡ Ok bytes)
    × (read_all signed_data_type.grammar bytes ≡ Ok signed)
unfolding content_of
content_read signed content e =
    let m = step_ok (any_from signed_data_type.grammar signed)
    (λ value. Ok (record { content_type = signed_data_oid; content = value })) content e in
    let alike = any_alike signed_data_type.grammar signed m.0 refl m.1 in
    let is = ok_same _ content m.2 in
    let value : m.0 ≡ content.content = ap (λ (z : ContentInfo). z.content) is in (
      alike.0,
      sym (ap (λ (z : ContentInfo). z.content_type) is),
      subst (λ (z : ℕ × List ℕ). write any_type.grammar z ≡ Ok alike.0) value alike.1,
      all-only signed_data_type.grammar signed_data_type.lawful alike.0 signed
          (one-written signed_data_type.grammar signed_data_type.lawful signed alike.0 alike.2),
    )

pub built_read : (c : Collected) (content : ContentInfo) → built c ≡ Ok content
    → (signed : SignedData) × (bytes : List ℕ) × (signed_data_of c ≡ Ok signed) × (content.content_type ≡ signed_data_oid)
    × (write any_type.grammar content.content ≡ Ok bytes) × (read_all signed_data_type.grammar bytes ≡ Ok signed)
unfolding built
built_read c content e =
    let m = step_ok (signed_data_of c) (λ signed. of_der (content_of signed)) content e in
    let r = content_read m.0 content (of_der_ok (content_of m.0) content m.2) in
    (m.0, r.0, m.1, r.1, r.2, r.3)

signed_some : (o : Option (List ℕ)) (s : List ℕ) → signed_or o ≡ Ok s → o ≡ Some s
signed_some None s e = absurd cc
signed_some (Some t) s e = ap (λ z. Some z) (ok_same t s e)

-- what was encoded is the set's encoding
encoded_is : (attributes : List Attribute) (f : SigningInput) → encoded attributes ≡ Ok f
    → write (set_of attribute_type.grammar) f.members ≡ Ok f.encoding
unfolding encoded
encoded_is attributes f e =
    let m = step_ok (of_der (set_from attribute_type.grammar attributes)) _ f e in
    let n = step_ok (of_der (write (set_of attribute_type.grammar) m.0)) _ f m.2 in
    let is = ok_same _ f n.2 in
    let w = of_der_ok (write (set_of attribute_type.grammar) m.0) n.0 n.1 in
    subst (λ (z : SigningInput). write (set_of attribute_type.grammar) z.members ≡ Ok z.encoding) is w

finalized_is : {S : Type 0} (b : Signing S) (f : SigningInput) → finalized_of b ≡ Ok f
    → write (set_of attribute_type.grammar) f.members ≡ Ok f.encoding
unfolding finalized
finalized_is b f e =
    let m = step_ok (digest_of b.digest_algorithm.oid b.content.econtent b.made) _ f e in
    let n = step_ok (completed b.content.econtent_type m.0 b.signed) _ f m.2 in
    encoded_is n.0 f n.2

pub signature_of_set : (S : Type 0) (algorithm : AlgorithmIdentifierOwned) (signs : List ℕ → Option (List ℕ)) (b : Signing S)
    (info : SignerInfo) → signed_by algorithm signs b ≡ Ok info
    → (members : List Attribute) × (encoding : List ℕ) × (info.signed_attrs ≡ Some members)
    × (write (set_of attribute_type.grammar) members ≡ Ok encoding) × (signs encoding ≡ Some info.signature)
unfolding signed_by
signature_of_set S algorithm signs b info e =
    let m = step_ok (finalized_of b) _ info e in
    let n = step_ok (if_added b.unsigned) _ info m.2 in
    let o = step_ok (signed_or (signs m.0.encoding)) _ info n.2 in
    let is = ok_same _ info o.2 in
    let s = signed_some (signs m.0.encoding) o.0 o.1 in (
      m.0.members,
      m.0.encoding,
      sym (ap (λ (z : SignerInfo). z.signed_attrs) is),
      finalized_is b m.0 m.1,
      s ∙ ap (λ (z : SignerInfo). Some z.signature) is,
    )
