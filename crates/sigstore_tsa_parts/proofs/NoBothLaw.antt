-- What is read as a response begins with a SEQUENCE, and what is read as a ContentInfo with an OBJECT IDENTIFIER.
use Rattle.std.proofs.Common.{◌≡◌, ℕ, List, true, eqb, Ok, refl, sym, subst, ◌∙◌}
use Rattle.std.proofs.lemmas.Bool.{eqb-true}
use Rattle.foundation.specs.Steps.{◌>>=◌}
use Rattle.der_grammar.specs.declared.error.DerError.TheVariants.{Tag}
use Rattle.der_grammar.specs.Tlv.{tlv_at}
use Rattle.der_grammar.specs.TlvLaws.{bind_ok, ok_is, passed}
use Rattle.der_grammar.specs.Grammar.{Grammar, Fields, sequence, both, mapped_fields, one, read, read_body, read_all, ended}
use Rattle.der_grammar.specs.Types.{optional_component, required_component, any_type, explicit_type}
use Rattle.der_core.specs.Oid.{oid_type}
use Rattle.cms_parts.specs.declared.content_info.ContentInfo.{ContentInfo}
use Rattle.cms_parts.specs.ContentInfo.{content_info_type}
use Rattle.sigstore_tsa_parts.specs.declared.response.TimeStampResp.{TimeStampResp}
use Rattle.sigstore_tsa_parts.specs.NoBoth.{NoBoth}
use Rattle.sigstore_tsa_parts.specs.Types.{time_stamp_resp_type, pki_status_info_type}

-- what is read has a tag and contents
abbrev Begins : {A : Type 0} → Grammar A → List ℕ → Type 0
Begins g bytes = (t : ℕ × List ℕ × List ℕ) × (tlv_at bytes ≡ Ok t) × (g.accepts t.0 ≡ true)

begins : {A : Type 0} (g : Grammar A) (bytes : List ℕ) (x : A × List ℕ) → read g bytes ≡ Ok x → Begins g bytes
unfolding read
begins g bytes x e =
    let m = bind_ok (tlv_at bytes) (read_body g) x e in
    let t = m.0 in
    let p = passed (g.accepts t.0) Tag (g.value t.0 t.1 >>= λ a. Ok (a, t.2)) x m.2 in
    (t, m.1, p.0)

-- and the value is that of the contents
abbrev Holds : {A : Type 0} → Grammar A → List ℕ → A → Type 0
Holds g bytes a = (t : ℕ × List ℕ × List ℕ) × (tlv_at bytes ≡ Ok t) × (g.value t.0 t.1 ≡ Ok a)

holds : {A : Type 0} (g : Grammar A) (bytes : List ℕ) (a : A) → read_all g bytes ≡ Ok a → (b : A) × Holds g bytes b
unfolding read_all read
holds g bytes a e =
    let w = bind_ok (tlv_at bytes >>= read_body g) ended a e in
    let m = bind_ok (tlv_at bytes) (read_body g) w.0 w.1 in
    let t = m.0 in
    let p = passed (g.accepts t.0) Tag (g.value t.0 t.1 >>= λ a. Ok (a, t.2)) w.0 m.2 in
    let v = bind_ok (g.value t.0 t.1) (λ a. Ok (a, t.2)) w.0 p.1 in
    (v.0, (t, m.1, v.1))

-- the first of two components begins the contents
first_begins : {A B C : Type 0} (tag : ℕ) (to : A × B → C) (back : C → A × B) (g : Grammar A) (f : Fields B) (contents : List ℕ) (c : C)
    → (sequence tag (mapped_fields to back (both (one g) f))).value tag contents ≡ Ok c → Begins g contents
first_begins tag to back g f contents c e =
    let s = bind_ok ((both (one g) f).value_at contents >>= λ x. Ok (to x.0, x.1)) ended c e in
    let m = bind_ok ((both (one g) f).value_at contents) (λ x. Ok (to x.0, x.1)) s.0 s.1 in
    let b = bind_ok (read g contents) (λ x. f.value_at x.1 >>= λ y. Ok ((x.0, y.0), y.1)) m.0 m.1 in
    begins g contents b.0 b.1

same_tlv : (bytes : List ℕ) (t u : ℕ × List ℕ × List ℕ) → tlv_at bytes ≡ Ok t → tlv_at bytes ≡ Ok u → t ≡ u
same_tlv bytes t u d e = ok_is t u (sym d ∙ e)

clash : (t : ℕ) → eqb t 48 ≡ true → eqb t 6 ≡ true → ⊥
clash t a b = let x = eqb-true t 48 a in let y = eqb-true t 6 b in absurd cc

pub no_both : NoBoth
no_both bytes response content d e =
    let r = holds time_stamp_resp_type.grammar bytes response d in
    let c = holds content_info_type.grammar bytes content e in
    let same = same_tlv bytes r.1.0 c.1.0 r.1.1 c.1.1 in
    let x = first_begins 48 (λ x. record { status = x.0; time_stamp_token = x.1 }) (λ (a : TimeStampResp). (a.status, a.time_stamp_token)) pki_status_info_type.grammar (optional_component any_type).fields r.1.0.1 r.0 r.1.2 in
    let y = first_begins 48 (λ x. record { content_type = x.0; content = x.1 }) (λ (a : ContentInfo). (a.content_type, a.content)) oid_type.grammar (required_component (explicit_type 160 any_type refl)).fields c.1.0.1 c.0 c.1.2 in
    let y' = subst (λ (t : ℕ × List ℕ × List ℕ). Begins oid_type.grammar t.1) (sym same) y in
    let tags = same_tlv r.1.0.1 x.0 y'.0 x.1 y'.1 in
    clash x.0.0 x.2 (subst (λ (t : ℕ × List ℕ × List ℕ). eqb t.0 6 ≡ true) (sym tags) y'.2)
