-- A verifier is made of exactly the usable trust files.
use Rattle.std.proofs.Common.{◌≡◌, ◌≢◌, ℕ, Bool, true, false, cond, List, [], ◌∷◌, ◌++◌, map, length, Option, Some, None, Result, Ok, Err, Ordering, Less, Equal, Greater, refl, sym, ap, ◌∙◌, subst}
use Rattle.std.specs.Prelude.{⊤, nat_eq, is_some}
use Rattle.std.specs.List.{AllByRecursion}
use Rattle.std.specs.Ordering.{is_eq, match_ordering}
use Rattle.std.proofs.lemmas.Bool.{eqb-true, eq-eqb}
use Rattle.std.proofs.lemmas.Map.Text.{is_eq-slice_cmp}
use Rattle.std.proofs.lemmas.Slice.Eq.{bytes_eq-Decides}
use Rattle.foundation.specs.Steps.{◌>>=◌}
use Rattle.foundation.specs.Results.{step_ok, ok_same}
use Rattle.sigstore_types_parts.specs.Entries.{text_cmp}
use Rattle.sigstore_types_parts.specs.declared.time_range.TimeRange.{TimeRange}
use Rattle.sigstore_types_parts.specs.TimeRange.{ends_by}
use Rattle.sigstore_types.specs.declared.authority.Authority.{Authority}
use Rattle.sigstore_types.specs.declared.trusted_root.TrustedLog.{TrustedLog}
use Rattle.sigstore_types.specs.declared.trusted_root.TrustedRoot.{TrustedRoot}
use Rattle.sigstore_keys.specs.declared.keyring.HeldKey.{HeldKey}
use Rattle.sigstore_keys.specs.Keyring.{Ring, held_at, with_held}
use Rattle.sigstore_keys.proofs.Rings.{apart}
use Rattle.path_core.specs.declared.error.PathError.{PathError}
use Rattle.path_core.specs.Anchors.{TrustAnchor, may_anchor}
use Rattle.sigstore_judgement.specs.declared.error.Error.{Error}
use Rattle.sigstore_judgement.specs.declared.error.Error.TheVariants.{InvalidTrustRoot, Types}
use Rattle.sigstore_judgement.specs.declared.trust.LogKind.{LogKind}
use Rattle.sigstore_judgement.specs.declared.trust.LogKind.TheVariants.{Entries, Certificates}
use Rattle.sigstore_judgement.specs.Trust.{window_usable, id_usable, id_new, log_key_of, log_added, logs_added, nonempty, or_certificate}
use Rattle.sigstore_judgement.specs.Trust.{certificate_added, certificates_added, authority_added, authorities_added, material_of, usable_of}
use Rattle.sigstore_judgement.specs.Usable.{IsOrdered, id_in, IsUsableLog, AreUsableLogs, IsUsableAuthority, IsUsable, UsableExactly}

-- ---- what is held after an insertion

same_id : (id : List ℕ) → is_eq (text_cmp id id) ≡ true
same_id id = is_eq-slice_cmp id id ∙ (bytes_eq-Decides id id).1 refl

equal_ids : (id other : List ℕ) → text_cmp id other ≡ Equal → id ≡ other
equal_ids id other e = (bytes_eq-Decides id other).0 (sym (is_eq-slice_cmp id other) ∙ ap is_eq e)

held_here : (id : List ℕ) (held : HeldKey) (ring : Ring) → held_at id (with_held id held ring) ≡ Some held
held_here id held [] = ap (λ b. cond b (Some held) None) (same_id id)
held_here id held (e ∷ ring) = by (held_here id held ring) (text_cmp id e.0) refl
  where
    by : held_at id (with_held id held ring) ≡ Some held → (o : Ordering) → text_cmp id e.0 ≡ o → held_at id (match_ordering o ((id, held) ∷ e ∷ ring) ((e.0, held) ∷ ring) (e ∷ with_held id held ring)) ≡ Some held
    by later Less is = ap (λ b. cond b (Some held) (held_at id (e ∷ ring))) (same_id id)
    by later Equal is = ap (λ o. cond (is_eq o) (Some held) (held_at id ring)) is
    by later Greater is = ap (λ o. cond (is_eq o) (Some e.1) (held_at id (with_held id held ring))) is ∙ later

held_other : (id other : List ℕ) (held : HeldKey) (ring : Ring) → other ≢ id → held_at other (with_held id held ring) ≡ held_at other ring
held_other id other held [] differ = ap (λ b. cond b (Some held) None) (apart other id (λ same. differ (sym same)))
held_other id other held (e ∷ ring) differ = by (apart other id (λ same. differ (sym same))) (held_other id other held ring differ) (text_cmp id e.0) refl
  where
    by : is_eq (text_cmp other id) ≡ false → held_at other (with_held id held ring) ≡ held_at other ring → (o : Ordering) → text_cmp id e.0 ≡ o
        → held_at other (match_ordering o ((id, held) ∷ e ∷ ring) ((e.0, held) ∷ ring) (e ∷ with_held id held ring)) ≡ held_at other (e ∷ ring)
    by far later Less is = ap (λ b. cond b (Some held) (held_at other (e ∷ ring))) far
    by far later Equal is =
        let here : is_eq (text_cmp other e.0) ≡ false = subst (λ k. is_eq (text_cmp other k) ≡ false) (equal_ids id e.0 is) far in
        ap (λ b. cond b (Some held) (held_at other ring)) here ∙ sym (ap (λ b. cond b (Some e.1) (held_at other ring)) here)
    by far later Greater is = ap (cond (is_eq (text_cmp other e.0)) (Some e.1)) later

-- ---- spans

ordered : (window : Option TimeRange) (x : ⊤) → window_usable window ≡ Ok x → IsOrdered window
ordered None x h = tt
ordered (Some range) x h = by (ends_by range.end range.start) refl h
  where
    by : (b : Bool) → ends_by range.end range.start ≡ b → ◌≡◌ {A = Result ⊤ Error} (cond b (Ok tt) (Err InvalidTrustRoot)) (Ok x) → ends_by range.end range.start ≡ true
    by true is h = is
    by false is h = cc

is_ordered : (window : Option TimeRange) → IsOrdered window → window_usable window ≡ Ok tt
is_ordered None h = refl
is_ordered (Some range) h = ap (λ b. cond b (Ok tt) (Err InvalidTrustRoot)) h

-- ---- logs

pub record LogStep (kind : LogKind) (log : TrustedLog) (ring after : Ring) : Type 0 where
  usable : IsUsableLog kind log
  new : held_at (id_in log) ring ≡ None
  held : HeldKey
  is : with_held (id_in log) held ring ≡ after

sized : (id given : List ℕ) → id_usable id ≡ Ok given → (length id ≡ 32) × (id ≡ given)
sized id given h = by (nat_eq (length id) 32) refl h
  where
    by : (b : Bool) → nat_eq (length id) 32 ≡ b → ◌≡◌ {A = Result (List ℕ) Error} (cond b (Ok id) (Err Types)) (Ok given) → (length id ≡ 32) × (id ≡ given)
    by true is h = (eqb-true (length id) 32 is, ok_same id given h)
    by false is h = cc

not_held : (id : List ℕ) (ring : Ring) (x : ⊤) → id_new id ring ≡ Ok x → held_at id ring ≡ None
not_held id ring x h = by (held_at id ring) h
  where
    by : (o : Option HeldKey) → ◌≡◌ {A = Result ⊤ Error} (cond (is_some o) (Err InvalidTrustRoot) (Ok tt)) (Ok x) → o ≡ None
    by None h = refl
    by (Some held) h = cc

log_step : (kind : LogKind) (log : TrustedLog) (ring after : Ring) → log_added kind log ring ≡ Ok after → LogStep kind log ring after
unfolding log_added
log_step kind log ring after h =
    let one = step_ok (window_usable log.valid_for) _ after h in
    let two = step_ok (id_usable (id_in log)) _ after one.2 in
    let three = step_ok (id_new two.0 ring) _ after two.2 in
    let four = step_ok (log_key_of kind log.raw_bytes) _ after three.2 in
    let size = sized (id_in log) two.0 two.1 in
    let held : HeldKey = record { key = four.0; validity = log.valid_for } in
    record {
      usable = record { window = ordered log.valid_for one.0 one.1; id = size.0; key = four.0; read = four.1 };
      new = subst (λ id. held_at id ring ≡ None) (sym size.1) (not_held two.0 ring three.0 three.1);
      held = held;
      is = ap (λ id. with_held id held ring) size.1 ∙ ok_same (with_held two.0 held ring) after four.2;
    }

log_goes : (kind : LogKind) (log : TrustedLog) (ring : Ring) → (usable : IsUsableLog kind log) → held_at (id_in log) ring ≡ None
    → log_added kind log ring ≡ Ok (with_held (id_in log) (record { key = usable.key; validity = log.valid_for }) ring)
unfolding log_added
log_goes kind log ring usable new =
    ap (λ r. r >>= λ _. (id_usable (id_in log) >>= λ id. id_new id ring >>= λ _. log_key_of kind log.raw_bytes >>= λ key. Ok (with_held id (record { key = key; validity = log.valid_for }) ring))) (is_ordered log.valid_for usable.window)
    ∙ ap (λ b. cond b (Ok (id_in log)) (Err Types) >>= λ id. id_new id ring >>= λ _. log_key_of kind log.raw_bytes >>= λ key. Ok (with_held id (record { key = key; validity = log.valid_for }) ring)) (eq-eqb (length (id_in log)) 32 usable.id)
    ∙ ap (λ o. cond (is_some o) (Err InvalidTrustRoot) (Ok tt) >>= λ _. log_key_of kind log.raw_bytes >>= λ key. Ok (with_held (id_in log) (record { key = key; validity = log.valid_for }) ring)) new
    ∙ ap (λ r. r >>= λ key. Ok (with_held (id_in log) (record { key = key; validity = log.valid_for }) ring)) usable.read

abbrev AreNew : Ring → List (List ℕ) → Type 0
AreNew ring ids = AllByRecursion (λ id. held_at id ring ≡ None) ids

none_some : {A C : Type 0} (x : A) (o : Option A) → o ≡ Some x → o ≡ None → C
none_some x o one two = cc

-- what isn't held after an insertion is another id, and wasn't held before
others_new : (id : List ℕ) (held : HeldKey) (ring : Ring) (ids : List (List ℕ)) → AreNew (with_held id held ring) ids → AllByRecursion (λ other. other ≢ id) ids × AreNew ring ids
others_new id held ring [] all = (tt, tt)
others_new id held ring (other ∷ ids) all =
    let rest = others_new id held ring ids all.1 in
    let differ : other ≢ id = λ same. none_some held (held_at other (with_held id held ring)) (ap (λ k. held_at k (with_held id held ring)) same ∙ held_here id held ring) all.0 in
    ((differ, rest.0), (sym (held_other id other held ring differ) ∙ all.0, rest.1))

still_new : (id : List ℕ) (held : HeldKey) (ring : Ring) (ids : List (List ℕ)) → AllByRecursion (λ other. other ≢ id) ids → AreNew ring ids → AreNew (with_held id held ring) ids
still_new id held ring [] apart all = tt
still_new id held ring (other ∷ ids) apart all = (held_other id other held ring apart.0 ∙ all.0, still_new id held ring ids apart.1 all.1)

logs_fit : (kind : LogKind) (logs : List TrustedLog) (ring after : Ring) → logs_added kind logs ring ≡ Ok after → AreUsableLogs kind logs × AreNew ring (map id_in logs)
logs_fit kind [] ring after h = (record { each = tt; distinct = tt }, tt)
logs_fit kind (log ∷ logs) ring after h =
    let step = step_ok (log_added kind log ring) (logs_added kind logs) after h in
    let one = log_step kind log ring step.0 step.1 in
    let rest = logs_fit kind logs step.0 after step.2 in
    let new = others_new (id_in log) one.held ring (map id_in logs) (subst (λ r. AreNew r (map id_in logs)) (sym one.is) rest.1) in
    (record { each = (one.usable, rest.0.each); distinct = (new.0, rest.0.distinct) }, (one.new, new.1))

logs_go : (kind : LogKind) (logs : List TrustedLog) (ring : Ring) → AreUsableLogs kind logs → AreNew ring (map id_in logs) → (after : Ring) × (logs_added kind logs ring ≡ Ok after)
logs_go kind [] ring usable new = (ring, refl)
logs_go kind (log ∷ logs) ring usable new =
    let one = usable.each.0 in
    let held : HeldKey = record { key = one.key; validity = log.valid_for } in
    let rest = logs_go kind logs (with_held (id_in log) held ring) (record { each = usable.each.1; distinct = usable.distinct.1 })
    (still_new (id_in log) held ring (map id_in logs) usable.distinct.0 new.1) in
    (rest.0, ap (λ r. r >>= logs_added kind logs) (log_goes kind log ring one new.0) ∙ rest.1)

all_new : (ids : List (List ℕ)) → AreNew [] ids
all_new [] = tt
all_new (id ∷ ids) = (refl, all_new ids)

-- ---- authorities

may : (certificate : List ℕ) (x : ⊤) → or_certificate (may_anchor certificate) ≡ Ok x → may_anchor certificate ≡ Ok tt
may certificate x h = by (may_anchor certificate) refl h
  where
    by : (r : Result ⊤ PathError) → may_anchor certificate ≡ r → or_certificate r ≡ Ok x → may_anchor certificate ≡ Ok tt
    by (Ok y) is h = is
    by (Err e) is h = cc

certificates_fit : (valid_for : Option TimeRange) (certificates : List (List ℕ)) (anchors after : List TrustAnchor) → certificates_added valid_for certificates anchors ≡ Ok after
    → AllByRecursion (λ certificate. may_anchor certificate ≡ Ok tt) certificates
unfolding certificate_added
certificates_fit valid_for [] anchors after h = tt
certificates_fit valid_for (certificate ∷ certificates) anchors after h =
    let step = step_ok (certificate_added valid_for certificate anchors) (certificates_added valid_for certificates) after h in
    let one = step_ok (or_certificate (may_anchor certificate)) _ step.0 step.1 in
    (may certificate one.0 one.1, certificates_fit valid_for certificates step.0 after step.2)

certificates_go : (valid_for : Option TimeRange) (certificates : List (List ℕ)) (anchors : List TrustAnchor) → AllByRecursion (λ certificate. may_anchor certificate ≡ Ok tt) certificates
    → (after : List TrustAnchor) × (certificates_added valid_for certificates anchors ≡ Ok after)
unfolding certificate_added
certificates_go valid_for [] anchors all = (anchors, refl)
certificates_go valid_for (certificate ∷ certificates) anchors all =
    let more = anchors ++ record { certificate = certificate; valid_for = valid_for } ∷ [] in
    let rest = certificates_go valid_for certificates more all.1 in
    (rest.0, ap (λ r. (or_certificate r >>= λ _. Ok more) >>= certificates_added valid_for certificates) all.0 ∙ rest.1)

filled : (certificates : List (List ℕ)) (x : ⊤) → nonempty certificates ≡ Ok x → certificates ≢ []
filled [] x h = cc
filled (c ∷ cs) x h = λ e. cc

is_filled : (certificates : List (List ℕ)) → certificates ≢ [] → nonempty certificates ≡ Ok tt
is_filled [] h = absurd (h refl)
is_filled (c ∷ cs) h = refl

authority_fits : (authority : Authority) (anchors after : List TrustAnchor) → authority_added authority anchors ≡ Ok after → IsUsableAuthority authority
unfolding authority_added
authority_fits authority anchors after h =
    let one = step_ok (window_usable authority.valid_for) _ after h in
    let two = step_ok (nonempty authority.certificates) _ after one.2 in
    record {
      window = ordered authority.valid_for one.0 one.1;
      chain = filled authority.certificates two.0 two.1;
      certificates = certificates_fit authority.valid_for authority.certificates anchors after two.2;
    }

authority_goes : (authority : Authority) (anchors : List TrustAnchor) → IsUsableAuthority authority → (after : List TrustAnchor) × (authority_added authority anchors ≡ Ok after)
unfolding authority_added
authority_goes authority anchors usable =
    let rest = certificates_go authority.valid_for authority.certificates anchors usable.certificates in (
      rest.0,
      ap (λ r. r >>= λ _. nonempty authority.certificates >>= λ _. certificates_added authority.valid_for authority.certificates anchors) (is_ordered authority.valid_for usable.window)
          ∙ ap (λ r. r >>= λ _. certificates_added authority.valid_for authority.certificates anchors) (is_filled authority.certificates usable.chain)
          ∙ rest.1,
    )

authorities_fit : (authorities : List Authority) (anchors after : List TrustAnchor) → authorities_added authorities anchors ≡ Ok after → AllByRecursion IsUsableAuthority authorities
authorities_fit [] anchors after h = tt
authorities_fit (authority ∷ authorities) anchors after h =
    let step = step_ok (authority_added authority anchors) (authorities_added authorities) after h in
    (authority_fits authority anchors step.0 step.1, authorities_fit authorities step.0 after step.2)

authorities_go : (authorities : List Authority) (anchors : List TrustAnchor) → AllByRecursion IsUsableAuthority authorities → (after : List TrustAnchor) × (authorities_added authorities anchors ≡ Ok after)
authorities_go [] anchors all = (anchors, refl)
authorities_go (authority ∷ authorities) anchors all =
    let one = authority_goes authority anchors all.0 in
    let rest = authorities_go authorities one.0 all.1 in
    (rest.0, ap (λ r. r >>= authorities_added authorities) one.1 ∙ rest.1)

-- ---- the whole

usable_fits : (trust : TrustedRoot) → usable_of trust ≡ Ok tt → IsUsable trust
unfolding material_of
usable_fits trust h =
    let made = step_ok (material_of trust) _ tt h in
    let one = step_ok (logs_added Entries trust.tlogs []) _ made.0 made.1 in
    let two = step_ok (logs_added Certificates trust.ctlogs []) _ made.0 one.2 in
    let three = step_ok (authorities_added trust.certificate_authorities []) _ made.0 two.2 in
    let four = step_ok (authorities_added trust.timestamp_authorities []) _ made.0 three.2 in
    record {
      tlogs = (logs_fit Entries trust.tlogs [] one.0 one.1).0;
      ctlogs = (logs_fit Certificates trust.ctlogs [] two.0 two.1).0;
      certificate_authorities = authorities_fit trust.certificate_authorities [] three.0 three.1;
      timestamp_authorities = authorities_fit trust.timestamp_authorities [] four.0 four.1;
    }

material_made : (trust : TrustedRoot) (logs ct_logs : Ring) (anchors stamping : List TrustAnchor) → logs_added Entries trust.tlogs [] ≡ Ok logs → logs_added Certificates trust.ctlogs [] ≡ Ok ct_logs
    → authorities_added trust.certificate_authorities [] ≡ Ok anchors → authorities_added trust.timestamp_authorities [] ≡ Ok stamping → usable_of trust ≡ Ok tt
unfolding material_of
material_made trust logs ct_logs anchors stamping one two three four = cc

pub usable_exactly : UsableExactly
usable_exactly trust = (
  usable_fits trust,
  λ usable.
      let one = logs_go Entries trust.tlogs [] usable.tlogs (all_new (map id_in trust.tlogs)) in
      let two = logs_go Certificates trust.ctlogs [] usable.ctlogs (all_new (map id_in trust.ctlogs)) in
      let three = authorities_go trust.certificate_authorities [] usable.certificate_authorities in
      let four = authorities_go trust.timestamp_authorities [] usable.timestamp_authorities in
      material_made trust one.0 two.0 three.0 four.0 one.1 two.1 three.1 four.1,
)
