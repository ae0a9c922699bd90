-- What rules say of an artifact by the digests that were taken of it for all of them.
use Rattle.std.proofs.Common.{◌≡◌, ℕ, suc, ◌≤◌, List, [], ◌∷◌, Bool, true, false, cond, map, find, Option, Some, None, ok_or, Result, Ok, Err, IfOk, IfErr, refl, sym, ap, ◌∙◌, subst}
use Rattle.std.specs.List.{list_any}
use Rattle.foundation.specs.Steps.{◌>>=◌}
use Rattle.foundation.specs.Results.{no_both, err_same}
use Rattle.foundation.specs.Watched.{Watched}
use Rattle.sigstore_types_parts.specs.HashAlgorithm.{same_algorithm}
use Rattle.sigstore_types_parts.specs.declared.hash_algorithm.HashAlgorithm.{HashAlgorithm}
use Rattle.sigstore_types.specs.declared.bundle.Bundle.{Bundle}
use Rattle.sigstore_keys.specs.Digest.{digest_by, digests_by}
use Rattle.sigstore_keys.specs.declared.reader.ReadError.{ReadError}
use Rattle.sigstore_policy.specs.Policy.{Meaning}
use Rattle.sigstore_judgement.specs.declared.error.Error.{Error}
use Rattle.sigstore_judgement.specs.declared.error.Error.TheVariants.{ArtifactRead, UnsupportedArtifact, NoMemory}
use Rattle.sigstore_judgement.specs.declared.report.JudgedBundle.{JudgedBundle}
use Rattle.sigstore_judgement.specs.declared.report.VerificationResult.{VerificationResult}
use Rattle.sigstore_judgement.specs.declared.rules.JudgedByRule.{JudgedByRule}
use Rattle.sigstore_judgement.specs.declared.rules.ReadArtifact.{ReadArtifact}
use Rattle.sigstore_judgement.specs.declared.rules.ReadArtifact.TheVariants as read
use Rattle.sigstore_judgement.specs.declared.rules.RulesError.{RulesError}
use Rattle.sigstore_judgement.specs.declared.rules.RulesError.TheVariants.{Shared, Each}
use Rattle.sigstore_judgement.specs.Artifact.{Read, read_kind, digest_among}
use Rattle.sigstore_judgement.specs.Grounds.{Grounds, terms_over}
use Rattle.sigstore_judgement.specs.Judged.{Ready, prepared_of, judged_had, judged_of, needed_in, needed_by}
use Rattle.sigstore_judgement.specs.Promise.{ReadWhole, ReadCause, TookWithin}
use Rattle.sigstore_judgement.specs.Rules.{Whole, Unread, answer_of, or_later, first_from, answers_of, needed_by_rules, IsReadFor, picked_one_of, picked_of, picked_judged_of, ready_answer_of, answer_by, answers_by}
use Rattle.sigstore_judgement.specs.Rules.{RefusesSo, before_reading, after_reading, in_reading, RefusedByRules, VerifiesByRules}
use Rattle.sigstore_judgement.proofs.FirstLaw.{all_zip, each_refuses}
use Rattle.sigstore_judgement.proofs.KnownArtifact.{same_is, same_sym, or_later as later_is, first_of, later_of}
use Rattle.sigstore_judgement.proofs.Needed.{AreAmong, IsCovered, AreCovered, needed_covers, AreUnprepared, needed_none}
use Rattle.sigstore_judgement.proofs.Stages.{unready, read_judged}

-- ---- a rule's digests are found among those that were taken

module _ (bytes : List ℕ) where
  abbrev Found : HashAlgorithm → List HashAlgorithm → Type 0
  Found a taken = picked_one_of a (digests_by taken bytes) ≡ Ok (a, digest_by a bytes)

  found_first : (a b : HashAlgorithm) (bs : List HashAlgorithm) (t : Bool) → same_algorithm b a ≡ t → (t ≡ false → Found a bs) → Found a (b ∷ bs)
  found_first a b bs true e later =
      ap (λ t. ok_or (cond t (Some (b, digest_by b bytes)) (find (λ (x : HashAlgorithm × List ℕ). same_algorithm x.0 a) (digests_by bs bytes))) UnsupportedArtifact) e
      ∙ ap (λ c. Ok (c, digest_by c bytes)) (same_is b a e)
  found_first a b bs false e later =
      ap (λ t. ok_or (cond t (Some (b, digest_by b bytes)) (find (λ (x : HashAlgorithm × List ℕ). same_algorithm x.0 a) (digests_by bs bytes))) UnsupportedArtifact) e
      ∙ later refl

  found : (a : HashAlgorithm) (taken : List HashAlgorithm) → list_any (same_algorithm a) taken ≡ true → Found a taken
  found a [] h = cc
  found a (b ∷ bs) h =
      found_first a b bs (same_algorithm b a) refl
      (λ other. found a bs (later_is (same_algorithm a b) (list_any (same_algorithm a) bs) (same_sym a b ∙ other) h))

  all_found : (taken needed : List HashAlgorithm) → AreAmong needed taken → picked_of needed (digests_by taken bytes) ≡ Ok (digests_by needed bytes)
  all_found taken [] among = refl
  all_found taken (a ∷ needed) among =
      ap (λ r. r >>= λ digest. picked_of needed (digests_by taken bytes) >>= λ others. Ok (digest ∷ others)) (found a taken (among a (first_of a needed)))
      ∙ ap (λ r. r >>= λ others. Ok ((a, digest_by a bytes) ∷ others)) (all_found taken needed (λ b h. among b (later_of b a needed h)))

module _ (grounds : Grounds) (bundle : Bundle) where
  -- ---- by the digests of bytes that were read to the end

  module _ (bytes : List ℕ) (needed : List HashAlgorithm) where
    abbrev By : Meaning → Result JudgedBundle Error
    By policy = answer_by grounds bundle (read.Digests (digests_by needed bytes)) policy

    abbrev Of : Meaning → Result JudgedBundle Error
    Of policy = answer_of grounds bundle (Whole bytes) policy

    abbrev with_digests : List (HashAlgorithm × List ℕ) → VerificationResult → Result JudgedBundle Error
    with_digests digests report = Ok (record { result = report; digests = digests })

    same_answer : (policy : Meaning) → IsCovered bundle needed policy → By policy ≡ Of policy
    unfolding answer_by picked_judged_of
    same_answer policy covered = by (prepared_of read_kind policy bundle) refl
      where
        taken : List (HashAlgorithm × List ℕ)
        taken = digests_by needed bytes

        by : (r : Result Ready Error) → prepared_of read_kind policy bundle ≡ r → By policy ≡ Of policy
        by (Err e) p =
            ap (λ s. s >>= ready_answer_of grounds bundle (read.Digests taken)) p
            ∙ sym (ap (λ s. s >>= with_digests (digests_by (needed_by policy bundle) bytes)) (unready (terms_over grounds policy) bundle (Read bytes) e p))
        by (Ok ready) p =
            let digests = digests_by ready.needed bytes in
            ap (λ s. s >>= ready_answer_of grounds bundle (read.Digests taken)) p
            ∙ ap (λ s. s >>= λ ds. judged_had grounds ready bundle (digest_among ds) None >>= with_digests ds)
            (all_found bytes needed ready.needed (covered ready p))
            ∙ sym (ap (λ s. s >>= with_digests digests) (read_judged (terms_over grounds policy) bundle bytes ready digests p refl))
            ∙ ap (λ r. judged_of (terms_over grounds policy) bundle (Read bytes) >>= with_digests (digests_by (needed_in r) bytes)) (sym p)

    same_answers : (rules : List Meaning) → AreCovered bundle needed rules → map By rules ≡ map Of rules
    same_answers [] covered = refl
    same_answers (policy ∷ rules) covered =
        ap (λ answer. answer ∷ map By rules) (same_answer policy covered.0) ∙ ap (λ answers. Of policy ∷ answers) (same_answers rules covered.1)

    -- the answers by digests among which are those that each rule needs are those over the bytes
    pub digests_cover : (rules : List Meaning) → AreCovered bundle needed rules
        → answers_by grounds bundle (read.Digests (digests_by needed bytes)) rules ≡ answers_of grounds bundle (Whole bytes) rules
    digests_cover rules covered = ap (first_from 1) (same_answers rules covered)

    -- so are those by the digests that some rule needs
    pub digests_suffice : (rules : List Meaning) → needed_by_rules bundle rules ≡ Some needed
        → answers_by grounds bundle (read.Digests (digests_by needed bytes)) rules ≡ answers_of grounds bundle (Whole bytes) rules
    digests_suffice rules is = digests_cover rules (needed_covers bundle rules needed is)

  -- ---- of an artifact that wasn't read to its end

  module _ (fault : ReadError) where
    unread_answer : (policy : Meaning) → answer_by grounds bundle (read.Unread fault) policy ≡ answer_of grounds bundle (Unread fault) policy
    unfolding answer_by
    unread_answer policy = by (prepared_of read_kind policy bundle)
      where
        by : (r : Result Ready Error) → (r >>= ready_answer_of grounds bundle (read.Unread fault)) ≡ (r >>= λ _. Err (ArtifactRead fault))
        by (Ok ready) = refl
        by (Err e) = refl

    unread_each : (rules : List Meaning) → map (answer_by grounds bundle (read.Unread fault)) rules ≡ map (answer_of grounds bundle (Unread fault)) rules
    unread_each [] = refl
    unread_each (policy ∷ rules) =
        ap (λ answer. answer ∷ map (answer_by grounds bundle (read.Unread fault)) rules) (unread_answer policy)
        ∙ ap (λ answers. answer_of grounds bundle (Unread fault) policy ∷ answers) (unread_each rules)

    pub unread_answers : (rules : List Meaning) → answers_by grounds bundle (read.Unread fault) rules ≡ answers_of grounds bundle (Unread fault) rules
    unread_answers rules = ap (first_from 1) (unread_each rules)

    refuses_unread : (policy : Meaning) → (e : Error) × (answer_of grounds bundle (Unread fault) policy ≡ Err e)
    refuses_unread policy = by (prepared_of read_kind policy bundle)
      where
        by : (r : Result Ready Error) → (e : Error) × ◌≡◌ {A = Result JudgedBundle Error} (r >>= λ _. Err (ArtifactRead fault)) (Err e)
        by (Err e) = (e, refl)
        by (Ok ready) = (ArtifactRead fault, refl)

    -- every rule refuses
    pub unread_refused : (n : ℕ) (rules : List Meaning)
        → (refusals : List Error) × (first_from n (map (answer_of grounds bundle (Unread fault)) rules) ≡ Err refusals)
    unread_refused n [] = ([], refl)
    unread_refused n (policy ∷ rules) =
        let first = refuses_unread policy in
        let rest = unread_refused (suc n) rules in (
          first.0 ∷ rest.0,
          ap (λ answer. first_from n (answer ∷ map (answer_of grounds bundle (Unread fault)) rules)) first.1 ∙ ap (or_later first.0) rest.1,
        )

  -- ---- where every rule refuses before the artifact

  pub unprepared_answers : (artifact : ReadArtifact) (n : ℕ) (rules : List Meaning) (refusals : List Error) → AreUnprepared bundle rules refusals
      → first_from n (map (answer_by grounds bundle artifact) rules) ≡ Err refusals
  unfolding answer_by
  unprepared_answers artifact n rules refusals u =
      each_refuses (answer_by grounds bundle artifact) n rules refusals
      (all_zip (λ policy e p. ap (λ r. r >>= ready_answer_of grounds bundle artifact) p) rules refusals u)

  -- ---- the whole

  module _ (rules : List Meaning) (old new : Watched (List ℕ)) (max : ℕ) (later : old.faults ≤ new.faults) (within : TookWithin old new max) where
    abbrev Promised : Result JudgedByRule RulesError → Type 0
    Promised result = VerifiesByRules grounds rules bundle old new max result

    accepted_by : (bytes : List ℕ) → ReadWhole old new max bytes → (accepted : JudgedByRule)
        → answers_of grounds bundle (Whole bytes) rules ≡ Ok (accepted.rule, accepted.judged) → Promised (Ok accepted)
    accepted_by bytes whole accepted is =
        record { later = later; within = within; accepted = record { bytes = bytes; read = whole; first = is }; refused = tt }

    refused_by : (e : RulesError) → RefusedByRules grounds rules bundle old new max e → Promised (Err e)
    refused_by e why = record { later = later; within = within; accepted = tt; refused = why }

    pub wanting : Promised (Err (Shared NoMemory))
    wanting = refused_by (Shared NoMemory) refl

    never : {A : Type 0} (answers : Result (ℕ × JudgedBundle) (List Error)) (refusals : List Error) (accepted : JudgedByRule) → answers ≡ Err refusals
        → answers ≡ Ok (accepted.rule, accepted.judged) → A
    never answers refusals accepted is other = no_both (accepted.rule, accepted.judged) refusals (sym other ∙ is)

    by_digests : (bytes : List ℕ) → ReadWhole old new max bytes → (answers : Result (ℕ × JudgedBundle) (List Error))
        → answers ≡ answers_of grounds bundle (Whole bytes) rules → (result : Result JudgedByRule RulesError)
        → IfOk result (λ accepted. answers ≡ Ok (accepted.rule, accepted.judged)) → IfErr result (RefusesSo answers) → Promised result
    by_digests bytes whole answers same (Ok accepted) ok err = accepted_by bytes whole accepted (sym same ∙ ok)
    by_digests bytes whole answers same (Err (Each refusals)) ok err = refused_by (Each refusals) (after_reading bytes whole (sym same ∙ err.0), err.1)
    by_digests bytes whole answers same (Err (Shared e)) ok err = refused_by (Shared e) err

    by_fault : (fault : ReadError) → ReadCause old new max fault → (answers : Result (ℕ × JudgedBundle) (List Error))
        → answers ≡ answers_of grounds bundle (Unread fault) rules → (result : Result JudgedByRule RulesError)
        → IfOk result (λ accepted. answers ≡ Ok (accepted.rule, accepted.judged)) → IfErr result (RefusesSo answers) → Promised result
    by_fault fault cause answers same (Ok accepted) ok err =
        let r = unread_refused fault 1 rules in never answers r.0 accepted (same ∙ r.1) ok
    by_fault fault cause answers same (Err (Each refusals)) ok err = refused_by (Each refusals) (in_reading fault cause (sym same ∙ err.0), err.1)
    by_fault fault cause answers same (Err (Shared e)) ok err = refused_by (Shared e) err

    unread_by : new ≡ old → (refusals : List Error) → AreUnprepared bundle rules refusals → (answers : Result (ℕ × JudgedBundle) (List Error))
        → answers ≡ Err refusals → (result : Result JudgedByRule RulesError)
        → IfOk result (λ accepted. answers ≡ Ok (accepted.rule, accepted.judged)) → IfErr result (RefusesSo answers) → Promised result
    unread_by unread refusals u answers same (Ok accepted) ok err = never answers refusals accepted same ok
    unread_by unread refusals u answers same (Err (Each others)) ok err =
        refused_by (Each others)
        (before_reading unread (subst (AreUnprepared bundle rules) (err_same refusals others (sym same ∙ err.0)) u), err.1)
    unread_by unread refusals u answers same (Err (Shared e)) ok err = refused_by (Shared e) err

    -- what was had of the artifact was judged under each rule
    pub judged_each : (needed : Option (List HashAlgorithm)) (artifact : ReadArtifact) → needed_by_rules bundle rules ≡ needed
        → IsReadFor old new max needed artifact → (result : Result JudgedByRule RulesError)
        → IfOk result (λ accepted. answers_by grounds bundle artifact rules ≡ Ok (accepted.rule, accepted.judged))
        → IfErr result (RefusesSo (answers_by grounds bundle artifact rules)) → Promised result
    judged_each None artifact is unread =
        let u = needed_none bundle rules is in
        unread_by unread u.0 u.1 (answers_by grounds bundle artifact rules) (unprepared_answers artifact 1 rules u.0 u.1)
    judged_each (Some needed) (read.Digests taken) is had =
        by_digests had.0 had.1 (answers_by grounds bundle (read.Digests taken) rules)
        (ap (λ ds. answers_by grounds bundle (read.Digests ds) rules) had.2 ∙ digests_suffice had.0 needed rules is)
    judged_each (Some needed) (read.Unread fault) is cause =
        by_fault fault cause (answers_by grounds bundle (read.Unread fault) rules) (unread_answers fault rules)
