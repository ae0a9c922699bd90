-- Rules for certificates that ask the same of the log need the same digests.
use Rattle.std.proofs.Common.{◌≡◌, List, [], ◌∷◌, ◌++◌, Bool, true, false, ◌||◌, if◌then◌else◌, Option, Some, None, Result, Ok, Err, OnOk, refl, sym, ap, ◌∙◌, subst}
use Rattle.std.specs.Prelude.{⊤}
use Rattle.std.specs.List.{list_any}
use Rattle.foundation.specs.declared.no_memory.NoMemory.{NoMemory}
use Rattle.foundation.specs.Results.{some_same}
use Rattle.sigstore_types_parts.specs.HashAlgorithm.{same_algorithm, with_algorithm}
use Rattle.sigstore_types_parts.specs.declared.hash_algorithm.HashAlgorithm.{HashAlgorithm}
use Rattle.sigstore_types.specs.declared.bundle.Bundle.{Bundle}
use Rattle.sigstore_policy.specs.declared.certificate.VerificationPolicy.{VerificationPolicy}
use Rattle.sigstore_policy.specs.Policy.{Certificate, meaning_in}
use Rattle.sigstore_policy.specs.declared.policy.SigningPolicy.{SigningPolicy}
use Rattle.sigstore_policy.specs.declared.policy.SigningPolicy.TheVariants as signing
use Rattle.sigstore_judgement.specs.declared.error.Error.{Error}
use Rattle.sigstore_judgement.specs.Artifact.{read_kind}
use Rattle.sigstore_judgement.specs.Judged.{Ready, ready_with, prepared_of}
use Rattle.sigstore_judgement.specs.Rules.{with_each, with_needed}
use Rattle.sigstore_judgement.specs.Sharing.{HasNeeded}
use Rattle.sigstore_judgement.specs.Signer.{Certified}
use Rattle.sigstore_judgement.proofs.KnownArtifact.{same_self}
use Rattle.sigstore_judgement.proofs.NamesLast.{PreparedAlike, prepared_alike}
use Rattle.sigstore_judgement.proofs.Needed.{AreAmong, kept_each, added_each}

-- what is there already isn't added
nothing_added : (list others : List HashAlgorithm) → AreAmong others list → with_each list others ≡ list
nothing_added list [] among = refl
nothing_added list (b ∷ bs) among =
    let there : list_any (same_algorithm b) list ≡ true = among b (ap (λ t. t || list_any (same_algorithm b) bs) (same_self b)) in
    let same : with_algorithm list b ≡ list = ap (λ t. if t then list else list ++ b ∷ []) there in
    ap (λ l. with_each l bs) same ∙ nothing_added list bs (λ a h. among a (later a b bs h))
  where
    later : (a b : HashAlgorithm) (bs : List HashAlgorithm) → list_any (same_algorithm a) bs ≡ true → list_any (same_algorithm a) (b ∷ bs) ≡ true
    later a b bs h = by (same_algorithm a b)
      where
        by : (t : Bool) → (t || list_any (same_algorithm a) bs) ≡ true
        by true = refl
        by false = h

-- those of a rule are among what was found
abbrev IsFound : Option (List HashAlgorithm) → Result Ready Error → Type 0
IsFound found (Err e) = ⊤
IsFound None (Ok ready) = ⊥
IsFound (Some list) (Ok ready) = AreAmong ready.needed list

found_so : (found : Option (List HashAlgorithm)) (r : Result Ready Error) → with_needed found r ≡ found → IsFound found r
found_so found (Err e) h = tt
found_so None (Ok ready) h = by (with_each [] ready.needed) h
  where
    by : (list : List HashAlgorithm) → Some list ≡ None → ⊥
    by list k = cc
found_so (Some list) (Ok ready) h =
    subst (AreAmong ready.needed) (some_same (with_each list ready.needed) list h) (added_each list ready.needed)

so_found : (found : Option (List HashAlgorithm)) (r : Result Ready Error) → IsFound found r → with_needed found r ≡ found
so_found found (Err e) f = refl
so_found None (Ok ready) f = absurd f
so_found (Some list) (Ok ready) f = ap Some (nothing_added list ready.needed f)

-- and stay so
found_later : (found : Option (List HashAlgorithm)) (r s : Result Ready Error) → IsFound found s → IsFound (with_needed found r) s
found_later found r (Err e) f = by r
  where
    by : (r : Result Ready Error) → IsFound (with_needed found r) (Err e)
    by (Err d) = tt
    by (Ok ready) = tt
found_later found (Err e) (Ok ready) f = f
found_later None (Ok first) (Ok ready) f = absurd f
found_later (Some list) (Ok first) (Ok ready) f = λ a h. kept_each list first.needed a (f a h)

found_itself : (found : Option (List HashAlgorithm)) (r : Result Ready Error) → IsFound (with_needed found r) r
found_itself found (Err e) = tt
found_itself None (Ok ready) = added_each [] ready.needed
found_itself (Some list) (Ok ready) = added_each list ready.needed

same_needs : (found : Option (List HashAlgorithm)) (one other : Ready) → one.needed ≡ other.needed → IsFound found (Ok one) → IsFound found (Ok other)
same_needs None one other same f = f
same_needs (Some list) one other same f = subst (λ needed. AreAmong needed list) same f

module _ (bundle : Bundle) where
  abbrev prepared : VerificationPolicy → Result Ready Error
  prepared policy = prepared_of read_kind (Certificate policy) bundle

  -- of two rules that ask the same of the log
  found_alike : (found : Option (List HashAlgorithm)) (policy other : VerificationPolicy) → other.verify_tlog ≡ policy.verify_tlog → IsFound found (prepared policy) → IsFound found (prepared other)
  found_alike found policy other same f = by (prepared other) refl
    where
      of : (ready : Ready) → PreparedAlike read_kind other bundle ready → IsFound found (Ok ready)
      of ready a =
          let own = ready_with (Certified other a.info a.certificate) a.key a.claim in
          let others = ready_with (Certified policy a.info a.certificate) a.key a.claim in
          subst (λ (r : Ready). IsFound found (Ok r)) (sym a.was)
          (same_needs found others own refl (subst (IsFound found) (a.other policy (sym same)) f))

      by : (r : Result Ready Error) → prepared other ≡ r → IsFound found r
      by (Err e) is = tt
      by (Ok ready) is = of ready (prepared_alike read_kind other bundle ready is)

  has_more : (asked : Option Bool) (found : Option (List HashAlgorithm)) (r : Result Ready Error) → HasNeeded bundle asked found → HasNeeded bundle asked (with_needed found r)
  has_more None found r has = tt
  has_more (Some log) found r has =
      λ policy same. so_found (with_needed found r) (prepared policy) (found_later found r (prepared policy) (found_so found (prepared policy) (has policy same)))

  has_own : (found : Option (List HashAlgorithm)) (policy : VerificationPolicy) → HasNeeded bundle (Some policy.verify_tlog) (with_needed found (prepared policy))
  has_own found policy =
      λ other same. so_found (with_needed found (prepared policy)) (prepared other)
      (found_alike (with_needed found (prepared policy)) policy other same (found_itself found (prepared policy)))

  -- as the code adds them
  pub with_others : (asked : Option Bool) (old new : Option (List HashAlgorithm)) (r : Result Ready Error) (result : Result ⊤ NoMemory) → HasNeeded bundle asked old
      → OnOk result (new ≡ with_needed old r) → OnOk result (HasNeeded bundle asked new)
  with_others asked old new r (Ok u) has is = subst (HasNeeded bundle asked) (sym is) (has_more asked old r has)
  with_others asked old new r (Err e) has is = tt

  pub with_own : (old new : Option (List HashAlgorithm)) (rule : SigningPolicy) (policy : VerificationPolicy) → rule ≡ signing.Certificate policy
      → new ≡ with_needed old (prepared_of read_kind (meaning_in rule) bundle) → HasNeeded bundle (Some policy.verify_tlog) new
  with_own old new rule policy same is =
      subst (HasNeeded bundle (Some policy.verify_tlog)) (sym (is ∙ ap (λ (p : SigningPolicy). with_needed old (prepared_of read_kind (meaning_in p) bundle)) same))
      (has_own old policy)
