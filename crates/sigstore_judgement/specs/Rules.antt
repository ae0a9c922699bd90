-- The judgement under rules, of which one has to accept: the first that does counts, and where none does each tells its own first failing
-- check.
use Rattle.std.specs.Prelude.{◌≡◌, ◌≢◌, ◌≤◌, ◌↔◌, ℕ, suc, List, [], ◌∷◌, ◌++◌, length, map, find, true, ⊤}
use Rattle.std.specs.Prelude.{Option, Some, None, Result, Ok, Err, ok_or, IfOk, IfErr}
use Rattle.std.specs.List.{AllZip, AllByRecursion, list_all}
use Rattle.foundation.specs.Steps.{◌>>=◌}
use Rattle.foundation.specs.Watched.{Watched}
use Rattle.foundation.specs.declared.no_memory.NoMemory.{NoMemory as OutOfMemory}
use Rattle.sigstore_types_parts.specs.HashAlgorithm.{same_algorithm, with_algorithm}
use Rattle.sigstore_types_parts.specs.declared.hash_algorithm.HashAlgorithm.{HashAlgorithm}
use Rattle.sigstore_types.specs.declared.bundle.Bundle.{Bundle}
use Rattle.sigstore_keys.specs.Digest.{is_hashed, digests_by}
use Rattle.sigstore_keys.specs.declared.reader.ReadError.{ReadError}
use Rattle.sigstore_judgement.specs.declared.error.Error.{Error}
use Rattle.sigstore_judgement.specs.declared.error.Error.TheVariants.{ArtifactRead, UnsupportedArtifact, NoMemory}
use Rattle.sigstore_judgement.specs.declared.report.JudgedBundle.{JudgedBundle}
use Rattle.sigstore_judgement.specs.declared.rules.ReadArtifact.{ReadArtifact}
use Rattle.sigstore_judgement.specs.declared.rules.ReadArtifact.TheVariants as read
use Rattle.sigstore_judgement.specs.declared.rules.JudgedByRule.{JudgedByRule}
use Rattle.sigstore_judgement.specs.declared.rules.RulesError.{RulesError}
use Rattle.sigstore_judgement.specs.declared.rules.RulesError.TheVariants.{Shared, Each}
use Rattle.sigstore_judgement.specs.Artifact.{Read, read_kind, digest_among}
use Rattle.sigstore_judgement.specs.Grounds.{Grounds, terms_over}
use Rattle.sigstore_judgement.specs.Judged.{Ready, prepared_of, judged_had, judged_of, needed_by}
use Rattle.sigstore_judgement.specs.Promise.{ReadWhole, ReadCause, TookWithin}
use Rattle.sigstore_policy.specs.Policy.{Meaning}

-- ---- under one rule

-- what is had of an artifact that is read: its bytes up to its end, or why there was none
pub data Had : Type 0 where
  Whole : List ℕ → Had
  Unread : ReadError → Had

-- what the bundle shows under one rule, with the digests that the rule needs; or the rule's first failing check
abbrev pub answer_of : Grounds → Bundle → Had → Meaning → Result JudgedBundle Error
answer_of grounds bundle (Whole bytes) policy = do
  report ← judged_of (terms_over grounds policy) bundle (Read bytes)
  Ok (record { result = report; digests = digests_by (needed_by policy bundle) bytes })
answer_of grounds bundle (Unread fault) policy = prepared_of read_kind policy bundle >>= λ _. Err (ArtifactRead fault)

-- ---- under all of them

abbrev pub or_later : {A : Type 0} → Error → Result A (List Error) → Result A (List Error)
or_later e (Ok x) = Ok x
or_later e (Err refusals) = Err (e ∷ refusals)

-- the first answer that accepts, with its number; or each one's refusal
abbrev pub first_from : {A : Type 0} → ℕ → List (Result A Error) → Result (ℕ × A) (List Error)
first_from n [] = Err []
first_from n (Ok x ∷ answers) = Ok (n, x)
first_from n (Err e ∷ answers) = or_later e (first_from (suc n) answers)

-- the rules are counted from 1 on
abbrev pub answers_of : Grounds → Bundle → Had → List Meaning → Result (ℕ × JudgedBundle) (List Error)
answers_of grounds bundle had rules = first_from 1 (map (answer_of grounds bundle had) rules)

-- ---- which digests they need

abbrev pub with_each : List HashAlgorithm → List HashAlgorithm → List HashAlgorithm
with_each list [] = list
with_each list (algorithm ∷ algorithms) = with_each (with_algorithm list algorithm) algorithms

abbrev pub or_none : Option (List HashAlgorithm) → List HashAlgorithm
or_none None = []
or_none (Some list) = list

-- those of a rule that gets as far as the artifact, behind those of earlier ones
abbrev pub with_needed : Option (List HashAlgorithm) → Result Ready Error → Option (List HashAlgorithm)
with_needed found (Err e) = found
with_needed found (Ok ready) = Some (with_each (or_none found) ready.needed)

abbrev pub needed_from : Bundle → Option (List HashAlgorithm) → List Meaning → Option (List HashAlgorithm)
needed_from bundle found [] = found
needed_from bundle found (policy ∷ rules) = needed_from bundle (with_needed found (prepared_of read_kind policy bundle)) rules

-- none where no rule gets as far as the artifact
abbrev pub needed_by_rules : Bundle → List Meaning → Option (List HashAlgorithm)
needed_by_rules bundle rules = needed_from bundle None rules

-- each has a hasher
abbrev pub AreHashed : Option (List HashAlgorithm) → Type 0
AreHashed None = ⊤
AreHashed (Some list) = list_all is_hashed list ≡ true

-- What is had of the artifact: nothing where no rule gets as far, and it stays unread; its digests by the algorithms that are needed, of
-- bytes that were read to the end; or why the reading failed.
abbrev pub IsReadFor : Watched (List ℕ) → Watched (List ℕ) → ℕ → Option (List HashAlgorithm) → ReadArtifact → Type 0
IsReadFor old new max None artifact = new ≡ old
IsReadFor old new max (Some needed) (read.Digests taken) =
    (bytes : List ℕ) × ReadWhole old new max bytes × (taken ≡ digests_by needed bytes)
IsReadFor old new max (Some needed) (read.Unread fault) = ReadCause old new max fault

pub record ReadsFor (old new : Watched (List ℕ)) (max : ℕ) (needed : Option (List HashAlgorithm)) (result : Result ReadArtifact OutOfMemory)
    : Type 0 where
  pub later : old.faults ≤ new.faults
  pub within : TookWithin old new max
  pub had : IfOk result (IsReadFor old new max needed)

-- ---- by the digests that were taken

-- those that one rule needs, of those that were taken for all
abbrev pub picked_one_of : HashAlgorithm → List (HashAlgorithm × List ℕ) → Result (HashAlgorithm × List ℕ) Error
picked_one_of algorithm taken = ok_or (find (λ (one : HashAlgorithm × List ℕ). same_algorithm one.0 algorithm) taken) UnsupportedArtifact

abbrev pub picked_of : List HashAlgorithm → List (HashAlgorithm × List ℕ) → Result (List (HashAlgorithm × List ℕ)) Error
picked_of [] taken = Ok []
picked_of (algorithm ∷ algorithms) taken = do
  digest ← picked_one_of algorithm taken
  others ← picked_of algorithms taken
  Ok (digest ∷ others)

unfoldable pub picked_judged_of : Grounds → Ready → Bundle → List (HashAlgorithm × List ℕ) → Result JudgedBundle Error
picked_judged_of grounds ready bundle taken = do
  digests ← picked_of ready.needed taken
  report ← judged_had grounds ready bundle (digest_among digests) None
  Ok (record { result = report; digests = digests })

abbrev pub ready_answer_of : Grounds → Bundle → ReadArtifact → Ready → Result JudgedBundle Error
ready_answer_of grounds bundle (read.Digests taken) ready = picked_judged_of grounds ready bundle taken
ready_answer_of grounds bundle (read.Unread fault) ready = Err (ArtifactRead fault)

unfoldable pub answer_by : Grounds → Bundle → ReadArtifact → Meaning → Result JudgedBundle Error
answer_by grounds bundle artifact policy = prepared_of read_kind policy bundle >>= ready_answer_of grounds bundle artifact

abbrev pub answers_by : Grounds → Bundle → ReadArtifact → List Meaning → Result (ℕ × JudgedBundle) (List Error)
answers_by grounds bundle artifact rules = first_from 1 (map (answer_by grounds bundle artifact) rules)

-- ---- the promise

-- want of memory is no rule's refusal
abbrev pub NoneWants : List Error → Type 0
NoneWants refusals = AllByRecursion (λ e. e ≢ NoMemory) refusals

-- the answers refuse so; want of memory needs no cause
abbrev pub RefusesSo : Result (ℕ × JudgedBundle) (List Error) → RulesError → Type 0
RefusesSo answers (Each refusals) = (answers ≡ Err refusals) × NoneWants refusals
RefusesSo answers (Shared e) = e ≡ NoMemory

-- Each rule is refused before the artifact, which stays unread; or over the bytes that were read to their end; or, where the reading failed,
-- by it or before it.
pub data RulesCause (grounds : Grounds) (rules : List Meaning) (bundle : Bundle) (old new : Watched (List ℕ)) (max : ℕ)
    (refusals : List Error) : Type 0 where
  before_reading : new ≡ old → AllZip (λ policy e. prepared_of read_kind policy bundle ≡ Err e) rules refusals
      → RulesCause grounds rules bundle old new max refusals
  after_reading : (bytes : List ℕ) → ReadWhole old new max bytes → answers_of grounds bundle (Whole bytes) rules ≡ Err refusals
      → RulesCause grounds rules bundle old new max refusals
  in_reading : (fault : ReadError) → ReadCause old new max fault → answers_of grounds bundle (Unread fault) rules ≡ Err refusals
      → RulesCause grounds rules bundle old new max refusals

abbrev pub RefusedByRules : Grounds → List Meaning → Bundle → Watched (List ℕ) → Watched (List ℕ) → ℕ → RulesError → Type 0
RefusedByRules grounds rules bundle old new max (Shared e) = e ≡ NoMemory
RefusedByRules grounds rules bundle old new max (Each refusals) = RulesCause grounds rules bundle old new max refusals × NoneWants refusals

-- the bytes were read to the end, and over them this rule is the first that accepts
pub record AcceptedByRule (grounds : Grounds) (rules : List Meaning) (bundle : Bundle) (old new : Watched (List ℕ)) (max : ℕ)
    (accepted : JudgedByRule) : Type 0 where
  pub bytes : List ℕ
  pub read : ReadWhole old new max bytes
  pub first : answers_of grounds bundle (Whole bytes) rules ≡ Ok (accepted.rule, accepted.judged)

-- the promise of a verification under rules, of an artifact that is read
pub record VerifiesByRules (grounds : Grounds) (rules : List Meaning) (bundle : Bundle) (old new : Watched (List ℕ)) (max : ℕ)
    (result : Result JudgedByRule RulesError) : Type 0 where
  pub later : old.faults ≤ new.faults
  pub within : TookWithin old new max
  pub accepted : IfOk result (AcceptedByRule grounds rules bundle old new max)
  pub refused : IfErr result (RefusedByRules grounds rules bundle old new max)

-- ---- told without the order of the judgement

-- each rule refuses, with its own refusal
abbrev pub AllRefuse : (Meaning → Result JudgedBundle Error) → List Meaning → List Error → Type 0
AllRefuse answer rules refusals = AllZip (λ policy e. answer policy ≡ Err e) rules refusals

-- the rule of this number accepts, and each before it refuses
pub record IsFirst (answer : Meaning → Result JudgedBundle Error) (rules : List Meaning) (rule : ℕ) (judged : JudgedBundle) : Type 0 where
  pub earlier : List Meaning
  pub policy : Meaning
  pub later : List Meaning
  pub split : rules ≡ earlier ++ policy ∷ later
  pub number : rule ≡ suc (length earlier)
  pub refusals : List Error
  pub refuse : AllRefuse answer earlier refusals
  pub accepts : answer policy ≡ Ok judged

-- exactly then it is the first; and each one's refusal is told exactly where all refuse
pub record FirstExactly : Type 0 where
  pub accepts : (answer : Meaning → Result JudgedBundle Error) (rules : List Meaning) (rule : ℕ) (judged : JudgedBundle)
      → (first_from 1 (map answer rules) ≡ Ok (rule, judged)) ↔ IsFirst answer rules rule judged
  pub refuses : (answer : Meaning → Result JudgedBundle Error) (rules : List Meaning) (refusals : List Error)
      → (first_from 1 (map answer rules) ≡ Err refusals) ↔ AllRefuse answer rules refusals
