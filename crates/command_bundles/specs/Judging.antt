-- The judgement of a list of bundles under a trusted root: in their order until a rule accepts one.
use Rattle.std.specs.Prelude.{◌≡◌, ◌≢◌, ℕ, List, [], ◌∷◌, map, Option, Some, None, Result, Ok, Err}
use Rattle.foundation.specs.Steps.{◌>>=◌}
use Rattle.foundation.specs.Watched.{Watched}
use Rattle.sigstore_types_parts.specs.declared.hash_algorithm.HashAlgorithm.{HashAlgorithm}
use Rattle.sigstore_types_parts.specs.declared.hash_algorithm.HashAlgorithm.TheVariants.{Sha2256, Sha2384, Sha2512}
use Rattle.sigstore_keys.specs.Crypto.{Crypto}
use Rattle.sigstore_policy.specs.Policy.{Meaning, meaning_in}
use Rattle.sigstore_tuf_rules.specs.Config.{default_config}
use Rattle.sigstore_judgement.specs.declared.error.Error.TheVariants.{NoMemory}
use Rattle.sigstore_judgement.specs.declared.rules.JudgedByRule.{JudgedByRule}
use Rattle.sigstore_judgement.specs.declared.rules.ReadArtifact.{ReadArtifact}
use Rattle.sigstore_judgement.specs.declared.rules.ReadArtifact.TheVariants.{Digests}
use Rattle.sigstore_judgement.specs.declared.rules.RulesError.{RulesError}
use Rattle.sigstore_judgement.specs.declared.trust.Material.{Material}
use Rattle.sigstore_judgement.specs.Grounds.{Grounds}
use Rattle.sigstore_judgement.specs.Rules.{answers_by, IsReadFor}
use Rattle.sigstore_judgement.specs.Under.{bundle_of}
use Rattle.sigstore_judgement.specs.UnderRules.{or_shared, or_each}
use Rattle.sigstore_verify.specs.ByDigests.{told_verdict_by}
use Rattle.sigstore_verify.specs.Inputs.{Anchor, anchor_by}
use Rattle.release_gate.specs.Gate.{kept_of}
use Rattle.command_verify.specs.Run.{max_artifact}
use Rattle.command_ways.specs.declared.layout.Way.{Way}
use Rattle.command_ways.specs.declared.trust.Trust.{Trust}
use Rattle.command_ways.specs.Digests.{Digest}
use Rattle.command_ways.specs.Judging.{Outside}
use Rattle.command_ways.specs.Trust.{file_of, IsTrusted, GivesTrust}
use Rattle.command_bundles.specs.declared.judging.BundleRefusal.{BundleRefusal}
use Rattle.command_bundles.specs.declared.judging.Found.{Found}
use Rattle.command_bundles.specs.declared.judging.Found.TheVariants.{Accepted, Refused}
use Rattle.command_bundles.specs.declared.judging.ListAsked.{ListAsked}
use Rattle.command_bundles.specs.declared.judging.ListCame.{ListCame}
use Rattle.command_bundles.specs.declared.judging.ListCame.TheVariants.{Untrusted, Unusable, Judged}
use Rattle.command_bundles.specs.declared.judging.ListRequest.{ListRequest}
use Rattle.command_bundles.specs.declared.lines.ListedBundle.{ListedBundle}

-- ---- the first that is accepted

-- the first bundle that is accepted, with its verdict; or each one's refusal
abbrev pub Search : Type 0
Search = Result (ListedBundle × JudgedByRule) (List BundleRefusal)

abbrev pub refusal_of : ℕ → RulesError → BundleRefusal
refusal_of line why = record { line = line; why = why }

-- a refusal before those of later bundles, where none of these is accepted
abbrev pub or_later : BundleRefusal → Search → Search
or_later refusal (Ok found) = Ok found
or_later refusal (Err refusals) = Err (refusal ∷ refusals)

abbrev pub this_or : ListedBundle → Result JudgedByRule RulesError → Search → Search
this_or bundle (Ok judged) later = Ok (bundle, judged)
this_or bundle (Err why) later = or_later (refusal_of bundle.line why) later

-- The verdicts on the texts of bundles decide, in their order: the first that accepts, or all refusals.
abbrev pub first_of : (List ℕ → Result JudgedByRule RulesError) → List ListedBundle → Search
first_of verdict [] = Err []
first_of verdict (bundle ∷ bundles) = this_or bundle (verdict bundle.text) (first_of verdict bundles)

-- what the code answers
abbrev pub found_as : Found → Search
found_as (Accepted bundle judged) = Ok (bundle.now, judged)
found_as (Refused refusals) = Err refusals

-- ---- one bundle

-- the verdict under what a verifier keeps of a trusted root: of the bundle first, then the first rule that accepts or each one's refusal
abbrev pub verdict_under : Grounds → List Meaning → ReadArtifact → List ℕ → Result JudgedByRule RulesError
verdict_under grounds rules artifact text = or_shared (bundle_of text) >>= λ bundle. or_each (answers_by grounds bundle artifact rules)

-- ---- the artifact

-- the algorithms that have a hasher
abbrev pub hashed : List HashAlgorithm
hashed = Sha2256 ∷ Sha2384 ∷ Sha2512 ∷ []

-- What is had of the artifact: its digests by each of these, of bytes that were read once, to their end, or why they weren't. Where its
-- digests are told it is these, and nothing of it is read.
abbrev pub IsHad : Option (List Digest) → Watched (List ℕ) → Watched (List ℕ) → ReadArtifact → Type 0
IsHad None old new had = IsReadFor old new max_artifact (Some hashed) had
IsHad (Some told) old new had = (new ≡ old) × (had ≡ Digests told)

-- ---- a list

-- the search over what is had of the artifact
pub record JudgesOver (grounds : Grounds) (rules : List Meaning) (bundles : List ListedBundle) (told : Option (List Digest))
    (old new : Watched (List ℕ)) (search : Search) : Type 0 where
  pub had : ReadArtifact
  pub taken : IsHad told old new had
  pub first : first_of (verdict_under grounds rules had) bundles ≡ search

-- from what a trusted root is trusted, and what is asked under it
pub record ListInputs : Type 0 where
  pub anchor : Anchor
  pub rules : List Meaning
  pub bundles : List ListedBundle

abbrev pub inputs_by : Anchor → List Meaning → List ListedBundle → ListInputs
inputs_by anchor rules bundles = record { anchor = anchor; rules = rules; bundles = bundles }

abbrev pub inputs_with : Anchor → ListAsked → ListInputs
inputs_with anchor asked = inputs_by anchor (map meaning_in asked.rules.now) asked.bundles.now

abbrev pub given_of : Crypto → ListRequest → ListInputs
given_of crypto request =
    inputs_by (anchor_by crypto request.root.now default_config request.moment) (map meaning_in request.rules.now) request.bundles.now

-- the verdict on a bundle's text under a trusted root's bytes, as on the one bundle of a run over told digests
abbrev pub verdict_of : ListInputs → List ℕ → ReadArtifact → List ℕ → Result JudgedByRule RulesError
verdict_of given file had text =
    told_verdict_by (record { crypto = given.anchor.crypto; rules = given.rules; now = given.anchor.now; bundle = text }) file had

-- The trusted root is usable, and this is the search by the verdicts over what is had of the artifact. By `DigestsStandForBytes` these are
-- the verdicts over its bytes, where it was read.
pub record JudgesList (given : ListInputs) (file : List ℕ) (told : Option (List Digest)) (old new : Watched (List ℕ)) (search : Search)
    : Type 0 where
  pub material : Material
  pub usable : kept_of file ≡ Ok material
  pub had : ReadArtifact
  pub taken : IsHad told old new had
  pub first : first_of (verdict_of given file had) given.bundles ≡ search

-- what came of a list under a trusted root
abbrev pub JudgesUnder : ListInputs → Trust → Option (List Digest) → Watched (List ℕ) → Watched (List ℕ) → ListCame → Type 0
JudgesUnder given trust told old new (Untrusted why) = ⊥
JudgesUnder given trust told old new (Unusable found e) =
    (found ≡ trust) × (e ≢ NoMemory → kept_of (file_of trust) ≡ Err e) × (new ≡ old)
JudgesUnder given trust told old new (Judged found answer) =
    (found ≡ trust) × JudgesList given (file_of trust) told old new (found_as answer)

-- ---- the whole

-- There is no trusted root, and the artifact isn't called. Or there is one, which is trusted, and it can't be used, or the list is judged
-- under it.
abbrev pub VerifiesList : ListInputs → Way → Outside → Outside → ListCame → Type 0
VerifiesList given way before after (Untrusted why) =
    GivesTrust given.anchor way.by before.sources after.sources (Err why) × (after.source ≡ before.source)
VerifiesList given way before after (Unusable trust e) =
    GivesTrust given.anchor way.by before.sources after.sources (Ok trust) × IsTrusted given.anchor trust
    × (e ≢ NoMemory → kept_of (file_of trust) ≡ Err e) × (after.source ≡ before.source)
VerifiesList given way before after (Judged trust answer) =
    GivesTrust given.anchor way.by before.sources after.sources (Ok trust) × IsTrusted given.anchor trust
    × JudgesList given (file_of trust) way.told before.source after.source (found_as answer)
