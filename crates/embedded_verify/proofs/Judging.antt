-- What a verification came to, over what a request holds.
use Rattle.std.proofs.Common.{◌≡◌, ℕ, List, [], map, Bool, Some, Result, is_ok, sym, subst}
use Rattle.foundation.specs.Watched.{Watched}
use Rattle.sigstore_policy.specs.declared.policy.SigningPolicy.{SigningPolicy}
use Rattle.sigstore_policy.specs.Policy.{meaning_in}
use Rattle.sigstore_keys.specs.Crypto.{Crypto}
use Rattle.sigstore_tuf_outside.specs.Repository.{Files, Folders}
use Rattle.sigstore_verify.specs.declared.by_rules.RuleAcceptance.{RuleAcceptance}
use Rattle.sigstore_verify.specs.declared.by_rules.RulesFault.{RulesFault}
use Rattle.sigstore_verify.specs.ByRules.{PromisesByRules}
use Rattle.sigstore_verify.specs.Inputs.{Outside, outside_by}
use Rattle.command_files.specs.declared.answer.Answer.{Answer}
use Rattle.command_verify.specs.Run.{given_with, are_several, Answers}
use Rattle.given_objects.specs.Given.{told_given, told_over}
use Rattle.embedded_verify.specs.Handed.{found_in}
use Rattle.embedded_verify.specs.Means.{given_in, IsJudged}
use Rattle.embedded_verify.specs.declared.asked.Asked.{Asked}
use Rattle.embedded_verify.specs.declared.judge.Verdict.{Verdict}

abbrev Judged : Type 0
Judged = Result RuleAcceptance RulesFault

module _ (crypto : Crypto) (asked : Asked) (after : Outside) (judged : Judged) where
  abbrev Promised : List SigningPolicy → List ℕ → List ℕ → Watched Folders → Watched Files → Type 0
  Promised rules root bundle repo store =
      PromisesByRules (given_with crypto (map meaning_in rules) root bundle asked.moment) (outside_by repo store (record { told = Some asked.request.now.artifact.now; faults = 0 })) after judged

  -- the verification was called for what is asked, over what is found
  pub promised : (rules : List SigningPolicy) (root bundle : List ℕ) (repo : Watched Folders) (store : Watched Files)
      → rules ≡ asked.gathered.rules → root ≡ asked.gathered.root → bundle ≡ asked.gathered.bundle
      → repo ≡ told_given asked.request.now.repository.now 0 → store ≡ told_over [] asked.request.now.store.now → Promised rules root bundle repo store
      → PromisesByRules (given_in crypto asked) (found_in asked.request.now) after judged
  promised rules root bundle repo store r t b p s h =
      let a : Promised asked.gathered.rules root bundle repo store = subst (λ (x : List SigningPolicy). Promised x root bundle repo store) r h in
      let d : Promised asked.gathered.rules asked.gathered.root bundle repo store = subst (λ (x : List ℕ). Promised asked.gathered.rules x bundle repo store) t a in
      let e : Promised asked.gathered.rules asked.gathered.root asked.gathered.bundle repo store = subst (λ (x : List ℕ). Promised asked.gathered.rules asked.gathered.root x repo store) b d in
      let f : Promised asked.gathered.rules asked.gathered.root asked.gathered.bundle (told_given asked.request.now.repository.now 0) store =
      subst (λ (x : Watched Folders). Promised asked.gathered.rules asked.gathered.root asked.gathered.bundle x store) p e in
      subst (λ (x : Watched Files). Promised asked.gathered.rules asked.gathered.root asked.gathered.bundle (told_given asked.request.now.repository.now 0) x) s f

  -- and this is said of it
  pub judged_as : (faults : ℕ) (kept : Watched Files) (verdict : Verdict) (several accepted : Bool) (said : Answer)
      → PromisesByRules (given_in crypto asked) (found_in asked.request.now) after judged
      → after.repo.faults ≡ faults → after.store ≡ kept → after.source.faults ≡ 0
      → accepted ≡ is_ok judged → several ≡ are_several asked.gathered → Answers several judged said
      → verdict ≡ record { accepted = accepted; said = said } → IsJudged crypto asked faults kept verdict
  judged_as faults kept verdict several accepted said p r s w a m h v =
      let whole : IsJudged crypto asked faults kept (record { accepted = accepted; said = said }) = record {
        judged = judged;
        after = after;
        promises = p;
        faults_are = r;
        store_is = s;
        source_is = w;
        accepted_is = a;
        answers = subst (λ (x : Bool). Answers x judged said) m h;
      } in
      subst (λ (x : Verdict). IsJudged crypto asked faults kept x) (sym v) whole
