-- The search in a list, one bundle after the other.
use Rattle.std.proofs.Common.{◌≡◌, ◌≢◌, ℕ, ◌+◌, ◌<◌, List, [], ◌∷◌, ◌++◌, length, drop, get_or, Result, Ok, Err, refl, sym, ap, ◌∙◌, append_assoc, append-nil, add-one, drop-cons}
use Rattle.sigstore_judgement.specs.declared.error.Error.{Error}
use Rattle.sigstore_judgement.specs.declared.error.Error.TheVariants.{NoMemory}
use Rattle.sigstore_judgement.specs.declared.rules.JudgedByRule.{JudgedByRule}
use Rattle.sigstore_judgement.specs.declared.rules.RulesError.{RulesError}
use Rattle.sigstore_judgement.specs.declared.rules.RulesError.TheVariants.{Shared, Each}
use Rattle.sigstore_verify.specs.ByDigests.{TellsVerdict}
use Rattle.command_bundles.specs.declared.judging.BundleRefusal.{BundleRefusal}
use Rattle.command_bundles.specs.declared.lines.ListedBundle.{ListedBundle}
use Rattle.command_bundles.specs.Judging.{Search, refusal_of, or_later, this_or, first_of}

-- refusals, and behind them those of later bundles, where none of these is accepted
abbrev pub refused_behind : List BundleRefusal → Search → Search
refused_behind before (Ok found) = Ok found
refused_behind before (Err later) = Err (before ++ later)

one_later : (before : List BundleRefusal) (refusal : BundleRefusal) (later : Search)
    → refused_behind before (or_later refusal later) ≡ refused_behind (before ++ refusal ∷ []) later
one_later before refusal (Ok found) = refl
one_later before refusal (Err refusals) = ap (λ (l : List BundleRefusal). Err l) (sym (append_assoc before (refusal ∷ []) refusals))

pub refused_all : (before : List BundleRefusal) → refused_behind before (Err []) ≡ Err before
refused_all before = ap (λ (l : List BundleRefusal). Err l) (append-nil before)

pub refused_nothing : (search : Search) → refused_behind [] search ≡ search
refused_nothing (Ok found) = refl
refused_nothing (Err refusals) = refl

-- a refusal that isn't want of memory is the verdict
pub tells_refusal : (verdict : Result JudgedByRule RulesError) (why : RulesError) → why ≢ Shared NoMemory → TellsVerdict verdict (Err why) → verdict ≡ Err why
tells_refusal verdict (Shared e) n t = t (λ w. n (ap (λ (d : Error). Shared d) w))
tells_refusal verdict (Each refusals) n t = t.0

module _ (verdict : List ℕ → Result JudgedByRule RulesError) (whole : Search) (before : List BundleRefusal) (bundles : List ListedBundle) (k : ℕ) (bundle : ListedBundle)
    (less : k < length bundles) (is : bundle ≡ get_or bundles k bundle) (left : whole ≡ refused_behind before (first_of verdict (drop k bundles))) where
  split : drop k bundles ≡ bundle ∷ drop (k + 1) bundles
  split = first_left ∙ ap (λ (b : ListedBundle). b ∷ drop (k + 1) bundles) (sym is)
    where
      first_left : drop k bundles ≡ get_or bundles k bundle ∷ drop (k + 1) bundles
      first_left = rw (add-one, drop-cons bundles k bundle)

  abbrev later : Search
  later = first_of verdict (drop (k + 1) bundles)

  here : whole ≡ refused_behind before (this_or bundle (verdict bundle.text) later)
  here = left ∙ ap (λ (l : List ListedBundle). refused_behind before (first_of verdict l)) split

  -- this one is accepted
  pub one_accepted : (judged : JudgedByRule) → verdict bundle.text ≡ Ok judged → whole ≡ Ok (bundle, judged)
  one_accepted judged accepted = here ∙ ap (λ (r : Result JudgedByRule RulesError). refused_behind before (this_or bundle r later)) accepted

  -- or refused
  pub one_refused : (why : RulesError) (after : List BundleRefusal) → verdict bundle.text ≡ Err why → after ≡ before ++ refusal_of bundle.line why ∷ []
      → whole ≡ refused_behind after later
  one_refused why after refused behind =
      here ∙ ap (λ (r : Result JudgedByRule RulesError). refused_behind before (this_or bundle r later)) refused
      ∙ one_later before (refusal_of bundle.line why) later
      ∙ ap (λ (l : List BundleRefusal). refused_behind l later) (sym behind)
