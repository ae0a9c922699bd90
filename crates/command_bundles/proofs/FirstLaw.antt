-- The first bundle that is accepted, told without an order.
use Rattle.std.proofs.Common.{◌≡◌, ℕ, List, [], ◌∷◌, ◌++◌, Result, Ok, Err, refl, sym, ap, ◌∙◌, subst}
use Rattle.foundation.specs.Results.{ok_same, err_same}
use Rattle.sigstore_judgement.specs.declared.rules.JudgedByRule.{JudgedByRule}
use Rattle.sigstore_judgement.specs.declared.rules.RulesError.{RulesError}
use Rattle.command_bundles.specs.declared.judging.BundleRefusal.{BundleRefusal}
use Rattle.command_bundles.specs.declared.lines.ListedBundle.{ListedBundle}
use Rattle.command_bundles.specs.Judging.{Search, refusal_of, or_later, this_or, first_of}
use Rattle.command_bundles.specs.Laws.{AllRefused, IsFirst, FirstExactly}

module _ (verdict : List ℕ → Result JudgedByRule RulesError) where
  abbrev First : List ListedBundle → Search
  First bundles = first_of verdict bundles

  -- the first of some bundles is accepted
  here : (first : ListedBundle) (bundles : List ListedBundle) (bundle : ListedBundle) (x y : JudgedByRule) → verdict first.text ≡ Ok y
      → ◌≡◌ {A = Search} (Ok (first, y)) (Ok (bundle, x)) → IsFirst verdict (first ∷ bundles) bundle x
  here first bundles bundle x y is h =
      let same = ok_same (first, y) (bundle, x) h in
      let at : first ≡ bundle = ap (λ (p : ListedBundle × JudgedByRule). p.0) same in
      let judged : y ≡ x = ap (λ (p : ListedBundle × JudgedByRule). p.1) same in
      record {
        earlier = [];
        later = bundles;
        split = ap (λ (b : ListedBundle). b ∷ bundles) at;
        refusals = [];
        refused = tt;
        accepted = ap (λ (b : ListedBundle). verdict b.text) (sym at) ∙ is ∙ ap (λ (j : JudgedByRule). Ok j) judged;
      }

  -- or it is refused, and one behind it is the first that is accepted
  behind : (first : ListedBundle) (bundles : List ListedBundle) (bundle : ListedBundle) (x : JudgedByRule) (why : RulesError) → verdict first.text ≡ Err why
      → IsFirst verdict bundles bundle x → IsFirst verdict (first ∷ bundles) bundle x
  behind first bundles bundle x why is rest = record {
    earlier = first ∷ rest.earlier;
    later = rest.later;
    split = ap (λ (l : List ListedBundle). first ∷ l) rest.split;
    refusals = refusal_of first.line why ∷ rest.refusals;
    refused = ((is, refl), rest.refused);
    accepted = rest.accepted;
  }

  later_found : (refusal : BundleRefusal) (r : Search) (x : ListedBundle × JudgedByRule) → or_later refusal r ≡ Ok x → r ≡ Ok x
  later_found refusal (Ok y) x h = h
  later_found refusal (Err refusals) x h = cc

  found : (bundles : List ListedBundle) (bundle : ListedBundle) (x : JudgedByRule) → First bundles ≡ Ok (bundle, x) → IsFirst verdict bundles bundle x
  found [] bundle x h = cc
  found (first ∷ bundles) bundle x h = by (verdict first.text) refl (found bundles bundle x) h
    where
      by : (r : Result JudgedByRule RulesError) → verdict first.text ≡ r → (First bundles ≡ Ok (bundle, x) → IsFirst verdict bundles bundle x)
          → this_or first r (First bundles) ≡ Ok (bundle, x) → IsFirst verdict (first ∷ bundles) bundle x
      by (Ok y) is again k = here first bundles bundle x y is k
      by (Err why) is again k = behind first bundles bundle x why is (again (later_found (refusal_of first.line why) (First bundles) (bundle, x) k))

  -- a refusal has the line of its bundle
  as_refusal : (bundle : ListedBundle) (refusal : BundleRefusal) → refusal.line ≡ bundle.line → refusal_of bundle.line refusal.why ≡ refusal
  as_refusal bundle refusal same = ap (λ (n : ℕ). refusal_of n refusal.why) (sym same)

  first_there : (earlier : List ListedBundle) (refusals : List BundleRefusal) (bundle : ListedBundle) (later : List ListedBundle) (x : JudgedByRule)
      → AllRefused verdict earlier refusals → verdict bundle.text ≡ Ok x → First (earlier ++ bundle ∷ later) ≡ Ok (bundle, x)
  first_there [] [] bundle later x u a = ap (λ (r : Result JudgedByRule RulesError). this_or bundle r (First later)) a
  first_there [] (e ∷ refusals) bundle later x u a = absurd u
  first_there (b ∷ earlier) [] bundle later x u a = absurd u
  first_there (b ∷ earlier) (e ∷ refusals) bundle later x u a =
      ap (λ (r : Result JudgedByRule RulesError). this_or b r (First (earlier ++ bundle ∷ later))) u.0.0
      ∙ ap (or_later (refusal_of b.line e.why)) (first_there earlier refusals bundle later x u.1 a)

  all_refused : (bundles : List ListedBundle) (refusals : List BundleRefusal) → First bundles ≡ Err refusals → AllRefused verdict bundles refusals
  all_refused [] [] h = tt
  all_refused [] (e ∷ refusals) h = cc
  all_refused (bundle ∷ bundles) refusals h = by (verdict bundle.text) refl (all_refused bundles) h
    where
      by : (r : Result JudgedByRule RulesError) → verdict bundle.text ≡ r → ((others : List BundleRefusal) → First bundles ≡ Err others → AllRefused verdict bundles others)
          → this_or bundle r (First bundles) ≡ Err refusals → AllRefused verdict (bundle ∷ bundles) refusals
      by (Ok y) is again k = cc
      by (Err why) is again k = of_later (First bundles) again k
        where
          of_later : (s : Search) → ((others : List BundleRefusal) → s ≡ Err others → AllRefused verdict bundles others)
              → or_later (refusal_of bundle.line why) s ≡ Err refusals → AllRefused verdict (bundle ∷ bundles) refusals
          of_later (Ok y) f l = cc
          of_later (Err others) f l =
              subst (λ (told : List BundleRefusal). AllRefused verdict (bundle ∷ bundles) told) (err_same (refusal_of bundle.line why ∷ others) refusals l)
              ((is, refl), f others refl)

  each_refused : (bundles : List ListedBundle) (refusals : List BundleRefusal) → AllRefused verdict bundles refusals → First bundles ≡ Err refusals
  each_refused [] [] u = refl
  each_refused [] (e ∷ refusals) u = absurd u
  each_refused (bundle ∷ bundles) [] u = absurd u
  each_refused (bundle ∷ bundles) (e ∷ refusals) u =
      ap (λ (r : Result JudgedByRule RulesError). this_or bundle r (First bundles)) u.0.0
      ∙ ap (or_later (refusal_of bundle.line e.why)) (each_refused bundles refusals u.1)
      ∙ ap (λ (d : BundleRefusal). Err (d ∷ refusals)) (as_refusal bundle e u.0.1)

  accepted_first : (bundles : List ListedBundle) (bundle : ListedBundle) (x : JudgedByRule) → IsFirst verdict bundles bundle x → First bundles ≡ Ok (bundle, x)
  accepted_first bundles bundle x f = ap First f.split ∙ first_there f.earlier f.refusals bundle f.later x f.refused f.accepted

pub first_exactly : FirstExactly
first_exactly = record {
  accepts = λ verdict bundles bundle judged. (found verdict bundles bundle judged, accepted_first verdict bundles bundle judged);
  refuses = λ verdict bundles refusals. (all_refused verdict bundles refusals, each_refused verdict bundles refusals);
}
