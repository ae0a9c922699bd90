-- What a search counts, and what it decides.
use Rattle.std.proofs.Common.{◌≡◌, ◌≢◌, ℕ, ◌+◌, ◌-◌, ◌*◌, ◌^◌, ◌<◌, ◌≤◌, List, [], length, Result, Ok, Err, refl, sym, ◌∙◌, ap, subst, arith}
use Rattle.std.specs.Prelude.{min, IfOk, IfErr}
use Rattle.std.specs.BTreeMap.{keys, btree_map_len, IsEmpty}
use Rattle.std.proofs.lemmas.Cmp.{nat_cmp_total}
use Rattle.std.proofs.lemmas.List.{length-map}
use Rattle.std.proofs.lemmas.List.Elements.{All-nil}
use Rattle.std.proofs.lemmas.Map.Keys.{IsStrictlyIncreasing-from_sorted}
use Rattle.std.proofs.lemmas.Map.Lookups.{exact_unsigned}
use Rattle.std.proofs.lemmas.Map.Views.{btree_map_contains_key_iff}
use Rattle.sigstore_keys.specs.Good.{Judge}
use Rattle.path_core.specs.declared.error.LeafFault.{LeafFault}
use Rattle.path_core.specs.declared.error.PathError.{PathError}
use Rattle.path_core.specs.declared.error.PathError.TheVariants as path
use Rattle.path_core.specs.declared.judgements.Judgements.{Judgements}
use Rattle.path_core.specs.declared.route.Route.{Route}
use Rattle.path_core.specs.declared.route.FoundPath.{FoundPath}
use Rattle.path_core.specs.Counts.{width_of, place_of, under, AgreesAt, IsAnswer, Counts}
use Rattle.path_core.specs.Judged.{Keeps, Agrees, Decides}
use Rattle.path_core.specs.Paths.{Setting, First, IsFound, route_of, follows_leaf, spki_at}
use Rattle.path_core.specs.Refusal.{Refuses}
use Rattle.path_core.specs.Traits.{leaf_of}
use Rattle.path_core.proofs.FirstPath.{found_is, refused_is}
use Rattle.path_core.proofs.Judging.{kept_within, agrees_itself}

-- ---- the count

none_kept : (j : Judgements) → IsEmpty j.judged → btree_map_len j.judged ≡ 0
none_kept j empty = ap length empty

kept_alone : (a b : ℕ) → a ≡ 0 → b - a ≡ b
kept_alone a b none = omega arith

risen : (w : Setting) (a b : Judgements) → IsEmpty a.judged → Keeps w a b → b.steps ≡ min (a.steps + btree_map_len b.judged) (2 ^ 128 - 1)
risen w a b empty keeps = keeps.counted ∙ ap (λ n. min (a.steps + n) (2 ^ 128 - 1)) (kept_alone (btree_map_len a.judged) (btree_map_len b.judged) (none_kept a empty))

at_most : (old new n most : ℕ) → new ≡ min (old + n) (2 ^ 128 - 1) → n ≤ most → new ≤ old + most
at_most old new n most is few = omega arith

pub costs : (w : Setting) (a b : Judgements) → IsEmpty a.judged → Keeps w a b → b.steps ≤ a.steps + (length w.intermediates + 1) * width_of w
costs w a b empty keeps = at_most a.steps b.steps (btree_map_len b.judged) ((length w.intermediates + 1) * width_of w) (risen w a b empty keeps) (kept_within w b keeps.right)

pub rises : (w : Setting) (a b : Judgements) → a.steps ≤ 2 ^ 128 - 1 → Keeps w a b → a.steps ≤ b.steps
rises w a b fits keeps = up a.steps b.steps (btree_map_len b.judged - btree_map_len a.judged) fits keeps.counted
  where
    up : (old new n : ℕ) → old ≤ 2 ^ 128 - 1 → new ≡ min (old + n) (2 ^ 128 - 1) → old ≤ new
    up old new n fits is = omega arith

-- ---- what is decided

agrees_there : (w : Setting) (j : Judgements) (judge : Judge) → AgreesAt w judge (keys j.judged) → Agrees w j judge
agrees_there w j judge agrees = record { same = λ s t source target h. agrees s t source target ((btree_map_contains_key_iff nat_cmp_total exact_unsigned j.judged (place_of w s t)).0 h) }

counts : (w : Setting) (a b : Judgements) (answer : Result FoundPath PathError) → IsEmpty a.judged → Keeps w a b → Decides w b (IsAnswer answer) → Counts w a.steps b.steps answer
counts w a b answer empty keeps decides = record {
  places = keys b.judged;
  within = keeps.right.within;
  once = IsStrictlyIncreasing-from_sorted (keys b.judged) keeps.right.ordered;
  risen = risen w a b empty keeps ∙ ap (λ n. min (a.steps + n) (2 ^ 128 - 1)) (sym (length-map b.judged.entries (λ e. e.0)));
  decide = λ judge agrees. decides judge (agrees_there w b judge agrees);
}

abbrev pub Finds : Setting → Judgements → Result FoundPath PathError → Type 0
Finds w j answer = IfOk answer (λ p. Decides w j (λ v. IsFound v p))

abbrev pub Refused : Setting → Judgements → Result FoundPath PathError → Type 0
Refused w j answer = IfErr answer (λ e. Decides w j (λ v. Refuses v e))

pub counts_answer : (w : Setting) (a b : Judgements) (answer : Result FoundPath PathError) → IsEmpty a.judged → Keeps w a b → Finds w b answer → Refused w b answer → Counts w a.steps b.steps answer
counts_answer w a b (Ok p) empty keeps found refused = counts w a b (Ok p) empty keeps (λ judge agrees. found_is (under w judge) p (found judge agrees))
counts_answer w a b (Err e) empty keeps found refused = counts w a b (Err e) empty keeps (λ judge agrees. refused_is (under w judge) e (refused judge agrees))

-- it holds under the judge himself
pub found_itself : (w : Setting) (j : Judgements) (answer : Result FoundPath PathError) → Finds w j answer → IfOk answer (IsFound w)
found_itself w j (Ok p) found = found w.accepts (agrees_itself w j)
found_itself w j (Err e) found = tt

pub refused_itself : (w : Setting) (j : Judgements) (answer : Result FoundPath PathError) → Refused w j answer → IfErr answer (Refuses w)
refused_itself w j (Ok p) refused = tt
refused_itself w j (Err e) refused = refused w.accepts (agrees_itself w j)

pub found_decides : (w : Setting) (j : Judgements) (route : Route) (p : FoundPath) → Decides w j (λ v. First v route) → route_of p ≡ route → p.issuer_spki ≡ spki_at (follows_leaf w p.positions p.anchor) → Decides w j (λ v. IsFound v p)
found_decides w j route p first is key = λ judge agrees. record { first = subst (First (under w judge)) (sym is) (first judge agrees); key = key }

-- ---- before any pair is judged

early : (w : Setting) (e : PathError) → e ≢ path.NoPath → Refuses w e → (judge : Judge) → Refuses (under w judge) e
early w (path.Leaf fault) other refused judge = refused
early w path.NoPath other refused judge = absurd (other refl)
early w path.NameConstraints other refused judge = refused
early w path.Certificate other refused judge = refused
early w path.NoMemory other refused judge = refused

-- a refusal of the leaf and want of memory come without any pair
pub none_counted : (w : Setting) (n : ℕ) (e : PathError) → n ≤ 2 ^ 128 - 1 → e ≢ path.NoPath → Refuses w e → Counts w n n (Err e)
none_counted w n e fits other refused = record {
  places = [];
  within = All-nil _;
  once = λ k h. let none : k + 1 < 0 = h in absurd (omega arith);
  risen = let same : n ≡ min (n + 0) (2 ^ 128 - 1) = omega arith in same;
  decide = λ judge agrees. refused_is (under w judge) e (early w e other refused judge);
}

pub want_counted : (w : Setting) (n begun : ℕ) → begun ≡ n → begun ≤ 2 ^ 128 - 1 → Counts w n n (Err path.NoMemory)
want_counted w n begun same fits = none_counted w n path.NoMemory (subst (λ k. k ≤ 2 ^ 128 - 1) same fits) (λ other. cc) tt

pub leaf_counted : (w : Setting) (n begun : ℕ) (leaf : List ℕ) (e : PathError) → begun ≡ n → begun ≤ 2 ^ 128 - 1 → leaf ≡ w.leaf
    → ((fault : LeafFault) × (e ≡ path.Leaf fault) × (leaf_of w.purpose leaf ≡ Err fault)) → Counts w n n (Err e)
leaf_counted w n begun leaf e same fits read (fault, is, lacks) =
    let refused : leaf_of w.purpose w.leaf ≡ Err fault = subst (λ bytes. leaf_of w.purpose bytes ≡ Err fault) read lacks in
    subst (λ (x : PathError). Counts w n n (Err x)) (sym is) (none_counted w n (path.Leaf fault) (subst (λ k. k ≤ 2 ^ 128 - 1) same fits) (λ other. cc) refused)
