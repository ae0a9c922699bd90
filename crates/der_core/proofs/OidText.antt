-- Reading the arcs of a text, one character after the other.
use Rattle.std.proofs.Common.{◌≡◌, ℕ, ◌+◌, ◌-◌, ◌*◌, ◌<◌, ◌≤◌, Bool, true, false, cond, ltb, eqb, List, [], ◌∷◌, ◌++◌, length, get_or, drop, Option, Some, None, Ok, Err, refl, sym, ap, ◌∙◌, append_assoc, arith, drop-cons, add-one, inl, inr}
use Rattle.std.specs.Prelude.{is_some}
use Rattle.std.specs.Option.{option_to_list}
use Rattle.std.proofs.lemmas.Bool.{le-ltb}
use Rattle.std.proofs.lemmas.List.{length-append, drop_all}
use Rattle.foundation.specs.Steps.{◌>>=◌}
use Rattle.der_grammar.specs.declared.error.DerError.{DerError}
use Rattle.der_grammar.specs.declared.error.DerError.TheVariants.{Value, Oid}
use Rattle.der_grammar.specs.Outcome.{Outcome}
use Rattle.der_grammar.specs.TlvLaws.{chosen}
use Rattle.der_core.specs.Oid.{group_at, group_bytes, groups_bytes, are_arcs, oid_of, is_digit, one_character, at_end, decimals, oid_of_text}
use Rattle.der_core.proofs.OidLaws.{group-again}

-- ---- more than 40 arcs need more than 39 octets

group-some : (n : ℕ) (text : List ℕ) → group_bytes n ≡ text → 1 ≤ length text
unfolding group_at
group-some n [] e = absurd (let g : group_at (group_bytes n ++ []) ≡ Ok (n, []) = group-again n [] in let h : Path (Outcome (ℕ × List ℕ)) (Err Value) (Ok (n, [])) = ap (λ (z : List ℕ). group_at (z ++ [])) (sym e) ∙ g in cc)
group-some n (b ∷ text) e = omega arith

groups-count : (ns : List ℕ) → length ns ≤ length (groups_bytes ns)
groups-count [] = omega arith
groups-count (n ∷ ns) = omega (arith, group-some n (group_bytes n) refl, groups-count ns, length-append (group_bytes n) (groups_bytes ns))

refused_either : (b : Bool) (r : Outcome (List ℕ)) → r ≡ Err Oid → cond b r (Err Oid) ≡ Err Oid
refused_either true r e = e
refused_either false r e = refl

pub too_many : (xs : List ℕ) → 40 < length xs → oid_of xs ≡ Err Oid
unfolding oid_of
too_many [] h = absurd (omega arith)
too_many (a ∷ []) h = absurd (omega arith)
too_many (a ∷ b ∷ more) h =
    let long : ltb (length (group_bytes (40 * a + b) ++ groups_bytes more)) 40 ≡ false = le-ltb _ _ (omega (arith, group-some (40 * a + b) (group_bytes (40 * a + b)) refl, groups-count more, length-append (group_bytes (40 * a + b)) (groups_bytes more))) in
    refused_either (are_arcs (a ∷ b ∷ more)) _ (rw long refl)

-- ---- the loop

abbrev pub TextOn : List ℕ → Option ℕ → List ℕ → List ℕ → Type 0
TextOn done number rest text = (decimals number rest >>= λ xs. Ok (done ++ xs)) ≡ decimals None text

nothing_first : (r : Outcome (List ℕ)) → (r >>= λ xs. Ok ([] ++ xs)) ≡ r
nothing_first (Ok xs) = refl
nothing_first (Err e) = refl

pub text-begins : (text : List ℕ) → TextOn [] None text text
text-begins text = nothing_first (decimals None text)

left : (text : List ℕ) (i : ℕ) → i < length text → drop i text ≡ get_or text i 0 ∷ drop (i + 1) text
left text i lt = drop-cons text i 0 lt ∙ rw add-one refl

one_text : (done more : List ℕ) (r : Outcome (List ℕ)) → ((r >>= λ b. Ok (more ++ b)) >>= λ b. Ok (done ++ b)) ≡ (r >>= λ b. Ok ((done ++ more) ++ b))
one_text done more (Ok b) = ap (λ z. Ok z) (sym (append_assoc done more b))
one_text done more (Err e) = refl

front_step : (number next : Option ℕ) (ended text : List ℕ) (i : ℕ) → i < length text → one_character number (get_or text i 0) ≡ Ok (ended, next) → decimals number (drop i text) ≡ (decimals next (drop (i + 1) text) >>= λ more. Ok (ended ++ more))
unfolding decimals
front_step number next ended text i lt e =
    ap (decimals number) (left text i lt) ∙ ap (λ (z : Outcome (List ℕ × Option ℕ)). z >>= λ x. decimals x.1 (drop (i + 1) text) >>= λ more. Ok (x.0 ++ more)) e

pub text-one : (done : List ℕ) (number next : Option ℕ) (ended text : List ℕ) (i : ℕ) → i < length text → one_character number (get_or text i 0) ≡ Ok (ended, next) → TextOn done number (drop i text) text → TextOn (done ++ ended) next (drop (i + 1) text) text
text-one done number next ended text i lt e h =
    sym (one_text done ended (decimals next (drop (i + 1) text))) ∙ ap (λ (z : Outcome (List ℕ)). z >>= λ xs. Ok (done ++ xs)) (sym (front_step number next ended text i lt e)) ∙ h

refused_along : {A B : Type 0} (e : DerError) (r : Outcome A) (f : A → Outcome B) → r ≡ Err e → (r >>= f) ≡ Err e
refused_along e r f h = rw h refl

pub text-refused : (done : List ℕ) (number : Option ℕ) (text : List ℕ) (i : ℕ) (e : DerError) → i < length text → one_character number (get_or text i 0) ≡ Err e → TextOn done number (drop i text) text → oid_of_text text ≡ Err e
unfolding oid_of_text decimals
text-refused done number text i e lt r h =
    refused_along e (decimals None text) oid_of (sym h ∙ refused_along e (decimals number (drop i text)) _ (ap (decimals number) (left text i lt) ∙ refused_along e (one_character number (get_or text i 0)) _ r))

-- the only refusal
cond_oid : {A : Type 0} (b : Bool) (x : A) (e : DerError) → cond b (Ok x) (Err Oid) ≡ Err e → e ≡ Oid
cond_oid true x e h = absurd cc
cond_oid false x e h = cc

character_oid : (number : Option ℕ) (c : ℕ) (e : DerError) → one_character number c ≡ Err e → e ≡ Oid
character_oid None c e h = cond_oid {A = List ℕ × Option ℕ} (is_digit c) ([], Some (c - 48)) e h
character_oid (Some v) c e h = elim (chosen (eqb c 46) _ _ _ h) [
  | inl p ↦ absurd (let k = p.1 in cc)
  | inr p ↦ cond_oid {A = List ℕ × Option ℕ} _ ([], Some (10 * v + (c - 48))) e p.1
]

oid_after : (r : Outcome (List ℕ)) (done : List ℕ) → ((xs : List ℕ) → r ≡ Ok xs → 40 < length (done ++ xs)) → ((e : DerError) → r ≡ Err e → e ≡ Oid) → ((r >>= λ xs. Ok (done ++ xs)) >>= oid_of) ≡ Err Oid
oid_after (Ok xs) done long only = too_many (done ++ xs) (long xs refl)
oid_after (Err e) done long only = ap (λ (z : DerError). Err z) (only e refl)

rest_oid : (ended : List ℕ) (r : Outcome (List ℕ)) (e : DerError) → ((d : DerError) → r ≡ Err d → d ≡ Oid) → (r >>= λ more. Ok (ended ++ more)) ≡ Err e → e ≡ Oid
rest_oid ended (Ok more) e again h = absurd cc
rest_oid ended (Err d) e again h = let k = again d refl in cc

front_oid : (number : Option ℕ) (c : ℕ) (text : List ℕ) (r : Outcome (List ℕ × Option ℕ)) (e : DerError) → one_character number c ≡ r → ((next : Option ℕ) (d : DerError) → decimals next text ≡ Err d → d ≡ Oid) → (r >>= λ x. decimals x.1 text >>= λ more. Ok (x.0 ++ more)) ≡ Err e → e ≡ Oid
front_oid number c text (Ok x) e is again h = rest_oid x.0 (decimals x.1 text) e (again x.1) h
front_oid number c text (Err d) e is again h = let k = character_oid number c d is in cc

decimals_oid : (number : Option ℕ) (text : List ℕ) (e : DerError) → decimals number text ≡ Err e → e ≡ Oid
unfolding decimals
decimals_oid None [] e h = cc
decimals_oid (Some v) [] e h = absurd cc
decimals_oid number (c ∷ text) e h = front_oid number c text (one_character number c) e refl (λ next d k. decimals_oid next text d k) h

pub text-full : (done : List ℕ) (number next : Option ℕ) (ended text : List ℕ) (i : ℕ) → i < length text → one_character number (get_or text i 0) ≡ Ok (ended, next) → 40 < length done + length ended → TextOn done number (drop i text) text → oid_of_text text ≡ Err Oid
unfolding oid_of_text
text-full done number next ended text i lt e full h =
    let t = text-one done number next ended text i lt e h in
    ap (λ (z : Outcome (List ℕ)). z >>= oid_of) (sym t)
    ∙ oid_after (decimals next (drop (i + 1) text)) (done ++ ended) (λ xs k. omega (arith, length-append (done ++ ended) xs, length-append done ended)) (λ d k. decimals_oid next (drop (i + 1) text) d k)

at_last : (done : List ℕ) (number : Option ℕ) (text : List ℕ) (i : ℕ) → length text ≤ i → TextOn done number (drop i text) text → decimals None text ≡ (at_end number >>= λ xs. Ok (done ++ xs))
unfolding decimals
at_last done number text i le h = let e = drop_all i text le in sym h ∙ ap (λ (z : List ℕ). decimals number z >>= λ xs. Ok (done ++ xs)) e

pub text-open : (done : List ℕ) (number : Option ℕ) (text : List ℕ) (i : ℕ) → length text ≤ i → is_some number ≡ false → TextOn done number (drop i text) text → oid_of_text text ≡ Err Oid
unfolding oid_of_text
text-open done None text i le none h = refused_along Oid (decimals None text) oid_of (at_last done None text i le h)
text-open done (Some v) text i le none h = absurd cc

last_full : (done : List ℕ) (v : ℕ) (text : List ℕ) (i : ℕ) → length text ≤ i → 40 < length done + 1 → TextOn done (Some v) (drop i text) text → oid_of_text text ≡ Err Oid
unfolding oid_of_text
last_full done v text i le full h = ap (λ (z : Outcome (List ℕ)). z >>= oid_of) (at_last done (Some v) text i le h) ∙ too_many (done ++ v ∷ []) (omega (arith, length-append done (v ∷ [])))

pub text-last_full : (done : List ℕ) (number : Option ℕ) (text : List ℕ) (i : ℕ) → length text ≤ i → 40 < length done + length (option_to_list number) → TextOn done number (drop i text) text → oid_of_text text ≡ Err Oid
text-last_full done None text i le full h = text-open done None text i le refl h
text-last_full done (Some v) text i le full h = last_full done v text i le full h

pub text-ends : (done : List ℕ) (number : Option ℕ) (arcs text : List ℕ) (i : ℕ) → length text ≤ i → is_some number ≡ true → arcs ≡ done ++ option_to_list number → TextOn done number (drop i text) text → decimals None text ≡ Ok arcs
text-ends done None arcs text i le some e h = absurd cc
text-ends done (Some v) arcs text i le some e h = at_last done (Some v) text i le h ∙ ap (λ (z : List ℕ). Ok z) (sym e)
