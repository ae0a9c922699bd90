-- The test of pieces is true exactly where the text falls into parts for them.
use Rattle.std.proofs.Common.{◌≡◌, ℕ, List, [], ◌∷◌, ◌++◌, Bool, true, false, ◌||◌, if◌then◌else◌, ◌⊎◌, inl, inr, refl, ap, ◌∙◌, subst}
use Rattle.std.specs.List.{AllZip, concat, list_all, list_any}
use Rattle.foundation.specs.Results.{and_true}
use Rattle.sigstore_policy.specs.Pattern.{Piece, run, one, StandsFor, Fits, after_run, fits, FitsExactly}

or_true : (a b : Bool) → (a || b) ≡ true → (a ≡ true) ⊎ (b ≡ true)
or_true true b h = inl refl
or_true false b h = inr h

first_true : (a b : Bool) → a ≡ true → (a || b) ≡ true
first_true a b h = rw h

second_true : (a b : Bool) → b ≡ true → (a || b) ≡ true
second_true true b h = refl
second_true false b h = h

-- a text with a front that passes, and a rest of some kind
abbrev Cut : (ℕ → Bool) → (List ℕ → Bool) → List ℕ → Type 0
Cut test rest text = (front : List ℕ) × (back : List ℕ) × (list_all test front ≡ true) × (front ++ back ≡ text) × (rest back ≡ true)

later_cut : (test : ℕ → Bool) (rest : List ℕ → Bool) (c : ℕ) (cs : List ℕ) → test c ≡ true → Cut test rest cs → Cut test rest (c ∷ cs)
later_cut test rest c cs passes h = (c ∷ h.0, h.1, rw passes h.2, ap (λ t. c ∷ t) h.3, h.4)

cut_from : (test : ℕ → Bool) (rest : List ℕ → Bool) (text : List ℕ) → list_any rest (after_run test text) ≡ true → Cut test rest text
cut_from test rest [] h = elim (or_true (rest []) false h) [ inl e ↦ ([], [], refl, refl, e) | inr e ↦ cc ]
cut_from test rest (c ∷ cs) h =
    pick (test c) refl (or_true (rest (c ∷ cs)) (list_any rest (if test c then after_run test cs else [])) h) (λ e. cut_from test rest cs e)
  where
    pick : (b : Bool) → test c ≡ b → (rest (c ∷ cs) ≡ true) ⊎ (list_any rest (if b then after_run test cs else []) ≡ true)
        → (list_any rest (after_run test cs) ≡ true → Cut test rest cs) → Cut test rest (c ∷ cs)
    pick b is (inl e) later = ([], c ∷ cs, refl, refl, e)
    pick true is (inr e) later = later_cut test rest c cs is (later e)
    pick false is (inr e) later = cc

cut_here : (test : ℕ → Bool) (rest : List ℕ → Bool) (text : List ℕ) → rest text ≡ true → list_any rest (after_run test text) ≡ true
cut_here test rest [] h = first_true (rest []) false h
cut_here test rest (c ∷ cs) h = first_true (rest (c ∷ cs)) (list_any rest (if test c then after_run test cs else [])) h

cut_to : (test : ℕ → Bool) (rest : List ℕ → Bool) (front back : List ℕ) → list_all test front ≡ true → rest back ≡ true
    → list_any rest (after_run test (front ++ back)) ≡ true
cut_to test rest [] back pass h = cut_here test rest back h
cut_to test rest (c ∷ front) back pass h =
    let parts = and_true (test c) (list_all test front) pass in
    let later : list_any rest (after_run test (front ++ back)) ≡ true = cut_to test rest front back parts.1 h in
    second_true (rest (c ∷ (front ++ back))) (list_any rest (if test c then after_run test (front ++ back) else [])) (rw parts.0 later)

run_before : (test : ℕ → Bool) (later : List Piece) (front back text : List ℕ) → list_all test front ≡ true → front ++ back ≡ text → Fits later back
    → Fits (run test ∷ later) text
run_before test later front back text pass e f = (front ∷ f.0, (pass, f.1), ap (λ t. front ++ t) f.2 ∙ e)

one_before : (test : ℕ → Bool) (later : List Piece) (c : ℕ) (cs : List ℕ) → test c ≡ true → Fits later cs → Fits (one test ∷ later) (c ∷ cs)
one_before test later c cs h f = ((c ∷ []) ∷ f.0, ((c, refl, h), f.1), ap (λ t. c ∷ t) f.2)

fits_from : (pieces : List Piece) (text : List ℕ) → fits pieces text ≡ true → Fits pieces text
fits_from [] [] h = ([], tt, refl)
fits_from [] (c ∷ cs) h = cc
fits_from (run test ∷ later) text h =
    let cut = cut_from test (fits later) text h in
    run_before test later cut.0 cut.1 text cut.2 cut.3 (fits_from later cut.1 cut.4)
fits_from (one test ∷ later) [] h = cc
fits_from (one test ∷ later) (c ∷ cs) h =
    let parts = and_true (test c) (fits later cs) h in
    one_before test later c cs parts.0 (fits_from later cs parts.1)

fits_parts : (pieces : List Piece) (parts : List (List ℕ)) → AllZip StandsFor pieces parts → fits pieces (concat parts) ≡ true
fits_parts [] [] z = refl
fits_parts [] (p ∷ parts) z = absurd z
fits_parts (p ∷ pieces) [] z = absurd z
fits_parts (run test ∷ pieces) (part ∷ parts) z = cut_to test (fits pieces) part (concat parts) z.0 (fits_parts pieces parts z.1)
fits_parts (one test ∷ pieces) (part ∷ parts) z = rw (z.0.1, z.0.2) (fits_parts pieces parts z.1)

pub fits_exactly : FitsExactly
fits_exactly pieces text = (fits_from pieces text, λ f. subst (λ t. fits pieces t ≡ true) f.2 (fits_parts pieces f.0 f.1))
