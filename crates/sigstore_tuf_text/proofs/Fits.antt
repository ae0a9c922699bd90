-- The test of a segment is true exactly where the text falls into parts for its pieces.
use Rattle.std.proofs.Common.{◌≡◌, ◌↔◌, ℕ, List, [], ◌∷◌, ◌++◌, Bool, true, false, ◌||◌, ◌⊎◌, inl, inr, refl, ap, ◌∙◌, subst}
use Rattle.std.specs.List.{AllZip, concat, list_any}
use Rattle.foundation.specs.Results.{and_true}
use Rattle.sigstore_tuf_text.specs.Pattern.{Piece, run, one, StandsFor, Fits, suffixes, fits}

or_true : (a b : Bool) → (a || b) ≡ true → (a ≡ true) ⊎ (b ≡ true)
or_true true b h = inl refl
or_true false b h = inr h

first_true : (a b : Bool) → a ≡ true → (a || b) ≡ true
first_true a b h = rw h

second_true : (a b : Bool) → b ≡ true → (a || b) ≡ true
second_true true b h = refl
second_true false b h = h

abbrev Cut : (List ℕ → Bool) → List ℕ → Type 0
Cut test text = (front : List ℕ) × (back : List ℕ) × (front ++ back ≡ text) × (test back ≡ true)

later_cut : (test : List ℕ → Bool) (c : ℕ) (cs : List ℕ) → Cut test cs → Cut test (c ∷ cs)
later_cut test c cs h = (c ∷ h.0, h.1, ap (λ t. c ∷ t) h.2, h.3)

cut_from : (test : List ℕ → Bool) (text : List ℕ) → list_any test (suffixes text) ≡ true → Cut test text
cut_from test [] h = elim (or_true (test []) false h) [ inl e ↦ ([], [], refl, e) | inr e ↦ cc ]
cut_from test (c ∷ cs) h = pick (or_true (test (c ∷ cs)) (list_any test (suffixes cs)) h) (λ e. cut_from test cs e)
  where
    pick : (test (c ∷ cs) ≡ true) ⊎ (list_any test (suffixes cs) ≡ true) → (list_any test (suffixes cs) ≡ true → Cut test cs) → Cut test (c ∷ cs)
    pick (inl e) later = ([], c ∷ cs, refl, e)
    pick (inr e) later = later_cut test c cs (later e)

cut_here : (test : List ℕ → Bool) (text : List ℕ) → test text ≡ true → list_any test (suffixes text) ≡ true
cut_here test [] h = first_true (test []) false h
cut_here test (c ∷ cs) h = first_true (test (c ∷ cs)) (list_any test (suffixes cs)) h

cut_to : (test : List ℕ → Bool) (front back : List ℕ) → test back ≡ true → list_any test (suffixes (front ++ back)) ≡ true
cut_to test [] back h = cut_here test back h
cut_to test (c ∷ front) back h = second_true (test (c ∷ (front ++ back))) (list_any test (suffixes (front ++ back))) (cut_to test front back h)

run_before : (later : List Piece) (front back text : List ℕ) → front ++ back ≡ text → Fits later back → Fits (run ∷ later) text
run_before later front back text e f = (front ∷ f.0, (tt, f.1), ap (λ t. front ++ t) f.2 ∙ e)

one_before : (test : ℕ → Bool) (later : List Piece) (c : ℕ) (cs : List ℕ) → test c ≡ true → Fits later cs → Fits (one test ∷ later) (c ∷ cs)
one_before test later c cs h f = ((c ∷ []) ∷ f.0, ((c, refl, h), f.1), ap (λ t. c ∷ t) f.2)

fits_from : (pieces : List Piece) (text : List ℕ) → fits pieces text ≡ true → Fits pieces text
fits_from [] [] h = ([], tt, refl)
fits_from [] (c ∷ cs) h = cc
fits_from (run ∷ later) text h =
    let cut = cut_from (fits later) text h in
    run_before later cut.0 cut.1 text cut.2 (fits_from later cut.1 cut.3)
fits_from (one test ∷ later) [] h = cc
fits_from (one test ∷ later) (c ∷ cs) h =
    let parts = and_true (test c) (fits later cs) h in
    one_before test later c cs parts.0 (fits_from later cs parts.1)

fits_parts : (pieces : List Piece) (parts : List (List ℕ)) → AllZip StandsFor pieces parts → fits pieces (concat parts) ≡ true
fits_parts [] [] z = refl
fits_parts [] (p ∷ parts) z = absurd z
fits_parts (p ∷ pieces) [] z = absurd z
fits_parts (run ∷ pieces) (part ∷ parts) z = cut_to (fits pieces) part (concat parts) (fits_parts pieces parts z.1)
fits_parts (one test ∷ pieces) (part ∷ parts) z = rw (z.0.1, z.0.2) (fits_parts pieces parts z.1)

pub fits_exactly : (pieces : List Piece) (text : List ℕ) → (fits pieces text ≡ true) ↔ Fits pieces text
fits_exactly pieces text = (fits_from pieces text, λ f. subst (λ t. fits pieces t ≡ true) f.2 (fits_parts pieces f.0 f.1))
