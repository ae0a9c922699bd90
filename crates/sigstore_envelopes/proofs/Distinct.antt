-- Encodings of different types or payloads differ.
use Rattle.std.proofs.Common.{◌≡◌, ◌<◌, ◌+◌, ◌/◌, ◌%◌, ◌==◌, ℕ, zero, suc, List, [], ◌∷◌, ◌++◌, length, get_or, take, drop, Bool, true, false, cond, decimal, refl, ap, ap₂, sym, ◌∙◌, arith, append_assoc}
use Rattle.std.specs.Prelude.{⊤}
use Rattle.std.specs.Fmt.{digit_glyph, digits_onto, digits}
use Rattle.std.proofs.lemmas.Fmt.{decimal_injective}
use Rattle.std.proofs.Math.Seq.{take-append_seam, drop-append_seam}
use Rattle.sigstore_envelopes.specs.Laws.{EncodingsAreDistinct}

-- ---- words

-- no octet is a space
abbrev NoSpace : List ℕ → Type 0
NoSpace [] = ⊤
NoSpace (b ∷ bs) = (32 < b) × NoSpace bs

glyph_by : (ten : Bool) (d : ℕ) → 32 < cond ten (48 + d) (cond false (55 + d) (87 + d))
glyph_by true d = omega arith
glyph_by false d = omega arith

either : (b : Bool) (xs ys : List ℕ) → NoSpace xs → NoSpace ys → NoSpace (cond b xs ys)
either true xs ys p q = p
either false xs ys p q = q

digits_spaceless : (k n : ℕ) (acc : List ℕ) → NoSpace acc → NoSpace (digits_onto k 10 false n acc)
digits_spaceless zero n acc h = h
digits_spaceless (suc k) n acc h =
    let more : NoSpace (digit_glyph false (n % 10) ∷ acc) = (glyph_by _ (n % 10), h) in
    either (n / 10 == 0) _ _ more (digits_spaceless k (n / 10) _ more)

decimal_spaceless : (n : ℕ) → NoSpace (decimal n)
unfolding digits
decimal_spaceless n = digits_spaceless 64 n [] tt

-- words without spaces, each with a space and a rest behind it
cut : (word word' rest rest' : List ℕ) → NoSpace word → NoSpace word' → word ++ 32 ∷ rest ≡ word' ++ 32 ∷ rest' → (word ≡ word') × (rest ≡ rest')
cut [] [] rest rest' h h' e = (refl, ap (drop 1) e)
cut [] (b ∷ word') rest rest' h h' e = let first : 32 ≡ b = ap (λ xs. get_or xs 0 0) e in absurd (omega (arith, first, h'.0))
cut (b ∷ word) [] rest rest' h h' e = let first : b ≡ 32 = ap (λ xs. get_or xs 0 0) e in absurd (omega (arith, first, h.0))
cut (b ∷ word) (b' ∷ word') rest rest' h h' e =
    let first : b ≡ b' = ap (λ xs. get_or xs 0 0) e in
    let others = cut word word' rest rest' h.1 h'.1 (ap (drop 1) e) in
    (ap₂ (λ x xs. x ∷ xs) first others.0, others.1)

-- texts of one length with rests behind them
cut_at : (t t' rest rest' : List ℕ) → length t ≡ length t' → t ++ rest ≡ t' ++ rest' → (t ≡ t') × (rest ≡ rest')
cut_at t t' rest rest' size e = (
  sym (take-append_seam t rest) ∙ ap (take (length t)) e ∙ ap (λ n. take n (t' ++ rest')) size ∙ take-append_seam t' rest',
  sym (drop-append_seam t rest) ∙ ap (drop (length t)) e ∙ ap (λ n. drop n (t' ++ rest')) size ∙ drop-append_seam t' rest',
)

-- ---- encodings

-- what stands behind the name of the encoding
abbrev behind_name : List ℕ → List ℕ → List ℕ
behind_name t p = decimal (length t) ++ 32 ∷ (t ++ 32 ∷ (decimal (length p) ++ 32 ∷ p))

joined : (a t b p : List ℕ) → (a ++ 32 ∷ (t ++ 32 ∷ (b ++ 32 ∷ []))) ++ p ≡ a ++ 32 ∷ (t ++ 32 ∷ (b ++ 32 ∷ p))
joined a t b p =
    append_assoc a (32 ∷ (t ++ 32 ∷ (b ++ 32 ∷ []))) p
    ∙ ap (λ x. a ++ 32 ∷ x) (append_assoc t (32 ∷ (b ++ 32 ∷ [])) p ∙ ap (λ x. t ++ 32 ∷ x) (append_assoc b (32 ∷ []) p))

pub distinct : EncodingsAreDistinct
distinct t p t' p' small small' e =
    let a = decimal (length t) in
    let a' = decimal (length t') in
    let b = decimal (length p) in
    let b' = decimal (length p') in
    let named : behind_name t p ≡ behind_name t' p' = sym (joined a t b p) ∙ ap (drop 7) e ∙ joined a' t' b' p' in
    let sized = cut a a' (t ++ 32 ∷ (b ++ 32 ∷ p)) (t' ++ 32 ∷ (b' ++ 32 ∷ p')) (decimal_spaceless (length t)) (decimal_spaceless (length t')) named in
    let typed = cut_at t t' (32 ∷ (b ++ 32 ∷ p)) (32 ∷ (b' ++ 32 ∷ p')) (decimal_injective (length t) (length t') small small' sized.0) sized.1 in
    (typed.0, (cut b b' p p' (decimal_spaceless (length p)) (decimal_spaceless (length p')) (ap (drop 1) typed.1)).1)
