-- Base64 in lines.
use Rattle.std.proofs.Common.{◌≡◌, ℕ, zero, suc, ◌+◌, ◌/◌, ◌<◌, ◌≤◌, List, [], ◌∷◌, ◌++◌, length, take, drop, sym, ap, ◌∙◌, arith, append_assoc}
use Rattle.std.proofs.lemmas.List.{take_all, length-drop}
use Rattle.sigstore_pem.specs.Written.{wrapped_in, wrapped}

-- how many lines a text has
abbrev pub line_count : List ℕ → ℕ
line_count s = (length s + 63) / 64

pub count_more : (s : List ℕ) → 64 < length s → line_count s ≡ suc (line_count (drop 64 s))
count_more s h = omega (arith, length-drop 64 s)

pub wrapped_more : (s : List ℕ) → 64 < length s → wrapped s ≡ take 64 s ++ (10 ∷ wrapped (drop 64 s))
unfolding wrapped_in
wrapped_more s h = ap (λ n. wrapped_in n s) (count_more s h)

pub wrapped_last : (s : List ℕ) → 0 < length s → length s ≤ 64 → wrapped s ≡ s ++ (10 ∷ [])
unfolding wrapped_in
wrapped_last s h k =
    let one : line_count s ≡ suc zero = omega arith in
    ap (λ n. wrapped_in n s) one ∙ ap (λ x. x ++ (10 ∷ [])) (take_all 64 s k)

pub wrapped_none : (s : List ℕ) → length s ≡ 0 → wrapped s ≡ []
unfolding wrapped_in
wrapped_none s h =
    let none : line_count s ≡ zero = omega arith in
    ap (λ n. wrapped_in n s) none

-- one more line of what is written
pub pushed_line : (whole old new s line next : List ℕ) → whole ≡ old ++ wrapped s → 64 < length s → line ≡ take 64 s → next ≡ drop 64 s
    → new ≡ old ++ (line ++ (10 ∷ [])) → whole ≡ new ++ wrapped next
pushed_line whole old new s line next e h p q r =
    let more : wrapped s ≡ line ++ (10 ∷ wrapped next) = wrapped_more s h ∙ ap (λ x. x ++ (10 ∷ wrapped (drop 64 s))) (sym p) ∙ ap (λ x. line ++ (10 ∷ wrapped x)) (sym q) in
    e ∙ ap (λ x. old ++ x) (more ∙ sym (append_assoc line (10 ∷ []) (wrapped next))) ∙ sym (append_assoc old (line ++ (10 ∷ [])) (wrapped next))
    ∙ ap (λ x. x ++ wrapped next) (sym r)
