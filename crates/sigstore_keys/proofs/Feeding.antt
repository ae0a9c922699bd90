-- Hashers that are fed nothing, or in turn.
use Rattle.std.proofs.Common.{◌≡◌, ℕ, List, [], ◌∷◌, ◌++◌, sym, ap, subst, ◌∙◌, arith, ◌<◌, ◌+◌, length, take, drop, get_or, set}
use Rattle.std.proofs.lemmas.List.{take_more, take_more_set, get_or-drop}
use Rattle.sigstore_keys.specs.Hasher.{Fed}

pub fed_nothing : {H : Type 0} (grows : H → List ℕ → H → Type 0) → ((h : H) → grows h [] h) → (hs : List H) → Fed grows hs hs []
fed_nothing grows none [] = tt
fed_nothing grows none (h ∷ hs) = (none h, fed_nothing grows none hs)

pub fed_more : {H : Type 0} (grows : H → List ℕ → H → Type 0) → ((h k l : H) (a b : List ℕ) → grows h a k → grows k b l → grows h (a ++ b) l)
    → (hs ks ls : List H) (a b : List ℕ) → Fed grows hs ks a → Fed grows ks ls b → Fed grows hs ls (a ++ b)
fed_more grows more [] [] [] a b p q = tt
fed_more grows more [] [] (l ∷ ls) a b p q = absurd q
fed_more grows more [] (k ∷ ks) ls a b p q = absurd p
fed_more grows more (h ∷ hs) [] ls a b p q = absurd p
fed_more grows more (h ∷ hs) (k ∷ ks) [] a b p q = absurd q
fed_more grows more (h ∷ hs) (k ∷ ks) (l ∷ ls) a b p q = (more h k l a b p.0 q.0, fed_more grows more hs ks ls a b p.1 q.1)

fed_push : {H : Type 0} (grows : H → List ℕ → H → Type 0) (hs ks : List H) (h k : H) (b : List ℕ) → Fed grows hs ks b → grows h b k
    → Fed grows (hs ++ h ∷ []) (ks ++ k ∷ []) b
fed_push grows [] [] h k b p q = (q, tt)
fed_push grows [] (y ∷ ys) h k b p q = absurd p
fed_push grows (x ∷ xs) [] h k b p q = absurd p
fed_push grows (x ∷ xs) (y ∷ ys) h k b p q = (p.0, fed_push grows xs ys h k b p.1 q)

-- the next hasher is fed too
pub fed_next : {H : Type 0} (grows : H → List ℕ → H → Type 0) (hs ks : List H) (i : ℕ) (d k : H) (b : List ℕ) → i < length hs → length ks ≡ length hs
    → drop i ks ≡ drop i hs → grows (get_or ks i d) b k → Fed grows (take i hs) (take i ks) b → Fed grows (take (i + 1) hs) (take (i + 1) (set ks i k)) b
fed_next grows hs ks i d k b lt len rest step fed =
    let there : get_or hs i d ≡ get_or ks i d = sym (get_or-drop i hs 0 d ∙ ap (λ n. get_or hs n d) (omega arith)) ∙ sym (ap (λ l. get_or l 0 d) rest) ∙ get_or-drop i ks 0 d ∙ ap (λ n. get_or ks n d) (omega arith) in
    let more : take (i + 1) hs ≡ take i hs ++ get_or ks i d ∷ [] = take_more hs i d lt ∙ ap (λ x. take i hs ++ x ∷ []) there in
    subst (λ l. Fed grows l (take (i + 1) (set ks i k)) b) (sym more)
    (subst (λ l. Fed grows (take i hs ++ get_or ks i d ∷ []) l b) (sym (take_more_set ks i k (omega arith)))
    (fed_push grows (take i hs) (take i ks) (get_or ks i d) k b fed step))
