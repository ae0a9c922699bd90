-- Lemmas on the signatures that count.
use Rattle.std.proofs.Common.{◌≡◌, ℕ, suc, ◌+◌, ◌<◌, List, [], ◌∷◌, length, get_or, drop, map, Bool, true, false, ◌||◌, bytes_eq, Bor, refl, sym, ap, add-one}
use Rattle.std.specs.Prelude.{not}
use Rattle.std.proofs.Math.Seq.{drop-cons}
use Rattle.sigstore_tuf_parts.specs.declared.document.Signature.{Signature}
use Rattle.sigstore_tuf_parts.specs.Threshold.{is_among, ids_of, second_after}

-- lists that hold the same ids are alike for what follows
pub second_after-same : (seen others ids : List (List ℕ)) → ((x : List ℕ) → is_among seen x ≡ is_among others x) → second_after seen ids ≡ second_after others ids
second_after-same seen others [] same = refl
second_after-same seen others (id ∷ ids) same =
    rw (same id, second_after-same (id ∷ seen) (id ∷ others) ids (λ x. ap (λ b. bytes_eq id x || b) (same x)))

second_new : (seen more : List (List ℕ)) (id : List ℕ) (ids : List (List ℕ)) → is_among seen id ≡ false
    → ((x : List ℕ) → is_among more x ≡ (bytes_eq id x || is_among seen x)) → second_after seen (id ∷ ids) ≡ second_after more ids
second_new seen more id ids is all = rw is (second_after-same (id ∷ seen) more ids (λ x. sym (all x)))

not_true : (b : Bool) → not b ≡ true → b ≡ false
not_true true is = sym is
not_true false is = refl

-- one signature more was seen, of an id that is new
pub second_step : (xs : List (Bor Signature)) (i : ℕ) (s : Bor Signature) (seen more : List (List ℕ)) (id : List ℕ) → i < length xs → get_or xs i s ≡ s
    → id ≡ s.now.keyid → not (is_among seen id) ≡ true → ((x : List ℕ) → is_among more x ≡ (bytes_eq id x || is_among seen x))
    → second_after seen (ids_of (map (λ t. t.now) (drop i xs))) ≡ second_after more (ids_of (map (λ t. t.now) (drop (i + 1) xs)))
second_step xs i s seen more id below at its new all =
    rw (add-one, drop-cons xs i s below, at, ← its) (second_new seen more id (ids_of (map (λ t. t.now) (drop (suc i) xs))) (not_true (is_among seen id) new) all)
