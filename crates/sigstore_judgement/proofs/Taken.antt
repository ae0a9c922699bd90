-- Hashers that are made, fed and finalized in turn.
use Rattle.std.proofs.Common.{◌≡◌, ℕ, zero, suc, ◌<◌, ◌+◌, List, [], ◌∷◌, ◌++◌, length, take, get_or, Bool, true, false, ◌&&◌, refl, sym, ap, subst, ◌∙◌, arith}
use Rattle.std.proofs.lemmas.List.{take_more}
use Rattle.std.specs.List.{list_all}
use Rattle.sigstore_types_parts.specs.declared.hash_algorithm.HashAlgorithm.{HashAlgorithm}
use Rattle.sigstore_keys.specs.declared.hasher.ArtifactHasher.{ArtifactHasher}
use Rattle.sigstore_keys.specs.Digest.{is_hashed, digest_by, digests_by}
use Rattle.sigstore_keys.specs.Hasher.{Holds, algorithm_in, Grows, Fed}
use Rattle.sigstore_judgement.specs.Taken.{AreOf, Finalized}

-- one hasher more
pub are_more : (hs : List ArtifactHasher) (algorithms : List HashAlgorithm) (h : ArtifactHasher) (a : HashAlgorithm) (bytes : List ℕ) → AreOf hs algorithms bytes
    → algorithm_in h ≡ a → Holds h bytes → AreOf (hs ++ h ∷ []) (algorithms ++ a ∷ []) bytes
are_more [] [] h a bytes p is holds = ((is, holds), tt)
are_more [] (b ∷ bs) h a bytes p is holds = absurd p
are_more (k ∷ ks) [] h a bytes p is holds = absurd p
are_more (k ∷ ks) (b ∷ bs) h a bytes p is holds = (p.0, are_more ks bs h a bytes p.1 is holds)

pub are_next : (hs : List ArtifactHasher) (algorithms : List HashAlgorithm) (h : ArtifactHasher) (i : ℕ) (d : HashAlgorithm) → i < length algorithms → AreOf hs (take i algorithms) []
    → algorithm_in h ≡ get_or algorithms i d → Holds h [] → AreOf (hs ++ h ∷ []) (take (i + 1) algorithms) []
are_next hs algorithms h i d lt p is holds = subst (λ l. AreOf (hs ++ h ∷ []) l []) (sym (take_more algorithms i d lt)) (are_more hs (take i algorithms) h (get_or algorithms i d) [] p is holds)

-- one without a hasher
pub not_all : (algorithms : List HashAlgorithm) (i : ℕ) (d : HashAlgorithm) → i < length algorithms → is_hashed (get_or algorithms i d) ≡ false → list_all is_hashed algorithms ≡ false
not_all [] i d lt h = absurd (omega arith)
not_all (a ∷ algorithms) zero d lt h = ap (λ t. t && list_all is_hashed algorithms) h
not_all (a ∷ algorithms) (suc i) d lt h = second (is_hashed a) (list_all is_hashed algorithms) (not_all algorithms i d (omega arith) h)
  where
    second : (t u : Bool) → u ≡ false → (t && u) ≡ false
    second true u e = e
    second false u e = refl

-- hashers that have seen nothing, and then these bytes
pub fed_are : (hs ks : List ArtifactHasher) (algorithms : List HashAlgorithm) (bytes : List ℕ) → Fed Grows hs ks bytes → AreOf hs algorithms [] → AreOf ks algorithms bytes
fed_are [] [] [] bytes f p = tt
fed_are [] [] (a ∷ algorithms) bytes f p = absurd p
fed_are [] (k ∷ ks) algorithms bytes f p = absurd f
fed_are (h ∷ hs) [] algorithms bytes f p = absurd f
fed_are (h ∷ hs) (k ∷ ks) [] bytes f p = absurd p
fed_are (h ∷ hs) (k ∷ ks) (a ∷ algorithms) bytes f p = (((f.0).same ∙ p.0.0, (f.0).sees [] p.0.1), fed_are hs ks algorithms bytes f.1 p.1)

-- there are as many as before
pub fed_length : (hs ks : List ArtifactHasher) (bytes : List ℕ) → Fed Grows hs ks bytes → length ks ≡ length hs
fed_length [] [] bytes f = refl
fed_length [] (k ∷ ks) bytes f = absurd f
fed_length (h ∷ hs) [] bytes f = absurd f
fed_length (h ∷ hs) (k ∷ ks) bytes f = ap suc (fed_length hs ks bytes f.1)

-- one digest more
pub finalized_more : (hs : List ArtifactHasher) (ds : List (HashAlgorithm × List ℕ)) (h : ArtifactHasher) (d : HashAlgorithm × List ℕ) → Finalized hs ds
    → ((seen : List ℕ) → Holds h seen → d ≡ (algorithm_in h, digest_by (algorithm_in h) seen)) → Finalized (hs ++ h ∷ []) (ds ++ d ∷ [])
finalized_more [] [] h d p is = (is, tt)
finalized_more [] (e ∷ es) h d p is = absurd p
finalized_more (k ∷ ks) [] h d p is = absurd p
finalized_more (k ∷ ks) (e ∷ es) h d p is = (p.0, finalized_more ks es h d p.1 is)

-- the digests of hashers that have seen these bytes
pub finalized_are : (ks : List ArtifactHasher) (algorithms : List HashAlgorithm) (ds : List (HashAlgorithm × List ℕ)) (bytes : List ℕ) → AreOf ks algorithms bytes → Finalized ks ds
    → ds ≡ digests_by algorithms bytes
finalized_are [] [] [] bytes p f = refl
finalized_are [] [] (d ∷ ds) bytes p f = absurd f
finalized_are [] (a ∷ algorithms) ds bytes p f = absurd p
finalized_are (k ∷ ks) [] ds bytes p f = absurd p
finalized_are (k ∷ ks) (a ∷ algorithms) [] bytes p f = absurd f
finalized_are (k ∷ ks) (a ∷ algorithms) (d ∷ ds) bytes p f =
    let first : d ≡ (a, digest_by a bytes) = f.0 bytes p.0.1 ∙ ap (λ b. (b, digest_by b bytes)) p.0.0 in
    ap (λ x. x ∷ ds) first ∙ ap (λ l. (a, digest_by a bytes) ∷ l) (finalized_are ks algorithms ds bytes p.1 f.1)

digests_appended : (algorithms : List HashAlgorithm) (a : HashAlgorithm) (bytes : List ℕ) → digests_by (algorithms ++ a ∷ []) bytes ≡ digests_by algorithms bytes ++ (a, digest_by a bytes) ∷ []
digests_appended [] a bytes = refl
digests_appended (b ∷ bs) a bytes = ap (λ l. (b, digest_by b bytes) ∷ l) (digests_appended bs a bytes)

-- one digest more of the same bytes
pub digests_next : (algorithms : List HashAlgorithm) (i : ℕ) (d : HashAlgorithm) (bytes : List ℕ) (old : List (HashAlgorithm × List ℕ)) (one : HashAlgorithm × List ℕ) → i < length algorithms
    → old ≡ digests_by (take i algorithms) bytes → one ≡ (get_or algorithms i d, digest_by (get_or algorithms i d) bytes) → old ++ one ∷ [] ≡ digests_by (take (i + 1) algorithms) bytes
digests_next algorithms i d bytes old one lt p is =
    ap (λ l. l ++ one ∷ []) p ∙ ap (λ x. digests_by (take i algorithms) bytes ++ x ∷ []) is ∙ sym (digests_appended (take i algorithms) (get_or algorithms i d) bytes)
    ∙ sym (ap (λ l. digests_by l bytes) (take_more algorithms i d lt))
