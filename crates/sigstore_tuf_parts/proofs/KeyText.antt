-- The canonical text of a key's object, as it is written piece by piece.
use Rattle.std.proofs.Common.{◌≡◌, ℕ, List, [], ◌∷◌, ◌++◌, append_assoc, Bool, false, true}
use Rattle.std.specs.Prelude.{codes}
use Rattle.sigstore_tuf_parts.specs.declared.keys.Key.{Key}
use Rattle.sigstore_tuf_text.specs.Canon.{canon, quoted, comma_if}
use Rattle.sigstore_tuf_parts.specs.DeclaredKeys.{key_object_of}

abbrev text_member : Bool → List ℕ → List ℕ → List ℕ
text_member later name text = comma_if later ++ (quoted name ++ 58 ∷ quoted text)

joined : (o n a m k b q l c : List ℕ) → ((((((([] ++ o) ++ (n ++ a)) ++ m) ++ (k ++ b)) ++ q) ++ (l ++ c)) ++ q)
    ≡ o ++ (n ++ (a ++ ((m ++ k) ++ ((b ++ q) ++ (l ++ (c ++ q))))))
joined o n a m k b q l c = simp append_assoc

pub spelled : (key : Key) (k p s none open_ type_ between public inner scheme all : List ℕ) → k ≡ key.keytype → p ≡ key.keyval.public → s ≡ key.scheme → none ≡ [] → open_ ≡ none ++ 123 ∷ []
    → type_ ≡ open_ ++ text_member false (codes "keytype") k
    → between ≡ type_ ++ 44 ∷ 34 ∷ 107 ∷ 101 ∷ 121 ∷ 118 ∷ 97 ∷ 108 ∷ 34 ∷ 58 ∷ 123 ∷ []
    → public ≡ between ++ text_member false (codes "public") p → inner ≡ public ++ 125 ∷ []
    → scheme ≡ inner ++ text_member true (codes "scheme") s → all ≡ scheme ++ 125 ∷ [] → all ≡ canon (key_object_of key)
spelled key k p s none open_ type_ between public inner scheme all x y z a b c d e f g h =
    rw (h, g, f, e, d, c, b, a, x, y, z)
    (joined (123 ∷ []) (quoted (codes "keytype") ++ 58 ∷ []) (quoted key.keytype) (44 ∷ 34 ∷ 107 ∷ 101 ∷ 121 ∷ 118 ∷ 97 ∷ 108 ∷ 34 ∷ 58 ∷ 123 ∷ [])
    (quoted (codes "public") ++ 58 ∷ []) (quoted key.keyval.public) (125 ∷ []) (44 ∷ (quoted (codes "scheme") ++ 58 ∷ [])) (quoted key.scheme))
