-- A value's text, before what stands behind it.
use Rattle.std.proofs.Common.{◌≡◌, ℕ, Bool, true, false, List, [], ◌∷◌, ◌++◌, refl, sym, ap, ◌∙◌, append_assoc, append-nil}
use Rattle.json.specs.Print.{escape, quoted}
use Rattle.serde_json.specs.Data.{Data, null, boolean, number, string, array, object, Items, no_items, item, Members, no_members, member}
use Rattle.serde_json.specs.Written.{comma_if, compact_text, items_text, members_text}

abbrev comma_before : Bool → List ℕ → List ℕ
comma_before true rest = 44 ∷ rest
comma_before false rest = rest

abbrev mutual
  pub text_before : Data → List ℕ → List ℕ
  text_before null rest = compact_text null ++ rest
  text_before (boolean b) rest = compact_text (boolean b) ++ rest
  text_before (number n) rest = compact_text (number n) ++ rest
  text_before (string s) rest = 34 ∷ (escape s ++ (34 ∷ rest))
  text_before (array ds) rest = 91 ∷ items_before false ds rest
  text_before (object ms) rest = 123 ∷ members_before false ms rest

  pub items_before : Bool → Items → List ℕ → List ℕ
  items_before later no_items rest = 93 ∷ rest
  items_before later (item d ds) rest = comma_before later (text_before d (items_before true ds rest))

  pub members_before : Bool → Members → List ℕ → List ℕ
  members_before later no_members rest = 125 ∷ rest
  members_before later (member k d ms) rest =
      comma_before later (34 ∷ (escape k ++ (34 ∷ 58 ∷ text_before d (members_before true ms rest))))

comma_is : (later : Bool) (rest : List ℕ) → comma_before later rest ≡ comma_if later ++ rest
comma_is true rest = refl
comma_is false rest = refl

key_apart : (e z rest : List ℕ) → ((e ++ 34 ∷ []) ++ 58 ∷ z) ++ rest ≡ e ++ (34 ∷ 58 ∷ (z ++ rest))
key_apart e z rest = append_assoc (e ++ 34 ∷ []) (58 ∷ z) rest ∙ append_assoc e (34 ∷ []) (58 ∷ (z ++ rest))

mutual
  text_is : (d : Data) (rest : List ℕ) → text_before d rest ≡ compact_text d ++ rest
  text_is null rest = refl
  text_is (boolean b) rest = refl
  text_is (number n) rest = refl
  text_is (string s) rest = ap (λ t. 34 ∷ t) (sym (append_assoc (escape s) (34 ∷ []) rest))
  text_is (array ds) rest = ap (λ t. 91 ∷ t) (items_are false ds rest)
  text_is (object ms) rest = ap (λ t. 123 ∷ t) (members_are false ms rest)

  items_are : (later : Bool) (ds : Items) (rest : List ℕ) → items_before later ds rest ≡ items_text later ds ++ rest
  items_are later no_items rest = refl
  items_are later (item d ds) rest =
      comma_is later (text_before d (items_before true ds rest))
      ∙ ap (λ t. comma_if later ++ t)
      (text_is d (items_before true ds rest) ∙ ap (λ t. compact_text d ++ t) (items_are true ds rest)
      ∙ sym (append_assoc (compact_text d) (items_text true ds) rest))
      ∙ sym (append_assoc (comma_if later) (compact_text d ++ items_text true ds) rest)

  members_are : (later : Bool) (ms : Members) (rest : List ℕ) → members_before later ms rest ≡ members_text later ms ++ rest
  members_are later no_members rest = refl
  members_are later (member k d ms) rest =
      let behind =
      text_is d (members_before true ms rest) ∙ ap (λ t. compact_text d ++ t) (members_are true ms rest)
      ∙ sym (append_assoc (compact_text d) (members_text true ms) rest) in
      comma_is later _
      ∙ ap (λ t. comma_if later ++ (34 ∷ t))
      (ap (λ t. escape k ++ (34 ∷ 58 ∷ t)) behind ∙ sym (key_apart (escape k) (compact_text d ++ members_text true ms) rest))
      ∙ sym (append_assoc (comma_if later) (quoted k ++ 58 ∷ (compact_text d ++ members_text true ms)) rest)

pub whole_text : (d : Data) → text_before d [] ≡ compact_text d
whole_text d = text_is d [] ∙ append-nil (compact_text d)

-- a string before what stands behind it
pub quoted_before : (s rest : List ℕ) → quoted s ++ rest ≡ 34 ∷ (escape s ++ (34 ∷ rest))
quoted_before s rest = ap (λ t. 34 ∷ t) (append_assoc (escape s) (34 ∷ []) rest)
