-- The lines of a folder: those of its names in order are they, and there are no others.
use Rattle.std.proofs.Common.{◌≡◌, ◌⊎◌, inl, inr, ℕ, zero, suc, ◌<◌, List, [], ◌∷◌, Bool, true, false, length, get_or, Option, Some, None, Less, refl, sym, ap, subst, ◌∙◌, arith}
use Rattle.std.specs.Prelude.{Contains, filter_map}
use Rattle.std.specs.List.{AllByRecursion, cons_option}
use Rattle.std.specs.List.Sorted.{IsStrictlySortedBy}
use Rattle.std.proofs.lemmas.Cmp.{nat_list_cmp_total}
use Rattle.foundation.specs.Results.{some_same}
use Rattle.sigstore_types_parts.specs.Entries.{text_cmp}
use Rattle.sigstore_tuf_outside.specs.Repository.{Files}
use Rattle.release_gate.specs.declared.line.GateLine.{GateLine}
use Rattle.release_gate.specs.declared.line.Verdict.{Verdict}
use Rattle.release_gate.specs.Names.{is_bundle}
use Rattle.release_gate.specs.Lines.{Judging, names_in, IsLine, AreLines, line_of, LinesAreOne}
use Rattle.release_gate.proofs.Order.{never_below_itself}

abbrev Names : Type 0
Names = List (List ℕ)

-- ---- a name among others

abbrev pub Among : {X : Type 0} → X → List X → Type 0
Among x [] = ⊥
Among x (y ∷ ys) = (y ≡ x) ⊎ Among x ys

among_at : {X : Type 0} (x : X) (xs : List X) (k : ℕ) → k < length xs → get_or xs k x ≡ x → Among x xs
among_at x [] k lt e = absurd (omega arith)
among_at x (y ∷ ys) zero lt e = inl e
among_at x (y ∷ ys) (suc k) lt e = inr (among_at x ys k (omega arith) e)

pub among_of : {X : Type 0} (x : X) (xs : List X) → Contains xs x → Among x xs
among_of x xs c = among_at x xs c.0 c.1 c.2

behind : {X : Type 0} (x y : X) (xs : List X) → Contains xs x → Contains (y ∷ xs) x
behind x y xs c = (suc c.0, (let lt = c.1 in omega arith), c.2)

pub contains_of : {X : Type 0} (x : X) (xs : List X) → Among x xs → Contains xs x
contains_of x [] a = absurd a
contains_of x (y ∷ ys) (inl e) = (zero, omega arith, e)
contains_of x (y ∷ ys) (inr a) = behind x y ys (contains_of x ys a)

pub all_among : {X : Type 0} (P : X → Type 0) (x : X) (xs : List X) → AllByRecursion P xs → Among x xs → P x
all_among P x [] all a = absurd a
all_among P x (y ∷ ys) all (inl e) = subst P e all.0
all_among P x (y ∷ ys) all (inr a) = all_among P x ys all.1 a

-- ---- the lines of names in order

module _ (judging : Judging) (files : Files) where
  abbrev pub lines_in : Names → List GateLine
  lines_in names = filter_map (line_of judging files) names

  -- the line on a name is of it
  line_named : (name : List ℕ) (line : GateLine) → line_of judging files name ≡ Some line → (IsLine judging files line) × (line.name ≡ name)
  line_named name line e = by_test (is_bundle name) refl (files name) refl e
    where
      by_test : (b : Bool) → is_bundle name ≡ b → (file : Option (List ℕ)) → files name ≡ file → line_of judging files name ≡ Some line → (IsLine judging files line) × (line.name ≡ name)
      by_test true t file f e = let none : None ≡ Some line = rw t at e in cc
      by_test false t None f e = let none : None ≡ Some line = rw (t, f) at e in cc
      by_test false t (Some bytes) f e =
          let same : record { name = name; verdict = judging name bytes } ≡ line = some_same _ line (rw (t, f) at e) in
          subst (λ (l : GateLine). (IsLine judging files l) × (l.name ≡ name)) same
          (record { artifact = t; bytes = bytes; held = f; judged = refl }, refl)

  -- an artifact has a line
  pub line_there : (name bytes : List ℕ) → is_bundle name ≡ false → files name ≡ Some bytes → line_of judging files name ≡ Some (record { name = name; verdict = judging name bytes })
  line_there name bytes t f = rw (t, f) refl

  above_kept : (first : List ℕ) (names : Names) → AllByRecursion (λ y. text_cmp first y ≡ Less) names → AllByRecursion (λ y. text_cmp first y ≡ Less) (names_in (lines_in names))
  above_kept first [] all = tt
  above_kept first (n ∷ ns) all = by_line (line_of judging files n) refl (above_kept first ns all.1)
    where
      by_line : (o : Option GateLine) → line_of judging files n ≡ o → AllByRecursion (λ y. text_cmp first y ≡ Less) (names_in (lines_in ns))
          → AllByRecursion (λ y. text_cmp first y ≡ Less) (names_in (cons_option o (lines_in ns)))
      by_line None e rest = rest
      by_line (Some line) e rest = (ap (text_cmp first) (line_named n line e).1 ∙ all.0, rest)

  ascend_in : (names : Names) → IsStrictlySortedBy text_cmp names → IsStrictlySortedBy text_cmp (names_in (lines_in names))
  unfolding IsStrictlySortedBy
  ascend_in [] up = tt
  ascend_in (n ∷ ns) up = by_line (line_of judging files n) refl (ascend_in ns up.1)
    where
      by_line : (o : Option GateLine) → line_of judging files n ≡ o → IsStrictlySortedBy text_cmp (names_in (lines_in ns))
          → IsStrictlySortedBy text_cmp (names_in (cons_option o (lines_in ns)))
      by_line None e rest = rest
      by_line (Some line) e rest =
          (subst (λ m. AllByRecursion (λ y. text_cmp m y ≡ Less) (names_in (lines_in ns))) (sym (line_named n line e).1) (above_kept n ns up.0), rest)

  each_in : (names : Names) → AllByRecursion (IsLine judging files) (lines_in names)
  each_in [] = tt
  each_in (n ∷ ns) = by_line (line_of judging files n) refl (each_in ns)
    where
      by_line : (o : Option GateLine) → line_of judging files n ≡ o → AllByRecursion (IsLine judging files) (lines_in ns)
          → AllByRecursion (IsLine judging files) (cons_option o (lines_in ns))
      by_line None e rest = rest
      by_line (Some line) e rest = ((line_named n line e).0, rest)

  there_in : (name : List ℕ) (line : GateLine) → line_of judging files name ≡ Some line → (names : Names) → Among name names → Among name (names_in (lines_in names))
  there_in name line is [] a = absurd a
  there_in name line is (n ∷ ns) (inl e) = by_line (line_of judging files n) (ap (line_of judging files) e ∙ is)
    where
      by_line : (o : Option GateLine) → o ≡ Some line → Among name (names_in (cons_option o (lines_in ns)))
      by_line None h = cc
      by_line (Some other) h = inl (ap (λ (l : GateLine). l.name) (some_same other line h) ∙ (line_named name line is).1)
  there_in name line is (n ∷ ns) (inr a) = by_line (line_of judging files n) (there_in name line is ns a)
    where
      by_line : (o : Option GateLine) → Among name (names_in (lines_in ns)) → Among name (names_in (cons_option o (lines_in ns)))
      by_line None rest = rest
      by_line (Some other) rest = inr rest

  pub are_lines : (names : Names) → IsStrictlySortedBy text_cmp names → ((name bytes : List ℕ) → files name ≡ Some bytes → Contains names name)
      → AreLines judging files (lines_in names)
  are_lines names up covers = record {
    ascend = ascend_in names up;
    each = each_in names;
    whole = λ name bytes f t.
        let there = line_there name bytes t f in
        contains_of name (names_in (lines_in names)) (there_in name _ there names (among_of name names (covers name bytes f)));
  }

  -- ---- no others

  -- two lines on one name are one
  same_line : (a b : GateLine) → a.name ≡ b.name → IsLine judging files a → IsLine judging files b → a ≡ b
  same_line a b e p q =
      let bytes : p.bytes ≡ q.bytes = some_same p.bytes q.bytes (sym p.held ∙ ap files e ∙ q.held) in
      let verdict : a.verdict ≡ b.verdict = p.judged ∙ ap (λ n. judging n p.bytes) e ∙ ap (judging b.name) bytes ∙ sym q.judged in
      let with_name : List ℕ → GateLine = λ n. record { name = n; verdict = a.verdict } in
      let with_verdict : Verdict → GateLine = λ v. record { name = b.name; verdict = v } in
      ap with_name e ∙ ap with_verdict verdict

  -- a name has a line in the one list where it has in the other
  abbrev Covers : List GateLine → List GateLine → Type 0
  Covers lines others = (name : List ℕ) → Among name (names_in lines) → Among name (names_in others)

  abbrev Rising : List GateLine → Type 0
  Rising lines = IsStrictlySortedBy text_cmp (names_in lines)

  -- neither first name is above the other
  first_same : (a b : GateLine) (ls ms : List GateLine) → Rising (a ∷ ls) → Rising (b ∷ ms) → Covers (a ∷ ls) (b ∷ ms) → Covers (b ∷ ms) (a ∷ ls) → a.name ≡ b.name
  unfolding IsStrictlySortedBy
  first_same a b ls ms up vp c d = by_one (c a.name (inl refl)) (d b.name (inl refl))
    where
      by_one : Among a.name (names_in (b ∷ ms)) → Among b.name (names_in (a ∷ ls)) → a.name ≡ b.name
      by_one (inl e) other = sym e
      by_one (inr later) (inl e) = e
      by_one (inr later) (inr after) =
          let over : text_cmp b.name a.name ≡ Less = all_among (λ y. text_cmp b.name y ≡ Less) a.name (names_in ms) vp.0 later in
          let under : text_cmp a.name b.name ≡ Less = all_among (λ y. text_cmp a.name y ≡ Less) b.name (names_in ls) up.0 after in
          absurd (never_below_itself a.name (nat_list_cmp_total.trans a.name b.name a.name under over))

  rest_covers : (a b : GateLine) (ls ms : List GateLine) → Rising (a ∷ ls) → a.name ≡ b.name → Covers (a ∷ ls) (b ∷ ms) → Covers ls ms
  unfolding IsStrictlySortedBy
  rest_covers a b ls ms up e c name there = by_place (c name (inr there))
    where
      by_place : Among name (names_in (b ∷ ms)) → Among name (names_in ms)
      by_place (inl same) =
          let over : text_cmp a.name name ≡ Less = all_among (λ y. text_cmp a.name y ≡ Less) name (names_in ls) up.0 there in
          absurd (never_below_itself name (subst (λ t. text_cmp t name ≡ Less) (e ∙ same) over))
      by_place (inr later) = later

  one_list : (lines others : List GateLine) → Rising lines → Rising others → AllByRecursion (IsLine judging files) lines → AllByRecursion (IsLine judging files) others
      → Covers lines others → Covers others lines → lines ≡ others
  unfolding IsStrictlySortedBy
  one_list [] [] up vp p q c d = refl
  one_list [] (b ∷ ms) up vp p q c d = absurd (d b.name (inl refl))
  one_list (a ∷ ls) [] up vp p q c d = absurd (c a.name (inl refl))
  one_list (a ∷ ls) (b ∷ ms) up vp p q c d =
      let e = first_same a b ls ms up vp c d in
      let first = same_line a b e p.0 q.0 in
      let rest = one_list ls ms up.1 vp.1 p.1 q.1 (rest_covers a b ls ms up e c) (rest_covers b a ms ls vp (sym e) d) in
      cc

  -- a line's name is an artifact's
  covers_of : (lines others : List GateLine) → AllByRecursion (IsLine judging files) lines → AreLines judging files others → Covers lines others
  covers_of [] others p q name there = absurd there
  covers_of (a ∷ ls) others p q name (inl e) = among_of name (names_in others) (subst (λ n. Contains (names_in others) n) e (q.whole a.name (p.0).bytes (p.0).held (p.0).artifact))
  covers_of (a ∷ ls) others p q name (inr there) = covers_of ls others p.1 q name there

pub lines_are_one : LinesAreOne
lines_are_one judging files lines others p q =
    one_list judging files lines others p.ascend q.ascend p.each q.each (covers_of judging files lines others p.each q) (covers_of judging files others lines q.each p)
