-- The file of a delegated role is under another name than every document that isn't one.
use Rattle.std.proofs.Common.{◌≡◌, ℕ, ◌+◌, ◌/◌, ◌%◌, ◌==◌, ◌||◌, nat_lt, if◌then◌else◌, List, [], ◌∷◌, ◌++◌, Bool, true, false, bytes_eq, codes, refl, sym, ap, ◌∙◌, arith}
use Rattle.std.specs.List.{list_any, AllByRecursion}
use Rattle.std.proofs.lemmas.Bool.Decides.{nat_tests}
use Rattle.std.proofs.lemmas.List.{append_cancel_right}
use Rattle.std.proofs.lemmas.Slice.Eq.{bytes_eq-Decides}
use Rattle.std.specs.Fmt.{digit_glyph}
use Rattle.percent_encoding.specs.Percent.{percent_encode_byte}
use Rattle.sigstore_tuf_text.specs.Names.{timestamp_name, snapshot_name, targets_name}
use Rattle.sigstore_tuf_rules.specs.Names.{is_unreserved, escaped, role_file, history_name, root_file, kept_target}
use Rattle.sigstore_tuf_rules.specs.Order.{is_top_level}

-- ---- a text that stands as it is

head_same : (a b : ℕ) (xs ys : List ℕ) → a ∷ xs ≡ b ∷ ys → (a ≡ b) × (xs ≡ ys)
head_same a b xs ys h = (cc, cc)

-- an escaped text without an escape is the text
pub escaped_plain : (cs ds : List ℕ) → AllByRecursion (λ d. is_unreserved d ≡ true) ds → escaped cs ≡ ds → cs ≡ ds
unfolding percent_encode_byte
escaped_plain [] ds h e = e
escaped_plain (c ∷ cs) ds h e = by_test (is_unreserved c) refl ds h e (λ es p q. escaped_plain cs es p q)
  where
    Later : Type 0
    Later = (es : List ℕ) → AllByRecursion (λ d. is_unreserved d ≡ true) es → escaped cs ≡ es → cs ≡ es

    as_it_is : (ds : List ℕ) → AllByRecursion (λ d. is_unreserved d ≡ true) ds → c ∷ escaped cs ≡ ds → Later → c ∷ cs ≡ ds
    as_it_is [] h e rec = cc
    as_it_is (d ∷ ds) h e rec = let s = head_same c d (escaped cs) ds e in let t = rec ds h.1 s.1 in ap (λ x. x ∷ cs) s.0 ∙ ap (λ xs. d ∷ xs) t

    as_percent : (ds : List ℕ) → AllByRecursion (λ d. is_unreserved d ≡ true) ds → percent_encode_byte c ++ escaped cs ≡ ds → c ∷ cs ≡ ds
    as_percent [] h e = cc
    as_percent (d ∷ ds) h e =
        let s = head_same 37 d _ ds e in
        let never : false ≡ true = ap is_unreserved s.0 ∙ h.0 in cc

    by_test : (b : Bool) → is_unreserved c ≡ b → (ds : List ℕ) → AllByRecursion (λ d. is_unreserved d ≡ true) ds → (if b then c ∷ escaped cs else percent_encode_byte c ++ escaped cs) ≡ ds → Later → c ∷ cs ≡ ds
    by_test true t ds h e rec = as_it_is ds h e rec
    by_test false t ds h e rec = as_percent ds h e

-- so a role whose file is that of a top-level document is that one
top_of : {C : Type 0} (name plain : List ℕ) → AllByRecursion (λ d. is_unreserved d ≡ true) plain → is_top_level plain ≡ true → is_top_level name ≡ false → role_file name ≡ plain ++ codes ".json" → C
top_of name plain h top low e =
    let same = escaped_plain name plain h (append_cancel_right (escaped name) plain (codes ".json") e) in
    let never : true ≡ false = sym top ∙ ap is_top_level (sym same) ∙ low in cc

-- ---- no slash

digit_no_slash : (d : ℕ) → (digit_glyph true d == 47) ≡ false
digit_no_slash d = by_test (nat_lt d 10) refl
  where
    by_test : (b : Bool) → nat_lt d 10 ≡ b → ((if b then 48 + d else 55 + d) == 47) ≡ false
    by_test true t = grind (arith, nat_tests)
    by_test false t = grind (arith, nat_tests)

kept_no_slash : (c : ℕ) → is_unreserved c ≡ true → (c == 47) ≡ false
kept_no_slash c h = by_test (c == 47) refl
  where
    by_test : (b : Bool) → (c == 47) ≡ b → b ≡ false
    by_test true e = let same : c ≡ 47 = grind (arith, nat_tests) in let never : true ≡ false = sym h ∙ ap is_unreserved same in cc
    by_test false e = refl

pub role_no_slash : (cs : List ℕ) → list_any (λ x. x == 47) (escaped cs ++ codes ".json") ≡ false
unfolding percent_encode_byte
role_no_slash [] = refl
role_no_slash (c ∷ cs) = by_test (is_unreserved c) refl (role_no_slash cs)
  where
    percent : list_any (λ x. x == 47) (escaped cs ++ codes ".json") ≡ false → list_any (λ x. x == 47) ((percent_encode_byte c ++ escaped cs) ++ codes ".json") ≡ false
    percent rest = rw (digit_no_slash (c / 16 % 16), digit_no_slash (c % 16)) rest

    by_test : (b : Bool) → is_unreserved c ≡ b → list_any (λ x. x == 47) (escaped cs ++ codes ".json") ≡ false → list_any (λ x. x == 47) ((if b then c ∷ escaped cs else percent_encode_byte c ++ escaped cs) ++ codes ".json") ≡ false
    by_test true t rest = rw (kept_no_slash c t) rest
    by_test false t rest = percent rest

-- ---- apart

module _ (name : List ℕ) (low : is_top_level name ≡ false) where
  pub not_timestamp : role_file name ≡ timestamp_name → ⊥
  not_timestamp e = top_of name (codes "timestamp") (refl, (refl, (refl, (refl, (refl, (refl, (refl, (refl, (refl, tt))))))))) refl low e

  pub not_snapshot : role_file name ≡ snapshot_name → ⊥
  not_snapshot e = top_of name (codes "snapshot") (refl, (refl, (refl, (refl, (refl, (refl, (refl, (refl, tt)))))))) refl low e

  pub not_targets : role_file name ≡ targets_name → ⊥
  not_targets e = top_of name (codes "targets") (refl, (refl, (refl, (refl, (refl, (refl, (refl, tt))))))) refl low e

  pub not_root : role_file name ≡ root_file → ⊥
  not_root e = top_of name (codes "root") (refl, (refl, (refl, (refl, tt)))) refl low e

-- one with a slash is no role's
slashed : (name q : List ℕ) → list_any (λ x. x == 47) q ≡ true → role_file name ≡ q → ⊥
slashed name q s e = let never : true ≡ false = sym s ∙ ap (list_any (λ x. x == 47)) (sym e) ∙ role_no_slash name in cc

pub not_history : (name : List ℕ) (number : ℕ) → role_file name ≡ history_name number → ⊥
not_history name number e = slashed name (history_name number) refl e

pub not_target : (name path : List ℕ) → role_file name ≡ kept_target path → ⊥
not_target name path e = slashed name (kept_target path) refl e

-- ---- as tests

unlike : (q name : List ℕ) → (role_file name ≡ q → ⊥) → bytes_eq q (role_file name) ≡ false
unlike q name never = by_test (bytes_eq q (role_file name)) refl
  where
    by_test : (b : Bool) → bytes_eq q (role_file name) ≡ b → b ≡ false
    by_test true e = absurd (never (sym ((bytes_eq-Decides q (role_file name)).0 e)))
    by_test false e = refl

any_inside : (folder rest : List ℕ) → list_any (λ x. x == 47) (folder ++ 47 ∷ rest) ≡ true
any_inside [] rest = refl
any_inside (x ∷ xs) rest = by_first (x == 47) (any_inside xs rest)
  where
    by_first : (b : Bool) → list_any (λ x. x == 47) (xs ++ 47 ∷ rest) ≡ true → (b || list_any (λ x. x == 47) (xs ++ 47 ∷ rest)) ≡ true
    by_first true h = refl
    by_first false h = h

-- a name in a folder is another one
pub in_folder : (folder rest name : List ℕ) → bytes_eq (folder ++ 47 ∷ rest) (role_file name) ≡ false
in_folder folder rest name = unlike (folder ++ 47 ∷ rest) name (λ e. slashed name (folder ++ 47 ∷ rest) (any_inside folder rest) e)

pub unlike_timestamp : (name : List ℕ) → is_top_level name ≡ false → bytes_eq timestamp_name (role_file name) ≡ false
unlike_timestamp name low = unlike timestamp_name name (not_timestamp name low)

pub unlike_snapshot : (name : List ℕ) → is_top_level name ≡ false → bytes_eq snapshot_name (role_file name) ≡ false
unlike_snapshot name low = unlike snapshot_name name (not_snapshot name low)

pub unlike_targets : (name : List ℕ) → is_top_level name ≡ false → bytes_eq targets_name (role_file name) ≡ false
unlike_targets name low = unlike targets_name name (not_targets name low)
