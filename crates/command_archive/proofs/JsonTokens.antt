-- Each text in the tokens of JSON, a key or a string, is no longer than what they were read from.
use Rattle.std.proofs.Common.{ℕ, ◌+◌, ◌≤◌, ◌-◌, take, drop, nat_eq, Bool, true, false, cond, ◌&&◌, ◌==◌, nat_lt, List, [], ◌∷◌, length, Option, Some, None, option_and_then, arith, le_refl}
use Rattle.std.proofs.lemmas.List.{length-append}
use Rattle.std.specs.Prelude.{⊤}
use Rattle.std.specs.List.{AllByRecursion}
use Rattle.std.specs.Char.{encode_utf8}
use Rattle.json.specs.Text.{code_unit, short_escape, is_high_surrogate, is_low_surrogate, surrogate_pair, Within, plain, after_backslash, after_u, after_high, prepend, content}
use Rattle.json.specs.Token.{Token}
use Rattle.std.specs.List.{starts_with}
use Rattle.json.specs.Ascii.{true_text, false_text, null_text}
use Rattle.json.specs.Word.{head, ends_word, literal, number_before, after_number, word}
use Rattle.json.specs.Lex.{Lexeme, token, comma, colon, Class, quote, backslash, operator, space, other, class, operator_lexeme, string_token, Mode, between, in_word, in_string, in_escape, lex_byte, lex, Place, fresh, after_value, after_comma, after_key, begins_colon, may_begin, may_close, if_allowed, place_token, punctuate, tokens}

-- ---- what stands between quotes

abbrev AtMost : ℕ → Option (List ℕ) → Type 0
AtMost n None = ⊤
AtMost n (Some s) = length s ≤ n

module _ (n : ℕ) where
  either : (b : Bool) (x y : Option (List ℕ)) → AtMost n x → AtMost n y → AtMost n (cond b x y)
  either true x y p q = p
  either false x y p q = q

  then : (f : ℕ → Option (List ℕ)) (o : Option ℕ) → ((u : ℕ) → AtMost n (f u)) → AtMost n (option_and_then f o)
  then f None h = tt
  then f (Some u) h = h u

  raised : (m : ℕ) (r : Option (List ℕ)) → AtMost m r → m ≤ n → AtMost n r
  raised m None h le = tt
  raised m (Some s) h le = omega arith

  lengthened : (m : ℕ) (a : List ℕ) (r : Option (List ℕ)) → AtMost m r → length a + m ≤ n → AtMost n (prepend a r)
  lengthened m a None h le = tt
  lengthened m a (Some s) h le = omega (arith, length-append a s)

length-character : (u : ℕ) → length (encode_utf8 u) ≤ 4
unfolding encode_utf8
length-character u = grind arith

content_length : (w : Within) (xs : List ℕ) → AtMost (length xs) (content w xs)
unfolding content
content_length plain [] = tt
content_length plain (x ∷ xs) =
    let n = length (x ∷ xs) in
    either n (x == 34) _ _ (omega arith) (either n (x == 92) _ _ (raised n _ _ (content_length after_backslash xs) (omega arith))
    (either n (nat_lt x 32) _ _ tt (lengthened n _ (x ∷ []) _ (content_length plain xs) (omega arith))))
content_length after_backslash [] = tt
content_length after_backslash (x ∷ xs) =
    let n = length (x ∷ xs) in
    either n (x == 117) _ _ (raised n _ _ (content_length after_u xs) (omega arith))
    (then n _ (short_escape x) (λ c. lengthened n _ (c ∷ []) _ (content_length plain xs) (omega arith)))
content_length after_u [] = tt
content_length after_u (a ∷ []) = tt
content_length after_u (a ∷ b ∷ []) = tt
content_length after_u (a ∷ b ∷ c ∷ []) = tt
content_length after_u (a ∷ b ∷ c ∷ d ∷ xs) =
    let n = length (a ∷ b ∷ c ∷ d ∷ xs) in
    then n _ (code_unit a b c d) (λ u. either n (is_high_surrogate u) _ _ (raised n _ _ (content_length (after_high u) xs) (omega arith))
    (either n (is_low_surrogate u) _ _ tt (lengthened n _ (encode_utf8 u) _ (content_length plain xs) (omega (arith, length-character u)))))
content_length (after_high h) [] = tt
content_length (after_high h) (s ∷ []) = tt
content_length (after_high h) (s ∷ u ∷ []) = tt
content_length (after_high h) (s ∷ u ∷ a ∷ []) = tt
content_length (after_high h) (s ∷ u ∷ a ∷ b ∷ []) = tt
content_length (after_high h) (s ∷ u ∷ a ∷ b ∷ c ∷ []) = tt
content_length (after_high h) (s ∷ u ∷ a ∷ b ∷ c ∷ d ∷ xs) =
    let n = length (s ∷ u ∷ a ∷ b ∷ c ∷ d ∷ xs) in
    either n ((s == 92) && (u == 117)) _ _ (then n _ (code_unit a b c d) (λ l. either n (is_low_surrogate l) _ _
    (lengthened n _ (encode_utf8 (surrogate_pair h l)) _ (content_length plain xs) (omega (arith, length-character (surrogate_pair h l)))) tt)) tt

-- ---- tokens

-- a key or a string is at most so long
abbrev pub IsShort : ℕ → Token → Type 0
IsShort n Token.begin_object = ⊤
IsShort n Token.end_object = ⊤
IsShort n Token.begin_array = ⊤
IsShort n Token.end_array = ⊤
IsShort n (Token.key s) = length s ≤ n
IsShort n (Token.string s) = length s ≤ n
IsShort n (Token.number s) = ⊤
IsShort n (Token.boolean b) = ⊤
IsShort n Token.null = ⊤
IsShort n Token.bad = ⊤

abbrev AllShort : ℕ → List Token → Type 0
AllShort n ts = AllByRecursion (IsShort n) ts

abbrev IsShortLexeme : ℕ → Lexeme → Type 0
IsShortLexeme n (token t) = IsShort n t
IsShortLexeme n comma = ⊤
IsShortLexeme n colon = ⊤

module _ (n : ℕ) where
  either_token : (b : Bool) (t u : Token) → IsShort n t → IsShort n u → IsShort n (cond b t u)
  either_token true t u p q = p
  either_token false t u p q = q

  literal_short : (name : List ℕ) (t : Token) (xs : List ℕ) → IsShort n t → IsShort n (literal name t xs)
  literal_short name t xs p = either_token (starts_with nat_eq xs name && ends_word (drop (length name) xs)) t Token.bad p tt

  number_short : (xs : List ℕ) (o : Option (List ℕ)) → IsShort n (number_before xs o)
  number_short xs None = tt
  number_short xs (Some rest) = either_token (ends_word rest) (Token.number (take (length xs - length rest) xs)) Token.bad tt tt

  word_cases : (a b c : Bool) (t u v w : Token) → IsShort n t → IsShort n u → IsShort n v → IsShort n w → IsShort n (cond a t (cond b u (cond c v w)))
  word_cases true b c t u v w p q r s = p
  word_cases false true c t u v w p q r s = q
  word_cases false false true t u v w p q r s = r
  word_cases false false false t u v w p q r s = s

  word_short : (xs : List ℕ) → IsShort n (word xs)
  unfolding word
  word_short xs =
      let t = literal true_text (Token.boolean true) xs in
      let f = literal false_text (Token.boolean false) xs in
      let e = literal null_text Token.null xs in
      word_cases (head xs == 116) (head xs == 102) (head xs == 110) t f e (number_before xs (after_number xs)) (literal_short true_text (Token.boolean true) xs tt)
      (literal_short false_text (Token.boolean false) xs tt) (literal_short null_text Token.null xs tt) (number_short xs (after_number xs))

  operator_cases : (a b c d e : Bool)
      → IsShortLexeme n (cond a (token Token.begin_object) (cond b (token Token.end_object) (cond c (token Token.begin_array) (cond d (token Token.end_array) (cond e comma colon)))))
  operator_cases true b c d e = tt
  operator_cases false true c d e = tt
  operator_cases false false true d e = tt
  operator_cases false false false true e = tt
  operator_cases false false false false true = tt
  operator_cases false false false false false = tt

  operator_short : (x : ℕ) → IsShortLexeme n (operator_lexeme x)
  operator_short x = operator_cases (x == 123) (x == 125) (x == 91) (x == 93) (x == 44)

  string_short : (o : Option (List ℕ)) → AtMost n o → IsShort n (string_token o)
  string_short None h = tt
  string_short (Some s) h = h

  byte_short : (m : Mode) (c : Class) (x : ℕ) (xs : List ℕ) (k : Mode → List Lexeme) → length xs ≤ n
      → ((next : Mode) → AllByRecursion (IsShortLexeme n) (k next)) → AllByRecursion (IsShortLexeme n) (lex_byte m c x xs k)
  byte_short between quote x xs k le h = (string_short (content plain xs) (raised n (length xs) (content plain xs) (content_length plain xs) le), h in_string)
  byte_short between backslash x xs k le h = (tt, h in_word)
  byte_short between operator x xs k le h = (operator_short x, h between)
  byte_short between space x xs k le h = h between
  byte_short between other x xs k le h = (word_short (x ∷ xs), h in_word)
  byte_short in_word quote x xs k le h = h in_word
  byte_short in_word backslash x xs k le h = h in_word
  byte_short in_word operator x xs k le h = (operator_short x, h between)
  byte_short in_word space x xs k le h = h between
  byte_short in_word other x xs k le h = h in_word
  byte_short in_string quote x xs k le h = h between
  byte_short in_string backslash x xs k le h = h in_escape
  byte_short in_string operator x xs k le h = h in_string
  byte_short in_string space x xs k le h = h in_string
  byte_short in_string other x xs k le h = h in_string
  byte_short in_escape c x xs k le h = h in_string

  lexemes_short : (m : Mode) (xs : List ℕ) → length xs ≤ n → AllByRecursion (IsShortLexeme n) (lex m xs)
  unfolding lex
  lexemes_short m [] le = tt
  lexemes_short m (x ∷ xs) le = byte_short m (class x) x xs (λ next. lex next xs) (omega arith) (λ next. lexemes_short next xs (omega arith))

  allowed_short : (b : Bool) (t : Token) (k : Place → List Token) (next : Place) → IsShort n t → ((p : Place) → AllShort n (k p)) → AllShort n (if_allowed b t k next)
  allowed_short true t k next s h = (s, h next)
  allowed_short false t k next s h = (tt, tt)

  placed_short : (p : Place) (t : Token) (b : Bool) (k : Place → List Token) → IsShort n t → ((next : Place) → AllShort n (k next)) → AllShort n (place_token p t b k)
  placed_short p Token.begin_object b k s h = allowed_short (may_begin p) _ k _ tt h
  placed_short p Token.end_object b k s h = allowed_short (may_close p) _ k _ tt h
  placed_short p Token.begin_array b k s h = allowed_short (may_begin p) _ k _ tt h
  placed_short p Token.end_array b k s h = allowed_short (may_close p) _ k _ tt h
  placed_short p (Token.key t) b k s h = (tt, tt)
  placed_short p (Token.string t) true k s h = allowed_short (may_begin p) (Token.key t) k _ s h
  placed_short p (Token.string t) false k s h = allowed_short (may_begin p) (Token.string t) k _ s h
  placed_short p (Token.number t) b k s h = allowed_short (may_begin p) _ k _ tt h
  placed_short p (Token.boolean t) b k s h = allowed_short (may_begin p) _ k _ tt h
  placed_short p Token.null b k s h = allowed_short (may_begin p) _ k _ tt h
  placed_short p Token.bad b k s h = (tt, tt)

  punctuated_short : (p : Place) (ls : List Lexeme) → AllByRecursion (IsShortLexeme n) ls → AllShort n (punctuate p ls)
  unfolding punctuate
  punctuated_short fresh [] h = tt
  punctuated_short after_value [] h = tt
  punctuated_short after_comma [] h = (tt, tt)
  punctuated_short after_key [] h = (tt, tt)
  punctuated_short p (token t ∷ ls) h = placed_short p t (begins_colon ls) (λ next. punctuate next ls) h.0 (λ next. punctuated_short next ls h.1)
  punctuated_short fresh (comma ∷ ls) h = (tt, tt)
  punctuated_short after_value (comma ∷ ls) h = punctuated_short after_comma ls h.1
  punctuated_short after_comma (comma ∷ ls) h = (tt, tt)
  punctuated_short after_key (comma ∷ ls) h = (tt, tt)
  punctuated_short fresh (colon ∷ ls) h = (tt, tt)
  punctuated_short after_value (colon ∷ ls) h = (tt, tt)
  punctuated_short after_comma (colon ∷ ls) h = (tt, tt)
  punctuated_short after_key (colon ∷ ls) h = punctuated_short fresh ls h.1

pub tokens_short : (text : List ℕ) → AllByRecursion (IsShort (length text)) (tokens text)
tokens_short text = punctuated_short (length text) fresh (lex between text) (lexemes_short (length text) between text (le_refl (length text)))
