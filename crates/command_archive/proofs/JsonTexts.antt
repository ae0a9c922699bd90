-- Each text in a JSON value, a string or a member's name, is no longer than the bytes that the value was read from.
use Rattle.std.proofs.Common.{◌≡◌, ℕ, ◌≤◌, List, [], ◌∷◌, ◌++◌, length, Option, Some, None, IfSome, option_map, option_and_then, refl, subst}
use Rattle.std.specs.Prelude.{⊤}
use Rattle.std.specs.List.{AllByRecursion}
use Rattle.std.specs.Ordering.{match_ordering, nat_cmp}
use Rattle.std.specs.declared.cmp.Ordering.{Ordering}
use Rattle.std.specs.declared.cmp.Ordering.TheVariants.{Less, Equal, Greater}
use Rattle.std.specs.Cmp.Lexicographic.{slice_cmp}
use Rattle.json.specs.Token.{Token}
use Rattle.json.specs.Lex.{tokens}
use Rattle.json.specs.Json as json
use Rattle.json.specs.Tree.{json_tokens, items_tokens, members_tokens}
use Rattle.json.proofs.Unique.Spelling.{value-json_tokens_back}
use Rattle.serde_json.specs.Data.{Num, Data, null, boolean, number, string, array, object, Items, no_items, item, Members, no_members, member, put}
use Rattle.serde_json.specs.Read.{number_of, of_json, of_items, of_members, max_depth, read}
use Rattle.command_archive.proofs.JsonTokens.{IsShort, tokens_short}

-- each text in it has at most so many octets
abbrev mutual
  pub HasShort : ℕ → Data → Type 0
  HasShort n null = ⊤
  HasShort n (boolean b) = ⊤
  HasShort n (number m) = ⊤
  HasShort n (string s) = length s ≤ n
  HasShort n (array ds) = ItemsShort n ds
  HasShort n (object ms) = MembersShort n ms

  pub ItemsShort : ℕ → Items → Type 0
  ItemsShort n no_items = ⊤
  ItemsShort n (item d ds) = HasShort n d × ItemsShort n ds

  pub MembersShort : ℕ → Members → Type 0
  MembersShort n no_members = ⊤
  MembersShort n (member k d ms) = (length k ≤ n) × HasShort n d × MembersShort n ms

mapped : {A B : Type 0} (P : A → Type 0) (Q : B → Type 0) (f : A → B) (o : Option A) → IfSome o P → ((x : A) → P x → Q (f x)) → IfSome (option_map f o) Q
mapped P Q f None h k = tt
mapped P Q f (Some x) h k = k x h

chained : {A B : Type 0} (P : A → Type 0) (Q : B → Type 0) (f : A → Option B) (o : Option A) → IfSome o P → ((x : A) → P x → IfSome (f x) Q) → IfSome (option_and_then f o) Q
chained P Q f None h k = tt
chained P Q f (Some x) h k = k x h

module _ (n : ℕ) where
  abbrev AllShort : List Token → Type 0
  AllShort ts = AllByRecursion (IsShort n) ts

  both : (ts us : List Token) → AllShort (ts ++ us) → AllShort ts × AllShort us
  both [] us h = (tt, h)
  both (t ∷ ts) us h = let later = both ts us h.1 in ((h.0, later.0), later.1)

  ordered : (o : Ordering) (a b c : Members) → MembersShort n a → MembersShort n b → MembersShort n c → MembersShort n (match_ordering o a b c)
  ordered Less a b c p q r = p
  ordered Equal a b c p q r = q
  ordered Greater a b c p q r = r

  put_short : (k : List ℕ) (d : Data) (ms : Members) → length k ≤ n → HasShort n d → MembersShort n ms → MembersShort n (put k d ms)
  put_short k d no_members le h s = (le, h, tt)
  put_short k d (member l e ms) le h s =
      ordered (slice_cmp nat_cmp k l) (member k d (member l e ms)) (member l d ms) (member l e (put k d ms)) (le, h, s) (s.0, h, s.2) (s.0, s.1, put_short k d ms le h s.2)

  number_short : (o : Option Num) → IfSome (option_map number o) (HasShort n)
  number_short None = tt
  number_short (Some m) = tt

  mutual
    of_json_short : (j : json.Json) → AllShort (json_tokens j) → IfSome (of_json j) (HasShort n)
    of_json_short json.null h = tt
    of_json_short (json.boolean b) h = tt
    of_json_short (json.number s) h = number_short (number_of s)
    of_json_short (json.string s) h = h.0
    of_json_short (json.array js) h = mapped (ItemsShort n) (HasShort n) array (of_items js) (of_items_short js h.1) (λ ds p. p)
    of_json_short (json.object ms) h = mapped (MembersShort n) (HasShort n) object (of_members ms no_members) (of_members_short ms no_members h.1 tt) (λ ms p. p)

    of_items_short : (js : json.Items) → AllShort (items_tokens js) → IfSome (of_items js) (ItemsShort n)
    of_items_short json.no_items h = tt
    of_items_short (json.item j js) h =
        let parts = both (json_tokens j) (items_tokens js) h in
        chained (HasShort n) (ItemsShort n) (λ d. option_map (item d) (of_items js)) (of_json j) (of_json_short j parts.0)
        (λ d p. mapped (ItemsShort n) (ItemsShort n) (item d) (of_items js) (of_items_short js parts.1) (λ ds q. (p, q)))

    of_members_short : (ms : json.Members) (found : Members) → AllShort (members_tokens ms) → MembersShort n found → IfSome (of_members ms found) (MembersShort n)
    of_members_short json.no_members found h s = s
    of_members_short (json.member k j ms) found h s =
        let parts = both (json_tokens j) (members_tokens ms) h.1 in
        chained (HasShort n) (MembersShort n) (λ d. of_members ms (put k d found)) (of_json j) (of_json_short j parts.0)
        (λ d p. of_members_short ms (put k d found) parts.1 (put_short k d found h.0 p s))

pub read_short : (text : List ℕ) → IfSome (read text) (HasShort (length text))
read_short text = by_value (json.value max_depth (tokens text)) refl
  where
    by_value : (o : Option (json.Json × List Token)) → json.value max_depth (tokens text) ≡ o
        → IfSome (option_and_then of_json (option_and_then (λ p. json.if_last p.0 p.1) o)) (HasShort (length text))
    by_value None e = tt
    by_value (Some (j, [])) e =
        of_json_short (length text) j
        (both (length text) (json_tokens j) [] (subst (AllByRecursion (IsShort (length text))) (value-json_tokens_back max_depth (tokens text) [] j e) (tokens_short text))).0
    by_value (Some (j, t ∷ ts)) e = tt
