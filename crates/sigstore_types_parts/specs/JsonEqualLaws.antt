-- A JSON value is the same as itself, both ways round, and along a third.
use Rattle.std.specs.Prelude.{◌≡◌, ◌&&◌, List, ℕ, true, bytes_eq, refl}
use Rattle.std.proofs.Common.{sym, true≢false}
use Rattle.std.specs.Cmp.{IsEquivalence, partial_equiv_from_equiv, equiv, nat_eq_equiv, int_eq_equiv, bool_eq_equiv}
use Rattle.std.specs.Cmp.{first_so, second_so}
use Rattle.std.specs.Cmp.Lexicographic.{nat_list_eq_equiv}
use Rattle.serde_json.specs.Data.{Num, unsigned, negative, float, Data, null, boolean, number, string, array, object}
use Rattle.serde_json.specs.Data.{Items, no_items, item, Members, no_members, member}
use Rattle.sigstore_types_parts.specs.JsonEqual.{same_number, same_data, same_items, same_members}

number_itself : (m : Num) → same_number m m ≡ true
number_itself (unsigned n) = nat_eq_equiv.refl n
number_itself (negative z) = int_eq_equiv.refl z
number_itself (float x) = refl

number_symm : (m n : Num) → same_number m n ≡ same_number n m
number_symm (unsigned m) (unsigned n) = nat_eq_equiv.symm m n
number_symm (negative y) (negative z) = int_eq_equiv.symm y z
number_symm (float x) (float y) = refl
number_symm _ _ = refl

number_trans : (l m n : Num) → same_number l m ≡ true → same_number m n ≡ true → same_number l n ≡ true
number_trans (unsigned l) (unsigned m) (unsigned n) h k = (partial_equiv_from_equiv nat_eq_equiv).trans l m n h k
number_trans (negative x) (negative y) (negative z) h k = (partial_equiv_from_equiv int_eq_equiv).trans x y z h k
number_trans (float x) (float y) (float z) h k = refl
number_trans (unsigned l) (unsigned m) _ h k = absurd (true≢false (sym k))
number_trans (negative x) (negative y) _ h k = absurd (true≢false (sym k))
number_trans (float x) (float y) _ h k = absurd (true≢false (sym k))
number_trans _ _ n h k = absurd (true≢false (sym h))

mutual
  itself : (d : Data) → same_data d d ≡ true
  itself null = refl
  itself (boolean b) = bool_eq_equiv.refl b
  itself (number n) = number_itself n
  itself (string s) = nat_list_eq_equiv.refl s
  itself (array ds) = items_itself ds
  itself (object ms) = members_itself ms

  items_itself : (ds : Items) → same_items ds ds ≡ true
  items_itself no_items = refl
  items_itself (item d ds) = λ i. itself d i && items_itself ds i

  members_itself : (ms : Members) → same_members ms ms ≡ true
  members_itself no_members = refl
  members_itself (member k d ms) = λ i. nat_list_eq_equiv.refl k i && (itself d i && members_itself ms i)

mutual
  data_symm : (d e : Data) → same_data d e ≡ same_data e d
  data_symm null null = refl
  data_symm (boolean a) (boolean b) = bool_eq_equiv.symm a b
  data_symm (number m) (number n) = number_symm m n
  data_symm (string s) (string t) = nat_list_eq_equiv.symm s t
  data_symm (array ds) (array es) = items_symm ds es
  data_symm (object ms) (object ns) = members_symm ms ns
  data_symm _ _ = refl

  items_symm : (ds es : Items) → same_items ds es ≡ same_items es ds
  items_symm no_items no_items = refl
  items_symm (item d ds) (item e es) = λ i. data_symm d e i && items_symm ds es i
  items_symm _ _ = refl

  members_symm : (ms ns : Members) → same_members ms ns ≡ same_members ns ms
  members_symm no_members no_members = refl
  members_symm (member k d ms) (member l e ns) = λ i. nat_list_eq_equiv.symm k l i && (data_symm d e i && members_symm ms ns i)
  members_symm _ _ = refl

text_trans : (s t u : List ℕ) → bytes_eq s t ≡ true → bytes_eq t u ≡ true → bytes_eq s u ≡ true
text_trans = (partial_equiv_from_equiv nat_list_eq_equiv).trans

mutual
  data_trans : (c d e : Data) → same_data c d ≡ true → same_data d e ≡ true → same_data c e ≡ true
  data_trans null null null h k = refl
  data_trans (boolean a) (boolean b) (boolean c) h k = (partial_equiv_from_equiv bool_eq_equiv).trans a b c h k
  data_trans (number l) (number m) (number n) h k = number_trans l m n h k
  data_trans (string s) (string t) (string u) h k = text_trans s t u h k
  data_trans (array cs) (array ds) (array es) h k = items_trans cs ds es h k
  data_trans (object ls) (object ms) (object ns) h k = members_trans ls ms ns h k
  data_trans null null _ h k = absurd (true≢false (sym k))
  data_trans (boolean a) (boolean b) _ h k = absurd (true≢false (sym k))
  data_trans (number l) (number m) _ h k = absurd (true≢false (sym k))
  data_trans (string s) (string t) _ h k = absurd (true≢false (sym k))
  data_trans (array cs) (array ds) _ h k = absurd (true≢false (sym k))
  data_trans (object ls) (object ms) _ h k = absurd (true≢false (sym k))
  data_trans _ _ e h k = absurd (true≢false (sym h))

  items_trans : (cs ds es : Items) → same_items cs ds ≡ true → same_items ds es ≡ true → same_items cs es ≡ true
  items_trans no_items no_items no_items h k = refl
  items_trans (item c cs) (item d ds) (item e es) h k =
      let first = data_trans c d e (first_so (same_data c d) (same_items cs ds) h) (first_so (same_data d e) (same_items ds es) k) in
      let rest = items_trans cs ds es (second_so (same_data c d) (same_items cs ds) h) (second_so (same_data d e) (same_items ds es) k) in
      λ i. first i && rest i
  items_trans no_items no_items _ h k = absurd (true≢false (sym k))
  items_trans (item c cs) (item d ds) _ h k = absurd (true≢false (sym k))
  items_trans _ _ es h k = absurd (true≢false (sym h))

  members_trans : (ls ms ns : Members) → same_members ls ms ≡ true → same_members ms ns ≡ true → same_members ls ns ≡ true
  members_trans no_members no_members no_members h k = refl
  members_trans (member j c ls) (member k d ms) (member l e ns) h g =
      let later-h = second_so (bytes_eq j k) (same_data c d && same_members ls ms) h in
      let later-g = second_so (bytes_eq k l) (same_data d e && same_members ms ns) g in
      let same-jk = first_so (bytes_eq j k) (same_data c d && same_members ls ms) h in
      let same-kl = first_so (bytes_eq k l) (same_data d e && same_members ms ns) g in
      let name = text_trans j k l same-jk same-kl in
      let same-cd = first_so (same_data c d) (same_members ls ms) later-h in
      let same-de = first_so (same_data d e) (same_members ms ns) later-g in
      let first = data_trans c d e same-cd same-de in
      let rest-h = second_so (same_data c d) (same_members ls ms) later-h in
      let rest-g = second_so (same_data d e) (same_members ms ns) later-g in
      let rest = members_trans ls ms ns rest-h rest-g in
      λ i. name i && (first i && rest i)
  members_trans no_members no_members _ h k = absurd (true≢false (sym k))
  members_trans (member j c ls) (member k d ms) _ h g = absurd (true≢false (sym g))
  members_trans _ _ ns h k = absurd (true≢false (sym h))

pub same_data_equiv : IsEquivalence same_data
same_data_equiv = equiv (record { symm = data_symm; trans = data_trans }) itself
