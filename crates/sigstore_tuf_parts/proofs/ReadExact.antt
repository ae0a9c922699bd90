-- A document that was read has no number but integers of 64 bits: so its canonical text tells its content.
use Rattle.std.proofs.Common.{◌≡◌, ℕ, zero, suc, ◌<◌, ◌≤◌, ◌^◌, ◌&&◌, ◌||◌, ◌==◌, pos, negsuc, neg_ℤ, List, Bool, true, false, if◌then◌else◌, nat_lt, nat_le, Option, Some, None, is_some, ok_or, option_and_then, option_map, Result, Ok, Err, codes, Ordering, Less, Equal, Greater, refl, sym, ap, ◌∙◌, subst, arith, drop}
use Rattle.std.specs.Prelude.{⊤, slice_index}
use Rattle.std.proofs.lemmas.Bool.Decides.{nat_tests}
use Rattle.std.specs.Ordering.{nat_cmp, match_ordering}
use Rattle.std.specs.Cmp.Lexicographic.{slice_cmp}
use Rattle.std.specs.Float.{binary64, float_is_finite}
use Rattle.std.specs.Float.Numeral.{Parts, minus, scan_numeral as scan, numeral_digits as digits_of, nearest_float as nearest}
use Rattle.json.specs.Json as json
use Rattle.json.specs.Lex.{tokens}
use Rattle.serde_json.specs.Data.{Num, unsigned, negative, float, Data, null, boolean, number, string, array, object, Items, no_items, item, Members, no_members, member, put}
use Rattle.serde_json.specs.Read.{is_integer, float_of, number_from, number_of, of_json, of_items, of_members, max_depth, read}
use Rattle.serde_json.specs.Find.{get, get_member, as_object}
use Rattle.serde_json.specs.Written.{has_float, items_have_float, members_have_float}
use Rattle.foundation.specs.Steps.{◌>>=◌}
use Rattle.foundation.specs.Results.{step_ok, ok_same}
use Rattle.sigstore_types_parts.specs.Parse.{json_of_bytes, parsed_of}
use Rattle.sigstore_types_parts.specs.Read as read_words
use Rattle.sigstore_types_parts.specs.Read.{required_of}
use Rattle.sigstore_types_parts.specs.declared.parse.JsonFault.{JsonFault}
use Rattle.sigstore_types_parts.specs.declared.parse.JsonFault.TheVariants as fault
use Rattle.sigstore_tuf_text.specs.declared.error.Error.{Error}
use Rattle.sigstore_tuf_text.specs.declared.error.Error.TheVariants as tuf
use Rattle.sigstore_tuf_text.specs.declared.error.Rule.TheVariants as rule
use Rattle.sigstore_tuf_parts.specs.declared.head.Head.{Head}
use Rattle.sigstore_tuf_text.specs.declared.member.DocumentMember.{DocumentMember}
use Rattle.sigstore_tuf_text.specs.declared.member.DocumentMember.TheVariants as m
use Rattle.sigstore_tuf_parts.specs.declared.root.Root.{Root}
use Rattle.sigstore_tuf_text.specs.Canon.{canon}
use Rattle.sigstore_tuf_parts.specs.Document.{Document, content_in, text_in, value_of, frame_of, signature_of, content_of, document_in, document_of}
use Rattle.sigstore_tuf_text.specs.Error.{error_of_fault}
use Rattle.sigstore_tuf_text.specs.Exact.{IsExactNumber, IsExact, AreExact, HasExact}
use Rattle.sigstore_tuf_parts.specs.Head.{head_of}
use Rattle.sigstore_tuf_parts.specs.Header.{header_of}
use Rattle.sigstore_tuf_parts.specs.Keys.{key_in_of, role_keys_of}
use Rattle.sigstore_tuf_parts.specs.Laws.{TellsContents}
use Rattle.sigstore_tuf_parts.specs.Root.{root_of}
use Rattle.sigstore_tuf_parts.specs.RootRoles.{root_document}
use Rattle.sigstore_tuf_text.specs.Words.{member_name, required, defaulted, u64, bool, text, moment, sequence, map}
use Rattle.sigstore_tuf_text.proofs.Unique.{canon_injective}

-- ---- integers within 64 bits, or floats

abbrev IsSizedNumber : Num → Type 0
IsSizedNumber (unsigned n) = n < 2 ^ 64
IsSizedNumber (negative (pos n)) = ⊥
IsSizedNumber (negative (negsuc n)) = n < 2 ^ 63
IsSizedNumber (float x) = ⊤

abbrev mutual
  IsSized : Data → Type 0
  IsSized null = ⊤
  IsSized (boolean b) = ⊤
  IsSized (number n) = IsSizedNumber n
  IsSized (string s) = ⊤
  IsSized (array ds) = AreSized ds
  IsSized (object ms) = HasSized ms

  AreSized : Items → Type 0
  AreSized no_items = ⊤
  AreSized (item d ds) = IsSized d × AreSized ds

  HasSized : Members → Type 0
  HasSized no_members = ⊤
  HasSized (member k d ms) = IsSized d × HasSized ms

some_is : {A : Type 0} (P : A → Type 0) (x y : A) → Some x ≡ Some y → P x → P y
some_is P x y h p = let same : x ≡ y = cc in subst P same p

both_true : (a b : Bool) → (a && b) ≡ true → (a ≡ true) × (b ≡ true)
both_true true b h = (refl, h)
both_true false b h = cc

is_less : (m n : ℕ) → nat_lt m n ≡ true → m < n
is_less m n h = grind (arith, nat_tests)

is_at_most : (m n : ℕ) → nat_le m n ≡ true → m ≤ n
is_at_most m n h = grind (arith, nat_tests)

-- what there is of an option that was mapped
mapped : {A B C : Type 0} (f : A → B) (o : Option A) (y : B) → option_map f o ≡ Some y → ((x : A) → o ≡ Some x → f x ≡ y → C) → C
mapped f None y h k = cc
mapped f (Some x) y h k = let same : f x ≡ y = cc in k x refl same

chained : {A B C : Type 0} (f : A → Option B) (o : Option A) (y : B) → option_and_then f o ≡ Some y → ((x : A) → o ≡ Some x → f x ≡ Some y → C) → C
chained f None y h k = cc
chained f (Some x) y h k = k x refl h

float_sized : (sign : Bool) (p : Parts) (n : Num) → float_of sign p ≡ Some n → IsSizedNumber n
float_sized sign p n h = by_test (float_is_finite (nearest binary64 sign p)) h
  where
    by_test : (b : Bool) → (if b then Some (float (nearest binary64 sign p)) else None) ≡ Some n → IsSizedNumber n
    by_test true h = some_is IsSizedNumber (float (nearest binary64 sign p)) n h tt
    by_test false h = cc

negative_sized : (m : ℕ) → 0 < m → m ≤ 2 ^ 63 → IsSizedNumber (negative (neg_ℤ (pos m)))
negative_sized zero some most = absurd (omega arith)
negative_sized (suc m) some most = omega arith

number_from_sized : (sign : Bool) (p : Parts) (n : Num) → number_from sign p ≡ Some n → IsSizedNumber n
number_from_sized false p n h = by_test (is_integer p && nat_lt (digits_of p) (2 ^ 64)) refl h
  where
    by_test : (b : Bool) → (is_integer p && nat_lt (digits_of p) (2 ^ 64)) ≡ b → (if b then Some (unsigned (digits_of p)) else float_of false p) ≡ Some n → IsSizedNumber n
    by_test true e h = some_is IsSizedNumber (unsigned (digits_of p)) n h (is_less (digits_of p) (2 ^ 64) (both_true (is_integer p) (nat_lt (digits_of p) (2 ^ 64)) e).1)
    by_test false e h = float_sized false p n h
number_from_sized true p n h = by_test (is_integer p && nat_lt 0 (digits_of p) && nat_le (digits_of p) (2 ^ 63)) refl h
  where
    sizes : (a b c : Bool) → (a && b && c) ≡ true → (b ≡ true) × (c ≡ true)
    sizes true true c h = (refl, h)
    sizes true false c h = cc
    sizes false b c h = cc

    by_test : (b : Bool) → (is_integer p && nat_lt 0 (digits_of p) && nat_le (digits_of p) (2 ^ 63)) ≡ b → (if b then Some (negative (neg_ℤ (pos (digits_of p)))) else float_of true p) ≡ Some n → IsSizedNumber n
    by_test true e h =
        let s = sizes (is_integer p) (nat_lt 0 (digits_of p)) (nat_le (digits_of p) (2 ^ 63)) e in
        some_is IsSizedNumber (negative (neg_ℤ (pos (digits_of p)))) n h (negative_sized (digits_of p) (is_less 0 (digits_of p) s.0) (is_at_most (digits_of p) (2 ^ 63) s.1))
    by_test false e h = float_sized true p n h

either : {C : Type 0} (b : Bool) (x y : Option Num) (n : Num) → (if b then x else y) ≡ Some n → (x ≡ Some n → C) → (y ≡ Some n → C) → C
either true x y n h first second = first h
either false x y n h first second = second h

number_sized : (s : List ℕ) (n : Num) → number_of s ≡ Some n → IsSizedNumber n
unfolding number_of
number_sized s n h = either (slice_index s 0 == minus) (number_from true (scan (drop 1 s))) (number_from false (scan s)) n h (λ e. number_from_sized true (scan (drop 1 s)) n e) (λ e. number_from_sized false (scan s) n e)

-- a member that is put in
by_order : (o : Ordering) (k l : List ℕ) (d e : Data) (ms rest : Members) → IsSized d → HasSized (member l e ms) → HasSized rest
    → HasSized (match_ordering o (member k d (member l e ms)) (member l d ms) (member l e rest))
by_order Less k l d e ms rest s h r = (s, h)
by_order Equal k l d e ms rest s h r = (s, h.1)
by_order Greater k l d e ms rest s h r = (h.0, r)

put_sized : (k : List ℕ) (d : Data) (ms : Members) → IsSized d → HasSized ms → HasSized (put k d ms)
put_sized k d no_members s h = (s, tt)
put_sized k d (member l e ms) s h = by_order (slice_cmp nat_cmp k l) k l d e ms (put k d ms) s h (put_sized k d ms s h.1)

mutual
  json_sized : (j : json.Json) (d : Data) → of_json j ≡ Some d → IsSized d
  json_sized json.null d h = some_is IsSized null d h tt
  json_sized (json.boolean b) d h = some_is IsSized (boolean b) d h tt
  json_sized (json.number s) d h = mapped number (number_of s) d h (λ n e is. subst IsSized is (number_sized s n e))
  json_sized (json.string s) d h = some_is IsSized (string s) d h tt
  json_sized (json.array js) d h = mapped array (of_items js) d h (λ ds e is. subst IsSized is (items_sized js ds e))
  json_sized (json.object ms) d h = mapped object (of_members ms no_members) d h (λ found e is. subst IsSized is (members_sized ms no_members found tt e))

  items_sized : (js : json.Items) (ds : Items) → of_items js ≡ Some ds → AreSized ds
  items_sized json.no_items ds h = some_is AreSized no_items ds h tt
  items_sized (json.item j js) ds h =
      chained (λ d. option_map (item d) (of_items js)) (of_json j) ds h (λ d e k.
      mapped (item d) (of_items js) ds k (λ rest f is. subst AreSized is (json_sized j d e, items_sized js rest f)))

  members_sized : (ms : json.Members) (found last : Members) → HasSized found → of_members ms found ≡ Some last → HasSized last
  members_sized json.no_members found last f h = some_is HasSized found last h f
  members_sized (json.member k j ms) found last f h =
      chained (λ d. of_members ms (put k d found)) (of_json j) last h (λ d e more. members_sized ms (put k d found) last (put_sized k d found (json_sized j d e) f) more)

-- ---- no floats

first_false : (a b : Bool) → (a || b) ≡ false → a ≡ false
first_false false b h = refl
first_false true b h = h

second_false : (a b : Bool) → (a || b) ≡ false → b ≡ false
second_false false b h = h
second_false true b h = cc

number_exact : (n : Num) → IsSizedNumber n → has_float (number n) ≡ false → IsExactNumber n
number_exact (unsigned n) s h = s
number_exact (negative (pos n)) s h = s
number_exact (negative (negsuc n)) s h = s
number_exact (float x) s h = cc

mutual
  exact : (d : Data) → IsSized d → has_float d ≡ false → IsExact d
  exact null s h = tt
  exact (boolean b) s h = tt
  exact (number n) s h = number_exact n s h
  exact (string t) s h = tt
  exact (array ds) s h = items_exact ds s h
  exact (object ms) s h = members_exact ms s h

  items_exact : (ds : Items) → AreSized ds → items_have_float ds ≡ false → AreExact ds
  items_exact no_items s h = tt
  items_exact (item d ds) s h = (exact d s.0 (first_false (has_float d) (items_have_float ds) h), items_exact ds s.1 (second_false (has_float d) (items_have_float ds) h))

  members_exact : (ms : Members) → HasSized ms → members_have_float ms ≡ false → HasExact ms
  members_exact no_members s h = tt
  members_exact (member k d ms) s h = (exact d s.0 (first_false (has_float d) (members_have_float ms) h), members_exact ms s.1 (second_false (has_float d) (members_have_float ms) h))

pub read_exact : (text : List ℕ) (d : Data) → read text ≡ Some d → has_float d ≡ false → IsExact d
read_exact text d h f =
    chained of_json (option_and_then (λ p. json.if_last p.0 p.1) (json.value max_depth (tokens text))) d h (λ j e is. exact d (json_sized j d is) f)

-- ---- a member

pick : (o : Ordering) (d s : Data) (r : Option Data) → match_ordering o r (Some d) r ≡ Some s → IsExact d → (r ≡ Some s → IsExact s) → IsExact s
pick Less d s r e h later = later e
pick Equal d s r e h later = some_is IsExact d s e h
pick Greater d s r e h later = later e

member_found : (name : List ℕ) (ms : Members) (s : Data) → get_member name ms ≡ Some s → HasExact ms → IsExact s
member_found name no_members s e h = cc
member_found name (member k d ms) s e h = pick (slice_cmp nat_cmp name k) d s (get_member name ms) e h.0 (λ found. member_found name ms s found h.1)

pub member_exact : (name : List ℕ) (d s : Data) → get name d ≡ Some s → IsExact d → IsExact s
member_exact name (object ms) s e h = member_found name ms s e h
member_exact name null s e h = cc
member_exact name (boolean b) s e h = cc
member_exact name (number n) s e h = cc
member_exact name (string t) s e h = cc
member_exact name (array ds) s e h = cc

-- ---- documents

ok_some : {A : Type 0} (o : Option A) (e : Error) (x : A) → ok_or o e ≡ Ok x → o ≡ Some x
ok_some None e x h = cc
ok_some (Some a) e x h = cc

-- what is read is what was parsed
value_parsed : (bytes : List ℕ) (d : Data) (r : Result Data JsonFault) → parsed_of bytes ≡ r → value_of bytes ≡ Ok d → r ≡ Ok d
unfolding value_of
value_parsed bytes d (Ok x) p h = ap Ok (ok_same x d (sym is ∙ h))
  where
    is : value_of bytes ≡ Ok x
    is = rw p refl
value_parsed bytes d (Err f) p h = let no : ◌≡◌ {A = Result Data Error} (Err (error_of_fault f)) (Ok d) = sym is ∙ h in cc
  where
    is : value_of bytes ≡ Err (error_of_fault f)
    is = rw p refl

-- it has no number but integers of 64 bits
parsed_exact : (bytes : List ℕ) (d : Data) → parsed_of bytes ≡ Ok d → IsExact d
unfolding parsed_of
parsed_exact bytes d h = by_json (json_of_bytes bytes) refl h
  where
    by_float : (x : Data) (b : Bool) → has_float x ≡ b → ◌≡◌ {A = Result Data JsonFault} (if b then Err fault.Float else Ok x) (Ok d) → (x ≡ d) × (has_float x ≡ false)
    by_float x true e h = cc
    by_float x false e h = (ok_same x d h, e)

    by_test : (b : Bool) (x : Data) → (if b then read bytes else None) ≡ Some x → read bytes ≡ Some x
    by_test true x h = h
    by_test false x h = cc

    by_json : (o : Option Data) → json_of_bytes bytes ≡ o → (ok_or o fault.NotJson >>= λ x. if has_float x then Err fault.Float else Ok x) ≡ Ok d → IsExact d
    by_json None e h = cc
    by_json (Some x) e h = let f = by_float x (has_float x) refl h in subst IsExact f.0 (read_exact bytes x (by_test _ x e) f.1)

pub value_exact : (bytes : List ℕ) (d : Data) → value_of bytes ≡ Ok d → IsExact d
value_exact bytes d h = parsed_exact bytes d (value_parsed bytes d (parsed_of bytes) refl h)

-- what a document was read from
pub record IsReadFrom {T : Type 0} (reads : Data → Result T Error) (doc : Document T) : Type 0 where
  pub signed : Data
  pub exact : IsExact signed
  pub content_is : reads signed ≡ Ok (content_in doc)
  pub spelled : text_in doc ≡ canon signed

pub read_from : {T : Type 0} (kind : List ℕ) (reads : Data → Result T Error) (bytes : List ℕ) (doc : Document T) → document_of kind reads bytes ≡ Ok doc → IsReadFrom reads doc
unfolding document_of document_in content_of frame_of
read_from {T} kind reads bytes doc h =
    let v = step_ok (value_of bytes) (document_in kind reads) doc h in
    let f = step_ok (frame_of (codes "signed") v.0) _ doc v.2 in
    let g = step_ok (frame_of (codes "signatures") v.0) _ doc f.2 in
    let a = step_ok (header_of kind f.0) _ doc g.2 in
    let l = step_ok (sequence signature_of g.0) _ doc a.2 in
    let c = step_ok (reads f.0) _ doc l.2 in
    let same : ◌≡◌ {A = Document T} (c.0, l.0, canon f.0) doc = ok_same (c.0, l.0, canon f.0) doc c.2 in
    record {
      signed = f.0;
      exact = member_exact (codes "signed") v.0 f.0 (ok_some (get (codes "signed") v.0) (tuf.Malformed rule.Frame) f.0 f.1) (value_exact bytes v.0 v.1);
      content_is = c.1 ∙ ap (λ (d : Document T). Ok (content_in d)) same;
      spelled = sym (ap (λ (d : Document T). text_in d) same);
    }

-- two that have one text have one content
pub tells_contents : {T : Type 0} (kind : List ℕ) (reads : Data → Result T Error) → TellsContents kind reads
tells_contents kind reads one two first second h k same =
    let a = read_from kind reads one first h in
    let b = read_from kind reads two second k in
    let signed : a.signed ≡ b.signed = canon_injective a.signed b.signed a.exact b.exact (sym a.spelled ∙ same ∙ b.spelled) in
    ok_same (content_in first) (content_in second) (sym a.content_is ∙ ap reads signed ∙ b.content_is)

-- ---- a root's version

u64_bound : (d : Data) (n : ℕ) → u64 d ≡ Ok n → IsExact d → n < 2 ^ 64
u64_bound null n h e = cc
u64_bound (boolean b) n h e = cc
u64_bound (number (unsigned k)) n h e = let same : k ≡ n = ok_same k n h in subst (λ k. k < 2 ^ 64) same e
u64_bound (number (negative z)) n h e = cc
u64_bound (number (float x)) n h e = cc
u64_bound (string s) n h e = cc
u64_bound (array ds) n h e = cc
u64_bound (object ms) n h e = cc

required_bound : (name : DocumentMember) (d : Data) (n : ℕ) → required u64 name d ≡ Ok n → IsExact d → n < 2 ^ 64
unfolding required_of
required_bound name d n h e = by_object (is_some (as_object d)) h
  where
    by_member : (o : Option Data) → get (member_name name) d ≡ o → read_words.at (λ e. e) (read_words.required_in tuf.Json u64 o) ≡ Ok n → n < 2 ^ 64
    by_member None g h = cc
    by_member (Some s) g h = by_read (u64 s) refl h
      where
        by_read : (r : Result ℕ Error) → u64 s ≡ r → read_words.at (λ e. e) r ≡ Ok n → n < 2 ^ 64
        by_read (Ok k) q h = u64_bound s n (q ∙ h) (member_exact (member_name name) d s g e)
        by_read (Err x) q h = cc

    by_object : (b : Bool) → ((if b then Ok d else Err tuf.Json) >>= λ o. read_words.at (λ e. e) (read_words.required_in tuf.Json u64 (get (member_name name) o))) ≡ Ok n → n < 2 ^ 64
    by_object true h = by_member (get (member_name name) d) refl h
    by_object false h = cc

head_bound : (d : Data) (head : Head) → head_of d ≡ Ok head → IsExact d → head.version < 2 ^ 64
unfolding head_of
head_bound d head h e =
    let t = step_ok (required text m.Type d) _ head h in
    let s = step_ok (required text m.SpecVersion d) _ head t.2 in
    let v = step_ok (required u64 m.Version d) _ head s.2 in
    let x = step_ok (required moment m.Expires d) _ head v.2 in
    subst (λ n. n < 2 ^ 64) (ap (λ (k : Head). k.version) (ok_same _ head x.2)) (required_bound m.Version d v.0 v.1 e)

root_bound : (d : Data) (root : Root) → root_of d ≡ Ok root → IsExact d → root.version < 2 ^ 64
unfolding root_of
root_bound d root h e =
    let a = step_ok (head_of d) _ root h in
    let c = step_ok (defaulted bool m.ConsistentSnapshot false d) _ root a.2 in
    let k = step_ok (required (map key_in_of) m.Keys d) _ root c.2 in
    let r = step_ok (required (map role_keys_of) m.Roles d) _ root k.2 in
    subst (λ n. n < 2 ^ 64) (ap (λ (r : Root). r.version) (ok_same _ root r.2)) (head_bound d a.0 a.1 e)

-- the version of a root that was read fits 64 bits
pub version_bound : (bytes : List ℕ) (doc : Document Root) → root_document bytes ≡ Ok doc → (content_in doc).version < 2 ^ 64
version_bound bytes doc h =
    let a = read_from (codes "root") root_of bytes doc h in
    root_bound a.signed (content_in doc) a.content_is a.exact
