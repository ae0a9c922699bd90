-- One type or another, a type under a further tag, and any type.
use Rattle.std.specs.Prelude.{◌≡◌, ℕ, ◌⊎◌, ◌%◌, Bool, true, false, not, List, length}
use Rattle.std.specs.Prelude.{Ok, Err, nat_lt, ◌==◌, ◌&&◌, ◌||◌, if◌then◌else◌}
use Rattle.std.proofs.Common.{inl, inr, refl, ap, subst, cond, ltb, eqb}
use Rattle.std.proofs.lemmas.Bool.{ltb-true, eqb-false}
use Rattle.der_grammar.specs.declared.error.DerError.TheVariants.{Value}
use Rattle.der_grammar.specs.Outcome.{Outcome}
use Rattle.foundation.specs.Steps.{◌>>=◌}
use Rattle.der_grammar.specs.Tlv.{IsTag, IsBytes}
use Rattle.der_grammar.specs.Grammar.{Grammar, sequence, one}
use Rattle.der_grammar.specs.Law.{WritesAs, IsLawful}
use Rattle.der_grammar.specs.Laws.{sequence-lawful, one-lawful}
use Rattle.der_grammar.specs.TlvLaws.{ok_is, bind_ok, passed}

-- a type under a further tag
abbrev pub explicit : {A : Type 0} → ℕ → Grammar A → Grammar A
explicit tag g = sequence tag (one g)

pub explicit-lawful : {A : Type 0} (tag : ℕ) (g : Grammar A) → IsTag tag → IsLawful g → IsLawful (explicit tag g)
explicit-lawful tag g tagged lg = sequence-lawful tag (one g) tagged (one-lawful g lg)

-- ---- one or the other

abbrev pub IsOne : {A B : Type 0} → Grammar A → Grammar B → A ⊎ B → ℕ → List ℕ → Type 0
IsOne g h (inl a) t c = g.IsEncoded a t c
IsOne g h (inr b) t c = h.IsEncoded b t c

abbrev pub tag_of_one : {A B : Type 0} → Grammar A → Grammar B → A ⊎ B → ℕ
tag_of_one g h (inl a) = g.tag a
tag_of_one g h (inr b) = h.tag b

abbrev pub contents_of_one : {A B : Type 0} → Grammar A → Grammar B → A ⊎ B → Outcome (List ℕ)
contents_of_one g h (inl a) = g.contents a
contents_of_one g h (inr b) = h.contents b

abbrev pub either : {A B : Type 0} → Grammar A → Grammar B → Grammar (A ⊎ B)
either g h = record {
  accepts = λ t. g.accepts t || h.accepts t;
  IsEncoded = IsOne g h;
  value = λ t c. if g.accepts t then (g.value t c >>= λ a. Ok (inl a)) else (h.value t c >>= λ b. Ok (inr b));
  tag = tag_of_one g h;
  contents = contents_of_one g h;
  plain = g.plain && h.plain;
}

either-found : {A B : Type 0} (g : Grammar A) (h : Grammar B) (lg : IsLawful g) (lh : IsLawful h) (t : ℕ) (c : List ℕ)
    (x : A ⊎ B) (b : Bool) → g.accepts t ≡ b → (b || h.accepts t) ≡ true → IsBytes c
    → cond b (g.value t c >>= λ a. Ok (inl a)) (h.value t c >>= λ b. Ok (inr b)) ≡ Ok x → IsOne g h x t c
either-found g h lg lh t c x true is ok fits e =
    let m = bind_ok (g.value t c) (λ a. Ok (inl a)) x e in
    subst (λ z. IsOne g h z t c) (ok_is (inl m.0) x m.2) (lg.found t c m.0 is fits m.1)
either-found g h lg lh t c x false is ok fits e =
    let m = bind_ok (h.value t c) (λ b. Ok (inr b)) x e in
    subst (λ z. IsOne g h z t c) (ok_is (inr m.0) x m.2) (lh.found t c m.0 ok fits m.1)

either-only : {A B : Type 0} (g : Grammar A) (h : Grammar B) (lg : IsLawful g) (lh : IsLawful h)
    (apart : (t : ℕ) → h.accepts t ≡ true → g.accepts t ≡ false) (t : ℕ) (c : List ℕ) (x : A ⊎ B) → IsOne g h x t c
    → ((either g h).accepts t ≡ true) × ((either g h).value t c ≡ Ok x)
either-only g h lg lh apart t c (inl a) s = let o = lg.only t c a s in let e0 = o.0 in let e1 = o.1 in (rw e0 refl, rw e0 (rw e1 refl))
either-only g h lg lh apart t c (inr b) s = let o = lh.only t c b s in let e0 = o.0 in let e1 = o.1 in let e2 =
    apart t e0 in (rw (e2, e0) refl, rw e2 (rw e1 refl))

either-tags : (p q : Bool) (T : Type 0) → (p ≡ true → T) → (q ≡ true → T) → (p || q) ≡ true → T
either-tags true q T f h e = f refl
either-tags false q T f h e = h e

either-written : {A B : Type 0} (g : Grammar A) (h : Grammar B) (lg : IsLawful g) (lh : IsLawful h) (x : A ⊎ B)
    (c : List ℕ) → contents_of_one g h x ≡ Ok c → IsOne g h x (tag_of_one g h x) c
either-written g h lg lh (inl a) c e = lg.written a c e
either-written g h lg lh (inr b) c e = lh.written b c e

either-writes : {A B : Type 0} (g : Grammar A) (h : Grammar B) (lg : IsLawful g) (lh : IsLawful h) (t : ℕ) (c : List ℕ)
    (x : A ⊎ B) → IsOne g h x t c → (tag_of_one g h x ≡ t) × WritesAs (contents_of_one g h x) c
either-writes g h lg lh t c (inl a) s = lg.writes t c a s
either-writes g h lg lh t c (inr b) s = lh.writes t c b s

both_plain : (p q : Bool) → (p && q) ≡ true → (p ≡ true) × (q ≡ true)
both_plain true q e = (refl, e)
both_plain false q e = absurd cc

either-same : {A B : Type 0} (g : Grammar A) (h : Grammar B) (lg : IsLawful g) (lh : IsLawful h) (t : ℕ) (c : List ℕ)
    (x : A ⊎ B) → (g.plain && h.plain) ≡ true → IsOne g h x t c → contents_of_one g h x ≡ Ok c
either-same g h lg lh t c (inl a) p s = lg.same t c a (both_plain g.plain h.plain p).0 s
either-same g h lg lh t c (inr b) p s = lh.same t c b (both_plain g.plain h.plain p).1 s

pub either-lawful : {A B : Type 0} (g : Grammar A) (h : Grammar B) → IsLawful g → IsLawful h
    → ((t : ℕ) → h.accepts t ≡ true → g.accepts t ≡ false) → IsLawful (either g h)
either-lawful g h lg lh apart = record {
  tags = λ t e. either-tags (g.accepts t) (h.accepts t) (IsTag t) (lg.tags t) (lh.tags t) e;
  found = λ t c x ok fits e. either-found g h lg lh t c x (g.accepts t) refl ok fits e;
  only = either-only g h lg lh apart;
  written = either-written g h lg lh;
  writes = either-writes g h lg lh;
  same = either-same g h lg lh;
}

-- ---- any type

abbrev pub is_tag : ℕ → Bool
is_tag t = nat_lt t 256 && not (t % 32 == 31)

abbrev pub any : Grammar (ℕ × List ℕ)
any = record {
  accepts = is_tag;
  IsEncoded = λ a t c. (is_tag a.0 ≡ true) × (a.0 ≡ t) × (a.1 ≡ c);
  value = λ t c. Ok (t, c);
  tag = λ a. a.0;
  contents = λ a. if is_tag a.0 then Ok a.1 else Err Value;
  plain = true;
}

and_not : (p q : Bool) → (p && not q) ≡ true → (p ≡ true) × (q ≡ false)
and_not true true e = absurd cc
and_not true false e = (refl, refl)
and_not false q e = absurd cc

pub any-lawful : IsLawful any
any-lawful = record {
  tags = λ t e. let p = and_not (ltb t 256) (eqb (t % 32) 31) e in (ltb-true _ _ p.0, eqb-false _ _ p.1);
  found = λ t c a ok fits e. let is = ok_is (t, c) a e in
      subst (λ (z : ℕ × List ℕ). (is_tag z.0 ≡ true) × (z.0 ≡ t) × (z.1 ≡ c)) is (ok, refl, refl);
  only = λ t c a s. let e0 = s.0 in let e1 = s.1 in let e2 = s.2 in (subst (λ (z : ℕ). is_tag z ≡ true) e1 e0, rw (← e1, ← e2) refl);
  written = λ a c e. let p = passed (is_tag a.0) Value (Ok a.1) c e in (p.0, refl, ok_is a.1 c p.1);
  writes = λ t c a s. let e0 = s.0 in (s.1, (a.1, rw e0 refl, ap length s.2));
  same = λ t c a p s. let e0 = s.0 in rw e0 (ap (λ (z : List ℕ). Ok z) s.2);
}
