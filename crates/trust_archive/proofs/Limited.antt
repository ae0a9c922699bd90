-- Visits that are judged well one after another, and that they are judged so where fewer are allowed.
use Rattle.std.proofs.Common.{◌≡◌, ℕ, suc, ◌+◌, ◌-◌, ◌≤◌, ◌==◌, if◌then◌else◌, List, [], ◌∷◌, length, true, false, Option, Some, None, Ok, refl, sym, ap, ◌∙◌, subst, arith}
use Rattle.std.specs.Prelude.{ok_or}
use Rattle.std.proofs.lemmas.Bool.Decides.{nat_tests}
use Rattle.jiff_core.specs.declared.timestamp.Timestamp as jiff
use Rattle.foundation.specs.Results.{step_ok, ok_same}
use Rattle.foundation.specs.Steps.{◌>>=◌}
use Rattle.sigstore_keys.specs.Crypto.{Crypto}
use Rattle.sigstore_tuf_parts.specs.declared.targets.TargetFile.{TargetFile}
use Rattle.sigstore_tuf_rules.specs.declared.chain.RoleDoc.{RoleDoc}
use Rattle.sigstore_tuf_rules.specs.declared.documents.InForce.{InForce}
use Rattle.sigstore_tuf_rules.specs.declared.visit.Visit.{Visit}
use Rattle.sigstore_tuf_rules.specs.Order.{matching, put_before, unread_of}
use Rattle.trust_archive.specs.declared.error.ArchiveError.TheVariants as archive
use Rattle.trust_archive.specs.Judgement.{Going, at_role, next_of, due_of, adopted_of, document_in, listed_in, delegated_by, or_malformed, followed_of, having_read, read_of, made_of, counting, visited_of}
use Rattle.trust_archive.proofs.Parts.{to}
use Rattle.trust_archive.proofs.Sound.{some_of, unless}

abbrev pub limited : ℕ → Going → Going
limited left g = record g { left = left }

module _ (crypto : Crypto) (now : jiff.Timestamp) (path : List ℕ) where
  -- these roles, from a position on, are judged well
  abbrev pub Comes : ℕ → List RoleDoc → Going → Going → Type 0
  Comes position [] g k = g ≡ k
  Comes position (r ∷ roles) g k = (h : Going) × (visited_of crypto now path position r g ≡ Ok h) × Comes (position + 1) roles h k

  -- the visit is counted, or its document lists the path, so that none is left
  data Counts (m : ℕ) (g h : Going) (left : ℕ) : Type 0 where
    one_less : left ≡ m - 1 → h.left ≡ g.left - 1 → Counts m g h left
    none_left : left ≡ 0 → h.left ≡ 0 → Counts m g h left

  record Made (position : ℕ) (v : Visit) (vs : List Visit) (o : Option (List ℕ)) (m : ℕ) (g h : Going) : Type 0 where
    left : ℕ
    is : made_of crypto now path position v (counting vs (limited m g)) o ≡ Ok (limited left h)
    counts : Counts m g h left

  read_limited : (position : ℕ) (v : Visit) (vs : List Visit) (bytes : List ℕ) (m : ℕ) (g h : Going) → read_of crypto now path position v (counting vs g) bytes ≡ Ok h → Made position v vs (Some bytes) m g h
  unfolding read_of
  read_limited position v vs bytes m g h e = by_entry (listed_in s.0 path v.name) refl s.2
    where
      s : (x : InForce) × (at_role position (adopted_of crypto now g.set v bytes) ≡ Ok x) × (followed_of path position v (having_read x v.name (counting vs g)) (listed_in x path v.name) ≡ Ok h)
      s = step_ok (at_role position (adopted_of crypto now g.set v bytes)) (λ x. followed_of path position v (having_read x v.name (counting vs g)) (listed_in x path v.name)) h e

      follows : (left : ℕ) → followed_of path position v (having_read s.0 v.name (counting vs (limited m g))) (listed_in s.0 path v.name) ≡ Ok (limited left h) → made_of crypto now path position v (counting vs (limited m g)) (Some bytes) ≡ Ok (limited left h)
      follows left k = to (at_role position (adopted_of crypto now g.set v bytes)) (λ x. followed_of path position v (having_read x v.name (counting vs (limited m g))) (listed_in x path v.name)) s.0 s.1 ∙ k

      by_entry : (o : Option TargetFile) → listed_in s.0 path v.name ≡ o → followed_of path position v (having_read s.0 v.name (counting vs g)) o ≡ Ok h → Made position v vs (Some bytes) m g h
      by_entry (Some entry) at k =
          let same : record (having_read s.0 v.name (counting vs g)) { left = 0 } ≡ h = ok_same _ h k in
          record {
            left = 0;
            is = follows 0 (ap (followed_of path position v (having_read s.0 v.name (counting vs (limited m g)))) at ∙ ap (λ (x : Going). Ok (limited 0 x)) same);
            counts = none_left refl (sym (ap (λ (x : Going). x.left) same));
          }
      by_entry None at k =
          let n = step_ok (at_role position (or_malformed (matching path (delegated_by (document_in s.0 v.name))))) (λ next. Ok (record (having_read s.0 v.name (counting vs g)) { pending = put_before v.name next vs })) h k in
          let same : record (having_read s.0 v.name (counting vs g)) { pending = put_before v.name n.0 vs } ≡ h = ok_same _ h n.2 in
          record {
            left = m - 1;
            is = follows (m - 1)
                (ap (followed_of path position v (having_read s.0 v.name (counting vs (limited m g)))) at
                ∙ to (at_role position (or_malformed (matching path (delegated_by (document_in s.0 v.name))))) (λ next. Ok (record (having_read s.0 v.name (counting vs (limited m g))) { pending = put_before v.name next vs })) n.0 n.1
                ∙ ap (λ (x : Going). Ok (limited (m - 1) x)) same);
            counts = one_less refl (sym (ap (λ (x : Going). x.left) same));
          }

  made_limited : (position : ℕ) (v : Visit) (vs : List Visit) (o : Option (List ℕ)) (m : ℕ) (g h : Going) → made_of crypto now path position v (counting vs g) o ≡ Ok h → Made position v vs o m g h
  made_limited position v vs None m g h e = subst (Made position v vs None m g) (ok_same (counting vs g) h e) (record { left = m - 1; is = refl; counts = one_less refl refl })
  made_limited position v vs (Some bytes) m g h e = read_limited position v vs bytes m g h e

  -- ---- one visit

  record Limits (position : ℕ) (r : RoleDoc) (m : ℕ) (g h : Going) : Type 0 where
    left : ℕ
    is : visited_of crypto now path position r (limited m g) ≡ Ok (limited left h)
    allowed : (g.left == 0) ≡ false
    counts : Counts m g h left

  visited_limited : (position : ℕ) (r : RoleDoc) (m : ℕ) (g h : Going) → (m == 0) ≡ false → visited_of crypto now path position r g ≡ Ok h → Limits position r m g h
  unfolding visited_of
  visited_limited position r m g h some e =
      let n = step_ok (ok_or (next_of g) (archive.Order position)) (λ next. due_of position g.set next.0 r >>= λ _. made_of crypto now path position next.0 (counting next.1 g) r.bytes) h e in
      let d = step_ok (due_of position g.set n.0.0 r) (λ _. made_of crypto now path position n.0.0 (counting n.0.1 g) r.bytes) h n.2 in
      let u = unless (g.left == 0) (unread_of g.read g.pending) n.0 (some_of (next_of g) (archive.Order position) n.0 n.1) in
      let k = made_limited position n.0.0 n.0.1 r.bytes m g h d.2 in
      record {
        left = k.left;
        is = to (ok_or (next_of (limited m g)) (archive.Order position)) (λ next. due_of position g.set next.0 r >>= λ _. made_of crypto now path position next.0 (counting next.1 (limited m g)) r.bytes) n.0
            (ap (λ b. ok_or (if b then None else unread_of g.read g.pending) (archive.Order position)) some ∙ ap (λ o. ok_or o (archive.Order position)) u.1)
            ∙ to (due_of position g.set n.0.0 r) (λ _. made_of crypto now path position n.0.0 (counting n.0.1 (limited m g)) r.bytes) d.0 d.1 ∙ k.is;
        allowed = u.0;
        counts = k.counts;
      }

  none_allowed : {C : Type 0} (position : ℕ) (r : RoleDoc) (g h : Going) → g.left ≡ 0 → visited_of crypto now path position r g ≡ Ok h → C
  none_allowed position r g h none e =
      let l = visited_limited position r 1 g h refl e in
      let never : true ≡ false = sym (ap (λ n. n == 0) none) ∙ l.allowed in cc

  -- ---- all of them

  -- so many were counted, or the last document lists the path, so that none is left
  pub data Counted (number m : ℕ) (g k : Going) (left : ℕ) : Type 0 where
    so_many : left + number ≡ m → k.left + number ≡ g.left → Counted number m g k left
    listed_last : left ≡ 0 → k.left ≡ 0 → Counted number m g k left

  pub record Limited (from : ℕ) (roles : List RoleDoc) (m : ℕ) (g k : Going) : Type 0 where
    pub left : ℕ
    pub comes : Comes from roles (limited m g) (limited left k)
    pub counted : Counted (length roles) m g k left

  -- nothing is visited behind the end
  at_end : (from : ℕ) (roles : List RoleDoc) (left : ℕ) (h k : Going) → h.left ≡ 0 → Comes from roles h k → Comes from roles (limited left h) (limited left k) × (k.left ≡ 0)
  at_end from [] left h k none c = (ap (limited left) c, sym (ap (λ (x : Going). x.left) c) ∙ none)
  at_end from (r ∷ roles) left h k none (x, v, c) = none_allowed from r h x none v

  more_counted : (number m : ℕ) (g h k : Going) (left : ℕ) → suc number ≤ m → (g.left == 0) ≡ false → h.left ≡ g.left - 1 → Counted number (m - 1) h k left → Counted (suc number) m g k left
  more_counted number m g h k left fits allowed less (so_many a b) = so_many (omega (arith, a, fits)) (grind (arith, nat_tests, b, less, allowed))
  more_counted number m g h k left fits allowed less (listed_last a b) = listed_last a b

  one_before : (r : RoleDoc) (roles : List RoleDoc) (from m : ℕ) (g h k : Going) → suc (length roles) ≤ m → visited_of crypto now path from r g ≡ Ok h → Comes (from + 1) roles h k → Limited (from + 1) roles (m - 1) h k → Limited from (r ∷ roles) m g k
  one_before r roles from m g h k fits v c n = by_counts l.counts
    where
      some : (m == 0) ≡ false
      some = grind (arith, nat_tests, fits)

      l : Limits from r m g h
      l = visited_limited from r m g h some v

      by_counts : Counts m g h l.left → Limited from (r ∷ roles) m g k
      by_counts (one_less is less) = record {
        left = n.left;
        comes = (limited (m - 1) h, subst (λ x. visited_of crypto now path from r (limited m g) ≡ Ok (limited x h)) is l.is, n.comes);
        counted = more_counted (length roles) m g h k n.left fits l.allowed less n.counted;
      }
      by_counts (none_left is none) =
          let e = at_end (from + 1) roles l.left h k none c in
          record { left = l.left; comes = (limited l.left h, l.is, e.0); counted = listed_last is e.1 }

  pub comes_limited : (roles : List RoleDoc) (from m : ℕ) (g k : Going) → length roles ≤ m → Comes from roles g k → Limited from roles m g k
  comes_limited [] from m g k fits c =
      let same : g.left ≡ k.left = ap (λ (x : Going). x.left) c in
      record { left = m; comes = ap (limited m) c; counted = so_many (omega arith) (omega (arith, same)) }
  comes_limited (r ∷ roles) from m g k fits (h, v, c) = one_before r roles from m g h k fits v c (comes_limited roles (from + 1) (m - 1) h k (omega (arith, fits)) c)
