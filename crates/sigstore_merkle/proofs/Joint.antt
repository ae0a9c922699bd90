-- Two climbs at once.
use Rattle.std.proofs.Common.{◌≡◌, ◌≢◌, ℕ, suc, ◌+◌, ◌-◌, ◌/◌, ◌^◌, ◌<◌, Bool, true, false, cond, List, [], ◌∷◌, length, reverse, take, get_or, Option, Some, None, refl, sym, ◌∙◌, ap, subst, arith}
use Rattle.std.specs.Prelude.{bytes_eq}
use Rattle.std.specs.Option.{unwrap_or}
use Rattle.std.proofs.lemmas.Bool.{cond-false}
use Rattle.std.proofs.lemmas.List.{length-reverse, take_all}
use Rattle.sha2.specs.Sha256.{sha256}
use Rattle.sigstore_merkle.specs.Tree.{leaf_input, leaf_hash, root_from, IsPathLength}
use Rattle.sigstore_merkle.specs.Climb.{side_at, node_at, input_at}
use Rattle.sigstore_merkle.specs.Differing.{higher_of, inputs_at, pair_of}
use Rattle.sigstore_merkle.specs.Collision.{IsCollision, digest_of, inputs_down, first_difference, shown_by, DifferAtFirst, IsComparable, IsShown}
use Rattle.sigstore_merkle.specs.declared.side.Side.{Side}
use Rattle.sigstore_merkle.specs.declared.collision.Inclusion.{Inclusion}
use Rattle.sigstore_merkle.specs.declared.collision.Collision.{Collision}
use Rattle.sigstore_merkle.specs.declared.together.Together.{Together}
use Rattle.sigstore_merkle.proofs.Sides.{sides}
use Rattle.sigstore_merkle.proofs.Roots.{root_descends, length_of}
use Rattle.sigstore_merkle.proofs.Ways.{Way, way_start, way_some, way_none, way_end, way_more, way_bound, reverse_more}
use Rattle.sigstore_merkle.proofs.Inputs.{leaves_differ, node_is}
use Rattle.sigstore_merkle.proofs.Trails.{trail, length_digest, descend_trail, inputs_trail, found}

pub record Joint (index size : ℕ) (a b : List ℕ) (p q : List (List ℕ)) (at last next : ℕ) (x y : List ℕ) (differing : Option (List ℕ × List ℕ)) : Type 0 where
  pub passed : List Side
  pub way : Way index size at last passed
  pub count : length passed ≡ next
  pub a_is : x ≡ digest_of (trail a passed (reverse (take next p)))
  pub b_is : y ≡ digest_of (trail b passed (reverse (take next q)))
  pub first : first_difference (trail a passed (reverse (take next p))) (trail b passed (reverse (take next q))) ≡ Some (shown_by a b differing)

pub joint_start : (index size : ℕ) (a b : List ℕ) (p q : List (List ℕ)) → index < size → a ≢ b → Joint index size a b p q index (size - 1) 0 (leaf_hash a) (leaf_hash b) None
unfolding trail first_difference
joint_start index size a b p q inside ne =
    record {
      passed = [];
      way = way_start index size inside;
      count = refl;
      a_is = refl;
      b_is = refl;
      first = cond-false (bytes_eq (leaf_input a) (leaf_input b)) None (Some (leaf_input a, leaf_input b)) (leaves_differ a b ne);
    }

shown_higher : (t : Bool) (d : Option (List ℕ × List ℕ)) (pair leaves : List ℕ × List ℕ) → cond t (Some (unwrap_or d leaves)) (Some pair) ≡ Some (unwrap_or (cond t d (Some pair)) leaves)
shown_higher true d pair leaves = refl
shown_higher false d pair leaves = refl

trail_more : (a : List ℕ) (passed : List Side) (side : Side) (p : List (List ℕ)) (next : ℕ) (d x : List ℕ) → next < length p → x ≡ digest_of (trail a passed (reverse (take next p))) → trail a (side ∷ passed) (reverse (take (next + 1) p)) ≡ input_at side x (get_or p next d) ∷ trail a passed (reverse (take next p))
unfolding trail
trail_more a passed side p next d x h e = rw (reverse_more p next d h, e)

first_more : (u v : List ℕ) (us vs : List (List ℕ)) (d : Option (List ℕ × List ℕ)) (a b : List ℕ) → first_difference us vs ≡ Some (shown_by a b d) → first_difference (u ∷ us) (v ∷ vs) ≡ Some (shown_by a b (higher_of (u, v) d))
unfolding first_difference
first_more u v us vs d a b e = rw e (shown_higher (bytes_eq u v) d (u, v) (leaf_input a, leaf_input b))

pub joint_some : (index size : ℕ) (a b : List ℕ) (p q : List (List ℕ)) (at last next : ℕ) (x y : List ℕ) (differing : Option (List ℕ × List ℕ)) (side : Side) (v w : List ℕ) → Joint index size a b p q at last next x y differing → last < 2 ^ 64 → length p ≡ length (sides 64 index (size - 1)) → length q ≡ length (sides 64 index (size - 1)) → side_at at last ≡ Some side → Joint index size a b p q (at / 2) (last / 2) (next + 1) (node_at side x (get_or p next v)) (node_at side y (get_or q next w)) (higher_of (inputs_at side x (get_or p next v) y (get_or q next w)) differing)
joint_some index size a b p q at last next x y differing side v w j fits shape_p shape_q e =
    let count = j.count in
    let more = way_more index size at last j.passed side j.way fits e in
    let one = trail_more a j.passed side p next v x (omega arith) j.a_is in
    let two = trail_more b j.passed side q next w y (omega arith) j.b_is in
    record {
      passed = side ∷ j.passed;
      way = way_some index size at last j.passed side j.way fits e;
      count = omega arith;
      a_is = node_is side x (get_or p next v) ∙ sym (ap digest_of one);
      b_is = node_is side y (get_or q next w) ∙ sym (ap digest_of two);
      first = rw (one, two) (first_more _ _ _ _ differing a b j.first);
    }

pub joint_none : (index size : ℕ) (a b : List ℕ) (p q : List (List ℕ)) (at last next : ℕ) (x y : List ℕ) (differing : Option (List ℕ × List ℕ)) → Joint index size a b p q at last next x y differing → last < 2 ^ 64 → side_at at last ≡ None → Joint index size a b p q (at / 2) (last / 2) next x y differing
joint_none index size a b p q at last next x y differing j fits e =
    record { passed = j.passed; way = way_none index size at last j.passed j.way fits e; count = j.count; a_is = j.a_is; b_is = j.b_is; first = j.first }

pub joint_more : (index size : ℕ) (a b : List ℕ) (p q : List (List ℕ)) (at last next : ℕ) (x y : List ℕ) (differing : Option (List ℕ × List ℕ)) (side : Side) → Joint index size a b p q at last next x y differing → last < 2 ^ 64 → side_at at last ≡ Some side → (next < length (sides 64 index (size - 1))) × (next < 65)
joint_more index size a b p q at last next x y differing side j fits e =
    let count = j.count in
    let more = way_more index size at last j.passed side j.way fits e in
    let bound = way_bound index size at last j.passed j.way in
    (omega arith, omega arith)

pub joint_lengths : (index size : ℕ) (a b : List ℕ) (p q : List (List ℕ)) (at last next : ℕ) (x y : List ℕ) (differing : Option (List ℕ × List ℕ)) → Joint index size a b p q at last next x y differing → length x ≡ length y
joint_lengths index size a b p q at last next x y differing j = ap length j.a_is ∙ (length_digest a j.passed (reverse (take next p)) ∙ sym (ap length j.b_is ∙ length_digest b j.passed (reverse (take next q))))

-- the root, the inputs and the first difference by the splits of the tree
pub record Ends (index size : ℕ) (a b : List ℕ) (p q : List (List ℕ)) (x y : List ℕ) (differing : Option (List ℕ × List ℕ)) : Type 0 where
  pub a_root : root_from (leaf_hash a) index size p ≡ Some x
  pub b_root : root_from (leaf_hash b) index size q ≡ Some y
  pub first : first_difference (inputs_down a index size (reverse p)) (inputs_down b index size (reverse q)) ≡ Some (shown_by a b differing)
  pub collides : x ≡ y → IsCollision (shown_by a b differing).0 (shown_by a b differing).1

pub root_trail : (index size : ℕ) (a : List ℕ) (p : List (List ℕ)) → index < size → size < 2 ^ 64 → length p ≡ length (sides 64 index (size - 1)) → root_from (leaf_hash a) index size p ≡ Some (digest_of (trail a (reverse (sides 64 index (size - 1))) (reverse p)))
root_trail index size a p inside fits shape =
    root_descends (leaf_hash a) index size p inside fits
    ∙ descend_trail a (reverse (sides 64 index (size - 1))) (reverse p) (length-reverse p ∙ (shape ∙ sym (length-reverse _)))

pub inputs_are : (index size : ℕ) (a : List ℕ) (p : List (List ℕ)) → index < size → size < 2 ^ 64 → length p ≡ length (sides 64 index (size - 1)) → inputs_down a index size (reverse p) ≡ trail a (reverse (sides 64 index (size - 1))) (reverse p)
inputs_are index size a p inside fits shape =
    let whole : suc (size - 1) ≡ size = omega arith in
    rw whole at (inputs_trail (reverse p) a 64 index (size - 1) (omega arith) (omega arith) (length-reverse p ∙ (shape ∙ sym (length-reverse _))))

pub joint_end : (index size : ℕ) (a b : List ℕ) (p q : List (List ℕ)) (at last next : ℕ) (x y : List ℕ) (differing : Option (List ℕ × List ℕ)) → Joint index size a b p q at last next x y differing → last ≡ 0 → index < size → size < 2 ^ 64 → length p ≡ length (sides 64 index (size - 1)) → length q ≡ length (sides 64 index (size - 1)) → Ends index size a b p q x y differing
joint_end index size a b p q at last next x y differing j e inside fits shape_p shape_q =
    let done = way_end index size at last j.passed j.way e in
    let count = j.count in
    let both = length-reverse (sides 64 index (size - 1)) in
    let all : length (reverse (sides 64 index (size - 1))) ≡ length j.passed = ap length done in
    let whole_p : take next p ≡ p = take_all next p (omega arith) in
    let whole_q : take next q ≡ q = take_all next q (omega arith) in
    let a_is : x ≡ digest_of (trail a j.passed (reverse p)) = rw whole_p at j.a_is in
    let b_is : y ≡ digest_of (trail b j.passed (reverse q)) = rw whole_q at j.b_is in
    let first : first_difference (trail a j.passed (reverse p)) (trail b j.passed (reverse q)) ≡ Some (shown_by a b differing) = rw (whole_p, whole_q) at j.first in
    record {
      a_root = root_trail index size a p inside fits shape_p ∙ rw (done, ← a_is) refl;
      b_root = root_trail index size b q inside fits shape_q ∙ rw (done, ← b_is) refl;
      first = rw (inputs_are index size a p inside fits shape_p, inputs_are index size b q inside fits shape_q, done) first;
      collides = λ same. found j.passed (reverse p) (reverse q) a b (omega (arith, length-reverse p)) (omega (arith, length-reverse q)) _ _ first (sym a_is ∙ (same ∙ b_is));
    }

-- ---- over inclusions

pub shape_like : (a b : Inclusion) (items : List (List ℕ)) → items ≡ b.hashes → a.index ≡ b.index → a.size ≡ b.size → a.index < a.size → a.size < 2 ^ 64 → IsPathLength b.index b.size (length b.hashes) → length items ≡ length (sides 64 a.index (a.size - 1))
shape_like a b items e index size inside fits is =
    rw (e, index, size) (length_of b.index b.size b.hashes (omega arith) (omega arith) is)

pub differ_at_first : (a b : Inclusion) (p q : List (List ℕ)) (t : Together) → p ≡ a.hashes → q ≡ b.hashes → a.index ≡ b.index → a.size ≡ b.size → Ends a.index a.size a.body b.body p q t.a t.b (pair_of t.differing) → DifferAtFirst a b t
differ_at_first a b p q t e f index size ends =
    record {
      a_root = rw e at ends.a_root;
      b_root = rw (f, index, size) at ends.b_root;
      first = subst (λ (i : ℕ). first_difference (inputs_down a.body a.index a.size (reverse a.hashes)) (inputs_down b.body i b.size (reverse b.hashes)) ≡ Some (shown_by a.body b.body (pair_of t.differing))) index
          (subst (λ (n : ℕ). first_difference (inputs_down a.body a.index a.size (reverse a.hashes)) (inputs_down b.body a.index n (reverse b.hashes)) ≡ Some (shown_by a.body b.body (pair_of t.differing))) size
          (rw (e, f) at ends.first));
      collides = ends.collides;
    }

pub shown_is : (a b : Inclusion) (t : Together) (c : Collision) (x y : List ℕ) → IsComparable a b → DifferAtFirst a b t → t.a ≡ t.b → x ≡ a.body → y ≡ b.body → (c.left, c.right) ≡ shown_by x y (pair_of t.differing) → IsShown a b c
shown_is a b t c x y comparable d same e f is =
    let pair : (c.left, c.right) ≡ shown_by a.body b.body (pair_of t.differing) = rw (e, f) at is in
    let collides = d.collides same in
    record {
      comparable = comparable;
      roots = d.a_root ∙ (ap (λ (h : List ℕ). Some h) same ∙ sym d.b_root);
      first = d.first ∙ ap (λ (p : List ℕ × List ℕ). Some p) (sym pair);
      different = λ equal. collides.0 (sym (ap (λ (p : List ℕ × List ℕ). p.0) pair) ∙ (equal ∙ ap (λ (p : List ℕ × List ℕ). p.1) pair));
      one_value = ap (λ (p : List ℕ × List ℕ). sha256 p.0) pair ∙ (collides.1 ∙ sym (ap (λ (p : List ℕ × List ℕ). sha256 p.1) pair));
    }
