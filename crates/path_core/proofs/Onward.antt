-- Paths by recursion on their positions, which are those by their certificates.
use Rattle.std.proofs.Common.{◌≡◌, ℕ, zero, suc, ◌+◌, ◌≤◌, Bool, List, [], ◌∷◌, ◌++◌, map, length, Some, Ok, IsTrue, refl, ◌∙◌, ap, subst, arith}
use Rattle.std.specs.Prelude.{slice_get}
use Rattle.std.proofs.lemmas.Option.{none-some, same_Some}
use Rattle.path_core.specs.declared.route.Route.{Route}
use Rattle.path_core.specs.Paths.{Encoding, Setting, IsPath}
use Rattle.path_core.specs.Anchors.{TrustAnchor, opens}
use Rattle.path_core.specs.Links.{links}
use Rattle.path_core.specs.Traits.{leaf_of, fits}

-- position i has an intermediate that follows `from` and may stand above `below` others
pub record Follows (w : Setting) (from : Encoding) (below i : ℕ) (next : Encoding) : Type 0 where
  pub stands : slice_get w.intermediates i ≡ Some next
  pub fit : IsTrue (fits w.purpose w.at below next)
  pub linked : IsTrue (links w.accepts from next)

-- position a has an open anchor that follows `from`
pub record Ends (w : Setting) (from : Encoding) (a : ℕ) (anchor : TrustAnchor) : Type 0 where
  pub stands : slice_get w.anchors a ≡ Some anchor
  pub open_then : IsTrue (opens w.at anchor)
  pub linked : IsTrue (links w.accepts from anchor.certificate)

-- the certificates at these positions, the first of them above `below` intermediates, lead from `from` to anchor a
abbrev pub Leads : Setting → Encoding → ℕ → List ℕ → ℕ → Type 0
Leads w from below [] a = (anchor : TrustAnchor) × Ends w from a anchor
Leads w from below (i ∷ rest) a = (next : Encoding) × Follows w from below i next × Leads w next (below + 1) rest a

-- the same by recursion on the positions
pub record IsPathOnward (w : Setting) (p : Route) : Type 0 where
  pub leaf : leaf_of w.purpose w.leaf ≡ Ok tt
  pub few : length p.positions ≤ 6
  pub leads : Leads w w.leaf 0 p.positions p.anchor

-- what a path says from a certificate on
record Line (w : Setting) (from : Encoding) (below : ℕ) (positions : List ℕ) (a : ℕ) : Type 0 where
  between : List Encoding
  anchor : TrustAnchor
  stand : map (slice_get w.intermediates) positions ≡ map Some between
  stands : slice_get w.anchors a ≡ Some anchor
  fit : (k : ℕ) (c : Encoding) → slice_get between k ≡ Some c → IsTrue (fits w.purpose w.at (below + k) c)
  linked : (k : ℕ) (c issuer : Encoding) → slice_get (from ∷ between ++ anchor.certificate ∷ []) k ≡ Some c → slice_get (between ++ anchor.certificate ∷ []) k ≡ Some issuer → IsTrue (links w.accepts c issuer)
  open_then : IsTrue (opens w.at anchor)

same_cons : {X : Type 0} (x y : X) (xs ys : List X) → x ∷ xs ≡ y ∷ ys → (x ≡ y) × (xs ≡ ys)
same_cons x y xs ys e = (cc, cc)

leads_from : (w : Setting) (from : Encoding) (below : ℕ) (positions : List ℕ) (a : ℕ) (between : List Encoding) (anchor : TrustAnchor)
    → map (slice_get w.intermediates) positions ≡ map Some between → slice_get w.anchors a ≡ Some anchor
    → ((k : ℕ) (c : Encoding) → slice_get between k ≡ Some c → IsTrue (fits w.purpose w.at (below + k) c))
    → ((k : ℕ) (c issuer : Encoding) → slice_get (from ∷ between ++ anchor.certificate ∷ []) k ≡ Some c → slice_get (between ++ anchor.certificate ∷ []) k ≡ Some issuer → IsTrue (links w.accepts c issuer))
    → IsTrue (opens w.at anchor) → Leads w from below positions a
leads_from w from below [] a [] anchor stand stands fit linked opened = (anchor, record { stands = stands; open_then = opened; linked = linked 0 from anchor.certificate refl refl })
leads_from w from below [] a (x ∷ between) anchor stand stands fit linked opened = cc
leads_from w from below (i ∷ rest) a [] anchor stand stands fit linked opened = cc
leads_from w from below (i ∷ rest) a (x ∷ between) anchor stand stands fit linked opened =
    let parts = same_cons (slice_get w.intermediates i) (Some x) (map (slice_get w.intermediates) rest) (map Some between) stand in
    let here : below + 0 ≡ below = omega arith in (
      x,
      record { stands = parts.0; fit = subst (λ k. IsTrue (fits w.purpose w.at k x)) here (fit 0 x refl); linked = linked 0 from x refl refl },
      leads_from w x (below + 1) rest a between anchor parts.1 stands
          (λ k c at. let later : below + suc k ≡ below + 1 + k = omega arith in subst (λ k. IsTrue (fits w.purpose w.at k c)) later (fit (suc k) c at))
          (λ k c issuer one two. linked (suc k) c issuer one two)
          opened,
    )

pub onward_from : (w : Setting) (p : Route) → IsPath w p → IsPathOnward w p
onward_from w p path = record {
  leaf = path.leaf;
  few = path.few;
  leads = leads_from w w.leaf 0 p.positions p.anchor path.between path.anchor path.stand path.stands
      (λ k c at. let plain : k ≡ 0 + k = omega arith in subst (λ k. IsTrue (fits w.purpose w.at k c)) plain (path.fit k c at)) path.linked path.open_then;
}

fit_on : (w : Setting) (below : ℕ) (x : Encoding) (between : List Encoding) → IsTrue (fits w.purpose w.at below x) → ((k : ℕ) (c : Encoding) → slice_get between k ≡ Some c → IsTrue (fits w.purpose w.at (below + 1 + k) c))
    → (k : ℕ) (c : Encoding) → slice_get (x ∷ between) k ≡ Some c → IsTrue (fits w.purpose w.at (below + k) c)
fit_on w below x between first others zero c at =
    let here : below ≡ below + 0 = omega arith in
    subst (λ k. IsTrue (fits w.purpose w.at k c)) here (subst (λ x. IsTrue (fits w.purpose w.at below x)) (same_Some x c at) first)
fit_on w below x between first others (suc k) c at =
    let later : below + 1 + k ≡ below + suc k = omega arith in
    subst (λ k. IsTrue (fits w.purpose w.at k c)) later (others k c at)

linked_on : (link : Encoding → Encoding → Bool) (from x : Encoding) (line : List Encoding) → IsTrue (link from x)
    → ((k : ℕ) (c issuer : Encoding) → slice_get (x ∷ line) k ≡ Some c → slice_get line k ≡ Some issuer → IsTrue (link c issuer))
    → (k : ℕ) (c issuer : Encoding) → slice_get (from ∷ x ∷ line) k ≡ Some c → slice_get (x ∷ line) k ≡ Some issuer → IsTrue (link c issuer)
linked_on link from x line first others zero c issuer one two = subst (λ issuer. IsTrue (link c issuer)) (same_Some x issuer two) (subst (λ c. IsTrue (link c x)) (same_Some from c one) first)
linked_on link from x line first others (suc k) c issuer one two = others k c issuer one two

none_linked : (link : Encoding → Encoding → Bool) (x : Encoding) (k : ℕ) (c issuer : Encoding) → slice_get (x ∷ []) k ≡ Some c → slice_get [] k ≡ Some issuer → IsTrue (link c issuer)
none_linked link x k c issuer one two = absurd (none-some issuer two)

line_from : (w : Setting) (from : Encoding) (below : ℕ) (positions : List ℕ) (a : ℕ) → Leads w from below positions a → Line w from below positions a
line_from w from below [] a (anchor, e) = record {
  between = [];
  anchor = anchor;
  stand = refl;
  stands = e.stands;
  fit = λ k c at. absurd (none-some c at);
  linked = linked_on (links w.accepts) from anchor.certificate [] e.linked (none_linked (links w.accepts) anchor.certificate);
  open_then = e.open_then;
}
line_from w from below (i ∷ rest) a (next, f, leads) =
    let line = line_from w next (below + 1) rest a leads in
    record {
      between = next ∷ line.between;
      anchor = line.anchor;
      stand = ap (λ o. o ∷ map (slice_get w.intermediates) rest) f.stands ∙ ap (λ os. Some next ∷ os) line.stand;
      stands = line.stands;
      fit = fit_on w below next line.between f.fit line.fit;
      linked = linked_on (links w.accepts) from next (line.between ++ line.anchor.certificate ∷ []) f.linked line.linked;
      open_then = line.open_then;
    }

pub path_from : (w : Setting) (p : Route) → IsPathOnward w p → IsPath w p
path_from w p path =
    let line = line_from w w.leaf 0 p.positions p.anchor path.leads in
    record {
      leaf = path.leaf;
      few = path.few;
      between = line.between;
      anchor = line.anchor;
      stand = line.stand;
      stands = line.stands;
      fit = λ k c at. let plain : 0 + k ≡ k = omega arith in subst (λ k. IsTrue (fits w.purpose w.at k c)) plain (line.fit k c at);
      linked = line.linked;
      open_then = line.open_then;
    }
