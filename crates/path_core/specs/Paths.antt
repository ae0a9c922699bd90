-- Paths of certificates from a leaf to an anchor, and the first of them (RFC 5280, section 6).
use Rattle.std.specs.Prelude.{◌≡◌, ◌⊎◌, ℕ, ◌<◌, ◌≤◌, List, [], ◌∷◌}
use Rattle.std.specs.Prelude.{◌++◌, map, length, slice_get, Option, Some, None, Ok, IsTrue}
use Rattle.std.specs.Option.{option_map}
use Rattle.jiff_core.specs.declared.timestamp.Timestamp.{Timestamp}
use Rattle.sigstore_keys.specs.Good.{Judge}
use Rattle.path_core.specs.declared.purpose.Purpose.{Purpose}
use Rattle.path_core.specs.declared.route.Route.{Route}
use Rattle.path_core.specs.declared.route.FoundPath.{FoundPath}
use Rattle.path_core.specs.Anchors.{TrustAnchor, opens}
use Rattle.path_core.specs.Links.{links, spki_of}
use Rattle.path_core.specs.Traits.{leaf_of, fits}

-- a certificate as its bytes
abbrev pub Encoding : Type 0
Encoding = List ℕ

-- who decides signatures, what for and when, and the certificates at hand
pub record Setting : Type 0 where
  pub accepts : Judge
  pub purpose : Purpose
  pub at : Timestamp
  pub leaf : Encoding
  pub intermediates : List Encoding
  pub anchors : List TrustAnchor

abbrev pub setting : Judge → Encoding → List Encoding → List TrustAnchor → Purpose → Timestamp → Setting
setting accepts leaf intermediates anchors purpose at =
    record { accepts = accepts; purpose = purpose; at = at; leaf = leaf; intermediates = intermediates; anchors = anchors }

-- the leaf and the certificates behind it are a path: at most six intermediates, and an anchor
pub record IsPath (w : Setting) (p : Route) : Type 0 where
  pub leaf : leaf_of w.purpose w.leaf ≡ Ok tt
  pub few : length p.positions ≤ 6
  pub between : List Encoding
  pub anchor : TrustAnchor
  pub stand : map (slice_get w.intermediates) p.positions ≡ map Some between
  pub stands : slice_get w.anchors p.anchor ≡ Some anchor
  -- each intermediate may stand above those below it
  pub fit : (k : ℕ) (c : Encoding) → slice_get between k ≡ Some c → IsTrue (fits w.purpose w.at k c)
  -- each certificate was issued by the next
  pub linked : (k : ℕ) (c issuer : Encoding) → slice_get (w.leaf ∷ between ++ anchor.certificate ∷ []) k ≡ Some c
      → slice_get (between ++ anchor.certificate ∷ []) k ≡ Some issuer → IsTrue (links w.accepts c issuer)
  pub open_then : IsTrue (opens w.at anchor)

-- of two lists of one length: in order by positions, then by anchor
abbrev pub InOrder : List ℕ → ℕ → List ℕ → ℕ → Type 0
InOrder [] a [] b = a ≤ b
InOrder [] a (j ∷ q) b = ⊥
InOrder (i ∷ p) a [] b = ⊥
InOrder (i ∷ p) a (j ∷ q) b = (i < j) ⊎ ((i ≡ j) × InOrder p a q b)

-- in order by number of positions, then by positions, then by anchor
abbrev pub AtMost : Route → Route → Type 0
AtMost p q =
    (length p.positions < length q.positions)
    ⊎ ((length p.positions ≡ length q.positions) × InOrder p.positions p.anchor q.positions q.anchor)

-- a path that no path is before
pub record First (w : Setting) (p : Route) : Type 0 where
  pub path : IsPath w p
  pub least : (q : Route) → IsPath w q → AtMost p q

-- ---- what is answered

abbrev pub route_of : FoundPath → Route
route_of p = record { positions = p.positions; anchor = p.anchor }

abbrev pub follows_leaf : Setting → List ℕ → ℕ → Option Encoding
follows_leaf w [] a = option_map (λ anchor. anchor.certificate) (slice_get w.anchors a)
follows_leaf w (i ∷ rest) a = slice_get w.intermediates i

abbrev pub spki_at : Option Encoding → List ℕ
spki_at None = []
spki_at (Some bytes) = spki_of bytes

-- the first path, with the key of the certificate that follows the leaf
pub record IsFound (w : Setting) (p : FoundPath) : Type 0 where
  pub first : First w (route_of p)
  pub key : p.issuer_spki ≡ spki_at (follows_leaf w p.positions p.anchor)
