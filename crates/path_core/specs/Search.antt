-- The search: the best path of each length, and what the ways of a level find.
use Rattle.std.specs.Prelude.{◌≡◌, ℕ, zero, suc, ◌+◌, ◌-◌, Bool, true, false, ◌&&◌, nat_lt, ◌==◌, if◌then◌else◌}
use Rattle.std.specs.Prelude.{List, [], ◌∷◌, ◌++◌, length, slice_get, slice_index_or, Option, Some, None}
use Rattle.std.specs.List.{list_any}
use Rattle.std.specs.Option.{option_map, option_or, option_map_or}
use Rattle.sigstore_keys.specs.Good.{Judge}
use Rattle.path_core.specs.declared.given.PathInputs.{PathInputs}
use Rattle.path_core.specs.declared.request.PathRequest.{PathRequest}
use Rattle.path_core.specs.declared.route.Route.{Route}
use Rattle.path_core.specs.declared.way.Way.{Way}
use Rattle.path_core.specs.Anchors.{opens}
use Rattle.path_core.specs.Links.{links}
use Rattle.path_core.specs.Paths.{Encoding, Setting, setting}
use Rattle.path_core.specs.Traits.{fits}

abbrev pub setting_of : {C : Type 0} → (C → Judge) → PathInputs C → Setting
setting_of accepts given = record {
  accepts = accepts given.provider.now;
  purpose = given.purpose;
  at = given.at;
  leaf = given.leaf.now;
  intermediates = given.intermediates.now;
  anchors = given.anchors.now;
}

abbrev pub setting_for : {C : Type 0} → (C → Judge) → PathRequest C → Setting
setting_for accepts request =
    setting (accepts request.provider.now) request.leaf.now request.intermediates.now request.anchors.now request.purpose request.at

-- a source is an intermediate by its position, or the leaf from their number on
abbrev pub source_at : Setting → ℕ → Encoding
source_at w s = slice_index_or w.intermediates s w.leaf

abbrev pub anchor_at : Setting → ℕ → Encoding
anchor_at w a = option_map_or (λ anchor. anchor.certificate) (slice_get w.anchors a) w.leaf

-- a target is an intermediate by its position, and then an anchor
abbrev pub target_at : Setting → ℕ → Encoding
target_at w t = if nat_lt t (length w.intermediates) then source_at w t else anchor_at w (t - length w.intermediates)

unfoldable pub judgement : Setting → ℕ → ℕ → Bool
judgement w s t = links w.accepts (source_at w s) (target_at w t)

-- the intermediate at i follows the source and may stand above `below` others
unfoldable pub goes : Setting → ℕ → ℕ → ℕ → Bool
goes w below s i = fits w.purpose w.at below (source_at w i) && judgement w s i

-- the anchor at a is open and follows the source
unfoldable pub ends : Setting → ℕ → ℕ → Bool
ends w s a = option_map_or (opens w.at) (slice_get w.anchors a) false && judgement w s (length w.intermediates + a)

-- the first answer over `count` numbers from i on
abbrev pub first_from : {X : Type 0} → (ℕ → Option X) → ℕ → ℕ → Option X
first_from f i zero = None
first_from f i (suc count) = option_or (f i) (first_from f (i + 1) count)

abbrev pub through : ℕ → Route → Route
through i p = record { positions = i ∷ p.positions; anchor = p.anchor }

abbrev pub after : List ℕ → Route → Route
after positions p = record { positions = positions ++ p.positions; anchor = p.anchor }

-- the path without intermediates to the anchor at a, if the source has it
abbrev pub at_anchor : Setting → ℕ → ℕ → Option Route
at_anchor w s a = if ends w s a then Some (record { positions = []; anchor = a }) else None

-- the best path of r intermediates from a source on
unfoldable pub best : Setting → ℕ → ℕ → ℕ → Option Route
best w zero below s = first_from (at_anchor w s) 0 (length w.anchors)
best w (suc r) below s =
    first_from (λ i. if goes w below s i then option_map (through i) (best w r (below + 1) i) else None) 0 (length w.intermediates)

-- the best path of r more intermediates over a way
unfoldable pub over : Setting → ℕ → ℕ → Way → Option Route
over w r below way = option_map (after way.positions) (best w r below way.source)

-- that of the first way that has one
abbrev pub over_ways : Setting → ℕ → ℕ → List Way → Option Route
over_ways w r below [] = None
over_ways w r below (way ∷ ways) = option_or (over w r below way) (over_ways w r below ways)

abbrev pub extended : Way → ℕ → Way
extended way i = record { source = i; positions = way.positions ++ i ∷ [] }

-- the path that ends the way at the anchor at a
abbrev pub over_anchor : Setting → Way → ℕ → Option Route
over_anchor w way a = if ends w way.source a then Some (record { positions = way.positions; anchor = a }) else None

-- the best path of r more intermediates over the way and the intermediate at i
abbrev pub over_next : Setting → ℕ → ℕ → Way → ℕ → Option Route
over_next w r below way i = if goes w below way.source i then over w r (below + 1) (extended way i) else None

-- each position that is marked ends one of the ways
abbrev pub AreCovered : List Bool → List Way → Type 0
AreCovered reached ways = (i : ℕ) → slice_index_or reached i false ≡ true → list_any (λ way. way.source == i) ways ≡ true
