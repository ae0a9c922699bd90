-- What the tests of a step say.
use Rattle.std.proofs.Common.{◌≡◌, ℕ, ◌+◌, ◌-◌, ◌<◌, true, false, ◌&&◌, ltb, length, get_or, Option, Some, None, refl, sym, ◌∙◌, ap, arith}
use Rattle.std.specs.Prelude.{slice_get}
use Rattle.std.specs.Option.{option_map_or}
use Rattle.std.proofs.lemmas.Bool.{and_parts, and_from, lt-ltb, le-ltb, cond-true, cond-false}
use Rattle.std.proofs.lemmas.List.{get_or_default}
use Rattle.std.proofs.lemmas.Option.{slice_get_within, slice_get-get_or, get_or_from_slice_get}
use Rattle.path_core.proofs.Onward.{Follows, Ends}
use Rattle.path_core.specs.Paths.{Encoding, Setting}
use Rattle.path_core.specs.Anchors.{TrustAnchor, opens}
use Rattle.path_core.specs.Links.{links}
use Rattle.path_core.specs.Traits.{fits}
use Rattle.path_core.specs.Search.{source_at, anchor_at, target_at, judgement, goes, ends}

pub target_intermediate : (w : Setting) (i : ℕ) → i < length w.intermediates → target_at w i ≡ source_at w i
target_intermediate w i h = cond-true (ltb i (length w.intermediates)) _ _ (lt-ltb i (length w.intermediates) h)

pub target_anchor : (w : Setting) (a : ℕ) → target_at w (length w.intermediates + a) ≡ anchor_at w a
target_anchor w a =
    let n = length w.intermediates in
    let back : (n + a) - n ≡ a = omega arith in
    cond-false (ltb (n + a) n) _ _ (le-ltb (n + a) n (omega arith)) ∙ ap (anchor_at w) back

pub goes_from : (w : Setting) (below s i : ℕ) (next : Encoding) → Follows w (source_at w s) below i next → (source_at w i ≡ next) × (i < length w.intermediates) × (goes w below s i ≡ true)
unfolding goes judgement
goes_from w below s i next f =
    let here : source_at w i ≡ next = get_or_from_slice_get w.intermediates i next w.leaf f.stands in
    let within : i < length w.intermediates = slice_get_within w.intermediates i next f.stands in (
      here,
      within,
      and_from (fits w.purpose w.at below (source_at w i)) (links w.accepts (source_at w s) (target_at w i))
          (ap (fits w.purpose w.at below) here ∙ f.fit)
          (ap (links w.accepts (source_at w s)) (target_intermediate w i within ∙ here) ∙ f.linked),
    )

pub goes_follows : (w : Setting) (below s i : ℕ) → i < length w.intermediates → goes w below s i ≡ true → Follows w (source_at w s) below i (source_at w i)
unfolding goes judgement
goes_follows w below s i within e =
    let parts = and_parts (fits w.purpose w.at below (source_at w i)) (links w.accepts (source_at w s) (target_at w i)) e in
    record {
      stands = slice_get-get_or w.intermediates i w.leaf within;
      fit = parts.0;
      linked = ap (links w.accepts (source_at w s)) (sym (target_intermediate w i within)) ∙ parts.1;
    }

pub ends_from : (w : Setting) (s a : ℕ) (anchor : TrustAnchor) → Ends w (source_at w s) a anchor → (a < length w.anchors) × (ends w s a ≡ true)
unfolding ends judgement
ends_from w s a anchor f = (
  slice_get_within w.anchors a anchor f.stands,
  and_from (option_map_or (opens w.at) (slice_get w.anchors a) false) (links w.accepts (source_at w s) (target_at w (length w.intermediates + a)))
      (ap (λ o. option_map_or (opens w.at) o false) f.stands ∙ f.open_then)
      (ap (links w.accepts (source_at w s)) (target_anchor w a ∙ ap (λ o. option_map_or (λ (x : TrustAnchor). x.certificate) o w.leaf) f.stands) ∙ f.linked),
)

ends_at : (w : Setting) (from : Encoding) (a : ℕ) (o : Option TrustAnchor) → slice_get w.anchors a ≡ o → option_map_or (opens w.at) o false ≡ true → links w.accepts from (option_map_or (λ (x : TrustAnchor). x.certificate) o w.leaf) ≡ true → (anchor : TrustAnchor) × Ends w from a anchor
ends_at w from a None e opened linked = cc
ends_at w from a (Some anchor) e opened linked = (anchor, record { stands = e; open_then = opened; linked = linked })

pub ends_ends : (w : Setting) (s a : ℕ) → ends w s a ≡ true → (anchor : TrustAnchor) × Ends w (source_at w s) a anchor
unfolding ends judgement
ends_ends w s a e =
    let parts = and_parts (option_map_or (opens w.at) (slice_get w.anchors a) false) (links w.accepts (source_at w s) (target_at w (length w.intermediates + a))) e in
    ends_at w (source_at w s) a (slice_get w.anchors a) refl parts.0 (ap (links w.accepts (source_at w s)) (sym (target_anchor w a)) ∙ parts.1)

-- ---- the tests as the code makes them

pub ends_closed : (w : Setting) (s a : ℕ) (d : TrustAnchor) → a < length w.anchors → opens w.at (get_or w.anchors a d) ≡ false → ends w s a ≡ false
unfolding ends
ends_closed w s a d within shut =
    ap (λ o. option_map_or (opens w.at) o false && judgement w s (length w.intermediates + a)) (slice_get-get_or w.anchors a d within)
    ∙ ap (λ b. b && judgement w s (length w.intermediates + a)) shut

pub ends_opened : (w : Setting) (s a : ℕ) (d : TrustAnchor) → a < length w.anchors → opens w.at (get_or w.anchors a d) ≡ true → ends w s a ≡ judgement w s (length w.intermediates + a)
unfolding ends
ends_opened w s a d within opened =
    ap (λ o. option_map_or (opens w.at) o false && judgement w s (length w.intermediates + a)) (slice_get-get_or w.anchors a d within)
    ∙ ap (λ b. b && judgement w s (length w.intermediates + a)) opened

pub goes_unfit : (w : Setting) (below s i : ℕ) (d : Encoding) → i < length w.intermediates → fits w.purpose w.at below (get_or w.intermediates i d) ≡ false → goes w below s i ≡ false
unfolding goes
goes_unfit w below s i d within unfit = ap (λ c. fits w.purpose w.at below c && judgement w s i) (get_or_default w.intermediates i w.leaf d within) ∙ ap (λ b. b && judgement w s i) unfit

pub goes_fit : (w : Setting) (below s i : ℕ) (d : Encoding) → i < length w.intermediates → fits w.purpose w.at below (get_or w.intermediates i d) ≡ true → goes w below s i ≡ judgement w s i
unfolding goes
goes_fit w below s i d within fit = ap (λ c. fits w.purpose w.at below c && judgement w s i) (get_or_default w.intermediates i w.leaf d within) ∙ ap (λ b. b && judgement w s i) fit
