-- Lemmas on how a pattern is read and matched.
use Rattle.std.proofs.Common.{◌≡◌, ◌≢◌, ℕ, zero, suc, ◌-◌, ◌≤◌, List, [], ◌∷◌, ◌++◌, length, get_or, take, drop, Bool, true, false, ◌&&◌, ◌==◌, Option, Some, None, option_map, Result, Ok, Err, refl, sym, ap, append_assoc, arith}
use Rattle.std.proofs.lemmas.List.{length-drop}
use Rattle.std.specs.List.{slice_split, onto_first}
use Rattle.std.specs.Str.{chars}
use Rattle.foundation.specs.Results.{some_same}
use Rattle.foundation.specs.Steps.{◌>>=◌}
use Rattle.sigstore_tuf_text.specs.declared.error.Error.{Error}
use Rattle.sigstore_tuf_text.specs.declared.error.Error.TheVariants.{Malformed}
use Rattle.sigstore_tuf_text.specs.declared.error.Rule.TheVariants as rule
use Rattle.sigstore_tuf_text.specs.Pattern.{Piece, Taken, cut, on_first, fits, all_fit, piece_of, with_piece, pieces_after, segment_of, segments_of}
use Rattle.sigstore_tuf_text.specs.Piece.{left_of}
use Rattle.sigstore_tuf_text.proofs.Classes.{taken_tail}

-- ---- the segments of a text

on_first_same : (c : ℕ) (parts : List (List ℕ)) → onto_first c parts ≡ on_first c parts
on_first_same c [] = refl
on_first_same c (s ∷ parts) = refl

pub split_is_cut : (text : List ℕ) → slice_split (λ b. b == 47) text ≡ cut text
split_is_cut [] = refl
split_is_cut (c ∷ cs) = rw (split_is_cut cs, on_first_same c (cut cs))

-- ---- the pieces of a segment

skipped : (cs : List ℕ) (n : ℕ) → pieces_after (drop n cs) 0 ≡ pieces_after cs n
skipped [] zero = refl
skipped [] (suc n) = refl
skipped (c ∷ cs) zero = refl
skipped (c ∷ cs) (suc n) = skipped cs n

put_together : (done : List Piece) (p : Piece) (o : Option (List Piece))
    → option_map (λ ps. (done ++ p ∷ []) ++ ps) o ≡ option_map (λ ps. done ++ ps) (option_map (λ ps. p ∷ ps) o)
put_together done p None = refl
put_together done p (Some ps) = ap Some (append_assoc done (p ∷ []) ps)

-- a text is its first and what follows
pub apart : (text : List ℕ) (first : ℕ) → 1 ≤ length text → first ≡ get_or text 0 first → text ≡ first ∷ take (length text - 1) (drop 1 text)
apart [] first some at = absurd (omega arith)
apart (c ∷ cs) first some at = rw (at, taken_tail c cs)

-- one piece more was read
pub piece_more : (done : List Piece) (first : ℕ) (later rest : List ℕ) (piece : Piece) → Some (piece, rest) ≡ left_of later (piece_of first later)
    → option_map (λ ps. (done ++ piece ∷ []) ++ ps) (pieces_after rest 0) ≡ option_map (λ ps. done ++ ps) (pieces_after (first ∷ later) 0)
piece_more done first later rest piece is = go (piece_of first later) is
  where
    go : (t : Option Taken) → Some (piece, rest) ≡ left_of later t
        → option_map (λ ps. (done ++ piece ∷ []) ++ ps) (pieces_after rest 0) ≡ option_map (λ ps. done ++ ps) (with_piece t (pieces_after later))
    go None e = cc
    go (Some t) e =
        let both = some_same (piece, rest) (t.0, drop t.1 later) e in
        rw (ap (λ p. p.1) both, ap (λ p. p.0) both, skipped later t.1) (put_together done t.0 (pieces_after later t.1))

pub piece_none : (done : List Piece) (first : ℕ) (later : List ℕ) → None ≡ left_of later (piece_of first later)
    → option_map (λ ps. done ++ ps) (pieces_after (first ∷ later) 0) ≡ None
piece_none done first later is = go (piece_of first later) is
  where
    go : (t : Option Taken) → None ≡ left_of later t → option_map (λ ps. done ++ ps) (with_piece t (pieces_after later)) ≡ None
    go None e = refl
    go (Some t) e = cc

-- what is left after a piece is no longer
pub left_shorter : (later rest : List ℕ) (piece : Piece) (t : Option Taken) → Some (piece, rest) ≡ left_of later t → length rest ≤ length later
left_shorter later rest piece None e = cc
left_shorter later rest piece (Some t) e =
    let same : rest ≡ drop t.1 later = ap (λ p. p.1) (some_same (piece, rest) (t.0, drop t.1 later) e) in
    rw same (omega (arith, length-drop t.1 later))

-- ---- all segments

bind_more : (done : List (List Piece)) (p : List Piece) (r : Result (List (List Piece)) Error)
    → (r >>= λ rest. Ok ((done ++ p ∷ []) ++ rest)) ≡ ((r >>= λ rest. Ok (p ∷ rest)) >>= λ rest. Ok (done ++ rest))
bind_more done p (Ok rest) = ap Ok (append_assoc done (p ∷ []) rest)
bind_more done p (Err e) = refl

pub segment_more : (done : List (List Piece)) (s : List ℕ) (later : List (List ℕ)) (p : List Piece) → Some p ≡ segment_of s
    → (segments_of later >>= λ rest. Ok ((done ++ p ∷ []) ++ rest)) ≡ (segments_of (s ∷ later) >>= λ rest. Ok (done ++ rest))
segment_more done s later p is = rw (← is) (bind_more done p (segments_of later))

pub segment_none : (done : List (List Piece)) (s : List ℕ) (later : List (List ℕ)) → None ≡ segment_of s
    → (segments_of (s ∷ later) >>= λ rest. Ok (done ++ rest)) ≡ Err (Malformed rule.Pattern)
segment_none done s later is = rw (← is)

-- ---- segments against segments

and_false : (b : Bool) → (b && false) ≡ false
and_false true = refl
and_false false = refl

pub uneven : (patterns : List (List Piece)) (segments : List (List ℕ)) → length patterns ≢ length segments → false ≡ all_fit patterns segments
uneven [] [] other = absurd (other refl)
uneven [] (s ∷ segments) other = refl
uneven (p ∷ patterns) [] other = refl
uneven (p ∷ patterns) (s ∷ segments) other = rw (← uneven patterns segments (λ e. other (ap suc e))) (sym (and_false (fits p (chars s))))
