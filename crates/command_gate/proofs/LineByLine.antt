-- The lines of a folder, and the refusals on a line, one after the other.
use Rattle.std.proofs.Common.{◌≡◌, ℕ, ◌+◌, ◌<◌, List, ◌∷◌, ◌++◌, length, codes, drop, get_or, sym, ap, ◌∙◌, append_assoc, add-one, drop-cons}
use Rattle.release_gate.specs.declared.line.GateLine.{GateLine}
use Rattle.command_gate.specs.declared.lines.RefusalPart.{RefusalPart}
use Rattle.command_gate.specs.Lines.{part_text, later_text, verdict_line, lines_text}

first_of : {X : Type 0} (ls : List X) (i : ℕ) (line : X) → i < length ls → drop i ls ≡ get_or ls i line ∷ drop (i + 1) ls
first_of ls i line h = rw (add-one, drop-cons ls i line)

pub lines_more : (whole text new name : List ℕ) (ls : List GateLine) (i : ℕ) (line : GateLine) → i < length ls → line ≡ get_or ls i line
    → whole ≡ text ++ lines_text (drop i ls) → name ≡ line.name → new ≡ text ++ verdict_line name line.verdict
    → whole ≡ new ++ lines_text (drop (i + 1) ls)
lines_more whole text new name ls i line less is before named after =
    before ∙ ap (λ r. text ++ lines_text r) (first_of ls i line less)
    ∙ ap (λ (l : GateLine). text ++ (verdict_line l.name l.verdict ++ lines_text (drop (i + 1) ls))) (sym is)
    ∙ ap (λ n. text ++ (verdict_line n line.verdict ++ lines_text (drop (i + 1) ls))) (sym named)
    ∙ sym (append_assoc text (verdict_line name line.verdict) (lines_text (drop (i + 1) ls)))
    ∙ ap (λ t. t ++ lines_text (drop (i + 1) ls)) (sym after)

pub later_more : (part : RefusalPart) (whole text mark new : List ℕ) (ns : List ℕ) (i number : ℕ) → i < length ns → number ≡ get_or ns i 0
    → whole ≡ text ++ later_text part (drop i ns) → mark ≡ text ++ codes "," → new ≡ mark ++ part_text part number
    → whole ≡ new ++ later_text part (drop (i + 1) ns)
later_more part whole text mark new ns i number less is before marked after =
    let rest = later_text part (drop (i + 1) ns) in
    before ∙ ap (λ r. text ++ later_text part r) (first_of ns i 0 less)
    ∙ ap (λ n. text ++ (codes "," ++ (part_text part n ++ rest))) (sym is)
    ∙ sym (append_assoc text (codes ",") (part_text part number ++ rest))
    ∙ ap (λ m. m ++ (part_text part number ++ rest)) (sym marked)
    ∙ sym (append_assoc mark (part_text part number) rest)
    ∙ ap (λ t. t ++ rest) (sym after)
