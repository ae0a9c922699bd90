-- The lines of what a store is to keep.
use Rattle.std.proofs.Common.{◌≡◌, ℕ, List, ◌∷◌, ◌++◌, append_assoc, sym, ap, ◌∙◌}
use Rattle.embedded_verify.specs.Lines.{keep_line, keep_lines}

-- a line more, and the lines of what is left
pub one_more : (whole text more : List ℕ) (left rest : List (List ℕ × List ℕ)) (name bytes n b : List ℕ)
    → whole ≡ text ++ keep_lines left → left ≡ (name, bytes) ∷ rest → more ≡ text ++ keep_line n b → n ≡ name → b ≡ bytes
    → whole ≡ more ++ keep_lines rest
one_more whole text more left rest name bytes n b so_far is written is_name is_bytes =
    so_far ∙ ap (λ files. text ++ keep_lines files) is
    ∙ sym (append_assoc text (keep_line name bytes) (keep_lines rest))
    ∙ ap (λ m. (text ++ keep_line m bytes) ++ keep_lines rest) (sym is_name)
    ∙ ap (λ v. (text ++ keep_line n v) ++ keep_lines rest) (sym is_bytes)
    ∙ ap (λ t. t ++ keep_lines rest) (sym written)
