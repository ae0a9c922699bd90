-- A text printed byte by byte.
use Rattle.std.proofs.Common.{◌≡◌, ℕ, ◌+◌, ◌<◌, List, [], ◌∷◌, ◌++◌, length, take, get_or, refl, sym, ap, ◌∙◌, append_assoc, append-nil}
use Rattle.std.proofs.lemmas.List.{take_more}
use Rattle.command_files.specs.Printed.{printed_byte, printed}

printed-append : (xs ys : List ℕ) → printed (xs ++ ys) ≡ printed xs ++ printed ys
printed-append [] ys = refl
printed-append (x ∷ xs) ys = ap (λ l. printed_byte x ++ l) (printed-append xs ys) ∙ sym (append_assoc (printed_byte x) (printed xs) (printed ys))

-- one byte more
pub printed_more : (old mid new bytes : List ℕ) (i byte : ℕ) → i < length bytes → byte ≡ get_or bytes i 0
    → mid ≡ old ++ printed (take i bytes) → new ≡ mid ++ printed_byte byte → new ≡ old ++ printed (take (i + 1) bytes)
printed_more old mid new bytes i byte less is before after =
    let one : printed (take (i + 1) bytes) ≡ printed (take i bytes) ++ printed_byte (get_or bytes i 0) =
    ap printed (take_more bytes i 0 less) ∙ printed-append (take i bytes) (get_or bytes i 0 ∷ []) ∙ ap (λ l. printed (take i bytes) ++ l) (append-nil (printed_byte (get_or bytes i 0))) in
    after ∙ ap (λ l. l ++ printed_byte byte) before ∙ append_assoc old (printed (take i bytes)) (printed_byte byte)
    ∙ ap (λ b. old ++ (printed (take i bytes) ++ printed_byte b)) is ∙ ap (λ l. old ++ l) (sym one)
