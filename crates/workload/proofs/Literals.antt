-- What single texts are read as: the key's text trimmed, the two expiries, a signature, a digest.
use Rattle.std.proofs.Common.{◌≡◌, ℕ, List, [], ◌∷◌, Bool, true, not, ◌&&◌, pos, Ok, refl, ap, ◌∙◌, codes}
use Rattle.std.specs.Char.{is_whitespace}
use Rattle.std.specs.Str.{IsAscii, chars, encode_utf8_all, skip_leading_whitespace, drop_trailing_whitespace, trim_start, trim_end, trim, str_to_ascii_lowercase, str_eq_ignore_ascii_case}
use Rattle.std.proofs.lemmas.Bool.{and_parts, not-true}
use Rattle.std.proofs.lemmas.Slice.Eq.{bytes_eq-Decides}
use Rattle.std.proofs.lemmas.Str.{chars-IsAscii, encodes-IsAscii}
use Rattle.hex.specs.Hex.{decode_of}
use Rattle.hex.proofs.OnLiterals.{hex_on_literals}
use Rattle.jiff_fmt.specs.Temporal.{parse_timestamp}
use Rattle.jiff_fmt.proofs.OnLiterals.{jiff_fmt_on_literals}
use Rattle.workload.specs.Keys.{armored_key}
use Rattle.workload.specs.Documents.{soon, later}
use Rattle.workload.proofs.Texts.{armored_text, armored_ascii, at_each}

-- ---- a text without blanks

abbrev has_no_blank : List ℕ → Bool
has_no_blank [] = true
has_no_blank (c ∷ cs) = not (is_whitespace c) && has_no_blank cs

front_kept : (cs : List ℕ) → has_no_blank cs ≡ true → skip_leading_whitespace cs ≡ cs
front_kept [] h = refl
front_kept (c ∷ cs) h = rw (not-true (is_whitespace c) (and_parts (not (is_whitespace c)) (has_no_blank cs) h).0)

end_kept : (cs : List ℕ) → has_no_blank cs ≡ true → drop_trailing_whitespace cs ≡ cs
end_kept [] h = refl
end_kept (c ∷ cs) h =
    let p = and_parts (not (is_whitespace c)) (has_no_blank cs) h in
    rw (not-true (is_whitespace c) p.0) (ap (λ rest. c ∷ rest) (end_kept cs p.1))

start_is : (bs : List ℕ) → IsAscii bs → has_no_blank bs ≡ true → trim_start bs ≡ bs
unfolding trim_start
start_is bs ascii h = ap (λ cs. encode_utf8_all (skip_leading_whitespace cs)) (chars-IsAscii bs ascii) ∙ ap encode_utf8_all (front_kept bs h) ∙ encodes-IsAscii bs ascii

end_is : (bs : List ℕ) → IsAscii bs → has_no_blank bs ≡ true → trim_end bs ≡ bs
unfolding trim_end
end_is bs ascii h = ap (λ cs. encode_utf8_all (drop_trailing_whitespace cs)) (chars-IsAscii bs ascii) ∙ ap encode_utf8_all (end_kept bs h) ∙ encodes-IsAscii bs ascii

armored_no_blank : has_no_blank armored_key ≡ true
armored_no_blank = rw armored_text refl

pub armored_trimmed : trim armored_key ≡ armored_key
armored_trimmed =
    let ascii = at_each armored_key armored_ascii in
    ap trim_end (start_is armored_key ascii armored_no_blank) ∙ end_is armored_key ascii armored_no_blank

-- ---- the expiries

pub soon_read : parse_timestamp soon ≡ Ok (pos 1_893_456_000_000_000_000)
unfolding jiff_fmt_on_literals
soon_read = refl

pub later_read : parse_timestamp later ≡ Ok (pos 1_924_992_000_000_000_000)
unfolding jiff_fmt_on_literals
later_read = refl

-- ---- hexadecimal

pub signature_read : decode_of (codes "01") ≡ Ok (1 ∷ [])
unfolding hex_on_literals
signature_read = refl

-- a text spells what it spells
pub same_spelling : (text : List ℕ) → str_eq_ignore_ascii_case text text ≡ true
same_spelling text = (bytes_eq-Decides (str_to_ascii_lowercase text) _).1 refl
