use Rattle.std.proofs.Common.{◌≡◌, true, false, Err}
use Rattle.std.specs.List.{list_all}
use Rattle.hex.specs.Hex.{decode_sized, is_hex_digit}
use Rattle.hex.specs.declared.error.FromHexError.TheVariants.{InvalidStringLength}
use Rattle.sigstore_rekor_parts.proofs.HexFacts.{long, bad}
use Rattle.sigstore_rekor_parts.proofs.hex_text.sha256_from_hex.Goals as goal

pub returns-then-are_digits : goal.returns-then-are_digits
returns-then-are_digits c =
    let h : decode_sized c.args.text.now 32 ≡ Err InvalidStringLength = cc in
    let digits : list_all is_hex_digit c.args.text.now ≡ true = cc in
    long c.args.text.now h digits

pub returns-else-are_digits : goal.returns-else-are_digits
returns-else-are_digits c =
    let digits : list_all is_hex_digit c.args.text.now ≡ false = cc in
    bad c.args.text.now digits
