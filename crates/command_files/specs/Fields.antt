-- Fields of lines: base64 (RFC 4648, section 4).
use Rattle.std.specs.Prelude.{ℕ, List, [], bytes_eq, codes, if◌then◌else◌, Result, Ok, Err, ok_or}
use Rattle.std.specs.Result.{result_ok}
use Rattle.base64.specs.Engines.{standard}
use Rattle.base64.specs.GeneralPurpose.{decode_of}
use Rattle.command_files.specs.declared.usage_fault.UsageFault.{UsageFault}
use Rattle.command_files.specs.declared.usage_fault.UsageFault.TheVariants.{Usage}

-- what a base64 text spells
abbrev pub spelled_of : List ℕ → Result (List ℕ) UsageFault
spelled_of text = ok_or (result_ok (decode_of standard text)) Usage

-- the bytes of a field; no bytes are written as a dash
abbrev pub field_of : List ℕ → Result (List ℕ) UsageFault
field_of text = if bytes_eq text (codes "-") then Ok [] else if bytes_eq text [] then Err Usage else spelled_of text
