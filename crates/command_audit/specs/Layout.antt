-- The key of the command `audit`, and where its objects lie, by its words.
use Rattle.std.specs.Prelude.{ℕ, List, [], ◌∷◌, codes, Result, Ok, Err}
use Rattle.foundation.specs.Steps.{◌>>=◌}
use Rattle.sigstore_types_parts.specs.Encoded.{decoded_of}
use Rattle.sigstore_types_parts.specs.Error.{types_of}
use Rattle.command_files.specs.Named.{Values, named_of, text_at}
use Rattle.command_files.specs.declared.usage_fault.UsageFault.{UsageFault}
use Rattle.command_files.specs.declared.usage_fault.UsageFault.TheVariants.{Usage}
use Rattle.command_audit.specs.declared.layout.AuditLayout.{AuditLayout}

abbrev pub or_usage : {A E : Type 0} → Result A E → Result A UsageFault
or_usage (Ok x) = Ok x
or_usage (Err e) = Err Usage

-- the key that a base64 text spells
abbrev pub key_in : List ℕ → Result (List ℕ) UsageFault
key_in text = or_usage (decoded_of types_of text)

-- the layout of values by their names
abbrev pub layout_in : Values → Result AuditLayout UsageFault
layout_in found = do
  key ← key_in (text_at (codes "--key") found)
  Ok (record {
    key = key;
    provider = text_at (codes "--provider") found;
    first = text_at (codes "--first") found;
    second = text_at (codes "--second") found;
    tiles = text_at (codes "--tiles") found;
  })

unfoldable pub audit_layout_of : List (List ℕ) → Result AuditLayout UsageFault
audit_layout_of words =
    named_of (codes "audit") (codes "--key" ∷ codes "--provider" ∷ codes "--first" ∷ codes "--second" ∷ codes "--tiles" ∷ []) [] words
    >>= layout_in
