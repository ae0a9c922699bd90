-- What the armoured texts of log bodies hold.
use Rattle.std.specs.Prelude.{ℕ, List, Option, Result, ok_or}
use Rattle.sigstore_rekor_parts.specs.declared.error.ResponseRule.TheVariants as rule
use Rattle.sigstore_rekor_parts.specs.declared.error.Error.{Error}
use Rattle.sigstore_rekor_parts.specs.declared.error.Error.TheVariants.{InvalidResponse}

-- what a text holds by one of an armour's readings
abbrev pub held_of : (List ℕ → Option (List ℕ)) → List ℕ → Result (List ℕ) Error
held_of reads text = ok_or (reads text) (InvalidResponse rule.Armor)
