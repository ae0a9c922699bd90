use Rattle.std.proofs.Common.{◌≡◌, ℕ, List, ◌||◌, drop}
use Rattle.sigstore_tuf_parts.specs.Threshold.{is_among}
use Rattle.sigstore_tuf_parts.proofs.counted.set_of.Given as goal

-- a text is in the set or among those that are left exactly where it is one of the texts
abbrev pub invariant-loop-text : goal.invariant-loop-text
invariant-loop-text l = (text : List ℕ) → (is_among l.set text || is_among (drop l.text-index l.texts) text) ≡ is_among l.texts text
