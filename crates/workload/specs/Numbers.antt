-- The numbers that a workload draws, and what is made of each.
use Rattle.std.specs.Prelude.{ℕ, ◌+◌, ◌*◌, ◌/◌, ◌%◌, ◌==◌, Bool, true, false, if◌then◌else◌}
use Rattle.workload.specs.declared.kind.Kind.{Kind}
use Rattle.workload.specs.declared.kind.Kind.TheVariants.{Message, Envelope, OtherArtifact, BadSignature}

-- the number after one: a linear congruential generator modulo 2^32 (Press and others, Numerical Recipes, "An Even Quicker Generator")
abbrev pub next_number : ℕ → ℕ
next_number number = (1664525 * number + 1013904223) % 4294967296

-- the highest eight bits of a number, modulo the four kinds
abbrev pub draw_of : ℕ → ℕ
draw_of number = number / 16777216 % 4

abbrev pub kind_of : ℕ → Kind
kind_of number =
    if draw_of number == 0 then Message else
    if draw_of number == 1 then Envelope else
    if draw_of number == 2 then OtherArtifact else BadSignature

-- whether the signature is good
abbrev pub has_row : Kind → Bool
has_row Message = true
has_row Envelope = true
has_row OtherArtifact = true
has_row BadSignature = false
