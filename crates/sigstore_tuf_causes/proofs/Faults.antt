-- Counts of faults that don't rise.
use Rattle.std.proofs.Common.{ℕ, ◌≤◌, arith}
use Rattle.foundation.specs.Watched.{Rose}
use Rattle.sigstore_tuf_outside.specs.Repository.{Quiet}

pub quiet_first : (a b c : ℕ) → a ≤ b → b ≤ c → Quiet a c → Quiet a b
quiet_first a b c p q h = omega arith

pub quiet_second : (a b c : ℕ) → a ≤ b → b ≤ c → Quiet a c → Quiet b c
quiet_second a b c p q h = omega arith

pub not_both : (a b : ℕ) → Rose a b → Quiet a b → ⊥
not_both a b p q = omega arith
