-- What answers to questions say of whoever judges signatures.
use Rattle.std.specs.Prelude.{◌≡◌, ℕ, List, true, false, if◌then◌else◌}
use Rattle.sigstore_keys.specs.Good.{Judge}
use Rattle.sigstore_keys.specs.declared.scheme.SigningScheme.{SigningScheme}
use Rattle.command_files.specs.Rows.{AcceptRows, accepts_of}

-- each answer is the judge's own: a row that is good is good by it, and one that is refused isn't
pub record AreAnswers (judge : Judge) (good refused : AcceptRows) : Type 0 where
  pub held : (scheme : SigningScheme) (key subject signature : List ℕ) → accepts_of good scheme key subject signature ≡ true
      → judge scheme key subject signature ≡ true
  pub denied : (scheme : SigningScheme) (key subject signature : List ℕ) → accepts_of refused scheme key subject signature ≡ true
      → judge scheme key subject signature ≡ false

-- what is known decides, and else a judge
abbrev pub by_answers : AcceptRows → AcceptRows → Judge → Judge
by_answers good refused judge scheme key subject signature =
    if accepts_of good scheme key subject signature then true else
    if accepts_of refused scheme key subject signature then false else judge scheme key subject signature
