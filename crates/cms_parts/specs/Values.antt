-- Values of a type as those of any type.
use Rattle.std.specs.Prelude.{ℕ, List, Ok}
use Rattle.foundation.specs.Steps.{◌>>=◌}
use Rattle.der_grammar.specs.Outcome.{Outcome}
use Rattle.der_grammar.specs.Grammar.{Grammar, framed}

-- the tag and the contents that are written, or TooLong where these have 2^28 octets or more
unfoldable pub any_from : {A : Type 0} → Grammar A → A → Outcome (ℕ × List ℕ)
any_from g a = g.contents a >>= λ c. framed (g.tag a) c >>= λ encoding. Ok (g.tag a, c)
