-- A type whose values are those of another one, one for one.
use Rattle.std.specs.Prelude.{◌≡◌}
use Rattle.der_grammar.specs.Grammar.{mapped}
use Rattle.der_grammar.specs.Laws.{mapped-lawful}
use Rattle.der_grammar.specs.Types.{AsnType}

abbrev pub mapped_type : {A B : Type 0} (to : A → B) (back : B → A) (k : AsnType A) → ((a : A) → back (to a) ≡ a)
    → ((b : B) → to (back b) ≡ b) → AsnType B
mapped_type to back k there again =
    record {
      grammar = mapped to back k.grammar;
      lawful = mapped-lawful to back k.grammar there again k.lawful;
      tags = k.tags;
      tagged = k.tagged;
    }
