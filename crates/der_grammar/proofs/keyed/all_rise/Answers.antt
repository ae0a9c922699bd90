use Rattle.std.proofs.Common.{rules}
use Rattle.std.proofs.lemmas.List.Sorted.{answers_always}
use Rattle.der_grammar.specs.Sets.{is_before}
use Rattle.der_grammar.proofs.Members.{rises_answer}
use Rattle.der_grammar.proofs.keyed.all_rise.Goals as goal

pub returns : goal.returns
returns g c = rises_answer c.args.keys.now c.is_sorted_by.result (c.is_sorted_by.ensures.cases is_before (answers_always _ _ _ (λ f a r f' k. search rules)))
