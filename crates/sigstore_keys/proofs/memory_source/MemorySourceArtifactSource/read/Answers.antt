use Rattle.std.proofs.Common.{rules, arith, ap, ◌≤◌, ◌+◌, length}
use Rattle.std.proofs.lemmas.Grind.{common_steps}
use Rattle.std.proofs.Common.{Some}
use Rattle.std.proofs.lemmas.List.{drop_all}
use Rattle.sigstore_keys.proofs.Parts.{given_part}
use Rattle.sigstore_keys.proofs.memory_source.MemorySourceArtifactSource.read.Goals as goal

pub returns-clause-reads : goal.returns-clause-reads
returns-clause-reads c = record {
  later = search rules;
  failed = search rules;
  bound = grind (arith, common_steps);
  given = ap Some (given_part c.args.self.now.bytes c.copy_from_slice.new.self _ c.args.self.now.at c.min-count.result (grind (arith, common_steps)) (grind (arith, common_steps)));
  ended = λ z p.
      let done : length c.args.self.now.bytes ≤ c.args.self.now.at + c.min-count.result = grind (arith, common_steps) in
      drop_all _ _ done;
}
