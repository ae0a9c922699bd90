use Rattle.std.proofs.Common.{rules, refl}
use Rattle.release_gate.specs.Reading.{long, given, vanished, failed}
use Rattle.release_gate.proofs.judgement.Judgement.by_file.Goals as goal

pub returns-in-Ok-Some-clause-rests : goal.returns-in-Ok-Some-clause-rests
returns-in-Ok-Some-clause-rests g c = given c.in-Ok-Some.file _ (rw (c.in-Ok-Some.field-0-is, c.as_str.ensures) at c.in-Ok-Some.ensures.gave) (rw c.as_bytes.ensures at c.by_bundle-verdict.ensures.rests)

pub returns-in-Ok-None-clause-rests : goal.returns-in-Ok-None-clause-rests
returns-in-Ok-None-clause-rests g c = vanished (rw (c.in-Ok-None.field-0-is, c.as_str.ensures) at c.in-Ok-None.ensures.gave) refl

pub returns-in-Err-TooLong-clause-rests : goal.returns-in-Err-TooLong-clause-rests
returns-in-Err-TooLong-clause-rests g c = long c.in-Err-TooLong.seen (rw (c.in-Err-TooLong.field-0-is, c.as_str.ensures) at c.in-Err-TooLong.ensures.gave) (search rules)

pub returns-in-Err-Failed-clause-rests : goal.returns-in-Err-Failed-clause-rests
returns-in-Err-Failed-clause-rests g c = failed (rw (c.in-Err-Failed.field-0-is, c.as_str.ensures) at c.in-Err-Failed.ensures.gave) refl
