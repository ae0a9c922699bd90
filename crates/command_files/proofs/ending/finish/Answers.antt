use Rattle.std.proofs.Common.{Ok, Err, refl, subst}
use Rattle.command_files.specs.Sink.{WritesText}
use Rattle.command_files.specs.declared.sink.SinkFault.{SinkFault}
use Rattle.command_files.specs.Ending.{ends_unsaid, ends_cut, ends_written}
use Rattle.command_files.proofs.ending.finish.Goals as goal

pub returns-in-Ok-write_all : goal.returns-in-Ok-write_all
returns-in-Ok-write_all g c =
    ends_written c.in-Ok.said c.in-Ok.is
    (subst (λ t. WritesText {E = SinkFault} (g.K.Sink.seen c.args.out.now) (g.K.Sink.seen c.write_all.new.out) t (Ok tt)) c.octets.ensures c.in-Ok-write_all.ensures) c.status.ensures

pub returns-in-Err-write_all : goal.returns-in-Err-write_all
returns-in-Err-write_all g c =
    ends_cut c.in-Ok.said c.in-Err-write_all.field-0 c.in-Ok.is
    (subst (λ t. WritesText {E = SinkFault} (g.K.Sink.seen c.args.out.now) (g.K.Sink.seen c.write_all.new.out) t (Err c.in-Err-write_all.field-0)) c.octets.ensures c.in-Err-write_all.ensures) refl

pub returns-in-Err : goal.returns-in-Err
returns-in-Err g c = ends_unsaid c.in-Err.field-0 c.in-Err.is refl refl
