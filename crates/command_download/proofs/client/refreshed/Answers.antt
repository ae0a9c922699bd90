use Rattle.std.proofs.Common.{refl}
use Rattle.command_download.specs.Client.{root_refused, attach_refused, refresh_refused, refreshed}
use Rattle.command_download.proofs.client.refreshed.Goals as goal

pub returns-in-Err : goal.returns-in-Err
returns-in-Err g c = λ shelf. root_refused c.in-Err.e c.in-Err.ensures.err refl refl

pub returns-in-Err-attach : goal.returns-in-Err-attach
returns-in-Err-attach g c = λ shelf. attach_refused c.in-Ok.documents c.attach.new.documents c.in-Err-attach.e c.in-Ok.ensures.ok (c.in-Err-attach.ensures _) refl refl refl

pub returns-in-Err-run_steps : goal.returns-in-Err-run_steps
returns-in-Err-run_steps g c = λ shelf.
    refresh_refused (g.S.MetadataStore.seen c.attach.new.store) c.attach.new.documents c.run_steps.new.documents c.in-Err-run_steps.e
    (record { first = c.in-Ok.documents; first_is = c.in-Ok.ensures.ok; attaches = c.in_default.ensures _ }) c.in-Err-run_steps.ensures refl refl

pub returns : goal.returns
returns g c = λ shelf.
    refreshed (g.S.MetadataStore.seen c.attach.new.store) c.attach.new.documents c.run_steps.new.documents
    (record { first = c.in-Ok.documents; first_is = c.in-Ok.ensures.ok; attaches = c.in_default.ensures _ }) c.in_default-run_steps.ensures refl refl
