use Rattle.command_archive.proofs.NamedValues.{read_ok, read_err, unread_err}
use Rattle.command_ways.specs.FolderLayout.{folder_in, folder_under}
use Rattle.command_ways.proofs.folder_words.folder_way_under.Goals as goal

pub returns-in-Ok-clause-ok : goal.returns-in-Ok-clause-ok
unfolding folder_under
returns-in-Ok-clause-ok c = read_ok _ (folder_in c.args.rows.now) c.in-Ok.found c.folder_in-layout.result c.in-Ok.ensures.ok c.folder_in-layout.ensures.ok

pub returns-in-Ok-clause-err : goal.returns-in-Ok-clause-err
unfolding folder_under
returns-in-Ok-clause-err c = read_err _ (folder_in c.args.rows.now) c.in-Ok.found c.folder_in-layout.result c.in-Ok.ensures.ok c.folder_in-layout.ensures.err

pub returns-in-Err-clause-err : goal.returns-in-Err-clause-err
unfolding folder_under
returns-in-Err-clause-err c = λ n. unread_err _ (folder_in c.args.rows.now) c.in-Err.e (c.in-Err.ensures.err n)
