use Rattle.sigstore_tuf_text.proofs.Classes.{class_read, class_unread}
use Rattle.std.proofs.Common.{◌∙◌}
use Rattle.sigstore_tuf_text.proofs.piece.read_members.Goals as goal

pub returns-in_ok-members-in-Some : goal.returns-in_ok-members-in-Some
returns-in_ok-members-in-Some c =
    class_read c.args.negated c.args.text.now c.in_ok-members-in-Some.members.items c.split_at-in-Some.result.1.now c.in-Some.end c.in-len1-up.len_at_least c.in-Some.ensures
    (c.in_ok-members-in-Some.ensures.items ∙ c.split_at.ensures.front) c.split_at-in-Some.ensures.back

pub returns-in-None : goal.returns-in-None
returns-in-None c = class_unread c.args.negated c.args.text.now c.in-len1-up.len_at_least c.in-None.ensures
