use Rattle.std.proofs.Common.{◌∙◌}
use Rattle.sigstore_tuf_parts.proofs.KeyText.{spelled}
use Rattle.sigstore_tuf_parts.proofs.declared_key.key_text.Goals as goal

pub returns : goal.returns
returns c =
    c.from_vec.ensures
    ∙ spelled c.args.key.now _ _ _ _ _ _ _ _ _ _ _ c.as_str.ensures c.as_str-2.ensures c.as_str-3.ensures c.new-out.ensures.items c.in_ok-push.ensures.items c.in_ok-write_member.ensures c.in_ok-extend_from_slice.ensures.items c.in_ok-write_member-2.ensures c.in_ok-push-2.ensures.items c.in_ok-write_member-3.ensures c.in_ok-push-3.ensures.items
