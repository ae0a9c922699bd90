use Rattle.std.proofs.Common.{◌∙◌, ◌++◌, get_or, take, append_assoc, sym, ap}
use Rattle.std.proofs.lemmas.List.{take_all, take_more, flat_map_more}
use Rattle.std.specs.List.{flat_map}
use Rattle.sigstore_tuf_text.specs.Canon.{escaped_byte}
use Rattle.sigstore_tuf_text.proofs.canonical.write_text.Goals as goal

pub loop-byte-preserved : goal.loop-byte-preserved
loop-byte-preserved c =
    let front = c.push.new.self.items in
    let bytes = c.as_bytes-byte-items.result.now in
    let i = c.loop-byte.byte-index in
    let b = get_or bytes i 0 in
    c.in_ok-write_byte.ensures
    ∙ ap (λ xs. xs ++ escaped_byte b) c.loop-byte.invariant
    ∙ flat_map_more escaped_byte front (take i bytes) b
    ∙ ap (λ xs. front ++ flat_map escaped_byte xs) (sym (take_more bytes i 0 c.loop-byte-test.true))

pub returns : goal.returns
returns c =
    let all = take_all c.loop-byte.byte-index c.as_bytes-byte-items.result.now c.loop-byte-test.false in
    rw (c.in_ok-push-2.ensures.items, c.loop-byte.invariant, c.in_ok-push.ensures.items, all, c.as_bytes-byte-items.ensures.value) (simp append_assoc)
