use Rattle.sigstore_tuf_runs.specs.Search.{IsOpen, short, unready, gapped}
use Rattle.sigstore_tuf_runs.proofs.Searched.{drained, all_read, skips, goes_on, is_unread, snapshot_stays, none_left, some_left}
use Rattle.sigstore_tuf_client.proofs.search.walk_all.Goals as goal

pub returns-in-Err : goal.returns-in-Err
returns-in-Err g c = λ snapshot at. rw c.from.ensures (short _ _ _)

pub returns-in_default : goal.returns-in_default
returns-in_default g c = λ snapshot at.
    (c.loop-walk.invariant snapshot at).1 _ _ (all_read _ _ _ _ _ _ (rw c.as_slice.ensures at c.in_default.ensures.first))

pub returns-in-Err-ready : goal.returns-in-Err-ready
returns-in-Err-ready g c = λ snapshot at.
    let so_far = c.loop-walk.invariant snapshot at in
    let first = rw c.as_slice.ensures at c.in-Some.ensures.first in
    let allowed : IsOpen c.in-Some.visit c.loop-walk.walk = (some_left _ c.loop-walk-test.true, is_unread _ _ _ _ first) in
    so_far.1 _ _ (skips _ _ _ _ _ _ _ _ _ _ first (unready _ _ _ _ _ _ (c.in-Err-ready.ensures c.loop-walk.walk allowed)))

pub returns-in-Err-advance : goal.returns-in-Err-advance
returns-in-Err-advance g c = λ snapshot at.
    let so_far = c.loop-walk.invariant snapshot at in
    let first = rw c.as_slice.ensures at c.in-Some.ensures.first in
    let allowed : IsOpen c.in-Some.visit c.loop-walk.walk = (some_left _ c.loop-walk-test.true, is_unread _ _ _ _ first) in
    let had = c.in-Ok-ready.ensures c.loop-walk.walk allowed in
    so_far.1 _ _ (skips _ _ _ _ _ _ _ _ _ _ first
    (gapped _ _ _ _ _ _ had (λ other. c.in-Err-advance.ensures.err other snapshot (snapshot_stays _ _ _ _ _ _ snapshot had so_far.0) allowed)))

pub loop-walk-preserved : goal.loop-walk-preserved
loop-walk-preserved g c = λ snapshot at.
    let so_far = c.loop-walk.invariant snapshot at in
    let first = rw c.as_slice.ensures at c.in-Some.ensures.first in
    let allowed : IsOpen c.in-Some.visit c.loop-walk.walk = (some_left _ c.loop-walk-test.true, is_unread _ _ _ _ first) in
    let had = c.in-Ok-ready.ensures c.loop-walk.walk allowed in
    let stays = snapshot_stays _ _ _ _ _ _ snapshot had so_far.0 in (
      stays,
      λ new result s. so_far.1 _ _ (skips _ _ _ _ _ _ _ _ _ _ first (goes_on _ _ _ _ _ _ _ _ _ _ _ _ had (c.in-Ok-advance.ensures.ok snapshot stays allowed) s)),
    )

pub returns : goal.returns
returns g c = λ snapshot at. (c.loop-walk.invariant snapshot at).1 _ _ (drained _ _ _ _ _ _ (none_left _ c.loop-walk-test.false))
