-- The judgement that was made is kept at the place of its pair.
use Rattle.std.proofs.Common.{◌≡◌, ◌+◌, ◌*◌, ◌<◌, length, ℕ, false, ap, sym, subst, ◌∙◌, All, arith}
use Rattle.std.specs.Ordering.{nat_cmp}
use Rattle.std.specs.BTreeMap.{get, btree_map_len}
use Rattle.std.specs.Map.{keys_of}
use Rattle.std.proofs.lemmas.Map.Views.{All-keys-insert_entry}
use Rattle.path_core.specs.Links.{links}
use Rattle.path_core.specs.Search.{setting_of, source_at, judgement}
use Rattle.path_core.specs.Counts.{width_of}
use Rattle.path_core.proofs.Judging.{tells_after, place_within, one_more, counted_once, in_range, still_kept, kept_at}
use Rattle.path_core.proofs.judgements.judge_pair.Goals as goal

pub returns-clause-value : goal.returns-clause-value
unfolding judgement
returns-clause-value g c =
    let w = setting_of g.C.CryptoProvider.accepts c.args.given.now in
    c.is_linked-good.ensures.value ∙ ap (λ x. links w.accepts x c.target_of.result.now) c.source_of.ensures ∙ ap (links w.accepts (source_at w c.args.source)) c.target_of.ensures

pub returns-clause-kept : goal.returns-clause-kept
returns-clause-kept g c = kept_at _ c.is_linked-good.result c.in_ok-insert-2.ensures.updates.1

pub returns-clause-keeps : goal.returns-clause-keeps
returns-clause-keeps g c =
    let w = setting_of g.C.CryptoProvider.accepts c.args.given.now in
    let old = c.args.made.now.judged in
    let held = c.insert.new.self in
    let new = c.insert-2.new.self in
    let one = c.in_ok-insert.ensures in
    let two = c.in_ok-insert-2.ensures in
    let ticks = c.is_linked-good.ensures.ticks in
    let more : btree_map_len new ≡ btree_map_len old + 1 = one_more (btree_map_len old) (btree_map_len held) (btree_map_len new) c.in_ok-insert.field-0 c.in_ok-insert-2.field-0
    (one.old ∙ c.requires.absent) (two.old ∙ one.updates.1) one.len two.len in
    let within = place_within w c.args.place c.args.source c.args.target c.requires.place c.requires.source c.requires.target in
    let Below : ℕ → Type 0 = λ k. k < (length w.intermediates + 1) * width_of w in
    record {
      right = record {
        right = tells_after w (get nat_cmp old) (get nat_cmp held) (get nat_cmp new) c.args.place c.args.source c.args.target c.is_linked-good.result
            one.updates.0 two.updates.0 c.requires.place c.requires.target (returns-clause-value g c) c.requires.right.right;
        within = subst (λ es. All Below (keys_of es)) (sym two.entries) (All-keys-insert_entry nat_cmp c.args.place c.is_linked-good.result Below held.entries
            (subst (λ es. All Below (keys_of es)) (sym one.entries) (All-keys-insert_entry nat_cmp c.args.place false Below old.entries c.requires.right.within within)) within);
        ordered = two.ordered;
        fits = in_range c.args.made.now.steps c.is_linked-good.new.steps ticks;
      };
      holds = λ k h. still_kept (get nat_cmp held) (get nat_cmp new) c.args.place c.is_linked-good.result two.updates.0 k
          (still_kept (get nat_cmp old) (get nat_cmp held) c.args.place false one.updates.0 k h);
      more = omega arith;
      counted = counted_once c.args.made.now.steps c.is_linked-good.new.steps (btree_map_len old) (btree_map_len new) more ticks;
    }
