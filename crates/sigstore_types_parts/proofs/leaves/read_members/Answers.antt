use Rattle.std.proofs.Common.{◌≡◌, List, ◌∷◌, [], ◌++◌, Ok, string_bytes, ap, ◌∙◌, subst, append_assoc}
use Rattle.std.specs.List.Sorted.{IsStrictlySortedBy}
use Rattle.std.specs.Map.{keys_of}
use Rattle.std.specs.BTreeMap.{insert_entry}
use Rattle.serde_json.specs.View.{view, members_view}
use Rattle.sigstore_types_parts.specs.Entries.{text_cmp}
use Rattle.foundation.specs.Steps.{◌>>=◌}
use Rattle.sigstore_types_parts.specs.Read.{entries_of}
use Rattle.sigstore_types_parts.proofs.Entries.{Entry, names_of, names_ascend, insert_last, keys_of-append, entries_of-member, after_none}
use Rattle.sigstore_types_parts.proofs.leaves.read_members.Goals as goal

pub loop-name-init : goal.loop-name-init
loop-name-init g c =
    let all : c.into_iter-name-iterator.result ≡ c.args.members.now.entries = c.into_iter-name-iterator.ensures.into_iter_gives ∙ c.iter-name-items.ensures.rest in
    record {
      sorted = rw (c.new-found.ensures, all) (names_ascend c.args.members.now.entries c.iter-name-items.ensures.ordered);
      read = rw (c.new-found.ensures, all) (after_none _);
    }

pub loop-name-preserved : goal.loop-name-preserved
loop-name-preserved g c =
    let l = c.loop-name in
    let reads = g.T.FromValue.reads in
    let e : Entry = (c.in-Some.name.now, c.in-Some.member.now) in
    let k = string_bytes c.in-Some.name.now in
    let x = c.in-Ok.item in
    let left = c.next.new.self in
    let step : l.name-iterator ≡ e ∷ left = c.in-Some.ensures.steps in
    let ascending : IsStrictlySortedBy text_cmp (keys_of l.found ++ k ∷ names_of left) =
    subst (λ (es : List Entry). IsStrictlySortedBy text_cmp (keys_of l.found ++ names_of es)) step l.invariant.sorted in
    let put : c.put.new.found ≡ l.found ++ (k, x) ∷ [] =
    c.in-Ok-put.ensures.ok ∙ ap (λ n. insert_entry text_cmp l.found n x) c.as_str.ensures.value ∙ insert_last l.found k x (names_of left) ascending in
    record {
      sorted = rw (put, keys_of-append, append_assoc) ascending;
      read =
          l.invariant.read
          ∙ ap (λ (es : List Entry). entries_of reads (members_view es) >>= λ rest. Ok (l.found ++ rest)) step
          ∙ entries_of-member reads l.found k (view c.in-Some.member.now) (members_view left) x c.in-Ok.ensures.ok
          ∙ rw put;
    }
