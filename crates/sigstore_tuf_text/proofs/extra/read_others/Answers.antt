use Rattle.std.proofs.Common.{◌≡◌, List, [], ◌∷◌, ◌++◌, false, true, string_bytes, sym, ap, ◌∙◌, subst, append_assoc}
use Rattle.std.specs.List.Sorted.{IsStrictlySortedBy}
use Rattle.std.specs.Map.{keys_of}
use Rattle.serde_json.specs.View.{view, members_view}
use Rattle.sigstore_types_parts.specs.Entries.{text_cmp}
use Rattle.sigstore_tuf_text.specs.declared.member.DocumentMember.{DocumentMember}
use Rattle.sigstore_tuf_text.specs.Others.{others_in, is_named}
use Rattle.sigstore_types_parts.proofs.Entries.{Entry, names_of, names_ascend, insert_last, keys_of-append}
use Rattle.sigstore_tuf_text.proofs.OtherFacts.{ascend_without, others_in-kept, others_in-passed}
use Rattle.sigstore_tuf_text.proofs.extra.read_others.Goals as goal

pub loop-name-init : goal.loop-name-init
loop-name-init c =
    let all : c.into_iter-name-iterator.result ≡ c.args.members.now.entries = c.into_iter-name-iterator.ensures.into_iter_gives ∙ c.iter-name-items.ensures.rest in
    record {
      sorted = rw (c.new-found.ensures, all) (names_ascend c.args.members.now.entries c.iter-name-items.ensures.ordered);
      others = rw (c.new-found.ensures, all);
    }

pub loop-name-preserved-in_ok-insert : goal.loop-name-preserved-in_ok-insert
loop-name-preserved-in_ok-insert c =
    let l = c.loop-name in
    let names : List DocumentMember = c.args.known.now in
    let e : Entry = (c.in-Some.name.now, c.in-Some.member.now) in
    let k = string_bytes c.in-Some.name.now in
    let d = view c.in-Some.member.now in
    let left = c.next.new.self in
    let step : l.name-iterator ≡ e ∷ left = c.in-Some.ensures.steps in
    let ascending : IsStrictlySortedBy text_cmp (keys_of l.found ++ k ∷ names_of left) =
    subst (λ (es : List Entry). IsStrictlySortedBy text_cmp (keys_of l.found ++ names_of es)) step l.invariant.sorted in
    let name : c.in_ok-new.field-0 ≡ k = c.in_ok-new.ensures ∙ c.as_str-then-not-is_named.ensures.value in
    let put : c.insert.new.self ≡ l.found ++ (k, d) ∷ [] =
    c.in_ok-insert.ensures.ok ∙ rw (name, c.in_ok-copy_of.ensures) (insert_last l.found k d (names_of left) ascending) in
    let apart : is_named names k ≡ false = ap (is_named names) (sym c.as_str.ensures.value) ∙ sym c.if-not-is_named.ensures in
    record {
      sorted = rw (put, keys_of-append, append_assoc) ascending;
      others =
          l.invariant.others
          ∙ ap (λ (es : List Entry). l.found ++ others_in names (members_view es)) step
          ∙ others_in-kept names l.found k d (members_view left) apart
          ∙ rw put;
    }

pub loop-name-preserved : goal.loop-name-preserved
loop-name-preserved c =
    let l = c.loop-name in
    let names : List DocumentMember = c.args.known.now in
    let e : Entry = (c.in-Some.name.now, c.in-Some.member.now) in
    let k = string_bytes c.in-Some.name.now in
    let left = c.next.new.self in
    let step : l.name-iterator ≡ e ∷ left = c.in-Some.ensures.steps in
    let known : is_named names k ≡ true = ap (is_named names) (sym c.as_str.ensures.value) ∙ sym c.if-not-is_named.ensures in
    record {
      sorted = ascend_without (keys_of l.found) k (names_of left)
          (subst (λ (es : List Entry). IsStrictlySortedBy text_cmp (keys_of l.found ++ names_of es)) step l.invariant.sorted);
      others =
          l.invariant.others
          ∙ ap (λ (es : List Entry). l.found ++ others_in names (members_view es)) step
          ∙ others_in-passed names l.found k (view c.in-Some.member.now) (members_view left) known;
    }
