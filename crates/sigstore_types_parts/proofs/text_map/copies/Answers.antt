use Rattle.std.proofs.Common.{◌≡◌, List, ◌∷◌, [], ◌++◌, ℕ, string_bytes, sym, ap, ◌∙◌, subst}
use Rattle.std.specs.List.Sorted.{IsStrictlySortedBy}
use Rattle.std.specs.Map.{keys_of}
use Rattle.std.specs.BTreeMap.{insert_entry}
use Rattle.sigstore_types_parts.specs.Entries.{text_cmp, named}
use Rattle.sigstore_types_parts.proofs.EntryFacts.{entries_move}
use Rattle.sigstore_types_parts.proofs.Entries.{insert_last, keys_of-append}
use Rattle.sigstore_types_parts.proofs.text_map.copies.Goals as goal

pub loop-name-preserved : goal.loop-name-preserved
loop-name-preserved g c =
    let l = c.loop-name in
    let k : List ℕ = string_bytes c.in-Some.name.now in
    let x = c.in_ok-duplicate.field-0 in
    let left = c.next.new.self in
    let named_step : named l.name-iterator ≡ (k, c.in-Some.item.now) ∷ named left = ap named c.in-Some.ensures.steps in
    let step : l.found ++ named l.name-iterator ≡ l.found ++ ((k, x) ∷ named left) =
    ap (λ es. l.found ++ es) (named_step ∙ ap (λ y. (k, y) ∷ named left) (sym c.in_ok-duplicate.ensures)) in
    let ascending : IsStrictlySortedBy text_cmp (keys_of (l.found ++ ((k, x) ∷ named left))) =
    subst (λ es. IsStrictlySortedBy text_cmp (keys_of es)) step l.invariant.sorted in
    let put : c.put.new.found ≡ l.found ++ (k, x) ∷ [] =
    c.in_ok-put.ensures.ok ∙ ap (λ n. insert_entry text_cmp l.found n x) c.as_str.ensures.value ∙ insert_last l.found k x (keys_of (named left)) (rw keys_of-append at ascending) in
    let moved : l.found ++ ((k, x) ∷ named left) ≡ c.put.new.found ++ named left =
    entries_move l.found k x left ∙ ap (λ es. es ++ named left) (sym put) in
    record {
      sorted = subst (λ es. IsStrictlySortedBy text_cmp (keys_of es)) moved ascending;
      same = sym moved ∙ sym step ∙ l.invariant.same;
    }
