-- Members that are passed over or kept, in the order of their names.
use Rattle.std.proofs.Common.{◌≡◌, ℕ, List, [], ◌∷◌, ◌++◌, true, false, Less, sym, append_assoc}
use Rattle.std.specs.List.{AllByRecursion}
use Rattle.std.specs.List.Sorted.{IsStrictlySortedBy}
use Rattle.serde_json.specs.Data.{Data, Members, member}
use Rattle.sigstore_types_parts.specs.Entries.{text_cmp}
use Rattle.sigstore_tuf_text.specs.declared.member.DocumentMember.{DocumentMember}
use Rattle.sigstore_tuf_text.specs.Others.{is_named, others_in}

all_without : (P : List ℕ → Type 0) (ks : List (List ℕ)) (k : List ℕ) (more : List (List ℕ)) → AllByRecursion P (ks ++ k ∷ more) → AllByRecursion P (ks ++ more)
all_without P [] k more h = h.1
all_without P (l ∷ ks) k more h = (h.0, all_without P ks k more h.1)

-- one name less
pub ascend_without : (ks : List (List ℕ)) (k : List ℕ) (more : List (List ℕ)) → IsStrictlySortedBy text_cmp (ks ++ k ∷ more) → IsStrictlySortedBy text_cmp (ks ++ more)
unfolding IsStrictlySortedBy
ascend_without [] k more h = h.1
ascend_without (l ∷ ks) k more h = (all_without (λ y. text_cmp l y ≡ Less) ks k more h.0, ascend_without ks k more h.1)

-- a member that is passed over, and one that is kept
pub others_in-passed : (known : List DocumentMember) (es : List (List ℕ × Data)) (k : List ℕ) (d : Data) (ms : Members) → is_named known k ≡ true
    → es ++ others_in known (member k d ms) ≡ es ++ others_in known ms
others_in-passed known es k d ms is = rw is

pub others_in-kept : (known : List DocumentMember) (es : List (List ℕ × Data)) (k : List ℕ) (d : Data) (ms : Members) → is_named known k ≡ false
    → es ++ others_in known (member k d ms) ≡ (es ++ (k, d) ∷ []) ++ others_in known ms
others_in-kept known es k d ms is = rw is (sym (append_assoc es ((k, d) ∷ []) (others_in known ms)))
