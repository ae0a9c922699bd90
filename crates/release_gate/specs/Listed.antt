-- The listing of a map is of its files.
use Rattle.std.proofs.Common.{◌≡◌, ℕ, List, true, false, Option, Some, None, refl, sym, ◌∙◌}
use Rattle.std.specs.Prelude.{IsSome}
use Rattle.std.specs.Cmp.{eq_by_cmp_equiv}
use Rattle.std.specs.Ordering.{is_eq}
use Rattle.std.proofs.lemmas.Cmp.{nat_list_cmp_total}
use Rattle.std.proofs.lemmas.Map.Text.{is_eq-slice_cmp}
use Rattle.std.proofs.lemmas.Map.Views.{Contains-keys_from_lookup, IsSome-lookup_from_Contains}
use Rattle.std.proofs.lemmas.Slice.Eq.{bytes_eq-Decides}
use Rattle.sigstore_types_parts.specs.Entries.{text_cmp}
use Rattle.release_gate.specs.Folder.{ListsFiles}
use Rattle.release_gate.specs.Memory.{contents_of}

same_text : (x y : List ℕ) → is_eq (text_cmp x y) ≡ true → x ≡ y
same_text x y e = (bytes_eq-Decides x y).0 (sym (is_eq-slice_cmp x y) ∙ e)

is_some : (file : Option (List ℕ)) (bytes : List ℕ) → file ≡ Some bytes → IsSome file
is_some (Some x) bytes e = refl
is_some None bytes e = cc

some_is : (file : Option (List ℕ)) → IsSome file → (bytes : List ℕ) × (file ≡ Some bytes)
some_is (Some x) h = (x, refl)
some_is None h = let e : false ≡ true = h in cc

pub lists_entries : (entries : List (List ℕ × List ℕ)) → ListsFiles (contents_of entries)
lists_entries entries = record {
  listed = λ name bytes e. Contains-keys_from_lookup {eq = λ x y. is_eq (text_cmp x y)} same_text name entries (is_some _ bytes e);
  held = λ name c.
      some_is _ (IsSome-lookup_from_Contains {eq = λ x y. is_eq (text_cmp x y)} (eq_by_cmp_equiv nat_list_cmp_total) name entries c);
}
