-- The documents of the roles that were visited, by their names.
use Rattle.std.proofs.Common.{◌≡◌, ℕ, List, [], ◌∷◌, ◌++◌, Bool, true, false, cond, Option, Some, None, Ok, refl, sym, ap, ◌∙◌}
use Rattle.std.specs.Prelude.{option_map, option_and_then}
use Rattle.std.specs.List.{filter_map, cons_option}
use Rattle.std.specs.Option.{option_or}
use Rattle.std.specs.Ordering.{is_eq}
use Rattle.std.specs.Result.{result_ok}
use Rattle.std.proofs.lemmas.Slice.Eq.{bytes_eq-Decides}
use Rattle.std.proofs.lemmas.Map.Text.{is_eq-slice_cmp}
use Rattle.sigstore_types_parts.specs.Entries.{at_name, text_cmp}
use Rattle.sigstore_tuf_parts.specs.declared.targets.Targets.{Targets}
use Rattle.sigstore_tuf_parts.specs.Document.{Document}
use Rattle.sigstore_tuf_outside.proofs.Files.{at_insert}
use Rattle.sigstore_tuf_rules.specs.declared.chain.RoleDoc.{RoleDoc}
use Rattle.sigstore_tuf_rules.specs.declared.documents.Held.{Held}
use Rattle.sigstore_tuf_rules.specs.declared.documents.InForce.{InForce}
use Rattle.sigstore_tuf_rules.specs.Documents.{targets_document}
use Rattle.sigstore_tuf_rules.specs.Delegated.{with_role}
use Rattle.sigstore_tuf_offers.proofs.ChainVisits.{held_in}

abbrev held_by : List ℕ → Option (List ℕ) → Option (List ℕ × Held Targets)
held_by name bytes = option_and_then (λ b. option_map (λ doc. (name, record { bytes = b; document = doc })) (result_ok (targets_document b))) bytes

abbrev held_read : RoleDoc → Option (List ℕ × Held Targets)
held_read r = held_by r.name r.bytes

-- what the first list has, else what the second has
pub held_append : (xs ys : List RoleDoc) (name : List ℕ) → held_in (xs ++ ys) name ≡ option_or (held_in xs name) (held_in ys name)
held_append [] ys name = refl
held_append (r ∷ rs) ys name = by_bytes r.bytes (held_append rs ys name)
  where
    by_test : (b : Bool) (h : Held Targets) → held_in (rs ++ ys) name ≡ option_or (held_in rs name) (held_in ys name) → cond b (Some h) (held_in (rs ++ ys) name) ≡ option_or (cond b (Some h) (held_in rs name)) (held_in ys name)
    by_test true h rest = refl
    by_test false h rest = rest

    by_doc : (b : List ℕ) (d : Option (Document Targets)) → held_in (rs ++ ys) name ≡ option_or (held_in rs name) (held_in ys name)
        → at_name name (cons_option (option_map (λ doc. (r.name, record { bytes = b; document = doc })) d) (filter_map held_read (rs ++ ys)))
        ≡ option_or (at_name name (cons_option (option_map (λ doc. (r.name, record { bytes = b; document = doc })) d) (filter_map held_read rs))) (held_in ys name)
    by_doc b None rest = rest
    by_doc b (Some doc) rest = by_test (is_eq (text_cmp name r.name)) (record { bytes = b; document = doc }) rest

    by_bytes : (o : Option (List ℕ)) → held_in (rs ++ ys) name ≡ option_or (held_in rs name) (held_in ys name) → at_name name (cons_option (held_by r.name o) (filter_map held_read (rs ++ ys))) ≡ option_or (at_name name (cons_option (held_by r.name o) (filter_map held_read rs))) (held_in ys name)
    by_bytes None rest = rest
    by_bytes (Some b) rest = by_doc b (result_ok (targets_document b)) rest

or_none : {A : Type 0} (o : Option A) → option_or o None ≡ o
or_none None = refl
or_none (Some x) = refl

-- what some roles have, more roles have
pub held_further : (xs ys : List RoleDoc) (name : List ℕ) (h : Held Targets) → held_in xs name ≡ Some h → held_in (xs ++ ys) name ≡ Some h
held_further xs ys name h e = held_append xs ys name ∙ ap (λ o. option_or o (held_in ys name)) e

-- a role without a document adds none
pub none_added : (done : List RoleDoc) (r : RoleDoc) (name : List ℕ) → r.bytes ≡ None → held_in (done ++ r ∷ []) name ≡ held_in done name
none_added done r name none =
    held_append done (r ∷ []) name ∙ ap (λ o. option_or (held_in done name) (at_name name (cons_option (held_by r.name o) []))) none ∙ or_none (held_in done name)

-- the document of a role alone
held_alone : (r : RoleDoc) (held : Held Targets) (name : List ℕ) → r.bytes ≡ Some held.bytes → targets_document held.bytes ≡ Ok held.document → held_in (r ∷ []) name ≡ cond (is_eq (text_cmp name r.name)) (Some held) None
held_alone r held name there read =
    ap (λ o. at_name name (cons_option (held_by r.name o) [])) there
    ∙ ap (λ d. at_name name (cons_option (option_map (λ doc. (r.name, record { bytes = held.bytes; document = doc })) (result_ok d)) [])) read

module _ (set : InForce) (done : List RoleDoc) (r : RoleDoc) (held : Held Targets) (are : (q : List ℕ) → at_name q set.targets ≡ held_in done q) (unread : held_in done r.name ≡ None) (there : r.bytes ≡ Some held.bytes)
    (read : targets_document held.bytes ≡ Ok held.document) where
  -- its document in force is that of the roles
  pub role_added : (q : List ℕ) → at_name q (with_role set r.name held).targets ≡ held_in (done ++ r ∷ []) q
  role_added q =
      at_insert q r.name held set.targets ∙ by_test (is_eq (text_cmp q r.name)) refl
      ∙ sym (held_append done (r ∷ []) q ∙ ap (option_or (held_in done q)) (held_alone r held q there read))
    where
      by_test : (b : Bool) → is_eq (text_cmp q r.name) ≡ b → cond b (Some held) (at_name q set.targets) ≡ option_or (held_in done q) (cond (is_eq (text_cmp q r.name)) (Some held) None)
      by_test true e =
          let same : q ≡ r.name = (bytes_eq-Decides q r.name).0 (sym (is_eq-slice_cmp q r.name) ∙ e) in
          sym (ap (λ o. option_or o (cond (is_eq (text_cmp q r.name)) (Some held) None)) (ap (held_in done) same ∙ unread) ∙ ap (λ b. cond b (Some held) None) e)
      by_test false e = are q ∙ sym (ap (λ b. option_or (held_in done q) (cond b (Some held) None)) e ∙ or_none (held_in done q))

  pub role_at : at_name r.name (with_role set r.name held).targets ≡ Some held
  role_at = at_insert r.name r.name held set.targets ∙ ap (λ b. cond b (Some held) (at_name r.name set.targets)) (is_eq-slice_cmp r.name r.name ∙ (bytes_eq-Decides r.name r.name).1 refl)

-- a name of which there is a document is that of the last role, or there was one before
pub added_or : {C : Type 0} (done : List RoleDoc) (r : RoleDoc) (held h : Held Targets) (q : List ℕ) → r.bytes ≡ Some held.bytes → targets_document held.bytes ≡ Ok held.document → held_in (done ++ r ∷ []) q ≡ Some h
    → ((x : Held Targets) → held_in done q ≡ Some x → C) → (q ≡ r.name → C) → C
added_or {C} done r held h q there read e before now =
    by_done (held_in done q) refl (sym (held_append done (r ∷ []) q ∙ ap (option_or (held_in done q)) (held_alone r held q there read)) ∙ e)
  where
    by_test : (b : Bool) → is_eq (text_cmp q r.name) ≡ b → cond b (Some held) None ≡ Some h → C
    by_test true t k = now ((bytes_eq-Decides q r.name).0 (sym (is_eq-slice_cmp q r.name) ∙ t))
    by_test false t k = cc

    by_done : (o : Option (Held Targets)) → held_in done q ≡ o → option_or o (cond (is_eq (text_cmp q r.name)) (Some held) None) ≡ Some h → C
    by_done None d k = by_test (is_eq (text_cmp q r.name)) refl k
    by_done (Some x) d k = before x d
