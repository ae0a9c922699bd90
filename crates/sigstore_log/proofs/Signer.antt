-- The log of a checkpoint is, of those that signed it, the one of the least id; and there is one exactly where one signed.
use Rattle.std.proofs.Common.{◌≡◌, ◌⊎◌, inl, inr, ℕ, zero, suc, List, [], ◌∷◌, Bool, true, false, ◌&&◌, ◌||◌, is_some, if◌then◌else◌, Option, Some, None, Ordering, Less, Equal, Greater, refl, sym, ap, subst, ◌∙◌, arith, Contains}
use Rattle.std.specs.Prelude.{IsTrue}
use Rattle.std.specs.List.{list_any}
use Rattle.std.specs.Ordering.{is_eq, is_gt, ordering_reverse}
use Rattle.std.specs.Bool.{Decides}
use Rattle.std.specs.Cmp.Lexicographic.{texts_ties}
use Rattle.std.proofs.lemmas.Cmp.{nat_list_cmp_total, tied_itself, upto}
use Rattle.std.proofs.lemmas.Slice.Eq.{bytes_eq-Decides}
use Rattle.foundation.specs.Results.{and_true}
use Rattle.jiff_core.specs.declared.timestamp.Timestamp.{Timestamp}
use Rattle.sigstore_types_parts.specs.Entries.{text_cmp}
use Rattle.sigstore_keys.specs.declared.keyring.HeldKey.{HeldKey}
use Rattle.sigstore_keys.specs.Good.{Judge, is_good}
use Rattle.sigstore_keys.specs.Keyring.{Ring, is_meant, is_signer, signers_of, lesser, least_of}
use Rattle.sigstore_entries.specs.declared.checkpoint.Checkpoint.{Checkpoint}
use Rattle.sigstore_entries.specs.declared.signature_line.CheckpointSignature.{CheckpointSignature}
use Rattle.sigstore_entries.specs.Checkpoint.{signed_data_of}
use Rattle.sigstore_log.specs.Signed.{looked_at, is_vouched, is_signed_by, line_signer, least_signer_in, signer_of}
use Rattle.sigstore_log.specs.Logged.{IsSigner, IsLeast, SignerExactly}
use Rattle.sigstore_log.proofs.Signing.{any_meant}

-- ---- members of a list

first : {A : Type 0} (x : A) (xs : List A) → Contains (x ∷ xs) x
first x xs = (0, omega arith, refl)

later : {A : Type 0} (x : A) (xs : List A) (y : A) → Contains xs y → Contains (x ∷ xs) y
later x xs y c = (suc c.0, omega (arith, c.1), c.2)

where_in : {A : Type 0} (x : A) (xs : List A) (y : A) → Contains (x ∷ xs) y → (x ≡ y) ⊎ Contains xs y
where_in x xs y (zero, l, e) = inl e
where_in x xs y (suc k, l, e) = inr (k, omega (arith, l), e)

true_false : true ≡ false → ⊥
true_false h = cc

left_alone : (P : Type 0) → P ⊎ ⊥ → P
left_alone P (inl p) = p
left_alone P (inr none) = absurd none

to_right : (P Q R : Type 0) → (P ⊎ Q) ⊎ R → P ⊎ (Q ⊎ R)
to_right P Q R (inl (inl p)) = inl p
to_right P Q R (inl (inr q)) = inr (inl q)
to_right P Q R (inr r) = inr (inr r)

to_left : (P Q R : Type 0) → P ⊎ (Q ⊎ R) → (P ⊎ Q) ⊎ R
to_left P Q R (inl p) = inl (inl p)
to_left P Q R (inr (inl q)) = inl (inr q)
to_left P Q R (inr (inr r)) = inr r

or_false : (b : Bool) → b ≡ (b || false)
or_false true = refl
or_false false = refl

-- ---- the least of ids

abbrev Upto : List ℕ → List ℕ → Type 0
Upto id other = is_gt (text_cmp id other) ≡ false

-- the least id of which a property holds; none where it holds of none
abbrev IsLeastOf : (List ℕ → Type 0) → Option (List ℕ) → Type 0
IsLeastOf P None = (id : List ℕ) → P id → ⊥
IsLeastOf P (Some id) = P id × ((other : List ℕ) → P other → Upto id other)

same_least : (P Q : List ℕ → Type 0) → ((id : List ℕ) → P id → Q id) → ((id : List ℕ) → Q id → P id) → (o : Option (List ℕ)) → IsLeastOf P o
    → IsLeastOf Q o
same_least P Q there back None none = λ id q. none id (back id q)
same_least P Q there back (Some id) least = (there id least.0, λ other q. least.1 other (back other q))

not_above : (o : Ordering) → is_gt o ≡ true → is_gt (ordering_reverse o) ≡ false
not_above Less h = cc
not_above Equal h = cc
not_above Greater h = refl

below : (x y : List ℕ) → is_gt (text_cmp x y) ≡ true → Upto y x
below x y h = ap is_gt (nat_list_cmp_total.antisymm y x) ∙ not_above (text_cmp x y) h

module _ (P Q : List ℕ → Type 0) where
  abbrev Either : List ℕ → Type 0
  Either id = P id ⊎ Q id

  -- what is below all of one and all of the other
  of_both : (id : List ℕ) → ((other : List ℕ) → P other → Upto id other) → ((other : List ℕ) → Q other → Upto id other) → (other : List ℕ) → Either other
      → Upto id other
  of_both id p q other (inl x) = p other x
  of_both id p q other (inr y) = q other y

  none_of_both : ((id : List ℕ) → P id → ⊥) → ((id : List ℕ) → Q id → ⊥) → (id : List ℕ) → Either id → ⊥
  none_of_both p q id (inl x) = p id x
  none_of_both p q id (inr y) = q id y

  lesser_joins : (a b : Option (List ℕ)) → IsLeastOf P a → IsLeastOf Q b → IsLeastOf Either (lesser a b)
  lesser_joins None None p q = none_of_both p q
  lesser_joins None (Some y) p q = (inr q.0, of_both y (λ other x. absurd (p other x)) q.1)
  lesser_joins (Some x) None p q = (inl p.0, of_both x p.1 (λ other y. absurd (q other y)))
  lesser_joins (Some x) (Some y) p q = by (is_gt (text_cmp x y)) refl
    where
      by : (b : Bool) → is_gt (text_cmp x y) ≡ b → IsLeastOf Either (if b then Some y else Some x)
      by true is = (inr q.0, of_both y (λ other z. upto nat_list_cmp_total y x other (below x y is) (p.1 other z)) q.1)
      by false is = (inl p.0, of_both x p.1 (λ other z. upto nat_list_cmp_total x y other is (q.1 other z)))

abbrev Among : List (List ℕ) → List ℕ → Type 0
Among [] id = ⊥
Among (x ∷ xs) id = (x ≡ id) ⊎ Among xs id

least_is : (ids : List (List ℕ)) → IsLeastOf (Among ids) (least_of ids)
least_is [] = λ id none. none
least_is (x ∷ xs) =
    lesser_joins (λ id. x ≡ id) (Among xs) (Some x) (least_of xs)
    (refl, λ other same. subst (Upto x) same (ap is_gt (tied_itself nat_list_cmp_total x))) (least_is xs)

-- two that are each the least are one
tie : (o : Ordering) → is_gt o ≡ false → is_gt (ordering_reverse o) ≡ false → o ≡ Equal
tie Less h k = cc
tie Equal h k = refl
tie Greater h k = cc

equal_ids : (x y : List ℕ) → text_cmp x y ≡ Equal → x ≡ y
equal_ids x y h =
    let decided : Decides (is_eq (text_cmp x y)) (x ≡ y) = subst (λ b. Decides b (x ≡ y)) (texts_ties x y) (bytes_eq-Decides x y) in
    decided.0 (ap is_eq h)

one_least : (x y : List ℕ) → Upto x y → Upto y x → x ≡ y
one_least x y a b = equal_ids x y (tie (text_cmp x y) a (ap is_gt (sym (nat_list_cmp_total.antisymm y x)) ∙ b))

-- ---- over the lines of a checkpoint

module _ (accepts : Judge) (logs : Ring) (now : Timestamp) (checkpoint : Checkpoint) where
  abbrev signed : List ℕ
  signed = signed_data_of checkpoint

  abbrev is_its : CheckpointSignature → List ℕ × HeldKey → Bool
  is_its line = is_signer accepts line.key_id now signed line.signature

  -- a trusted log of that id whose signature the line has
  record SignsLine (ring : Ring) (line : CheckpointSignature) (id : List ℕ) : Type 0 where
    log : HeldKey
    trusted : Contains ring (id, log)
    its : is_its line (id, log) ≡ true

  onward : (entry : List ℕ × HeldKey) (ring : Ring) (line : CheckpointSignature) (id : List ℕ) → SignsLine ring line id → SignsLine (entry ∷ ring) line id
  onward entry ring line id s = record { log = s.log; trusted = later entry ring (id, s.log) s.trusted; its = s.its }

  ids_sign : (ring : Ring) (line : CheckpointSignature) (id : List ℕ) → Among (signers_of accepts line.key_id now signed line.signature ring) id → SignsLine ring line id
  ids_sign [] line id a = absurd a
  ids_sign (entry ∷ ring) line id a = by (λ rest. onward entry ring line id (ids_sign ring line id rest)) (is_its line entry) refl a
    where
      by : (Among (signers_of accepts line.key_id now signed line.signature ring) id → SignsLine (entry ∷ ring) line id) → (b : Bool) → is_its line entry ≡ b
          → Among (if b then entry.0 ∷ signers_of accepts line.key_id now signed line.signature ring else signers_of accepts line.key_id now signed line.signature ring) id
          → SignsLine (entry ∷ ring) line id
      by rest true is (inl same) =
          subst (SignsLine (entry ∷ ring) line) same (record { log = entry.1; trusted = first entry ring; its = is })
      by rest true is (inr among) = rest among
      by rest false is among = rest among

  sign_ids : (ring : Ring) (line : CheckpointSignature) (id : List ℕ) (log : HeldKey) → Contains ring (id, log) → is_its line (id, log) ≡ true
      → Among (signers_of accepts line.key_id now signed line.signature ring) id
  sign_ids [] line id log there its = absurd (omega (arith, there.1))
  sign_ids (entry ∷ ring) line id log there its =
      by (λ rest. sign_ids ring line id log rest its) (is_its line entry) refl (where_in entry ring (id, log) there)
    where
      by : (Contains ring (id, log) → Among (signers_of accepts line.key_id now signed line.signature ring) id) → (b : Bool) → is_its line entry ≡ b
          → (entry ≡ (id, log)) ⊎ Contains ring (id, log)
          → Among (if b then entry.0 ∷ signers_of accepts line.key_id now signed line.signature ring else signers_of accepts line.key_id now signed line.signature ring) id
      by rest true is (inl same) = inl (ap (λ e. e.0) same)
      by rest true is (inr among) = inr (rest among)
      by rest false is (inl same) = absurd (true_false (sym its ∙ sym (ap (is_its line) same) ∙ is))
      by rest false is (inr among) = rest among

  abbrev Ids : CheckpointSignature → List ℕ → Type 0
  Ids line = Among (signers_of accepts line.key_id now signed line.signature logs)

  abbrev OverLines : List CheckpointSignature → List ℕ → Type 0
  OverLines [] id = ⊥
  OverLines (line ∷ lines) id = Ids line id ⊎ OverLines lines id

  abbrev signer : CheckpointSignature → Option (List ℕ)
  signer line = line_signer accepts logs now signed line

  onto : (P : List ℕ → Type 0) (found : Option (List ℕ)) (lines : List CheckpointSignature) → IsLeastOf P found
      → IsLeastOf (λ id. P id ⊎ OverLines lines id) (least_signer_in signer found lines)
  onto P found [] least = same_least P (λ id. P id ⊎ ⊥) (λ id p. inl p) (λ id e. left_alone (P id) e) found least
  onto P found (line ∷ lines) least =
      same_least (λ id. (P id ⊎ Ids line id) ⊎ OverLines lines id) (λ id. P id ⊎ (Ids line id ⊎ OverLines lines id))
      (λ id e. to_right (P id) (Ids line id) (OverLines lines id) e) (λ id e. to_left (P id) (Ids line id) (OverLines lines id) e)
      (least_signer_in signer (lesser found (signer line)) lines)
      (onto (λ id. P id ⊎ Ids line id) (lesser found (signer line)) lines
      (lesser_joins P (Ids line) found (signer line) least (least_is (signers_of accepts line.key_id now signed line.signature logs))))

  over_signs : (lines : List CheckpointSignature) (id : List ℕ) → OverLines lines id
      → (line : CheckpointSignature) × Contains lines line × SignsLine logs line id
  over_signs [] id e = absurd e
  over_signs (line ∷ lines) id (inl here) = (line, first line lines, ids_sign logs line id here)
  over_signs (line ∷ lines) id (inr there) =
      let r = over_signs lines id there in (r.0, later line lines r.0 r.1, r.2)

  signs_over : (lines : List CheckpointSignature) (id : List ℕ) (line : CheckpointSignature) → Contains lines line → SignsLine logs line id → OverLines lines id
  signs_over [] id line there s = absurd (omega (arith, there.1))
  signs_over (one ∷ lines) id line there s = by (λ among. signs_over lines id line among s) (where_in one lines line there)
    where
      by : (Contains lines line → OverLines lines id) → (one ≡ line) ⊎ Contains lines line → OverLines (one ∷ lines) id
      by rest (inl same) = inl (subst (λ l. Ids l id) (sym same) (sign_ids logs line id s.log s.trusted s.its))
      by rest (inr among) = inr (rest among)

  to_signer : (id : List ℕ) → ⊥ ⊎ OverLines (looked_at checkpoint.signatures) id → IsSigner accepts logs now checkpoint id
  to_signer id (inl none) = absurd none
  to_signer id (inr over) =
      let r = over_signs (looked_at checkpoint.signatures) id over in
      let s = r.2 in
      let both = and_true (is_meant (r.0).key_id now (id, s.log)) (is_good accepts s.log.key signed (r.0).signature) s.its in
      record { line = r.0; among = r.1; log = s.log; trusted = s.trusted; meant = both.0; good = both.1 }

  of_signer : (id : List ℕ) → IsSigner accepts logs now checkpoint id → ⊥ ⊎ OverLines (looked_at checkpoint.signatures) id
  of_signer id s =
      inr (signs_over (looked_at checkpoint.signatures) id s.line s.among
      (record { log = s.log; trusted = s.trusted; its = ap (λ b. b && is_good accepts s.log.key signed s.line.signature) s.meant ∙ s.good }))

  least_signer : IsLeastOf (IsSigner accepts logs now checkpoint) (signer_of accepts logs now checkpoint)
  least_signer =
      same_least (λ id. ⊥ ⊎ OverLines (looked_at checkpoint.signatures) id) (IsSigner accepts logs now checkpoint) to_signer of_signer
      (signer_of accepts logs now checkpoint) (onto (λ id. ⊥) None (looked_at checkpoint.signatures) (λ id none. none))

  signer_means : (id : List ℕ) → signer_of accepts logs now checkpoint ≡ Some id → IsSigner accepts logs now checkpoint id × IsLeast accepts logs now checkpoint id
  signer_means id h = subst (IsLeastOf (IsSigner accepts logs now checkpoint)) h least_signer

  signer_passes : (id : List ℕ) → IsSigner accepts logs now checkpoint id × IsLeast accepts logs now checkpoint id → signer_of accepts logs now checkpoint ≡ Some id
  signer_passes id s = by (signer_of accepts logs now checkpoint) least_signer
    where
      by : (o : Option (List ℕ)) → IsLeastOf (IsSigner accepts logs now checkpoint) o → o ≡ Some id
      by None none = absurd (none id s.0)
      by (Some other) least = ap Some (one_least other id (least.1 id s.0) (s.1 other least.0))

  -- ---- whether there is one

  some_lesser : (a b : Option (List ℕ)) → is_some (lesser a b) ≡ (is_some a || is_some b)
  some_lesser None b = refl
  some_lesser (Some x) None = refl
  some_lesser (Some x) (Some y) = by (is_gt (text_cmp x y))
    where
      by : (b : Bool) → is_some (if b then Some y else Some x) ≡ true
      by true = refl
      by false = refl

  some_of : (line : CheckpointSignature) (ring : Ring)
      → is_some (least_of (signers_of accepts line.key_id now signed line.signature ring)) ≡ list_any (is_its line) ring
  some_of line [] = refl
  some_of line (entry ∷ ring) = by (some_of line ring) (is_its line entry)
    where
      by : is_some (least_of (signers_of accepts line.key_id now signed line.signature ring)) ≡ list_any (is_its line) ring → (b : Bool)
          → is_some (least_of (if b then entry.0 ∷ signers_of accepts line.key_id now signed line.signature ring else signers_of accepts line.key_id now signed line.signature ring))
          ≡ (b || list_any (is_its line) ring)
      by rest true = some_lesser (Some entry.0) (least_of (signers_of accepts line.key_id now signed line.signature ring))
      by rest false = rest

  some_line : (line : CheckpointSignature) → is_some (signer line) ≡ is_vouched accepts logs now signed line
  some_line line = some_of line logs ∙ sym (any_meant (λ key. is_good accepts key signed line.signature) line.key_id now logs)

  or_apart : (a b c : Bool) → ((a || b) || c) ≡ (a || (b || c))
  or_apart true b c = refl
  or_apart false b c = refl

  some_in : (found : Option (List ℕ)) (lines : List CheckpointSignature)
      → is_some (least_signer_in signer found lines) ≡ (is_some found || list_any (is_vouched accepts logs now signed) lines)
  some_in found [] = or_false (is_some found)
  some_in found (line ∷ lines) =
      some_in (lesser found (signer line)) lines
      ∙ ap (λ b. b || list_any (is_vouched accepts logs now signed) lines) (some_lesser found (signer line))
      ∙ or_apart (is_some found) (is_some (signer line)) (list_any (is_vouched accepts logs now signed) lines)
      ∙ ap (λ b. is_some found || (b || list_any (is_vouched accepts logs now signed) lines)) (some_line line)

  pub signed_where_found : is_some (signer_of accepts logs now checkpoint) ≡ is_signed_by accepts logs now checkpoint
  signed_where_found = some_in None (looked_at checkpoint.signatures)

pub signer_exactly : SignerExactly
signer_exactly accepts logs now checkpoint id = (signer_means accepts logs now checkpoint id, signer_passes accepts logs now checkpoint id)
