-- Each name that a targets document delegates to is no longer than the document.
use Rattle.std.proofs.Common.{◌≡◌, ℕ, ◌≤◌, List, [], ◌∷◌, length, Bool, true, false, if◌then◌else◌, Option, Some, None, IfSome, is_some, ok_or, Result, Ok, Err, codes, refl, ◌==◌, subst}
use Rattle.std.specs.Prelude.{⊤}
use Rattle.std.specs.List.{AllByRecursion}
use Rattle.std.specs.Ordering.{match_ordering, nat_cmp}
use Rattle.std.specs.declared.cmp.Ordering.{Ordering}
use Rattle.std.specs.declared.cmp.Ordering.TheVariants.{Less, Equal, Greater}
use Rattle.std.specs.Cmp.Lexicographic.{slice_cmp}
use Rattle.std.specs.Str.Lossy.{utf8_valid_len}
use Rattle.serde_json.specs.Data.{Data, null, boolean, number, string, array, object, Items, no_items, item, Members, no_members, member}
use Rattle.serde_json.specs.Find.{get_member, get, as_null, as_object}
use Rattle.serde_json.specs.Read.{read as read_json}
use Rattle.serde_json.specs.Written.{has_float}
use Rattle.foundation.specs.Steps.{◌>>=◌}
use Rattle.foundation.specs.Results.{ok_same, some_same, step_ok}
use Rattle.sigstore_types_parts.specs.Parse.{parsed_of}
use Rattle.sigstore_types_parts.specs.Read as read
use Rattle.sigstore_types_parts.specs.declared.parse.JsonFault.{JsonFault}
use Rattle.sigstore_types_parts.specs.declared.parse.JsonFault.TheVariants as fault
use Rattle.sigstore_tuf_text.specs.declared.error.Error.{Error}
use Rattle.sigstore_tuf_text.specs.declared.member.DocumentMember.{DocumentMember}
use Rattle.sigstore_tuf_text.specs.declared.member.DocumentMember.TheVariants as m
use Rattle.sigstore_tuf_text.specs.Error.{error_of_fault}
use Rattle.sigstore_tuf_text.specs.declared.error.Error.TheVariants.{Json, Malformed}
use Rattle.sigstore_tuf_text.specs.declared.error.Rule.TheVariants.{Frame}
use Rattle.sigstore_tuf_text.specs.Words.{member_name, required, optional, defaulted, u64, bool, text, sequence, map}
use Rattle.sigstore_tuf_parts.specs.Head.{head_of}
use Rattle.sigstore_tuf_parts.specs.Header.{header_of}
use Rattle.sigstore_tuf_parts.specs.Keys.{key_in_of}
use Rattle.sigstore_tuf_parts.specs.declared.targets.DelegatedRole.{DelegatedRole}
use Rattle.sigstore_tuf_parts.specs.declared.targets.Delegations.{Delegations}
use Rattle.sigstore_tuf_parts.specs.declared.targets.Targets.{Targets}
use Rattle.sigstore_tuf_parts.specs.Document.{Document, content_in, value_of, frame_of, signature_of, content_of, document_in, document_of}
use Rattle.sigstore_tuf_parts.specs.Targets.{target_file_of, grant_of, delegated_role_of, delegations_of, targets_of}
use Rattle.sigstore_tuf_rules.specs.Documents.{targets_document}
use Rattle.sigstore_tuf_rules.specs.Order.{delegated_in}
use Rattle.command_archive.proofs.JsonTexts.{HasShort, ItemsShort, MembersShort, read_short}

-- ---- what is read meets P

abbrev pub Gives : {T E : Type 0} → (T → Type 0) → Result T E → Type 0
Gives {T} P r = (x : T) → r ≡ Ok x → P x

pub given : {T E : Type 0} (P : T → Type 0) (x : T) → P x → Gives {E = E} P (Ok x)
given P x p y h = subst P (ok_same x y h) p

pub bind : {A B E : Type 0} {P : A → Type 0} {Q : B → Type 0} {r : Result A E} {f : A → Result B E} → Gives P r → ((a : A) → P a → Gives Q (f a)) → Gives Q (r >>= f)
bind {r = r} {f = f} first later y h = let s = step_ok r f y h in later s.0 (first s.0 s.1) y s.2

any : {T E : Type 0} (r : Result T E) → Gives (λ x. ⊤) r
any r x h = tt

-- ---- the members of a value with short texts

module _ (n : ℕ) where
  abbrev Finds : Option Data → Type 0
  Finds o = (d : Data) → o ≡ Some d → HasShort n d

  ordered : (o : Ordering) (a b c : Option Data) → Finds a → Finds b → Finds c → Finds (match_ordering o a b c)
  ordered Less a b c p q r = p
  ordered Equal a b c p q r = q
  ordered Greater a b c p q r = r

  member_short : (k : List ℕ) (ms : Members) → MembersShort n ms → Finds (get_member k ms)
  member_short k no_members s = λ d h. cc
  member_short k (member l e ms) s =
      ordered (slice_cmp nat_cmp k l) (get_member k ms) (Some e) (get_member k ms) (member_short k ms s.2) (λ d h. subst (HasShort n) (some_same e d h) s.1) (member_short k ms s.2)

  get_short : (k : List ℕ) (d : Data) → HasShort n d → Finds (get k d)
  get_short k null s = λ d h. cc
  get_short k (boolean b) s = λ d h. cc
  get_short k (number m) s = λ d h. cc
  get_short k (string t) s = λ d h. cc
  get_short k (array ds) s = λ d h. cc
  get_short k (object ms) s = member_short k ms s

  -- ---- readers

  abbrev Reads : {T : Type 0} → (Data → Result T Error) → (T → Type 0) → Type 0
  Reads reads P = (d : Data) → HasShort n d → Gives P (reads d)

  object_short : (e : Error) (d : Data) (b : Bool) → HasShort n d → Gives (HasShort n) (if b then Ok d else Err e)
  object_short e d true s = given (HasShort n) d s
  object_short e d false s = λ x h. cc

  placed : {T : Type 0} {P : T → Type 0} (r : Result T Error) → Gives P r → Gives P (read.at (λ e. e) r)
  placed (Ok x) g = g
  placed (Err e) g = g

  required_in : {T : Type 0} {P : T → Type 0} {reads : Data → Result T Error} (e : Error) → Reads reads P → (o : Option Data) → Finds o → Gives P (read.required_in e reads o)
  required_in e g None s = λ x h. cc
  required_in e g (Some d) s = g d (s d refl)

  required_short : {T : Type 0} {P : T → Type 0} {reads : Data → Result T Error} → Reads reads P → (m : DocumentMember) → Reads (required reads m) P
  unfolding read.required_of
  required_short {reads = reads} g m d s =
      bind (object_short Json d (is_some (as_object d)) s) (λ o t. placed (read.required_in Json reads (get (member_name m) o)) (required_in Json g (get (member_name m) o) (get_short (member_name m) o t)))

  -- one that is there, or none
  abbrev Any : {T : Type 0} → (T → Type 0) → Option T → Type 0
  Any P o = IfSome o P

  nullable_short : {T : Type 0} {P : T → Type 0} {reads : Data → Result T Error} → Reads reads P → (d : Data) (b : Bool) → HasShort n d
      → Gives (Any P) (if b then Ok None else (reads d >>= λ x. Ok (Some x)))
  nullable_short {P = P} g d true s = given (Any P) None tt
  nullable_short {P = P} g d false s = bind (g d s) (λ x p. given (Any P) (Some x) p)

  optional_in : {T : Type 0} {P : T → Type 0} {reads : Data → Result T Error} → Reads reads P → (o : Option Data) → Finds o → Gives (Any P) (read.optional_in reads o)
  optional_in {P = P} g None s = given (Any P) None tt
  optional_in g (Some d) s = nullable_short g d (is_some (as_null d)) (s d refl)

  optional_short : {T : Type 0} {P : T → Type 0} {reads : Data → Result T Error} → Reads reads P → (m : DocumentMember) → Reads (optional reads m) (Any P)
  unfolding read.optional_of
  optional_short {reads = reads} g m d s =
      bind (object_short Json d (is_some (as_object d)) s) (λ o t. placed (read.optional_in reads (get (member_name m) o)) (optional_in g (get (member_name m) o) (get_short (member_name m) o t)))

  defaulted_in : {T : Type 0} {P : T → Type 0} {reads : Data → Result T Error} → Reads reads P → (default : T) → P default → (o : Option Data) → Finds o → Gives P (read.defaulted_in reads default o)
  defaulted_in {P = P} g default p None s = given P default p
  defaulted_in g default p (Some d) s = g d (s d refl)

  defaulted_short : {T : Type 0} {P : T → Type 0} {reads : Data → Result T Error} → Reads reads P → (m : DocumentMember) (default : T) → P default → Reads (defaulted reads m default) P
  unfolding read.defaulted_of
  defaulted_short {reads = reads} g m default p d s =
      bind (object_short Json d (is_some (as_object d)) s) (λ o t. placed (read.defaulted_in reads default (get (member_name m) o)) (defaulted_in g default p (get (member_name m) o) (get_short (member_name m) o t)))

  items_short : {T : Type 0} {P : T → Type 0} {reads : Data → Result T Error} → Reads reads P → (ds : Items) → ItemsShort n ds → Gives (AllByRecursion P) (read.items_of reads ds)
  items_short {P = P} g no_items s = given (AllByRecursion P) [] tt
  items_short {P = P} g (item d ds) s = bind (g d s.0) (λ x p. bind (items_short g ds s.1) (λ rest q. given (AllByRecursion P) (x ∷ rest) (p, q)))

  sequence_short : {T : Type 0} {P : T → Type 0} {reads : Data → Result T Error} → Reads reads P → Reads (sequence reads) (AllByRecursion P)
  unfolding read.sequence_of
  sequence_short g null s = λ x h. cc
  sequence_short g (boolean b) s = λ x h. cc
  sequence_short g (number m) s = λ x h. cc
  sequence_short g (string t) s = λ x h. cc
  sequence_short g (array ds) s = items_short g ds s
  sequence_short g (object ms) s = λ x h. cc

  abbrev Short : List ℕ → Type 0
  Short t = length t ≤ n

  text_short : Reads text Short
  text_short null s = λ x h. cc
  text_short (boolean b) s = λ x h. cc
  text_short (number m) s = λ x h. cc
  text_short (string t) s = given Short t s
  text_short (array ds) s = λ x h. cc
  text_short (object ms) s = λ x h. cc

  -- ---- targets documents

  grant_short : Reads grant_of (λ g. Short g.name)
  unfolding grant_of
  grant_short d s =
      bind (required_short text_short m.Name d s) (λ name p. bind (any (required (sequence text) m.Keyids d)) (λ keyids q. bind (any (required u64 m.Threshold d)) (λ threshold r. given _ _ p)))

  abbrev IsShortRole : DelegatedRole → Type 0
  IsShortRole r = Short r.name

  role_short : Reads delegated_role_of IsShortRole
  unfolding delegated_role_of
  role_short d s =
      bind (grant_short d s) (λ grant p. bind (any (defaulted bool m.Terminating false d)) (λ terminating q. bind (any (optional (sequence text) m.Paths d)) (λ paths r.
      bind (any (optional (sequence text) m.PathHashPrefixes d)) (λ prefixes t. given IsShortRole _ p))))

  abbrev AreShortRoles : Delegations → Type 0
  AreShortRoles d = AllByRecursion IsShortRole d.roles

  delegations_short : Reads delegations_of AreShortRoles
  unfolding delegations_of
  delegations_short d s =
      bind (any (required (map key_in_of) m.Keys d)) (λ keys p. bind (defaulted_short (sequence_short role_short) m.Roles [] tt d s) (λ roles q. given AreShortRoles _ q))

  -- each name that it delegates to is at most so long
  abbrev pub DelegatesShort : Targets → Type 0
  DelegatesShort doc = AllByRecursion (λ (r : DelegatedRole). length r.name ≤ n) (delegated_in doc.delegations)

  of_delegations : (o : Option Delegations) → Any AreShortRoles o → AllByRecursion IsShortRole (delegated_in o)
  of_delegations None h = tt
  of_delegations (Some d) h = h

  targets_short : Reads targets_of DelegatesShort
  unfolding targets_of
  targets_short d s =
      bind (any (head_of d)) (λ head p. bind (any (required (map target_file_of) m.Targets d)) (λ targets q.
      bind (optional_short delegations_short m.Delegations d s) (λ delegations r. given DelegatesShort _ (of_delegations delegations r))))

  -- ---- documents

  module _ {T : Type 0} (P : T → Type 0) (kind : List ℕ) (reads : Data → Result T Error) (g : Reads reads P) where
    abbrev OfContent : Document T → Type 0
    OfContent doc = P (content_in doc)

    frame_short : (name : List ℕ) (d : Data) → HasShort n d → Gives (HasShort n) (frame_of name d)
    unfolding frame_of
    frame_short name d s = by_member (get name d) (get_short name d s)
      where
        by_member : (o : Option Data) → Finds o → Gives (HasShort n) (ok_or o (Malformed Frame))
        by_member None h = λ x e. cc
        by_member (Some d) h = λ x e. subst (HasShort n) (ok_same d x e) (h d refl)

    content_short : (signed signatures : Data) → HasShort n signed → Gives OfContent (content_of kind reads signed signatures)
    unfolding content_of
    content_short signed signatures s =
        bind (any (header_of kind signed)) (λ x p. bind (any (sequence signature_of signatures)) (λ listed q. bind (g signed s) (λ content r. given OfContent _ r)))

    document_short : (d : Data) → HasShort n d → Gives OfContent (document_in kind reads d)
    unfolding document_in
    document_short d s =
        bind (frame_short (codes "signed") d s) (λ signed p. bind (any (frame_of (codes "signatures") d)) (λ signatures q. content_short signed signatures p))

parsed_short : (bytes : List ℕ) → Gives (HasShort (length bytes)) (parsed_of bytes)
unfolding parsed_of
parsed_short bytes = by_utf8 (utf8_valid_len bytes == length bytes)
  where
    by_float : (d : Data) (b : Bool) → HasShort (length bytes) d → Gives (HasShort (length bytes)) (if b then Err fault.Float else Ok d)
    by_float d true s = λ x h. cc
    by_float d false s = given (HasShort (length bytes)) d s

    by_read : (o : Option Data) → IfSome o (HasShort (length bytes)) → Gives (HasShort (length bytes)) (ok_or o fault.NotJson >>= λ d. if has_float d then Err fault.Float else Ok d)
    by_read None s = λ x h. cc
    by_read (Some d) s = by_float d (has_float d) s

    by_utf8 : (b : Bool) → Gives (HasShort (length bytes)) (ok_or (if b then read_json bytes else None) fault.NotJson >>= λ d. if has_float d then Err fault.Float else Ok d)
    by_utf8 true = by_read (read_json bytes) (read_short bytes)
    by_utf8 false = by_read None tt

abbrev or_fault : Result Data JsonFault → Result Data Error
or_fault (Ok d) = Ok d
or_fault (Err fault) = Err (error_of_fault fault)

unfaulted : (n : ℕ) (r : Result Data JsonFault) → Gives (HasShort n) r → Gives (HasShort n) (or_fault r)
unfaulted n (Ok d) g = given (HasShort n) d (g d refl)
unfaulted n (Err e) g = λ x h. cc

value_short : (bytes : List ℕ) → Gives (HasShort (length bytes)) (value_of bytes)
unfolding value_of
value_short bytes = unfaulted (length bytes) (parsed_of bytes) (parsed_short bytes)

pub delegates_short : (bytes : List ℕ) → Gives (λ (doc : Document Targets). DelegatesShort (length bytes) (content_in doc)) (targets_document bytes)
unfolding document_of
delegates_short bytes =
    bind (value_short bytes) (λ d s. document_short (length bytes) (DelegatesShort (length bytes)) (codes "targets") targets_of (targets_short (length bytes)) d s)
