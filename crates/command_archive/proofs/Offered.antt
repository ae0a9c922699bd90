-- A chain that is offered within the client's limits has a spelling: no number in it reaches 2^32.
use Rattle.std.proofs.Common.{◌≡◌, inl, inr, ℕ, ◌+◌, ◌≤◌, List, [], ◌∷◌, length, Bool, true, false, nat_lt, if◌then◌else◌, Option, Some, None, IfSome, Result, Ok, Err, refl, sym, ◌∙◌, subst, arith, le_trans}
use Rattle.std.specs.List.{AllByRecursion}
use Rattle.std.proofs.lemmas.Bool.{ltb-false}
use Rattle.jiff_core.specs.declared.timestamp.Timestamp as jiff
use Rattle.foundation.specs.Results.{ok_same, step_ok}
use Rattle.sigstore_keys.specs.Crypto.{Crypto}
use Rattle.sigstore_tuf_outside.specs.Repository.{Folders, Files}
use Rattle.sigstore_tuf_parts.specs.declared.snapshot.Snapshot.{Snapshot}
use Rattle.sigstore_tuf_parts.specs.Document.{content_in}
use Rattle.sigstore_tuf_rules.specs.Config.{default_config}
use Rattle.sigstore_tuf_rules.specs.declared.chain.RoleDoc.{RoleDoc}
use Rattle.sigstore_tuf_rules.specs.declared.chain.TrustChain.{TrustChain}
use Rattle.sigstore_tuf_rules.specs.Trusted.{BeginsWith, visit_in}
use Rattle.sigstore_tuf_offers.specs.Offer.{AreServedAfter, RootsEnd, IsServedRole, later_in, Offers}
use Rattle.trust_archive.specs.Grammar.{fits_of, all_fit_of}
use Rattle.trust_archive.specs.Spelling.{archive_in, octets_of, document_numbers, role_numbers, each_number, counted_numbers, numbers_fit_of, spelling_of}
use Rattle.trust_archive.proofs.Parts.{IsShort, to, fits_so, fits_one, fits_each}
use Rattle.command_files.specs.Inputs.{Held}
use Rattle.command_files.specs.Gather.{limit_of, within_limit, input_of, tables_in, anchored_of}
use Rattle.command_files.specs.declared.gather.Anchored.{Anchored}
use Rattle.command_files.specs.declared.gather.CommandStop.{CommandStop}
use Rattle.command_files.specs.declared.gather.CommandStop.TheVariants.{Input}
use Rattle.command_files.specs.declared.inputs.InputFile.TheVariants.{Root}
use Rattle.command_archive.proofs.VisitNames.{IsShortVisit, IsShortRole, are_few, names_short}

-- ---- the root that was read

pub root_short : (held : Held) (anchored : Anchored) → anchored_of held ≡ Ok anchored → length anchored.root ≤ limit_of Root
unfolding anchored_of input_of
root_short held anchored h =
    let t = step_ok (tables_in held) _ anchored h in
    let r = step_ok (input_of Root held) _ anchored t.2 in
    subst (λ (a : Anchored). length a.root ≤ limit_of Root) (ok_same _ anchored r.2) (by_input (held Root) r.0 r.1)
  where
    by_length : (bytes root : List ℕ) (b : Bool) → nat_lt (limit_of Root) (length bytes) ≡ b → ◌≡◌ {A = Result (List ℕ) CommandStop} (if b then Err (Input Root) else Ok bytes) (Ok root) → length root ≤ limit_of Root
    by_length bytes root true e h = cc
    by_length bytes root false e h = subst (λ b. length b ≤ limit_of Root) (ok_same bytes root h) (ltb-false (limit_of Root) (length bytes) e)

    by_input : (o : Option (List ℕ)) (root : List ℕ) → within_limit Root o ≡ Ok root → length root ≤ limit_of Root
    by_input None root h = cc
    by_input (Some bytes) root h = by_length bytes root (nat_lt (limit_of Root) (length bytes)) refl h

-- ---- what is served within its limit

abbrev IsShortRoot : List ℕ → Type 0
IsShortRoot bytes = IsShort (length bytes)

below : (n max : ℕ) → n ≤ max → max ≤ 50000000 → IsShort n
below n max le small = omega arith

later_short : (files : Files) (version : ℕ) (roots : List (List ℕ)) → AreServedAfter files default_config.root_max_length version roots → AllByRecursion IsShortRoot roots
later_short files version [] h = tt
later_short files version (root ∷ roots) h = (below (length root) default_config.root_max_length h.0.short (omega arith), later_short files (version + 1) roots h.1)

few_later : (files : Files) (newer version : ℕ) → RootsEnd files newer default_config.max_root_rotations version → newer ≤ 32
few_later files newer version (inl h) = let less = h.0 in omega arith
few_later files newer version (inr h) = h.0

module _ (given : List ℕ) (short : length given ≤ limit_of Root) where
  roots_short : (roots : List (List ℕ)) → BeginsWith given roots → AllByRecursion IsShortRoot (later_in roots) → AllByRecursion IsShortRoot roots
  roots_short [] b h = tt
  roots_short (root ∷ roots) b h = (below (length root) (limit_of Root) (subst (λ r. length r ≤ limit_of Root) (sym b) short) (omega arith), h)

few_roots : (roots : List (List ℕ)) → length (later_in roots) ≤ 32 → IsShort (length roots)
few_roots [] h = omega arith
few_roots (root ∷ roots) h = omega arith

roles_short : (files : Files) (consistent : Bool) (snapshot : Snapshot) (roles : List RoleDoc)
    → AllByRecursion (λ (r : RoleDoc). IsServedRole files consistent snapshot default_config.targets_max_length r r.bytes) roles → AllByRecursion (IsShortRole default_config.targets_max_length) roles
roles_short files consistent snapshot [] h = tt
roles_short files consistent snapshot (r ∷ roles) h = (by_bytes r.bytes h.0, roles_short files consistent snapshot roles h.1)
  where
    by_bytes : (o : Option (List ℕ)) → IsServedRole files consistent snapshot default_config.targets_max_length r o → IfSome o (λ bytes. length bytes ≤ default_config.targets_max_length)
    by_bytes None h = tt
    by_bytes (Some bytes) h = h.short

-- ---- the numbers in each part

-- the lengths in a role are within the limit of a targets document
record IsBounded (r : RoleDoc) : Type 0 where
  visit : IsShortVisit default_config.targets_max_length (visit_in r)
  document : IsShortRole default_config.targets_max_length r

document_fits : (o : Option (List ℕ)) → IfSome o (λ bytes. length bytes ≤ default_config.targets_max_length) → all_fit_of (document_numbers o) ≡ Ok tt
document_fits None h = refl
document_fits (Some bytes) h = fits_one (length bytes) (below (length bytes) default_config.targets_max_length h (omega arith))

role_fits : (r : RoleDoc) → IsBounded r → all_fit_of (role_numbers r) ≡ Ok tt
role_fits r h =
    to (fits_of (length r.name)) (λ _. all_fit_of (length r.delegator ∷ document_numbers r.bytes)) tt (fits_so (length r.name) (below (length r.name) default_config.targets_max_length h.visit.name (omega arith)))
    ∙ to (fits_of (length r.delegator)) (λ _. all_fit_of (document_numbers r.bytes)) tt (fits_so (length r.delegator) (below (length r.delegator) default_config.targets_max_length h.visit.delegator (omega arith)))
    ∙ document_fits r.bytes h.document

bounded : (roles : List RoleDoc) → AllByRecursion (λ (r : RoleDoc). IsShortVisit default_config.targets_max_length (visit_in r)) roles
    → AllByRecursion (IsShortRole default_config.targets_max_length) roles → AllByRecursion IsBounded roles
bounded [] v d = tt
bounded (r ∷ roles) v d = (record { visit = v.0; document = d.0 }, bounded roles v.1 d.1)

-- ---- the whole

module _ (crypto : Crypto) (folders : Folders) (given : List ℕ) (now : jiff.Timestamp) (path : List ℕ) (chain : TrustChain)
    (offer : Offers crypto folders given now default_config path chain) (short : length given ≤ limit_of Root) where
  numbers_fit : numbers_fit_of (archive_in chain) ≡ Ok tt
  unfolding numbers_fit_of
  numbers_fit =
      let o = offer.offered in
      let t = o.trusted in
      let few : length (later_in chain.roots) ≤ 32 = few_later folders.metadata (length (later_in chain.roots)) (content_in offer.is.root).version o.roots_end in
      let roots = roots_short given short chain.roots t.roots.begins (later_short folders.metadata (content_in t.roots.first).version (later_in chain.roots) o.roots) in
      let documents = roles_short folders.metadata (content_in offer.is.root).consistent_snapshot (content_in offer.is.snapshot) chain.roles o.roles in
      let visits = names_short chain.roles (content_in offer.is.snapshot) path default_config.max_delegations t.order_is default_config.targets_max_length (omega arith) documents in
      let count = are_few chain.roles (content_in offer.is.snapshot) path default_config.max_delegations t.order_is in
      to (fits_of (length chain.roots)) _ tt (fits_so (length chain.roots) (few_roots chain.roots few))
      ∙ to (all_fit_of (each_number counted_numbers chain.roots)) _ tt (fits_each counted_numbers IsShortRoot (λ x. fits_one (length x)) chain.roots roots)
      ∙ to (fits_of (length chain.timestamp)) _ tt (fits_so (length chain.timestamp) (below (length chain.timestamp) default_config.timestamp_max_length o.timestamp.short (omega arith)))
      ∙ to (fits_of (length chain.snapshot)) _ tt (fits_so (length chain.snapshot) (below (length chain.snapshot) default_config.snapshot_max_length o.snapshot.short (omega arith)))
      ∙ to (fits_of (length chain.roles)) _ tt (fits_so (length chain.roles) (below (length chain.roles) default_config.max_delegations count (omega arith)))
      ∙ to (all_fit_of (each_number role_numbers chain.roles)) _ tt (fits_each role_numbers IsBounded role_fits chain.roles (bounded chain.roles visits documents))
      ∙ fits_so (length chain.file) (below (length chain.file) default_config.target_max_length (le_trans o.target.short o.target_short) (omega arith))

  pub offered_spelled : (bytes : List ℕ) × (spelling_of chain ≡ Ok bytes)
  unfolding spelling_of
  offered_spelled = (octets_of (archive_in chain), to (numbers_fit_of (archive_in chain)) (λ _. Ok (octets_of (archive_in chain))) tt numbers_fit)
