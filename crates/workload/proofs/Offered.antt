-- The fixed repository offers its chain.
use Rattle.std.proofs.Common.{◌≡◌, ℕ, ◌<◌, ◌≤◌, List, [], ◌∷◌, ◌++◌, length, map, true, Option, Some, None, Ok, inl, refl, sym, ap, ◌∙◌, subst, codes, arith}
use Rattle.std.specs.Prelude.{option_and_then}
use Rattle.std.specs.List.{IsDistinct}
use Rattle.std.proofs.lemmas.Fmt.{decimal_digit}
use Rattle.sha2.specs.Sha256.{sha256}
use Rattle.jiff_core.specs.declared.timestamp.Timestamp as jiff
use Rattle.sigstore_types_parts.specs.Entries.{at_name}
use Rattle.sigstore_types_parts.specs.Instant.{at_nanosecond}
use Rattle.sigstore_keys.specs.Crypto.{Crypto}
use Rattle.sigstore_keys.specs.declared.scheme.SigningScheme.TheVariants.{EcdsaP256Sha256}
use Rattle.sigstore_tuf_text.specs.Canon.{canon}
use Rattle.sigstore_tuf_text.specs.Names.{root_name, snapshot_name, timestamp_name, targets_name}
use Rattle.sigstore_tuf_parts.specs.declared.targets.Targets.{Targets}
use Rattle.sigstore_tuf_parts.specs.Document.{Document}
use Rattle.hex.specs.Hex.{encode_lower}
use Rattle.foundation.specs.Results.{some_same}
use Rattle.sigstore_tuf_parts.specs.Integrity.{fresh_of, spells, Hashes}
use Rattle.sigstore_tuf_parts.specs.Meets.{Meets, Signs}
use Rattle.sigstore_tuf_parts.specs.Pinned.{Fresh, HasDigests, IsIntact, Pinned, PinnedFile}
use Rattle.sigstore_tuf_parts.specs.RootRoles.{MeetsRole}
use Rattle.sigstore_tuf_parts.proofs.IntegrityLaws.{fresh_exactly}
use Rattle.sigstore_tuf_outside.specs.Repository.{Files}
use Rattle.sigstore_tuf_rules.specs.Config.{default_config}
use Rattle.sigstore_tuf_rules.specs.Documents.{snapshot_pin}
use Rattle.sigstore_tuf_rules.specs.Names.{role_file}
use Rattle.sigstore_tuf_rules.specs.Order.{order, first_visit, search_of, walk_of}
use Rattle.sigstore_tuf_rules.specs.Trusted.{documents_in, last_in, visit_in, AreRoots, IsTrustedRole, Reading, TrustedAs}
use Rattle.sigstore_tuf_offers.specs.Offer.{IsServed, RootsEnd, Offers, OffersAs}
use Rattle.workload.specs.Keys.{raw_key}
use Rattle.workload.specs.Trust.{trust_file}
use Rattle.workload.specs.Documents.{root_signed, timestamp_signed, snapshot_signed, targets_signed}
use Rattle.workload.specs.Documents.{root_bytes, timestamp_bytes, snapshot_bytes, targets_bytes}
use Rattle.workload.specs.Law.{SignsDocuments, RepositoryOffers}
use Rattle.workload.specs.Published.{trust_name, publishing, published, target, targets_role, chain}
use Rattle.workload.specs.Rows.{document_row, document_rows, moment}
use Rattle.workload.proofs.Bounds.{timestamp_short, snapshot_short, targets_short}
use Rattle.workload.proofs.Contents.{soon_instant, later_instant, verifier, the_key, the_keys, the_role, the_signature, the_pin}
use Rattle.workload.proofs.Contents.{root_content, timestamp_content, snapshot_content, targets_content}
use Rattle.workload.proofs.Contents.{signed_by_one, root_doc, timestamp_doc, snapshot_doc, targets_doc}
use Rattle.workload.proofs.KeyRead.{key_usable}
use Rattle.workload.proofs.Literals.{signature_read, same_spelling}
use Rattle.workload.proofs.Reading.{root_read, timestamp_read, snapshot_read, targets_read}
use Rattle.workload.proofs.Texts.{trust_length}

-- ---- signatures

-- the one signature over the text is good
abbrev Accepts : Crypto → List ℕ → Type 0
Accepts crypto text = crypto.accepts EcdsaP256Sha256 raw_key (sha256 text) (1 ∷ []) ≡ true

-- those of the four documents
record Accepted (crypto : Crypto) : Type 0 where
  pub root : Accepts crypto (canon root_signed)
  pub timestamp : Accepts crypto (canon timestamp_signed)
  pub snapshot : Accepts crypto (canon snapshot_signed)
  pub targets : Accepts crypto (canon targets_signed)

accepted : (crypto : Crypto) → SignsDocuments crypto → Accepted crypto
unfolding document_rows document_row
accepted crypto signs =
    let rows = signs.rows in
    record { root = rows.0; timestamp = rows.1.0; snapshot = rows.1.1.0; targets = rows.1.1.1.0 }

signs_once : {T : Type 0} (crypto : Crypto) (content : T) (text : List ℕ) → SignsDocuments crypto → Accepts crypto text
    → Signs crypto the_keys the_role (signed_by_one content text) (codes "k")
unfolding the_keys the_role the_signature verifier raw_key
signs_once crypto content text signs good = record {
  key = the_key;
  verifier = verifier;
  signature = the_signature;
  raw = 1 ∷ [];
  named = refl;
  known = refl;
  usable = key_usable crypto signs;
  there = (0, omega arith, refl);
  its = refl;
  nonempty = refl;
  hexadecimal = signature_read;
  good = good;
}

met : {T : Type 0} (crypto : Crypto) (content : T) (text : List ℕ) → SignsDocuments crypto → Accepts crypto text
    → Meets crypto the_keys the_role (signed_by_one content text)
unfolding the_role the_signature IsDistinct
met crypto content text signs good = record {
  threshold = omega arith;
  once = (tt, tt);
  ids = codes "k" ∷ [];
  distinct = (tt, tt);
  sign = (signs_once crypto content text signs good, tt);
  enough = omega arith;
}

keys_are : root_content.keys ≡ the_keys
unfolding root_content
keys_are = refl

met_role : {T : Type 0} (crypto : Crypto) (name : List ℕ) (content : T) (text : List ℕ) → at_name name root_content.roles ≡ Some the_role
    → SignsDocuments crypto → Accepts crypto text → MeetsRole crypto root_content name (signed_by_one content text)
unfolding root_content
met_role crypto name content text role signs good = (the_role, role, met crypto content text signs good)

root_role : at_name (codes "root") root_content.roles ≡ Some the_role
unfolding root_content
root_role = refl

timestamp_role : at_name (codes "timestamp") root_content.roles ≡ Some the_role
unfolding root_content
timestamp_role = refl

snapshot_role : at_name (codes "snapshot") root_content.roles ≡ Some the_role
unfolding root_content
snapshot_role = refl

-- ---- expiries

soon_tested : fresh_of [] soon_instant moment ≡ Ok tt
unfolding fresh_of at_nanosecond soon_instant moment
soon_tested = refl

soon_fresh : Fresh soon_instant moment
soon_fresh = (fresh_exactly [] soon_instant moment).0 soon_tested

later_tested : fresh_of [] later_instant moment ≡ Ok tt
unfolding fresh_of at_nanosecond later_instant moment
later_tested = refl

later_fresh : Fresh later_instant moment
later_fresh = (fresh_exactly [] later_instant moment).0 later_tested

-- ---- pins

-- a pin of the first version alone fits every first version
pinned : (bytes : List ℕ) → Pinned bytes 1 the_pin
unfolding the_pin
pinned bytes = record {
  intact = record { size_is = λ n none. cc; digests = λ hashes none. absurd cc };
  version_is = refl;
}

spelt : (text : List ℕ) → encode_lower (sha256 trust_file) ≡ text → spells (sha256 trust_file) text ≡ true
spelt text is = subst (λ (t : List ℕ). spells (sha256 trust_file) t ≡ true) is (same_spelling (encode_lower (sha256 trust_file)))

digests : HasDigests target.hashes trust_file
unfolding target
digests = record {
  by_sha256 = λ text is. spelt text (some_same (encode_lower (sha256 trust_file)) text is);
  by_sha512 = λ text none. cc;
  supported = refl;
}

file_pinned : PinnedFile trust_file target
unfolding target
file_pinned = record {
  size_is = λ n is. some_same (length trust_file) n is;
  digests = λ hashes is. subst (λ (h : Hashes). HasDigests h trust_file) (some_same target.hashes hashes is) digests;
}

-- ---- the search

documents_are : documents_in chain.roles (codes "targets") ≡ Some targets_content
unfolding chain targets_role
documents_are = rw targets_read

order_by : (documents : List ℕ → Option Targets) → documents (codes "targets") ≡ Some targets_content
    → order documents snapshot_content trust_name 32 ≡ Some (first_visit ∷ [])
unfolding search_of walk_of snapshot_content targets_content
order_by documents there = rw there

visits_are : map visit_in chain.roles ≡ first_visit ∷ []
unfolding chain targets_role
visits_are = refl

ordered : order (documents_in chain.roles) snapshot_content trust_name 32 ≡ Some (map visit_in chain.roles)
ordered = order_by (documents_in chain.roles) documents_are ∙ ap Some (sym visits_are)

last_is : last_in chain.roles ≡ documents_in chain.roles (codes "targets")
unfolding chain targets_role
last_is = refl

lists_target : at_name trust_name targets_content.targets ≡ Some target
unfolding targets_content
lists_target = refl

listed : option_and_then (λ (doc : Targets). at_name trust_name doc.targets) (last_in chain.roles) ≡ Some target
listed = ap (option_and_then (λ (doc : Targets). at_name trust_name doc.targets)) (last_is ∙ documents_are) ∙ lists_target

-- ---- the chain is trusted

roots_are : (crypto : Crypto) → SignsDocuments crypto → Accepted crypto → AreRoots crypto root_bytes (root_bytes ∷ []) root_doc
roots_are crypto signs good = record {
  begins = refl;
  first = root_doc;
  documents = root_doc ∷ [];
  read = (root_read, tt);
  next = (refl, met_role crypto (codes "root") root_content (canon root_signed) root_role signs good.root, tt);
  last = refl;
}

trusted_role : (crypto : Crypto) (documents : List ℕ → Option Targets) → SignsDocuments crypto → Accepted crypto
    → IsTrustedRole crypto root_content snapshot_content documents moment first_visit targets_bytes
unfolding root_content snapshot_content targets_content
trusted_role crypto documents signs good = record {
  doc = targets_doc;
  pin = the_pin;
  authority = record { keys = the_keys; role = the_role };
  read = targets_read;
  pin_is = refl;
  pinned = pinned targets_bytes;
  fresh = later_fresh;
  authority_is = refl;
  met = met crypto targets_content (canon targets_signed) signs good.targets;
}

reading : Reading
reading = record { root = root_doc; timestamp = timestamp_doc; snapshot = snapshot_doc; pin = the_pin }

root_fresh : Fresh root_content.expires moment
unfolding root_content
root_fresh = later_fresh

timestamp_fresh : Fresh timestamp_content.expires moment
unfolding timestamp_content
timestamp_fresh = soon_fresh

snapshot_fresh : Fresh snapshot_content.expires moment
unfolding snapshot_content
snapshot_fresh = later_fresh

snapshot_pin_is : snapshot_pin timestamp_content ≡ Some the_pin
unfolding timestamp_content
snapshot_pin_is = refl

snapshot_is_first : snapshot_content.version ≡ the_pin.version
unfolding snapshot_content the_pin
snapshot_is_first = refl

trusted : (crypto : Crypto) → SignsDocuments crypto → Accepted crypto
    → TrustedAs crypto root_bytes moment default_config.max_delegations trust_name chain reading
unfolding chain targets_role reading
trusted crypto signs good = record {
  roots = roots_are crypto signs good;
  root_fresh = root_fresh;
  timestamp_read = timestamp_read;
  timestamp_fresh = timestamp_fresh;
  timestamp_met = met_role crypto (codes "timestamp") timestamp_content (canon timestamp_signed) timestamp_role signs good.timestamp;
  snapshot_read = snapshot_read;
  snapshot_fresh = snapshot_fresh;
  snapshot_met = met_role crypto (codes "snapshot") snapshot_content (canon snapshot_signed) snapshot_role signs good.snapshot;
  pin_is = snapshot_pin_is;
  snapshot_version = snapshot_is_first;
  order_is = ordered;
  listed = listed;
  roles = (trusted_role crypto (documents_in chain.roles) signs good, tt);
  file = file_pinned;
}

-- ---- it is served

no_next_root : published.metadata (root_name 2) ≡ None
unfolding published publishing
no_next_root = rw (decimal_digit 2 (omega arith))

roots_end : RootsEnd published.metadata 0 32 root_content.version
unfolding root_content
roots_end = inl (omega arith, no_next_root)

serves_timestamp : IsServed published.metadata timestamp_name timestamp_bytes 16384
unfolding published publishing
serves_timestamp = record { there = refl; short = timestamp_short }

serves_snapshot : IsServed published.metadata snapshot_name snapshot_bytes 2000000
unfolding published publishing
serves_snapshot = record { there = refl; short = snapshot_short }

serves_targets : IsServed published.metadata (role_file (codes "targets")) targets_bytes 5000000
unfolding published publishing
serves_targets = record { there = refl; short = targets_short }

serves_target : IsServed published.targets trust_name trust_file target.length
unfolding published target publishing
serves_target = record { there = refl; short = omega arith }

target_short : target.length ≤ 50000000
unfolding target
target_short = omega (arith, trust_length)

offers : (crypto : Crypto) → SignsDocuments crypto → Accepted crypto → OffersAs crypto published root_bytes moment default_config trust_name chain reading
unfolding chain targets_role reading root_content snapshot_content
offers crypto signs good = record {
  trusted = trusted crypto signs good;
  roots = tt;
  roots_end = roots_end;
  timestamp = serves_timestamp;
  snapshot = serves_snapshot;
  snapshot_pinned = pinned snapshot_bytes;
  roles = (serves_targets, tt);
  name = trust_name;
  name_is = refl;
  target = serves_target;
  target_short = target_short;
}

pub offered : RepositoryOffers
offered crypto signs = record { is = reading; offered = offers crypto signs (accepted crypto signs) }
