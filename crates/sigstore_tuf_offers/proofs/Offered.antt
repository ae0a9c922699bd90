-- What an offered chain has: its documents as they are held, and where they stand.
use Rattle.std.proofs.Common.{◌≡◌, ℕ, ◌≤◌, List, [], ◌∷◌, map, Option, Some, None, Ok, codes, refl, sym, ap, ◌∙◌, subst}
use Rattle.std.specs.Prelude.{option_map, option_and_then}
use Rattle.std.specs.List.{AllByRecursion, AllZip, last_or}
use Rattle.jiff_core.specs.declared.timestamp.Timestamp as jiff
use Rattle.foundation.specs.Results.{some_same}
use Rattle.sigstore_types_parts.specs.Entries.{at_name}
use Rattle.sigstore_keys.specs.Crypto.{Crypto}
use Rattle.sigstore_tuf_parts.specs.declared.keys.RoleKeys.{RoleKeys}
use Rattle.sigstore_tuf_parts.specs.declared.root.Root as declared
use Rattle.sigstore_tuf_parts.specs.declared.snapshot.Snapshot.{Snapshot}
use Rattle.sigstore_tuf_parts.specs.declared.targets.Targets.{Targets}
use Rattle.sigstore_tuf_parts.specs.declared.timestamp.MetaFile.{MetaFile}
use Rattle.sigstore_tuf_parts.specs.declared.timestamp.Timestamp.{Timestamp}
use Rattle.sigstore_tuf_parts.specs.Document.{Document, content_in}
use Rattle.sigstore_tuf_parts.specs.Meets.{Meets}
use Rattle.sigstore_tuf_text.specs.Names.{timestamp_name, snapshot_name, targets_name, pin_name}
use Rattle.sigstore_tuf_parts.specs.Pinned.{Pinned, PinnedFile, Fresh}
use Rattle.sigstore_tuf_parts.specs.RootRoles.{root_document, MeetsRole, AreNextRoots, Roots}
use Rattle.sigstore_tuf_rules.specs.declared.chain.RoleDoc.{RoleDoc}
use Rattle.sigstore_tuf_rules.specs.declared.chain.TrustChain.{TrustChain}
use Rattle.sigstore_tuf_rules.specs.declared.config.UpdaterConfig.{UpdaterConfig}
use Rattle.sigstore_tuf_rules.specs.declared.documents.Held.{Held}
use Rattle.sigstore_tuf_rules.specs.declared.documents.InForce.{InForce}
use Rattle.sigstore_tuf_rules.specs.Authorised.{IsSigned}
use Rattle.sigstore_tuf_rules.specs.Documents.{timestamp_document, snapshot_document, targets_document, content_of, snapshot_pin, targets_pin}
use Rattle.sigstore_tuf_rules.specs.Names.{pinned_name, role_file, target_name_of}
use Rattle.sigstore_tuf_offers.specs.Offer.{IsServed, AreServedAfter, IsServedRole, later_in, OffersAs, Offers}
use Rattle.sigstore_tuf_rules.specs.declared.visit.Visit.{Visit}
use Rattle.sigstore_tuf_rules.specs.Order.{order}
use Rattle.sigstore_tuf_outside.specs.Repository.{Folders}
use Rattle.sigstore_tuf_runs.specs.State.{Session, session_of}
use Rattle.sigstore_tuf_rules.specs.Trusted.{visit_in, documents_in, targets_bytes, last_in, RoleAuthority, root_authority, IsTrustedVisit, BeginsWith, AreRoots, Reading, TrustedAs}
use Rattle.sigstore_tuf_offers.proofs.ChainVisits.{held_in, Begins, first_role}

-- ---- the roles

-- each role's document in force is the chain's
abbrev pub AreOf : List RoleDoc → InForce → Type 0
AreOf roles set = (name : List ℕ) (held : Held Targets) → at_name name set.targets ≡ Some held → held_in roles name ≡ Some held

-- the authority of the first visit is that of the root
pub root_role : (crypto : Crypto) (root : declared.Root) (doc : Document Targets) (authority : RoleAuthority) → root_authority root (codes "targets") ≡ Some authority → Meets crypto authority.keys authority.role doc → MeetsRole crypto root (codes "targets") doc
root_role crypto root doc authority is met = by_role (at_name (codes "targets") root.roles) refl is
  where
    by_role : (o : Option RoleKeys) → at_name (codes "targets") root.roles ≡ o → option_map (λ role. record { keys = root.keys; role = role }) o ≡ Some authority → MeetsRole crypto root (codes "targets") doc
    by_role None e h = cc
    by_role (Some role) e h =
        let same : record { keys = root.keys; role = role } ≡ authority = some_same _ authority h in
        (role, e, subst (λ (a : RoleAuthority). Meets crypto a.keys a.role doc) (sym same) met)

-- ---- the roots

module _ (session : Session) (folders : Folders) (last : Document declared.Root) where
  -- these next roots lead from a root to the last one, and stand under their numbers
  pub record Ahead (doc : Document declared.Root) (rest : List (List ℕ)) (docs : List (Document declared.Root)) : Type 0 where
    pub read : AllZip (λ bytes doc. root_document bytes ≡ Ok doc) rest docs
    pub next : AreNextRoots session.crypto doc docs
    pub last_is : last_or (Some doc) docs ≡ Some last
    pub served : AreServedAfter folders.metadata session.config.root_max_length (content_in doc).version rest

  -- the given root, and the next ones
  pub record Begun (given : List ℕ) (roots : List (List ℕ)) (first : Document declared.Root) : Type 0 where
    pub rest : List (List ℕ)
    pub docs : List (Document declared.Root)
    pub roots_are : roots ≡ given ∷ rest
    pub read : root_document given ≡ Ok first
    pub own : MeetsRole session.crypto (content_in first) (codes "root") first
    pub ahead : Ahead first rest docs

  pub begun : (given : List ℕ) (roots : List (List ℕ)) (a : AreRoots session.crypto given roots last) → AreServedAfter folders.metadata session.config.root_max_length (content_in a.first).version (later_in roots) → Begun given roots a.first
  begun given roots a served = by_roots roots a.documents a.begins a.read a.next a.last served
    where
      first : Document declared.Root
      first = a.first

      by_roots : (roots : List (List ℕ)) (docs : List (Document declared.Root)) → BeginsWith given roots → AllZip (λ bytes doc. root_document bytes ≡ Ok doc) roots docs → Roots session.crypto a.first docs → last_or None docs ≡ Some last
          → AreServedAfter folders.metadata session.config.root_max_length (content_in a.first).version (later_in roots) → Begun given roots a.first
      by_roots [] docs b z n l s = absurd b
      by_roots (r ∷ rs) [] b z n l s = absurd z
      by_roots (r ∷ rs) (d ∷ ds) b z n l s = record {
        rest = rs;
        docs = ds;
        roots_are = ap (λ r. r ∷ rs) b;
        read = ap root_document (sym b) ∙ z.0 ∙ ap Ok n.0;
        own = n.1;
        ahead = record { read = z.1; next = n.2; last_is = ap (λ d. last_or (Some d) ds) (sym n.0) ∙ l; served = s };
      }

-- ---- the chain

pub record Offered (session : Session) (folders : Folders) (path : List ℕ) (chain : TrustChain) : Type 0 where
  pub root : Document declared.Root
  pub root_fresh : Fresh (content_in root).expires session.now
  pub time : Held Timestamp
  pub time_signed : IsSigned timestamp_document session.crypto (content_in root) (codes "timestamp") time
  pub time_fresh : Fresh (content_of time).expires session.now
  pub pin : MetaFile
  pub pin_is : snapshot_pin (content_of time) ≡ Some pin
  pub snap : Held Snapshot
  pub snap_signed : IsSigned snapshot_document session.crypto (content_in root) (codes "snapshot") snap
  pub snap_fresh : Fresh (content_of snap).expires session.now
  pub pinned : Pinned snap.bytes (content_of snap).version pin
  pub top : Held Targets
  pub top_signed : IsSigned targets_document session.crypto (content_in root) (codes "targets") top
  pub top_fresh : Fresh (content_of top).expires session.now
  pub top_pin : MetaFile
  pub top_pin_is : targets_pin (content_of snap) ≡ Some top_pin
  pub top_pinned : Pinned top.bytes (content_of top).version top_pin
  pub top_is : held_in chain.roles (codes "targets") ≡ Some top
  pub top_bytes : targets_bytes chain.roles ≡ Some top.bytes
  pub order_is : order (documents_in chain.roles) (content_of snap) path session.config.max_delegations ≡ Some (map visit_in chain.roles)
  pub roles : AllByRecursion (λ (r : RoleDoc). IsTrustedVisit session.crypto (content_in root) (content_of snap) (documents_in chain.roles) session.now (visit_in r) r.bytes) chain.roles
  pub listed : option_and_then (λ (doc : Targets). at_name path doc.targets) (last_in chain.roles) ≡ Some chain.target
  pub time_is : time.bytes ≡ chain.timestamp
  pub snap_is : snap.bytes ≡ chain.snapshot
  pub time_served : IsServed folders.metadata timestamp_name time.bytes session.config.timestamp_max_length
  pub snap_served : IsServed folders.metadata (pinned_name (content_in root).consistent_snapshot (Some pin) snapshot_name) snap.bytes session.config.snapshot_max_length
  pub top_served : IsServed folders.metadata (pinned_name (content_in root).consistent_snapshot (Some top_pin) targets_name) top.bytes session.config.targets_max_length
  pub roles_served : AllByRecursion (λ (r : RoleDoc). IsServedRole folders.metadata (content_in root).consistent_snapshot (content_of snap) session.config.targets_max_length r r.bytes) chain.roles
  pub name : List ℕ
  pub name_is : target_name_of (content_in root).consistent_snapshot chain.target path ≡ Some name
  pub file_served : IsServed folders.targets name chain.file chain.target.length
  pub file_short : chain.target.length ≤ session.config.target_max_length
  pub file_pinned : PinnedFile chain.file chain.target

-- it is read so
pub record OfferedAs (session : Session) (folders : Folders) (path : List ℕ) (chain : TrustChain) (root : Document declared.Root) : Type 0 where
  pub so : Offered session folders path chain
  pub root_is : so.root ≡ root

module _ (crypto : Crypto) (folders : Folders) (given : List ℕ) (now : jiff.Timestamp) (config : UpdaterConfig) (path : List ℕ) (chain : TrustChain) where
  pub offered_of : (offer : Offers crypto folders given now config path chain) → OfferedAs (session_of crypto config now) folders path chain offer.is.root
  offered_of offer =
      let is : Reading = offer.is in
      let o : OffersAs crypto folders given now config path chain is = offer.offered in
      let t : TrustedAs crypto given now config.max_delegations path chain is = o.trusted in
      let b : Begins crypto (content_in is.root) (content_in is.snapshot) now path config.max_delegations chain.roles =
      first_role crypto (content_in is.root) (content_in is.snapshot) now path config.max_delegations chain.roles (λ (doc : Targets). at_name path doc.targets) chain.target t.roles t.order_is t.listed in
      let role = b.trusted in
      let named : b.first.name ≡ codes "targets" = ap (λ (v : Visit). v.name) b.is in
      let all = subst (λ rs. AllByRecursion (λ (r : RoleDoc). IsServedRole folders.metadata (content_in is.root).consistent_snapshot (content_in is.snapshot) config.targets_max_length r r.bytes) rs) (sym b.roles_are) o.roles in
      let first = subst (λ o. IsServedRole folders.metadata (content_in is.root).consistent_snapshot (content_in is.snapshot) config.targets_max_length b.first o) b.there all.0 in
      let served =
      subst (λ name. IsServed folders.metadata (pinned_name (content_in is.root).consistent_snapshot (at_name (pin_name name) (content_in is.snapshot).meta) (role_file name)) b.bytes config.targets_max_length) named first in
      let whole : Offered (session_of crypto config now) folders path chain = record {
        root = is.root;
        root_fresh = t.root_fresh;
        time = record { bytes = chain.timestamp; document = is.timestamp };
        time_signed = record { read = t.timestamp_read; met = t.timestamp_met };
        time_fresh = t.timestamp_fresh;
        pin = is.pin;
        pin_is = t.pin_is;
        snap = record { bytes = chain.snapshot; document = is.snapshot };
        snap_signed = record { read = t.snapshot_read; met = t.snapshot_met };
        snap_fresh = t.snapshot_fresh;
        pinned = o.snapshot_pinned;
        top = record { bytes = b.bytes; document = role.doc };
        top_signed = record { read = role.read; met = root_role crypto (content_in is.root) role.doc role.authority role.authority_is role.met };
        top_fresh = role.fresh;
        top_pin = role.pin;
        top_pin_is = role.pin_is;
        top_pinned = role.pinned;
        top_is = b.held;
        top_bytes = ap targets_bytes (sym b.roles_are) ∙ b.there;
        order_is = t.order_is;
        roles = t.roles;
        listed = t.listed;
        time_is = refl;
        snap_is = refl;
        time_served = o.timestamp;
        snap_served = o.snapshot;
        top_served = subst (λ pin. IsServed folders.metadata (pinned_name (content_in is.root).consistent_snapshot pin targets_name) b.bytes config.targets_max_length) role.pin_is served;
        roles_served = o.roles;
        name = o.name;
        name_is = o.name_is;
        file_served = o.target;
        file_short = o.target_short;
        file_pinned = t.file;
      } in
      record { so = whole; root_is = refl }
