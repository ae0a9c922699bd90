-- The roots of an archive come into force exactly where they are the chain's, from the given one on, and the last is fresh.
use Rattle.std.proofs.Common.{◌≡◌, ℕ, ◌+◌, List, [], ◌∷◌, ◌++◌, append_assoc, append-nil, length, Bool, true, false, if◌then◌else◌, Some, None, Result, Ok, Err, bytes_eq, codes, refl, sym, ap, ◌∙◌, subst}
use Rattle.std.specs.List.{AllZip, last_or}
use Rattle.std.proofs.lemmas.Slice.Eq.{bytes_eq-Decides}
use Rattle.jiff_core.specs.declared.timestamp.Timestamp as jiff
use Rattle.foundation.specs.Results.{step_ok, ok_same, some_same}
use Rattle.foundation.specs.Steps.{◌>>=◌}
use Rattle.sigstore_keys.specs.Crypto.{Crypto}
use Rattle.sigstore_tuf_text.specs.declared.error.Error.{Error}
use Rattle.sigstore_tuf_text.specs.declared.error.Error.TheVariants as tuf
use Rattle.sigstore_tuf_parts.specs.declared.root.Root as declared
use Rattle.sigstore_tuf_parts.specs.Document.{Document, content_in}
use Rattle.sigstore_tuf_parts.specs.Pinned.{Fresh}
use Rattle.sigstore_tuf_parts.specs.RootRoles.{root_document, meets_role_of, MeetsRole, IsNextRoot, AreNextRoots, Roots}
use Rattle.sigstore_tuf_parts.proofs.IntegrityLaws.{fresh_exactly}
use Rattle.sigstore_tuf_rules.specs.declared.documents.InForce.{InForce}
use Rattle.sigstore_tuf_rules.specs.declared.kind.Kind.TheVariants.{Root}
use Rattle.sigstore_tuf_rules.specs.Authorised.{AreAuthorised, given_in}
use Rattle.sigstore_tuf_rules.specs.Serving.{root_serves_of}
use Rattle.sigstore_tuf_rules.specs.Trusted.{BeginsWith, AreRoots}
use Rattle.sigstore_tuf_rules.specs.Update.{with_root, first_root_of, next_number_of, root_checks_of, update_root_of}
use Rattle.sigstore_tuf_rules.proofs.Authorised.{first_root_authorised, first_root_given, update_stays}
use Rattle.sigstore_tuf_rules.proofs.Updates.{fresh_from, root_put}
use Rattle.trust_archive.specs.declared.error.ArchiveError.TheVariants as archive
use Rattle.trust_archive.specs.Judgement.{at_root, later_roots_of, fresh_root_of, roots_of}
use Rattle.trust_archive.proofs.Parts.{to}
use Rattle.trust_archive.proofs.Adopting.{equal, role_ok}

pub at_root_ok : {A : Type 0} (position : ℕ) (r : Result A Error) (x : A) → at_root position r ≡ Ok x → r ≡ Ok x
at_root_ok position (Ok y) x h = ap Ok (ok_same y x h)
at_root_ok position (Err e) x h = cc

-- nothing but roots is in force
pub record AreBare (set : InForce) : Type 0 where
  pub timestamp : set.timestamp ≡ None
  pub snapshot : set.snapshot ≡ None
  pub targets : set.targets ≡ []

module _ (crypto : Crypto) (given : List ℕ) where
  -- ---- what comes into force is the chain's

  pub record Rooted (roots : List (List ℕ)) (set : InForce) : Type 0 where
    pub given_is : given_in set ≡ given
    pub authorised : AreAuthorised crypto given set
    pub roots_are : set.roots ≡ roots
    pub bare : AreBare set

  pub first_rooted : (root : List ℕ) (set : InForce) → root ≡ given → first_root_of crypto root ≡ Ok set → Rooted (root ∷ []) set
  unfolding first_root_of
  first_rooted root set is h =
      let a = step_ok (root_document root) _ set h in
      let b = step_ok (meets_role_of crypto (content_in {T = declared.Root} a.0) (codes "root") a.0) _ set a.2 in
      let same = ok_same _ set b.2 in
      record {
        given_is = first_root_given crypto root set h ∙ is;
        authorised = subst (λ g. AreAuthorised crypto g set) is (first_root_authorised crypto root set h);
        roots_are = sym (ap (λ (s : InForce). s.roots) same);
        bare = record { timestamp = sym (ap (λ (s : InForce). s.timestamp) same); snapshot = sym (ap (λ (s : InForce). s.snapshot) same); targets = sym (ap (λ (s : InForce). s.targets) same) };
      }

  pub one_rooted : (roots : List (List ℕ)) (root : List ℕ) (set new : InForce) → Rooted roots set → update_root_of crypto set root ≡ Ok new → Rooted (roots ++ root ∷ []) new
  one_rooted roots root set new r h =
      let p = root_put crypto set root new h in
      let s = (update_stays crypto (Root 0) None set new root h).authorised (subst (λ g. AreAuthorised crypto g set) (sym r.given_is) r.authorised) in
      record {
        given_is = s.1 ∙ r.given_is;
        authorised = subst (λ g. AreAuthorised crypto g new) r.given_is s.0;
        roots_are = ap (λ (s : InForce). s.roots) p.new_is ∙ ap (λ rs. rs ++ root ∷ []) r.roots_are;
        bare = record { timestamp = ap (λ (s : InForce). s.timestamp) p.new_is; snapshot = ap (λ (s : InForce). s.snapshot) p.new_is; targets = ap (λ (s : InForce). s.targets) p.new_is };
      }

  pub later_rooted : (position : ℕ) (before later : List (List ℕ)) (set new : InForce) → Rooted before set → later_roots_of crypto position later set ≡ Ok new → Rooted (before ++ later) new
  later_rooted position before [] set new r h = subst (Rooted (before ++ [])) (ok_same set new h) (subst (λ rs. Rooted rs set) (sym (append-nil before)) r)
  later_rooted position before (root ∷ later) set new r h =
      let s = step_ok (at_root position (update_root_of crypto set root)) (λ x. later_roots_of crypto (position + 1) later x) new h in
      subst (λ rs. Rooted rs new) (append_assoc before (root ∷ []) later)
      (later_rooted (position + 1) (before ++ root ∷ []) later s.0 new (one_rooted before root set s.0 r (at_root_ok position (update_root_of crypto set root) s.0 s.1)) s.2)

  pub record RootedFresh (now : jiff.Timestamp) (roots : List (List ℕ)) (set : InForce) : Type 0 where
    pub rooted : Rooted roots set
    pub fresh : Fresh (content_in {T = declared.Root} set.root).expires now

  pub roots_sound : (now : jiff.Timestamp) (roots : List (List ℕ)) (set : InForce) → roots_of crypto given now roots ≡ Ok set → RootedFresh now roots set
  unfolding roots_of
  roots_sound now [] set h = cc
  roots_sound now (root ∷ later) set h = by_given (bytes_eq root given) refl h
    where
      by_given : (b : Bool) → bytes_eq root given ≡ b
          → (if b then (at_root 0 (first_root_of crypto root) >>= λ first. later_roots_of crypto 1 later first >>= λ s. fresh_root_of (length later) now s) else Err archive.FirstRoot) ≡ Ok set → RootedFresh now (root ∷ later) set
      by_given false e h = cc
      by_given true e h =
          let f = step_ok (at_root 0 (first_root_of crypto root)) (λ first. later_roots_of crypto 1 later first >>= λ s. fresh_root_of (length later) now s) set h in
          let l = step_ok (later_roots_of crypto 1 later f.0) (λ s. fresh_root_of (length later) now s) set f.2 in
          let w = step_ok (at_root (length later) (root_serves_of l.0 now)) (λ _. Ok l.0) set l.2 in
          let first = first_rooted root f.0 ((bytes_eq-Decides root given).0 e) (at_root_ok 0 (first_root_of crypto root) f.0 f.1) in
          subst (RootedFresh now (root ∷ later)) (ok_same l.0 set w.2)
          (record {
            rooted = later_rooted 1 (root ∷ []) later f.0 l.0 first l.1;
            fresh = fresh_from (codes "root") (content_in {T = declared.Root} l.0.root).expires now (at_root_ok (length later) (root_serves_of l.0 now) w.0 w.1);
          })

  -- ---- the chain's come into force

  number_ok : (trusted new : ℕ) → new ≡ trusted + 1 → next_number_of trusted new ≡ Ok tt
  number_ok trusted new h = ap (λ b. if b then Ok tt else Err (tuf.BadRootVersion trusted new)) (equal new (trusted + 1) h)

  root_checked : (old doc : Document declared.Root) → IsNextRoot crypto old doc → root_checks_of crypto old doc ≡ Ok tt
  unfolding root_checks_of
  root_checked old doc n =
      to (next_number_of (content_in {T = declared.Root} old).version (content_in {T = declared.Root} doc).version) _ tt (number_ok _ _ n.number)
      ∙ to (meets_role_of crypto (content_in {T = declared.Root} old) (codes "root") doc) _ tt (role_ok crypto _ _ doc n.handed_on) ∙ role_ok crypto _ _ doc n.own

  root_updated : (set : InForce) (bytes : List ℕ) (doc : Document declared.Root) → root_document bytes ≡ Ok doc → IsNextRoot crypto set.root doc → update_root_of crypto set bytes ≡ Ok (with_root set bytes doc)
  unfolding update_root_of
  root_updated set bytes doc read n = to (root_document bytes) _ doc read ∙ to (root_checks_of crypto set.root doc) _ tt (root_checked set.root doc n)

  -- these roots come into force behind a bare set
  record Follow (position : ℕ) (later : List (List ℕ)) (last : Document declared.Root) (set : InForce) : Type 0 where
    new : InForce
    is : later_roots_of crypto position later set ≡ Ok new
    root : new.root ≡ last
    bare : AreBare new

  followed : (position : ℕ) (later : List (List ℕ)) (docs : List (Document declared.Root)) (last : Document declared.Root) (set : InForce) → AreBare set → AllZip (λ bytes doc. root_document bytes ≡ Ok doc) later docs → AreNextRoots crypto set.root docs
      → last_or (Some set.root) docs ≡ Some last → Follow position later last set
  followed position [] [] last set bare read next end = record { new = set; is = refl; root = some_same set.root last end; bare = bare }
  followed position [] (d ∷ ds) last set bare read next end = absurd read
  followed position (b ∷ bs) [] last set bare read next end = absurd read
  followed position (b ∷ bs) (d ∷ ds) last set bare read next end =
      let f = followed (position + 1) bs ds last (with_root set b d) (record { timestamp = refl; snapshot = refl; targets = refl }) read.1 next.1 end in
      record { new = f.new; is = to (at_root position (update_root_of crypto set b)) (λ x. later_roots_of crypto (position + 1) bs x) (with_root set b d) (ap (at_root position) (root_updated set b d read.0 next.0)) ∙ f.is; root = f.root; bare = f.bare }

  first_ok : (bytes : List ℕ) (doc : Document declared.Root) → root_document bytes ≡ Ok doc → MeetsRole crypto (content_in {T = declared.Root} doc) (codes "root") doc
      → first_root_of crypto bytes ≡ Ok (record { roots = bytes ∷ []; root = doc; timestamp = None; snapshot = None; targets = [] })
  unfolding first_root_of
  first_ok bytes doc read own = to (root_document bytes) _ doc read ∙ to (meets_role_of crypto (content_in {T = declared.Root} doc) (codes "root") doc) _ tt (role_ok crypto _ _ doc own)

  pub record Came (now : jiff.Timestamp) (roots : List (List ℕ)) (last : Document declared.Root) : Type 0 where
    pub new : InForce
    pub is : roots_of crypto given now roots ≡ Ok new
    pub root : new.root ≡ last
    pub bare : AreBare new

  pub roots_complete : (now : jiff.Timestamp) (roots : List (List ℕ)) (last : Document declared.Root) → AreRoots crypto given roots last → Fresh (content_in {T = declared.Root} last).expires now → Came now roots last
  unfolding roots_of
  roots_complete now roots last a fresh = by_roots roots a.documents a.begins a.read a.next a.last
    where
      by_roots : (roots : List (List ℕ)) (docs : List (Document declared.Root)) → BeginsWith given roots → AllZip (λ bytes doc. root_document bytes ≡ Ok doc) roots docs → Roots crypto a.first docs → last_or None docs ≡ Some last → Came now roots last
      by_roots [] docs b z n l = absurd b
      by_roots (r ∷ rs) [] b z n l = absurd z
      by_roots (r ∷ rs) (d ∷ ds) b z n l =
          let own : MeetsRole crypto (content_in {T = declared.Root} d) (codes "root") d = subst (λ (x : Document declared.Root). MeetsRole crypto (content_in {T = declared.Root} x) (codes "root") x) (sym n.0) n.1 in
          let next : AreNextRoots crypto d ds = subst (λ x. AreNextRoots crypto x ds) (sym n.0) n.2 in
          let f = followed 1 rs ds last (record { roots = r ∷ []; root = d; timestamp = None; snapshot = None; targets = [] }) (record { timestamp = refl; snapshot = refl; targets = refl }) z.1 next l in
          let serves : root_serves_of f.new now ≡ Ok tt =
          (fresh_exactly (codes "root") (content_in {T = declared.Root} f.new.root).expires now).1 (subst (λ (x : Document declared.Root). Fresh (content_in {T = declared.Root} x).expires now) (sym f.root) fresh) in
          record {
            new = f.new;
            is = ap (λ t. if t then (at_root 0 (first_root_of crypto r) >>= λ first. later_roots_of crypto 1 rs first >>= λ s. fresh_root_of (length rs) now s) else Err archive.FirstRoot) ((bytes_eq-Decides r given).1 b)
                ∙ to (at_root 0 (first_root_of crypto r)) (λ first. later_roots_of crypto 1 rs first >>= λ s. fresh_root_of (length rs) now s) (record { roots = r ∷ []; root = d; timestamp = None; snapshot = None; targets = [] })
                (ap (at_root 0) (first_ok r d z.0 own)) ∙ to (later_roots_of crypto 1 rs (record { roots = r ∷ []; root = d; timestamp = None; snapshot = None; targets = [] })) (λ s. fresh_root_of (length rs) now s) f.new f.is
                ∙ to (at_root (length rs) (root_serves_of f.new now)) (λ _. Ok f.new) tt (ap (at_root (length rs)) serves);
            root = f.root;
            bare = f.bare;
          }
