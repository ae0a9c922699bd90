-- What follows of the targets that were had in turn: the chains are trusted, the shelf has their files and no others, and a stop has its
-- cause.
use Rattle.std.proofs.Common.{◌≡◌, ◌≢◌, ◌⊎◌, inl, inr, ℕ, suc, ◌≤◌, List, [], ◌∷◌, length, Option, Some, None, option_map, Result, Ok, Err, refl, sym, ap, ◌∙◌, subst, arith, append_assoc, append-nil, le_trans, le_refl}
use Rattle.foundation.specs.Watched.{Watched, Rose, Since}
use Rattle.foundation.specs.Results.{ok_same, err_same, some_same, no_both}
use Rattle.sigstore_tuf_text.specs.declared.error.Error.{Error}
use Rattle.sigstore_tuf_text.specs.declared.error.Error.TheVariants as tuf
use Rattle.sigstore_tuf_rules.specs.declared.chain.TrustChain.{TrustChain}
use Rattle.sigstore_tuf_rules.specs.declared.documents.InForce.{InForce}
use Rattle.sigstore_tuf_rules.specs.Authorised.{AreAuthorised, given_in}
use Rattle.sigstore_tuf_rules.specs.Trusted.{Trusted}
use Rattle.sigstore_tuf_rules.proofs.Authorised.{is_stay}
use Rattle.sigstore_tuf_runs.specs.SearchCause.{TargetCause}
use Rattle.sigstore_tuf_runs.specs.Chain as get
use Rattle.sigstore_tuf_runs.specs.Chain.{chain_in, chain_of, GivesChain, GetsTarget}
use Rattle.sigstore_tuf_parts.specs.declared.snapshot.Snapshot.{Snapshot}
use Rattle.sigstore_tuf_parts.specs.declared.targets.TargetFile.{TargetFile}
use Rattle.sigstore_tuf_parts.specs.declared.timestamp.Timestamp.{Timestamp}
use Rattle.sigstore_tuf_rules.specs.declared.documents.Held.{Held}
use Rattle.sigstore_tuf_rules.specs.declared.visit.Visit.{Visit}
use Rattle.sigstore_tuf_causes.proofs.Growing.{Grows, finds_grows}
use Rattle.std.specs.List.{AllByRecursion}
use Rattle.sigstore_tuf_causes.proofs.Carrying.{since_same, since_joins}
use Rattle.sigstore_tuf_causes.proofs.Causes.{is_want}
use Rattle.sigstore_tuf_causes.proofs.Searching.{chain_trusted, gets_stays, gets_serves}
use Rattle.sigstore_tuf_causes.proofs.TargetCauses.{gets_cause, target_earlier}
use Rattle.sigstore_tuf_offers.proofs.TargetCompleting.{gets_since}
use Rattle.command_download.specs.declared.fault.DownloadFault.{DownloadFault}
use Rattle.command_download.specs.declared.fault.DownloadFault.TheVariants.{Tuf, Unplaced, NoMemory}
use Rattle.command_download.specs.declared.layout.Download.{Download}
use Rattle.command_download.specs.declared.shelf.Placed.{Placed}
use Rattle.command_download.specs.declared.shelf.ShelfFault.{ShelfFault}
use Rattle.command_download.specs.declared.shelf.ShelfFault.TheVariants as shelf
use Rattle.command_download.specs.Client.{Anchor, Outside, state_in, top_of, fault_of, fault_of_shelf, Delivers, unbegun, unfound, unplaced, delivered, DeliversEach, all_done, wanting, failed, goes_on}
use Rattle.command_download.specs.Shelf.{placed, with_files}
use Rattle.command_download.specs.Promises as promise
use Rattle.command_download.specs.Promises.{TrustsTarget, AreTrusted, files_of, next_of, HasTaken, Took, AreCurrent, StandsOn, DownloadCause}
use Rattle.command_download.proofs.Current.{top_authorised, top_serves}

-- ---- faults

tuf_is : (e : Error) → e ≢ tuf.NoMemory → fault_of e ≡ Tuf e
tuf_is tuf.Json n = refl
tuf_is (tuf.Malformed a) n = refl
tuf_is tuf.NonIntegerNumber n = refl
tuf_is (tuf.UnusableKey a) n = refl
tuf_is (tuf.UnsupportedScheme a b) n = refl
tuf_is (tuf.UnknownRole a) n = refl
tuf_is (tuf.DuplicateSignature a b) n = refl
tuf_is (tuf.ThresholdNotMet a b c) n = refl
tuf_is (tuf.Rollback a b c) n = refl
tuf_is (tuf.EqualVersion a b) n = refl
tuf_is (tuf.BadRootVersion a b) n = refl
tuf_is (tuf.Expired a b) n = refl
tuf_is (tuf.IntegrityMismatch a) n = refl
tuf_is tuf.Crypto n = refl
tuf_is tuf.NotRefreshed n = refl
tuf_is (tuf.TargetNotFound a) n = refl
tuf_is (tuf.Transport a) n = refl
tuf_is tuf.NoMemory n = absurd (n refl)

-- a refusal that is told is the client's, and no want of memory
pub told_refusal : (d e : Error) → Tuf e ≡ fault_of d → (d ≡ e) × (e ≢ tuf.NoMemory)
told_refusal d e h = by_want (is_want d)
  where
    same : (x y : Error) → Tuf x ≡ Tuf y → x ≡ y
    same x y h = cc

    by_want : (d ≡ tuf.NoMemory) ⊎ (d ≢ tuf.NoMemory) → (d ≡ e) × (e ≢ tuf.NoMemory)
    by_want (inl is) = let never : Tuf e ≡ NoMemory = h ∙ ap fault_of is in cc
    by_want (inr other) = let is : d ≡ e = sym (same e d (h ∙ tuf_is d other)) in (is, subst (λ (x : Error). x ≢ tuf.NoMemory) is other)

-- the client's refusal isn't the shelf's
pub not_unplaced : (e : Error) → Unplaced ≡ fault_of e → ⊥
not_unplaced e h = by_want (is_want e)
  where
    by_want : (e ≡ tuf.NoMemory) ⊎ (e ≢ tuf.NoMemory) → ⊥
    by_want (inl is) = let never : Unplaced ≡ NoMemory = h ∙ ap fault_of is in cc
    by_want (inr other) = let never : Unplaced ≡ Tuf e = h ∙ tuf_is e other in cc

not_wanting : (e : Error) → Tuf e ≡ NoMemory → ⊥
not_wanting e h = cc

not_there : (fault : DownloadFault) → None ≡ Some fault → ⊥
not_there fault h = cc

not_tuf : (fault : ShelfFault) (e : Error) → Tuf e ≡ fault_of_shelf fault → ⊥
not_tuf shelf.Failed e h = cc
not_tuf shelf.NoMemory e h = cc

is_failed : (fault : ShelfFault) → Unplaced ≡ fault_of_shelf fault → fault ≡ shelf.Failed
is_failed shelf.Failed h = refl
is_failed shelf.NoMemory h = cc

-- ---- what the shelf has

pub none_more : (told : Option (List Placed)) → with_files told [] ≡ told
none_more None = refl
none_more (Some files) = ap Some (append-nil files)

one_more : (told : Option (List Placed)) (file : Placed) (files : List Placed) → with_files (with_files told (file ∷ [])) files ≡ with_files told (file ∷ files)
one_more None file files = refl
one_more (Some before) file files = ap Some (append_assoc before (file ∷ []) files)

rose_later : (a b c : ℕ) → a ≤ b → Rose b c → Rose a c
rose_later a b c h r = omega arith

-- ---- one target

module _ (anchor : Anchor) (set : InForce) (current : AreCurrent anchor set) (given : given_in set ≡ anchor.root) where
  begins_so : AreAuthorised anchor.session.crypto (given_in (top_of set)) (top_of set)
  begins_so = subst (λ g. AreAuthorised anchor.session.crypto g (top_of set)) (sym given) (top_authorised anchor.session.crypto anchor.root set current.authorised)

  module _ (download : Download) (before after : Outside) where
    abbrev Gets : InForce → Result TrustChain Error → Type 0
    Gets end result = GetsTarget anchor.session download.target (state_in (top_of set) before) (state_in end after) result

    got_trusted : (end : InForce) (chain : TrustChain) → Gets end (Ok chain) → TrustsTarget anchor download.target chain
    got_trusted end chain g =
        subst (λ root. Trusted anchor.session.crypto root anchor.session.now anchor.session.config.max_delegations download.target chain) given
        (chain_trusted anchor.session download.target (state_in (top_of set) before) (state_in end after) (Ok chain) begins_so g)

    got_since : (end : InForce) (result : Result TrustChain Error) → Gets end result → Since before.repo after.repo
    got_since end result g = gets_since anchor.session download.target (state_in (top_of set) before) (state_in end after) result g

    got_current : (end : InForce) (result : Result TrustChain Error) → Gets end result → AreCurrent anchor end
    got_current end result g =
        let stays = is_stay (gets_stays anchor.session download.target (state_in (top_of set) before) (state_in end after) result g) begins_so in
        record {
          authorised = subst (λ r. AreAuthorised anchor.session.crypto r end) given (stays.authorised begins_so);
          serve = gets_serves anchor.session download.target (state_in (top_of set) before) (state_in end after) result g (top_serves anchor.session.now set current.serve);
        }

    got_refused : (end : InForce) (e : Error) → Gets end (Err e) → TargetCause anchor.session download.target (state_in (top_of set) before) (state_in end after) e
    got_refused end e g = gets_cause anchor.session download.target (state_in (top_of set) before) (state_in end after) (Err e) begins_so g

    -- the chain stands on the documents that the search began with
    stands : (old new : InForce) (visits : List Visit) (entry : TargetFile) (file : List ℕ) (chain : TrustChain) → Grows old new → chain_of new visits entry file ≡ Ok chain → StandsOn old chain
    stands old new visits entry file chain grows is = by_held new.timestamp new.snapshot refl refl is
      where
        by_held : (t : Option (Held Timestamp)) (s : Option (Held Snapshot)) → new.timestamp ≡ t → new.snapshot ≡ s → chain_in new t s visits entry file ≡ Ok chain → StandsOn old chain
        by_held None s at bt h = cc
        by_held (Some t) None at bt h = cc
        by_held (Some t) (Some s) at bt h =
            let same = ok_same _ chain h in
            record {
              roots = ap (λ (c : TrustChain). c.roots) (sym same) ∙ grows.roots;
              timestamp = ap (option_map (λ (held : Held Timestamp). held.bytes)) (sym grows.timestamp ∙ at) ∙ ap (λ (c : TrustChain). Some c.timestamp) same;
              snapshot = ap (option_map (λ (held : Held Snapshot). held.bytes)) (sym grows.snapshot ∙ bt) ∙ ap (λ (c : TrustChain). Some c.snapshot) same;
            }

    got_stands : (end : InForce) (chain : TrustChain) → Gets end (Ok chain) → StandsOn set chain
    got_stands end chain (get.unfound e f is) = no_both chain e is
    got_stands end chain (get.visited visits mid f g) = by_run g
      where
        grows : Grows (top_of set) mid.documents
        grows = finds_grows anchor.session download.target (state_in (top_of set) before) mid (Ok visits) f

        top_stands : StandsOn (top_of set) chain → StandsOn set chain
        top_stands s = record { roots = s.roots; timestamp = s.timestamp; snapshot = s.snapshot }

        by_run : GivesChain anchor.session.config download.target visits mid (state_in end after) (Ok chain) → StandsOn set chain
        by_run (get.unlisted e h same is) = no_both chain e is
        by_run (get.unobtained entry e at h d is) = no_both chain e is
        by_run (get.unchained entry file e at h d c is) = no_both chain e is
        by_run (get.found entry file c at h d made is) = top_stands (subst (StandsOn (top_of set)) (ok_same c chain (sym is)) (stands (top_of set) mid.documents visits entry file c grows made))

    -- what was delivered
    pub record Good (chain : TrustChain) : Type 0 where
      pub trusts : TrustsTarget anchor download.target chain
      pub stands : StandsOn set chain
      pub since : Since before.repo after.repo
      pub later : before.shelf.faults ≤ after.shelf.faults
      pub puts : after.shelf.told ≡ with_files before.shelf.told (placed download.out chain.file ∷ [])

    pub good : (chain : TrustChain) → Delivers anchor.session set download before after (Ok chain) → Good chain
    good chain (unbegun s is) = no_both chain NoMemory is
    good chain (unfound end e g s is) = no_both chain (fault_of e) is
    good chain (unplaced end c fault g p is) = no_both chain (fault_of_shelf fault) is
    good chain (delivered end c g p is) =
        subst Good (ok_same c chain (sym is)) (record { trusts = got_trusted end c g; stands = got_stands end c g; since = got_since end (Ok c) g; later = p.later; puts = p.puts })

    -- and what wasn't
    bad_told : (fault : DownloadFault) → Delivers anchor.session set download before after (Err fault) → after.shelf.told ≡ before.shelf.told
    bad_told fault (unbegun s is) = ap (λ (o : Outside). o.shelf.told) s
    bad_told fault (unfound end e g s is) = ap (λ (w : Watched (List Placed)). w.told) s
    bad_told fault (unplaced end c f g p is) = p.puts
    bad_told fault (delivered end c g p is) = no_both c fault (sym is)

    -- the cause of a refusal
    record Refused (e : Error) : Type 0 where
      other : e ≢ tuf.NoMemory
      end : InForce
      still : AreCurrent anchor end
      cause : TargetCause anchor.session download.target (state_in (top_of set) before) (state_in end after) e

    refused_so : (end : InForce) (d e : Error) → Gets end (Err d) → Tuf e ≡ fault_of d → Refused e
    refused_so end d e g h =
        let is = told_refusal d e h in
        subst Refused is.0 (record { other = λ n. is.1 (sym is.0 ∙ n); end = end; still = got_current end (Err d) g; cause = got_refused end d g })

    bad_cause : (fault : DownloadFault) (e : Error) → fault ≡ Tuf e → Delivers anchor.session set download before after (Err fault) → Refused e
    bad_cause fault e so (unbegun s is) = absurd (not_wanting e (sym so ∙ err_same fault NoMemory is))
    bad_cause fault e so (unfound end d g s is) = refused_so end d e g (sym so ∙ err_same fault (fault_of d) is)
    bad_cause fault e so (unplaced end c f g p is) = absurd (not_tuf f e (sym so ∙ err_same fault (fault_of_shelf f) is))
    bad_cause fault e so (delivered end c g p is) = absurd (no_both c fault (sym is))

    bad_rose : (fault : DownloadFault) → fault ≡ Unplaced → Delivers anchor.session set download before after (Err fault) → Rose before.shelf.faults after.shelf.faults
    bad_rose fault so (unbegun s is) = let never : Unplaced ≡ NoMemory = sym so ∙ err_same fault NoMemory is in cc
    bad_rose fault so (unfound end d g s is) = absurd (not_unplaced d (sym so ∙ err_same fault (fault_of d) is))
    bad_rose fault so (unplaced end c f g p is) = p.failed (is_failed f (sym so ∙ err_same fault (fault_of_shelf f) is))
    bad_rose fault so (delivered end c g p is) = no_both c fault (sym is)

    bad_since : (fault : DownloadFault) → Delivers anchor.session set download before after (Err fault) → Since before.repo after.repo
    bad_since fault (unbegun s is) = since_same before.repo after.repo (ap (λ (o : Outside). o.repo) s)
    bad_since fault (unfound end d g s is) = got_since end (Err d) g
    bad_since fault (unplaced end c f g p is) = got_since end (Ok c) g
    bad_since fault (delivered end c g p is) = got_since end (Ok c) g

    bad_later : (fault : DownloadFault) → Delivers anchor.session set download before after (Err fault) → before.shelf.faults ≤ after.shelf.faults
    bad_later fault (unbegun s is) = subst (λ (o : Outside). before.shelf.faults ≤ o.shelf.faults) (sym s) (le_refl before.shelf.faults)
    bad_later fault (unfound end d g s is) = subst (λ (w : Watched (List Placed)). before.shelf.faults ≤ w.faults) (sym s) (le_refl before.shelf.faults)
    bad_later fault (unplaced end c f g p is) = p.later
    bad_later fault (delivered end c g p is) = p.later

  -- ---- all of them

  pub each_trusted : (downloads : List Download) (before after : Outside) (chains : List TrustChain) (stop : Option DownloadFault) → DeliversEach anchor.session set downloads before after chains stop → AreTrusted anchor downloads chains
  each_trusted _ _ _ _ _ (all_done o) = tt
  each_trusted _ _ _ _ _ (wanting ds o) = tt
  each_trusted _ _ _ _ _ (failed d ds o o' fault one) = tt
  each_trusted _ _ _ _ _ (goes_on d ds o mid o' chain chains stop one rest) = ((good d o mid chain one).trusts, each_trusted ds mid o' chains stop rest)

  pub each_stands : (downloads : List Download) (before after : Outside) (chains : List TrustChain) (stop : Option DownloadFault) → DeliversEach anchor.session set downloads before after chains stop → AllByRecursion (StandsOn set) chains
  each_stands _ _ _ _ _ (all_done o) = tt
  each_stands _ _ _ _ _ (wanting ds o) = tt
  each_stands _ _ _ _ _ (failed d ds o o' fault one) = tt
  each_stands _ _ _ _ _ (goes_on d ds o mid o' chain chains stop one rest) = ((good d o mid chain one).stands, each_stands ds mid o' chains stop rest)

  pub each_taken : (downloads : List Download) (before after : Outside) (chains : List TrustChain) (stop : Option DownloadFault) → DeliversEach anchor.session set downloads before after chains stop → HasTaken downloads chains before.shelf after.shelf
  each_taken _ _ _ _ _ (all_done o) = sym (none_more o.shelf.told)
  each_taken _ _ _ _ _ (wanting ds o) = sym (none_more o.shelf.told)
  each_taken _ _ _ _ _ (failed d ds o o' fault one) = bad_told d o o' fault one ∙ sym (none_more o.shelf.told)
  each_taken _ _ _ _ _ (goes_on d ds o mid o' chain chains stop one rest) =
      each_taken ds mid o' chains stop rest ∙ ap (λ t. with_files t (files_of ds chains)) (good d o mid chain one).puts ∙ one_more o.shelf.told (placed d.out chain.file) (files_of ds chains)

  pub each_later : (downloads : List Download) (before after : Outside) (chains : List TrustChain) (stop : Option DownloadFault) → DeliversEach anchor.session set downloads before after chains stop
      → before.shelf.faults ≤ after.shelf.faults
  each_later _ _ _ _ _ (all_done o) = le_refl o.shelf.faults
  each_later _ _ _ _ _ (wanting ds o) = le_refl o.shelf.faults
  each_later _ _ _ _ _ (failed d ds o o' fault one) = bad_later d o o' fault one
  each_later _ _ _ _ _ (goes_on d ds o mid o' chain chains stop one rest) = le_trans (good d o mid chain one).later (each_later ds mid o' chains stop rest)

  pub each_since : (downloads : List Download) (before after : Outside) (chains : List TrustChain) (stop : Option DownloadFault) → DeliversEach anchor.session set downloads before after chains stop → Since before.repo after.repo
  each_since _ _ _ _ _ (all_done o) = since_same o.repo o.repo refl
  each_since _ _ _ _ _ (wanting ds o) = since_same o.repo o.repo refl
  each_since _ _ _ _ _ (failed d ds o o' fault one) = bad_since d o o' fault one
  each_since _ _ _ _ _ (goes_on d ds o mid o' chain chains stop one rest) = since_joins o.repo mid.repo o'.repo (good d o mid chain one).since (each_since ds mid o' chains stop rest)

  pub each_took : (downloads : List Download) (before mid after : Outside) (chains : List TrustChain) (stop : Option DownloadFault) → mid.shelf ≡ before.shelf → DeliversEach anchor.session set downloads mid after chains stop
      → Took anchor downloads before after chains
  each_took downloads before mid after chains stop same run = record {
    trusted = each_trusted downloads mid after chains stop run;
    taken = subst (λ s. HasTaken downloads chains s after.shelf) same (each_taken downloads mid after chains stop run);
  }

  pub each_all : (downloads : List Download) (before after : Outside) (chains : List TrustChain) (stop : Option DownloadFault) → stop ≡ None → DeliversEach anchor.session set downloads before after chains stop
      → length chains ≡ length downloads
  each_all _ _ _ _ _ none (all_done o) = refl
  each_all _ _ _ _ _ none (wanting ds o) = cc
  each_all _ _ _ _ _ none (failed d ds o o' fault one) = cc
  each_all _ _ _ _ _ none (goes_on d ds o mid o' chain chains stop one rest) = ap suc (each_all ds mid o' chains stop none rest)

  -- the first that wasn't done
  pub record Unplaces (downloads : List Download) (before after : Outside) (chains : List TrustChain) : Type 0 where
    pub next : Download
    pub next_is : next_of downloads chains ≡ Some next
    pub rose : Rose before.shelf.faults after.shelf.faults

  pub each_unplaced : (downloads : List Download) (before after : Outside) (chains : List TrustChain) (stop : Option DownloadFault) → stop ≡ Some Unplaced → DeliversEach anchor.session set downloads before after chains stop
      → Unplaces downloads before after chains
  each_unplaced _ _ _ _ _ is (all_done o) = cc
  each_unplaced _ _ _ _ _ is (wanting ds o) = let never : NoMemory ≡ Unplaced = some_same NoMemory Unplaced is in cc
  each_unplaced _ _ _ _ _ is (failed d ds o o' fault one) =
      record { next = d; next_is = refl; rose = bad_rose d o o' fault (some_same fault Unplaced is) one }
  each_unplaced _ _ _ _ _ is (goes_on d ds o mid o' chain chains stop one rest) =
      let u = each_unplaced ds mid o' chains stop is rest in
      record { next = u.next; next_is = u.next_is; rose = rose_later o.shelf.faults mid.shelf.faults o'.shelf.faults (good d o mid chain one).later u.rose }

  record StopsAt (downloads : List Download) (first after : Outside) (chains : List TrustChain) (e : Error) : Type 0 where
    other : e ≢ tuf.NoMemory
    next : Download
    next_is : next_of downloads chains ≡ Some next
    end : InForce
    still : AreCurrent anchor end
    cause : TargetCause anchor.session next.target (state_in (top_of set) first) (state_in end after) e

  stops_at : (downloads : List Download) (first before after : Outside) (chains : List TrustChain) (stop : Option DownloadFault) (e : Error) → Since first.repo before.repo → stop ≡ Some (Tuf e)
      → DeliversEach anchor.session set downloads before after chains stop → StopsAt downloads first after chains e
  stops_at _ first _ _ _ _ e s is (all_done o) = absurd (not_there (Tuf e) is)
  stops_at _ first _ _ _ _ e s is (wanting ds o) = absurd (not_wanting e (sym (some_same NoMemory (Tuf e) is)))
  stops_at _ first _ _ _ _ e s is (failed d ds o o' fault one) =
      let r = bad_cause d o o' fault e (some_same fault (Tuf e) is) one in
      record {
        other = r.other;
        next = d;
        next_is = refl;
        end = r.end;
        still = r.still;
        cause = target_earlier anchor.session d.target (state_in (top_of set) first) (state_in (top_of set) o) (state_in r.end o') refl s e r.cause;
      }
  stops_at _ first _ _ _ _ e s is (goes_on d ds o mid o' chain chains stop one rest) =
      let r = stops_at ds first mid o' chains stop e (since_joins first.repo o.repo mid.repo s (good d o mid chain one).since) is rest in
      record { other = r.other; next = r.next; next_is = r.next_is; end = r.end; still = r.still; cause = r.cause }

  pub each_refused : (downloads : List Download) (first before after : Outside) (chains : List TrustChain) (stop : Option DownloadFault) (e : Error) → Since first.repo before.repo → stop ≡ Some (Tuf e)
      → DeliversEach anchor.session set downloads before after chains stop → (e ≢ tuf.NoMemory) × DownloadCause anchor downloads first after chains e
  each_refused downloads first before after chains stop e s is run =
      let r = stops_at downloads first before after chains stop e s is run in
      (r.other, promise.target_refused set r.end r.next r.next_is current r.still r.cause)
