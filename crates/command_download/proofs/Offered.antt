-- One offered chain: after the refresh its documents are in force, and a search for its target gives it; searches for other targets leave
-- it so.
use Rattle.std.proofs.Common.{◌≡◌, inl, inr, ℕ, List, false, bytes_eq, Some, Result, Ok, Err, codes, refl, sym, ◌∙◌, subst}
use Rattle.foundation.specs.Watched.{Watched}
use Rattle.foundation.specs.Results.{ok_same, err_same, no_both}
use Rattle.sigstore_tuf_text.specs.declared.error.Error.{Error}
use Rattle.sigstore_tuf_text.specs.declared.error.Error.TheVariants as tuf
use Rattle.sigstore_tuf_text.specs.Names.{root_name}
use Rattle.sigstore_tuf_outside.specs.Repository.{Quiet, Files, Folders}
use Rattle.sigstore_tuf_outside.specs.Store.{with_file}
use Rattle.sigstore_tuf_rules.specs.declared.chain.TrustChain.{TrustChain}
use Rattle.sigstore_tuf_rules.specs.declared.documents.InForce.{InForce}
use Rattle.sigstore_tuf_rules.specs.Names.{kept_target, role_file}
use Rattle.sigstore_tuf_rules.specs.Order.{is_top_level}
use Rattle.sigstore_tuf_runs.specs.Chain.{GetsTarget}
use Rattle.sigstore_tuf_runs.specs.State.{State, state_of}
use Rattle.sigstore_tuf_causes.proofs.RoleNames.{in_folder, unlike_timestamp, unlike_snapshot, unlike_targets}
use Rattle.sigstore_tuf_offers.proofs.Completing.{Done, wanting, done, TellsSo}
use Rattle.sigstore_tuf_offers.proofs.RootsCompleting.{number_of, IsWarm, stays_warm, stays_elsewhere}
use Rattle.sigstore_tuf_offers.proofs.TargetCompleting.{GivenChain, chain_wanting, chain_given, got_done, offered, start, rest_bound, first_wants, Going, Arrived, attached_done, refreshed_done}
use Rattle.sigstore_tuf_offers.proofs.Offered as offers
use Rattle.command_download.specs.Client.{Anchor, Outside, state_in, Begins, Refreshes, root_refused, attach_refused, refresh_refused, refreshed, top_of}
use Rattle.command_download.specs.Promises.{IsOffered}
use Rattle.command_download.proofs.Current.{top_is, top_held}
use Rattle.command_download.proofs.Storing.{gets_so}

wants_only : {P : Type 0} (e : Error) → Done P (Err e) → e ≡ tuf.NoMemory
wants_only e (wanting h) = err_same e tuf.NoMemory h
wants_only e (done h g) = no_both tt e (sym h)

must : {P : Type 0} → Done P (Ok tt) → P
must (wanting h) = no_both tt tuf.NoMemory h
must (done h g) = g

module _ (anchor : Anchor) (folders : Folders) (files : Files) (path : List ℕ) (chain : TrustChain) (o : IsOffered anchor folders files path chain) where
  abbrev Goes : State → Type 0
  Goes state = Going anchor.session.crypto folders anchor.root anchor.session.now anchor.session.config path chain o.offers state

  abbrev pub Arrives : State → Type 0
  Arrives state = Arrived anchor.session.crypto folders anchor.root anchor.session.now anchor.session.config path chain o.offers state

  abbrev so : offers.Offered anchor.session folders path chain
  so = (offered anchor.session.crypto folders anchor.root anchor.session.now anchor.session.config path chain o.offers).so

  abbrev from : ℕ
  from = number_of o.offers.offered.trusted.roots.first

  abbrev rest : List (List ℕ)
  rest = (start anchor.session.crypto folders anchor.root anchor.session.now anchor.session.config path chain o.offers).rest

  -- ---- the refresh

  module _ (before after : Outside) (told : before.repo.told ≡ Some folders) (stored : before.store.told ≡ Some files) (quiet : Quiet before.repo.faults after.repo.faults) where
    begun_goes : (kept : Watched Files) (set : InForce) → Begins anchor before kept set → Goes (state_of set before.repo kept)
    begun_goes kept set b =
        must (attached_done anchor.session.crypto folders anchor.root anchor.session.now anchor.session.config path chain o.offers b.first before.repo before.store files (state_of set before.repo kept) (Ok tt) b.first_is told stored o.warm b.attaches)

    pub arrives_after : (set : InForce) → Refreshes anchor before after (Ok set) → Arrives (state_in set after)
    arrives_after set (root_refused e h s is) = no_both set e is
    arrives_after set (attach_refused first found e made a r s is) = no_both set e is
    arrives_after set (refresh_refused kept found last e b r s is) = no_both set e is
    arrives_after set (refreshed kept found last b r s is) =
        subst (λ (x : InForce). Arrives (state_in x after)) (ok_same last set (sym is))
        (must (refreshed_done anchor.session.crypto folders anchor.root anchor.session.now anchor.session.config path chain o.offers (state_of found before.repo kept) (state_in last after) (Ok tt) (begun_goes kept found b) quiet r))

    pub wants_after : (e : Error) → Refreshes anchor before after (Err e) → e ≡ tuf.NoMemory
    wants_after e (root_refused d h s is) =
        err_same e d is ∙ first_wants anchor.session.crypto folders anchor.root anchor.session.now anchor.session.config path chain o.offers d h
    wants_after e (attach_refused first found d made a r s is) =
        err_same e d is
        ∙ wants_only d (attached_done anchor.session.crypto folders anchor.root anchor.session.now anchor.session.config path chain o.offers first before.repo before.store files (state_of found before.repo after.store) (Err d) made told stored o.warm a)
    wants_after e (refresh_refused kept found last d b r s is) =
        err_same e d is
        ∙ wants_only d (refreshed_done anchor.session.crypto folders anchor.root anchor.session.now anchor.session.config path chain o.offers (state_of found before.repo kept) (state_in last after) (Err d) (begun_goes kept found b) quiet r)
    wants_after e (refreshed kept found last b r s is) = no_both last e (sym is)

  -- ---- the top-level documents alone

  pub arrives_top : (set : InForce) (outside : Outside) → Arrives (state_in set outside) → Arrives (state_in (top_of set) outside)
  arrives_top set outside a =
      let snapped = a.topped.snapped in
      let b = snapped.timed.behind in
      record {
        topped = record {
          snapped = record {
            timed = record {
              behind = record {
                told = b.told;
                root = b.root;
                roots = b.roots;
                time = b.time;
                snap = b.snap;
                top = inr (top_is set ∙ a.topped.top);
                roles = λ name held at. b.roles name held (top_held set name held at);
                warm = b.warm;
              };
              time = snapped.timed.time;
            };
            snap = snapped.snap;
          };
          top = top_is set ∙ a.topped.top;
        };
      }

  -- ---- a search

  abbrev Warm : Files → Type 0
  Warm = IsWarm anchor.session folders path chain so from rest (rest_bound anchor.session.crypto folders anchor.root anchor.session.now anchor.session.config path chain o.offers)

  module _ (set : InForce) (before after : Outside) (a : Arrives (state_in (top_of set) before)) (same : after.repo.told ≡ before.repo.told) where
    moved : TellsSo Warm after.store → Arrives (state_in (top_of set) after)
    moved w =
        let snapped = a.topped.snapped in
        let b = snapped.timed.behind in
        record {
          topped = record {
            snapped = record {
              timed = record {
                behind = record { told = same ∙ b.told; root = b.root; roots = b.roots; time = b.time; snap = b.snap; top = b.top; roles = b.roles; warm = w };
                time = snapped.timed.time;
              };
              snap = snapped.snap;
            };
            top = a.topped.top;
          };
        }

    -- for its own target: want of memory, or the chain
    pub given_own : (end : InForce) (result : Result TrustChain Error) → Quiet before.repo.faults after.repo.faults → GetsTarget anchor.session path (state_in (top_of set) before) (state_in end after) result
        → GivenChain (TellsSo Warm after.store) chain result
    given_own end result quiet g =
        got_done anchor.session folders path chain so from rest (rest_bound anchor.session.crypto folders anchor.root anchor.session.now anchor.session.config path chain o.offers) (state_in (top_of set) before) (state_in end after) result
        a.topped quiet g

    pub arrives_own : (end : InForce) (found : TrustChain) → Quiet before.repo.faults after.repo.faults → GetsTarget anchor.session path (state_in (top_of set) before) (state_in end after) (Ok found)
        → Arrives (state_in (top_of set) after)
    arrives_own end found quiet g = by_given (given_own end (Ok found) quiet g)
      where
        by_given : GivenChain (TellsSo Warm after.store) chain (Ok found) → Arrives (state_in (top_of set) after)
        by_given (chain_wanting h) = no_both found tuf.NoMemory h
        by_given (chain_given h w) = moved w

    -- for another one
    pub arrives_other : (other : List ℕ) (end : InForce) (result : Result TrustChain Error) → bytes_eq path other ≡ false → GetsTarget anchor.session other (state_in (top_of set) before) (state_in end after) result
        → Arrives (state_in (top_of set) after)
    arrives_other other end result apart g =
        moved (gets_so Warm other roles file anchor.session (state_in (top_of set) before) (state_in end after) result g a.topped.snapped.timed.behind.warm)
      where
        roles : (name bytes : List ℕ) → is_top_level name ≡ false → (files : Files) → Warm files → Warm (with_file (role_file name) bytes files)
        roles name bytes low =
            stays_warm anchor.session folders path chain so from rest (rest_bound anchor.session.crypto folders anchor.root anchor.session.now anchor.session.config path chain o.offers) (role_file name) bytes (inl (unlike_timestamp name low)) (inl (unlike_snapshot name low)) (inl (unlike_targets name low)) (inl (in_folder (codes "targets") path name))
            (stays_elsewhere anchor.session folders path chain so from rest (rest_bound anchor.session.crypto folders anchor.root anchor.session.now anchor.session.config path chain o.offers) (role_file name) bytes (λ n. in_folder (codes "root_history") (root_name n) name))

        file : (bytes : List ℕ) (files : Files) → Warm files → Warm (with_file (kept_target other) bytes files)
        file bytes =
            stays_warm anchor.session folders path chain so from rest (rest_bound anchor.session.crypto folders anchor.root anchor.session.now anchor.session.config path chain o.offers) (kept_target other) bytes (inl refl) (inl refl) (inl refl) (inl apart)
            (stays_elsewhere anchor.session folders path chain so from rest (rest_bound anchor.session.crypto folders anchor.root anchor.session.now anchor.session.config path chain o.offers) (kept_target other) bytes (λ n. refl))
