-- The documents that were brought up to date go back to the root and serve; and why there are none.
use Rattle.std.proofs.Common.{◌≡◌, ◌≢◌, ◌⊎◌, inl, inr, ℕ, List, [], Option, Some, None, Result, Ok, Err, codes, refl, sym, ap, ◌∙◌, subst}
use Rattle.std.specs.Prelude.{⊤, IfSome}
use Rattle.foundation.specs.Watched.{Watched, Since, IfTold}
use Rattle.foundation.specs.Results.{ok_same, err_same, no_both}
use Rattle.sigstore_keys.specs.Crypto.{Crypto}
use Rattle.jiff_core.specs.declared.timestamp.Timestamp as jiff
use Rattle.sigstore_types_parts.specs.Entries.{at_name}
use Rattle.sigstore_tuf_text.specs.declared.error.Error.{Error}
use Rattle.sigstore_tuf_text.specs.declared.error.Error.TheVariants as tuf
use Rattle.sigstore_tuf_parts.specs.declared.targets.Targets.{Targets}
use Rattle.sigstore_tuf_parts.specs.Document.{content_in}
use Rattle.sigstore_tuf_parts.specs.RootRoles.{MeetsRole}
use Rattle.sigstore_tuf_outside.specs.Repository.{Files}
use Rattle.sigstore_tuf_rules.specs.declared.documents.Held.{Held}
use Rattle.sigstore_tuf_rules.specs.declared.documents.InForce.{InForce}
use Rattle.sigstore_tuf_rules.specs.Authorised.{AreAuthorised, given_in, Serve, StaysAuthorised}
use Rattle.sigstore_tuf_rules.specs.Taking.{top_targets}
use Rattle.sigstore_tuf_rules.proofs.Authorised.{first_root_given, first_root_is_authorised, is_stay}
use Rattle.sigstore_tuf_runs.specs.State.{state_of}
use Rattle.sigstore_tuf_runs.specs.Run.{refresh_steps, RunsSteps}
use Rattle.sigstore_tuf_runs.proofs.Steps.{attach_wants}
use Rattle.sigstore_tuf_outside.proofs.Files.{inserted}
use Rattle.sigstore_tuf_causes.proofs.Carrying.{attach_carried, refresh_carried}
use Rattle.sigstore_tuf_causes.proofs.Causes.{earlier, refresh_cause}
use Rattle.sigstore_tuf_causes.proofs.Newest.{on_refresh_newest}
use Rattle.sigstore_tuf_runs.specs.Newest.{AreNewest}
use Rattle.sigstore_tuf_causes.proofs.Refusals.{first_refusal}
use Rattle.sigstore_tuf_causes.proofs.Serving.{on_refresh}
use Rattle.sigstore_tuf_causes.proofs.Staying.{attach_stays, refresh_stays}
use Rattle.command_download.specs.declared.layout.Download.{Download}
use Rattle.command_download.specs.Client.{Anchor, Outside, state_in, Begins, Refreshes, root_refused, attach_refused, refresh_refused, refreshed, alone, top_of}
use Rattle.command_download.specs.Promises as promise
use Rattle.command_download.specs.Promises.{AreCurrent, DownloadCause}

-- ---- up to the refresh

module _ (anchor : Anchor) (before : Outside) (kept : Watched Files) (set : InForce) (b : Begins anchor before kept set) where
  begun_stays : StaysAuthorised anchor.session.crypto b.first set
  begun_stays =
      is_stay (attach_stays anchor.session.crypto (state_in b.first before) (state_of set before.repo kept) (Ok tt) b.attaches)
      (first_root_is_authorised anchor.session.crypto anchor.root b.first b.first_is)

  begun_given : given_in set ≡ anchor.root
  begun_given = begun_stays.given ∙ first_root_given anchor.session.crypto anchor.root b.first b.first_is

  begun_authorised : AreAuthorised anchor.session.crypto (given_in set) set
  begun_authorised =
      subst (λ g. AreAuthorised anchor.session.crypto g set) (sym begun_stays.given)
      (begun_stays.authorised (first_root_is_authorised anchor.session.crypto anchor.root b.first b.first_is))

  module _ (after : Outside) (last : InForce) (result : Result ⊤ Error) (runs : RunsSteps anchor.session refresh_steps (state_of set before.repo kept) (state_in last after) result) where
    after_stays : StaysAuthorised anchor.session.crypto set last
    after_stays = is_stay (refresh_stays anchor.session (state_of set before.repo kept) (state_in last after) result runs) begun_authorised

    pub after_given : given_in last ≡ anchor.root
    after_given = after_stays.given ∙ begun_given

    pub after_authorised : AreAuthorised anchor.session.crypto anchor.root last
    after_authorised = subst (λ g. AreAuthorised anchor.session.crypto g last) begun_given (after_stays.authorised begun_authorised)

    pub after_since : Since before.repo after.repo
    after_since = (refresh_carried anchor.session (state_of set before.repo kept) (state_in last after) result runs).since

-- what a refresh leaves
pub record After (anchor : Anchor) (before after : Outside) (set : InForce) : Type 0 where
  pub current : AreCurrent anchor set
  pub given : given_in set ≡ anchor.root
  pub newest : IfTold before.repo.told (λ folders. AreNewest folders set)
  pub since : Since before.repo after.repo
  pub shelf : after.shelf ≡ before.shelf

module _ (anchor : Anchor) (before after : Outside) where
  pub is_after : (set : InForce) → Refreshes anchor before after (Ok set) → After anchor before after set
  is_after set (root_refused e h s is) = no_both set e is
  is_after set (attach_refused first found e f a r s is) = no_both set e is
  is_after set (refresh_refused kept found last e b r s is) = no_both set e is
  is_after set (refreshed kept found last b r s is) = subst (After anchor before after) (ok_same last set (sym is)) (record {
    current = record { authorised = after_authorised anchor before kept found b after last (Ok tt) r; serve = on_refresh anchor.session (state_of found before.repo kept) (state_in last after) (Ok tt) r };
    given = after_given anchor before kept found b after last (Ok tt) r;
    newest = on_refresh_newest anchor.session (state_of found before.repo kept) (state_in last after) (Ok tt) r;
    since = after_since anchor before kept found b after last (Ok tt) r;
    shelf = s;
  })

  -- a refusal of it has its cause, and nothing was put in place
  pub record Unrefreshed (downloads : List Download) (e : Error) : Type 0 where
    pub cause : e ≢ tuf.NoMemory → DownloadCause anchor downloads before after [] e
    pub shelf : after.shelf ≡ before.shelf

  pub is_unrefreshed : (downloads : List Download) (e : Error) → Refreshes anchor before after (Err e) → Unrefreshed downloads e
  is_unrefreshed downloads e (root_refused d h s is) = subst (Unrefreshed downloads) (err_same d e (sym is)) (record {
    cause = λ other. promise.root_refused refl (first_refusal anchor.session.crypto anchor.root d (h other));
    shelf = ap (λ (o : Outside). o.shelf) s;
  })
  is_unrefreshed downloads e (attach_refused first found d f a r s is) = subst (Unrefreshed downloads) (err_same d e (sym is)) (record {
    cause = λ other. absurd (other (attach_wants anchor.session.crypto (state_in first before) (state_of found before.repo after.store) (Err d) a));
    shelf = s;
  })
  is_unrefreshed downloads e (refresh_refused kept found last d b r s is) = subst (Unrefreshed downloads) (err_same d e (sym is)) (record {
    cause = λ other.
        promise.refresh_refused b.first last refl b.first_is (after_authorised anchor before kept found b after last (Err d) r)
        (earlier anchor.session (state_in b.first before) (state_of found before.repo kept) (state_in last after) d
        (attach_carried anchor.session.crypto (state_in b.first before) (state_of found before.repo kept) (Ok tt) b.attaches)
        (refresh_cause anchor.session (state_of found before.repo kept) (state_in last after) (Err d) (begun_authorised anchor before kept found b) r));
    shelf = s;
  })
  is_unrefreshed downloads e (refreshed kept found last b r s is) = no_both last e (sym is)

-- ---- the top-level documents alone

top_same : (o : Option (Held Targets)) → at_name (codes "targets") (alone o) ≡ o
top_same None = refl
top_same (Some held) = refl

only_top : (o : Option (Held Targets)) (name : List ℕ) (held : Held Targets) → at_name name (alone o) ≡ Some held → (name ≡ codes "targets") × (o ≡ Some held)
only_top None name held at = cc
only_top (Some top) name held at = by_place (inserted name (codes "targets") top held [] at)
  where
    by_place : ((name ≡ codes "targets") × (held ≡ top)) ⊎ (at_name {T = Held Targets} name [] ≡ Some held) → (name ≡ codes "targets") × (Some top ≡ Some held)
    by_place (inl is) = (is.0, ap Some (sym is.1))
    by_place (inr h) = cc

pub top_is : (set : InForce) → top_targets (top_of set) ≡ top_targets set
top_is set = top_same (top_targets set)

-- each of them is one of those in force
pub top_held : (set : InForce) (name : List ℕ) (held : Held Targets) → at_name name (top_of set).targets ≡ Some held → at_name name set.targets ≡ Some held
top_held set name held at =
    let is = only_top (top_targets set) name held at in
    ap (λ n. at_name n set.targets) is.0 ∙ is.1

pub top_authorised : (crypto : Crypto) (given : List ℕ) (set : InForce) → AreAuthorised crypto given set → AreAuthorised crypto given (top_of set)
top_authorised crypto given set a = record {
  roots = a.roots;
  timestamp = a.timestamp;
  snapshot = a.snapshot;
  targets = subst (λ o. IfSome o (λ (held : Held Targets). MeetsRole crypto (content_in set.root) (codes "targets") held.document)) (sym (top_is set)) a.targets;
  roles = λ name held at. a.roles name held (top_held set name held at);
}

pub top_serves : (now : jiff.Timestamp) (set : InForce) → Serve now set → Serve now (top_of set)
top_serves now set s = record {
  root_fresh = s.root_fresh;
  timestamp = s.timestamp;
  timestamp_is = s.timestamp_is;
  timestamp_fresh = s.timestamp_fresh;
  snapshot = s.snapshot;
  snapshot_is = s.snapshot_is;
  snapshot_fresh = s.snapshot_fresh;
  pin = s.pin;
  pin_is = s.pin_is;
  snapshot_version = s.snapshot_version;
  targets = s.targets;
  targets_is = top_is set ∙ s.targets_is;
  targets_fresh = s.targets_fresh;
}
