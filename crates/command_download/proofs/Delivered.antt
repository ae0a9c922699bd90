-- One target, by the calls that search and place it.
use Rattle.std.proofs.Common.{◌≡◌, ℕ, List, Result, Ok, Err, refl, ap, subst}
use Rattle.foundation.specs.Watched.{Watched}
use Rattle.sigstore_tuf_text.specs.declared.error.Error.{Error}
use Rattle.sigstore_tuf_outside.specs.Repository.{Files, Folders}
use Rattle.sigstore_tuf_rules.specs.declared.chain.TrustChain.{TrustChain}
use Rattle.sigstore_tuf_rules.specs.declared.documents.InForce.{InForce}
use Rattle.sigstore_tuf_runs.specs.State.{Session, state_of}
use Rattle.sigstore_tuf_runs.specs.Chain.{GetsTarget}
use Rattle.command_download.specs.declared.fault.DownloadFault.{DownloadFault}
use Rattle.command_download.specs.declared.layout.Download.{Download}
use Rattle.command_download.specs.declared.shelf.Placed.{Placed}
use Rattle.command_download.specs.declared.shelf.ShelfFault.{ShelfFault}
use Rattle.command_download.specs.Client.{outside_by, top_of, fault_of, fault_of_shelf, Delivers, unfound, unplaced, delivered}
use Rattle.command_download.specs.Shelf.{Places}

module _ (session : Session) (set : InForce) (download : Download) (repo repo' : Watched Folders) (store store' : Watched Files) (shelf : Watched (List Placed)) (top end : InForce) (name : List ℕ)
    (top_is : top ≡ top_of set) (name_is : name ≡ download.target) where
  got_so : (result : Result TrustChain Error) → GetsTarget session name (state_of top repo store) (state_of end repo' store') result → GetsTarget session download.target (state_of (top_of set) repo store) (state_of end repo' store') result
  got_so result g =
      subst (λ (s : InForce). GetsTarget session download.target (state_of s repo store) (state_of end repo' store') result) top_is
      (subst (λ n. GetsTarget session n (state_of top repo store) (state_of end repo' store') result) name_is g)

  pub unfound_so : (e : Error) (fault : DownloadFault) → GetsTarget session name (state_of top repo store) (state_of end repo' store') (Err e) → fault ≡ fault_of e
      → Delivers session set download (outside_by repo store shelf) (outside_by repo' store' shelf) (Err fault)
  unfound_so e fault g is = unfound end e (got_so (Err e) g) refl (ap Err is)

  module _ (chain : TrustChain) (shelf' : Watched (List Placed)) (out file : List ℕ) (g : GetsTarget session name (state_of top repo store) (state_of end repo' store') (Ok chain))
      (out_is : out ≡ download.out) (file_is : file ≡ chain.file) where
    placed_so : (result : Result (Unit {0}) ShelfFault) → Places shelf shelf' out file result → Places shelf shelf' download.out chain.file result
    placed_so result p = subst (λ f. Places shelf shelf' download.out f result) file_is (subst (λ o. Places shelf shelf' o file result) out_is p)

    pub unplaced_so : (fault : ShelfFault) (stop : DownloadFault) → Places {T = Unit {0}} shelf shelf' out file (Err fault) → stop ≡ fault_of_shelf fault
        → Delivers session set download (outside_by repo store shelf) (outside_by repo' store' shelf') (Err stop)
    unplaced_so fault stop p is = unplaced end chain fault (got_so (Ok chain) g) (placed_so (Err fault) p) (ap Err is)

    pub delivered_so : Places {T = Unit {0}} shelf shelf' out file (Ok tt) → Delivers session set download (outside_by repo store shelf) (outside_by repo' store' shelf') (Ok chain)
    delivered_so p = delivered end chain (got_so (Ok chain) g) (placed_so (Ok tt) p) refl
