-- What a client comes to: the chains of the targets that were put in their places, and why the next one wasn't.
use Rattle.std.specs.Prelude.{◌≡◌, ℕ, List, [], Some, Ok, Err}
use Rattle.jiff_core.specs.declared.timestamp.Timestamp as jiff
use Rattle.sigstore_keys.specs.Crypto.{Crypto}
use Rattle.sigstore_tuf_text.specs.declared.error.Error.{Error}
use Rattle.sigstore_tuf_rules.specs.Config.{default_config}
use Rattle.sigstore_tuf_rules.specs.declared.documents.InForce.{InForce}
use Rattle.sigstore_tuf_runs.specs.State.{session_of}
use Rattle.command_download.specs.declared.chains.Chains.{Chains}
use Rattle.command_download.specs.declared.chains.DownloadRequest.{DownloadRequest}
use Rattle.command_download.specs.declared.layout.Download.{Download}
use Rattle.command_download.specs.Client.{Anchor, anchor_by, Outside, fault_of, Refreshes, DeliversEach}

-- from what documents are trusted: who decides signatures, the client's limits, the moment, and the root
abbrev pub anchor_with : Crypto → List ℕ → jiff.Timestamp → Anchor
anchor_with crypto root now = anchor_by (session_of crypto default_config now) root

-- as is asked
abbrev pub anchor_under : Crypto → DownloadRequest → Anchor
anchor_under crypto request = anchor_with crypto request.root.now request.moment

-- The documents are brought up to date once, and then the targets are had in turn.
pub data Comes (anchor : Anchor) (downloads : List Download) (before after : Outside) (had : Chains) : Type 0 where
  unrefreshed : (e : Error) → Refreshes anchor before after (Err e) → had.chains ≡ [] → had.stop ≡ Some (fault_of e)
      → Comes anchor downloads before after had
  came : (mid : Outside) (set : InForce) → Refreshes anchor before mid (Ok set)
      → DeliversEach anchor.session set downloads mid after had.chains had.stop → Comes anchor downloads before after had
