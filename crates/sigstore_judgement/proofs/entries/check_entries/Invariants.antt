use Rattle.std.proofs.Common.{◌≡◌, drop}
use Rattle.std.specs.Prelude.{filter_map}
use Rattle.sigstore_keys.specs.Distinct.{each_once}
use Rattle.sigstore_log.specs.Entry.{log_of}
use Rattle.sigstore_judgement.specs.Entries.{behind, entries_judged_of}
use Rattle.sigstore_judgement.specs.Grounds.{grounds_by}
use Rattle.sigstore_judgement.specs.Signer.{signer_as}
use Rattle.sigstore_judgement.proofs.entries.check_entries.Given as goal

-- judging all is judging those that are left, behind the times and the logs that were found
abbrev pub invariant-entries : goal.invariant-entries
invariant-entries g l = record {
  times :
      behind l.initial.times (entries_judged_of (grounds_by g.C.CryptoProvider g.M.Armor l.grounds) (signer_as l.signer) l.entries)
      ≡ behind l.times (entries_judged_of (grounds_by g.C.CryptoProvider g.M.Armor l.grounds) (signer_as l.signer) (drop l.entry-index l.entries));
  logs :
      each_once l.initial.logs.ids (filter_map (log_of (g.C.CryptoProvider.accepts l.grounds.provider.now) l.grounds.material.now.logs l.grounds.moment) l.entries)
      ≡ each_once l.logs.ids (filter_map (log_of (g.C.CryptoProvider.accepts l.grounds.provider.now) l.grounds.material.now.logs l.grounds.moment) (drop l.entry-index l.entries));
}
