use Rattle.std.proofs.Common.{◌≡◌, drop}
use Rattle.std.specs.Prelude.{filter_map}
use Rattle.sigstore_keys.specs.Distinct.{each_once}
use Rattle.sigstore_judgement.specs.Parties.{telling_log}
use Rattle.sigstore_judgement.proofs.parties.add_logs.Given as goal

-- the logs of all are those that were found and those of what is left
abbrev pub invariant-entries : goal.invariant-entries
invariant-entries l =
    each_once l.initial.sources.ids (filter_map telling_log l.entries)
    ≡ each_once l.sources.ids (filter_map telling_log (drop l.entry-index l.entries))
