-- Where one log is asked for, the number of logs refuses nothing: an entry that is logged stands in one.
use Rattle.std.specs.Prelude.{◌≡◌, List, Bool, Ok}
use Rattle.jiff_core.specs.declared.timestamp.Timestamp.{Timestamp}
use Rattle.sigstore_types.specs.declared.bundle.Bundle.{Bundle}
use Rattle.sigstore_types.specs.Bundle.{entries_in, structure_of}
use Rattle.sigstore_keys.specs.declared.distinct.Threshold.{Threshold}
use Rattle.sigstore_judgement.specs.Entries.{log_judged_of, log_count_of, logs_judged_of}
use Rattle.sigstore_judgement.specs.Grounds.{Grounds}
use Rattle.sigstore_judgement.specs.Signer.{Signer}

-- the bundle has what a policy needs of the log, and each entry is logged; then the number of logs passes
abbrev pub OneLogSuffices : Type 0
OneLogSuffices = (grounds : Grounds) (signer : Signer) (verify : Bool) (asked : Threshold) (bundle : Bundle) (times : List Timestamp)
    → asked.value ≡ 1 → structure_of bundle verify ≡ Ok tt → log_judged_of grounds signer verify (entries_in bundle) ≡ Ok times
    → logs_judged_of verify asked (log_count_of grounds verify (entries_in bundle)) ≡ Ok tt
