use Rattle.std.proofs.Common.{◌≡◌, drop}
use Rattle.std.specs.List.{list_any}
use Rattle.sigstore_entries.specs.Checkpoint.{signed_data_of}
use Rattle.sigstore_log.specs.Signed.{looked_at}
use Rattle.log_witnesses.specs.Cosigned.{is_cosignature}
use Rattle.log_witnesses.proofs.cosigned.has_cosigned.Given as goal

-- some line is the witness's exactly where one of those that are left is
abbrev pub invariant-lines : goal.invariant-lines
invariant-lines g l =
    list_any (is_cosignature (g.C.CryptoProvider.accepts l.provider) (signed_data_of l.checkpoint) l.witness) (looked_at l.checkpoint.signatures)
    ≡ list_any (is_cosignature (g.C.CryptoProvider.accepts l.provider) (signed_data_of l.checkpoint) l.witness)
    (drop l.line-index (looked_at l.checkpoint.signatures))
