use Rattle.std.proofs.Common.{◌≡◌, drop}
use Rattle.sigstore_binding.specs.Rows.{signed_as}
use Rattle.sigstore_binding.specs.Verifier.{readings_by, signatory_as}
use Rattle.sigstore_judgement.specs.Entries.{each_described_of}
use Rattle.sigstore_judgement.proofs.entries.check_each_described.Given as goal

-- all are of the signature where those that are left are
abbrev pub invariant-entries : goal.invariant-entries
invariant-entries g l =
    each_described_of (readings_by g.M.Armor l.armor) (signatory_as l.who) (signed_as l.signed) l.entries
    ≡ each_described_of (readings_by g.M.Armor l.armor) (signatory_as l.who) (signed_as l.signed) (drop l.entry-index l.entries)
