use Rattle.std.proofs.Common.{◌≡◌, drop}
use Rattle.sigstore_judgement.specs.Entries.{behind}
use Rattle.sigstore_judgement.specs.Grounds.{grounds_by}
use Rattle.sigstore_judgement.specs.Verified.{promises_judged_of}
use Rattle.sigstore_judgement.proofs.verified.check_promises.Given as goal

-- judging all is judging those that are left, behind the times that were found
abbrev pub invariant-entries : goal.invariant-entries
invariant-entries g l =
    promises_judged_of (grounds_by g.C.CryptoProvider g.M.Armor l.grounds) l.entries
    ≡ behind l.times (promises_judged_of (grounds_by g.C.CryptoProvider g.M.Armor l.grounds) (drop l.entry-index l.entries))
