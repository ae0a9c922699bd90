use Rattle.std.proofs.Common.{◌≡◌, suc, map, drop}
use Rattle.sigstore_policy.specs.Policy.{meaning_in}
use Rattle.sigstore_judgement.specs.Grounds.{grounds_by}
use Rattle.sigstore_judgement.specs.Rules.{NoneWants, first_from, answer_by, answers_by}
use Rattle.sigstore_judgement.specs.Sharing.{EachComesToNames}
use Rattle.sigstore_judgement.proofs.Picking.{refused_behind}
use Rattle.sigstore_judgement.proofs.rules.judge_each.Given as goal

-- the answers of all are those of the rules that are left, behind the refusals so far
abbrev pub invariant-rules : goal.invariant-rules
invariant-rules g l =
    EachComesToNames (grounds_by g.C.CryptoProvider g.M.Armor l.grounds) l.bundle l.artifact l.earlier
    × (NoneWants l.refusals
    × (answers_by (grounds_by g.C.CryptoProvider g.M.Armor l.grounds) l.bundle l.artifact (map meaning_in l.rules)
    ≡ refused_behind l.refusals (first_from (suc l.k)
    (map (answer_by (grounds_by g.C.CryptoProvider g.M.Armor l.grounds) l.bundle l.artifact) (map meaning_in (drop l.k l.rules))))))
