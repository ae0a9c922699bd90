use Rattle.std.proofs.Common.{drop}
use Rattle.sigstore_types.specs.declared.bundle.Bundle.{Bundle}
use Rattle.sigstore_judgement.specs.declared.rules.ReadArtifact.{ReadArtifact}
use Rattle.sigstore_judgement.specs.Grounds.{Grounds}
use Rattle.sigstore_judgement.specs.Sharing.{EachComesToNames}
use Rattle.sigstore_judgement.proofs.sharing.check_each.Given as goal

-- of those that are left each comes to its names, where each of all does
abbrev pub invariant-earlier : goal.invariant-earlier
invariant-earlier l =
    (grounds : Grounds) (bundle : Bundle) (artifact : ReadArtifact) → EachComesToNames grounds bundle artifact l.earlier
    → EachComesToNames grounds bundle artifact (drop l.rule-index l.earlier)
