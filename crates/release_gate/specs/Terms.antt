-- By what the artifacts of a folder are judged.
use Rattle.std.specs.Prelude.{List}
use Rattle.sigstore_policy.specs.Policy.{Meaning}
use Rattle.sigstore_judgement.specs.Grounds.{Grounds}

-- the grounds, and the rules, of which one has to accept
pub record RuleTerms : Type 0 where
  pub grounds : Grounds
  pub rules : List Meaning

abbrev pub rule_terms_over : Grounds → List Meaning → RuleTerms
rule_terms_over grounds rules = record { grounds = grounds; rules = rules }
