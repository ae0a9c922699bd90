use Rattle.std.proofs.Common.{◌≡◌}
use Rattle.std.specs.Prelude.{map}
use Rattle.cms_parts.specs.declared.cert.CertificateChoices.TheVariants.{Certificate}
use Rattle.cms_parts.proofs.certificates_only.choices_of.Given as goal

abbrev pub invariant-certificates : goal.invariant-certificates
invariant-certificates l = l.choices.items ≡ map (λ certificate. Certificate certificate) l.yielded
