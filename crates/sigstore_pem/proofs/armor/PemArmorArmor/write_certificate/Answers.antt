use Rattle.std.proofs.Common.{ap, ◌∙◌, arith}
use Rattle.sigstore_pem.specs.Pem.{content_of, certificate_label}
use Rattle.sigstore_pem.proofs.Readings.{written_read}
use Rattle.sigstore_pem.proofs.armor.PemArmorArmor.write_certificate.Goals as goal

pub returns-clause-read : goal.returns-clause-read
returns-clause-read c =
    ap (content_of certificate_label) (c.from_vec.ensures ∙ c.in_ok-certificate_text.ensures) ∙ written_read c.args.der.now (λ i. let f = c.type_inv.der i in omega arith)
