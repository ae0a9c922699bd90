use Rattle.std.proofs.Common.{rules, ◌≡◌, true}
use Rattle.der_core.specs.Strings.{is_ia5_string}
use Rattle.certificate_claims.proofs.NameFacts.{ia5_valid}
use Rattle.certificate_claims.proofs.names.ascii_text.Goals as goal

pub unwrap-requires : goal.unwrap-requires
unwrap-requires c =
    let ascii : is_ia5_string c.args.contents.now ≡ true = search rules in
    ia5_valid c.from_utf8.result _ _ c.args.contents.now c.from_utf8.ensures.cases ascii
