use Rattle.std.proofs.Common.{◌≡◌, [], drop}
use Rattle.std.specs.Prelude.{filter_map}
use Rattle.sigstore_keys.specs.Distinct.{each_once}
use Rattle.sigstore_certificate.specs.Given.{is_good_in}
use Rattle.sigstore_certificate.specs.Scts.{promising}
use Rattle.sigstore_certificate.proofs.scts.promising_logs.Given as goal

-- the logs of all are those that were found and those of what is left
abbrev pub invariant-scts : goal.invariant-scts
invariant-scts g l =
    each_once [] (filter_map (promising (is_good_in g.C.CryptoProvider.accepts l.given)) l.scts)
    ≡ each_once l.logs.ids (filter_map (promising (is_good_in g.C.CryptoProvider.accepts l.given)) (drop l.sct-index l.scts))
