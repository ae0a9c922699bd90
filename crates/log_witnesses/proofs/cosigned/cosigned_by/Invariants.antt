use Rattle.std.proofs.Common.{◌≡◌, [], drop}
use Rattle.std.specs.Prelude.{filter_map}
use Rattle.sigstore_keys.specs.Distinct.{each_once}
use Rattle.log_witnesses.specs.Cosigned.{cosigner}
use Rattle.log_witnesses.proofs.cosigned.cosigned_by.Given as goal

-- the keys of all are those that were found and those of what is left
abbrev pub invariant-witnesses : goal.invariant-witnesses
invariant-witnesses g l =
    each_once [] (filter_map (cosigner (g.C.CryptoProvider.accepts l.provider) l.checkpoint) l.witnesses)
    ≡ each_once l.keys.ids (filter_map (cosigner (g.C.CryptoProvider.accepts l.provider) l.checkpoint) (drop l.witness-index l.witnesses))
