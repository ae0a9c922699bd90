use Rattle.std.proofs.Common.{◌≡◌, take, map, count_by}
use Rattle.sigstore_keys.specs.Crypto.{crypto_by}
use Rattle.sigstore_tuf_parts.specs.Threshold.{is_accepted}
use Rattle.sigstore_tuf_parts.proofs.threshold.count_accepted.Given as goal

-- those that were seen were counted
abbrev pub invariant-loop-signature : goal.invariant-loop-signature
invariant-loop-signature g l =
    let crypto = crypto_by g.C.CryptoProvider g.M.Armor l.provider l.armor in
    l.found ≡ count_by (is_accepted crypto l.keys l.text) (map (λ s. s.now) (take l.signature-index l.signatures))
