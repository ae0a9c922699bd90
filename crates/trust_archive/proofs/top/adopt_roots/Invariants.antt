use Rattle.std.proofs.Common.{◌≡◌, ◌+◌, drop}
use Rattle.sigstore_keys.specs.Crypto.{crypto_with}
use Rattle.trust_archive.specs.Judgement.{later_roots_of}
use Rattle.trust_archive.proofs.top.adopt_roots.Given as goal

-- those that are left decide
abbrev pub invariant-loop-root : goal.invariant-loop-root
invariant-loop-root g l =
    (l.position ≡ l.root-index)
    × (later_roots_of (crypto_with g.C.CryptoProvider g.M.Armor l.providers) (l.position + 1) (drop l.root-index l.roots) l.documents
    ≡ later_roots_of (crypto_with g.C.CryptoProvider g.M.Armor l.providers) 1 l.roots l.initial.documents)
