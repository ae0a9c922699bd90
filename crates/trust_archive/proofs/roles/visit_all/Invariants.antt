use Rattle.std.proofs.Common.{◌≡◌, drop}
use Rattle.sigstore_keys.specs.Crypto.{crypto_with}
use Rattle.trust_archive.specs.Judgement.{roles_of}
use Rattle.trust_archive.specs.Searching.{going_of}
use Rattle.trust_archive.proofs.roles.visit_all.Given as goal

-- those that are left decide
abbrev pub invariant-loop-role : goal.invariant-loop-role
invariant-loop-role g l =
    (l.position ≡ l.role-index)
    × (roles_of (crypto_with g.C.CryptoProvider g.M.Armor l.judging.providers.now) l.judging.moment l.judging.path.now l.position (drop l.role-index l.roles) (going_of l.documents l.search)
    ≡ roles_of (crypto_with g.C.CryptoProvider g.M.Armor l.judging.providers.now) l.judging.moment l.judging.path.now 0 l.roles (going_of l.initial.documents l.initial.search))
