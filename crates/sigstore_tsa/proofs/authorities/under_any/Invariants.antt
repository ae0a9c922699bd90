use Rattle.std.proofs.Common.{◌≡◌, ◌||◌, drop}
use Rattle.std.specs.List.{list_any}
use Rattle.sigstore_tsa.specs.Authorities.{is_accepted, is_outside, answered, under_any_of, first_accepting}
use Rattle.sigstore_tsa.specs.Stamped.{under_of}
use Rattle.sigstore_tsa.proofs.authorities.under_any.Given as goal

-- the answer by all is that by those that are left, and by whether one before refused by its window alone; and the first that accepts is
-- among those that are left
abbrev pub invariant-authorities : goal.invariant-authorities
invariant-authorities g l = record {
  answer :
      under_any_of (g.C.CryptoProvider.accepts l.provider) l.stamp l.authorities
      ≡ answered l.stamp.time
      (list_any (λ authority. is_accepted (under_of (g.C.CryptoProvider.accepts l.provider) l.stamp authority)) (drop l.authority-index l.authorities))
      (l.is_outside || list_any (λ authority. is_outside (under_of (g.C.CryptoProvider.accepts l.provider) l.stamp authority)) (drop l.authority-index l.authorities));
  first :
      first_accepting (g.C.CryptoProvider.accepts l.provider) l.stamp l.authorities
      ≡ first_accepting (g.C.CryptoProvider.accepts l.provider) l.stamp (drop l.authority-index l.authorities);
}
