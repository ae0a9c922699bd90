use Rattle.std.proofs.Common.{◌≡◌}
use Rattle.std.specs.List.Sorted.{IsStrictlySortedBy}
use Rattle.std.specs.Map.{keys_of}
use Rattle.sigstore_types_parts.specs.Entries.{text_cmp}
use Rattle.sigstore_keys.proofs.Rings.{first_passing, passes}
use Rattle.sigstore_keys.proofs.keyring.Keyring.verify_any.Given as goal

-- no key that was passed over accepts
abbrev pub invariant-keys : goal.invariant-keys
invariant-keys g l = record {
  next : (goal.iterator-keys g).can_next l.id-iterator;
  finite : (goal.iterator-keys g).is_finite l.id-iterator;
  sorted : IsStrictlySortedBy text_cmp (keys_of l.self);
  same :
      first_passing (passes (g.C.CryptoProvider.accepts l.provider) l.message l.signature) l.self
      ≡ first_passing (passes (g.C.CryptoProvider.accepts l.provider) l.message l.signature) l.id-iterator;
}
