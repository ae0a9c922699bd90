use Rattle.std.proofs.Common.{◌≡◌}
use Rattle.std.specs.List.Sorted.{IsStrictlySortedBy}
use Rattle.std.specs.Map.{keys_of}
use Rattle.sigstore_types_parts.specs.Entries.{text_cmp}
use Rattle.sigstore_keys.specs.Keyring.{least_signer_of}
use Rattle.sigstore_keys.proofs.keyring.Keyring.least_signer_hashed.Given as goal

-- the keys that are left are in order, and who signed least of them did so of all
abbrev pub invariant-keys : goal.invariant-keys
invariant-keys g l = record {
  next : (goal.iterator-keys g).can_next l.id-iterator;
  finite : (goal.iterator-keys g).is_finite l.id-iterator;
  sorted : IsStrictlySortedBy text_cmp (keys_of l.id-iterator);
  same :
      least_signer_of (g.C.CryptoProvider.accepts l.provider) l.hint l.time l.message l.signature l.self
      ≡ least_signer_of (g.C.CryptoProvider.accepts l.provider) l.hint l.time l.message l.signature l.id-iterator;
}
