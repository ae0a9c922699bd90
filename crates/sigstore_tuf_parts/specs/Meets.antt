-- The relation of a document that meets a role (TUF specification, section 5: thresholds).
use Rattle.std.specs.Prelude.{◌≡◌, ℕ, ◌≤◌, List, length, true, false, ◌==◌, bytes_eq, Some, Ok, Contains}
use Rattle.std.specs.List.{AllByRecursion, IsDistinct}
use Rattle.hex.specs.Hex.{decode_of}
use Rattle.sigstore_types_parts.specs.Entries.{at_name}
use Rattle.sigstore_keys.specs.declared.key.VerificationKey.{VerificationKey}
use Rattle.sigstore_keys.specs.Good.{Good}
use Rattle.sigstore_keys.specs.Crypto.{Crypto}
use Rattle.sigstore_tuf_parts.specs.declared.document.Signature.{Signature}
use Rattle.sigstore_tuf_parts.specs.declared.keys.Key.{Key}
use Rattle.sigstore_tuf_parts.specs.declared.keys.RoleKeys.{RoleKeys}
use Rattle.sigstore_tuf_parts.specs.Document.{Document, signatures_in, text_in}
use Rattle.sigstore_tuf_parts.specs.Crypto.{key_of, signed_text}
use Rattle.sigstore_tuf_parts.specs.Threshold.{Keys, is_among, counted_of, ids_of}

-- the id is one that the role names, with a key among the keys, and a signature that is hexadecimal and good under it
pub record Signs {T : Type 0} (crypto : Crypto) (keys : Keys) (role : RoleKeys) (doc : Document T) (id : List ℕ) : Type 0 where
  pub key : Key
  pub verifier : VerificationKey
  pub signature : Signature
  pub raw : List ℕ
  pub named : is_among role.keyids id ≡ true
  pub known : at_name id keys ≡ Some key
  pub usable : key_of crypto.armored crypto.key_in key ≡ Ok verifier
  pub there : Contains (signatures_in doc) signature
  pub its : signature.keyid ≡ id
  pub nonempty : (length signature.sig == 0) ≡ false
  pub hexadecimal : decode_of signature.sig ≡ Ok raw
  pub good : Good crypto.accepts verifier (signed_text verifier.scheme (text_in doc)) raw

-- The threshold is at least 1, no id that the role names has two nonempty signatures, and a set of at least threshold ids signs.
pub record Meets {T : Type 0} (crypto : Crypto) (keys : Keys) (role : RoleKeys) (doc : Document T) : Type 0 where
  pub threshold : 1 ≤ role.threshold
  pub once : IsDistinct bytes_eq (ids_of (counted_of role (signatures_in doc)))
  pub ids : List (List ℕ)
  pub distinct : IsDistinct bytes_eq ids
  pub sign : AllByRecursion (Signs crypto keys role doc) ids
  pub enough : role.threshold ≤ length ids
