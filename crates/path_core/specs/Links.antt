-- When one certificate was issued by the next (RFC 5280, 6.1.3).
use Rattle.std.specs.Prelude.{ℕ, List, [], ◌∷◌, Bool, false, ◌&&◌, ◌==◌, bytes_eq, Option, Some, None, Ok, Err, if◌then◌else◌}
use Rattle.x509_views.specs.Certificates.{Certificate, certificate_of}
use Rattle.spki_core.specs.Reading.{Reading}
use Rattle.spki_core.specs.Spki.{Spki, spki_view_of}
use Rattle.sigstore_keys.specs.declared.scheme.SigningScheme.{SigningScheme}
use Rattle.sigstore_keys.specs.Good.{Judge, is_good}
use Rattle.sigstore_keys.specs.Key.{key_with}
use Rattle.sigstore_keys.specs.Pairs.{Pair, known_pairs}

-- the issuer's name is the next one's subject, octet by octet (6.1.3 (a) (4); names that only a comparison by RFC 5280, 7.1,
-- would find equal differ here, which refuses more)
abbrev pub names_meet : Certificate → Certificate → Bool
names_meet c issuer = bytes_eq c.signed.front.issuer issuer.signed.middle.subject

abbrev pub is_pair : List ℕ → List ℕ → Pair → Bool
is_pair key_id signature_id p = bytes_eq p.key_id key_id && bytes_eq p.signature_id signature_id

-- the scheme of the first pair with these identifiers
abbrev pub scheme_among : List ℕ → List ℕ → List Pair → Option SigningScheme
scheme_among key_id signature_id [] = None
scheme_among key_id signature_id (p ∷ pairs) =
    if is_pair key_id signature_id p then Some p.scheme else scheme_among key_id signature_id pairs

-- the scheme of a key's and a signature's identifier
unfoldable pub scheme_of : List ℕ → List ℕ → Option SigningScheme
scheme_of key_id signature_id = scheme_among key_id signature_id known_pairs

abbrev pub good_under : Judge → Option SigningScheme → List ℕ → Certificate → Bool
good_under accepts None key c = false
good_under accepts (Some scheme) key c = is_good accepts (key_with scheme key) c.tbs c.signature

-- the key is whole octets, its sort and the signature's have a scheme, and the signature over the signed part is good under it
unfoldable pub is_signed : Judge → Certificate → Spki → Bool
is_signed accepts c spki = spki.unused_bits == 0 && good_under accepts (scheme_of spki.algorithm.encoded c.algorithm) spki.key c

abbrev pub is_signed_by : Judge → Certificate → Reading Spki → Bool
is_signed_by accepts c (Ok spki) = is_signed accepts c spki
is_signed_by accepts c (Err e) = false

-- the names meet, and the signature is good under the next one's key (6.1.3 (a) (1))
unfoldable pub is_issued : Judge → Certificate → Certificate → Bool
is_issued accepts c issuer = names_meet c issuer && is_signed_by accepts c (spki_view_of issuer.signed.middle.spki)

abbrev pub links_read : Judge → Reading Certificate → Reading Certificate → Bool
links_read accepts (Ok c) (Ok issuer) = is_issued accepts c issuer
links_read accepts (Ok c) (Err e) = false
links_read accepts (Err f) read = false

-- both are read, and the second issued the first
unfoldable pub links : Judge → List ℕ → List ℕ → Bool
links accepts bytes issuer = links_read accepts (certificate_of bytes) (certificate_of issuer)

abbrev pub spki_read : Reading Certificate → List ℕ
spki_read (Ok c) = c.signed.middle.spki
spki_read (Err e) = []

-- the key of a certificate as it is encoded; nothing where the bytes are none
unfoldable pub spki_of : List ℕ → List ℕ
spki_of bytes = spki_read (certificate_of bytes)
