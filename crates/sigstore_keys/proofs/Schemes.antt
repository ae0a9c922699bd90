-- A key that is read under a scheme is of that scheme.
use Rattle.std.proofs.Common.{◌≡◌, ℕ, List, Bool, true, false, if◌then◌else◌, Result, Ok, Err, sym, ap}
use Rattle.foundation.specs.Steps.{◌>>=◌}
use Rattle.foundation.specs.Results.{ok_same, step_ok}
use Rattle.spki_core.specs.declared.error.X509Error.{X509Error}
use Rattle.spki_core.specs.Rsa.{rsa_key_of}
use Rattle.spki_core.specs.Spki.{Spki, spki_view_of}
use Rattle.sigstore_keys.specs.declared.error.Error.{Error}
use Rattle.sigstore_keys.specs.declared.error.Error.TheVariants.{InvalidKey}
use Rattle.sigstore_keys.specs.declared.error.KeyRule.TheVariants as rule
use Rattle.sigstore_keys.specs.declared.key.VerificationKey.{VerificationKey}
use Rattle.sigstore_keys.specs.declared.scheme.SigningScheme.{SigningScheme}
use Rattle.sigstore_keys.specs.declared.scheme.KeyAlgorithm.TheVariants.{Rsa}
use Rattle.sigstore_keys.specs.Key.{key_with, same_sort, of_scheme, key_under, key_in_either, der_key_of}
use Rattle.sigstore_keys.specs.KeyAlgorithm.{algorithm_of_parts}
use Rattle.sigstore_keys.specs.Scheme.{key_algorithm_of}
use Rattle.std.specs.Prelude.{◌&&◌, is_ok}

key_scheme : (scheme : SigningScheme) (raw : List ℕ) (key : VerificationKey) → ◌≡◌ {A = Result VerificationKey Error} (Ok (key_with scheme raw)) (Ok key)
    → key.scheme ≡ scheme
key_scheme scheme raw key h = ap (λ (k : VerificationKey). k.scheme) (sym (ok_same (key_with scheme raw) key h))

under : (scheme : SigningScheme) (spki : Spki) (key : VerificationKey) → key_under scheme spki ≡ Ok key → key.scheme ≡ scheme
unfolding key_under
under scheme spki key h =
    let a = step_ok (algorithm_of_parts spki) (λ algorithm. of_scheme scheme algorithm >>= λ _. Ok (key_with scheme spki.key)) key h in
    let b = step_ok (of_scheme scheme a.0) (λ _. Ok (key_with scheme spki.key)) key a.2 in
    key_scheme scheme spki.key key b.2

by_test : (scheme : SigningScheme) (raw : List ℕ) (t : Bool) (key : VerificationKey)
    → (if t then Ok (key_with scheme raw) else Err (InvalidKey rule.Encoding)) ≡ Ok key → key.scheme ≡ scheme
by_test scheme raw true key h = key_scheme scheme raw key h
by_test scheme raw false key h = cc

either : (scheme : SigningScheme) (der : List ℕ) (r : Result Spki X509Error) (key : VerificationKey) → key_in_either scheme der r ≡ Ok key → key.scheme ≡ scheme
either scheme der (Ok spki) key h = under scheme spki key h
either scheme der (Err e) key h = by_test scheme der (same_sort Rsa (key_algorithm_of scheme) && is_ok (rsa_key_of der)) key h

pub der_scheme : (scheme : SigningScheme) (der : List ℕ) (key : VerificationKey) → der_key_of scheme der ≡ Ok key → key.scheme ≡ scheme
unfolding der_key_of
der_scheme scheme der key h = either scheme der (spki_view_of der) key h
