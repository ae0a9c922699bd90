-- The view of a certificate and the type that owns one accept the same bytes.
use Rattle.std.proofs.Common.{◌≡◌, ℕ, Bool, true, false, cond, eqb, List, length, Ok, Err, refl}
use Rattle.std.specs.Prelude.{is_ok}
use Rattle.foundation.specs.Steps.{◌>>=◌}
use Rattle.der_grammar.specs.declared.error.DerError.TheVariants as der
use Rattle.der_grammar.specs.Outcome.{Outcome}
use Rattle.der_grammar.specs.Tlv.{tlv_at}
use Rattle.der_grammar.specs.Grammar.{read, read_body, read_all, ended}
use Rattle.spki_core.specs.declared.error.X509Error.TheVariants.{Der}
use Rattle.spki_core.specs.Reading.{Reading, of_der, with_tag, contents_at, at_end}
use Rattle.x509_views.specs.Certificates.{Certificate, parts_of, certificate_of}
use Rattle.x509_core.specs.Kinds.{certificate_type}

abbrev judged : Bool → List ℕ → Outcome (List ℕ)
judged b contents = cond b (Ok contents) (Err der.Value)

ends_alike : (b : Bool) (contents : List ℕ) (parts : Certificate) → is_ok (cond b (Ok contents) (Err der.Trailing)) ≡ is_ok (cond b (Ok parts) (Err (Der der.Trailing)))
ends_alike true contents parts = refl
ends_alike false contents parts = refl

parts_alike : (r : Reading Certificate) (contents rest : List ℕ)
    → is_ok ((judged (is_ok r) contents >>= λ a. Ok (a, rest)) >>= ended) ≡ is_ok (r >>= λ parts. at_end parts rest)
parts_alike (Ok parts) contents rest = ends_alike (eqb (length rest) 0) contents parts
parts_alike (Err e) contents rest = refl

abbrev owned : List ℕ → List ℕ → Outcome (List ℕ × List ℕ)
owned contents rest = judged (is_ok (parts_of contents)) contents >>= λ a. Ok (a, rest)

abbrev viewed : List ℕ × List ℕ → Reading Certificate
viewed x = parts_of x.0 >>= λ parts. at_end parts x.1

abbrev one : List ℕ → List ℕ → Reading (List ℕ × List ℕ)
one contents rest = Ok (contents, rest)

tags_alike : (b : Bool) (contents rest : List ℕ)
    → is_ok (cond b (owned contents rest) (Err der.Tag) >>= ended) ≡ is_ok (cond b (one contents rest) (Err (Der der.Tag)) >>= viewed)
tags_alike true contents rest = parts_alike (parts_of contents) contents rest
tags_alike false contents rest = refl

values_alike : (r : Outcome (ℕ × List ℕ × List ℕ))
    → is_ok ((r >>= read_body certificate_type.grammar) >>= ended) ≡ is_ok ((of_der r >>= with_tag 48) >>= viewed)
values_alike (Ok t) = tags_alike (eqb t.0 48) t.1 t.2
values_alike (Err e) = refl

pub alike : (bytes : List ℕ) → is_ok (read_all certificate_type.grammar bytes) ≡ is_ok (certificate_of bytes)
unfolding read_all read certificate_of contents_at
alike bytes = values_alike (tlv_at bytes)
