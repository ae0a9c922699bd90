-- The readings of views and of the types that own their bytes, side by side.
use Rattle.std.proofs.Common.{◌≡◌, ◌∙◌, ℕ, ◌%◌, Bool, true, false, cond, eqb, leb, List, [], ◌∷◌, length, Option, Some, None, Ok, Err, refl, sym, ap, subst, inl, inr}
use Rattle.std.specs.Prelude.{◌&&◌, ◌||◌, ◌⊎◌, is_ok}
use mathlib.Core.Bool.{beq}
use Rattle.std.specs.Str.{bytes_eq}
use Rattle.std.proofs.lemmas.Bool.{eqb-true}
use Rattle.foundation.specs.Steps.{◌>>=◌}
use Rattle.der_grammar.specs.declared.error.DerError.TheVariants as der
use Rattle.der_grammar.specs.Outcome.{Outcome}
use Rattle.der_grammar.specs.Booleans.{boolean_type, boolean_of, false_by_default}
use Rattle.der_grammar.specs.Choices.{any, is_tag}
use Rattle.der_grammar.specs.Grammar.{read, read_body, read_option, ended, or_default}
use Rattle.der_grammar.specs.Octets.{octet_string_type}
use Rattle.der_grammar.specs.Tlv.{tlv, tlv_at, length_at, value_at}
use Rattle.der_grammar.specs.TlvLaws.{ok_is, bind_ok, passed, not_refused}
use Rattle.der_core.specs.declared.civil.Civil.{Civil}
use Rattle.der_core.specs.Oid.{oid_type, is_oid}
use Rattle.der_core.specs.Strings.{is_int}
use Rattle.der_core.specs.Times.{utc_of, generalized_of}
use Rattle.spki_core.specs.declared.error.X509Error.TheVariants.{Der, Time as TimeRefusal}
use Rattle.x509_views.specs.Certificates.{serial_at, time_at, time_of, time_or}
use Rattle.x509_views.specs.Extensions.{OneExtension, critical_at, extension_of, extension_at}
use Rattle.spki_core.specs.Reading.{Reading, of_der, with_tag, contents_at, encoded_at, oid_at, int_at, any_at, checked, at_end}
use Rattle.spki_core.specs.Spki.{Algorithm, algorithm_of, algorithm_at}
use Rattle.x509_core.specs.declared.algorithm.AlgorithmIdentifierOwned.{AlgorithmIdentifierOwned}
use Rattle.x509_core.specs.declared.extension.Extension.{Extension}
use Rattle.x509_core.specs.declared.time.Time.{Time}
use Rattle.x509_core.specs.declared.time.Time.TheVariants.{Utc, General}
use Rattle.x509_core.specs.Kinds.{name_type, serial_number_type}
use Rattle.x509_core.specs.Types.{algorithm_type, extension_type, time_type, to_time}
use Rattle.x509_core.specs.Views.{any_seen, algorithm_seen, extension_seen, civil_of}

abbrev given : List ℕ → List ℕ → Reading (List ℕ × List ℕ)
given c rest = Ok (c, rest)

abbrev taken : List ℕ → List ℕ → Outcome (List ℕ × List ℕ)
taken c rest = Ok (c, rest)

-- ---- names

abbrev whole_name : List ℕ × List ℕ → Reading (List ℕ × List ℕ)
whole_name x = Ok (tlv 48 x.0, x.1)

name_tags : (b : Bool) (c rest : List ℕ)
    → (cond b (given c rest) (Err (Der der.Tag)) >>= whole_name) ≡ (of_der (cond b (taken c rest) (Err der.Tag)) >>= whole_name)
name_tags true c rest = refl
name_tags false c rest = refl

name_values : (r : Outcome (ℕ × List ℕ × List ℕ))
    → ((of_der r >>= with_tag 48) >>= whole_name) ≡ (of_der (r >>= read_body name_type.grammar) >>= whole_name)
name_values (Ok t) = name_tags (eqb t.0 48) t.1 t.2
name_values (Err e) = refl

pub name : (bytes : List ℕ) → encoded_at 48 bytes ≡ (of_der (read name_type.grammar bytes) >>= λ x. Ok (tlv 48 x.0, x.1))
unfolding encoded_at contents_at read
name bytes = name_values (tlv_at bytes)

-- ---- contents that pass a test

abbrev judged : Bool → List ℕ → List ℕ → Reading (List ℕ × List ℕ)
judged b c rest = checked b (c, rest)

test_alike : (b : Bool) (c rest : List ℕ)
    → judged b c rest ≡ of_der (cond b (Ok c) (Err der.Value) >>= λ a. taken a rest)
test_alike true c rest = refl
test_alike false c rest = refl

both_alike : (p : Bool) (q : List ℕ → Bool) (c rest : List ℕ)
    → (judged p c rest >>= λ x. checked (q x.0) x) ≡ of_der (cond (p && q c) (Ok c) (Err der.Value) >>= λ a. taken a rest)
both_alike true q c rest = test_alike (q c) c rest
both_alike false q c rest = refl

serial_tags : (b : Bool) (c rest : List ℕ)
    → ((cond b (given c rest) (Err (Der der.Tag)) >>= λ x. checked (is_int x.0) x) >>= λ x. checked (leb (length x.0) 21) x)
    ≡ of_der (cond b (cond (is_int c && leb (length c) 21) (Ok c) (Err der.Value) >>= λ a. taken a rest) (Err der.Tag))
serial_tags true c rest = both_alike (is_int c) (λ z. leb (length z) 21) c rest
serial_tags false c rest = refl

serial_values : (r : Outcome (ℕ × List ℕ × List ℕ))
    → (((of_der r >>= with_tag 2) >>= λ x. checked (is_int x.0) x) >>= λ x. checked (leb (length x.0) 21) x)
    ≡ of_der (r >>= read_body serial_number_type.grammar)
serial_values (Ok t) = serial_tags (eqb t.0 2) t.1 t.2
serial_values (Err e) = refl

pub serial : (bytes : List ℕ) → serial_at bytes ≡ of_der (read serial_number_type.grammar bytes)
unfolding serial_at int_at contents_at read
serial bytes = serial_values (tlv_at bytes)

oid_tags : (b : Bool) (c rest : List ℕ)
    → (cond b (given c rest) (Err (Der der.Tag)) >>= λ x. checked (is_oid x.0) x)
    ≡ of_der (cond b (cond (is_oid c) (Ok c) (Err der.Value) >>= λ a. taken a rest) (Err der.Tag))
oid_tags true c rest = test_alike (is_oid c) c rest
oid_tags false c rest = refl

oid_values : (r : Outcome (ℕ × List ℕ × List ℕ))
    → ((of_der r >>= with_tag 6) >>= λ x. checked (is_oid x.0) x) ≡ of_der (r >>= read_body oid_type.grammar)
oid_values (Ok t) = oid_tags (eqb t.0 6) t.1 t.2
oid_values (Err e) = refl

pub oid : (bytes : List ℕ) → oid_at bytes ≡ of_der (read oid_type.grammar bytes)
unfolding oid_at contents_at read
oid bytes = oid_values (tlv_at bytes)

-- ---- values of any type

value_tag : (tag : ℕ) (n : ℕ × List ℕ) (t : ℕ × List ℕ × List ℕ) → value_at tag n ≡ Ok t → t.0 ≡ tag
unfolding value_at
value_tag tag n t e =
    let p = passed _ der.TooLong _ t e in
    let q = not_refused _ der.Truncated _ t p.1 in
    sym (ap (λ (z : ℕ × List ℕ × List ℕ). z.0) (ok_is _ t q.1))

tlv_tag : (tag : ℕ) (bytes : List ℕ) (t : ℕ × List ℕ × List ℕ) → tlv_at (tag ∷ bytes) ≡ Ok t → t.0 ≡ tag
unfolding tlv_at
tlv_tag tag bytes t e =
    let p = not_refused (eqb (tag % 32) 31) der.Tag (length_at bytes >>= value_at tag) t e in
    let m = bind_ok (length_at bytes) (value_at tag) t p.1 in
    value_tag tag m.0 t m.2

abbrev seen_option : Option (ℕ × List ℕ) × List ℕ → Reading (Option (List ℕ) × List ℕ)
seen_option x = Ok (any_seen x.0, x.1)

abbrev any_taken : ℕ → List ℕ → List ℕ → Outcome ((ℕ × List ℕ) × List ℕ)
any_taken tag c rest = Ok ((tag, c), rest)

any_tags : (b : Bool) (t : ℕ × List ℕ × List ℕ) → b ≡ true
    → ◌≡◌ {A = Reading (Option (List ℕ) × List ℕ)} (Ok (Some (tlv t.0 t.1), t.2))
    (of_der (cond b (any_taken t.0 t.1 t.2) (Err der.Tag) >>= λ x. Ok (Some x.0, x.1)) >>= seen_option)
any_tags true t e = refl
any_tags false t e = absurd cc

any_values : (tag : ℕ) (r : Outcome (ℕ × List ℕ × List ℕ)) → is_tag tag ≡ true → ((t : ℕ × List ℕ × List ℕ) → r ≡ Ok t → t.0 ≡ tag)
    → (of_der r >>= λ t. Ok (Some (tlv t.0 t.1), t.2)) ≡ (of_der ((r >>= read_body any) >>= λ x. Ok (Some x.0, x.1)) >>= seen_option)
any_values tag (Ok t) is same = any_tags (is_tag t.0) t (subst (λ (z : ℕ). is_tag z ≡ true) (sym (same t refl)) is)
any_values tag (Err e) is same = refl

any_first : (b : Bool) (tag : ℕ) (bytes : List ℕ) → is_tag tag ≡ b
    → cond b (of_der (tlv_at (tag ∷ bytes)) >>= λ t. Ok (Some (tlv t.0 t.1), t.2)) (Ok (None, tag ∷ bytes))
    ≡ (of_der (cond b ((tlv_at (tag ∷ bytes) >>= read_body any) >>= λ x. Ok (Some x.0, x.1)) (Ok (None, tag ∷ bytes))) >>= seen_option)
any_first true tag bytes is = any_values tag (tlv_at (tag ∷ bytes)) is (tlv_tag tag bytes)
any_first false tag bytes is = refl

pub any_option : (bytes : List ℕ) → any_at bytes ≡ (of_der (read_option any bytes) >>= λ x. Ok (any_seen x.0, x.1))
unfolding any_at read_option read
any_option [] = refl
any_option (tag ∷ bytes) = any_first (is_tag tag) tag bytes refl

-- ---- algorithms

abbrev seen_algorithm : Algorithm × List ℕ → Reading ((List ℕ × Option (List ℕ)) × List ℕ)
seen_algorithm x = Ok ((x.0.oid, x.0.parameters), x.1)

abbrev seen_owned : AlgorithmIdentifierOwned × List ℕ → Reading ((List ℕ × Option (List ℕ)) × List ℕ)
seen_owned x = Ok (algorithm_seen x.0, x.1)

abbrev algorithm_owned : List ℕ → Option (ℕ × List ℕ) → AlgorithmIdentifierOwned
algorithm_owned oid parameters = record { oid = oid; parameters = parameters }

abbrev algorithm_parts : List ℕ → List ℕ → Option (List ℕ) → Algorithm
algorithm_parts c oid parameters = record { encoded = c; oid = oid; parameters = parameters }

algorithm_ends : (b : Bool) (c oid rest : List ℕ) (parameters : Option (ℕ × List ℕ))
    → ((cond b (Ok (algorithm_parts c oid (any_seen parameters))) (Err (Der der.Trailing)) >>= λ a. Ok (a, rest)) >>= seen_algorithm)
    ≡ (of_der (cond b (Ok (algorithm_owned oid parameters)) (Err der.Trailing) >>= λ a. Ok (a, rest)) >>= seen_owned)
algorithm_ends true c oid rest parameters = refl
algorithm_ends false c oid rest parameters = refl

algorithm_options : (c oid rest : List ℕ) (r : Outcome (Option (ℕ × List ℕ) × List ℕ))
    → ((((of_der r >>= seen_option) >>= λ p. at_end (algorithm_parts c oid p.0) p.1) >>= λ a. Ok (a, rest)) >>= seen_algorithm)
    ≡ (of_der (((r >>= λ y. Ok (algorithm_owned oid y.0, y.1)) >>= ended) >>= λ a. Ok (a, rest)) >>= seen_owned)
algorithm_options c oid rest (Ok y) = algorithm_ends (eqb (length y.1) 0) c oid rest y.0
algorithm_options c oid rest (Err e) = refl

abbrev pair : List ℕ → Option (ℕ × List ℕ) → List ℕ → Outcome ((List ℕ × Option (ℕ × List ℕ)) × List ℕ)
pair o parameters rest = Ok ((o, parameters), rest)

abbrev made : List ℕ → Option (ℕ × List ℕ) → List ℕ → Outcome (AlgorithmIdentifierOwned × List ℕ)
made o parameters rest = Ok (algorithm_owned o parameters, rest)

algorithm_join : (o : List ℕ) (r : Outcome (Option (ℕ × List ℕ) × List ℕ))
    → ((r >>= λ y. pair o y.0 y.1) >>= λ x. made x.0.0 x.0.1 x.1) ≡ (r >>= λ y. made o y.0 y.1)
algorithm_join o (Ok y) = refl
algorithm_join o (Err e) = refl

algorithm_inner : (c rest : List ℕ) (r : Outcome (List ℕ × List ℕ))
    → (((of_der r >>= λ x. any_at x.1 >>= λ p. at_end (algorithm_parts c x.0 p.0) p.1) >>= λ a. Ok (a, rest)) >>= seen_algorithm)
    ≡ (of_der ((((r >>= λ x. read_option any x.1 >>= λ y. pair x.0 y.0 y.1) >>= λ x. made x.0.0 x.0.1 x.1) >>= ended)
    >>= λ a. Ok (a, rest)) >>= seen_owned)
algorithm_inner c rest (Ok x) = rw (any_option x.1, algorithm_join x.0 (read_option any x.1)) (algorithm_options c x.0 rest (read_option any x.1))
algorithm_inner c rest (Err e) = refl

abbrev owned_contents : List ℕ → Outcome AlgorithmIdentifierOwned
owned_contents c = algorithm_type.grammar.value 48 c

algorithm_contents : (c rest : List ℕ)
    → ((algorithm_of c >>= λ a. Ok (a, rest)) >>= seen_algorithm) ≡ (of_der (owned_contents c >>= λ a. Ok (a, rest)) >>= seen_owned)
unfolding algorithm_of
algorithm_contents c rest = rw (oid c) (algorithm_inner c rest (read oid_type.grammar c))

algorithm_tags : (b : Bool) (c rest : List ℕ)
    → ((cond b (given c rest) (Err (Der der.Tag)) >>= λ x. algorithm_of x.0 >>= λ a. Ok (a, x.1)) >>= seen_algorithm)
    ≡ (of_der (cond b (owned_contents c >>= λ a. Ok (a, rest)) (Err der.Tag)) >>= seen_owned)
algorithm_tags true c rest = algorithm_contents c rest
algorithm_tags false c rest = refl

algorithm_values : (r : Outcome (ℕ × List ℕ × List ℕ))
    → (((of_der r >>= with_tag 48) >>= λ x. algorithm_of x.0 >>= λ a. Ok (a, x.1)) >>= seen_algorithm)
    ≡ (of_der (r >>= read_body algorithm_type.grammar) >>= seen_owned)
algorithm_values (Ok t) = algorithm_tags (eqb t.0 48) t.1 t.2
algorithm_values (Err e) = refl

pub algorithm : (bytes : List ℕ) → (algorithm_at bytes >>= seen_algorithm) ≡ (of_der (read algorithm_type.grammar bytes) >>= seen_owned)
unfolding algorithm_at contents_at read
algorithm bytes = algorithm_values (tlv_at bytes)

-- ---- extensions

octets_tags : (b : Bool) (c rest : List ℕ)
    → cond b (given c rest) (Err (Der der.Tag)) ≡ of_der (cond b (taken c rest) (Err der.Tag))
octets_tags true c rest = refl
octets_tags false c rest = refl

octets_values : (r : Outcome (ℕ × List ℕ × List ℕ)) → (of_der r >>= with_tag 4) ≡ of_der (r >>= read_body octet_string_type.grammar)
octets_values (Ok t) = octets_tags (eqb t.0 4) t.1 t.2
octets_values (Err e) = refl

octets : (bytes : List ℕ) → contents_at 4 bytes ≡ of_der (read octet_string_type.grammar bytes)
unfolding contents_at read
octets bytes = octets_values (tlv_at bytes)

abbrev critical_given : Bool → List ℕ → Reading (Bool × List ℕ)
critical_given b rest = checked b (true, rest)

abbrev some_taken : Bool × List ℕ → Outcome (Option Bool × List ℕ)
some_taken x = Ok (Some x.0, x.1)

abbrev flag : Bool → List ℕ → Outcome (Bool × List ℕ)
flag b rest = Ok (b, rest)

abbrev defaulted_flag : Option Bool × List ℕ → Outcome (Bool × List ℕ)
defaulted_flag x = or_default (beq false) false x.0 >>= λ b. flag b x.1

no_more : (p : Bool) (rest : List ℕ) → critical_given (p && false) rest ≡ Err (Der der.Value)
no_more true rest = refl
no_more false rest = refl

other_octet : (q : Bool) (rest : List ℕ)
    → critical_given (q && true) rest ≡ of_der (((cond q (Ok true) (Err der.Value) >>= λ a. flag a rest) >>= some_taken) >>= defaulted_flag)
other_octet true rest = refl
other_octet false rest = refl

one_octet : (b : ℕ) (p : Bool) (rest : List ℕ) → eqb b 0 ≡ p
    → critical_given (eqb b 255 && true) rest
    ≡ of_der (((cond p (Ok false) (cond (eqb b 255) (Ok true) (Err der.Value)) >>= λ a. flag a rest) >>= some_taken) >>= defaulted_flag)
one_octet b true rest e = subst (λ (z : ℕ). critical_given (eqb z 255 && true) rest ≡ Err (Der der.Value)) (sym (eqb-true b 0 e)) refl
one_octet b false rest e = other_octet (eqb b 255) rest

critical_contents : (c rest : List ℕ)
    → critical_given (bytes_eq c (255 ∷ [])) rest ≡ of_der (((boolean_of c >>= λ a. flag a rest) >>= some_taken) >>= defaulted_flag)
critical_contents [] rest = refl
critical_contents (b ∷ []) rest = one_octet b (eqb b 0) rest refl
critical_contents (b ∷ d ∷ more) rest = no_more (eqb b 255) rest

critical_tags : (p : Bool) (c rest : List ℕ)
    → (cond p (given c rest) (Err (Der der.Tag)) >>= λ x. critical_given (bytes_eq x.0 (255 ∷ [])) x.1)
    ≡ of_der ((cond p (boolean_of c >>= λ a. flag a rest) (Err der.Tag) >>= some_taken) >>= defaulted_flag)
critical_tags true c rest = critical_contents c rest
critical_tags false c rest = refl

critical_values : (r : Outcome (ℕ × List ℕ × List ℕ))
    → ((of_der r >>= with_tag 1) >>= λ x. critical_given (bytes_eq x.0 (255 ∷ [])) x.1)
    ≡ of_der (((r >>= read_body boolean_type.grammar) >>= some_taken) >>= defaulted_flag)
critical_values (Ok t) = critical_tags (eqb t.0 1) t.1 t.2
critical_values (Err e) = refl

critical_first : (p : Bool) (t : ℕ) (bytes : List ℕ)
    → cond p ((of_der (tlv_at (t ∷ bytes)) >>= with_tag 1) >>= λ x. critical_given (bytes_eq x.0 (255 ∷ [])) x.1) (Ok (false, t ∷ bytes))
    ≡ of_der (cond p ((tlv_at (t ∷ bytes) >>= read_body boolean_type.grammar) >>= some_taken) (Ok (None, t ∷ bytes)) >>= defaulted_flag)
critical_first true t bytes = critical_values (tlv_at (t ∷ bytes))
critical_first false t bytes = refl

critical : (bytes : List ℕ) → critical_at bytes ≡ of_der (false_by_default.fields.value_at bytes)
unfolding critical_at contents_at read_option read
critical [] = refl
critical (t ∷ bytes) = critical_first (eqb t 1) t bytes

abbrev seen_extension : Extension × List ℕ → Reading (OneExtension × List ℕ)
seen_extension x = Ok (extension_seen x.0, x.1)

abbrev extension_owned : List ℕ → Bool → List ℕ → Extension
extension_owned o critical value = record { oid = o; critical = critical; value = value }

abbrev extension_parts : List ℕ → Bool → List ℕ → OneExtension
extension_parts o critical value = record { oid = o; critical = critical; value = value }

abbrev extension_made : List ℕ → Bool → List ℕ → List ℕ → Outcome (Extension × List ℕ)
extension_made o critical value rest = Ok (extension_owned o critical value, rest)

extension_ends : (b : Bool) (o value rest : List ℕ) (critical : Bool)
    → (cond b (Ok (extension_parts o critical value)) (Err (Der der.Trailing)) >>= λ a. Ok (a, rest))
    ≡ (of_der (cond b (Ok (extension_owned o critical value)) (Err der.Trailing) >>= λ a. Ok (a, rest)) >>= seen_extension)
extension_ends true o value rest critical = refl
extension_ends false o value rest critical = refl

extension_octets : (o rest : List ℕ) (critical : Bool) (r : Outcome (List ℕ × List ℕ))
    → ((of_der r >>= λ v. at_end (extension_parts o critical v.0) v.1) >>= λ a. Ok (a, rest))
    ≡ (of_der (((r >>= λ v. extension_made o critical v.0 v.1) >>= ended) >>= λ a. Ok (a, rest)) >>= seen_extension)
extension_octets o rest critical (Ok v) = extension_ends (eqb (length v.1) 0) o v.0 rest critical
extension_octets o rest critical (Err e) = refl

abbrev flagged : Bool → List ℕ → List ℕ → Outcome ((Bool × List ℕ) × List ℕ)
flagged critical value rest = Ok ((critical, value), rest)

abbrev named : List ℕ → Bool × List ℕ → List ℕ → Outcome ((List ℕ × (Bool × List ℕ)) × List ℕ)
named o x rest = Ok ((o, x), rest)

extension_join : (o : List ℕ) (critical : Bool) (r : Outcome (List ℕ × List ℕ))
    → (((r >>= λ v. flagged critical v.0 v.1) >>= λ w. named o w.0 w.1) >>= λ x. extension_made x.0.0 x.0.1.0 x.0.1.1 x.1)
    ≡ (r >>= λ v. extension_made o critical v.0 v.1)
extension_join o critical (Ok v) = refl
extension_join o critical (Err e) = refl

extension_flags : (o rest : List ℕ) (r : Outcome (Bool × List ℕ))
    → ((of_der r >>= λ y. contents_at 4 y.1 >>= λ v. at_end (extension_parts o y.0 v.0) v.1) >>= λ a. Ok (a, rest))
    ≡ (of_der (((((r >>= λ y. read octet_string_type.grammar y.1 >>= λ v. flagged y.0 v.0 v.1) >>= λ w. named o w.0 w.1)
    >>= λ x. extension_made x.0.0 x.0.1.0 x.0.1.1 x.1) >>= ended) >>= λ a. Ok (a, rest)) >>= seen_extension)
extension_flags o rest (Ok y) =
    rw (octets y.1, extension_join o y.0 (read octet_string_type.grammar y.1))
    (extension_octets o rest y.0 (read octet_string_type.grammar y.1))
extension_flags o rest (Err e) = refl

extension_inner : (rest : List ℕ) (r : Outcome (List ℕ × List ℕ))
    → ((of_der r >>= λ x. critical_at x.1 >>= λ y. contents_at 4 y.1 >>= λ v. at_end (extension_parts x.0 y.0 v.0) v.1) >>= λ a. Ok (a, rest))
    ≡ (of_der ((((r >>= λ x. (false_by_default.fields.value_at x.1 >>= λ y. read octet_string_type.grammar y.1 >>= λ v. flagged y.0 v.0 v.1)
    >>= λ w. named x.0 w.0 w.1) >>= λ x. extension_made x.0.0 x.0.1.0 x.0.1.1 x.1) >>= ended) >>= λ a. Ok (a, rest)) >>= seen_extension)
extension_inner rest (Ok x) = rw (critical x.1) (extension_flags x.0 rest (false_by_default.fields.value_at x.1))
extension_inner rest (Err e) = refl

abbrev owned_extension : List ℕ → Outcome Extension
owned_extension c = extension_type.grammar.value 48 c

extension_contents : (c rest : List ℕ)
    → (extension_of c >>= λ a. Ok (a, rest)) ≡ (of_der (owned_extension c >>= λ a. Ok (a, rest)) >>= seen_extension)
unfolding extension_of
extension_contents c rest = rw (oid c) (extension_inner rest (read oid_type.grammar c))

extension_tags : (b : Bool) (c rest : List ℕ)
    → (cond b (given c rest) (Err (Der der.Tag)) >>= λ x. extension_of x.0 >>= λ a. Ok (a, x.1))
    ≡ (of_der (cond b (owned_extension c >>= λ a. Ok (a, rest)) (Err der.Tag)) >>= seen_extension)
extension_tags true c rest = extension_contents c rest
extension_tags false c rest = refl

extension_values : (r : Outcome (ℕ × List ℕ × List ℕ))
    → ((of_der r >>= with_tag 48) >>= λ x. extension_of x.0 >>= λ a. Ok (a, x.1))
    ≡ (of_der (r >>= read_body extension_type.grammar) >>= seen_extension)
extension_values (Ok t) = extension_tags (eqb t.0 48) t.1 t.2
extension_values (Err e) = refl

pub extension : (bytes : List ℕ) → extension_at bytes ≡ (of_der (read extension_type.grammar bytes) >>= seen_extension)
unfolding extension_at contents_at read
extension bytes = extension_values (tlv_at bytes)

-- ---- times

abbrev Tells : List ℕ → Time → List ℕ → Reading (Civil × List ℕ) → Type 0
Tells c t rest view = (d : Civil) × (civil_of t ≡ Ok d) × (view ≡ Ok (d, rest))

abbrev sided : List ℕ ⊎ List ℕ → Outcome (List ℕ ⊎ List ℕ)
sided x = Ok x

abbrev given_time : Civil → List ℕ → Reading (Civil × List ℕ)
given_time d rest = Ok (d, rest)

abbrev timed : Time → List ℕ → Outcome (Time × List ℕ)
timed t rest = Ok (t, rest)

time_tells : (kind : List ℕ → Time) (c r : List ℕ) (u : Outcome Civil) (t : Time) (rest : List ℕ) → civil_of (kind c) ≡ u
    → (cond (is_ok u) (Ok c) (Err der.Value) >>= λ a. timed (kind a) r) ≡ Ok (t, rest)
    → Tells c t rest (time_or u >>= λ d. Ok (d, r))
time_tells kind c r (Ok d) t rest is e =
    let same = ok_is (kind c, r) (t, rest) e in (
      d,
      subst (λ (z : Time). civil_of z ≡ Ok d) (ap (λ (z : Time × List ℕ). z.0) same) is,
      ap (λ (z : List ℕ). given_time d z) (ap (λ (z : Time × List ℕ). z.1) same),
    )
time_tells kind c r (Err d) t rest is e = absurd cc

time_join : (kind : List ℕ → Time) (b : Bool) (c r : List ℕ) (side : List ℕ → List ℕ ⊎ List ℕ) → ((a : List ℕ) → to_time (side a) ≡ kind a)
    → (((cond b (Ok c) (Err der.Value) >>= λ a. sided (side a)) >>= λ x. Ok (to_time x)) >>= λ t. timed t r)
    ≡ (cond b (Ok c) (Err der.Value) >>= λ a. timed (kind a) r)
time_join kind true c r side same = ap (λ (z : Time). timed z r) (same c)
time_join kind false c r side same = refl

time_tags : (p q : Bool) (c r : List ℕ) (t : Time) (rest : List ℕ)
    → cond (p || q) ((cond p (cond (is_ok (utc_of c)) (Ok c) (Err der.Value) >>= λ a. sided (inl a))
    (cond (is_ok (generalized_of c)) (Ok c) (Err der.Value) >>= λ a. sided (inr a)) >>= λ x. Ok (to_time x)) >>= λ t. timed t r) (Err der.Tag)
    ≡ Ok (t, rest)
    → Tells c t rest (cond p (time_or (utc_of c)) (cond q (time_or (generalized_of c)) (Err TimeRefusal)) >>= λ d. Ok (d, r))
time_tags true q c r t rest e =
    time_tells Utc c r (utc_of c) t rest refl (sym (time_join Utc (is_ok (utc_of c)) c r inl (λ a. refl)) ∙ e)
time_tags false true c r t rest e =
    time_tells General c r (generalized_of c) t rest refl (sym (time_join General (is_ok (generalized_of c)) c r inr (λ a. refl)) ∙ e)
time_tags false false c r t rest e = absurd cc

time_values : (r : Outcome (ℕ × List ℕ × List ℕ)) (t : Time) (rest : List ℕ) → (r >>= read_body time_type.grammar) ≡ Ok (t, rest)
    → (d : Civil) × (civil_of t ≡ Ok d) × ((of_der r >>= λ x. time_of x.0 x.1 >>= λ d. given_time d x.2) ≡ Ok (d, rest))
time_values (Ok x) t rest e = time_tags (eqb x.0 23) (eqb x.0 24) x.1 x.2 t rest e
time_values (Err d) t rest e = absurd cc

pub time : (bytes : List ℕ) (t : Time) (rest : List ℕ) → read time_type.grammar bytes ≡ Ok (t, rest)
    → (d : Civil) × (civil_of t ≡ Ok d) × (time_at bytes ≡ Ok (d, rest))
unfolding time_at read
time bytes t rest e = time_values (tlv_at bytes) t rest e
