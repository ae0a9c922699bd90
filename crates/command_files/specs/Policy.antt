-- A rule of the policy file: the first line says who signs, each line after it asks for something or passes something over.
use Rattle.std.specs.Prelude.{ℕ, ◌==◌, List, [], ◌∷◌, ◌++◌, length, bytes_eq, codes}
use Rattle.std.specs.Prelude.{Bool, true, false, nat_eq, nat_le, ◌&&◌, ◌||◌, not, if◌then◌else◌, ⊤}
use Rattle.std.specs.Prelude.{Option, Some, None, is_some, Result, Ok, Err, ok_or}
use Rattle.std.specs.List.{list_any}
use Rattle.foundation.specs.Steps.{◌>>=◌}
use Rattle.jiff_core.specs.declared.timestamp.Timestamp.{Timestamp}
use Rattle.sigstore_types_parts.specs.Instant.{instant_of}
use Rattle.sigstore_entries.specs.Checkpoint.{shortest_of}
use Rattle.sigstore_keys.specs.declared.distinct.Threshold.{Threshold}
use Rattle.certificate_claims.specs.ClaimNames.{claim_named}
use Rattle.sigstore_policy.specs.Certificate.{without_sct, bare}
use Rattle.sigstore_policy.specs.PublicKey.{keyed}
use Rattle.sigstore_policy.specs.declared.certificate.CertificatePolicy.TheVariants.{Skip}
use Rattle.sigstore_policy.specs.declared.certificate.IdentityMatcher.{IdentityMatcher}
use Rattle.sigstore_policy.specs.declared.certificate.IdentityMatcher.TheVariants.{Exact, Email, Uri, EmailLike, UriLike}
use Rattle.sigstore_policy.specs.declared.certificate.VerificationPolicy.{VerificationPolicy}
use Rattle.sigstore_policy.specs.declared.conditions.SignatureConditions.{SignatureConditions}
use Rattle.sigstore_policy.specs.declared.matcher.ClaimMatcher.{ClaimMatcher}
use Rattle.sigstore_policy.specs.declared.matcher.TextMatcher.{TextMatcher}
use Rattle.sigstore_policy.specs.declared.matcher.TextMatcher.TheVariants as matcher
use Rattle.sigstore_policy.specs.declared.policy.SigningPolicy.{SigningPolicy}
use Rattle.sigstore_policy.specs.declared.policy.SigningPolicy.TheVariants.{Certificate, PublicKey}
use Rattle.sigstore_policy.specs.declared.public_key.PublicKeyVerificationPolicy.{PublicKeyVerificationPolicy}
use Rattle.command_files.specs.Lines.{cut_of}
use Rattle.command_files.specs.Fields.{spelled_of}
use Rattle.command_files.specs.declared.usage_fault.UsageFault.{UsageFault}
use Rattle.command_files.specs.declared.usage_fault.UsageFault.TheVariants.{Usage}
use Rattle.command_files.specs.declared.policy.Draft.{Draft}
use Rattle.command_files.specs.declared.policy.PolicyLine.{PolicyLine}
use Rattle.command_files.specs.declared.policy.PolicyLine.TheVariants.{SkipTlog, SkipChain, SkipSct, Identity, Issuer, Scts, Logs, Claim, Anyone}
use Rattle.command_files.specs.declared.policy.PolicyLine.TheVariants.{Predicate, Times, Tokens, SignedBefore, SignedAfter}

-- ---- a line stands at most once

abbrev pub first_or : List ℕ → Option (List ℕ × List ℕ) → List ℕ
first_or text None = text
first_or text (Some parts) = parts.0

abbrev pub first_word_of : List ℕ → List ℕ
first_word_of text = first_or text (cut_of 32 text)

-- The name of a line by its first word and what is behind it: that word. Of a waiver it is the whole line, of a claim the claim's name, of a
-- moment whether it is the one before or after; and a type of predicate is one, be it a text or a pattern.
abbrev pub named_by : List ℕ → List ℕ → List ℕ → List ℕ
named_by line word text =
    if bytes_eq word (codes "skip") then line
    else if bytes_eq word (codes "claim") then first_word_of text
    else if bytes_eq word (codes "claim-like") then first_word_of text
    else if bytes_eq word (codes "signed") then first_word_of text
    else if bytes_eq word (codes "predicate-like") then codes "predicate"
    else word

abbrev pub named_of : List ℕ → Option (List ℕ × List ℕ) → List ℕ
named_of line None = line
named_of line (Some parts) = named_by line parts.0 parts.1

abbrev pub name_of : List ℕ → List ℕ
name_of line = named_of line (cut_of 32 line)

abbrev pub is_among : List ℕ → List (List ℕ) → Bool
is_among name names = list_any (λ other. bytes_eq name other) names

-- the names that stood, and behind them one that didn't
abbrev pub once : List (List ℕ) → List ℕ → Result (List (List ℕ)) UsageFault
once stood name = if is_among name stood then Err Usage else Ok (stood ++ name ∷ [])

-- ---- what stands behind a line's words

-- a number of logs, or of others who vouch: the shortest decimal of a number from 1 to 255
abbrev pub threshold_in : Option ℕ → Result Threshold UsageFault
threshold_in None = Err Usage
threshold_in (Some number) = if not (nat_eq number 0) && nat_le number 255 then Ok (record { value = number }) else Err Usage

abbrev pub threshold_of : List ℕ → Result Threshold UsageFault
threshold_of text = threshold_in (shortest_of text)

-- the rest of a line, blanks and all; it is not empty
abbrev pub rest_of : List ℕ → Result (List ℕ) UsageFault
rest_of text = if bytes_eq text [] then Err Usage else Ok text

-- a text as an identity of a sort
abbrev pub identity_as : List ℕ → List ℕ → Result IdentityMatcher UsageFault
identity_as sort text =
    if bytes_eq sort (codes "exact") then Ok (Exact text)
    else if bytes_eq sort (codes "email") then Ok (Email text)
    else if bytes_eq sort (codes "uri") then Ok (Uri text)
    else if bytes_eq sort (codes "email-like") then Ok (EmailLike text)
    else if bytes_eq sort (codes "uri-like") then Ok (UriLike text)
    else Err Usage

-- an identity: its sort, a blank, and the rest of the line
abbrev pub identity_of : List ℕ → Result IdentityMatcher UsageFault
identity_of text = do
  parts ← ok_or (cut_of 32 text) Usage
  value ← rest_of parts.1
  identity_as parts.0 value

-- a moment in RFC 3339's form
abbrev pub moment_of : List ℕ → Result Timestamp UsageFault
moment_of text = ok_or (instant_of text) Usage

-- a text that is asked for, or a pattern
abbrev pub exact_of : List ℕ → Result TextMatcher UsageFault
exact_of text = rest_of text >>= λ text. Ok (matcher.Exact text)

abbrev pub like_of : List ℕ → Result TextMatcher UsageFault
like_of text = rest_of text >>= λ pattern. Ok (matcher.Like pattern)

-- a claim: its name, a blank, and the rest of the line, as a pattern or as it is
abbrev pub claim_of : Bool → List ℕ → Result ClaimMatcher UsageFault
claim_of is_pattern text = do
  parts ← ok_or (cut_of 32 text) Usage
  name ← ok_or (claim_named parts.0) Usage
  value ← if is_pattern then like_of parts.1 else exact_of parts.1
  Ok (record { name = name; text = value })

abbrev pub signed_by : List ℕ → List ℕ → Result PolicyLine UsageFault
signed_by word text =
    if bytes_eq word (codes "before") then (moment_of text >>= λ moment. Ok (SignedBefore moment))
    else if bytes_eq word (codes "after") then (moment_of text >>= λ moment. Ok (SignedAfter moment))
    else Err Usage

-- when it has to be signed
abbrev pub signed_of : List ℕ → Result PolicyLine UsageFault
signed_of text = do
  parts ← ok_or (cut_of 32 text) Usage
  signed_by parts.0 parts.1

-- ---- the table of lines

abbrev pub waiver_of : List ℕ → Result PolicyLine UsageFault
waiver_of text =
    if bytes_eq text (codes "tlog") then Ok SkipTlog
    else if bytes_eq text (codes "chain") then Ok SkipChain
    else if bytes_eq text (codes "sct") then Ok SkipSct
    else Err Usage

-- the words of what is asked beside who signed
abbrev pub is_beside : List ℕ → Bool
is_beside word =
    if bytes_eq word (codes "predicate") then true
    else if bytes_eq word (codes "predicate-like") then true
    else if bytes_eq word (codes "times") then true
    else if bytes_eq word (codes "tokens") then true
    else bytes_eq word (codes "signed")

-- what is asked beside who signed
unfoldable pub row_beside_of : List ℕ → List ℕ → Result PolicyLine UsageFault
row_beside_of word text =
    if bytes_eq word (codes "predicate") then (exact_of text >>= λ text. Ok (Predicate text))
    else if bytes_eq word (codes "predicate-like") then (like_of text >>= λ pattern. Ok (Predicate pattern))
    else if bytes_eq word (codes "times") then (threshold_of text >>= λ count. Ok (Times count))
    else if bytes_eq word (codes "tokens") then (threshold_of text >>= λ count. Ok (Tokens count))
    else if bytes_eq word (codes "signed") then signed_of text
    else Err Usage

-- what is asked of whom the certificate names and of the logs, and what is waived
unfoldable pub row_signer_of : List ℕ → List ℕ → Result PolicyLine UsageFault
row_signer_of word text =
    if bytes_eq word (codes "skip") then waiver_of text
    else if bytes_eq word (codes "identity") then (identity_of text >>= λ identity. Ok (Identity identity))
    else if bytes_eq word (codes "issuer") then (rest_of text >>= λ issuer. Ok (Issuer issuer))
    else if bytes_eq word (codes "scts") then (threshold_of text >>= λ count. Ok (Scts count))
    else if bytes_eq word (codes "logs") then (threshold_of text >>= λ count. Ok (Logs count))
    else Err Usage

abbrev pub row_without_claims_of : List ℕ → List ℕ → Result PolicyLine UsageFault
row_without_claims_of word text = if is_beside word then row_beside_of word text else row_signer_of word text

-- a line by its first word and what is behind it
abbrev pub row_of : List ℕ → List ℕ → Result PolicyLine UsageFault
row_of word text =
    if bytes_eq word (codes "claim") then (claim_of false text >>= λ claim. Ok (Claim claim))
    else if bytes_eq word (codes "claim-like") then (claim_of true text >>= λ claim. Ok (Claim claim))
    else row_without_claims_of word text

-- a line behind the first one: a word, a blank and what is asked; or the one word `anyone`
abbrev pub line_in : List ℕ → Option (List ℕ × List ℕ) → Result PolicyLine UsageFault
line_in line None = if bytes_eq line (codes "anyone") then Ok Anyone else Err Usage
line_in line (Some parts) = row_of parts.0 parts.1

abbrev pub line_of : List ℕ → Result PolicyLine UsageFault
line_of line = line_in line (cut_of 32 line)

-- ---- what a line does

-- to what is asked beside who signed
abbrev pub asked_beside : SignatureConditions → PolicyLine → SignatureConditions
asked_beside asked (Predicate text) = record asked { predicate = Some text }
asked_beside asked (Times count) = record asked { times = Some count }
asked_beside asked (Tokens count) = record asked { tokens = Some count }
asked_beside asked (SignedBefore moment) = record asked { signed_before = Some moment }
asked_beside asked (SignedAfter moment) = record asked { signed_after = Some moment }
asked_beside asked SkipTlog = asked
asked_beside asked SkipChain = asked
asked_beside asked SkipSct = asked
asked_beside asked (Identity identity) = asked
asked_beside asked (Issuer issuer) = asked
asked_beside asked (Scts count) = asked
asked_beside asked (Logs count) = asked
asked_beside asked (Claim claim) = asked
asked_beside asked Anyone = asked

-- to a policy for certificates
abbrev pub asked_by : VerificationPolicy → PolicyLine → VerificationPolicy
asked_by policy SkipTlog = record policy { verify_tlog = false }
asked_by policy SkipChain = record policy { certificate = Skip }
asked_by policy SkipSct = record policy { certificate = without_sct policy.certificate }
asked_by policy (Identity identity) = record policy { identity = Some identity }
asked_by policy (Issuer issuer) = record policy { issuer = Some issuer }
asked_by policy (Scts count) = record policy { scts = count }
asked_by policy (Logs count) = record policy { logs = count }
asked_by policy (Claim claim) = record policy { claims = policy.claims ++ claim ∷ [] }
asked_by policy Anyone = record policy { anyone = true }
asked_by policy line = record policy { conditions = asked_beside policy.conditions line }

-- a line about certificates
abbrev pub asks_certificate : PolicyLine → Bool
asks_certificate SkipChain = true
asks_certificate SkipSct = true
asks_certificate (Identity identity) = true
asks_certificate (Issuer issuer) = true
asks_certificate (Scts count) = true
asks_certificate (Claim claim) = true
asks_certificate Anyone = true
asks_certificate SkipTlog = false
asks_certificate (Logs count) = false
asks_certificate (Predicate text) = false
asks_certificate (Times count) = false
asks_certificate (Tokens count) = false
asks_certificate (SignedBefore moment) = false
asks_certificate (SignedAfter moment) = false

abbrev pub asked_of_key : PublicKeyVerificationPolicy → PolicyLine → PublicKeyVerificationPolicy
asked_of_key policy SkipTlog = record policy { verify_tlog = false }
asked_of_key policy (Logs count) = record policy { logs = count }
asked_of_key policy line = record policy { conditions = asked_beside policy.conditions line }

-- to a policy of a key, which takes no line about certificates
abbrev pub keyed_by : PublicKeyVerificationPolicy → PolicyLine → Result PublicKeyVerificationPolicy UsageFault
keyed_by policy line = if asks_certificate line then Err Usage else Ok (asked_of_key policy line)

abbrev pub applied : SigningPolicy → PolicyLine → Result SigningPolicy UsageFault
applied (Certificate policy) line = Ok (Certificate (asked_by policy line))
applied (PublicKey policy) line = keyed_by policy line >>= λ next. Ok (PublicKey next)

-- ---- the whole rule

abbrev pub names_somebody : VerificationPolicy → Bool
names_somebody policy = is_some policy.identity || not (length policy.claims == 0)

-- who says that anyone may have signed doesn't name somebody too
abbrev pub on_purpose : SigningPolicy → Result ⊤ UsageFault
on_purpose (Certificate policy) = if policy.anyone && names_somebody policy then Err Usage else Ok tt
on_purpose (PublicKey policy) = Ok tt

abbrev pub purposeful : SigningPolicy → Result SigningPolicy UsageFault
purposeful policy = on_purpose policy >>= λ _. Ok policy

-- ---- the lines of a rule

-- the line of a key: the word `key`, a blank and the base64 of the key
abbrev pub key_line_of : List ℕ → Result PublicKeyVerificationPolicy UsageFault
key_line_of line = do
  parts ← ok_or (cut_of 32 line) Usage
  if bytes_eq parts.0 (codes "key") then (spelled_of parts.1 >>= λ key. Ok (keyed key)) else Err Usage

-- the first line: `keyless`, by which all is verified but names, or the line of a key
abbrev pub first_line_of : List ℕ → Result SigningPolicy UsageFault
first_line_of line =
    if bytes_eq line (codes "keyless") then Ok (Certificate bare)
    else (key_line_of line >>= λ policy. Ok (PublicKey policy))

abbrev pub begun_of : List ℕ → Result Draft UsageFault
begun_of line = first_line_of line >>= λ policy. Ok (record { policy = policy; stood = [] })

-- a line after the first one
abbrev pub later_line_of : Draft → List ℕ → Result Draft UsageFault
later_line_of draft line = do
  stood ← once draft.stood (name_of line)
  read ← line_of line
  policy ← applied draft.policy read
  Ok (record { policy = policy; stood = stood })
