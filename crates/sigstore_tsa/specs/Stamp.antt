-- What a token says of a signature, whoever signed it: the imprint and the time (RFC 3161, 2.4.2).
use Rattle.std.specs.Prelude.{ℕ, List, pos, bytes_eq, ⊤, Ok, Err, if◌then◌else◌}
use Rattle.foundation.specs.Steps.{◌>>=◌}
use Rattle.jiff_core.specs.declared.timestamp.Timestamp.{Timestamp}
use Rattle.der_grammar.specs.Outcome.{Outcome}
use Rattle.der_core.specs.declared.civil.Civil.{Civil}
use Rattle.der_core.specs.Times.{generalized_of}
use Rattle.sigstore_types_parts.specs.declared.hash_algorithm.HashAlgorithm.{HashAlgorithm}
use Rattle.sigstore_types_parts.specs.Instant.{at_nanosecond}
use Rattle.certificate_fields.specs.Fields.{moment_of}
use Rattle.sigstore_keys.specs.Digest.{digest_by}
use Rattle.path_core.specs.Anchors.{is_since_1970}
use Rattle.sigstore_tsa_parts.specs.declared.content.TokenContent.{TokenContent}
use Rattle.sigstore_tsa_parts.specs.declared.error.Error.TheVariants.{HashMismatch, Parse}
use Rattle.sigstore_tsa_parts.specs.declared.error.ParseRule.{ParseRule}
use Rattle.sigstore_tsa_parts.specs.declared.error.ParseRule.TheVariants as rule
use Rattle.sigstore_tsa_parts.specs.declared.imprint.Asn1MessageImprint.{Asn1MessageImprint}
use Rattle.sigstore_tsa_parts.specs.Content.{token_content_of}
use Rattle.sigstore_tsa_parts.specs.Error.{Judged, ok_or_parse}
use Rattle.sigstore_tsa_parts.specs.Identifiers.{digest_named}
use Rattle.sigstore_tsa.specs.declared.stamp.Stamp.{Stamp}

-- a digest that is known
abbrev pub known : ParseRule → List ℕ → Judged HashAlgorithm
known which oid = ok_or_parse which (digest_named oid)

-- a digest that is told is the one of what is at hand
abbrev pub same_digest : List ℕ → List ℕ → Judged ⊤
same_digest told actual = if bytes_eq told actual then Ok tt else Err (HashMismatch told actual)

-- the imprint is the signature's (else a token of another signature would tell this one's time)
unfoldable pub imprint_judged_of : Asn1MessageImprint → List ℕ → Judged ⊤
imprint_judged_of imprint signature = do
  algorithm ← known rule.ImprintAlgorithm imprint.hash_algorithm.algorithm
  same_digest imprint.hashed_message (digest_by algorithm signature)

-- the moment of a GeneralizedTime's contents
abbrev pub instant_in : Outcome Civil → Timestamp
instant_in (Ok civil) = moment_of civil
instant_in (Err e) = at_nanosecond (pos 0)

unfoldable pub time_of : List ℕ → Timestamp
time_of contents = instant_in (generalized_of contents)

-- a time before 1970 is none of a certificate path's
abbrev pub time_judged : Timestamp → Judged Timestamp
time_judged time = if is_since_1970 time then Ok time else Err (Parse rule.Time)

-- the imprint, then the time
unfoldable pub told_of : TokenContent → List ℕ → Judged Timestamp
told_of content signature = do
  _ ← imprint_judged_of content.info.message_imprint signature
  time_judged (time_of content.info.gen_time)

abbrev pub stamp_at : TokenContent → Timestamp → Stamp
stamp_at content time = record { octets = content.octets; time = time; signers = content.signers }

-- what a token says of a signature, or the first check that fails
unfoldable pub stamp_of : List ℕ → List ℕ → Judged Stamp
stamp_of token signature = do
  content ← token_content_of token
  time ← told_of content signature
  Ok (stamp_at content time)
