-- The statement of an envelope as it is told: the type of its predicate, and each subject with its name (in-toto Attestation Framework,
-- Statement v1).
use Rattle.std.specs.Prelude.{ℕ, List, codes, if◌then◌else◌, Option, Some, None, option_and_then, Result, Ok}
use Rattle.serde_json.specs.Data.{Data}
use Rattle.serde_json.specs.Find.{get, as_str}
use Rattle.foundation.specs.Steps.{◌>>=◌}
use Rattle.sigstore_types_parts.specs.Error.{types_of}
use Rattle.sigstore_types_parts.specs.Read as read
use Rattle.sigstore_types_parts.specs.declared.member.TypesMember.TheVariants as m
use Rattle.sigstore_types_parts.specs.declared.error.TypesError.{TypesError}
use Rattle.sigstore_entries.specs.Entry.{json, required, text}
use Rattle.sigstore_envelopes.specs.declared.envelope.DsseEnvelope.{DsseEnvelope}
use Rattle.sigstore_envelopes.specs.Statement.{subject_of}
use Rattle.sigstore_types.specs.declared.content.SignatureContent.{SignatureContent}
use Rattle.sigstore_types.specs.declared.content.SignatureContent.TheVariants.{MessageSignature as OfMessage, DsseEnvelope as OfEnvelope}
use Rattle.sigstore_judgement.specs.Claim.{is_in_toto}
use Rattle.verification_details.specs.declared.statement.NamedSubject.{NamedSubject}
use Rattle.verification_details.specs.declared.statement.ToldStatement.{ToldStatement}

-- The member `name` where it is a text. The judgement reads no names, so one that is no text refuses nothing here either.
abbrev pub name_in : Data → Option (List ℕ)
name_in d = option_and_then as_str (get (codes "name") d)

-- a subject as the judgement reads it, and its name
unfoldable pub named_of : Data → Result NamedSubject TypesError
named_of d = subject_of d >>= λ subject. Ok (record { name = name_in d; subject = subject })

unfoldable pub told_of : Data → Result ToldStatement TypesError
told_of d = do
  predicate_type ← required text m.PredicateType d
  subjects ← required (read.sequence_of types_of named_of) m.Subject d
  Ok (record { predicate_type = predicate_type; subjects = subjects })

unfoldable pub told_of_bytes : List ℕ → Result ToldStatement TypesError
told_of_bytes bytes = json bytes >>= told_of

-- that of an envelope, whose payload of another type is none; the judgement accepts none of those
abbrev pub enveloped_of : DsseEnvelope → Result (Option ToldStatement) TypesError
enveloped_of envelope =
    if is_in_toto envelope.payload_type then (told_of_bytes envelope.payload >>= λ statement. Ok (Some statement)) else Ok None

-- a message signature is over the artifact's digest, and has none
abbrev pub statement_in : SignatureContent → Result (Option ToldStatement) TypesError
statement_in (OfMessage message) = Ok None
statement_in (OfEnvelope envelope) = enveloped_of envelope
