-- What a token says: the response that holds it, its signed data, and the information that is signed (RFC 3161, 2.4.2; RFC 5652, 3 and 5).
use Rattle.std.specs.Prelude.{ℕ, List, Bool, nat_lt, bytes_eq, Option, Some, None, Ok, Err, if◌then◌else◌}
use Rattle.foundation.specs.Steps.{◌>>=◌}
use Rattle.der_grammar.specs.declared.error.DerError.TheVariants.{Tag}
use Rattle.der_grammar.specs.Grammar.{Grammar, read_all}
use Rattle.der_grammar.specs.Outcome.{Outcome}
use Rattle.cms_parts.specs.declared.content_info.ContentInfo.{ContentInfo}
use Rattle.cms_parts.specs.declared.signed_data.EncapsulatedContentInfo.{EncapsulatedContentInfo}
use Rattle.cms_parts.specs.declared.signed_data.SignedData.{SignedData}
use Rattle.cms_parts.specs.ContentInfo.{content_info_type}
use Rattle.cms_parts.specs.Identifiers.{signed_data_oid}
use Rattle.cms_parts.specs.SignedData.{signed_data_type}
use Rattle.sigstore_tsa_parts.specs.declared.content.TokenContent.{TokenContent}
use Rattle.sigstore_tsa_parts.specs.declared.error.Error.TheVariants.{NoTstInfo, Parse}
use Rattle.sigstore_tsa_parts.specs.declared.error.ParseRule.TheVariants as rule
use Rattle.sigstore_tsa_parts.specs.declared.response.TimeStampResp.{TimeStampResp}
use Rattle.sigstore_tsa_parts.specs.declared.tst_info.TstInfo.{TstInfo}
use Rattle.sigstore_tsa_parts.specs.Error.{Judged, or_parse, ok_or_parse}
use Rattle.sigstore_tsa_parts.specs.Identifiers.{tst_info_oid}
use Rattle.sigstore_tsa_parts.specs.Types.{time_stamp_resp_type, tst_info_type}

-- a value of any type, read as one of a type
abbrev pub value_in : {A : Type 0} → Grammar A → ℕ × List ℕ → Outcome A
value_in g value = if g.accepts value.0 then g.value value.0 value.1 else Err Tag

-- ---- the response

-- granted (0), or granted with modifications (1); with any other status there is no token (RFC 3161, 2.4.2)
abbrev pub is_granted : ℕ → Bool
is_granted status = nat_lt status 2

abbrev pub token_of : TimeStampResp → Judged (ℕ × List ℕ)
token_of response =
    if is_granted response.status.status then ok_or_parse rule.NoToken response.time_stamp_token else Err (Parse rule.Status)

-- the ContentInfo that a response holds, or that the bytes are where they are no response
abbrev pub content_info_by : Outcome TimeStampResp → List ℕ → Judged ContentInfo
content_info_by (Ok response) bytes = token_of response >>= λ token. or_parse rule.ContentInfo (value_in content_info_type.grammar token)
content_info_by (Err e) bytes = or_parse rule.ContentInfo (read_all content_info_type.grammar bytes)

unfoldable pub content_info_of : List ℕ → Judged ContentInfo
content_info_of bytes = content_info_by (read_all time_stamp_resp_type.grammar bytes) bytes

-- ---- the signed data

-- content of type signed-data (RFC 5652, 5.1)
unfoldable pub signed_data_of : ContentInfo → Judged SignedData
signed_data_of content =
    if bytes_eq content.content_type signed_data_oid then or_parse rule.SignedData (value_in signed_data_type.grammar content.content)
    else Err (Parse rule.SignedData)

-- what is signed is of type TSTInfo, and it is there; under which tag isn't looked at
abbrev pub octets_of : Option (ℕ × List ℕ) → Judged (List ℕ)
octets_of None = Err NoTstInfo
octets_of (Some content) = Ok content.1

unfoldable pub content_of : EncapsulatedContentInfo → Judged (List ℕ)
content_of encapsulated =
    if bytes_eq encapsulated.econtent_type tst_info_oid then octets_of encapsulated.econtent else Err (Parse rule.ContentType)

unfoldable pub tst_info_of : List ℕ → Judged TstInfo
tst_info_of octets = or_parse rule.TstInfo (read_all tst_info_type.grammar octets)

-- ---- the whole

-- the octets that are signed, and what they say
unfoldable pub said_of : SignedData → Judged (List ℕ × TstInfo)
said_of signed = do
  octets ← content_of signed.encap_content_info
  info ← tst_info_of octets
  Ok (octets, info)

-- and the signers in order
unfoldable pub content_in : SignedData → Judged TokenContent
content_in signed = said_of signed >>= λ said. Ok (record { octets = said.0; info = said.1; signers = signed.signer_infos.0 })

unfoldable pub token_content_of : List ℕ → Judged TokenContent
token_content_of token = do
  content ← content_info_of token
  signed ← signed_data_of content
  content_in signed
