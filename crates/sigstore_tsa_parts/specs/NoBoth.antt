-- No bytes are both a response and a token, so that the two readings of a bundle's token can't disagree.
use Rattle.std.specs.Prelude.{◌≡◌, ℕ, List, Ok}
use Rattle.der_grammar.specs.Grammar.{read_all}
use Rattle.cms_parts.specs.declared.content_info.ContentInfo.{ContentInfo}
use Rattle.cms_parts.specs.ContentInfo.{content_info_type}
use Rattle.sigstore_tsa_parts.specs.declared.response.TimeStampResp.{TimeStampResp}
use Rattle.sigstore_tsa_parts.specs.Types.{time_stamp_resp_type}

-- a TimeStampResp begins with a SEQUENCE, and a ContentInfo with an OBJECT IDENTIFIER
abbrev pub NoBoth : Type 0
NoBoth = (bytes : List ℕ) (response : TimeStampResp) (content : ContentInfo) → read_all time_stamp_resp_type.grammar bytes ≡ Ok response
    → read_all content_info_type.grammar bytes ≡ Ok content → ⊥
