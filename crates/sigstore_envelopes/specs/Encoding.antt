-- What the signature of an envelope signs: the pre-authentication encoding (DSSE, protocol.md, "Signature Definition").
use Rattle.std.specs.Prelude.{ℕ, List, ◌++◌, length, codes, decimal}
use Rattle.sigstore_envelopes.specs.declared.envelope.DsseEnvelope.{DsseEnvelope}

-- what stands before a payload of that length: lengths are in octets, as shortest decimals, and one space ends each part
abbrev pub heading_of : List ℕ → ℕ → List ℕ
heading_of type size =
    codes "DSSEv1 " ++ (decimal (length type) ++ (codes " " ++ (type ++ (codes " " ++ (decimal size ++ codes " ")))))

-- the encoding of a type and a payload
abbrev pub pae_of : List ℕ → List ℕ → List ℕ
pae_of type payload = heading_of type (length payload) ++ payload

abbrev pub encoding_of : DsseEnvelope → List ℕ
encoding_of envelope = pae_of envelope.payload_type envelope.payload
