-- Whose word the verified times are: that of time-stamp authorities (RFC 3161), and of logs that promised to take an entry (Sigstore protobuf
-- specs, sigstore_rekor.proto, InclusionPromise).
use Rattle.std.specs.Prelude.{ℕ, List, [], length, filter_map, Bool, true, false, Option}
use Rattle.std.specs.Option.{option_map}
use Rattle.sigstore_types.specs.declared.authority.TsaAuthority.{TsaAuthority}
use Rattle.sigstore_types.specs.declared.bundle.Bundle.{Bundle}
use Rattle.sigstore_types.specs.Bundle.{entries_in, tokens_in}
use Rattle.sigstore_keys.specs.Distinct.{each_once}
use Rattle.sigstore_entries.specs.declared.entry.TransparencyLogEntry.{TransparencyLogEntry}
use Rattle.sigstore_log.specs.Promise.{told_time}
use Rattle.sigstore_tsa.specs.Authorities.{token_authority_of}
use Rattle.sigstore_judgement.specs.declared.evidence.Parties.{Parties}
use Rattle.sigstore_judgement.specs.Content.{signature_in}
use Rattle.sigstore_judgement.specs.Grounds.{Grounds}

-- the authority whose a token is, by the certificate that its chain ends in: whoever renews the one below it stays one
abbrev pub authority_of : Grounds → List ℕ → List ℕ → Option (List ℕ)
authority_of grounds signature token =
    option_map (λ (authority : TsaAuthority). authority.root) (token_authority_of grounds.crypto.accepts token signature grounds.material.authorities)

-- those of tokens, each once
abbrev pub authorities_of : Grounds → List ℕ → List (List ℕ) → List (List ℕ)
authorities_of grounds signature tokens = each_once [] (filter_map (authority_of grounds signature) tokens)

-- the log whose promise tells an entry's time
abbrev pub telling_log : TransparencyLogEntry → Option (List ℕ)
telling_log entry = option_map (λ time. entry.log_id.key_id) (told_time entry)

-- those of entries, where what they promise counts
abbrev pub telling_logs : Bool → List TransparencyLogEntry → List (List ℕ)
telling_logs true entries = filter_map telling_log entries
telling_logs false entries = []

-- the authorities are so many, and with the logs so many
abbrev pub parties_with : List (List ℕ) → Bool → List TransparencyLogEntry → Parties
parties_with authorities counts entries =
    record { authorities = length authorities; sources = length (each_once authorities (telling_logs counts entries)) }

-- of a bundle
abbrev pub parties_of : Grounds → Bool → Bundle → Parties
parties_of grounds counts bundle = parties_with (authorities_of grounds (signature_in bundle.content) (tokens_in bundle)) counts (entries_in bundle)
