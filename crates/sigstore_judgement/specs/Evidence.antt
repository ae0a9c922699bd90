-- What the judgement finds on its way, of which the report is made.
use Rattle.std.specs.Prelude.{ℕ, ◌==◌, List, [], ◌∷◌, ◌++◌, length, Bool}
use Rattle.std.specs.Prelude.{false, ◌||◌, not, is_some, Option, Some, None, if◌then◌else◌}
use Rattle.jiff_core.specs.declared.timestamp.Timestamp.{Timestamp}
use Rattle.sigstore_types_parts.specs.TimeRange.{is_by}
use Rattle.sigstore_policy.specs.declared.certificate.VerificationPolicy.{VerificationPolicy}
use Rattle.sigstore_policy.specs.Certificate.{verifies_chain, verifies_sct}
use Rattle.sigstore_judgement.specs.declared.evidence.Evidence.{Evidence}
use Rattle.sigstore_judgement.specs.declared.evidence.Parties.{Parties}
use Rattle.sigstore_judgement.specs.declared.report.VerificationResult.{VerificationResult}
use Rattle.sigstore_judgement.specs.Signer.{Signer, Managed, Certified}

abbrev pub earlier : Option Timestamp → Timestamp → Timestamp
earlier None time = time
earlier (Some first) time = if is_by first time then first else time

-- the earliest of times, and of one that was seen before them
abbrev pub earliest_from : Option Timestamp → List Timestamp → Option Timestamp
earliest_from first [] = first
earliest_from first (time ∷ times) = earliest_from (Some (earlier first time)) times

-- What was found that vouches for the holder of a key: the earliest time that a log promised, where the log is verified; every time at
-- which the signature was there, by a log's promise, which come first, or by an authority's token; in how many logs the entries stand; and
-- how many parties tell the times.
abbrev pub managed_evidence : List Timestamp → List Timestamp → ℕ → Parties → Evidence
managed_evidence promised stamped logs parties = record {
  integrated_time = earliest_from None promised;
  times = promised ++ stamped;
  sct_count = 0;
  log_count = logs;
  parties = parties;
}

-- The same for the owner of a certificate, whose verified times are these; and how many logs of certificates promised it.
abbrev pub owner_evidence : List Timestamp → ℕ → List Timestamp → ℕ → Parties → Evidence
owner_evidence times scts promised logs parties = record {
  integrated_time = earliest_from None promised;
  times = times;
  sct_count = scts;
  log_count = logs;
  parties = parties;
}

-- ---- what an acceptance shows: what the certificate says, these times, and which checks the policy asked for

-- whether the policy names whom it asks for, or asks what the certificate claims
abbrev pub asks_name : VerificationPolicy → Bool
asks_name policy = (is_some policy.identity || is_some policy.issuer) || not (length policy.claims == 0)

abbrev pub report_of : Signer → Evidence → VerificationResult
report_of (Managed policy) evidence = record {
  certificate = None;
  integrated_time = evidence.integrated_time;
  certificate_verified = false;
  sct_verified = false;
  tlog_verified = policy.verify_tlog;
  identity_policy_checked = false;
  verified_timestamps = evidence.times;
  sct_count = evidence.sct_count;
  log_count = evidence.log_count;
}
report_of (Certified policy info certificate) evidence = record {
  certificate = Some info;
  integrated_time = evidence.integrated_time;
  certificate_verified = verifies_chain policy.certificate;
  sct_verified = verifies_sct policy.certificate;
  tlog_verified = policy.verify_tlog;
  identity_policy_checked = asks_name policy;
  verified_timestamps = evidence.times;
  sct_count = evidence.sct_count;
  log_count = evidence.log_count;
}
