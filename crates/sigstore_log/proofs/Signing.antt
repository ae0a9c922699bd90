-- A checkpoint passes the test of its signatures exactly where a trusted log signed it.
use Rattle.std.proofs.Common.{◌≡◌, ℕ, List, [], ◌∷◌, Bool, true, false, ◌&&◌, ◌||◌, if◌then◌else◌, refl, sym, ap, ◌∙◌}
use Rattle.std.specs.List.{list_any}
use Rattle.foundation.specs.Results.{and_true}
use Rattle.jiff_core.specs.declared.timestamp.Timestamp.{Timestamp}
use Rattle.sigstore_keys.specs.declared.key.VerificationKey.{VerificationKey}
use Rattle.sigstore_keys.specs.declared.keyring.HeldKey.{HeldKey}
use Rattle.sigstore_keys.specs.Good.{Judge, is_good}
use Rattle.sigstore_keys.specs.Keyring.{Ring, is_meant, keys_meant}
use Rattle.sigstore_entries.specs.declared.checkpoint.Checkpoint.{Checkpoint}
use Rattle.sigstore_entries.specs.declared.signature_line.CheckpointSignature.{CheckpointSignature}
use Rattle.sigstore_entries.specs.Checkpoint.{signed_data_of}
use Rattle.sigstore_log.specs.Signed.{is_vouched, is_signed_by, looked_at}
use Rattle.sigstore_log.specs.Logged.{SignedBy}
use Rattle.sigstore_log.proofs.Among.{among_from_any, any_from_among}

-- ---- the keys that a hint means

-- the hint means the log, and its key passes the test
abbrev passes : (VerificationKey → Bool) → List ℕ → Timestamp → List ℕ × HeldKey → Bool
passes test hint now log = is_meant hint now log && test log.1.key

one_meant : (test : VerificationKey → Bool) (key : VerificationKey) (keys : List VerificationKey) (b : Bool)
    → list_any test (if b then key ∷ keys else keys) ≡ ((b && test key) || list_any test keys)
one_meant test key keys true = refl
one_meant test key keys false = refl

pub any_meant : (test : VerificationKey → Bool) (hint : List ℕ) (now : Timestamp) (logs : Ring) → list_any test (keys_meant hint now logs) ≡ list_any (passes test hint now) logs
any_meant test hint now [] = refl
any_meant test hint now (log ∷ logs) =
    one_meant test log.1.key (keys_meant hint now logs) (is_meant hint now log) ∙ ap (λ b. passes test hint now log || b) (any_meant test hint now logs)

-- ---- both ways

module _ (accepts : Judge) (logs : Ring) (now : Timestamp) (checkpoint : Checkpoint) where
  abbrev Signed : List ℕ
  Signed = signed_data_of checkpoint

  -- the line's signature is good under the key
  abbrev is_good_line : CheckpointSignature → VerificationKey → Bool
  is_good_line line key = is_good accepts key Signed line.signature

  abbrev is_its : CheckpointSignature → List ℕ × HeldKey → Bool
  is_its line = passes (is_good_line line) line.key_id now

  pub signed_means : is_signed_by accepts logs now checkpoint ≡ true → SignedBy accepts logs now checkpoint
  signed_means h =
      let one = among_from_any (is_vouched accepts logs now Signed) (looked_at checkpoint.signatures) h in
      let line = one.0 in
      let two = among_from_any (is_its line) logs (sym (any_meant (is_good_line line) line.key_id now logs) ∙ one.2) in
      let log = two.0 in
      let both = and_true (is_meant line.key_id now log) (is_good_line line log.1.key) two.2 in
      record { line = line; among = one.1; id = log.0; log = log.1; trusted = two.1; meant = both.0; good = both.1 }

  pub signed_passes : SignedBy accepts logs now checkpoint → is_signed_by accepts logs now checkpoint ≡ true
  signed_passes s =
      let its = ap (λ b. b && is_good_line s.line s.log.key) s.meant ∙ s.good in
      let vouched = any_meant (is_good_line s.line) s.line.key_id now logs ∙ any_from_among (is_its s.line) logs (s.id, s.log) s.trusted its in
      any_from_among (is_vouched accepts logs now Signed) (looked_at checkpoint.signatures) s.line s.among vouched
