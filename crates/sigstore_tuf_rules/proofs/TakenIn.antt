-- What an update says of a document that is taken in.
use Rattle.std.proofs.Common.{◌≡◌, ℕ, ◌-◌, List, [], ◌∷◌, length, slice_get, Bool, Option, Some, None, Result, Ok, Err, refl, subst, sym, ap, ◌∙◌, arith}
use Rattle.std.specs.Prelude.{⊤}
use Rattle.std.specs.List.{last_or}
use Rattle.jiff_core.specs.declared.timestamp.Timestamp as jiff
use Rattle.sigstore_keys.specs.Crypto.{Crypto}
use Rattle.sigstore_tuf_text.specs.declared.error.Error.{Error}
use Rattle.sigstore_tuf_text.specs.declared.error.Error.TheVariants as tuf
use Rattle.sigstore_tuf_rules.specs.declared.documents.InForce.{InForce}
use Rattle.sigstore_tuf_rules.specs.declared.kind.Kind.{Kind}
use Rattle.sigstore_tuf_rules.specs.declared.kind.Kind.TheVariants.{Root, Timestamp, Snapshot, Targets}
use Rattle.sigstore_tuf_rules.specs.Update.{update_root_of, Updates}
use Rattle.sigstore_tuf_rules.specs.Taking.{there_of, there_unless_equal, update_of, taken_of, unless_equal, judged_of, Takes}

timestamp_taken_by : (u : Result InForce Error) (old new : InForce) (updated : Result ⊤ Error) → Updates u old new updated → Takes (unless_equal u) old new (there_unless_equal updated)
timestamp_taken_by u old new (Ok x) h = ap unless_equal h
timestamp_taken_by u old new (Err (tuf.EqualVersion role version)) h = (ap unless_equal (h.1 (λ e. cc)), h.0)
timestamp_taken_by u old new (Err tuf.NoMemory) h = (h.0, λ other. absurd (other refl))
timestamp_taken_by u old new (Err tuf.Json) h = (h.0, λ other. ap unless_equal (h.1 other))
timestamp_taken_by u old new (Err (tuf.Malformed rule)) h = (h.0, λ other. ap unless_equal (h.1 other))
timestamp_taken_by u old new (Err tuf.NonIntegerNumber) h = (h.0, λ other. ap unless_equal (h.1 other))
timestamp_taken_by u old new (Err (tuf.UnusableKey id)) h = (h.0, λ other. ap unless_equal (h.1 other))
timestamp_taken_by u old new (Err (tuf.UnsupportedScheme keytype scheme)) h = (h.0, λ other. ap unless_equal (h.1 other))
timestamp_taken_by u old new (Err (tuf.UnknownRole name)) h = (h.0, λ other. ap unless_equal (h.1 other))
timestamp_taken_by u old new (Err (tuf.DuplicateSignature role id)) h = (h.0, λ other. ap unless_equal (h.1 other))
timestamp_taken_by u old new (Err (tuf.ThresholdNotMet role found threshold)) h = (h.0, λ other. ap unless_equal (h.1 other))
timestamp_taken_by u old new (Err (tuf.Rollback role trusted number)) h = (h.0, λ other. ap unless_equal (h.1 other))
timestamp_taken_by u old new (Err (tuf.BadRootVersion trusted number)) h = (h.0, λ other. ap unless_equal (h.1 other))
timestamp_taken_by u old new (Err (tuf.Expired role expires)) h = (h.0, λ other. ap unless_equal (h.1 other))
timestamp_taken_by u old new (Err (tuf.IntegrityMismatch difference)) h = (h.0, λ other. ap unless_equal (h.1 other))
timestamp_taken_by u old new (Err tuf.Crypto) h = (h.0, λ other. ap unless_equal (h.1 other))
timestamp_taken_by u old new (Err tuf.NotRefreshed) h = (h.0, λ other. ap unless_equal (h.1 other))
timestamp_taken_by u old new (Err (tuf.TargetNotFound path)) h = (h.0, λ other. ap unless_equal (h.1 other))
timestamp_taken_by u old new (Err (tuf.Transport fault)) h = (h.0, λ other. ap unless_equal (h.1 other))

pub other_taken_by : (u : Result InForce Error) (old new : InForce) (updated : Result ⊤ Error) → Updates u old new updated → Takes (taken_of u) old new (there_of updated)
other_taken_by u old new (Ok x) h = ap taken_of h
other_taken_by u old new (Err e) h = (h.0, λ other. ap taken_of (h.1 other))

pub timestamp_taken : (crypto : Crypto) (old new : InForce) (bytes : List ℕ) (now : Option jiff.Timestamp) (updated : Result ⊤ Error) → Updates (update_of crypto Timestamp old bytes now) old new updated
    → Takes (judged_of crypto Timestamp old bytes now) old new (there_unless_equal updated)
timestamp_taken crypto old new bytes now updated h = timestamp_taken_by (update_of crypto Timestamp old bytes now) old new updated h

pub other_taken : (crypto : Crypto) (k : Kind) (old new : InForce) (bytes : List ℕ) (now : Option jiff.Timestamp) (updated : Result ⊤ Error) → (k ≡ Timestamp → ⊥) → Updates (update_of crypto k old bytes now) old new updated
    → Takes (judged_of crypto k old bytes now) old new (there_of updated)
other_taken crypto (Root number) old new bytes now updated n h = other_taken_by (update_root_of crypto old bytes) old new updated h
other_taken crypto Timestamp old new bytes now updated n h = absurd (n refl)
other_taken crypto Snapshot old new bytes now updated n h = other_taken_by (update_of crypto Snapshot old bytes now) old new updated h
other_taken crypto Targets old new bytes now updated n h = other_taken_by (update_of crypto Targets old bytes now) old new updated h

pub timestamp_takes : (crypto : Crypto) (k : Kind) (old new : InForce) (bytes : List ℕ) (now : Option jiff.Timestamp) (updated : Result ⊤ Error) (result : Result Bool Error) → k ≡ Timestamp
    → Updates (update_of crypto k old bytes now) old new updated → result ≡ there_unless_equal updated → Takes (judged_of crypto k old bytes now) old new result
timestamp_takes crypto k old new bytes now updated result is u r =
    subst (λ k. Takes (judged_of crypto k old bytes now) old new result) (sym is)
    (subst (Takes (judged_of crypto Timestamp old bytes now) old new) (sym r) (timestamp_taken crypto old new bytes now updated (subst (λ k. Updates (update_of crypto k old bytes now) old new updated) is u)))

pub other_takes : (crypto : Crypto) (k : Kind) (old new : InForce) (bytes : List ℕ) (now : Option jiff.Timestamp) (updated : Result ⊤ Error) (result : Result Bool Error) → (k ≡ Timestamp → ⊥)
    → Updates (update_of crypto k old bytes now) old new updated → result ≡ there_of updated → Takes (judged_of crypto k old bytes now) old new result
other_takes crypto k old new bytes now updated result n u r = subst (Takes (judged_of crypto k old bytes now) old new) (sym r) (other_taken crypto k old new bytes now updated n u)

-- the last of a list
pub slice_last : {A : Type 0} (xs : List A) → slice_get xs (length xs - 1) ≡ last_or None xs
slice_last [] = refl
slice_last (x ∷ xs) = let n : length (x ∷ xs) - 1 ≡ length xs = omega arith in ap (slice_get (x ∷ xs)) n ∙ last_from x xs
  where
    last_from : {A : Type 0} (x : A) (xs : List A) → slice_get (x ∷ xs) (length xs) ≡ last_or (Some x) xs
    last_from x [] = refl
    last_from x (y ∷ ys) = last_from y ys
