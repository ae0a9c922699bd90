-- What a source gives that is read whole, and when it can't be refused.
use Rattle.std.proofs.Common.{◌≡◌, ◌≢◌, inl, inr, ℕ, ◌+◌, ◌≤◌, List, length, ◌++◌, append-nil, length-append, Option, Some, None, Ok, Err, refl, sym, ap, ◌∙◌, subst, arith}
use Rattle.std.specs.Io.KnownBytes.{prepend_known, IsAtEnd}
use Rattle.foundation.specs.Watched.{Watched, Rose}
use Rattle.foundation.specs.Results.{some_same}
use Rattle.command_files.specs.Whole.{ReadsAll, GivesWhole, Unread}
use Rattle.command_files.specs.declared.whole.WholeFault.{WholeFault}
use Rattle.command_files.specs.declared.whole.WholeFault.TheVariants as fault

pub whole_read : (old new : Watched (List ℕ)) (max : ℕ) (bytes : List ℕ) → ReadsAll old new max (Ok bytes) → GivesWhole old new max bytes
whole_read old new max bytes (taken, t) =
    subst (GivesWhole old new max) (sym t.answer.0) (record { given = t.given; ended = t.answer.2; short = t.answer.1 })

pub not_read : (old new : Watched (List ℕ)) (max : ℕ) (f : WholeFault) → f ≢ fault.NoMemory → ReadsAll old new max (Err f) → Unread max old new
not_read old new max fault.Failed n (taken, t) = inl t.answer.1
not_read old new max fault.TooLong n (taken, t) = inr (taken, t.given, t.answer)
not_read old new max fault.NoMemory n r = absurd (n refl)

-- bytes that a source gave up to its end are those that it tells
pub same_whole : (old new : Watched (List ℕ)) (max : ℕ) (bytes read : List ℕ) → old.told ≡ Some bytes → GivesWhole old new max read → read ≡ bytes
same_whole old new max bytes read told w = by_told new.told (sym told ∙ w.given) w.ended
  where
    by_told : (rest : Option (List ℕ)) → Some bytes ≡ prepend_known read rest → IsAtEnd rest → read ≡ bytes
    by_told None e h = cc
    by_told (Some xs) e h = sym (some_same bytes (read ++ xs) e ∙ ap (λ x. read ++ x) h ∙ append-nil read)

-- a source that tells bytes within the limit, and doesn't fail, is read
pub never_unread : (old new : Watched (List ℕ)) (max : ℕ) (bytes : List ℕ) → old.told ≡ Some bytes → (Rose old.faults new.faults → ⊥) → length bytes ≤ max → Unread max old new → ⊥
never_unread old new max bytes told quiet short (inl rose) = quiet rose
never_unread old new max bytes told quiet short (inr (taken, given, long)) = by_told new.told (sym told ∙ given)
  where
    by_told : (rest : Option (List ℕ)) → Some bytes ≡ prepend_known taken rest → ⊥
    by_told None e = cc
    by_told (Some xs) e =
        let whole = ap length (some_same bytes (taken ++ xs) e) in
        let parts = length-append taken xs in
        omega (arith, whole, parts, short, long)
