-- Times that are gathered one by one are those of the whole judgement.
use Rattle.std.proofs.Common.{◌≡◌, ℕ, List, [], ◌∷◌, ◌++◌, Option, Some, None, Result, Ok, Err, refl, sym, ap, append_assoc, append-nil}
use Rattle.std.specs.Prelude.{filter_map}
use Rattle.std.specs.List.{cons_option}
use Rattle.jiff_core.specs.declared.timestamp.Timestamp.{Timestamp}
use Rattle.foundation.specs.Steps.{◌>>=◌}
use Rattle.sigstore_keys.specs.Distinct.{with_id, each_once}
use Rattle.sigstore_judgement.specs.declared.error.Error.{Error}
use Rattle.sigstore_judgement.specs.Entries.{with_time, behind}

pub behind_one : (before : List Timestamp) (time : Option Timestamp) (judged : Result (List Timestamp) Error)
    → behind before (judged >>= λ times. Ok (cons_option time times)) ≡ behind (with_time time before) judged
behind_one before None (Ok times) = refl
behind_one before (Some time) (Ok times) = ap Ok (sym (append_assoc before (time ∷ []) times))
behind_one before time (Err e) = refl

pub behind_token : (before : List Timestamp) (time : Timestamp) (judged : Result (List Timestamp) Error)
    → behind before (judged >>= λ times. Ok (time ∷ times)) ≡ behind (before ++ time ∷ []) judged
behind_token before time (Ok times) = ap Ok (sym (append_assoc before (time ∷ []) times))
behind_token before time (Err e) = refl

-- the logs of entries, the first of which is this log's
pub one_more : {A : Type 0} (log : A → Option (List ℕ)) (seen : List (List ℕ)) (entry : A) (entries : List A) (id : List ℕ) → log entry ≡ Some id
    → each_once seen (filter_map log (entry ∷ entries)) ≡ each_once (with_id id seen) (filter_map log entries)
one_more log seen entry entries id is = ap (λ o. each_once seen (cons_option o (filter_map log entries))) is

-- and where the first may have none
pub one_or_none : {A : Type 0} (log : A → Option (List ℕ)) (seen : List (List ℕ)) (entry : A) (entries : List A)
    → each_once seen (filter_map log (entry ∷ entries)) ≡ each_once (each_once seen (cons_option (log entry) [])) (filter_map log entries)
one_or_none log seen entry entries = by (log entry)
  where
    by : (o : Option (List ℕ)) → each_once seen (cons_option o (filter_map log entries)) ≡ each_once (each_once seen (cons_option o [])) (filter_map log entries)
    by None = refl
    by (Some id) = refl

pub behind_all : (before : List Timestamp) → behind before (Ok []) ≡ Ok before
behind_all before = ap Ok (append-nil before)

pub behind_nothing : (judged : Result (List Timestamp) Error) → behind [] judged ≡ judged
behind_nothing (Ok times) = refl
behind_nothing (Err e) = refl
