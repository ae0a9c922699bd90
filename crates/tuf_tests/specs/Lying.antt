-- What a lying repository answers: the next of its replies, whatever is asked.
use Rattle.std.specs.Prelude.{ℕ, ◌+◌, ◌-◌, ◌^◌, min, nat_lt, if◌then◌else◌, List}
use Rattle.std.specs.Prelude.{[], ◌∷◌, length, Option, Some, None, Result, Ok, Err}
use Rattle.tuf_tests.specs.declared.lying_repository.Reply.{Reply}
use Rattle.tuf_tests.specs.declared.lying_repository.Reply.TheVariants as reply
use Rattle.sigstore_tuf_outside.specs.declared.repository.FetchFault.{FetchFault}
use Rattle.sigstore_tuf_outside.specs.declared.repository.FetchFault.TheVariants as fetch

-- once all are given nothing is there
abbrev pub next_reply : List Reply → Reply
next_reply [] = reply.Absent
next_reply (first ∷ later) = first

abbrev pub answer_of : Reply → ℕ → Result (Option (List ℕ)) FetchFault
answer_of (reply.File bytes) max = if nat_lt max (length bytes) then Err (fetch.TooLong (length bytes)) else Ok (Some bytes)
answer_of reply.Absent max = Ok None
answer_of reply.Failed max = Err fetch.Failed

-- the count of faults is how many failures were given, up to its greatest value
abbrev pub faults_after : Reply → ℕ → ℕ
faults_after (reply.File bytes) faults = faults
faults_after reply.Absent faults = faults
faults_after reply.Failed faults = min (faults + 1) (2 ^ 64 - 1)
