-- What `check` finds of an archive: a chain that is trusted and no older than it may be, or why there is none.
use Rattle.std.specs.Prelude.{◌≡◌, ℕ, ◌≤◌, ◌<◌, List, codes, Option, Some, None, Result, Ok, Err, ⊤}
use Rattle.foundation.specs.Watched.{Watched}
use Rattle.sigstore_tuf_rules.specs.declared.chain.TrustChain.{TrustChain}
use Rattle.sigstore_verify.specs.Inputs.{Anchor}
use Rattle.command_files.specs.Answer.{answer}
use Rattle.command_files.specs.Printed.{refused_line}
use Rattle.command_files.specs.Whole.{GivesWhole, Unread}
use Rattle.command_files.specs.declared.answer.Answer.{Answer}
use Rattle.command_files.specs.declared.answer.Status.TheVariants as status
use Rattle.command_verify.specs.Report.{timestamp_version}
use Rattle.command_archive.specs.declared.finding.CheckFault.{CheckFault}
use Rattle.command_archive.specs.declared.finding.CheckFault.TheVariants as fault
use Rattle.command_archive.specs.Reading.{max_archive, Holds, held_in, Why, archive_answer, unread_answer}

-- ---- how old an archive may be

-- The least version that is told stands for the timestamp that a client would have. A client refuses a lower one (TUF specification, 5.4.3):
-- the timestamp's version grows with every state of a repository, and the line `timestamp` of a report tells it.
abbrev pub IsRecent : Option ℕ → TrustChain → Type 0
IsRecent None chain = ⊤
IsRecent (Some least) chain = (version : ℕ) × (timestamp_version chain.timestamp ≡ Ok version) × least ≤ version

abbrev pub IsOlder : Option ℕ → TrustChain → Type 0
IsOlder None chain = ⊥
IsOlder (Some least) chain = (version : ℕ) × (timestamp_version chain.timestamp ≡ Ok version) × version < least

-- ---- the bytes

-- the bytes hold this chain, which is trusted
pub record HoldsTrusted (anchor : Anchor) (bytes : List ℕ) (chain : TrustChain) : Type 0 where
  pub held : held_in anchor bytes ≡ Ok chain
  pub trusted : Holds anchor bytes chain

-- Why bytes aren't taken: the archive is refused, for its cause; or its chain is trusted and older than it may be.
abbrev pub Declines : Anchor → Option ℕ → List ℕ → CheckFault → Type 0
Declines anchor least bytes (fault.Archive e) = (held_in anchor bytes ≡ Err e) × Why anchor bytes e
Declines anchor least bytes fault.Rollback = (chain : TrustChain) × HoldsTrusted anchor bytes chain × IsOlder least chain
Declines anchor least bytes fault.Unread = ⊥
Declines anchor least bytes fault.NoMemory = ⊤

abbrev pub Takes : Anchor → Option ℕ → List ℕ → Result TrustChain CheckFault → Type 0
Takes anchor least bytes (Ok chain) = HoldsTrusted anchor bytes chain × IsRecent least chain
Takes anchor least bytes (Err why) = Declines anchor least bytes why

-- ---- the archive

-- The archive isn't read to its end within 256 MiB; or its bytes are judged; or memory is wanting.
pub data Finds (anchor : Anchor) (least : Option ℕ) (old new : Watched (List ℕ)) (result : Result TrustChain CheckFault) : Type 0 where
  unread : Unread max_archive old new → result ≡ Err fault.Unread → Finds anchor least old new result
  read : (bytes : List ℕ) → GivesWhole old new max_archive bytes → Takes anchor least bytes result → Finds anchor least old new result
  wanting : result ≡ Err fault.NoMemory → Finds anchor least old new result

-- ---- what is said of a fault; nothing out of memory

abbrev pub rollback_answer : Answer
rollback_answer = answer status.Refused (refused_line (codes "archive") 11 (codes "Rollback"))

abbrev pub fault_answer : CheckFault → Option Answer
fault_answer (fault.Archive e) = Some (archive_answer e)
fault_answer fault.Rollback = Some rollback_answer
fault_answer fault.Unread = Some unread_answer
fault_answer fault.NoMemory = None
