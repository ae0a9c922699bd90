-- What the bytes of an archive hold, and what is said where they are refused.
use Rattle.std.specs.Prelude.{ℕ, ◌^◌, List, codes, Result}
use Rattle.sigstore_tuf_rules.specs.declared.chain.TrustChain.{TrustChain}
use Rattle.sigstore_verify.specs.Inputs.{Anchor}
use Rattle.sigstore_verify.specs.FromRoot.{trust_path}
use Rattle.trust_archive.specs.declared.error.ArchiveError.{ArchiveError}
use Rattle.trust_archive.specs.Archive.{IsArchive}
use Rattle.trust_archive.specs.Cause.{ArchiveCause}
use Rattle.trust_archive.specs.Error as refusal
use Rattle.trust_archive.specs.Judgement.{chain_of}
use Rattle.command_files.specs.Answer.{answer}
use Rattle.command_files.specs.Printed.{pair_line, refused_line}
use Rattle.command_files.specs.declared.answer.Answer.{Answer}
use Rattle.command_files.specs.declared.answer.Status.TheVariants as status

-- the greatest length of an archive: 256 MiB
abbrev pub max_archive : ℕ
max_archive = 2 ^ 28

-- the bytes are the archive of a chain that is trusted for the trust file
abbrev pub Holds : Anchor → List ℕ → TrustChain → Type 0
Holds anchor bytes chain = IsArchive anchor.crypto anchor.root anchor.now anchor.config.max_delegations trust_path bytes chain

-- the chain that bytes hold, or the first refusal
abbrev pub held_in : Anchor → List ℕ → Result TrustChain ArchiveError
held_in anchor bytes = chain_of anchor.crypto anchor.root anchor.now anchor.config.max_delegations trust_path bytes

-- why they are refused
abbrev pub Why : Anchor → List ℕ → ArchiveError → Type 0
Why anchor bytes e = ArchiveCause anchor.crypto anchor.root anchor.now anchor.config.max_delegations trust_path bytes e

-- ---- what is said

abbrev pub archive_answer : ArchiveError → Answer
archive_answer e = answer status.Refused (refused_line (codes "archive") (refusal.number_of e) (refusal.name_of e))

-- the archive can't be read, or is longer than 256 MiB
abbrev pub unread_answer : Answer
unread_answer = answer status.Input (pair_line (codes "input") (codes "archive"))
