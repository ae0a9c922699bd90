-- What is said of an acceptance or a refusal.
use Rattle.std.specs.Prelude.{◌≡◌, ◌≢◌, ℕ, List, ◌++◌, codes, Bool, if◌then◌else◌, Option, Some, None, Result, Ok, Err}
use Rattle.foundation.specs.Steps.{◌>>=◌}
use Rattle.sigstore_tuf_text.specs.declared.error.Error.{Error as TufError}
use Rattle.sigstore_judgement.specs.declared.error.Error.TheVariants.{NoMemory}
use Rattle.sigstore_judgement.specs.declared.rules.JudgedByRule.{JudgedByRule}
use Rattle.sigstore_judgement.specs.declared.rules.RulesError.{RulesError}
use Rattle.sigstore_judgement.specs.declared.rules.RulesError.TheVariants.{Shared, Each}
use Rattle.command_files.specs.Answer.{answer}
use Rattle.command_files.specs.Printed.{line_of, pair_line, number_line}
use Rattle.command_files.specs.declared.answer.Answer.{Answer}
use Rattle.command_files.specs.declared.answer.Status.TheVariants as status
use Rattle.command_verify.specs.Report.{digests_added, chain_text, result_added}
use Rattle.command_verify.specs.Run.{tuf_answer, verify_answer, each_answer}
use Rattle.command_archive.specs.Reading.{archive_answer, unread_answer}
use Rattle.command_ways.specs.declared.judging.Came.{Came}
use Rattle.command_ways.specs.declared.judging.Came.TheVariants.{Untrusted, Judged}
use Rattle.command_ways.specs.declared.report.Telling.{Telling}
use Rattle.command_ways.specs.declared.trust.Trust.{Trust}
use Rattle.command_ways.specs.declared.trust.Trust.TheVariants.{Chain, File}
use Rattle.command_ways.specs.declared.trust.TrustFault.{TrustFault}
use Rattle.command_ways.specs.declared.trust.TrustFault.TheVariants as fault

-- ---- an acceptance

-- that the bundle is accepted, and the lines on the chain; or that there is no pinned root
abbrev pub head_of : Trust → Result (List ℕ) TufError
head_of (Chain chain) = chain_text (codes "accepted") chain
head_of (File bytes) = Ok (line_of (codes "accepted") ++ pair_line (codes "root") (codes "none"))

-- which rule accepts, where there are several
abbrev pub rule_added : Bool → ℕ → List ℕ → List ℕ
rule_added several rule text = if several then text ++ number_line (codes "rule") rule else text

-- that nothing was read of an artifact that was told
abbrev pub read_added : Bool → List ℕ → List ℕ
read_added told text = if told then text ++ pair_line (codes "read") (codes "no") else text

-- the report: the first lines, the digests, the result, and these two
unfoldable pub way_text : Trust → JudgedByRule → Telling → Result (List ℕ) TufError
way_text trust judged telling = do
  head ← head_of trust
  Ok (read_added telling.told (rule_added telling.several judged.rule
      (result_added (digests_added head judged.judged.digests) judged.judged.result)))

abbrev pub said_of : Result (List ℕ) TufError → Option Answer
said_of (Ok text) = Some (answer status.Accepted text)
said_of (Err e) = Some (tuf_answer e)

-- ---- a refusal

-- nothing is said out of memory
abbrev pub untrusted_answer : TrustFault → Option Answer
untrusted_answer (fault.Tuf e) = Some (tuf_answer e)
untrusted_answer (fault.Archive e) = Some (archive_answer e)
untrusted_answer fault.Unread = Some unread_answer
untrusted_answer fault.NoMemory = None

abbrev pub refused_answer : RulesError → Answer
refused_answer (Shared e) = verify_answer e
refused_answer (Each refusals) = each_answer refusals

-- it is said, and memory wasn't wanting
abbrev pub RefusesSo : RulesError → Answer → Type 0
RefusesSo e said = (said ≡ refused_answer e) × e ≢ Shared NoMemory

-- ---- the whole

-- what is said of what a verification came to
abbrev pub Answers : Telling → Came → Answer → Type 0
Answers telling (Untrusted why) said = untrusted_answer why ≡ Some said
Answers telling (Judged trust (Ok judged)) said = said_of (way_text trust judged telling) ≡ Some said
Answers telling (Judged trust (Err e)) said = RefusesSo e said
