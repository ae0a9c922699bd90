-- What the statuses of a call mean.
use Rattle.std.specs.Prelude.{◌≡◌, ◌≢◌, ℕ, ◌≤◌, List, [], ◌++◌, true, false, is_ok, Some, None, Result, Ok, Err}
use Rattle.foundation.specs.Watched.{Watched}
use Rattle.sigstore_keys.specs.declared.scheme.SigningScheme.{SigningScheme}
use Rattle.sigstore_keys.specs.Crypto.{Crypto}
use Rattle.sigstore_tuf_outside.specs.Repository.{Files}
use Rattle.sigstore_verify.specs.declared.by_rules.RuleAcceptance.{RuleAcceptance}
use Rattle.sigstore_verify.specs.declared.by_rules.RulesFault.{RulesFault}
use Rattle.sigstore_verify.specs.ByRules.{RulesInputs, RunsByRules, IsAcceptedByRule, RulesFaultCause, PromisesByRules}
use Rattle.sigstore_verify.specs.Inputs.{Outside}
use Rattle.command_files.specs.Rows.{AcceptRows, accepts_of, is_subject}
use Rattle.command_files.specs.declared.answer.Answer.{Answer}
use Rattle.command_verify.specs.Report.{rule_report_of}
use Rattle.command_verify.specs.Run.{given_under, are_several, refusal_answer, Answers}
use Rattle.question_notes.specs.Lines.{accept_line}
use Rattle.given_objects.specs.Given.{at_file, has_name, given_files, files_over}
use Rattle.given_objects.specs.declared.file.File.{File}
use Rattle.embedded_verify.specs.Complete.{Favoured}
use Rattle.embedded_verify.specs.Handed.{found_in, knowing, trusting}
use Rattle.embedded_verify.specs.Lines.{keep_lines, file_line}
use Rattle.embedded_verify.specs.Unread.{IsUnread, IsMisread, LacksInput}
use Rattle.embedded_verify.specs.declared.asked.Asked.{Asked}
use Rattle.embedded_verify.specs.declared.asking.Asking.{Asking}
use Rattle.embedded_verify.specs.declared.asking.Asking.TheVariants as asking
use Rattle.embedded_verify.specs.declared.judge.Verdict.{Verdict}
use Rattle.embedded_verify.specs.declared.request.Request.{Request}

-- what was read is that of the request; what is said where it isn't read has its cause
abbrev pub IsAsking : Request → Asking → Type 0
IsAsking request (asking.Asked asked) = asked.request.now ≡ request
IsAsking request (asking.Stopped said) = IsUnread request said

-- what the top call is given: the request's inputs at its moment, and who decides signatures
abbrev pub given_in : Crypto → Asked → RulesInputs
given_in crypto asked = given_under crypto asked.gathered asked.moment

-- the signatures whose rows the request says to be good are good, and no others
abbrev pub as_known : Asked → Crypto
as_known asked = knowing asked.gathered.tables.provider.rows

-- all are but those whose rows the request says not to be
abbrev pub as_trusted : Asked → Crypto
as_trusted asked = trusting asked.bad.provider.rows

-- ---- what the store is to keep

-- The text has a line for each of these files; put over the files that were given, they are exactly what the store holds.
pub record Keeps (given : List File) (store : Watched Files) (text : List ℕ) : Type 0 where
  pub files : List (List ℕ × List ℕ)
  pub text_is : text ≡ keep_lines files
  pub holds : store.told ≡ Some (files_over files (given_files given))

-- ---- accepted

-- The inputs were read, the verification over exactly what the request holds accepts by a rule, the text is exactly the report, and
-- what the store holds more than was given is what is to be kept.
pub record Accepts (request : Request) (out kept : List ℕ) : Type 0 where
  pub asked : Asked
  pub of : asked.request.now ≡ request
  pub ruled : RuleAcceptance
  pub after : Outside
  pub verified : RunsByRules (given_in (as_known asked) asked) (found_in request) after (Ok ruled)
  pub accepted : IsAcceptedByRule (given_in (as_known asked) asked) (found_in request) after ruled
  pub reported : rule_report_of (are_several asked.gathered) ruled ≡ Ok out
  pub keeps : Keeps request.store.now after.store kept

-- ---- refused

-- by this judge of signatures the verification refuses, for its cause, and the text is exactly what is said of it
pub record RefusesBy (crypto : Crypto) (asked : Asked) (out : List ℕ) : Type 0 where
  pub fault : RulesFault
  pub after : Outside
  pub verified : RunsByRules (given_in crypto asked) (found_in asked.request.now) after (Err fault)
  pub cause : RulesFaultCause (given_in crypto asked) (found_in asked.request.now) after fault
  pub said : Answer
  pub line : refusal_answer fault ≡ Some said
  pub text_is : out ≡ said.text

-- The inputs were read, and the verification over exactly what the request holds refuses; and it refuses in the same words where all
-- signatures are good but those of which the request says that they aren't. (What was asked on the way stands in no contract.)
pub record Refuses (request : Request) (out kept : List ℕ) : Type 0 where
  pub asked : Asked
  pub of : asked.request.now ≡ request
  pub known : RefusesBy (as_known asked) asked out
  pub trusted : RefusesBy (as_trusted asked) asked out
  pub keeps : Keeps request.store.now known.after.store kept

-- ---- answers are wanted

-- lines of rows alone that a provider file can have, none of which is among those that hold or among those that don't
pub data AsksRows (good bad : AcceptRows) : List ℕ → Type 0 where
  no_row : AsksRows good bad []
  one_row : (text : List ℕ) (scheme : SigningScheme) (key subject signature : List ℕ) → AsksRows good bad text
      → is_subject scheme subject ≡ true → accepts_of good scheme key subject signature ≡ false → accepts_of bad scheme key subject signature ≡ false
      → AsksRows good bad (text ++ accept_line scheme key subject signature)

-- at most one line of a file, which isn't given, isn't known to be absent, and isn't missing in a repository that is whole
pub data AsksFile (request : Request) : List ℕ → Type 0 where
  no_file : AsksFile request []
  one_file : (name : List ℕ) (max : ℕ) → at_file name request.repository.now ≡ None → has_name name request.absent.now ≡ false
      → request.whole ≡ false → AsksFile request (file_line name max)

-- lines of these alone
pub record AsksLines (asked : Asked) (out : List ℕ) : Type 0 where
  pub rows : List ℕ
  pub file : List ℕ
  pub asks_rows : AsksRows asked.gathered.tables.provider.rows asked.bad.provider.rows rows
  pub asks_file : AsksFile asked.request.now file
  pub text_is : out ≡ rows ++ file

-- The inputs were read, by what is known the verification refuses, and the text is of question lines alone, none of which is answered,
-- and isn't empty.
pub record Asks (request : Request) (out : List ℕ) : Type 0 where
  pub asked : Asked
  pub of : asked.request.now ≡ request
  pub refusal : List ℕ
  pub known : RefusesBy (as_known asked) asked refusal
  pub lines : AsksLines asked out
  pub some : out ≢ []

-- ---- parts of a call

-- what a verification by this judge came to, how often the repository failed, what was left of the store, and what is said of it
pub record IsJudged (crypto : Crypto) (asked : Asked) (faults : ℕ) (store : Watched Files) (verdict : Verdict) : Type 0 where
  pub judged : Result RuleAcceptance RulesFault
  pub after : Outside
  pub promises : PromisesByRules (given_in crypto asked) (found_in asked.request.now) after judged
  pub faults_are : after.repo.faults ≡ faults
  pub store_is : after.store ≡ store
  pub source_is : after.source.faults ≡ 0
  pub accepted_is : verdict.accepted ≡ is_ok judged
  pub answers : Answers (are_several asked.gathered) judged verdict.said

-- the same by what is known, with what is to be kept; a repository that has no files but those didn't fail
pub record IsKnown (asked : Asked) (verdict : Verdict) (kept : List ℕ) : Type 0 where
  pub faults : ℕ
  pub store : Watched Files
  pub judged : IsJudged (as_known asked) asked faults store verdict
  pub whole : asked.request.now.whole ≡ true → faults ≡ 0
  pub keeps : Keeps asked.request.now.store.now store kept

-- the same of the judge who takes what isn't known for good
abbrev pub IsTrusting : Asked → Verdict → Type 0
IsTrusting asked verdict = (faults : ℕ) × (store : Watched Files) × IsJudged (as_trusted asked) asked faults store verdict

-- what each status means, and when it has to be 0
pub record Means (request : Request) (status : ℕ) (out kept : List ℕ) : Type 0 where
  pub accepted : status ≡ 0 → Accepts request out kept
  pub refused : status ≡ 1 → Refuses request out kept
  pub misread : status ≡ 2 → IsMisread request out
  pub lacking : status ≡ 3 → LacksInput request out
  pub asks : status ≡ 6 → Asks request out
  pub known : status ≤ 6
  pub complete : Favoured request → status ≡ 0
  pub keeps_nothing : status ≢ 0 → status ≢ 1 → kept ≡ []
  pub not_cut : status ≢ 4
  pub not_wanting : status ≢ 5
