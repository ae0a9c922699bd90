-- What each status of a run of `gate` in any way means, and on what it rests.
use Rattle.std.proofs.Common.{◌≡◌, inl, inr, ℕ, List, Bool, true, false, if◌then◌else◌, Some, Result, Ok, Err, refl, sym, subst}
use Rattle.foundation.specs.Watched.{Watched}
use Rattle.foundation.specs.Results.{ok_same, some_same, no_both}
use Rattle.foundation.specs.declared.no_memory.NoMemory.{NoMemory as OutOfMemory}
use Rattle.sigstore_judgement.specs.declared.error.Error.TheVariants as verify
use Rattle.release_gate.specs.declared.gate.GateFault.TheVariants as gate
use Rattle.release_gate.specs.declared.line.GateLine.{GateLine}
use Rattle.command_files.specs.Ending.{TakesAll, EndsText}
use Rattle.command_files.specs.Gather.{governed_of}
use Rattle.command_files.specs.Starting.{Command, unstarted, stopped, begun}
use Rattle.command_files.specs.declared.answer.Answer.{Answer}
use Rattle.command_files.specs.declared.answer.Status.{Status}
use Rattle.command_files.specs.declared.answer.Status.TheVariants as status
use Rattle.command_files.proofs.Endings.{ends_so}
use Rattle.command_files.proofs.Starts.{stopped_means}
use Rattle.command_verify.specs.Run.{tuf_answer, verify_answer}
use Rattle.command_archive.specs.Reading.{archive_answer, unread_answer}
use Rattle.command_gate.specs.Lines.{lines_text, all_admitted, status_by, lines_answer}
use Rattle.command_gate.specs.Run.{fault_answer}
use Rattle.command_ways.specs.declared.folder_judging.FolderCame.{FolderCame}
use Rattle.command_ways.specs.declared.folder_judging.FolderCame.TheVariants.{Untrusted, Unusable, Judged}
use Rattle.command_ways.specs.declared.trust.Trust.{Trust}
use Rattle.command_ways.specs.declared.trust.TrustFault.TheVariants as fault
use Rattle.command_ways.specs.FolderLayout.{folder_layout_of}
use Rattle.command_ways.specs.FolderRun.{Environment, came_answer, Resting, Says, Asked, CameIs, IsLineless, Faults, Means, WritesRested, Rested}

module _ (resting : Resting) (command : Command) (before after : Environment) (out out' : Watched (List ℕ)) where
  abbrev M : Status → Type 0
  M s = Means command before after out out' s

  abbrev W : List ℕ → Type 0
  W text = TakesAll out out' text

  -- what an answer means that was written is what an equal one means
  as_said : (a b : Answer) → a ≡ b → (W a.text → M a.status) → W b.text → M b.status
  as_said a b e f = subst (λ (x : Answer). W x.text → M x.status) e f

  module _ (asked : Asked command before after) where
    -- a folder that was judged: all are admitted, or some are denied
    lines_mean : (trust : Trust) (lines : List GateLine) → CameIs asked (Judged trust (Ok lines)) → W (lines_text lines) → M (status_by lines)
    lines_mean trust lines c w = by (all_admitted lines) refl
      where
        by : (all : Bool) → all_admitted lines ≡ all → M (status_by lines)
        by true e =
            subst (λ b. M (if b then status.Accepted else status.Refused)) (sym e)
            (record { gates = record { asked = asked; trust = trust; lines = lines; judged = c; written = w }; all = e })
        by false e =
            subst (λ b. M (if b then status.Accepted else status.Refused)) (sym e)
            (inl (record { gates = record { asked = asked; trust = trust; lines = lines; judged = c; written = w }; some = e }))

    -- one that wasn't
    faulted : (came : FolderCame) (line : Answer) (s : Status) → CameIs asked came → IsLineless came → came_answer came ≡ Some line → line.status ≡ s → W line.text
        → Faults command before after out out' s
    faulted came line s c l h is w = record { asked = asked; came = came; cause = c; lineless = l; said = line; line = h; is = is; written = w }

    came_means : (came : FolderCame) (said : Answer) → CameIs asked came → came_answer came ≡ Some said → W said.text → M said.status
    unfolding tuf_answer verify_answer fault_answer
    came_means (Untrusted (fault.Tuf e)) said c h =
        as_said (tuf_answer e) said (some_same _ said h) (λ w. inr (faulted (Untrusted (fault.Tuf e)) (tuf_answer e) status.Refused c tt refl refl w))
    came_means (Untrusted (fault.Archive e)) said c h =
        as_said (archive_answer e) said (some_same _ said h) (λ w. inr (faulted (Untrusted (fault.Archive e)) (archive_answer e) status.Refused c tt refl refl w))
    came_means (Untrusted fault.Unread) said c h =
        as_said unread_answer said (some_same _ said h) (λ w. inr (faulted (Untrusted fault.Unread) unread_answer status.Input c tt refl refl w))
    came_means (Untrusted fault.NoMemory) said c h = cc
    came_means (Unusable trust verify.NoMemory) said c h = cc
    came_means (Unusable trust e) said c h =
        as_said (verify_answer e) said (some_same _ said h) (λ w. inr (faulted (Unusable trust e) (verify_answer e) status.Refused c tt refl refl w))
    came_means (Judged trust (Ok lines)) said c h = as_said (lines_answer lines) said (some_same _ said h) (lines_mean trust lines c)
    came_means (Judged trust (Err (gate.Tuf e))) said c h =
        as_said (tuf_answer e) said (some_same _ said h) (λ w. inr (faulted (Judged trust (Err (gate.Tuf e))) (tuf_answer e) status.Refused c tt refl refl w))
    came_means (Judged trust (Err (gate.Trust e chain))) said c h =
        as_said (verify_answer e) said (some_same _ said h) (λ w. inr (faulted (Judged trust (Err (gate.Trust e chain))) (verify_answer e) status.Refused c tt refl refl w))
    came_means (Judged trust (Err gate.FolderFailed)) said c h =
        as_said _ said (some_same _ said h) (λ w. inr (faulted (Judged trust (Err gate.FolderFailed)) _ status.Input c tt refl refl w))
    came_means (Judged trust (Err (gate.TooManyNames count))) said c h =
        as_said _ said (some_same _ said h) (λ w. inr (faulted (Judged trust (Err (gate.TooManyNames count))) _ status.Input c tt refl refl w))
    came_means (Judged trust (Err (gate.DoubledName name))) said c h =
        as_said _ said (some_same _ said h) (λ w. inr (faulted (Judged trust (Err (gate.DoubledName name))) _ status.Input c tt refl refl w))
    came_means (Judged trust (Err (gate.Vanished name))) said c h =
        as_said _ said (some_same _ said h) (λ w. inr (faulted (Judged trust (Err (gate.Vanished name))) _ status.Input c tt refl refl w))
    came_means (Judged trust (Err gate.NoMemory)) said c h = cc

  said_means : (said : Answer) → Says resting command before after (Ok said) → W said.text → M said.status
  said_means said (unstarted e s o eq) = no_both said e eq
  said_means said (stopped other s o eq) =
      as_said other said (sym (ok_same said other eq)) (stopped_means (folder_layout_of command.words) governed_of before after out out' M (λ m. m) (λ l. inl l) o other s)
  said_means said (begun layout governed b j) = came_means (record { layout = layout; governed = governed; read = b }) j.came said j.gates j.says

  -- ---- on what it rests

  abbrev T : Status → Type 0
  T s = Rested resting command before after out out' s

  rested_as : (a b : Answer) → a ≡ b → (W a.text → T a.status) → W b.text → T b.status
  rested_as a b e f = subst (λ (x : Answer). W x.text → T x.status) e f

  by_status : (s : Status) → WritesRested resting command before after out out' s → T s
  by_status status.Accepted r = r
  by_status status.Refused r = r
  by_status status.Usage r = tt
  by_status status.Input r = inr r
  by_status status.Output r = tt
  by_status status.Memory r = tt

  said_rests : (said : Answer) → Says resting command before after (Ok said) → W said.text → T said.status
  said_rests said (unstarted e s o eq) = no_both said e eq
  said_rests said (stopped other s o eq) =
      rested_as other said (sym (ok_same said other eq)) (stopped_means (folder_layout_of command.words) governed_of before after out out' T (λ m. tt) (λ l. inl l) o other s)
  said_rests said (begun layout governed b j) = λ w.
      by_status said.status (record {
        asked = record { layout = layout; governed = governed; read = b };
        came = j.came;
        rests = j.rests;
        said = said;
        says = j.says;
        is = refl;
        written = w;
      })

  -- ---- the end

  module _ (said : Result Answer OutOfMemory) (ended : Status) (s : Says resting command before after said) (e : EndsText said out out' ended) where
    pub gate_means : Means command before after out out' ended
    gate_means = ends_so (Says resting command before after) M _ _ said out out' ended s (λ same. same) (λ rose. rose) said_means e

    pub gate_rests : Rested resting command before after out out' ended
    gate_rests = ends_so (Says resting command before after) T _ _ said out out' ended s (λ same. tt) (λ rose. tt) said_rests e
