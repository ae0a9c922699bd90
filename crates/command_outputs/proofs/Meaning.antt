-- What each status of a run means that is asked for more than the report, and what is in the statement's place.
use Rattle.std.proofs.Common.{◌≡◌, ◌≢◌, ◌⊎◌, inl, inr, ℕ, List, Option, Some, None, Result, Ok, Err, refl, sym, ap, ◌∙◌, subst}
use Rattle.foundation.specs.Watched.{Watched}
use Rattle.foundation.specs.Results.{ok_same, some_same, no_both}
use Rattle.foundation.specs.declared.no_memory.NoMemory.{NoMemory as OutOfMemory}
use Rattle.sigstore_judgement.specs.declared.error.Error.TheVariants.{NoMemory}
use Rattle.sigstore_judgement.specs.declared.rules.JudgedByRule.{JudgedByRule}
use Rattle.sigstore_judgement.specs.declared.rules.RulesError.{RulesError}
use Rattle.sigstore_judgement.specs.declared.rules.RulesError.TheVariants.{Shared, Each}
use Rattle.command_files.specs.Answer.{answer}
use Rattle.command_files.specs.Ending.{TakesAll, ends_unsaid, ends_cut, ends_written, EndsText}
use Rattle.command_files.specs.Gather.{gathered_of}
use Rattle.command_files.specs.Starting.{Command, Begins, LacksInput, unstarted, stopped, begun}
use Rattle.command_files.specs.declared.answer.Answer.{Answer}
use Rattle.command_files.specs.declared.answer.Status.{Status}
use Rattle.command_files.specs.declared.answer.Status.TheVariants as status
use Rattle.command_files.specs.declared.gather.Gathered.{Gathered}
use Rattle.command_files.proofs.Starts.{stopped_means}
use Rattle.command_verify.specs.Run.{tuf_answer, verify_answer, each_answer, given_by}
use Rattle.command_archive.specs.Reading.{archive_answer}
use Rattle.command_download.specs.declared.shelf.Placed.{Placed}
use Rattle.command_ways.specs.declared.judging.Came.{Came}
use Rattle.command_ways.specs.declared.judging.Came.TheVariants.{Untrusted, Judged}
use Rattle.command_ways.specs.declared.trust.Trust.{Trust}
use Rattle.command_ways.specs.declared.trust.TrustFault.{TrustFault}
use Rattle.command_ways.specs.declared.trust.TrustFault.TheVariants as fault
use Rattle.command_ways.specs.Judging.{VerifiesWay}
use Rattle.command_ways.specs.Report.{way_text, said_of, untrusted_answer, refused_answer, Answers}
use Rattle.command_ways.specs.Run.{anchor_for, asked_for, telling_of, now_in, TrustIs, JudgedIs, no_trust, under_trust}
use Rattle.command_ways.specs.Trust.{file_of, IsTrusted}
use Rattle.command_ways.proofs.Saying.{text_there, has_cause}
use Rattle.command_outputs.specs.declared.layout.OutputsLayout.{OutputsLayout}
use Rattle.command_outputs.specs.Layout.{outputs_layout_of}
use Rattle.command_outputs.specs.Payload.{payload_of}
use Rattle.command_outputs.specs.Concluding.{no_envelope_answer, unplaced_answer, told_answer, Puts, want_putting, unplaced, placed, Delivers, want_payload, no_envelope, delivered, Gives, Yields, want_lines, yields, Follows, Concludes, want_saying, follows}
use Rattle.command_outputs.specs.Run.{Outside, Environment, JudgesOutputs, Says, RunsTo}
use Rattle.command_outputs.specs.Promises.{Asked, IsAccepted, AsksFor, IsStatement, IsGiven, IsUntouched, IsDelivered, Means, Keeps}
use Rattle.command_outputs.proofs.Words.{plain_layout}

module _ (command : Command) (before after : Environment) (out out' : Watched (List ℕ)) where
  abbrev M : Status → Type 0
  M s = Means command before after out out' s

  abbrev W : List ℕ → Type 0
  W text = TakesAll out out' text

  -- what an answer means that was written is what an equal one means
  as_said : (a b : Answer) → a ≡ b → (W a.text → M a.status) → W b.text → M b.status
  as_said a b e f = subst (λ (x : Answer). W x.text → M x.status) e f

  module _ (layout : OutputsLayout) (gathered : Gathered)
      (read : Begins (outputs_layout_of command.words) gathered_of before.inputs after.inputs layout gathered) where
    abbrev asked : Asked command before after
    asked = record {
      layout = layout.verification;
      gathered = gathered;
      read = record { worded = plain_layout command.words layout read.worded; read = read.read };
    }

    abbrev asks_for : AsksFor command
    asks_for = record { layout = layout; worded = read.worded }

    -- the payload of the bundle, where it has one
    statement : (path payload : List ℕ) → layout.outputs.statement ≡ Some path → payload_of gathered.bundle ≡ Ok (Some payload)
        → IsStatement command gathered.bundle path payload
    statement path payload named signed = record { asks = asks_for; named = named; signed = signed }

    -- ---- where no rule accepts

    untrusted_means : (why : TrustFault) (said : Answer) → TrustIs asked (Err why) → after.outside.verified.source ≡ before.outside.verified.source
        → untrusted_answer why ≡ Some said → IsUntouched before after → W said.text → M said.status
    unfolding tuf_answer
    untrusted_means (fault.Tuf e) said g u a k =
        as_said _ said (some_same _ said a) (λ w. (inl (no_trust asked (fault.Tuf e) (tuf_answer e) g u refl refl w), k))
    untrusted_means (fault.Archive e) said g u a k =
        as_said _ said (some_same _ said a) (λ w. (inl (no_trust asked (fault.Archive e) (archive_answer e) g u refl refl w), k))
    untrusted_means fault.Unread said g u a k =
        as_said _ said (some_same _ said a) (λ w. (inr (record { asked = asked; unread = g; untouched = u; written = w }), k))
    untrusted_means fault.NoMemory said g u a k = cc

    module _ (trust : Trust) (given : TrustIs asked (Ok trust)) (trusted : IsTrusted (anchor_for asked.gathered (now_in asked)) trust) where
      refused_means : (e : RulesError) → JudgedIs asked trust (Err e) → e ≢ Shared NoMemory → IsUntouched before after
          → W (refused_answer e).text → M (refused_answer e).status
      unfolding verify_answer each_answer
      refused_means (Shared e) j n k w = (
        inl (under_trust asked trust (Shared e) (verify_answer e) given trusted j
            (has_cause (asked_for asked.gathered (now_in asked)) (file_of trust) asked.layout.way.told _ _ (Shared e) j) n refl w),
        k,
      )
      refused_means (Each refusals) j n k w = (
        inl (under_trust asked trust (Each refusals) (each_answer refusals) given trusted j
            (has_cause (asked_for asked.gathered (now_in asked)) (file_of trust) asked.layout.way.told _ _ (Each refusals) j) n refl w),
        k,
      )

      -- ---- where one accepts

      module _ (judged : JudgedByRule) (accepted : JudgedIs asked trust (Ok judged)) where
        abbrev is_accepted : IsAccepted command before after
        is_accepted = record { asked = asked; trust = trust; given = given; trusted = trusted; judged = judged; accepted = accepted }

        abbrev Reported : Answer → Type 0
        Reported report = said_of (way_text trust judged (telling_of gathered layout.verification.way.told)) ≡ Some report

        abbrev told : Answer → Answer
        told report = told_answer None layout.outputs.details gathered.bundle judged report

        reported_means : (report said : Answer) → Reported report → said ≡ told report
            → IsGiven layout.outputs.statement gathered.bundle before.outside.shelf after.outside.shelf → W said.text → M said.status
        reported_means report said r same given_so =
            let text = text_there (anchor_for gathered (now_in asked)) trust judged (telling_of gathered layout.verification.way.told) trusted in
            as_said (told (answer status.Accepted text.0)) said
            (ap told (some_same (answer status.Accepted text.0) report (sym (ap said_of text.1) ∙ r)) ∙ sym same)
            (λ w. record { accepted = is_accepted; asks = asks_for; given = given_so; text = text.0; reported = text.1; written = w })

        module _ (path : List ℕ) (named : layout.outputs.statement ≡ Some path) where
          put_means : (payload : List ℕ) (report said : Answer) → payload_of gathered.bundle ≡ Ok (Some payload) → Reported report
              → Puts path payload (told report) before.outside.shelf after.outside.shelf (Ok said) → W said.text → M said.status
          put_means payload report said signed r (want_putting e same eq) = no_both said e eq
          put_means payload report said signed r (unplaced p eq) =
              as_said unplaced_answer said (sym (ok_same said unplaced_answer eq))
              (λ w. inr (record {
                accepted = is_accepted;
                path = path;
                payload = payload;
                statement = statement path payload named signed;
                rose = p.failed refl;
                same = p.puts;
                written = w;
              }))
          put_means payload report said signed r (placed p eq) =
              reported_means report said r (ok_same said (told report) eq)
              (subst (λ (o : Option (List ℕ)). IsGiven o gathered.bundle before.outside.shelf after.outside.shelf) (sym named)
              (record { payload = payload; signed = signed; put = p.puts }))

          delivered_means : (report said : Answer) → Reported report
              → Delivers gathered.bundle path (told report) before.outside.shelf after.outside.shelf (Ok said) → W said.text → M said.status
          delivered_means report said r (want_payload e same eq) = no_both said e eq
          delivered_means report said r (no_envelope message same eq) =
              as_said no_envelope_answer said (sym (ok_same said no_envelope_answer eq))
              (λ w. (inr (record { accepted = is_accepted; asks = asks_for; path = path; named = named; message = message; written = w }), same))
          delivered_means report said r (delivered payload signed p) = put_means payload report said signed r p

        gives_means : (asked_file : Option (List ℕ)) → layout.outputs.statement ≡ asked_file → (report said : Answer) → Reported report
            → Gives asked_file gathered.bundle (told report) before.outside.shelf after.outside.shelf (Ok said) → W said.text → M said.status
        gives_means None none report said r g =
            reported_means report said r (ok_same said (told report) g.1)
            (subst (λ (o : Option (List ℕ)). IsGiven o gathered.bundle before.outside.shelf after.outside.shelf) (sym none) g.0)
        gives_means (Some path) some report said r g = delivered_means path some report said r g

        yields_means : (report said : Answer) → Reported report
            → Yields None layout.outputs gathered.bundle judged report before.outside.shelf after.outside.shelf (Ok said) → W said.text → M said.status
        yields_means report said r (want_lines e same eq) = no_both said e eq
        yields_means report said r (yields g) = gives_means layout.outputs.statement refl report said r g

    -- ---- whatever came of the verification

    same_said : (said final : Answer) → (W said.text → M said.status) → ◌≡◌ {A = Result Answer OutOfMemory} (Ok final) (Ok said) → W final.text → M final.status
    same_said said final m eq = as_said said final (sym (ok_same final said eq)) m

    came_means : (came : Came) (said final : Answer)
        → VerifiesWay (given_by gathered (now_in asked)) layout.verification.way before.outside.verified after.outside.verified came
        → Answers (telling_of gathered layout.verification.way.told) came said
        → Follows None layout.outputs gathered.bundle came said before.outside.shelf after.outside.shelf (Ok final) → W final.text → M final.status
    came_means (Untrusted why) said final v a f = same_said said final (untrusted_means why said v.0 v.1 a f.0) f.1
    came_means (Judged trust (Ok judged)) said final v a f = yields_means trust v.0 v.1 judged v.2 said final a f
    came_means (Judged trust (Err e)) said final v a f =
        same_said said final (as_said (refused_answer e) said (sym a.0) (refused_means trust v.0 v.1 e v.2 a.1 f.0)) f.1

    judged_means : (final : Answer) → JudgesOutputs layout.verification.way layout.outputs gathered (now_in asked) before.outside after.outside (Ok final) → W final.text → M final.status
    judged_means final j = by_concluded j.concludes
      where
        by_concluded : Concludes (telling_of gathered layout.verification.way.told) None layout.outputs gathered.bundle j.came before.outside.shelf after.outside.shelf (Ok final)
            → W final.text → M final.status
        by_concluded (want_saying e same eq) = no_both final e eq
        by_concluded (follows said a f) = came_means j.came said final j.verifies a f

  lacks_so : LacksInput before after out out' → M status.Input
  lacks_so (which, cause, same, w) = (inl (which, cause, same, w), ap (λ (o : Outside). o.shelf) same)

  said_means : (final : Answer) → Says command before after (Ok final) → W final.text → M final.status
  said_means final (unstarted e s o eq) = no_both final e eq
  said_means final (stopped other s o eq) =
      as_said other final (sym (ok_same final other eq))
      (stopped_means (outputs_layout_of command.words) gathered_of before after out out' M (λ m. m) lacks_so o other s)
  said_means final (begun layout gathered b j) = judged_means layout gathered b final j

-- ---- what is in its place

module _ (command : Command) (before after : Environment) (result : Result Answer OutOfMemory) where
  -- nothing was put anywhere; or what is said tells that the statement was
  abbrev Kept : Type 0
  Kept = (after.outside.shelf.told ≡ before.outside.shelf.told) ⊎ ((report : Answer) × (result ≡ Ok report) × IsDelivered command before after)

  untouched : IsUntouched before after → Kept
  untouched same = inl (ap (λ (x : Watched (List Placed)). x.told) same)

  module _ (layout : OutputsLayout) (gathered : Gathered)
      (read : Begins (outputs_layout_of command.words) gathered_of before.inputs after.inputs layout gathered) where
    abbrev asks : Asked command before after
    asks = record {
      layout = layout.verification;
      gathered = gathered;
      read = record { worded = plain_layout command.words layout read.worded; read = read.read };
    }

    module _ (accepted : IsAccepted command before after) (same : accepted.asked.gathered ≡ gathered) where
      put_keeps : (path payload : List ℕ) (report : Answer) → layout.outputs.statement ≡ Some path → payload_of gathered.bundle ≡ Ok (Some payload)
          → Puts path payload report before.outside.shelf after.outside.shelf result → Kept
      put_keeps path payload report named signed (want_putting e kept eq) = inl kept
      put_keeps path payload report named signed (unplaced p eq) = inl p.puts
      put_keeps path payload report named signed (placed p eq) =
          inr (
            report,
            eq,
            record {
              accepted = accepted;
              path = path;
              payload = payload;
              statement = record {
                asks = record { layout = layout; worded = read.worded };
                named = named;
                signed = ap (λ (x : Gathered). payload_of x.bundle) same ∙ signed;
              };
              put = p.puts;
            },
          )

      delivered_keeps : (path : List ℕ) (report : Answer) → layout.outputs.statement ≡ Some path
          → Delivers gathered.bundle path report before.outside.shelf after.outside.shelf result → Kept
      delivered_keeps path report named (want_payload e kept eq) = untouched kept
      delivered_keeps path report named (no_envelope message kept eq) = untouched kept
      delivered_keeps path report named (delivered payload signed p) = put_keeps path payload report named signed p

      gives_keeps : (asked_file : Option (List ℕ)) → layout.outputs.statement ≡ asked_file → (report : Answer)
          → Gives asked_file gathered.bundle report before.outside.shelf after.outside.shelf result → Kept
      gives_keeps None none report g = untouched g.0
      gives_keeps (Some path) some report g = delivered_keeps path report some g

      yields_keeps : (judged : JudgedByRule) (said : Answer)
          → Yields None layout.outputs gathered.bundle judged said before.outside.shelf after.outside.shelf result → Kept
      yields_keeps judged said (want_lines e kept eq) = untouched kept
      yields_keeps judged said (yields g) = gives_keeps layout.outputs.statement refl (told_answer None layout.outputs.details gathered.bundle judged said) g

    came_keeps : (came : Came) (said : Answer)
        → VerifiesWay (given_by gathered (now_in asks)) layout.verification.way before.outside.verified after.outside.verified came
        → Follows None layout.outputs gathered.bundle came said before.outside.shelf after.outside.shelf result → Kept
    came_keeps (Untrusted why) said v f = untouched f.0
    came_keeps (Judged trust (Ok judged)) said v f =
        yields_keeps (record { asked = asks; trust = trust; given = v.0; trusted = v.1; judged = judged; accepted = v.2 }) refl judged said f
    came_keeps (Judged trust (Err e)) said v f = untouched f.0

    judged_keeps : JudgesOutputs layout.verification.way layout.outputs gathered (now_in asks) before.outside after.outside result → Kept
    judged_keeps j = by_concluded j.concludes
      where
        by_concluded : Concludes (telling_of gathered layout.verification.way.told) None layout.outputs gathered.bundle j.came before.outside.shelf after.outside.shelf result → Kept
        by_concluded (want_saying e kept eq) = untouched kept
        by_concluded (follows said a f) = came_keeps j.came said j.verifies f

  says_keeps : Says command before after result → Kept
  says_keeps (unstarted e s o eq) = inl (ap (λ (o : Outside). o.shelf.told) o)
  says_keeps (stopped other s o eq) = inl (ap (λ (o : Outside). o.shelf.told) o)
  says_keeps (begun layout gathered b j) = judged_keeps layout gathered b j

pub run_keeps : (command : Command) (before after : Environment) (result : Result Answer OutOfMemory) → Says command before after result → Keeps command before after
run_keeps command before after result s = by_kept (says_keeps command before after result s)
  where
    by_kept : Kept command before after result → Keeps command before after
    by_kept (inl same) = inl same
    by_kept (inr k) = inr k.2

-- out of memory nothing is
unsaid_keeps : (command : Command) (before after : Environment) (e : OutOfMemory) → Says command before after (Err e)
    → after.outside.shelf.told ≡ before.outside.shelf.told
unsaid_keeps command before after e s = by_kept (says_keeps command before after (Err e) s)
  where
    by_kept : Kept command before after (Err e) → after.outside.shelf.told ≡ before.outside.shelf.told
    by_kept (inl same) = same
    by_kept (inr k) = no_both k.0 e (sym k.1)

-- ---- the whole

module _ (command : Command) (before after : Environment) (out out' : Watched (List ℕ)) (ended : Status) where
  by_ends : (said : Result Answer OutOfMemory) → Says command before after said → EndsText said out out' ended → Means command before after out out' ended
  by_ends said s (ends_unsaid e is same h) =
      subst (Means command before after out out') (sym h) (same, unsaid_keeps command before after e (subst (Says command before after) is s))
  by_ends said s (ends_cut it fault is w h) = subst (Means command before after out out') (sym h) (inl w.failed)
  by_ends said s (ends_written it is w h) =
      subst (Means command before after out out') (sym h) (said_means command before after out out' it (subst (Says command before after) is s) w)

  pub run_means : RunsTo command before after out out' ended → Means command before after out out' ended
  run_means r = by_ends r.said r.says r.ends
