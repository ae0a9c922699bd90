-- What each status of a run over a list of bundles means, and what is in the statement's place.
use Rattle.std.proofs.Common.{◌≡◌, ◌≢◌, ◌⊎◌, inl, inr, ℕ, List, Option, Some, None, Result, Ok, Err, IfOk, refl, sym, ap, ◌∙◌, subst}
use Rattle.foundation.specs.Watched.{Watched}
use Rattle.foundation.specs.Results.{ok_same, some_same, no_both}
use Rattle.foundation.specs.declared.no_memory.NoMemory.{NoMemory as OutOfMemory}
use Rattle.sigstore_judgement.specs.declared.error.Error.{Error}
use Rattle.sigstore_judgement.specs.declared.error.Error.TheVariants.{NoMemory}
use Rattle.sigstore_judgement.specs.declared.rules.JudgedByRule.{JudgedByRule}
use Rattle.sigstore_judgement.specs.declared.rules.RulesError.TheVariants.{Shared}
use Rattle.release_gate.specs.Gate.{kept_of}
use Rattle.command_files.specs.Answer.{answer, stop_answer}
use Rattle.command_files.specs.Ending.{TakesAll, ends_unsaid, ends_cut, ends_written, EndsText}
use Rattle.command_files.specs.Gather.{ReadsAs}
use Rattle.command_files.specs.Inputs.{Supply}
use Rattle.command_files.specs.Starting.{Command, now_of, Begins, Stops, misworded, lacking, unstarted, stopped, begun}
use Rattle.command_files.specs.declared.answer.Answer.{Answer}
use Rattle.command_files.specs.declared.answer.Status.{Status}
use Rattle.command_files.specs.declared.answer.Status.TheVariants as status
use Rattle.command_files.specs.declared.gather.CommandStop.{CommandStop}
use Rattle.command_files.specs.declared.gather.CommandStop.TheVariants.{Words, Malformed, Input, Memory}
use Rattle.command_files.specs.declared.inputs.InputFile.{InputFile}
use Rattle.command_files.specs.declared.usage_fault.UsageFault.TheVariants.{Usage}
use Rattle.command_verify.specs.Run.{tuf_answer, verify_answer}
use Rattle.command_archive.specs.Reading.{archive_answer}
use Rattle.command_download.specs.declared.shelf.Placed.{Placed}
use Rattle.command_ways.specs.declared.judging.Came.TheVariants as ways
use Rattle.command_ways.specs.declared.report.Telling.{Telling}
use Rattle.command_ways.specs.declared.trust.Trust.{Trust}
use Rattle.command_ways.specs.declared.trust.TrustFault.{TrustFault}
use Rattle.command_ways.specs.declared.trust.TrustFault.TheVariants as fault
use Rattle.command_ways.specs.Report.{way_text, said_of, untrusted_answer, RefusesSo}
use Rattle.command_ways.specs.Trust.{file_of, IsTrusted}
use Rattle.command_ways.proofs.Saying.{text_there}
use Rattle.command_outputs.specs.declared.layout.OutputsLayout.{OutputsLayout}
use Rattle.command_outputs.specs.Payload.{payload_of}
use Rattle.command_outputs.specs.Concluding.{no_envelope_answer, unplaced_answer, told_answer, Puts, want_putting, unplaced, placed, Delivers, want_payload, no_envelope as without, delivered, Gives, Yields, want_lines, yields, Concludes, want_saying, follows}
use Rattle.command_outputs.specs.Run.{Outside, Environment}
use Rattle.command_outputs.specs.Promises.{IsGiven, IsUntouched}
use Rattle.command_bundles.specs.declared.judging.BundleRefusal.{BundleRefusal}
use Rattle.command_bundles.specs.declared.judging.ListCame.{ListCame}
use Rattle.command_bundles.specs.declared.judging.ListCame.TheVariants.{Untrusted, Unusable, Judged}
use Rattle.command_bundles.specs.declared.lines.ListFault.{ListFault}
use Rattle.command_bundles.specs.declared.lines.ListFault.TheVariants as list
use Rattle.command_bundles.specs.declared.lines.ListedBundle.{ListedBundle}
use Rattle.command_bundles.specs.declared.listed.Listed.{Listed}
use Rattle.command_bundles.specs.Concluding.{list_answer, refusals_answer, ConcludesFound, ConcludesList, ConcludesCame}
use Rattle.command_bundles.specs.Judging.{Search, found_as, VerifiesList}
use Rattle.command_bundles.specs.Layout.{bundles_layout_of}
use Rattle.command_bundles.specs.Lines.{listed_of}
use Rattle.command_bundles.specs.Listed.{listed_in}
use Rattle.command_bundles.specs.Run.{given_by, telling_of, JudgesBundles, unlisted, verified, Says, RunsTo}
use Rattle.command_bundles.specs.Promises.{Asked, now_in, anchor_in, TrustIs, SearchIs, IsUnder, IsAccepted, no_list, no_trust, unusable, none_accepted, no_envelope, IsDelivered, Means, Keeps}

module _ (command : Command) (before after : Environment) (out out' : Watched (List ℕ)) where
  abbrev M : Status → Type 0
  M s = Means command before after out out' s

  abbrev W : List ℕ → Type 0
  W text = TakesAll out out' text

  -- what an answer means that was written is what an equal one means
  as_said : (a b : Answer) → a ≡ b → (W a.text → M a.status) → W b.text → M b.status
  as_said a b e f = subst (λ (x : Answer). W x.text → M x.status) e f

  same_said : (said final : Answer) → (W said.text → M said.status) → ◌≡◌ {A = Result Answer OutOfMemory} (Ok final) (Ok said) → W final.text → M final.status
  same_said said final m eq = as_said said final (sym (ok_same final said eq)) m

  module _ (layout : OutputsLayout) (listed : Listed)
      (read : Begins (bundles_layout_of command.words) listed_in before.inputs after.inputs layout listed) where
    abbrev asked : Asked command before after
    asked = record { layout = layout; listed = listed; read = read }

    -- ---- where the list has no bundles

    unlisted_means : (why : ListFault) (said : Answer) → (why ≢ list.NoMemory → listed_of listed.list ≡ Err why) → after.outside ≡ before.outside
        → list_answer why ≡ Some said → W said.text → M said.status
    unlisted_means list.NoBundle said l o a =
        as_said _ said (some_same _ said a) (λ w. (no_list asked list.NoBundle _ (l (λ e. cc)) o refl w, ap (λ (x : Outside). x.shelf) o))
    unlisted_means list.TooManyBundles said l o a =
        as_said _ said (some_same _ said a) (λ w. (no_list asked list.TooManyBundles _ (l (λ e. cc)) o refl w, ap (λ (x : Outside). x.shelf) o))
    unlisted_means list.NoMemory said l o a = cc

    module _ (bundles : List ListedBundle) (lists : listed_of listed.list ≡ Ok bundles) where
      -- ---- where there is no trusted root

      untrusted_means : (why : TrustFault) (said : Answer) → TrustIs asked (Err why) → after.outside.verified.source ≡ before.outside.verified.source
          → untrusted_answer why ≡ Some said → IsUntouched before after → W said.text → M said.status
      unfolding tuf_answer
      untrusted_means (fault.Tuf e) said g u a k =
          as_said _ said (some_same _ said a) (λ w. (no_trust asked bundles (fault.Tuf e) (tuf_answer e) lists g u refl refl w, k))
      untrusted_means (fault.Archive e) said g u a k =
          as_said _ said (some_same _ said a) (λ w. (no_trust asked bundles (fault.Archive e) (archive_answer e) lists g u refl refl w, k))
      untrusted_means fault.Unread said g u a k =
          as_said _ said (some_same _ said a) (λ w. (inr (record { asked = asked; bundles = bundles; lists = lists; unread = g; untouched = u; written = w }), k))
      untrusted_means fault.NoMemory said g u a k = cc

      module _ (trust : Trust) (given : TrustIs asked (Ok trust)) (trusted : IsTrusted (anchor_in asked) trust) where
        abbrev under : IsUnder command before after
        under = record { asked = asked; bundles = bundles; lists = lists; trust = trust; given = given; trusted = trusted }

        -- ---- where it can't be used, or no bundle is accepted

        unusable_means : (e : Error) (said : Answer) → (e ≢ NoMemory → kept_of (file_of trust) ≡ Err e)
            → after.outside.verified.source ≡ before.outside.verified.source → RefusesSo (Shared e) said → IsUntouched before after → W said.text → M said.status
        unfolding verify_answer
        unusable_means e said fails u a k =
            as_said (verify_answer e) said (sym a.0) (λ w. (unusable under e u (fails (λ is. a.1 (ap (λ (d : Error). Shared d) is))) w, k))

        refusals_means : (refusals : List BundleRefusal) → SearchIs asked bundles trust (Err refusals) → IsUntouched before after
            → W (refusals_answer refusals).text → M (refusals_answer refusals).status
        refusals_means refusals s k w = (none_accepted under refusals s w, k)

        -- ---- where one is accepted

        module _ (bundle : ListedBundle) (judged : JudgedByRule) (first : SearchIs asked bundles trust (Ok (bundle, judged))) where
          abbrev is_accepted : IsAccepted command before after
          is_accepted = record { under = under; bundle = bundle; judged = judged; first = first }

          abbrev Reported : Answer → Type 0
          Reported report = said_of (way_text trust judged (telling_of listed layout.verification.way.told)) ≡ Some report

          abbrev told : Answer → Answer
          told report = told_answer (Some bundle.line) layout.outputs.details bundle.text judged report

          reported_means : (report said : Answer) → Reported report → said ≡ told report
              → IsGiven layout.outputs.statement bundle.text before.outside.shelf after.outside.shelf → W said.text → M said.status
          reported_means report said r same given_so =
              let text = text_there (anchor_in asked) trust judged (telling_of listed layout.verification.way.told) trusted in
              as_said (told (answer status.Accepted text.0)) said
              (ap told (some_same (answer status.Accepted text.0) report (sym (ap said_of text.1) ∙ r)) ∙ sym same)
              (λ w. record { accepted = is_accepted; given = given_so; text = text.0; reported = text.1; written = w })

          module _ (path : List ℕ) (named : layout.outputs.statement ≡ Some path) where
            put_means : (payload : List ℕ) (report said : Answer) → payload_of bundle.text ≡ Ok (Some payload) → Reported report
                → Puts path payload (told report) before.outside.shelf after.outside.shelf (Ok said) → W said.text → M said.status
            put_means payload report said signed r (want_putting e same eq) = no_both said e eq
            put_means payload report said signed r (unplaced p eq) =
                as_said unplaced_answer said (sym (ok_same said unplaced_answer eq))
                (λ w. inr (record {
                  accepted = is_accepted;
                  path = path;
                  payload = payload;
                  statement = record { named = named; signed = signed };
                  rose = p.failed refl;
                  same = p.puts;
                  written = w;
                }))
            put_means payload report said signed r (placed p eq) =
                reported_means report said r (ok_same said (told report) eq)
                (subst (λ (o : Option (List ℕ)). IsGiven o bundle.text before.outside.shelf after.outside.shelf) (sym named)
                (record { payload = payload; signed = signed; put = p.puts }))

            delivered_means : (report said : Answer) → Reported report
                → Delivers bundle.text path (told report) before.outside.shelf after.outside.shelf (Ok said) → W said.text → M said.status
            delivered_means report said r (want_payload e same eq) = no_both said e eq
            delivered_means report said r (without message same eq) =
                as_said no_envelope_answer said (sym (ok_same said no_envelope_answer eq)) (λ w. (no_envelope is_accepted path named message w, same))
            delivered_means report said r (delivered payload signed p) = put_means payload report said signed r p

          gives_means : (asked_file : Option (List ℕ)) → layout.outputs.statement ≡ asked_file → (report said : Answer) → Reported report
              → Gives asked_file bundle.text (told report) before.outside.shelf after.outside.shelf (Ok said) → W said.text → M said.status
          gives_means None none report said r g =
              reported_means report said r (ok_same said (told report) g.1)
              (subst (λ (o : Option (List ℕ)). IsGiven o bundle.text before.outside.shelf after.outside.shelf) (sym none) g.0)
          gives_means (Some path) some report said r g = delivered_means path some report said r g

          yields_means : (report said : Answer) → Reported report
              → Yields (Some bundle.line) layout.outputs bundle.text judged report before.outside.shelf after.outside.shelf (Ok said) → W said.text → M said.status
          yields_means report said r (want_lines e same eq) = no_both said e eq
          yields_means report said r (yields g) = gives_means layout.outputs.statement refl report said r g

          concluded_means : (said : Answer)
              → Concludes (telling_of listed layout.verification.way.told) (Some bundle.line) layout.outputs bundle.text (ways.Judged trust (Ok judged)) before.outside.shelf after.outside.shelf (Ok said)
              → W said.text → M said.status
          concluded_means said (want_saying e same eq) = no_both said e eq
          concluded_means said (follows report a f) = yields_means report said a f

        found_means : (search : Search) (said : Answer) → SearchIs asked bundles trust search
            → ConcludesFound (telling_of listed layout.verification.way.told) layout.outputs trust search before.outside.shelf after.outside.shelf (Ok said) → W said.text → M said.status
        found_means (Ok (bundle, judged)) said s c = concluded_means bundle judged s said c
        found_means (Err refusals) said s c = as_said (refusals_answer refusals) said (sym c.1) (refusals_means refusals s c.0)

      -- ---- whatever came of the list

      list_means : (came : ListCame) (said : Answer) → VerifiesList (given_by listed (now_in asked) bundles) layout.verification.way before.outside.verified after.outside.verified came
          → ConcludesList (telling_of listed layout.verification.way.told) layout.outputs came before.outside.shelf after.outside.shelf (Ok said) → W said.text → M said.status
      list_means (Untrusted why) said v c = untrusted_means why said v.0 v.1 c.1 c.0
      list_means (Unusable trust e) said v c = unusable_means trust v.0 v.1 e said v.2 v.3 c.1 c.0
      list_means (Judged trust found) said v c = found_means trust v.0 v.1 (found_as found) said v.2 c

      came_means : (came : Result ListCame OutOfMemory) (said : Answer)
          → IfOk came (VerifiesList (given_by listed (now_in asked) bundles) layout.verification.way before.outside.verified after.outside.verified)
          → ConcludesCame (telling_of listed layout.verification.way.told) layout.outputs came before.outside.shelf after.outside.shelf (Ok said) → W said.text → M said.status
      came_means (Ok came) said v c = list_means came said v c
      came_means (Err e) said v c = no_both said e c.1

    judged_means : (said : Answer) → JudgesBundles layout.verification.way layout.outputs listed (now_in asked) before.outside after.outside (Ok said) → W said.text → M said.status
    judged_means said (unlisted why l o a) = unlisted_means why said l o a
    judged_means said (verified bundles lists v) = came_means bundles lists v.came said v.verifies v.concludes

  -- ---- where the run is stopped

  abbrev environment : Supply → Outside → Environment
  environment inputs outside = record { inputs = inputs; outside = outside }

  same_environment : after.inputs ≡ before.inputs → after.outside ≡ before.outside → after ≡ before
  same_environment i o = ap (λ (x : Supply). environment x after.outside) i ∙ ap (λ (y : Outside). environment before.inputs y) o

  misused : (said : Answer) → bundles_layout_of command.words ≡ Err Usage → after.inputs ≡ before.inputs → after.outside ≡ before.outside
      → stop_answer Words ≡ Some said → W said.text → M said.status
  unfolding stop_answer
  misused said m i o a = as_said _ said (some_same _ said a) (λ w. inl (m, same_environment i o, w))

  lacks_so : (which : InputFile) (said : Answer) → ReadsAs listed_in before.inputs after.inputs (Err (Input which)) → after.outside ≡ before.outside
      → stop_answer (Input which) ≡ Some said → W said.text → M said.status
  unfolding stop_answer
  lacks_so which said r o a =
      as_said _ said (some_same _ said a)
      (λ w. (inl (record { which = which; missing = r.cause.0; why = r.err (λ e. cc); same = o; written = w }), ap (λ (x : Outside). x.shelf) o))

  malformed_so : (which : InputFile) (said : Answer) → ReadsAs listed_in before.inputs after.inputs (Err (Malformed which)) → after.outside ≡ before.outside
      → stop_answer (Malformed which) ≡ Some said → W said.text → M said.status
  unfolding stop_answer
  malformed_so which said r o a = as_said _ said (some_same _ said a) (λ w. inr (which, r.cause, o, w))

  unsaid : (said : Answer) → stop_answer Memory ≡ Some said → W said.text → M said.status
  unfolding stop_answer
  unsaid said a = cc

  by_stop : (stop : CommandStop) (said : Answer) → ReadsAs listed_in before.inputs after.inputs (Err stop) → after.outside ≡ before.outside → stop_answer stop ≡ Some said
      → W said.text → M said.status
  by_stop Words said r o a = absurd r.cause
  by_stop (Malformed which) said r o a = malformed_so which said r o a
  by_stop (Input which) said r o a = lacks_so which said r o a
  by_stop Memory said r o a = unsaid said a

  stopped_so : (said : Answer) → Stops (bundles_layout_of command.words) listed_in before.inputs after.inputs said → after.outside ≡ before.outside → W said.text → M said.status
  stopped_so said (misworded m i a) o = misused said m i o a
  stopped_so said (lacking stop l a) o = by_stop stop said l.refused o a

  said_means : (said : Answer) → Says command before after (Ok said) → W said.text → M said.status
  said_means said (unstarted e s o eq) = no_both said e eq
  said_means said (stopped other s o eq) = as_said other said (sym (ok_same said other eq)) (stopped_so other s o)
  said_means said (begun layout listed b j) = judged_means layout listed b said j

-- ---- what is in its place

module _ (command : Command) (before after : Environment) (result : Result Answer OutOfMemory) where
  -- nothing was put anywhere; or what is said tells that the statement was
  abbrev Kept : Type 0
  Kept = (after.outside.shelf.told ≡ before.outside.shelf.told) ⊎ ((report : Answer) × (result ≡ Ok report) × IsDelivered command before after)

  untouched : IsUntouched before after → Kept
  untouched same = inl (ap (λ (x : Watched (List Placed)). x.told) same)

  module _ (layout : OutputsLayout) (listed : Listed) (read : Begins (bundles_layout_of command.words) listed_in before.inputs after.inputs layout listed)
      (bundles : List ListedBundle) (lists : listed_of listed.list ≡ Ok bundles) where
    abbrev asks : Asked command before after
    asks = record { layout = layout; listed = listed; read = read }

    abbrev telling : Telling
    telling = telling_of listed layout.verification.way.told

    module _ (trust : Trust) (given : TrustIs asks (Ok trust)) (trusted : IsTrusted (anchor_in asks) trust) (bundle : ListedBundle) (judged : JudgedByRule)
        (first : SearchIs asks bundles trust (Ok (bundle, judged))) where
      abbrev accepted : IsAccepted command before after
      accepted = record {
        under = record { asked = asks; bundles = bundles; lists = lists; trust = trust; given = given; trusted = trusted };
        bundle = bundle;
        judged = judged;
        first = first;
      }

      put_keeps : (path payload : List ℕ) (report : Answer) → layout.outputs.statement ≡ Some path → payload_of bundle.text ≡ Ok (Some payload)
          → Puts path payload report before.outside.shelf after.outside.shelf result → Kept
      put_keeps path payload report named signed (want_putting e kept eq) = inl kept
      put_keeps path payload report named signed (unplaced p eq) = inl p.puts
      put_keeps path payload report named signed (placed p eq) =
          inr (
            report,
            eq,
            record { accepted = accepted; path = path; payload = payload; statement = record { named = named; signed = signed }; put = p.puts },
          )

      delivered_keeps : (path : List ℕ) (report : Answer) → layout.outputs.statement ≡ Some path
          → Delivers bundle.text path report before.outside.shelf after.outside.shelf result → Kept
      delivered_keeps path report named (want_payload e kept eq) = untouched kept
      delivered_keeps path report named (without message kept eq) = untouched kept
      delivered_keeps path report named (delivered payload signed p) = put_keeps path payload report named signed p

      gives_keeps : (asked_file : Option (List ℕ)) → layout.outputs.statement ≡ asked_file → (report : Answer)
          → Gives asked_file bundle.text report before.outside.shelf after.outside.shelf result → Kept
      gives_keeps None none report g = untouched g.0
      gives_keeps (Some path) some report g = delivered_keeps path report some g

      yields_keeps : (said : Answer) → Yields (Some bundle.line) layout.outputs bundle.text judged said before.outside.shelf after.outside.shelf result → Kept
      yields_keeps said (want_lines e kept eq) = untouched kept
      yields_keeps said (yields g) = gives_keeps layout.outputs.statement refl (told_answer (Some bundle.line) layout.outputs.details bundle.text judged said) g

      concluded_keeps : Concludes telling (Some bundle.line) layout.outputs bundle.text (ways.Judged trust (Ok judged)) before.outside.shelf after.outside.shelf result → Kept
      concluded_keeps (want_saying e kept eq) = untouched kept
      concluded_keeps (follows said a f) = yields_keeps said f

    found_keeps : (trust : Trust) → TrustIs asks (Ok trust) → IsTrusted (anchor_in asks) trust → (search : Search) → SearchIs asks bundles trust search
        → ConcludesFound telling layout.outputs trust search before.outside.shelf after.outside.shelf result → Kept
    found_keeps trust given trusted (Ok (bundle, judged)) s c = concluded_keeps trust given trusted bundle judged s c
    found_keeps trust given trusted (Err refusals) s c = untouched c.0

    list_keeps : (came : ListCame) → VerifiesList (given_by listed (now_in asks) bundles) layout.verification.way before.outside.verified after.outside.verified came
        → ConcludesList telling layout.outputs came before.outside.shelf after.outside.shelf result → Kept
    list_keeps (Untrusted why) v c = untouched c.0
    list_keeps (Unusable trust e) v c = untouched c.0
    list_keeps (Judged trust found) v c = found_keeps trust v.0 v.1 (found_as found) v.2 c

    came_keeps : (came : Result ListCame OutOfMemory)
        → IfOk came (VerifiesList (given_by listed (now_in asks) bundles) layout.verification.way before.outside.verified after.outside.verified)
        → ConcludesCame telling layout.outputs came before.outside.shelf after.outside.shelf result → Kept
    came_keeps (Ok came) v c = list_keeps came v c
    came_keeps (Err e) v c = untouched c.0

  judged_keeps : (layout : OutputsLayout) (listed : Listed) (read : Begins (bundles_layout_of command.words) listed_in before.inputs after.inputs layout listed)
      → JudgesBundles layout.verification.way layout.outputs listed (now_of layout.verification.places command.clock) before.outside after.outside result → Kept
  judged_keeps layout listed read (unlisted why l o a) = inl (ap (λ (x : Outside). x.shelf.told) o)
  judged_keeps layout listed read (verified bundles lists v) = came_keeps layout listed read bundles lists v.came v.verifies v.concludes

  says_keeps : Says command before after result → Kept
  says_keeps (unstarted e s o eq) = inl (ap (λ (o : Outside). o.shelf.told) o)
  says_keeps (stopped other s o eq) = inl (ap (λ (o : Outside). o.shelf.told) o)
  says_keeps (begun layout listed b j) = judged_keeps layout listed b j

pub run_keeps : (command : Command) (before after : Environment) (result : Result Answer OutOfMemory) → Says command before after result → Keeps command before after
run_keeps command before after result s = by_kept (says_keeps command before after result s)
  where
    by_kept : Kept command before after result → Keeps command before after
    by_kept (inl same) = inl same
    by_kept (inr k) = inr k.2

-- out of memory nothing is
unsaid_keeps : (command : Command) (before after : Environment) (e : OutOfMemory) → Says command before after (Err e)
    → after.outside.shelf.told ≡ before.outside.shelf.told
unsaid_keeps command before after e s = by_kept (says_keeps command before after (Err e) s)
  where
    by_kept : Kept command before after (Err e) → after.outside.shelf.told ≡ before.outside.shelf.told
    by_kept (inl same) = same
    by_kept (inr k) = no_both k.0 e (sym k.1)

-- ---- the whole

module _ (command : Command) (before after : Environment) (out out' : Watched (List ℕ)) (ended : Status) where
  by_ends : (said : Result Answer OutOfMemory) → Says command before after said → EndsText said out out' ended → Means command before after out out' ended
  by_ends said s (ends_unsaid e is same h) =
      subst (Means command before after out out') (sym h) (same, unsaid_keeps command before after e (subst (Says command before after) is s))
  by_ends said s (ends_cut it fault is w h) = subst (Means command before after out out') (sym h) (inl w.failed)
  by_ends said s (ends_written it is w h) =
      subst (Means command before after out out') (sym h) (said_means command before after out out' it (subst (Says command before after) is s) w)

  pub run_means : RunsTo command before after out out' ended → Means command before after out out' ended
  run_means r = by_ends r.said r.says r.ends
