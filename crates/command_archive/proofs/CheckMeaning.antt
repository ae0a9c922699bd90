-- What each status of a run of `check` means, and what it puts in place.
use Rattle.std.proofs.Common.{◌≡◌, inl, inr, ℕ, List, Option, Some, None, Result, Ok, Err, refl, sym, ap, subst}
use Rattle.foundation.specs.Results.{ok_same, some_same, no_both}
use Rattle.foundation.specs.Watched.{Watched}
use Rattle.foundation.specs.declared.no_memory.NoMemory.{NoMemory}
use Rattle.sigstore_tuf_rules.specs.declared.chain.TrustChain.{TrustChain}
use Rattle.command_files.specs.Answer.{answer}
use Rattle.command_files.specs.Ending.{TakesAll, EndsText}
use Rattle.command_files.specs.Gather.{anchored_of}
use Rattle.command_files.specs.Starting.{Command, now_of, LacksInput, unstarted, stopped, begun}
use Rattle.command_files.specs.declared.answer.Answer.{Answer}
use Rattle.command_files.specs.declared.answer.Status.{Status}
use Rattle.command_files.specs.declared.answer.Status.TheVariants as status
use Rattle.command_files.proofs.Endings.{ends_so}
use Rattle.command_files.proofs.Starts.{stopped_means}
use Rattle.command_verify.specs.Run.{anchor_of}
use Rattle.command_download.specs.declared.shelf.Placed.{Placed}
use Rattle.command_archive.specs.declared.finding.CheckFault.{CheckFault}
use Rattle.command_archive.specs.declared.finding.CheckFault.TheVariants as fault
use Rattle.command_archive.specs.Check.{fault_answer, rollback_answer}
use Rattle.command_archive.specs.CheckRun.{Outside, Environment, Delivers, undelivered_answer, Checks, trusts, withholds, declines, wants, Says, Asked, FoundIs, Means, Shelves}
use Rattle.command_archive.specs.Layout.{check_layout_of}
use Rattle.command_archive.specs.Reading.{archive_answer}

module _ (command : Command) (before after : Environment) (out out' : Watched (List ℕ)) where
  abbrev M : Status → Type 0
  M s = Means command before after out out' s

  abbrev W : List ℕ → Type 0
  W text = TakesAll out out' text

  -- what an answer means that was written is what an equal one means
  as_said : (a b : Answer) → a ≡ b → (W a.text → M a.status) → W b.text → M b.status
  as_said a b e f = subst (λ (x : Answer). W x.text → M x.status) e f

  module _ (asked : Asked command before after) where
    declined_means : (why : CheckFault) (said : Answer) → FoundIs asked (Err why) → after.outside.shelf ≡ before.outside.shelf
        → fault_answer why ≡ Some said → W said.text → M said.status
    declined_means (fault.Archive e) said f s a =
        as_said _ said (some_same _ said a)
        (λ w. record { asked = asked; why = fault.Archive e; found = f; untouched = s; said = archive_answer e; said_is = refl; refused = refl; written = w })
    declined_means fault.Rollback said f s a =
        as_said _ said (some_same _ said a)
        (λ w. record { asked = asked; why = fault.Rollback; found = f; untouched = s; said = rollback_answer; said_is = refl; refused = refl; written = w })
    declined_means fault.Unread said f s a =
        as_said _ said (some_same _ said a) (λ w. inr (record { asked = asked; unread = f; untouched = s; written = w }))
    declined_means fault.NoMemory said f s a = cc

    checked_means : (said : Answer)
        → Checks (anchor_of asked.anchored (now_of asked.layout.places command.clock)) asked.layout.least asked.layout.trusted_root before.outside after.outside (Ok said)
        → W said.text → M said.status
    checked_means said (trusts chain text f t d eq) =
        as_said (answer status.Accepted text) said (sym (ok_same said (answer status.Accepted text) eq))
        (λ w. record { asked = asked; chain = chain; found = f; delivered = d; text = text; lines = t; written = w })
    checked_means said (withholds chain f u eq) =
        as_said undelivered_answer said (sym (ok_same said undelivered_answer eq))
        (λ w. inr (record { asked = asked; chain = chain; found = f; undelivered = u; written = w }))
    checked_means said (declines why other f s a eq) = as_said other said (sym (ok_same said other eq)) (declined_means why other f s a)
    checked_means said (wants e t eq) = no_both said e eq

  lacks_so : LacksInput before after out out' → M status.Input
  lacks_so l = inl l

  said_means : (said : Answer) → Says command before after (Ok said) → W said.text → M said.status
  said_means said (unstarted e s o eq) = no_both said e eq
  said_means said (stopped other s o eq) =
      as_said other said (sym (ok_same said other eq)) (stopped_means (check_layout_of command.words) anchored_of before after out out' M (λ m. m) lacks_so o other s)
  said_means said (begun layout anchored b c) = checked_means (record { layout = layout; anchored = anchored; begins = b }) said c

  pub check_means : (said : Result Answer NoMemory) (ended : Status) → Says command before after said → EndsText said out out' ended → M ended
  check_means said ended s e =
      ends_so (Says command before after) M (λ (a : Answer). a.status) (λ (a : Answer). a.text) said out out' ended s (λ same. same) (λ rose. inl rose) said_means e

-- ---- what is put in place

module _ (command : Command) (before after : Environment) where
  abbrev told_of : Watched (List Placed) → Option (List Placed)
  told_of w = w.told

  delivered_shelves : (asked : Asked command before after) (chain : TrustChain) → FoundIs asked (Ok chain) → (out : Option (List ℕ)) → asked.layout.trusted_root ≡ out
      → Delivers out chain.file before.outside.shelf after.outside.shelf → Shelves command before after
  delivered_shelves asked chain f None is d = inl (ap told_of d)
  delivered_shelves asked chain f (Some path) is d =
      inr (record { asked = asked; chain = chain; found = f; path = path; path_is = is; taken = d.puts })

  checked_shelves : (asked : Asked command before after) (result : Result Answer NoMemory)
      → Checks (anchor_of asked.anchored (now_of asked.layout.places command.clock)) asked.layout.least asked.layout.trusted_root before.outside after.outside result
      → Shelves command before after
  checked_shelves asked result (trusts chain text f t d eq) = delivered_shelves asked chain f asked.layout.trusted_root refl d
  checked_shelves asked result (withholds chain f u eq) = inl u.fails.puts
  checked_shelves asked result (declines why said f s a eq) = inl (ap told_of s)
  checked_shelves asked result (wants e t eq) = inl t

  pub check_shelves : (result : Result Answer NoMemory) → Says command before after result → Shelves command before after
  check_shelves result (unstarted e s o eq) = inl (ap (λ (x : Outside). x.shelf.told) o)
  check_shelves result (stopped said s o eq) = inl (ap (λ (x : Outside). x.shelf.told) o)
  check_shelves result (begun layout anchored b c) = checked_shelves (record { layout = layout; anchored = anchored; begins = b }) result c
