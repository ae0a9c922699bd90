-- The questions that are open.
use Rattle.std.proofs.Common.{◌≡◌, ℕ, List, [], ◌++◌, Bool, true, false, cond, not, ◌||◌, length, string_bytes, Option, Some, None, is_some, option_copied, Bor, Result, Ok, Err, IfOk, refl, sym, ap, ◌∙◌, subst}
use Rattle.foundation.specs.declared.no_memory.NoMemory.{NoMemory}
use Rattle.sigstore_keys.specs.declared.scheme.SigningScheme.{SigningScheme}
use Rattle.command_files.specs.Rows.{AcceptRows, accepts_of, is_subject}
use Rattle.question_notes.specs.Lines.{accept_line}
use Rattle.question_notes.specs.Notes.{Seen, row_of, rows_with, has_room, signature_noted}
use Rattle.question_notes.specs.Seen.{seen_of}
use Rattle.question_notes.specs.declared.noted.Noted.{Noted}
use Rattle.given_objects.specs.Given.{at_file, has_name}
use Rattle.embedded_verify.specs.Lines.{file_line}
use Rattle.embedded_verify.specs.Means.{AsksRows, no_row, one_row, AsksFile, no_file, one_file}
use Rattle.embedded_verify.specs.declared.request.Request.{Request}

module _ (good bad : AcceptRows) where
  abbrev Asks : Seen → Type 0
  Asks seen = AsksRows good bad seen.text

  by_test : (b : Bool) (seen more : Seen) → Asks seen → Asks more → Asks (cond b seen more)
  by_test true seen more h k = h
  by_test false seen more h k = k

  -- what can't be a row isn't noted
  by_subject : (fits known full : Bool) (seen more : Seen) → Asks seen → (fits ≡ true → Asks more) → Asks (cond (not fits || known || full) seen more)
  by_subject false known full seen more h k = h
  by_subject true known full seen more h k = by_test (known || full) seen more h (k refl)

  -- with a question that isn't answered
  pub one_more : (r : Result Noted NoMemory) (before : Noted) (scheme : SigningScheme) (key subject signature : List ℕ) → AsksRows good bad (string_bytes before.text)
      → accepts_of good scheme key subject signature ≡ false → accepts_of bad scheme key subject signature ≡ false
      → IfOk r (λ noted. seen_of noted ≡ signature_noted scheme key subject signature (seen_of before))
      → IfOk r (λ noted. AsksRows good bad (string_bytes noted.text))
  one_more (Ok noted) before scheme key subject signature asks not_good not_bad is =
      let seen : Seen = seen_of before in
      let more : Seen = record { tables = rows_with (row_of scheme key subject signature) seen.tables; text = seen.text ++ accept_line scheme key subject signature } in
      subst Asks (sym is)
      (by_subject (is_subject scheme subject) (accepts_of seen.tables.provider.rows scheme key subject signature)
      (not (has_room seen.text (length key) (length subject) (length signature))) seen more asks
      (λ fits. one_row seen.text scheme key subject signature asks fits not_good not_bad))
  one_more (Err e) before scheme key subject signature asks not_good not_bad is = tt

  -- no question at all
  pub none : (text : List ℕ) → text ≡ [] → AsksRows good bad text
  none text e = subst (AsksRows good bad) (sym e) no_row

-- ---- the file that is wanted

-- no file
pub no_wanted : (request : Request) (text : List ℕ) → text ≡ [] → AsksFile request text
no_wanted request text e = subst (AsksFile request) (sym e) no_file

not_found : {A : Type 0} (r : Option (Bor A)) (x : Option A) → option_copied r ≡ x → is_some r ≡ false → x ≡ None
not_found None x e n = sym e
not_found (Some y) x e n = cc

-- a file of which nothing is known
pub one_wanted : (request : Request) (before text name : List ℕ) (max : ℕ) (r : Option (Bor (List ℕ))) → before ≡ [] → text ≡ before ++ file_line name max
    → option_copied r ≡ at_file name request.repository.now → is_some r ≡ false → has_name name request.absent.now ≡ false → request.whole ≡ false → AsksFile request text
one_wanted request before text name max r e written found n absent whole =
    subst (AsksFile request) (sym (written ∙ ap (λ b. b ++ file_line name max) e)) (one_file name max (not_found r _ found n) absent whole)
