-- A text that is read as a checkpoint, parted.
use Rattle.std.proofs.Common.{◌≡◌, ℕ, ◌<◌, List, [], ◌∷◌, ◌++◌, length, take, true, false, cond, ◌==◌, Some, ok_or, Result, Ok, Err, refl, ap, sym, subst, ◌∙◌, arith, append_assoc}
use Rattle.std.specs.List.{onto_first}
use Rattle.std.specs.Result.{result_ok}
use Rattle.std.specs.Str.Lossy.{utf8_valid_len}
use Rattle.std.proofs.lemmas.Bool.{ne_eqb, eqb-true, eqb-false}
use Rattle.base64.specs.Engines.{standard}
use Rattle.base64.specs.GeneralPurpose.{decode_of}
use Rattle.base64.proofs.EngineFacts.{decode_of-encode_of, encode_of-nil}
use Rattle.std.proofs.Math.Seq.{take-append_seam}
use Rattle.foundation.specs.Steps.{◌>>=◌}
use Rattle.foundation.specs.Results.{step_ok, ok_same, no_both}
use Rattle.sigstore_types_parts.specs.declared.error.CheckpointRule.{CheckpointRule}
use Rattle.sigstore_types_parts.specs.declared.error.CheckpointRule.TheVariants.{Origin, Size, Root, Extension, Signature}
use Rattle.sigstore_types_parts.specs.declared.error.TypesError.{TypesError}
use Rattle.sigstore_types_parts.specs.declared.error.TypesError.TheVariants.{Checkpoint as broken}
use Rattle.sigstore_entries.specs.declared.checkpoint.Checkpoint.{Checkpoint}
use Rattle.sigstore_entries.specs.declared.signature_line.CheckpointSignature.{CheckpointSignature}
use Rattle.sigstore_entries.specs.declared.checkpoint_data.CheckpointData.{CheckpointData}
use Rattle.sigstore_entries.specs.Checkpoint.{lines_of, text_of, ended_of, line_of, origin_of, decimal_of, size_of, root_of, behind_extensions, signed_of, signatures_of, checkpoint_of, signed_data_of}
use Rattle.sigstore_entries.specs.Entry.{checkpoint_data_of, envelope_text_of}
use Rattle.sigstore_entries.specs.Laws.{IsParted, CheckpointsAreParted, EnvelopesAreKept}

abbrev Lines : Type 0
Lines = List (List ℕ)

abbrev head_of : Lines → List ℕ
head_of [] = []
head_of (line ∷ lines) = line

abbrev tail_of : Lines → Lines
tail_of [] = []
tail_of (line ∷ lines) = lines

nonzero : (n : ℕ) → ¬ (n ≡ 0) → 0 < n
nonzero n h = omega (arith, h)

-- ---- texts behind a line

-- what stands behind the line feed of the first line
record Behind (text line : List ℕ) (others : Lines) : Type 0 where
  text_behind : List ℕ
  whole : text ≡ line ++ (10 ∷ text_behind)
  lines : lines_of text_behind ≡ others

grown : (b : ℕ) (bs line : List ℕ) (others found : Lines) → lines_of bs ≡ found → onto_first b found ≡ line ∷ others → 0 < length others
    → ((l : List ℕ) → lines_of bs ≡ l ∷ others → Behind bs l others) → Behind (b ∷ bs) line others
grown b bs line others [] e f h more = absurd (let none : [] ≡ others = ap tail_of f in omega (arith, ap length none))
grown b bs line others (l ∷ ls) e f h more =
    let rest : ls ≡ others = ap tail_of f in
    let here = more l (e ∙ ap (λ x. l ∷ x) rest) in
    record { text_behind = here.text_behind; whole = ap (λ x. b ∷ x) here.whole ∙ ap (λ x. x ++ (10 ∷ here.text_behind)) (ap head_of f); lines = here.lines }

behind_first : (text line : List ℕ) (others : Lines) → lines_of text ≡ line ∷ others → 0 < length others → Behind text line others
behind_first [] line others e h = absurd (let none : [] ≡ others = ap tail_of e in omega (arith, ap length none))
behind_first (b ∷ bs) line others e h =
    let go = elim (b == 10) as (λ v. (b == 10) ≡ v → cond v ([] ∷ lines_of bs) (onto_first b (lines_of bs)) ≡ line ∷ others → Behind (b ∷ bs) line others) [
      | true ↦ λ q e. record { text_behind = bs; whole = ap (λ x. x ∷ bs) (eqb-true b 10 q) ∙ ap (λ x. x ++ (10 ∷ bs)) (ap head_of e); lines = ap tail_of e }
      | false ↦ λ q e. grown b bs line others (lines_of bs) refl e h (λ l f. behind_first bs l others f h)
    ] in go refl e

-- ---- the first three lines

record Ended (lines : Lines) (line : List ℕ) (others : Lines) : Type 0 where
  is : lines ≡ line ∷ others
  some : 0 < length others

ended : (rule : CheckpointRule) (lines : Lines) (p : List ℕ × Lines) → ended_of rule lines ≡ Ok p → Ended lines p.0 p.1
ended rule [] p h = no_both _ _ (sym h)
ended rule (line ∷ []) p h = no_both _ _ (sym h)
ended rule (line ∷ next ∷ lines) p h =
    let same : (line, next ∷ lines) ≡ p = ok_same _ _ h in
    record { is = ap (λ q. q.0 ∷ q.1) same; some = omega (arith, ap (λ q. length q.1) same) }

-- a line that is read, behind which there are others
record LineRead {T : Type 0} (reads : List ℕ → Result T TypesError) (lines : Lines) (v : T × Lines) : Type 0 where
  line : List ℕ
  ended : Ended lines line v.1
  read : reads line ≡ Ok v.0

line_read : {T : Type 0} (rule : CheckpointRule) (reads : List ℕ → Result T TypesError) (lines : Lines) (v : T × Lines)
    → line_of rule reads lines ≡ Ok v → LineRead reads lines v
unfolding line_of
line_read rule reads lines v h =
    let first = step_ok (ended_of rule lines) _ v h in
    let second = step_ok (reads first.0.0) _ v first.2 in
    let same : (second.0, first.0.1) ≡ v = ok_same _ _ second.2 in
    let e = ended rule lines first.0 first.1 in
    record {
      line = first.0.0;
      ended = record { is = e.is ∙ ap (λ q. first.0.0 ∷ q.1) same; some = omega (arith, e.some, ap (λ q. length q.1) same) };
      read = second.1 ∙ ap (λ q. Ok q.0) same;
    }

-- none of them is empty
origin_some : (line origin : List ℕ) → origin_of line ≡ Ok origin → 0 < length line
unfolding origin_of
origin_some [] origin h =
    let go = elim (utf8_valid_len [] == 0) as (λ v. ((cond v (Ok []) (Err (broken Origin))) >>= λ o. cond (length o == 0) (Err (broken Origin)) (Ok o)) ≡ Ok origin → 0 < length {A = ℕ} []) [
      | true ↦ λ h. no_both _ _ (sym h)
      | false ↦ λ h. no_both _ _ (sym h)
    ] in go h
origin_some (b ∷ line) origin h = omega arith

size_some : (line : List ℕ) (size : ℕ) → size_of line ≡ Ok size → 0 < length line
unfolding decimal_of
size_some [] size h =
    let go = elim (utf8_valid_len [] == 0) as (λ v. ((cond v (Ok []) (Err (broken Size))) >>= decimal_of) ≡ Ok size → 0 < length {A = ℕ} []) [
      | true ↦ λ h. no_both _ _ (sym h)
      | false ↦ λ h. no_both _ _ (sym h)
    ] in go h
size_some (b ∷ line) size h = omega arith

nothing_decoded : decode_of standard [] ≡ Ok []
nothing_decoded = ap (decode_of standard) (sym (encode_of-nil standard)) ∙ decode_of-encode_of standard [] refl (λ i. omega arith)

root_some : (line root : List ℕ) → root_of line ≡ Ok root → 0 < length line
unfolding root_of
root_some [] root h = no_both _ _ (sym (ap (λ r. ok_or (result_ok r) (broken Root) >>= λ octets. cond (length octets == 32) (Ok octets) (Err (broken Root))) (sym nothing_decoded) ∙ h))
root_some (b ∷ line) root h = omega arith

-- ---- what is signed

signed_first : (line : List ℕ) (others : Lines) → 0 < length line → 0 < length others → signed_of (line ∷ others) ≡ line ++ (10 ∷ signed_of others)
signed_first line [] h k = absurd (omega arith)
signed_first line (next ∷ lines) h k =
    let some : (length line == 0) ≡ false = ne_eqb _ _ (λ q. absurd (omega arith)) in
    rw some refl

-- a text is what is signed, an empty line and others
record Signed (text : List ℕ) (lines others : Lines) : Type 0 where
  behind : List ℕ
  whole : text ≡ signed_of lines ++ (10 ∷ behind)
  lines_behind : lines_of behind ≡ others

-- one more line is signed
signed_more : (text line : List ℕ) (lines rest others : Lines) → lines_of text ≡ lines → Ended lines line rest → 0 < length line
    → ((next : List ℕ) → lines_of next ≡ rest → Signed next rest others) → Signed text lines others
signed_more text line lines rest others e ends some more =
    let first = behind_first text line rest (e ∙ ends.is) ends.some in
    let then = more first.text_behind first.lines in
    record {
      behind = then.behind;
      whole = first.whole ∙ ap (λ x. line ++ (10 ∷ x)) then.whole ∙ sym (append_assoc line (10 ∷ signed_of rest) (10 ∷ then.behind))
          ∙ ap (λ x. x ++ (10 ∷ then.behind)) (sym (signed_first line rest some ends.some)) ∙ ap (λ x. signed_of x ++ (10 ∷ then.behind)) (sym ends.is);
      lines_behind = then.lines_behind;
    }

-- an empty line ends what is signed
signed_end : (text line : List ℕ) (next : List ℕ) (lines others : Lines) → lines_of text ≡ line ∷ next ∷ lines → length line ≡ 0 → next ∷ lines ≡ others
    → Signed text (line ∷ next ∷ lines) others
signed_end text (b ∷ line) next lines others e h f = absurd (omega arith)
signed_end text [] next lines others e h f =
    let first = behind_first text [] (next ∷ lines) e (omega arith) in
    record { behind = first.text_behind; whole = first.whole; lines_behind = first.lines ∙ f }

signed_before : (lines others : Lines) → behind_extensions lines ≡ Ok others → (text : List ℕ) → lines_of text ≡ lines → Signed text lines others
signed_before [] others h text e = no_both _ _ (sym h)
signed_before (line ∷ []) others h text e = no_both _ _ (sym h)
signed_before (line ∷ next ∷ lines) others h text e =
    let go = elim (length line == 0) as (λ v. (length line == 0) ≡ v → cond v (Ok (next ∷ lines)) (text_of Extension line >>= λ _. behind_extensions (next ∷ lines)) ≡ Ok others
    → Signed text (line ∷ next ∷ lines) others) [
      | true ↦ λ q h. signed_end text line next lines others e (eqb-true _ _ q) (ok_same _ _ h)
      | false ↦ λ q h.
          let more = step_ok (text_of Extension line) (λ _. behind_extensions (next ∷ lines)) others h in
          signed_more text line (line ∷ next ∷ lines) (next ∷ lines) others e (record { is = refl; some = omega arith }) (nonzero (length line) (eqb-false _ _ q))
          (signed_before (next ∷ lines) others more.2)
    ] in go refl h

-- ---- the whole

-- the checkpoint of what was read
abbrev made_of : List ℕ → List ℕ → List ℕ → ℕ → List ℕ → List CheckpointSignature → Checkpoint
made_of whole text origin size root signatures = record {
  text = whole;
  signed_length = length (signed_of (lines_of text));
  origin = origin;
  tree_size = size;
  root_hash = root;
  signatures = signatures;
}

-- what was signed is the front of the text
front_of : (text signed behind : List ℕ) (n : ℕ) → text ≡ signed ++ (10 ∷ behind) → n ≡ length signed → take n text ≡ signed
front_of text signed behind n e f = ap (λ k. take k text) f ∙ ap (take (length signed)) e ∙ take-append_seam signed (10 ∷ behind)

parted_by : (text : List ℕ) (made : Checkpoint) (others : Lines) → Signed text (lines_of text) others → signatures_of others ≡ Ok made.signatures
    → made.text ≡ text → made.signed_length ≡ length (signed_of (lines_of text)) → IsParted text made
parted_by text made others signed read same long =
    let front : signed_data_of made ≡ signed_of (lines_of text) =
    ap (take made.signed_length) same ∙ front_of text (signed_of (lines_of text)) signed.behind made.signed_length signed.whole long in
    record {
      kept = same;
      behind = signed.behind;
      whole = signed.whole ∙ ap (λ x. x ++ (10 ∷ signed.behind)) (sym front);
      signed_by = ap signatures_of signed.lines_behind ∙ read;
    }

-- the first three lines are signed
signed_lines : (text : List ℕ) (a : List ℕ × Lines) (b : ℕ × Lines) (c : List ℕ × Lines) (others : Lines) → line_of Origin origin_of (lines_of text) ≡ Ok a
    → line_of Size size_of a.1 ≡ Ok b → line_of Root root_of b.1 ≡ Ok c → behind_extensions c.1 ≡ Ok others → Signed text (lines_of text) others
signed_lines text a b c others e f g h =
    let origin = line_read Origin origin_of (lines_of text) a e in
    let size = line_read Size size_of a.1 b f in
    let root = line_read Root root_of b.1 c g in
    let third : (t : List ℕ) → lines_of t ≡ b.1 → Signed t b.1 others = λ t e. signed_more t root.line b.1 c.1 others e root.ended (root_some root.line c.0 root.read) (signed_before c.1 others h) in
    let second : (t : List ℕ) → lines_of t ≡ a.1 → Signed t a.1 others = λ t e. signed_more t size.line a.1 b.1 others e size.ended (size_some size.line b.0 size.read) third in
    signed_more text origin.line (lines_of text) a.1 others refl origin.ended (origin_some origin.line a.0 origin.read) second

-- the whole is the text
whole_same : (text whole : List ℕ) → text_of Signature text ≡ Ok whole → text ≡ whole
whole_same text whole h =
    let go = elim (utf8_valid_len text == length text) as (λ v. cond v (Ok text) (Err (broken Signature)) ≡ Ok whole → text ≡ whole) [
      | true ↦ λ h. ok_same _ _ h
      | false ↦ λ h. no_both _ _ (sym h)
    ] in go h

pub parted : CheckpointsAreParted
unfolding checkpoint_of
parted text checkpoint h =
    let a = step_ok (line_of Origin origin_of (lines_of text)) _ checkpoint h in
    let b = step_ok (line_of Size size_of a.0.1) _ checkpoint a.2 in
    let c = step_ok (line_of Root root_of b.0.1) _ checkpoint b.2 in
    let d = step_ok (behind_extensions c.0.1) _ checkpoint c.2 in
    let e = step_ok (signatures_of d.0) _ checkpoint d.2 in
    let f = step_ok (text_of Signature text) _ checkpoint e.2 in
    let made = made_of text text a.0.0 b.0.0 c.0.0 e.0 in
    let is : made_of f.0 text a.0.0 b.0.0 c.0.0 e.0 ≡ checkpoint = ok_same _ _ f.2 in
    subst (IsParted text) is (subst (λ whole. IsParted text (made_of whole text a.0.0 b.0.0 c.0.0 e.0)) (whole_same text f.0 f.1)
    (parted_by text made d.0 (signed_lines text a.0 b.0 c.0 d.0 a.1 b.1 c.1 d.1) e.1 refl refl))

pub kept : EnvelopesAreKept
kept [] held h = ap envelope_text_of (sym (ok_same _ _ h))
kept (b ∷ text) held h =
    let some : (length (b ∷ text) == 0) ≡ false = ne_eqb _ _ (λ q. absurd (omega arith)) in
    let holds : Checkpoint → Result CheckpointData TypesError = λ c. Ok (record { checkpoint = Some c }) in
    let same : checkpoint_data_of (b ∷ text) ≡ (checkpoint_of (b ∷ text) >>= holds) = rw some refl in
    let read = step_ok (checkpoint_of (b ∷ text)) holds held (sym same ∙ h) in
    ap envelope_text_of (sym (ok_same _ _ read.2)) ∙ (parted (b ∷ text) read.0 read.1).kept
