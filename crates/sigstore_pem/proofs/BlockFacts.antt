-- The first block of a text.
use Rattle.std.proofs.Common.{◌≡◌, ◌≢◌, ℕ, ◌==◌, List, [], ◌∷◌, ◌++◌, length, nat_lt, Bool, true, false, cond, ◌&&◌, ◌||◌, bytes_eq, Option, Some, None, option_map, refl, sym, ap, ◌∙◌, append_assoc}
use Rattle.std.specs.Option.{option_and_then}
use Rattle.std.proofs.lemmas.List.{append-nil}
use Rattle.std.proofs.lemmas.Bool.{ne_eqb, eq-eqb}
use Rattle.sigstore_pem.specs.Pem.{is_opening, from_opening, is_first, base64_before, octets_of, block_of, begin_line, end_line, content_of, key_label, certificate_label, is_armored_text, lines_of}
use Rattle.sigstore_pem.specs.Laws.{HeldIsArmored}

abbrev Lines : Type 0
Lines = List (List ℕ)

-- the line opens the block
pub opening_here : (all rest next : Lines) (line : List ℕ) → from_opening all ≡ from_opening rest → rest ≡ line ∷ next → is_opening line ≡ true
    → from_opening all ≡ line ∷ next
unfolding from_opening
opening_here all rest next line e f h = e ∙ ap from_opening f ∙ rw h refl

-- it doesn't
pub opening_later : (all rest next : Lines) (line : List ℕ) → from_opening all ≡ from_opening rest → rest ≡ line ∷ next → is_opening line ≡ false
    → from_opening all ≡ from_opening next
unfolding from_opening
opening_later all rest next line e f h = e ∙ ap from_opening f ∙ rw h refl

pub opening_nowhere : (all rest : Lines) → from_opening all ≡ from_opening rest → rest ≡ [] → from_opening all ≡ []
unfolding from_opening
opening_nowhere all rest e f = e ∙ ap from_opening f

-- what is read behind what was taken
abbrev pub behind : List ℕ → Option (List ℕ) → Option (List ℕ)
behind taken o = option_map (λ text. taken ++ text) o

behind_both : (a b : List ℕ) (o : Option (List ℕ)) → behind a (behind b o) ≡ behind (a ++ b) o
behind_both a b None = refl
behind_both a b (Some x) = ap Some (sym (append_assoc a b x))

pub behind_none : (o : Option (List ℕ)) → o ≡ behind [] o
behind_none None = refl
behind_none (Some x) = refl

pub base64_ends : (end taken line : List ℕ) (all rest next : Lines) → base64_before end all ≡ behind taken (base64_before end rest) → rest ≡ line ∷ next
    → bytes_eq line end ≡ true → base64_before end all ≡ Some taken
unfolding base64_before
base64_ends end taken line all rest next e f h =
    let last : base64_before end (line ∷ next) ≡ Some [] = rw h refl in
    e ∙ ap (λ x. behind taken (base64_before end x)) f ∙ ap (behind taken) last ∙ ap Some (append-nil taken)

pub full_line : (end line : List ℕ) (next : Lines) → bytes_eq line end ≡ false → length line ≡ 64 → base64_before end (line ∷ next) ≡ behind line (base64_before end next)
unfolding base64_before
full_line end line next h n =
    let full : (length line == 64) ≡ true = eq-eqb _ _ n in
    rw (h, full) refl

pub last_line : (end line : List ℕ) (next : Lines) → bytes_eq line end ≡ false → length line ≢ 64
    → (nat_lt 0 (length line) && nat_lt (length line) 64 && is_first end next) ≡ true → base64_before end (line ∷ next) ≡ Some line
unfolding base64_before
last_line end line next h n k =
    let short : (length line == 64) ≡ false = ne_eqb _ _ n in
    rw (h, short, k) refl

pub base64_full : (end taken line : List ℕ) (all rest next : Lines) → base64_before end all ≡ behind taken (base64_before end rest) → rest ≡ line ∷ next
    → bytes_eq line end ≡ false → length line ≡ 64 → base64_before end all ≡ behind (taken ++ line) (base64_before end next)
base64_full end taken line all rest next e f h n =
    e ∙ ap (λ x. behind taken (base64_before end x)) f ∙ ap (behind taken) (full_line end line next h n) ∙ behind_both taken line (base64_before end next)

pub base64_last : (end taken line : List ℕ) (all rest next : Lines) → base64_before end all ≡ behind taken (base64_before end rest) → rest ≡ line ∷ next
    → bytes_eq line end ≡ false → length line ≢ 64 → (nat_lt 0 (length line) && nat_lt (length line) 64 && is_first end next) ≡ true
    → base64_before end all ≡ Some (taken ++ line)
base64_last end taken line all rest next e f h n k =
    e ∙ ap (λ x. behind taken (base64_before end x)) f ∙ ap (behind taken) (last_line end line next h n k)

pub base64_refused : (end taken line : List ℕ) (all rest next : Lines) → base64_before end all ≡ behind taken (base64_before end rest) → rest ≡ line ∷ next
    → bytes_eq line end ≡ false → length line ≢ 64 → (nat_lt 0 (length line) && nat_lt (length line) 64 && is_first end next) ≡ false
    → base64_before end all ≡ None
unfolding base64_before
base64_refused end taken line all rest next e f h n k =
    let short : (length line == 64) ≡ false = ne_eqb _ _ n in
    let more : base64_before end (line ∷ next) ≡ None = rw (h, short, k) refl in
    e ∙ ap (λ x. behind taken (base64_before end x)) f ∙ ap (behind taken) more

pub base64_open : (end taken : List ℕ) (all rest : Lines) → base64_before end all ≡ behind taken (base64_before end rest) → rest ≡ [] → base64_before end all ≡ None
unfolding base64_before
base64_open end taken all rest e f = e ∙ ap (λ x. behind taken (base64_before end x)) f

-- a block that holds something begins with its line
held_begins : (begin end held : List ℕ) (ls : Lines) → block_of begin end ls ≡ Some held → is_first begin ls ≡ true
held_begins begin end held [] h = cc h
held_begins begin end held (line ∷ ls) h =
    let go = elim (bytes_eq line begin) as (λ v. cond v (option_and_then octets_of (base64_before end ls)) None ≡ Some held → v ≡ true) [
      | true ↦ λ h. refl
      | false ↦ λ h. cc h
    ] in go h

or_right : (a b : Bool) → b ≡ true → (a || b) ≡ true
or_right true b h = refl
or_right false b h = h

pub held_armored : HeldIsArmored
unfolding content_of is_armored_text
held_armored = (
  (λ text key h. rw (held_begins (begin_line key_label) (end_line key_label) key (from_opening (lines_of text)) h) refl),
  (λ text key h. or_right _ _ (held_begins (begin_line certificate_label) (end_line certificate_label) key (from_opening (lines_of text)) h)),
)
