-- A file of a folder as a source, while it is read.
use Rattle.std.proofs.Common.{◌≡◌, ℕ, ◌+◌, ◌<◌, ◌≤◌, List, [], ◌++◌, length, take, drop, Option, Some, None, refl, sym, ap, ◌∙◌, append-nil, arith, length-append}
use Rattle.std.specs.Prelude.{IfSome, option_map}
use Rattle.std.specs.Io.KnownBytes.{prepend_known, IsAtEnd}
use Rattle.foundation.specs.Watched.{IfTold}
use Rattle.foundation.specs.Results.{some_same}
use Rattle.sigstore_keys.proofs.Parts.{prepend_more}
use Rattle.release_gate.specs.Folder.{Contents, IsPiece, left_of}

-- the promise of a reading at an offset
abbrev pub Gives : Option Contents → List ℕ → ℕ → List ℕ → ℕ → Type 0
Gives told name offset buf count = IfTold told (λ contents. IfSome (contents.files name) (λ bytes. IsPiece bytes offset buf count))

by_file : (file : Option (List ℕ)) (offset count : ℕ) (buf : List ℕ) → IfSome file (λ bytes. IsPiece bytes offset buf count)
    → option_map (drop offset) file ≡ prepend_known (take count buf) (option_map (drop (offset + count)) file)
by_file None offset count buf piece = refl
by_file (Some bytes) offset count buf piece = ap Some piece.given

-- what is left loses what was given
pub gives_piece : (told : Option Contents) (name : List ℕ) (offset count : ℕ) (buf : List ℕ) → Gives told name offset buf count
    → left_of told name offset ≡ prepend_known (take count buf) (left_of told name (offset + count))
gives_piece None name offset count buf gives = refl
gives_piece (Some contents) name offset count buf gives = by_file (contents.files name) offset count buf gives

file_ended : (file : Option (List ℕ)) (offset count : ℕ) (buf : List ℕ) → IfSome file (λ bytes. IsPiece bytes offset buf count) → count ≡ 0 → 0 < length buf
    → IsAtEnd (option_map (drop (offset + count)) file)
file_ended None offset count buf piece none room = tt
file_ended (Some bytes) offset count buf piece none room = piece.ended none room

-- where nothing is given, nothing is left
pub gives_end : (told : Option Contents) (name : List ℕ) (offset count : ℕ) (buf : List ℕ) → Gives told name offset buf count → count ≡ 0 → 0 < length buf
    → IsAtEnd (left_of told name (offset + count))
gives_end None name offset count buf gives none room = tt
gives_end (Some contents) name offset count buf gives none room = file_ended (contents.files name) offset count buf gives none room

-- what was taken grows by what was given
pub next_given : (start : Option (List ℕ)) (old new : Option Contents) (name bytes : List ℕ) (offset count : ℕ) (buf : List ℕ) → new ≡ old → offset ≡ length bytes → length (take count buf) ≡ count
    → Gives old name offset buf count → start ≡ prepend_known bytes (left_of old name (length bytes))
    → start ≡ prepend_known (bytes ++ take count buf) (left_of new name (length (bytes ++ take count buf)))
next_given start old new name bytes offset count buf same at full gives given =
    let behind : length (bytes ++ take count buf) ≡ offset + count = omega (arith, length-append bytes (take count buf), at, full) in
    prepend_more start (left_of old name (length bytes)) (left_of new name (length (bytes ++ take count buf))) bytes (take count buf) given
    (ap (left_of old name) (sym at) ∙ gives_piece old name offset count buf gives ∙ ap (λ o. prepend_known (take count buf) (left_of old name o)) (sym behind)
    ∙ ap (λ t. prepend_known (take count buf) (left_of t name (length (bytes ++ take count buf)))) (sym same))

pub prepend_nothing : (o : Option (List ℕ)) → o ≡ prepend_known [] o
prepend_nothing None = refl
prepend_nothing (Some bytes) = refl

-- ---- the whole of a file

-- what holds of told contents, where they are told
pub told_all : {A : Type 0} (told : Option A) (P : A → Type 0) → ((content : A) → told ≡ Some content → P content) → IfTold told P
told_all None P f = tt
told_all (Some content) P f = f content refl

pub left_is : (told : Option Contents) (contents : Contents) (name bytes : List ℕ) → told ≡ Some contents → contents.files name ≡ Some bytes → left_of told name 0 ≡ Some bytes
left_is told contents name bytes t f = ap (λ o. left_of o name 0) t ∙ ap (option_map (drop 0)) f

-- bytes that were given up to the end are all of them
pub all_given : (told left : Option (List ℕ)) (bytes given : List ℕ) → told ≡ Some bytes → told ≡ prepend_known given left → IsAtEnd left → given ≡ bytes
all_given told None bytes given t g end = let both = sym t ∙ g in cc
all_given told (Some rest) bytes given t g end = sym (some_same bytes (given ++ rest) (sym t ∙ g) ∙ ap (λ x. given ++ x) end ∙ append-nil given)

-- bytes that were given aren't more than all
pub some_given : (told left : Option (List ℕ)) (bytes given : List ℕ) → told ≡ Some bytes → told ≡ prepend_known given left → length given ≤ length bytes
some_given told None bytes given t g = let both = sym t ∙ g in cc
some_given told (Some rest) bytes given t g =
    let whole = ap length (some_same bytes (given ++ rest) (sym t ∙ g)) in
    omega (arith, whole, length-append given rest)
