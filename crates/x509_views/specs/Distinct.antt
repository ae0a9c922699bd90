-- The identifiers of extensions, how a list of extensions ends, and what a check over memory answers.
use Rattle.std.specs.Prelude.{ℕ, zero, suc, ◌≢◌, ◌||◌, List, [], ◌∷◌, Bool, false, Option, Some, None, Ok, Err, length, bytes_eq}
use Rattle.std.specs.List.{list_any}
use Rattle.der_grammar.specs.declared.error.DerError.TheVariants.{Truncated}
use Rattle.spki_core.specs.declared.error.X509Error.{X509Error}
use Rattle.spki_core.specs.declared.error.X509Error.TheVariants.{Der, NoMemory}
use Rattle.spki_core.specs.Reading.{Reading}
use Rattle.x509_views.specs.Extensions.{OneExtension, extension_at}

-- identifiers in reading order, and whether the end comes behind them or what is no extension
abbrev pub Listed : Type 0
Listed = List (List ℕ) × Reading (Unit {0})

abbrev pub listed_or : Reading (OneExtension × List ℕ) → (List ℕ → Listed) → Listed
listed_or (Err e) later = ([], Err e)
listed_or (Ok x) later = (x.0.oid ∷ (later x.1).0, (later x.1).1)

-- of at most n extensions
unfoldable pub listed_at : ℕ → List ℕ → Listed
listed_at n [] = ([], Ok tt)
listed_at zero (b ∷ bytes) = ([], Err (Der Truncated))
listed_at (suc n) (b ∷ bytes) = listed_or (extension_at (b ∷ bytes)) (listed_at n)

unfoldable pub listed_of : List ℕ → Listed
listed_of list = listed_at (length list) list

-- whether a text stands twice
abbrev pub repeats : List (List ℕ) → Bool
repeats [] = false
repeats (x ∷ xs) = list_any (λ y. bytes_eq y x) xs || repeats xs

-- whether an error refuses the bytes: with memory, want of it doesn't
abbrev pub IsRefusal : {A : Type 0} → Option A → X509Error → Type 0
IsRefusal None e = Unit {0}
IsRefusal (Some alloc) e = e ≢ NoMemory
