-- A walk over a certificate's extensions (RFC 5280, 4.1).
use Rattle.std.specs.Prelude.{◌≡◌, ℕ, zero, suc, List, [], ◌∷◌, length, Option, Some, None, Ok, Err, IsErr}
use Rattle.std.specs.Iterator.{YieldsFirstBy}
use Rattle.x509_views.specs.declared.extension.NamedExtension.{NamedExtension}
use Rattle.x509_views.specs.declared.walk.Extensions.{Extensions}
use Rattle.spki_core.specs.Reading.{Reading}
use Rattle.x509_views.specs.Extensions.{OneExtension, extension_at}
use Rattle.x509_views.specs.Views.{extension_parts}

-- the bytes of a certificate's extensions, one after the other; without them nothing
abbrev pub all_extensions : Option (List ℕ) → List ℕ
all_extensions None = []
all_extensions (Some list) = list

abbrev pub first_or : Reading (OneExtension × List ℕ) → (List ℕ → List OneExtension) → List OneExtension
first_or (Err e) later = []
first_or (Ok x) later = x.0 ∷ later x.1

-- the first of them, n at most; what is no extension ends the list
unfoldable pub walk_at : ℕ → List ℕ → List OneExtension
walk_at zero bytes = []
walk_at (suc n) bytes = first_or (extension_at bytes) (walk_at n)

unfoldable pub walk_of : List ℕ → List OneExtension
walk_of list = walk_at (length list) list

-- what a walk has still to read, as bytes and as extensions
abbrev pub left_of : Extensions → List ℕ
left_of walk = walk.rest.now

abbrev pub coming : Extensions → List OneExtension
coming walk = walk_of (left_of walk)

-- the first extension of what is left, or none where no extension comes first, at the end too
abbrev pub Steps : Extensions → Option NamedExtension → Extensions → Type 0
Steps old (Some extension) new = extension_at (left_of old) ≡ Ok (extension_parts extension, left_of new)
Steps old None new = IsErr (extension_at (left_of old)) × (left_of new ≡ left_of old)

-- the same of the bytes and of the extensions that come
pub record GivesExtension (old : Extensions) (r : Option NamedExtension) (new : Extensions) : Type 0 where
  pub step : Steps old r new
  pub first : YieldsFirstBy extension_parts coming old r new
