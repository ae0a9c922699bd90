-- Certificates that were read once.
use Rattle.std.specs.Prelude.{◌≡◌, ⊤, Option, Some, None, Ok, Err}
use Rattle.x509_views.specs.Certificates.{Certificate}
use Rattle.spki_core.specs.Reading.{Reading}
use Rattle.spki_core.specs.Spki.{Spki, spki_view_of}
use Rattle.spki_core.specs.Views.{spki_parts}
use Rattle.x509_views.specs.Views.{certificate_parts}
use Rattle.spki_core.specs.declared.spki.SpkiView.{SpkiView}
use Rattle.path_core.specs.declared.seen.Facts.{Facts}
use Rattle.path_core.specs.Traits.{traits_of}

abbrev pub IsKey : Reading Spki → Option SpkiView → Type 0
IsKey reading None = (spki : Spki) → ¬ (reading ≡ Ok spki)
IsKey reading (Some key) = reading ≡ Ok (spki_parts key)

pub record AreFacts (c : Certificate) (facts : Facts) : Type 0 where
  pub parts : c ≡ certificate_parts facts.view
  pub traits : facts.traits ≡ traits_of c
  pub key : IsKey (spki_view_of c.signed.middle.spki) facts.key

-- what is kept is what the bytes say
abbrev pub IsSeen : Reading Certificate → Option Facts → Type 0
IsSeen (Ok c) (Some facts) = AreFacts c facts
IsSeen (Ok c) None = ⊥
IsSeen (Err e) (Some facts) = ⊥
IsSeen (Err e) None = ⊤
