-- The layout of words, from those that were sorted.
use Rattle.std.proofs.Common.{◌≡◌, ℕ, List, Result, Ok, Err, ap, ◌∙◌}
use Rattle.foundation.specs.Steps.{◌>>=◌}
use Rattle.sigstore_tuf_causes.proofs.RolesMet.{step_to}
use Rattle.command_files.specs.Layout.{Form, layout_under}
use Rattle.command_files.specs.declared.layout.Layout.{Layout}
use Rattle.command_files.specs.declared.usage_fault.UsageFault.{UsageFault}
use Rattle.command_download.specs.declared.layout.Sorted.{Sorted}
use Rattle.command_download.specs.Layout.{sorted_of, laid_of}

module _ (form : Form) (words : List (List ℕ)) (s : Sorted) (sorted : sorted_of words ≡ Ok s) where
  pub laid_so : (places : Layout) → layout_under form s.plain ≡ Ok places → laid_of form words ≡ Ok (record { places = places; downloads = s.downloads })
  laid_so places h = step_to (sorted_of words) _ s sorted ∙ step_to (layout_under form s.plain) _ places h

  pub not_laid_so : (e : UsageFault) → layout_under form s.plain ≡ Err e → laid_of form words ≡ Err e
  not_laid_so e h =
      step_to (sorted_of words) _ s sorted
      ∙ ap (λ (r : Result Layout UsageFault). r >>= λ places. Ok (record { places = places; downloads = s.downloads })) h
