-- What words tell, by the steps that lead to it.
use Rattle.std.proofs.Common.{◌≡◌, ◌≢◌, ℕ, List, [], Bool, if◌then◌else◌, Option, None, Result, Ok, Err, IfOk, IfErr, codes, sym, ap, ◌∙◌}
use Rattle.foundation.specs.Steps.{◌>>=◌}
use Rattle.sigstore_types_parts.specs.declared.hash_algorithm.HashAlgorithm.TheVariants.{Sha2256, Sha2384, Sha2512}
use Rattle.command_files.specs.Named.{Values, named_of}
use Rattle.command_files.specs.declared.usage_fault.UsageFault.{UsageFault}
use Rattle.command_files.specs.declared.usage_fault.UsageFault.TheVariants.{Usage, NoMemory}
use Rattle.command_ways.specs.declared.layout.WayLayout.{WayLayout}
use Rattle.command_ways.specs.Digests.{Digest, is_plain, told_at, or_told, told_by, told_from, plain_from}
use Rattle.command_ways.specs.Layout.{wanted, optional, way_in, way_under}

-- ---- the digest of a word

module _ (word : List ℕ) where
  abbrev R : Type 0
  R = Result (Option Digest) UsageFault

  abbrev sha256 : R
  sha256 = told_at (codes "--digest=sha256:") Sha2256 word

  abbrev sha384 : R
  sha384 = told_at (codes "--digest=sha384:") Sha2384 word

  abbrev sha512 : R
  sha512 = told_at (codes "--digest=sha512:") Sha2512 word

  abbrev other : R
  other = if is_plain word then Ok None else Err Usage

  abbrev behind : R → R → R
  behind first later = first >>= λ told. or_told told later

  pub told_third : (r : R) → sha256 ≡ Ok None → sha384 ≡ Ok None → sha512 ≡ r → told_by word ≡ behind r other
  unfolding told_by
  told_third r e f g =
      ap (λ x. behind x (behind sha384 (behind sha512 other))) e ∙ ap (λ x. behind x (behind sha512 other)) f ∙ ap (λ x. behind x other) g

  pub told_other : (t : Bool) → sha256 ≡ Ok None → sha384 ≡ Ok None → sha512 ≡ Ok None → is_plain word ≡ t → told_by word ≡ (if t then Ok None else Err Usage)
  told_other t e f g h = told_third (Ok None) e f g ∙ ap (λ (x : Bool). if x then Ok None else Err Usage) h

-- ---- the layout

module _ (command rows : List ℕ) (words plain : List (List ℕ)) (told : List Digest) (found : Values) (t : told_from [] words ≡ Ok told)
    (p : plain ≡ plain_from [] words) (n : named_of command (wanted rows) optional plain ≡ Ok found) where
  under_is : way_under command rows words ≡ way_in rows told found
  unfolding way_under
  under_is =
      ap (λ r. r >>= λ digests. named_of command (wanted rows) optional (plain_from [] words) >>= λ values. way_in rows digests values) t
      ∙ ap (λ list. named_of command (wanted rows) optional list >>= λ values. way_in rows told values) (sym p)
      ∙ ap (λ r. r >>= λ values. way_in rows told values) n

  pub laid_out : (result : Result WayLayout UsageFault) → IfOk result (λ l. way_in rows told found ≡ Ok l)
      → IfOk result (λ l. way_under command rows words ≡ Ok l)
  laid_out (Ok l) w = under_is ∙ w
  laid_out (Err e) w = tt

  pub not_laid_out : (result : Result WayLayout UsageFault) → IfErr result (λ e. e ≢ NoMemory → way_in rows told found ≡ Err e)
      → IfErr result (λ e. e ≢ NoMemory → way_under command rows words ≡ Err e)
  not_laid_out (Ok l) w = tt
  not_laid_out (Err e) w = λ other. under_is ∙ w other
