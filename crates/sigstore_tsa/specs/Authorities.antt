-- A token under the authorities of a trust file, whatever their order.
use Rattle.std.specs.Prelude.{◌≡◌, ◌↔◌, ℕ, List, [], ◌∷◌, Contains, Bool, true}
use Rattle.std.specs.Prelude.{false, if◌then◌else◌, Option, Some, None, Result, Ok, Err, ⊤}
use Rattle.std.specs.List.{list_any}
use Rattle.jiff_core.specs.declared.timestamp.Timestamp.{Timestamp}
use Rattle.sigstore_types.specs.declared.authority.TsaAuthority.{TsaAuthority}
use Rattle.sigstore_keys.specs.Good.{Judge}
use Rattle.sigstore_tsa_parts.specs.declared.error.Error.{Error}
use Rattle.sigstore_tsa_parts.specs.declared.error.Error.TheVariants.{TimestampOutsideValidity}
use Rattle.sigstore_tsa_parts.specs.Error.{Judged}
use Rattle.sigstore_tsa.specs.declared.authorities.TokenFault.{TokenFault}
use Rattle.sigstore_tsa.specs.declared.authorities.TokenFault.TheVariants.{Invalid, OutsideValidity, NoMemory}
use Rattle.sigstore_tsa.specs.declared.stamp.Stamp.{Stamp}
use Rattle.sigstore_tsa.specs.Stamp.{stamp_of}
use Rattle.sigstore_tsa.specs.Stamped.{under_of, Stamped, IsOutside}

-- ---- the answer

abbrev pub is_accepted : Judged ⊤ → Bool
is_accepted (Ok x) = true
is_accepted (Err e) = false

abbrev pub is_of_window : Error → Bool
is_of_window (TimestampOutsideValidity time) = true
is_of_window e = false

abbrev pub is_outside : Judged ⊤ → Bool
is_outside (Ok x) = false
is_outside (Err e) = is_of_window e

-- by whether some authority accepts, and by whether some refuses by its window alone
abbrev pub answered : Timestamp → Bool → Bool → Result Timestamp TokenFault
answered time accepted outside = if accepted then Ok time else if outside then Err (OutsideValidity time) else Err Invalid

-- Some authority accepts: then the token's time; else the refusal is of a window where one refuses by it alone. A token tells one time, so
-- that it doesn't matter which of them does.
abbrev pub under_any_of : Judge → Stamp → List TsaAuthority → Result Timestamp TokenFault
under_any_of accepts stamp authorities =
    answered stamp.time
    (list_any (λ authority. is_accepted (under_of accepts stamp authority)) authorities)
    (list_any (λ authority. is_outside (under_of accepts stamp authority)) authorities)

abbrev pub any_or_invalid : Judge → List TsaAuthority → Judged Stamp → Result Timestamp TokenFault
any_or_invalid accepts authorities (Ok stamp) = under_any_of accepts stamp authorities
any_or_invalid accepts authorities (Err e) = Err Invalid

-- The first authority that accepts, in the order of the trust file: the token counts as its own. Which one it is matters where tokens of
-- different authorities are asked for.
abbrev pub first_accepting : Judge → Stamp → List TsaAuthority → Option TsaAuthority
first_accepting accepts stamp [] = None
first_accepting accepts stamp (authority ∷ others) =
    if is_accepted (under_of accepts stamp authority) then Some authority else first_accepting accepts stamp others

abbrev pub first_or_none : Judge → List TsaAuthority → Judged Stamp → Option TsaAuthority
first_or_none accepts authorities (Ok stamp) = first_accepting accepts stamp authorities
first_or_none accepts authorities (Err e) = None

-- the authority of a token of a signature
unfoldable pub token_authority_of : Judge → List ℕ → List ℕ → List TsaAuthority → Option TsaAuthority
token_authority_of accepts token signature authorities = first_or_none accepts authorities (stamp_of token signature)

-- the time that a token tells of a signature under these authorities
unfoldable pub token_time_of : Judge → List ℕ → List ℕ → List TsaAuthority → Result Timestamp TokenFault
token_time_of accepts token signature authorities = any_or_invalid accepts authorities (stamp_of token signature)

-- ---- told without any order

-- one of the authorities stamped it then
pub record IsStamped (accepts : Judge) (token signature : List ℕ) (authorities : List TsaAuthority) (time : Timestamp) : Type 0 where
  pub authority : TsaAuthority
  pub among : Contains authorities authority
  pub stamped : Stamped accepts token signature authority time

-- none did, at whatever time
abbrev pub IsUnstamped : Judge → List ℕ → List ℕ → List TsaAuthority → Type 0
IsUnstamped accepts token signature authorities =
    (authority : TsaAuthority) (time : Timestamp) → Contains authorities authority → Stamped accepts token signature authority time → ⊥

-- it is one's, whose window alone hasn't the time
pub record IsOutsideOne (accepts : Judge) (token signature : List ℕ) (authorities : List TsaAuthority) (time : Timestamp) : Type 0 where
  pub authority : TsaAuthority
  pub among : Contains authorities authority
  pub outside : IsOutside accepts token signature authority time

-- it is none's whose window alone hasn't the time
abbrev pub IsOutsideNone : Judge → List ℕ → List ℕ → List TsaAuthority → Type 0
IsOutsideNone accepts token signature authorities =
    (authority : TsaAuthority) (time : Timestamp) → Contains authorities authority → IsOutside accepts token signature authority time → ⊥

-- what each refusal means
abbrev pub TokenMeans : Judge → List ℕ → List ℕ → List TsaAuthority → TokenFault → Type 0
TokenMeans accepts token signature authorities Invalid =
    IsUnstamped accepts token signature authorities × IsOutsideNone accepts token signature authorities
TokenMeans accepts token signature authorities (OutsideValidity time) =
    IsUnstamped accepts token signature authorities × IsOutsideOne accepts token signature authorities time
TokenMeans accepts token signature authorities NoMemory = ⊥

-- a time is given exactly where one of the authorities stamped the token then
abbrev pub TokensExactly : Type 0
TokensExactly = (accepts : Judge) (token signature : List ℕ) (authorities : List TsaAuthority) (time : Timestamp)
    → (token_time_of accepts token signature authorities ≡ Ok time) ↔ IsStamped accepts token signature authorities time

-- the authority whose a token counts as is one of them, and stamped it
abbrev pub CountedIsStamped : Type 0
CountedIsStamped = (accepts : Judge) (token signature : List ℕ) (authorities : List TsaAuthority) (time : Timestamp) (authority : TsaAuthority)
    → token_time_of accepts token signature authorities ≡ Ok time → token_authority_of accepts token signature authorities ≡ Some authority
    → Contains authorities authority × Stamped accepts token signature authority time

-- and each refusal comes only where it means so
abbrev pub RefusedTokens : Type 0
RefusedTokens = (accepts : Judge) (token signature : List ℕ) (authorities : List TsaAuthority) (fault : TokenFault)
    → token_time_of accepts token signature authorities ≡ Err fault → TokenMeans accepts token signature authorities fault
