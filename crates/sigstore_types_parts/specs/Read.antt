-- What a JSON value reads as. `of` says what the crate's error is for a misreading.
use Rattle.std.specs.Prelude.{ℕ, List, Bool, [], ◌∷◌, Option, Some, None, Result, Ok, Err, option_and_then, is_some, if◌then◌else◌, ok_or}
use Rattle.serde_json.specs.Data.{Data, Items, no_items, item, Members, no_members, member}
use Rattle.serde_json.specs.Find.{get, as_null, as_bool, as_number, as_u64, as_str, as_array, as_object}
use Rattle.jiff_core.specs.declared.timestamp.Timestamp.{Timestamp}
use Rattle.sigstore_types_parts.specs.Instant.{instant_of}
use Rattle.foundation.specs.Steps.{◌>>=◌}
use Rattle.sigstore_types_parts.specs.declared.misread.Misread.{Misread}
use Rattle.sigstore_types_parts.specs.declared.misread.Misread.TheVariants.{Shape}

-- the refusal of what stands at a member
abbrev pub at : {T E : Type 0} → (E → E) → Result T E → Result T E
at place (Ok x) = Ok x
at place (Err e) = Err (place e)

-- an object
abbrev pub object_of : {E : Type 0} → (Misread → E) → Data → Result Data E
object_of of d = if is_some (as_object d) then Ok d else Err (of Shape)

-- a value that is there, or null
abbrev pub nullable_of : {T E : Type 0} → (Data → Result T E) → Data → Result (Option T) E
nullable_of reads d = if is_some (as_null d) then Ok None else (reads d >>= λ x. Ok (Some x))

abbrev pub required_in : {T E : Type 0} → E → (Data → Result T E) → Option Data → Result T E
required_in shape reads None = Err shape
required_in shape reads (Some d) = reads d

abbrev pub optional_in : {T E : Type 0} → (Data → Result T E) → Option Data → Result (Option T) E
optional_in reads None = Ok None
optional_in reads (Some d) = nullable_of reads d

abbrev pub defaulted_in : {T E : Type 0} → (Data → Result T E) → T → Option Data → Result T E
defaulted_in reads default None = Ok default
defaulted_in reads default (Some d) = reads d

-- the member of that name
unfoldable pub required_of : {T E : Type 0} → (Misread → E) → (E → E) → (Data → Result T E) → List ℕ → Data → Result T E
required_of of place reads name d = object_of of d >>= λ o. at place (required_in (of Shape) reads (get name o))

-- the member of that name, if it is there and not null
unfoldable pub optional_of : {T E : Type 0} → (Misread → E) → (E → E) → (Data → Result T E) → List ℕ → Data → Result (Option T) E
optional_of of place reads name d = object_of of d >>= λ o. at place (optional_in reads (get name o))

-- the member of that name, or the default where it is absent; null is read like any other value
unfoldable pub defaulted_of : {T E : Type 0} → (Misread → E) → (E → E) → (Data → Result T E) → List ℕ → T → Data → Result T E
defaulted_of of place reads name default d = object_of of d >>= λ o. at place (defaulted_in reads default (get name o))

abbrev pub u64_of : {E : Type 0} → (Misread → E) → Data → Result ℕ E
u64_of of d = ok_or (option_and_then as_u64 (as_number d)) (of Shape)

abbrev pub text_of : {E : Type 0} → (Misread → E) → Data → Result (List ℕ) E
text_of of d = ok_or (as_str d) (of Shape)

abbrev pub bool_of : {E : Type 0} → (Misread → E) → Data → Result Bool E
bool_of of d = ok_or (as_bool d) (of Shape)

-- each item, in order
abbrev pub items_of : {T E : Type 0} → (Data → Result T E) → Items → Result (List T) E
items_of reads no_items = Ok []
items_of reads (item d ds) = reads d >>= λ x. (items_of reads ds >>= λ rest. Ok (x ∷ rest))

unfoldable pub sequence_of : {T E : Type 0} → (Misread → E) → (Data → Result T E) → Data → Result (List T) E
sequence_of of reads d = ok_or (as_array d) (of Shape) >>= items_of reads

-- each member, in order
abbrev pub entries_of : {T E : Type 0} → (Data → Result T E) → Members → Result (List (List ℕ × T)) E
entries_of reads no_members = Ok []
entries_of reads (member k d ms) = reads d >>= λ x. (entries_of reads ms >>= λ rest. Ok ((k, x) ∷ rest))

unfoldable pub map_of : {T E : Type 0} → (Misread → E) → (Data → Result T E) → Data → Result (List (List ℕ × T)) E
map_of of reads d = ok_or (as_object d) (of Shape) >>= entries_of reads

abbrev pub json_of : {E : Type 0} → Data → Result Data E
json_of d = Ok d

-- the instant that a text names
abbrev pub moment_of : {E : Type 0} → (Misread → E) → Data → Result Timestamp E
moment_of of d = ok_or (option_and_then instant_of (as_str d)) (of Shape)
