-- When two JSON values are the same: field by field, with any two floats alike.
use Rattle.std.specs.Prelude.{◌&&◌, Bool, true, false, ◌==◌, bytes_eq}
use Rattle.std.specs.Bool.{beq}
use Rattle.std.specs.Ordering.{int_eq}
use Rattle.serde_json.specs.Data.{Num, unsigned, negative, float, Data, null, boolean, number, string, array, object}
use Rattle.serde_json.specs.Data.{Items, no_items, item, Members, no_members, member}

-- unsigned and negative numbers by their number
abbrev pub same_number : Num → Num → Bool
same_number (unsigned m) (unsigned n) = m == n
same_number (negative y) (negative z) = int_eq y z
same_number (float x) (float y) = true
same_number _ _ = false

abbrev mutual
  pub same_data : Data → Data → Bool
  same_data null null = true
  same_data (boolean a) (boolean b) = beq a b
  same_data (number m) (number n) = same_number m n
  same_data (string s) (string t) = bytes_eq s t
  same_data (array ds) (array es) = same_items ds es
  same_data (object ms) (object ns) = same_members ms ns
  same_data _ _ = false

  pub same_items : Items → Items → Bool
  same_items no_items no_items = true
  same_items (item d ds) (item e es) = same_data d e && same_items ds es
  same_items _ _ = false

  -- name by name in their order
  pub same_members : Members → Members → Bool
  same_members no_members no_members = true
  same_members (member k d ms) (member l e ns) = bytes_eq k l && (same_data d e && same_members ms ns)
  same_members _ _ = false
