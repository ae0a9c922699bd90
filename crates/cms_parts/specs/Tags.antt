-- The tags of components, each as its one octet (X.690, 8.1.2).
use Rattle.std.specs.Prelude.{ℕ}

-- [0] IMPLICIT of a type that holds no others
abbrev pub primitive_0_tag : ℕ
primitive_0_tag = 128

-- [1], [2] and [4] of a type that holds others, or EXPLICIT
abbrev pub constructed_1_tag : ℕ
constructed_1_tag = 161

abbrev pub constructed_2_tag : ℕ
constructed_2_tag = 162

abbrev pub constructed_4_tag : ℕ
constructed_4_tag = 164
