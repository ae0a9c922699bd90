-- The tags of the universal types, each as its one octet (X.690, 8.1.2; X.680, 8.6).
use Rattle.std.specs.Prelude.{ℕ}

abbrev pub boolean_tag : ℕ
boolean_tag = 1

abbrev pub integer_tag : ℕ
integer_tag = 2

abbrev pub bit_string_tag : ℕ
bit_string_tag = 3

abbrev pub octet_string_tag : ℕ
octet_string_tag = 4

abbrev pub oid_tag : ℕ
oid_tag = 6

abbrev pub utf8_tag : ℕ
utf8_tag = 12

abbrev pub ia5_tag : ℕ
ia5_tag = 22

abbrev pub utc_time_tag : ℕ
utc_time_tag = 23

abbrev pub generalized_time_tag : ℕ
generalized_time_tag = 24

abbrev pub sequence_tag : ℕ
sequence_tag = 48

abbrev pub set_tag : ℕ
set_tag = 49

-- [0] and [3] of a type that holds others, or EXPLICIT
abbrev pub constructed_0_tag : ℕ
constructed_0_tag = 160

abbrev pub constructed_3_tag : ℕ
constructed_3_tag = 163

-- [1] and [6] IMPLICIT of a type that holds no others
abbrev pub primitive_1_tag : ℕ
primitive_1_tag = 129

abbrev pub primitive_6_tag : ℕ
primitive_6_tag = 134
