-- Names of keys, as their bytes.
use Rattle.std.specs.Prelude.{ℕ, Bool, List, length, slice_index, ◌==◌, ◌&&◌, ◌||◌, nat_le, drop, bytes_eq, if◌then◌else◌}
use Rattle.std.specs.Ordering.{nat_cmp}
use Rattle.std.specs.declared.cmp.Ordering.{Ordering}
use Rattle.std.specs.List.{list_all}
use Rattle.std.specs.Str.{str_to_ascii_uppercase}
use Rattle.std.specs.Cmp.Lexicographic.{slice_cmp}

-- the order of names is that of their bytes
abbrev pub name_cmp : List ℕ → List ℕ → Ordering
name_cmp = slice_cmp nat_cmp

abbrev pub name_eq : List ℕ → List ℕ → Bool
name_eq = bytes_eq

abbrev pub is_digit : ℕ → Bool
is_digit b = nat_le 48 b && nat_le b 57

abbrev pub is_lower : ℕ → Bool
is_lower b = nat_le 97 b && nat_le b 122

abbrev pub is_upper : ℕ → Bool
is_upper b = nat_le 65 b && nat_le b 90

abbrev pub is_letter : ℕ → Bool
is_letter b = is_upper b || is_lower b

abbrev pub is_name_byte : ℕ → Bool
is_name_byte b = (((is_lower b || is_digit b) || b == 95) || b == 46) || b == 47

-- a lower-case letter, and then at most 63 of lower-case letters, digits, `_`, `.` and `/`
abbrev pub is_rule_name : List ℕ → Bool
is_rule_name k = ((nat_le 1 (length k) && nat_le (length k) 64) && is_lower (slice_index k 0)) && list_all is_name_byte k

-- a row from 1 to 9999, written without leading zeros
abbrev pub is_row : List ℕ → Bool
is_row ds = ((nat_le 1 (length ds) && nat_le (length ds) 4) && list_all is_digit ds) && nat_le 49 (slice_index ds 0)

-- one or two upper-case letters, and then a row
abbrev pub is_cell_name : List ℕ → Bool
is_cell_name k = is_upper (slice_index k 0) && (if is_upper (slice_index k 1) then is_row (drop 2 k) else is_row (drop 1 k))

abbrev pub is_name : List ℕ → Bool
is_name k = is_rule_name k || is_cell_name k

-- the text of a cell's name, with letters in either case
abbrev pub is_cell_text : List ℕ → Bool
is_cell_text t = is_cell_name (str_to_ascii_uppercase t)
