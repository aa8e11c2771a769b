-- The seed and the count of a generated book, and the number of workers, in digits.
use Rattle.std.specs.Prelude.{ℕ, ◌&&◌, nat_le, Bool, List, length, Option, Some, None, if◌then◌else◌}
use Rattle.std.specs.Str.{all_ascii_digits}
use Rattle.std.specs.Str.Parse.{digits_value, without_leading_plus}

-- one digit or more, and nothing else
abbrev pub is_numeral : List ℕ → Bool
is_numeral t = nat_le 1 (length t) && all_ascii_digits t

-- the number that digits write, where it isn't below the least or above the most
abbrev pub number_within : ℕ → ℕ → List ℕ → Option ℕ
number_within least most t = if is_numeral t && (nat_le least (digits_value 10 t) && nat_le (digits_value 10 t) most) then Some (digits_value 10 t) else None

-- a seed has 64 bits
abbrev pub seed_in : List ℕ → Option ℕ
seed_in t = number_within 0 18446744073709551615 t

-- as many keys as a book may have, and two at least, so that one is a rule
abbrev pub count_in : List ℕ → Option ℕ
count_in t = number_within 2 262144 t

-- the number of 64 bits that a word is, where a plus may stand first
abbrev pub number_in : List ℕ → Option ℕ
number_in t = seed_in (without_leading_plus t)

abbrev pub workers_in : List ℕ → Option ℕ
workers_in t = number_within 1 64 (without_leading_plus t)
