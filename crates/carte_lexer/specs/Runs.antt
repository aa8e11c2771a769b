-- Runs of bytes, and where they end.
use Rattle.std.specs.Prelude.{ℕ, List, ◌≡◌, ◌≤◌, ◌<◌, ◌+◌, ◌-◌, true, length, drop, slice_index, slice_range, Some}
use Rattle.std.specs.List.{list_all}
use Rattle.carte_name.specs.Names.{is_digit, is_lower, is_name_byte}
use Rattle.carte_name.specs.declared.kind.Kind.{Kind}
use Rattle.carte_lexer.specs.Lexer.{Class, numeral, small, inside, closing, idle, run, grown_run, token_of, emit, lexed}

-- what is known of the bytes of a run by its class
abbrev pub RunOk : Class → List ℕ → Type 0
RunOk numeral bs = list_all is_digit bs ≡ true
RunOk small bs = (is_lower (slice_index bs 0) ≡ true) × (list_all is_name_byte bs ≡ true)
RunOk inside bs = slice_index bs 0 ≡ 34
RunOk closing bs = (slice_index bs 0 ≡ 34) × (2 ≤ length bs) × (slice_index bs (length bs - 1) ≡ 34)
RunOk _ bs = slice_index bs (length bs - 1) < 128

-- a run that goes on keeps its class
abbrev pub Keeps : Class → Type 0
Keeps c = (d : Class) (n b : ℕ) → grown_run c n b ≡ Some d → c ≡ d

-- a run of the class that begins at a place ends behind some bytes, and with the class d
pub record RunsTo (c : Class) (bytes : List ℕ) (from : ℕ) (d : Class) (end : ℕ) : Type 0 where
  pub after : from < end
  pub within : end ≤ length bytes
  pub known : RunOk d (slice_range bytes from end)
  pub gives : (q : Kind) → lexed q (run c from (slice_range bytes from (from + 1))) (from + 1) (drop (from + 1) bytes) ≡ emit (token_of d (slice_range bytes from end)) from (lexed q idle end (drop end bytes))

-- and while it goes on: so far it ends at a place, and is of the class d
pub record Running (c : Class) (bytes : List ℕ) (from : ℕ) (d : Class) (at : ℕ) : Type 0 where
  pub after : from < at
  pub within : at ≤ length bytes
  pub known : RunOk d (slice_range bytes from at)
  pub gives : (q : Kind) → lexed q (run c from (slice_range bytes from (from + 1))) (from + 1) (drop (from + 1) bytes) ≡ lexed q (run d from (slice_range bytes from at)) at (drop at bytes)
