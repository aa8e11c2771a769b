-- What a line reads.
use Rattle.std.proofs.Common.{◌≡◌, ◌==◌, ◌∙◌, ◌<◌, ℕ, true, false, List, [], String, Global, string_bytes, length, drop, Some, ap, refl, append-nil, length-drop, arith}
use Rattle.toml_parser.specs.Lexical.{first, split_while, skip_ws}
use Rattle.toml_parser.specs.Reading.{path_view}
use Rattle.toml_parser.specs.Strings.{is_plain, one_line, special, key}
use Rattle.toml_parser.proofs.StringsLemmas.{body_run, after_special}
use Rattle.toml.specs.Data.{Data}
use Rattle.toml.specs.Tables.{key_value}
use Rattle.toml.specs.Parse.{key_equals, val, ends_line, header_key, expression, line}

closes : (delim m : ℕ) (rest : List ℕ) → (first rest == delim) ≡ true → after_special delim false m rest ≡ Some ([], drop 1 rest)
unfolding special
closes delim m rest closing = rw closing refl

-- a string in which all bytes are plain
pub one_line_read : (s text rest : List ℕ) → 0 < length s → (text, rest) ≡ split_while (is_plain (first s) false) (drop 1 s) → (first rest == first s) ≡ true → one_line s ≡ Some (text, drop 1 rest)
unfolding one_line
one_line_read s text rest some parts closing =
    let (m, room, run) = body_run (first s) false (drop 1 s) (length s) (omega (arith, length-drop 1 s, some)) in
    let front : text ≡ (split_while (is_plain (first s) false) (drop 1 s)).0 = ap (λ p. p.0) parts in
    let back : rest ≡ (split_while (is_plain (first s) false) (drop 1 s)).1 = ap (λ p. p.1) parts in
    run ∙ rw (← front, ← back, closes (first s) m rest closing, append-nil text) refl

pub pair_read : (s name at_value rest : List ℕ) (d : Data) → (first s == 91) ≡ false → key_equals s ≡ Some (([], name), at_value) → val 80 at_value ≡ Some (d, rest) → ends_line (skip_ws rest) ≡ true
    → line s ≡ Some ((([], name), key_value d), rest)
unfolding line expression
pair_read s name at_value rest d no_header read value ended = rw (no_header, read, value, ended) refl

pub header_key_read : (s name rest : List ℕ) (path : List (String Global)) (last : String Global) → key (skip_ws s) ≡ Some ((path_view path, string_bytes last), rest) → path ≡ [] → string_bytes last ≡ name → (first rest == 93) ≡ true
    → header_key s ≡ Some (([], name), drop 1 rest)
unfolding header_key
header_key_read s name rest path last read none is closing = rw (read, none, is, closing) refl
