-- Generated books: random inputs, and rules over keys that come before them.
use Rattle.std.specs.Prelude.{ℕ, pos, ◌≡◌, ◌<◌, ◌+◌, ◌-◌, ◌/◌, ◌%◌, ◌++◌, List, Some, codes, max, nat_lt, if◌then◌else◌}
use Rattle.std.specs.Fmt.{decimal}
use Rattle.carte_name.specs.declared.kind.Kind.TheVariants.{Rules}
use Rattle.carte_value.specs.declared.value.Value.TheVariants.{Number}
use Rattle.carte_tree.specs.declared.expr.Func.TheVariants.{Max, Min}
use Rattle.carte_tree.specs.declared.expr.Level.TheVariants.{Sum}
use Rattle.carte_tree.specs.declared.expr.Op.TheVariants.{Sub}
use Rattle.carte_tree.specs.declared.expr.Func.{Func}
use Rattle.carte_tree.specs.Tree.{Tree, ref, chain, call, no_step, step, no_arg, arg, one}
use Rattle.carte_book.specs.Book.{Item, input, rule, Book, content}
use Rattle.carte_generate.specs.Draws.{draw}

-- the keys are k0, k1 and so on
unfoldable pub key : ℕ → List ℕ
key i = codes "k" ++ decimal i

-- the first tenth of the keys are inputs, and at least one key is
abbrev pub inputs_of : ℕ → ℕ
inputs_of count = max 1 (count / 10)

abbrev pub of_two : Func → List ℕ → List ℕ → Tree
of_two f j k = call f (arg (one (ref j)) (arg (one (ref k)) no_arg))

abbrev pub minus : Tree → Tree → Tree
minus d e = chain Sum d (step Sub e no_step)

-- the formula MAX(j,k)-MIN(j,k)
unfoldable pub difference : List ℕ → List ℕ → Tree
difference j k = minus (of_two Max j k) (of_two Min j k)

-- how many draws come before those of key i, where n keys are inputs: one for each input, and two for each rule
abbrev pub draws_before : ℕ → ℕ → ℕ
draws_before n i = i + (i - n)

-- what is drawn for key i: an input is below 1,000, and a rule has one of the eight keys before it (the first, where there are
-- fewer) and any key before it
unfoldable pub item : ℕ → ℕ → ℕ → Item
item seed n i =
    let first = draw seed (draws_before n i) in
    let second = draw seed (draws_before n i + 1) in
    if nat_lt i n then input (Number (pos (first % 1000))) else rule (difference (key (i - 1 - first % 8)) (key (second % i)))

-- the generated book of so many keys: a rule file that has each of them and nothing else
pub record IsGenerated (seed count : ℕ) (b : Book) : Type 0 where
  pub kind : b.kind ≡ Rules
  pub each : (i : ℕ) → i < count → content b (key i) ≡ Some (item seed (inputs_of count) i)
  pub only : (k : List ℕ) (x : Item) → content b k ≡ Some x → (i : ℕ) × (i < count) × (k ≡ key i)

-- its last key
abbrev pub target_of : ℕ → List ℕ
target_of count = key (count - 1)
