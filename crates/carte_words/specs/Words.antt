-- What words ask for, or the first fault why they ask for nothing.
use Rattle.std.specs.Prelude.{◌≡◌, ◌≤◌, ℕ, nat_le, true, Bool, false, List, [], ◌∷◌, codes, Option, Some, None, Result, Ok, Err, option_and_then, unwrap_or, bytes_eq, if◌then◌else◌}
use Rattle.clap.specs.Words.{Kinds, Row, Text, first_of, all_of}
use Rattle.carte_name.specs.Kinds.{is_text_of, name_of}
use Rattle.carte_name.specs.declared.kind.Kind.{Kind}
use Rattle.carte_name.specs.declared.kind.Kind.TheVariants.{Rules}
use Rattle.carte_words.specs.declared.words.Command.{Command}
use Rattle.carte_words.specs.declared.words.Command.TheVariants as command
use Rattle.carte_words.specs.declared.words.Scheduler4.{Scheduler4}
use Rattle.carte_words.specs.declared.words.Scheduler4.TheVariants.{Suspending}
use Rattle.carte_words.specs.declared.words.Words.{Words as Asked}
use Rattle.carte_words.specs.declared.choices.Choices.{Choices}
use Rattle.carte_words.specs.declared.targets.Aims.{Aims}
use Rattle.carte_words.specs.declared.fault.WordsFault.{WordsFault}
use Rattle.carte_words.specs.declared.fault.WordsFault.TheVariants.{Words, NoTarget, TargetsNotTaken, SeedAndCount, BadTarget, WorkersNeedSuspending, NoMemory}
use Rattle.carte_words.specs.Arguments.{faults_of, values_of}
use Rattle.carte_words.specs.Numbers.{seed_in, count_in, workers_in}
use Rattle.carte_words.specs.Tables.{command_named, scheduler_named, rebuilder_named, kind_named, kind_by_ending}

-- a fault is the end, and else it goes on
infixl 10 ◌>>=◌
abbrev pub ◌>>=◌ : {A B : Type 0} → Result A WordsFault → (A → Result B WordsFault) → Result B WordsFault
(Ok a) >>= f = f a
(Err fault) >>= f = Err fault

abbrev pub or_words : {A : Type 0} → Option A → Result A WordsFault
or_words (Some a) = Ok a
or_words None = Err Words

-- ---- the values of the arguments

abbrev pub is_set : Option Text → Bool
is_set (Some t) = bytes_eq t (codes "true")
is_set None = false

-- the kind that is said, or that of the book's ending
abbrev pub kind_of : Option Text → Text → Option Kind
kind_of (Some t) book = kind_named t
kind_of None book = Some (kind_by_ending book)

-- a generated book is a rule file
abbrev pub kind_for : Command → Kind → Kind
kind_for command.Generate k = Rules
kind_for c k = k

-- what is chosen besides the files and what stands behind them
abbrev pub choices_of : List Row → Text → Option Choices
choices_of rows book =
    option_and_then (λ c. option_and_then (λ k. option_and_then (λ s. option_and_then (λ r. option_and_then (λ n. Some (record {
      command = c;
      kind = kind_for c k;
      scheduler = s;
      rebuilder = r;
      workers = n;
      list = is_set (first_of (codes "list") rows);
    }))
    (option_and_then workers_in (first_of (codes "workers") rows)))
    (option_and_then rebuilder_named (first_of (codes "rebuilder") rows)))
    (option_and_then scheduler_named (first_of (codes "scheduler") rows)))
    (kind_of (first_of (codes "kind") rows) book))
    (option_and_then command_named (first_of (codes "command") rows))

-- ---- what stands behind the files

abbrev pub name_in : Kind → Text → Result Text WordsFault
name_in kind t = if is_text_of kind t then Ok (name_of kind t) else Err (BadTarget t)

abbrev pub put_first : Text → Result (List Text) WordsFault → Result (List Text) WordsFault
put_first k (Ok ks) = Ok (k ∷ ks)
put_first k (Err fault) = Err fault

-- all of them, or the first that is no name of the kind
abbrev pub names_in : Kind → List Text → Result (List Text) WordsFault
names_in kind [] = Ok []
names_in kind (t ∷ ts) = name_in kind t >>= (λ k. put_first k (names_in kind ts))

abbrev pub aimed : List Text → Aims
aimed ks = record { targets = ks; seed = 0; count = 0 }

-- one target or more
abbrev pub some_targets : Kind → List Text → Result Aims WordsFault
some_targets kind [] = Err NoTarget
some_targets kind (t ∷ ts) = names_in kind (t ∷ ts) >>= (λ ks. Ok (aimed ks))

abbrev pub no_targets : List Text → Result Aims WordsFault
no_targets [] = Ok (aimed [])
no_targets (t ∷ ts) = Err TargetsNotTaken

abbrev pub numbered : Option ℕ → Option ℕ → Result Aims WordsFault
numbered (Some seed) (Some count) = Ok (record { targets = []; seed = seed; count = count })
numbered s n = Err SeedAndCount

abbrev pub seed_and_count : List Text → Result Aims WordsFault
seed_and_count (s ∷ n ∷ []) = numbered (seed_in s) (count_in n)
seed_and_count ts = Err SeedAndCount

abbrev pub aims_for : Command → Kind → List Text → Result Aims WordsFault
aims_for command.Build kind ts = some_targets kind ts
aims_for command.Session kind ts = no_targets ts
aims_for command.Explain kind ts = some_targets kind ts
aims_for command.Clean kind ts = no_targets ts
aims_for command.Generate kind ts = seed_and_count ts

abbrev pub aims_of : Choices → List Text → Result Aims WordsFault
aims_of c ts = aims_for c.command c.kind ts

-- ---- all of it

abbrev pub words_with : Text → Text → Choices → Aims → Asked
words_with book state c aims = record {
  command = c.command;
  book = book;
  state = state;
  kind = c.kind;
  scheduler = c.scheduler;
  rebuilder = c.rebuilder;
  workers = c.workers;
  list = c.list;
  targets = aims.targets;
  seed = aims.seed;
  count = aims.count;
}

-- several workers are for the suspending scheduler alone
abbrev pub takes : Scheduler4 → ℕ → Bool
takes Suspending n = true
takes s n = nat_le n 1

abbrev pub staffed : Asked → Result Asked WordsFault
staffed w = if takes w.scheduler w.workers then Ok w else Err WorkersNeedSuspending

abbrev pub chosen_of : List Row → Text → Text → Result Asked WordsFault
chosen_of rows book state = or_words (choices_of rows book) >>= (λ c.
    aims_of c (unwrap_or (all_of (codes "target") rows) []) >>= (λ aims. staffed (words_with book state c aims)))

abbrev pub meaning_of : List Row → Result Asked WordsFault
meaning_of rows = or_words (first_of (codes "book") rows) >>= (λ book.
    or_words (first_of (codes "state") rows) >>= (λ state. chosen_of rows book state))

abbrev pub taken_of : Kinds → List Row → Result Asked WordsFault
taken_of [] rows = meaning_of rows
taken_of (fault ∷ faults) rows = Err Words

abbrev pub words_of : List Text → Result Asked WordsFault
words_of words = taken_of (faults_of words) (values_of words)

-- a generated book has two keys at least, and as many as a book may have at most
abbrev pub IsCounted : Asked → Type 0
IsCounted w = w.command ≡ command.Generate → (2 ≤ w.count) × (w.count ≤ 262144)

-- ---- what readers answer

-- not the want of memory
abbrev pub IsCause : WordsFault → Type 0
IsCause NoMemory = ⊥
IsCause _ = Unit {0}

-- that, but that memory may run out
abbrev pub Gives : {A : Type 0} → Result A WordsFault → Result A WordsFault → Type 0
Gives o (Ok a) = o ≡ Ok a
Gives o (Err fault) = IsCause fault → o ≡ Err fault
