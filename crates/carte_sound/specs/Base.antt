-- What a build may rely on, once it has begun.
use Rattle.std.specs.Prelude.{ℕ, ◌≡◌, true, List, Some}
use Rattle.carte_value.specs.declared.digest.Digest.{Digest}
use Rattle.carte_value.specs.declared.value.Value.{Value}
use Rattle.carte_value.specs.Spelling.{digest_of}
use Rattle.carte_value.specs.Truths.{Among}
use Rattle.carte_tree.specs.Tree.{Tree}
use Rattle.carte_book.specs.Book.{input, rule, Book, content, clean}
use Rattle.carte_book.specs.Edits.{IsInput}
use Rattle.carte_book.specs.Needs.{IsRule, needs}
use Rattle.carte_book.specs.Digest.{rules_digest_of}
use Rattle.carte_book.specs.Task.{task_digest_of}
use Rattle.carte_record.specs.Kept.{SomeKept, is_fresh}
use Rattle.carte_record.specs.declared.entry.Entry.{Entry}
use Rattle.carte_value.specs.Lists.{Has}
use Rattle.carte_sound.specs.Marks.{IsFresh}
use Rattle.carte_sound.specs.Sound.{IsSound}

-- of one kind, and each rule of the first is one of the second
pub record SameRules (b c : Book) : Type 0 where
  pub kind : b.kind ≡ c.kind
  pub rules : (k : List ℕ) (e : Tree) → content b k ≡ Some (rule e) → content c k ≡ Some (rule e)

-- in the books of a history no two clean values have one digest, no two sets of rules, and no two formulas of rules with the kinds of their books
pub record HasDistinctDigests (H : List Book) : Type 0 where
  pub values : (b c : Book) (j k : List ℕ) (v w : Value) → Has H b → Has H c → clean b j ≡ Some v → clean c k ≡ Some w → digest_of v ≡ digest_of w → v ≡ w
  pub rules : (b c : Book) → Has H b → Has H c → rules_digest_of b ≡ rules_digest_of c → SameRules b c
  pub tasks : (b c : Book) (j k : List ℕ) (f g : Tree) → Has H b → Has H c → content b j ≡ Some (rule f) → content c k ≡ Some (rule g) → task_digest_of b.kind f ≡ task_digest_of c.kind g → (b.kind ≡ c.kind) × (f ≡ g)

-- the entry says what the book says, and what it needs is seen and fresh
pub record IsNow (K : SomeKept) (b : Book) (k : List ℕ) (e : Entry) : Type 0 where
  pub formula : Tree
  pub is_rule : content b k ≡ Some (rule formula)
  pub value : Value
  pub clean : clean b k ≡ Some value
  pub key : e.key ≡ k
  pub task : e.task ≡ task_digest_of b.kind formula
  pub result : e.result ≡ digest_of value
  pub needs : e.needs ≡ needs b k
  pub rules : (j : List ℕ) → Among e.needs j → IsRule b j → IsFresh K j
  pub seen : (i : List ℕ) (v : Value) → Among e.needs i → content b i ≡ Some (input v) → K.seen i ≡ Some (digest_of v)

-- each fresh entry is true now
abbrev pub AllNow : SomeKept → Book → Type 0
AllNow K b = (k : List ℕ) (e : Entry) → K.entries k ≡ Some e → is_fresh e ≡ true → IsNow K b k e

-- what is kept is sound, the book stands, what is kept of rules and inputs is of those of the book, and what is fresh is true of it
pub record IsBase (K : SomeKept) (b : Book) (H : List Book) : Type 0 where
  pub sound : IsSound K H
  pub present : Has H b
  pub distinct : HasDistinctDigests H
  pub keys : (k : List ℕ) (e : Entry) → K.entries k ≡ Some e → IsRule b k
  pub inputs : (i : List ℕ) (d : Digest) → K.seen i ≡ Some d → IsInput b i
  pub now : AllNow K b
