-- All that stands on a bench stays at rules of the book, and that it does is known in one way only.
use Rattle.std.proofs.Common.{◌≡◌, ℕ, List, Option, Some, None, IsSome, IsTrue, refl, subst, inl, inr}
use Rattle.std.specs.HashMap.{get}
use Rattle.carte_name.specs.Names.{name_eq}
use Rattle.carte_value.proofs.Members.{same_or_not}
use Rattle.carte_book.specs.Book.{Item, input, rule, Book, content, book_view}
use Rattle.carte_book.specs.Needs.{IsRule}
use Rattle.carte_bench.specs.declared.bench.Bench.{Bench}
use Rattle.carte_bench.specs.declared.slot.Slot.{Slot}
use Rattle.carte_bench.specs.Spots.{Spots, PutAt}
use Rattle.carte_bench.specs.Rules.{is_rule, AreRules, AreRules-prop}
use Rattle.carte_bench.proofs.Puts.{put_apart}

pub so_rule : (b : Book) (k : List ℕ) → IsTrue (is_rule (content b k)) → IsRule b k
so_rule b k so = at (content b k) refl so
  where
    at : (o : Option Item) → content b k ≡ o → IsTrue (is_rule o) → IsRule b k
    at None is never = cc
    at (Some (input v)) is never = cc
    at (Some (rule e)) is so = (e, is)

-- what is put where something stands already stands at a rule
pub rules_over : {J : Type 0} (b : Book) (s d : Spots J) (k : List ℕ) (x : Slot J) → AreRules b s → IsSome (s k) → PutAt s d k x → AreRules b d
rules_over b s d k x all stood put q there = elim (same_or_not k q) [
  | inl same ↦ subst (λ i. IsTrue (is_rule (content b i))) same (all k stood)
  | inr other ↦ all q (rw (← put_apart s d k x q other put) there)
]

pub same_bench : {J : Type 0} (b : Bench J) (r : AreRules (book_view b.book.now) (get name_eq b.slots)) → record { book = b.book; alloc = b.alloc; slots = b.slots; digests = b.digests; rules = r } ≡ b
same_bench b r i = record {
  book = b.book;
  alloc = b.alloc;
  slots = b.slots;
  digests = b.digests;
  rules = AreRules-prop (book_view b.book.now) (get name_eq b.slots) r b.rules i;
}
