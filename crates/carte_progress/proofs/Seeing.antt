-- What a bench shows grows as rules are done.
use Rattle.std.proofs.Common.{◌≡◌, ℕ, true, List, Option, Some, None, refl, sym, ◌∙◌, subst, inl, inr}
use Rattle.carte_value.specs.declared.value.Value.{Value}
use Rattle.carte_value.specs.Truths.{Truth, Extends, HasValue}
use Rattle.carte_value.proofs.Members.{same_or_not}
use Rattle.carte_effect.specs.Sights.{value_seen}
use Rattle.carte_book.specs.Book.{Item, input, rule, Book, content}
use Rattle.carte_book.specs.Needs.{IsRule}
use Rattle.carte_book.specs.Reason.{IsClean}
use Rattle.carte_effect.specs.Jobs.{outcome_of}
use Rattle.carte_rebuild.specs.Goes.{AreThere, AreThereBefore}
use Rattle.carte_bench.specs.declared.slot.Slot.{Slot}
use Rattle.carte_bench.specs.declared.slot.Slot.TheVariants.{Ready, Stopped, Out, Done}
use Rattle.carte_bench.specs.Spots.{Spots, PutAt, is_done, done_in, sight_at, sight_of_rule, seen_in}
use Rattle.carte_bench.specs.Steps.{FitsOf, IsCore}
use Rattle.carte_bench.proofs.Puts.{put_here, put_apart}

seen_at : (o : Option Item) (x y : Option Value) → ((v : Value) → x ≡ Some v → y ≡ Some v) → (v : Value) → value_seen (sight_at o x) ≡ Some v → value_seen (sight_at o y) ≡ Some v
seen_at None x y more v is = is
seen_at (Some (input w)) x y more v is = is
seen_at (Some (rule e)) None y more v is = cc
seen_at (Some (rule e)) (Some w) y more v is = rw (more w refl) is

pub there_more : (b : Book) (t u : Truth) (k : List ℕ) → Extends t u → AreThere b t k → AreThere b u k
there_more b t u k more there j need = let has = there j need in (has.0, more j has.0 has.1)

pub before_more : (b : Book) (t u : Truth) (k n : List ℕ) → Extends t u → AreThereBefore b t k n → AreThereBefore b u k n
before_more b t u k n more before none j need = elim (before none j need) [
  | inl same ↦ inl same
  | inr has ↦ inr (has.0, more j has.0 has.1)
]

module _ {J : Type 0} (b : Book) where
  -- where nothing was done at the name
  pub seen_put : (s d : Spots J) (k : List ℕ) (x : Slot J) → PutAt s d k x → done_in (s k) ≡ None → Extends (seen_in b s) (seen_in b d)
  seen_put s d k x put none q v is = seen_at (content b q) (done_in (s q)) (done_in (d q)) more v is
    where
      more : (w : Value) → done_in (s q) ≡ Some w → done_in (d q) ≡ Some w
      more w has = elim (same_or_not k q) [
        | inl same ↦ (let both : None ≡ Some w = sym none ∙ subst (λ i. done_in (s i) ≡ Some w) (sym same) has in cc)
        | inr other ↦ rw (put_apart s d k x q other put) has
      ]

  -- where nothing is done at the name by now
  pub seen_back : (s d : Spots J) (k : List ℕ) (x : Slot J) → PutAt s d k x → done_in (Some x) ≡ None → Extends (seen_in b d) (seen_in b s)
  seen_back s d k x put none q v is = seen_at (content b q) (done_in (d q)) (done_in (s q)) more v is
    where
      more : (w : Value) → done_in (d q) ≡ Some w → done_in (s q) ≡ Some w
      more w has = elim (same_or_not k q) [
        | inl same ↦ (let both : None ≡ Some w = sym none ∙ rw (put_here s d k x put) at (subst (λ i. done_in (d i) ≡ Some w) (sym same) has) in cc)
        | inr other ↦ rw (put_apart s d k x q other put) at has
      ]

  -- a rule that has a value is done
  pub seen_done : (s : Spots J) (k : List ℕ) → IsRule b k → HasValue (seen_in b s) k → is_done (s k) ≡ true
  seen_done s k (e, is) (v, has) = at (s k) (rw is at has)
    where
      at : (o : Option (Slot J)) → value_seen (sight_of_rule (done_in o)) ≡ Some v → is_done o ≡ true
      at None shows = cc
      at (Some (Ready j)) shows = cc
      at (Some (Stopped j n)) shows = cc
      at (Some Out) shows = cc
      at (Some (Done m)) shows = refl

  -- what is done is clean
  pub done_clean : (fits : FitsOf J) (s : Spots J) (k : List ℕ) → IsCore fits b s → is_done (s k) ≡ true → IsClean b k
  done_clean fits s k core is = at (s k) refl is
    where
      at : (o : Option (Slot J)) → s k ≡ o → is_done o ≡ true → IsClean b k
      at None there ends = cc
      at (Some (Ready j)) there ends = cc
      at (Some (Stopped j n)) there ends = cc
      at (Some Out) there ends = cc
      at (Some (Done m)) there ends = ((outcome_of m).value, (core.slots k (Done m) there).1)
