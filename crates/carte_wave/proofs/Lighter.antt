-- How many steps are left before the names of a book.
use Rattle.std.proofs.Common.{◌≡◌, ℕ, ◌+◌, ◌<◌, ◌≤◌, true, false, cond, List, [], ◌∷◌, Option, Some, None, refl, sym, ◌∙◌, subst, inl, inr, arith}
use Rattle.std.specs.FinMap.{entries, find, get-entries}
use Rattle.std.specs.Ordering.{eq_by_cmp}
use Rattle.carte_name.specs.Names.{name_cmp}
use Rattle.carte_value.proofs.Members.{same_or_not}
use Rattle.carte_book.specs.Book.{Item, rule, Book}
use Rattle.carte_book.specs.Needs.{IsRule}
use Rattle.carte_book.proofs.Clean.{rule_held, tied_name}
use Rattle.carte_bench.specs.declared.slot.Slot.{Slot}
use Rattle.carte_bench.specs.declared.slot.Slot.TheVariants.{Ready, Stopped, Out, Done}
use Rattle.carte_bench.specs.Spots.{Spots, PutAt, is_done, job_in}
use Rattle.carte_bench.proofs.Puts.{put_here, put_apart}
use Rattle.carte_wave.specs.Standing.{weight, left_in, left}

module _ {J : Type 0} (old new : Spots J) (lighter : (q : List ℕ) → weight (new q) ≤ weight (old q)) where
  most : (es : List (List ℕ × Item)) → left_in new es ≤ left_in old es
  most [] = omega arith
  most ((k, x) ∷ es) = omega (arith, lighter k, most es)

  less : (n : List ℕ) (x : Item) (es : List (List ℕ × Item)) → weight (new n) < weight (old n) → find name_cmp n es ≡ Some x → left_in new es < left_in old es
  less n x [] lower held = cc
  less n x ((j, z) ∷ es) lower held =
      elim (eq_by_cmp name_cmp n j) as (λ c. eq_by_cmp name_cmp n j ≡ c → cond c (Some z) (find name_cmp n es) ≡ Some x → weight (new j) + left_in new es < weight (old j) + left_in old es) [
        | true ↦ λ tied here. (let lower_j = subst (λ i. weight (new i) < weight (old i)) (tied_name n j tied) lower in omega (arith, lower_j, most es))
        | false ↦ λ apart later. omega (arith, lighter j, less n x es lower later)
      ] refl held

  pub left_most : (b : Book) → left b new ≤ left b old
  left_most b = most (entries b.items)

  pub left_less : (b : Book) (n : List ℕ) → IsRule b n → weight (new n) < weight (old n) → left b new < left b old
  left_less b n (e, is_rule) lower = less n (rule e) (entries b.items) lower (sym (get-entries b.items n) ∙ rule_held b n e is_rule)

pub lighter_put : {J : Type 0} (v d : Spots J) (k : List ℕ) (x : Slot J) → PutAt v d k x → weight (Some x) ≤ weight (v k) → (q : List ℕ) → weight (d q) ≤ weight (v q)
lighter_put v d k x put lower q = elim (same_or_not k q) [
  | inl same ↦ subst (λ i. weight (d i) ≤ weight (v i)) same (rw (put_here v d k x put) lower)
  | inr other ↦ rw (put_apart v d k x q other put) (omega arith)
]

pub job_weight : {J : Type 0} (o : Option (Slot J)) (p : J) → job_in o ≡ Some p → weight o ≡ 1
job_weight None p is = cc
job_weight (Some (Ready q)) p is = refl
job_weight (Some (Stopped q n)) p is = refl
job_weight (Some Out) p is = cc
job_weight (Some (Done m)) p is = cc

pub done_weight : {J : Type 0} (o : Option (Slot J)) → is_done o ≡ true → weight o ≡ 0
done_weight None is = cc
done_weight (Some (Ready q)) is = cc
done_weight (Some (Stopped q n)) is = cc
done_weight (Some Out) is = cc
done_weight (Some (Done m)) is = refl

pub undone_weight : {J : Type 0} (o : Option (Slot J)) → is_done o ≡ false → 1 ≤ weight o
undone_weight None is = omega arith
undone_weight (Some (Ready q)) is = omega arith
undone_weight (Some (Stopped q n)) is = omega arith
undone_weight (Some Out) is = omega arith
undone_weight (Some (Done m)) is = cc
