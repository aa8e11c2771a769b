-- The turns that are left grow fewer.
use Rattle.std.proofs.Common.{◌≡◌, ℕ, ◌+◌, ◌<◌, ◌≤◌, true, false, cond, List, [], ◌∷◌, Option, Some, None, is_none, Bool, refl, sym, ◌∙◌, inl, inr, arith}
use Rattle.std.specs.FinMap.{entries, find, get-entries}
use Rattle.std.specs.Ordering.{eq_by_cmp}
use Rattle.carte_name.specs.Names.{name_cmp}
use Rattle.carte_book.specs.Book.{Item, rule, Book}
use Rattle.carte_book.specs.Needs.{IsRule}
use Rattle.carte_book.proofs.Clean.{rule_held, tied_name}
use Rattle.carte_bench.specs.declared.slot.Slot.{Slot}
use Rattle.carte_bench.specs.declared.slot.Slot.TheVariants.{Ready}
use Rattle.carte_bench.specs.Spots.{Spots}
use Rattle.carte_bench.proofs.Puts.{put_here}
use Rattle.carte_progress.specs.Standing.{StaysKnown, unknown_in, turns_left}
use Rattle.carte_progress.specs.Opening.{Opens}
use Rattle.carte_progress.proofs.Opened.{known_opens}

module _ {J : Type 0} (old new : Spots J) (known : StaysKnown old new) where
  one_fewer : (k : List ℕ) → cond {A = ℕ} (is_none (new k)) 1 0 ≤ cond (is_none (old k)) 1 0
  one_fewer k = at (old k) refl
    where
      at : (o : Option (Slot J)) → old k ≡ o → cond {A = ℕ} (is_none (new k)) 1 0 ≤ cond (is_none o) 1 0
      at None is = any (new k)
        where
          any : (p : Option (Slot J)) → cond {A = ℕ} (is_none p) 1 0 ≤ 1
          any None = omega arith
          any (Some y) = omega arith
      at (Some x) is = rw (known k x is).1 (omega arith)

  pub unknown_fewer : (es : List (List ℕ × Item)) → unknown_in new es ≤ unknown_in old es
  unknown_fewer [] = omega arith
  unknown_fewer ((k, x) ∷ es) = omega (arith, one_fewer k, unknown_fewer es)

  unknown_less : (n : List ℕ) (y : Slot J) (x : Item) (es : List (List ℕ × Item)) → old n ≡ None → new n ≡ Some y → find name_cmp n es ≡ Some x → unknown_in new es < unknown_in old es
  unknown_less n y x [] was is held = cc
  unknown_less n y x ((j, z) ∷ es) was is held =
      elim (eq_by_cmp name_cmp n j) as (λ c. eq_by_cmp name_cmp n j ≡ c → cond c (Some z) (find name_cmp n es) ≡ Some x → cond {A = ℕ} (is_none (new j)) 1 0 + unknown_in new es < cond (is_none (old j)) 1 0 + unknown_in old es) [
        | true ↦ λ tied here. rw (← tied_name n j tied, was, is) (omega (arith, unknown_fewer es))
        | false ↦ λ apart later. omega (arith, one_fewer j, unknown_less n y x es was is later)
      ] refl held

  -- a rule more is known
  pub rule_less : (b : Book) (n : List ℕ) (y : Slot J) → IsRule b n → old n ≡ None → new n ≡ Some y → unknown_in new (entries b.items) < unknown_in old (entries b.items)
  rule_less b n y (e, is_rule) was is = unknown_less n y (rule e) (entries b.items) was is (sym (get-entries b.items n) ∙ rule_held b n e is_rule)

-- the first is off the path
pub ended_fewer : {J : Type 0} (b : Book) (old new : Spots J) (k : List ℕ) (ks : List (List ℕ)) → StaysKnown old new → turns_left b new ks < turns_left b old (k ∷ ks)
ended_fewer b old new k ks known = omega (arith, unknown_fewer old new known (entries b.items))

-- a stop leads to one name more, or to none
pub opened_fewer : {J : Type 0} (name : J → List ℕ) (started : J → Bool) (begins : List ℕ → J → Type 0) (b : Book) (old mid new : Spots J) (k : List ℕ) (ks path' : List (List ℕ)) (n : List ℕ) → StaysKnown old mid → Opens name started begins b mid new (k ∷ ks) path' n → turns_left b new path' < turns_left b old (k ∷ ks)
opened_fewer name started begins b old mid new k ks path' n known (inl d) =
    let less = rule_less mid new (known_opens name started begins b mid new (k ∷ ks) path' n (inl d)).0 b n (Ready d.job) d.fresh.0 d.fresh.1 (put_here mid new n (Ready d.job) d.put) in
    rw d.path_is (omega (arith, less, unknown_fewer old mid known (entries b.items)))
opened_fewer name started begins b old mid new k ks path' n known (inr (stays, same, none)) =
    rw none (omega (arith, unknown_fewer mid new (λ q x is. (x, same q ∙ is)) (entries b.items), unknown_fewer old mid known (entries b.items)))
