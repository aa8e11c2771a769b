-- Lists of the names that have a property, and the list with which a build begins.
use Rattle.std.proofs.Common.{◌≡◌, ◌⊎◌, ℕ, List, [], ◌∷◌, ◌++◌, refl, ap, sym, ◌∙◌, subst, inl, inr}
use Rattle.carte_value.specs.Truths.{Among, IsListOf}
use Rattle.carte_value.proofs.Members.{among_left, among_right, among_append, same_or_not}
use Rattle.carte_book.specs.Book.{Book}
use Rattle.carte_record.specs.Kept.{SomeKept}
use Rattle.carte_sound.specs.Chains.{ArePicked, IsFirstList}
use Rattle.carte_sound.specs.Treated.{IsLedRule}
use Rattle.carte_mark.proofs.Listing.{IsInOrder, in_order}
use Rattle.carte_restart.specs.Led.{AreLed, IsOther, IsRuleAmong, PushesIf}

-- one name more
pub picked_more : (P : List ℕ → Type 0) (xs old new : List (List ℕ)) (x : List ℕ) → ArePicked P xs old → PushesIf P old new x → ArePicked P (xs ++ x ∷ []) new
picked_more P [] old new x so (inl (has, is)) = inl (has, [], is ∙ ap (λ ks. ks ++ x ∷ []) so, refl)
picked_more P [] old new x so (inr (not_so, is)) = inr (not_so, is ∙ so)
picked_more P (y ∷ ys) old new x (inl (has, zs, is, rest)) (inl (so, more)) = inl (has, zs ++ x ∷ [], more ∙ ap (λ ks. ks ++ x ∷ []) is, picked_more P ys zs (zs ++ x ∷ []) x rest (inl (so, refl)))
picked_more P (y ∷ ys) old new x (inl (has, zs, is, rest)) (inr (not_so, same)) = inl (has, zs, same ∙ is, picked_more P ys zs zs x rest (inr (not_so, refl)))
picked_more P (y ∷ ys) old new x (inr (other, rest)) pushes = inr (other, picked_more P ys old new x rest pushes)

-- by a property that says the same
pub picked_as : (P Q : List ℕ → Type 0) → ((k : List ℕ) → P k → Q k) → ((k : List ℕ) → Q k → P k) → (xs ys : List (List ℕ)) → ArePicked P xs ys → ArePicked Q xs ys
picked_as P Q on back [] ys is = is
picked_as P Q on back (x ∷ xs) ys (inl (has, zs, is, rest)) = inl (on x has, zs, is, picked_as P Q on back xs zs rest)
picked_as P Q on back (x ∷ xs) ys (inr (other, rest)) = inr ((λ has. other (back x has)), picked_as P Q on back xs ys rest)

pub picked_only : (P : List ℕ → Type 0) (xs ys : List (List ℕ)) (k : List ℕ) → ArePicked P xs ys → Among ys k → P k × Among xs k
picked_only P [] ys k is here = absurd (subst (λ ks. Among ks k) is here)
picked_only P (x ∷ xs) ys k (inl (has, zs, is, rest)) here = elim (subst (λ ks. Among ks k) is here) [
  | inl same ↦ (subst P (sym same) has, inl same)
  | inr later ↦ (let r = picked_only P xs zs k rest later in (r.0, inr r.1))
]
picked_only P (x ∷ xs) ys k (inr (other, rest)) here = let r = picked_only P xs ys k rest here in (r.0, inr r.1)

pub picked_each : (P : List ℕ → Type 0) (xs ys : List (List ℕ)) (k : List ℕ) → ArePicked P xs ys → Among xs k → P k → Among ys k
picked_each P [] ys k is here has = absurd here
picked_each P (x ∷ xs) ys k (inl (so, zs, is, rest)) (inl same) has = subst (λ ks. Among ks k) (sym is) (inl same)
picked_each P (x ∷ xs) ys k (inl (so, zs, is, rest)) (inr later) has = subst (λ ks. Among ks k) (sym is) (inr (picked_each P xs zs k rest later has))
picked_each P (x ∷ xs) ys k (inr (other, rest)) (inl same) has = absurd (other (subst P same has))
picked_each P (x ∷ xs) ys k (inr (other, rest)) (inr later) has = picked_each P xs ys k rest later has

-- those besides the chain, in name order
pub besides_all : (b : Book) (led chain ms sorted listed : List (List ℕ)) → ArePicked (IsOther b chain) led ms → IsInOrder ms sorted listed → IsListOf (λ k. IsRuleAmong b led k × ¬ (Among chain k)) listed
besides_all b led chain ms sorted listed picked order =
    let l = in_order ms sorted listed order in record {
      rising = l.rising;
      only = λ k here. (let p = picked_only (IsOther b chain) led ms k picked (l.only k here) in ((p.0.0, p.1), p.0.1));
      each = λ k ((held, among), off). l.each k (picked_each (IsOther b chain) led ms k picked among (held, off));
    }

-- the list with which a build begins
pub first_list : (K : SomeKept) (b : Book) (targets led chained others list : List (List ℕ)) → AreLed K targets led → ArePicked (IsRuleAmong b led) K.chain chained → IsListOf (λ k. IsRuleAmong b led k × ¬ (Among K.chain k)) others → list ≡ chained ++ others → IsFirstList K b targets list
first_list K b targets led chained others list are picked besides is = record {
  chained = chained;
  others = others;
  parts = is;
  in_chain = picked_as (IsRuleAmong b led) (IsLedRule K b targets) on back K.chain chained picked;
  besides = record {
    rising = besides.rising;
    only = λ k here. (let p = besides.only k here in (on k p.0, p.1));
    each = λ k (led_rule, off). besides.each k (back k led_rule, off);
  };
}
  where
    on : (k : List ℕ) → IsRuleAmong b led k → IsLedRule K b targets k
    on k (held, among) = (held, are.only k among)

    back : (k : List ℕ) → IsLedRule K b targets k → IsRuleAmong b led k
    back k (held, leads) = (held, are.each k leads)

-- a name stands in a list or doesn't
pub among_or_not : (ks : List (List ℕ)) (k : List ℕ) → Among ks k ⊎ (¬ (Among ks k))
among_or_not [] k = inr (λ nowhere. nowhere)
among_or_not (j ∷ js) k = elim (same_or_not k j) [
  | inl same ↦ inl (inl same)
  | inr other ↦ elim (among_or_not js k) [
    | inl later ↦ inl (inr later)
    | inr off ↦ inr (λ here. elim here [
      | inl same ↦ other same
      | inr later ↦ off later
    ])
  ]
]

-- exactly the rules that are led to are of that list
pub first_only : (K : SomeKept) (b : Book) (targets list : List (List ℕ)) (k : List ℕ) → IsFirstList K b targets list → Among list k → IsLedRule K b targets k
first_only K b targets list k first here = elim (among_append first.chained first.others k (subst (λ ks. Among ks k) first.parts here)) [
  | inl chained ↦ (picked_only (IsLedRule K b targets) K.chain first.chained k first.in_chain chained).0
  | inr other ↦ (first.besides.only k other).0
]

pub first_each : (K : SomeKept) (b : Book) (targets list : List (List ℕ)) (k : List ℕ) → IsFirstList K b targets list → IsLedRule K b targets k → Among list k
first_each K b targets list k first led = subst (λ ks. Among ks k) (sym first.parts) (elim (among_or_not K.chain k) [
  | inl there ↦ among_left first.chained first.others k (picked_each (IsLedRule K b targets) K.chain first.chained k first.in_chain there led)
  | inr off ↦ among_right first.chained first.others k (first.besides.each k (led, off))
])
