-- What stands once a name was demanded, or a path dropped.
use Rattle.std.specs.Prelude.{is_none, IfOk}
use Rattle.std.proofs.Common.{◌≡◌, ℕ, Bool, true, false, List, [], ◌∷◌, Option, Some, None, Result, Ok, Err, refl, sym, ◌∙◌, subst, inl, inr, ◌⊎◌}
use Rattle.carte_value.specs.Truths.{Among}
use Rattle.carte_value.proofs.Members.{same_or_not}
use Rattle.carte_book.specs.Book.{Item, input, rule, Book, content}
use Rattle.carte_book.specs.Needs.{IsRule}
use Rattle.carte_effect.specs.declared.look.Stuck.{Stuck}
use Rattle.carte_effect.specs.declared.look.Stuck.TheVariants.{NotDone}
use Rattle.carte_bench.specs.declared.slot.Slot.{Slot}
use Rattle.carte_bench.specs.declared.slot.Slot.TheVariants.{Ready, Stopped}
use Rattle.carte_bench.specs.Spots.{Spots, IsSame}
use Rattle.carte_bench.specs.Ended.{IsOpen}
use Rattle.carte_bench.proofs.Puts.{put_here, put_apart}
use Rattle.carte_bench.proofs.Turning.{jobs_put}
use Rattle.carte_progress.specs.Standing.{IsLeft, IsAside, IsStanding, IsHalted, StaysKnown}
use Rattle.carte_progress.specs.Opening.{IsFreshRule, IsStopIn, Demands, Leaves, Opens}
use Rattle.carte_progress.proofs.Standings.{rules_put, known_put, behind_put, behind_of, left_moves, open_before}

module _ {J : Type 0} (name : J → List ℕ) (b : Book) where
  -- nothing was demanded
  pub stands_none : (s : Spots J) → IsSame (λ q. None) s → IsStanding name b s []
  stands_none s none = record {
    stands = record {
      rules = λ k x is. (let both : None ≡ Some x = sym (none k) ∙ is in cc);
      named = λ k j is. (let both : None ≡ Some j = rw (none k) at is in cc);
      once = tt;
      open_there = λ k ((x, is), undone). (let both : None ≡ Some x = sym (none k) ∙ is in cc);
    };
    chain = tt;
  }

  -- a target is no stop of a path
  pub halted_target : (s : Spots J) (n : List ℕ) → IsStanding name b s [] → IsHalted name b s [] n
  halted_target s n standing = record {
    stands = standing.stands;
    behind = tt;
    waits = λ q here. absurd here;
  }

  module _ (started : J → Bool) (begins : List ℕ → J → Type 0) (old new : Spots J) (path : List (List ℕ)) (n : List ℕ) (halted : IsHalted name b old path n) where
    off_path : old n ≡ None → ¬ (Among path n)
    off_path unknown here = let w = behind_of old n path n halted.behind here in let both : None ≡ Some (Stopped w.0 w.1) = sym unknown ∙ w.2 in cc

    opened : Demands name started begins b old new path (n ∷ path) n → IsStanding name b new (n ∷ path)
    opened d = record {
      stands = record {
        rules = rules_put b old new n (Ready d.job) d.put d.fresh.0 halted.stands.rules;
        named = jobs_put (λ q j. name j ≡ q) old new n (Ready d.job) d.put halted.stands.named (λ j is. let same : d.job ≡ j = cc in rw (← same) d.named);
        once = (off_path d.fresh.1, halted.stands.once);
        open_there = λ q is_open. at q is_open (same_or_not n q);
      };
      chain = (rw (put_here old new n (Ready d.job) d.put) refl, behind_put old new n (Ready d.job) n path d.put (off_path d.fresh.1) halted.behind);
    }
      where
        moved : (q : List ℕ) → IsLeft b old path q → IsLeft b new (n ∷ path) q
        moved q left = left_moves b old new path (n ∷ path) q (λ ((x, is), undone) off. (let apart : n ≡ q → ⊥ = λ same. (let both : None ≡ Some x = sym d.fresh.1 ∙ (subst (λ i. old i ≡ Some x) (sym same) is) in cc) in (put_apart old new n (Ready d.job) q apart d.put, λ here. elim here [ inl same ↦ apart (sym same) | inr there ↦ off there ]))) left

        aside : (q : List ℕ) → new q ≡ old q → IsAside b old path q → IsAside b new (n ∷ path) q
        aside q same (p, m, is, left) = (p, m, same ∙ is, moved m left)

        at : (q : List ℕ) → IsOpen new q → (n ≡ q) ⊎ (¬ (n ≡ q)) → Among (n ∷ path) q ⊎ IsAside b new (n ∷ path) q
        at q is_open (inl same) = inl (inl (sym same))
        at q is_open (inr other) =
            let same = put_apart old new n (Ready d.job) q other d.put in
            elim (halted.stands.open_there q (open_before old new q same is_open)) [
              | inl here ↦ inl (inr here)
              | inr there ↦ inr (aside q same there)
            ]

    -- what a path waits for in vain is left
    left_behind : Leaves b old new [] n → (q r : List ℕ) → Among path q → (r ≡ n) ⊎ Among path r → IsLeft b old [] r
    left_behind (known, same, dropped) q r here (inl is) = subst (IsLeft b old []) (sym is) (at (content b n) refl)
      where
        at : (o : Option Item) → content b n ≡ o → IsLeft b old [] n
        at None nothing = inl nothing
        at (Some (input v)) given = absurd ((halted.waits q here).1 (v, given))
        at (Some (rule e)) held = inr ((known (e, held), (halted.waits q here).0), λ never. never)
    left_behind (known, same, dropped) q r here (inr there) = let w = behind_of old n path r halted.behind there in inr (((Stopped w.0 w.1, w.2), rw w.2 refl), λ never. never)

    dropped : Leaves b old new [] n → IsStanding name b new []
    dropped (known, same, none) = record {
      stands = record {
        rules = λ q x is. halted.stands.rules q x (sym (same q) ∙ is);
        named = λ q j is. halted.stands.named q j (rw (same q) at is);
        once = tt;
        open_there = λ q is_open. inr (at q (halted.stands.open_there q (open_before old new q (same q) is_open)));
      };
      chain = tt;
    }
      where
        stays : (r : List ℕ) → IsLeft b old [] r → IsLeft b new [] r
        stays r left = left_moves b old new [] [] r (λ is_open off. (same r, off)) left

        at : (q : List ℕ) → Among path q ⊎ IsAside b old path q → IsAside b new [] q
        at q (inl here) = let w = behind_of old n path q halted.behind here in (w.0, w.1, same q ∙ w.2, stays w.1 (left_behind (known, same, none) q w.1 here w.3))
        at q (inr (p, m, is, left)) = (p, m, same q ∙ is, left_moves b old new path [] m (λ is_open off. (same m, λ never. never)) left)

    pub stands_opens : (path' : List (List ℕ)) → Opens name started begins b old new path path' n → IsStanding name b new path'
    stands_opens path' (inl d) = subst (IsStanding name b new) (sym d.path_is) (opened (subst (λ p. Demands name started begins b old new path p n) d.path_is d))
    stands_opens path' (inr (known, same, none)) = subst (IsStanding name b new) (sym none) (dropped (known, same, refl))

-- what was demanded stays, and the name is demanded where it is a rule
pub known_opens : {J : Type 0} (name : J → List ℕ) (started : J → Bool) (begins : List ℕ → J → Type 0) (b : Book) (old new : Spots J) (path path' : List (List ℕ)) (n : List ℕ) → Opens name started begins b old new path path' n → StaysKnown old new × (IsRule b n → (x : Slot J) × (new n ≡ Some x))
known_opens name started begins b old new path path' n (inl d) = (known_put old new n (Ready d.job) d.put, λ is. (Ready d.job, put_here old new n (Ready d.job) d.put))
known_opens name started begins b old new path path' n (inr (known, same, none)) = ((λ q x is. (x, same q ∙ is)), λ is. (let k = known is in (k.0, same n ∙ k.1)))

-- a rule is a fresh one where the bench doesn't know it
pub fresh_rule : {J : Type 0} (b : Book) (s : Spots J) (n : List ℕ) (fresh : Bool) → IsRule b n → fresh ≡ is_none (s n) → IsFreshRule b s n fresh
fresh_rule {J = J} b s n fresh held same = at (s n) refl fresh same
  where
    at : (o : Option (Slot J)) → s n ≡ o → (f : Bool) → f ≡ is_none o → IsFreshRule b s n f
    at None is true same_there = (held, is)
    at None is false apart = λ rule_there. cc
    at (Some x) is true apart = cc
    at (Some x) is false same_there = λ rule_there. (x, is)

pub fresh_told : {J : Type 0} {E : Type 0} (b : Book) (s : Spots J) (n : List ℕ) (r : Result Bool E) → IsRule b n → IfOk r (λ unknown. unknown ≡ is_none (s n)) → IfOk r (IsFreshRule b s n)
fresh_told b s n (Ok u) held same = fresh_rule b s n u held same
fresh_told b s n (Err e) held same = tt

-- so is what isn't done at a stop
pub fresh_stop : {J : Type 0} (b : Book) (s : Spots J) (x : Stuck) (n : List ℕ) (fresh : Bool) → IsStopIn b x → x ≡ NotDone n → fresh ≡ is_none (s n) → IsFreshRule b s n fresh
fresh_stop b s x n fresh stop is same = fresh_rule b s n fresh (subst (IsStopIn b) is stop) same
