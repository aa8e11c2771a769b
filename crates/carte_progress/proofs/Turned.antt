-- What stands after a turn of the first name of a path.
use Rattle.std.proofs.Common.{◌≡◌, ℕ, Bool, false, List, [], ◌∷◌, Option, Some, None, Result, Err, refl, sym, ◌∙◌, subst, inl, inr, ◌⊎◌}
use Rattle.carte_value.specs.Truths.{Among}
use Rattle.carte_value.proofs.Members.{same_or_not}
use Rattle.carte_effect.specs.declared.look.Stuck.{Stuck}
use Rattle.carte_effect.specs.declared.look.Stuck.TheVariants.{NotDone, Missing}
use Rattle.carte_effect.specs.declared.outcome.Made.{Made}
use Rattle.carte_effect.specs.Ledger.{Ledger}
use Rattle.carte_value.specs.declared.value.Value.{Value}
use Rattle.carte_tree.specs.Tree.{Tree}
use Rattle.carte_effect.specs.Sights.{Sight, not_done, missing, IsStuck}
use Rattle.carte_book.specs.Book.{Item, input, rule, Book, content}
use Rattle.carte_book.specs.Edits.{IsInput}
use Rattle.carte_book.specs.Needs.{IsRule}
use Rattle.carte_bench.specs.declared.slot.Slot.{Slot}
use Rattle.carte_bench.specs.declared.slot.Slot.TheVariants.{Ready, Stopped, Out, Done}
use Rattle.carte_bench.specs.Spots.{Spots, PutAt, is_done, name_of, slot_after, sight_at, sight_in, seen_in, done_in}
use Rattle.carte_bench.specs.Steps.{GivesOf}
use Rattle.carte_bench.specs.Ended.{IsOpen}
use Rattle.carte_bench.specs.Turns.{TurnedTo}
use Rattle.carte_bench.proofs.Puts.{put_here, put_apart}
use Rattle.carte_bench.proofs.Turning.{jobs_put}
use Rattle.carte_bench.proofs.Cores.{sees_inputs}
use Rattle.carte_progress.specs.Standing.{Behind, IsChain, IsLeft, IsAside, IsStanding, IsHalted}
use Rattle.carte_progress.specs.Opening.{IsStopIn, WaitsAt}
use Rattle.carte_progress.proofs.Puts.{put_twice, job_there, ready_there, not_both}
use Rattle.carte_progress.proofs.Standings.{rules_put, behind_put, left_moves, open_before}

module _ {J : Type 0} (name : J → List ℕ) (b : Book) (old new : Spots J) (k : List ℕ) (ks : List (List ℕ)) (standing : IsStanding name b old (k ∷ ks)) where
  first_rule : IsRule b k
  first_rule = let there = ready_there old (old k) standing.chain.0 in standing.stands.rules k there.0 there.1

  moved : (x : Slot J) (path' : List (List ℕ)) (n : List ℕ) → PutAt old new k x → (¬ (Among (k ∷ ks) n) → ¬ (Among path' n)) → IsLeft b old (k ∷ ks) n → IsLeft b new path' n
  moved x path' n put on left = left_moves b old new (k ∷ ks) path' n (λ is_open off. (put_apart old new k x n (λ same. off (inl (sym same))) put, on off)) left

  -- it ended
  pub stands_ended : (m : Made) → PutAt old new k (Done m) → IsStanding name b new ks
  stands_ended m put = record {
    stands = record {
      rules = rules_put b old new k (Done m) put first_rule standing.stands.rules;
      named = jobs_put (λ q j. name j ≡ q) old new k (Done m) put standing.stands.named (λ j is. cc);
      once = standing.stands.once.1;
      open_there = λ q is_open. at q is_open (same_or_not k q);
    };
    chain = next ks standing.stands.once.0 standing.chain.1;
  }
    where
      here : new k ≡ Some (Done m)
      here = put_here old new k (Done m) put

      aside : (q : List ℕ) → new q ≡ old q → IsAside b old (k ∷ ks) q → IsAside b new ks q
      aside q same (p, n, is, left) = (p, n, same ∙ is, moved (Done m) ks n put (λ off later. off (inr later)) left)

      at : (q : List ℕ) → IsOpen new q → (k ≡ q) ⊎ (¬ (k ≡ q)) → Among ks q ⊎ IsAside b new ks q
      at q is_open (inl same) = absurd (not_both (new q) (rw (← same, here) refl) is_open.1)
      at q is_open (inr other) =
          let same = put_apart old new k (Done m) q other put in
          elim (standing.stands.open_there q (open_before old new q same is_open)) [
            | inl there ↦ elim there [
              | inl first ↦ absurd (other (sym first))
              | inr later ↦ inl later
            ]
            | inr there ↦ inr (aside q same there)
          ]

      next : (path : List (List ℕ)) → ¬ (Among path k) → Behind old k path → IsChain new path
      next [] off behind = tt
      next (j ∷ js) off ((p, is), behind) = (
        rw (put_apart old new k (Done m) j (λ same. off (inl same)) put, is, here) refl,
        behind_put old new k (Done m) j js put (λ later. off (inr later)) behind,
      )

  -- it stopped
  pub stands_stopped : (q : J) (n : List ℕ) → PutAt old new k (Stopped q n) → name q ≡ k → is_done (new n) ≡ false → ¬ (IsInput b n) → IsHalted name b new (k ∷ ks) n
  stands_stopped q n put named undone no_input = record {
    stands = record {
      rules = rules_put b old new k (Stopped q n) put first_rule standing.stands.rules;
      named = jobs_put (λ i j. name j ≡ i) old new k (Stopped q n) put standing.stands.named (λ j is. let same : q ≡ j = cc in rw (← same) named);
      once = standing.stands.once;
      open_there = λ i is_open. at i is_open (same_or_not k i);
    };
    behind = ((q, put_here old new k (Stopped q n) put), behind_put old new k (Stopped q n) k ks put standing.stands.once.0 standing.chain.1);
    waits = λ i here. (undone, no_input);
  }
    where
      aside : (i : List ℕ) → new i ≡ old i → IsAside b old (k ∷ ks) i → IsAside b new (k ∷ ks) i
      aside i same (p, m, is, left) = (p, m, same ∙ is, moved (Stopped q n) (k ∷ ks) m put (λ off. off) left)

      at : (i : List ℕ) → IsOpen new i → (k ≡ i) ⊎ (¬ (k ≡ i)) → Among (k ∷ ks) i ⊎ IsAside b new (k ∷ ks) i
      at i is_open (inl same) = inl (inl (sym same))
      at i is_open (inr other) =
          let same = put_apart old new k (Stopped q n) i other put in
          elim (standing.stands.open_there i (open_before old new i same is_open)) [
            | inl there ↦ inl there
            | inr there ↦ inr (aside i same there)
          ]

-- a stop has the name at which it came
stuck_name : (s : Sight) (k : List ℕ) (x : Stuck) → IsStuck s k x → name_of x ≡ k
stuck_name s k (NotDone j) is = is.0
stuck_name s k (Missing j) is = is.0

-- a rule alone isn't done, and what is missing has nothing
undone_rule : (o : Option Item) (v : Option Value) → sight_at o v ≡ not_done → (e : Tree) × (o ≡ Some (rule e))
undone_rule None v is = cc
undone_rule (Some (input w)) v is = cc
undone_rule (Some (rule e)) v is = (e, refl)

missing_none : (o : Option Item) (v : Option Value) → sight_at o v ≡ missing → o ≡ None
missing_none None v is = refl
missing_none (Some (input w)) v is = cc
missing_none (Some (rule e)) None is = cc
missing_none (Some (rule e)) (Some w) is = cc

stuck_in : {J : Type 0} (b : Book) (s : Spots J) (k : List ℕ) (x : Stuck) → IsStuck (sight_in b s k) k x → IsStopIn b x
stuck_in b s k (NotDone j) (same, is) = rw same (undone_rule (content b k) (done_in (s k)) is)
stuck_in b s k (Missing j) (same, is) = rw same (missing_none (content b k) (done_in (s k)) is)

module _ {J : Type 0} (name : J → List ℕ) (started : J → Bool) (gives : GivesOf J) (b : Book) (old new : Spots J) (r r' : Ledger) (k : List ℕ) where
  -- a stop tells what stands in the book at its name
  pub stop_in : (x : Stuck) (turned : TurnedTo name started gives b old new r r' k (Err x)) → IsStopIn b x
  stop_in x turned = let stop = turned.gave.gave in stuck_in b turned.mid stop.0 x stop.2

  -- what stands at the key in the end
  pub turn_put : (o : Result Made Stuck) (turned : TurnedTo name started gives b old new r r' k o) → PutAt old new k (slot_after turned.after o)
  turn_put o turned = put_twice old turned.mid new k Out (slot_after turned.after o) turned.out turned.put

  -- a stop is at a name without a value
  pub stop_none : (x : Stuck) (turned : TurnedTo name started gives b old new r r' k (Err x)) → seen_in b turned.mid (name_of x) ≡ None
  stop_none x turned =
      let stop = turned.gave.gave in
      rw (stuck_name (sight_in b turned.mid stop.0) stop.0 x stop.2) stop.1

  module _ (rules : (q : List ℕ) (y : Slot J) → old q ≡ Some y → IsRule b q) where
    none_undone : (s : Spots J) (n : List ℕ) → ((y : Slot J) → s n ≡ Some y → IsRule b n) → seen_in b s n ≡ None → is_done (s n) ≡ false
    none_undone s n is_rule none = at (s n) refl
      where
        at : (o : Option (Slot J)) → s n ≡ o → is_done o ≡ false
        at None is = refl
        at (Some (Ready j)) is = refl
        at (Some (Stopped j m)) is = refl
        at (Some Out) is = refl
        at (Some (Done m)) is = let held = is_rule (Done m) is in let some = rw (held.1, is) at none in cc

    mid_rules : (o : Result Made Stuck) (turned : TurnedTo name started gives b old new r r' k o) (q : List ℕ) (y : Slot J) → turned.mid q ≡ Some y → IsRule b q
    mid_rules o turned = let there = job_there (old k) turned.before turned.stood in rules_put b old turned.mid k Out turned.out (rules k there.0 there.1) rules

    -- nor is it done, or an input
    pub stop_waits : (x : Stuck) (turned : TurnedTo name started gives b old new r r' k (Err x)) → WaitsAt new k (name_of x) × ¬ (IsInput b (name_of x))
    stop_waits x turned = (
      (
        (turned.after, put_here turned.mid new k (Stopped turned.after (name_of x)) turned.put),
        elim (same_or_not k (name_of x)) [
          | inl same ↦ rw (← same, put_here turned.mid new k (Stopped turned.after (name_of x)) turned.put) refl
          | inr other ↦ rw (put_apart turned.mid new k (Stopped turned.after (name_of x)) (name_of x) other turned.put) (none_undone turned.mid (name_of x) (λ y is. mid_rules (Err x) turned (name_of x) y is) (stop_none x turned))
        ],
      ),
      (λ (v, given). let both : Some v ≡ None = sym (sees_inputs b turned.mid (name_of x) v given) ∙ stop_none x turned in cc),
    )

    -- so the path is halted there
    pub turn_halts : (ks : List (List ℕ)) (x : Stuck) (n : List ℕ) → IsStanding name b old (k ∷ ks) → TurnedTo name started gives b old new r r' k (Err x) → WaitsAt new k n → IsHalted name b new (k ∷ ks) n
    turn_halts ks x n standing turned ((p, is), undone) =
        let put = turn_put (Err x) turned in
        let both : Some (Stopped turned.after (name_of x)) ≡ Some (Stopped p n) = sym (put_here old new k (Stopped turned.after (name_of x)) put) ∙ is in
        let same : name_of x ≡ n = cc in
        stands_stopped name b old new k ks standing turned.after n (subst (λ i. PutAt old new k (Stopped turned.after i)) same put) turned.named undone (subst (λ i. ¬ (IsInput b i)) same (stop_waits x turned).1)
