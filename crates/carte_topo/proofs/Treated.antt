-- The rules of an order, one after the other, and all of them.
use Rattle.std.proofs.Common.{◌≡◌, ℕ, zero, suc, ◌+◌, ◌<◌, List, [], ◌∷◌, ◌++◌, length, take, slice_get, get_or, Some, None, Err, refl, ap, sym, ◌∙◌, subst, inl, inr, append_assoc}
use Rattle.std.proofs.lemmas.List.{append-nil, take_more}
use Rattle.carte_value.specs.Truths.{Among, NoneTwice}
use Rattle.carte_book.specs.Book.{Book}
use Rattle.carte_record.specs.Kept.{SomeKept}
use Rattle.carte_sound.specs.Finished.{AreFinished}
use Rattle.carte_sound.specs.Held.{How}
use Rattle.carte_sound.specs.Treated.{IsDoneInOrder}
use Rattle.carte_note.specs.declared.finished.Finished.{Finished}
use Rattle.carte_note.specs.Right.{AreRight, finishes_of, keys_in, ran_in}
use Rattle.carte_effect.specs.Ledger.{Ledger, no_runs}
use Rattle.carte_bench.specs.Spots.{Spots, IsSame}
use Rattle.carte_bench.specs.Steps.{FitsOf}
use Rattle.carte_bench.proofs.Cores.{none_core}
use Rattle.carte_rebuild.specs.declared.work.Work.{Work}
use Rattle.carte_rebuild.specs.Ends.{IsGiven, IsWork, NothingGivenUp}
use Rattle.carte_topo.specs.Orders.{IsNext, InOrder, IsOrder}
use Rattle.carte_topo.specs.declared.building.Fault.{Fault}
use Rattle.carte_topo.specs.declared.building.Fault.TheVariants.{Stopped, NoMemory}
use Rattle.carte_topo.specs.Building.{OthersStay, IsSoFar, Advances, Treats}
use Rattle.carte_topo.proofs.Finishing.{finished_clean, keys_same, ran_once}
use Rattle.carte_topo.proofs.Ready.{end_among}
use Rattle.carte_topo.proofs.Reaching.{has_goal, same_goal}

pub take_none : (ks : List (List ℕ)) → take 0 ks ≡ []
take_none [] = refl
take_none (k ∷ ks) = refl

-- the rule at a place comes next behind those before it
pub next_at : (b : Book) (before ks : List (List ℕ)) (at : ℕ) (k : List ℕ) → slice_get ks at ≡ Some k → InOrder b before ks → IsNext b (before ++ take at ks) k
next_at b before [] at k here order = cc
next_at b before (j ∷ js) zero k here order =
    let same : j ≡ k = cc in
    subst (λ (l : List (List ℕ)). IsNext b l k) (sym (append-nil before)) (subst (IsNext b before) same order.0)
next_at b before (j ∷ js) (suc at) k here order =
    subst (λ (l : List (List ℕ)). IsNext b l k) (append_assoc before (j ∷ []) (take at js)) (next_at b (before ++ j ∷ []) js at k here order.1)

pub reads_at : (ks : List (List ℕ)) (at : ℕ) (k : List ℕ) → at < length ks → k ≡ get_or ks at k → slice_get ks at ≡ Some k
reads_at ks at k below is =
    let some = has_goal ks at below in
    some.1 ∙ ap Some (sym (same_goal ks at some.0 k below is some.1))

pub one_taken : (ks : List (List ℕ)) (at : ℕ) (k : List ℕ) → at < length ks → k ≡ get_or ks at k → take (at + 1) ks ≡ take at ks ++ k ∷ []
one_taken ks at k below is = take_more ks at k below ∙ ap (λ (n : List ℕ). take at ks ++ n ∷ []) (sym is)

-- and isn't among these
pub not_before : (ks : List (List ℕ)) (at : ℕ) (k : List ℕ) → slice_get ks at ≡ Some k → NoneTwice ks → ¬ (Among (take at ks) k)
not_before [] at k here once among = cc
not_before (j ∷ js) zero k here once among = among
not_before (j ∷ js) (suc at) k here once among = elim among [
  | inl same ↦ once.0 (subst (Among js) same (there js at k here))
  | inr later ↦ not_before js at k here once.1 later
]
  where
    there : (ls : List (List ℕ)) (i : ℕ) (q : List ℕ) → slice_get ls i ≡ Some q → Among ls q
    there [] i q is = cc
    there (l ∷ ls) zero q is = inl (let e : l ≡ q = cc in sym e)
    there (l ∷ ls) (suc i) q is = inr (there ls i q is)

module _ {J : Type 0} (fits : FitsOf J) (h : How) (K : SomeKept) (b : Book) (s : Spots J) (ks : List (List ℕ)) (w : Work) (so : IsSoFar fits h K b s ks w) (once : NoneTwice ks) where
  pub all_treated : IsWork h K b (Among ks) w
  all_treated = record {
    right = so.right;
    order = record {
      finished = so.order;
      once = subst NoneTwice (sym (keys_same w.finished ∙ so.keys)) once;
      only = λ k among. subst (λ (l : List (List ℕ)). Among l k) (keys_same w.finished ∙ so.keys) among;
      each = λ k among. subst (λ (l : List (List ℕ)). Among l k) (sym (keys_same w.finished ∙ so.keys)) among;
    };
    ends = so.ends;
  }

  pub none_given_up : NothingGivenUp w
  none_given_up = record {
    once = subst NoneTwice (sym so.starts) (ran_once w.finished (subst NoneTwice (sym so.keys) once));
    only = λ k among. subst (λ (l : List (List ℕ)). Among l k) (so.starts ∙ sym so.ends) among;
    each = λ k among. subst (λ (l : List (List ℕ)). Among l k) (so.ends ∙ sym so.starts) among;
  }

-- nothing is treated yet
pub none_so_far : {J : Type 0} (fits : FitsOf J) (h : How) (K : SomeKept) (b : Book) (s : Spots J) (ks : List (List ℕ)) (w : Work) → IsSame (λ q. None) s → w.finished ≡ [] → w.runs ≡ no_runs → IsSoFar fits h K b s (take 0 ks) w
none_so_far fits h K b s ks w empty finished runs = subst (λ (l : List (List ℕ)). IsSoFar fits h K b s l w) (sym (take_none ks)) (record {
  core = none_core fits b s empty;
  done = λ k among. absurd among;
  keys = ap keys_in finished;
  right = subst (AreRight h K b) (sym finished) tt;
  order = subst (λ (l : List Finished). AreFinished h b K [] (finishes_of l)) (sym finished) tt;
  starts = ap (λ (x : Ledger). x.starts) runs ∙ sym (ap ran_in finished);
  ends = ap (λ (x : Ledger). x.ends) runs ∙ sym (ap ran_in finished);
})

-- what isn't among those that were treated isn't on the bench
pub still_unknown : {J : Type 0} (s d : Spots J) (ks more : List (List ℕ)) (k : List ℕ) → more ≡ ks ++ k ∷ [] → OthersStay s d k → ((q : List ℕ) → ¬ (Among ks q) → s q ≡ None) → (q : List ℕ) → ¬ (Among more q) → d q ≡ None
still_unknown s d ks more k is others unknown q apart =
    let out : ¬ (Among (ks ++ k ∷ []) q) = λ among. apart (subst (λ (l : List (List ℕ)). Among l q) (sym is) among) in
    others q (λ same. out (end_among ks k q (inr (sym same)))) ∙ unknown q (λ among. out (end_among ks k q (inl among)))

-- a stop has this cause alone
pub stops_so : {J : Type 0} (fits : FitsOf J) (h : How) (K : SomeKept) (b : Book) (old new : Spots J) (before ks : List (List ℕ)) (w w' : Work) (k : List ℕ) (fault : Fault) → Advances fits h K b old new w w' k (Err fault) → IsNext b before k → (IsGiven K b → IsSoFar fits h K b old before w) → Treats h K b ks (Err fault)
stops_so fits h K b old new before ks w w' k Stopped advances next so = λ given. advances given before next (so given)
stops_so fits h K b old new before ks w w' k NoMemory advances next so = tt

-- the rules of the order are those that the targets reach
pub done_in_order : (h : How) (K : SomeKept) (b : Book) (targets ks : List (List ℕ)) (w : Work) → IsOrder b targets ks → IsWork h K b (Among ks) w → IsWork h K b (IsDoneInOrder b targets) w
done_in_order h K b targets ks w order work = record {
  right = work.right;
  order = record {
    finished = work.order.finished;
    once = work.order.once;
    only = λ k among. (order.only k (work.order.only k among), finished_clean h K b [] _ k work.order.finished among);
    each = λ k done. work.order.each k (order.each k done.0);
  };
  ends = work.ends;
}
