-- What a turn keeps.
use Rattle.std.proofs.Common.{◌≡◌, ℕ, zero, suc, true, List, [], ◌∷◌, ◌++◌, take, slice_get, Some, Ok, refl, ap, sym, ◌∙◌, subst, inl, inr, arith, append_assoc, append-nil}
use Rattle.std.specs.Result.{result_ok}
use Rattle.carte_value.specs.declared.value.Value.{Value}
use Rattle.carte_value.specs.Truths.{Among}
use Rattle.carte_tree.specs.Formula.{refs_of}
use Rattle.carte_tree.specs.InTurn.{HasAll}
use Rattle.carte_tree.specs.Meaning.{eval}
use Rattle.carte_book.specs.Book.{Book, clean}
use Rattle.carte_book.specs.Needs.{Reaches}
use Rattle.carte_book.specs.Reason.{IsClean}
use Rattle.carte_book.proofs.Clean.{clean_rule}
use Rattle.carte_topo.specs.declared.walk.Frame.{Frame}
use Rattle.carte_topo.specs.declared.walk.Stage.TheVariants.{OnPath, Passed}
use Rattle.carte_topo.specs.Orders.{IsReady, IsNext, InOrder}
use Rattle.carte_topo.specs.Walk.{Seen, Path, Done, names, is_ready, part, Marks, Entered, Stands, Finishes, Waits}
use Rattle.carte_topo.specs.Between.{Finished, StopsAt, StopsInTurn, Linked, AllStand, EndsWith, IsWalk}
use Rattle.carte_tree.proofs.StaticRuns.{static_ends}
use Rattle.carte_topo.proofs.Stopping.{stops_there}
use Rattle.carte_topo.proofs.Ready.{each_map, each_none, among_end, end_among, once_end, ready_is, ready_kept, is_ready_kept, ready_clean, part_clean, part_open, part_has}
use Rattle.carte_topo.proofs.Marking.{marked_here, marked_elsewhere, met_now, met_apart}

pub in_order_end : (b : Book) (before ks : List (List ℕ)) (k : List ℕ) → InOrder b before ks → IsNext b (before ++ ks) k → InOrder b before (ks ++ k ∷ [])
in_order_end b before [] k in_order next = ((rw append-nil at next), tt)
in_order_end b before (j ∷ js) k in_order next = (in_order.0, in_order_end b (before ++ j ∷ []) js k in_order.1 (subst (λ (ks : List (List ℕ)). IsNext b ks k) (sym (append_assoc before (j ∷ []) js)) next))

next_kept : (b : Book) (done done' : Done) (k : List ℕ) → ((q : List ℕ) → Among done q → Among done' q) → IsNext b done k → IsNext b done' k
next_kept b done done' k more next = record {
  formula = next.formula;
  is_rule = next.is_rule;
  is_static = next.is_static;
  ready = each_map (IsReady b done) (IsReady b done') (refs_of next.formula) (λ q. ready_kept b done done' q more) next.ready;
}

stands_kept : (b : Book) (done done' : Done) (f : Frame) → ((q : List ℕ) → Among done q → Among done' q) → Stands b done f → Stands b done' f
stands_kept b done done' f more s = record {
  formula = s.formula;
  is_rule = s.is_rule;
  is_static = s.is_static;
  of_formula = s.of_formula;
  within = s.within;
  before = each_map (λ q. is_ready b done q ≡ true) (λ q. is_ready b done' q ≡ true) (take f.at f.refs) (λ q. is_ready_kept b done done' q more) s.before;
}

all_stand_kept : (b : Book) (done done' : Done) (path : Path) → ((q : List ℕ) → Among done q → Among done' q) → AllStand b done path → AllStand b done' path
all_stand_kept b done done' [] more stand = tt
all_stand_kept b done done' (f ∷ fs) more stand = (stands_kept b done done' f more stand.0, all_stand_kept b done done' fs more stand.1)

module _ (b : Book) (ts : List (List ℕ)) (goal : List ℕ) where
  pub done_clean : (seen : Seen) (path : Path) (done : Done) → IsWalk b ts goal seen path done → (q : List ℕ) → Among done q → IsClean b q
  done_clean seen path done w q among = (w.finished q among).has_value

  -- a rule that waits for a name stops there over what is ready
  pub waits_stops : (seen : Seen) (path : Path) (done : Done) (f : Frame) (at : ℕ) (k : List ℕ) → IsWalk b ts goal seen path done → Waits b done f at k → StopsAt b f.name k
  waits_stops seen path done f at k w s = record {
    formula = s.formula;
    is_rule = s.is_rule;
    is_static = s.is_static;
    named = rw s.of_formula at (found f.refs at s.here);
    known = part b done;
    below = part_clean b done;
    stops = stops_there b.kind (part b done) s.formula at k s.is_static (rw s.of_formula at has_before) (rw s.of_formula at s.here) (part_open b done k (s.opens.open_there k s.here));
  }
    where
      found : (ks : List (List ℕ)) (at : ℕ) → slice_get ks at ≡ Some k → Among ks k
      found [] at here = cc
      found (j ∷ js) zero here = inl (let same : k ≡ j = cc in same)
      found (j ∷ js) (suc at) here = inr (found js at here)

      has_before : HasAll (part b done) (take at f.refs)
      has_before = each_map (λ q. is_ready b done q ≡ true) (λ q. (v : Value) × (part b done q ≡ Some v)) (take at f.refs) (λ q. part_has b done q (done_clean seen path done w)) s.opens.before

  pub entered : (seen seen' : Seen) (path path' : Path) (done : Done) (k : List ℕ) → IsWalk b ts goal seen path done → Entered b seen seen' path path' k → StopsInTurn b k (names path) → Reaches b ts k → EndsWith goal (k ∷ names path) → IsWalk b ts goal seen' path' done
  entered seen seen' path path' done k w e chain reached ends = subst (λ (p : Path). IsWalk b ts goal seen' p done) (sym e.on_path) (record {
    in_order = w.in_order;
    once = w.once;
    finished = w.finished;
    waits = λ q among. elim among [
      | inl same ↦ rw same (marked_here seen seen' k OnPath e.marks)
      | inr later ↦ marked_elsewhere seen seen' k q OnPath e.marks (met_apart seen k q OnPath e.unmet (w.waits q later)) ∙ w.waits q later
    ];
    passed = λ q among. marked_elsewhere seen seen' k q OnPath e.marks (met_apart seen k q Passed e.unmet (w.passed q among)) ∙ w.passed q among;
    met_rule = λ q stage met. elim (met_now seen seen' k q OnPath stage e.marks met) [
      | inl same ↦ rw same (e.formula, e.is_rule)
      | inr before ↦ w.met_rule q stage before.1
    ];
    met_only = λ q stage met. elim (met_now seen seen' k q OnPath stage e.marks met) [
      | inl same ↦ inl (inl same)
      | inr before ↦ elim (w.met_only q stage before.1) [
        | inl among ↦ inl (inr among)
        | inr is_done ↦ inr is_done
      ]
    ];
    stand = (record { formula = e.formula; is_rule = e.is_rule; is_static = e.is_static; of_formula = refl; within = omega arith; before = each_none (λ q. is_ready b done q ≡ true) (refs_of e.formula) }, w.stand);
    linked = chain;
    path_once = ((λ among. met_apart seen k k OnPath e.unmet (w.waits k among) refl), w.path_once);
    path_open = λ q among. elim among [
      | inl same ↦ λ there. met_apart seen k q Passed e.unmet (w.passed q there) same
      | inr later ↦ w.path_open q later
    ];
    path_reached = λ q among. elim among [
      | inl same ↦ rw same reached
      | inr later ↦ w.path_reached q later
    ];
    from = ends;
  })

  -- the newest frame moves on to the reference for which it waits
  pub moved_on : (seen : Seen) (rest : Path) (done : Done) (f : Frame) (at : ℕ) (k : List ℕ) → IsWalk b ts goal seen (f ∷ rest) done → Waits b done f at k → IsWalk b ts goal seen (record { name = f.name; refs = f.refs; at = at } ∷ rest) done
  moved_on seen rest done f at k w s = record {
    in_order = w.in_order;
    once = w.once;
    finished = w.finished;
    waits = w.waits;
    passed = w.passed;
    met_rule = w.met_rule;
    met_only = w.met_only;
    stand = (record { formula = s.formula; is_rule = s.is_rule; is_static = s.is_static; of_formula = s.of_formula; within = s.opens.within; before = s.opens.before }, w.stand.1);
    linked = w.linked;
    path_once = w.path_once;
    path_open = w.path_open;
    path_reached = w.path_reached;
    from = w.from;
  }

  rest_linked : (j : List ℕ) (js : List (List ℕ)) → Linked b (j ∷ js) → Linked b js
  rest_linked j [] linked = tt
  rest_linked j (k ∷ ks) linked = linked.1

  rest_ends : (j : List ℕ) (js : List (List ℕ)) → EndsWith goal (j ∷ js) → EndsWith goal js
  rest_ends j [] ends = tt
  rest_ends j (k ∷ ks) ends = ends

  pub finishing : (seen seen' : Seen) (rest : Path) (done : Done) (f : Frame) → IsWalk b ts goal seen (f ∷ rest) done → IsNext b done f.name → Marks seen seen' f.name Passed → IsWalk b ts goal seen' rest (done ++ f.name ∷ [])
  finishing seen seen' rest done f w next marks = record {
    in_order = in_order_end b [] done f.name w.in_order next;
    once = once_end done f.name w.once (w.path_open f.name (inl refl));
    finished = λ k among. elim (among_end done f.name k among) [
      | inl before ↦ kept k (w.finished k before)
      | inr same ↦ subst (λ (q : List ℕ). Finished b ts (done ++ f.name ∷ []) q) (sym same) the_new
    ];
    waits = λ k among. marked_elsewhere seen seen' f.name k Passed marks (λ same. w.path_once.0 (rw same at among)) ∙ w.waits k (inr among);
    passed = λ k among. elim (among_end done f.name k among) [
      | inl before ↦ marked_elsewhere seen seen' f.name k Passed marks (λ same. w.path_open k (inl same) before) ∙ w.passed k before
      | inr same ↦ rw same (marked_here seen seen' f.name Passed marks)
    ];
    met_rule = λ k stage met. elim (met_now seen seen' f.name k Passed stage marks met) [
      | inl same ↦ rw same (next.formula, next.is_rule)
      | inr before ↦ w.met_rule k stage before.1
    ];
    met_only = λ k stage met. elim (met_now seen seen' f.name k Passed stage marks met) [
      | inl same ↦ inr (end_among done f.name k (inr same))
      | inr before ↦ elim (w.met_only k stage before.1) [
        | inl among ↦ elim among [
          | inl same ↦ absurd (before.0 same)
          | inr later ↦ inl later
        ]
        | inr is_done ↦ inr (end_among done f.name k (inl is_done))
      ]
    ];
    stand = all_stand_kept b done (done ++ f.name ∷ []) rest more w.stand.1;
    linked = rest_linked f.name (names rest) w.linked;
    path_once = w.path_once.1;
    path_open = λ k among there. elim (among_end done f.name k there) [
      | inl before ↦ w.path_open k (inr among) before
      | inr same ↦ w.path_once.0 (rw same at among)
    ];
    path_reached = λ k among. w.path_reached k (inr among);
    from = rest_ends f.name (names rest) w.from;
  }
    where
      more : (q : List ℕ) → Among done q → Among (done ++ f.name ∷ []) q
      more q among = end_among done f.name q (inl among)

      kept : (k : List ℕ) → Finished b ts done k → Finished b ts (done ++ f.name ∷ []) k
      kept k o = record { next = next_kept b done (done ++ f.name ∷ []) k more o.next; has_value = o.has_value; reached = o.reached }

      has_refs : HasAll (clean b) (refs_of next.formula)
      has_refs = each_map (IsReady b done) (IsClean b) (refs_of next.formula) (λ q. ready_clean b done q (done_clean seen (f ∷ rest) done w)) next.ready

      ends : (v : Value) × (eval b.kind (clean b) next.formula ≡ Ok v)
      ends = static_ends b.kind (clean b) next.formula next.is_static has_refs

      the_new : Finished b ts (done ++ f.name ∷ []) f.name
      the_new = record {
        next = next_kept b done (done ++ f.name ∷ []) f.name more next;
        has_value = (ends.0, clean_rule b f.name next.formula next.is_rule ∙ ap result_ok ends.1);
        reached = w.path_reached f.name (inl refl);
      }

  -- the newest rule, whose references are ready, is next
  pub is_next : (seen seen' : Seen) (done done' : Done) (f : Frame) → Finishes b seen seen' done done' f → IsNext b done f.name
  is_next seen seen' done done' f fin = record {
    formula = fin.formula;
    is_rule = fin.is_rule;
    is_static = fin.is_static;
    ready = each_map (λ q. is_ready b done q ≡ true) (IsReady b done) (refs_of fin.formula) (λ q. ready_is b done q) fin.ready;
  }
