-- A walk that ends early has found why.
use Rattle.std.proofs.Common.{◌≡◌, ℕ, false, List, [], ◌∷◌, Some, None, ◌∙◌, subst, inl, inr, ◌⊎◌}
use Rattle.carte_value.specs.Truths.{Among}
use Rattle.carte_book.specs.Book.{Book, clean}
use Rattle.carte_book.specs.Needs.{IsRule}
use Rattle.carte_book.specs.Dynamic.{IsDynamicRule, LeadsToDynamic}
use Rattle.carte_book.proofs.Clean.{clean_nothing}
use Rattle.carte_book.specs.declared.reason.Reason.{Reason}
use Rattle.carte_book.specs.declared.reason.Reason.TheVariants.{Cycle, Missing, Dynamic}
use Rattle.carte_topo.specs.declared.walk.Frame.{Frame}
use Rattle.carte_topo.specs.declared.walk.Stage.{Stage}
use Rattle.carte_topo.specs.Walk.{Seen, Path, Done, names, is_ready, Closes, Waits}
use Rattle.carte_topo.specs.Between.{StopsInTurn, IsWalk, IsPathFrom, MeetsDynamic}
use Rattle.carte_topo.proofs.Ready.{is_ready_so}
use Rattle.carte_topo.proofs.Paths.{none_clean, round_unwound, astray_unwound, leads_unwound, unwound_from, oldest_among}
use Rattle.carte_topo.proofs.Walking.{waits_stops}

done_rule : (b : Book) (ts : List (List ℕ)) (goal : List ℕ) (seen : Seen) (path : Path) (done : Done) → IsWalk b ts goal seen path done → (q : List ℕ) → Among done q → IsRule b q
done_rule b ts goal seen path done w q among = let n = (w.finished q among).next in (n.formula, n.is_rule)

-- a rule that was met and isn't done is on the path
on_path : (b : Book) (ts : List (List ℕ)) (goal : List ℕ) (seen : Seen) (path : Path) (done : Done) (k : List ℕ) → IsWalk b ts goal seen path done → (stage : Stage) → seen k ≡ Some stage → is_ready b done k ≡ false → Among (names path) k
on_path b ts goal seen path done k w stage met not_ready = elim (w.met_only k stage met) [
  | inl among ↦ among
  | inr is_done ↦ let ready = is_ready_so b done k (done_rule b ts goal seen path done w) (inr is_done) in cc
]

-- the target itself has nothing
pub refused_first : (b : Book) (ts : List (List ℕ)) (goal : List ℕ) (seen : Seen) (done : Done) (reason : Reason) → IsWalk b ts goal seen [] done → is_ready b done goal ≡ false → Closes b seen [] goal reason → IsPathFrom b goal reason
refused_first b ts goal seen done (Missing path) w none closes = ([], closes.1, clean_nothing b goal closes.0, rw closes.1 closes.0)
refused_first b ts goal seen done (Cycle path) w none closes = absurd (on_path b ts goal seen [] done goal w closes.0 closes.1 none)
refused_first b ts goal seen done (Dynamic path) w none closes = absurd closes

-- the target itself is a dynamic rule
pub dynamic_first : (b : Book) (ts : List (List ℕ)) (goal : List ℕ) → Among ts goal → IsDynamicRule b goal → MeetsDynamic b ts
dynamic_first b ts goal among is_dynamic = (goal ∷ [], (among, is_dynamic))

module _ (b : Book) (ts : List (List ℕ)) (goal : List ℕ) (seen : Seen) (rest : Path) (done : Done) (f : Frame) (at : ℕ) (k : List ℕ) where
  the_chain : IsWalk b ts goal seen (f ∷ rest) done → Waits b done f at k → StopsInTurn b k (names (f ∷ rest))
  the_chain w s = (waits_stops b ts goal seen (f ∷ rest) done f at k w s, w.linked)

  pub refused_later : (reason : Reason) → IsWalk b ts goal seen (f ∷ rest) done → Waits b done f at k → Closes b seen (names (f ∷ rest)) k reason → IsPathFrom b goal reason
  refused_later (Missing path) w s closes =
      let from = unwound_from goal f.name (names rest) (k ∷ []) w.from in
      (from.0, closes.1 ∙ from.1, none goal (inl (oldest_among goal f.name (names rest) w.from)), rw closes.1 (astray_unwound b k (names (f ∷ rest)) [] none w.path_once (the_chain w s) closes.0))
    where
      none : (q : List ℕ) → Among (names (f ∷ rest)) q ⊎ (q ≡ k) → clean b q ≡ None
      none = none_clean b k (names (f ∷ rest)) (the_chain w s) (inl closes.0)
  refused_later (Cycle path) w s closes =
      let from = unwound_from goal f.name (names rest) (k ∷ []) w.from in
      (from.0, closes.2 ∙ from.1, none goal (inl (oldest_among goal f.name (names rest) w.from)), rw closes.2 (round_unwound b k (names (f ∷ rest)) [] none w.path_once (the_chain w s) among))
    where
      among : Among (names (f ∷ rest)) k
      among = on_path b ts goal seen (f ∷ rest) done k w closes.0 closes.1 (s.opens.open_there k s.here)

      none : (q : List ℕ) → Among (names (f ∷ rest)) q ⊎ (q ≡ k) → clean b q ≡ None
      none = none_clean b k (names (f ∷ rest)) (the_chain w s) (inr among)
  refused_later (Dynamic path) w s closes = absurd closes

  -- the path leads from the target to a dynamic rule
  pub dynamic_later : Among ts goal → IsWalk b ts goal seen (f ∷ rest) done → Waits b done f at k → IsDynamicRule b k → MeetsDynamic b ts
  dynamic_later among w s is_dynamic =
      let from = unwound_from goal f.name (names rest) (k ∷ []) w.from in
      (goal ∷ from.0, (among, subst (λ (path : List (List ℕ)). LeadsToDynamic b path) from.1 (leads_unwound b k (names (f ∷ rest)) [] (the_chain w s) is_dynamic)))
