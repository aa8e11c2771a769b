-- The loops of the walk: from one turn to the next, and from one target to the next.
use Rattle.std.proofs.Common.{◌≡◌, ℕ, ◌+◌, ◌*◌, ◌-◌, ◌<◌, List, [], ◌∷◌, ◌++◌, length, refl, sym, inl, inr, length-append, arith}
use Rattle.std.specs.FinMap.{entries}
use Rattle.carte_value.specs.Truths.{Among}
use Rattle.carte_value.specs.Asks.{asked}
use Rattle.carte_value.proofs.Asks.{stop_asked}
use Rattle.carte_value.proofs.Firsts.{firsts_among}
use Rattle.carte_tree.specs.Meaning.{asks}
use Rattle.carte_book.specs.Book.{Book, clean}
use Rattle.carte_book.specs.Needs.{Reaches, target, need}
use Rattle.carte_topo.specs.declared.walk.Frame.{Frame}
use Rattle.carte_topo.specs.Orders.{IsReady}
use Rattle.carte_topo.specs.Walk.{Seen, Path, Done, names, Entered, Turned}
use Rattle.carte_topo.specs.Between.{StopsAt, EndsWith, IsWalk}
use Rattle.carte_topo.proofs.Ready.{end_among}
use Rattle.carte_topo.proofs.Walking.{waits_stops, entered, moved_on, finishing, is_next}
use Rattle.carte_topo.proofs.Marking.{most}

-- between two turns for a target: what was done before still is, and once the path is empty the target is ready
pub record IsTurning (b : Book) (ts : List (List ℕ)) (goal : List ℕ) (seen : Seen) (path : Path) (start done : Done) : Type 0 where
  pub walk : IsWalk b ts goal seen path done
  pub more : (k : List ℕ) → Among start k → Among done k
  pub last : path ≡ [] → IsReady b done goal

pub first_entered : (b : Book) (ts : List (List ℕ)) (goal : List ℕ) (seen seen' : Seen) (path' : Path) (done : Done) → Among ts goal → IsWalk b ts goal seen [] done → Entered b seen seen' [] path' goal → IsTurning b ts goal seen' path' done done
first_entered b ts goal seen seen' path' done among w e = record {
  walk = entered b ts goal seen seen' [] path' done goal w e tt (target among) refl;
  more = λ k h. h;
  last = λ is. let on = e.on_path in cc;
}

-- the name at which a reached rule stops is reached
stop_reached : (b : Book) (ts : List (List ℕ)) (j k : List ℕ) → Reaches b ts j → StopsAt b j k → Reaches b ts k
stop_reached b ts j k reached s = need reached (rw s.is_rule (firsts_among (asked (clean b) (asks b.kind s.formula)) k (stop_asked s.known (clean b) (asks b.kind s.formula) k s.below s.stops)))

pub turned : (b : Book) (ts : List (List ℕ)) (goal : List ℕ) (seen seen' : Seen) (rest path' : Path) (start done done' : Done) (f : Frame) → IsTurning b ts goal seen (f ∷ rest) start done → Turned b seen seen' rest path' done done' f → IsTurning b ts goal seen' path' start done'
turned b ts goal seen seen' rest path' start done done' f t (inl fin) = rw (fin.1, fin.0.puts) (record {
  walk = finishing b ts goal seen seen' rest done f t.walk (is_next b ts goal seen seen' done done' f fin.0) fin.0.marks;
  more = λ k h. end_among done f.name k (inl (t.more k h));
  last = λ is. at_end rest is t.walk.from;
})
  where
    at_end : (r : Path) → r ≡ [] → EndsWith goal (f.name ∷ names r) → IsReady b (done ++ f.name ∷ []) goal
    at_end [] is from = inr (end_among done f.name goal (inr (sym from)))
    at_end (g ∷ gs) is from = cc
turned b ts goal seen seen' rest path' start done done' f t (inr waiting) = record {
  walk = rw waiting.4 (entered b ts goal seen seen' (record { name = f.name; refs = f.refs; at = waiting.0 } ∷ rest) path' done waiting.1 (moved_on b ts goal seen rest done f waiting.0 waiting.1 t.walk waiting.2) waiting.3 (stops, t.walk.linked) (stop_reached b ts f.name waiting.1 (t.walk.path_reached f.name (inl refl)) stops) t.walk.from);
  more = rw waiting.4 t.more;
  last = λ is. let on = waiting.3.on_path in cc;
}
  where
    stops : StopsAt b f.name waiting.1
    stops = waits_stops b ts goal seen (f ∷ rest) done f waiting.0 waiting.1 t.walk waiting.2

-- how often a rule can still come on the path or be done: each turn lowers it by one
abbrev pub left : Book → Path → Done → ℕ
left b path done = 2 * length (entries b.items) - (length path + 2 * length done)

pub turn_smaller : (b : Book) (ts : List (List ℕ)) (goal : List ℕ) (seen seen' : Seen) (rest path' : Path) (done done' : Done) (f : Frame) → IsWalk b ts goal seen (f ∷ rest) done → Turned b seen seen' rest path' done done' f → left b path' done' < left b (f ∷ rest) done
turn_smaller b ts goal seen seen' rest path' done done' f w (inl fin) = rw (fin.1, fin.0.puts) (omega (arith, most b ts goal seen (f ∷ rest) done w, length-append done (f.name ∷ [])))
turn_smaller b ts goal seen seen' rest path' done done' f w (inr waiting) = rw (waiting.3.on_path, waiting.4) (omega (arith, most b ts goal seen (f ∷ rest) done w))
