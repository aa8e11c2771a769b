-- What holds of the walk between its turns, and what it has made at its end.
use Rattle.std.specs.Prelude.{ℕ, ◌≡◌, ◌⊎◌, true, List, [], ◌∷◌, Some, None, Result, Ok, Err}
use Rattle.carte_value.specs.Truths.{Truth, Extends, Among, NoneTwice}
use Rattle.carte_tree.specs.Tree.{Tree}
use Rattle.carte_tree.specs.Formula.{refs_of, is_static_tree}
use Rattle.carte_tree.specs.Meaning.{eval}
use Rattle.carte_book.specs.Book.{rule, Book, content, clean}
use Rattle.carte_book.specs.Needs.{IsRule, Reaches}
use Rattle.carte_book.specs.Reason.{IsReason, IsClean, GoesRound, GoesAstray}
use Rattle.carte_book.specs.Dynamic.{IsDynamicPath}
use Rattle.carte_book.specs.declared.reason.Reason.{Reason}
use Rattle.carte_book.specs.declared.reason.Reason.TheVariants.{Cycle, Missing, Dynamic}
use Rattle.carte_topo.specs.declared.walk.Stage.{Stage}
use Rattle.carte_topo.specs.declared.walk.Stage.TheVariants.{OnPath, Passed}
use Rattle.carte_topo.specs.declared.walk.Stop.{Stop}
use Rattle.carte_topo.specs.declared.walk.Stop.TheVariants.{Refused, NoMemory, Dynamic as MetDynamic}
use Rattle.carte_topo.specs.Orders.{IsReady, IsNext, InOrder, IsOrder}
use Rattle.carte_topo.specs.Walk.{Seen, Path, Done, names, Stands}

-- a rule that is done: its references are ready, it has a clean value, and the targets reach it
pub record Finished (b : Book) (targets : List (List ℕ)) (done : Done) (k : List ℕ) : Type 0 where
  pub next : IsNext b done k
  pub has_value : IsClean b k
  pub reached : Reaches b targets k

-- a static rule that refers to k, and stops there over a part of the clean values
pub record StopsAt (b : Book) (j k : List ℕ) : Type 0 where
  pub formula : Tree
  pub is_rule : content b j ≡ Some (rule formula)
  pub is_static : is_static_tree formula ≡ true
  pub named : Among (refs_of formula) k
  pub known : Truth
  pub below : Extends known (clean b)
  pub stops : eval b.kind known formula ≡ Err k

-- each name stops at the next newer one, and the newest at k
abbrev pub StopsInTurn : Book → List ℕ → List (List ℕ) → Type 0
StopsInTurn b k [] = Unit {0}
StopsInTurn b k (j ∷ js) = StopsAt b j k × StopsInTurn b j js

-- all but the newest stop at the next newer one
abbrev pub Linked : Book → List (List ℕ) → Type 0
Linked b [] = Unit {0}
Linked b (k ∷ ks) = StopsInTurn b k ks

abbrev pub AllStand : Book → Done → Path → Type 0
AllStand b done [] = Unit {0}
AllStand b done (f ∷ fs) = Stands b done f × AllStand b done fs

-- the oldest is this name, if there is one
abbrev pub EndsWith : List ℕ → List (List ℕ) → Type 0
EndsWith goal [] = Unit {0}
EndsWith goal (k ∷ []) = k ≡ goal
EndsWith goal (j ∷ k ∷ ks) = EndsWith goal (k ∷ ks)

pub record IsWalk (b : Book) (targets : List (List ℕ)) (goal : List ℕ) (seen : Seen) (path : Path) (done : Done) : Type 0 where
  pub in_order : InOrder b [] done
  pub once : NoneTwice done
  pub finished : (k : List ℕ) → Among done k → Finished b targets done k
  pub waits : (k : List ℕ) → Among (names path) k → seen k ≡ Some OnPath
  pub passed : (k : List ℕ) → Among done k → seen k ≡ Some Passed
  pub met_rule : (k : List ℕ) (stage : Stage) → seen k ≡ Some stage → IsRule b k
  pub met_only : (k : List ℕ) (stage : Stage) → seen k ≡ Some stage → Among (names path) k ⊎ Among done k
  pub stand : AllStand b done path
  pub linked : Linked b (names path)
  pub path_once : NoneTwice (names path)
  pub path_open : (k : List ℕ) → Among (names path) k → ¬ (Among done k)
  pub path_reached : (k : List ℕ) → Among (names path) k → Reaches b targets k
  pub from : EndsWith goal (names path)

-- a path from the goal, which has no clean value
abbrev pub IsPathFrom : Book → List ℕ → Reason → Type 0
IsPathFrom b goal (Cycle path) = (rest : List (List ℕ)) × (path ≡ goal ∷ rest) × (clean b goal ≡ None) × GoesRound b [] path
IsPathFrom b goal (Missing path) = (rest : List (List ℕ)) × (path ≡ goal ∷ rest) × (clean b goal ≡ None) × GoesAstray b [] path
IsPathFrom b goal (Dynamic path) = ⊥

abbrev pub MeetsDynamic : Book → List (List ℕ) → Type 0
MeetsDynamic b targets = (path : List (List ℕ)) × IsDynamicPath b targets path

-- between two targets: nothing is on the path
pub record IsBetween (b : Book) (targets : List (List ℕ)) (seen : Seen) (path : Path) (done : Done) : Type 0 where
  pub empty : path ≡ []
  pub walk : (goal : List ℕ) → IsWalk b targets goal seen [] done

-- a target was reached
pub record Reached (b : Book) (targets : List (List ℕ)) (goal : List ℕ) (seen' : Seen) (path' : Path) (done done' : Done) : Type 0 where
  pub between : IsBetween b targets seen' path' done'
  pub more : (k : List ℕ) → Among done k → Among done' k
  pub known : IsReady b done' goal

abbrev pub Reaching : Book → List (List ℕ) → List ℕ → Seen → Path → Done → Done → Result (Unit {0}) Stop → Type 0
Reaching b targets goal seen' path' done done' (Ok u) = Reached b targets goal seen' path' done done'
Reaching b targets goal seen' path' done done' (Err NoMemory) = Unit {0}
Reaching b targets goal seen' path' done done' (Err MetDynamic) = MeetsDynamic b targets
Reaching b targets goal seen' path' done done' (Err (Refused reason)) = IsPathFrom b goal reason

-- why a walk ended early
abbrev pub IsStop : Book → List (List ℕ) → Stop → Type 0
IsStop b targets NoMemory = Unit {0}
IsStop b targets MetDynamic = MeetsDynamic b targets
IsStop b targets (Refused reason) = IsReason b targets reason

abbrev pub Walks : Book → List (List ℕ) → Result (List (List ℕ)) Stop → Type 0
Walks b targets (Ok done) = IsOrder b targets done
Walks b targets (Err stop) = IsStop b targets stop
