-- The ordering walk: its state, and what one turn does to it.
use Rattle.std.specs.Prelude.{ℕ, ◌≡◌, ◌≤◌, ◌⊎◌, Bool, true, false, List, [], ◌∷◌, ◌++◌, map, length, take, slice_get, Option, Some, None, Result, Ok, Err, if◌then◌else◌}
use Rattle.std.specs.List.{list_any}
use Rattle.indexmap.specs.IndexMap.{IndexMap, get}
use Rattle.carte_name.specs.Names.{name_eq}
use Rattle.carte_value.specs.Truths.{Truth}
use Rattle.carte_tree.specs.Tree.{Tree}
use Rattle.carte_tree.specs.Formula.{refs_of, is_static_tree}
use Rattle.carte_tree.specs.InTurn.{Each}
use Rattle.carte_book.specs.declared.reason.Reason.{Reason}
use Rattle.carte_book.specs.declared.reason.Reason.TheVariants.{Cycle, Missing, Dynamic}
use Rattle.carte_book.specs.Book.{Item, input, rule, Book, content, clean}
use Rattle.carte_book.specs.Dynamic.{IsDynamicRule}
pub use Rattle.carte_search.specs.Search.{unwound}
use Rattle.carte_topo.specs.declared.walk.Frame.{Frame}
use Rattle.carte_topo.specs.declared.walk.Stage.{Stage}
use Rattle.carte_topo.specs.declared.walk.Stage.TheVariants.{OnPath, Passed}
use Rattle.carte_topo.specs.declared.walk.Stop.{Stop}
use Rattle.carte_topo.specs.declared.walk.Stop.TheVariants.{Refused, NoMemory, Dynamic as MetDynamic}

-- how far the walk is with each rule that it has met
abbrev pub Seen : Type 0
Seen = List ℕ → Option Stage

abbrev pub seen_in : {S : Type 0} → IndexMap (List ℕ) Stage S → Seen
seen_in m k = get name_eq m k

-- the newest first
abbrev pub Path : Type 0
Path = List Frame

-- the rules that are done, in order
abbrev pub Done : Type 0
Done = List (List ℕ)

abbrev pub has : Done → List ℕ → Bool
has done k = list_any (name_eq k) done

abbrev pub ready_at : Option Item → Bool → Bool
ready_at None d = false
ready_at (Some (input v)) d = true
ready_at (Some (rule e)) d = d

-- an input, or a rule that is done
abbrev pub is_ready : Book → Done → List ℕ → Bool
is_ready b done k = ready_at (content b k) (has done k)

abbrev pub AllReady : Book → Done → List (List ℕ) → Type 0
AllReady b done ks = Each (λ k. is_ready b done k ≡ true) ks

-- the clean values of what is ready
abbrev pub part : Book → Done → Truth
part b done k = if is_ready b done k then clean b k else None

-- all names before the place are ready, and the one at it isn't, if there is one
pub record OpensAt (b : Book) (done : Done) (ks : List (List ℕ)) (at : ℕ) : Type 0 where
  pub within : at ≤ length ks
  pub before : AllReady b done (take at ks)
  pub open_there : (k : List ℕ) → slice_get ks at ≡ Some k → is_ready b done k ≡ false

abbrev pub names : Path → List (List ℕ)
names p = map (λ f. f.name) p

-- this rule has come to this stage
abbrev pub Marks : Seen → Seen → List ℕ → Stage → Type 0
Marks old new k stage = (q : List ℕ) → new q ≡ (if name_eq k q then Some stage else old q)

-- what was met tells of rules whether they are ready
pub record Tells (b : Book) (seen : Seen) (done : Done) : Type 0 where
  pub passed : (k : List ℕ) → seen k ≡ Some Passed → is_ready b done k ≡ true
  pub on_path : (k : List ℕ) → seen k ≡ Some OnPath → is_ready b done k ≡ false
  pub unmet : (k : List ℕ) → seen k ≡ None → has done k ≡ false

-- a static rule that wasn't met before is put on the path
pub record Entered (b : Book) (seen seen' : Seen) (path path' : Path) (k : List ℕ) : Type 0 where
  pub formula : Tree
  pub is_rule : content b k ≡ Some (rule formula)
  pub is_static : is_static_tree formula ≡ true
  pub unmet : seen k ≡ None
  pub marks : Marks seen seen' k OnPath
  pub on_path : path' ≡ record { name = k; refs = refs_of formula; at = 0 } ∷ path

-- a name with nothing, or one that was met before, ends the walk
abbrev pub Closes : Book → Seen → List (List ℕ) → List ℕ → Reason → Type 0
Closes b seen js k (Missing path) = (content b k ≡ None) × (path ≡ unwound js (k ∷ []))
Closes b seen js k (Cycle path) = (stage : Stage) × (seen k ≡ Some stage) × (path ≡ unwound js (k ∷ []))
Closes b seen js k (Dynamic path) = ⊥

abbrev pub Enters : Book → Seen → Seen → Path → Path → List ℕ → Result (Unit {0}) Stop → Type 0
Enters b seen seen' path path' k (Ok u) = Entered b seen seen' path path' k
Enters b seen seen' path path' k (Err NoMemory) = Unit {0}
Enters b seen seen' path path' k (Err MetDynamic) = IsDynamicRule b k
Enters b seen seen' path path' k (Err (Refused reason)) = Closes b seen (names path) k reason

-- a frame's static rule, whose references before its place are ready
pub record Stands (b : Book) (done : Done) (f : Frame) : Type 0 where
  pub formula : Tree
  pub is_rule : content b f.name ≡ Some (rule formula)
  pub is_static : is_static_tree formula ≡ true
  pub of_formula : f.refs ≡ refs_of formula
  pub within : f.at ≤ length f.refs
  pub before : AllReady b done (take f.at f.refs)

-- the newest rule is done
pub record Finishes (b : Book) (seen seen' : Seen) (done done' : Done) (f : Frame) : Type 0 where
  pub formula : Tree
  pub is_rule : content b f.name ≡ Some (rule formula)
  pub is_static : is_static_tree formula ≡ true
  pub ready : AllReady b done (refs_of formula)
  pub marks : Marks seen seen' f.name Passed
  pub puts : done' ≡ done ++ f.name ∷ []

-- the newest rule waits for its first reference that isn't ready
pub record Waits (b : Book) (done : Done) (f : Frame) (at : ℕ) (k : List ℕ) : Type 0 where
  pub formula : Tree
  pub is_rule : content b f.name ≡ Some (rule formula)
  pub is_static : is_static_tree formula ≡ true
  pub of_formula : f.refs ≡ refs_of formula
  pub opens : OpensAt b done f.refs at
  pub here : slice_get f.refs at ≡ Some k

-- either it is done, or the rule for which it waits is entered
abbrev pub Turned : Book → Seen → Seen → Path → Path → Done → Done → Frame → Type 0
Turned b seen seen' rest path' done done' f =
    (Finishes b seen seen' done done' f × (path' ≡ rest))
    ⊎ ((at : ℕ) × (k : List ℕ) × Waits b done f at k × Entered b seen seen' (record { name = f.name; refs = f.refs; at = at } ∷ rest) path' k × (done' ≡ done))

abbrev pub Turns : Book → Seen → Seen → Path → Path → Done → Done → Frame → Result (Unit {0}) Stop → Type 0
Turns b seen seen' rest path' done done' f (Ok u) = Turned b seen seen' rest path' done done' f
Turns b seen seen' rest path' done done' f (Err NoMemory) = Unit {0}
Turns b seen seen' rest path' done done' f (Err MetDynamic) = (at : ℕ) × (k : List ℕ) × Waits b done f at k × IsDynamicRule b k
Turns b seen seen' rest path' done done' f (Err (Refused reason)) = (at : ℕ) × (k : List ℕ) × Waits b done f at k × Closes b seen (f.name ∷ names rest) k reason

-- a stop for a reason has one that is so, and a stop at a dynamic rule comes only where this holds
abbrev pub Refuses : Stop → Type 0 → (Reason → Type 0) → Type 0
Refuses NoMemory D P = Unit {0}
Refuses MetDynamic D P = D
Refuses (Refused reason) D P = P reason
