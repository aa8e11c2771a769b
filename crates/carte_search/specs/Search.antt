-- The search for a goal: what it has met, and by which paths.
use Rattle.std.specs.Prelude.{ℕ, ◌≡◌, ◌≤◌, ◌+◌, ◌++◌, ◌⊎◌, true, false, List, [], ◌∷◌, length, map, slice_get, slice_index_or, Option, Some, None, if◌then◌else◌}
use Rattle.std.specs.BTreeSet.{BTreeSet, contains, IsOrdered}
use Rattle.std.specs.Ordering.{eq_by_cmp}
use Rattle.carte_name.specs.Names.{name_cmp}
use Rattle.carte_value.specs.Truths.{Among}
use Rattle.carte_search.specs.declared.search.Met.{Met}

abbrev pub Unvisited : Type 0
Unvisited = BTreeSet (List ℕ)

-- the names behind each name, the goals, the names to start from, and those that may be visited: all that stand on a path
pub record Graph : Type 1 where
  pub nexts : List ℕ → List (List ℕ)
  pub is_goal : List ℕ → Type 0
  pub starts : List (List ℕ)
  pub nodes : Unvisited

abbrev pub IsNode : Unvisited → List ℕ → Type 0
IsNode nodes k = contains name_cmp nodes k ≡ true

-- goals may be visited, and names with names behind them
pub record HasNodes (nexts : List ℕ → List (List ℕ)) (IsGoal : List ℕ → Type 0) (nodes : Unvisited) : Type 0 where
  pub goals : (k : List ℕ) → IsGoal k → IsNode nodes k
  pub inner : (k j : List ℕ) → Among (nexts k) j → IsNode nodes k

-- the names from the oldest on, and then these
abbrev pub unwound : List (List ℕ) → List (List ℕ) → List (List ℕ)
unwound [] ks = ks
unwound (j ∷ js) ks = unwound js (j ∷ ks)

-- an unvisited name moves from the one set to the other
pub record Moves (unvisited unvisited' next next' : Unvisited) (k : List ℕ) : Type 0 where
  pub was_unvisited : contains name_cmp unvisited k ≡ true
  pub takes : (q : List ℕ) → contains name_cmp unvisited' q ≡ (if eq_by_cmp name_cmp k q then false else contains name_cmp unvisited q)
  pub puts : (q : List ℕ) → contains name_cmp next' q ≡ (if eq_by_cmp name_cmp k q then true else contains name_cmp next q)
  pub fewer : length unvisited'.keys + 1 ≡ length unvisited.keys
  pub more : length next'.keys ≤ length next.keys + 1

-- it wasn't unvisited
pub record Stays (unvisited unvisited' next next' : Unvisited) (k : List ℕ) : Type 0 where
  pub not_unvisited : contains name_cmp unvisited k ≡ false
  pub same_unvisited : unvisited'.keys ≡ unvisited.keys
  pub same_next : next'.keys ≡ next.keys

abbrev pub PicksOne : Unvisited → Unvisited → Unvisited → Unvisited → List ℕ → Type 0
PicksOne unvisited unvisited' next next' k = Moves unvisited unvisited' next next' k ⊎ Stays unvisited unvisited' next next' k

-- those of the names that are unvisited are taken
pub record Picks (unvisited unvisited' next : Unvisited) (names : List (List ℕ)) : Type 0 where
  pub only : (k : List ℕ) → contains name_cmp next k ≡ true → Among names k × (contains name_cmp unvisited k ≡ true)
  pub each : (k : List ℕ) → Among names k → contains name_cmp unvisited k ≡ true → contains name_cmp next k ≡ true
  pub left : (k : List ℕ) → contains name_cmp unvisited' k ≡ true → contains name_cmp unvisited k ≡ true
  pub kept : (k : List ℕ) → contains name_cmp unvisited k ≡ true → (contains name_cmp next k ≡ true) ⊎ (contains name_cmp unvisited' k ≡ true)
  pub count : length unvisited'.keys + length next.keys ≤ length unvisited.keys

-- names behind this one
abbrev pub met_from : Option ℕ → List (List ℕ) → List Met
met_from from ks = map (λ k. record { name = k; from = from }) ks

-- they are put behind the names met, in byte order
pub record Meets (unvisited unvisited' : Unvisited) (met met' : List Met) (names : List (List ℕ)) (from : Option ℕ) : Type 0 where
  pub next : Unvisited
  pub picks : Picks unvisited unvisited' next names
  pub ordered : IsOrdered name_cmp next
  pub behind : met' ≡ met ++ met_from from next.keys

-- names from one back to a start; before all starts stands the trail without names
abbrev pub Trail : Type 0
Trail = List (List ℕ)

abbrev pub place : Option ℕ → ℕ
place None = 0
place (Some i) = i + 1

abbrev pub trails_onto : List Trail → List Met → List Trail
trails_onto ts [] = ts
trails_onto ts (m ∷ ms) = trails_onto (ts ++ (m.name ∷ slice_index_or ts (place m.from) []) ∷ []) ms

-- the trails of the names met, behind the one without names
abbrev pub trails : List Met → List Trail
trails met = trails_onto ([] ∷ []) met

-- each name comes from one met before it
abbrev pub LinksBack : List Met → Type 0
LinksBack met = (i : ℕ) (m : Met) → slice_get met i ≡ Some m → place m.from ≤ i
