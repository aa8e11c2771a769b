-- A file that goes from station to station, by steps each of which makes some writing calls.
use Rattle.std.specs.Prelude.{◌≡◌, ◌⊎◌, ℕ, ◌+◌, ◌≤◌, List, [], ◌∷◌, ◌++◌}
use Rattle.carte_io.specs.Disk.{IsTorn, Leaves, Moment, Story, Throughout}

-- how many writing calls a step makes, and the station that it leads to
pub record Step (A : Type 0) : Type 0 where
  pub calls : ℕ
  pub to : A

abbrev pub calls_in : {A : Type 0} → List (Step A) → ℕ
calls_in [] = 0
calls_in (step ∷ steps) = step.calls + calls_in steps

-- the station behind the last step
abbrev pub last_of : {A : Type 0} → A → List (Step A) → A
last_of a [] = a
last_of a (step ∷ steps) = last_of step.to steps

-- `At a file` says that a file is at the station a. It is at this one, or at one of those to which the steps lead
abbrev pub IsAtOneOf : {A : Type 0} → (A → List ℕ → Type 0) → A → List (Step A) → List ℕ → Type 0
IsAtOneOf At a [] file = At a file
IsAtOneOf At a (step ∷ steps) file = At a file ⊎ IsAtOneOf At step.to steps file

-- At a moment, where so many calls had passed before the first step: whatever steps had all their calls passed, each image is at the station
-- behind them or at a later one. So what was acknowledged stands, and before that an image is at one of the stations.
abbrev pub Stands : {A : Type 0} → (A → List ℕ → Type 0) → A → List (Step A) → ℕ → Moment → Type 0
Stands {A = A} At a steps before m =
    (prefix rest : List (Step A)) → steps ≡ prefix ++ rest → before + calls_in prefix ≤ m.passed → Leaves (IsAtOneOf At (last_of a prefix) rest) m

-- at each moment from the old story's last to the new one's, also where the steps were not all made
abbrev pub StepsThrough : {A : Type 0} → (A → List ℕ → Type 0) → A → List (Step A) → Story → Story → Type 0
StepsThrough At a steps old new = Throughout old new (Stands At a steps old.now.passed)

-- at a moment of one step, by whose end so many calls have passed: each image is as before or as after, and from the end on as after
pub record Turns (Before After : List ℕ → Type 0) (count : ℕ) (m : Moment) : Type 0 where
  pub either : Leaves (λ image. Before image ⊎ After image) m
  pub after : count ≤ m.passed → Leaves After m

-- at a moment of writes and of a sync behind them, by whose end so many calls have passed: the ranges are torn, and from the end on the file is new
pub record IsMidway (ranges : List (ℕ × ℕ)) (old new : List ℕ) (count : ℕ) (m : Moment) : Type 0 where
  pub few : m.passed ≤ count
  pub torn : Leaves (IsTorn ranges old) m
  pub whole : count ≤ m.passed → Leaves (λ image. image ≡ new) m
