-- Computations that end with one key, whatever is answered.
use Rattle.std.proofs.Common.{◌≡◌, ℕ, List, [], ◌∷◌, ◌++◌, Option, Some, None, refl, subst, inl, inr}
use Rattle.carte_value.specs.declared.value.Value.{Value}
use Rattle.carte_value.specs.Truths.{Truth}
use Rattle.carte_value.specs.Asks.{Asks, done, ask, and_then}
use Rattle.carte_value.specs.Lists.{Has}
use Rattle.carte_value.specs.Once.{Answers, Went, once}
use Rattle.carte_effect.specs.declared.outcome.Made.{Made}
use Rattle.carte_effect.specs.Jobs.{Step, came, stopped, no_memory, outcome_of, StepKeyed}
use Rattle.carte_task.specs.Checking.{Checking}
use Rattle.carte_task.specs.Checks.{rest_from}
use Rattle.carte_rebuild.specs.Trying.{with_links, task_left, judged_by, checked, tries, Gives}

-- each end has this key
abbrev pub EndsAs : Asks Made → List ℕ → Type 0
EndsAs (done m) k = (outcome_of m).key ≡ k
EndsAs (ask j go) k = (v : Value) → EndsAs (go v) k

-- so has each end of what is left
pub left_ends_as : (p q : Asks Made) (a : Answers) (k : List ℕ) → EndsAs p k → Went p a q → EndsAs q k
left_ends_as p q [] k keyed is = subst (λ m. EndsAs m k) is keyed
left_ends_as p q ((j, v) ∷ a) k keyed (go, is, went) = left_ends_as (go v) q a k (answered_with (subst (λ m. EndsAs m k) is keyed)) went
  where
    answered_with : ((w : Value) → EndsAs (go w) k) → EndsAs (go v) k
    answered_with each = each v

-- so jobs of such computations go on
pub tries_keyed_on : {J : Type 0} (left : J → Asks Made) (p q : J) (t : Truth) (k : List ℕ) (a : Answers) (step : Step) → EndsAs (left p) k → Gives (left p) t a step (left q) → StepKeyed (λ j i. EndsAs (left j) i) k step q
tries_keyed_on left p q t k a (came m) keyed (known, went) = left_ends_as (left p) (done m) a k keyed went
tries_keyed_on left p q t k a (stopped j) keyed (known, went, go, none) = left_ends_as (left p) (left q) a k keyed went
tries_keyed_on left p q t k a no_memory keyed (known, went) = left_ends_as (left p) (left q) a k keyed went

links_end_as : (k : List ℕ) (a : Answers) (m : Asks Value) → EndsAs (with_links k a m) k
links_end_as k a (done v) = refl
links_end_as k a (ask j go) = λ v. links_end_as k (a ++ (j, v) ∷ []) (go v)

-- a task ends with its key
pub task_ends_as : (k : List ℕ) (m : Asks Value) → EndsAs (task_left k m) k
task_ends_as k m = links_end_as k [] (once [] m)

then_ends_as : (k : List ℕ) (m : Asks (Option ℕ)) (f : Option ℕ → Asks Made) → ((o : Option ℕ) → EndsAs (f o) k) → EndsAs (and_then m f) k
then_ends_as k (done o) f each = each o
then_ends_as k (ask j go) f each = λ v. then_ends_as k (go v) f each

check_ends_as : (k : List ℕ) (c : Checking) (m : Asks Made) → c.earlier.key ≡ k → EndsAs m k → EndsAs (checked c m) k
check_ends_as k c m same keyed = then_ends_as k (rest_from c) (judged_by c.earlier m) each
  where
    each : (o : Option ℕ) → EndsAs (judged_by c.earlier m o) k
    each None = same
    each (Some at) = keyed

-- and so do checks of its earlier ends before it
pub tries_end_as : (k : List ℕ) (cs : List Checking) (m : Asks Made) → ((c : Checking) → Has cs c → c.earlier.key ≡ k) → EndsAs m k → EndsAs (tries cs m) k
tries_end_as k [] m all keyed = keyed
tries_end_as k (c ∷ cs) m all keyed = tries_end_as k cs (checked c m) (λ d has. all d (inr has)) (check_ends_as k c m (all c (inl refl)) keyed)
