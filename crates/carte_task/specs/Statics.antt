-- What a static task is a task of, and what a run of one comes to.
use Rattle.std.specs.Prelude.{ℕ, Bool, true, false, List, [], ◌≡◌, ◌⊎◌, map, Option, Some, None, Result, Ok, Err}
use Rattle.carte_name.specs.declared.kind.Kind.{Kind}
use Rattle.carte_value.specs.declared.value.Value.{Value}
use Rattle.carte_value.specs.Truths.{Truth}
use Rattle.carte_value.specs.Asks.{Asks, done, run}
use Rattle.carte_value.specs.Once.{once}
use Rattle.carte_tree.specs.Tree.{Tree}
use Rattle.carte_tree.specs.Formula.{refs_of, is_static_tree}
use Rattle.carte_tree.specs.Meaning.{asks, eval}
use Rattle.carte_effect.specs.declared.effect.Halt.{Halt}
use Rattle.carte_effect.specs.declared.effect.Halt.TheVariants.{Stop, NoMemory}
use Rattle.carte_task.specs.declared.static_task.StaticTask.{StaticTask}
use Rattle.carte_task.specs.declared.task.Task.{Task}
use Rattle.carte_task.specs.declared.progress.Progress.{Progress}
use Rattle.carte_task.specs.Code.{exec, top}
use Rattle.carte_task.specs.State.{answers_in}
use Rattle.carte_effect.specs.Effects.{paired}
use Rattle.carte_effect.specs.Ledger.{Ledger, with_start, with_end}
use Rattle.carte_effect.specs.Lists.{ValuesOf, StopsAmong, listed}
use Rattle.carte_effect.specs.Outcomes.{Outcome, links_of}

abbrev pub static_key : StaticTask → List ℕ
static_key s = s.key

abbrev pub static_refs : StaticTask → List (List ℕ)
static_refs s = s.refs

abbrev pub static_asks : StaticTask → Asks Value
static_asks s = exec s.kind 0 s.code.items []

-- the formula is static, and it has its key, computation and references
pub record IsStaticTaskOf (kind : Kind) (k : List ℕ) (e : Tree) (s : StaticTask) : Type 0 where
  pub fixed : is_static_tree e ≡ true
  pub key : static_key s ≡ k
  pub computes : static_asks s ≡ asks kind e
  pub refs : static_refs s ≡ refs_of e

-- there is one exactly where the formula is static
abbrev pub IsStaticOf : Kind → List ℕ → Tree → Option StaticTask → Type 0
IsStaticOf kind k e (Some s) = IsStaticTaskOf kind k e s
IsStaticOf kind k e None = is_static_tree e ≡ false

-- the same key, kind and code
pub record HasParts (t : Task) (s : StaticTask) : Type 0 where
  pub key : s.key ≡ t.routine.key
  pub kind : s.kind ≡ t.routine.kind
  pub code : s.code.items ≡ t.routine.code.items

-- the value over the truth, with the links of all references
pub record IsStaticEnd (t : Truth) (s : StaticTask) (o : Outcome) : Type 0 where
  pub key : o.key ≡ static_key s
  pub value : run t (static_asks s) ≡ Ok o.value
  pub values : List Value
  pub known : ValuesOf t (static_refs s) values
  pub links : o.links ≡ links_of (paired (static_refs s) values)

-- one start and one end
abbrev pub with_run : Ledger → List ℕ → Ledger
with_run r k = with_end (with_start r k) k

-- its references were asked for at once: it ended over their values, or they were withheld; or it stopped at the first without a value
abbrev pub StaticRan : {S : Type 0} → Truth → (List ℕ → S → Type 0) → Bool → Option (List (List ℕ)) → Option (List (List ℕ)) → StaticTask → Ledger → Ledger → Result (Option Outcome) (Halt S) → Type 0
StaticRan t own withholds log0 log s runs0 runs (Ok (Some o)) = (withholds ≡ false) × (log ≡ listed log0 (static_refs s)) × IsStaticEnd t s o × (runs ≡ with_run runs0 (static_key s))
StaticRan t own withholds log0 log s runs0 runs (Ok None) = (withholds ≡ true) × (log ≡ listed log0 (static_refs s)) × (runs ≡ runs0)
StaticRan t own withholds log0 log s runs0 runs (Err (Stop stop)) = StopsAmong t own (static_refs s) stop × (log ≡ log0) × (runs ≡ runs0)
StaticRan t own withholds log0 log s runs0 runs (Err NoMemory) = ((log ≡ log0) ⊎ (log ≡ listed log0 (static_refs s))) × (runs ≡ runs0)

-- the formula's value for the key, with links of its references
pub record IsRead (kind : Kind) (t : Truth) (k : List ℕ) (e : Tree) (o : Outcome) : Type 0 where
  pub key : o.key ≡ k
  pub value : eval kind t e ≡ Ok o.value
  pub links : map (λ l. l.name) o.links ≡ refs_of e

-- what a run is for the formula: it is read, with one run; it is stuck at a name, or its references were asked for alone, with none
abbrev pub Reads : {S : Type 0} → Kind → Truth → (List ℕ → S → Type 0) → Bool → List ℕ → Tree → Ledger → Ledger → Result (Option Outcome) (Halt S) → Type 0
Reads kind t own withholds k e runs0 runs (Ok (Some o)) = IsRead kind t k e o × (runs ≡ with_run runs0 k)
Reads kind t own withholds k e runs0 runs (Ok None) = (withholds ≡ true) × (runs ≡ runs0)
Reads kind t own withholds k e runs0 runs (Err (Stop stop)) = ((j : List ℕ) × (eval kind t e ≡ Err j) × own j stop) × (runs ≡ runs0)
Reads kind t own withholds k e runs0 runs (Err NoMemory) = runs ≡ runs0

-- over values that stand: it is read with one run, unless there is no memory
abbrev pub IsReadFrom : {F : Type 0} → Kind → Truth → List ℕ → Tree → Ledger → Ledger → Result (Option Outcome) F → Type 0
IsReadFrom kind t k e runs0 runs (Ok (Some o)) = IsRead kind t k e o × (runs ≡ with_run runs0 k)
IsReadFrom kind t k e runs0 runs (Ok None) = ⊥
IsReadFrom kind t k e runs0 runs (Err refused) = runs ≡ runs0

-- what it comes to over these values of its references
pub record EndsOver (s : StaticTask) (vs : List Value) (o : Outcome) : Type 0 where
  pub key : o.key ≡ static_key s
  pub value : once (paired (static_refs s) vs) (static_asks s) ≡ done o.value
  pub links : o.links ≡ links_of (paired (static_refs s) vs)

-- a task that has come to its end over them, with the value on top
pub record IsOver (s : StaticTask) (vs : List Value) (p : Progress) : Type 0 where
  pub value : once (paired (static_refs s) vs) (static_asks s) ≡ done (top p.values.items)
  pub answers : answers_in p ≡ paired (static_refs s) vs
