-- What jobs make, and when they fit.
use Rattle.std.specs.Prelude.{ℕ, Bool, true, false, not, ◌&&◌, List, [], ◌∷◌, ◌++◌, ◌≡◌, Option, Some, None, Result, Ok, Err, if◌then◌else◌}
use Rattle.carte_value.specs.declared.value.Value.{Value}
use Rattle.carte_value.specs.declared.link.Link.{Link}
use Rattle.carte_value.specs.Truths.{Truth, Among}
use Rattle.carte_value.specs.Once.{Answers, AnswersOf, names_of}
use Rattle.carte_effect.specs.declared.effect.Halt.{Halt}
use Rattle.carte_effect.specs.declared.effect.Halt.TheVariants.{Stop, NoMemory}
use Rattle.carte_effect.specs.declared.outcome.Made.{Made}
use Rattle.carte_effect.specs.declared.outcome.Made.TheVariants.{Ran, Reused}
use Rattle.carte_effect.specs.Effects.{more}
use Rattle.carte_effect.specs.Ledger.{Ledger}
use Rattle.carte_effect.specs.Outcomes.{Outcome, links_of}

abbrev pub outcome_of : Made → Outcome
outcome_of (Ran o) = o
outcome_of (Reused o) = o

-- 1. one drive

-- it came to something, stopped at a name, or had no memory
pub data Step : Type 0 where
  came : Made → Step
  stopped : List ℕ → Step
  no_memory : Step

-- its stop is one of the effect's for the name at which it stopped, which has no value
abbrev pub StepGave : {J S : Type 0} → (J → Truth → Answers → Step → J → Type 0) → Truth → (List ℕ → S → Type 0) → Answers → J → J → Result Made (Halt S) → Type 0
StepGave gives t stops a p q (Ok made) = gives p t a (came made) q
StepGave gives t stops a p q (Err (Stop s)) = (k : List ℕ) × (t k ≡ None) × stops k s × gives p t a (stopped k) q
StepGave gives t stops a p q (Err NoMemory) = gives p t a no_memory q

-- a drive is a step by further answers, which are the truth's and all that it adds to the log
pub record Gave {J S : Type 0} (gives : J → Truth → Answers → Step → J → Type 0) (t : Truth) (stops : List ℕ → S → Type 0) (log0 log : Option Answers) (p q : J) (result : Result Made (Halt S)) : Type 0 where
  pub further : Answers
  pub known : AnswersOf t further
  pub logged : log ≡ more log0 further
  pub gave : StepGave gives t stops further p q result

-- a task that ran has ended, and nothing else has
abbrev pub ends_by : {S : Type 0} → List ℕ → Result Made (Halt S) → List (List ℕ)
ends_by k (Ok (Ran o)) = k ∷ []
ends_by k (Ok (Reused o)) = []
ends_by k (Err h) = []

-- only a task that was started has run, and a job whose task was started reuses nothing
abbrev pub IsStarted : {S : Type 0} → Bool → Bool → Result Made (Halt S) → Type 0
IsStarted before after (Ok (Ran o)) = after ≡ true
IsStarted before after (Ok (Reused o)) = (before ≡ false) × (after ≡ false)
IsStarted before after (Err h) = before ≡ true → after ≡ true

-- the ledger has the job's start once, and its end where it ran
pub record Counted {S : Type 0} (k : List ℕ) (before after : Bool) (old new : Ledger) (result : Result Made (Halt S)) : Type 0 where
  pub starts : new.starts ≡ old.starts ++ (if after && not before then k ∷ [] else [])
  pub ends : new.ends ≡ old.ends ++ ends_by k result
  pub started : IsStarted before after result

-- 2. jobs that fit a truth

-- these names in order, with the digests of their values
pub record AreLinks (t : Truth) (ks : List (List ℕ)) (links : List Link) : Type 0 where
  pub answers : Answers
  pub known : AnswersOf t answers
  pub names : names_of answers ≡ ks
  pub links_are : links ≡ links_of answers

-- a task that ran has looked up all of its needs
abbrev pub HasLinks : Truth → List (List ℕ) → Made → Type 0
HasLinks t needs (Ran o) = AreLinks t needs o.links
HasLinks t needs (Reused o) = Unit {0}

abbrev pub StepFits : {J : Type 0} → (J → Truth → List ℕ → Option Value → List (List ℕ) → List (List ℕ) → Type 0) → Truth → List ℕ → Option Value → List (List ℕ) → List (List ℕ) → Truth → Step → J → Type 0
StepFits fits t k v needs asks part (came made) q = ((outcome_of made).key ≡ k) × (v ≡ Some (outcome_of made).value) × HasLinks t needs made
StepFits fits t k v needs asks part (stopped j) q = Among needs j × (part j ≡ None) × fits q t k v needs asks
StepFits fits t k v needs asks part no_memory q = fits q t k v needs asks

-- what it asked for it may ask for; it ends with the key, the value and the links, or stops where it may and the part lacks a value, and fits on
pub record DriveFits {J : Type 0} (fits : J → Truth → List ℕ → Option Value → List (List ℕ) → List (List ℕ) → Type 0) (t : Truth) (k : List ℕ) (v : Option Value) (needs asks : List (List ℕ)) (part : Truth) (further : Answers) (step : Step) (q : J) : Type 0 where
  pub asked : (j : List ℕ) → Among (names_of further) j → Among asks j
  pub step_fits : StepFits fits t k v needs asks part step q

-- 3. jobs of a key

-- what it came to has the key, or what is left will have it
abbrev pub StepKeyed : {J : Type 0} → (J → List ℕ → Type 0) → List ℕ → Step → J → Type 0
StepKeyed keyed k (came made) q = (outcome_of made).key ≡ k
StepKeyed keyed k (stopped j) q = keyed q k
StepKeyed keyed k no_memory q = keyed q k
