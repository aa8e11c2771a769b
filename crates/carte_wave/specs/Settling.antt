-- How what a wave's jobs came to is put back, one after another.
use Rattle.std.specs.Prelude.{ℕ, ◌≡◌, ◌⊎◌, Bool, List, [], ◌∷◌, ◌++◌, Some, None, Result, Ok, Err, MatchBool}
use Rattle.carte_value.specs.Truths.{Among, NoneTwice}
use Rattle.carte_book.specs.Book.{Book}
use Rattle.carte_effect.specs.declared.effect.Halt.{Halt}
use Rattle.carte_effect.specs.declared.effect.Halt.TheVariants.{Stop, NoMemory}
use Rattle.carte_effect.specs.declared.look.Stuck.{Stuck}
use Rattle.carte_effect.specs.declared.look.Stuck.TheVariants.{NotDone, Missing}
use Rattle.carte_effect.specs.declared.outcome.Made.{Made}
use Rattle.carte_sound.specs.Held.{How}
use Rattle.carte_note.specs.declared.finished.Finished.{Finished}
use Rattle.carte_bench.specs.declared.slot.Slot.TheVariants.{Out}
use Rattle.carte_bench.specs.Spots.{Spots, PutAt, IsSame, Takes, is_done, job_in, name_of, slot_after}
use Rattle.carte_bench.specs.Turns.{halted}
use Rattle.carte_progress.specs.Opening.{IsStopIn, Opens, EndsKey}
use Rattle.carte_wave.specs.declared.wave.Driven.{Driven}
use Rattle.carte_wave.specs.Front.{Line, AddsReady, AddsFirst, Waits, Wakes}

-- these keys are out, and all else is as there
pub record AreOut {J : Type 0} (v s : Spots J) (ks : List (List ℕ)) : Type 0 where
  pub out : (q : List ℕ) → Among ks q → s q ≡ Some Out
  pub else_same : (q : List ℕ) → ¬ (Among ks q) → s q ≡ v q

-- these are the jobs of the keys, in order
abbrev pub AreJobs : {J : Type 0} → Spots J → List (List ℕ) → List J → Type 0
AreJobs s [] [] = Unit {0}
AreJobs s [] (p ∷ ps) = ⊥
AreJobs s (k ∷ ks) [] = ⊥
AreJobs s (k ∷ ks) (p ∷ ps) = (job_in (s k) ≡ Some p) × AreJobs s ks ps

-- the key's job was put behind the others, and the key is out; or it can't go on, and nothing changed
abbrev pub TakesOne : {J : Type 0} → Spots J → Spots J → List ℕ → List J → List J → Type 0
TakesOne {J = J} s d k ps qs = ((p : J) × Takes s d k (Some p) × (qs ≡ ps ++ p ∷ [])) ⊎ Takes s d k None

-- a stop tells what stands in the book at its name
abbrev pub StopsIn : Book → Result Made (Halt Stuck) → Type 0
StopsIn b (Ok m) = Unit {0}
StopsIn b (Err (Stop x)) = IsStopIn b x
StopsIn b (Err NoMemory) = Unit {0}

abbrev pub StopEach : {J : Type 0} → Book → List (Driven J) → Type 0
StopEach b [] = Unit {0}
StopEach b (d ∷ ds) = StopsIn b d.outcome × StopEach b ds

abbrev pub names_in : {J : Type 0} → (J → List ℕ) → List (Driven J) → List (List ℕ)
names_in name [] = []
names_in name (d ∷ ds) = name d.job ∷ names_in name ds

-- each of these is out, and none stands twice
pub record AreBack {J : Type 0} (name : J → List ℕ) (b : Book) (s : Spots J) (ds : List (Driven J)) : Type 0 where
  pub out : (q : List ℕ) → Among (names_in name ds) q → s q ≡ Some Out
  pub once : NoneTwice (names_in name ds)
  pub stops : StopEach b ds

-- a key that stopped can go on where that is done by now, and else waits for it
abbrev pub Registers : {J : Type 0} → Spots J → Stuck → List ℕ → Line → Line → Type 0
Registers s (Missing n) k f g = g ≡ f
Registers s (NotDone n) k f g = MatchBool (is_done (s n)) (AddsReady k f g) (Waits n k f g)

module _ {J : Type 0} (name : J → List ℕ) (started : J → Bool) (begins : List ℕ → J → Type 0) (h : How) (b : Book) where
  -- the rule at which it stopped is demanded, and can go on
  pub record Follows (s d : Spots J) (x : Stuck) (k : List ℕ) (f g : Line) : Type 0 where
    pub between : Line
    pub registers : Registers s x k f between
    pub path : List (List ℕ)
    pub opens : Opens name started begins b s d [] path (name_of x)
    pub adds : AddsFirst path between g

  -- what it made is finished, and what waits for it can go on
  abbrev pub SettlesAs : Result Made Stuck → List ℕ → Spots J → Spots J → Line → Line → List Finished → List Finished → Type 0
  SettlesAs (Ok m) k s d f g fs gs = IsSame s d × Wakes k f g × EndsKey h b fs gs m
  SettlesAs (Err x) k s d f g fs gs = Follows s d x k f g × (gs ≡ fs)

  pub record Settles (p : Driven J) (s d : Spots J) (f g : Line) (fs gs : List Finished) : Type 0 where
    pub outcome : Result Made Stuck
    pub is : p.outcome ≡ halted outcome
    pub mid : Spots J
    pub put : PutAt s mid (name p.job) (slot_after p.job outcome)
    pub settled : SettlesAs outcome (name p.job) mid d f g fs gs

  abbrev pub SettlesEach : List (Driven J) → Spots J → Spots J → Line → Line → List Finished → List Finished → Type 0
  SettlesEach [] s d f g fs gs = (d ≡ s) × (g ≡ f) × (gs ≡ fs)
  SettlesEach (p ∷ ps) s d f g fs gs = (m : Spots J) × (l : Line) × (hs : List Finished) × Settles p s m f l fs hs × SettlesEach ps m d l g hs gs
