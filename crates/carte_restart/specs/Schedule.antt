-- The schedule of a build that begins keys anew: which key has a turn, and what comes of it.
use Rattle.std.specs.Prelude.{ℕ, ◌≡◌, Bool, List, [], ◌∷◌, ◌++◌, None, Result, Ok, Err}
use Rattle.carte_effect.specs.declared.look.Stuck.{Stuck}
use Rattle.carte_effect.specs.declared.outcome.Made.{Made}
use Rattle.carte_effect.specs.Ledger.{Ledger, no_runs}
use Rattle.carte_book.specs.Book.{Book}
use Rattle.carte_record.specs.Kept.{SomeKept}
use Rattle.carte_sound.specs.Chains.{IsFirstList}
use Rattle.carte_sound.specs.Held.{How}
use Rattle.carte_note.specs.declared.finished.Finished.{Finished}
use Rattle.carte_rebuild.specs.declared.work.Work.{Work}
use Rattle.carte_rebuild.specs.declared.work.WorkEnd.{WorkEnd}
use Rattle.carte_rebuild.specs.declared.work.WorkEnd.TheVariants.{All, Refused}
use Rattle.carte_bench.specs.Spots.{Spots, IsSame, name_of}
use Rattle.carte_bench.specs.Steps.{GivesOf}
use Rattle.carte_progress.specs.Opening.{Opens, EndsKey}
use Rattle.carte_restart.specs.Anew.{TurnedAnew}

-- what stands on the bench, the path of names that wait, what is finished, and the ledger
pub record Stage (J : Type 0) : Type 0 where
  pub spots : Spots J
  pub path : List (List ℕ)
  pub finished : List Finished
  pub runs : Ledger

module _ {J : Type 0} (name : J → List ℕ) (started : J → Bool) (gives : GivesOf J) (begins : List ℕ → J → Type 0) (h : How) (b : Book) where
  -- what was made is finished, and its key leaves the path; the rule at which a key stopped goes before it, or the path is dropped
  abbrev pub Follows : Result Made Stuck → List ℕ → List (List ℕ) → Spots J → List Finished → Stage J → Type 0
  Follows (Ok m) k ks mid fs d = (d.spots ≡ mid) × (d.path ≡ ks) × EndsKey h b fs d.finished m
  Follows (Err x) k ks mid fs d = (d.finished ≡ fs) × Opens name started begins b mid d.spots (k ∷ ks) d.path (name_of x)

  -- the key at the front of the path has a turn, which the ledger counts: where its job was started in it, so does the ledger say, whether it ended or was given up
  pub record TurnsFirst (k : List ℕ) (ks : List (List ℕ)) (s d : Stage J) : Type 0 where
    pub outcome : Result Made Stuck
    pub mid : Spots J
    pub turned : TurnedAnew name started gives begins b s.spots mid s.runs d.runs k outcome
    pub follows : Follows outcome k ks mid s.finished d

  -- turn after turn, until nothing is on the path
  pub data Turns : Stage J → Stage J → Type 0 where
    ended : {s : Stage J} → s.path ≡ [] → Turns s s
    next : {k : List ℕ} {ks : List (List ℕ)} {s m d : Stage J} → s.path ≡ k ∷ ks → TurnsFirst k ks s m → Turns m d → Turns s d

  -- a name is demanded, where it is a rule that wasn't, and turns are given until nothing waits
  pub record Treats (n : List ℕ) (s d : Stage J) : Type 0 where
    pub first : Spots J
    pub path : List (List ℕ)
    pub opened : Opens name started begins b s.spots first s.path path n
    pub turns : Turns (record { spots = first; path = path; finished = s.finished; runs = s.runs }) d

  -- so are these names, one after another
  abbrev pub TreatsEach : List (List ℕ) → Stage J → Stage J → Type 0
  TreatsEach [] s d = d ≡ s
  TreatsEach (n ∷ ns) s d = (m : Stage J) × Treats n s m × TreatsEach ns m d

  -- these were treated over an empty bench; this is what they finished and their ledger
  pub record IsByTurns (names : List (List ℕ)) (w : Work) : Type 0 where
    pub first : Spots J
    pub empty : IsSame (λ k. None) first
    pub last : Spots J
    pub treats : TreatsEach names (record { spots = first; path = []; finished = []; runs = no_runs }) (record { spots = last; path = []; finished = w.finished; runs = w.runs })

  -- however the build ended
  abbrev pub EndsByTurns : List (List ℕ) → WorkEnd → Type 0
  EndsByTurns names (All w) = IsByTurns names w
  EndsByTurns names (Refused w reason) = IsByTurns names w

  -- The rules that the targets led to were treated, in the order of the kept chain, and behind them the targets.
  pub record EndsByList (K : SomeKept) (targets : List (List ℕ)) (end : WorkEnd) : Type 0 where
    pub list : List (List ℕ)
    pub first : IsFirstList K b targets list
    pub turns : EndsByTurns (list ++ targets) end
