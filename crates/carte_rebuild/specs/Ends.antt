-- What a build has come to at its end.
use Rattle.std.specs.Prelude.{ℕ, ◌≡◌, ◌⊎◌, ◌≤◌, ◌+◌, Bool, true, false, List, [], ◌∷◌, length, filter, Option, Some, None, if◌then◌else◌}
use Rattle.carte_value.specs.Truths.{Among, NoneTwice}
use Rattle.carte_effect.specs.Ledger.{Ledger, no_runs}
use Rattle.carte_name.specs.Names.{name_eq}
use Rattle.carte_book.specs.Book.{Item, input, rule, Book, content}
use Rattle.carte_book.specs.Edits.{IsInput}
use Rattle.carte_book.specs.Needs.{needs, IsReachedRule}
use Rattle.carte_book.specs.Dynamic.{NoDynamicPath, IsOrderReason}
use Rattle.carte_book.specs.Reason.{AllClean, IsReason}
use Rattle.carte_record.specs.Kept.{SomeKept}
use Rattle.carte_sound.specs.Base.{IsBase}
use Rattle.carte_sound.specs.Finished.{IsFinishing}
use Rattle.carte_sound.specs.Held.{How}
use Rattle.carte_sound.specs.Chains.{IsRightChain}
use Rattle.carte_sound.specs.LeadsTo.{chain_behind}
use Rattle.carte_sound.specs.Left.{keys_of}
use Rattle.carte_sound.specs.Treated.{IsDoneInOrder, IsDoneRestarting, IsDoneSuspending, IsTreated, IsTreatedRestarting}
use Rattle.carte_note.specs.Right.{AreRight, finishes_of, keys_in, ran_in}
use Rattle.carte_rebuild.specs.declared.work.Work.{Work}
use Rattle.carte_rebuild.specs.declared.work.WorkEnd.{WorkEnd}
use Rattle.carte_rebuild.specs.declared.work.WorkEnd.TheVariants.{All, Refused}

-- what a build begins with may be relied on, for some history
abbrev pub IsGiven : SomeKept → Book → Type 0
IsGiven K b = (H : List Book) × IsBase K b H

-- exactly what is done was finished, each key once, rightly and in an order in which it may be; the tasks that ended are those of the keys that ran
pub record IsWork (h : How) (K : SomeKept) (b : Book) (done : List ℕ → Type 0) (w : Work) : Type 0 where
  pub right : AreRight h K b w.finished
  pub order : IsFinishing h b K done (finishes_of w.finished)
  pub ends : w.runs.ends ≡ ran_in w.finished

-- each task was started once, and exactly those that were started have ended
pub record NothingGivenUp (w : Work) : Type 0 where
  pub once : NoneTwice w.runs.starts
  pub only : (k : List ℕ) → Among w.runs.starts k → Among w.runs.ends k
  pub each : (k : List ℕ) → Among w.runs.ends k → Among w.runs.starts k

-- tasks may have been given up: each was started once and is of a key that is treated, and each that has ended was started
pub record StartedOnce (treated : List ℕ → Type 0) (w : Work) : Type 0 where
  pub once : NoneTwice w.runs.starts
  pub only : (k : List ℕ) → Among w.runs.starts k → treated k
  pub each : (k : List ℕ) → Among w.runs.ends k → Among w.runs.starts k

-- each target of a build that succeeds is an input or finished, whatever is kept
abbrev pub HasTargets : Book → List (List ℕ) → WorkEnd → Type 0
HasTargets b targets (All w) = (t : List ℕ) → Among targets t → IsInput b t ⊎ Among (keys_in w.finished) t
HasTargets b targets (Refused w reason) = Unit {0}

-- nothing was finished or started
pub record IsNoWork (w : Work) : Type 0 where
  pub finished : w.finished ≡ []
  pub runs : w.runs ≡ no_runs

-- where rules are ordered before any is worked out: all that is reached, or a refusal before any run
abbrev pub EndsInOrder : How → SomeKept → Book → List (List ℕ) → WorkEnd → Type 0
EndsInOrder h K b targets (All w) = (w.chain ≡ None) × NoDynamicPath b targets × AllClean b targets
    × (IsGiven K b → IsWork h K b (IsDoneInOrder b targets) w × NothingGivenUp w)
EndsInOrder h K b targets (Refused w reason) = (w.chain ≡ None) × IsOrderReason b targets reason × IsNoWork w

-- where a rule waits for what it needs: all that is treated and has a clean value, and a refusal exactly for the reason, where tasks may have been given up
abbrev pub EndsSuspending : How → SomeKept → Book → List (List ℕ) → WorkEnd → Type 0
EndsSuspending h K b targets (All w) = (w.chain ≡ None)
    × (IsGiven K b → AllClean b targets × IsWork h K b (IsDoneSuspending h K b targets) w × NothingGivenUp w)
EndsSuspending h K b targets (Refused w reason) = (w.chain ≡ None)
    × (IsGiven K b → IsReason b targets reason × IsWork h K b (IsDoneSuspending h K b targets) w × StartedOnce (IsTreated h K b targets) w)

-- how often the name stands in the list
abbrev pub times : List ℕ → List (List ℕ) → ℕ
times k [] = 0
times k (j ∷ js) = (if name_eq k j then 1 else 0) + times k js

-- of the starts of the key's task at most so many have no end
abbrev pub GivenUpAtMost : Ledger → List ℕ → ℕ → Type 0
GivenUpAtMost r k n = times k r.starts ≤ times k r.ends + n

-- each start has its end
abbrev pub AllEnded : Ledger → Type 0
AllEnded r = (k : List ℕ) → times k r.starts ≡ times k r.ends

abbrev pub is_rule : Option Item → Bool
is_rule None = false
is_rule (Some (input v)) = false
is_rule (Some (rule e)) = true

-- the rules among the needs of a key
abbrev pub rules_needed : Book → List ℕ → List (List ℕ)
rules_needed b k = filter (λ j. is_rule (content b j)) (needs b k)

-- only what is treated was started, and each that has ended was; a key was given up at most once for each name that it needs
pub record StartsAnew (b : Book) (treated : List ℕ → Type 0) (r : Ledger) : Type 0 where
  pub only : (k : List ℕ) → Among r.starts k → treated k
  pub each : (k : List ℕ) → Among r.ends k → Among r.starts k
  pub others : (k : List ℕ) → GivenUpAtMost r k (length (needs b k))

-- so it is, and a key that is reached was given up at most once for each rule that it needs
pub record GivesUp (b : Book) (targets : List (List ℕ)) (treated : List ℕ → Type 0) (r : Ledger) : Type 0 where
  pub starts : StartsAnew b treated r
  pub reached : (k : List ℕ) → IsReachedRule b targets k → GivenUpAtMost r k (length (rules_needed b k))

-- the finished keys come before the old chain
abbrev pub IsNewChain : SomeKept → Work → Type 0
IsNewChain K w = w.chain ≡ Some (chain_behind (keys_of (finishes_of w.finished)) K.chain)

-- where a rule is begun anew once what it needs is done: the same over what is treated then, with few starts in vain, and none where the kept chain is right
abbrev pub EndsRestarting : How → SomeKept → Book → List (List ℕ) → WorkEnd → Type 0
EndsRestarting h K b targets (All w) = IsNewChain K w
    × (IsGiven K b → AllClean b targets × IsWork h K b (IsDoneRestarting h K b targets) w × GivesUp b targets (IsTreatedRestarting h K b targets) w.runs × (IsRightChain K b targets → AllEnded w.runs))
EndsRestarting h K b targets (Refused w reason) = IsNewChain K w
    × (IsGiven K b → IsReason b targets reason × IsWork h K b (IsDoneRestarting h K b targets) w × StartsAnew b (IsTreatedRestarting h K b targets) w.runs)
