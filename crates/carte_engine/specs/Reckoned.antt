-- From the end of a build to what it has made.
use Rattle.std.specs.Prelude.{ℕ, ◌≡◌, ◌⊎◌, ◌-◌, List, length, Option, Some, None}
use Rattle.carte_value.specs.declared.value.Value.{Value}
use Rattle.carte_value.specs.Truths.{Among, IsListOf}
use Rattle.carte_effect.specs.Jobs.{outcome_of}
use Rattle.carte_effect.specs.Ledger.{given_up as left_open}
use Rattle.carte_book.specs.Book.{Book, Item, input, rule, content}
use Rattle.carte_book.specs.Edits.{IsInput}
use Rattle.carte_note.specs.declared.finished.Finished.{Finished}
use Rattle.carte_note.specs.Lists.{finished_of}
use Rattle.carte_note.specs.Right.{keys_in, ran_in}
use Rattle.carte_record.specs.declared.batch.Batch.{Batch}
use Rattle.carte_record.specs.Kept.{SomeKept}
use Rattle.carte_rebuild.specs.declared.work.Work.{Work}
use Rattle.carte_rebuild.specs.declared.work.WorkEnd.{WorkEnd}
use Rattle.carte_rebuild.specs.declared.work.WorkEnd.TheVariants.{All, Refused}
use Rattle.carte_rebuild.specs.Ends.{EndsInOrder, EndsRestarting, EndsSuspending, IsNewChain}
use Rattle.carte_sound.specs.Begun.{Beginning, begin}
use Rattle.carte_sound.specs.Held.{How}
use Rattle.carte_sound.specs.Parts.{PartsRestarting}
use Rattle.carte_sound.specs.Treated.{IsDoneRestarting}
use Rattle.carte_plan.specs.Cuts.{PlansParts}
use Rattle.carte_plan.specs.Planned.{IsBuilt}
use Rattle.carte_engine.specs.Answers.{AreValues}
use Rattle.carte_engine.specs.declared.answer.Answer.{Answer}
use Rattle.carte_engine.specs.declared.answer.Answer.TheVariants as answer
use Rattle.carte_engine.specs.declared.answer.Built.{Built}
use Rattle.carte_engine.specs.declared.scheduler.Scheduler.{Scheduler}
use Rattle.carte_engine.specs.declared.scheduler.Scheduler.TheVariants.{Topological, Restarting, Suspending}

-- how a scheduler comes to its end
abbrev pub EndsBy : Scheduler → How → SomeKept → Book → List (List ℕ) → WorkEnd → Type 0
EndsBy Topological h M b targets end = EndsInOrder h M b targets end
EndsBy Restarting h M b targets end = EndsRestarting h M b targets end
EndsBy Suspending h M b targets end = EndsSuspending h M b targets end

-- it is an input, or was finished
abbrev pub IsThere : Book → List Finished → List ℕ → Type 0
IsThere b fs k = IsInput b k ⊎ Among (keys_in fs) k

abbrev pub value_made : Option Finished → Option Value
value_made None = None
value_made (Some f) = Some (outcome_of f.made).value

abbrev pub value_at : Option Item → Option Finished → Option Value
value_at None o = value_made o
value_at (Some (input v)) o = Some v
value_at (Some (rule e)) o = value_made o

-- an input's value, and of any other name that of the finished key, where it was finished
abbrev pub value_found : Book → List Finished → List ℕ → Option Value
value_found b fs k = value_at (content b k) (finished_of fs k)

-- what work has made, whatever it was done over
pub record IsReckoned (b : Book) (targets : List (List ℕ)) (w : Work) (built : Built) : Type 0 where
  pub values : AreValues (value_found b w.finished) targets built.values
  pub ran : IsListOf (Among (ran_in w.finished)) built.ran
  pub reused : built.reused ≡ length w.finished - length built.ran
  pub given_up : built.given_up ≡ left_open w.runs
  pub finished : built.finished ≡ w.finished
  pub runs : built.runs ≡ w.runs

-- the answer shows what the end of a build has come to: its finished keys, by which its values and counts are told, or its reason; and its ledger
abbrev pub ShowsEnd : Book → List (List ℕ) → WorkEnd → Answer → Type 0
ShowsEnd b targets (All w) (answer.Built built) = IsReckoned b targets w built
ShowsEnd b targets (All w) (answer.Refused reason runs) = ⊥
ShowsEnd b targets (Refused w why) (answer.Built built) = ⊥
ShowsEnd b targets (Refused w why) (answer.Refused reason runs) = (reason ≡ why) × (runs ≡ w.runs)

-- The batches of work that was done over M: those of its finished keys, part by part, and with the new chain in the last where the work has one.
pub record AreBatchesOf (h : How) (K M : SomeKept) (b : Book) (x : Beginning) (w : Work) (Bs : List Batch) : Type 0 where
  pub plain : w.chain ≡ None → PlansParts h K b x w.finished Bs
  pub chained : (targets : List (List ℕ)) → IsNewChain M w → IsBuilt h K b x (IsDoneRestarting h (begin K x) b targets) w.finished → PartsRestarting h K b targets Bs
