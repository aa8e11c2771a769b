-- What is done is finished under its key after each step of the schedule, whatever is kept.
use Rattle.std.proofs.Common.{ℕ, Bool, List, [], ◌∷◌, Option, Some, None, Result, Ok, Err, sym, subst}
use Rattle.carte_effect.specs.declared.look.Stuck.{Stuck}
use Rattle.carte_effect.specs.declared.outcome.Made.{Made}
use Rattle.carte_effect.specs.Ledger.{Ledger}
use Rattle.carte_book.specs.Book.{Book}
use Rattle.carte_sound.specs.Held.{How}
use Rattle.carte_note.specs.declared.finished.Finished.{Finished}
use Rattle.carte_bench.specs.declared.slot.Slot.TheVariants.{Stopped}
use Rattle.carte_bench.specs.Keys.{AreKeyed}
use Rattle.carte_bench.specs.Spots.{Spots, name_of}
use Rattle.carte_bench.specs.Steps.{GivesOf}
use Rattle.carte_bench.specs.Turns.{Turned}
use Rattle.carte_bench.proofs.Keys.{put_keyed}
use Rattle.carte_progress.specs.Progress.{HasDone}
use Rattle.carte_progress.proofs.Done.{done_opens, done_stopped, done_ended}
use Rattle.carte_progress.proofs.Turned.{turn_put}
use Rattle.carte_restart.specs.Anew.{IsRenewed, TurnedAnew}
use Rattle.carte_restart.specs.Schedule.{Stage, Follows, TurnsFirst, Turns, ended, next, Treats, TreatsEach}

-- jobs that are begun are ones of their keys, and each turn keeps that
module _ {J : Type 0} (keyed : J → List ℕ → Type 0) (name : J → List ℕ) (started : J → Bool) (gives : GivesOf J) (begins : List ℕ → J → Type 0) (h : How) (b : Book) (begin : (k : List ℕ) (j : J) → begins k j → keyed j k) (keeps : (old new : Spots J) (r r' : Ledger) (k : List ℕ) (m : Option Made) → Turned name started gives b old new r r' k m → AreKeyed keyed old → AreKeyed keyed new) where
  -- a job stopped, and was given up for a new one
  done_anew : (old new : Spots J) (r r' : Ledger) (k : List ℕ) (x : Stuck) (fs : List Finished) → IsRenewed name started gives begins b old new r r' k x → HasDone keyed old fs → HasDone keyed new fs
  done_anew old new r r' k x fs anew has =
      let n = name_of x in
      let mid = done_stopped keyed old anew.mid k anew.turned.after n fs (turn_put name started gives b old anew.mid r r' k (Err x) anew.turned) (keeps old anew.mid r r' k None (x, anew.turned) has.keys) has in
      done_stopped keyed anew.mid new k anew.job n fs anew.put (put_keyed keyed anew.mid new k (Stopped anew.job n) mid.keys (begin k anew.job anew.begun) anew.put) mid

  -- a key had a turn
  done_turn : (k : List ℕ) (ks : List (List ℕ)) (s d : Stage J) → TurnsFirst name started gives begins h b k ks s d → HasDone keyed s.spots s.finished → HasDone keyed d.spots d.finished
  done_turn k ks s d first has = at first.outcome first.turned first.follows
    where
      at : (o : Result Made Stuck) → TurnedAnew name started gives begins b s.spots first.mid s.runs d.runs k o → Follows name started gives begins h b o k ks first.mid s.finished d → HasDone keyed d.spots d.finished
      at (Ok m) turned (same, path, ends) =
          let put = turn_put name started gives b s.spots first.mid s.runs d.runs k (Ok m) turned in
          subst (λ l. HasDone keyed l d.finished) (sym same) (done_ended keyed h b s.spots first.mid k m s.finished d.finished put (keeps s.spots first.mid s.runs d.runs k (Some m) turned has.keys) ends has)
      at (Err x) anew (same, opens) =
          let mid = done_anew s.spots first.mid s.runs d.runs k x s.finished anew has in
          subst (HasDone keyed d.spots) (sym same) (done_opens keyed name started begins b first.mid d.spots (k ∷ ks) d.path (name_of x) s.finished begin opens mid)

  -- turn after turn
  done_turns : (s d : Stage J) → Turns name started gives begins h b s d → HasDone keyed s.spots s.finished → HasDone keyed d.spots d.finished
  done_turns s d (ended none) has = has
  done_turns s d (next {k = k} {ks = ks} {m = m} is one rest) has = done_turns m d rest (done_turn k ks s m one has)

  -- a name was treated
  done_treats : (n : List ℕ) (s d : Stage J) → Treats name started gives begins h b n s d → HasDone keyed s.spots s.finished → HasDone keyed d.spots d.finished
  done_treats n s d treats has = done_turns (record { spots = treats.first; path = treats.path; finished = s.finished; runs = s.runs }) d treats.turns (done_opens keyed name started begins b s.spots treats.first s.path treats.path n s.finished begin treats.opened has)

  -- so were these, one after another
  pub done_each : (ns : List (List ℕ)) (s d : Stage J) → TreatsEach name started gives begins h b ns s d → HasDone keyed s.spots s.finished → HasDone keyed d.spots d.finished
  done_each [] s d same has = subst (λ (e : Stage J). HasDone keyed e.spots e.finished) (sym same) has
  done_each (n ∷ ns) s d (m, one, rest) has = done_each ns m d rest (done_treats n s m one has)
