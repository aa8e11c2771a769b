-- Whatever is kept, what a schedule of waves has done is finished under its key.
use Rattle.std.proofs.Common.{◌≡◌, ℕ, Bool, List, [], ◌∷◌, None, Result, Ok, Err, sym, subst}
use Rattle.carte_value.specs.Truths.{Truth}
use Rattle.carte_book.specs.Book.{Book}
use Rattle.carte_effect.specs.declared.look.Stuck.{Stuck}
use Rattle.carte_effect.specs.declared.outcome.Made.{Made}
use Rattle.carte_effect.specs.Ledger.{Ledger}
use Rattle.carte_sound.specs.Held.{How}
use Rattle.carte_note.specs.declared.finished.Finished.{Finished}
use Rattle.carte_rebuild.specs.declared.work.Work.{Work}
use Rattle.carte_bench.specs.Spots.{Spots, IsSame, name_of, slot_after, seen_in}
use Rattle.carte_bench.specs.Steps.{GivesOf, step_of}
use Rattle.carte_bench.specs.Keys.{AreKeyed}
use Rattle.carte_bench.proofs.Keys.{put_keyed, job_keyed, after_keyed}
use Rattle.carte_progress.specs.Driven.{DroveOver}
use Rattle.carte_progress.specs.Progress.{HasDone}
use Rattle.carte_progress.proofs.Done.{done_none, done_opens, done_stopped, done_ended}
use Rattle.carte_wave.specs.Laws.{KeyedOn}
use Rattle.carte_wave.specs.Waves.{State, Follows, DrivesKey, DrivesKeys, Waves, ended, next, DemandsEach}

module _ {J : Type 0} (keyed : J → List ℕ → Type 0) (name : J → List ℕ) (started : J → Bool) (gives : GivesOf J) (begins : List ℕ → J → Type 0) (h : How) (b : Book) (law : KeyedOn keyed gives) (begun : (k : List ℕ) (j : J) → begins k j → keyed j k) where
  -- what is done is finished
  abbrev Done : State J → Type 0
  Done s = HasDone keyed s.spots s.finished

  -- where all stands as before
  done_same : (s d : Spots J) (fs : List Finished) → IsSame s d → HasDone keyed s fs → HasDone keyed d fs
  done_same s d fs same has = subst (λ i. HasDone keyed i fs) (λ i q. sym (same q) i) has

  -- a job that was driven is one of its key, or came to something with it
  drove_keyed : (t : Truth) (s d : Spots J) (r r' : Ledger) (k : List ℕ) (o : Result Made Stuck) → DroveOver name started gives t s d r r' k o → AreKeyed keyed s → AreKeyed keyed d
  drove_keyed t s d r r' k o drove all =
      let step = law drove.before t k drove.further (step_of o) drove.after (job_keyed keyed s k drove.before all drove.stood) drove.gave in
      put_keyed keyed s d k (slot_after drove.after o) all (after_keyed keyed k drove.after o step) drove.put

  -- what it came to is followed
  followed : (t : Truth) (s mid d : Spots J) (r r' : Ledger) (k : List ℕ) (o : Result Made Stuck) (fs gs : List Finished) → DroveOver name started gives t s mid r r' k o → Follows name started gives begins h b o mid d fs gs → HasDone keyed s fs → HasDone keyed d gs
  followed t s mid d r r' k (Ok m) fs gs drove (ends, same) has =
      let keys = drove_keyed t s mid r r' k (Ok m) drove has.keys in
      done_same mid d gs same (done_ended keyed h b s mid k m fs gs drove.put keys ends has)
  followed t s mid d r r' k (Err x) fs gs drove (finished, (path, opens)) has =
      let keys = drove_keyed t s mid r r' k (Err x) drove has.keys in
      let stopped = done_stopped keyed s mid k drove.after (name_of x) fs drove.put keys has in
      subst (HasDone keyed d) (sym finished) (done_opens keyed name started begins b mid d [] path (name_of x) fs begun opens stopped)

  -- one key of a wave
  done_key : (t : Truth) (k : List ℕ) (s d : State J) → DrivesKey name started gives begins h b t k s d → Done s → Done d
  done_key t k s d drives has = followed t s.spots drives.mid d.spots s.runs d.runs k drives.outcome s.finished d.finished drives.drove drives.follows has

  -- all keys of a wave
  done_keys : (t : Truth) (ks : List (List ℕ)) (s d : State J) → DrivesKeys name started gives begins h b t ks s d → Done s → Done d
  done_keys t [] s d same has = rw same has
  done_keys t (k ∷ ks) s d (m, drives, rest) has = done_keys t ks m d rest (done_key t k s m drives has)

  -- all waves
  done_waves : (s d : State J) → Waves name started gives begins h b s d → Done s → Done d
  done_waves s d (ended none) has = has
  done_waves s d (next {m = m} wave rest) has = done_waves m d rest (done_keys (seen_in b s.spots) wave.keys s m wave.drove has)

  -- the targets were demanded
  done_demands : (ns : List (List ℕ)) (s d : Spots J) (fs : List Finished) → DemandsEach name started gives begins h b ns s d → HasDone keyed s fs → HasDone keyed d fs
  done_demands [] s d fs same has = done_same s d fs same has
  done_demands (n ∷ ns) s d fs (m, (path, opens), rest) has = done_demands ns m d fs rest (done_opens keyed name started begins b s m [] path n fs begun opens has)

  -- a whole build
  pub done_all : (targets : List (List ℕ)) (s0 s1 s : Spots J) (w0 w : Work) → IsSame (λ q. None) s0 → w0.finished ≡ [] → DemandsEach name started gives begins h b targets s0 s1 → Waves name started gives begins h b (record { spots = s1; finished = w0.finished; runs = w0.runs }) (record { spots = s; finished = w.finished; runs = w.runs }) → HasDone keyed s w.finished
  done_all targets s0 s1 s w0 w empty finished demands waves =
      let none = subst (HasDone keyed s0) (sym finished) (done_none keyed s0 empty) in
      let demanded = done_demands targets s0 s1 w0.finished demands none in
      done_waves (record { spots = s1; finished = w0.finished; runs = w0.runs }) (record { spots = s; finished = w.finished; runs = w.runs }) waves demanded
