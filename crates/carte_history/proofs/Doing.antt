-- What a run has done, as the steps of its commits.
use Rattle.std.proofs.Common.{◌≡◌, ◌⊎◌, ℕ, true, List, [], ◌∷◌, Result, Ok, Err, refl, sym, subst, inl, inr}
use Rattle.carte_book.specs.Book.{Book}
use Rattle.carte_book.specs.declared.reason.Reason.{Reason}
use Rattle.carte_record.specs.declared.batch.Batch.{Batch}
use Rattle.carte_session.specs.declared.end.SessionEnd.{SessionEnd}
use Rattle.carte_state.specs.Folding.{Keeps}
use Rattle.carte_state.specs.declared.fault.ApplyFault.{ApplyFault}
use Rattle.carte_state.specs.declared.fault.ApplyFault.TheVariants as applying
use Rattle.carte_state.proofs.Folds.{keeps_one}
use Rattle.carte_words.specs.Words.{words_of}
use Rattle.carte_words.specs.declared.words.Command.{Command}
use Rattle.carte_words.specs.declared.words.Command.TheVariants as command
use Rattle.carte_words.specs.declared.words.Words.{Words as Asked}
use Rattle.carte_engine.specs.Committing.{behind as onwards, steps_put, steps_stopped}
use Rattle.carte_engine.specs.declared.answer.Answer.{Answer}
use Rattle.carte_engine.specs.declared.answer.Answer.TheVariants as answer
use Rattle.carte_report.specs.declared.status.Status.{Status}
use Rattle.carte_report.specs.declared.status.Status.TheVariants as status
use Rattle.carte_top.specs.Around.{Around, OverDisk, OverSink, TakesAll, TakesFront}
use Rattle.carte_top.specs.Found.{Answers, ArePut, Carries, ClearsNot, ClearsTooMuch, Clears, Commits, Found, Halts, Holds, IsClearing, IsStopped, Makes, Overfills, RefusesFor, Replies, behind, for_last, front_of}
use Rattle.carte_top.specs.Outcome.{Asks, Built, BuiltOver, Cleaned, ClearsShort, ComesTo, CommitsRefused, Does, EndsShort, HaltsShort, IsSpared, KeepsRefused, Ran, StopsShort}
use Rattle.carte_history.specs.Steps.{AreBuilt, AreCommitted, ArePutBy, AreSteps, AreStepsFor, AreStoppedBy, EndsSo, Steps, steps_replied, steps_unreplied}
use Rattle.carte_state.specs.Versions.{AnyKept}

module _ (limit : ℕ) (a : Around) (K : AnyKept) (told : a.state.tells) (keeps : Keeps limit K a.state.old.now.reads) where
  abbrev d : OverDisk
  d = a.state

  -- what was found to be kept is what the file keeps
  found : (P : AnyKept → Type 0) → Found limit d P → P K
  found P (M, there, has) = subst P (keeps_one limit d.old.now.reads M K (there told) keeps) has

  -- ---- the batches of a build

  abbrev PutIn : Asked → Book → Steps → Type 0
  PutIn w b rest = (said : Answer) × (Bs : List Batch) × Answers w b K said Bs × ArePutBy limit d K Bs rest

  abbrev PutSo : Asked → Book → Type 0
  PutSo w b = (rest : Steps) × PutIn w b rest

  abbrev StoppedIn : Asked → ApplyFault → Book → Steps → Type 0
  StoppedIn w fault b rest = (said : Answer) × (Bs : List Batch) × Answers w b K said Bs × AreStoppedBy limit d K Bs fault rest

  abbrev StoppedSo : Asked → ApplyFault → Book → Type 0
  StoppedSo w fault b = (rest : Steps) × StoppedIn w fault b rest

  put_by : (Bs : List Batch) → ArePut limit d K Bs → (rest : Steps) × ArePutBy limit d K Bs rest
  put_by Bs put = (steps_put true (onwards d put.found.story) put.found.stand Bs put.last put.puts, (put, refl))

  stopped_by : (Bs : List Batch) (fault : ApplyFault) → IsStopped limit d K Bs fault → (rest : Steps) × AreStoppedBy limit d K Bs fault rest
  stopped_by Bs fault stopped = (steps_stopped (onwards d stopped.found.story) stopped.found.stand Bs stopped.last fault stopped.stops, (stopped, refl))

  put_so : (w : Asked) (said : Answer) (b : Book) → Commits limit w d b K said → PutSo w b
  put_so w said b commits = let put = put_by commits.batches commits.put in (put.0, (said, commits.batches, commits.answers, put.1))

  stopped_so : (w : Asked) (fault : ApplyFault) (b : Book) → Halts limit w d fault b K → StoppedSo w fault b
  stopped_so w fault b halts = let stopped = stopped_by halts.batches fault halts.stopped in (stopped.0, (halts.answer, halts.batches, halts.answers, stopped.1))

  abbrev BuiltSo : Status → Asked → Book → Type 0
  BuiltSo s w b = (rest : Steps) × AreBuilt s limit w d K rest b

  -- where memory is wanted
  put_short : (w : Asked) (b : Book) → PutSo w b → BuiltSo status.NoMemory w b
  put_short w b (rest, (said, Bs, answers, put)) = (rest, (said, Bs, answers, inl put))

  stopped_short : (w : Asked) (fault : ApplyFault) (b : Book) → ¬ (fault ≡ applying.DiskFault) → StoppedSo w fault b → BuiltSo status.NoMemory w b
  stopped_short w fault b other (rest, (said, Bs, answers, stopped)) = (rest, (said, Bs, answers, inr (fault, other, stopped)))

  -- over a book that is had so
  module _ (Has : (Book → Type 0) → Type 0) (map : (P Q : Book → Type 0) → ((b : Book) → P b → Q b) → Has P → Has Q) (w : Asked) (k : OverSink) (front : List ℕ) where
    abbrev Steppy : Status → Type 0
    Steppy s = IsSpared d ⊎ Has (BuiltSo s w)

    halted : (fault : ApplyFault) → Has (λ b. Found limit d (Halts limit w d fault b)) → Has (StoppedSo w fault)
    halted fault = map (λ b. Found limit d (Halts limit w d fault b)) (StoppedSo w fault) (λ b is. stopped_so w fault b (found (Halts limit w d fault b) is))

    replied : (Takes : OverSink → List ℕ → Type 0) → Has (λ b. Found limit d (Replies limit w d k (behind front Takes) b)) → Has (PutSo w)
    replied Takes = map (λ b. Found limit d (Replies limit w d k (behind front Takes) b)) (PutSo w)
        (λ b there. let r = found (Replies limit w d k (behind front Takes) b) there in put_so w (answer.Built r.built) b r.commits)

    refused : (reason : Reason) → Has (λ b. Found limit d (RefusesFor limit w d reason b)) → Has (PutSo w)
    refused reason = map (λ b. Found limit d (RefusesFor limit w d reason b)) (PutSo w)
        (λ b there. let r = found (RefusesFor limit w d reason b) there in put_so w (answer.Refused reason r.0) b r.1)

    overfilled : (needed most : ℕ) → Has (λ b. Found limit d (Overfills limit w d needed most b)) → Has (StoppedSo w (applying.Full needed most))
    overfilled needed most = map (λ b. Found limit d (Overfills limit w d needed most b)) (StoppedSo w (applying.Full needed most))
        (λ b there. let over = found (Overfills limit w d needed most b) there in stopped_so w (applying.Full needed most) b over.halts)

    short : (fault : ApplyFault) → ¬ (fault ≡ applying.DiskFault) → Has (StoppedSo w fault) → Has (BuiltSo status.NoMemory w)
    short fault other = map (StoppedSo w fault) (BuiltSo status.NoMemory w) (λ b stopped. stopped_short w fault b other stopped)

    over_steps : (s : Status) → BuiltOver Has limit w front d k s → Steppy s
    over_steps status.Done is = inr (replied TakesAll is)
    over_steps (status.BuildRefused reason) is = inr (refused reason is.0)
    over_steps status.WriteFault is = inr (replied TakesFront is)
    over_steps status.DiskFault (inl spared, untouched) = inl spared.1
    over_steps status.DiskFault (inr halts, untouched) = inr (halted applying.DiskFault halts)
    over_steps (status.BadState offset) is = inl (λ tells. (is.1 tells).1)
    over_steps (status.StateFull needed most) is = inr (overfilled needed most is.0)
    over_steps status.NoMemory (untouched, inl spared) = inl spared
    over_steps status.NoMemory (untouched, inr halts) = inr (short applying.NoMemory (λ same. cc) (halted applying.NoMemory halts))
    over_steps (status.BookRefused fault) is = absurd is
    over_steps (status.Usage fault) is = absurd is
    over_steps status.ReadFault is = absurd is
    over_steps status.ScriptTooLong is = absurd is

    -- there was no memory for a batch, or for the line that tells of too much
    halts_short : Has (HaltsShort limit w d) → Has (BuiltSo status.NoMemory w)
    halts_short = map (HaltsShort limit w d) (BuiltSo status.NoMemory w)
        (λ b is. elim is [
          | inl there ↦ stopped_short w applying.NoMemory b (λ same. cc) (stopped_so w applying.NoMemory b (found (Halts limit w d applying.NoMemory b) there))
          | inr (needed, most, there) ↦
              let over = found (Overfills limit w d needed most b) there in
              stopped_short w (applying.Full needed most) b (λ same. cc) (stopped_so w (applying.Full needed most) b over.halts)
        ])

    -- or for the reason of a refusal
    refused_short : Has (CommitsRefused limit w d) → Has (BuiltSo status.NoMemory w)
    refused_short = map (CommitsRefused limit w d) (BuiltSo status.NoMemory w)
        (λ b is. let r = found (λ M. (reason : Reason) × RefusesFor limit w d reason b M) is in put_short w b (put_so w (answer.Refused r.0 r.1.0) b r.1.1))

  -- ---- the batch of a clearing

  abbrev ClearedSo : Status → Type 0
  ClearedSo s = (rest : Steps) × (B : Batch) × IsClearing K B × AreCommitted s limit d K (B ∷ []) rest

  cleared : (k : OverSink) (Takes : OverSink → List ℕ → Type 0) → Found limit d (Clears limit d k Takes) → ClearedSo status.Done
  cleared k Takes there =
      let c = found (Clears limit d k Takes) there in
      let put = put_by (c.batch ∷ []) c.put in (put.0, c.batch, c.clearing, put.1)

  cleared_not : (fault : ApplyFault) → Found limit d (ClearsNot limit d fault) → (rest : Steps) × (B : Batch) × IsClearing K B × AreStoppedBy limit d K (B ∷ []) fault rest
  cleared_not fault there =
      let c = found (ClearsNot limit d fault) there in
      let stopped = stopped_by (c.batch ∷ []) fault c.stopped in (stopped.0, c.batch, c.clearing, stopped.1)

  cleared_too_much : (needed most : ℕ) → Found limit d (ClearsTooMuch limit d needed most) → (rest : Steps) × (B : Batch) × IsClearing K B × AreStoppedBy limit d K (B ∷ []) (applying.Full needed most) rest
  cleared_too_much needed most there =
      let c = found (ClearsTooMuch limit d needed most) there in
      let stopped = stopped_by (c.clears_not.batch ∷ []) (applying.Full needed most) c.clears_not.stopped in (stopped.0, c.clears_not.batch, c.clears_not.clearing, stopped.1)

  cleared_short : (fault : ApplyFault) → ¬ (fault ≡ applying.DiskFault) → (rest : Steps) × (B : Batch) × IsClearing K B × AreStoppedBy limit d K (B ∷ []) fault rest → ClearedSo status.NoMemory
  cleared_short fault other (rest, B, clearing, stopped) = (rest, B, clearing, inr (fault, other, stopped))

  cleaned_steps : (k : OverSink) (s : Status) → Cleaned limit d k s → IsSpared d ⊎ ClearedSo s
  cleaned_steps k status.Done is = inr (cleared k TakesAll is)
  cleaned_steps k status.WriteFault is = inr (cleared k TakesFront is)
  cleaned_steps k status.DiskFault (inl spared, untouched) = inl spared
  cleaned_steps k status.DiskFault (inr there, untouched) = inr (cleared_not applying.DiskFault there)
  cleaned_steps k (status.BadState offset) is = inl (λ tells. (is.0 tells).1)
  cleaned_steps k (status.StateFull needed most) is = inr (cleared_too_much needed most is.0)
  cleaned_steps k status.NoMemory (untouched, inl spared) = inl spared
  cleaned_steps k status.NoMemory (untouched, inr there) = inr (cleared_short applying.NoMemory (λ same. cc) (cleared_not applying.NoMemory there))
  cleaned_steps k (status.BookRefused fault) is = absurd is
  cleaned_steps k (status.Usage fault) is = absurd is
  cleaned_steps k (status.BuildRefused reason) is = absurd is
  cleaned_steps k status.ReadFault is = absurd is
  cleaned_steps k status.ScriptTooLong is = absurd is

  clears_short : ClearsShort limit d → ClearedSo status.NoMemory
  clears_short (inl there) = cleared_short applying.NoMemory (λ same. cc) (cleared_not applying.NoMemory there)
  clears_short (inr (needed, most, there)) = cleared_short (applying.Full needed most) (λ same. cc) (cleared_too_much needed most there)

  -- ---- by the command

  map_holds : (w : Asked) (P Q : Book → Type 0) → ((b : Book) → P b → Q b) → Holds w.kind a.book P → Holds w.kind a.book Q
  map_holds w P Q f (bytes, read, b, is, has) = (bytes, read, b, is, f b has)

  map_makes : (w : Asked) (P Q : Book → Type 0) → ((b : Book) → P b → Q b) → Makes w P → Makes w Q
  map_makes w P Q f (b, is, has) = (b, is, f b has)

  abbrev StepsBy : Command → Status → Asked → Type 0
  StepsBy to s w = (front rest : Steps) × AreStepsFor to s limit w a K front rest

  by_build : (s : Status) (w : Asked) → Holds w.kind a.book (BuiltSo s w) → StepsBy command.Build s w
  by_build s w (bytes, read, b, is, (rest, built)) = ([], rest, (refl, (bytes, read, b, is, built)))

  by_generate : (s : Status) (w : Asked) → Makes w (BuiltSo s (for_last w)) → StepsBy command.Generate s w
  by_generate s w (b, is, (rest, built)) = ([], rest, (refl, (b, is, built)))

  by_clean : (s : Status) (w : Asked) → ClearedSo s → StepsBy command.Clean s w
  by_clean s w (rest, B, clearing, are) = ([], rest, (refl, (B, clearing, are)))

  by_session : (s : Status) (w : Asked) (end : Result (Unit {0}) SessionEnd) → EndsSo s end → ComesTo limit w a.book a.script d a.out end → StepsBy command.Session s w
  by_session s w end so (bytes, read, b, is, there) =
      let carries = found (Carries limit w a.script d a.out end b) there in (
        steps_replied d.tells carries.first carries.last a.script a.out 67108864 carries.goes.read end carries.goes.ended,
        steps_unreplied d.tells carries.first carries.last a.script a.out 67108864 carries.goes.read end carries.goes.ended,
        (bytes, read, b, is, (end, so, carries, refl, refl)),
      )

  either : (P Q R : Type 0) → (Q → R) → P ⊎ Q → P ⊎ R
  either P Q R f (inl p) = inl p
  either P Q R f (inr q) = inr (f q)

  abbrev DoesSo : Command → Status → Asked → Type 0
  DoesSo to s w = IsSpared d ⊎ StepsBy to s w

  over_book : (w : Asked) (s : Status) → BuiltOver (Holds w.kind a.book) limit w [] d a.out s → DoesSo command.Build s w
  over_book w s is = either (IsSpared d) (Holds w.kind a.book (BuiltSo s w)) (StepsBy command.Build s w) (by_build s w) (over_steps (Holds w.kind a.book) (map_holds w) w a.out [] s is)

  built_steps : (w : Asked) (s : Status) → Built limit w a.book d a.out s → DoesSo command.Build s w
  built_steps w (status.BookRefused fault) is = inl (λ tells. is.1.story)
  built_steps w status.ReadFault is = inl (λ tells. is.0.story)
  built_steps w status.Done is = over_book w status.Done is
  built_steps w (status.Usage fault) is = over_book w (status.Usage fault) is
  built_steps w (status.BuildRefused reason) is = over_book w (status.BuildRefused reason) is
  built_steps w status.WriteFault is = over_book w status.WriteFault is
  built_steps w status.DiskFault is = over_book w status.DiskFault is
  built_steps w (status.BadState offset) is = over_book w (status.BadState offset) is
  built_steps w (status.StateFull needed most) is = over_book w (status.StateFull needed most) is
  built_steps w status.NoMemory is = over_book w status.NoMemory is
  built_steps w status.ScriptTooLong is = over_book w status.ScriptTooLong is

  does_steps : (to : Command) (w : Asked) (s : Status) → Does to limit w a.book a.script d a.out s → DoesSo to s w
  does_steps command.Build w s is = built_steps w s is
  does_steps command.Generate w s is =
      either (IsSpared d) (Makes w (BuiltSo s (for_last w))) (StepsBy command.Generate s w) (by_generate s w)
      (over_steps (Makes w) (map_makes w) (for_last w) a.out (front_of w) s is.1)
  does_steps command.Clean w s is = either (IsSpared d) (ClearedSo s) (StepsBy command.Clean s w) (by_clean s w) (cleaned_steps a.out s is.1)
  does_steps command.Explain w s is = inl is.1
  does_steps command.Session w s (inl (lacks, spared, untouched, unread)) = inl spared
  does_steps command.Session w s (inr (end, same, comes)) = inr (by_session s w end (inl same) comes)

  -- ---- where memory is wanted

  stops_short : (to : Command) (w : Asked) → StopsShort to limit a.book d w → StepsBy to status.NoMemory w
  stops_short command.Build w is = by_build status.NoMemory w (halts_short (Holds w.kind a.book) (map_holds w) w a.out [] is)
  stops_short command.Generate w is = by_generate status.NoMemory w (halts_short (Makes w) (map_makes w) (for_last w) a.out [] is)
  stops_short command.Clean w is = by_clean status.NoMemory w (clears_short is)
  stops_short command.Session w is = absurd is
  stops_short command.Explain w is = absurd is

  as_command : (to : Command) (w : Asked) (s : Status) → w.command ≡ to → StepsBy to s w → StepsBy w.command s w
  as_command to w s is = subst (λ (x : Command). StepsBy x s w) (sym is)

  keeps_refused : (w : Asked) → KeepsRefused limit a.book d w → StepsBy w.command status.NoMemory w
  keeps_refused w (inl (is, there)) =
      as_command command.Build w status.NoMemory is (by_build status.NoMemory w (refused_short (Holds w.kind a.book) (map_holds w) w a.out [] there))
  keeps_refused w (inr (is, there)) =
      as_command command.Generate w status.NoMemory is (by_generate status.NoMemory w (refused_short (Makes w) (map_makes w) (for_last w) a.out [] there))

  ends_short : (w : Asked) → EndsShort limit a.book a.script d a.out w → StepsBy w.command status.NoMemory w
  ends_short w (is, (end, short_end, comes)) =
      as_command command.Session w status.NoMemory is (by_session status.NoMemory w (Err end) (inr (refl, end, short_end, refl)) comes)

  -- ---- all of it

  abbrev StepsSo : Status → Type 0
  StepsSo s = (front rest : Steps) × AreSteps s limit a K front rest

  none : (s : Status) → IsSpared d → StepsSo s
  none s spared = ([], [], inl (refl, refl, spared))

  some : (s : Status) (w : Asked) → words_of a.words ≡ Ok w → StepsBy w.command s w → StepsSo s
  some s w asked (front, rest, are) = (front, rest, inr (w, asked, are))

  done : (s : Status) → Asks a.words (λ w. Does w.command limit w a.book a.script d a.out s) → StepsSo s
  done s (w, asked, does) = elim (does_steps w.command w s does) [ inl spared ↦ none s spared | inr steps ↦ some s w asked steps ]

  pub ran_steps : (s : Status) → Ran limit a.words a.book a.script d a.out s → StepsSo s
  ran_steps (status.Usage fault) is = none (status.Usage fault) (λ tells. is.2.story)
  ran_steps status.NoMemory (inl (untouched, inl spared)) = none status.NoMemory spared
  ran_steps status.NoMemory (inl (untouched, inr (inl (w, asked, is)))) = some status.NoMemory w asked (stops_short w.command w is)
  ran_steps status.NoMemory (inl (untouched, inr (inr (w, asked, is)))) = some status.NoMemory w asked (keeps_refused w is)
  ran_steps status.NoMemory (inr (w, asked, is)) = some status.NoMemory w asked (ends_short w is)
  ran_steps status.Done is = done status.Done is
  ran_steps (status.BookRefused fault) is = done (status.BookRefused fault) is
  ran_steps (status.BuildRefused reason) is = done (status.BuildRefused reason) is
  ran_steps status.ReadFault is = done status.ReadFault is
  ran_steps status.WriteFault is = done status.WriteFault is
  ran_steps status.DiskFault is = done status.DiskFault is
  ran_steps (status.BadState offset) is = done (status.BadState offset) is
  ran_steps (status.StateFull needed most) is = done (status.StateFull needed most) is
  ran_steps status.ScriptTooLong is = done status.ScriptTooLong is
