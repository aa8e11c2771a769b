-- What a run with one request has done, from the two scenes between which it was carried out.
use Rattle.std.proofs.Common.{◌≡◌, ℕ, List, [], ◌∷◌, ◌++◌, Option, Some, None, Ok, Err, refl, sym, ◌∙◌, ap, subst, inl, inr}
use Rattle.carte_io.specs.Causes.{Rose}
use Rattle.carte_book.specs.Book.{Book}
use Rattle.carte_book.specs.Reason.{AllClean, IsReason}
use Rattle.carte_book.specs.declared.reason.Reason.{Reason}
use Rattle.carte_record.specs.declared.batch.Batch.{Batch}
use Rattle.carte_session.specs.declared.end.SessionEnd.TheVariants.{Machine}
use Rattle.carte_session.specs.declared.end.StepEnd.{StepEnd}
use Rattle.carte_session.specs.declared.end.StepEnd.TheVariants as line_end
use Rattle.carte_state.specs.Folding.{IsBadState}
use Rattle.carte_state.specs.States.{any_in}
use Rattle.carte_state.specs.declared.fault.ApplyFault.{ApplyFault}
use Rattle.carte_state.specs.declared.fault.ApplyFault.TheVariants as applying
use Rattle.carte_words.specs.declared.line.Line.{Line}
use Rattle.carte_words.specs.declared.line.Line.TheVariants as line
use Rattle.carte_words.specs.declared.words.Words.{Words as Asked}
use Rattle.carte_generate.specs.Generated.{IsGenerated}
use Rattle.carte_engine.specs.Answers.{IsPlan}
use Rattle.carte_engine.specs.Clearing.{clearing}
use Rattle.carte_engine.specs.declared.answer.Answer.{Answer}
use Rattle.carte_engine.specs.declared.answer.Answer.TheVariants as answer
use Rattle.carte_report.specs.Reply.{reply}
use Rattle.carte_report.specs.declared.status.Status.{Status}
use Rattle.carte_report.specs.declared.status.Status.TheVariants.{Done, BookRefused, Usage, BuildRefused, ReadFault, WriteFault, DiskFault, BadState, StateFull, NoMemory, ScriptTooLong}
use Rattle.carte_shell.specs.Answers.{Breaks, Obeys, Plans}
use Rattle.carte_shell.specs.Commits.{Commits as CommitsTo, Puts}
use Rattle.carte_shell.specs.Explained.{AreWhys, Explained as IsExplained}
use Rattle.carte_shell.specs.Replies.{Said, build_reply}
use Rattle.carte_shell.specs.Scenes.{Scene}
use Rattle.carte_shell.specs.Stopping.{fault_of}
use Rattle.carte_shell.specs.declared.choices.Choices.{Choices}
use Rattle.carte_engine.proofs.Keeping.{plan_keeps}
use Rattle.carte_top.specs.Around.{OverSource, OverDisk, OverSink, IsUntouched, TakesAll, TakesFront}
use Rattle.carte_top.specs.Chosen.{choices_of, scheduler_of, how_of}
use Rattle.carte_top.specs.Found.{Answers, AreClearing, Clears, ClearsNot, Explains, Found, Halts, HasBook, Holds, IsStopped, Makes, Overfills, RefusesFor, Replies, behind, for_last, front_of}
use Rattle.carte_top.specs.Outcome.{Built, BuiltOver, Cleaned, Explained, IsSpared, TellsDisk, TellsSink, TellsSource, status_of}
use Rattle.carte_top.specs.Running.{Builds, Cleans, Generates, LoadedOr, Opens, Prints, ReadsEnough, RequestsOver, Shows, Tells}
use Rattle.carte_top.specs.Sound.{MayBuild, StaysAt}
use Rattle.carte_top.proofs.Books.{holds_so}
use Rattle.carte_top.proofs.Clearing.{is_clearing}
use Rattle.carte_top.proofs.Between.{found, put, spared, stays, still_at, stopped, too_much}
use Rattle.carte_top.proofs.Serving.{broken_faults, obeyed_faults}
use Rattle.carte_engine.specs.Versions.{Under, kept_for}
use Rattle.carte_state.specs.Versions.{AnyKept}

-- ---- a reason

not_both : {A : Type 0} (o : Option A) (x : A) → o ≡ None → o ≡ Some x → ⊥
not_both o x none some = cc

same_some : {A : Type 0} (o : Option A) (x y : A) → o ≡ Some x → o ≡ Some y → x ≡ y
same_some o x y one two = cc

-- ---- by the status

module _ (P : Status → Type 0) where
  by_print : (text : List ℕ) (k : OverSink) → (Prints text k Done → P Done) → (Prints text k WriteFault → P WriteFault) → (status : Status) → Prints text k status → P status
  by_print text k done cut Done prints = done prints
  by_print text k done cut WriteFault prints = cut prints
  by_print text k done cut (BookRefused fault) prints = absurd prints
  by_print text k done cut (Usage fault) prints = absurd prints
  by_print text k done cut (BuildRefused reason) prints = absurd prints
  by_print text k done cut ReadFault prints = absurd prints
  by_print text k done cut DiskFault prints = absurd prints
  by_print text k done cut (BadState offset) prints = absurd prints
  by_print text k done cut (StateFull needed most) prints = absurd prints
  by_print text k done cut NoMemory prints = absurd prints
  by_print text k done cut ScriptTooLong prints = absurd prints

  by_shows : (front : List ℕ) (r : Said) (k : OverSink) → ((reason : Reason) → r.refused ≡ Some reason → IsUntouched k → P (BuildRefused reason)) → (r.refused ≡ None → Prints (front ++ r.text) k Done → P Done)
      → (r.refused ≡ None → Prints (front ++ r.text) k WriteFault → P WriteFault) → (status : Status) → Shows front r k status → P status
  by_shows front r k refused done cut status (inl (reason, some, is, untouched)) = subst P (sym is) (refused reason some untouched)
  by_shows front r k refused done cut status (inr (none, prints)) = by_print (front ++ r.text) k (done none) (cut none) status prints

  by_load : (limit : ℕ) (d : OverDisk) → P DiskFault → ((at : ℕ) → (d.tells → IsBadState limit d.old.now.reads at) → P (BadState at)) → P NoMemory → (status : Status)
      → LoadedOr limit d (Err status) → P status
  by_load limit d failed bad none DiskFault loaded = failed
  by_load limit d failed bad none (BadState at) loaded = bad at loaded
  by_load limit d failed bad none NoMemory loaded = none
  by_load limit d failed bad none Done loaded = absurd loaded
  by_load limit d failed bad none (BookRefused fault) loaded = absurd loaded
  by_load limit d failed bad none (Usage fault) loaded = absurd loaded
  by_load limit d failed bad none (BuildRefused reason) loaded = absurd loaded
  by_load limit d failed bad none ReadFault loaded = absurd loaded
  by_load limit d failed bad none WriteFault loaded = absurd loaded
  by_load limit d failed bad none (StateFull needed most) loaded = absurd loaded
  by_load limit d failed bad none ScriptTooLong loaded = absurd loaded

-- ---- the devices

stop_told : (d : OverDisk) (m m' : Scene) (l : Line) → m.faults ≡ d.failed_before → m'.faults ≡ d.failed → (end : StepEnd) → Breaks d.tells m l end m' → TellsDisk d (status_of (Err (Machine end)))
stop_told d m m' l before after line_end.DiskFault breaks =
    subst (λ (n : ℕ). Rose n d.failed) before (subst (λ (n : ℕ). Rose m.faults n) after (broken_faults d.tells m m' l line_end.DiskFault breaks))
stop_told d m m' l before after (line_end.StateFull needed most) breaks = sym after ∙ broken_faults d.tells m m' l (line_end.StateFull needed most) breaks ∙ before
stop_told d m m' l before after line_end.NoMemory breaks = sym after ∙ broken_faults d.tells m m' l line_end.NoMemory breaks ∙ before

stop_quiet : (k : OverSink) → k.new.faults ≡ k.old.faults → (end : StepEnd) → TellsSink k (status_of (Err (Machine end)))
stop_quiet k same line_end.DiskFault = same
stop_quiet k same (line_end.StateFull needed most) = same
stop_quiet k same line_end.NoMemory = same

stop_unread : (s : OverSource) → s.new.faults ≡ s.old.faults → (end : StepEnd) → TellsSource s (status_of (Err (Machine end)))
stop_unread s same line_end.DiskFault = same
stop_unread s same (line_end.StateFull needed most) = same
stop_unread s same line_end.NoMemory = same

module _ (limit : ℕ) (x : Choices) (b : Book) (l : Line) (front : List ℕ) (d : OverDisk) (k : OverSink) where
  told_disk : (status : Status) → RequestsOver limit x b l front d k status → TellsDisk d status
  told_disk status (inl (loads, untouched)) = loads.disk
  told_disk status (inr (m, m', opens, last, faults, inl (r, does, shows))) =
      let same : d.failed ≡ d.failed_before = sym faults ∙ obeyed_faults d.tells m m' l r does ∙ opens.faults in
      by_shows (TellsDisk d) front r k (λ reason some untouched. same) (λ none prints. same) (λ none prints. same) status shows
  told_disk status (inr (m, m', opens, last, faults, inr (end, is, breaks, untouched))) =
      subst (TellsDisk d) (sym is) (stop_told d m m' l opens.faults faults end breaks)

  told_sink : (status : Status) → RequestsOver limit x b l front d k status → TellsSink k status
  told_sink status (inl (loads, untouched)) = by_load (TellsSink k) limit d untouched.2 (λ at bad. untouched.2) untouched.2 status loads.loaded
  told_sink status (inr (m, m', opens, last, faults, inl (r, does, shows))) =
      by_shows (TellsSink k) front r k (λ reason some untouched. untouched.2) (λ none prints. prints.1) (λ none prints. prints.1) status shows
  told_sink status (inr (m, m', opens, last, faults, inr (end, is, breaks, untouched))) = subst (TellsSink k) (sym is) (stop_quiet k untouched.2 end)

  told_source : (s : OverSource) → s.new.faults ≡ s.old.faults → (status : Status) → RequestsOver limit x b l front d k status → TellsSource s status
  told_source s same status (inl (loads, untouched)) = by_load (TellsSource s) limit d same (λ at bad. same) same status loads.loaded
  told_source s same status (inr (m, m', opens, last, faults, inl (r, does, shows))) =
      by_shows (TellsSource s) front r k (λ reason some untouched. same) (λ none prints. same) (λ none prints. same) status shows
  told_source s same status (inr (m, m', opens, last, faults, inr (end, is, breaks, untouched))) = subst (TellsSource s) (sym is) (stop_unread s same end)

-- ---- a clearing

module _ (limit : ℕ) (x : Choices) (b : Book) (d : OverDisk) (k : OverSink) where
  module _ (m m' : Scene) (opens : Opens limit x b d m) (last : m'.story ≡ d.new) (faults : m'.faults ≡ d.failed) where
    clears : (Takes : OverSink → List ℕ → Type 0) (r : Said) → Obeys d.tells m line.Clean r m' → (k.tells → Takes k r.text) → Found limit d (Clears limit d k Takes)
    clears Takes r does takes = (
      any_in m.stand,
      found limit x b d m m' opens last,
      record {
        batch = clearing m.stand;
        clearing = is_clearing m.stand;
        put = put limit x b d m m' opens last faults (clearing m.stand ∷ []) does.1;
        takes = λ told. subst (Takes k) (ap (λ (q : Said). q.text) does.0) (takes told);
      },
    )

    module _ (Bs : List Batch) (is : Bs ≡ clearing m.stand ∷ []) where
      clears_not : (fault : ApplyFault) → CommitsTo d.tells m m' Bs (Err fault) → ClearsNot limit d fault (any_in m.stand)
      clears_not fault stops = record {
        batch = clearing m.stand;
        clearing = is_clearing m.stand;
        stopped = subst (λ (Cs : List Batch). IsStopped limit d (any_in m.stand) Cs fault) is (stopped limit x b d m m' opens last faults Bs fault stops);
      }

      not_cleared : (fault : ApplyFault) → CommitsTo d.tells m m' Bs (Err fault) → Found limit d (ClearsNot limit d fault)
      not_cleared fault stops = (any_in m.stand, found limit x b d m m' opens last, clears_not fault stops)

    clear_stopped : (end : StepEnd) → Breaks d.tells m line.Clean end m' → IsUntouched k → Cleaned limit d k (status_of (Err (Machine end)))
    clear_stopped end (inl (is, same)) untouched =
        subst (λ (e : StepEnd). Cleaned limit d k (status_of (Err (Machine e)))) (sym is) (untouched, inl (spared limit x b d m m' opens last (ap (λ (s : Scene). s.story) same)))
    clear_stopped line_end.DiskFault (inr (Bs, is, stops)) untouched = (inr (not_cleared Bs is applying.DiskFault stops), untouched)
    clear_stopped (line_end.StateFull needed most) (inr (Bs, is, stops)) untouched =
        let over = too_much limit x b d m m' opens last faults Bs needed most stops in (
          (
            any_in m.stand,
            found limit x b d m m' opens last,
            record { clears_not = clears_not Bs is (applying.Full needed most) stops; most_is = over.0; over = over.1 },
          ),
          untouched,
        )
    clear_stopped line_end.NoMemory (inr (Bs, is, stops)) untouched = (untouched, inr (not_cleared Bs is applying.NoMemory stops))

    clear_stays : (end : StepEnd) → Breaks d.tells m line.Clean end m' → StaysAt limit AreClearing d
    clear_stays end (inl (is, same)) = still_at limit d AreClearing (spared limit x b d m m' opens last (ap (λ (s : Scene). s.story) same))
    clear_stays end (inr (Bs, is, stops)) = stays limit x b d m m' opens last faults Bs AreClearing (Err (fault_of end)) stops (clearing m.stand, is_clearing m.stand, is)

  cleaned : (status : Status) → RequestsOver limit x b line.Clean [] d k status → Cleaned limit d k status
  cleaned status (inl (loads, untouched)) =
      by_load (Cleaned limit d k) limit d (inl loads.story, untouched) (λ at bad. ((λ told. (bad told, loads.story told)), untouched)) (untouched, inl loads.story) status loads.loaded
  cleaned status (inr (m, m', opens, last, faults, inl (r, does, shows))) =
      by_shows (Cleaned limit d k) [] r k (λ reason some untouched. absurd (not_both r.refused reason (ap (λ (q : Said). q.refused) does.0) some))
      (λ none prints. clears m m' opens last faults TakesAll r does prints.0) (λ none prints. clears m m' opens last faults TakesFront r does prints.0) status shows
  cleaned status (inr (m, m', opens, last, faults, inr (end, is, breaks, untouched))) = subst (Cleaned limit d k) (sym is) (clear_stopped m m' opens last faults end breaks untouched)

  cleaned_at : (status : Status) → RequestsOver limit x b line.Clean [] d k status → StaysAt limit AreClearing d
  cleaned_at status (inl (loads, untouched)) = still_at limit d AreClearing loads.story
  cleaned_at status (inr (m, m', opens, last, faults, inl (r, does, shows))) =
      stays limit x b d m m' opens last faults (clearing m.stand ∷ []) AreClearing (Ok tt) does.1 (clearing m.stand, is_clearing m.stand, refl)
  cleaned_at status (inr (m, m', opens, last, faults, inr (end, is, breaks, untouched))) = clear_stays m m' opens last faults end breaks

  pub cleans : (status : Status) → RequestsOver limit x b line.Clean [] d k status → Cleans limit d k status
  cleans status one = record { did = cleaned status one; visits = inr (cleaned_at status one); disk = told_disk limit x b line.Clean [] d k status one; sink = told_sink limit x b line.Clean [] d k status one }

-- ---- a build

module _ (limit : ℕ) (w : Asked) (d : OverDisk) (k : OverSink) (b : Book) where
  module _ (m m' : Scene) (opens : Opens limit (choices_of w) b d m) (last : m'.story ≡ d.new) where
    found_there : (P : Book → AnyKept → Type 0) → P b (any_in m.stand) → Found limit d (P b)
    found_there P holds_there = (any_in m.stand, found limit (choices_of w) b d m m' opens last, holds_there)

    answers : (a : Answer) (Bs : List Batch) → Plans m w.targets a Bs → Answers w b (any_in m.stand) a Bs
    answers a Bs plans =
        let K = any_in m.stand in
        subst (λ (y : Choices). Under K b (IsPlan (scheduler_of y.scheduler) (how_of y.rebuilder) K b w.targets Bs a)) opens.choices
        (subst (λ (c : Book). Under K c (IsPlan (scheduler_of m.choices.scheduler) (how_of m.choices.rebuilder) K c w.targets Bs a)) opens.book plans)

    may_build : (a : Answer) (Bs : List Batch) → Plans m w.targets a Bs → MayBuild w b (any_in m.stand) Bs
    may_build a Bs plans H sound distinct = (a, answers a Bs plans H sound distinct)

    module _ (faults : m'.faults ≡ d.failed) where
      replies : (Takes : OverSink → List ℕ → Type 0) (r : Said) (a : Answer) (Bs : List Batch) → Plans m w.targets a Bs → r ≡ build_reply m.choices.list w.targets a → Puts d.tells m m' Bs
          → r.refused ≡ None → (k.tells → Takes k r.text) → Replies limit w d k Takes b (any_in m.stand)
      replies Takes r (answer.Built built) Bs plans is puts none takes = record {
        built = built;
        commits = record { batches = Bs; answers = answers (answer.Built built) Bs plans; put = put limit (choices_of w) b d m m' opens last faults Bs puts };
        keeps = λ H sound distinct.
            let p = answers (answer.Built built) Bs plans H sound distinct in
            plan_keeps (scheduler_of w.scheduler) (how_of w.rebuilder) (any_in m.stand) H b w.targets built Bs sound distinct p.right.served p.leads;
        takes = λ told. subst (Takes k)
            (ap (λ (q : Said). q.text) is ∙ ap (λ (y : Choices). reply w.targets built.values y.list built.ran built.given_up built.reused) opens.choices) (takes told);
      }
      replies Takes r (answer.Refused reason runs) Bs plans is puts none takes = absurd (not_both r.refused reason none (ap (λ (q : Said). q.refused) is))

      refuses : (r : Said) (a : Answer) (Bs : List Batch) → Plans m w.targets a Bs → r ≡ build_reply m.choices.list w.targets a → Puts d.tells m m' Bs
          → (reason : Reason) → r.refused ≡ Some reason → RefusesFor limit w d reason b (any_in m.stand)
      refuses r (answer.Built built) Bs plans is puts reason some = absurd (not_both r.refused reason (ap (λ (q : Said). q.refused) is) some)
      refuses r (answer.Refused other runs) Bs plans is puts reason some =
          let told : other ≡ reason = same_some r.refused other reason (ap (λ (q : Said). q.refused) is) some in (
            runs,
            record {
              batches = Bs;
              answers = subst (λ (y : Reason). Answers w b (any_in m.stand) (answer.Refused y runs) Bs) told (answers (answer.Refused other runs) Bs plans);
              put = put limit (choices_of w) b d m m' opens last faults Bs puts;
            },
          )

      halts : (a : Answer) (Bs : List Batch) → Plans m w.targets a Bs → (fault : ApplyFault) → CommitsTo d.tells m m' Bs (Err fault) → Halts limit w d fault b (any_in m.stand)
      halts a Bs plans fault stops =
          record { answer = a; batches = Bs; answers = answers a Bs plans; stopped = stopped limit (choices_of w) b d m m' opens last faults Bs fault stops }

      build_stays : (end : StepEnd) → Breaks d.tells m (line.Build w.targets) end m' → StaysAt limit (MayBuild w b) d
      build_stays end (inl (is, same)) = still_at limit d (MayBuild w b) (spared limit (choices_of w) b d m m' opens last (ap (λ (q : Scene). q.story) same))
      build_stays end (inr (Bs, (a, plans), stops)) =
          stays limit (choices_of w) b d m m' opens last faults Bs (MayBuild w b) (Err (fault_of end)) stops (may_build a Bs plans)

    -- the lines of an explanation
    explains : (Takes : OverSink → List ℕ → Type 0) (r : Said) → IsExplained (how_of m.choices.rebuilder) (any_in m.stand) m.book w.targets r → r.refused ≡ None → (k.tells → Takes k r.text)
        → Explains w k Takes b (any_in m.stand)
    explains Takes r (inl (told, of_targets, is, whys)) none takes =
        let K = any_in m.stand in
        record {
          told = told;
          of_targets = of_targets;
          whys = subst (λ (y : Choices). Under K b (AllClean b w.targets × AreWhys (how_of y.rebuilder) (kept_for K b) b told)) opens.choices
              (subst (λ (c : Book). Under K c (AllClean c w.targets × AreWhys (how_of m.choices.rebuilder) (kept_for K c) c told)) opens.book whys);
          takes = λ t. subst (Takes k) (ap (λ (q : Said). q.text) is) (takes t);
        }
    explains Takes r (inr (reason, is, why)) none takes = absurd (not_both r.refused reason none (ap (λ (q : Said). q.refused) is))

    reasons : (r : Said) → IsExplained (how_of m.choices.rebuilder) (any_in m.stand) m.book w.targets r → (reason : Reason) → r.refused ≡ Some reason
        → Under (any_in m.stand) b (IsReason b w.targets reason)
    reasons r (inl (told, of_targets, is, whys)) reason some = absurd (not_both r.refused reason (ap (λ (q : Said). q.refused) is) some)
    reasons r (inr (other, is, why)) reason some =
        let told : other ≡ reason = same_some r.refused other reason (ap (λ (q : Said). q.refused) is) some in
        subst (λ (y : Reason). Under (any_in m.stand) b (IsReason b w.targets y)) told
        (subst (λ (c : Book). Under (any_in m.stand) c (IsReason c w.targets other)) opens.book why)

    explain_spared : (end : StepEnd) → Breaks d.tells m (line.Explain w.targets) end m' → IsSpared d
    explain_spared end (inl (is, same)) = spared limit (choices_of w) b d m m' opens last (ap (λ (q : Scene). q.story) same)
    explain_spared end (inr (Bs, never, stops)) = absurd never

  module _ (front : List ℕ) where
    built_at : (status : Status) → RequestsOver limit (choices_of w) b (line.Build w.targets) front d k status → StaysAt limit (MayBuild w b) d
    built_at status (inl (loads, untouched)) = still_at limit d (MayBuild w b) loads.story
    built_at status (inr (m, m', opens, last, faults, inl (r, (a, Bs, plans, is, puts), shows))) =
        stays limit (choices_of w) b d m m' opens last faults Bs (MayBuild w b) (Ok tt) puts (may_build m m' opens last a Bs plans)
    built_at status (inr (m, m', opens, last, faults, inr (end, is, breaks, untouched))) = build_stays m m' opens last faults end breaks

    -- the book is had in some way
    module _ (Has : (Book → Type 0) → Type 0) (has : (P : Book → Type 0) → P b → Has P) where
      abbrev Did : Status → Type 0
      Did status = BuiltOver Has limit w front d k status

      module _ (m m' : Scene) (opens : Opens limit (choices_of w) b d m) (last : m'.story ≡ d.new) where
        there : (P : Book → AnyKept → Type 0) → P b (any_in m.stand) → Has (λ c. Found limit d (P c))
        there P holds_there = has (λ c. Found limit d (P c)) (found_there m m' opens last P holds_there)

        build_stopped : m'.faults ≡ d.failed → (end : StepEnd) → Breaks d.tells m (line.Build w.targets) end m' → IsUntouched k → Did (status_of (Err (Machine end)))
        build_stopped faults end (inl (is, same)) untouched =
            subst (λ (e : StepEnd). Did (status_of (Err (Machine e)))) (sym is) (untouched, inl (spared limit (choices_of w) b d m m' opens last (ap (λ (q : Scene). q.story) same)))
        build_stopped faults line_end.DiskFault (inr (Bs, (a, plans), stops)) untouched =
            (inr (there (Halts limit w d applying.DiskFault) (halts m m' opens last faults a Bs plans applying.DiskFault stops)), untouched)
        build_stopped faults (line_end.StateFull needed most) (inr (Bs, (a, plans), stops)) untouched =
            let over = too_much limit (choices_of w) b d m m' opens last faults Bs needed most stops in (
              there (Overfills limit w d needed most) (record { halts = halts m m' opens last faults a Bs plans (applying.Full needed most) stops; most_is = over.0; over = over.1 }),
              untouched,
            )
        build_stopped faults line_end.NoMemory (inr (Bs, (a, plans), stops)) untouched =
            (untouched, inr (there (Halts limit w d applying.NoMemory) (halts m m' opens last faults a Bs plans applying.NoMemory stops)))

      built : (status : Status) → RequestsOver limit (choices_of w) b (line.Build w.targets) front d k status → Did status
      built status (inl (loads, untouched)) =
          by_load Did limit d (inl (has (λ c. Unit {0}) tt, loads.story), untouched) (λ at bad. (has (λ c. Unit {0}) tt, (λ told. (bad told, loads.story told)), untouched))
          (untouched, inl loads.story) status loads.loaded
      built status (inr (m, m', opens, last, faults, inl (r, (a, Bs, plans, is, puts), shows))) =
          by_shows Did front r k
          (λ reason some untouched. (there m m' opens last (RefusesFor limit w d reason) (refuses m m' opens last faults r a Bs plans is puts reason some), untouched))
          (λ none prints. there m m' opens last (Replies limit w d k (behind front TakesAll)) (replies m m' opens last faults (behind front TakesAll) r a Bs plans is puts none prints.0))
          (λ none prints. there m m' opens last (Replies limit w d k (behind front TakesFront)) (replies m m' opens last faults (behind front TakesFront) r a Bs plans is puts none prints.0)) status shows
      built status (inr (m, m', opens, last, faults, inr (end, is, breaks, untouched))) = subst Did (sym is) (build_stopped m m' opens last faults end breaks untouched)

-- over a generated book
pub generates : (limit : ℕ) (w : Asked) (d : OverDisk) (k : OverSink) (b : Book) → IsGenerated w.seed w.count b → (status : Status)
    → RequestsOver limit (choices_of w) b (line.Build (for_last w).targets) (front_of w) d k status → Generates limit w d k status
generates limit w d k b generated status one = record {
  did = built limit (for_last w) d k b (front_of w) (Makes w) (λ P has. (b, generated, has)) status one;
  visits = inr (b, generated, built_at limit (for_last w) d k b (front_of w) status one);
  disk = told_disk limit (choices_of w) b (line.Build (for_last w).targets) (front_of w) d k status one;
  sink = told_sink limit (choices_of w) b (line.Build (for_last w).targets) (front_of w) d k status one;
}

-- over a book that was read
module _ (limit : ℕ) (w : Asked) (s : OverSource) (d : OverDisk) (k : OverSink) (b : Book) (holds : Holds w.kind s (λ c. c ≡ b)) where
  as_built : (status : Status) → BuiltOver (Holds w.kind s) limit w [] d k status → Built limit w s d k status
  as_built (BookRefused fault) did = absurd did
  as_built ReadFault did = absurd did
  as_built status did = did

  pub builds : (status : Status) → RequestsOver limit (choices_of w) b (line.Build w.targets) [] d k status → ReadsEnough s → s.new.faults ≡ s.old.faults → Builds limit w s d k status
  builds status one read same = record {
    did = as_built status (built limit w d k b [] (Holds w.kind s) (holds_so w.kind s b holds) status one);
    read = read;
    visits = inr (holds_so w.kind s b holds (λ c. StaysAt limit (MayBuild w c) d) (built_at limit w d k b [] status one));
    source = told_source limit (choices_of w) b (line.Build w.targets) [] d k s same status one;
    disk = told_disk limit (choices_of w) b (line.Build w.targets) [] d k status one;
    sink = told_sink limit (choices_of w) b (line.Build w.targets) [] d k status one;
  }

  -- ---- an explanation

  has_book : HasBook w.kind s
  has_book = holds_so w.kind s b holds (λ c. Unit {0}) tt

  explain_stopped : (end : StepEnd) (m m' : Scene) → Breaks d.tells m (line.Explain w.targets) end m' → IsUntouched k → Explained limit w s d k (status_of (Err (Machine end)))
  explain_stopped end m m' (inl (is, same)) untouched = subst (λ (e : StepEnd). Explained limit w s d k (status_of (Err (Machine e)))) (sym is) (tt, untouched)
  explain_stopped end m m' (inr (Bs, never, stops)) untouched = absurd never

  module _ (m m' : Scene) (opens : Opens limit (choices_of w) b d m) (last : m'.story ≡ d.new) where
    explained_there : (P : Book → AnyKept → Type 0) → P b (any_in m.stand) → Holds w.kind s (λ c. Found limit d (P c))
    explained_there P holds_there = holds_so w.kind s b holds (λ c. Found limit d (P c)) (found_there limit w d k b m m' opens last P holds_there)

  explained : (status : Status) → RequestsOver limit (choices_of w) b (line.Explain w.targets) [] d k status → Explained limit w s d k status
  explained status (inl (loads, untouched)) =
      by_load (Explained limit w s d k) limit d (has_book, untouched) (λ at bad. ((has_book, λ told. (bad told, loads.story told)), untouched)) (tt, untouched) status loads.loaded
  explained status (inr (m, m', opens, last, faults, inl (r, (told, same), shows))) =
      by_shows (Explained limit w s d k) [] r k
      (λ reason some untouched. (explained_there m m' opens last (λ c K. Under K c (IsReason c w.targets reason)) (reasons limit w d k b m m' opens last r told reason some), untouched))
      (λ none prints. explained_there m m' opens last (Explains w k TakesAll) (explains limit w d k b m m' opens last TakesAll r told none prints.0))
      (λ none prints. explained_there m m' opens last (Explains w k TakesFront) (explains limit w d k b m m' opens last TakesFront r told none prints.0)) status shows
  explained status (inr (m, m', opens, last, faults, inr (end, is, breaks, untouched))) =
      subst (Explained limit w s d k) (sym is) (explain_stopped end m m' breaks untouched)

  explained_spared : (status : Status) → RequestsOver limit (choices_of w) b (line.Explain w.targets) [] d k status → IsSpared d
  explained_spared status (inl (loads, untouched)) = loads.story
  explained_spared status (inr (m, m', opens, last, faults, inl (r, (told, same), shows))) = spared limit (choices_of w) b d m m' opens last (ap (λ (q : Scene). q.story) same)
  explained_spared status (inr (m, m', opens, last, faults, inr (end, is, breaks, untouched))) = explain_spared limit w d k b m m' opens last end breaks

  pub tells : (status : Status) → RequestsOver limit (choices_of w) b (line.Explain w.targets) [] d k status → ReadsEnough s → s.new.faults ≡ s.old.faults → Tells limit w s d k status
  tells status one read same = record {
    did = (explained status one, explained_spared status one);
    read = read;
    visits = inr (has_book, explained_spared status one);
    source = told_source limit (choices_of w) b (line.Explain w.targets) [] d k s same status one;
    disk = told_disk limit (choices_of w) b (line.Explain w.targets) [] d k status one;
    sink = told_sink limit (choices_of w) b (line.Explain w.targets) [] d k status one;
  }
