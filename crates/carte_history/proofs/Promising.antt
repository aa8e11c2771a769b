-- What a history promises holds of each of its runs.
use Rattle.std.proofs.Common.{◌≡◌, ◌⊎◌, ℕ, ◌<◌, ◌≤◌, List, [], ◌∷◌, ◌++◌, refl, sym, ◌∙◌, ap, subst, inl, inr, arith, append_assoc, append-nil}
use Rattle.carte_io.specs.Disk.{IsSettled, IsWithin, Leaves, Story}
use Rattle.carte_io.specs.MemDisks.{MemoryOfDisk, begun_disk, story_of, within_of}
use Rattle.carte_io.specs.Stations.{IsAtOneOf, StepsThrough, calls_in, last_of}
use Rattle.carte_io.specs.declared.crashes.Pick.{Pick}
use Rattle.carte_io.proofs.Acknowledged.{steps_stand}
use Rattle.carte_io.proofs.Images.{throughout_last}
use Rattle.carte_book.specs.Book.{Book}
use Rattle.carte_record.specs.Kept.{nothing_kept}
use Rattle.carte_sound.specs.Base.{HasDistinctDigests}
use Rattle.carte_sound.proofs.Begins.{front_distinct}
use Rattle.carte_engine.proofs.Raising.{sound_behind}
use Rattle.carte_sound.proofs.Histories.{nothing_sound}
use Rattle.carte_state.specs.Folding.{Keeps}
use Rattle.carte_state.proofs.Folds.{keeps_one}
use Rattle.carte_report.specs.declared.status.Status.{Status}
use Rattle.carte_report.specs.declared.status.Status.TheVariants as status
use Rattle.carte_top.specs.Due.{IsHindered}
use Rattle.carte_top.specs.Histories.{AreBooks}
use Rattle.carte_top.specs.Sound.{KeepsSound, StaysSound}
use Rattle.carte_top.proofs.HistoryRuns.{front_of}
use Rattle.carte_history.specs.declared.run.Run.{Run}
use Rattle.carte_history.specs.declared.run.Shown.{Shown}
use Rattle.carte_history.specs.declared.run.Stop.{Stop}
use Rattle.carte_history.specs.declared.run.Stop.TheVariants as stops
use Rattle.carte_history.specs.Promises.{AllPromised, AreAllBooks, IsHistory, IsOneOf, IsPromised, IsWhole, run_over}
use Rattle.carte_history.specs.Shown.{AreShown, IsOfStop, IsShown, IsStopped, Ran, around_of, stopped_by}
use Rattle.carte_history.specs.Steps.{AreSteps, Steps}
use Rattle.carte_history.proofs.Doing.{ran_steps}
use Rattle.carte_history.proofs.Going.{Went, steps_went}
use Rattle.carte_engine.specs.Versions.{IsSoundAny}
use Rattle.carte_state.specs.Versions.{AnyKept, Fresh, InTwo}

-- ---- the disk that a run finds

-- it reads as the file, all of it synced, and no call has passed
found : (file : List ℕ) (stop : Stop) → (story_of (stopped_by stop (begun_disk file []))).now.reads ≡ file
found file stops.None = refl
found file (stops.After calls pick) = refl

settled : (file : List ℕ) (stop : Stop) → IsSettled (story_of (stopped_by stop (begun_disk file []))).now
settled file stops.None = record { synced = refl; written = refl }
settled file (stops.After calls pick) = record { synced = refl; written = refl }

begun : (file : List ℕ) (stop : Stop) → (story_of (stopped_by stop (begun_disk file []))).now.passed ≡ 0
begun file stops.None = refl
begun file (stops.After calls pick) = refl

-- and it lets no more pass than the stop says
at_most : (file : List ℕ) (stop : Stop) (n calls : ℕ) (pick : Pick) → stop ≡ stops.After calls pick → IsWithin (story_of (stopped_by stop (begun_disk file []))).most n → n ≤ calls
at_most file stops.None n calls pick is within = cc
at_most file (stops.After most picked) n calls pick is within =
    let same : most ≡ calls = cc in omega (arith, within, same)

-- ---- statuses

is_of_stop : (s : Status) (stop : Stop) (n : ℕ) → s ≡ status.DiskFault → IsOfStop s stop n → IsStopped stop n
is_of_stop s stop n failed is = subst (λ (x : Status). IsOfStop x stop n) failed is

not_failed : (s : Status) → IsWhole s → ¬ (s ≡ status.DiskFault)
not_failed s whole failed = subst IsWhole failed whole

hindered : (s due : Status) (stop : Stop) (n : ℕ) → IsOfStop s stop n → (s ≡ due) ⊎ IsHindered s → (s ≡ due) ⊎ (s ≡ status.NoMemory) ⊎ ((s ≡ status.DiskFault) × IsStopped stop n)
hindered s due stop n is (inl same) = inl same
hindered status.ReadFault due stop n is (inr hinders) = absurd is
hindered status.WriteFault due stop n is (inr hinders) = absurd is
hindered status.DiskFault due stop n is (inr hinders) = inr (inr (refl, is))
hindered status.NoMemory due stop n is (inr hinders) = inr (inl refl)
hindered status.Done due stop n is (inr hinders) = absurd hinders
hindered (status.BookRefused fault) due stop n is (inr hinders) = absurd hinders
hindered (status.Usage fault) due stop n is (inr hinders) = absurd hinders
hindered (status.BuildRefused reason) due stop n is (inr hinders) = absurd hinders
hindered (status.BadState offset) due stop n is (inr hinders) = absurd hinders
hindered (status.StateFull needed most) due stop n is (inr hinders) = absurd hinders
hindered status.ScriptTooLong due stop n is (inr hinders) = absurd hinders

-- where as many calls passed as the stop lets pass, and none, or fewer than there are
stopped_short : (stop : Stop) (n total : ℕ) → IsStopped stop n → (n ≡ 0) ⊎ (n < total) → (calls : ℕ) × (pick : Pick) × (stop ≡ stops.After calls pick) × ((calls ≡ 0) ⊎ (calls < total))
stopped_short stops.None n total stopped few = absurd stopped
stopped_short (stops.After calls pick) n total stopped (inl none) = (calls, pick, refl, inl (omega (arith, stopped, none)))
stopped_short (stops.After calls pick) n total stopped (inr less) = (calls, pick, refl, inr (omega (arith, stopped, less)))

-- ---- stations

one_of : (limit : ℕ) (K : AnyKept) (steps : Steps) (file : List ℕ) → IsAtOneOf (Keeps limit) K steps file → (L : AnyKept) × IsOneOf K steps L × Keeps limit L file
one_of limit K [] file at = (K, refl, at)
one_of limit K (step ∷ steps) file (inl at) = (K, inl refl, at)
one_of limit K (step ∷ steps) file (inr at) = let later = one_of limit step.to steps file at in (later.0, inr later.1, later.2)

-- ---- one run

module _ (limit : ℕ) (file : List ℕ) (G J : List Book) (run : Run) (s : Shown) (r : Ran) (K : AnyKept) (kept : Keeps limit K file) (sound : IsSoundAny K G)
    (is : IsShown limit file run s r) (books : AreBooks (run_over r) J) (distinct : HasDistinctDigests (G ++ J)) where
  abbrev old : Story
  old = story_of r.old

  abbrev new : Story
  new = story_of r.new

  by_begin : (P : Story → Type 0) → P (story_of (stopped_by run.stop (begun_disk file []))) → P old
  by_begin P = subst (λ (m : MemoryOfDisk). P (story_of m)) (sym is.begins)

  finds : Keeps limit K old.now.reads
  finds = by_begin (λ u. Keeps limit K u.now.reads) (subst (Keeps limit K) (sym (found file run.stop)) kept)

  settled_old : IsSettled old.now
  settled_old = by_begin (λ u. IsSettled u.now) (settled file run.stop)

  begun_old : old.now.passed ≡ 0
  begun_old = by_begin (λ u. u.now.passed ≡ 0) (begun file run.stop)

  steps : (front rest : Steps) × AreSteps r.status limit (around_of r) K front rest
  steps = ran_steps limit (around_of r) K tt finds r.status is.outcome.ran

  abbrev front : Steps
  front = steps.0

  abbrev rest : Steps
  rest = steps.1

  went : Went limit K front rest (r.status ≡ status.DiskFault) old new
  went = steps_went r.status limit (around_of r) K tt settled_old begun_old finds front rest steps.2

  at_most_stop : (calls : ℕ) (pick : Pick) → run.stop ≡ stops.After calls pick → new.now.passed ≤ calls
  at_most_stop calls pick same =
      let bound : IsWithin old.most new.now.passed = subst (λ most. IsWithin most new.now.passed) went.through.bound (within_of r.new) in
      at_most file run.stop new.now.passed calls pick same (subst (λ (m : MemoryOfDisk). IsWithin (story_of m).most new.now.passed) is.begins bound)

  stands : (L : AnyKept) × IsOneOf (last_of K front) rest L × Keeps limit L r.file
  stands = one_of limit (last_of K front) rest r.file (steps_stand (Keeps limit) K front rest old new went.through went.said r.file is.image)

  abbrev left : AnyKept
  left = stands.0

  all_made : ¬ (r.status ≡ status.DiskFault) → left ≡ last_of K (front ++ rest)
  all_made whole =
      let through : StepsThrough (Keeps limit) K ((front ++ rest) ++ []) old new = subst (λ xs. StepsThrough (Keeps limit) K xs old new) (sym (append-nil (front ++ rest))) went.through in
      let here = steps_stand (Keeps limit) K (front ++ rest) [] old new through (omega (arith, went.all whole)) r.file is.image in
      keeps_one limit r.file left (last_of K (front ++ rest)) stands.2 here

  few : r.status ≡ status.DiskFault → (new.now.passed ≡ 0) ⊎ (new.now.passed < calls_in (front ++ rest))
  few failed = elim (went.few failed) [ inl none ↦ inl (none ∙ begun_old) | inr less ↦ inr (omega (arith, less, begun_old)) ]

  -- what is sound

  by_read : (A more : List Book) → J ≡ A ++ more → StaysSound limit A (around_of r).state → KeepsSound limit (G ++ J) r.file
  by_read A more same stays =
      let parted : G ++ J ≡ (G ++ A) ++ more = ap (λ (X : List Book). G ++ X) same ∙ sym (append_assoc G A more) in
      let apart : HasDistinctDigests (G ++ A) = front_distinct (G ++ A) more (subst HasDistinctDigests parted distinct) in
      let all = stays tt settled_old G (K, finds, sound) apart in
      let there : KeepsSound limit (G ++ A) r.file = throughout_last old new (Leaves (KeepsSound limit (G ++ A))) all r.file is.image in
      (there.0, there.1, subst (λ (X : List Book). IsSoundAny there.0 X) (sym parted) (sound_behind there.0 (G ++ A) more there.2))

  stays : IsSoundAny left (G ++ J)
  stays =
      let all = is.outcome.sound in
      let part = front_of (run_over r) all.0 J all.1 books in
      let there = by_read all.0 part.0 part.1 all.2 in
      subst (λ (M : AnyKept). IsSoundAny M (G ++ J)) (keeps_one limit r.file there.0 left there.1 stands.2) there.2

  promised : IsPromised limit G J run.stop r K left
  promised = record {
    finds = finds;
    sound = sound;
    leaves = stands.2;
    stays = stays;
    front = front;
    rest = rest;
    commits = steps.2;
    later = stands.1;
    last = λ whole. all_made (not_failed r.status whole);
    only = λ failed. stopped_short run.stop new.now.passed (calls_in (front ++ rest)) (is_of_stop r.status run.stop new.now.passed failed is.answered.of_stop) (few failed);
    cut = λ calls pick same whole. omega (arith, went.all whole, begun_old, at_most_stop calls pick same);
    due = λ due asks. hindered r.status due run.stop new.now.passed is.answered.of_stop (is.outcome.complete due asks);
  }

-- ---- all of them

promised_from : (limit : ℕ) (runs : List Run) (shown : List Shown) (rans : List Ran) (G H : List Book) (file last : List ℕ) (K : AnyKept) → Keeps limit K file → IsSoundAny K G
    → AreShown limit file runs shown rans last → AreAllBooks rans H → HasDistinctDigests (G ++ H) → AllPromised limit K G runs rans
promised_from limit [] [] [] G H file last K kept sound here books distinct = tt
promised_from limit [] [] (r ∷ rans) G H file last K kept sound here books distinct = absurd here
promised_from limit [] (s ∷ shown) rans G H file last K kept sound here books distinct = absurd here
promised_from limit (run ∷ runs) [] rans G H file last K kept sound here books distinct = absurd here
promised_from limit (run ∷ runs) (s ∷ shown) [] G H file last K kept sound here books distinct = absurd here
promised_from limit (run ∷ runs) (s ∷ shown) (r ∷ rans) G H file last K kept sound here (J, more, is, own, others) distinct =
    let parted : G ++ H ≡ (G ++ J) ++ more = ap (λ (X : List Book). G ++ X) is ∙ sym (append_assoc G J more) in
    let apart : HasDistinctDigests ((G ++ J) ++ more) = subst HasDistinctDigests parted distinct in
    let first : HasDistinctDigests (G ++ J) = front_distinct (G ++ J) more apart in
    let one = promised limit file G J run s r K kept sound here.0 own first in (
      left limit file G J run s r K kept sound here.0 own first,
      J,
      own,
      one,
      promised_from limit runs shown rans (G ++ J) more r.file last (left limit file G J run s r K kept sound here.0 own first) one.leaves one.stays here.1 others apart,
    )

pub is_history : (limit : ℕ) (runs : List Run) (shown : List Shown) (rans : List Ran) (last : List ℕ) → AreShown limit [] runs shown rans last → IsHistory limit runs shown
is_history limit runs shown rans last are = record {
  rans = rans;
  last = last;
  are_shown = are;
  promised = λ H books distinct.
      promised_from limit runs shown rans [] H [] last (InTwo nothing_kept) (record { gate = 8; bodies = []; reads = refl; makes = record { phase = Fresh; folded = refl; kept = refl } }) (nothing_sound []) are books distinct;
}
