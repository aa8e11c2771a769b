-- A history that goes on by one run.
use Rattle.std.proofs.Common.{◌≡◌, ℕ, ◌+◌, ◌<◌, ◌≤◌, List, [], ◌∷◌, ◌++◌, length, take, get_or, refl, sym, ◌∙◌, ap, subst}
use Rattle.std.proofs.lemmas.List.{take_all, take_more}
use Rattle.carte_io.specs.MemDisks.{MemoryOfDisk, begun_disk}
use Rattle.carte_history.specs.declared.run.Run.{Run}
use Rattle.carte_history.specs.declared.run.Shown.{Shown}
use Rattle.carte_io.specs.Memory.{MemoryOfSink, MemoryOfSource}
use Rattle.carte_io.specs.MemDisks.{story_of}
use Rattle.carte_io.specs.Streams.{SinkState, SourceState}
use Rattle.carte_top.specs.Whole.{IsOutcome}
use Rattle.carte_history.proofs.Promising.{is_history}
use Rattle.carte_history.specs.Promises.{IsHistory}
use Rattle.carte_history.specs.Shown.{AreShown, IsAnswered, IsLeft, IsNext, IsShown, Ran, around_of, bare, holding, stopped_by}
use Rattle.carte_history.specs.declared.run.Stop.{Stop}
use Rattle.carte_history.specs.declared.run.Stop.TheVariants as stops

shown_more : (limit : ℕ) (file mid : List ℕ) (runs : List Run) (shown : List Shown) (rans : List Ran) (run : Run) (s : Shown) (r : Ran) → AreShown limit file runs shown rans mid
    → IsShown limit mid run s r → AreShown limit file (runs ++ run ∷ []) (shown ++ s ∷ []) (rans ++ r ∷ []) r.file
shown_more limit file mid [] [] [] run s r here one = (subst (λ xs. IsShown limit xs run s r) here one, refl)
shown_more limit file mid [] [] (q ∷ rans) run s r here one = absurd here
shown_more limit file mid [] (t ∷ shown) rans run s r here one = absurd here
shown_more limit file mid (first ∷ runs) [] rans run s r here one = absurd here
shown_more limit file mid (first ∷ runs) (t ∷ shown) [] run s r here one = absurd here
shown_more limit file mid (first ∷ runs) (t ∷ shown) (q ∷ rans) run s r here one = (here.0, shown_more limit q.file mid runs shown rans run s r here.1 one)

-- what the loop has so far, and behind one run more
abbrev pub SoFar : ℕ → List Run → List Shown → MemoryOfDisk → Type 0
SoFar limit runs shown d = (rans : List Ran) × (d ≡ begun_disk d.first []) × AreShown limit [] runs shown rans d.first

pub shown_next : (limit : ℕ) (runs : List Run) (i : ℕ) (run : Run) (shown : List Shown) (s : Shown) (old new : MemoryOfDisk) → i < length runs → run ≡ get_or runs i run
    → SoFar limit (take i runs) shown old → new ≡ begun_disk s.image.items [] → (r : Ran) → IsShown limit old.first run s r
    → SoFar limit (take (i + 1) runs) (shown ++ s ∷ []) new
shown_next limit runs i run shown s old new within is (rans, was, here) begins r one =
    let file : new.first ≡ r.file = ap (λ (d : MemoryOfDisk). d.first) begins ∙ one.left in
    let more : take (i + 1) runs ≡ take i runs ++ run ∷ [] = take_more runs i run within ∙ ap (λ c. take i runs ++ c ∷ []) (sym is) in
    let next = shown_more limit [] old.first (take i runs) shown rans run s r here one in (
      rans ++ r ∷ [],
      begins ∙ ap (λ xs. begun_disk xs []) (one.left ∙ sym file),
      subst (λ xs. AreShown limit [] xs (shown ++ s ∷ []) (rans ++ r ∷ []) new.first) (sym more)
          (subst (λ xs. AreShown limit [] (take i runs ++ run ∷ []) (shown ++ s ∷ []) (rans ++ r ∷ []) xs) (sym file) next),
    )

-- before the first run
pub so_far_none : (limit : ℕ) (runs : List Run) (shown : List Shown) (d : MemoryOfDisk) → shown ≡ [] → d ≡ begun_disk [] [] → SoFar limit (take 0 runs) shown d
so_far_none limit runs shown d none begins =
    let file : d.first ≡ [] = ap (λ (m : MemoryOfDisk). m.first) begins in
    let here : AreShown limit [] [] [] [] d.first = file in
    ([], begins ∙ ap (λ xs. begun_disk xs []) (sym file), subst (λ xs. AreShown limit [] [] xs [] d.first) (sym none) here)

-- and behind the last one
pub so_far_all : (limit : ℕ) (runs : List Run) (i : ℕ) (shown : List Shown) (d : MemoryOfDisk) → length runs ≤ i → SoFar limit (take i runs) shown d → IsHistory limit runs shown
so_far_all limit runs i shown d ended (rans, was, here) = is_history limit runs shown rans d.first (subst (λ xs. AreShown limit [] xs shown rans d.first) (take_all i runs ended) here)

-- ---- one run

-- a source and a sink in memory as states
abbrev pub seen_source : MemoryOfSource → SourceState
seen_source m = record { left = m.left; faults = m.faults; last = m.last; reads = m.calls }

abbrev pub seen_sink : MemoryOfSink → SinkState
seen_sink m = record { taken = m.taken; handed = m.handed; faults = m.faults }

-- a stop leaves what the disk held at first
first_of_stopped : (stop : Stop) (d : MemoryOfDisk) → (stopped_by stop d).first ≡ d.first
first_of_stopped stops.None d = refl
first_of_stopped (stops.After calls pick) d = refl

pub stopped_first : (stop : Stop) (old new : MemoryOfDisk) → new ≡ stopped_by stop old → new.first ≡ old.first
stopped_first stop old new is = ap (λ (d : MemoryOfDisk). d.first) is ∙ first_of_stopped stop old

pub stopped_begun : (stop : Stop) (old new : MemoryOfDisk) → new ≡ stopped_by stop old → old ≡ begun_disk old.first [] → new ≡ stopped_by stop (begun_disk new.first [])
stopped_begun stop old new is begun =
    is ∙ ap (stopped_by stop) begun ∙ ap (λ xs. stopped_by stop (begun_disk xs [])) (sym (stopped_first stop old new is))

-- the image that a crash leaves is what the next disk reads
pub next_read : (stop : Stop) (disk next : MemoryOfDisk) (image : List ℕ) → IsNext stop disk next next.first → image ≡ (story_of next).now.reads → IsNext stop disk next image
next_read stop disk next image ends reads =
    subst (IsNext stop disk next) (sym (reads ∙ ap (λ d. (story_of d).now.reads) ends.begins)) ends

module _ (limit : ℕ) (run : Run) (r : Ran) (said told : List ℕ) (faults : ℕ) (s : Shown) (next : MemoryOfDisk) where
  pub shown_one : r.words ≡ run.words.items → r.book ≡ holding run.book.items → r.script ≡ holding run.script.items → r.old ≡ stopped_by run.stop (begun_disk r.old.first []) → r.out ≡ bare → r.err ≡ bare
      → IsOutcome limit (around_of r) r.status → said ≡ r.out_after.taken → told ≡ r.err_after.taken → faults ≡ r.err_after.faults → IsLeft run.stop r.status said told faults r.new next s
      → (next ≡ begun_disk s.image.items []) × (x : Ran) × IsShown limit r.old.first run s x
  shown_one words book script begins no_out no_err outcome out err failed left = (
    left.ends.begins,
    record r { file = s.image.items },
    record {
      words = words;
      book = book;
      script = script;
      begins = begins;
      empty = (no_out, no_err);
      outcome = outcome;
      ended = left.ended;
      out = left.out ∙ out;
      err = left.err ∙ err;
      answered = subst (IsAnswered r.status run.stop (story_of r.new).now.passed) failed left.answered;
      picked = left.ends.picked;
      image = left.ends.is_image;
      left = refl;
    },
  )
