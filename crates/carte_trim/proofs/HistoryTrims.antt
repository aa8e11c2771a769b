-- The state stays sound over a history of runs and trims.
use Rattle.std.proofs.Common.{◌≡◌, ℕ, List, [], ◌∷◌, ◌++◌, refl, sym, ◌∙◌, ap, subst, inl, inr, append_assoc, append-nil}
use Rattle.std.proofs.lemmas.List.{append_cancel_right}
use Rattle.carte_io.specs.Disk.{EachMoment, Leaves, LeavesOnly, Moment, Story, moments}
use Rattle.carte_io.proofs.Images.{leaves_more, leaves_none, settled_image}
use Rattle.carte_value.specs.Lists.{Has}
use Rattle.carte_book.specs.Book.{Book}
use Rattle.carte_record.specs.Kept.{SomeKept, nothing_kept}
use Rattle.carte_sound.specs.Base.{HasDistinctDigests}
use Rattle.carte_engine.specs.Versions.{IsSoundAny}
use Rattle.carte_sound.proofs.Begins.{front_distinct}
use Rattle.carte_sound.proofs.Histories.{nothing_sound}
use Rattle.carte_state.specs.Folding.{Keeps}
use Rattle.carte_state.specs.Versions.{InTwo}
use Rattle.carte_state.proofs.Folds.{keeps_one}
use Rattle.carte_top.specs.Histories.{IsLeft}
use Rattle.carte_top.specs.Sound.{KeepsSound}
use Rattle.carte_top.proofs.HistoryRuns.{histories}
use Rattle.carte_trim.specs.Histories.{AreSteps, IsTrimFrom, Runs, Step, Trim, Trims, TrimsBetween, around_of}
use Rattle.carte_trim.specs.New.{KeepsEither}
use Rattle.carte_trim.specs.Outcome.{IsSpared, Leaves as TrimLeaves, MadeLeaves}
use Rattle.carte_trim.proofs.Files.{keeps_none, new_keeps}
use Rattle.carte_trim.proofs.Trims.{sound}

at_moment : (Q : Moment → Type 0) (ms : List Moment) (m : Moment) → EachMoment Q ms → Has ms m → Q m
at_moment Q [] m each here = absurd here
at_moment Q (n ∷ ms) m each (inl same) = subst Q (sym same) each.0
at_moment Q (n ∷ ms) m each (inr later) = at_moment Q ms m each.1 later

-- what each moment's images have, a file that is left has
left_has : (old new : Story) (P : List ℕ → Type 0) (file : List ℕ) → LeavesOnly old new P → IsLeft old new file → P file
left_has old new P file all left =
    let same : left.later ≡ all.later = append_cancel_right left.later all.later (moments old) (sym left.goes_on ∙ all.goes_on) in
    at_moment (Leaves P) (old.now ∷ all.later) left.moment (all.first, all.each) (subst (λ ms. Has (old.now ∷ ms) left.moment) same left.passed) file left.image

module _ (limit : ℕ) (file : List ℕ) (G : List Book) (t : Trim) (keeps : KeepsSound limit G file) (is : IsTrimFrom limit file t) where
  keeps_old : KeepsSound limit G t.state.now.reads
  keeps_old = subst (KeepsSound limit G) (sym is.found) keeps

  nothing_left : (image : List ℕ) → Keeps limit (InTwo nothing_kept) image → KeepsSound limit G image
  nothing_left image there = (InTwo nothing_kept, there, nothing_sound G)

  -- where nothing was written, an image is a new file
  spared : IsSpared (around_of t).new → LeavesOnly t.new t.new_after (KeepsSound limit G)
  spared same =
      leaves_none t.new t.new_after (KeepsSound limit G) (same tt)
      (λ image there. nothing_left image (subst (Keeps limit (InTwo nothing_kept)) (sym (settled_image t.new.now image is.fresh.settled there)) (new_keeps limit t.new.now.reads is.fresh.short)))

  made : (n : ℕ) (K : SomeKept) → Keeps limit (InTwo K) t.state.now.reads → MadeLeaves limit n K (around_of t).new → LeavesOnly t.new t.new_after (KeepsSound limit G)
  made n K there (inl same) = spared same
  made n K there (inr (short, (L, trimmed, leaves))) =
      let known : IsSoundAny (InTwo K) G = subst (λ A. IsSoundAny A G) (keeps_one limit t.state.now.reads keeps_old.0 (InTwo K) keeps_old.1 there) keeps_old.2 in
      leaves_more t.new t.new_after (KeepsEither limit L) (KeepsSound limit G)
      (λ image either. elim either [ inl none ↦ nothing_left image none | inr whole ↦ (InTwo L, whole, sound K L n G trimmed known) ]) (leaves tt is.fresh)

  leaves_sound : TrimLeaves limit t.words (around_of t).state (around_of t).new → LeavesOnly t.new t.new_after (KeepsSound limit G)
  leaves_sound (inl same) = spared same
  leaves_sound (inr (n, asks, (K, there, leaves))) = made n K (there tt) leaves

  trim_sound : KeepsSound limit G t.file
  trim_sound =
      elim is.left [
        | inl same ↦ subst (KeepsSound limit G) (sym same) keeps
        | inr left ↦ left_has t.new t.new_after (KeepsSound limit G) t.file (leaves_sound is.outcome.run.leaves) left
      ]

steps_sound : (limit : ℕ) (steps : List Step) (G H : List Book) (file last : List ℕ) → KeepsSound limit G file → AreSteps limit file steps H last → HasDistinctDigests (G ++ H) → KeepsSound limit (G ++ H) last
steps_sound limit [] G H file last keeps are distinct =
    let alone : KeepsSound limit (G ++ []) file = subst (λ (J : List Book). KeepsSound limit J file) (sym (append-nil G)) keeps in
    let here : KeepsSound limit (G ++ H) file = subst (λ (J : List Book). KeepsSound limit (G ++ J) file) (sym are.0) alone in
    subst (KeepsSound limit (G ++ H)) (sym are.1) here
steps_sound limit (Runs r ∷ steps) G H file last keeps (J, rest, is, books, run, more) distinct =
    let parted : G ++ H ≡ (G ++ J) ++ rest = ap (λ (X : List Book). G ++ X) is ∙ sym (append_assoc G J rest) in
    let apart : HasDistinctDigests ((G ++ J) ++ rest) = subst HasDistinctDigests parted distinct in
    let here : KeepsSound limit (G ++ J) r.file = histories limit (r ∷ []) G J file r.file keeps (J, [], sym (append-nil J), books, run, (refl, refl)) (front_distinct (G ++ J) rest apart) in
    subst (λ (X : List Book). KeepsSound limit X last) (sym parted) (steps_sound limit steps (G ++ J) rest r.file last here more apart)
steps_sound limit (Trims t ∷ steps) G H file last keeps (is, more) distinct = steps_sound limit steps G H t.file last (trim_sound limit file G t keeps is) more distinct

pub trims_between : TrimsBetween
trims_between limit steps H last are distinct =
    steps_sound limit steps [] H [] last (InTwo nothing_kept, keeps_none limit [] refl, nothing_sound []) are distinct
