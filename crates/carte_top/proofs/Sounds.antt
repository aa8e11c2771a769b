-- Whatever the status, and wherever a crash cuts a run off, the state stays sound.
use Rattle.std.proofs.Common.{◌≡◌, ℕ, List, [], ◌∷◌, ◌++◌, Ok, refl, sym, ap, subst, inl, inr, ◌⊎◌}
use Rattle.carte_io.proofs.Images.{leaves_more}
use Rattle.carte_book.specs.Book.{Book}
use Rattle.carte_record.specs.declared.batch.Batch.{Batch}
use Rattle.carte_sound.proofs.Histories.{nothing_sound}
use Rattle.carte_session.specs.Lines.{lines_of}
use Rattle.carte_words.specs.Words.{words_of}
use Rattle.carte_words.specs.declared.words.Command.{Command}
use Rattle.carte_words.specs.declared.words.Command.TheVariants as command
use Rattle.carte_words.specs.declared.words.Words.{Words as Asked}
use Rattle.carte_engine.proofs.Keeping.{plan_sound}
use Rattle.carte_top.specs.Around.{OverSource, OverDisk}
use Rattle.carte_top.specs.Chosen.{scheduler_of, how_of}
use Rattle.carte_top.specs.Found.{AreClearing, IsClearing, for_last}
use Rattle.carte_top.specs.Outcome.{IsSpared}
use Rattle.carte_top.specs.Running.{SessionStaysOver}
use Rattle.carte_top.specs.Sound.{AreRead, AreReadFor, IsSoundRun, IsStation, KeepsOn, KeepsSound, MayBuild, StaysAt, StaysSound, Visits}
use Rattle.carte_top.proofs.Putting.{stays_kept}
use Rattle.carte_engine.specs.Versions.{IsSoundAny}
use Rattle.carte_engine.proofs.Raising.{sound_behind}
use Rattle.carte_state.specs.Versions.{AnyKept}
use Rattle.carte_state.specs.Runs.{applied_to}

-- where nothing was written to the disk
pub spared_sound : (limit : ℕ) (d : OverDisk) → IsSpared d → StaysSound limit [] d
spared_sound limit d spared told settled H (K, keeps, sound) distinct =
    stays_kept limit K d.old d.new (KeepsSound limit (H ++ [])) keeps settled (spared told) (λ file at. (K, at, sound_behind K H [] sound))

-- and before the first line of a session
pub stays_unbegun : (limit : ℕ) (b : Book) (c : OverSource) (d : OverDisk) → IsSpared d → SessionStaysOver limit b c d
stays_unbegun limit b c d spared =
    ([], record { lines = []; first = λ told. (lines_of c.old.left, refl); last = b; books = (refl, refl) }, spared_sound limit d spared)

-- under a build
built_sound : (limit : ℕ) (w : Asked) (b : Book) (d : OverDisk) → StaysAt limit (MayBuild w b) d → StaysSound limit (b ∷ []) d
built_sound limit w b d stays told settled H (K, keeps, sound) distinct =
    leaves_more d.old d.new (IsStation limit (MayBuild w b) K) (KeepsSound limit (H ++ b ∷ [])) at (stays told settled K keeps)
  where
    at : (file : List ℕ) → IsStation limit (MayBuild w b) K file → KeepsSound limit (H ++ b ∷ []) file
    at file (inl there) = (K, there, sound_behind K H (b ∷ []) sound)
    at file (inr (some, rest, may, there)) =
        let leads = may H sound distinct in
        (applied_to K some, there, plan_sound (scheduler_of w.scheduler) (how_of w.rebuilder) K H b w.targets leads.0 some rest sound distinct leads.1.leads)

-- under a clearing, whose batch was put, or was not
front_of_one : {A : Type 0} (some rest : List A) (x : A) → some ++ rest ≡ x ∷ [] → (some ≡ []) ⊎ (some ≡ x ∷ [])
front_of_one [] rest x is = inl refl
front_of_one (y ∷ []) rest x is = let head : y ≡ x = cc in inr (ap (λ z. z ∷ []) head)
front_of_one (y ∷ z ∷ some) rest x is = cc

front_sound : (K : AnyKept) (H : List Book) (B : Batch) (some rest : List Batch) → IsSoundAny K H → IsClearing K B → some ++ rest ≡ B ∷ [] → IsSoundAny (applied_to K some) H
front_sound K H B some rest sound clearing all = elim (front_of_one some rest B all) [
  | inl none ↦ subst (λ (Bs : List Batch). IsSoundAny (applied_to K Bs) H) (sym none) sound
  | inr one ↦ subst (λ (Bs : List Batch). IsSoundAny (applied_to K Bs) H) (sym one) (subst (λ (L : AnyKept). IsSoundAny L H) (sym clearing.leaves) (nothing_sound H))
]

cleaned_sound : (limit : ℕ) (d : OverDisk) → StaysAt limit AreClearing d → StaysSound limit [] d
cleaned_sound limit d stays told settled H (K, keeps, sound) distinct =
    leaves_more d.old d.new (IsStation limit AreClearing K) (KeepsSound limit (H ++ [])) at (stays told settled K keeps)
  where
    at : (file : List ℕ) → IsStation limit AreClearing K file → KeepsSound limit (H ++ []) file
    at file (inl there) = (K, there, sound_behind K H [] sound)
    at file (inr (some, rest, (B, clearing, all), there)) = (applied_to K some, there, sound_behind (applied_to K some) H [] (front_sound K H B some rest sound clearing all))

visited_sound : (limit : ℕ) (to : Command) (w : Asked) (s c : OverSource) (d : OverDisk) → KeepsOn to limit w s c d → (J : List Book) × ((J ≡ []) ⊎ AreReadFor to w s c J) × StaysSound limit J d
visited_sound limit command.Build w s c d (bytes, was, b, is, stays) = (b ∷ [], inr (bytes, was, b, is, refl), built_sound limit w b d stays)
visited_sound limit command.Session w s c d (bytes, was, b, is, (J, first, stays)) = (J, inr (bytes, was, b, is, first), stays)
visited_sound limit command.Explain w s c d (book, spared) = ([], inl refl, spared_sound limit d spared)
visited_sound limit command.Clean w s c d stays = ([], inl refl, cleaned_sound limit d stays)
visited_sound limit command.Generate w s c d (b, is, stays) = (b ∷ [], inr (b, is, refl), built_sound limit (for_last w) b d stays)

asked_sound : (limit : ℕ) (words : List (List ℕ)) (w : Asked) (s c : OverSource) (d : OverDisk) (J : List Book) → words_of words ≡ Ok w → (J ≡ []) ⊎ AreReadFor w.command w s c J → AreRead words s c J
asked_sound limit words w s c d J asked (inl none) = inl none
asked_sound limit words w s c d J asked (inr read) = inr (w, asked, read)

pub sound_run : (limit : ℕ) (words : List (List ℕ)) (s c : OverSource) (d : OverDisk) → Visits limit words s c d → IsSoundRun limit words s c d
sound_run limit words s c d (inl unvisited) = ([], inl refl, spared_sound limit d (λ told. unvisited.story))
sound_run limit words s c d (inr (w, asked, keeps)) =
    let all = visited_sound limit w.command w s c d keeps in
    (all.0, asked_sound limit words w s c d all.0 asked all.1, all.2)
