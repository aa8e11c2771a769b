-- What a crash may leave of a disk while lines are carried out.
use Rattle.std.specs.Prelude.{ℕ, ◌+◌, List, [], ◌∷◌, ◌++◌, length}
use Rattle.carte_io.specs.Disk.{IsImage, IsSettled, LeavesOnly, Story}
use Rattle.carte_session.specs.Session.{Goes}

-- `IsGood lines`: what soundness asks of the lines so far. `IsSound lines file`: a file is sound for them.
-- Where each line that is answered leaves only sound files, all lines do
abbrev pub LinesLeave : {M : Type 0} → (M → ℕ → List ℕ → List ℕ → M → Type 0) → (M → Story) → (List (List ℕ) → Type 0)
    → (List (List ℕ) → List ℕ → Type 0) → Type 0
LinesLeave {M = M} Answers story IsGood IsSound =
    ((ls ks : List (List ℕ)) → IsGood (ls ++ ks) → IsGood ls)
    → ((ls ks : List (List ℕ)) (file : List ℕ) → IsSound ls file → IsSound (ls ++ ks) file)
    → ((ls : List (List ℕ)) (line reply : List ℕ) (m m' : M) → IsGood (ls ++ line ∷ []) → IsSettled (story m).now
    → ((file : List ℕ) → IsImage (story m).now file → IsSound ls file) → Answers m (length ls + 1) line reply m'
    → IsSettled (story m').now × LeavesOnly (story m) (story m') (IsSound (ls ++ line ∷ [])))
    → (lines front : List (List ℕ)) (m m' : M) (said : List ℕ) → IsGood (front ++ lines) → IsSettled (story m).now
    → ((file : List ℕ) → IsImage (story m).now file → IsSound front file) → Goes Answers (length front + 1) m lines said m'
    → IsSettled (story m').now × LeavesOnly (story m) (story m') (IsSound (front ++ lines))
