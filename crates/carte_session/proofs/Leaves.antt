-- A chain of steps each of which leaves only sound files leaves only sound files.
use Rattle.std.proofs.Common.{◌≡◌, ℕ, ◌+◌, List, [], ◌∷◌, ◌++◌, length, sym, ap, subst, arith, append_assoc}
use Rattle.std.proofs.lemmas.List.{length-append}
use Rattle.carte_io.specs.Disk.{IsSettled, LeavesOnly, Story}
use Rattle.carte_io.proofs.Images.{leaves_last, leaves_more, leaves_none, leaves_then}
use Rattle.carte_session.specs.Leaving.{LinesLeave}
use Rattle.carte_session.specs.Session.{Goes}

module _ {M : Type 0} (Answers : M → ℕ → List ℕ → List ℕ → M → Type 0) (story : M → Story) (IsGood : List (List ℕ) → Type 0)
    (IsSound : List (List ℕ) → List ℕ → Type 0) where
  pub lines_leave_sound : LinesLeave Answers story IsGood IsSound
  lines_leave_sound shorter longer step [] front m m' said good settled sound goes = (
    subst (λ (x : M). IsSettled (story x).now) (sym goes.0) settled,
    leaves_none (story m) (story m') (IsSound (front ++ [])) (ap story goes.0) (λ file image. longer front [] file (sound file image)),
  )
  lines_leave_sound shorter longer step (line ∷ lines) front m m' said good settled sound goes =
      let mid = goes.0 in
      let here = front ++ line ∷ [] in
      let assoc = append_assoc front (line ∷ []) lines in
      let good_on = subst IsGood (sym assoc) good in
      let one = step front line goes.1 m mid (shorter here lines good_on) settled sound goes.3 in
      let number : length front + 1 + 1 ≡ length here + 1 = omega (arith, length-append front (line ∷ [])) in
      let rest = lines_leave_sound shorter longer step lines here mid m' goes.2 good_on one.0
      (leaves_last (story m) (story mid) (IsSound here) one.1)
      (subst (λ (n : ℕ). Goes Answers n mid lines goes.2 m') number goes.4) in (
        rest.0,
        subst (λ (ls : List (List ℕ)). LeavesOnly (story m) (story m') (IsSound ls)) assoc
            (leaves_then (story m) (story mid) (story m') (IsSound (here ++ lines))
            (leaves_more (story m) (story mid) (IsSound here) (IsSound (here ++ lines)) (λ file. longer here lines file) one.1) rest.1),
      )
