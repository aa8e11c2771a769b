-- Digests of tasks that are worked out before the keys are noted, one after the other.
use Rattle.std.proofs.Common.{◌≡◌, ◌⊎◌, ◌∙◌, ◌∷◌, [], ◌+◌, ap, sym, refl, ⊎_elim, arith, ℕ, zero, suc, List, Option, Some, None, slice_get, take, drop}
use Rattle.std.proofs.lemmas.Option.{none-some, same_Some, slice_get-map}
use Rattle.std.specs.Prelude.{IfSome, option_map}
use Rattle.carte_value.specs.declared.digest.Digest.{Digest}
use Rattle.carte_book.specs.declared.book.Book.{Book as CodeBook}
use Rattle.carte_book.specs.Book.{Book, book_view}
use Rattle.carte_book.specs.Places.{task_at}
use Rattle.carte_book.specs.Task.{task_now}
use Rattle.carte_mark.specs.Reached.{tasks_at}
use Rattle.carte_sound.specs.True.{or_none}
use Rattle.carte_note.specs.declared.finished.Finished.{Finished}
use Rattle.carte_note.specs.Right.{key_of}
use Rattle.carte_plan.specs.Ahead.{AreAhead, StandThere}

pub stands_more : (b : CodeBook) (fs : List Finished) (ws xs : List (Option ℕ)) (at : ℕ) (g : Finished) → StandThere b fs ws → slice_get fs at ≡ Some g
    → ((p i : ℕ) → slice_get xs p ≡ Some (Some i) → slice_get ws p ≡ Some (Some i) ⊎ ((i ≡ at) × (task_at b p ≡ task_now (book_view b) (key_of g)))) → StandThere b fs xs
stands_more b fs ws xs at g so here new p i f at_p at_i =
    ⊎_elim (λ old. so p i f old at_i) (λ one. one.1 ∙ ap (λ h. task_now (book_view b) (key_of h)) (same_Some g f (sym here ∙ (ap (slice_get fs) (sym one.0) ∙ at_i)))) (new p i at_p)

pub task_there : (b : CodeBook) (ps : List ℕ) (ds : List (Option Digest)) (at p : ℕ) (d : Option Digest) → ds ≡ tasks_at b ps → slice_get ps at ≡ Some p → slice_get ds at ≡ Some d → d ≡ task_at b p
task_there b ps ds at p d is at_p at_d = same_Some d (task_at b p) (sym at_d ∙ (ap (λ xs. slice_get xs at) is ∙ (slice_get-map (task_at b) ps at ∙ ap (option_map (task_at b)) at_p)))

pub ahead_more : (b : CodeBook) (fs : List Finished) (ws : List (Option ℕ)) (ts us : List (Option Digest)) (p : ℕ) (task : Option Digest) → StandThere b fs ws → task ≡ task_at b p → AreAhead (book_view b) fs ts
    → ((i : ℕ) (d : Digest) → slice_get us i ≡ Some (Some d) → slice_get ts i ≡ Some (Some d) ⊎ ((slice_get ws p ≡ Some (Some i)) × (task ≡ Some d))) → AreAhead (book_view b) fs us
ahead_more b fs ws ts us p task stand is so new i d f at_i at_f =
    ⊎_elim (λ old. so i d f old at_f) (λ one. sym (ap or_none (sym (stand p i f one.0 at_f) ∙ (sym is ∙ one.1)))) (new i d at_i)

front_at : {X : Type 0} (n : ℕ) (xs : List X) (i : ℕ) (x : X) → slice_get (take n xs) i ≡ Some x → slice_get xs i ≡ Some x
front_at zero xs i x is = elim (none-some x is) [ ]
front_at (suc n) [] i x is = is
front_at (suc n) (y ∷ ys) zero x is = is
front_at (suc n) (y ∷ ys) (suc i) x is = front_at n ys i x is

back_at : {X : Type 0} (n : ℕ) (xs : List X) (i : ℕ) → slice_get (drop n xs) i ≡ slice_get xs (n + i)
back_at zero xs i = let same : i ≡ 0 + i = omega arith in ap (slice_get xs) same
back_at (suc n) [] i = refl
back_at (suc n) (y ∷ ys) i = let same : suc (n + i) ≡ suc n + i = omega arith in back_at n ys i ∙ ap (slice_get (y ∷ ys)) same

pub ahead_front : (b : Book) (n : ℕ) (fs : List Finished) (ts : List (Option Digest)) → AreAhead b fs ts → AreAhead b (take n fs) ts
ahead_front b n fs ts so i d f at_i at_f = so i d f at_i (front_at n fs i f at_f)

pub ahead_back : (b : Book) (n : ℕ) (fs : List Finished) (ts : List (Option Digest)) → AreAhead b fs ts → AreAhead b (drop n fs) (drop n ts)
ahead_back b n fs ts so i d f at_i at_f = so (n + i) d f (sym (back_at n ts i) ∙ at_i) (sym (back_at n fs i) ∙ at_f)

pub if_ahead : (o : Option Digest) (P : Digest → Type 0) → ((d : Digest) → o ≡ Some d → P d) → IfSome o P
if_ahead None P so = tt
if_ahead (Some d) P so = so d refl
