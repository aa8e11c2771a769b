-- Reaching one target.
use Rattle.std.proofs.Common.{◌≡◌, ℕ, zero, suc, ◌<◌, Bool, true, false, List, [], ◌∷◌, length, slice_get, get_or, Some, Err, refl, sym, ◌∙◌, arith, inl, inr}
use Rattle.carte_value.specs.Truths.{Among}
use Rattle.carte_book.specs.Book.{Book}
use Rattle.carte_topo.specs.declared.walk.Frame.{Frame}
use Rattle.carte_topo.specs.declared.walk.Stop.{Stop}
use Rattle.carte_topo.specs.declared.walk.Stop.TheVariants.{Refused, NoMemory, Dynamic as MetDynamic}
use Rattle.carte_topo.specs.Walk.{Seen, Path, Done, is_ready, Entered, Tells, Enters, Turned, Turns, Stands}
use Rattle.carte_topo.specs.Between.{IsBetween, Reached, Reaching}
use Rattle.carte_topo.proofs.Ready.{ready_is}
use Rattle.carte_topo.proofs.Refusing.{refused_first, dynamic_first, refused_later, dynamic_later}
use Rattle.carte_topo.proofs.Turning.{IsTurning, first_entered, turned, left, turn_smaller}
use Rattle.carte_topo.proofs.Marking.{tells}

pub has_goal : (ts : List (List ℕ)) (i : ℕ) → i < length ts → (goal : List ℕ) × (slice_get ts i ≡ Some goal)
has_goal [] i below = absurd (omega arith)
has_goal (t ∷ ts) zero below = (t, refl)
has_goal (t ∷ ts) (suc i) below = has_goal ts i (omega arith)

pub same_goal : (ts : List (List ℕ)) (i : ℕ) (goal read : List ℕ) → i < length ts → read ≡ get_or ts i read → slice_get ts i ≡ Some goal → read ≡ goal
same_goal [] i goal read below is at = absurd (omega arith)
same_goal (t ∷ ts) zero goal read below is at = let e : t ≡ goal = cc in is ∙ e
same_goal (t ∷ ts) (suc i) goal read below is at = same_goal ts i goal read (omega arith) is at

pub goal_among : (ts : List (List ℕ)) (i : ℕ) (goal : List ℕ) → slice_get ts i ≡ Some goal → Among ts goal
goal_among [] i goal at = cc
goal_among (t ∷ ts) zero goal at = inl (let e : t ≡ goal = cc in sym e)
goal_among (t ∷ ts) (suc i) goal at = inr (goal_among ts i goal at)

pub ready_already : (b : Book) (ts : List (List ℕ)) (goal read : List ℕ) (seen : Seen) (path : Path) (done : Done) (r : Bool) → IsBetween b ts seen path done → read ≡ goal → r ≡ is_ready b done read → r ≡ true → Reached b ts goal seen path done done
ready_already b ts goal read seen path done r between same is found = record {
  between = between;
  more = λ k h. h;
  known = ready_is b done goal (rw (← same) (sym is ∙ found));
}

pub first_refused : (b : Book) (ts : List (List ℕ)) (goal read : List ℕ) (i : ℕ) (seen seen' : Seen) (path path' : Path) (done done' : Done) (stop : Stop) → slice_get ts i ≡ Some goal → IsBetween b ts seen path done → read ≡ goal → is_ready b done read ≡ false → Enters b seen seen' path path' read (Err stop) → Reaching b ts goal seen' path' done done' (Err stop)
first_refused b ts goal read i seen seen' path path' done done' NoMemory at between same none enters = tt
first_refused b ts goal read i seen seen' path path' done done' MetDynamic at between same none enters = dynamic_first b ts goal (goal_among ts i goal at) (rw same at enters)
first_refused b ts goal read i seen seen' path path' done done' (Refused reason) at between same none enters =
    refused_first b ts goal seen done reason (between.walk goal) (rw (← same) none) (rw (between.empty, same) at enters)

pub first_turning : (b : Book) (ts : List (List ℕ)) (goal read : List ℕ) (i : ℕ) (seen seen' : Seen) (path path' : Path) (done done' : Done) → slice_get ts i ≡ Some goal → IsBetween b ts seen path done → read ≡ goal → Entered b seen seen' path path' read → done' ≡ done → IsTurning b ts goal seen' path' done done'
first_turning b ts goal read i seen seen' path path' done done' at between same e kept =
    rw kept (first_entered b ts goal seen seen' path' done (goal_among ts i goal at) (between.walk goal) (rw (between.empty, same) at e))

pub newest_stands : (b : Book) (ts : List (List ℕ)) (goal : List ℕ) (seen : Seen) (path rest : Path) (start done : Done) (f : Frame) → path ≡ f ∷ rest → IsTurning b ts goal seen path start done → Stands b done f
newest_stands b ts goal seen path rest start done f is t = (rw is at t.walk.stand).0

pub later_refused : (b : Book) (ts : List (List ℕ)) (goal : List ℕ) (i : ℕ) (seen seen' : Seen) (path rest path' : Path) (start done done' : Done) (f : Frame) (stop : Stop) → slice_get ts i ≡ Some goal → path ≡ f ∷ rest → IsTurning b ts goal seen path start done → Turns b seen seen' rest path' done done' f (Err stop) → Reaching b ts goal seen' path' start done' (Err stop)
later_refused b ts goal i seen seen' path rest path' start done done' f NoMemory at is t turns = tt
later_refused b ts goal i seen seen' path rest path' start done done' f MetDynamic at is t turns =
    dynamic_later b ts goal seen rest done f turns.0 turns.1 (goal_among ts i goal at) (rw is at t.walk) turns.2 turns.3
later_refused b ts goal i seen seen' path rest path' start done done' f (Refused reason) at is t turns =
    refused_later b ts goal seen rest done f turns.0 turns.1 reason (rw is at t.walk) turns.2 turns.3

pub later_turning : (b : Book) (ts : List (List ℕ)) (goal : List ℕ) (seen seen' : Seen) (path rest path' : Path) (start done done' : Done) (f : Frame) → path ≡ f ∷ rest → IsTurning b ts goal seen path start done → Turned b seen seen' rest path' done done' f → IsTurning b ts goal seen' path' start done'
later_turning b ts goal seen seen' path rest path' start done done' f is t turns =
    turned b ts goal seen seen' rest path' start done done' f (rw is at t) turns

pub newest_tells : (b : Book) (ts : List (List ℕ)) (goal : List ℕ) (seen : Seen) (path : Path) (start done : Done) → IsTurning b ts goal seen path start done → Tells b seen done
newest_tells b ts goal seen path start done t = tells b ts goal seen path done t.walk

pub later_smaller : (b : Book) (ts : List (List ℕ)) (goal : List ℕ) (seen seen' : Seen) (path rest path' : Path) (start done done' : Done) (f : Frame) → path ≡ f ∷ rest → IsTurning b ts goal seen path start done → Turned b seen seen' rest path' done done' f → left b path' done' < left b path done
later_smaller b ts goal seen seen' path rest path' start done done' f is t turns = rw is (turn_smaller b ts goal seen seen' rest path' done done' f (rw is at t.walk) turns)
