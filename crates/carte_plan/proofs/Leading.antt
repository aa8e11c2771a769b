-- The batch that a build begins with.
use Rattle.std.proofs.Common.{◌≡◌, ℕ, not, ◌&&◌, Bool, true, List, [], refl, ap, sym, ◌∙◌, subst, inl, inr}
use Rattle.std.specs.Prelude.{filter}
use Rattle.std.proofs.Math.Path.{fun_ext}
use Rattle.carte_record.specs.Empty.{is_empty}
use Rattle.carte_value.specs.Truths.{Among, NoneTwice}
use Rattle.carte_book.specs.Book.{Book}
use Rattle.carte_record.specs.declared.batch.Batch.{Batch}
use Rattle.carte_record.specs.declared.way.Way.{Way}
use Rattle.carte_record.specs.declared.way.Way.TheVariants.{Verifying, Constructive, Deep}
use Rattle.carte_record.specs.Folds.{batch_traces, is_among}
use Rattle.carte_record.specs.Kept.{SomeKept, traces_in}
use Rattle.carte_table.proofs.Found.{or_none}
use Rattle.carte_sound.specs.Begun.{Beginning, begin}
use Rattle.carte_sound.specs.Carries.{Carries}
use Rattle.carte_sound.specs.Held.{How}
use Rattle.carte_sound.specs.LeadsTo.{marks_left}
use Rattle.carte_sound.specs.Left.{Finishes, keys_of}
use Rattle.carte_note.specs.declared.finished.Finished.{Finished}
use Rattle.carte_mark.specs.Puts.{put_all}
use Rattle.carte_mark.proofs.Putting.{put_only, put_there}
use Rattle.carte_plan.specs.Planned.{AreGiven, HasJust, IsBuilt, opening}
use Rattle.carte_plan.proofs.Lists.{empty_is, keys_same}
use Rattle.carte_plan.proofs.Orders.{tests_alike}

pub opened_is : (B : Batch) (gs hs ms ns : List (List ℕ)) → is_empty B ≡ true → gs ≡ hs → ms ≡ ns → record B { gone = gs; stale = ms } ≡ opening hs ns
opened_is B gs hs ms ns empty gone stale = ap (λ (C : Batch). record C { gone = gs; stale = ms }) (empty_is B empty) ∙ (ap (λ u. opening u ms) gone ∙ ap (opening hs) stale)

pub open_none : (gs ms : List (List ℕ)) (w : Way) → batch_traces w (opening gs ms) ≡ []
open_none gs ms Verifying = refl
open_none gs ms Constructive = refl
open_none gs ms Deep = refl

pub opening_carries : (b : Book) (M : SomeKept) (gs ms : List (List ℕ)) → Carries b M M (opening gs ms)
opening_carries b M gs ms = record {
  values = λ d. sym (or_none (M.stored d));
  values_lacked = λ d v is. cc;
  values_once = tt;
  seen = λ q. refl;
  seen_differs = λ q d is. cc;
  seen_present = λ q d is. cc;
  seen_once = tt;
  entries = λ q. refl;
  entries_differ = λ q e is. cc;
  entries_once = tt;
  traces = λ w q. sym (ap (λ ts. traces_in w q ts (M.traces w q)) (open_none gs ms w));
  chain = refl;
  chain_differs = λ ks is. cc;
}

pub given_by : (h : How) (done : SomeKept → List ℕ → Type 0) (K : SomeKept) (b : Book) (x : Beginning) (fs : List Finished) → IsBuilt h K b x (done (begin K x)) fs → AreGiven h (begin K x) b fs
given_by h done K b x fs built = record { now = built.now; right = built.right; once = subst NoneTwice (keys_same fs) built.order.once }

-- names that were put into an empty set
pub just_put : (ks js : List (List ℕ)) → ks ≡ put_all [] js → HasJust ks js
just_put ks js is k = (
  (λ among. elim (put_only [] js k (subst (λ ns. Among ns k) is among)) [
    | inl nowhere ↦ absurd nowhere
    | inr there ↦ there
  ]),
  (λ among. subst (λ ns. Among ns k) (sym is) (put_there [] js k among)),
)

-- marks are left alike by lists of the same dropped names
pub same_left : (fs : Finishes) (ms ks gs : List (List ℕ)) → HasJust ks gs → marks_left fs (record { marks = ms; gone = ks }) ≡ marks_left fs (record { marks = ms; gone = gs })
same_left fs ms ks gs same = ap (λ (f : List ℕ → Bool). filter (λ k. not (f k) && not (is_among (keys_of fs) k)) ms) (fun_ext (λ k. tests_alike ks gs k (same k).0 (same k).1))
