-- What a key that is right brings: its trace and its entry are those of the book.
use Rattle.std.proofs.Common.{◌≡◌, ℕ, Bool, true, false, not, ◌&&◌, ◌||◌, cond, List, Option, Some, None, refl, ap, sym, ◌∙◌, subst}
use Rattle.carte_value.specs.declared.digest.Digest.{Digest}
use Rattle.carte_effect.specs.declared.outcome.Made.{Made}
use Rattle.carte_effect.specs.declared.outcome.Made.TheVariants.{Ran, Reused}
use Rattle.carte_effect.specs.Jobs.{outcome_of}
use Rattle.carte_book.specs.Book.{Book, clean}
use Rattle.carte_book.specs.Needs.{needs}
use Rattle.carte_book.specs.Task.{task_now}
use Rattle.carte_book.proofs.Tasks.{task_of_rule}
use Rattle.carte_record.specs.declared.entry.Entry.{Entry}
use Rattle.carte_record.specs.declared.way.Way.{Way}
use Rattle.carte_record.specs.declared.way.Way.TheVariants.{Verifying, Constructive, Deep}
use Rattle.carte_record.specs.Kept.{SomeKept, is_fresh}
use Rattle.carte_sound.specs.Base.{AllNow}
use Rattle.carte_sound.specs.Beneath.{beneath, rules_beneath}
use Rattle.carte_sound.specs.Held.{How, dirty, tracing, gathers}
use Rattle.carte_sound.specs.Left.{entry_left, entry_eq, fresh_or, is_kept, is_way}
use Rattle.carte_sound.specs.Marks.{IsFresh}
use Rattle.carte_sound.specs.True.{digest_or, or_none, links_to, tasks_of, needs_trace, deep_trace, trace_of, full_entry, shallow_entry}
use Rattle.carte_sound.proofs.Tests.{fresh_parts}
use Rattle.carte_note.specs.declared.finished.Finished.{Finished}
use Rattle.carte_note.specs.Methods.{is_dirty}
use Rattle.carte_note.specs.Right.{IsRightFinished, Came, has_run}
use Rattle.carte_note.specs.Writes.{links_noted, names_in, digest_made, task_made, needs_noted, deep_noted, trace_noted, entry_noted, stays_as}
use Rattle.carte_note.proofs.Seeing.{names_linked}

entry_by : List ℕ → Digest → Digest → List (List ℕ) → Bool → Entry
entry_by k t d ks s = record { key = k; task = t; result = d; needs = ks; stale = false; shallow = s }

-- an entry by its parts
full_by : (e : Entry) (b : Book) (k : List ℕ) → e.key ≡ k → e.task ≡ or_none (task_now b k) → e.result ≡ digest_or (clean b k) → e.needs ≡ needs b k → e.stale ≡ false → e.shallow ≡ false → e ≡ full_entry b k
full_by e b k key task result needed stale shallow i = record { key = key i; task = task i; result = result i; needs = needed i; stale = stale i; shallow = shallow i }

module _ (h : How) (K : SomeKept) (b : Book) (k : List ℕ) (f : Finished) (right : IsRightFinished h K b k f) where
  digest_right : digest_made f ≡ digest_or (clean b k)
  digest_right = sym (ap digest_or right.made.value)

  task_right : task_made b f ≡ or_none (task_now b k)
  task_right = ap (λ q. or_none (task_now b q)) right.made.key

  entry_is : (ks : List (List ℕ)) → links_noted h f ≡ links_to (clean b) ks → entry_noted h (task_made b f) f ≡ entry_by k (or_none (task_now b k)) (digest_or (clean b k)) ks (gathers h)
  unfolding entry_by
  entry_is ks links i = record { key = right.made.key i; task = task_right i; result = digest_right i; needs = (ap names_in links ∙ names_linked b ks) i; stale = false; shallow = gathers h }

  needs_is : (outcome_of f.made).links ≡ links_to (clean b) (needs b k) → needs_noted (task_made b f) f ≡ needs_trace b k
  needs_is links i = record { key = right.made.key i; task = task_right i; links = links i; result = digest_right i }

  deep_is : f.tasks ≡ tasks_of b (rules_beneath b k) → f.beneath ≡ links_to (clean b) (beneath b k) → deep_noted f ≡ deep_trace b k
  deep_is tasks links i = record { key = right.made.key i; tasks = tasks i; links = links i; result = digest_right i }

ran_links : (h : How) (K : SomeKept) (b : Book) (k : List ℕ) (m : Made) → Came h K b k m → has_run m ≡ true → (outcome_of m).links ≡ links_to (clean b) (needs b k)
ran_links h K b k (Ran o) came is = came.1
ran_links h K b k (Reused o) came is = cc

-- a made key links its needs, but where it is held by marks or by what is beneath it
made_links : (w : Way) (K : SomeKept) (b : Book) (k : List ℕ) (m : Made) → gathers (tracing w) ≡ false → Came (tracing w) K b k m → (outcome_of m).links ≡ links_to (clean b) (needs b k)
made_links w K b k (Ran o) apart came = came.1
made_links Verifying K b k (Reused o) apart came = came.1
made_links Constructive K b k (Reused o) apart came = came.1
made_links Deep K b k (Reused o) apart came = cc

-- the trace of a key that ran
pub trace_right : (h : How) (w : Way) (K : SomeKept) (b : Book) (k : List ℕ) (f : Finished) → IsRightFinished h K b k f → has_run f.made ≡ true → is_way h w ≡ true → trace_noted w (task_made b f) f ≡ trace_of w b k
trace_right dirty w K b k f right ran is = cc
trace_right (tracing Verifying) Verifying K b k f right ran is = needs_is (tracing Verifying) K b k f right (made_links Verifying K b k f.made refl right.made.came)
trace_right (tracing Verifying) Constructive K b k f right ran is = cc
trace_right (tracing Verifying) Deep K b k f right ran is = cc
trace_right (tracing Constructive) Verifying K b k f right ran is = cc
trace_right (tracing Constructive) Constructive K b k f right ran is = needs_is (tracing Constructive) K b k f right (made_links Constructive K b k f.made refl right.made.came)
trace_right (tracing Constructive) Deep K b k f right ran is = cc
trace_right (tracing Deep) Verifying K b k f right ran is = cc
trace_right (tracing Deep) Constructive K b k f right ran is = cc
trace_right (tracing Deep) Deep K b k f right ran is = deep_is (tracing Deep) K b k f right right.tasks right.beneath

-- the entry that is left is what is to be written, or it is kept and stays
pub data Leaves (h : How) (K : SomeKept) (b : Book) (k : List ℕ) (f : Finished) (o : Option Entry) (stay : Bool) (e : Entry) : Type 0 where
  kept : stay ≡ true → o ≡ Some e → Leaves h K b k f o stay e
  written : stay ≡ is_kept o e → entry_noted h (task_made b f) f ≡ e → e.key ≡ k → links_noted h f ≡ links_to (clean b) e.needs → Leaves h K b k f o stay e

shallow_tests : (h : How) (o : Option Entry) (e : Entry) → gathers h ≡ false → stays_as h o e ≡ is_kept o e
shallow_tests h None e not_deep = refl
shallow_tests h (Some x) e not_deep = ap (λ t. (t && is_fresh x) || entry_eq x e) not_deep

-- the kept entry of a held key is the full one
held_full : (K : SomeKept) (b : Book) (k : List ℕ) → AllNow K b → (p : IsFresh K k) → K.entries k ≡ Some (full_entry b k)
held_full K b k now p =
    let n = now k p.entry p.kept p.fresh in
    let fresh = fresh_parts p.entry p.fresh in
    p.kept ∙ ap Some (full_by p.entry b k n.key (n.task ∙ sym (ap or_none (task_of_rule b k n.formula n.is_rule))) (n.result ∙ sym (ap digest_or n.clean)) n.needs fresh.0 fresh.1)

by_dirty : (K : SomeKept) (b : Book) (k : List ℕ) (f : Finished) (o : Option Entry) → AllNow K b → K.entries k ≡ o → IsRightFinished dirty K b k f → (m : Made) → f.made ≡ m → Came dirty K b k m → Leaves dirty K b k f o (not (has_run f.made) || stays_as dirty o (entry_noted dirty (task_made b f) f)) (full_entry b k)
unfolding entry_by
by_dirty K b k f o now at right (Ran r) is came =
    let links : links_noted dirty f ≡ links_to (clean b) (needs b k) = ran_links dirty K b k f.made right.made.came (ap has_run is) in
    let equal : entry_noted dirty (task_made b f) f ≡ full_entry b k = entry_is dirty K b k f right (needs b k) links in
    written (ap (λ t. not t || stays_as dirty o (entry_noted dirty (task_made b f) f)) (ap has_run is) ∙ (shallow_tests dirty o (entry_noted dirty (task_made b f) f) refl ∙ ap (is_kept o) equal)) equal refl links
by_dirty K b k f o now at right (Reused r) is came = kept (ap (λ t. not t || stays_as dirty o (entry_noted dirty (task_made b f) f)) (ap has_run is)) (sym at ∙ held_full K b k now came.0)

by_needs : (w : Way) (K : SomeKept) (b : Book) (k : List ℕ) (f : Finished) (o : Option Entry) → gathers (tracing w) ≡ false → IsRightFinished (tracing w) K b k f → Leaves (tracing w) K b k f o (stays_as (tracing w) o (entry_noted (tracing w) (task_made b f) f)) (full_entry b k)
unfolding entry_by
by_needs w K b k f o not_deep right =
    let links : links_noted (tracing w) f ≡ links_to (clean b) (needs b k) = ap (λ t. cond t f.beneath (outcome_of f.made).links) not_deep ∙ made_links w K b k f.made not_deep right.made.came in
    let equal : entry_noted (tracing w) (task_made b f) f ≡ full_entry b k = entry_is (tracing w) K b k f right (needs b k) links ∙ ap (entry_by k (or_none (task_now b k)) (digest_or (clean b k)) (needs b k)) not_deep in
    written (shallow_tests (tracing w) o (entry_noted (tracing w) (task_made b f) f) not_deep ∙ ap (is_kept o) equal) equal refl links

by_inputs : (K : SomeKept) (b : Book) (k : List ℕ) (f : Finished) (o : Option Entry) → IsRightFinished (tracing Deep) K b k f → Leaves (tracing Deep) K b k f o (stays_as (tracing Deep) o (entry_noted (tracing Deep) (task_made b f) f)) (fresh_or o (shallow_entry b k))
unfolding entry_by
by_inputs K b k f o right = on o
  where
    equal : entry_noted (tracing Deep) (task_made b f) f ≡ shallow_entry b k
    equal = entry_is (tracing Deep) K b k f right (beneath b k) right.beneath

    choose : (x : Entry) (t : Bool) → is_fresh x ≡ t → Leaves (tracing Deep) K b k f (Some x) (t || entry_eq x (entry_noted (tracing Deep) (task_made b f) f)) (cond t x (shallow_entry b k))
    choose x true is = kept refl refl
    choose x false is = written (ap (entry_eq x) equal) equal refl right.beneath

    on : (o : Option Entry) → Leaves (tracing Deep) K b k f o (stays_as (tracing Deep) o (entry_noted (tracing Deep) (task_made b f) f)) (fresh_or o (shallow_entry b k))
    on None = written refl equal refl right.beneath
    on (Some x) = choose x (is_fresh x) refl

-- of the key as it is kept
pub leaves : (h : How) (K L : SomeKept) (b : Book) (k : List ℕ) (f : Finished) (o : Option Entry) → AllNow K b → K.entries k ≡ o → L.entries k ≡ o → IsRightFinished h K b k f → Leaves h K b k f o ((is_dirty h && not (has_run f.made)) || stays_as h o (entry_noted h (task_made b f) f)) (entry_left h L b k)
leaves dirty K L b k f o now at same right = by_dirty K b k f o now at right f.made refl right.made.came
leaves (tracing Verifying) K L b k f o now at same right = by_needs Verifying K b k f o refl right
leaves (tracing Constructive) K L b k f o now at same right = by_needs Constructive K b k f o refl right
leaves (tracing Deep) K L b k f o now at same right = subst (λ x. Leaves (tracing Deep) K b k f o (stays_as (tracing Deep) o (entry_noted (tracing Deep) (task_made b f) f)) (fresh_or x (shallow_entry b k))) (sym same) (by_inputs K b k f o right)
