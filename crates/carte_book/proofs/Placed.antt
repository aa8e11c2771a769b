-- What stands at a place of a book, and what is written there.
use Rattle.std.proofs.Common.{◌≡◌, ℕ, zero, suc, List, [], ◌∷◌, Option, Some, option_map, slice_get, refl, ap, sym, ◌∙◌}
use Rattle.std.specs.Map.{values_of}
use Rattle.indexmap.specs.IndexMap.{set_value_at}
use Rattle.carte_name.specs.declared.kind.Kind.{Kind}
use Rattle.carte_book.specs.declared.book.Item.{Item as CodeItem}
use Rattle.carte_book.specs.declared.book.Item.TheVariants.{Input as InputItem, Rule as RuleItem}
use Rattle.carte_book.specs.Book.{item_view, entries_view}
use Rattle.carte_book.specs.Fits.{FitsItem, Fits}
use Rattle.carte_book.specs.Task.{task_held, task_in}
use Rattle.carte_book.proofs.Fitting.{Entries}

-- what stands at a place fits
pub fits_at : (q : Kind) (es : Entries) (at : ℕ) (x : CodeItem) → Fits q es → slice_get (values_of es) at ≡ Some x → FitsItem q x
fits_at q [] at x all is = cc
fits_at q (e ∷ es) zero x all is = let same : e.1 ≡ x = cc in rw same at all.0.1
fits_at q (e ∷ es) (suc at) x all is = fits_at q es at x all.1 is

-- what is written at a place fits
pub fits_set_at : (q : Kind) (es : Entries) (at : ℕ) (x : CodeItem) → FitsItem q x → Fits q es → Fits q (set_value_at es at x)
fits_set_at q [] at x fits all = tt
fits_set_at q (e ∷ es) zero x fits all = ((all.0.0, fits), all.1)
fits_set_at q (e ∷ es) (suc at) x fits all = (all.0, fits_set_at q es at x fits all.1)

-- and isn't seen, where it stands for what was there
pub view_set_at : (es : Entries) (at : ℕ) (x y : CodeItem) → slice_get (values_of es) at ≡ Some x → item_view y ≡ item_view x → entries_view (set_value_at es at y) ≡ entries_view es
view_set_at [] at x y is same = refl
view_set_at (e ∷ es) zero x y is same = let here : e.1 ≡ x = cc in ap (λ v. (e.0, v) ∷ entries_view es) (same ∙ ap item_view (sym here))
view_set_at (e ∷ es) (suc at) x y is same = ap (λ vs. (e.0, item_view e.1) ∷ vs) (view_set_at es at x y is same)

-- the task of what stands at a place is seen
held_seen : (q : Kind) (x : CodeItem) → task_held q (Some x) ≡ task_in q (Some (item_view x))
held_seen q (InputItem v) = refl
held_seen q (RuleItem r) = refl

placed_seen : (q : Kind) (es : Entries) (at : ℕ) → task_held q (slice_get (values_of es) at) ≡ task_in q (slice_get (values_of (entries_view es)) at)
placed_seen q [] at = refl
placed_seen q (e ∷ es) zero = held_seen q e.1
placed_seen q (e ∷ es) (suc at) = placed_seen q es at

-- so it stays where what is seen does
pub tasks_seen : (q : Kind) (es fs : Entries) (at : ℕ) → entries_view fs ≡ entries_view es → task_held q (slice_get (values_of fs) at) ≡ task_held q (slice_get (values_of es) at)
tasks_seen q es fs at same = placed_seen q fs at ∙ ap (λ vs. task_in q (slice_get (values_of vs) at)) same ∙ sym (placed_seen q es at)

value_there : (es : Entries) (at : ℕ) → slice_get (values_of es) at ≡ option_map (λ e. e.1) (slice_get es at)
value_there [] at = refl
value_there (e ∷ es) zero = refl
value_there (e ∷ es) (suc at) = value_there es at

-- the task of what is found at a place
pub task_there : (q : Kind) (es : Entries) (at : ℕ) (o : Option (List ℕ × CodeItem)) → o ≡ slice_get es at → task_held q (option_map (λ e. e.1) o) ≡ task_held q (slice_get (values_of es) at)
task_there q es at o is = ap (λ i. task_held q (option_map (λ e. e.1) i)) is ∙ ap (task_held q) (sym (value_there es at))
