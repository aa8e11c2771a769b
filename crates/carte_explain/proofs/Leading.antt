-- A key that is changed or leads to a changed name has a path to one, and such a path ends in one.
use Rattle.std.proofs.Common.{◌≡◌, ◌∙◌, ℕ, ◌-◌, suc, List, [], ◌∷◌, length, Some, refl, ap, subst, sym, inl, inr, arith}
use Rattle.std.specs.Prelude.{slice_get}
use Rattle.carte_value.specs.Truths.{Among}
use Rattle.carte_book.specs.Book.{Book}
use Rattle.carte_record.specs.declared.entry.Entry.{Entry}
use Rattle.carte_record.specs.Kept.{SomeKept}
use Rattle.carte_search.specs.Paths.{IsPath, LeadsToGoal, NoPath}
use Rattle.carte_sound.specs.Marks.{Comes, IsChanged, IsMarked, Leads}
use Rattle.carte_sound.specs.Marks as marks
use Rattle.carte_explain.specs.Paths.{EndsIn, end_of, needs_at, needs_in}

among_needs : (K : SomeKept) (k j : List ℕ) (e : Entry) → K.entries k ≡ Some e → Among e.needs j → Among (needs_at K k) j
among_needs K k j e is among = subst (λ o. Among (needs_in o) j) (sym is) among

path_of : (K : SomeKept) (b : Book) {k j : List ℕ} → Leads K k j → IsChanged K b j → (rest : List (List ℕ)) × LeadsToGoal (needs_at K) (IsChanged K b) (k ∷ rest)
path_of K b (marks.Leads.need {k = k} {j = j} e is among) changed = (j ∷ [], (among_needs K k j e is among, changed))
path_of K b (marks.Leads.on {k = k} {i = i} e is among later) changed =
    let p = path_of K b later changed in (i ∷ p.0, (among_needs K k i e is among, p.1))

come_to : (K : SomeKept) (b : Book) (k j : List ℕ) → Comes K k j → IsChanged K b j → (rest : List (List ℕ)) × LeadsToGoal (needs_at K) (IsChanged K b) (k ∷ rest)
come_to K b k j (inl same) changed = ([], subst (IsChanged K b) same changed)
come_to K b k j (inr leads) changed = path_of K b leads changed

pub no_change : (K : SomeKept) (b : Book) (k : List ℕ) → NoPath (needs_at K) (IsChanged K b) (k ∷ []) → IsMarked K b k → ⊥
no_change K b k nothing m = let p = come_to K b k m.name m.leads m.changed in nothing (k ∷ p.0) (inl refl, p.1)

-- ---- the end of a path

less_one : (n : ℕ) → suc n - 1 ≡ n
less_one n = omega arith

same_end : (k j : List ℕ) (ks : List (List ℕ)) → end_of (k ∷ j ∷ ks) ≡ end_of (j ∷ ks)
same_end k j ks = ap (slice_get (k ∷ j ∷ ks)) (less_one (suc (length ks))) ∙ ap (slice_get (j ∷ ks)) (sym (less_one (length ks)))

goal_ends : (nexts : List ℕ → List (List ℕ)) (IsGoal : List ℕ → Type 0) (path : List (List ℕ)) → LeadsToGoal nexts IsGoal path → EndsIn IsGoal path
goal_ends nexts IsGoal [] leads = absurd leads
goal_ends nexts IsGoal (k ∷ []) goal = (k, refl, goal)
goal_ends nexts IsGoal (k ∷ j ∷ ks) leads = let e = goal_ends nexts IsGoal (j ∷ ks) leads.1 in (e.0, same_end k j ks ∙ e.1, e.2)

pub path_ends : (nexts : List ℕ → List (List ℕ)) (IsGoal : List ℕ → Type 0) (starts path : List (List ℕ)) → IsPath nexts IsGoal starts path → EndsIn IsGoal path
path_ends nexts IsGoal starts [] is_path = absurd is_path
path_ends nexts IsGoal starts (k ∷ ks) is_path = goal_ends nexts IsGoal (k ∷ ks) is_path.1
