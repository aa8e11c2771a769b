-- Those names of a set that are to be marked, or have another property.
use Rattle.std.specs.Prelude.{ℕ, ◌≡◌, ◌↔◌, ◌⊎◌, ◌++◌, ◌∷◌, [], ◌&&◌, Bool, true, false, List, Some, if◌then◌else◌}
use Rattle.std.specs.BTreeSet.{BTreeSet, contains}
use Rattle.std.specs.Ordering.{eq_by_cmp}
use Rattle.carte_name.specs.Names.{name_cmp}
use Rattle.carte_value.specs.Truths.{Among}
use Rattle.carte_record.specs.declared.entry.Entry.{Entry}
use Rattle.carte_record.specs.Lookups.{first_entry}

-- a name was put into the set where it passes
abbrev pub PutsIf : Bool → BTreeSet (List ℕ) → BTreeSet (List ℕ) → List ℕ → Type 0
PutsIf t old new k = (q : List ℕ) → contains name_cmp new q ≡ (if t && eq_by_cmp name_cmp k q then true else contains name_cmp old q)

-- there is an entry that isn't stale yet
pub record IsToMark (es : List Entry) (k : List ℕ) : Type 0 where
  pub entry : Entry
  pub kept : first_entry es k ≡ Some entry
  pub unmarked : entry.stale ≡ false

-- a name was put behind the others where it has the property
abbrev pub Pushes : (List ℕ → Type 0) → List (List ℕ) → List (List ℕ) → List ℕ → Type 0
Pushes P old new k = (P k × (new ≡ old ++ k ∷ [])) ⊎ ((¬ (P k)) × (new ≡ old))

-- exactly those before that have it
abbrev pub ArePicked : (List ℕ → Type 0) → List (List ℕ) → List (List ℕ) → Type 0
ArePicked P before ms = (k : List ℕ) → Among ms k ↔ (Among before k × P k)
