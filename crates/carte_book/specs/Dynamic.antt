-- Rules whose references can't be told before they are worked out, and the paths that lead to them.
use Rattle.std.specs.Prelude.{ℕ, ◌≡◌, ◌⊎◌, true, false, List, [], ◌∷◌, length, Some}
use Rattle.std.specs.Ordering.{nat_cmp}
use Rattle.std.specs.declared.cmp.Ordering.{Ordering}
use Rattle.std.specs.declared.cmp.Ordering.TheVariants.{Less, Equal, Greater}
use Rattle.std.specs.Cmp.Lexicographic.{slice_cmp}
use Rattle.carte_name.specs.Names.{name_cmp}
use Rattle.carte_value.specs.Truths.{Among}
use Rattle.carte_tree.specs.Tree.{Tree}
use Rattle.carte_tree.specs.Formula.{refs_of, is_static_tree}
use Rattle.carte_book.specs.Book.{rule, Book, content}
use Rattle.carte_book.specs.Needs.{needs_of}
use Rattle.carte_book.specs.Reason.{AllClean, IsReason}
use Rattle.carte_book.specs.declared.reason.Reason.{Reason}
use Rattle.carte_book.specs.declared.reason.Reason.TheVariants.{Cycle, Missing, Dynamic}

-- the written references of a rule; an input has none
abbrev pub refs : Book → List ℕ → List (List ℕ)
refs b k = needs_of (content b k) refs_of

abbrev pub IsStaticRule : Book → List ℕ → Type 0
IsStaticRule b k = (e : Tree) × (content b k ≡ Some (rule e)) × (is_static_tree e ≡ true)

abbrev pub IsDynamicRule : Book → List ℕ → Type 0
IsDynamicRule b k = (e : Tree) × (content b k ≡ Some (rule e)) × (is_static_tree e ≡ false)

-- each next name is a written reference of the one before; all but the last are static rules, and the last is a dynamic rule
abbrev pub LeadsToDynamic : Book → List (List ℕ) → Type 0
LeadsToDynamic b [] = ⊥
LeadsToDynamic b (k ∷ []) = IsDynamicRule b k
LeadsToDynamic b (k ∷ j ∷ ks) = IsStaticRule b k × Among (refs b k) j × LeadsToDynamic b (j ∷ ks)

-- such a path from a target
abbrev pub IsDynamicPath : Book → List (List ℕ) → List (List ℕ) → Type 0
IsDynamicPath b targets [] = ⊥
IsDynamicPath b targets (k ∷ ks) = Among targets k × LeadsToDynamic b (k ∷ ks)

abbrev pub NoDynamicPath : Book → List (List ℕ) → Type 0
NoDynamicPath b targets = (path : List (List ℕ)) → ¬ (IsDynamicPath b targets path)

abbrev pub or_then : Ordering → Ordering → Ordering
or_then Less o = Less
or_then Equal o = o
or_then Greater o = Greater

-- a shorter path comes first, and of equally long ones the first in byte order, name by name
abbrev pub path_cmp : List (List ℕ) → List (List ℕ) → Ordering
path_cmp p q = or_then (nat_cmp (length p) (length q)) (slice_cmp name_cmp p q)

-- no such path comes before it
pub record IsFirstDynamicPath (b : Book) (targets path : List (List ℕ)) : Type 0 where
  pub is_path : IsDynamicPath b targets path
  pub first : (other : List (List ℕ)) → IsDynamicPath b targets other → ¬ (path_cmp other path ≡ Less)

-- why a build is refused that orders its rules before it works any out: first of all for a dynamic rule
abbrev pub IsOrderReason : Book → List (List ℕ) → Reason → Type 0
IsOrderReason b targets (Dynamic path) = IsFirstDynamicPath b targets path
IsOrderReason b targets (Cycle path) = NoDynamicPath b targets × IsReason b targets (Cycle path)
IsOrderReason b targets (Missing path) = NoDynamicPath b targets × IsReason b targets (Missing path)

-- targets lead to no dynamic rule and have clean values, or there is such a reason why not
abbrev pub OrderCleanOrReason : Book → List (List ℕ) → Type 0
OrderCleanOrReason b targets = (NoDynamicPath b targets × AllClean b targets) ⊎ ((reason : Reason) × IsOrderReason b targets reason)
