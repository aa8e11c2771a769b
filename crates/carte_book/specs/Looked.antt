-- What a look-up answers.
use Rattle.std.specs.Prelude.{ℕ, ◌≡◌, ◌↔◌, List, Option, Some, None, true, false, ⊤, if◌then◌else◌}
use Rattle.std.specs.BTreeSet.{BTreeSet, contains}
use Rattle.std.specs.declared.sync.Arc.{Arc}
use Rattle.std.specs.Arc.{arc_value}
use Rattle.std.specs.Ordering.{eq_by_cmp}
use Rattle.carte_tree.specs.declared.expr.Expr.{Expr}
use Rattle.carte_tree.specs.Code.{tree_of}
use Rattle.carte_tree.specs.Formula.{IsExpr, HasNames}
use Rattle.carte_book.specs.declared.book.Item.{Item as CodeItem}
use Rattle.carte_book.specs.declared.book.Item.TheVariants.{Input as InputItem, Rule as RuleItem}
use Rattle.carte_name.specs.declared.kind.Kind.{Kind}
use Rattle.carte_name.specs.Kinds.{is_name_of}
use Rattle.carte_name.specs.Names.{name_cmp}
use Rattle.carte_book.specs.Book.{Item, input, rule, Book, content}
use Rattle.carte_book.specs.Needs.{IsRule}
use Rattle.carte_book.specs.declared.book.Looked.{Looked}
use Rattle.carte_book.specs.declared.book.Looked.TheVariants.{Input as FoundInput, Rule as FoundRule, None as FoundNone}

abbrev pub Answers : Option Item → Looked → Type 0
Answers o (FoundInput v) = o ≡ Some (input v.now)
Answers o (FoundRule e) = o ≡ Some (rule (tree_of e.now))
Answers o FoundNone = o ≡ None

-- a rule's formula is as reading makes one, and its names are of the kind
abbrev pub IsFormula : Kind → Looked → Type 0
IsFormula q (FoundInput v) = ⊤
IsFormula q (FoundRule e) = IsExpr (tree_of e.now) × HasNames q (tree_of e.now)
IsFormula q FoundNone = ⊤

-- it is the formula of the rule at the name, as reading makes one
abbrev pub IsFormulaAt : {Z : Type 0} → Book → List ℕ → Arc Expr Z → Type 0
IsFormulaAt b k e = (content b k ≡ Some (rule (tree_of (arc_value e)))) × IsExpr (tree_of (arc_value e))

-- a name of the other kind has nothing
abbrev pub HasNoOthers : Book → Type 0
HasNoOthers b = (k : List ℕ) → is_name_of b.kind k ≡ false → content b k ≡ None

-- the set has the names of all rules, and no other
abbrev pub HasRules : Book → BTreeSet (List ℕ) → Type 0
HasRules b names = (k : List ℕ) → (contains name_cmp names k ≡ true) ↔ IsRule b k

-- a rule's name was put into the set
abbrev pub AddsRule : BTreeSet (List ℕ) → BTreeSet (List ℕ) → List ℕ → CodeItem → Type 0
AddsRule old new k (InputItem v) = (q : List ℕ) → contains name_cmp new q ≡ contains name_cmp old q
AddsRule old new k (RuleItem r) = (q : List ℕ) → contains name_cmp new q ≡ (if eq_by_cmp name_cmp k q then true else contains name_cmp old q)
