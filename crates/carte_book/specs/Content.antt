-- Books, and the clean values of their names, apart from how a book stands in memory.
use Rattle.std.specs.Prelude.{ℕ, zero, suc, ◌+◌, List, [], ◌∷◌, length, map, Option, Some, None, if◌then◌else◌}
use Rattle.std.specs.Arc.{arc_value}
use Rattle.std.specs.Result.{result_ok}
use Rattle.std.specs.FinMap.{FinMap, get, entries}
use Rattle.carte_name.specs.declared.kind.Kind.{Kind}
use Rattle.carte_name.specs.declared.kind.Kind.TheVariants.{Rules, Sheet}
use Rattle.carte_value.specs.declared.value.Value.{Value}
use Rattle.carte_value.specs.declared.value.Value.TheVariants.{Empty}
use Rattle.carte_name.specs.Names.{name_cmp, is_cell_name}
use Rattle.carte_value.specs.Truths.{Truth}
use Rattle.carte_tree.specs.Tree.{Tree}
use Rattle.carte_tree.specs.Code.{tree_of}
use Rattle.carte_tree.specs.Meaning.{eval}
use Rattle.carte_book.specs.declared.book.Rule.{Rule as CodeRule}
use Rattle.carte_book.specs.declared.book.Item.{Item as CodeItem}
use Rattle.carte_book.specs.declared.book.Item.TheVariants.{Input as InputItem, Rule as RuleItem}

-- what stands at a name
pub data Item : Type 0 where
  input : Value → Item
  rule : Tree → Item

pub record Book : Type 0 where
  pub kind : Kind
  pub items : FinMap name_cmp Item

-- what a name has that the book doesn't hold: in a sheet each other cell is empty
abbrev pub default_of : Kind → List ℕ → Option Item
default_of Rules k = None
default_of Sheet k = if is_cell_name k then Some (input Empty) else None

abbrev pub or_default : Option Item → Option Item → Option Item
or_default (Some x) d = Some x
or_default None d = d

-- what a name has, if something: the only way into a book
abbrev pub content : Book → List ℕ → Option Item
content b k = or_default (get b.items k) (default_of b.kind k)

-- inputs have their values, and rules what f gives
abbrev pub valued : Option Item → (Tree → Option Value) → Option Value
valued None f = None
valued (Some (input v)) f = Some v
valued (Some (rule e)) f = f e

-- one round: rules have the values that their formulas have over a truth
abbrev pub settled : Book → Truth → Truth
settled b t k = valued (content b k) (λ e. result_ok (eval b.kind t e))

-- the values after so many rounds, the first of which finds no rule's value
abbrev pub val : Book → ℕ → Truth
val b zero k = valued (content b k) (λ e. None)
val b (suc n) k = settled b (val b n) k

abbrev pub rules_among : List (List ℕ × Item) → List (List ℕ × Tree)
rules_among [] = []
rules_among ((k, input v) ∷ es) = rules_among es
rules_among ((k, rule e) ∷ es) = (k, e) ∷ rules_among es

-- the rules, in name order
abbrev pub rules_of : Book → List (List ℕ × Tree)
rules_of b = rules_among (entries b.items)

-- the clean values: those after as many rounds as there are rules, and one more
abbrev pub clean : Book → Truth
clean b = val b (length (rules_of b) + 1)

-- the formula of a rule that stands in memory
abbrev pub formula_of : CodeRule → Tree
formula_of r = tree_of (arc_value r.formula)

-- the items that stand in memory
abbrev pub item_view : CodeItem → Item
item_view (InputItem v) = input v
item_view (RuleItem r) = rule (formula_of r)

abbrev pub entries_view : List (List ℕ × CodeItem) → List (List ℕ × Item)
entries_view es = map (λ e. (e.0, item_view e.1)) es
