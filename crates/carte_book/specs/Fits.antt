-- What may stand in a book of a kind.
use Rattle.std.specs.Prelude.{ℕ, ◌≡◌, List, Some, ⊤, IsTrue}
use Rattle.std.specs.List.{AllByRecursion, AllByRecursion-prop}
use Rattle.std.specs.Coded.{Coded-set, ×_prop, Unit-prop}
use Rattle.carte_name.specs.declared.kind.Kind.{Kind}
use Rattle.carte_name.specs.Kinds.{is_name_of}
use Rattle.carte_value.specs.declared.digest.Digest.{Digest}
use Rattle.carte_value.specs.contracts.digest.Digest as digests
use Rattle.carte_tree.specs.Formula.{IsExpr, HasNames}
use Rattle.carte_book.specs.Alike.{truth_alike, expr_alike, names_alike}
use Rattle.carte_book.specs.Content.{formula_of}
use Rattle.carte_book.specs.Task.{task_digest_of}
use Rattle.carte_book.specs.declared.book.Rule.{Rule as CodeRule}
use Rattle.carte_book.specs.declared.book.Item.{Item as CodeItem}
use Rattle.carte_book.specs.declared.book.Item.TheVariants.{Input as InputItem, Rule as RuleItem}

-- where a digest is known, it is that of the rule's task
abbrev pub KnowsTask : Kind → CodeRule → Type 0
KnowsTask q r = (d : Digest) → r.task ≡ Some d → d ≡ task_digest_of q (formula_of r)

-- a rule's formula as reading makes one, with names of the kind
abbrev pub FitsRule : Kind → CodeRule → Type 0
FitsRule q r = IsExpr (formula_of r) × HasNames q (formula_of r) × KnowsTask q r

-- an input, or such a rule
abbrev pub FitsItem : Kind → CodeItem → Type 0
FitsItem q (InputItem v) = ⊤
FitsItem q (RuleItem r) = FitsRule q r

-- the same at a name of the kind
abbrev pub FitsEntry : Kind → List ℕ × CodeItem → Type 0
FitsEntry q e = IsTrue (is_name_of q e.0) × FitsItem q e.1

abbrev pub Fits : Kind → List (List ℕ × CodeItem) → Type 0
Fits q es = AllByRecursion (FitsEntry q) es

task_alike : (q : Kind) (r : CodeRule) → IsProp (KnowsTask q r)
task_alike q r x y i d is = Coded-set (digests.the_row).coded d (task_digest_of q (formula_of r)) (x d is) (y d is) i

rule_alike : (q : Kind) (r : CodeRule) → IsProp (FitsRule q r)
rule_alike q r x y i = (expr_alike (formula_of r) x.0 y.0 i, names_alike q (formula_of r) x.1 y.1 i, task_alike q r x.2 y.2 i)

item_alike : (q : Kind) (x : CodeItem) → IsProp (FitsItem q x)
item_alike q (InputItem v) = Unit-prop
item_alike q (RuleItem r) = rule_alike q r

pub Fits-prop : (q : Kind) (es : List (List ℕ × CodeItem)) → IsProp (Fits q es)
Fits-prop q es = AllByRecursion-prop (FitsEntry q) (λ e. ×_prop (truth_alike (is_name_of q e.0)) (item_alike q e.1)) es
