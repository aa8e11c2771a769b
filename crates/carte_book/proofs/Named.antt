-- What a rule looks up are names of its book's kind.
use Rattle.std.proofs.Common.{◌≡◌, ◌∙◌, ap, ℕ, Bool, true, false, cond, IsTrue, List, [], ◌∷◌, ◌++◌, option_map, Option, Some, None, Result, Ok, Err, refl, sym, inl, inr}
use Rattle.std.specs.HashMap as hash
use Rattle.carte_name.specs.declared.kind.Kind.{Kind}
use Rattle.carte_name.specs.declared.kind.Kind.TheVariants.{Rules, Sheet}
use Rattle.carte_value.specs.declared.value.Value.{Value}
use Rattle.carte_value.specs.declared.value.Value.TheVariants.{Empty, Number, Text, Bad}
use Rattle.carte_value.specs.declared.area.Area.{Area}
use Rattle.carte_value.specs.Areas.{IsArea, cells_of}
use Rattle.carte_value.specs.Asks.{Asks, done, ask, and_then, asked, asked_on}
use Rattle.carte_name.specs.Kinds.{is_name_of, is_text_of, name_of}
use Rattle.carte_name.specs.Names.{name_eq}
use Rattle.carte_value.specs.Truths.{Truth, Among}
use Rattle.carte_value.proofs.Firsts.{among_firsts}
use Rattle.carte_value.proofs.Sides.{cells_within}
use Rattle.carte_tree.specs.Applied.{condition, negated, applied}
use Rattle.carte_tree.specs.Functions.{called}
use Rattle.carte_tree.specs.Coercions.{both, each_as, text_of}
use Rattle.carte_tree.specs.Formula.{IsExpr, AreSteps, AreArgs, IsArg, HasNames, StepsNames, ArgsNames, ArgNames, has_ranges}
use Rattle.carte_tree.specs.Found.{named, or_no_name, name_in, names_in}
use Rattle.carte_tree.specs.Meaning.{asks, asks_steps, asks_args, asks_arg, asks_all, branched, looked_up, gathered, fetched}
use Rattle.carte_tree.specs.Texts.{lines, joined}
use Rattle.carte_tree.specs.Tree.{Tree, number, text, ref, neg, chain, call, Steps, no_step, step, Args, no_arg, arg, Arg, one, cells}
use Rattle.carte_tree.specs.declared.expr.Func.{Func}
use Rattle.carte_tree.specs.declared.expr.Func.TheVariants as f
use Rattle.carte_tree.specs.declared.expr.Level.{Level}
use Rattle.carte_book.specs.Book.{Item, input, rule, content, clean, formula_of, item_view, book_view}
use Rattle.carte_book.specs.Needs.{needs_of, NeedsAreNames}
use Rattle.carte_book.specs.declared.book.Book.{Book as CodeBook}
use Rattle.carte_book.specs.declared.book.Item.TheVariants.{Rule as RuleItem}
use Rattle.carte_book.proofs.Books.{item_found}
use Rattle.carte_book.proofs.Clean.{rule_held}
use Rattle.carte_book.proofs.Fitting.{found_fits}
use Rattle.carte_book.proofs.RuleNames.{rule_found}

-- each name that it may ask for is one of the kind, whatever is answered
abbrev AsksNames : {A : Type 0} → Kind → Asks A → Type 0
AsksNames q (done a) = Unit {0}
AsksNames q (ask k go) = IsTrue (is_name_of q k) × ((v : Value) → AsksNames q (go v))

then_named : {A B : Type 0} (q : Kind) (m : Asks A) (go : A → Asks B) → AsksNames q m → ((a : A) → AsksNames q (go a)) → AsksNames q (and_then m go)
then_named q (done a) go first then = then a
then_named q (ask k on) go first then = (first.0, λ v. then_named q (on v) go (first.1 v) then)

done_named : {A B : Type 0} (q : Kind) (m : Asks A) (go : A → B) → AsksNames q m → AsksNames q (and_then m (λ a. done (go a)))
done_named q (done a) go first = tt
done_named q (ask k on) go first = (first.0, λ v. done_named q (on v) go (first.1 v))

answer_named : (q : Kind) (o : Option Value) (go : Value → List (List ℕ)) (j : List ℕ) → ((v : Value) → Among (go v) j → IsTrue (is_name_of q j)) → Among (asked_on o go) j → IsTrue (is_name_of q j)
answer_named q None go j each here = absurd here
answer_named q (Some v) go j each here = each v here

asked_named : {A : Type 0} (q : Kind) (t : Truth) (m : Asks A) (j : List ℕ) → AsksNames q m → Among (asked t m) j → IsTrue (is_name_of q j)
asked_named q t (done a) j names here = absurd here
asked_named q t (ask k go) j names (inl is) = rw is names.0
asked_named q t (ask k go) j names (inr later) = answer_named q (t k) (λ v. asked t (go v)) j (λ v here. asked_named q t (go v) j (names.1 v) here) later

-- all names of a list are of the kind
abbrev AreNames : Kind → List (List ℕ) → Type 0
AreNames q [] = Unit {0}
AreNames q (k ∷ ks) = IsTrue (is_name_of q k) × AreNames q ks

all_named : (q : Kind) (ks : List (List ℕ)) → AreNames q ks → AsksNames q (asks_all ks)
all_named q [] names = tt
all_named q (k ∷ ks) names = (names.0, λ v. done_named q (asks_all ks) (λ vs. v ∷ vs) (all_named q ks names.1))

from_each : (q : Kind) (ks : List (List ℕ)) → ((k : List ℕ) → Among ks k → IsTrue (is_name_of q k)) → AreNames q ks
from_each q [] each = tt
from_each q (k ∷ ks) each = (each k (inl refl), from_each q ks (λ j here. each j (inr here)))

-- a text that is read as a name
text_named : (q : Kind) (t k : List ℕ) → named q t ≡ Some k → IsTrue (is_name_of q k)
text_named q t k = elim (is_text_of q t) as (λ b. is_text_of q t ≡ b → cond b (Some (name_of q t)) None ≡ Some k → IsTrue (is_name_of q k)) [
  | true ↦ λ reads is. let same : name_of q t ≡ k = cc in rw (← same) (read_name q reads)
  | false ↦ λ _ never. cc
] refl
  where
    read_name : (q : Kind) → is_text_of q t ≡ true → IsTrue (is_name_of q (name_of q t))
    read_name Rules reads = reads
    read_name Sheet reads = reads

looked_named : (q : Kind) (v : Value) → AsksNames q (looked_up (name_in q v))
looked_named q Empty = tt
looked_named q (Number n) = tt
looked_named q (Bad b) = tt
looked_named q (Text t) = on (named q t) refl
  where
    on : (o : Option (List ℕ)) → named q t ≡ o → AsksNames q (looked_up (or_no_name o))
    on None is = tt
    on (Some k) is = (text_named q t k is, λ v. tt)

both_named : (q : Kind) (o : Option (List ℕ)) (os : Option (List (List ℕ))) (ks : List (List ℕ)) → ((j : List ℕ) → o ≡ Some j → IsTrue (is_name_of q j))
    → ((js : List (List ℕ)) → os ≡ Some js → AreNames q js) → both o os ≡ Some ks → AreNames q ks
both_named q None os ks first rest never = cc
both_named q (Some j) None ks first rest never = cc
both_named q (Some j) (Some js) ks first rest all = let same : j ∷ js ≡ ks = cc in rw (← same) (first j refl, rest js refl)

lines_named : (q : Kind) (ts ks : List (List ℕ)) → each_as (named q) ts ≡ Some ks → AreNames q ks
lines_named q [] ks is = let none : [] ≡ ks = cc in rw (← none) tt
lines_named q (t ∷ ts) ks is = both_named q (named q t) (each_as (named q) ts) ks (λ j reads. text_named q t j reads) (λ js reads. lines_named q ts js reads) is

gathered_named : (q : Kind) (v : Value) → AsksNames q (gathered (names_in q v))
gathered_named q (Bad b) = tt
gathered_named q v = on (each_as (named q) (lines (text_of v))) refl
  where
    on : (o : Option (List (List ℕ))) → each_as (named q) (lines (text_of v)) ≡ o → AsksNames q (gathered (or_no_name o))
    on None is = tt
    on (Some ks) is = done_named q (asks_all ks) (λ vs. joined vs) (all_named q ks (lines_named q (lines (text_of v)) ks is))

branch_named : (q : Kind) (r : Result Bool Value) (a b : Asks Value) → AsksNames q a → AsksNames q b → AsksNames q (branched r a b)
branch_named q (Ok true) a b first second = first
branch_named q (Ok false) a b first second = second
branch_named q (Err v) a b first second = tt

range_named : (q : Kind) (a : Area) → IsArea a → IsTrue (has_ranges q) → AsksNames q (asks_all (cells_of a))
range_named Rules a is never = cc
range_named Sheet a is has = all_named Sheet (cells_of a) (from_each Sheet (cells_of a) (λ k here. ((cells_within a is k).0 here).cell))

mutual
  tree_named : (q : Kind) (e : Tree) → IsExpr e → HasNames q e → AsksNames q (asks q e)
  tree_named q (number n) is has = tt
  tree_named q (text t) is has = tt
  tree_named q (ref k) is has = (has, λ v. tt)
  tree_named q (neg e) is has = done_named q (asks q e) (λ v. negated (v ∷ [])) (tree_named q e is has)
  tree_named q (chain l e ss) is has = then_named q (asks q e) (λ v. asks_steps q v ss) (tree_named q e is.0 has.0) (λ v. steps_named q v l ss is.1 has.1)
  tree_named q (call f.If (arg (one c) (arg (one a) (arg (one b) no_arg)))) is has =
      then_named q (asks q c) (λ v. branched (condition v) (asks q a) (asks q b)) (tree_named q c is.1.0 has.0)
      (λ v. branch_named q (condition v) (asks q a) (asks q b) (tree_named q a is.1.1.0 has.1.0) (tree_named q b is.1.1.1.0 has.1.1.0))
  tree_named q (call f.Indirect (arg (one e) no_arg)) is has = then_named q (asks q e) (λ v. looked_up (name_in q v)) (tree_named q e is.1.0 has.0) (looked_named q)
  tree_named q (call f.Gather (arg (one e) no_arg)) is has = then_named q (asks q e) (λ v. gathered (names_in q v)) (tree_named q e is.1.0 has.0) (gathered_named q)
  tree_named q (call func xs) is has = done_named q (asks_args q xs) (λ vs. called func vs) (args_named q func xs is.1 has)

  steps_named : (q : Kind) (v : Value) (l : Level) (ss : Steps) → AreSteps l ss → StepsNames q ss → AsksNames q (asks_steps q v ss)
  steps_named q v l no_step is has = tt
  steps_named q v l (step op e ss) is has =
      then_named q (asks q e) (λ w. asks_steps q (applied op (v ∷ w ∷ [])) ss) (tree_named q e is.1 has.0) (λ w. steps_named q (applied op (v ∷ w ∷ [])) l ss is.2 has.1)

  args_named : (q : Kind) (func : Func) (xs : Args) → AreArgs func xs → ArgsNames q xs → AsksNames q (asks_args q xs)
  args_named q func no_arg is has = tt
  args_named q func (arg x xs) is has =
      then_named q (asks_arg q x) (λ us. and_then (asks_args q xs) (λ vs. done (us ++ vs))) (arg_named q func x is.0 has.0)
      (λ us. done_named q (asks_args q xs) (λ vs. us ++ vs) (args_named q func xs is.1 has.1))

  arg_named : (q : Kind) (func : Func) (x : Arg) → IsArg func x → ArgNames q x → AsksNames q (asks_arg q x)
  arg_named q func (one e) is has = done_named q (asks q e) (λ v. v ∷ []) (tree_named q e is has)
  arg_named q func (cells a) is has = range_named q a is.1 has

-- a rule that stands in a book is as reading makes one
rule_named : (b : CodeBook) (k : List ℕ) (e : Tree) → content (book_view b) k ≡ Some (rule e) → IsExpr e × HasNames b.kind e
rule_named b k e stands =
    let found = rule_found (hash.get name_eq b.items k) e (sym (item_found b k) ∙ rule_held (book_view b) k e stands) in
    let same : Some (rule (formula_of found.0)) ≡ Some (rule e) = ap (option_map item_view) (sym found.1) ∙ sym (item_found b k) ∙ rule_held (book_view b) k e stands in
    let one : formula_of found.0 ≡ e = cc in
    let fits = found_fits b k (RuleItem found.0) found.1 in
    rw (← one) (fits.0, fits.1)

pub needs_named : (b : CodeBook) → NeedsAreNames (book_view b)
needs_named b k j = on (content (book_view b) k) refl
  where
    on : (o : Option Item) → content (book_view b) k ≡ o → Among (needs_of o (λ e. fetched b.kind (clean (book_view b)) e)) j → IsTrue (is_name_of b.kind j)
    on None is here = absurd here
    on (Some (input v)) is here = absurd here
    on (Some (rule e)) is here =
        let fits = rule_named b k e is in
        asked_named b.kind (clean (book_view b)) (asks b.kind e) j (tree_named b.kind e fits.0 fits.1) (among_firsts (asked (clean (book_view b)) (asks b.kind e)) j here)
