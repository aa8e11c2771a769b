-- Gathering the names of rules, entry by entry.
use Rattle.std.proofs.Common.{◌≡◌, ℕ, true, false, cond, List, [], ◌∷◌, option_map, Option, Some, None, is_some, BTreeSet, refl, ap, sym, ◌∙◌, inl, inr, ◌⊎◌}
use Rattle.std.specs.Ordering.{eq_by_cmp}
use Rattle.std.specs.FinMap.{find}
use Rattle.std.specs.HashMap as hash
use Rattle.std.specs.BTreeSet.{contains}
use Rattle.std.specs.Cmp.{eq_by_cmp_equiv}
use Rattle.std.proofs.lemmas.Cmp.{nat_list_cmp_total}
use Rattle.carte_name.specs.Names.{name_cmp, name_eq}
use Rattle.carte_book.specs.declared.book.Rule.{Rule as CodeRule}
use Rattle.carte_book.specs.declared.book.Item.{Item as CodeItem}
use Rattle.carte_book.specs.declared.book.Item.TheVariants.{Input as InputItem, Rule as RuleItem}
use Rattle.carte_tree.specs.Tree.{Tree}
use Rattle.carte_book.specs.declared.book.Book.{Book as CodeBook}
use Rattle.carte_book.specs.Book.{rule, default_of, or_default, formula_of, item_view, book_view}
use Rattle.carte_book.specs.Needs.{IsRule}
use Rattle.carte_book.specs.Looked.{HasRules, AddsRule}
use Rattle.carte_book.proofs.Books.{Map, item_found, found_by}
use Rattle.carte_book.proofs.Clean.{tied_name, rule_held}

abbrev pub Entries : Type 0
Entries = List (List ℕ × CodeItem)

abbrev pub HasRuleAt : {S : Type 0} → Map S → List ℕ → Type 0
HasRuleAt m k = (r : CodeRule) × (hash.get name_eq m k ≡ Some (RuleItem r))

-- the names of the rules that aren't among the entries left
pub record IsSoFar {S : Type 0} (m : Map S) (names : BTreeSet (List ℕ)) (rest : Entries) : Type 0 where
  pub only : (k : List ℕ) → contains name_cmp names k ≡ true → HasRuleAt m k
  pub each : (k : List ℕ) → HasRuleAt m k → (contains name_cmp names k ≡ true) ⊎ (is_some (find name_cmp k rest) ≡ true)

pub at_first : {S : Type 0} (m : Map S) (names : BTreeSet (List ℕ)) → names.keys ≡ [] → IsSoFar m names m.entries
at_first m names none = record {
  only = λ k has. let e : contains name_cmp names k ≡ false = rw none refl in cc;
  each = λ k has. inr (ap is_some (found_by m.entries k ∙ has.1));
}

tied_itself : (k : List ℕ) → eq_by_cmp name_cmp k k ≡ true
tied_itself k = (eq_by_cmp_equiv nat_list_cmp_total).refl k

pub one_more : {S : Type 0} (m : Map S) (names new : BTreeSet (List ℕ)) (rest left : Entries) (k : List ℕ) (x : CodeItem) → rest ≡ (k, x) ∷ left → hash.get name_eq m k ≡ Some x → AddsRule names new k x → IsSoFar m names rest → IsSoFar m new left
one_more m names new rest left k (InputItem v) is has adds so = record {
  only = λ q in_new. so.only q (sym (adds q) ∙ in_new);
  each = λ q rule_at. elim (so.each q rule_at) [
    | inl in_old ↦ inl (adds q ∙ in_old)
    | inr later ↦ inr (past q rule_at (rw is at later))
  ];
}
  where
    past : (q : List ℕ) → HasRuleAt m q → is_some (cond (eq_by_cmp name_cmp q k) (Some (InputItem v)) (find name_cmp q left)) ≡ true → is_some (find name_cmp q left) ≡ true
    past q rule_at = elim (eq_by_cmp name_cmp q k) as (λ b. eq_by_cmp name_cmp q k ≡ b → is_some (cond b (Some (InputItem v)) (find name_cmp q left)) ≡ true → is_some (find name_cmp q left) ≡ true) [
      | true ↦ λ tied here. let same : q ≡ k = tied_name q k tied in let there : hash.get name_eq m k ≡ Some (RuleItem rule_at.0) = rw same at rule_at.1 in cc
      | false ↦ λ apart there. there
    ] refl
one_more m names new rest left k (RuleItem r) is has adds so = record {
  only = λ q in_new. now_in q in_new;
  each = λ q rule_at. elim (so.each q rule_at) [
    | inl in_old ↦ inl (kept q in_old)
    | inr later ↦ past q (rw is at later)
  ];
}
  where
    now_in : (q : List ℕ) → contains name_cmp new q ≡ true → HasRuleAt m q
    now_in q in_new = elim (eq_by_cmp name_cmp k q) as (λ b. eq_by_cmp name_cmp k q ≡ b → cond b true (contains name_cmp names q) ≡ true → HasRuleAt m q) [
      | true ↦ λ tied here. let same : q ≡ k = sym (tied_name k q tied) in (r, rw same has)
      | false ↦ λ apart there. so.only q there
    ] refl (sym (adds q) ∙ in_new)

    kept : (q : List ℕ) → contains name_cmp names q ≡ true → contains name_cmp new q ≡ true
    kept q in_old = adds q ∙ elim (eq_by_cmp name_cmp k q) as (λ b. cond b true (contains name_cmp names q) ≡ true) [
      | true ↦ refl
      | false ↦ in_old
    ]

    past : (q : List ℕ) → is_some (cond (eq_by_cmp name_cmp q k) (Some (RuleItem r)) (find name_cmp q left)) ≡ true → (contains name_cmp new q ≡ true) ⊎ (is_some (find name_cmp q left) ≡ true)
    past q = elim (eq_by_cmp name_cmp q k) as (λ b. eq_by_cmp name_cmp q k ≡ b → is_some (cond b (Some (RuleItem r)) (find name_cmp q left)) ≡ true → (contains name_cmp new q ≡ true) ⊎ (is_some (find name_cmp q left) ≡ true)) [
      | true ↦ λ tied here. inl (adds q ∙ ap (λ t. cond t true (contains name_cmp names q)) ((eq_by_cmp_equiv nat_list_cmp_total).symm k q ∙ tied))
      | false ↦ λ apart there. inr there
    ] refl

pub rule_found : (o : Option CodeItem) (e : Tree) → option_map item_view o ≡ Some (rule e) → (r : CodeRule) × (o ≡ Some (RuleItem r))
rule_found None e h = cc
rule_found (Some (InputItem v)) e h = cc
rule_found (Some (RuleItem r)) e h = (r, refl)

-- a rule of the book stands in the map
pub rule_at : (b : CodeBook) (k : List ℕ) → IsRule (book_view b) k → HasRuleAt b.items k
rule_at b k is_rule = rule_found (hash.get name_eq b.items k) is_rule.0 (sym (item_found b k) ∙ rule_held (book_view b) k is_rule.0 is_rule.1)

pub at_last : (b : CodeBook) (names : BTreeSet (List ℕ)) → IsSoFar b.items names [] → HasRules (book_view b) names
at_last b names so k = (
  (λ in_names. let has = so.only k in_names in (formula_of has.0, ap (λ o. or_default o (default_of b.kind k)) (item_found b k ∙ ap (option_map item_view) has.1))),
  (λ is_rule. elim (so.each k (rule_at b k is_rule)) [
    | inl in_names ↦ in_names
    | inr later ↦ cc
  ]),
)
