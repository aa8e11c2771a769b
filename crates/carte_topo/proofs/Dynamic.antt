-- A path through the references of static rules to a dynamic rule is one of the graph that is searched.
use Rattle.std.proofs.Common.{◌≡◌, ℕ, Bool, true, false, List, [], ◌∷◌, Option, Some, None, refl, sym, ap, subst, if◌then◌else◌}
use Rattle.std.specs.BTreeSet.{BTreeSet}
use Rattle.carte_value.specs.Truths.{Among}
use Rattle.carte_tree.specs.Tree.{Tree}
use Rattle.carte_tree.specs.Formula.{refs_of, is_static_tree}
use Rattle.carte_book.specs.Book.{Item, input, rule, Book, content}
use Rattle.carte_book.specs.Needs.{needs_of}
use Rattle.carte_book.specs.Looked.{HasRules}
use Rattle.carte_book.specs.Dynamic.{refs, IsStaticRule, IsDynamicRule, LeadsToDynamic, IsDynamicPath}
use Rattle.carte_search.specs.Paths.{IsAnswer, IsPath, LeadsToGoal}
use Rattle.carte_search.specs.Search.{HasNodes}
use Rattle.carte_topo.specs.Dynamic.{IsDynamicAnswer, refs_found, static_refs}

-- what has a reference there is a static rule, and that is one of its written references
pub record IsReference (o : Option Item) (j : List ℕ) : Type 0 where
  pub formula : Tree
  pub is_rule : o ≡ Some (rule formula)
  pub is_static : is_static_tree formula ≡ true
  pub among : Among (needs_of o refs_of) j

of_rule : (e : Tree) (t : Bool) (j : List ℕ) → is_static_tree e ≡ t → Among (if t then refs_of e else []) j → IsReference (Some (rule e)) j
of_rule e true j is among = record { formula = e; is_rule = refl; is_static = is; among = among }
of_rule e false j is among = absurd among

reference : (o : Option Item) (j : List ℕ) → Among (refs_found o) j → IsReference o j
reference None j among = absurd among
reference (Some (input v)) j among = absurd among
reference (Some (rule e)) j among = of_rule e (is_static_tree e) j refl among

referred : (b : Book) (k j : List ℕ) → IsStaticRule b k → Among (refs b k) j → Among (static_refs b k) j
referred b k j static among =
    let at : refs_found (content b k) ≡ (if is_static_tree static.0 then refs_of static.0 else []) = ap refs_found static.1 in
    let here : refs b k ≡ refs_of static.0 = ap (λ o. needs_of o refs_of) static.1 in
    subst (λ ks. Among ks j) (sym at) (rw static.2 (subst (λ ks. Among ks j) here among))

pub has_nodes : (b : Book) (names : BTreeSet (List ℕ)) → HasRules b names → HasNodes (static_refs b) (IsDynamicRule b) names
has_nodes b names rules = record {
  goals = λ k goal. (rules k).1 (goal.0, goal.1);
  inner = λ k j among. let r = reference (content b k) j among in (rules k).1 (r.formula, r.is_rule);
}

to_goal : (b : Book) (path : List (List ℕ)) → LeadsToDynamic b path → LeadsToGoal (static_refs b) (IsDynamicRule b) path
to_goal b [] leads = leads
to_goal b (k ∷ []) leads = leads
to_goal b (k ∷ j ∷ ks) leads = (referred b k j leads.0 leads.1, to_goal b (j ∷ ks) leads.2)

to_dynamic : (b : Book) (path : List (List ℕ)) → LeadsToGoal (static_refs b) (IsDynamicRule b) path → LeadsToDynamic b path
to_dynamic b [] leads = leads
to_dynamic b (k ∷ []) leads = leads
to_dynamic b (k ∷ j ∷ ks) leads =
    let r = reference (content b k) j leads.0 in
    ((r.formula, r.is_rule, r.is_static), r.among, to_dynamic b (j ∷ ks) leads.1)

path_there : (b : Book) (targets path : List (List ℕ)) → IsDynamicPath b targets path → IsPath (static_refs b) (IsDynamicRule b) targets path
path_there b targets [] is = is
path_there b targets (k ∷ ks) is = (is.0, to_goal b (k ∷ ks) is.1)

path_back : (b : Book) (targets path : List (List ℕ)) → IsPath (static_refs b) (IsDynamicRule b) targets path → IsDynamicPath b targets path
path_back b targets [] is = is
path_back b targets (k ∷ ks) is = (is.0, to_dynamic b (k ∷ ks) is.1)

pub answer : (b : Book) (targets : List (List ℕ)) (o : Option (List (List ℕ))) → IsAnswer (static_refs b) (IsDynamicRule b) targets o → IsDynamicAnswer b targets o
answer b targets (Some path) is = record {
  is_path = path_back b targets path is.is_path;
  first = λ other there. is.first other (path_there b targets other there);
}
answer b targets None none = λ path is. none path (path_there b targets path is)
