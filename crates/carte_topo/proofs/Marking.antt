-- What was met of a book, and how far the walk is with it.
use Rattle.std.proofs.Common.{◌≡◌, ℕ, suc, ◌+◌, ◌≤◌, true, false, cond, List, [], ◌∷◌, ◌++◌, length, map, Some, None, refl, ap, sym, ◌∙◌, inl, inr, ◌⊎◌, length-append, arith}
use Rattle.std.specs.FinMap.{entries, find, get-entries}
use Rattle.std.specs.Ordering.{eq_by_cmp}
use Rattle.std.specs.Cmp.Lexicographic.{nat_list_eq_equiv}
use Rattle.carte_name.specs.Names.{name_cmp}
use Rattle.carte_value.specs.Truths.{Among}
use Rattle.carte_value.proofs.Members.{name_apart, same_or_not, among_append, apart_append, no_longer}
use Rattle.carte_book.specs.Book.{Item, Book}
use Rattle.carte_book.specs.Needs.{IsRule}
use Rattle.carte_book.proofs.Clean.{tied_name, rule_held}
use Rattle.carte_topo.specs.declared.walk.Stage.{Stage}
use Rattle.carte_topo.specs.declared.walk.Stage.TheVariants.{OnPath, Passed}
use Rattle.carte_topo.specs.Walk.{Seen, Path, Done, names, Marks, Tells}
use Rattle.carte_topo.specs.Between.{IsWalk}
use Rattle.carte_topo.proofs.Ready.{not_has, is_ready_so, rule_open}

pub marked_here : (seen seen' : Seen) (k : List ℕ) (stage : Stage) → Marks seen seen' k stage → seen' k ≡ Some stage
marked_here seen seen' k stage marks = marks k ∙ ap (λ b. cond b (Some stage) (seen k)) (nat_list_eq_equiv.refl k)

pub marked_elsewhere : (seen seen' : Seen) (k q : List ℕ) (stage : Stage) → Marks seen seen' k stage → ¬ (q ≡ k) → seen' q ≡ seen q
marked_elsewhere seen seen' k q stage marks apart = marks q ∙ ap (λ b. cond b (Some stage) (seen q)) (name_apart k q (λ same. apart (sym same)))

-- what was met is the rule that was marked, or was met before
pub met_now : (seen seen' : Seen) (k q : List ℕ) (stage at : Stage) → Marks seen seen' k stage → seen' q ≡ Some at → (q ≡ k) ⊎ ((¬ (q ≡ k)) × (seen q ≡ Some at))
met_now seen seen' k q stage at marks met = elim (same_or_not q k) [
  | inl same ↦ inl same
  | inr apart ↦ inr (apart, sym (marked_elsewhere seen seen' k q stage marks apart) ∙ met)
]

-- a name that was met isn't one that wasn't
pub met_apart : (seen : Seen) (k q : List ℕ) (stage : Stage) → seen k ≡ None → seen q ≡ Some stage → ¬ (q ≡ k)
met_apart seen k q stage unmet met same = let here : seen k ≡ Some stage = rw same at met in cc

pub tells : (b : Book) (ts : List (List ℕ)) (goal : List ℕ) (seen : Seen) (path : Path) (done : Done) → IsWalk b ts goal seen path done → Tells b seen done
tells b ts goal seen path done w = record {
  passed = λ k met. elim (w.met_only k Passed met) [
    | inl waits ↦ absurd (let on : seen k ≡ Some OnPath = w.waits k waits in cc)
    | inr is_done ↦ is_ready_so b done k (λ q among. w.met_rule q Passed (w.passed q among)) (inr is_done)
  ];
  on_path = λ k met. elim (w.met_only k OnPath met) [
    | inl waits ↦ rule_open b done k (w.met_rule k OnPath met) (w.path_open k waits)
    | inr is_done ↦ absurd (let over : seen k ≡ Some Passed = w.passed k is_done in cc)
  ];
  unmet = λ k none. not_has done k (λ among. let over : seen k ≡ Some Passed = w.passed k among in cc);
}

found_key : (es : List (List ℕ × Item)) (k : List ℕ) (x : Item) → find name_cmp k es ≡ Some x → Among (map (λ e. e.0) es) k
found_key [] k x is = cc
found_key ((j, y) ∷ es) k x is =
    elim (eq_by_cmp name_cmp k j) as (λ b. eq_by_cmp name_cmp k j ≡ b → cond b (Some y) (find name_cmp k es) ≡ Some x → Among (j ∷ map (λ e. e.0) es) k) [
      | true ↦ λ tied here. inl (tied_name k j tied)
      | false ↦ λ tied later. inr (found_key es k x later)
    ] refl is

-- a rule is one of the keys
rule_key : (b : Book) (k : List ℕ) → IsRule b k → Among (map (λ e. e.0) (entries b.items)) k
rule_key b k is_rule = found_key (entries b.items) k _ (sym (get-entries b.items k) ∙ rule_held b k is_rule.0 is_rule.1)

length_names : (path : Path) → length (names path) ≡ length path
length_names [] = refl
length_names (f ∷ fs) = ap suc (length_names fs)

length_keys : (es : List (List ℕ × Item)) → length (map (λ e. e.0) es) ≡ length es
length_keys [] = refl
length_keys (e ∷ es) = ap suc (length_keys es)

-- there are no more rules on the path and done than the book has keys
pub most : (b : Book) (ts : List (List ℕ)) (goal : List ℕ) (seen : Seen) (path : Path) (done : Done) → IsWalk b ts goal seen path done → length path + length done ≤ length (entries b.items)
most b ts goal seen path done w =
    let fit : length (names path ++ done) ≤ length (map (λ (e : List ℕ × Item). e.0) (entries b.items)) = no_longer (names path ++ done) (map (λ e. e.0) (entries b.items)) (apart_append (names path) done w.path_once w.once w.path_open) each in
    omega (arith, fit, length-append (names path) done, length_names path, length_keys (entries b.items))
  where
    each : (q : List ℕ) → Among (names path ++ done) q → Among (map (λ e. e.0) (entries b.items)) q
    each q among = elim (among_append (names path) done q among) [
      | inl waits ↦ rule_key b q (w.met_rule q OnPath (w.waits q waits))
      | inr is_done ↦ rule_key b q (w.met_rule q Passed (w.passed q is_done))
    ]
