-- A book with a rule over which the premises of the laws hold together.
use Rattle.std.proofs.Common.{◌≡◌, ◌+◌, ℕ, pos, zero, suc, Bool, true, false, cond, List, [], ◌∷◌, length, Option, Some, None, Ok, refl, sym, ap, ◌∙◌, inl, inr, subst, arith}
use Rattle.std.specs.Prelude.{codes, is_some, ◌&&◌}
use Rattle.std.specs.Ordering.{eq_by_cmp}
use Rattle.std.specs.Result.{result_ok}
use Rattle.std.specs.FinMap.{empty, insert, get-empty}
use Rattle.std.specs.List.Sorted.{IsStrictlySortedBy}
use Rattle.carte_name.specs.declared.kind.Kind.TheVariants.{Rules}
use Rattle.carte_value.specs.declared.digest.Digest.{Digest}
use Rattle.carte_value.specs.declared.value.Value.{Value}
use Rattle.carte_value.specs.declared.value.Value.TheVariants.{Number}
use Rattle.carte_value.specs.Asks.{answered, asked_on, firsts}
use Rattle.carte_value.specs.Lists.{Has}
use Rattle.carte_value.specs.Truths.{Among}
use Rattle.carte_name.specs.Names.{name_cmp}
use Rattle.carte_tree.specs.Meaning.{eval, fetched}
use Rattle.carte_tree.specs.Tree.{Tree, ref}
use Rattle.carte_book.specs.Book.{Book, Item, clean, content, input, or_default, rule, rules_of, val, valued}
use Rattle.carte_book.specs.Needs.{IsRule, needs, needs_of}
use Rattle.carte_book.specs.Task.{task_digest_of, task_now}
use Rattle.carte_book.proofs.Books.{item_put}
use Rattle.carte_book.proofs.Tasks.{task_of_rule}
use Rattle.carte_record.specs.declared.entry.Entry.{Entry}
use Rattle.carte_record.specs.declared.way.Way.TheVariants.{Verifying, Constructive, Deep}
use Rattle.carte_record.specs.Folds.{is_among}
use Rattle.carte_record.specs.Kept.{nothing_kept}
use Rattle.carte_sound.specs.Base.{HasDistinctDigests, IsBase, SameRules}
use Rattle.carte_sound.specs.Begun as dropped
use Rattle.carte_sound.specs.Begun.{IsGone, IsBeginning, no_change}
use Rattle.carte_sound.specs.Finished.{AreFinished}
use Rattle.carte_sound.specs.Held.{How, dirty, tracing, IsHeld}
use Rattle.carte_sound.specs.Left.{entry_left}
use Rattle.carte_sound.specs.Marks as marks
use Rattle.carte_sound.specs.Marks.{IsChanged, present}
use Rattle.carte_sound.specs.Standing.{Stands, left_of_run, standing_book}
use Rattle.carte_sound.proofs.Histories.{nothing_begun}
use Rattle.carte_sound.proofs.LeftSound.{left_base}
use Rattle.carte_sound.proofs.Next.{again_held}
use Rattle.carte_sound.proofs.Tasks.{own_task}
use Rattle.carte_sound.proofs.Tests.{put_cases}

abbrev one : Value
one = Number (pos 1)

abbrev a : List ℕ
a = codes "a"

abbrev k : List ℕ
k = codes "b"

abbrev bare_book : Book
bare_book = record { kind = Rules; items = empty }

abbrev input_book : Book
input_book = record { kind = Rules; items = insert empty a (input one) }

-- ---- what it holds

input_at : (q : List ℕ) → content input_book q ≡ cond (eq_by_cmp name_cmp q a) (Some (input one)) None
input_at q =
    item_put bare_book a (input one) q
    ∙ ap (λ (o : Option Item). cond (eq_by_cmp name_cmp q a) (Some (input one)) (or_default o None)) (get-empty name_cmp q)

item_at : (q : List ℕ) → content standing_book q ≡ cond (eq_by_cmp name_cmp q k) (Some (rule (ref a))) (cond (eq_by_cmp name_cmp q a) (Some (input one)) None)
item_at q = item_put input_book k (rule (ref a)) q ∙ ap (λ (o : Option Item). cond (eq_by_cmp name_cmp q k) (Some (rule (ref a))) o) (input_at q)

at_rule : content standing_book k ≡ Some (rule (ref a))
at_rule = item_at k

at_input : content standing_book a ≡ Some (input one)
at_input = item_at a

pub data Holds (q : List ℕ) : Type 0 where
  the_rule : content standing_book q ≡ Some (rule (ref a)) → Holds q
  the_input : content standing_book q ≡ Some (input one) → Holds q
  nothing : content standing_book q ≡ None → Holds q

holds_by : (q : List ℕ) (s t : Bool) → content standing_book q ≡ cond s (Some (rule (ref a))) (cond t (Some (input one)) None) → Holds q
holds_by q true t is = the_rule is
holds_by q false true is = the_input is
holds_by q false false is = nothing is

holds : (q : List ℕ) → Holds q
holds q = holds_by q (eq_by_cmp name_cmp q k) (eq_by_cmp name_cmp q a) (item_at q)

-- ---- its values

val_input : (n : ℕ) → val standing_book n a ≡ Some one
val_input zero = ap (λ (o : Option Item). valued o (λ e. None)) at_input
val_input (suc n) = ap (λ (o : Option Item). valued o (λ e. result_ok (eval Rules (val standing_book n) e))) at_input

-- what the rule's formula gives where its input has a value
given : (o : Option Value) → o ≡ Some one → result_ok (answered o a (λ v. Ok v)) ≡ Some one
given o is = ap (λ (p : Option Value). result_ok (answered p a (λ v. Ok v))) is

val_rule : (n : ℕ) → val standing_book (suc n) k ≡ Some one
val_rule n =
    ap (λ (o : Option Item). valued o (λ e. result_ok (eval Rules (val standing_book n) e))) at_rule
    ∙ given (val standing_book n a) (val_input n)

one_by : (n : ℕ) (q : List ℕ) (v : Value) → Holds q → val standing_book n q ≡ Some v → v ≡ one
one_by zero q v (the_rule is) has = let none : val standing_book zero q ≡ None = ap (λ (o : Option Item). valued o (λ e. None)) is in cc
one_by zero q v (the_input is) has = let at : val standing_book zero q ≡ Some one = ap (λ (o : Option Item). valued o (λ e. None)) is in cc
one_by zero q v (nothing is) has = let none : val standing_book zero q ≡ None = ap (λ (o : Option Item). valued o (λ e. None)) is in cc
one_by (suc n) q v (the_rule is) has =
    let at : val standing_book (suc n) q ≡ Some one =
    ap (λ (o : Option Item). valued o (λ e. result_ok (eval Rules (val standing_book n) e))) is ∙ given (val standing_book n a) (val_input n) in
    cc
one_by (suc n) q v (the_input is) has =
    let at : val standing_book (suc n) q ≡ Some one = ap (λ (o : Option Item). valued o (λ e. result_ok (eval Rules (val standing_book n) e))) is in cc
one_by (suc n) q v (nothing is) has =
    let none : val standing_book (suc n) q ≡ None = ap (λ (o : Option Item). valued o (λ e. result_ok (eval Rules (val standing_book n) e))) is in cc

clean_rule : clean standing_book k ≡ Some one
clean_rule =
    let next : length (rules_of standing_book) + 1 ≡ suc (length (rules_of standing_book)) = omega arith in
    subst (λ (n : ℕ). val standing_book n k ≡ Some one) (sym next) (val_rule (length (rules_of standing_book)))

one_clean : (b : Book) (q : List ℕ) (v : Value) → Has (standing_book ∷ []) b → clean b q ≡ Some v → v ≡ one
one_clean b q v (inl is) has =
    one_by (length (rules_of standing_book) + 1) q v (holds q) (subst (λ (c : Book). clean c q ≡ Some v) is has)
one_clean b q v (inr never) has = absurd never

one_of : (b : Book) → Has (standing_book ∷ []) b → b ≡ standing_book
one_of b (inl is) = is
one_of b (inr never) = absurd never

same_rules : (b c : Book) → b ≡ c → SameRules b c
same_rules b c is = record { kind = ap (λ (x : Book). x.kind) is; rules = λ q e at. subst (λ (x : Book). content x q ≡ Some (rule e)) is at }

formula_by : (q : List ℕ) (f : Tree) → Holds q → content standing_book q ≡ Some (rule f) → f ≡ ref a
formula_by q f (the_rule is) at = let both : Some (rule (ref a)) ≡ Some (rule f) = sym is ∙ at in cc
formula_by q f (the_input is) at = let both : Some (input one) ≡ Some (rule f) = sym is ∙ at in cc
formula_by q f (nothing is) at = let both : None ≡ Some (rule f) = sym is ∙ at in cc

one_formula : (q : List ℕ) (f : Tree) → content standing_book q ≡ Some (rule f) → f ≡ ref a
one_formula q f at = formula_by q f (holds q) at

distinct : HasDistinctDigests (standing_book ∷ [])
distinct = record {
  values = λ b c i j v w has_b has_c of_v of_w same. one_clean b i v has_b of_v ∙ sym (one_clean c j w has_c of_w);
  rules = λ b c has_b has_c same. same_rules b c (one_of b has_b ∙ sym (one_of c has_c));
  tasks = λ b c i j f g has_b has_c at_b at_c same. (
    ap (λ (y : Book). y.kind) (one_of b has_b ∙ sym (one_of c has_c)),
    one_formula i f (subst (λ (y : Book). content y i ≡ Some (rule f)) (one_of b has_b) at_b) ∙ sym (one_formula j g (subst (λ (y : Book). content y j ≡ Some (rule g)) (one_of c has_c) at_c)),
  );
}

-- ---- a run of the rule

rule_needs : needs standing_book k ≡ a ∷ []
rule_needs =
    ap (λ (o : Option Item). needs_of o (λ e. fetched Rules (clean standing_book) e)) at_rule
    ∙ ap (λ (o : Option Value). firsts (a ∷ asked_on o (λ v. []))) (val_input (length (rules_of standing_book) + 1))

no_rule : (j : List ℕ) → Among (a ∷ []) j → IsRule standing_book j → ⊥
no_rule j (inl is) (e, at) = let there : content standing_book j ≡ Some (input one) = ap (content standing_book) is ∙ at_input in cc
no_rule j (inr never) rule_at = never

not_held : (h : How) → ¬ (IsHeld h nothing_kept standing_book k)
not_held dirty held = let none : None ≡ Some held.entry = held.kept in cc
not_held (tracing w) held = held.1.kept

runs : (h : How) → AreFinished h standing_book nothing_kept [] ((k, true) ∷ [])
runs h = (
  record {
    is_rule = (ref a, at_rule);
    clean = (one, clean_rule);
    came = not_held h;
    order = λ followed j among rule_at. absurd (no_rule j (subst (λ (ks : List (List ℕ)). Among ks j) rule_needs among) rule_at);
  },
  tt,
)

-- ---- nothing is to be marked, and nothing dropped

module _ (h : How) where
  left_base_of : IsBase (left_of_run h standing_book k) standing_book (standing_book ∷ [])
  left_base_of = left_base h standing_book (standing_book ∷ []) nothing_kept (nothing_begun standing_book (standing_book ∷ []) (inl refl) distinct) ((k, true) ∷ []) [] tt (runs h)

  seen_now : (t : Bool) (p : Option Digest) (d : Digest) → cond t p None ≡ Some d → p ≡ Some d
  seen_now true p d is = is
  seen_now false p d is = cc

  now_entry_of : (q : List ℕ) (e : Entry) → (left_of_run h standing_book k).entries q ≡ Some e → task_now standing_book q ≡ Some e.task
  now_entry_of q e kept = elim (put_cases nothing_kept.entries k (entry_left h nothing_kept standing_book k) q e kept) [
    | inl new ↦ ap (task_now standing_book) new.0 ∙ task_of_rule standing_book k (ref a) at_rule ∙ ap Some (sym (left_task h)) ∙ ap (λ (y : Entry). Some y.task) new.1
    | inr before ↦ absurd (let none : None ≡ Some e = before.1 in let no : ⊥ = cc in no)
  ]
    where
      left_task : (h : How) → (entry_left h nothing_kept standing_book k).task ≡ task_digest_of Rules (ref a)
      left_task dirty = own_task standing_book k (ref a) at_rule
      left_task (tracing Verifying) = own_task standing_book k (ref a) at_rule
      left_task (tracing Constructive) = own_task standing_book k (ref a) at_rule
      left_task (tracing Deep) = own_task standing_book k (ref a) at_rule

  not_changed : (q : List ℕ) → IsChanged (left_of_run h standing_book k) standing_book q → ⊥
  not_changed q (marks.IsChanged.seen d at differs) = differs (seen_now (is_among (entry_left h nothing_kept standing_book k).needs q && is_some (present standing_book q)) (present standing_book q) d at)
  not_changed q (marks.IsChanged.task e at differs) = differs (now_entry_of q e at)

  not_gone : (q : List ℕ) → IsGone (left_of_run h standing_book k) standing_book q → ⊥
  not_gone q (dropped.IsGone.seen d at none) = none (left_base_of.inputs q d at)
  not_gone q (dropped.IsGone.entry e at none) = none (left_base_of.keys q e at)

nil_rising : IsStrictlySortedBy name_cmp []
unfolding IsStrictlySortedBy
nil_rising = tt

unmarked : (h : How) → IsBeginning (left_of_run h standing_book k) standing_book no_change
unmarked h = record {
  marks = record { rising = nil_rising; only = λ q never. absurd never; each = λ q marked. not_changed h marked.name marked.changed };
  gone = record { rising = nil_rising; only = λ q never. absurd never; each = λ q gone. not_gone h q gone };
}

pub stands : (h : How) → Stands h standing_book (codes "b")
stands h =
    let begun : IsBase nothing_kept standing_book (standing_book ∷ []) = nothing_begun standing_book (standing_book ∷ []) (inl refl) distinct in
    record {
      is_rule = (ref a, at_rule);
      distinct = distinct;
      runs = runs h;
      sound = (left_base_of h).sound;
      unmarked = unmarked h;
      held = again_held standing_book (standing_book ∷ []) nothing_kept begun h ((k, true) ∷ []) [] tt (runs h) no_change (unmarked h) k (inl refl);
    }
