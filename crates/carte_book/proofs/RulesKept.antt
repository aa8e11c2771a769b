-- Setting an input changes no rule.
use Rattle.std.proofs.Common.{◌≡◌, ℕ, cond, List, [], ◌∷◌, Option, Some, None, Result, Ok, Err, refl, sym, ◌∙◌, ap, subst}
use Rattle.std.specs.declared.cmp.Ordering.{Ordering}
use Rattle.std.specs.declared.cmp.Ordering.TheVariants.{Less, Equal, Greater}
use Rattle.std.specs.Ordering.{is_eq}
use Rattle.std.specs.FinMap.{entries, entries-insert, find, get, get-entries, put}
use Rattle.std.specs.FinMap.Entries.{by_order}
use Rattle.std.proofs.lemmas.Cmp.{nat_list_cmp_total}
use Rattle.carte_name.specs.Names.{name_cmp}
use Rattle.carte_value.specs.declared.digest.Digest.{Digest}
use Rattle.carte_value.specs.declared.value.Value.{Value}
use Rattle.carte_tree.specs.Tree.{Tree}
use Rattle.carte_book.specs.Book.{Book, Item, default_of, input, or_default, rule, rules_among, rules_of}
use Rattle.carte_book.specs.Digest.{rules_digest_of}
use Rattle.carte_book.specs.Edits.{IsSettable, Sets, with_item}
use Rattle.carte_book.specs.Known.{Knows}
use Rattle.carte_book.specs.declared.fault.SetFault.{SetFault}
use Rattle.carte_book.specs.declared.fault.SetFault.TheVariants as set

abbrev NoRule : Option Item → Type 0
NoRule None = Unit {0}
NoRule (Some (input v)) = Unit {0}
NoRule (Some (rule e)) = ⊥

abbrev Entries : Type 0
Entries = List (List ℕ × Item)

module _ (k : List ℕ) (v : Value) (j : List ℕ) (es : Entries) (rest : NoRule (find name_cmp k es) → rules_among (put name_cmp k (input v) es) ≡ rules_among es) where
  at_input : (w : Value) (r : Ordering) → NoRule (cond (is_eq r) (Some (input w)) (find name_cmp k es))
      → rules_among (by_order r ((k, input v) ∷ (j, input w) ∷ es) ((j, input v) ∷ es) ((j, input w) ∷ put name_cmp k (input v) es)) ≡ rules_among es
  at_input w Less none = refl
  at_input w Equal none = refl
  at_input w Greater none = rest none

  at_rule : (e : Tree) (r : Ordering) → NoRule (cond (is_eq r) (Some (rule e)) (find name_cmp k es))
      → rules_among (by_order r ((k, input v) ∷ (j, rule e) ∷ es) ((j, input v) ∷ es) ((j, rule e) ∷ put name_cmp k (input v) es)) ≡ (j, e) ∷ rules_among es
  at_rule e Less none = refl
  at_rule e Equal none = absurd none
  at_rule e Greater none = ap (λ rs. (j, e) ∷ rs) (rest none)

put_input : (k : List ℕ) (v : Value) (es : List (List ℕ × Item)) → NoRule (find name_cmp k es) → rules_among (put name_cmp k (input v) es) ≡ rules_among es
put_input k v [] none = refl
put_input k v ((j, input w) ∷ es) none = at_input k v j es (put_input k v es) w (name_cmp k j) none
put_input k v ((j, rule e) ∷ es) none = at_rule k v j es (put_input k v es) e (name_cmp k j) none

no_rule : (o d : Option Item) (v : Value) → or_default o d ≡ Some (input v) → NoRule o
no_rule None d v is = tt
no_rule (Some (input w)) d v is = tt
no_rule (Some (rule e)) d v is = cc

set_same : (b : Book) (k : List ℕ) (v : Value) → IsSettable b k → rules_digest_of (with_item b k (input v)) ≡ rules_digest_of b
set_same b k v settable =
    let none = no_rule (get b.items k) (default_of b.kind k) settable.0.0 settable.0.1 in
    let rules : rules_of (with_item b k (input v)) ≡ rules_of b =
    ap rules_among (entries-insert nat_list_cmp_total b.items k (input v)) ∙ put_input k v (entries b.items) (subst NoRule (get-entries b.items k) none) in
    rw rules

-- whatever comes of it
rules_stay : (b c : Book) (k : List ℕ) (v : Value) (result : Result (Unit {0}) SetFault) → Sets b c k v result → rules_digest_of c ≡ rules_digest_of b
rules_stay b c k v (Ok u) sets = ap rules_digest_of sets.1 ∙ set_same b k v sets.0
rules_stay b c k v (Err set.NotInput) sets = ap rules_digest_of sets.1
rules_stay b c k v (Err set.NoSuchName) sets = ap rules_digest_of sets.1
rules_stay b c k v (Err set.Limit) sets = ap rules_digest_of sets.3
rules_stay b c k v (Err set.NoMemory) sets = ap rules_digest_of sets.1

-- so what is known of the rules stays so
pub knows_still : (o : Option Digest) (b c : Book) (k : List ℕ) (v : Value) (result : Result (Unit {0}) SetFault) → Sets b c k v result → Knows o b → Knows o c
knows_still o b c k v result sets knows d is = knows d is ∙ sym (rules_stay b c k v result sets)
