-- Where a target has no clean value, its stuck needs lead round or astray: there is a reason.
use Rattle.std.proofs.Common.{◌≡◌, ℕ, zero, suc, ◌+◌, ◌<◌, true, false, cond, List, [], ◌∷◌, length, Option, Some, None, Result, Ok, Err, refl, ap, sym, ◌∙◌, inl, inr, ◌⊎◌, arith}
use Rattle.std.specs.Ordering.{eq_by_cmp}
use Rattle.std.specs.FinMap.{entries, find, get-entries}
use Rattle.std.specs.Result.{result_ok}
use Rattle.carte_value.specs.declared.value.Value.{Value}
use Rattle.carte_name.specs.Names.{name_cmp}
use Rattle.carte_value.specs.Truths.{Among, NoneTwice}
use Rattle.carte_value.proofs.Asks.{stop_open}
use Rattle.carte_value.proofs.Members.{same_or_not, no_longer}
use Rattle.carte_tree.specs.Tree.{Tree}
use Rattle.carte_tree.specs.Meaning.{asks, eval}
use Rattle.carte_book.specs.Book.{Item, input, rule, Book, content, rules_among, rules_of, clean}
use Rattle.carte_book.specs.Reason.{IsClean, StuckAt, Begins, GoesRound, GoesAstray}
use Rattle.carte_book.specs.Stuck.{CleanOrReason}
use Rattle.carte_book.specs.declared.reason.Reason.TheVariants.{Cycle, Missing, Dynamic}
use Rattle.carte_book.proofs.Clean.{tied_name, rule_held, clean_input, clean_rule}

abbrev pub names_among : List (List ℕ × Tree) → List (List ℕ)
names_among [] = []
names_among ((k, e) ∷ rs) = k ∷ names_among rs

names_length : (rs : List (List ℕ × Tree)) → length (names_among rs) ≡ length rs
names_length [] = refl
names_length ((k, e) ∷ rs) = ap suc (names_length rs)

rule_found : (es : List (List ℕ × Item)) (k : List ℕ) (e : Tree) → find name_cmp k es ≡ Some (rule e) → Among (names_among (rules_among es)) k
rule_found [] k e is = cc
rule_found ((j, input v) ∷ es) k e is =
    elim (eq_by_cmp name_cmp k j) as (λ b. cond b (Some (input v)) (find name_cmp k es) ≡ Some (rule e) → Among (names_among (rules_among es)) k) [
      | true ↦ λ here. cc
      | false ↦ λ later. rule_found es k e later
    ] is
rule_found ((j, rule f) ∷ es) k e is =
    elim (eq_by_cmp name_cmp k j) as (λ b. eq_by_cmp name_cmp k j ≡ b → cond b (Some (rule f)) (find name_cmp k es) ≡ Some (rule e) → Among (j ∷ names_among (rules_among es)) k) [
      | true ↦ λ tied here. inl (tied_name k j tied)
      | false ↦ λ tied later. inr (rule_found es k e later)
    ] refl is

-- each rule stands in the list of rules
pub rule_listed : (b : Book) (k : List ℕ) (e : Tree) → content b k ≡ Some (rule e) → Among (names_among (rules_of b)) k
rule_listed b k e is = rule_found (entries b.items) k e (sym (get-entries b.items k) ∙ rule_held b k e is)

-- where the names without repeats lead round or astray
abbrev LeadsOn : Book → List (List ℕ) → List ℕ → Type 0
LeadsOn b seen k = (rest : List (List ℕ)) × (GoesRound b seen (k ∷ rest) ⊎ GoesAstray b seen (k ∷ rest))

pub is_among_or_not : (ks : List (List ℕ)) (k : List ℕ) → Among ks k ⊎ (¬ (Among ks k))
is_among_or_not [] k = inr (λ here. here)
is_among_or_not (j ∷ js) k = elim (same_or_not k j) [
  | inl same ↦ inl (inl same)
  | inr apart ↦ elim (is_among_or_not js k) [
    | inl later ↦ inl (inr later)
    | inr none ↦ inr (λ here. elim here [
      | inl same ↦ apart same
      | inr later ↦ none later
    ])
  ]
]

module _ (b : Book) where
  abbrev AreListed : List (List ℕ) → Type 0
  AreListed seen = (q : List ℕ) → Among seen q → Among (names_among (rules_of b)) q

  -- one name more of the way, which was seen before, has nothing, or is stuck at the next
  onward : (seen : List (List ℕ)) (k : List ℕ) → clean b k ≡ None → ((j : List ℕ) (e : Tree) → content b k ≡ Some (rule e) → ¬ (Among seen k) → StuckAt b k j → clean b j ≡ None → LeadsOn b (k ∷ seen) j) → LeadsOn b seen k
  onward seen k none next = elim (is_among_or_not seen k) [
    | inl there ↦ ([], inl there)
    | inr new ↦ here (content b k) refl new
  ]
    where
      stuck : (e : Tree) (r : Result Value (List ℕ)) → content b k ≡ Some (rule e) → eval b.kind (clean b) e ≡ r → ¬ (Among seen k) → LeadsOn b seen k
      stuck e (Ok v) is ends new = let both : Some v ≡ None = sym (ap result_ok ends) ∙ sym (clean_rule b k e is) ∙ none in cc
      stuck e (Err j) is ends new =
          let on = next j e is new (e, is, ends) (stop_open (clean b) (asks b.kind e) j ends) in
          elim on.1 [
            | inl round ↦ (j ∷ on.0, inl (new, (e, is, ends), round))
            | inr astray ↦ (j ∷ on.0, inr (new, (e, is, ends), astray))
          ]

      here : (o : Option Item) → content b k ≡ o → ¬ (Among seen k) → LeadsOn b seen k
      here None is new = ([], inr is)
      here (Some (input v)) is new = let both : Some v ≡ None = sym (clean_input b k v is) ∙ none in cc
      here (Some (rule e)) is new = stuck e (eval b.kind (clean b) e) is refl new

  follow : (fuel : ℕ) (seen : List (List ℕ)) (k : List ℕ) → length (names_among (rules_of b)) < length seen + fuel → NoneTwice seen → AreListed seen → clean b k ≡ None → LeadsOn b seen k
  follow zero seen k room once listed none = absurd (let most = no_longer seen (names_among (rules_of b)) once listed in omega arith)
  follow (suc fuel) seen k room once listed none = onward seen k none (λ j e is new stuck later. follow fuel (k ∷ seen) j (omega arith) (new, once) (more k e is seen listed) later)
    where
      more : (i : List ℕ) (e : Tree) → content b i ≡ Some (rule e) → (known : List (List ℕ)) → AreListed known → AreListed (i ∷ known)
      more i e is known all q here = elim here [
        | inl same ↦ rw same (rule_listed b i e is)
        | inr later ↦ all q later
      ]

  leads : (k : List ℕ) → clean b k ≡ None → LeadsOn b [] k
  leads k none = follow (length (names_among (rules_of b)) + 1) [] k (omega arith) tt nothing none
    where
      nothing : AreListed []
      nothing q here = absurd here

  reasoned : (k : List ℕ) (targets : List (List ℕ)) → ((path : List (List ℕ)) → Begins b targets (k ∷ path)) → LeadsOn b [] k → CleanOrReason b targets
  reasoned k targets begins (rest, inl round) = inr (Cycle (k ∷ rest), (begins rest, round))
  reasoned k targets begins (rest, inr astray) = inr (Missing (k ∷ rest), (begins rest, astray))

  behind : (k : List ℕ) (targets : List (List ℕ)) → IsClean b k → CleanOrReason b targets → CleanOrReason b (k ∷ targets)
  behind k targets here (inl all) = inl (here, all)
  behind k targets here (inr (Cycle [], why)) = absurd why.1
  behind k targets here (inr (Cycle (j ∷ js), why)) = inr (Cycle (j ∷ js), (inr (here, why.0), why.1))
  behind k targets here (inr (Missing [], why)) = absurd why.1
  behind k targets here (inr (Missing (j ∷ js), why)) = inr (Missing (j ∷ js), (inr (here, why.0), why.1))
  behind k targets here (inr (Dynamic path, never)) = absurd never

  pub reason_or_clean : (targets : List (List ℕ)) → CleanOrReason b targets
  reason_or_clean [] = inl tt
  reason_or_clean (k ∷ ks) = at (clean b k) refl (reason_or_clean ks)
    where
      at : (o : Option Value) → clean b k ≡ o → CleanOrReason b ks → CleanOrReason b (k ∷ ks)
      at None is rest = reasoned k (k ∷ ks) (λ path. inl (refl, is)) (leads k is)
      at (Some v) is rest = behind k ks (v, is) rest
