-- What is beneath a rule, in books in which the same stands at the rules and inputs there.
use Rattle.std.proofs.Common.{◌≡◌, ℕ, zero, suc, List, [], ◌∷◌, ◌++◌, Option, Some, None, Ok, refl, ap, sym, ◌∙◌, inl, inr, subst}
use Rattle.std.specs.Result.{result_ok}
use Rattle.carte_value.specs.declared.value.Value.{Value}
use Rattle.carte_value.specs.Asks.{firsts, asked}
use Rattle.carte_value.specs.Truths.{Among}
use Rattle.carte_value.proofs.Asks.{asked_kept, asked_known}
use Rattle.carte_value.proofs.Firsts.{among_firsts, firsts_among}
use Rattle.carte_value.proofs.Members.{among_append, among_left, among_right}
use Rattle.carte_tree.specs.Tree.{Tree}
use Rattle.carte_tree.specs.Meaning.{asks, eval, fetched}
use Rattle.carte_book.specs.Book.{Item, input, rule, Book, content, valued, val, clean}
use Rattle.carte_book.specs.Needs.{IsRule, needs, needs_of}
use Rattle.carte_book.proofs.Clean.{clean_nothing, val_clean}
use Rattle.carte_sound.specs.Beneath.{gathered, walk, beneath_item, rules_item, beneath_in, rules_beneath_in}
use Rattle.carte_value.proofs.Agreeing.{same_run, same_asked}
use Rattle.carte_sound.proofs.Fresh.{val_rule}
use Rattle.carte_sound.proofs.Held.{needs_rule}

pub among_gathered : (f : List ℕ → List (List ℕ)) (ks : List (List ℕ)) (j i : List ℕ) → Among ks j → Among (f j) i → Among (gathered f ks) i
among_gathered f [] j i among here = absurd among
among_gathered f (k ∷ ks) j i (inl same) here = among_left (f k) (gathered f ks) i (subst (λ x. Among (f x) i) same here)
among_gathered f (k ∷ ks) j i (inr later) here = among_right (f k) (gathered f ks) i (among_gathered f ks j i later here)

pub gathered_among : (f : List ℕ → List (List ℕ)) (ks : List (List ℕ)) (i : List ℕ) → Among (gathered f ks) i → (j : List ℕ) × Among ks j × Among (f j) i
gathered_among f [] i among = absurd among
gathered_among f (k ∷ ks) i among = elim (among_append (f k) (gathered f ks) i among) [
  | inl here ↦ (k, inl refl, here)
  | inr there ↦ let r = gathered_among f ks i there in (r.0, inr r.1, r.2)
]

pub gathered_same : (f g : List ℕ → List (List ℕ)) (ks : List (List ℕ)) → ((j : List ℕ) → Among ks j → f j ≡ g j) → gathered f ks ≡ gathered g ks
gathered_same f g [] same = refl
gathered_same f g (k ∷ ks) same = ap (λ xs. xs ++ gathered f ks) (same k (inl refl)) ∙ ap (λ xs. g k ++ xs) (gathered_same f g ks (λ j among. same j (inr among)))

-- an input has no needs
pub no_needs : (c : Book) (k : List ℕ) (x : Value) → content c k ≡ Some (input x) → needs c k ≡ []
no_needs c k x is = ap (λ o. needs_of o (λ f. fetched c.kind (clean c) f)) is

-- beneath an input there is that input
pub beneath_of_input : (n : ℕ) (c : Book) (k : List ℕ) (v : Value) → content c k ≡ Some (input v) → beneath_in n c k ≡ k ∷ []
beneath_of_input zero c k v is = ap (λ o. beneath_item o k []) is
beneath_of_input (suc n) c k v is = ap (λ o. beneath_item o k (gathered (λ j. beneath_in n c j) (needs c k))) is

pub beneath_of_rule : (n : ℕ) (c : Book) (k : List ℕ) (f : Tree) → content c k ≡ Some (rule f) → beneath_in (suc n) c k ≡ gathered (λ j. beneath_in n c j) (needs c k)
beneath_of_rule n c k f is = ap (λ o. beneath_item o k (gathered (λ j. beneath_in n c j) (needs c k))) is

-- and among the rules beneath a rule there are it and those beneath its needs
rules_of_rule : (n : ℕ) (c : Book) (k : List ℕ) (f : Tree) → content c k ≡ Some (rule f) → rules_beneath_in (suc n) c k ≡ k ∷ gathered (λ j. rules_beneath_in n c j) (needs c k)
rules_of_rule n c k f is = ap (λ o. rules_item o k (gathered (λ j. rules_beneath_in n c j) (needs c k))) is

-- beneath an input there is none
pub rules_of_input : (n : ℕ) (c : Book) (k : List ℕ) (v : Value) → content c k ≡ Some (input v) → rules_beneath_in n c k ≡ []
rules_of_input zero c k v is = ap (λ o. rules_item o k []) is
rules_of_input (suc n) c k v is = ap (λ o. rules_item o k (gathered (λ j. rules_beneath_in n c j) (needs c k))) is

pub rule_itself : (n : ℕ) (c : Book) (k : List ℕ) (f : Tree) → content c k ≡ Some (rule f) → Among (rules_beneath_in n c k) k
rule_itself zero c k f is = subst (λ o. Among (rules_item o k []) k) (sym is) (inl refl)
rule_itself (suc n) c k f is = subst (λ ks. Among ks k) (sym (rules_of_rule n c k f is)) (inl refl)

pub no_value_yet : (c : Book) (k : List ℕ) (f : Tree) (v : Value) → content c k ≡ Some (rule f) → val c zero k ≡ Some v → ⊥
no_value_yet c k f v is has = let none : valued (content c k) (λ f. None) ≡ None = rw is refl in cc

pub no_value : (c : Book) (n : ℕ) (k : List ℕ) (v : Value) → content c k ≡ None → val c n k ≡ Some v → ⊥
no_value c n k v is has = let none : clean c k ≡ None = clean_nothing c k is in let some : clean c k ≡ Some v = val_clean c n k v has in cc

-- the needs of a rule are those names that the round before was asked for
round_needs : (c : Book) (n : ℕ) (k : List ℕ) (f : Tree) (v : Value) → content c k ≡ Some (rule f) → val c (suc n) k ≡ Some v → needs c k ≡ firsts (asked (val c n) (asks c.kind f))
round_needs c n k f v is has =
    needs_rule c k f is ∙ ap firsts (asked_kept (val c n) (clean c) (asks c.kind f) v (val_clean c n) (val_rule c n k f v is has))

-- and each had a value in it
pub round_known : (c : Book) (n : ℕ) (k : List ℕ) (f : Tree) (v : Value) → content c k ≡ Some (rule f) → val c (suc n) k ≡ Some v → (j : List ℕ) → Among (needs c k) j → (w : Value) × (val c n j ≡ Some w)
round_known c n k f v is has j among =
    asked_known (val c n) (asks c.kind f) v j (val_rule c n k f v is has) (among_firsts (asked (val c n) (asks c.kind f)) j (rw (round_needs c n k f v is has) at among))

abbrev IsInputOf : Book → List ℕ → Type 0
IsInputOf c i = (x : Value) × (content c i ≡ Some (input x))

beneath_of_item : (c : Book) (k i : List ℕ) (ks : List (List ℕ)) (o : Option Item) → content c k ≡ o → (Among ks i → IsInputOf c i) → Among (beneath_item o k ks) i → IsInputOf c i
beneath_of_item c k i ks None is rec among = absurd among
beneath_of_item c k i ks (Some (input x)) is rec (inl same) = (x, ap (content c) same ∙ is)
beneath_of_item c k i ks (Some (input x)) is rec (inr later) = absurd later
beneath_of_item c k i ks (Some (rule f)) is rec among = rec among

-- what stands beneath is an input
pub beneath_input : (n : ℕ) (c : Book) (k i : List ℕ) → Among (beneath_in n c k) i → (x : Value) × (content c i ≡ Some (input x))
beneath_input zero c k i among = beneath_of_item c k i [] (content c k) refl (λ none. absurd none) among
beneath_input (suc n) c k i among = beneath_of_item c k i (gathered (λ j. beneath_in n c j) (needs c k)) (content c k) refl
    (λ here. let r = gathered_among (λ j. beneath_in n c j) (needs c k) i here in beneath_input n c r.0 i r.2) among

rules_of_item : (c : Book) (k i : List ℕ) (ks : List (List ℕ)) (o : Option Item) → content c k ≡ o → (Among ks i → IsRule c i) → Among (rules_item o k ks) i → IsRule c i
rules_of_item c k i ks None is rec among = absurd among
rules_of_item c k i ks (Some (input x)) is rec among = absurd among
rules_of_item c k i ks (Some (rule f)) is rec (inl same) = (f, ap (content c) same ∙ is)
rules_of_item c k i ks (Some (rule f)) is rec (inr later) = rec later

-- or, of the rules beneath, a rule
pub beneath_rule : (n : ℕ) (c : Book) (k i : List ℕ) → Among (rules_beneath_in n c k) i → IsRule c i
beneath_rule zero c k i among = rules_of_item c k i [] (content c k) refl (λ none. absurd none) among
beneath_rule (suc n) c k i among = rules_of_item c k i (gathered (λ j. rules_beneath_in n c j) (needs c k)) (content c k) refl
    (λ here. let r = gathered_among (λ j. rules_beneath_in n c j) (needs c k) i here in beneath_rule n c r.0 i r.2) among

-- two books of one kind that have the same at the rules and at the inputs beneath a key
pub record AgreeBeneath (c b : Book) (n : ℕ) (k : List ℕ) : Type 0 where
  pub kind : c.kind ≡ b.kind
  pub rules : (i : List ℕ) → Among (rules_beneath_in n c k) i → content b i ≡ content c i
  pub inputs : (i : List ℕ) → Among (beneath_in n c k) i → content b i ≡ content c i

module _ (c b : Book) where
  agree_need : (n : ℕ) (k : List ℕ) (f : Tree) → content c k ≡ Some (rule f) → AgreeBeneath c b (suc n) k → (j : List ℕ) → Among (needs c k) j → AgreeBeneath c b n j
  agree_need n k f is agree j among = record {
    kind = agree.kind;
    rules = λ i here. agree.rules i (subst (λ ks. Among ks i) (sym (rules_of_rule n c k f is)) (inr (among_gathered (λ q. rules_beneath_in n c q) (needs c k) j i among here)));
    inputs = λ i here. agree.inputs i (subst (λ ks. Among ks i) (sym (beneath_of_rule n c k f is)) (among_gathered (λ q. beneath_in n c q) (needs c k) j i among here));
  }

  -- a key with a value has the same in both
  agree_here : (n : ℕ) (k : List ℕ) (v : Value) → val c n k ≡ Some v → AgreeBeneath c b n k → content b k ≡ content c k
  agree_here n k v has agree = on_item (content c k) refl
    where
      on_item : (o : Option Item) → content c k ≡ o → content b k ≡ content c k
      on_item None is = absurd (no_value c n k v is has)
      on_item (Some (input x)) is = agree.inputs k (subst (λ ks. Among ks k) (sym (beneath_of_input n c k x is)) (inl refl))
      on_item (Some (rule f)) is = agree.rules k (rule_itself n c k f is)

  -- each round that finds its value in the one finds that value in the other
  pub beneath_val : (n : ℕ) (k : List ℕ) (v : Value) → val c n k ≡ Some v → AgreeBeneath c b n k → val b n k ≡ Some v
  beneath_val zero k v has agree = ap (λ o. valued o (λ f. None)) (agree_here zero k v has agree) ∙ has
  beneath_val (suc n) k v has agree = on_item (content c k) refl (λ j w known there. beneath_val n j w known there)
    where
      same : content b k ≡ content c k
      same = agree_here (suc n) k v has agree

      on_item : (o : Option Item) → content c k ≡ o → ((j : List ℕ) (w : Value) → val c n j ≡ Some w → AgreeBeneath c b n j → val b n j ≡ Some w) → val b (suc n) k ≡ Some v
      on_item None is rec = absurd (no_value c (suc n) k v is has)
      on_item (Some (input x)) is rec =
          let there : Some x ≡ Some v = (rw is at has) in
          ap (λ o. valued o (λ f. result_ok (eval b.kind (val b n) f))) (same ∙ is) ∙ there
      on_item (Some (rule f)) is rec =
          let ran : eval b.kind (val c n) f ≡ Ok v = subst (λ q. eval q (val c n) f ≡ Ok v) agree.kind (val_rule c n k f v is has) in
          let looks : needs c k ≡ firsts (asked (val c n) (asks b.kind f)) = round_needs c n k f v is has ∙ ap (λ q. firsts (asked (val c n) (asks q f))) agree.kind in
          let runs : eval b.kind (val b n) f ≡ Ok v = same_run (val c n) (val b n) (asks b.kind f) v ran (λ j w among known.
          rec j w known (agree_need n k f is agree j (rw looks (firsts_among (asked (val c n) (asks b.kind f)) j among)))) in
          ap (λ o. valued o (λ f. result_ok (eval b.kind (val b n) f))) (same ∙ is) ∙ ap result_ok runs

  -- so the clean value is the same
  pub beneath_value : (n : ℕ) (k : List ℕ) (v : Value) → val c n k ≡ Some v → AgreeBeneath c b n k → clean b k ≡ Some v
  beneath_value n k v has agree = val_clean b n k v (beneath_val n k v has agree)

  -- and so are the needs
  round_same : (n : ℕ) (k : List ℕ) (v : Value) → val c (suc n) k ≡ Some v → AgreeBeneath c b (suc n) k → needs b k ≡ needs c k
  round_same n k v has agree = on_item (content c k) refl
    where
      same : content b k ≡ content c k
      same = agree_here (suc n) k v has agree

      on_item : (o : Option Item) → content c k ≡ o → needs b k ≡ needs c k
      on_item None is = absurd (no_value c (suc n) k v is has)
      on_item (Some (input x)) is = no_needs b k x (same ∙ is) ∙ sym (no_needs c k x is)
      on_item (Some (rule f)) is =
          let ran : eval b.kind (val c n) f ≡ Ok v = subst (λ q. eval q (val c n) f ≡ Ok v) agree.kind (val_rule c n k f v is has) in
          let looks : needs c k ≡ firsts (asked (val c n) (asks b.kind f)) = round_needs c n k f v is has ∙ ap (λ q. firsts (asked (val c n) (asks q f))) agree.kind in
          let alike : asked (val b n) (asks b.kind f) ≡ asked (val c n) (asks b.kind f) = same_asked (val c n) (val b n) (asks b.kind f) v ran (λ j w among known.
          beneath_val n j w known (agree_need n k f is agree j (rw looks (firsts_among (asked (val c n) (asks b.kind f)) j among)))) in
          round_needs b n k f v (same ∙ is) (beneath_val (suc n) k v has agree) ∙ ap firsts alike ∙ sym looks

  -- and what is beneath, inputs and rules alike
  pub walk_same : (met : Option Item → List ℕ → List (List ℕ) → List (List ℕ)) (n : ℕ) (k : List ℕ) (v : Value) → val c n k ≡ Some v → AgreeBeneath c b n k → walk met n b k ≡ walk met n c k
  walk_same met zero k v has agree = ap (λ o. met o k []) (agree_here zero k v has agree)
  walk_same met (suc n) k v has agree =
      ap (λ o. met o k (gathered (λ j. walk met n b j) (needs b k))) (agree_here (suc n) k v has agree)
      ∙ ap (met (content c k) k) (ap (gathered (λ j. walk met n b j)) (round_same n k v has agree) ∙ gathered_same (λ j. walk met n b j) (λ j. walk met n c j) (needs c k) (at_need (λ j w known there. walk_same met n j w known there) (content c k) refl))
    where
      at_need : ((j : List ℕ) (w : Value) → val c n j ≡ Some w → AgreeBeneath c b n j → walk met n b j ≡ walk met n c j) → (o : Option Item) → content c k ≡ o → (j : List ℕ) → Among (needs c k) j → walk met n b j ≡ walk met n c j
      at_need rec None is j among = absurd (no_value c (suc n) k v is has)
      at_need rec (Some (input x)) is j among = absurd (subst (λ ks. Among ks j) (no_needs c k x is) among)
      at_need rec (Some (rule f)) is j among =
          let w = round_known c n k f v is has j among in
          rec j w.0 w.1 (agree_need n k f is agree j among)

-- a round that finds a key's value finds all that is beneath it
pub walk_stays : (met : Option Item → List ℕ → List (List ℕ) → List (List ℕ)) (b : Book) (n : ℕ) (k : List ℕ) (v : Value) → val b n k ≡ Some v → walk met (suc n) b k ≡ walk met n b k
walk_stays met b zero k v has = on_item (content b k) refl
  where
    on_item : (o : Option Item) → content b k ≡ o → walk met (suc zero) b k ≡ walk met zero b k
    on_item None is = absurd (no_value b zero k v is has)
    on_item (Some (input x)) is = ap (λ ks. met (content b k) k (gathered (λ j. walk met zero b j) ks)) (no_needs b k x is)
    on_item (Some (rule f)) is = absurd (no_value_yet b k f v is has)
walk_stays met b (suc n) k v has =
    ap (met (content b k) k) (gathered_same (λ j. walk met (suc n) b j) (λ j. walk met n b j) (needs b k) (at_need (λ j w known. walk_stays met b n j w known) (content b k) refl))
  where
    at_need : ((j : List ℕ) (w : Value) → val b n j ≡ Some w → walk met (suc n) b j ≡ walk met n b j) → (o : Option Item) → content b k ≡ o → (j : List ℕ) → Among (needs b k) j → walk met (suc n) b j ≡ walk met n b j
    at_need rec None is j among = absurd (no_value b (suc n) k v is has)
    at_need rec (Some (input x)) is j among = absurd (subst (λ ks. Among ks j) (no_needs b k x is) among)
    at_need rec (Some (rule f)) is j among = let w = round_known b n k f v is has j among in rec j w.0 w.1
