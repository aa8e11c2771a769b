-- Values in the order of their digests, those of one digest as they stood: there is one such list.
use Rattle.std.proofs.Common.{◌≡◌, ℕ, suc, ◌≤◌, ◌<◌, Bool, true, false, cond, List, [], ◌∷◌, length, get_or, refl, ap, sym, ◌∙◌, subst, filter, arith}
use Rattle.std.specs.List.{AllByRecursion}
use Rattle.std.specs.List.Sorted.{IsSortedByKey}
use Rattle.std.specs.Ordering.{is_eq, is_lt, ordering_reverse}
use Rattle.std.specs.declared.cmp.Ordering.{Ordering}
use Rattle.std.specs.declared.cmp.Ordering.TheVariants.{Less, Equal, Greater}
use Rattle.std.specs.Cmp.Lexicographic.{texts_ties}
use Rattle.std.proofs.lemmas.Cmp.{nat_list_cmp_total}
use Rattle.std.proofs.lemmas.List.Sorted.{ranks_by, sorted_far}
use Rattle.carte_name.specs.Names.{name_cmp, name_eq}
use Rattle.carte_value.specs.declared.value.Value.{Value}
use Rattle.carte_value.specs.Spelling.{digest_of}
use Rattle.carte_table.specs.Lookups.{is_value_of}
use Rattle.carte_table.proofs.Names.{name_eq_is, name_eq_self}
use Rattle.carte_compact.specs.Live.{IsByDigest, order_of}
use Rattle.carte_compact.proofs.Ties.{below, of_one}

-- none of these values is below one
abbrev Above : Value → List Value → Type 0
Above v vs = AllByRecursion (λ w. below w v ≡ false) vs

abbrev Rises : List Value → Type 0
Rises [] = Unit {0}
Rises (v ∷ vs) = Above v vs × Rises vs

above_from : (v : Value) (vs : List Value) → ((j : ℕ) → j < length vs → below (get_or vs j v) v ≡ false) → Above v vs
above_from v [] each = tt
above_from v (w ∷ ws) each = (each 0 (omega arith), above_from v ws (λ j fits. each (suc j) (omega arith)))

rises_from : (vs : List Value) → ((i j : ℕ) (d : Value) → i ≤ j → j < length vs → below (get_or vs j d) (get_or vs i d) ≡ false) → Rises vs
rises_from [] far = tt
rises_from (v ∷ vs) far = (above_from v vs (λ j fits. far 0 (suc j) v (omega arith) (omega arith)), rises_from vs (λ i j d le fits. far (suc i) (suc j) d (omega arith) (omega arith)))

rises : (vs : List Value) → IsSortedByKey order_of name_cmp vs → Rises vs
rises vs up = rises_from vs (λ i j d le fits. sorted_far below (ranks_by nat_list_cmp_total order_of) vs up i j d le fits)

-- behind a greater value none has this digest
none_tied : (v w : Value) (ws : List Value) → below v w ≡ true → Above w ws → filter (is_value_of (digest_of v)) ws ≡ []
none_tied v w [] less above = refl
none_tied v w (u ∷ us) less above = on (name_eq (order_of v) (order_of u)) refl (none_tied v w us less above.1)
  where
    on : (b : Bool) → name_eq (order_of v) (order_of u) ≡ b → filter (is_value_of (digest_of v)) us ≡ [] → cond b (u ∷ filter (is_value_of (digest_of v)) us) (filter (is_value_of (digest_of v)) us) ≡ []
    on true same rest =
        let clash : true ≡ false = sym less ∙ ap (λ k. is_lt (name_cmp k (order_of w))) (name_eq_is (order_of v) (order_of u) same) ∙ above.0 in
        cc
    on false apart rest = rest

abbrev Alike : List Value → List Value → Type 0
Alike vs ws = (x : Value) → filter (is_value_of (digest_of x)) vs ≡ filter (is_value_of (digest_of x)) ws

kept_first : (v : Value) (vs : List Value) → filter (is_value_of (digest_of v)) (v ∷ vs) ≡ v ∷ filter (is_value_of (digest_of v)) vs
kept_first v vs = rw (name_eq_self (order_of v)) refl

apart : (k j : List ℕ) → name_cmp k j ≡ Less → name_eq k j ≡ false
apart k j less = texts_ties k j ∙ ap is_eq less

less_first : (v w : Value) (vs ws : List Value) → below v w ≡ true → name_eq (order_of v) (order_of w) ≡ false → Above w ws → ¬ (filter (is_value_of (digest_of v)) (v ∷ vs) ≡ filter (is_value_of (digest_of v)) (w ∷ ws))
less_first v w vs ws less differs above same =
    let none : filter (is_value_of (digest_of v)) (w ∷ ws) ≡ [] = rw differs (none_tied v w ws less above) in
    let clash : v ∷ filter (is_value_of (digest_of v)) vs ≡ [] = sym (kept_first v vs) ∙ same ∙ none in
    cc

same_heads : (v w : Value) (vs ws : List Value) → Above v vs → Above w ws → Alike (v ∷ vs) (w ∷ ws) → v ≡ w
same_heads v w vs ws above above' alike = on (name_cmp (order_of v) (order_of w)) refl
  where
    on : (o : Ordering) → name_cmp (order_of v) (order_of w) ≡ o → v ≡ w
    on Less is = absurd (less_first v w vs ws (ap is_lt is) (apart (order_of v) (order_of w) is) above' (alike v))
    on Equal is =
        let tied : name_eq (order_of v) (order_of w) ≡ true = texts_ties (order_of v) (order_of w) ∙ ap is_eq is in
        let heads : v ∷ filter (is_value_of (digest_of v)) vs ≡ w ∷ filter (is_value_of (digest_of v)) ws = sym (kept_first v vs) ∙ alike v ∙ rw tied refl in
        cc
    on Greater is =
        let less : name_cmp (order_of w) (order_of v) ≡ Less = nat_list_cmp_total.antisymm (order_of w) (order_of v) ∙ ap ordering_reverse is in
        absurd (less_first w v ws vs (ap is_lt less) (apart (order_of w) (order_of v) less) above (sym (alike w)))

tails : (v : Value) (vs ws : List Value) → Alike (v ∷ vs) (v ∷ ws) → Alike vs ws
tails v vs ws alike x = on (is_value_of (digest_of x) v) (alike x)
  where
    on : (b : Bool) → cond b (v ∷ filter (is_value_of (digest_of x)) vs) (filter (is_value_of (digest_of x)) vs) ≡ cond b (v ∷ filter (is_value_of (digest_of x)) ws) (filter (is_value_of (digest_of x)) ws)
        → filter (is_value_of (digest_of x)) vs ≡ filter (is_value_of (digest_of x)) ws
    on true same = cc
    on false same = same

one_order : (vs ws : List Value) → Rises vs → Rises ws → Alike vs ws → vs ≡ ws
one_order [] [] up up' alike = refl
one_order [] (w ∷ ws) up up' alike = let clash : [] ≡ w ∷ filter (is_value_of (digest_of w)) ws = alike w ∙ kept_first w ws in cc
one_order (v ∷ vs) [] up up' alike = let clash : v ∷ filter (is_value_of (digest_of v)) vs ≡ [] = sym (kept_first v vs) ∙ alike v in cc
one_order (v ∷ vs) (w ∷ ws) up up' alike =
    let same : v ≡ w = same_heads v w vs ws up.0 up'.0 alike in
    let rest : Alike (v ∷ vs) (v ∷ ws) = subst (λ u. Alike (v ∷ vs) (u ∷ ws)) (sym same) alike in
    ap (λ us. v ∷ us) (one_order vs ws up.1 up'.1 (tails v vs ws rest)) ∙ ap (λ u. u ∷ ws) same

pub one_by_digest : (all vs ws : List Value) → IsByDigest all vs → IsByDigest all ws → vs ≡ ws
one_by_digest all vs ws first second = one_order vs ws (rises vs first.rising) (rises ws second.rising) (λ x. of_one all vs first x ∙ sym (of_one all ws second x))
