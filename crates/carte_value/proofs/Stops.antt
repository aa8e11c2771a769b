-- Where a run stops: at the last name that it asks for.
use Rattle.std.proofs.Common.{◌≡◌, ℕ, List, [], ◌∷◌, ◌++◌, Some, None, Err, refl, ap, sym, ◌∙◌, inl, inr, ◌⊎◌}
use Rattle.carte_value.specs.declared.value.Value.{Value}
use Rattle.carte_value.specs.Truths.{Truth, Extends, Among, HasValue}
use Rattle.carte_value.specs.Lists.{IsLast}
use Rattle.carte_value.specs.Asks.{Asks, done, ask, answered, run, asked, asked_on, firsts}
use Rattle.carte_value.specs.Runs.{Grown, StuckIsLast}
use Rattle.carte_value.proofs.Firsts.{among_firsts}
use Rattle.carte_value.proofs.Members.{last_among, firsts_end}
use Rattle.carte_value.proofs.Asks.{run_kept, asked_kept, stop_open}

-- a name asked for that has no value is where it stops
pub asked_none : {A : Type 0} (t : Truth) (m : Asks A) (j : List ℕ) → Among (asked t m) j → t j ≡ None → run t m ≡ Err j
asked_none t (done b) j among none = absurd among
asked_none {A = A} t (ask k go) j among none =
    elim (t k) as (λ o. t k ≡ o → Among (k ∷ asked_on o (λ v. asked t (go v))) j → answered {A = A} o k (λ v. run t (go v)) ≡ Err j) [
      | None ↦ λ is here. elim here [
        | inl same ↦ ap Err (sym same)
        | inr later ↦ absurd later
      ]
      | Some v ↦ λ is here. elim here [
        | inl same ↦ (let both : Some v ≡ None = sym is ∙ ap t (sym same) ∙ none in cc)
        | inr later ↦ asked_none t (go v) j later none
      ]
    ] refl among

-- the names before the one at which it stops have values
record Before {A : Type 0} (t : Truth) (m : Asks A) (j : List ℕ) : Type 0 where
  pub names : List (List ℕ)
  pub is : asked t m ≡ names ++ j ∷ []
  pub known : (k : List ℕ) → Among names k → HasValue t k

-- a name more before them
later_stop : {A : Type 0} (t : Truth) (k : List ℕ) (go : Value → Asks A) (v : Value) (j : List ℕ) → t k ≡ Some v → Before t (go v) j → Before t (ask k go) j
later_stop t k go v j is b = record {
  names = k ∷ b.names;
  is = rw is (ap (λ ks. k ∷ ks) b.is);
  known = λ i among. elim among [
    | inl same ↦ (v, ap t same ∙ is)
    | inr later ↦ b.known i later
  ];
}

before : {A : Type 0} (t : Truth) (m : Asks A) (j : List ℕ) → run t m ≡ Err j → Before t m j
before t (done b) j stops = cc
before {A = A} t (ask k go) j stops =
    elim (t k) as (λ o. t k ≡ o → answered {A = A} o k (λ v. run t (go v)) ≡ Err j → Before t (ask k go) j) [
      | None ↦ λ is e. let same : k ≡ j = cc in record { names = []; is = rw (is, same) refl; known = λ i none. absurd none }
      | Some v ↦ λ is e. later_stop t k go v j is (before t (go v) j e)
    ] refl stops

pub stop_last : {A : Type 0} (t : Truth) (m : Asks A) (j : List ℕ) → run t m ≡ Err j → IsLast (asked t m) j
stop_last t m j stops = let b = before t m j stops in (b.names, b.is)

-- and it is asked for once alone
pub stop_last_once : {A : Type 0} (t : Truth) (m : Asks A) (j : List ℕ) → run t m ≡ Err j → IsLast (firsts (asked t m)) j
stop_last_once t m j stops =
    let b = before t m j stops in
    let none : t j ≡ None = stop_open t m j stops in
    let new : ¬ (Among b.names j) = λ among. (let v = b.known j among in let both : Some v.0 ≡ None = sym v.1 ∙ none in cc) in
    (firsts b.names, ap firsts b.is ∙ firsts_end b.names j new)

-- the last name asked for has no value: there it stops
pub last_stop : {A : Type 0} (t : Truth) (m : Asks A) (j : List ℕ) → IsLast (asked t m) j → t j ≡ None → run t m ≡ Err j
last_stop t m j last none = asked_none t m j (last_among (asked t m) j last) none

pub last_once_stop : {A : Type 0} (t : Truth) (m : Asks A) (j : List ℕ) → IsLast (firsts (asked t m)) j → t j ≡ None → run t m ≡ Err j
last_once_stop t m j last none = asked_none t m j (among_firsts (asked t m) j (last_among (firsts (asked t m)) j last)) none

-- where a run over a part stops at a name that the whole lacks too, all else that is asked for over the whole has its value in the part
pub asked_before : {A : Type 0} (t u : Truth) (m : Asks A) (n : List ℕ) → Extends t u → run t m ≡ Err n → u n ≡ None → (j : List ℕ) → Among (asked u m) j → (j ≡ n) ⊎ HasValue t j
asked_before t u (done b) n more stops none j among = absurd among
asked_before {A = A} t u (ask k go) n more stops none j among =
    elim (t k) as (λ o. t k ≡ o → answered {A = A} o k (λ v. run t (go v)) ≡ Err n → (j ≡ n) ⊎ HasValue t j) [
      | None ↦ λ is e.
          let same : k ≡ n = cc in
          let here : u k ≡ None = ap u same ∙ none in
          let alone : Among (k ∷ []) j = rw here at among in
          elim alone [
            | inl first ↦ inl (first ∙ same)
            | inr later ↦ absurd later
          ]
      | Some v ↦ λ is e.
          let on : Among (k ∷ asked u (go v)) j = rw (more k v is) at among in
          elim on [
            | inl first ↦ inr (v, ap t first ∙ is)
            | inr later ↦ asked_before t u (go v) n more e none j later
          ]
    ] refl stops

pub grown : (A : Type 0) → Grown A
grown A = record {
  result = λ t u m a more ends. run_kept t u m a more ends;
  names = λ t u m a more ends. asked_kept t u m a more ends;
}

pub stuck_is_last : (A : Type 0) → StuckIsLast A
stuck_is_last A = record {
  none = λ t m k stops. stop_open t m k stops;
  last = λ t m k stops. stop_last t m k stops;
  last_once = λ t m k stops. stop_last_once t m k stops;
  stuck = λ t m k last none. last_stop t m k last none;
  stuck_once = λ t m k last none. last_once_stop t m k last none;
}
