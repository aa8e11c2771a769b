-- What a run of a static task is for its formula.
use Rattle.std.proofs.Common.{◌≡◌, ℕ, Bool, true, false, List, [], ◌∷◌, map, Option, Some, None, Result, Ok, Err, refl, ap, sym, ◌∙◌, subst, inl, inr}
use Rattle.carte_name.specs.declared.kind.Kind.{Kind}
use Rattle.carte_value.specs.declared.value.Value.{Value}
use Rattle.carte_value.specs.Truths.{Truth, Among}
use Rattle.carte_value.specs.Asks.{Asks, done, ask, run, asked, asked_on, answered}
use Rattle.carte_value.proofs.Firsts.{among_firsts}
use Rattle.carte_tree.specs.Tree.{Tree}
use Rattle.carte_tree.specs.Formula.{refs_of, is_static_tree}
use Rattle.carte_tree.specs.InTurn.{HasAll, until}
use Rattle.carte_tree.specs.Meaning.{asks, fetched}
use Rattle.carte_tree.specs.Laws.{StaticEnds, StaticNeeds}
use Rattle.carte_effect.specs.declared.effect.Halt.{Halt}
use Rattle.carte_effect.specs.declared.effect.Halt.TheVariants.{Stop, NoMemory}
use Rattle.carte_task.specs.declared.static_task.StaticTask.{StaticTask}
use Rattle.carte_effect.specs.Effects.{paired}
use Rattle.carte_effect.specs.Ledger.{Ledger}
use Rattle.carte_effect.specs.Lists.{ValuesOf, StopsAmong}
use Rattle.carte_effect.specs.Outcomes.{Outcome, links_of}
use Rattle.carte_task.specs.Statics.{static_refs, IsStaticTaskOf, StaticRan, Reads, IsReadFrom, with_run}

-- it is stuck at a name that it asks for and that has no value
asked_stuck : {A : Type 0} (t : Truth) (m : Asks A) (j : List ℕ) → t j ≡ None → Among (asked t m) j → run t m ≡ Err j
asked_stuck t (done a) j none among = absurd among
asked_stuck {A = A} t (ask k go) j none among =
    elim (t k) as (λ o. t k ≡ o → Among (k ∷ asked_on o (λ v. asked t (go v))) j → answered {A = A} o k (λ v. run t (go v)) ≡ Err j) [
      | None ↦ λ is here. elim here [
        | inl same ↦ ap Err (sym same)
        | inr later ↦ absurd later
      ]
      | Some v ↦ λ is here. elim here [
        | inl same ↦ let e : t j ≡ t k = ap t same in cc
        | inr later ↦ asked_stuck t (go v) j none later
      ]
    ] refl among

-- the first of some names that has no value, and where it stands
stuck_among : {S : Type 0} (t : Truth) (own : List ℕ → S → Type 0) (ks : List (List ℕ)) (s : S) → StopsAmong t own ks s → (j : List ℕ) × (t j ≡ None) × own j s × Among (until t ks) j
stuck_among t own [] s stops = absurd stops
stuck_among t own (k ∷ ks) s stops = elim stops [
  | inl here ↦ (k, here.0, here.1, inl refl)
  | inr later ↦
      let rest = stuck_among t own ks s later.1 in
      (rest.0, rest.1, rest.2, inr (rw later.0.1 rest.3))
]

linked : (t : Truth) (ks : List (List ℕ)) (vs : List Value) → ValuesOf t ks vs → map (λ l. l.name) (links_of (paired ks vs)) ≡ ks
linked t [] [] of = refl
linked t [] (v ∷ vs) of = absurd of
linked t (k ∷ ks) [] of = absurd of
linked t (k ∷ ks) (v ∷ vs) of = ap (λ js. k ∷ js) (linked t ks vs of.1)

pub reads : {S : Type 0} (t : Truth) (own : List ℕ → S → Type 0) (withholds : Bool) (log0 log : Option (List (List ℕ))) (s : StaticTask) (runs0 runs : Ledger) (r : Result (Option Outcome) (Halt S)) →
    StaticNeeds → StaticRan t own withholds log0 log s runs0 runs r → (kind : Kind) (k : List ℕ) (e : Tree) → IsStaticTaskOf kind k e s → Reads kind t own withholds k e runs0 runs r
reads t own withholds log0 log s runs0 runs (Ok (Some o)) needs ran kind k e of =
    let end = ran.2 in (
      record {
        key = end.key ∙ of.key;
        value = ap (λ m. run t m) (sym of.computes) ∙ end.value;
        links = ap (map (λ l. l.name)) end.links ∙ linked t (static_refs s) end.values end.known ∙ of.refs;
      },
      ran.3 ∙ ap (λ j. with_run runs0 j) of.key,
    )
reads t own withholds log0 log s runs0 runs (Ok None) needs ran kind k e of = (ran.0, ran.2)
reads t own withholds log0 log s runs0 runs (Err (Stop stop)) needs ran kind k e of =
    let stuck = stuck_among t own (refs_of e) stop (subst (λ ks. StopsAmong t own ks stop) of.refs ran.0) in
    let among : Among (fetched kind t e) stuck.0 = subst (λ ks. Among ks stuck.0) (sym (needs kind t e of.fixed)) stuck.3 in
    ((stuck.0, asked_stuck t (asks kind e) stuck.0 stuck.1 (among_firsts (asked t (asks kind e)) stuck.0 among), stuck.2), ran.2)
reads t own withholds log0 log s runs0 runs (Err NoMemory) needs ran kind k e of = ran.1

-- over values that stand it comes to an end
pub read_whole : {S : Type 0} (F : Type 0) (kind : Kind) (t : Truth) (own : List ℕ → S → Type 0) (k : List ℕ) (e : Tree) (runs0 runs : Ledger) (o : Option Outcome) → Reads {S = S} kind t own false k e runs0 runs (Ok o) → IsReadFrom {F = F} kind t k e runs0 runs (Ok o)
read_whole F kind t own k e runs0 runs (Some o) ran = ran
read_whole F kind t own k e runs0 runs None ran = cc

-- and doesn't stop
pub read_on : {S : Type 0} (kind : Kind) (t : Truth) (own : List ℕ → S → Type 0) (k : List ℕ) (e : Tree) (runs0 runs : Ledger) (stop : S) → StaticEnds → is_static_tree e ≡ true → HasAll t (refs_of e) → Reads kind t own false k e runs0 runs (Err (Stop stop)) → ⊥
read_on kind t own k e runs0 runs stop ends fixed has ran = let value = (ends kind t e fixed has).1 in let stuck = ran.0.1 in cc
