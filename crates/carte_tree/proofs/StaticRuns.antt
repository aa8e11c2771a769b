-- Runs of what asks in turn, and so of static formulas.
use Rattle.std.proofs.Common.{◌∙◌, ◌≡◌, ℕ, Bool, true, false, not, cond, List, [], ◌∷◌, Some, None, Ok, refl, ap, subst, filter}
use Rattle.std.specs.Cmp.Lexicographic.{bytes_decides}
use Rattle.carte_name.specs.declared.kind.Kind.{Kind}
use Rattle.carte_value.specs.declared.value.Value.{Value}
use Rattle.carte_name.specs.Names.{name_eq}
use Rattle.carte_value.specs.Truths.{Truth}
use Rattle.carte_value.specs.Asks.{Asks, done, ask, run, asked, asked_on, firsts}
use Rattle.carte_value.specs.Once.{Answers, answer_in, once}
use Rattle.carte_tree.specs.Tree.{Tree}
use Rattle.carte_tree.specs.Meaning.{asks, eval, fetched}
use Rattle.carte_tree.specs.InTurn.{AsksInTurn, Each, HasAll, KnowsAll, until, go_on}
use Rattle.carte_tree.specs.Formula.{mentions, refs_of, is_static_tree}
use Rattle.carte_tree.proofs.Turns.{static_in_turn}

-- it ends where each name has a value
pub turn_ends : {A : Type 0} (t : Truth) (ks : List (List ℕ)) (m : Asks A) → AsksInTurn ks m → HasAll t ks → (a : A) × (run t m ≡ Ok a)
turn_ends t [] (done a) turn has = (a, refl)
turn_ends t [] (ask j go) turn has = absurd turn
turn_ends t (k ∷ ks) (done a) turn has = absurd turn
turn_ends t (k ∷ ks) (ask j go) turn has =
    let v = has.0.0 in
    let is : t j ≡ Some v = rw turn.0 at has.0.1 in
    rw is (turn_ends t ks (go v) (turn.1 v) has.1)

-- it asks for the names up to and with the first without a value
pub turn_asked : {A : Type 0} (t : Truth) (ks : List (List ℕ)) (m : Asks A) → AsksInTurn ks m → asked t m ≡ until t ks
turn_asked t [] (done a) turn = refl
turn_asked t [] (ask j go) turn = absurd turn
turn_asked t (k ∷ ks) (done a) turn = absurd turn
turn_asked t (k ∷ ks) (ask j go) turn =
    rw turn.0 (elim (t j) as (λ o. j ∷ asked_on o (λ v. asked t (go v)) ≡ j ∷ go_on o (until t ks)) [
      | None ↦ refl
      | Some v ↦ ap (λ js. j ∷ js) (turn_asked t ks (go v) (turn.1 v))
    ])

pub until-all : (t : Truth) (ks : List (List ℕ)) → HasAll t ks → until t ks ≡ ks
until-all t [] has = refl
until-all t (k ∷ ks) has = rw has.0.1 (ap (λ js. k ∷ js) (until-all t ks has.1))

-- over answers that have all of its names it ends as over the truth, whatever else there is
pub turn_run : {A : Type 0} (t u : Truth) (a : Answers) (ks : List (List ℕ)) (m : Asks A) → AsksInTurn ks m → KnowsAll a t ks → run u (once a m) ≡ run t m
turn_run t u a [] (done x) turn knows = refl
turn_run t u a [] (ask j go) turn knows = absurd turn
turn_run t u a (k ∷ ks) (done x) turn knows = absurd turn
turn_run t u a (k ∷ ks) (ask j go) turn knows =
    let v = knows.0.0 in
    let here : answer_in a j ≡ Some v = rw turn.0 at knows.0.1 in
    let is : t j ≡ Some v = rw turn.0 at knows.0.2 in
    rw (here, is) (turn_run t u a ks (go v) (turn.1 v) knows.1)

-- and asks for nothing more
pub turn_quiet : {A : Type 0} (t u : Truth) (a : Answers) (ks : List (List ℕ)) (m : Asks A) → AsksInTurn ks m → KnowsAll a t ks → asked u (once a m) ≡ []
turn_quiet t u a [] (done x) turn knows = refl
turn_quiet t u a [] (ask j go) turn knows = absurd turn
turn_quiet t u a (k ∷ ks) (done x) turn knows = absurd turn
turn_quiet t u a (k ∷ ks) (ask j go) turn knows =
    let v = knows.0.0 in
    let here : answer_in a j ≡ Some v = rw turn.0 at knows.0.1 in
    rw here (turn_quiet t u a ks (go v) (turn.1 v) knows.1)

-- names that have values may be left out
until-filter : (t : Truth) (p : List ℕ → Bool) (ks : List (List ℕ)) → ((k : List ℕ) → p k ≡ false → (v : Value) × (t k ≡ Some v)) → filter p (until t ks) ≡ until t (filter p ks)
until-filter t p [] has = refl
until-filter t p (k ∷ ks) has =
    elim (p k) as (λ b. p k ≡ b → cond b (k ∷ filter p (go_on (t k) (until t ks))) (filter p (go_on (t k) (until t ks))) ≡ until t (cond b (k ∷ filter p ks) (filter p ks))) [
      | true ↦ λ is. ap (λ js. k ∷ js) (elim (t k) as (λ o. filter p (go_on o (until t ks)) ≡ go_on o (until t (filter p ks))) [
        | None ↦ refl
        | Some v ↦ until-filter t p ks has
      ])
      | false ↦ λ is. rw (has k is).1 (until-filter t p ks has)
    ] refl

holds : (b : Bool) → not b ≡ false → b ≡ true
holds true h = refl
holds false h = cc

pub firsts-until : (t : Truth) (ks : List (List ℕ)) → firsts (until t ks) ≡ until t (firsts ks)
firsts-until t [] = refl
firsts-until t (k ∷ ks) =
    ap (λ js. k ∷ js) (elim (t k) as (λ o. t k ≡ o → filter (λ j. not (name_eq k j)) (firsts (go_on o (until t ks))) ≡ go_on o (until t (filter (λ j. not (name_eq k j)) (firsts ks)))) [
      | None ↦ λ is. refl
      | Some v ↦ λ is. rw (firsts-until t ks) (until-filter t (λ j. not (name_eq k j)) (firsts ks) (λ j same. (v, rw (← (bytes_decides k j).0 (holds (name_eq k j) same)) is)))
    ] refl)

-- a static formula looks up what it mentions, up to and with the first name without a value
pub static_fetched : (kind : Kind) (t : Truth) (e : Tree) → is_static_tree e ≡ true → fetched kind t e ≡ until t (refs_of e)
static_fetched kind t e h = rw (turn_asked t (mentions e) (asks kind e) (static_in_turn kind e h)) (firsts-until t (mentions e))

-- what holds of each name that is kept, and of each that is left out
each-filter : (P : List ℕ → Type 0) (p : List ℕ → Bool) (ks : List (List ℕ)) → ((k : List ℕ) → p k ≡ false → P k) → Each P (filter p ks) → Each P ks
each-filter P p [] out kept = tt
each-filter P p (k ∷ ks) out kept =
    elim (p k) as (λ b. p k ≡ b → Each P (cond b (k ∷ filter p ks) (filter p ks)) → Each P (k ∷ ks)) [
      | true ↦ λ is each. (each.0, each-filter P p ks out each.1)
      | false ↦ λ is each. (out k is, each-filter P p ks out each)
    ] refl kept

-- what holds of each name holds at each place at which it stands
pub each-firsts : (P : List ℕ → Type 0) (ks : List (List ℕ)) → Each P (firsts ks) → Each P ks
each-firsts P [] each = tt
each-firsts P (k ∷ ks) each =
    (each.0, each-firsts P ks (each-filter P (λ j. not (name_eq k j)) (firsts ks) (λ j same. subst P ((bytes_decides k j).0 (holds (name_eq k j) same)) each.0) each.1))

pub static_looks : (kind : Kind) (t : Truth) (e : Tree) → is_static_tree e ≡ true → HasAll t (refs_of e) → fetched kind t e ≡ refs_of e
static_looks kind t e h has = static_fetched kind t e h ∙ until-all t (refs_of e) has

pub static_ends : (kind : Kind) (t : Truth) (e : Tree) → is_static_tree e ≡ true → HasAll t (refs_of e) → (v : Value) × (eval kind t e ≡ Ok v)
static_ends kind t e h has = turn_ends t (mentions e) (asks kind e) (static_in_turn kind e h) (each-firsts (λ k. (v : Value) × (t k ≡ Some v)) (mentions e) has)

abbrev knows : Answers → Truth → List ℕ → Type 0
knows a t k = (v : Value) × (answer_in a k ≡ Some v) × (t k ≡ Some v)

pub static_run : (kind : Kind) (t u : Truth) (a : Answers) (e : Tree) → is_static_tree e ≡ true → KnowsAll a t (refs_of e) → run u (once a (asks kind e)) ≡ eval kind t e
static_run kind t u a e h has = turn_run t u a (mentions e) (asks kind e) (static_in_turn kind e h) (each-firsts (knows a t) (mentions e) has)

pub static_quiet : (kind : Kind) (t u : Truth) (a : Answers) (e : Tree) → is_static_tree e ≡ true → KnowsAll a t (refs_of e) → asked u (once a (asks kind e)) ≡ []
static_quiet kind t u a e h has = turn_quiet t u a (mentions e) (asks kind e) (static_in_turn kind e h) (each-firsts (knows a t) (mentions e) has)
