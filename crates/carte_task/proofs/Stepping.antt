-- What a drive is for the formula of a machine.
use Rattle.std.proofs.Common.{◌≡◌, ℕ, List, [], ◌∷◌, ◌++◌, Option, Some, None, Result, Ok, Err, map, refl, ap, sym, ◌∙◌, subst, append_assoc, append-nil}
use Rattle.carte_value.specs.declared.value.Value.{Value}
use Rattle.carte_value.specs.declared.link.Link.{Link}
use Rattle.carte_value.specs.Truths.{Truth}
use Rattle.carte_value.specs.Asks.{Asks, done, ask, run, asked, asked_on, answered}
use Rattle.carte_value.specs.Once.{Answers, answer_in, once_on, once, Went, or_else, and_answers, AnswersOf, names_of}
use Rattle.carte_value.proofs.Once.{went_on}
use Rattle.carte_value.proofs.Laws.{answer_new, and_known, machine_runs, machine_fetches}
use Rattle.carte_value.proofs.Fetches.{fetches}
use Rattle.carte_effect.specs.declared.effect.Halt.{Halt}
use Rattle.carte_effect.specs.declared.effect.Halt.TheVariants.{Stop, NoMemory}
use Rattle.carte_effect.specs.Outcomes.{Outcome, links_of}
use Rattle.carte_task.specs.Machines.{State, GoesOn, Drove}
use Rattle.carte_task.specs.Laws.{IsUnderWay, looks_up, Steps}

-- further answers that the truth gives anyhow change nothing
knows_anyhow : (t : Truth) (a b : Answers) → AnswersOf t b → and_answers (a ++ b) t ≡ and_answers a t
knows_anyhow t a [] of = ap (λ c. and_answers c t) (append-nil a)
knows_anyhow t a ((k, v) ∷ b) (is, of) = ap (λ c. and_answers c t) (sym (append_assoc a ((k, v) ∷ []) b)) ∙ knows_anyhow t (a ++ (k, v) ∷ []) b of ∙ and_known a t k v is

-- the answers on the way are those of the truth that knows them
answers_known : {A : Type 0} (t : Truth) (m r : Asks A) (b a : Answers) → Went (once b m) a r → AnswersOf (and_answers (b ++ a) t) a
answers_known t (done x) r b [] way = tt
answers_known t (done x) r b ((k, v) ∷ a) (go, is, way) = cc
answers_known {A = A} t (ask k go) r b a way =
    elim (answer_in b k) as (λ o. answer_in b k ≡ o → Went (once_on o b k (λ c v. once c (go v))) a r → AnswersOf (and_answers (b ++ a) t) a) [
      | Some v ↦ λ is here. answers_known t (go v) r b a here
      | None ↦ λ is here. asked_now t k go r b a is here (λ v c d. answers_known t (go v) r c d)
    ] refl way
  where
    asked_now : (t : Truth) (k : List ℕ) (go : Value → Asks A) (r : Asks A) (b a : Answers) → answer_in b k ≡ None → Went (ask k (λ v. once (b ++ (k, v) ∷ []) (go v))) a r → ((v : Value) (c d : Answers) → Went (once c (go v)) d r → AnswersOf (and_answers (c ++ d) t) d) → AnswersOf (and_answers (b ++ a) t) a
    asked_now t k go r b [] none here on = tt
    asked_now t k go r b ((j, w) ∷ a) none (next, is, way) on =
        let same : k ≡ j = cc in
        let goes : (λ v. once (b ++ (k, v) ∷ []) (go v)) ≡ next = cc in
        let there : Went (once (b ++ (k, w) ∷ []) (go w)) a r = subst (λ f. Went (f w) a r) (sym goes) way in
        let joined : (b ++ (k, w) ∷ []) ++ a ≡ b ++ ((k, w) ∷ a) = append_assoc b ((k, w) ∷ []) a in
        let rest : AnswersOf (and_answers (b ++ ((k, w) ∷ a)) t) a = subst (λ c. AnswersOf (and_answers c t) a) joined (on w (b ++ (k, w) ∷ []) a there) in
        let here : and_answers (b ++ ((k, w) ∷ a)) t k ≡ Some w = ap (λ o. or_else o (t k)) (answer_new b a k w none) in
        subst (λ i. AnswersOf (and_answers (b ++ ((i, w) ∷ a)) t) ((i, w) ∷ a)) same (here, rest)

-- what is left asks only for names without an answer
asks_new : {A : Type 0} (m : Asks A) (b a : Answers) (k : List ℕ) (next : Value → Asks A) → Went (once b m) a (ask k next) → answer_in (b ++ a) k ≡ None
asks_new (done x) b [] k next is = cc
asks_new (done x) b ((j, v) ∷ a) k next (go, is, way) = cc
asks_new {A = A} (ask j go) b a k next way =
    elim (answer_in b j) as (λ o. answer_in b j ≡ o → Went (once_on o b j (λ c v. once c (go v))) a (ask k next) → answer_in (b ++ a) k ≡ None) [
      | Some v ↦ λ is here. asks_new (go v) b a k next here
      | None ↦ λ is here. asks_now j go b a is here (λ v c d. asks_new (go v) c d k next)
    ] refl way
  where
    asks_now : (j : List ℕ) (go : Value → Asks A) (b a : Answers) → answer_in b j ≡ None → Went (ask j (λ v. once (b ++ (j, v) ∷ []) (go v))) a (ask k next) → ((v : Value) (c d : Answers) → Went (once c (go v)) d (ask k next) → answer_in (c ++ d) k ≡ None) → answer_in (b ++ a) k ≡ None
    asks_now j go b [] none is on = let same : j ≡ k = cc in ap (λ c. answer_in c k) (append-nil b) ∙ ap (answer_in b) (sym same) ∙ none
    asks_now j go b ((i, w) ∷ a) none (next_go, is, way) on =
        let same : j ≡ i = cc in
        let goes : (λ v. once (b ++ (j, v) ∷ []) (go v)) ≡ next_go = cc in
        let there : Went (once (b ++ (j, w) ∷ []) (go w)) a (ask k next) = subst (λ f. Went (f w) a (ask k next)) (sym goes) way in
        ap (λ n. answer_in (b ++ ((n, w) ∷ a)) k) (sym same) ∙ ap (λ c. answer_in c k) (sym (append_assoc b ((j, w) ∷ []) a)) ∙ on w (b ++ (j, w) ∷ []) a there

link_names : (a : Answers) → map (λ (l : Link). l.name) (links_of a) ≡ names_of a
link_names [] = refl
link_names ((k, v) ∷ a) = ap (λ ks. k ∷ ks) (link_names a)

-- over the truth and the answers of before, it runs as what is left over the truth, and looks up what was answered and then what is left
runs_on : (t : Truth) (log0 log : Option Answers) (p q : State) → GoesOn t log0 log p q → IsUnderWay p → (run (and_answers p.answers t) p.whole ≡ run t q.rest) × (looks_up (and_answers p.answers t) p ≡ names_of q.answers ++ asked (and_answers p.answers t) q.rest)
runs_on t log0 log p q on under_way =
    let further = on.along.further in
    let way : Went (once [] p.whole) (p.answers ++ further) q.rest = went_on (once [] p.whole) p.rest q.rest p.answers further under_way on.along.led.went in
    let same : and_answers (p.answers ++ further) t ≡ and_answers p.answers t = knows_anyhow t p.answers further on.along.led.known in
    let known : AnswersOf (and_answers p.answers t) (p.answers ++ further) = subst (λ u. AnswersOf u (p.answers ++ further)) same (answers_known t p.whole q.rest [] (p.answers ++ further) way) in (
      ap (λ u. run u p.whole) (sym same) ∙ machine_runs t p.whole q.rest (p.answers ++ further) way,
      sym (fetches (and_answers p.answers t) p.whole) ∙ machine_fetches (and_answers p.answers t) p.whole q.rest (p.answers ++ further) way known ∙ ap (λ a. names_of a ++ asked (and_answers p.answers t) q.rest) (sym on.along.answers),
    )

-- the machine stays under way
pub under_way_on : (t : Truth) (log0 log : Option Answers) (p q : State) → GoesOn t log0 log p q → IsUnderWay p → IsUnderWay q
under_way_on t log0 log p q on under_way =
    let way : Went (once [] p.whole) (p.answers ++ on.along.further) q.rest = went_on (once [] p.whole) p.rest q.rest p.answers on.along.further under_way on.along.led.went in
    let P : Answers → Type 0 = λ a. Went (once [] p.whole) a q.rest in
    let Q : Asks Value → Type 0 = λ m. Went (once [] m) q.answers q.rest in
    subst Q (sym on.whole) (subst P (sym on.along.answers) way)

pub drove_steps : {S : Type 0} (t : Truth) (own : List ℕ → S → Type 0) (log0 log : Option Answers) (p q : State) (result : Result Outcome (Halt S)) → Drove t own log0 log p q result → IsUnderWay p → Steps t own p q result
drove_steps t own log0 log p q (Ok o) (on, end, ended) under_way =
    let both = runs_on t log0 log p q on under_way in
    let names : names_of q.answers ≡ looks_up (and_answers p.answers t) p = sym (both.1 ∙ ap (λ m. names_of q.answers ++ asked (and_answers p.answers t) m) end.value ∙ append-nil (names_of q.answers)) in
    (both.0 ∙ ap (run t) end.value, names, ap (map (λ (l : Link). l.name)) end.links ∙ link_names q.answers ∙ names)
drove_steps t own log0 log p q (Err (Stop s)) (on, stops, ended) under_way =
    let both = runs_on t log0 log p q on under_way in
    let stuck : run t q.rest ≡ Err stops.name = ap (run t) stops.is ∙ ap (λ o. answered o stops.name (λ v. run t (stops.go v))) stops.none in
    let all : Answers = p.answers ++ on.along.further in
    let way : Went (once [] p.whole) all q.rest = went_on (once [] p.whole) p.rest q.rest p.answers on.along.further under_way on.along.led.went in
    let unknown : answer_in all stops.name ≡ None = asks_new p.whole [] all stops.name stops.go (subst (λ r. Went (once [] p.whole) all r) stops.is way) in
    let none : and_answers p.answers t stops.name ≡ None = ap (λ u. u stops.name) (sym (knows_anyhow t p.answers on.along.further on.along.led.known)) ∙ ap (λ o. or_else o (t stops.name)) unknown ∙ stops.none in
    let last : asked (and_answers p.answers t) q.rest ≡ stops.name ∷ [] = ap (asked (and_answers p.answers t)) stops.is ∙ ap (λ o. stops.name ∷ asked_on o (λ v. asked (and_answers p.answers t) (stops.go v))) none in
    (stops.name, both.0 ∙ stuck, stops.own_stop, ap (λ ks. names_of q.answers ++ ks) (sym last) ∙ sym both.1)
drove_steps t own log0 log p q (Err NoMemory) (on, halted, ended) under_way = (asked (and_answers p.answers t) q.rest, sym (runs_on t log0 log p q on under_way).1)
