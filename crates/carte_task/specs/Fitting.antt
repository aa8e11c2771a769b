-- A machine that fits asks for its needs alone, ends with its value, or stops at a need and fits on.
use Rattle.std.proofs.Common.{◌≡◌, ℕ, List, [], ◌∷◌, ◌++◌, Option, refl, ap, sym, ◌∙◌, subst, inl, inr, append-nil, append_assoc}
use Rattle.carte_value.specs.declared.value.Value.{Value}
use Rattle.carte_value.specs.Truths.{Truth, Extends, Among}
use Rattle.carte_value.specs.Asks.{run, asked, firsts}
use Rattle.carte_value.specs.Once.{Answers, Went, once, and_answers, AnswersOf, names_of}
use Rattle.carte_value.proofs.Once.{went_on, answers_on, names_on}
use Rattle.carte_value.proofs.Laws.{and_known, machine_runs, machine_fetches}
use Rattle.carte_value.proofs.Fetches.{fetches}
use Rattle.carte_effect.specs.declared.outcome.Made.TheVariants.{Ran, Reused}
use Rattle.carte_task.specs.Machines.{State}
use Rattle.carte_task.specs.Laws.{IsUnderWay}
use Rattle.carte_effect.specs.Jobs.{Step, came, stopped, no_memory, StepFits, DriveFits}
use Rattle.carte_task.specs.MachineJobs.{GoesBy, MachineGives, FitsMachine}

known_more : (t u : Truth) (a : Answers) → Extends t u → AnswersOf t a → AnswersOf u a
known_more t u [] more of = tt
known_more t u ((k, v) ∷ a) more (is, of) = (more k v is, known_more t u a more of)

among_first : (ks js : List (List ℕ)) (k : List ℕ) → Among ks k → Among (ks ++ js) k
among_first [] js k h = absurd h
among_first (i ∷ ks) js k (inl same) = inl same
among_first (i ∷ ks) js k (inr later) = inr (among_first ks js k later)

among_on : (ks js : List (List ℕ)) (k : List ℕ) → Among js k → Among (ks ++ js) k
among_on [] js k h = h
among_on (i ∷ ks) js k h = inr (among_on ks js k h)

-- answers that the truth gives anyhow change nothing
knows_anyhow : (t : Truth) (a b : Answers) → AnswersOf t b → and_answers (a ++ b) t ≡ and_answers a t
knows_anyhow t a [] of = ap (λ c. and_answers c t) (append-nil a)
knows_anyhow t a ((k, v) ∷ b) (is, of) = ap (λ c. and_answers c t) (sym (append_assoc a ((k, v) ∷ []) b)) ∙ knows_anyhow t (a ++ (k, v) ∷ []) b of ∙ and_known a t k v is

-- over the truth of its answers it runs as what is left
runs_as : (q : State) (t : Truth) → IsUnderWay q → AnswersOf t q.answers → run t q.whole ≡ run t q.rest
runs_as q t way known = ap (λ u. run u q.whole) (sym (knows_anyhow t [] q.answers known)) ∙ machine_runs t q.whole q.rest q.answers way

-- what it looks up there is what was answered, and what is left to look up
looks_as : (q : State) (t : Truth) → IsUnderWay q → AnswersOf t q.answers → firsts (asked t q.whole) ≡ names_of q.answers ++ asked t q.rest
looks_as q t way known = sym (fetches t q.whole) ∙ machine_fetches t q.whole q.rest q.answers way known

-- what fits before fits after
fits_after : (p q : State) (t part : Truth) (k : List ℕ) (v : Option Value) (needs asks : List (List ℕ)) (further : Answers) → FitsMachine p t k v needs asks → Extends part t → GoesBy part further p q → FitsMachine q t k v needs asks
fits_after p q t part k v needs asks further fits more on =
    let way : Went (once [] p.whole) (p.answers ++ further) q.rest = went_on (once [] p.whole) p.rest q.rest p.answers further fits.under_way on.went in
    record {
      key = on.key ∙ fits.key;
      under_way = subst (λ m. Went (once [] m) q.answers q.rest) (sym on.whole) (subst (λ a. Went (once [] p.whole) a q.rest) (sym on.answers) way);
      known = subst (AnswersOf t) (sym on.answers) (answers_on t p.answers further fits.known (known_more part t further more on.known));
      ends = λ w is. fits.ends w (ap (run t) (sym on.whole) ∙ is);
      needs_are = fits.needs_are ∙ ap (λ m. firsts (asked t m)) (sym on.whole);
      asks_needs = fits.asks_needs;
    }

-- what was answered further is among the needs
asked_needs : (p q : State) (t part : Truth) (k : List ℕ) (v : Option Value) (needs asks : List (List ℕ)) (further : Answers) → FitsMachine q t k v needs asks → GoesBy part further p q → (j : List ℕ) → Among (names_of further) j → Among needs j
asked_needs p q t part k v needs asks further after on j here =
    let all : names_of q.answers ≡ names_of p.answers ++ names_of further = ap names_of on.answers ∙ names_on p.answers further in
    subst (λ ks. Among ks j) (sym (after.needs_are ∙ looks_as q t after.under_way after.known)) (among_first (names_of q.answers) (asked t q.rest) j (subst (λ ks. Among ks j) (sym all) (among_on (names_of p.answers) (names_of further) j here)))

step_fits : {J : Type 0} (state : J → State) (p q : J) (t part : Truth) (k : List ℕ) (v : Option Value) (needs asks : List (List ℕ)) (further : Answers) (step : Step) → FitsMachine (state q) t k v needs asks → MachineGives (state p) part further step (state q) → StepFits (λ m. FitsMachine (state m)) t k v needs asks part step q
step_fits state p q t part k v needs asks further (came (Ran o)) after (on, end) = (
  end.key ∙ after.key,
  after.ends o.value (runs_as (state q) t after.under_way after.known ∙ ap (run t) end.value),
  record {
    answers = (state q).answers;
    known = after.known;
    names = sym (after.needs_are ∙ looks_as (state q) t after.under_way after.known ∙ ap (λ m. names_of (state q).answers ++ asked t m) end.value ∙ append-nil (names_of (state q).answers));
    links_are = end.links;
  },
)
step_fits state p q t part k v needs asks further (came (Reused o)) after never = absurd never
step_fits state p q t part k v needs asks further (stopped j) after (on, (go, is), none) =
    let there : Among (names_of (state q).answers ++ asked t (state q).rest) j = among_on (names_of (state q).answers) (asked t (state q).rest) j (subst (λ m. Among (asked t m) j) (sym is) (inl refl)) in
    (subst (λ ks. Among ks j) (sym (after.needs_are ∙ looks_as (state q) t after.under_way after.known)) there, none, after)
step_fits state p q t part k v needs asks further no_memory after on = after

goes_by : (p q : State) (t : Truth) (further : Answers) (step : Step) → MachineGives p t further step q → GoesBy t further p q
goes_by p q t further (came (Ran o)) (on, end) = on
goes_by p q t further (came (Reused o)) never = absurd never
goes_by p q t further (stopped j) (on, is, none) = on
goes_by p q t further no_memory on = on

pub fits_on : {J : Type 0} (state : J → State) (p q : J) (t part : Truth) (k : List ℕ) (v : Option Value) (needs asks : List (List ℕ)) (further : Answers) (step : Step) → FitsMachine (state p) t k v needs asks → Extends part t → MachineGives (state p) part further step (state q) → DriveFits (λ m. FitsMachine (state m)) t k v needs asks part further step q
fits_on state p q t part k v needs asks further step fits more gives =
    let on = goes_by (state p) (state q) part further step gives in
    let after = fits_after (state p) (state q) t part k v needs asks further fits more on in
    record {
      asked = λ j here. fits.asks_needs j (asked_needs (state p) (state q) t part k v needs asks further after on j here);
      step_fits = step_fits state p q t part k v needs asks further step after gives;
    }
