-- A drive of checks, and of the task behind them.
use Rattle.std.proofs.Common.{◌≡◌, ℕ, ◌+◌, List, [], ◌∷◌, ◌++◌, Option, Some, None, Result, Ok, Err, refl, ap, sym, ◌∙◌, subst, length}
use Rattle.carte_value.specs.Truths.{Truth}
use Rattle.carte_value.specs.Asks.{Asks, done, and_then}
use Rattle.carte_value.specs.Once.{Answers, AnswersOf, Went}
use Rattle.carte_value.proofs.Once.{went_on, answers_on}
use Rattle.carte_effect.specs.declared.effect.Halt.{Halt}
use Rattle.carte_effect.specs.declared.effect.Halt.TheVariants.{Stop, NoMemory}
use Rattle.carte_effect.specs.declared.outcome.Made.{Made}
use Rattle.carte_effect.specs.declared.outcome.Made.TheVariants.{Ran, Reused}
use Rattle.carte_effect.specs.Outcomes.{Outcome, links_of}
use Rattle.carte_effect.specs.Effects.{more, SameStops}
use Rattle.carte_effect.specs.Jobs.{Step, came, stopped, no_memory, StepGave, Gave}
use Rattle.carte_effect.proofs.More.{more_more}
use Rattle.carte_task.specs.Answered.{Led, StopsAt}
use Rattle.carte_task.specs.Checking.{Checking}
use Rattle.carte_task.specs.Checks.{rest_from, Checked, Judges}
use Rattle.carte_task.specs.declared.check.Verdict.TheVariants.{Same, Differs}
use Rattle.carte_task.specs.Machines.{State}
use Rattle.carte_task.specs.MachineJobs.{GoesBy, MachineGives}
use Rattle.carte_rebuild.specs.Trying.{with_links, machine_left, judged_by, checked, tries, Gives}
use Rattle.carte_rebuild.specs.Tried.{Tried}
use Rattle.carte_rebuild.proofs.Behind.{went_links, led_none, led_on, led_then, stops_then}
use Rattle.carte_rebuild.proofs.Trials.{last_first}

-- 1. checks

-- and with its own
pub no_items : {A : Type 0} (xs : List A) → length xs ≡ 0 → xs ≡ []
no_items [] none = refl
no_items (x ∷ xs) none = cc

-- the checks so far, whatever comes behind them
abbrev pub LedTo : Truth → Option Answers → Option Answers → List Checking → List Checking → Type 0
LedTo t log0 log cs ds = (m : Asks Made) → (further : Answers) × Led t log0 log (tries cs m) further (tries ds m)

pub begins : (t : Truth) (log : Option Answers) (cs : List Checking) → LedTo t log log cs cs
begins t log cs m = ([], led_none t log (tries cs m))

-- the last check came to this
led_last : (t : Truth) (log0 log1 log : Option Answers) (cs ds : List Checking) (c : Checking) (r : Asks (Option ℕ)) (a : Answers) → LedTo t log0 log1 cs (ds ++ c ∷ []) → Led t log1 log (rest_from c) a r → (m : Asks Made) → (further : Answers) × Led t log0 log (tries cs m) further (and_then r (judged_by c.earlier (tries ds m)))
led_last t log0 log1 log cs ds c r a before led m =
    let b = before m in (
      b.0 ++ a,
      led_on t log0 log1 log (tries cs m) (checked c (tries ds m)) (and_then r (judged_by c.earlier (tries ds m))) b.0 a
          (subst (λ n. Led t log0 log1 (tries cs m) b.0 n) (last_first ds c m) b.1)
          (led_then t log1 log (rest_from c) r (judged_by c.earlier (tries ds m)) a led),
    )

-- it differs, and is dropped
pub last_differs : {S : Type 0} (t u : Truth) (own : List ℕ → S → Type 0) (log0 log1 log : Option Answers) (cs ds : List Checking) (c d : Checking) (i : ℕ) → u ≡ t → LedTo t log0 log1 cs (ds ++ c ∷ []) → Checked u own log1 log c d (Ok (Differs i)) → LedTo t log0 log cs ds
last_differs t u own log0 log1 log cs ds c d i same before (a, led) m =
    led_last t log0 log1 log cs ds c (done (Some i)) a before (subst (λ w. Led w log1 log (rest_from c) a (done (Some i))) same led) m

-- it holds
pub last_holds : {S : Type 0} (t u : Truth) (own other : List ℕ → S → Type 0) (log0 log1 log : Option Answers) (cs ds es : List Checking) (c d : Checking) (o : Outcome) → u ≡ t → LedTo t log0 log1 cs (ds ++ c ∷ []) → Checked u other log1 log c d (Ok (Same o)) → Judges u c (Same o) → Tried t own log0 log cs es (Ok (Some o))
last_holds t u own other log0 log1 log cs ds es c d o same before (a, led) (is, all) m =
    let n = led_last t log0 log1 log cs ds c (done None) a before (subst (λ w. Led w log1 log (rest_from c) a (done None)) same led) m in
    (n.0, subst (λ x. Led t log0 log (tries cs m) n.0 (done (Reused x))) (sym is) n.1)

-- it halts
pub last_halts : {S : Type 0} (t u : Truth) (own other : List ℕ → S → Type 0) (log0 log1 log : Option Answers) (cs ds : List Checking) (c d : Checking) (h : Halt S) → u ≡ t → SameStops own other → d.earlier ≡ c.earlier → LedTo t log0 log1 cs (ds ++ c ∷ []) → Checked u other log1 log c d (Err h) → Tried t own log0 log cs (ds ++ d ∷ []) (Err h)
last_halts t u own other log0 log1 log cs ds c d NoMemory same stops kept before (a, led) = λ m.
    let n = led_last t log0 log1 log cs ds c (rest_from d) a before (subst (λ w. Led w log1 log (rest_from c) a (rest_from d)) same led) m in
    (n.0, subst (λ r. Led t log0 log (tries cs m) n.0 r) (ap (λ x. and_then (rest_from d) (judged_by x (tries ds m))) (sym kept) ∙ sym (last_first ds d m)) n.1)
last_halts {S = S} t u own other log0 log1 log cs ds c d (Stop s) same stops kept before (a, led, stop) = λ m.
    let n = led_last t log0 log1 log cs ds c (rest_from d) a before (subst (λ w. Led w log1 log (rest_from c) a (rest_from d)) same led) m in
    let here : StopsAt t own (rest_from d) s = record { name = stop.name; go = stop.go; is = stop.is; none = ap (λ w. w stop.name) (sym same) ∙ stop.none; own_stop = stops.1 stop.name s stop.own_stop } in (
      n.0,
      subst (λ r. Led t log0 log (tries cs m) n.0 r) (ap (λ x. and_then (rest_from d) (judged_by x (tries ds m))) (sym kept) ∙ sym (last_first ds d m)) n.1,
      subst (λ r. StopsAt t own r s) (sym (last_first ds d m)) (stops_then t own (rest_from d) (judged_by d.earlier (tries ds m)) s here),
    )

-- 2. the task behind them

machine_went : (t : Truth) (a : Answers) (p q : State) → GoesBy t a p q → Went (machine_left p) a (machine_left q)
machine_went t a p q on = subst (λ b. Went (machine_left p) a (with_links q.key b q.rest)) (sym on.answers) (subst (λ k. Went (machine_left p) a (with_links k (p.answers ++ a) q.rest)) (sym on.key) (went_links p.key p.rest q.rest p.answers a on.went))

machine_step : (t : Truth) (a : Answers) (p q : State) (step : Step) → MachineGives p t a step q → Gives (machine_left p) t a step (machine_left q)
machine_step t a p q (came (Ran o)) (on, end) = (on.known, subst (λ r. Went (machine_left p) a r) (ap (with_links q.key q.answers) end.value ∙ ended) (machine_went t a p q on))
  where
    ended : with_links q.key q.answers (done o.value) ≡ done (Ran o)
    ended = ap (λ k. done (Ran (record { key = k; value = o.value; links = links_of q.answers }))) (sym end.key) ∙ ap (λ ls. done (Ran (record { key = o.key; value = o.value; links = ls }))) (sym end.links)
machine_step t a p q (came (Reused o)) never = absurd never
machine_step t a p q (stopped k) (on, (go, is), none) = (on.known, machine_went t a p q on, ((λ v. with_links q.key (q.answers ++ (k, v) ∷ []) (go v)), ap (with_links q.key q.answers) is), none)
machine_step t a p q no_memory on = (on.known, machine_went t a p q on)

-- what a drive of the machine gives is what a drive of the job gives
pub machine_gave : {J M S : Type 0} (left : J → Asks Made) (state : M → State) (t : Truth) (own : List ℕ → S → Type 0) (log0 log : Option Answers) (p q : J) (m n : M) (result : Result Made (Halt S)) → left p ≡ machine_left (state m) → left q ≡ machine_left (state n) → Gave (λ x u a step y. MachineGives (state x) u a step (state y)) t own log0 log m n result → Gave (λ x u a step y. Gives (left x) u a step (left y)) t own log0 log p q result
machine_gave {S = S} left state t own log0 log p q m n result from to gave = record { further = gave.further; known = gave.known; logged = gave.logged; gave = on result gave.gave }
  where
    step_on : (step : Step) → MachineGives (state m) t gave.further step (state n) → Gives (left p) t gave.further step (left q)
    step_on step is = subst (λ x. Gives x t gave.further step (left q)) (sym from) (subst (λ y. Gives (machine_left (state m)) t gave.further step y) (sym to) (machine_step t gave.further (state m) (state n) step is))

    on : (r : Result Made (Halt S)) → StepGave (λ x u a step y. MachineGives (state x) u a step (state y)) t own gave.further m n r → StepGave (λ x u a step y. Gives (left x) u a step (left y)) t own gave.further p q r
    on (Ok made) is = step_on (came made) is
    on (Err (Stop s)) (k, none, here, is) = (k, none, here, step_on (stopped k) is)
    on (Err NoMemory) is = step_on no_memory is

-- 3. both

-- an earlier end holds
pub gave_again : {J S : Type 0} (left : J → Asks Made) (t : Truth) (own : List ℕ → S → Type 0) (log0 log : Option Answers) (cs ds : List Checking) (m : Asks Made) (p q : J) (o : Outcome) → left p ≡ tries cs m → Tried t own log0 log cs ds (Ok (Some o)) → Gave (λ x u a step y. Gives (left x) u a step (left y)) t own log0 log p q (Ok (Reused o))
gave_again left t own log0 log cs ds m p q o from tried =
    let n = tried m in
    record { further = n.0; known = n.1.known; logged = n.1.logged; gave = (n.1.known, subst (λ x. Went x n.0 (done (Reused o))) (sym from) n.1.went) }

-- a check halts
pub gave_halt : {J S : Type 0} (left : J → Asks Made) (t : Truth) (own : List ℕ → S → Type 0) (log0 log : Option Answers) (cs ds : List Checking) (m : Asks Made) (p q : J) (h : Halt S) → left p ≡ tries cs m → left q ≡ tries ds m → Tried t own log0 log cs ds (Err h) → Gave (λ x u a step y. Gives (left x) u a step (left y)) t own log0 log p q (Err h)
gave_halt left t own log0 log cs ds m p q NoMemory from to tried =
    let n = tried m in
    record { further = n.0; known = n.1.known; logged = n.1.logged; gave = (n.1.known, rw (from, to) n.1.went) }
gave_halt left t own log0 log cs ds m p q (Stop stop) from to tried =
    let n = tried m in
    record { further = n.0; known = n.1.known; logged = n.1.logged; gave = (n.2.name, n.2.none, n.2.own_stop, (n.1.known, rw (from, to) n.1.went, (n.2.go, to ∙ n.2.is), n.2.none)) }

-- no check holds, and then the task was driven
pub gave_behind : {J S : Type 0} (left : J → Asks Made) (t u : Truth) (own other : List ℕ → S → Type 0) (log0 log1 log : Option Answers) (cs ds : List Checking) (m : Asks Made) (p mid q : J) (result : Result Made (Halt S)) → u ≡ t → SameStops own other → left p ≡ tries cs m → left mid ≡ m → Tried t own log0 log1 cs ds (Ok None) → Gave (λ x w a step y. Gives (left x) w a step (left y)) u other log1 log mid q result → Gave (λ x w a step y. Gives (left x) w a step (left y)) t own log0 log p q result
gave_behind {S = S} left t u own other log0 log1 log cs ds m p mid q result same stops from to tried gave = record {
  further = n.0 ++ gave.further;
  known = answers_on t n.0 gave.further n.1.known (subst (λ w. AnswersOf w gave.further) same gave.known);
  logged = gave.logged ∙ ap (λ l. more l gave.further) n.1.logged ∙ more_more log0 n.0 gave.further;
  gave = on result gave.gave;
}
  where
    n : (further : Answers) × Led t log0 log1 (tries cs m) further m
    n = tried.1 m

    way : (r : Asks Made) → Went (left mid) gave.further r → Went (left p) (n.0 ++ gave.further) r
    way r rest = subst (λ x. Went x (n.0 ++ gave.further) r) (sym from) (went_on (tries cs m) m r n.0 gave.further n.1.went (subst (λ x. Went x gave.further r) to rest))

    all : AnswersOf u gave.further → AnswersOf t (n.0 ++ gave.further)
    all of = answers_on t n.0 gave.further n.1.known (subst (λ w. AnswersOf w gave.further) same of)

    on : (r : Result Made (Halt S)) → StepGave (λ x w a step y. Gives (left x) w a step (left y)) u other gave.further mid q r → StepGave (λ x w a step y. Gives (left x) w a step (left y)) t own (n.0 ++ gave.further) p q r
    on (Ok made) (of, rest) = (all of, way (done made) rest)
    on (Err (Stop x)) (k, none, here, (of, rest, is, open_at)) = (k, ap (λ w. w k) (sym same) ∙ none, stops.1 k x here, (all of, way (left q) rest, is, ap (λ w. w k) (sym same) ∙ open_at))
    on (Err NoMemory) (of, rest) = (all of, way (left q) rest)
