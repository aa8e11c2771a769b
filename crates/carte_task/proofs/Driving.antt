-- A task on its way: names that are looked up, and instructions that are passed over.
use Rattle.std.proofs.Common.{◌≡◌, ℕ, ◌+◌, ◌<◌, Bool, List, [], ◌∷◌, ◌++◌, Option, Some, None, Result, Ok, Err, inl, inr, refl, ap, sym, ◌∙◌, subst, zero, suc, length, get_or, drop, add-one, append_assoc}
use Rattle.std.specs.Result.{IsErr, IsErrAnd}
use Rattle.std.specs.List.{slice_get}
use Rattle.std.proofs.Math.Seq.{drop-cons, drop-nil}
use Rattle.std.proofs.Math.ListN.{drop_of_length-le}
use Rattle.std.proofs.lemmas.Option.{slice_get_cases, slice_get_within, get_or_from_slice_get}
use Rattle.carte_name.specs.declared.kind.Kind.{Kind}
use Rattle.carte_value.specs.declared.value.Value.{Value}
use Rattle.carte_value.specs.Truths.{Truth}
use Rattle.carte_value.specs.Asks.{Asks, done, ask}
use Rattle.carte_value.specs.Once.{Answers, once}
use Rattle.carte_effect.specs.declared.effect.Halt.{Halt}
use Rattle.carte_effect.specs.declared.effect.Halt.TheVariants.{Stop, NoMemory}
use Rattle.carte_task.specs.declared.code.Instr.{Instr}
use Rattle.carte_task.specs.declared.code.Instr.TheVariants as i
use Rattle.carte_task.specs.declared.code.Next.{Next}
use Rattle.carte_task.specs.declared.code.Next.TheVariants.{Behind}
use Rattle.carte_effect.specs.Effects.{more, SameStops}
use Rattle.carte_task.specs.Answered.{IsAnswer, Answered, Along, Halted}
use Rattle.carte_task.specs.Code.{pushed, exec, top}
use Rattle.carte_task.specs.Applying.{goes}
use Rattle.carte_value.proofs.Once.{went_on, answers_on}
use Rattle.carte_task.specs.declared.progress.Progress.{Progress}
use Rattle.carte_task.specs.State.{answers_in, pending, waits, rest_in, Looked, Proceeds, Stepped, Goes}
use Rattle.carte_effect.proofs.More.{more_more}
use Rattle.carte_task.proofs.Answering.{along_answer, along_halts, along_same, along_start}

-- the next of the names to be looked up
next_of : {X : Type 0} (xs : List X) (at : ℕ) (x : X) → at < length xs → x ≡ get_or xs at x → drop at xs ≡ x ∷ drop (at + 1) xs
next_of xs at x within is = drop-cons xs at x within ∙ ap (λ y. y ∷ drop (suc at) xs) (sym is) ∙ ap (λ n. x ∷ drop n xs) (sym (add-one at))

-- there is none
pub none_left : {X : Type 0} (xs : List X) (at : ℕ) → slice_get xs at ≡ None → drop at xs ≡ []
none_left xs at none = elim (slice_get_cases xs at).1 [
  | inl (x, within, some, here) ↦ cc
  | inr (past, same) ↦ drop_of_length-le xs past
]

-- it has an answer
pub looking_on : (t u : Truth) (log0 log1 log : Option Answers) (a0 a1 a : Answers) (r0 : Asks Value) (names : List (List ℕ)) (at : ℕ) (vs ws : List Value) (k : List ℕ) (v : Value) (go : List Value → Asks Value) → u ≡ t → at < length names → k ≡ get_or names at k → ws ≡ vs ++ v ∷ [] → IsAnswer u log1 log a1 a k v → Along t log0 log1 a0 r0 a1 (once a1 (pushed (drop at names) vs go)) → Along t log0 log a0 r0 a (once a (pushed (drop (at + 1) names) ws go))
looking_on t u log0 log1 log a0 a1 a r0 names at vs ws k v go same within is new answer way =
    let P : List (List ℕ) → Type 0 = λ ks. Along t log0 log1 a0 r0 a1 (once a1 (pushed ks vs go)) in
    let Q : Truth → Type 0 = λ w. IsAnswer w log1 log a1 a k v in
    let R : List Value → Type 0 = λ us. Along t log0 log a0 r0 a (once a (pushed (drop (at + 1) names) us go)) in
    subst R (sym new) (along_answer t log0 log1 log a0 a1 a r0 k v (λ w. pushed (drop (at + 1) names) (vs ++ w ∷ []) go) (subst P (next_of names at k within is) way) (subst Q same answer))

-- the effect's stops are those of the beginning
own_again : {S : Type 0} (t : Truth) (own other : List ℕ → S → Type 0) (log0 log : Option Answers) (a0 a : Answers) (k : List ℕ) (h : Halt S) → SameStops own other → Answered t other log0 log a0 a k (Err h) → Answered t own log0 log a0 a k (Err h)
own_again t own other log0 log a0 a k (Stop s) same (unknown, none, here, still, listed) = (unknown, none, same.1 k s here, still, listed)
own_again t own other log0 log a0 a k NoMemory same answered = answered

-- it halts
pub looking_halts : {B S : Type 0} (t u : Truth) (own other : List ℕ → S → Type 0) (log0 log1 log : Option Answers) (a0 a1 a : Answers) (r0 : Asks Value) (names : List (List ℕ)) (at : ℕ) (vs ws : List Value) (k : List ℕ) (h : Halt S) (P : B → Type 0) (go : List Value → Asks Value) → u ≡ t → ws ≡ vs → SameStops own other → at < length names → k ≡ get_or names at k → Answered u other log1 log a1 a k (Err h) → Along t log0 log1 a0 r0 a1 (once a1 (pushed (drop at names) vs go)) → Along t log0 log a0 r0 a (once a (pushed (drop at names) ws go)) × Halted t own (once a (pushed (drop at names) ws go)) P (Err h)
looking_halts {B = B} {S = S} t u own other log0 log1 log a0 a1 a r0 names at vs ws k h P go same still stops within is answer way =
    let Q : List (List ℕ) → Type 0 = λ ks. Along t log0 log1 a0 r0 a1 (once a1 (pushed ks vs go)) in
    let R : List (List ℕ) → Type 0 = λ ks. Along t log0 log a0 r0 a (once a (pushed ks vs go)) × Halted t own (once a (pushed ks vs go)) P (Err h) in
    let V : List Value → Type 0 = λ us. Along t log0 log a0 r0 a (once a (pushed (drop at names) us go)) × Halted t own (once a (pushed (drop at names) us go)) P (Err h) in
    let W : Truth → Type 0 = λ w. Answered w other log1 log a1 a k (Err h) in
    let e : drop at names ≡ k ∷ drop (at + 1) names = next_of names at k within is in
    subst V (sym still) (subst R (sym e) (along_halts t own log0 log1 log a0 a1 a r0 k (λ w. pushed (drop (at + 1) names) (vs ++ w ∷ []) go) P h (subst Q e way) (own_again t own other log1 log a1 a k h stops (subst W same answer))))

-- instructions that are passed over
pub exec_skip : (kind : Kind) (n : ℕ) (code : List Instr) (vs : List Value) → exec kind n code vs ≡ exec kind 0 (drop n code) vs
exec_skip kind n [] vs = ap (λ cs. exec kind 0 cs vs) (sym (drop-nil n))
exec_skip kind zero (c ∷ code) vs = refl
exec_skip kind (suc n) (c ∷ code) vs = exec_skip kind n code vs

pub settled_behind : (kind : Kind) (code rest : List Instr) (a : Answers) (ks : List (List ℕ)) (vs : List Value) (next : Next) (n : ℕ) → ks ≡ [] → next ≡ Behind n → rest ≡ drop n code → once a (pushed ks vs (goes (Behind 0) (λ m us. exec kind m rest us))) ≡ once a (pushed ks vs (goes next (λ m us. exec kind m code us)))
settled_behind kind code rest a ks vs next n none is behind = rw (none, is, behind) (ap (once a) (sym (exec_skip kind n code vs)))

-- answers and then further answers
along_on : (t : Truth) (log0 log1 log : Option Answers) (a0 a1 a : Answers) (r0 r1 r : Asks Value) → Along t log0 log1 a0 r0 a1 r1 → Along t log1 log a1 r1 a r → Along t log0 log a0 r0 a r
along_on t log0 log1 log a0 a1 a r0 r1 r way on = record {
  further = way.further ++ on.further;
  answers = on.answers ∙ ap (λ b. b ++ on.further) way.answers ∙ append_assoc a0 way.further on.further;
  led = record {
    known = answers_on t way.further on.further way.led.known on.led.known;
    went = went_on r0 r1 r way.further on.further way.led.went on.led.went;
    logged = on.led.logged ∙ ap (λ l. more l on.further) way.led.logged ∙ more_more log0 way.further on.further;
  };
}

own_halts : {A B S : Type 0} (t : Truth) (own other : List ℕ → S → Type 0) (r : Asks A) (P : B → Type 0) (result : Result B (Halt S)) → SameStops own other → Halted t other r P result → Halted t own r P result
own_halts t own other r P (Ok b) same halted = halted
own_halts t own other r P (Err (Stop s)) same halted = record { name = halted.name; go = halted.go; is = halted.is; none = halted.none; own_stop = same.1 halted.name s halted.own_stop }
own_halts t own other r P (Err NoMemory) same halted = tt

halts_alike : {A B S : Type 0} (t : Truth) (own : List ℕ → S → Type 0) (r : Asks A) (P Q : B → Type 0) (h : Halt S) → Halted t own r P (Err h) → Halted t own r Q (Err h)
halts_alike t own r P Q (Stop s) halted = halted
halts_alike t own r P Q NoMemory halted = tt

-- names were looked up on the way
pub looked_on : {S : Type 0} (kind : Kind) (code : List Instr) (t u : Truth) (own other : List ℕ → S → Type 0) (log0 log1 log : Option Answers) (p0 p q : Progress) (result : Result (Unit {0}) (Halt S)) → u ≡ t → SameStops own other → q.at ≡ p.at → q.next ≡ p.next → Along t log0 log1 (answers_in p0) (rest_in kind code p0) (answers_in p) (rest_in kind code p) → Looked u other log1 log p q result → Along t log0 log (answers_in p0) (rest_in kind code p0) (answers_in q) (rest_in kind code q) × Halted {B = Unit {0}} t own (rest_in kind code q) (λ x. pending q ≡ []) result
looked_on {S = S} kind code t u own other log0 log1 log p0 p q result same stops at next way looked =
    let go : List Value → Asks Value = goes p.next (λ n vs. exec kind n (drop p.at code) vs) in
    let rest : waits q go ≡ rest_in kind code q = ap (λ n. waits q (goes n (λ m vs. exec kind m (drop p.at code) vs))) (sym next) ∙ ap (λ i. waits q (goes q.next (λ m vs. exec kind m (drop i code) vs))) (sym at) in
    let P : Truth → Type 0 = λ w. Along w log1 log (answers_in p) (waits p go) (answers_in q) (waits q go) × Halted {B = Unit {0}} w other (waits q go) (λ x. pending q ≡ []) result in
    let Q : Asks Value → Type 0 = λ r. Along t log1 log (answers_in p) (waits p go) (answers_in q) r × Halted {B = Unit {0}} t other r (λ x. pending q ≡ []) result in
    let here : Q (rest_in kind code q) = subst Q rest (subst P same (looked go)) in
    (along_on t log0 log1 log (answers_in p0) (answers_in p) (answers_in q) (rest_in kind code p0) (waits p go) (rest_in kind code q) way here.0, own_halts t own other (rest_in kind code q) (λ x. pending q ≡ []) result stops here.1)

-- a drive that halts as names are looked up
pub looking_stops : {S : Type 0} (kind : Kind) (code : List Instr) (t u : Truth) (own other : List ℕ → S → Type 0) (log0 log1 log : Option Answers) (p0 p q : Progress) (h : Halt S) → u ≡ t → SameStops own other → q.at ≡ p.at → q.next ≡ p.next → Along t log0 log1 (answers_in p0) (rest_in kind code p0) (answers_in p) (rest_in kind code p) → Looked u other log1 log p q (Err h) → Proceeds kind code t own log0 log p0 q (Err h)
looking_stops {S = S} kind code t u own other log0 log1 log p0 p q h same stops at next way looked =
    let here = looked_on kind code t u own other log0 log1 log p0 p q (Err h) same stops at next way looked in
    (here.0, halts_alike t own (rest_in kind code q) (λ (x : Unit {0}). pending q ≡ []) (λ x. rest_in kind code q ≡ done (top q.values.items)) h here.1)

-- what a look asks
asks_look : (kind : Kind) (code : List Instr) (a : Answers) (at : ℕ) (vs : List Value) (k : List ℕ) → slice_get code at ≡ Some (i.Look k) → once a (exec kind 0 (drop at code) vs) ≡ once a (ask k (λ v. exec kind 0 (drop (at + 1) code) (vs ++ v ∷ [])))
asks_look kind code a at vs k is =
    ap (λ cs. once a (exec kind 0 cs vs)) (next_of code at (i.Look k) (slice_get_within code at (i.Look k) is) (sym (get_or_from_slice_get code at (i.Look k) (i.Look k) is)))

look_at : (kind : Kind) (code : List Instr) (t : Truth) (log : Option Answers) (a : Answers) (at : ℕ) (vs : List Value) (k : List ℕ) → slice_get code at ≡ Some (i.Look k) → Along t log log a (once a (exec kind 0 (drop at code) vs)) a (once a (ask k (λ v. exec kind 0 (drop (at + 1) code) (vs ++ v ∷ []))))
look_at kind code t log a at vs k is =
    let here : Asks Value = once a (exec kind 0 (drop at code) vs) in
    along_same t log log a a a here here (once a (ask k (λ v. exec kind 0 (drop (at + 1) code) (vs ++ v ∷ [])))) refl (asks_look kind code a at vs k is) (along_start t log a here)

-- a look has its answer
pub look_on : (kind : Kind) (code : List Instr) (t : Truth) (log0 log : Option Answers) (a0 a : Answers) (ks : List (List ℕ)) (next : Next) (at : ℕ) (vs ws : List Value) (k : List ℕ) (v : Value) → ks ≡ [] → next ≡ Behind 0 → slice_get code at ≡ Some (i.Look k) → IsAnswer t log0 log a0 a k v → ws ≡ vs ++ v ∷ [] → Along t log0 log a0 (once a0 (pushed ks vs (goes next (λ n us. exec kind n (drop at code) us)))) a (once a (pushed ks ws (goes next (λ n us. exec kind n (drop (at + 1) code) us))))
look_on kind code t log0 log a0 a ks next at vs ws k v none behind is answer new =
    rw (none, behind, new) (along_answer t log0 log0 log a0 a0 a (once a0 (exec kind 0 (drop at code) vs)) k v (λ w. exec kind 0 (drop (at + 1) code) (vs ++ w ∷ [])) (look_at kind code t log0 a0 at vs k is) answer)

-- a look halts
pub look_halts : {B S : Type 0} (kind : Kind) (code : List Instr) (t : Truth) (own : List ℕ → S → Type 0) (log0 log : Option Answers) (a0 a : Answers) (ks : List (List ℕ)) (next : Next) (at : ℕ) (vs ws : List Value) (k : List ℕ) (P : B → Type 0) (h : Halt S) → ks ≡ [] → next ≡ Behind 0 → slice_get code at ≡ Some (i.Look k) → Answered t own log0 log a0 a k (Err h) → ws ≡ vs → Along t log0 log a0 (once a0 (pushed ks vs (goes next (λ n us. exec kind n (drop at code) us)))) a (once a (pushed ks ws (goes next (λ n us. exec kind n (drop at code) us)))) × Halted t own (once a (pushed ks ws (goes next (λ n us. exec kind n (drop at code) us)))) P (Err h)
look_halts {B = B} kind code t own log0 log a0 a ks next at vs ws k P h none behind is answer still =
    let go : Value → Asks Value = λ w. exec kind 0 (drop (at + 1) code) (vs ++ w ∷ []) in
    let here = once a0 (exec kind 0 (drop at code) vs) in
    let Q : Asks Value → Type 0 = λ r. Along t log0 log a0 here a r × Halted {B = B} t own r P (Err h) in
    let going : ℕ → List Value → Asks Value = λ n us. exec kind n (drop at code) us in
    let before : once a0 (pushed ks vs (goes next going)) ≡ here = rw (none, behind) refl in
    let after : once a (pushed ks ws (goes next going)) ≡ once a (exec kind 0 (drop at code) vs) = rw (none, behind, still) refl in
    let R : Asks Value → Type 0 = λ r. Along t log0 log a0 r a (once a (exec kind 0 (drop at code) vs)) × Halted {B = B} t own (once a (exec kind 0 (drop at code) vs)) P (Err h) in
    let V : Asks Value → Type 0 = λ r. Along t log0 log a0 (once a0 (pushed ks vs (goes next going))) a r × Halted {B = B} t own r P (Err h) in
    subst V (sym after) (subst R (sym before) (subst Q (sym (asks_look kind code a at vs k is)) (along_halts t own log0 log0 log a0 a0 a here k go P h (look_at kind code t log0 a0 at vs k is) answer)))

-- nothing was asked
pub stays : (kind : Kind) (code : List Instr) (t : Truth) (log : Option Answers) (p q : Progress) → answers_in q ≡ answers_in p → rest_in kind code q ≡ rest_in kind code p → Along t log log (answers_in p) (rest_in kind code p) (answers_in q) (rest_in kind code q)
stays kind code t log p q answers rest = along_same t log log (answers_in p) (answers_in p) (answers_in q) (rest_in kind code p) (rest_in kind code p) (rest_in kind code q) answers (sym rest) (along_start t log (answers_in p) (rest_in kind code p))

-- a step on the way
pub stepped_on : {S : Type 0} (kind : Kind) (code : List Instr) (t u : Truth) (own other : List ℕ → S → Type 0) (log0 log1 log : Option Answers) (p0 p q : Progress) (result : Result Bool (Halt S)) → u ≡ t → SameStops own other → Along t log0 log1 (answers_in p0) (rest_in kind code p0) (answers_in p) (rest_in kind code p) → Goes kind code u other log1 log p q result → Along t log0 log (answers_in p0) (rest_in kind code p0) (answers_in q) (rest_in kind code q) × Halted {B = Bool} t own (rest_in kind code q) (Stepped kind code p q) result
stepped_on {S = S} kind code t u own other log0 log1 log p0 p q result same stops way goes_further =
    let P : Truth → Type 0 = λ w. Along w log1 log (answers_in p) (rest_in kind code p) (answers_in q) (rest_in kind code q) × Halted {B = Bool} w other (rest_in kind code q) (Stepped kind code p q) result in
    let here = subst P same goes_further in
    (along_on t log0 log1 log (answers_in p0) (answers_in p) (answers_in q) (rest_in kind code p0) (rest_in kind code p) (rest_in kind code q) way here.0, own_halts t own other (rest_in kind code q) (Stepped kind code p q) result stops here.1)

-- a step halts on the way
pub step_stops : {S : Type 0} (kind : Kind) (code : List Instr) (t u : Truth) (own other : List ℕ → S → Type 0) (log0 log1 log : Option Answers) (p0 p q : Progress) (h : Halt S) → u ≡ t → SameStops own other → Along t log0 log1 (answers_in p0) (rest_in kind code p0) (answers_in p) (rest_in kind code p) → Goes kind code u other log1 log p q (Err h) → Proceeds kind code t own log0 log p0 q (Err h)
step_stops kind code t u own other log0 log1 log p0 p q h same stops way goes_further =
    let here = stepped_on kind code t u own other log0 log1 log p0 p q (Err h) same stops way goes_further in
    (here.0, halts_alike t own (rest_in kind code q) (Stepped kind code p q) (λ x. rest_in kind code q ≡ done (top q.values.items)) h here.1)

-- it halts for want of memory
pub starves : {A B S : Type 0} (t : Truth) (own : List ℕ → S → Type 0) (r : Asks A) (P : B → Type 0) (result : Result B (Halt S)) → IsErr result → IsErrAnd result (λ h. h ≡ NoMemory) → Halted t own r P result
starves t own r P (Ok b) err is = cc
starves t own r P (Err (Stop s)) err is = cc
starves t own r P (Err NoMemory) err is = tt
