-- Links, compared one after the other.
use Rattle.std.proofs.Common.{◌≡◌, ℕ, ◌+◌, ◌-◌, ◌<◌, ◌≤◌, Bool, true, false, List, [], ◌∷◌, ◌++◌, Option, Some, None, Result, Ok, Err, length, drop, get_or, suc, add-one, refl, ap, sym, ◌∙◌, subst, arith}
use Rattle.std.specs.Prelude.{IfOk}
use Rattle.std.proofs.Math.Seq.{drop-cons}
use Rattle.carte_value.specs.declared.value.Value.{Value}
use Rattle.carte_value.specs.declared.link.Link.{Link}
use Rattle.carte_value.specs.Truths.{Truth}
use Rattle.carte_value.specs.Asks.{Asks, done, ask, run, answered}
use Rattle.carte_value.specs.Once.{Answers}
use Rattle.carte_value.specs.Spelling.{digest_of}
use Rattle.carte_value.proofs.Once.{went_end, answers_end, went_run}
use Rattle.carte_effect.specs.declared.effect.Halt.{Halt}
use Rattle.carte_task.specs.declared.check.Verdict.{Verdict}
use Rattle.carte_task.specs.declared.check.Verdict.TheVariants.{Same, Differs}
use Rattle.carte_effect.specs.Effects.{more}
use Rattle.carte_task.specs.Answered.{Led}
use Rattle.carte_task.specs.Checking.{Checking}
use Rattle.carte_task.specs.Compared.{same_digest, Compared}
use Rattle.carte_task.specs.Checks.{compared, compares, rest_from, Checked, AllSame, FirstOther, Judges, Gives}
use Rattle.carte_effect.proofs.More.{more_more}

-- the check at a place
abbrev pub from : ℕ → List Link → Asks (Option ℕ)
from at ls = compares at (drop at ls)

-- one answer more
led_more : {A : Type 0} (t : Truth) (log0 log1 log : Option Answers) (r0 : Asks A) (a : Answers) (k : List ℕ) (v : Value) (go : Value → Asks A) → t k ≡ Some v → log ≡ more log1 ((k, v) ∷ []) → Led t log0 log1 r0 a (ask k go) → Led t log0 log r0 (a ++ (k, v) ∷ []) (go v)
led_more t log0 log1 log r0 a k v go is listed led = record {
  known = answers_end t a k v led.known is;
  went = went_end r0 a k go v led.went;
  logged = listed ∙ ap (λ l. more l ((k, v) ∷ [])) led.logged ∙ more_more log0 a ((k, v) ∷ []);
}

from_next : (at : ℕ) (ls : List Link) (l : Link) → at < length ls → l ≡ get_or ls at l → from at ls ≡ ask l.name (λ v. compared (same_digest l.digest (digest_of v)) at (from (at + 1) ls))
from_next at ls l within is = ap (compares at) (drop-cons ls at l within ∙ ap (λ m. m ∷ drop (suc at) ls) (sym is)) ∙ ap (λ n. ask l.name (λ v. compared (same_digest l.digest (digest_of v)) at (compares (at + 1) (drop n ls)))) (sym (add-one at))

-- the next link was asked for, and compared
next_led : (t : Truth) (log0 log1 log : Option Answers) (r0 : Asks (Option ℕ)) (a : Answers) (at : ℕ) (ls : List Link) (l : Link) (v : Value) (b : Bool) → at < length ls → l ≡ get_or ls at l → t l.name ≡ Some v → log ≡ more log1 ((l.name, v) ∷ []) → same_digest l.digest (digest_of v) ≡ b → Led t log0 log1 r0 a (from at ls) → Led t log0 log r0 (a ++ (l.name, v) ∷ []) (compared b at (from (at + 1) ls))
next_led t log0 log1 log r0 a at ls l v b within is value listed same led =
    let here : Led t log0 log1 r0 a (ask l.name (λ w. compared (same_digest l.digest (digest_of w)) at (from (at + 1) ls))) = subst (Led t log0 log1 r0 a) (from_next at ls l within is) led in
    subst (λ c. Led t log0 log r0 (a ++ (l.name, v) ∷ []) (compared c at (from (at + 1) ls))) same (led_more t log0 log1 log r0 a l.name v (λ w. compared (same_digest l.digest (digest_of w)) at (from (at + 1) ls)) value listed here)

-- a link differs
pub check_differs : {S : Type 0} (t u : Truth) (own : List ℕ → S → Type 0) (log0 log1 log : Option Answers) (c d : Checking) (at : ℕ) (ls : List Link) (l : Link) (other : List ℕ → S → Type 0) → u ≡ t → at < length ls → l ≡ get_or ls at l → (b : Bool) → b ≡ false → Compared u other log1 log l (Ok b) → ((a : Answers) × Led t log0 log1 (rest_from c) a (from at ls)) → Checked t own log0 log c d (Ok (Differs at))
check_differs t u own log0 log1 log c d at ls l other same within is b differs (v, value, listed, found) (a, led) =
    (a ++ (l.name, v) ∷ [], next_led t log0 log1 log (rest_from c) a at ls l v false within is (ap (λ w. w l.name) (sym same) ∙ value) listed (found ∙ differs) led)

-- a link is the same
pub check_on : {S : Type 0} (t u : Truth) (log0 log1 log : Option Answers) (r0 : Asks (Option ℕ)) (at : ℕ) (ls : List Link) (l : Link) (other : List ℕ → S → Type 0) → u ≡ t → at < length ls → l ≡ get_or ls at l → (b : Bool) → b ≡ true → Compared u other log1 log l (Ok b) → ((a : Answers) × Led t log0 log1 r0 a (from at ls)) → (a : Answers) × Led t log0 log r0 a (from (at + 1) ls)
check_on t u log0 log1 log r0 at ls l other same within is b still (v, value, listed, found) (a, led) =
    (a ++ (l.name, v) ∷ [], next_led t log0 log1 log r0 a at ls l v true within is (ap (λ w. w l.name) (sym same) ∙ value) listed (found ∙ still) led)

-- what a run of the comparing finds
all_same : (t : Truth) (at : ℕ) (ls : List Link) → run t (compares at ls) ≡ Ok None → AllSame t ls
all_same t at [] is = tt
all_same t at (l ∷ ls) is =
    elim (t l.name) as (λ o. t l.name ≡ o → answered {A = Option ℕ} o l.name (λ v. run t (compared (same_digest l.digest (digest_of v)) at (compares (at + 1) ls))) ≡ Ok None → AllSame t (l ∷ ls)) [
      | None ↦ λ none never. cc
      | Some v ↦ λ value rest. elim (same_digest l.digest (digest_of v)) as (λ b. same_digest l.digest (digest_of v) ≡ b → run t (compared b at (compares (at + 1) ls)) ≡ Ok None → AllSame t (l ∷ ls)) [
        | true ↦ λ same on. ((v, value, same), all_same t (at + 1) ls on)
        | false ↦ λ other never. cc
      ] refl rest
    ] refl is

first_other : (t : Truth) (at : ℕ) (ls : List Link) (i : ℕ) → run t (compares at ls) ≡ Ok (Some i) → (at ≤ i) × FirstOther t ls (i - at)
first_other t at [] i is = cc
first_other t at (l ∷ ls) i is =
    elim (t l.name) as (λ o. t l.name ≡ o → answered {A = Option ℕ} o l.name (λ v. run t (compared (same_digest l.digest (digest_of v)) at (compares (at + 1) ls))) ≡ Ok (Some i) → (at ≤ i) × FirstOther t (l ∷ ls) (i - at)) [
      | None ↦ λ none never. cc
      | Some v ↦ λ value rest. elim (same_digest l.digest (digest_of v)) as (λ b. same_digest l.digest (digest_of v) ≡ b → run t (compared b at (compares (at + 1) ls)) ≡ Ok (Some i) → (at ≤ i) × FirstOther t (l ∷ ls) (i - at)) [
        | true ↦ λ same on. further v value same (first_other t (at + 1) ls i on)
        | false ↦ λ other here. let e : at ≡ i = cc in here_first v value other e
      ] refl rest
    ] refl is
  where
    further : (v : Value) → t l.name ≡ Some v → same_digest l.digest (digest_of v) ≡ true → (at + 1 ≤ i) × FirstOther t ls (i - (at + 1)) → (at ≤ i) × FirstOther t (l ∷ ls) (i - at)
    further v value same (later, found) =
        let n : i - at ≡ suc (i - (at + 1)) = omega arith in
        let P : ℕ → Type 0 = λ m. FirstOther t (l ∷ ls) m in
        let below : at ≤ i = omega arith in
        (below, subst P (sym n) (((v, value, same), found.0), found.1))

    here_first : (v : Value) → t l.name ≡ Some v → same_digest l.digest (digest_of v) ≡ false → at ≡ i → (at ≤ i) × FirstOther t (l ∷ ls) (i - at)
    here_first v value other e =
        let n : i - at ≡ 0 = omega arith in
        let P : ℕ → Type 0 = λ m. FirstOther t (l ∷ ls) m in
        let below : at ≤ i = omega arith in
        (below, subst P (sym n) (tt, (l, refl, (v, value, other))))

pub judged : {S : Type 0} (t : Truth) (own : List ℕ → S → Type 0) (log0 log : Option Answers) (c d : Checking) (result : Result Verdict (Halt S)) → Checked t own log0 log c d result → IfOk result (Gives c) → IfOk result (Judges t c)
judged t own log0 log c d (Ok (Same o)) (a, led) gives = (gives, all_same t c.at (drop c.at c.earlier.links) (went_run t (rest_from c) (done None) a led.went led.known))
judged t own log0 log c d (Ok (Differs i)) (a, led) gives = first_other t c.at (drop c.at c.earlier.links) i (went_run t (rest_from c) (done (Some i)) a led.went led.known)
judged t own log0 log c d (Err h) checked gives = gives
