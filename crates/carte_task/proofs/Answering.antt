-- A computation that asks each name once, one answer further.
use Rattle.std.proofs.Common.{◌≡◌, ℕ, List, [], ◌∷◌, ◌++◌, Option, Some, None, Err, refl, ap, sym, ◌∙◌, subst, inl, inr, append_assoc, append-nil}
use Rattle.carte_value.specs.declared.value.Value.{Value}
use Rattle.carte_value.specs.Truths.{Truth}
use Rattle.carte_value.specs.Asks.{Asks, ask}
use Rattle.carte_value.specs.Once.{Answers, answer_in, once_on, once}
use Rattle.carte_value.proofs.Once.{went_end, answers_end}
use Rattle.carte_value.proofs.Laws.{answer_new}
use Rattle.carte_effect.specs.declared.effect.Halt.{Halt}
use Rattle.carte_effect.specs.declared.effect.Halt.TheVariants.{Stop, NoMemory}
use Rattle.carte_effect.specs.Effects.{more}
use Rattle.carte_effect.proofs.More.{more_none, more_more}
use Rattle.carte_task.specs.Answered.{IsAnswer, Answered, Along, Halted}

-- a name that has an answer is not asked for
pub once_known : {A : Type 0} (a : Answers) (k : List ℕ) (v : Value) (go : Value → Asks A) → answer_in a k ≡ Some v → once a (ask k go) ≡ once a (go v)
once_known a k v go is = ap (λ o. once_on o a k (λ b w. once b (go w))) is

-- a name that has none is
pub once_new : {A : Type 0} (a : Answers) (k : List ℕ) (go : Value → Asks A) → answer_in a k ≡ None → once a (ask k go) ≡ ask k (λ v. once (a ++ (k, v) ∷ []) (go v))
once_new a k go is = ap (λ o. once_on o a k (λ b w. once b (go w))) is

-- nothing was answered yet
pub along_start : (t : Truth) (log : Option Answers) (a : Answers) (r : Asks Value) → Along t log log a r a r
along_start t log a r = record { further = []; answers = sym (append-nil a); led = record { known = tt; went = refl; logged = sym (more_none log) } }

-- what is left is the same computation
pub along_same : (t : Truth) (log0 log : Option Answers) (a0 a b : Answers) (r0 r s : Asks Value) → b ≡ a → r ≡ s → Along t log0 log a0 r0 a r → Along t log0 log a0 r0 b s
along_same t log0 log a0 a b r0 r s answers rest way = let P : Asks Value → Type 0 = λ m. Along t log0 log a0 r0 b m in let Q : Answers → Type 0 = λ c. Along t log0 log a0 r0 c r in subst P rest (subst Q (sym answers) way)

-- one answer more
pub along_more : (t : Truth) (log0 log : Option Answers) (a0 a : Answers) (r0 : Asks Value) (k : List ℕ) (v : Value) (go : Value → Asks Value) → t k ≡ Some v → Along t log0 log a0 r0 a (ask k go) → Along t log0 (more log ((k, v) ∷ [])) a0 r0 (a ++ (k, v) ∷ []) (go v)
along_more t log0 log a0 a r0 k v go is way = record {
  further = way.further ++ (k, v) ∷ [];
  answers = ap (λ b. b ++ (k, v) ∷ []) way.answers ∙ append_assoc a0 way.further ((k, v) ∷ []);
  led = record {
    known = answers_end t way.further k v way.led.known is;
    went = went_end r0 way.further k go v way.led.went;
    logged = ap (λ l. more l ((k, v) ∷ [])) way.led.logged ∙ more_more log0 way.further ((k, v) ∷ []);
  };
}

-- the answer to the name that is asked for next, of before or of now
pub along_answer : (t : Truth) (log0 log1 log : Option Answers) (a0 a1 a : Answers) (r0 : Asks Value) (k : List ℕ) (v : Value) (go : Value → Asks Value) → Along t log0 log1 a0 r0 a1 (once a1 (ask k go)) → IsAnswer t log1 log a1 a k v → Along t log0 log a0 r0 a (once a (go v))
along_answer t log0 log1 log a0 a1 a r0 k v go way (inl (known, same, still)) =
    let P : Option Answers → Type 0 = λ l. Along t log0 l a0 r0 a (once a (go v)) in
    subst P (sym still) (along_same t log0 log1 a0 a1 a r0 (once a1 (ask k go)) (once a (go v)) same (once_known a1 k v go known ∙ ap (λ b. once b (go v)) (sym same)) way)
along_answer t log0 log1 log a0 a1 a r0 k v go way (inr (none, is, one, listed)) =
    let P : Option Answers → Type 0 = λ l. Along t log0 l a0 r0 a (once a (go v)) in
    let Q : Answers → Type 0 = λ b. Along t log0 (more log1 ((k, v) ∷ [])) a0 r0 b (once b (go v)) in
    let here : Along t log0 log1 a0 r0 a1 (ask k (λ w. once (a1 ++ (k, w) ∷ []) (go w))) = along_same t log0 log1 a0 a1 a1 r0 (once a1 (ask k go)) _ refl (once_new a1 k go none) way in
    subst P (sym listed) (subst Q (sym one) (along_more t log0 log1 a0 a1 r0 k v (λ w. once (a1 ++ (k, w) ∷ []) (go w)) is here))

-- what was answered stays answered
found : (t : Truth) (log1 log : Option Answers) (a1 a : Answers) (k : List ℕ) (v : Value) → IsAnswer t log1 log a1 a k v → answer_in a k ≡ Some v
found t log1 log a1 a k v (inl (known, same, still)) = ap (λ b. answer_in b k) same ∙ known
found t log1 log a1 a k v (inr (none, is, one, listed)) = ap (λ b. answer_in b k) one ∙ answer_new a1 [] k v none

-- an answer came, but it stands before the same name
pub along_kept : (t : Truth) (log0 log1 log : Option Answers) (a0 a1 a : Answers) (r0 : Asks Value) (k : List ℕ) (v : Value) (go : Value → Asks Value) → Along t log0 log1 a0 r0 a1 (once a1 (ask k go)) → IsAnswer t log1 log a1 a k v → Along t log0 log a0 r0 a (once a (ask k go))
along_kept t log0 log1 log a0 a1 a r0 k v go way is =
    along_same t log0 log a0 a a r0 (once a (go v)) (once a (ask k go)) refl (sym (once_known a k v go (found t log1 log a1 a k v is))) (along_answer t log0 log1 log a0 a1 a r0 k v go way is)

-- the name that is asked for next halts it
pub along_halts : {B S : Type 0} (t : Truth) (own : List ℕ → S → Type 0) (log0 log1 log : Option Answers) (a0 a1 a : Answers) (r0 : Asks Value) (k : List ℕ) (go : Value → Asks Value) (P : B → Type 0) (h : Halt S) → Along t log0 log1 a0 r0 a1 (once a1 (ask k go)) → Answered t own log1 log a1 a k (Err h) → Along t log0 log a0 r0 a (once a (ask k go)) × Halted t own (once a (ask k go)) P (Err h)
along_halts t own log0 log1 log a0 a1 a r0 k go P (Stop s) way (unknown, none, here, same, still) =
    let Q : Option Answers → Type 0 = λ l. Along t log0 l a0 r0 a (once a (ask k go)) in
    let none_in : answer_in a k ≡ None = ap (λ b. answer_in b k) same ∙ unknown in (
      subst Q (sym still) (along_same t log0 log1 a0 a1 a r0 (once a1 (ask k go)) (once a (ask k go)) same (ap (λ b. once b (ask k go)) (sym same)) way),
      record { name = k; go = λ v. once (a ++ (k, v) ∷ []) (go v); is = once_new a k go none_in; none = none; own_stop = here },
    )
along_halts t own log0 log1 log a0 a1 a r0 k go P NoMemory way (inl (same, still)) =
    let Q : Option Answers → Type 0 = λ l. Along t log0 l a0 r0 a (once a (ask k go)) in
    (subst Q (sym still) (along_same t log0 log1 a0 a1 a r0 (once a1 (ask k go)) (once a (ask k go)) same (ap (λ b. once b (ask k go)) (sym same)) way), tt)
along_halts t own log0 log1 log a0 a1 a r0 k go P NoMemory way (inr (v, is)) = (along_kept t log0 log1 log a0 a1 a r0 k v go way is, tt)
