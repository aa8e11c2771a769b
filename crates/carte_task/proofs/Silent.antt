-- What asks only for names that have answers doesn't stop.
use Rattle.std.proofs.Common.{◌≡◌, ℕ, true, false, cond, List, [], ◌∷◌, Option, Some, None, Err, length, refl, ap, sym, ◌∙◌, subst, inl, inr}
use Rattle.std.specs.Cmp.Lexicographic.{nat_list_eq_equiv}
use Rattle.carte_name.specs.declared.kind.Kind.{Kind}
use Rattle.carte_value.specs.declared.value.Value.{Value}
use Rattle.carte_name.specs.Names.{name_eq}
use Rattle.carte_value.specs.Truths.{Truth, Among}
use Rattle.carte_value.specs.Asks.{Asks, asked}
use Rattle.carte_value.specs.Once.{Answers, answer_in, once, Went}
use Rattle.carte_tree.specs.InTurn.{KnowsAll}
use Rattle.carte_task.specs.Mentions.{AsksOnly}
use Rattle.carte_effect.specs.Effects.{paired}
use Rattle.carte_effect.specs.Lists.{ValuesOf}
use Rattle.carte_effect.specs.declared.effect.Halt.TheVariants.{Stop}
use Rattle.carte_task.specs.declared.code.Instr.{Instr}
use Rattle.carte_task.specs.declared.progress.Progress.{Progress}
use Rattle.carte_task.specs.State.{rest_in, Proceeds}
use Rattle.carte_task.proofs.Filling.{nothing_known}

-- there are as many values as names
pub values_count : (t : Truth) (ks : List (List ℕ)) (vs : List Value) → ValuesOf t ks vs → length vs ≡ length ks
values_count t [] [] of = refl
values_count t [] (v ∷ vs) of = absurd of
values_count t (k ∷ ks) [] of = absurd of
values_count t (k ∷ ks) (v ∷ vs) (one, rest) = let e = values_count t ks vs rest in cc

has_answer : (ks : List (List ℕ)) (vs : List Value) (j : List ℕ) → length vs ≡ length ks → Among ks j → (v : Value) × (answer_in (paired ks vs) j ≡ Some v)
has_answer [] vs j same h = absurd h
has_answer (k ∷ ks) [] j same h = absurd (cc)
has_answer (k ∷ ks) (v ∷ vs) j same h =
    elim (name_eq j k) as (λ b. name_eq j k ≡ b → (w : Value) × (cond b (Some v) (answer_in (paired ks vs) j) ≡ Some w)) [
      | true ↦ λ is. (v, refl)
      | false ↦ λ is. elim h [
        | inl here ↦ let e : name_eq j k ≡ name_eq j j = ap (name_eq j) (sym here) in let r = nat_list_eq_equiv.refl j in absurd (cc)
        | inr later ↦ has_answer ks vs j (cc) later
      ]
    ] refl

knows_all : (ks refs : List (List ℕ)) (vs : List Value) → length vs ≡ length refs → ((j : List ℕ) → Among ks j → Among refs j) → KnowsAll (paired refs vs) (λ k. answer_in (paired refs vs) k) ks
knows_all [] refs vs same all = tt
knows_all (k ∷ ks) refs vs same all =
    let has = has_answer refs vs k same (all k (inl refl)) in
    ((has.0, has.1, has.1), knows_all ks refs vs same (λ j among. all j (inr among)))

-- so a drive over no values doesn't stop
pub never_stops : {S : Type 0} (kind : Kind) (code : List Instr) (own : List ℕ → S → Type 0) (log0 log : Option Answers) (p q : Progress) (s : S) (refs : List (List ℕ)) (vs : List Value) (m : Asks Value) → Proceeds kind code (λ k. None) own log0 log p q (Err (Stop s)) → rest_in kind code p ≡ once (paired refs vs) m → AsksOnly refs m → length vs ≡ length refs → ⊥
never_stops kind code own log0 log p q s refs vs m (along, stops) rest only same =
    let none : along.further ≡ [] = nothing_known along.further along.led.known in
    let went : rest_in kind code p ≡ rest_in kind code q = subst (λ b. Went (rest_in kind code p) b (rest_in kind code q)) none along.led.went in
    let u : Truth = λ k. None in
    let quiet : asked u (once (paired refs vs) m) ≡ [] = only (λ k. answer_in (paired refs vs) k) u (paired refs vs) (knows_all refs refs vs same (λ j among. among)) in
    let asks : asked u (once (paired refs vs) m) ≡ stops.name ∷ [] = ap (asked u) (sym rest ∙ went ∙ stops.is) in
    absurd (cc)
