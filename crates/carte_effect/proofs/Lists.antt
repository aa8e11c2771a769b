-- A list of names, fetched one after the other.
use Rattle.std.proofs.Common.{◌≡◌, ℕ, ◌+◌, ◌<◌, Bool, List, [], ◌∷◌, ◌++◌, Option, Some, None, Result, Ok, Err, refl, length, take, drop, get_or, suc, ap, sym, ◌∙◌, subst, inl, inr}
use Rattle.std.proofs.lemmas.List.{take-append-drop, take_more}
use Rattle.std.proofs.Math.Seq.{drop-cons}
use Rattle.carte_value.specs.declared.value.Value.{Value}
use Rattle.carte_value.specs.Truths.{Truth}
use Rattle.carte_effect.specs.declared.effect.Halt.{Halt}
use Rattle.carte_effect.specs.declared.effect.Halt.TheVariants.{Stop, NoMemory}
use Rattle.carte_value.specs.Once.{Answers as Asked}
use Rattle.carte_effect.specs.Effects.{more, paired, Fetched, SameStops}
use Rattle.carte_effect.proofs.More.{more_more}
use Rattle.std.specs.Result.{IsErr}
use Rattle.carte_effect.specs.declared.list.Answers.{Answers}
use Rattle.carte_effect.specs.Lists.{ValuesOf, StopsAmong, FetchedList, AskedEach}

-- one more name with its value
values_end : (t : Truth) (ks : List (List ℕ)) (vs : List Value) (k : List ℕ) (v : Value) → ValuesOf t ks vs → t k ≡ Some v → ValuesOf t (ks ++ k ∷ []) (vs ++ v ∷ [])
values_end t [] [] k v of is = (is, tt)
values_end t [] (w ∷ vs) k v of is = absurd of
values_end t (j ∷ ks) [] k v of is = absurd of
values_end t (j ∷ ks) (w ∷ vs) k v (one, rest) is = (one, values_end t ks vs k v rest is)

-- names with values, and then one without
stops_behind : {S : Type 0} (t : Truth) (own : List ℕ → S → Type 0) (ks : List (List ℕ)) (vs : List Value) (k : List ℕ) (js : List (List ℕ)) (s : S) → ValuesOf t ks vs → t k ≡ None → own k s → StopsAmong t own (ks ++ (k ∷ js)) s
stops_behind t own [] vs k js s of none here = inl (none, here)
stops_behind t own (j ∷ ks) [] k js s of none here = absurd of
stops_behind t own (j ∷ ks) (v ∷ vs) k js s (one, rest) none here = inr ((v, one), stops_behind t own ks vs k js s rest none here)

split_at : (ks : List (List ℕ)) (i : ℕ) (d : List ℕ) → i < length ks → take i ks ++ (get_or ks i d ∷ drop (suc i) ks) ≡ ks
split_at ks i d within = ap (λ js. take i ks ++ js) (sym (drop-cons ks i d within)) ∙ take-append-drop i ks

-- the next of the names has its value
pub values_more : (t u : Truth) (ks : List (List ℕ)) (i : ℕ) (vs : List Value) (k : List ℕ) (v : Value) → i < length ks → k ≡ get_or ks i k → u ≡ t → ValuesOf t (take i ks) vs → u k ≡ Some v → ValuesOf t (take (i + 1) ks) (vs ++ v ∷ [])
values_more t u ks i vs k v within at same of is = rw (take_more ks i k within, ← at) (values_end t (take i ks) vs k v of (ap (λ w. w k) (sym same) ∙ is))

halts_at : {S : Type 0} (t u : Truth) (own other : List ℕ → S → Type 0) (withholds : Bool) (ks : List (List ℕ)) (i : ℕ) (vs : List Value) (k : List ℕ) (h : Halt S) → i < length ks → k ≡ get_or ks i k → u ≡ t → SameStops own other → ValuesOf t (take i ks) vs → Fetched u other k (Err h) → FetchedList t own withholds ks (Err h)
halts_at t u own other withholds ks i vs k NoMemory within at same stops of halted = tt
halts_at {S = S} t u own other withholds ks i vs k (Stop s) within at same stops of (none, here) =
    let P : List (List ℕ) → Type 0 = λ js. StopsAmong t own js s in
    let whole : take i ks ++ (k ∷ drop (suc i) ks) ≡ ks = ap (λ j. take i ks ++ (j ∷ drop (suc i) ks)) at ∙ split_at ks i k within in
    subst P whole (stops_behind t own (take i ks) vs k (drop (suc i) ks) s of (ap (λ w. w k) (sym same) ∙ none) (stops.1 k s here))

-- the next of the names has none
pub list_halts : {S : Type 0} (t u : Truth) (own other : List ℕ → S → Type 0) (withholds : Bool) (js ks : List (List ℕ)) (i : ℕ) (vs : List Value) (k : List ℕ) (h : Halt S) → ks ≡ js → i < length ks → k ≡ get_or ks i k → u ≡ t → SameStops own other → ValuesOf t (take i ks) vs → Fetched u other k (Err h) → FetchedList t own withholds js (Err h)
list_halts {S = S} t u own other withholds js ks i vs k h names within at same stops of halted =
    let P : List (List ℕ) → Type 0 = λ is. FetchedList t own withholds is (Err h) in subst P names (halts_at t u own other withholds ks i vs k h within at same stops of halted)

pub no_values : (ks : List (List ℕ)) → paired ks [] ≡ []
no_values [] = refl
no_values (k ∷ ks) = refl

-- names with values, and then one value more
paired_behind : (t : Truth) (ks : List (List ℕ)) (vs : List Value) (k : List ℕ) (v : Value) (js : List (List ℕ)) → ValuesOf t ks vs → paired (ks ++ (k ∷ js)) (vs ++ v ∷ []) ≡ paired (ks ++ (k ∷ js)) vs ++ (k, v) ∷ []
paired_behind t [] [] k v js of = ap (λ a. (k, v) ∷ a) (no_values js)
paired_behind t [] (w ∷ vs) k v js of = absurd of
paired_behind t (j ∷ ks) [] k v js of = absurd of
paired_behind t (j ∷ ks) (w ∷ vs) k v js (one, rest) = ap (λ a. (j, w) ∷ a) (paired_behind t ks vs k v js rest)

-- the next of the names was asked for
pub asked_more : (t : Truth) (log0 log1 log : Option Asked) (ks : List (List ℕ)) (i : ℕ) (vs : List Value) (k : List ℕ) (v : Value) → i < length ks → k ≡ get_or ks i k → ValuesOf t (take i ks) vs → log1 ≡ more log0 (paired ks vs) → log ≡ more log1 ((k, v) ∷ []) → log ≡ more log0 (paired ks (vs ++ v ∷ []))
asked_more t log0 log1 log ks i vs k v within at of before after =
    let whole : take i ks ++ (k ∷ drop (suc i) ks) ≡ ks = ap (λ j. take i ks ++ (j ∷ drop (suc i) ks)) at ∙ split_at ks i k within in
    let one_more : paired ks (vs ++ v ∷ []) ≡ paired ks vs ++ (k, v) ∷ [] = subst (λ js. paired js (vs ++ v ∷ []) ≡ paired js vs ++ (k, v) ∷ []) whole (paired_behind t (take i ks) vs k v (drop (suc i) ks) of) in
    after ∙ ap (λ l. more l ((k, v) ∷ [])) before ∙ more_more log0 (paired ks vs) ((k, v) ∷ []) ∙ ap (more log0) (sym one_more)

pub asked_so_far : {S : Type 0} (log0 log : Option Asked) (ks : List (List ℕ)) (vs : List Value) (result : Result Answers (Halt S)) → IsErr result → log ≡ more log0 (paired ks vs) → AskedEach log0 log ks result
asked_so_far log0 log ks vs (Ok a) never is = cc
asked_so_far log0 log ks vs (Err h) err is = (vs, is)
