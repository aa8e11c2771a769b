-- A computation that asks each name once, and the truth that knows its answers besides.
use Rattle.std.proofs.Common.{◌≡◌, ℕ, true, false, cond, List, [], ◌∷◌, ◌++◌, Option, Some, None, refl, ap, sym, ◌∙◌, append_assoc, append-nil, subst}
use Rattle.std.proofs.Math.Path.{fun_ext}
use Rattle.std.specs.Map.{lookup}
use Rattle.std.specs.Cmp.Lexicographic.{bytes_decides, nat_list_eq_equiv}
use Rattle.carte_value.specs.declared.value.Value.{Value}
use Rattle.carte_name.specs.Names.{name_eq}
use Rattle.carte_value.specs.Truths.{Truth}
use Rattle.carte_value.specs.Asks.{Asks, done, ask, run, asked, answered}
use Rattle.carte_value.specs.Once.{Answers, answer_in, once_on, once, Went, or_else, and_answers, AnswersOf, names_of}
use Rattle.carte_value.proofs.Once.{went_asked}

-- answers before others: theirs count first
pub answer_on : (a b : Answers) (k : List ℕ) → answer_in (a ++ b) k ≡ or_else (answer_in a k) (answer_in b k)
answer_on [] b k = refl
answer_on ((j, v) ∷ a) b k =
    elim (name_eq k j) as (λ s. cond s (Some v) (lookup (name_eq k) (a ++ b)) ≡ or_else (cond s (Some v) (lookup (name_eq k) a)) (lookup (name_eq k) b)) [
      | true ↦ refl
      | false ↦ answer_on a b k
    ]

-- the answer that was put behind answers without that name
pub answer_new : (a b : Answers) (k : List ℕ) (v : Value) → answer_in a k ≡ None → answer_in (a ++ ((k, v) ∷ b)) k ≡ Some v
answer_new a b k v none = rw (answer_on a ((k, v) ∷ b) k, none, nat_list_eq_equiv.refl k) refl

-- an answer that the truth gives anyhow changes nothing
pub and_known : (a : Answers) (t : Truth) (k : List ℕ) (v : Value) → t k ≡ Some v → and_answers (a ++ (k, v) ∷ []) t ≡ and_answers a t
and_known a t k v is = fun_ext (λ j. rw (answer_on a ((k, v) ∷ []) j) (one j (answer_in a j)))
  where
    last : (j : List ℕ) → or_else (cond (name_eq j k) (Some v) None) (t j) ≡ t j
    last j = elim (name_eq j k) as (λ b. name_eq j k ≡ b → or_else (cond b (Some v) None) (t j) ≡ t j) [
      | true ↦ λ same. let e : j ≡ k = (bytes_decides j k).0 same in sym (ap t e ∙ is)
      | false ↦ λ other. refl
    ] refl

    one : (j : List ℕ) (o : Option Value) → or_else (or_else o (cond (name_eq j k) (Some v) None)) (t j) ≡ or_else o (t j)
    one j None = last j
    one j (Some w) = refl

-- a name that had no answer is asked for: so far the truth's answers count, and then those on the way
anew : {A : Type 0} (t : Truth) (k : List ℕ) (go : Value → Asks A) (r : Asks A) (b a : Answers) → answer_in b k ≡ None → Went (ask k (λ v. once (b ++ (k, v) ∷ []) (go v))) a r → ((c : Answers) (v : Value) (d : Answers) (s : Asks A) → Went (once c (go v)) d s → run (and_answers (c ++ d) t) (go v) ≡ run t s) → answered {A = A} (and_answers (b ++ a) t k) k (λ v. run (and_answers (b ++ a) t) (go v)) ≡ run t r
anew {A = A} t k go r b [] none is on = rw (append-nil b, none, ← is) (stays (t k) refl)
  where
    next : (v : Value) → t k ≡ Some v → run (and_answers b t) (go v) ≡ run t (once (b ++ (k, v) ∷ []) (go v))
    next v known = ap (λ u. run u (go v)) (sym (and_known b t k v known)) ∙ (rw append-nil at (on (b ++ (k, v) ∷ []) v [] (once (b ++ (k, v) ∷ []) (go v)) refl))

    stays : (o : Option Value) → t k ≡ o → answered {A = A} o k (λ v. run (and_answers b t) (go v)) ≡ answered {A = A} o k (λ v. run t (once (b ++ (k, v) ∷ []) (go v)))
    stays None known = refl
    stays (Some v) known = next v known
anew {A = A} t k go r b ((j, w) ∷ a) none (on_from, is, way) on =
    let same : k ≡ j = cc in
    let next : (λ v. once (b ++ (k, v) ∷ []) (go v)) ≡ on_from = cc in
    let here : Went (once (b ++ (k, w) ∷ []) (go w)) a r = subst (λ f. Went (f w) a r) (sym next) way in
    rw (← same, answer_new b a k w none) (rw append_assoc at (on (b ++ (k, w) ∷ []) w a r here))

-- what is left, over a truth, is the whole over that truth with all answers, those from before and those on the way
pub rest_runs : {A : Type 0} (t : Truth) (m r : Asks A) (b a : Answers) → Went (once b m) a r → run (and_answers (b ++ a) t) m ≡ run t r
rest_runs t (done x) r b [] is = ap (run t) is
rest_runs t (done x) r b ((k, v) ∷ a) (go, is, way) = cc
rest_runs {A = A} t (ask k go) r b a way =
    elim (answer_in b k) as (λ o. answer_in b k ≡ o → Went (once_on o b k (λ c v. once c (go v))) a r → answered {A = A} (and_answers (b ++ a) t k) k (λ v. run (and_answers (b ++ a) t) (go v)) ≡ run t r) [
      | Some v ↦ λ is here. rw (answer_on b a k, is) (rest_runs t (go v) r b a here)
      | None ↦ λ is here. anew t k go r b a is here (λ c v d s. rest_runs t (go v) s c d)
    ] refl way

-- a computation that asks each name once: what is left, over a truth, is the whole over that truth with the answers
pub machine_runs : {A : Type 0} (t : Truth) (m r : Asks A) (a : Answers) → Went (once [] m) a r → run (and_answers a t) m ≡ run t r
machine_runs t m r a way = rest_runs t m r [] a way

-- over a truth that gave the answers it asks for their names, and then for those of what is left
pub machine_fetches : {A : Type 0} (t : Truth) (m r : Asks A) (a : Answers) → Went (once [] m) a r → AnswersOf t a → asked t (once [] m) ≡ names_of a ++ asked t r
machine_fetches t m r a way of = went_asked t (once [] m) r a way of

-- the answers on the way are those of the truth that knows them besides: no name is asked for twice
pub rest_own : {A : Type 0} (t : Truth) (m r : Asks A) (b a : Answers) → Went (once b m) a r → AnswersOf (and_answers (b ++ a) t) a
rest_own t (done x) r b [] is = tt
rest_own t (done x) r b ((k, v) ∷ a) (go, is, way) = cc
rest_own {A = A} t (ask k go) r b a way =
    elim (answer_in b k) as (λ o. answer_in b k ≡ o → Went (once_on o b k (λ c v. once c (go v))) a r → AnswersOf (and_answers (b ++ a) t) a) [
      | Some v ↦ λ is here. rest_own t (go v) r b a here
      | None ↦ λ is here. own_anew t k go r b a is here (λ c v d s. rest_own t (go v) s c d)
    ] refl way
  where
    own_anew : (t : Truth) (k : List ℕ) (go : Value → Asks A) (r : Asks A) (b a : Answers) → answer_in b k ≡ None → Went (ask k (λ v. once (b ++ (k, v) ∷ []) (go v))) a r → ((c : Answers) (v : Value) (d : Answers) (s : Asks A) → Went (once c (go v)) d s → AnswersOf (and_answers (c ++ d) t) d) → AnswersOf (and_answers (b ++ a) t) a
    own_anew t k go r b [] none is on = tt
    own_anew t k go r b ((j, w) ∷ a) none (on_from, is, way) on =
        let same : k ≡ j = cc in
        let next : (λ v. once (b ++ (k, v) ∷ []) (go v)) ≡ on_from = cc in
        let here : Went (once (b ++ (k, w) ∷ []) (go w)) a r = subst (λ f. Went (f w) a r) (sym next) way in
        let list : (b ++ (k, w) ∷ []) ++ a ≡ b ++ (j, w) ∷ a = append_assoc b ((k, w) ∷ []) a ∙ ap (λ i. b ++ (i, w) ∷ a) same in
        let known : answer_in (b ++ (j, w) ∷ a) j ≡ Some w = subst (λ i. answer_in (b ++ (i, w) ∷ a) i ≡ Some w) same (answer_new b a k w none) in
        (ap (λ o. or_else o (t j)) known, subst (λ c. AnswersOf (and_answers c t) a) list (on (b ++ (k, w) ∷ []) w a r here))

pub machine_own : {A : Type 0} (t : Truth) (m r : Asks A) (a : Answers) → Went (once [] m) a r → AnswersOf (and_answers a t) a
machine_own t m r a way = rest_own t m r [] a way
