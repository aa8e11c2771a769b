-- What a task behind checks comes to.
use Rattle.std.proofs.Common.{◌≡◌, ℕ, List, [], ◌∷◌, ◌++◌, Some, None, Ok, Err, refl, ap, sym, ◌∙◌, append_assoc, append-nil, inl, inr}
use Rattle.carte_value.specs.declared.value.Value.{Value}
use Rattle.carte_value.specs.Truths.{Truth, Among, HasValue}
use Rattle.carte_value.specs.Asks.{Asks, done, ask, run, asked, asked_on, answered, firsts}
use Rattle.carte_value.specs.Once.{Answers, AnswersOf, once, names_of}
use Rattle.carte_value.proofs.Laws.{machine_runs}
use Rattle.carte_value.proofs.Fetches.{fetches}
use Rattle.carte_effect.specs.declared.outcome.Made.{Made}
use Rattle.carte_effect.specs.declared.outcome.Made.TheVariants.{Ran}
use Rattle.carte_effect.specs.Outcomes.{links_of}
use Rattle.carte_effect.specs.Jobs.{AreLinks}
use Rattle.carte_sound.specs.True.{digest_or, links_to}
use Rattle.carte_rebuild.specs.Trying.{with_links, task_left}

pub record LinksRan (t : Truth) (k : List ℕ) (b : Answers) (r : Asks Value) (x : Made) : Type 0 where
  pub value : Value
  pub further : Answers
  pub ended : run t r ≡ Ok value
  pub known : AnswersOf t further
  pub names : names_of further ≡ asked t r
  pub is : x ≡ Ran (record { key = k; value = value; links = links_of (b ++ further) })

pub links_ran : (t : Truth) (k : List ℕ) (b : Answers) (r : Asks Value) (x : Made) → run t (with_links k b r) ≡ Ok x → LinksRan t k b r x
links_ran t k b (done v) x ends = record {
  value = v;
  further = [];
  ended = refl;
  known = tt;
  names = refl;
  is = (let e : x ≡ Ran (record { key = k; value = v; links = links_of b }) = cc in e) ∙ ap (λ a. Ran (record { key = k; value = v; links = links_of a })) (sym (append-nil b));
}
links_ran t k b (ask j go) x ends =
    elim (t j) as (λ o. t j ≡ o → answered {A = Made} o j (λ v. run t (with_links k (b ++ (j, v) ∷ []) (go v))) ≡ Ok x → LinksRan t k b (ask j go) x) [
      | None ↦ λ none e. cc
      | Some v ↦ λ here e. one_more v here (links_ran t k (b ++ (j, v) ∷ []) (go v) x e)
    ] refl ends
  where
    one_more : (v : Value) → t j ≡ Some v → LinksRan t k (b ++ (j, v) ∷ []) (go v) x → LinksRan t k b (ask j go) x
    one_more v here r = record {
      value = r.value;
      further = (j, v) ∷ r.further;
      ended = ap (λ o. answered {A = Value} o j (λ w. run t (go w))) here ∙ r.ended;
      known = (here, r.known);
      names = ap (λ ks. j ∷ ks) r.names ∙ ap (λ o. j ∷ asked_on o (λ w. asked t (go w))) (sym here);
      is = r.is ∙ ap (λ a. Ran (record { key = k; value = r.value; links = links_of a })) (append_assoc b ((j, v) ∷ []) r.further);
    }

pub links_stop : (t : Truth) (k : List ℕ) (b : Answers) (r : Asks Value) (n : List ℕ) → run t (with_links k b r) ≡ Err n → run t r ≡ Err n
links_stop t k b (done v) n stops = cc
links_stop t k b (ask j go) n stops =
    elim (t j) as (λ o. answered {A = Made} o j (λ v. run t (with_links k (b ++ (j, v) ∷ []) (go v))) ≡ Err n → answered {A = Value} o j (λ v. run t (go v)) ≡ Err n) [
      | None ↦ λ e. let same : j ≡ n = cc in ap Err same
      | Some v ↦ λ e. links_stop t k (b ++ (j, v) ∷ []) (go v) n e
    ] stops

pub links_asked : (t : Truth) (k : List ℕ) (b : Answers) (r : Asks Value) → asked t (with_links k b r) ≡ asked t r
links_asked t k b (done v) = refl
links_asked t k b (ask j go) =
    elim (t j) as (λ o. j ∷ asked_on o (λ v. asked t (with_links k (b ++ (j, v) ∷ []) (go v))) ≡ j ∷ asked_on o (λ v. asked t (go v))) [
      | None ↦ refl
      | Some v ↦ ap (λ ks. j ∷ ks) (links_asked t k (b ++ (j, v) ∷ []) (go v))
    ]

-- each name once, it ends as the task does
pub once_run : (t : Truth) (m : Asks Value) → run t (once [] m) ≡ run t m
once_run t m = sym (machine_runs t m (once [] m) [] refl)

-- answers of a truth make links to it
pub links_known : (t : Truth) (a : Answers) → AnswersOf t a → links_of a ≡ links_to t (names_of a)
links_known t [] of = refl
links_known t ((k, v) ∷ a) (is, of) =
    ap (λ ls. record { name = k; digest = digest_or (Some v) } ∷ ls) (links_known t a of) ∙ ap (λ o. record { name = k; digest = digest_or o } ∷ links_to t (names_of a)) (sym is)

-- names with values have links to them
pub known_links : (t : Truth) (ks : List (List ℕ)) → ((j : List ℕ) → Among ks j → HasValue t j) → AreLinks t ks (links_to t ks)
known_links t ks known =
    let a = answers ks known in
    record { answers = a.0; known = a.1; names = a.2; links_are = ap (links_to t) (sym a.2) ∙ sym (links_known t a.0 a.1) }
  where
    answers : (js : List (List ℕ)) → ((j : List ℕ) → Among js j → HasValue t j) → (a : Answers) × AnswersOf t a × (names_of a ≡ js)
    answers [] all = ([], tt, refl)
    answers (j ∷ js) all =
        let here = all j (inl refl) in
        let rest = answers js (λ i among. all i (inr among)) in
        ((j, here.0) ∷ rest.0, (here.1, rest.1), ap (λ is. j ∷ is) rest.2)

-- a task that ran: its value, and links to each name that it asked for, once
pub record TaskRan (t : Truth) (k : List ℕ) (m : Asks Value) (x : Made) : Type 0 where
  pub value : Value
  pub ended : run t m ≡ Ok value
  pub is : x ≡ Ran (record { key = k; value = value; links = links_to t (firsts (asked t m)) })

pub task_ran : (t : Truth) (k : List ℕ) (m : Asks Value) (x : Made) → run t (task_left k m) ≡ Ok x → TaskRan t k m x
task_ran t k m x ends =
    let r = links_ran t k [] (once [] m) x ends in
    record {
      value = r.value;
      ended = sym (once_run t m) ∙ r.ended;
      is = r.is ∙ ap (λ ls. Ran (record { key = k; value = r.value; links = ls })) (links_known t r.further r.known ∙ ap (links_to t) (r.names ∙ fetches t m));
    }

pub task_stop : (t : Truth) (k : List ℕ) (m : Asks Value) (n : List ℕ) → run t (task_left k m) ≡ Err n → run t m ≡ Err n
task_stop t k m n stops = sym (once_run t m) ∙ links_stop t k [] (once [] m) n stops

pub task_asked : (t : Truth) (k : List ℕ) (m : Asks Value) → asked t (task_left k m) ≡ firsts (asked t m)
task_asked t k m = links_asked t k [] (once [] m) ∙ fetches t m
