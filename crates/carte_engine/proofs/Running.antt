-- The keys that ran, one after another.
use Rattle.std.proofs.Common.{◌≡◌, ℕ, Bool, true, false, cond, List, [], ◌∷◌, ◌++◌, refl, ap, sym, ◌∙◌, inl, inr}
use Rattle.carte_value.specs.Truths.{Among, NoneTwice}
use Rattle.carte_note.specs.declared.finished.Finished.{Finished}
use Rattle.carte_note.specs.Right.{has_run, key_of, keys_in, ran_in}

ran_end : (fs : List Finished) (f : Finished) → ran_in (fs ++ f ∷ []) ≡ ran_in fs ++ cond (has_run f.made) (key_of f ∷ []) []
ran_end [] f = refl
ran_end (g ∷ gs) f = on (has_run g.made) (ran_end gs f)
  where
    on : (t : Bool) → ran_in (gs ++ f ∷ []) ≡ ran_in gs ++ cond (has_run f.made) (key_of f ∷ []) [] → cond t (key_of g ∷ ran_in (gs ++ f ∷ [])) (ran_in (gs ++ f ∷ [])) ≡ cond t (key_of g ∷ ran_in gs) (ran_in gs) ++ cond (has_run f.made) (key_of f ∷ []) []
    on true is = ap (λ ks. key_of g ∷ ks) is
    on false is = is

pub one_ran : (fs : List Finished) (f : Finished) (old new : List (List ℕ)) → old ≡ ran_in fs → new ≡ old ++ cond (has_run f.made) (key_of f ∷ []) [] → new ≡ ran_in (fs ++ f ∷ [])
one_ran fs f old new so puts = puts ∙ (ap (λ ks. ks ++ cond (has_run f.made) (key_of f ∷ []) []) so ∙ sym (ran_end fs f))

-- where no key comes twice, none runs twice
ran_among : (fs : List Finished) (q : List ℕ) → Among (ran_in fs) q → Among (keys_in fs) q
ran_among [] q nowhere = nowhere
ran_among (f ∷ fs) q there = elim (has_run f.made) as (λ t. Among (cond t (key_of f ∷ ran_in fs) (ran_in fs)) q → Among (keys_in (f ∷ fs)) q) [
  | true ↦ λ is. elim is [
    | inl same ↦ inl same
    | inr later ↦ inr (ran_among fs q later)
  ]
  | false ↦ λ is. inr (ran_among fs q is)
] there

pub ran_once : (fs : List Finished) → NoneTwice (keys_in fs) → NoneTwice (ran_in fs)
ran_once [] once = tt
ran_once (f ∷ fs) once = elim (has_run f.made) as (λ t. NoneTwice (cond t (key_of f ∷ ran_in fs) (ran_in fs))) [
  | true ↦ (λ there. once.0 (ran_among fs (key_of f) there), ran_once fs once.1)
  | false ↦ ran_once fs once.1
]
