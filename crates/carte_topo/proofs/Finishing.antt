-- Lists of finished keys with one key more at their end, and what is found in them.
use Rattle.std.proofs.Common.{◌≡◌, ◌+◌, ℕ, Bool, true, false, cond, not, ◌&&◌, List, [], ◌∷◌, ◌++◌, length, Some, Ok, refl, ap, sym, ◌∙◌, subst, inl, inr, ◌⊎◌}
use Rattle.std.proofs.lemmas.List.{length-append}
use Rattle.std.specs.Cmp.Lexicographic.{bytes_decides}
use Rattle.carte_value.specs.Truths.{Among, NoneTwice}
use Rattle.carte_value.proofs.Members.{same_or_not, name_apart}
use Rattle.carte_effect.specs.declared.look.Stuck.{Stuck}
use Rattle.carte_effect.specs.declared.outcome.Made.{Made}
use Rattle.carte_effect.specs.declared.outcome.Made.TheVariants.{Ran, Reused}
use Rattle.carte_effect.specs.Jobs.{Counted}
use Rattle.carte_effect.specs.Ledger.{Ledger}
use Rattle.carte_book.specs.Book.{Book}
use Rattle.carte_book.specs.Reason.{IsClean}
use Rattle.carte_record.specs.Kept.{SomeKept}
use Rattle.carte_sound.specs.Finished.{RanOrHeld, IsFinishedAfter, AreFinished}
use Rattle.carte_sound.specs.Held.{How}
use Rattle.carte_sound.specs.Left.{Finishes, keys_of}
use Rattle.carte_note.specs.declared.finished.Finished.{Finished}
use Rattle.carte_note.specs.Lists.{finished_of}
use Rattle.carte_note.specs.Right.{Came, IsRightFinished, AreRight, finishes_of, has_run, key_of, keys_in, ran_in}

-- 1. one key more

pub finishes_end : (fs : List Finished) (f : Finished) → finishes_of (fs ++ f ∷ []) ≡ finishes_of fs ++ (key_of f, has_run f.made) ∷ []
finishes_end [] f = refl
finishes_end (g ∷ gs) f = ap (λ r. (key_of g, has_run g.made) ∷ r) (finishes_end gs f)

pub keys_end : (fs : List Finished) (f : Finished) → keys_in (fs ++ f ∷ []) ≡ keys_in fs ++ key_of f ∷ []
keys_end [] f = refl
keys_end (g ∷ gs) f = ap (λ r. key_of g ∷ r) (keys_end gs f)

pub one_longer : (fs gs : List Finished) (f : Finished) → gs ≡ fs ++ f ∷ [] → length gs ≡ length fs + 1
one_longer fs gs f is = ap length is ∙ length-append fs (f ∷ [])

pub ran_end : (fs : List Finished) (f : Finished) → ran_in (fs ++ f ∷ []) ≡ ran_in fs ++ cond (has_run f.made) (key_of f ∷ []) []
ran_end [] f = refl
ran_end (g ∷ gs) f = elim (has_run g.made) as (λ r. cond r (key_of g ∷ ran_in (gs ++ f ∷ [])) (ran_in (gs ++ f ∷ [])) ≡ cond r (key_of g ∷ ran_in gs) (ran_in gs) ++ cond (has_run f.made) (key_of f ∷ []) []) [
  | true ↦ ap (λ r. key_of g ∷ r) (ran_end gs f)
  | false ↦ ran_end gs f
]

-- the ledger of a job that wasn't started before its one turn
pub counts : (k : List ℕ) (before after : Bool) (old new : Ledger) (m : Made) → before ≡ false → Counted {S = Stuck} k before after old new (Ok m) → (new.starts ≡ old.starts ++ cond (has_run m) (k ∷ []) []) × (new.ends ≡ old.ends ++ cond (has_run m) (k ∷ []) [])
counts k before after old new (Ran o) idle c =
    (c.starts ∙ ap (λ t. old.starts ++ cond (t && not before) (k ∷ []) []) c.started ∙ ap (λ t. old.starts ++ cond (true && not t) (k ∷ []) []) idle, c.ends)
counts k before after old new (Reused o) idle c =
    (c.starts ∙ ap (λ t. old.starts ++ cond (t && not before) (k ∷ []) []) c.started.1 ∙ ap (λ t. old.starts ++ cond (false && not t) (k ∷ []) []) idle, c.ends)

module _ (h : How) (K : SomeKept) (b : Book) where
  pub right_end : (fs : List Finished) (f : Finished) → AreRight h K b fs → IsRightFinished h K b (key_of f) f → AreRight h K b (fs ++ f ∷ [])
  right_end [] f right one = (one, tt)
  right_end (g ∷ gs) f right one = (right.0, right_end gs f right.1 one)

  -- behind all before it
  pub order_end : (before : List (List ℕ)) (fs : Finishes) (f : List ℕ × Bool) → AreFinished h b K before fs → ((bs : List (List ℕ)) → ((j : List ℕ) → Among before j ⊎ Among (keys_of fs) j → Among bs j) → IsFinishedAfter h b K bs f.0 f.1) → AreFinished h b K before (fs ++ f ∷ [])
  order_end before [] f order last = (
    last before (λ j here. elim here [
      | inl old ↦ old
      | inr none ↦ absurd none
    ]),
    tt,
  )
  order_end before (g ∷ gs) f order last = (
    order.0,
    order_end (g.0 ∷ before) gs f order.1 (λ bs all. last bs (λ j here. elim here [
      | inl old ↦ all j (inl (inr old))
      | inr there ↦ elim there [
        | inl same ↦ all j (inl (inl same))
        | inr later ↦ all j (inr later)
      ]
    ])),
  )

  pub ran_or_held : (k : List ℕ) (m : Made) → Came h K b k m → RanOrHeld h K b k (has_run m)
  ran_or_held k (Ran o) came = came.0
  ran_or_held k (Reused o) came = came.0

  -- 2. what is found

  pub found : (fs : List Finished) (j : List ℕ) → AreRight h K b fs → Among (keys_in fs) j → (f : Finished) × (finished_of fs j ≡ Some f) × IsRightFinished h K b j f
  found [] j right among = absurd among
  found (f ∷ fs) j right among = elim (same_or_not j (key_of f)) [
    | inl same ↦ (f, ap (λ t. cond t (Some f) (finished_of fs j)) ((bytes_decides j (key_of f)).1 same), subst (λ k. IsRightFinished h K b k f) (sym same) right.0)
    | inr other ↦ elim among [
      | inl same ↦ absurd (other same)
      | inr later ↦
          let there = found fs j right.1 later in
          (there.0, ap (λ t. cond t (Some f) (finished_of fs j)) (name_apart j (key_of f) other) ∙ there.1, there.2)
    ]
  ]

  pub finished_clean : (before : List (List ℕ)) (fs : Finishes) (k : List ℕ) → AreFinished h b K before fs → Among (keys_of fs) k → IsClean b k
  finished_clean before [] k order among = absurd among
  finished_clean before (f ∷ fs) k order among = elim among [
    | inl same ↦ subst (IsClean b) (sym same) order.0.clean
    | inr later ↦ finished_clean (f.0 ∷ before) fs k order.1 later
  ]

-- 3. all keys

pub keys_same : (fs : List Finished) → keys_of (finishes_of fs) ≡ keys_in fs
keys_same [] = refl
keys_same (f ∷ fs) = ap (λ ks. key_of f ∷ ks) (keys_same fs)

ran_among : (fs : List Finished) (k : List ℕ) → Among (ran_in fs) k → Among (keys_in fs) k
ran_among [] k among = among
ran_among (f ∷ fs) k among = elim (has_run f.made) as (λ r. Among (cond r (key_of f ∷ ran_in fs) (ran_in fs)) k → Among (keys_in (f ∷ fs)) k) [
  | true ↦ λ there. elim there [
    | inl same ↦ inl same
    | inr later ↦ inr (ran_among fs k later)
  ]
  | false ↦ λ there. inr (ran_among fs k there)
] among

pub ran_once : (fs : List Finished) → NoneTwice (keys_in fs) → NoneTwice (ran_in fs)
ran_once [] once = tt
ran_once (f ∷ fs) once = elim (has_run f.made) as (λ r. NoneTwice (cond r (key_of f ∷ ran_in fs) (ran_in fs))) [
  | true ↦ ((λ again. once.0 (ran_among fs (key_of f) again)), ran_once fs once.1)
  | false ↦ ran_once fs once.1
]
