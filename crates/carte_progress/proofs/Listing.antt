-- Lists of finished keys that grow at their end.
use Rattle.std.proofs.Common.{◌≡◌, ◌⊎◌, ℕ, Bool, true, false, cond, List, [], ◌∷◌, ◌++◌, Some, refl, ap, sym, subst, inl, inr}
use Rattle.std.specs.Cmp.Lexicographic.{bytes_decides}
use Rattle.carte_name.specs.Names.{name_eq}
use Rattle.carte_value.specs.Truths.{Among, NoneTwice}
use Rattle.carte_value.proofs.Members.{same_or_not, name_apart, among_append, apart_append}
use Rattle.carte_book.specs.Book.{Book}
use Rattle.carte_record.specs.Kept.{SomeKept}
use Rattle.carte_sound.specs.Finished.{IsFinishedAfter, AreFinished}
use Rattle.carte_sound.specs.Held.{How}
use Rattle.carte_sound.specs.Left.{Finishes, keys_of}
use Rattle.carte_note.specs.declared.finished.Finished.{Finished}
use Rattle.carte_note.specs.Lists.{finished_of}
use Rattle.carte_note.specs.Right.{AreRight, IsRightFinished, finishes_of, has_run, key_of, keys_in, ran_in}

pub finishes_end : (fs : List Finished) (f : Finished) → finishes_of (fs ++ f ∷ []) ≡ finishes_of fs ++ (key_of f, has_run f.made) ∷ []
finishes_end [] f = refl
finishes_end (g ∷ gs) f = ap (λ xs. (key_of g, has_run g.made) ∷ xs) (finishes_end gs f)

pub keys_end : (fs : List Finished) (f : Finished) → keys_in (fs ++ f ∷ []) ≡ keys_in fs ++ key_of f ∷ []
keys_end [] f = refl
keys_end (g ∷ gs) f = ap (λ ks. key_of g ∷ ks) (keys_end gs f)

pub keys_same : (fs : List Finished) → keys_of (finishes_of fs) ≡ keys_in fs
keys_same [] = refl
keys_same (f ∷ fs) = ap (λ ks. key_of f ∷ ks) (keys_same fs)

pub ran_end : (fs : List Finished) (f : Finished) → ran_in (fs ++ f ∷ []) ≡ ran_in fs ++ cond (has_run f.made) (key_of f ∷ []) []
ran_end [] f = on (has_run f.made)
  where
    on : (t : Bool) → cond t (key_of f ∷ []) [] ≡ cond t (key_of f ∷ []) []
    on t = refl
ran_end (g ∷ gs) f = on (has_run g.made) (ran_end gs f)
  where
    on : (t : Bool) → ran_in (gs ++ f ∷ []) ≡ ran_in gs ++ cond (has_run f.made) (key_of f ∷ []) [] → cond t (key_of g ∷ ran_in (gs ++ f ∷ [])) (ran_in (gs ++ f ∷ [])) ≡ cond t (key_of g ∷ ran_in gs) (ran_in gs) ++ cond (has_run f.made) (key_of f ∷ []) []
    on true is = ap (λ ks. key_of g ∷ ks) is
    on false is = is

-- what ran is finished
pub ran_keys : (fs : List Finished) (k : List ℕ) → Among (ran_in fs) k → Among (keys_in fs) k
ran_keys [] k here = here
ran_keys (f ∷ fs) k here = on (has_run f.made) (ran_keys fs k) here
  where
    on : (t : Bool) → (Among (ran_in fs) k → Among (keys_in fs) k) → Among (cond t (key_of f ∷ ran_in fs) (ran_in fs)) k → Among (keys_in (f ∷ fs)) k
    on true rest (inl same) = inl same
    on true rest (inr later) = inr (rest later)
    on false rest later = inr (rest later)

pub once_end : (ks : List (List ℕ)) (k : List ℕ) → NoneTwice ks → ¬ (Among ks k) → NoneTwice (ks ++ k ∷ [])
once_end ks k once off = apart_append ks (k ∷ []) once ((λ h. h), tt) (λ j here last. elim last [
  | inl same ↦ off (subst (Among ks) same here)
  | inr never ↦ never
])

pub among_end : (ks : List (List ℕ)) (k j : List ℕ) → Among (ks ++ k ∷ []) j → Among ks j ⊎ (j ≡ k)
among_end ks k j here = elim (among_append ks (k ∷ []) j here) [
  | inl before ↦ inl before
  | inr last ↦ elim last [
    | inl same ↦ inr same
    | inr never ↦ absurd never
  ]
]

module _ (h : How) (K : SomeKept) (b : Book) where
  pub right_end : (fs : List Finished) (f : Finished) → AreRight h K b fs → IsRightFinished h K b (key_of f) f → AreRight h K b (fs ++ f ∷ [])
  right_end [] f rights right = (right, tt)
  right_end (g ∷ gs) f rights right = (rights.0, right_end gs f rights.1 right)

  -- behind all that were finished before
  pub order_end : (before : List (List ℕ)) (fs : Finishes) (k : List ℕ) (ran : Bool) → AreFinished h b K before fs → ((ks : List (List ℕ)) → ((j : List ℕ) → Among before j ⊎ Among (keys_of fs) j → Among ks j) → IsFinishedAfter h b K ks k ran) → AreFinished h b K before (fs ++ (k, ran) ∷ [])
  order_end before [] k ran order one = (
    one before (λ j here. elim here [
      | inl there ↦ there
      | inr never ↦ absurd never
    ]),
    tt,
  )
  order_end before (f ∷ fs) k ran order one = (
    order.0,
    order_end (f.0 ∷ before) fs k ran order.1 (λ ks all. one ks (λ j here. all j (elim here [
      | inl there ↦ inl (inr there)
      | inr later ↦ elim later [
        | inl same ↦ inl (inl same)
        | inr rest ↦ inr rest
      ]
    ]))),
  )

  -- a finished key is found, and is right
  pub found_right : (fs : List Finished) (k : List ℕ) → AreRight h K b fs → Among (keys_in fs) k → (f : Finished) × (finished_of fs k ≡ Some f) × IsRightFinished h K b k f
  found_right [] k rights here = absurd here
  found_right (f ∷ fs) k rights here = elim (same_or_not k (key_of f)) [
    | inl same ↦ (let tied : name_eq k (key_of f) ≡ true = (bytes_decides k (key_of f)).1 same in (f, rw tied refl, subst (λ j. IsRightFinished h K b j f) (sym same) rights.0))
    | inr other ↦ elim here [
      | inl same ↦ absurd (other same)
      | inr later ↦ (let rest = found_right fs k rights.1 later in (rest.0, rw (name_apart k (key_of f) other) rest.1, rest.2))
    ]
  ]
