-- Lists of finished keys that grow at their end.
use Rattle.std.proofs.Common.{◌≡◌, ◌⊎◌, ℕ, Bool, List, [], ◌∷◌, ◌++◌, refl, ap, inl, inr}
use Rattle.carte_value.specs.Truths.{Among}
use Rattle.carte_book.specs.Book.{Book}
use Rattle.carte_record.specs.Kept.{SomeKept}
use Rattle.carte_sound.specs.Held.{How}
use Rattle.carte_sound.specs.Left.{Finishes, keys_of, add, add_all}
use Rattle.carte_sound.proofs.LeftSound.{finished_before}

-- the keys that are finished are those of the list and those before it
pub finished_among : (fs : Finishes) (before : List (List ℕ)) (k : List ℕ) → Among (finished_before fs before) k → Among (keys_of fs) k ⊎ Among before k
finished_among [] before k among = inr among
finished_among (f ∷ fs) before k among = elim (finished_among fs (f.0 ∷ before) k among) [
  | inl later ↦ inl (inr later)
  | inr here ↦ elim here [
    | inl same ↦ inl (inl same)
    | inr there ↦ inr there
  ]
]

-- and the other way
pub among_finished : (fs : Finishes) (before : List (List ℕ)) (k : List ℕ) → Among (keys_of fs) k ⊎ Among before k → Among (finished_before fs before) k
among_finished [] before k (inl none) = absurd none
among_finished [] before k (inr there) = there
among_finished (f ∷ fs) before k (inl (inl same)) = among_finished fs (f.0 ∷ before) k (inr (inl same))
among_finished (f ∷ fs) before k (inl (inr later)) = among_finished fs (f.0 ∷ before) k (inl later)
among_finished (f ∷ fs) before k (inr there) = among_finished fs (f.0 ∷ before) k (inr (inr there))

-- in an order that has each rule that is looked into behind the rules among its needs, by the keys of the list
pub keys_end : (fs : Finishes) (k : List ℕ) (ran : Bool) → keys_of (fs ++ (k, ran) ∷ []) ≡ keys_of fs ++ k ∷ []
keys_end [] k ran = refl
keys_end (f ∷ fs) k ran = ap (λ ks. f.0 ∷ ks) (keys_end fs k ran)

pub adds_end : (h : How) (b : Book) (K : SomeKept) (fs : Finishes) (k : List ℕ) (ran : Bool) → add_all h b K (fs ++ (k, ran) ∷ []) ≡ add h b (add_all h b K fs) k ran
adds_end h b K [] k ran = refl
adds_end h b K (f ∷ fs) k ran = adds_end h b (add h b K f.0 f.1) fs k ran

-- finished keys leave the chain
pub adds_chain : (h : How) (b : Book) (K : SomeKept) (fs : Finishes) → (add_all h b K fs).chain ≡ K.chain
adds_chain h b K [] = refl
adds_chain h b K (f ∷ fs) = adds_chain h b (add h b K f.0 f.1) fs
