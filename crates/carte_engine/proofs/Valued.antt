-- The values of names, one after another, and the finished keys that are found.
use Rattle.std.proofs.Common.{◌≡◌, ℕ, Bool, true, false, cond, List, [], ◌∷◌, ◌++◌, Some, None, refl, ap, sym, ◌∙◌, inl, inr}
use Rattle.carte_name.specs.Names.{name_eq}
use Rattle.carte_value.specs.Truths.{Among, Truth}
use Rattle.carte_value.specs.declared.value.Value.{Value}
use Rattle.carte_book.specs.Book.{Book, input, content}
use Rattle.carte_table.proofs.Names.{name_eq_self}
use Rattle.carte_note.specs.declared.finished.Finished.{Finished}
use Rattle.carte_note.specs.Lists.{finished_of}
use Rattle.carte_note.specs.Right.{key_of, keys_in}
use Rattle.carte_engine.specs.Answers.{AreValues}
use Rattle.carte_engine.specs.Reckoned.{IsThere}

-- one more name, with its value
pub one_valued : (t : Truth) (ks : List (List ℕ)) (vs : List Value) (k : List ℕ) (v : Value) → AreValues t ks vs → t k ≡ Some v → AreValues t (ks ++ k ∷ []) (vs ++ v ∷ [])
one_valued t [] [] k v are is = (is, tt)
one_valued t [] (u ∷ us) k v are is = absurd are
one_valued t (j ∷ js) [] k v are is = absurd are
one_valued t (j ∷ js) (u ∷ us) k v are is = (are.0, one_valued t js us k v are.1 is)

-- what is no input was finished
pub no_input : (b : Book) (fs : List Finished) (k : List ℕ) → IsThere b fs k → ((v : Value) → ¬ (content b k ≡ Some (input v))) → Among (keys_in fs) k
no_input b fs k (inl is_input) other = absurd (other is_input.0 is_input.1)
no_input b fs k (inr there) other = there

-- a key that was finished is found
pub never_lost : (fs : List Finished) (k : List ℕ) → Among (keys_in fs) k → ¬ (finished_of fs k ≡ None)
never_lost [] k nowhere none = nowhere
never_lost (f ∷ fs) k among none = on (name_eq k (key_of f)) refl none (never_lost fs k)
  where
    on : (t : Bool) → name_eq k (key_of f) ≡ t → cond t (Some f) (finished_of fs k) ≡ None → (Among (keys_in fs) k → ¬ (finished_of fs k ≡ None)) → ⊥
    on true same none rest = cc
    on false apart none rest = elim among [
      | inl same ↦ (let e : true ≡ false = sym (name_eq_self k) ∙ (ap (name_eq k) same ∙ apart) in cc)
      | inr later ↦ rest later none
    ]
