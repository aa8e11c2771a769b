-- What the finished keys of a work say of the digests that names have now.
use Rattle.std.proofs.Common.{◌≡◌, ℕ, Bool, true, false, cond, List, [], ◌∷◌, Option, Some, None, refl, ap, sym, ◌∙◌, subst, inl, inr}
use Rattle.carte_value.specs.declared.digest.Digest.{Digest}
use Rattle.carte_value.specs.declared.value.Value.{Value}
use Rattle.carte_name.specs.Names.{name_eq}
use Rattle.carte_value.specs.Spelling.{digest_of}
use Rattle.carte_value.specs.Truths.{Among}
use Rattle.carte_book.specs.Book.{Book, Item, input, rule, content, clean}
use Rattle.carte_book.specs.Needs.{IsRule}
use Rattle.carte_book.proofs.Clean.{clean_input, clean_nothing}
use Rattle.carte_note.specs.declared.finished.Finished.{Finished}
use Rattle.carte_note.specs.Lists.{finished_of}
use Rattle.carte_note.specs.Right.{AreRight, IsRightFinished, finishes_of, key_of}
use Rattle.carte_record.specs.declared.way.Way.{Way}
use Rattle.carte_record.specs.declared.way.Way.TheVariants.{Deep}
use Rattle.carte_record.specs.Kept.{SomeKept}
use Rattle.carte_sound.specs.Held.{How, clean_digest}
use Rattle.carte_sound.specs.Left.{keys_of}
use Rattle.carte_sound.specs.Marks.{present, digest_in}
use Rattle.carte_sound.specs.True.{digest_or}
use Rattle.carte_sound.proofs.Tests.{name_self, same_name}
use Rattle.carte_explain.specs.Found.{digest_at, digest_found, digest_made, is_of_needs}

pub found_deep : (b : Book) (fs : List Finished) (j : List ℕ) → digest_found Deep b fs j ≡ present b j
found_deep b fs j = on (content b j)
  where
    on : (o : Option Item) → digest_at Deep o (finished_of fs j) ≡ digest_in o
    on None = refl
    on (Some (input v)) = refl
    on (Some (rule e)) = refl

pub finished_there : (fs : List Finished) (k : List ℕ) → Among (keys_of (finishes_of fs)) k → (f : Finished) × (finished_of fs k ≡ Some f)
finished_there [] k nowhere = absurd nowhere
finished_there (g ∷ gs) k among = on (name_eq k (key_of g)) refl (λ later. finished_there gs k later)
  where
    on : (t : Bool) → name_eq k (key_of g) ≡ t → (Among (keys_of (finishes_of gs)) k → (f : Finished) × (finished_of gs k ≡ Some f)) → (f : Finished) × (cond t (Some g) (finished_of gs k) ≡ Some f)
    on true is rest = (g, refl)
    on false is rest = elim among [
      | inl same ↦ absurd (let t : name_eq k k ≡ true = name_self k in let n : name_eq k k ≡ false = ap (name_eq k) same ∙ is in cc)
      | inr later ↦ rest later
    ]

pub finished_among : (fs : List Finished) (k : List ℕ) (f : Finished) → finished_of fs k ≡ Some f → Among (keys_of (finishes_of fs)) k
finished_among [] k f is = cc
finished_among (g ∷ gs) k f is = on (name_eq k (key_of g)) refl is (finished_among gs k f)
  where
    on : (t : Bool) → name_eq k (key_of g) ≡ t → cond t (Some g) (finished_of gs k) ≡ Some f → (finished_of gs k ≡ Some f → Among (keys_of (finishes_of gs)) k) → Among (keys_of (finishes_of (g ∷ gs))) k
    on true same is rest = inl (same_name k (key_of g) same)
    on false apart is rest = inr (rest is)

module _ (h : How) (M : SomeKept) (b : Book) where
  pub right_of : (fs : List Finished) (k : List ℕ) (f : Finished) → AreRight h M b fs → finished_of fs k ≡ Some f → IsRightFinished h M b k f
  right_of [] k f right is = cc
  right_of (g ∷ gs) k f right is = on (name_eq k (key_of g)) refl is (right_of gs k f right.1)
    where
      on : (t : Bool) → name_eq k (key_of g) ≡ t → cond t (Some g) (finished_of gs k) ≡ Some f → (finished_of gs k ≡ Some f → IsRightFinished h M b k f) → IsRightFinished h M b k f
      on true same is rest =
          let e : g ≡ f = cc in
          subst (λ x. IsRightFinished h M b k x) e (subst (λ j. IsRightFinished h M b j g) (sym (same_name k (key_of g) same)) right.0)
      on false apart is rest = rest is

  pub found_clean : (w : Way) (fs : List Finished) → is_of_needs w ≡ true → AreRight h M b fs → (j : List ℕ) (d : Digest) → digest_found w b fs j ≡ Some d → clean_digest b j ≡ Some d
  found_clean w fs of right j d = on (content b j) refl
    where
      made : (o : Option Finished) → finished_of fs j ≡ o → digest_made o ≡ Some d → clean_digest b j ≡ Some d
      made None is found = cc
      made (Some f) is found = ap (λ (o : Option Value). elim o [ None ↦ None | Some v ↦ Some (digest_of v) ]) (right_of fs j f right is).made.value ∙ found

      on : (o : Option Item) → content b j ≡ o → digest_at w o (finished_of fs j) ≡ Some d → clean_digest b j ≡ Some d
      on None is found = cc
      on (Some (input v)) is found = ap (λ (o : Option Value). elim o [ None ↦ None | Some x ↦ Some (digest_of x) ]) (clean_input b j v is) ∙ found
      on (Some (rule e)) is found = made (finished_of fs j) refl (subst (λ t. cond t (digest_made (finished_of fs j)) None ≡ Some d) of found)

  pub clean_found : (w : Way) (fs : List Finished) → is_of_needs w ≡ true → AreRight h M b fs → (j : List ℕ) (v : Value) → clean b j ≡ Some v → (IsRule b j → Among (keys_of (finishes_of fs)) j) → digest_found w b fs j ≡ Some (digest_of v)
  clean_found w fs of right j v has each = on (content b j) refl
    where
      on : (o : Option Item) → content b j ≡ o → digest_at w o (finished_of fs j) ≡ Some (digest_of v)
      on None is = absurd (let e : Some v ≡ None = sym has ∙ clean_nothing b j is in cc)
      on (Some (input x)) is = (let e : x ≡ v = (let s : Some x ≡ Some v = sym (clean_input b j x is) ∙ has in cc) in ap (λ y. Some (digest_of y)) e)
      on (Some (rule e)) is =
          let f = finished_there fs j (each (e, is)) in
          let value = (right_of fs j f.0 right f.1).made.value in
          ap (λ t. cond t (digest_made (finished_of fs j)) None) of ∙ ap digest_made f.1 ∙ ap (λ o. Some (digest_or o)) (sym value ∙ has)
