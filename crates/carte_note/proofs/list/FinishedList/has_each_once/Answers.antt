use Rattle.std.proofs.Common.{◌≡◌, [], ◌∷◌, List, map, refl, ap, subst, IfSome}
use Rattle.std.specs.HashMap.{get}
use Rattle.std.specs.List.{IsDistinct}
use Rattle.carte_name.specs.Names.{name_eq}
use Rattle.carte_table.specs.Places.{IsFirstPlaces}
use Rattle.carte_note.specs.declared.finished.Finished.{Finished}
use Rattle.carte_note.specs.Lists.{is_of_key}
use Rattle.carte_note.specs.Right.{key_of, keys_in}
use Rattle.carte_note.proofs.list.FinishedList.has_each_once.Goals as goal

mapped : (fs : List Finished) → map key_of fs ≡ keys_in fs
mapped [] = refl
mapped (f ∷ fs) = ap (λ ks. key_of f ∷ ks) (mapped fs)

pub returns-in-Some : goal.returns-in-Some
returns-in-Some c = λ once.
    let fs = c.self.inside.finished.items in
    let distinct = c.each_once.ensures once is_of_key key_of (λ k f. refl) (rw c.as_slice.ensures.value (subst (λ o. IfSome o (λ p. IsFirstPlaces is_of_key c.self.inside.finished.items (get name_eq p))) c.in-Some.is c.self.invariant.1)) in
    subst (λ xs. IsDistinct name_eq (keys_in xs)) c.self.view_is (subst (IsDistinct name_eq) (mapped fs) (subst (λ xs. IsDistinct name_eq (map key_of xs)) c.as_slice.ensures.value distinct))
