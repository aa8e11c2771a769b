-- Lists of links that are compared from the front.
use Rattle.std.proofs.Common.{◌≡◌, ℕ, suc, ◌+◌, ◌<◌, Bool, true, false, ◌&&◌, List, [], ◌∷◌, ◌++◌, length, take, drop, get_or, refl, ap, sym, ◌∙◌}
use Rattle.std.proofs.lemmas.List.{drop_more, take_more}
use Rattle.carte_name.specs.Names.{name_eq}
use Rattle.carte_value.specs.declared.link.Link.{Link}
use Rattle.carte_table.specs.Lookups.{digest_eq}
use Rattle.carte_record.specs.Lookups.{links_eq}

and_false : (b : Bool) → b && false ≡ false
and_false true = refl
and_false false = refl

pub apart_by_length : (ls ms : List Link) → ¬ (length ls ≡ length ms) → links_eq ls ms ≡ false
apart_by_length [] [] other = absurd (other refl)
apart_by_length [] (m ∷ ms) other = refl
apart_by_length (l ∷ ls) [] other = refl
apart_by_length (l ∷ ls) (m ∷ ms) other = rw (apart_by_length ls ms (λ e. other (ap suc e))) (and_false (name_eq l.name m.name && digest_eq l.digest m.digest))

-- the item at a place, and what is behind it or in front
pub item_ahead : {A : Type 0} (xs : List A) (i : ℕ) (x : A) → i < length xs → x ≡ get_or xs i x → drop i xs ≡ x ∷ drop (i + 1) xs
item_ahead xs i x below is = drop_more xs i x below ∙ ap (λ y. y ∷ drop (i + 1) xs) (sym is)

pub item_more : {A : Type 0} (xs : List A) (i : ℕ) (x : A) → i < length xs → x ≡ get_or xs i x → take (i + 1) xs ≡ take i xs ++ x ∷ []
item_more xs i x below is = take_more xs i x below ∙ ap (λ y. take i xs ++ y ∷ []) (sym is)
