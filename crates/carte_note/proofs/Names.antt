-- Names beside the names of links, and inputs seen, place by place.
use Rattle.std.proofs.Common.{◌≡◌, ℕ, suc, Bool, true, false, ◌&&◌, List, [], ◌∷◌, ◌++◌, length, refl, ap}
use Rattle.carte_value.specs.declared.link.Link.{Link}
use Rattle.carte_name.specs.Names.{name_eq}
use Rattle.carte_book.specs.Book.{Book}
use Rattle.carte_sound.specs.Left.{names_eq}
use Rattle.carte_note.specs.Writes.{names_in, with_seen, all_seen}

-- links that grow at their end
pub seen_end : (b : Book) (ks ms : List Link) (m : Link) (ls : List Link) → all_seen b ks (ms ++ m ∷ []) ls ≡ with_seen b ks m (all_seen b ks ms ls)
seen_end b ks [] m ls = refl
seen_end b ks (n ∷ ns) m ls = seen_end b ks ns m (with_seen b ks n ls)

-- lists of unlike lengths differ
pub unlike : (ks : List (List ℕ)) (ls : List Link) → ¬ (length ks ≡ length ls) → names_eq ks (names_in ls) ≡ false
unlike [] [] other = absurd (other refl)
unlike [] (l ∷ ls) other = refl
unlike (k ∷ ks) [] other = refl
unlike (k ∷ ks) (l ∷ ls) other = on (name_eq k l.name) (unlike ks ls (λ same. other (ap suc same)))
  where
    on : (t : Bool) → names_eq ks (names_in ls) ≡ false → (t && names_eq ks (names_in ls)) ≡ false
    on true rest = rest
    on false rest = refl
