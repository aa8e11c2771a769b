-- Equal names, and equal digests.
use Rattle.std.proofs.Common.{◌≡◌, ℕ, Bool, true, false, List, refl, sym}
use Rattle.std.specs.Cmp.Lexicographic.{bytes_decides}
use Rattle.carte_name.specs.Names.{name_eq}

both : (b c : Bool) → (b ≡ true → c ≡ true) → (c ≡ true → b ≡ true) → b ≡ c
both true c there back = sym (there refl)
both false false there back = refl
both false true there back = back refl

pub name_eq_is : (j k : List ℕ) → name_eq j k ≡ true → j ≡ k
name_eq_is j k is = (bytes_decides j k).0 is

pub name_eq_self : (k : List ℕ) → name_eq k k ≡ true
name_eq_self k = (bytes_decides k k).1 refl

pub name_eq_sym : (j k : List ℕ) → name_eq j k ≡ name_eq k j
name_eq_sym j k = both (name_eq j k) (name_eq k j) (λ is. (bytes_decides k j).1 (sym (name_eq_is j k is))) (λ is. (bytes_decides j k).1 (sym (name_eq_is k j is)))
