-- Lists of items that are spelled one after the other.
use Rattle.std.proofs.Common.{◌≡◌, ℕ, ◌<◌, List, [], ◌∷◌, ◌++◌, length, sym, ◌∙◌, append_assoc, arith}
use Rattle.std.specs.List.{flat_map}
use Rattle.carte_codec.specs.Each.{EachFits}
use Rattle.carte_codec.specs.Spellings.{OneSpelling, IsNotAhead, FailsToRead}
use Rattle.carte_codec.specs.declared.unread.Unread.{Unread}
use Rattle.carte_codec.specs.declared.unread.Unread.TheVariants.{NotThere, NoMemory}
use Rattle.carte_codec.specs.Parts.{FitsMany}

-- where some items were read and no item follows, no longer list of items stands there
pub no_longer_list : {A : Type 0} (spelled : A → List ℕ) (fits : A → Type 0) → OneSpelling spelled fits → (xs ys : List A) (r s : List ℕ) → EachFits fits xs → EachFits fits ys → length xs < length ys → IsNotAhead spelled fits r → ¬ (flat_map spelled xs ++ r ≡ flat_map spelled ys ++ s)
no_longer_list spelled fits one xs [] r s is is' fewer none same = omega arith
no_longer_list spelled fits one [] (y ∷ ys) r s is is' fewer none same = none y (flat_map spelled ys ++ s) is'.0 (same ∙ append_assoc (spelled y) (flat_map spelled ys) s)
no_longer_list spelled fits one (x ∷ xs) (y ∷ ys) r s is is' fewer none same =
    let whole : spelled x ++ (flat_map spelled xs ++ r) ≡ spelled y ++ (flat_map spelled ys ++ s) = sym (append_assoc (spelled x) (flat_map spelled xs) r) ∙ same ∙ append_assoc (spelled y) (flat_map spelled ys) s in
    let front : (x ≡ y) × (flat_map spelled xs ++ r ≡ flat_map spelled ys ++ s) = one.one x y (flat_map spelled xs ++ r) (flat_map spelled ys ++ s) is.0 is'.0 whole in
    no_longer_list spelled fits one xs ys r s is.1 is'.1 (omega arith) none front.1

-- the same of reading, for lists that are seen as their items
pub items_fail : {A L : Type 0} (items : L → List A) (spelled : A → List ℕ) (fits : A → Type 0) (n : ℕ) (xs : List A) (bytes rest : List ℕ) (unread : Unread) → OneSpelling spelled fits → length xs < n → EachFits fits xs → bytes ≡ flat_map spelled xs ++ rest → FailsToRead spelled fits rest unread → FailsToRead (λ list. flat_map spelled (items list)) (λ list. FitsMany fits n (items list)) bytes unread
items_fail items spelled fits n xs bytes rest NoMemory one fewer is so_far none = tt
items_fail items spelled fits n xs bytes rest NotThere one fewer is so_far none = λ list s fit same.
    let less : length xs < length (items list) = omega (arith, fit.0) in
    no_longer_list spelled fits one xs (items list) rest s is fit.1 less none (sym so_far ∙ same)
