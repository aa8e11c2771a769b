-- The digest of a book's rules.
use Rattle.std.specs.Prelude.{ℕ, List, [], ◌∷◌, ◌++◌, ◌≡◌, length}
use Rattle.std.specs.Int.{w32, to_be_bytes}
use Rattle.sha2.specs.Sha256.{sha256}
use Rattle.carte_value.specs.declared.digest.Digest.{Digest}
use Rattle.carte_name.specs.declared.kind.Kind.{Kind}
use Rattle.carte_name.specs.declared.kind.Kind.TheVariants.{Rules, Sheet}
use Rattle.carte_tree.specs.Tree.{Tree}
use Rattle.carte_tree.specs.Printed.{printed}
use Rattle.carte_book.specs.Content.{Book, rules_of}

abbrev pub kind_code : Kind → ℕ
kind_code Rules = 0
kind_code Sheet = 1

-- the length in 1 byte, and the name
abbrev pub spelled_name : List ℕ → List ℕ
spelled_name k = length k ∷ k

-- the length of the printed form in 4 bytes, the greatest first, and the printed form
abbrev pub spelled_formula : Tree → List ℕ
spelled_formula e = to_be_bytes w32 (length (printed e)) ++ printed e

abbrev pub spelled_rules : List (List ℕ × Tree) → List ℕ
spelled_rules [] = []
spelled_rules ((k, e) ∷ rs) = (spelled_name k ++ spelled_formula e) ++ spelled_rules rs

-- a byte for the kind, and then the rules in name order
abbrev pub rules_spelling : Book → List ℕ
rules_spelling b = kind_code b.kind ∷ spelled_rules (rules_of b)

-- SHA-256 of that
abbrev pub rules_digest_of : Book → Digest
rules_digest_of b = record { 0 = sha256 (rules_spelling b) }

-- books of one kind with the same rules have one digest, whatever texts the formulas were read from
abbrev pub OneDigest : Type 0
OneDigest = (a b : Book) → a.kind ≡ b.kind → rules_of a ≡ rules_of b → rules_digest_of a ≡ rules_digest_of b
