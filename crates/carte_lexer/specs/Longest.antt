-- Each token is the longest that fits, and what follows is lexed anew.
use Rattle.std.specs.Prelude.{ℕ, true, false, List, [], ◌∷◌, ◌++◌, length, ◌≡◌, ◌<◌, ◌+◌, ◌-◌, Ok, slice_index}
use Rattle.std.specs.List.{list_all}
use Rattle.carte_name.specs.declared.kind.Kind.{Kind}
use Rattle.carte_lexer.specs.Tokens.{Token, Placed}
use Rattle.carte_lexer.specs.Lexer.{is_blank, idle, lexed}

-- bytes that are one token wherever they stand, without a blank at their end
pub record IsToken (q : Kind) (bs : List ℕ) (t : Token) : Type 0 where
  pub alone : (at : ℕ) → lexed q idle at bs ≡ Ok (record { place = at; token = t } ∷ [])
  pub tight : is_blank (slice_index bs (length bs - 1)) ≡ false

-- the bytes from a place on are blanks, then this token, then what the later ones are lexed from; and with more of it there is no token
pub record Begins (q : Kind) (at : ℕ) (bytes : List ℕ) (p : Placed) (later : List Placed) : Type 0 where
  pub blanks : List ℕ
  pub word : List ℕ
  pub rest : List ℕ
  pub parts : bytes ≡ blanks ++ (word ++ rest)
  pub blank : list_all is_blank blanks ≡ true
  pub place : p.place ≡ at + length blanks
  pub is : IsToken q word p.token
  pub anew : lexed q idle (p.place + length word) rest ≡ Ok later
  pub longest : (more behind : List ℕ) (t : Token) → rest ≡ more ++ behind → 0 < length more → IsToken q (word ++ more) t → ⊥
