-- Names read word by word.
use Rattle.std.proofs.Common.{ℕ, ◌≡◌, List, [], ◌∷◌, ◌++◌, Result, Ok, Err, ap, sym, ◌∙◌, refl, append_assoc}
use Rattle.carte_name.specs.declared.kind.Kind.{Kind}
use Rattle.carte_words.specs.Words.{◌>>=◌, name_in, names_in, put_first}
use Rattle.carte_words.specs.declared.fault.WordsFault.{WordsFault}

abbrev pub put_before : List (List ℕ) → Result (List (List ℕ)) WordsFault → Result (List (List ℕ)) WordsFault
put_before ns (Ok words) = Ok (ns ++ words)
put_before ns (Err fault) = Err fault

-- a name more before them is that name first among them
pub put_grown : (ns : List (List ℕ)) (k : List ℕ) (r : Result (List (List ℕ)) WordsFault) → put_before (ns ++ k ∷ []) r ≡ put_before ns (put_first k r)
put_grown ns k (Ok ks) = ap Ok (append_assoc ns (k ∷ []) ks)
put_grown ns k (Err fault) = refl

-- one word more was read
pub put_next : (kind : Kind) (ns : List (List ℕ)) (w k : List ℕ) (ws : List (List ℕ)) → name_in kind w ≡ Ok k → put_before (ns ++ k ∷ []) (names_in kind ws) ≡ put_before ns (names_in kind (w ∷ ws))
put_next kind ns w k ws is = put_grown ns k (names_in kind ws) ∙ ap (λ r. put_before ns (r >>= (λ l. put_first l (names_in kind ws)))) (sym is)
