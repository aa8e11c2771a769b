-- What follows each token of a formula.
use Rattle.std.proofs.Common.{ℕ, Bool, true, false, List, [], ◌∷◌, ◌≡◌, Option, Some, None, if◌then◌else◌}
use Rattle.carte_tree.specs.Tree.{Tree, number, text, ref, Arg, takes_ranges, signed}
use Rattle.carte_formula.specs.Tokens.{Op, sub, add, Func, Area, Token, digits, quoted, word, cell, func, op, lpar, rpar, comma, colon}
use Rattle.carte_formula.specs.Begun.{Frame, sign, chain_at, group, args, joined}
use Rattle.carte_formula.specs.Machine.{State, wants, had, named, corner, half, ranged, after, cell_at, sign_at, begin, go_on, next_state, parsed, with}
use Rattle.carte_lexer.proofs.Clear.{Closing, Opening, Bracket, Clear, AllClear}

none_some : {P : Type 0} (e : Tree) → ◌≡◌ {A = Option Tree} None (Some e) → P
none_some e h = absurd (let z : ⊥ = cc in z)

closing_had : (v : Tree) (S : List Frame) (ts : List Token) (e : Tree) → parsed (had v S) ts ≡ Some e → Closing ts
closing_had v S [] e h = tt
closing_had v S (op o ∷ ts) e h = tt
closing_had v S (rpar ∷ ts) e h = tt
closing_had v S (comma ∷ ts) e h = tt
closing_had v S (colon ∷ ts) e h = tt
closing_had v S (_ ∷ ts) e h = none_some e h

closing_after : (v : Tree) (S : List Frame) (ts : List Token) (e : Tree) → parsed (after v S) ts ≡ Some e → Closing ts
closing_after v [] ts e h = closing_had v [] ts e h
closing_after v (sign b ∷ S) ts e h = closing_after (signed b v) S ts e h
closing_after v (chain_at l f done p ∷ S) ts e h = closing_had v (chain_at l f done p ∷ S) ts e h
closing_after v (group ∷ S) ts e h = closing_had v (group ∷ S) ts e h
closing_after v (args f xs ∷ S) ts e h = closing_had v (args f xs ∷ S) ts e h

closing_corner : (k : List ℕ) (f : Func) (xs : List Arg) (S : List Frame) (ts : List Token) (e : Tree) → parsed (corner k f xs S) ts ≡ Some e → Closing ts
closing_corner k f xs S [] e h = tt
closing_corner k f xs S (op o ∷ ts) e h = tt
closing_corner k f xs S (rpar ∷ ts) e h = tt
closing_corner k f xs S (comma ∷ ts) e h = tt
closing_corner k f xs S (colon ∷ ts) e h = tt
closing_corner k f xs S (_ ∷ ts) e h = none_some e h

closing_ranged : (a : Area) (f : Func) (xs : List Arg) (S : List Frame) (ts : List Token) (e : Tree) → parsed (ranged a f xs S) ts ≡ Some e → Closing ts
closing_ranged a f xs S [] e h = tt
closing_ranged a f xs S (rpar ∷ ts) e h = tt
closing_ranged a f xs S (comma ∷ ts) e h = tt
closing_ranged a f xs S (_ ∷ ts) e h = none_some e h

closing_if : (b : Bool) (k : List ℕ) (f : Func) (xs : List Arg) (S : List Frame) (ts : List Token) (e : Tree) → parsed (if b then corner k f xs S else had (ref k) (args f xs ∷ S)) ts ≡ Some e → Closing ts
closing_if true k f xs S ts e h = closing_corner k f xs S ts e h
closing_if false k f xs S ts e h = closing_had (ref k) (args f xs ∷ S) ts e h

closing_cell : (k : List ℕ) (S : List Frame) (ts : List Token) (e : Tree) → parsed (cell_at k S) ts ≡ Some e → Closing ts
closing_cell k [] ts e h = closing_had (ref k) [] ts e h
closing_cell k (sign b ∷ S) ts e h = closing_after (signed b (ref k)) S ts e h
closing_cell k (chain_at l f done p ∷ S) ts e h = closing_had (ref k) (chain_at l f done p ∷ S) ts e h
closing_cell k (group ∷ S) ts e h = closing_had (ref k) (group ∷ S) ts e h
closing_cell k (args f xs ∷ S) ts e h = closing_if (takes_ranges f) k f xs S ts e h

opening_sign : (o : Op) (S : List Frame) (ts us : List Token) (e : Tree) → with (sign_at o S) (λ u. parsed u ts) ≡ Some e → Opening (op o ∷ us)
opening_sign sub S ts us e h = tt
opening_sign add S ts us e h = tt
opening_sign _ S ts us e h = none_some e h

opening_wants : (S : List Frame) (ts : List Token) (e : Tree) → parsed (wants S) ts ≡ Some e → Opening ts
opening_wants S (digits n ∷ ts) e h = tt
opening_wants S (quoted k ∷ ts) e h = tt
opening_wants S (word k ∷ ts) e h = tt
opening_wants S (cell k ∷ ts) e h = tt
opening_wants S (func f ∷ ts) e h = tt
opening_wants S (op o ∷ ts) e h = opening_sign o S ts ts e h
opening_wants S (lpar ∷ ts) e h = tt
opening_wants S _ e h = none_some e h

bracket_named : (f : Func) (S : List Frame) (ts : List Token) (e : Tree) → parsed (named f S) ts ≡ Some e → Bracket ts
bracket_named f S (lpar ∷ ts) e h = tt
bracket_named f S _ e h = none_some e h

signed_on : (o : Op) (S : List Frame) (ts : List Token) (e : Tree) → with (sign_at o S) (λ u. parsed u ts) ≡ Some e → Opening ts
signed_on sub S ts e h = opening_wants (sign true ∷ S) ts e h
signed_on add S ts e h = opening_wants (sign false ∷ S) ts e h
signed_on _ S ts e h = none_some e h

clear_begin : (t : Token) (S : List Frame) (ts : List Token) (e : Tree) → with (begin t S) (λ u. parsed u ts) ≡ Some e → Clear t ts
clear_begin (digits n) S ts e h = closing_after (number n) S ts e h
clear_begin (quoted k) S ts e h = closing_after (text k) S ts e h
clear_begin (word k) S ts e h = closing_after (ref k) S ts e h
clear_begin (cell k) S ts e h = closing_cell k S ts e h
clear_begin (func f) S ts e h = bracket_named f S ts e h
clear_begin (op o) S ts e h = signed_on o S ts e h
clear_begin _ S ts e h = tt

clear_had : (t : Token) (v : Tree) (S : List Frame) (ts : List Token) (e : Tree) → with (go_on t v S) (λ u. parsed u ts) ≡ Some e → Clear t ts
clear_had (op o) v S ts e h = opening_wants (joined o v S) ts e h
clear_had rpar v S ts e h = tt
clear_had comma v S ts e h = tt
clear_had colon v S ts e h = tt
clear_had lpar v S ts e h = tt
clear_had _ v S ts e h = none_some e h

clear : (s : State) (t : Token) (ts : List Token) (e : Tree) → with (next_state s t) (λ u. parsed u ts) ≡ Some e → Clear t ts
clear (wants S) t ts e h = clear_begin t S ts e h
clear (had v S) t ts e h = clear_had t v S ts e h
clear (named f S) lpar ts e h = tt
clear (named f S) rpar ts e h = tt
clear (named f S) comma ts e h = tt
clear (named f S) colon ts e h = tt
clear (named f S) _ ts e h = none_some e h
clear (corner k f xs S) (op o) ts e h = clear_had (op o) (ref k) (args f xs ∷ S) ts e h
clear (corner k f xs S) lpar ts e h = tt
clear (corner k f xs S) rpar ts e h = tt
clear (corner k f xs S) comma ts e h = tt
clear (corner k f xs S) colon ts e h = tt
clear (corner k f xs S) _ ts e h = none_some e h
clear (half k f xs S) (cell j) ts e h = closing_ranged _ f xs S ts e h
clear (half k f xs S) lpar ts e h = tt
clear (half k f xs S) rpar ts e h = tt
clear (half k f xs S) comma ts e h = tt
clear (half k f xs S) colon ts e h = tt
clear (half k f xs S) _ ts e h = none_some e h
clear (ranged a f xs S) lpar ts e h = tt
clear (ranged a f xs S) rpar ts e h = tt
clear (ranged a f xs S) comma ts e h = tt
clear (ranged a f xs S) colon ts e h = tt
clear (ranged a f xs S) _ ts e h = none_some e h

clear_with : (o : Option State) (ts : List Token) (e : Tree) → ((u : State) → parsed u ts ≡ Some e → AllClear ts) → with o (λ u. parsed u ts) ≡ Some e → AllClear ts
clear_with None ts e go h = none_some e h
clear_with (Some u) ts e go h = go u h

pub all_clear : (s : State) (ts : List Token) (e : Tree) → parsed s ts ≡ Some e → AllClear ts
all_clear s [] e h = tt
all_clear s (t ∷ ts) e h = (clear s t ts e h, clear_with (next_state s t) ts e (λ u k. all_clear u ts e k) h)
