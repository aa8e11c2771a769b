-- The printed bytes are those of the printed tokens.
use Rattle.std.proofs.Common.{ℕ, Bool, true, false, List, [], ◌∷◌, ◌++◌, ◌≡◌, refl, sym, ◌∙◌, ap, append_assoc, codes, slice_index}
use Rattle.std.proofs.lemmas.List.{append-nil}
use Rattle.carte_name.specs.Names.{is_upper}
use Rattle.carte_tree.specs.Tree.{rank, Tree, number, text, ref, neg, chain, call, Steps, no_step, step, Args, no_arg, arg, Arg, one, cells, first_corner, last_corner}
use Rattle.carte_formula.specs.Tokens.{Level, Token, digits, quoted, rpar}
use Rattle.carte_formula.specs.Print.{name_by, bracketed, shown, steps_shown, args_shown, later_shown, arg_shown}
use Rattle.carte_tree.specs.Functions.{func_name}
use Rattle.carte_tree.specs.Printed.{tight, op_bytes, in_brackets, printed, steps_printed, args_printed, later_printed, arg_printed}
use Rattle.carte_lexer.specs.Lexer.{token_bytes, text_of}

text_append : (ts us : List Token) → text_of (ts ++ us) ≡ text_of ts ++ text_of us
text_append [] us = refl
text_append (t ∷ ts) us = ap (λ bs. token_bytes t ++ bs) (text_append ts us) ∙ sym (append_assoc (token_bytes t) (text_of ts) (text_of us))

bracketed_text : (b : Bool) (ts : List Token) → text_of (bracketed b ts) ≡ in_brackets b (text_of ts)
bracketed_text true ts = refl
bracketed_text false ts = ap (λ bs. codes "(" ++ bs) (text_append ts (rpar ∷ []))

name_text : (b : Bool) (k : List ℕ) → text_of (name_by b k ∷ []) ≡ k
name_text true k = append-nil k
name_text false k = append-nil k

held_is : (b : Bool) (e : Tree) → text_of (shown e) ≡ printed e → text_of (bracketed b (shown e)) ≡ in_brackets b (printed e)
held_is b e h = bracketed_text b (shown e) ∙ ap (λ bs. in_brackets b bs) h

mutual
  printed_is : (e : Tree) → text_of (shown e) ≡ printed e
  printed_is (number n) = append-nil (token_bytes (digits n))
  printed_is (text k) = append-nil (token_bytes (quoted k))
  printed_is (ref k) = name_text (is_upper (slice_index k 0)) k
  printed_is (neg e) = ap (λ bs. codes "-" ++ bs) (held_is (tight 0 e) e (printed_is e))
  printed_is (chain l e ss) =
      text_append (bracketed (tight (rank l) e) (shown e)) (steps_shown l ss) ∙ ap (λ bs. bs ++ text_of (steps_shown l ss)) (held_is (tight (rank l) e) e (printed_is e))
      ∙ ap (λ bs. in_brackets (tight (rank l) e) (printed e) ++ bs) (steps_is ss l)
  printed_is (call f xs) = ap (λ bs. func_name f ++ (codes "(" ++ bs)) (text_append (args_shown xs) (rpar ∷ []) ∙ ap (λ bs. bs ++ codes ")") (args_is xs))

  steps_is : (ss : Steps) (l : Level) → text_of (steps_shown l ss) ≡ steps_printed l ss
  steps_is no_step l = refl
  steps_is (step o e ss) l =
      ap (λ bs. op_bytes o ++ bs) (text_append (bracketed (tight (rank l) e) (shown e)) (steps_shown l ss) ∙ ap (λ bs. bs ++ text_of (steps_shown l ss)) (held_is (tight (rank l) e) e (printed_is e))
      ∙ ap (λ bs. in_brackets (tight (rank l) e) (printed e) ++ bs) (steps_is ss l))
      ∙ sym (append_assoc (op_bytes o) (in_brackets (tight (rank l) e) (printed e)) (steps_printed l ss))

  args_is : (xs : Args) → text_of (args_shown xs) ≡ args_printed xs
  args_is no_arg = refl
  args_is (arg x xs) = text_append (arg_shown x) (later_shown xs) ∙ ap (λ bs. bs ++ text_of (later_shown xs)) (arg_is x) ∙ ap (λ bs. arg_printed x ++ bs) (later_is xs)

  later_is : (xs : Args) → text_of (later_shown xs) ≡ later_printed xs
  later_is no_arg = refl
  later_is (arg x xs) =
      ap (λ bs. codes "," ++ bs) (text_append (arg_shown x) (later_shown xs) ∙ ap (λ bs. bs ++ text_of (later_shown xs)) (arg_is x) ∙ ap (λ bs. arg_printed x ++ bs) (later_is xs))
      ∙ sym (append_assoc (codes ",") (arg_printed x) (later_printed xs))

  arg_is : (x : Arg) → text_of (arg_shown x) ≡ arg_printed x
  arg_is (one e) = printed_is e
  arg_is (cells a) = ap (λ bs. first_corner a ++ (codes ":" ++ bs)) (append-nil (last_corner a))

pub printed_shown : (e : Tree) → printed e ≡ text_of (shown e)
printed_shown e = sym (printed_is e)
