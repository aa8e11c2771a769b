-- What a text is read as does not change while its tokens are read.
use Rattle.std.proofs.Common.{ℕ, false, List, [], ◌∷◌, length, drop, ◌≡◌, ◌<◌, ◌≤◌, ◌+◌, nat_lt, Some, None, Result, Ok, Err, refl, sym, ◌∙◌, ap, subst, slice_index, arith}
use Rattle.carte_name.specs.declared.kind.Kind.{Kind}
use Rattle.carte_tree.specs.Tree.{Tree}
use Rattle.carte_formula.specs.Tokens.{Token, Sign, sign_token, Placed}
use Rattle.carte_formula.specs.Machine.{State, wants, next_state}
use Rattle.carte_lexer.specs.Ranges.{wide_after}
use Rattle.carte_lexer.specs.Widths.{wide_from}
use Rattle.carte_formula.specs.Whole.{with_tokens}
use Rattle.carte_lexer.specs.Takes.{MeetsTo, ReadsTo, fault_of}
use Rattle.carte_formula.specs.Reading.{depth, FormulaFault, BadToken, BadSyntax, TooDeep, TooLong, TooWide, NoMemory}
use Rattle.carte_lexer.specs.Lexer.{start_of, blank, single, wrong, idle, before, lexed}
use Rattle.carte_formula.specs.Parser.{reached, StepsTo}
use Rattle.carte_formula.specs.Resumed.{resumed, remaining, carrying, Advances, Follows}
use Rattle.carte_formula.specs.declared.parser.Progress.{Progress}
use Rattle.carte_lexer.proofs.Taking.{blank_met, sign_met, wrong_taken}
use Rattle.carte_tree.specs.declared.expr.Expr.{Expr}
use Rattle.carte_lexer.specs.declared.width.Ranges.{Ranges}
use Rattle.carte_formula.specs.declared.parser.states.Parser.{Parser}

only_memory : (g : FormulaFault) (r : Result Tree FormulaFault) → ReadsTo (Err g) (Err NoMemory) → ReadsTo (Err g) r
only_memory NoMemory r h = tt
only_memory (BadToken place) r h = absurd (let z : ⊥ = cc in z)
only_memory (BadSyntax place) r h = absurd (let z : ⊥ = cc in z)
only_memory (TooDeep place) r h = absurd (let z : ⊥ = cc in z)
only_memory (TooLong place) r h = absurd (let z : ⊥ = cc in z)
only_memory (TooWide place) r h = absurd (let z : ⊥ = cc in z)

-- a fault of the present token is told, unless the rest has a bad one
pub resumed_fault : (s : State) (w : Ranges) (size : ℕ) (p : Placed) (r : Result (List Placed) ℕ) (n : Parser) (f g : FormulaFault) → StepsTo (Err f) n (next_state s p.token) p.place → ReadsTo (Err g) (Err (fault_of f r))
    → ReadsTo (Err g) (resumed s w size (before p r))
resumed_fault s w size p (Err place) n f g h k = k
resumed_fault s w size p (Ok ps) n (BadSyntax place) g h k = rw (h.0, ← h.1) k
resumed_fault s w size p (Ok ps) n (TooDeep place) g (u, goes, deep, is) k = rw (goes, deep, ← is) k
resumed_fault s w size p (Ok ps) n NoMemory g h k = only_memory g (resumed s w size (before p (Ok ps))) k
resumed_fault s w size p (Ok ps) n (BadToken place) g h k = absurd h
resumed_fault s w size p (Ok ps) n (TooLong place) g h k = absurd h
resumed_fault s w size p (Ok ps) n (TooWide place) g h k = absurd h

-- a token that is taken
resumed_step : (s u : State) (w v : Ranges) (size : ℕ) (p : Placed) (r : Result (List Placed) ℕ) → next_state s p.token ≡ Some u → nat_lt 64 (depth u) ≡ false → ((ps : List Placed) → wide_after w (p ∷ ps) ≡ wide_after v ps)
    → resumed s w size (before p r) ≡ resumed u v size r
resumed_step s u w v size p (Err place) goes flat wide = refl
resumed_step s u w v size p (Ok ps) goes flat wide = rw (goes, flat, wide ps) refl

-- where the tokens from a place on are others, so is what is read
along : (q : Kind) (bytes : List ℕ) (at : ℕ) (p : Progress) (r : Result (List Placed) ℕ) → lexed q idle at (drop at bytes) ≡ r → remaining q bytes at p ≡ resumed (reached p.parser) p.ranges (length bytes) r
along q bytes at p r h = ap (λ x. resumed (reached p.parser) p.ranges (length bytes) x) h

pub blank_advances : (q : Kind) (bytes : List ℕ) (at : ℕ) (p : Progress) → at < length bytes → start_of q (slice_index bytes at) ≡ blank → Advances q bytes at p (Ok (at + 1)) p
blank_advances q bytes at p h is =
    let m : MeetsTo q bytes at (Ok (None, at + 1)) = blank_met q bytes at h is in
    (m.0, m.1, along q bytes at p _ m.2)

pub wrong_advances : (q : Kind) (bytes : List ℕ) (at : ℕ) (p : Progress) → at < length bytes → start_of q (slice_index bytes at) ≡ wrong → Advances q bytes at p (Err (BadToken at)) p
wrong_advances q bytes at p h is = along q bytes at p (Err at) (wrong_taken q bytes at h is)

pub token_advances : (q : Kind) (bytes : List ℕ) (at end : ℕ) (t : Token) (p : Progress) (n : Parser) (v : Ranges) → MeetsTo q bytes at (Ok (Some t, end)) → ((ps : List Placed) → wide_after p.ranges (record { place = at; token = t } ∷ ps) ≡ wide_after v ps)
    → StepsTo (Ok tt) n (next_state (reached p.parser) t) at → Advances q bytes at p (Ok end) (record { parser = n; ranges = v })
token_advances q bytes at end t p n v m wide s =
    (m.0, m.1, along q bytes at p _ m.2 ∙ resumed_step (reached p.parser) (reached n) p.ranges v (length bytes) (record { place = at; token = t }) (lexed q idle end (drop end bytes)) s.0 s.1 wide)

pub fault_advances : (q : Kind) (bytes : List ℕ) (at end : ℕ) (t : Token) (p : Progress) (n : Parser) (f g : FormulaFault) → MeetsTo q bytes at (Ok (Some t, end)) → StepsTo (Err f) n (next_state (reached p.parser) t) at
    → ReadsTo (Err g) (Err (fault_of f (lexed q idle end (drop end bytes)))) → ReadsTo (Err g) (remaining q bytes at p)
fault_advances q bytes at end t p n f g m s k =
    subst (λ r. ReadsTo (Err g) r) (sym (along q bytes at p _ m.2)) (resumed_fault (reached p.parser) p.ranges (length bytes) (record { place = at; token = t }) (lexed q idle end (drop end bytes)) n f g s k)

-- a sign
pub sign_here : (q : Kind) (bytes : List ℕ) (at : ℕ) (s : Sign) → at < length bytes → start_of q (slice_index bytes at) ≡ single (sign_token s) → MeetsTo q bytes at (Ok (Some (sign_token s), at + 1))
sign_here q bytes at s h is = sign_met q bytes at (sign_token s) h is

-- before the first token
begins_reading : (s : State) (w : Ranges) (size : ℕ) (r : Result (List Placed) ℕ) → s ≡ wants [] → ((ps : List Placed) → wide_after w ps ≡ wide_from 0 ps) → resumed s w size r ≡ with_tokens r size
begins_reading s w size (Err place) is wide = refl
begins_reading s w size (Ok ps) is wide = rw (is, wide ps) refl

pub whole_remains : (q : Kind) (bytes : List ℕ) (p : Progress) → reached p.parser ≡ wants [] → ((ps : List Placed) → wide_after p.ranges ps ≡ wide_from 0 ps) → remaining q bytes 0 p ≡ with_tokens (lexed q idle 0 bytes) (length bytes)
whole_remains q bytes p is wide = begins_reading (reached p.parser) p.ranges (length bytes) (lexed q idle 0 bytes) is wide

-- an operand stands behind a token, and what follows takes it
pub follows_on : (q : Kind) (bytes : List ℕ) (at : ℕ) (e : Expr) (p : Progress) (r : Result ℕ FormulaFault) (n : Progress) → Advances q bytes at (carrying p e) r n → Follows q bytes at e p r n
follows_on q bytes at e p (Ok end) n h = let low : at < end = h.0 in (omega arith, h.1, h.2)
follows_on q bytes at e p (Err f) n h = h

-- both are one way from before the token
pub operand_advances : (q : Kind) (bytes : List ℕ) (at end : ℕ) (e : Expr) (p m n : Progress) (r : Result ℕ FormulaFault) → Advances q bytes at p (Ok end) (carrying m e) → Follows q bytes end e m r n → Advances q bytes at p r n
operand_advances q bytes at end e p m n (Ok last) h k = let low : at < end = h.0 in let on : end ≤ last = k.0 in (omega arith, k.1, h.2 ∙ k.2)
operand_advances q bytes at end e p m n (Err f) h k = subst (λ r. ReadsTo (Err f) r) (sym h.2) k
