-- Where an operand comes, a token that is one follows, and else none does.
use Rattle.std.proofs.Common.{ℕ, ℤ, Bool, true, false, List, Some, None, ◌≡◌, ◌∙◌, if◌then◌else◌, refl, sym, ap}
use Rattle.carte_tree.specs.Tree.{number, text, ref}
use Rattle.carte_tree.specs.Code.{tree_of}
use Rattle.carte_tree.specs.declared.expr.Expr.{Expr}
use Rattle.carte_formula.specs.Tokens.{Func, digits, quoted, word, func}
use Rattle.carte_formula.specs.Machine.{State as Begun, after, had, named, next_state}
use Rattle.carte_formula.specs.Frames.{frames_of}
use Rattle.carte_formula.specs.Parser.{state_of, reached, holding, is_wanting, operand_at}
use Rattle.carte_formula.specs.declared.frames.Frame.{Frame}
use Rattle.carte_formula.specs.declared.parser.states.Parser.{Parser}
use Rattle.carte_formula.specs.declared.parser.states.State.{State}
use Rattle.carte_formula.specs.declared.parser.states.State.TheVariants as states
use Rattle.carte_formula.specs.declared.parser.states.Range.{Range}
use Rattle.carte_formula.specs.declared.parser.states.Range.TheVariants as ranges

number_by : (n : ℤ) (s : State) (e : Expr) (r : Range) (S : List Frame) → (if is_wanting s r then Some (after (number n) (frames_of S)) else None) ≡ next_state (state_of s e r S) (digits n)
number_by n states.Wants e r S = refl
number_by n states.Had e r S = refl
number_by n (states.Named f) e r S = refl
number_by n states.InRange e ranges.Nothing S = refl
number_by n states.InRange e (ranges.Corner k f xs) S = refl
number_by n states.InRange e (ranges.Half k f xs) S = refl
number_by n states.InRange e (ranges.Whole a f xs) S = refl

text_by : (k : List ℕ) (s : State) (e : Expr) (r : Range) (S : List Frame) → (if is_wanting s r then Some (after (text k) (frames_of S)) else None) ≡ next_state (state_of s e r S) (quoted k)
text_by t states.Wants e r S = refl
text_by t states.Had e r S = refl
text_by t (states.Named f) e r S = refl
text_by t states.InRange e ranges.Nothing S = refl
text_by t states.InRange e (ranges.Corner k f xs) S = refl
text_by t states.InRange e (ranges.Half k f xs) S = refl
text_by t states.InRange e (ranges.Whole a f xs) S = refl

word_by : (k : List ℕ) (s : State) (e : Expr) (r : Range) (S : List Frame) → (if is_wanting s r then Some (after (ref k) (frames_of S)) else None) ≡ next_state (state_of s e r S) (word k)
word_by w states.Wants e r S = refl
word_by w states.Had e r S = refl
word_by w (states.Named f) e r S = refl
word_by w states.InRange e ranges.Nothing S = refl
word_by w states.InRange e (ranges.Corner k f xs) S = refl
word_by w states.InRange e (ranges.Half k f xs) S = refl
word_by w states.InRange e (ranges.Whole a f xs) S = refl

func_by : (g : Func) (s : State) (e : Expr) (r : Range) (S : List Frame) → next_state (state_of s e r S) (func g) ≡ (if is_wanting s r then Some (named g (frames_of S)) else None)
func_by g states.Wants e r S = refl
func_by g states.Had e r S = refl
func_by g (states.Named f) e r S = refl
func_by g states.InRange e ranges.Nothing S = refl
func_by g states.InRange e (ranges.Corner k f xs) S = refl
func_by g states.InRange e (ranges.Half k f xs) S = refl
func_by g states.InRange e (ranges.Whole a f xs) S = refl

wanted : (b : Bool) (s : Begun) → b ≡ true → (if b then Some s else None) ≡ Some s
wanted true s h = refl
wanted false s h = absurd (let no : ⊥ = cc in no)

pub number_next : (n : ℤ) (p : Parser) → operand_at p (number n) ≡ next_state (reached p) (digits n)
number_next n p = number_by n p.state p.operand p.range p.stack.frames.items

pub text_next : (k : List ℕ) (p : Parser) → operand_at p (text k) ≡ next_state (reached p) (quoted k)
text_next k p = text_by k p.state p.operand p.range p.stack.frames.items

pub word_next : (k : List ℕ) (p : Parser) → operand_at p (ref k) ≡ next_state (reached p) (word k)
word_next k p = word_by k p.state p.operand p.range p.stack.frames.items

pub func_next : (f : Func) (p : Parser) → next_state (reached p) (func f) ≡ (if is_wanting p.state p.range then Some (named f (frames_of p.stack.frames.items)) else None)
func_next f p = func_by f p.state p.operand p.range p.stack.frames.items

-- the operand that a name is
pub word_stands : (k : List ℕ) (e : Expr) (o n : Parser) → is_wanting o.state o.range ≡ true → after (ref k) (frames_of o.stack.frames.items) ≡ had (tree_of e) (frames_of n.stack.frames.items) → next_state (reached o) (word k) ≡ Some (reached (holding n e))
word_stands k e o n h is = sym (word_next k o) ∙ wanted (is_wanting o.state o.range) (after (ref k) (frames_of o.stack.frames.items)) h ∙ ap (λ s. Some s) is
