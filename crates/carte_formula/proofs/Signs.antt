-- Where no sign stands before an operand, the operand stands as it is, and where a cell may begin a range.
use Rattle.std.proofs.Common.{ℕ, Bool, true, false, List, [], ◌∷◌, drop, slice_get, Some, ◌≡◌, ◌∙◌, if◌then◌else◌, refl, sym, ap, subst, Vec, Global}
use Rattle.carte_tree.specs.Tree.{Tree, Arg, ref, takes_ranges}
use Rattle.carte_tree.specs.Code.{args_trees}
use Rattle.carte_tree.specs.declared.expr.Arg.{Arg as CodeArg}
use Rattle.carte_formula.specs.Tokens.{Func}
use Rattle.carte_formula.specs.Frames.{NoSign, is_signed_at, may_range, frames_of}
use Rattle.carte_formula.specs.Begun.{Frame as Begun, args}
use Rattle.carte_formula.specs.Machine.{after, had, corner, cell_at}
use Rattle.carte_formula.specs.declared.frames.Frame.{Frame}
use Rattle.carte_formula.specs.declared.frames.Frame.TheVariants as code

pub unsigned_after : (v : Tree) (S : List Frame) → NoSign S → after v (frames_of S) ≡ had v (frames_of S)
unsigned_after v [] h = refl
unsigned_after v (code.Sign b ∷ S) h = absurd h
unsigned_after v (code.Chain c ∷ S) h = refl
unsigned_after v (code.Group ∷ S) h = refl
unsigned_after v (code.Call f xs ∷ S) h = refl

pub had_after : (v : Tree) (S : List Frame) → is_signed_at S ≡ false → after v (frames_of S) ≡ had v (frames_of S)
had_after v [] h = refl
had_after v (code.Sign b ∷ S) h = absurd (let no : ⊥ = cc in no)
had_after v (code.Chain c ∷ S) h = refl
had_after v (code.Group ∷ S) h = refl
had_after v (code.Call f xs ∷ S) h = refl

cell_by : (b : Bool) (k : List ℕ) (f : Func) (xs : List Arg) (S : List Begun) → b ≡ false → (if b then corner k f xs S else had (ref k) (args f xs ∷ S)) ≡ had (ref k) (args f xs ∷ S)
cell_by true k f xs S h = absurd (let no : ⊥ = cc in no)
cell_by false k f xs S h = refl

pub no_corner : (k : List ℕ) (S : List Frame) → may_range S ≡ false → cell_at k (frames_of S) ≡ after (ref k) (frames_of S)
no_corner k [] h = refl
no_corner k (code.Sign b ∷ S) h = refl
no_corner k (code.Chain c ∷ S) h = refl
no_corner k (code.Group ∷ S) h = refl
no_corner k (code.Call f xs ∷ S) h = cell_by (takes_ranges f) k f (args_trees xs.items) (frames_of S) h

corner_by : (b : Bool) (k : List ℕ) (f : Func) (xs : List Arg) (S : List Begun) → b ≡ true → corner k f xs S ≡ (if b then corner k f xs S else had (ref k) (args f xs ∷ S))
corner_by true k f xs S h = refl
corner_by false k f xs S h = absurd (let no : ⊥ = cc in no)

-- and one that may begin a range takes the call from the stack
pub corner_taken : (k : List ℕ) (f : Func) (xs : Vec CodeArg Global) (S T : List Frame) → slice_get S 0 ≡ Some (code.Call f xs) → T ≡ drop 1 S → may_range S ≡ true → corner k f (args_trees xs.items) (frames_of T) ≡ cell_at k (frames_of S)
corner_taken k f xs [] T top rest h = absurd (let no : ⊥ = cc in no)
corner_taken k f xs (g ∷ U) T top rest h =
    let is : g ≡ code.Call f xs = cc in
    let may : takes_ranges f ≡ true = subst (λ e. may_range (e ∷ U) ≡ true) is h in
    ap (λ V. corner k f (args_trees xs.items) (frames_of V)) rest
    ∙ corner_by (takes_ranges f) k f (args_trees xs.items) (frames_of U) may
    ∙ ap (λ e. cell_at k (frames_of (e ∷ U))) (sym is)
