-- What a comma does with the newest frame.
use Rattle.std.proofs.Common.{ℕ, List, [], ◌∷◌, ◌++◌, length, ◌≡◌, ◌+◌, Some, None, if◌then◌else◌, refl, ◌∙◌, ap, length-append}
use Rattle.std.proofs.lemmas.List.{length-map}
use Rattle.carte_tree.specs.Tree.{Tree, Arg, one, arity, room_in}
use Rattle.carte_tree.specs.Code.{args_trees}
use Rattle.carte_tree.specs.declared.expr.Arg.{Arg as CodeArg}
use Rattle.carte_formula.specs.Tokens.{Func}
use Rattle.carte_formula.specs.Frames.{called_at, frames_of, with_arg}
use Rattle.carte_formula.specs.Begun.{Frame as Begun, args}
use Rattle.carte_formula.specs.Machine.{wants, split, next_args}
use Rattle.carte_formula.specs.Parser.{args_next}
use Rattle.carte_formula.specs.declared.frames.Frame.{Frame}
use Rattle.carte_formula.specs.declared.frames.Frame.TheVariants as code

-- a comma in a call
next_by : (f g : Func) (xs : List Arg) (S : List Begun) (n : ℕ) → f ≡ g → length xs ≡ n → next_args f xs S ≡ (if room_in (arity g) n then Some (wants (args f xs ∷ S)) else None)
next_by f g xs S n h k = ap (λ m. if room_in (arity f) m then Some (wants (args f xs ∷ S)) else None) k ∙ ap (λ j. if room_in (arity j) n then Some (wants (args f xs ∷ S)) else None) h

longer : (xs : List CodeArg) (a : Arg) (n : ℕ) → length xs + 1 ≡ n → length (args_trees xs ++ a ∷ []) ≡ n
longer xs a n h = simp (length-append, length-map) h

pub arg_room : (a : Arg) (f : Func) (n : ℕ) (S : List Frame) → called_at S ≡ Some (f, n) → args_next a (frames_of S) ≡ (if room_in (arity f) n then Some (wants (with_arg a (frames_of S))) else None)
arg_room a f n [] h = absurd (let no : ⊥ = cc in no)
arg_room a f n (code.Sign b ∷ S) h = absurd (let no : ⊥ = cc in no)
arg_room a f n (code.Chain c ∷ S) h = absurd (let no : ⊥ = cc in no)
arg_room a f n (code.Group ∷ S) h = absurd (let no : ⊥ = cc in no)
arg_room a f n (code.Call g xs ∷ S) h =
    let p : ◌≡◌ {A = Func × ℕ} (g, length xs.items + 1) (f, n) = cc in
    next_by g f (args_trees xs.items ++ a ∷ []) (frames_of S) n (ap (λ (q : Func × ℕ). q.0) p) (longer xs.items a n (ap (λ (q : Func × ℕ). q.1) p))

pub split_next : (v : Tree) (f : Func) (n : ℕ) (S : List Frame) → called_at S ≡ Some (f, n) → split v (frames_of S) ≡ args_next (one v) (frames_of S)
split_next v f n [] h = absurd (let no : ⊥ = cc in no)
split_next v f n (code.Sign b ∷ S) h = absurd (let no : ⊥ = cc in no)
split_next v f n (code.Chain c ∷ S) h = absurd (let no : ⊥ = cc in no)
split_next v f n (code.Group ∷ S) h = absurd (let no : ⊥ = cc in no)
split_next v f n (code.Call g xs ∷ S) h = refl
