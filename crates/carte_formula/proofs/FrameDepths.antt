-- The depth that the stack counts is that of its frames.
use Rattle.std.proofs.Common.{List, [], ◌∷◌, true, length, ◌≡◌, ◌≤◌, refl, arith}
use Rattle.carte_formula.specs.Frames.{depth_in, is_empty_at, frames_of}
use Rattle.carte_formula.specs.Begun.{depth_of}
use Rattle.carte_formula.specs.declared.frames.Frame.{Frame}
use Rattle.carte_formula.specs.declared.frames.Frame.TheVariants as code

pub depth_same : (S : List Frame) → depth_of (frames_of S) ≡ depth_in S
depth_same [] = refl
depth_same (code.Sign b ∷ S) = let h = depth_same S in omega arith
depth_same (code.Chain c ∷ S) = let h = depth_same S in omega arith
depth_same (code.Group ∷ S) = let h = depth_same S in omega arith
depth_same (code.Call f xs ∷ S) = let h = depth_same S in omega arith

pub depth_at_most : (S : List Frame) → depth_in S ≤ length S
depth_at_most [] = omega arith
depth_at_most (code.Sign b ∷ S) = let h = depth_at_most S in omega arith
depth_at_most (code.Chain c ∷ S) = let h = depth_at_most S in omega arith
depth_at_most (code.Group ∷ S) = let h = depth_at_most S in omega arith
depth_at_most (code.Call f xs ∷ S) = let h = depth_at_most S in omega arith

pub no_frames : (S : List Frame) → is_empty_at S ≡ true → S ≡ []
no_frames [] h = refl
no_frames (f ∷ S) h = absurd (let no : ⊥ = cc in no)
