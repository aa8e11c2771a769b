-- What an operator does with the newest frame.
use Rattle.std.proofs.Common.{Bool, true, false, List, [], ◌∷◌, ◌≡◌, ◌==◌, nat_lt, Some, if◌then◌else◌, refl}
use Rattle.carte_tree.specs.Tree.{Tree, chain, level_of, rank}
use Rattle.carte_tree.specs.Code.{tree_of, terms_of}
use Rattle.carte_tree.specs.declared.expr.Op.{Op}
use Rattle.carte_formula.specs.Frames.{joint_at, joint_of, is_empty_at, open_frame, frames_of}
use Rattle.carte_formula.specs.Begun.{Frame as Begun, chain_at, grown, joined, ended}
use Rattle.carte_formula.specs.declared.frames.OpenChain.{OpenChain}
use Rattle.carte_formula.specs.declared.frames.Frame.{Frame}
use Rattle.carte_formula.specs.declared.frames.Frame.TheVariants as code
use Rattle.carte_formula.specs.declared.frames.Joint.{Joint}
use Rattle.carte_formula.specs.declared.frames.Joint.TheVariants as joints

abbrev joint_by : Bool → Bool → Joint
joint_by less same = if less then joints.Ends else if same then joints.GoesOn else joints.Begins

abbrev picked : Bool → Bool → List Begun → List Begun → List Begun → List Begun
picked less same x y z = if less then x else if same then y else z

picks_second : (less same : Bool) (x y z : List Begun) → joint_by less same ≡ joints.GoesOn → picked less same x y z ≡ y
picks_second true same x y z h = absurd (let no : ⊥ = cc in no)
picks_second false true x y z h = refl
picks_second false false x y z h = absurd (let no : ⊥ = cc in no)

picks_third : (less same : Bool) (x y z : List Begun) → joint_by less same ≡ joints.Begins → picked less same x y z ≡ z
picks_third true same x y z h = absurd (let no : ⊥ = cc in no)
picks_third false true x y z h = absurd (let no : ⊥ = cc in no)
picks_third false false x y z h = refl

-- one of the same level goes on
pub chain_longer : (o : Op) (v : Tree) (c : OpenChain) (S : List Begun) → joint_at (level_of o) (code.Chain c) ≡ joints.GoesOn
    → joined o v (open_frame c ∷ S) ≡ chain_at c.level (tree_of c.first) (grown (terms_of c.steps.items) c.last v) o ∷ S
chain_longer o v c S h = picks_second (nat_lt (rank c.level) (rank (level_of o))) (rank c.level == rank (level_of o)) _ _ _ h

-- else a chain begins
pub begun_at : (o : Op) (v : Tree) (S : List Frame) → joint_of (level_of o) S ≡ joints.Begins → joined o v (frames_of S) ≡ chain_at (level_of o) v [] o ∷ frames_of S
begun_at o v [] h = refl
begun_at o v (code.Sign b ∷ S) h = absurd (let no : ⊥ = cc in no)
begun_at o v (code.Chain c ∷ S) h = picks_third (nat_lt (rank c.level) (rank (level_of o))) (rank c.level == rank (level_of o)) _ _ _ h
begun_at o v (code.Group ∷ S) h = refl
begun_at o v (code.Call f xs ∷ S) h = refl

-- where nothing is begun, the operand is the formula
pub ended_whole : (v : Tree) (S : List Frame) → is_empty_at S ≡ true → ended v (frames_of S) ≡ Some v
ended_whole v [] h = refl
ended_whole v (f ∷ S) h = absurd (let no : ⊥ = cc in no)
