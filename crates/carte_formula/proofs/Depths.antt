-- How deep a state is where a range is or may be begun, whose call isn't on the stack.
use Rattle.std.proofs.Common.{List, ◌≡◌, refl}
use Rattle.carte_formula.specs.Frames.{frames_of}
use Rattle.carte_formula.specs.Begun.{depth_of}
use Rattle.carte_formula.specs.Parser.{range_of, range_depth}
use Rattle.carte_formula.specs.Reading.{depth}
use Rattle.carte_formula.specs.declared.parser.states.Range.{Range}
use Rattle.carte_formula.specs.declared.parser.states.Range.TheVariants as ranges
use Rattle.carte_formula.specs.declared.frames.Frame.{Frame}

pub range_same : (r : Range) (S : List Frame) → depth (range_of r S) ≡ range_depth r (depth_of (frames_of S))
range_same ranges.Nothing S = refl
range_same (ranges.Corner k f xs) S = refl
range_same (ranges.Half k f xs) S = refl
range_same (ranges.Whole a f xs) S = refl
