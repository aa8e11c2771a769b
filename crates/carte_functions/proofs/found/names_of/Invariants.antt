use Rattle.std.proofs.Common.{◌≡◌, ◌++◌, length, option_map}
use denote.Shadow.{shadow}
use denote.Text.{Utf8}
use Rattle.carte_tree.specs.Coercions.{each_as}
use Rattle.carte_tree.specs.Found.{named}
use Rattle.carte_tree.specs.Texts.{lines}
use Rattle.carte_functions.proofs.found.names_of.Given as goal

abbrev pub invariant-loop-line : goal.invariant-loop-line
invariant-loop-line l = (option_map (λ ks. l.names ++ ks) (each_as (named l.kind) (lines l.rest)) ≡ each_as (named l.kind) (lines l.text)) × shadow (Utf8 l.rest)

abbrev pub decreases-loop-line : goal.decreases-loop-line
decreases-loop-line l = length l.rest
