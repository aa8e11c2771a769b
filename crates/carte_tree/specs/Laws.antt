-- What holds of formulas that are static.
use Rattle.std.specs.Prelude.{true, [], ◌≡◌, Ok}
use Rattle.carte_name.specs.declared.kind.Kind.{Kind}
use Rattle.carte_value.specs.declared.value.Value.{Value}
use Rattle.carte_value.specs.Truths.{Truth}
use Rattle.carte_value.specs.Asks.{run, asked}
use Rattle.carte_value.specs.Once.{Answers, once}
use Rattle.carte_tree.specs.Tree.{Tree}
use Rattle.carte_tree.specs.InTurn.{AsksInTurn, HasAll, KnowsAll, until}
use Rattle.carte_tree.specs.Meaning.{asks, eval, fetched}
use Rattle.carte_tree.specs.Formula.{mentions, refs_of, is_static_tree}

-- whatever is answered, a static formula asks for the names that it mentions, in the order of the text
abbrev pub StaticAsks : Type 0
StaticAsks = (kind : Kind) (e : Tree) → is_static_tree e ≡ true → AsksInTurn (mentions e) (asks kind e)

-- it looks up its references, each once, up to and with the first that has no value
abbrev pub StaticNeeds : Type 0
StaticNeeds = (kind : Kind) (t : Truth) (e : Tree) → is_static_tree e ≡ true → fetched kind t e ≡ until t (refs_of e)

-- where each reference has a value, it looks up them all
abbrev pub StaticLooks : Type 0
StaticLooks = (kind : Kind) (t : Truth) (e : Tree) → is_static_tree e ≡ true → HasAll t (refs_of e) → fetched kind t e ≡ refs_of e

-- and has a value
abbrev pub StaticEnds : Type 0
StaticEnds = (kind : Kind) (t : Truth) (e : Tree) → is_static_tree e ≡ true → HasAll t (refs_of e) → (v : Value) × (eval kind t e ≡ Ok v)

-- where each reference has its value for an answer, it asks for nothing more and ends as over the truth, whatever else there is
pub record StaticRuns : Type 0 where
  pub ends : (kind : Kind) (t u : Truth) (a : Answers) (e : Tree) → is_static_tree e ≡ true → KnowsAll a t (refs_of e) → run u (once a (asks kind e)) ≡ eval kind t e
  pub quiet : (kind : Kind) (t u : Truth) (a : Answers) (e : Tree) → is_static_tree e ≡ true → KnowsAll a t (refs_of e) → asked u (once a (asks kind e)) ≡ []
