-- One turn over the members of a table.
use Rattle.std.proofs.Common.{◌≡◌, ℕ, List, Result, Ok, refl, sym, subst}
use Rattle.std.specs.FinMap.{insert}
use Rattle.toml.specs.Data.{Data, Members, no_members, member}
use Rattle.carte_tree.specs.Tree.{Tree}
use Rattle.carte_book.specs.Book.{rule}
use Rattle.carte_book.specs.declared.fault.BookFault.{BookFault}
use Rattle.carte_rules.specs.Reading.{Content, input_into, inputs_into, RuleAt, RulesInto}

pub inputs_turn : (ms rest : Members) (k : List ℕ) (d : Data) (m n : Content) → ms ≡ member k d rest → input_into k d m ≡ Ok n → inputs_into ms m ≡ inputs_into rest n
inputs_turn ms rest k d m n e is = rw (e, is) refl

pub inputs_end : (ms : Members) (m : Content) → ms ≡ no_members → inputs_into ms m ≡ Ok m
inputs_end ms m e = rw e refl

pub rules_turn : (ms rest : Members) (k : List ℕ) (d : Data) (m : Content) (e : Tree) (o : Result Content BookFault) → ms ≡ member k d rest → RuleAt k d m (Ok e) → RulesInto rest (insert m k (rule e)) o → RulesInto ms m o
rules_turn ms rest k d m e o is h g = subst (λ (x : Members). RulesInto x m o) (sym is) (Ok e, h, g)

pub rules_end : (ms : Members) (m : Content) → ms ≡ no_members → RulesInto ms m (Ok m)
rules_end ms m is = subst (λ (x : Members). RulesInto x m (Ok m)) (sym is) refl
