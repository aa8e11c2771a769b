-- One turn over entries. The entry at a place is read with a default, as an index gives it.
use Rattle.std.proofs.Common.{◌≡◌, ℕ, ◌+◌, ◌<◌, ◌≤◌, ◌∷◌, List, Result, Ok, Err, length, drop, length-drop, slice_index_or, ap, sym, refl, subst, arith}
use Rattle.std.proofs.lemmas.List.{drop_more, nil_from_length}
use Rattle.std.specs.FinMap.{insert}
use Rattle.toml.specs.Data.{Members, no_members}
use Rattle.carte_tree.specs.Tree.{Tree}
use Rattle.carte_book.specs.Book.{rule}
use Rattle.carte_book.specs.declared.fault.BookFault.{BookFault}
use Rattle.carte_rules.specs.Entries.{data_of, keys_of, members_of}
use Rattle.carte_rules.specs.Reading.{Content, input_into, inputs_into, RuleAt, RulesInto}
use Rattle.carte_rules.specs.declared.entry.Entry.{Entry}
use Rattle.carte_rules.proofs.Fresh.{KeysFresh, rest_keys_fresh}
use Rattle.carte_rules.proofs.Turns.{inputs_turn, rules_turn}

pub no_more : (es : List Entry) (at : ℕ) → length es ≤ at → members_of (drop at es) ≡ no_members
no_more es at past = ap members_of (nil_from_length (drop at es) (omega (arith, length-drop at es, past)))

module _ (es : List Entry) (at : ℕ) (d : Entry) (below : at < length es) where
  abbrev here : Entry
  here = slice_index_or es at d

  turn : drop at es ≡ here ∷ drop (at + 1) es
  turn = drop_more es at d below

  fresh_here : (m : Content) → KeysFresh m (keys_of (drop at es)) → KeysFresh m (here.key.now ∷ keys_of (drop (at + 1) es))
  fresh_here m h = subst (λ (xs : List Entry). KeysFresh m (keys_of xs)) turn h

  pub inputs_more : (m n : Content) → KeysFresh m (keys_of (drop at es)) → input_into here.key.now (data_of here.held) m ≡ Ok n
      → (inputs_into (members_of (drop at es)) m ≡ inputs_into (members_of (drop (at + 1) es)) n) × KeysFresh n (keys_of (drop (at + 1) es))
  inputs_more m n h is =
      (inputs_turn _ _ here.key.now (data_of here.held) m n (ap members_of turn) is, rest_keys_fresh here.key.now (data_of here.held) (keys_of (drop (at + 1) es)) m n (fresh_here m h) is)

  pub rules_more : (m : Content) (e : Tree) (o : Result Content BookFault) → RuleAt here.key.now (data_of here.held) m (Ok e) → RulesInto (members_of (drop (at + 1) es)) (insert m here.key.now (rule e)) o → RulesInto (members_of (drop at es)) m o
  rules_more m e o h g = rules_turn _ _ here.key.now (data_of here.held) m e o (ap members_of turn) h g

  pub rules_stop : (m : Content) (fault : BookFault) → RuleAt here.key.now (data_of here.held) m (Err fault) → RulesInto (members_of (drop at es)) m (Err fault)
  rules_stop m fault h = subst (λ (ms : Members). RulesInto ms m (Err fault)) (sym (ap members_of turn)) (Err fault, h, refl)
