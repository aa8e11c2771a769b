-- Entries that were put, and one more behind them.
use Rattle.std.proofs.Common.{◌≡◌, ◌∙◌, List, [], ◌∷◌, ◌++◌, Some, None, option_and_then, Result, Ok, Err, refl, ap, subst}
use Rattle.std.specs.FinMap.{get, insert}
use Rattle.carte_tree.specs.Tree.{Tree}
use Rattle.carte_book.specs.Book.{rule}
use Rattle.carte_book.specs.declared.fault.BookFault.{BookFault}
use Rattle.carte_rules.specs.Entries.{data_of, members_of}
use Rattle.carte_rules.specs.Orders.{new_input, new_inputs}
use Rattle.carte_rules.specs.Reading.{Content, Then, input_into, RuleAt, RulesInto}
use Rattle.carte_rules.specs.declared.entry.Entry.{Entry}
use Rattle.carte_rules.proofs.Sorting.{came}

one_new : (e : Entry) (m n : Content) → get m e.key.now ≡ None → input_into e.key.now (data_of e.held) m ≡ Ok n → new_input e m ≡ Some n
one_new e m n none is = rw (none, is) refl

pub one_input : (es : List Entry) (e : Entry) (m n o : Content) → new_inputs es m ≡ Some n → get n e.key.now ≡ None → input_into e.key.now (data_of e.held) n ≡ Ok o → new_inputs (es ++ e ∷ []) m ≡ Some o
one_input [] e m n o put none is =
    let same : m ≡ n = cc in
    ap (option_and_then (new_inputs [])) (ap (new_input e) same ∙ one_new e n o none is)
one_input (f ∷ es) e m n o put none is =
    let (s, at, on) = came (new_input f m) (new_inputs es) n put in
    ap (option_and_then (new_inputs (es ++ e ∷ []))) at ∙ one_input es e s n o on none is

pub one_rule : (es : List Entry) (e : Entry) (m n : Content) (t : Tree) → RulesInto (members_of es) m (Ok n) → RuleAt e.key.now (data_of e.held) n (Ok t) → RulesInto (members_of (es ++ e ∷ [])) m (Ok (insert n e.key.now (rule t)))
one_rule [] e m n t read at =
    let same : n ≡ m = cc in
    subst (λ (c : Content). RulesInto (members_of (e ∷ [])) c (Ok (insert n e.key.now (rule t)))) same (Ok t, at, refl)
one_rule (f ∷ es) e m n t (r, here, read) at = (r, here, by r read (λ x on. one_rule es e (insert m f.key.now (rule x)) n t on at))
  where
    by : (r : Result Tree BookFault) → Then r (λ x. RulesInto (members_of es) (insert m f.key.now (rule x))) (Ok n)
        → ((x : Tree) → RulesInto (members_of es) (insert m f.key.now (rule x)) (Ok n) → RulesInto (members_of (es ++ e ∷ [])) (insert m f.key.now (rule x)) (Ok (insert n e.key.now (rule t))))
        → Then r (λ x. RulesInto (members_of (es ++ e ∷ [])) (insert m f.key.now (rule x))) (Ok (insert n e.key.now (rule t)))
    by (Ok x) on more = more x on
    by (Err fault) on more = absurd (cc)
