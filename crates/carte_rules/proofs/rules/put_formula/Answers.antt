use Rattle.std.proofs.Common.{List, ℕ, is_some, Ok, refl, rules, ap, sym, subst, ◌∙◌}
use Rattle.std.specs.FinMap.{get, insert}
use Rattle.toml.specs.Data.{string}
use Rattle.carte_tree.specs.Code.{tree_of}
use Rattle.carte_book.specs.Book.{rule}
use Rattle.carte_book.specs.Drafts.{kind_of, Holds}
use Rattle.carte_rules.proofs.Drafts.{any_name, stands}
use Rattle.carte_rules.proofs.Keys.{same_name, is_name, new_here, text_rule, taken_fault}
use Rattle.carte_rules.proofs.rules.put_formula.Goals as goal

pub returns-in-Ok-add_rule : goal.returns-in-Ok-add_rule
returns-in-Ok-add_rule c = λ m text h reads.
    let k = c.args.key.now in
    let j = c.in-Ok.name in
    let is = c.in-Ok.ensures.gives in
    let same = same_name k j is in
    let e = tree_of c.args.expr in
    let a = c.in-Ok-add_rule.ensures.takes m h (any_name (kind_of c.args.draft.now.keys) m j c.args.draft.now.is_rules) in
    (e, text_rule k k text m (Ok e) (new_here k m (is_name k j is) (ap (get m) (sym same) ∙ a.0)) (Ok e, reads, tt, refl), subst (λ (q : List ℕ). Holds c.add_rule.new.self (insert m q (rule e))) same a.1)

pub returns-in-Err-Twice : goal.returns-in-Err-Twice
returns-in-Err-Twice c = λ m text h reads cause.
    let k = c.args.key.now in
    let j = c.in-Ok.name in
    let is = c.in-Ok.ensures.gives in
    let name = is_name k j is in
    let a = c.add_rule.ensures.takes m h (any_name (kind_of c.args.draft.now.keys) m j c.args.draft.now.is_rules) in
    let there = ap (λ (q : List ℕ). is_some (get m q)) (sym (same_name k j is)) ∙ stands j (rule (tree_of c.args.expr)) m c.add_rule.new.self c.add_rule.result a (search rules) in
    rw (c.twice.ensures name cause) (taken_fault k (string text) m name there)
