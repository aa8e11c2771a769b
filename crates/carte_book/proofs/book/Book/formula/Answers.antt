use Rattle.std.proofs.Common.{◌≡◌, ◌∙◌, ap, Some, None, option_map}
use Rattle.std.specs.HashMap as hash
use Rattle.carte_name.specs.Names.{name_eq}
use Rattle.carte_book.specs.Book.{item_view, default_of, or_default}
use Rattle.carte_book.specs.declared.book.Item.TheVariants.{Input as InputItem, Rule as RuleItem}
use Rattle.carte_book.proofs.Books.{item_found}
use Rattle.carte_book.proofs.Fitting.{found_fits}
use Rattle.carte_book.proofs.RuleNames.{rule_at}
use Rattle.carte_book.proofs.book.Book.formula.Goals as goal

pub unreachable-requires : goal.unreachable-requires
unreachable-requires c =
    let held = rule_at c.args.self.now c.args.name.now c.requires in
    let found : hash.get name_eq c.args.self.now.items c.args.name.now ≡ Some (InputItem c.in-Some-default-Input.field-0-1-0) = cc (c.in-Some-default-Input.ensures.item) in
    let rule : hash.get name_eq c.args.self.now.items c.args.name.now ≡ Some (RuleItem held.0) = held.1 in
    cc

pub unreachable-requires-in-None : goal.unreachable-requires-in-None
unreachable-requires-in-None c =
    let held = rule_at c.args.self.now c.args.name.now c.requires in
    let found : hash.get name_eq c.args.self.now.items c.args.name.now ≡ None = cc (c.in-None.ensures.item) in
    let rule : hash.get name_eq c.args.self.now.items c.args.name.now ≡ Some (RuleItem held.0) = held.1 in
    cc

pub returns : goal.returns
returns c =
    let found : hash.get name_eq c.args.self.now.items c.args.name.now ≡ Some (RuleItem c.in-Some-default-Rule.rule) = cc (c.in-Some-default-Rule.ensures.item) in
    rw c.in_ok-clone-in-Some-default-Rule.ensures.cases (
      ap (λ o. or_default o (default_of c.args.self.now.kind c.args.name.now)) (item_found c.args.self.now c.args.name.now ∙ ap (option_map item_view) found),
      (found_fits c.args.self.now c.args.name.now (RuleItem c.in-Some-default-Rule.rule) found).0,
    )
