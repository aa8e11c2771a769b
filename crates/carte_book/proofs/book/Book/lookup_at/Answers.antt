use Rattle.std.proofs.Common.{◌≡◌, ◌∙◌, ap, Some, None, option_map}
use Rattle.std.specs.HashMap as hash
use Rattle.carte_name.specs.Names.{name_eq}
use Rattle.carte_book.specs.Book.{item_view, default_of, or_default}
use Rattle.carte_book.specs.declared.book.Item.TheVariants.{Input as InputItem, Rule as RuleItem}
use Rattle.carte_book.proofs.Books.{item_found}
use Rattle.carte_book.proofs.Fitting.{found_fits, no_others}
use Rattle.carte_book.proofs.book.Book.lookup_at.Goals as goal

pub returns-in-Some-default-Input-clause-answer : goal.returns-in-Some-default-Input-clause-answer
returns-in-Some-default-Input-clause-answer c =
    let found : hash.get name_eq c.args.self.now.items c.args.name.now ≡ Some (InputItem c.in-Some-default-Input.value) = cc (c.in-Some-default-Input.ensures.item) in
    ap (λ o. or_default o (default_of c.args.self.now.kind c.args.name.now)) (item_found c.args.self.now c.args.name.now ∙ ap (option_map item_view) found)

pub returns-in-Some-default-Rule-clause-answer : goal.returns-in-Some-default-Rule-clause-answer
returns-in-Some-default-Rule-clause-answer c =
    let found : hash.get name_eq c.args.self.now.items c.args.name.now ≡ Some (RuleItem c.in-Some-default-Rule.rule) = cc (c.in-Some-default-Rule.ensures.item) in
    rw c.deref.ensures (ap (λ o. or_default o (default_of c.args.self.now.kind c.args.name.now)) (item_found c.args.self.now c.args.name.now ∙ ap (option_map item_view) found))

pub returns-in-None-clause-answer : goal.returns-in-None-clause-answer
returns-in-None-clause-answer c =
    let found : hash.get name_eq c.args.self.now.items c.args.name.now ≡ None = cc (c.in-None.ensures.item) in
    rw (item_found c.args.self.now c.args.name.now ∙ ap (option_map item_view) found) c.unheld.ensures

pub returns-in-Some-default-Rule-clause-formula : goal.returns-in-Some-default-Rule-clause-formula
returns-in-Some-default-Rule-clause-formula c =
    let found : hash.get name_eq c.args.self.now.items c.args.name.now ≡ Some (RuleItem c.in-Some-default-Rule.rule) = cc (c.in-Some-default-Rule.ensures.item) in
    let fits = found_fits c.args.self.now c.args.name.now (RuleItem c.in-Some-default-Rule.rule) found in
    rw c.deref.ensures (fits.0, fits.1)

pub returns-in-Some-default-Input-clause-others : goal.returns-in-Some-default-Input-clause-others
returns-in-Some-default-Input-clause-others c = no_others c.args.self.now

pub returns-in-Some-default-Rule-clause-others : goal.returns-in-Some-default-Rule-clause-others
returns-in-Some-default-Rule-clause-others c = no_others c.args.self.now

pub returns-in-None-clause-others : goal.returns-in-None-clause-others
returns-in-None-clause-others c = no_others c.args.self.now
