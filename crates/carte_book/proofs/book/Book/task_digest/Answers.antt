use Rattle.std.proofs.Common.{◌≡◌, ◌∙◌, Some, None, ap, sym}
use Rattle.std.specs.HashMap as hash
use Rattle.carte_name.specs.Names.{name_eq}
use Rattle.carte_value.specs.declared.digest.Digest.{Digest}
use Rattle.carte_book.specs.declared.book.Item.TheVariants.{Input as InputItem, Rule as RuleItem}
use Rattle.carte_book.proofs.Fitting.{found_fits}
use Rattle.carte_book.proofs.Tasks.{task_found}
use Rattle.carte_book.proofs.book.Book.task_digest.Goals as goal

pub digest-requires : goal.digest-requires
digest-requires c =
    let found : hash.get name_eq c.args.self.now.items c.args.name.now ≡ Some (RuleItem c.in-Some-default-Rule.rule) = cc (c.in-Some-default-Rule.ensures.item) in
    found_fits c.args.self.now c.args.name.now (RuleItem c.in-Some-default-Rule.rule) found

pub returns-in_ok-digest-in-Some-default-Rule : goal.returns-in_ok-digest-in-Some-default-Rule
returns-in_ok-digest-in-Some-default-Rule c =
    let found : hash.get name_eq c.args.self.now.items c.args.name.now ≡ Some (RuleItem c.in-Some-default-Rule.rule) = cc (c.in-Some-default-Rule.ensures.item) in
    ap (λ (d : Digest). Some d) (c.in_ok-digest-in-Some-default-Rule.ensures {u = tt}) ∙ sym (task_found c.args.self.now c.args.name.now (Some (RuleItem c.in-Some-default-Rule.rule)) found)

pub returns-in-Some-default-Input : goal.returns-in-Some-default-Input
returns-in-Some-default-Input c =
    let found : hash.get name_eq c.args.self.now.items c.args.name.now ≡ Some (InputItem c.in-Some-default-Input.field-0-1-0) = cc (c.in-Some-default-Input.ensures.item) in
    sym (task_found c.args.self.now c.args.name.now (Some (InputItem c.in-Some-default-Input.field-0-1-0)) found)

pub returns-in-None : goal.returns-in-None
returns-in-None c =
    let found : hash.get name_eq c.args.self.now.items c.args.name.now ≡ None = cc (c.in-None.ensures.item) in
    sym (task_found c.args.self.now c.args.name.now None found)
