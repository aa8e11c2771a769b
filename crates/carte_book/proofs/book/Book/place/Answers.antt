use Rattle.std.proofs.Common.{◌≡◌, ◌∙◌, Some, None, ap, sym, is_some}
use Rattle.std.specs.HashMap as hash
use Rattle.carte_name.specs.Names.{name_eq}
use Rattle.carte_book.specs.Task.{task_held}
use Rattle.carte_book.proofs.Books.{has_found}
use Rattle.carte_book.proofs.Tasks.{task_found}
use Rattle.carte_book.proofs.book.Book.place.Goals as goal

pub returns-in-Some-clause-found : goal.returns-in-Some-clause-found
returns-in-Some-clause-found c =
    let found : hash.get name_eq c.args.self.now.items c.args.name.now ≡ Some c.in-Some.field-0-1.now = cc (c.in-Some.ensures.item) in
    ap is_some (sym found) ∙ has_found c.args.self.now c.args.name.now

pub returns-in-None-clause-found : goal.returns-in-None-clause-found
returns-in-None-clause-found c =
    let found : hash.get name_eq c.args.self.now.items c.args.name.now ≡ None = cc (c.in-None.ensures.item) in
    ap is_some (sym found) ∙ has_found c.args.self.now c.args.name.now

pub returns-in-Some-clause-task : goal.returns-in-Some-clause-task
returns-in-Some-clause-task c =
    let item = c.in-Some.field-0-1.now in
    let found : hash.get name_eq c.args.self.now.items c.args.name.now ≡ Some item = cc (c.in-Some.ensures.item) in
    ap (task_held c.args.self.now.kind) c.in-Some.ensures.place ∙ sym (task_found c.args.self.now c.args.name.now (Some item) found)
