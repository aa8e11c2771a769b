use Rattle.std.proofs.Common.{rules}
use Rattle.indexmap.specs.Entry.{entry_value}
use Rattle.carte_book.proofs.Added.{kept}
use Rattle.carte_book.proofs.items.put_new.Goals as goal

pub returns-then-len-before-clause-unchanged : goal.returns-then-len-before-clause-unchanged
returns-then-len-before-clause-unchanged c =
    kept c.args.items.now.entries _ c.args.name c.args.item c.or_insert.result.now (entry_value c.in-Ok.entry) c.in-Ok.ensures.value c.or_insert.ensures.value (search rules) (search rules) (search rules)
