use Rattle.std.proofs.Common.{rules}
use Rattle.carte_rules.specs.Entries.{document_of}
use Rattle.carte_rules.proofs.Documents.{read_so}
use Rattle.carte_rules.proofs.read.read_in_order.Goals as goal

pub returns-in-Some : goal.returns-in-Some
returns-in-Some c =
    let t = c.in-Some.tables in
    read_so c.args.text.now (document_of t.inputs.items t.rules.items) c.put_tables.result c.requires (search rules) c.in-Some.ensures.document c.put_tables.ensures
