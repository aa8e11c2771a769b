use Rattle.std.proofs.Common.{Ok, rules}
use Rattle.carte_rules.specs.Entries.{document_of}
use Rattle.carte_rules.proofs.Documents.{read_so}
use Rattle.carte_rules.proofs.read.read_text.Goals as goal

pub returns-in-Some : goal.returns-in-Some
returns-in-Some c =
    let (fs, hs, is_document, is) = c.in-Some.ensures in
    read_so c.args.text.now (document_of fs hs) (Ok c.in-Some.book) c.requires (search rules) is_document is
