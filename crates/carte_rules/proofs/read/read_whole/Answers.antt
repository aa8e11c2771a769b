use Rattle.std.proofs.lemmas.Bool.{false≢true}
use Rattle.toml.specs.View.{table_view}
use Rattle.carte_rules.proofs.Documents.{read_so, no_toml}
use Rattle.carte_rules.proofs.read.read_whole.Goals as goal

pub returns-in-Ok : goal.returns-in-Ok
returns-in-Ok c = read_so c.args.bytes.now (table_view c.in-Ok.document) c.read_document.result c.requires c.in-Ok.ensures.ok.0 c.in-Ok.ensures.ok.1 c.read_document.ensures

pub returns-else-is_memory : goal.returns-else-is_memory
returns-else-is_memory c = no_toml c.args.bytes.now c.requires (c.in-Err.ensures.refused (λ memory. false≢true (rw c.if-is_memory.false at (c.is_memory.ensures.1 memory))))
