use Rattle.std.proofs.Common.{sym, subst}
use Rattle.carte_codec.specs.Each.{EachFits}
use Rattle.carte_record.specs.Bodies.{IsUnmarked}
use Rattle.carte_trim.proofs.Files.{no_entries}
use Rattle.carte_trim.proofs.plan.empty_frame.Goals as goal

pub encode-requires : goal.encode-requires
encode-requires c = subst (EachFits IsUnmarked) (sym (no_entries c.new-batch.result c.new-batch.ensures)) tt
