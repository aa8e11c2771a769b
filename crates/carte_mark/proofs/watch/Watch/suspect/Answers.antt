use Rattle.carte_mark.specs.Watching.{suspects_in, users_in}
use Rattle.carte_mark.proofs.Watching.{watches_set}
use Rattle.carte_mark.proofs.watch.Watch.suspect.Goals as goal

pub returns : goal.returns
returns c K b d same so = watches_set K b d c.args.name.now (suspects_in c.args.self) c.put.new.names (users_in c.args.self) same (c.in_ok-put.ensures {u = tt}).put so
