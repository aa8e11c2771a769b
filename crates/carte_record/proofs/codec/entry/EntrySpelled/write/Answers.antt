use Rattle.std.proofs.Common.{◌++◌}
use Rattle.std.proofs.lemmas.Result.{on_ok_weaker}
use Rattle.carte_codec.specs.Parts.{spelled_name, spelled_digest, spelled_bool, spelled_list}
use Rattle.carte_record.proofs.Bodies.{behind, each_fits}
use Rattle.carte_record.proofs.codec.entry.EntrySpelled.write.Goals as goal

pub returns-clause-bytes : goal.returns-clause-bytes
returns-clause-bytes c =
    let k = c.args.self.now in
    let rest_3 = spelled_bool k.shallow ++ (spelled_list spelled_name k.needs) in
    let rest_2 = spelled_digest k.result ++ rest_3 in
    let rest_1 = spelled_digest k.task ++ rest_2 in
    on_ok_weaker c.write-5.result (λ last. behind c.args.out.now.items (spelled_name k.key) rest_1 (c.in_ok-write.ensures {u = tt}).bytes (behind c.write.new.out.items (spelled_digest k.task) rest_2 (c.in_ok-write-2.ensures {u = tt}).bytes (behind c.write-2.new.out.items (spelled_digest k.result) rest_3 (c.in_ok-write-3.ensures {u = tt}).bytes (behind c.write-3.new.out.items (spelled_bool k.shallow) (spelled_list spelled_name k.needs) (c.in_ok-write-4.ensures {u = tt}).bytes last)))) c.write-5.ensures.bytes

pub returns-clause-fits : goal.returns-clause-fits
returns-clause-fits c = on_ok_weaker c.write-5.result (λ needs unmarked. ((c.in_ok-write.ensures {u = tt}).fits tt, (c.in_ok-write-2.ensures {u = tt}).fits tt, (c.in_ok-write-3.ensures {u = tt}).fits tt, needs (each_fits c.args.self.now.needs), unmarked)) c.write-5.ensures.fits
