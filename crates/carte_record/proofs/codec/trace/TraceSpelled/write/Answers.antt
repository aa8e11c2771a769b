use Rattle.std.proofs.Common.{◌++◌, ◌∙◌, ap, subst}
use Rattle.std.proofs.lemmas.Result.{on_ok_weaker}
use Rattle.carte_codec.specs.Parts.{spelled_name, spelled_digest, spelled_link, spelled_list, FitsLink, FitsList}
use Rattle.carte_record.proofs.Bodies.{behind, each_fits}
use Rattle.carte_record.proofs.codec.trace.TraceSpelled.write.Goals as goal

pub returns-clause-bytes : goal.returns-clause-bytes
returns-clause-bytes c =
    let k = c.args.self.now in
    let links = (c.in_ok-write-3.ensures {u = tt}).bytes ∙ ap (λ ls. c.write-2.new.out.items ++ spelled_list spelled_link ls) c.list.ensures in
    let rest_2 = spelled_list spelled_link k.links ++ (spelled_digest k.result) in
    let rest_1 = spelled_digest k.task ++ rest_2 in
    on_ok_weaker c.write-4.result (λ last. behind c.args.out.now.items (spelled_name k.key) rest_1 (c.in_ok-write.ensures {u = tt}).bytes (behind c.write.new.out.items (spelled_digest k.task) rest_2 (c.in_ok-write-2.ensures {u = tt}).bytes (behind c.write-2.new.out.items (spelled_list spelled_link k.links) (spelled_digest k.result) links last))) c.write-4.ensures.bytes

pub returns-clause-fits : goal.returns-clause-fits
returns-clause-fits c = on_ok_weaker c.write-4.result (λ last any. ((c.in_ok-write.ensures {u = tt}).fits tt, (c.in_ok-write-2.ensures {u = tt}).fits tt, subst (FitsList FitsLink) c.list.ensures ((c.in_ok-write-3.ensures {u = tt}).fits (each_fits c.list.result.now)), last tt)) c.write-4.ensures.fits
