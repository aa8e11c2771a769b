use Rattle.std.proofs.Common.{◌++◌}
use Rattle.std.proofs.lemmas.Result.{on_ok_weaker}
use Rattle.carte_value.specs.Spelling.{spelling}
use Rattle.carte_codec.specs.Parts.{spelled_name, spelled_link, spelled_list}
use Rattle.carte_record.specs.Bodies.{spelled_entry, spelled_start}
use Rattle.carte_record.proofs.Bodies.{behind, each_fits}
use Rattle.carte_record.proofs.codec.batch.write_front.Goals as goal

pub returns-clause-bytes : goal.returns-clause-bytes
returns-clause-bytes c =
    let b = c.args.batch.now in
    let rest_4 = spelled_list spelled_entry b.entries ++ spelled_list spelled_name b.stale in
    let rest_3 = spelled_list spelled_link b.seen ++ rest_4 in
    let rest_2 = spelled_list spelled_name b.gone ++ rest_3 in
    let rest_1 = spelled_list spelling b.values ++ rest_2 in
    on_ok_weaker c.write-4.result (λ last. behind c.args.out.now.items (spelled_start b.start) rest_1 (c.in_ok-write.ensures {u = tt}).bytes
    (behind c.write.new.out.items (spelled_list spelling b.values) rest_2 (c.in_ok-write_values.ensures {u = tt}).bytes
    (behind c.write_values.new.out.items (spelled_list spelled_name b.gone) rest_3 (c.in_ok-write-2.ensures {u = tt}).bytes
    (behind c.write-2.new.out.items (spelled_list spelled_link b.seen) rest_4 (c.in_ok-write_links.ensures {u = tt}).bytes
    (behind c.write_links.new.out.items (spelled_list spelled_entry b.entries) (spelled_list spelled_name b.stale) (c.in_ok-write-3.ensures {u = tt}).bytes last))))) c.write-4.ensures.bytes

pub returns-clause-fits : goal.returns-clause-fits
returns-clause-fits c = on_ok_weaker c.write-4.result (λ stale each. (
  (c.in_ok-write.ensures {u = tt}).fits tt,
  (
    (c.in_ok-write_values.ensures {u = tt}).fits,
    (
      (c.in_ok-write-2.ensures {u = tt}).fits (each_fits c.args.batch.now.gone),
      (
        (c.in_ok-write_links.ensures {u = tt}).fits,
        (
          (c.in_ok-write-3.ensures {u = tt}).fits each,
          stale (each_fits c.args.batch.now.stale),
        ),
      ),
    ),
  ),
)) c.write-4.ensures.fits
