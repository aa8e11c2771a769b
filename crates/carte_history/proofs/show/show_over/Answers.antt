use Rattle.std.proofs.Common.{◌≡◌, [], ap, rules}
use Rattle.std.proofs.lemmas.Result.{IfOk-weaker}
use Rattle.carte_history.specs.Shown.{Ran}
use Rattle.carte_history.proofs.Showing.{seen_sink, seen_source, shown_one}
use Rattle.carte_history.proofs.show.show_over.Goals as goal

pub returns : goal.returns
returns g c =
    let run = c.args.run.now in
    let r : Ran = record {
      words = c.deref.result.now;
      book = seen_source c.args.book.now;
      book_after = seen_source c.carte-status.new.book;
      script = seen_source c.args.script.now;
      script_after = seen_source c.carte-status.new.script;
      old = c.args.disk.now;
      new = c.carte-status.new.state;
      out = record { taken = c.in_ok-out.out.taken.items; handed = c.in_ok-out.out.handed; faults = c.in_ok-out.out.faults };
      out_after = record { taken = c.carte-status.new.out.taken.items; handed = c.carte-status.new.out.handed; faults = c.carte-status.new.out.faults };
      err = record { taken = c.in_ok-err.err.taken.items; handed = c.in_ok-err.err.handed; faults = c.in_ok-err.err.faults };
      err_after = record { taken = c.carte-status.new.err.taken.items; handed = c.carte-status.new.err.handed; faults = c.carte-status.new.err.faults };
      status = c.carte-status.result;
      file = [];
    } in
    let words : r.words ≡ run.words.items = search rules in
    let said : c.bytes.result.now ≡ r.out_after.taken = search rules in
    let told : c.bytes-2.result.now ≡ r.err_after.taken = search rules in
    let failed : c.faults.result ≡ r.err_after.faults = search rules in
    IfOk-weaker c.end.result _ _
    (λ s left. shown_one 536870912 run r _ _ _ s c.end.new.disk words (ap seen_source c.requires.book) (ap seen_source c.requires.script) c.requires.stops (ap seen_sink c.in_ok-out.ensures)
    (ap seen_sink c.in_ok-err.ensures) c.carte-status.ensures said told failed left)
    c.end.ensures
