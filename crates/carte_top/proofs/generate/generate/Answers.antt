use Rattle.std.proofs.Common.{ℕ, List, string_bytes, refl, subst, inl}
use Rattle.carte_book.specs.Book.{book_view}
use Rattle.carte_shell.specs.declared.choices.Choices.{Choices}
use Rattle.carte_words.specs.declared.line.Line.TheVariants as line
use Rattle.carte_top.specs.Around.{over_disk, over_sink}
use Rattle.carte_top.specs.Chosen.{choices_of}
use Rattle.carte_top.specs.Found.{for_last}
use Rattle.carte_top.specs.Running.{RequestsOver}
use Rattle.carte_top.proofs.Requesting.{generates}
use Rattle.carte_top.proofs.generate.generate.Goals as goal

pub returns-in-Ok : goal.returns-in-Ok
returns-in-Ok g c =
    let w = c.args.asked.now in
    let d = over_disk g.D.Disk.tells g.D.Disk.story g.D.Disk.faults c.args.state.now c.build.new.state in
    let k = over_sink g.O.Sink.tells g.O.Sink.state c.args.out.now c.build.new.out in
    let b = book_view c.in-Ok.prepared.book in
    let status = c.build.result in
    let front = string_bytes c.in-Ok.prepared.front in
    let chosen : RequestsOver 536870912 (choices_of w) b (line.Build c.in-Ok.prepared.targets) front d k status =
    subst (λ (x : Choices). RequestsOver 536870912 x b (line.Build c.in-Ok.prepared.targets) front d k status) c.choices_of.ensures c.build.ensures in
    let aimed : RequestsOver 536870912 (choices_of w) b (line.Build (for_last w).targets) front d k status =
    subst (λ (ts : List (List ℕ)). RequestsOver 536870912 (choices_of w) b (line.Build ts) front d k status) c.in-Ok.ensures.targets chosen in
    generates 536870912 w d k b c.in-Ok.ensures.book status
    (subst (λ (text : List ℕ). RequestsOver 536870912 (choices_of w) b (line.Build (for_last w).targets) text d k status) c.in-Ok.ensures.front aimed)

pub returns-in-Err : goal.returns-in-Err
returns-in-Err g c = record {
  did = ((refl, refl, refl), inl (λ told. refl));
  visits = inl (record { same = refl; story = refl; faults = refl });
  disk = refl;
  sink = refl;
}
