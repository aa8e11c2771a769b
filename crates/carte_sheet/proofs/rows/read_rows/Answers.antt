use Rattle.std.proofs.Common.{◌≡◌, ◌∙◌, ℕ, ◌+◌, List, inl, inr, Ok, Err, refl, ap, sym, subst, arith}
use Rattle.std.specs.FinMap.{empty}
use Rattle.csv.specs.Reading.{strip_bom}
use Rattle.csv.specs.Records.{fields_of}
use Rattle.csv.specs.declared.parser.State.{State}
use Rattle.carte_sheet.specs.Reading.{RowsInto, records_of}
use Rattle.carte_sheet.specs.Places.{IsAbove}
use Rattle.carte_sheet.proofs.Cells.{before_first}
use Rattle.carte_sheet.proofs.Records.{rest_from, all_from_start}
use Rattle.carte_sheet.proofs.RowLemmas.{rows_turn, rows_fault, rows_end}
use Rattle.carte_sheet.proofs.RowTurns.{next_row, no_row}
use Rattle.carte_sheet.proofs.rows.read_rows.Goals as goal

pub loop-found-init : goal.loop-found-init
loop-found-init c =
    let fr = c.from_reader-reader.ensures in
    let e = c.has_headers.ensures in
    let g = c.flexible.ensures in
    let text = strip_bom c.args.text.now in
    let start = c.into_iter-found-iterator.ensures.into_iter_gives ∙ refl in
    let rdr = c.into_byte_records-found-items.ensures.rdr in
    let left = c.into_byte_records-found-items.ensures.left in
    let all : rest_from c.from_reader-reader.result.state text ≡ records_of c.args.text.now = ap (λ (s : State). rest_from s text) fr.state ∙ sym (all_from_start c.args.text.now) in
    rw (start, rdr) (
      rw (g, e) at fr.trim ∙ c.new.ensures.trim,
      inr (inr (rw (g, e) at fr.has_headers, fr.headers)),
      left,
      rw (g, e) at fr.config ∙ c.new.ensures.config,
      rw g at fr.flexible,
      omega arith,
      inl fr.state,
      text,
      fr.source,
      empty,
      c.requires,
      before_first,
      λ o r. subst (λ (rows : List (List (List ℕ))). RowsInto 1 rows empty o) all r,
    )

pub loop-found-preserved : goal.loop-found-preserved
loop-found-preserved c =
    let inv = c.loop-found.invariant in
    let steps = c.next.ensures.steps inv.2 inv.0 in
    let s = rw (c.in-Some.is, c.in-Ok.is) at (steps.0 inv.1) in
    let flexible = rw (c.in-Some.is, c.in-Ok.is) at steps.3 in
    let fs = fields_of c.in-Ok.fields in
    let a = c.loop-found.found-iterator.rdr in
    let b = c.next.new.self.rdr in
    let turn = next_row a b inv.7 fs inv.3 inv.8 inv.6 s.0 in
    let row = c.loop-found.row in
    let left = c.in_default.ensures inv.9 inv.10 inv.11 in
    let up : c.in-Some-checked_add.next ≡ row + 1 = omega (arith, c.in-Some-checked_add.ensures) in (
      s.0.3 ∙ inv.0,
      inl s.1,
      s.2,
      s.0.2 ∙ inv.3,
      flexible ∙ inv.4,
      omega (arith, up),
      turn.3,
      turn.0,
      turn.1,
      left.0,
      left.2,
      subst (λ (q : ℕ). IsAbove left.0 q) (sym up) left.3,
      λ o r. inv.12 o (rows_turn row (rest_from a.state inv.7) (rest_from b.state turn.0) fs inv.9 left.0 o turn.2 left.1 (subst (λ (q : ℕ). RowsInto q (rest_from b.state turn.0) left.0 o) up r)),
    )

pub returns-in-Err-read_row : goal.returns-in-Err-read_row
returns-in-Err-read_row c = λ cause.
    let inv = c.loop-found.invariant in
    let s = rw (c.in-Some.is, c.in-Ok.is) at ((c.next.ensures.steps inv.2 inv.0).0 inv.1) in
    let fs = fields_of c.in-Ok.fields in
    let a = c.loop-found.found-iterator.rdr in
    let b = c.next.new.self.rdr in
    let turn = next_row a b inv.7 fs inv.3 inv.8 inv.6 s.0 in
    let fault = c.in-Err-read_row.fault in
    inv.12 (Err fault) (rows_fault c.loop-found.row (rest_from a.state inv.7) (rest_from b.state turn.0) fs inv.9 fault turn.2 (c.in-Err-read_row.ensures inv.9 inv.10 inv.11 cause))

pub returns : goal.returns
returns c =
    let inv = c.loop-found.invariant in
    let s = rw c.in-None.is at ((c.next.ensures.steps inv.2 inv.0).0 inv.1) in
    let a = c.loop-found.found-iterator.rdr in
    let last = no_row a c.next.new.self.rdr inv.7 inv.3 inv.8 s in
    let m = inv.9 in
    (m, inv.12 (Ok m) (rows_end c.loop-found.row (rest_from a.state inv.7) m last), inv.10)
