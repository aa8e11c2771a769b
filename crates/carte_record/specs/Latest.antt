-- Of equal traces the last.
use Rattle.std.specs.Prelude.{List}
use Rattle.carte_table.specs.Latest as latest
use Rattle.carte_record.specs.declared.way.Way.{Way}
use Rattle.carte_record.specs.Ways.{TraceBy, eq_by}

-- those behind which no equal one comes, in their order
abbrev pub last_ones : (w : Way) → List (TraceBy w) → List (TraceBy w)
last_ones w = latest.last_ones (eq_by w)
