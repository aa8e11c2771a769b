-- The rebuilders by what they do with a finished key.
use Rattle.std.specs.Prelude.{Bool, true, false}
use Rattle.carte_sound.specs.Held.{How, dirty, tracing}
use Rattle.carte_note.specs.declared.method.Method.{Method}
use Rattle.carte_note.specs.declared.method.Method.TheVariants.{Dirty, Tracing}

abbrev pub how_of : Method → How
how_of Dirty = dirty
how_of (Tracing w) = tracing w

-- whether no trace is written, and what is held stays as it is
abbrev pub is_dirty : How → Bool
is_dirty dirty = true
is_dirty (tracing w) = false
