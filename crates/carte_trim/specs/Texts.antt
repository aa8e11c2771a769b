-- What is said: the statuses with their numbers, the error lines, and the reply.
use Rattle.std.specs.Prelude.{ℕ, Bool, true, false, List, [], ◌∷◌, ◌++◌, codes}
use Rattle.std.specs.Fmt.{decimal}
use Rattle.carte_trim.specs.declared.status.Status.{Status}
use Rattle.carte_trim.specs.declared.status.Status.TheVariants.{Done, Usage, WriteFault, StateFault, BadState, Full, NoMemory, NotNew, NewFault, OldState}

abbrev pub code_of : Status → ℕ
code_of Done = 0
code_of Usage = 2
code_of WriteFault = 5
code_of StateFault = 6
code_of (BadState offset) = 7
code_of (Full needed limit) = 8
code_of NoMemory = 9
code_of NotNew = 17
code_of NewFault = 18
code_of OldState = 19

abbrev pub status_text : Status → List ℕ
status_text Done = []
status_text Usage = codes "usage: carte_trim STATE NEW COUNT, with a count from 1 to 1000000"
status_text WriteFault = codes "a write of the reply failed"
status_text StateFault = codes "the state's device failed"
status_text (BadState offset) = codes "bad state at byte " ++ decimal offset
status_text (Full needed limit) = codes "state full: " ++ (decimal needed ++ (codes " bytes needed, limit " ++ decimal limit))
status_text NoMemory = codes "out of memory"
status_text NotNew = codes "NEW isn't new"
status_text NewFault = codes "NEW's device failed"
status_text OldState = codes "the state is of version 1: build with it first"

-- nothing is said where all was done
abbrev pub error_line : Status → List ℕ
error_line Done = []
error_line status = codes "carte_trim: " ++ (status_text status ++ 10 ∷ [])

abbrev pub is_done : Status → Bool
is_done Done = true
is_done status = false

-- one with a line that needs memory
abbrev pub is_long : Status → Bool
is_long (BadState offset) = true
is_long (Full needed limit) = true
is_long status = false

-- how many traces are kept and of how many, and how many bytes the new file has and of how many
abbrev pub reply : ℕ → ℕ → ℕ → ℕ → List ℕ
reply traces of_traces bytes of_bytes =
    codes "kept " ++ (decimal traces ++ (codes " of " ++ (decimal of_traces ++ (codes " traces, " ++ (decimal bytes ++ (codes " of " ++ (decimal of_bytes ++ codes " bytes\n")))))))
