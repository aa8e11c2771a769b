-- The line that is written where the status isn't 0.
use Rattle.std.specs.Prelude.{ℕ, List, [], ◌∷◌, ◌++◌, codes}
use Rattle.std.specs.Fmt.{decimal}
use Rattle.carte_value.specs.Printed.{quoted}
use Rattle.carte_book.specs.declared.fault.Which.{Which}
use Rattle.carte_book.specs.declared.fault.Which.TheVariants.{Bytes, Keys, Rows, Columns}
use Rattle.carte_book.specs.declared.fault.BookFault.{BookFault}
use Rattle.carte_book.specs.declared.fault.BookFault.TheVariants.{Limit, NotToml, BadTable, BadName, BadValue, Formula, Twice, NotUtf8, NoMemory as BookNoMemory}
use Rattle.carte_tree.specs.declared.fault.FormulaFault.{FormulaFault}
use Rattle.carte_tree.specs.declared.fault.FormulaFault.TheVariants.{BadToken, BadSyntax, TooDeep, TooLong, TooWide, NoMemory as FormulaNoMemory}
use Rattle.carte_book.specs.declared.reason.Reason.{Reason}
use Rattle.carte_book.specs.declared.reason.Reason.TheVariants.{Cycle, Missing, Dynamic}
use Rattle.carte_words.specs.declared.fault.WordsFault.{WordsFault}
use Rattle.carte_words.specs.declared.fault.WordsFault.TheVariants.{Words, NoTarget, TargetsNotTaken, SeedAndCount, BadTarget, WorkersNeedSuspending, NoMemory as WordsNoMemory}
use Rattle.carte_report.specs.declared.status.Status.{Status}
use Rattle.carte_report.specs.declared.status.Status.TheVariants.{Done, BookRefused, Usage, BuildRefused, ReadFault, WriteFault, DiskFault, BadState, StateFull, NoMemory, ScriptTooLong}

abbrev pub which_text : Which → List ℕ
which_text Bytes = codes "bytes"
which_text Keys = codes "keys"
which_text Rows = codes "rows"
which_text Columns = codes "columns"

abbrev pub formula_fault_text : FormulaFault → List ℕ
formula_fault_text (BadToken place) = codes "bad token at " ++ decimal place
formula_fault_text (BadSyntax place) = codes "bad syntax at " ++ decimal place
formula_fault_text (TooDeep place) = codes "too deep at " ++ decimal place
formula_fault_text (TooLong n) = codes "longer than 4096 bytes"
formula_fault_text (TooWide place) = codes "too many cells at " ++ decimal place
formula_fault_text FormulaNoMemory = codes "out of memory"

abbrev pub book_fault_text : BookFault → List ℕ
book_fault_text (Limit which n) = codes "more than " ++ (decimal n ++ (codes " " ++ which_text which))
book_fault_text NotToml = codes "not TOML"
book_fault_text (BadTable text) = codes "bad table " ++ quoted text
book_fault_text (BadName text) = codes "bad name " ++ quoted text
book_fault_text (BadValue k) = codes "bad value of " ++ k
book_fault_text (Formula k fault) = codes "formula of " ++ (k ++ (codes ": " ++ formula_fault_text fault))
book_fault_text (Twice k) = k ++ codes " is an input and a rule"
book_fault_text (NotUtf8 k) = codes "cell " ++ (k ++ codes " is not UTF-8")
book_fault_text BookNoMemory = codes "out of memory"

abbrev pub words_fault_text : WordsFault → List ℕ
words_fault_text Words = codes "the words are no command"
words_fault_text NoTarget = codes "no target"
words_fault_text TargetsNotTaken = codes "targets not taken"
words_fault_text SeedAndCount = codes "generate takes a seed and a count"
words_fault_text (BadTarget word) = codes "bad target " ++ quoted word
words_fault_text WorkersNeedSuspending = codes "workers need the suspending scheduler"
words_fault_text WordsNoMemory = codes "out of memory"

abbrev pub arrows : List (List ℕ) → List ℕ
arrows [] = []
arrows (k ∷ ks) = codes " -> " ++ (k ++ arrows ks)

-- the names with ` -> ` between them
abbrev pub path_text : List (List ℕ) → List ℕ
path_text [] = []
path_text (k ∷ ks) = k ++ arrows ks

abbrev pub reason_text : Reason → List ℕ
reason_text (Cycle path) = codes "cycle: " ++ path_text path
reason_text (Missing path) = codes "missing: " ++ path_text path
reason_text (Dynamic path) = codes "dynamic: " ++ path_text path

abbrev pub status_text : Status → List ℕ
status_text Done = []
status_text (BookRefused fault) = codes "book refused: " ++ book_fault_text fault
status_text (Usage fault) = codes "usage: " ++ words_fault_text fault
status_text (BuildRefused reason) = reason_text reason
status_text ReadFault = codes "a read failed"
status_text WriteFault = []
status_text DiskFault = codes "the state's device failed"
status_text (BadState offset) = codes "bad state at byte " ++ decimal offset
status_text (StateFull needed limit) = codes "state full: " ++ (decimal needed ++ (codes " bytes needed, limit " ++ decimal limit))
status_text NoMemory = codes "out of memory"
status_text ScriptTooLong = codes "script longer than 67108864 bytes"

abbrev pub line : List ℕ → List ℕ
line text = codes "carte: " ++ (text ++ 10 ∷ [])

-- nothing is said where all was done, or where the reply couldn't be written
abbrev pub error_line : Status → List ℕ
error_line Done = []
error_line WriteFault = []
error_line status = line (status_text status)
