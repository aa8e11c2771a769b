-- The replies to the lines of a session, and the lines of an explanation. The reply of a build has a place of its own.
use Rattle.std.specs.Prelude.{ℕ, List, [], ◌∷◌, ◌++◌, codes, flat_map}
use Rattle.std.specs.Fmt.{decimal}
use Rattle.hex.specs.Hex.{encode_lower}
use Rattle.carte_value.specs.declared.digest.Digest.{Digest}
use Rattle.carte_book.specs.declared.fault.SetFault.{SetFault}
use Rattle.carte_book.specs.declared.fault.SetFault.TheVariants.{NotInput, NoSuchName, Limit, NoMemory}
use Rattle.carte_book.specs.declared.reason.Reason.{Reason}
use Rattle.carte_explain.specs.declared.why.Why.{Why}
use Rattle.carte_explain.specs.declared.why.Why.TheVariants.{Input, Reusable, NoTrace, RuleChanged, FirstDifference, StoredDiffers, NoEntry, Stale, Shallow, DirtyInput, DirtyRule}
use Rattle.carte_report.specs.Texts.{path_text, reason_text}

-- ---- an input that was set, or not

abbrev pub set_fault_text : List ℕ → SetFault → List ℕ
set_fault_text k NotInput = k ++ codes " is a rule"
set_fault_text k NoSuchName = k ++ codes " is unknown"
set_fault_text k Limit = codes "more than 262144 keys"
set_fault_text k NoMemory = codes "out of memory"

abbrev pub set_line : List ℕ → List ℕ
set_line k = codes "set " ++ (k ++ 10 ∷ [])

abbrev pub not_set_line : List ℕ → SetFault → List ℕ
not_set_line k fault = codes "not set: " ++ (set_fault_text k fault ++ 10 ∷ [])

-- ---- other lines

abbrev pub refused_line : Reason → List ℕ
refused_line reason = codes "refused: " ++ (reason_text reason ++ 10 ∷ [])

abbrev pub stray_line : ℕ → List ℕ
stray_line n = codes "line " ++ (decimal n ++ codes ": not understood\n")

abbrev pub cleaned_line : List ℕ
cleaned_line = codes "cleaned\n"

-- ---- why a key runs, or doesn't

abbrev pub hex_text : Digest → List ℕ
hex_text d = encode_lower d.0

abbrev pub difference_text : List ℕ → Digest → Digest → List ℕ
difference_text k old new = codes " runs: " ++ (k ++ (codes " was " ++ (hex_text old ++ (codes ", is " ++ hex_text new))))

abbrev pub why_text : Why → List ℕ
why_text Input = codes " is an input"
why_text Reusable = codes " reusable"
why_text NoTrace = codes " runs: no record"
why_text RuleChanged = codes " runs: rule changed"
why_text (FirstDifference k old new) = difference_text k old new
why_text (StoredDiffers stored result) = codes " runs: stored value differs"
why_text NoEntry = codes " runs: no entry"
why_text Stale = codes " runs: entry marked stale"
why_text Shallow = codes " runs: entry is shallow"
why_text (DirtyInput path) = codes " runs: input changed: " ++ path_text path
why_text (DirtyRule path) = codes " runs: rule changed: " ++ path_text path

abbrev pub why_line : List ℕ → Why → List ℕ
why_line k why = k ++ (why_text why ++ 10 ∷ [])

-- a line for each key with its cause
abbrev pub why_lines : List (List ℕ × Why) → List ℕ
why_lines told = flat_map (λ t. why_line t.0 t.1) told
