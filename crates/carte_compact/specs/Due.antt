-- When a build rewrites its state's file before it commits a batch.
use Rattle.std.specs.Prelude.{ℕ, ◌-◌, ◌*◌, ◌^◌, ◌&&◌, ◌||◌, not, nat_le, nat_lt, is_some, Bool}
use Rattle.carte_journal.specs.Journals.{Standing}
use Rattle.carte_journal.specs.Regions.{needs_with, told_bank}
use Rattle.carte_journal.specs.declared.bank.Bank.{Bank}
use Rattle.carte_record.specs.declared.batch.Batch.{Batch}
use Rattle.carte_record.specs.Empty.{is_empty}
use Rattle.carte_state.specs.States.{Stand, needs_for}

-- it has a frame, and there is a next generation
abbrev pub can_turn : Bank → Bool
can_turn b = nat_lt 0 b.frames && nat_lt b.generation (2 ^ 64 - 1)

-- a rewriting is possible, where the live information takes so many bytes: the file has room for it too
abbrev pub is_possible : Standing → ℕ → Bool
is_possible j live = can_turn (told_bank j) && nat_le (needs_with j live) j.limit

-- how many bytes it has
abbrev pub size_of : Bank → ℕ
size_of b = b.end - b.start

-- it has more than 65,536 bytes
abbrev pub is_wide : Bank → Bool
is_wide b = nat_lt 65536 (size_of b)

-- and more than twice as many as what is live
abbrev pub is_large : Bank → ℕ → Bool
is_large b live = is_wide b && nat_lt (2 * live) (size_of b)

-- there is no room for the batch in the file as it stands
abbrev pub is_over : Stand → Batch → Bool
is_over s B = nat_lt s.journal.limit (needs_for s B)

-- Before a first commit a rewriting is asked for where it is possible and the bank is large or there is no room for the batch, and before a later one where it
-- is possible and there is no room for the batch. An empty batch isn't committed.
abbrev pub is_asked : Stand → ℕ → Batch → Bool → Bool
is_asked s live B is_first =
    not (is_empty B) && (is_possible s.journal live && (is_over s B || (is_first && is_large (told_bank s.journal) live)))

-- then it is due, but for what is kept in version 1, which isn't rewritten
abbrev pub is_due : Stand → ℕ → Batch → Bool → Bool
is_due s live B is_first = not (is_some s.one) && is_asked s live B is_first
