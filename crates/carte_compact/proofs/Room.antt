-- A rewriting that is due finds room.
use Rattle.std.proofs.Common.{◌≡◌, ℕ, ◌≤◌, true, ◌&&◌, not, arith}
use Rattle.std.proofs.lemmas.Bool.Decides.{nat_tests}
use Rattle.std.specs.Prelude.{◌||◌, nat_le, is_some}
use Rattle.carte_journal.specs.Regions.{needs_with, told_bank}
use Rattle.carte_record.specs.Empty.{is_empty}
use Rattle.carte_compact.specs.Due.{can_turn, is_asked, is_large, is_over, is_possible}
use Rattle.carte_compact.specs.Laws.{DueHasRoom}
use Rattle.carte_compact.specs.Lengths.{region_length}
use Rattle.carte_compact.proofs.Bare.{both}

no_more : (needed limit : ℕ) → nat_le needed limit ≡ true → needed ≤ limit
no_more needed limit is = grind (arith, nat_tests)

pub due_has_room : DueHasRoom
due_has_room s B is_first due needed limit cramped =
    let live = cramped.live in
    let j = s.journal in
    let n = region_length live.batches in
    let rest = both (not (is_some s.one)) (is_asked s n B is_first) (due live.batches live.live) in
    let filled = both (not (is_empty B)) (is_possible j n && (is_over s B || (is_first && is_large (told_bank j) n))) rest.1 in
    let possible = both (is_possible j n) (is_over s B || (is_first && is_large (told_bank j) n)) filled.1 in
    let room : needs_with j n ≤ j.limit = no_more (needs_with j n) j.limit (both (can_turn (told_bank j)) (nat_le (needs_with j n) j.limit) possible.0).1 in
    absurd (omega (arith, room, live.needs, cramped.needed_is, cramped.limit_is, cramped.over))
