-- Keys that are held again once what has changed is set back.
use Rattle.std.proofs.Common.{ℕ, List, []}
use Rattle.carte_value.specs.Lists.{Has}
use Rattle.carte_value.specs.Truths.{NoneTwice}
use Rattle.carte_book.specs.Book.{Book}
use Rattle.carte_book.specs.Needs.{IsRule}
use Rattle.carte_record.specs.declared.way.Way.{Way}
use Rattle.carte_record.specs.Kept.{SomeKept}
use Rattle.carte_record.specs.Ways.{TraceBy}
use Rattle.carte_sound.specs.Base.{HasDistinctDigests, IsBase}
use Rattle.carte_sound.specs.Begun.{Beginning, IsBeginning, begin}
use Rattle.carte_sound.specs.Finished.{AreFinished}
use Rattle.carte_sound.specs.Held.{How, tracing, IsTrusted, IsHeld}
use Rattle.carte_sound.specs.Left.{Finishes, left}
use Rattle.carte_sound.specs.Sound.{IsSound}
use Rattle.carte_sound.proofs.Begins.{begun_base}
use Rattle.carte_sound.proofs.LeftSound.{left_base}
use Rattle.carte_sound.proofs.Next.{trace_stays, next_held}
use Rattle.carte_sound.proofs.TracesKept.{traces_grow_all}

-- by traces that are trusted whatever the entries are: the build of another book takes none away from a rule of both
pub held_again : (w : Way) → ((K : SomeKept) (k : List ℕ) (t : TraceBy w) → IsTrusted w K k t) → (h : How) (K : SomeKept) (b c : Book) (H : List Book) (k : List ℕ) (y : Beginning) (finished : Finishes) (chain : List (List ℕ)) (x : Beginning)
    → IsSound K H → Has H c → HasDistinctDigests H → IsBeginning K c y → NoneTwice chain → AreFinished h c (begin K y) [] finished → IsRule c k → IsRule b k → IsHeld (tracing w) K b k
    → IsBeginning (left h c (begin K y) finished chain) b x → IsHeld (tracing w) (begin (left h c (begin K y) finished chain) x) b k
held_again w trusts h K b c H k y finished chain x sound stood distinct begins once are rule_c rule_b held again =
    let L = left h c (begin K y) finished chain in
    let base : IsBase L c H = left_base h c H (begin K y) (begun_base K c H y sound stood distinct begins) finished chain once are in
    let there : Has (L.traces w k) held.0 = traces_grow_all h c (begin K y) finished w k held.0 (trace_stays w K H c y sound begins k held.0 rule_c held.1.kept) in
    next_held w L H b x base.sound again k rule_b (held.0, record { kept = there; task = held.1.task; links = held.1.links; trusted = trusts L k held.0 })
