-- Laws of a region, as it is planned.
use Rattle.std.proofs.Common.{◌≡◌, ℕ, ◌+◌, ◌<◌, ◌≤◌, ◌^◌, Option, Some, None, List, [], ◌∷◌, ◌++◌, length, arith, refl, sym, ◌∙◌, ap, subst, append_assoc, length-append}
use Rattle.std.specs.Int.{to_be_bytes, w32}
use Rattle.carte_bank.specs.Roots.{start_of}
use Rattle.carte_bank.specs.Turns.{AreInFront}
use Rattle.carte_bank.specs.declared.roots.Roots.{Roots}
use Rattle.carte_journal.specs.Frames.{BodyAt, Ends, add, end_of, walk}
use Rattle.carte_journal.specs.Regions.{AreShort, IsPlaced, IsRegionOf, bytes_of, first_front, front_of, gate_of, placed_at, region_at, region_of, written_from}
use Rattle.carte_journal.proofs.Walks.{frame_then, walk_closed}

-- how long a region is
length-framed : (body behind : List ℕ) → length (to_be_bytes w32 (length body) ++ body ++ behind) ≡ 4 + length body + length behind
length-framed body behind = simp (length-append) (omega arith)

pub length-region_of : (at : ℕ) (bodies : List (List ℕ)) → at + length (region_of bodies) ≡ gate_of at bodies + 1
length-region_of at [] = omega arith
length-region_of at (body ∷ bodies) =
    omega (arith, length-region_of (end_of at body) bodies, length-framed body (region_of bodies))

pub frames_below : (bodies : List (List ℕ)) → length bodies < length (region_of bodies)
frames_below [] = omega arith
frames_below (body ∷ bodies) = omega (arith, frames_below bodies, length-framed body (region_of bodies))

pub length-placed_at : (at : ℕ) (bodies : List (List ℕ)) → length (placed_at at bodies) ≡ length bodies
length-placed_at at [] = refl
length-placed_at at (body ∷ bodies) = omega (arith, length-placed_at (end_of at body) bodies)

length-bytes_of : (bodies : List BodyAt) → length (bytes_of bodies) ≡ length bodies
length-bytes_of [] = refl
length-bytes_of (body ∷ bodies) = omega (arith, length-bytes_of bodies)

pub length-first_front : (place : ℕ) → length (first_front place) ≡ 48
length-first_front place = refl

-- a region ends behind its first gate byte
ends_behind : (bank : Option Roots) (gate at : ℕ) (bodies : List (List ℕ)) → at ≡ region_at bank gate (length (front_of bank gate ++ region_of bodies))
    → at < written_from bank gate at + length (front_of bank gate ++ region_of bodies)
ends_behind None gate at bodies is =
    omega (arith, is, length-append (first_front (gate + 15)) (region_of bodies), length-first_front (gate + 15), frames_below bodies)
ends_behind (Some roots) gate at bodies is = omega (arith, frames_below bodies)

-- what was planned is the region of its bodies
module _ (gate at frames : ℕ) (bank : Option Roots) (piece : List ℕ) (bodies : List BodyAt) (low : gate < 2 ^ 32) (start : start_of bank ≤ gate) (roots : AreInFront bank)
    (piece_is : piece ≡ front_of bank gate ++ region_of (bytes_of bodies)) (at_is : at ≡ region_at bank gate (length piece)) (frames_is : frames ≡ length bodies) where
  pub is_placed : IsPlaced (record { gate = gate; bank = bank; at = at; frames = frames; piece = piece })
  is_placed = record {
    gate = low;
    start = start;
    roots = roots;
    at = at_is;
    inside = subst (λ p. at < written_from bank gate at + length p) (sym piece_is)
        (ends_behind bank gate at (bytes_of bodies) (at_is ∙ ap (λ p. region_at bank gate (length p)) piece_is));
    frames = omega (arith, ap length piece_is, length-append (front_of bank gate) (region_of (bytes_of bodies)), frames_below (bytes_of bodies), length-bytes_of bodies, frames_is);
  }

  pub is_region : AreShort (bytes_of bodies) → IsRegionOf (record { gate = gate; bank = bank; at = at; frames = frames; piece = piece }) (bytes_of bodies)
  is_region short = record {
    piece = piece_is;
    frames = frames_is ∙ sym (length-bytes_of bodies);
    short = short;
    placed = is_placed;
  }

-- its frames
pub walk_region : (limit at : ℕ) (bodies : List (List ℕ)) (behind : List ℕ) → AreShort bodies → gate_of at bodies + 1 ≤ limit
    → walk limit at 0 (region_of bodies ++ behind) ≡ Ends (gate_of at bodies) (placed_at at bodies)
walk_region limit at [] behind short fits = walk_closed limit at 0 behind (λ never. absurd (cc))
walk_region limit at (body ∷ bodies) behind short fits =
    let rest : List ℕ = region_of bodies ++ behind in
    let some : 0 < length rest = omega (arith, length-append (region_of bodies) behind, frames_below bodies) in
    let long : end_of at body + length (region_of bodies) ≡ gate_of (end_of at body) bodies + 1 = length-region_of (end_of at body) bodies in
    ap (λ bytes. walk limit at 0 (1 ∷ bytes)) (append_assoc (to_be_bytes w32 (length body) ++ body) (region_of bodies) behind)
    ∙ frame_then limit at body rest short.0 some (omega (arith, long, fits, frames_below bodies))
    ∙ ap (add (at, body)) (walk_region limit (end_of at body) bodies behind short.1 fits)
