-- The first rewriting of a file: a move, two roots and a region behind one gate byte.
use Rattle.std.proofs.Common.{◌≡◌, ◌⊎◌, ℕ, ◌+◌, ◌<◌, ◌≤◌, ◌^◌, true, Some, None, List, [], ◌∷◌, ◌++◌, length, take, drop, get_or, arith, lit<, refl, sym, ◌∙◌, ap, inl, inr, length-append, length-drop}
use Rattle.std.specs.Prelude.{replicate, ◌==◌}
use Rattle.std.specs.Int.{from_be_bytes, w64}
use Rattle.std.proofs.lemmas.Bool.{cases_Bool, cases_eq}
use Rattle.std.proofs.lemmas.List.{drop-drop, get_or-drop}
use Rattle.std.proofs.lemmas.Nat.{from_be_bytes-to_be_bytes_8}
use Rattle.carte_io.specs.Disk.{IsTorn, put_at, range_of}
use Rattle.carte_io.specs.Puts.{length-put_at}
use Rattle.carte_bank.specs.Moves.{is_move, move_by, move_in, move_to, stated_at}
use Rattle.carte_bank.specs.Roots.{root_at}
use Rattle.carte_bank.specs.Turns.{first_roots, root_bytes}
use Rattle.carte_bank.proofs.MoveLaws.{as_move}
use Rattle.carte_bank.proofs.RootLaws.{Rooted, has_roots, no_move}
use Rattle.carte_bank.proofs.TurnLaws.{IsActive, active_rooted, root_as}
use Rattle.carte_journal.specs.Frames.{BodyAt, Ends, end_of, frames_from, walk}
use Rattle.carte_journal.specs.Ready.{HasFrames, IsReady}
use Rattle.carte_journal.specs.Regions.{AreShort, first_front, gate_of, placed_at, region_of}
use Rattle.carte_journal.proofs.Banks.{first_move, move_is}
use Rattle.carte_journal.proofs.Files.{closed_there, first_put, gate_inside, gate_is_closed, opened_torn, put_torn, torn_parts}
use Rattle.carte_journal.proofs.Readings.{begins_too, still_ready}
use Rattle.carte_journal.proofs.Regions.{frames_below, length-region_of, walk_region}

-- the move among the bodies
stated_move : (place : ℕ) → place < 2 ^ 64 → stated_at 1 (move_to place) ≡ place
unfolding stated_at
stated_move place low = from_be_bytes-to_be_bytes_8 place low

first_behind : (bodies more : List BodyAt) → first_move bodies ≡ None → first_move (bodies ++ more) ≡ first_move more
first_behind [] more none = refl
first_behind (body ∷ bodies) more none =
    elim (cases_Bool (is_move body.1)) [
      | inl on ↦ absurd (let e : Some (move_by body.0 body.1) ≡ None = sym (rw on refl) ∙ none in cc)
      | inr off ↦ rw off (first_behind bodies more (sym (rw off refl) ∙ none))
    ]

-- the gate byte torn, in front of all that
module _ (limit gate at : ℕ) (bodies : List BodyAt) (file : List ℕ) (ready : IsReady limit None gate bodies file) (new : List (List ℕ)) (short : AreShort new)
    (low : gate < 2 ^ 32) (at_is : at ≡ gate + 49) (fits : gate_of at new + 1 ≤ limit) where
  abbrev place : ℕ
  place = gate + 15

  abbrev first_piece : List ℕ
  first_piece = first_front place ++ region_of new

  abbrev tail : List ℕ
  tail = (1 ∷ (root_bytes 1 (place + 34) ++ replicate 17 0)) ++ region_of new

  abbrev staged : List ℕ
  staged = put_at file (gate + 1) first_piece

  under : at < limit
  under = omega (arith, length-region_of at new, frames_below new, fits)

  module _ (c : List ℕ) (torn : IsTorn (range_of gate 1) staged c) where
    abbrev behind : List ℕ
    behind = drop (gate + 1 + length first_piece) file

    parts_at : (n k : ℕ) → n ≡ gate + 1 + k → drop n c ≡ drop k (first_piece ++ behind)
    parts_at n k is =
        ap (λ i. drop i c) is ∙ sym (drop-drop k (gate + 1) c) ∙ ap (drop k) (torn_parts limit 8 gate bodies file ready.frames c first_piece torn).2

    byte_at : (n k : ℕ) → n ≡ gate + 1 + k → get_or c n 0 ≡ get_or (drop k (first_piece ++ behind)) 0 0
    byte_at n k is =
        ap (λ i. get_or c i 0) (let e : n ≡ n + 0 = omega arith in e) ∙ sym (get_or-drop n c 0 0) ∙ ap (λ xs. get_or xs 0 0) (parts_at n k is)

    long : at < length c
    long =
        let e : length (drop (gate + 1) c) ≡ length (first_piece ++ behind) = ap length (torn_parts limit 8 gate bodies file ready.frames c first_piece torn).2 in
        omega (arith, e, length-drop (gate + 1) c, length-append first_piece behind, length-append (first_front place) (region_of new), frames_below new)

    generation_is : stated_at (place + 1) c ≡ 1
    unfolding stated_at
    generation_is = ap (λ b. from_be_bytes w64 (take 8 b)) (parts_at (place + 1) 15 (omega arith)) ∙ from_be_bytes-to_be_bytes_8 1 (lit< tt)

    start_is : stated_at (place + 9) c ≡ place + 34
    unfolding stated_at
    start_is = ap (λ b. from_be_bytes w64 (take 8 b)) (parts_at (place + 9) 23 (omega arith)) ∙ from_be_bytes-to_be_bytes_8 (place + 34) (omega arith)

    first_is : root_at place c ≡ root_as true 1 (place + 34)
    first_is =
        let byte : get_or c place 0 ≡ 1 = byte_at place 14 (omega arith) in
        let on : get_or c place 0 == 1 ≡ true = ap (λ b. b == 1) byte in
        rw (on, generation_is, start_is) refl

    is_first : IsActive (first_roots place) c
    is_first = record {
      active = first_is;
      other = ap (λ b. b == 1) (byte_at (place + 17) 31 (omega arith));
      earlier = λ both. absurd (cc);
    }

    frames_are : frames_from limit (place + 34) c ≡ Ends (gate_of at new) (placed_at at new)
    frames_are =
        let there : place + 34 ≡ at = omega (arith, at_is) in
        ap (walk limit (place + 34) 0) (parts_at (place + 34) 48 (omega arith)) ∙ ap (λ n. walk limit n 0 (region_of new ++ behind)) there
        ∙ walk_region limit at new behind short fits

    module _ (is_open : get_or c gate 0 ≡ 1) where
      listed : HasFrames limit 8 (end_of gate (move_to place)) (bodies ++ (gate, move_to place) ∷ []) c
      listed = opened_torn limit 8 gate bodies file ready.frames c first_piece (move_to place) tail refl (omega arith) (omega (arith, under, at_is)) torn is_open

      found : move_in limit c ≡ Some (as_move gate place)
      found =
          let none : first_move bodies ≡ None = sym (move_is limit 8 0 (drop 8 file) gate bodies ready.frames.ends) ∙ no_move limit file ready.bank_is in
          move_is limit 8 0 (drop 8 c) (end_of gate (move_to place)) (bodies ++ (gate, move_to place) ∷ []) listed.ends
          ∙ first_behind bodies ((gate, move_to place) ∷ []) none
          ∙ ap (λ p. Some (as_move gate p)) (stated_move place (omega arith))

      first_rooted : Rooted limit (first_roots place) c
      first_rooted = record {
        move = as_move gate place;
        found = found;
        to = refl;
        place = refl;
        long = omega (arith, long, at_is);
        low = omega (arith, under, at_is);
        shut = λ closed. gate_is_closed limit 8 (end_of gate (move_to place)) (bodies ++ (gate, move_to place) ∷ []) c listed
            (ap (λ i. get_or c i 0) (let e : end_of gate (move_to place) ≡ gate + 14 = omega arith in e) ∙ closed);
        active = active_rooted (first_roots place) c is_first;
        behind = omega arith;
        inside = omega (arith, long, at_is);
        under = omega (arith, under, at_is);
      }

      pub first_open : IsReady limit (Some (first_roots place)) (gate_of at new) (placed_at at new) c
      first_open = record {
        begins = begins_too limit None gate bodies file ready c (torn_parts limit 8 gate bodies file ready.frames c first_piece torn).0;
        bank_is = has_roots limit (first_roots place) c first_rooted;
        frames = record { inside = omega (arith, long, at_is); ends = frames_are };
      }

    pub first_either : IsReady limit None gate bodies c ⊎ IsReady limit (Some (first_roots place)) (gate_of at new) (placed_at at new) c
    first_either =
        let h = torn_parts limit 8 gate bodies file ready.frames c first_piece torn in
        elim (cases_eq (get_or c gate 0) 1) [
          | inl is_open ↦ inr (first_open is_open)
          | inr closed ↦ inl (still_ready limit None gate bodies file ready c (closed_there limit 8 gate bodies file ready.frames c h.0 h.1 closed) h.0)
        ]

  pub first_ready : IsReady limit (Some (first_roots place)) (gate_of at new) (placed_at at new) (put_at staged gate (1 ∷ []))
  first_ready =
      let within : gate < length file = gate_inside limit 8 gate bodies file ready.frames in
      first_open (put_at staged gate (1 ∷ [])) (put_torn staged gate (1 ∷ []))
      (first_put staged gate 1 [] (omega (arith, within, length-put_at file (gate + 1) first_piece)))
