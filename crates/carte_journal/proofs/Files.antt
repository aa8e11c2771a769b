-- Laws of a file of frames, from any place at which frames start.
use Rattle.std.proofs.Common.{◌≡◌, ◌≢◌, ◌⊎◌, ℕ, ◌+◌, ◌-◌, ◌<◌, ◌≤◌, ◌^◌, max, List, [], ◌∷◌, ◌++◌, length, take, drop, get_or, arith, sym, ◌∙◌, ap, inl, inr, append-nil, append_assoc, length-drop}
use Rattle.std.proofs.lemmas.Bool.{cases_eq}
use Rattle.std.proofs.lemmas.List.{take-append-drop, drop-drop, drop_more, get_or-drop, get_or-take}
use Rattle.carte_io.specs.Disk.{IsTorn, put_at, range_of}
use Rattle.carte_io.specs.MemDisks.{image_wrote}
use Rattle.carte_io.specs.Puts.{length-put_at, put_at_outside}
use Rattle.carte_io.proofs.Images.{torn_none}
use Rattle.carte_io.proofs.Torn.{drop_put, take_put, torn_drop, torn_take}
use Rattle.carte_bank.proofs.RootLaws.{Same, same_taken}
use Rattle.carte_journal.specs.Frames.{BodyAt, Ends, end_of, frames_from, piece_of, walk}
use Rattle.carte_journal.specs.Ready.{HasFrames}
use Rattle.carte_journal.proofs.Walks.{adds, adds_ends, bounds, gate_closed, walk_closed, walk_frame, walk_on}

-- a file over which a piece is put is one that was torn there
pub put_torn : (file : List ℕ) (at : ℕ) (piece : List ℕ) → IsTorn (range_of at (length piece)) file (put_at file at piece)
put_torn file at piece = image_wrote [] file file at piece (torn_none file)

pub first_put : (file : List ℕ) (at byte : ℕ) (piece : List ℕ) → at ≤ length file → get_or (put_at file at (byte ∷ piece)) at 0 ≡ byte
first_put file at byte piece within =
    let file' : List ℕ = put_at file at (byte ∷ piece) in
    let none : at ≡ at + 0 = omega arith in
    ap (λ i. get_or file' i 0) none ∙ sym (get_or-drop at file' 0 0) ∙ ap (λ xs. get_or xs 0 0) (drop_put file at (byte ∷ piece) within)

-- bytes that are the same in front of a gate byte
pub same_front : (gate hi : ℕ) (file c : List ℕ) → take gate c ≡ take gate file → hi ≤ gate → Same 0 hi file c
same_front gate hi file c same le i low high =
    sym (get_or-take gate c i 0 (omega (arith, le, high))) ∙ ap (λ xs. get_or xs i 0) same ∙ get_or-take gate file i 0 (omega (arith, le, high))

module _ (limit start gate : ℕ) (bodies : List BodyAt) (file : List ℕ) (has : HasFrames limit start gate bodies file) where
  pub gate_from : start ≤ gate
  gate_from = omega (arith, (bounds limit start 0 (drop start file) gate bodies has.ends).0)

  pub gate_inside : gate < length file
  gate_inside = omega (arith, (bounds limit start 0 (drop start file) gate bodies has.ends).1, length-drop start file, has.inside)

  pub gate_is_closed : get_or file gate 0 ≢ 1
  gate_is_closed is_open =
      let there : start + (gate - start) ≡ gate = omega (arith, gate_from) in
      gate_closed limit start 0 (drop start file) gate bodies has.ends
      (get_or-drop start file (gate - start) 0 ∙ ap (λ i. get_or file i 0) there ∙ is_open)

  -- what the file has from the start on, with another end
  front_kept : (c : List ℕ) → Same start gate file c → gate < length c → drop start c ≡ take (gate - start) (drop start file) ++ drop gate c
  front_kept c same inside =
      let there : start + (gate - start) ≡ gate = omega (arith, gate_from) in
      sym (take-append-drop (gate - start) (drop start c))
      ∙ ap (λ front. front ++ drop (gate - start) (drop start c))
      (same_taken (gate - start) start gate file c same (omega (arith, there)) (omega (arith, gate_inside)) (omega (arith, inside)))
      ∙ ap (λ behind. take (gate - start) (drop start file) ++ behind) (drop-drop (gate - start) start c ∙ ap (λ n. drop n c) there)

  -- with another end, the frames go on there
  goes_on_there : (c : List ℕ) → Same start gate file c → gate < length c → frames_from limit start c ≡ adds bodies (walk limit gate 0 (drop gate c))
  goes_on_there c same inside =
      ap (walk limit start 0) (front_kept c same inside)
      ∙ walk_on limit start 0 (drop start file) (drop gate c) gate bodies (omega (arith, length-drop gate c, inside)) has.ends

  -- a closed byte at the gate: the bodies are the same
  pub closed_same : (c : List ℕ) → Same start gate file c → gate < length c → get_or c gate 0 ≢ 1 → HasFrames limit start gate bodies c
  closed_same c same inside closed = record {
    inside = omega (arith, gate_from, inside);
    ends =
        goes_on_there c same inside ∙ ap (λ bytes. adds bodies (walk limit gate 0 bytes)) (drop_more c gate 0 inside)
        ∙ ap (adds bodies) (walk_closed limit gate (get_or c gate 0) (drop (gate + 1) c) closed)
        ∙ adds_ends bodies [] gate ∙ ap (Ends gate) (append-nil bodies);
  }

  pub frames_same : (c : List ℕ) → Same start (gate + 1) file c → gate < length c → HasFrames limit start gate bodies c
  frames_same c same inside =
      closed_same c (λ i low high. same i low (omega (arith, high))) inside (λ is_open. gate_is_closed (sym (same gate gate_from (omega arith)) ∙ is_open))

  pub closed_there : (c : List ℕ) → take gate c ≡ take gate file → gate < length c → get_or c gate 0 ≢ 1
      → HasFrames limit start gate bodies c
  closed_there c same = closed_same c (λ i low. same_front gate gate file c same (omega arith) i (omega arith))

  -- an open byte at the gate and a whole frame behind it: there is one body more
  pub opened_there : (c body behind : List ℕ) → take gate c ≡ take gate file → gate < length c → get_or c gate 0 ≡ 1
      → drop (gate + 1) c ≡ piece_of body ++ behind → length body < 2 ^ 32 → end_of gate body + 1 ≤ limit
      → HasFrames limit start (end_of gate body) (bodies ++ (gate, body) ∷ []) c
  opened_there c body behind same inside is_open is short fits = record {
    inside = omega (arith, gate_from, inside);
    ends =
        goes_on_there c (λ i low. same_front gate gate file c same (omega arith) i (omega arith)) inside
        ∙ ap (λ bytes. adds bodies (walk limit gate 0 bytes)) (drop_more c gate 0 inside)
        ∙ ap (λ byte. adds bodies (walk limit gate 0 (byte ∷ drop (gate + 1) c))) is_open
        ∙ ap (λ bytes. adds bodies (walk limit gate 0 (1 ∷ bytes))) is
        ∙ ap (adds bodies) (walk_frame limit gate body behind short fits)
        ∙ adds_ends bodies ((gate, body) ∷ []) (end_of gate body);
  }

  -- the bytes behind the gate torn: as before
  pub torn_behind : (n : ℕ) (c : List ℕ) → IsTorn (range_of (gate + 1) n) file c
      → HasFrames limit start gate bodies c × (take gate c ≡ take gate file)
  torn_behind n c torn =
      let inside : gate < length file = gate_inside in
      let same : take gate c ≡ take gate file =
      torn_take gate (range_of (gate + 1) n) file c torn (omega arith)
      (λ i below. elim [ inl range ↦ absurd (omega (arith, range.0)) | inr never ↦ never ]) in
      let byte : get_or c gate 0 ≡ get_or file gate 0 =
      torn.outside gate inside (elim [ inl range ↦ absurd (omega (arith, range.0)) | inr never ↦ never ]) in
      (closed_there c same (omega (arith, torn.no_shorter)) (λ is_open. gate_is_closed (sym byte ∙ is_open)), same)

  -- a piece behind the gate
  pub staged : (piece : List ℕ) → HasFrames limit start gate bodies (put_at file (gate + 1) piece)
      × (take gate (put_at file (gate + 1) piece) ≡ take gate file)
  staged piece =
      let inside : gate < length file = gate_inside in
      let same : take gate (put_at file (gate + 1) piece) ≡ take gate file = take_put file (gate + 1) gate piece (omega arith) (omega arith) in
      let byte : get_or (put_at file (gate + 1) piece) gate 0 ≡ get_or file gate 0 = put_at_outside file (gate + 1) piece gate inside (inl (omega arith)) in
      (closed_there (put_at file (gate + 1) piece) same (omega (arith, length-put_at file (gate + 1) piece)) (λ is_open. gate_is_closed (sym byte ∙ is_open)), same)

  -- with a piece behind the gate, the gate byte torn: what the others are
  pub torn_parts : (c piece : List ℕ) → IsTorn (range_of gate 1) (put_at file (gate + 1) piece) c
      → (take gate c ≡ take gate file) × (gate < length c) × (drop (gate + 1) c ≡ piece ++ drop (gate + 1 + length piece) file)
  torn_parts c piece torn =
      let inside : gate < length file = gate_inside in
      let long : length (put_at file (gate + 1) piece) ≡ max (length file) (gate + 1 + length piece) = length-put_at file (gate + 1) piece in (
        torn_take gate (range_of gate 1) (put_at file (gate + 1) piece) c torn (omega (arith, long))
            (λ i below. elim [ inl range ↦ absurd (omega (arith, range.0)) | inr never ↦ never ])
            ∙ take_put file (gate + 1) gate piece (omega arith) (omega arith),
        omega (arith, torn.no_shorter, long),
        torn_drop (gate + 1) (range_of gate 1) (put_at file (gate + 1) piece) c torn (omega (arith, long))
            (λ i from. elim [ inl range ↦ absurd (omega (arith, range.1)) | inr never ↦ never ])
            ∙ drop_put file (gate + 1) piece (omega (arith, inside)),
      )

  -- a body behind the gate, and perhaps more, and the gate byte torn: it is open, and there is one body more
  pub opened_torn : (c piece body tail : List ℕ) → piece ≡ piece_of body ++ tail → length body < 2 ^ 32 → end_of gate body + 1 ≤ limit
      → IsTorn (range_of gate 1) (put_at file (gate + 1) piece) c → get_or c gate 0 ≡ 1 → HasFrames limit start (end_of gate body) (bodies ++ (gate, body) ∷ []) c
  opened_torn c piece body tail is short fits torn is_open =
      let h = torn_parts c piece torn in
      opened_there c body (tail ++ drop (gate + 1 + length piece) file) h.0 h.1 is_open
      (h.2 ∙ ap (λ p. p ++ drop (gate + 1 + length piece) file) is ∙ append_assoc (piece_of body) tail (drop (gate + 1 + length piece) file)) short fits

  -- it is open or not
  pub torn_gate : (c piece body tail : List ℕ) → piece ≡ piece_of body ++ tail → length body < 2 ^ 32 → end_of gate body + 1 ≤ limit
      → IsTorn (range_of gate 1) (put_at file (gate + 1) piece) c
      → (HasFrames limit start gate bodies c ⊎ HasFrames limit start (end_of gate body) (bodies ++ (gate, body) ∷ []) c)
      × (take gate c ≡ take gate file)
  torn_gate c piece body tail is short fits torn =
      let h = torn_parts c piece torn in
      elim (cases_eq (get_or c gate 0) 1) [
        | inl is_open ↦ (inr (opened_torn c piece body tail is short fits torn is_open), h.0)
        | inr closed ↦ (inl (closed_there c h.0 h.1 closed), h.0)
      ]

  -- with a body behind the gate, and perhaps more, the gate byte opened: with the body
  pub opened : (piece body tail : List ℕ) → piece ≡ piece_of body ++ tail → length body < 2 ^ 32 → end_of gate body + 1 ≤ limit
      → HasFrames limit start (end_of gate body) (bodies ++ (gate, body) ∷ []) (put_at (put_at file (gate + 1) piece) gate (1 ∷ []))
      × (take gate (put_at (put_at file (gate + 1) piece) gate (1 ∷ [])) ≡ take gate file)
  opened piece body tail is short fits =
      let mid : List ℕ = put_at file (gate + 1) piece in
      let torn : IsTorn (range_of gate 1) mid (put_at mid gate (1 ∷ [])) = put_torn mid gate (1 ∷ []) in (
        opened_torn (put_at mid gate (1 ∷ [])) piece body tail is short fits torn
            (first_put mid gate 1 [] (omega (arith, gate_inside, length-put_at file (gate + 1) piece))),
        (torn_parts (put_at mid gate (1 ∷ [])) piece torn).0,
      )
