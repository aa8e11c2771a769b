-- Laws of the frames of a list of bytes.
use Rattle.std.proofs.Common.{◌≡◌, ◌≢◌, ℕ, suc, zero, ◌+◌, ◌-◌, ◌<◌, ◌≤◌, ◌^◌, min, true, false, List, [], ◌∷◌, ◌++◌, length, take, drop, get_or, arith, refl, sym, ◌∙◌, ap, inl, inr, append_assoc, length-append, length-take, length-drop}
use Rattle.std.proofs.lemmas.Bool.{cases_eq, cases_Bool}
use Rattle.std.proofs.lemmas.Bool.Decides.{nat_tests}
use Rattle.std.proofs.lemmas.Nat.{from_be_bytes-to_be_bytes_4}
use Rattle.std.proofs.lemmas.List.{drop-drop, drop_more, places, same_lists, take-append-drop, take_at}
use Rattle.std.specs.Int.{from_be_bytes, to_be_bytes, w32}
use Rattle.carte_bank.specs.Moves.{frame_at, lies, stated}
use Rattle.carte_bank.specs.declared.frames.FrameAt.TheVariants.{Closed, Cut, Whole}
use Rattle.carte_bank.proofs.MoveLaws.{closed_frame, cut_frame, whole_frame}
use Rattle.carte_journal.specs.Frames.{Bad, BodyAt, Ends, Reading, add, end_of, frames_from, piece_of, walk}

-- the frames in front of others
abbrev pub adds : List BodyAt → Reading → Reading
adds [] reading = reading
adds (body ∷ bodies) reading = add body (adds bodies reading)

-- one step of a walk
pub walk_closed : (limit at gate : ℕ) (bytes : List ℕ) → gate ≢ 1 → walk limit at 0 (gate ∷ bytes) ≡ Ends at []
walk_closed limit at gate bytes closed = grind (arith, nat_tests)

walk_open : (limit at gate : ℕ) (bytes : List ℕ) → gate ≡ 1 → lies limit at bytes ≡ true
    → walk limit at 0 (gate ∷ bytes) ≡ add (at, take (stated bytes) (drop 4 bytes)) (walk limit (suc at) (4 + stated bytes) bytes)
walk_open limit at gate bytes open_ fits = grind (arith, nat_tests)

walk_bad : (limit at gate : ℕ) (bytes : List ℕ) → gate ≡ 1 → lies limit at bytes ≡ false → walk limit at 0 (gate ∷ bytes) ≡ Bad at
walk_bad limit at gate bytes open_ unfit = grind (arith, nat_tests)

record Added (body : BodyAt) (reading : Reading) (gate : ℕ) (bodies : List BodyAt) : Type 0 where
  rest : List BodyAt
  first : bodies ≡ body ∷ rest
  ends : reading ≡ Ends gate rest

add_inverts : (body : BodyAt) (reading : Reading) (gate : ℕ) (bodies : List BodyAt) → add body reading ≡ Ends gate bodies
    → Added body reading gate bodies
add_inverts body (Ends g rest) gate bodies is =
    record { rest = rest; first = let e : bodies ≡ body ∷ rest = cc in e; ends = let e : Ends g rest ≡ Ends gate rest = cc in e }
add_inverts body (Bad g) gate bodies is = absurd (cc)

lies_fits : (limit at : ℕ) (bytes : List ℕ) → lies limit at bytes ≡ true → (stated bytes + 5 ≤ length bytes) × (at + 6 + stated bytes ≤ limit)
lies_fits limit at bytes fits = (grind (arith, nat_tests), grind (arith, nat_tests))

fits_lies : (limit at : ℕ) (bytes : List ℕ) → stated bytes + 5 ≤ length bytes → at + 6 + stated bytes ≤ limit → lies limit at bytes ≡ true
fits_lies limit at bytes in_file in_limit = grind (arith, nat_tests)

-- what the first byte of a walk that ends was
pub data Step (limit at g : ℕ) (bytes : List ℕ) (gate : ℕ) (bodies : List BodyAt) : Type 0 where
  closes : g ≢ 1 → gate ≡ at → bodies ≡ [] → Step limit at g bytes gate bodies
  opens : g ≡ 1 → lies limit at bytes ≡ true → (rest : List BodyAt) → bodies ≡ (at, take (stated bytes) (drop 4 bytes)) ∷ rest
      → walk limit (suc at) (4 + stated bytes) bytes ≡ Ends gate rest → Step limit at g bytes gate bodies

open_step : (limit at g : ℕ) (bytes : List ℕ) (gate : ℕ) (bodies : List BodyAt) → g ≡ 1 → lies limit at bytes ≡ true
    → Added (at, take (stated bytes) (drop 4 bytes)) (walk limit (suc at) (4 + stated bytes) bytes) gate bodies
    → Step limit at g bytes gate bodies
open_step limit at g bytes gate bodies is fits added = opens is fits added.rest added.first added.ends

pub step : (limit at g : ℕ) (bytes : List ℕ) (gate : ℕ) (bodies : List BodyAt) → walk limit at 0 (g ∷ bytes) ≡ Ends gate bodies
    → Step limit at g bytes gate bodies
step limit at g bytes gate bodies ends =
    elim (cases_eq g 1) [
      | inl is ↦ elim (cases_Bool (lies limit at bytes)) [
        | inl fits ↦ open_step limit at g bytes gate bodies is fits
            (add_inverts _ _ gate bodies (sym (walk_open limit at g bytes is fits) ∙ ends))
        | inr unfit ↦ absurd (let e : Bad at ≡ Ends gate bodies = sym (walk_bad limit at g bytes is unfit) ∙ ends in cc)
      ]
      | inr closed ↦
          let e : Ends at [] ≡ Ends gate bodies = sym (walk_closed limit at g bytes closed) ∙ ends in
          closes closed (cc) (cc)
    ]

-- the closed gate byte lies in the bytes, behind what is passed over
pub bounds : (limit at skip : ℕ) (bytes : List ℕ) (gate : ℕ) (bodies : List BodyAt) → walk limit at skip bytes ≡ Ends gate bodies
    → (at + skip ≤ gate) × (gate < at + length bytes)
bounds limit at skip [] gate bodies ends = absurd (let e : Bad at ≡ Ends gate bodies = ends in cc)
bounds limit at (suc skip) (byte ∷ bytes) gate bodies ends =
    let h : (suc at + skip ≤ gate) × (gate < suc at + length bytes) = bounds limit (suc at) skip bytes gate bodies ends in
    (omega (arith, h.0), omega (arith, h.1))
bounds limit at zero (g ∷ bytes) gate bodies ends =
    elim (step limit at g bytes gate bodies ends) [
      | closes closed is none ↦ (omega (arith, is), omega (arith, is))
      | opens is fits rest first more ↦
          let h : (suc at + (4 + stated bytes) ≤ gate) × (gate < suc at + length bytes) = bounds limit (suc at) (4 + stated bytes) bytes gate rest more in
          (omega (arith, h.0), omega (arith, h.1))
    ]

-- it is closed
pub gate_closed : (limit at skip : ℕ) (bytes : List ℕ) (gate : ℕ) (bodies : List BodyAt) → walk limit at skip bytes ≡ Ends gate bodies
    → get_or bytes (gate - at) 0 ≢ 1
gate_closed limit at skip [] gate bodies ends = absurd (let e : Bad at ≡ Ends gate bodies = ends in cc)
gate_closed limit at (suc skip) (byte ∷ bytes) gate bodies ends =
    let h : (suc at + skip ≤ gate) × (gate < suc at + length bytes) = bounds limit (suc at) skip bytes gate bodies ends in
    let e : gate - at ≡ suc (gate - suc at) = omega (arith, h.0) in
    rw e (gate_closed limit (suc at) skip bytes gate bodies ends)
gate_closed limit at zero (g ∷ bytes) gate bodies ends =
    elim (step limit at g bytes gate bodies ends) [
      | closes closed is none ↦ let e : gate - at ≡ 0 = omega (arith, is) in rw e closed
      | opens is fits rest first more ↦
          let h : (suc at + (4 + stated bytes) ≤ gate) × (gate < suc at + length bytes) = bounds limit (suc at) (4 + stated bytes) bytes gate rest more in
          let e : gate - at ≡ suc (gate - suc at) = omega (arith, h.0) in
          rw e (gate_closed limit (suc at) (4 + stated bytes) bytes gate rest more)
    ]

-- a part of a front
part_of_front : (n s m : ℕ) (bytes behind : List ℕ) → n + s ≤ m → m ≤ length bytes
    → take s (drop n (take m bytes ++ behind)) ≡ take s (drop n bytes)
part_of_front n s m bytes behind fits within =
    same_lists _ _ (simp (length-take, length-drop, length-append) (omega arith)) (λ k d below. grind (arith, places))

stated_front : (m : ℕ) (bytes behind : List ℕ) → 4 ≤ m → m ≤ length bytes → stated (take m bytes ++ behind) ≡ stated bytes
unfolding stated
stated_front m bytes behind fits within = ap (from_be_bytes w32) (part_of_front 0 4 m bytes behind (omega arith) within)

-- an open frame that stays whole, and the frames behind it
open_on : (limit at g m : ℕ) (bytes behind : List ℕ) (rest : List BodyAt) (reading : Reading) → g ≡ 1 → lies limit at bytes ≡ true
    → 4 + stated bytes ≤ m → m < length bytes → 0 < length behind
    → walk limit (suc at) (4 + stated bytes) (take m bytes ++ behind) ≡ adds rest reading
    → walk limit at 0 (g ∷ (take m bytes ++ behind)) ≡ add (at, take (stated bytes) (drop 4 bytes)) (adds rest reading)
open_on limit at g m bytes behind rest reading is fits past inside some ends =
    let s : stated (take m bytes ++ behind) ≡ stated bytes = stated_front m bytes behind (omega arith) (omega arith) in
    let lie : (stated bytes + 5 ≤ length bytes) × (at + 6 + stated bytes ≤ limit) = lies_fits limit at bytes fits in
    let len : length (take m bytes ++ behind) ≡ m + length behind = simp (length-append, length-take) (omega arith) in
    walk_open limit at g (take m bytes ++ behind) is (fits_lies limit at (take m bytes ++ behind) (omega (arith, len, s)) (omega (arith, s, lie.1)))
    ∙ ap (λ n. add (at, take n (drop 4 (take m bytes ++ behind))) (walk limit (suc at) (4 + n) (take m bytes ++ behind))) s
    ∙ ap (λ body. add (at, body) (walk limit (suc at) (4 + stated bytes) (take m bytes ++ behind))) (part_of_front 4 (stated bytes) m bytes behind past (omega arith))
    ∙ ap (add (at, take (stated bytes) (drop 4 bytes))) ends

-- up to the closed gate byte the frames are the same, whatever is behind
pub walk_on : (limit at skip : ℕ) (bytes behind : List ℕ) (gate : ℕ) (bodies : List BodyAt) → 0 < length behind
    → walk limit at skip bytes ≡ Ends gate bodies → walk limit at skip (take (gate - at) bytes ++ behind) ≡ adds bodies (walk limit gate 0 behind)
walk_on limit at skip [] behind gate bodies some ends = absurd (let e : Bad at ≡ Ends gate bodies = ends in cc)
walk_on limit at (suc skip) (byte ∷ bytes) behind gate bodies some ends =
    let h : (suc at + skip ≤ gate) × (gate < suc at + length bytes) = bounds limit (suc at) skip bytes gate bodies ends in
    let e : gate - at ≡ suc (gate - suc at) = omega (arith, h.0) in
    rw e (walk_on limit (suc at) skip bytes behind gate bodies some ends)
walk_on limit at zero (g ∷ bytes) behind gate bodies some ends =
    elim (step limit at g bytes gate bodies ends) [
      | closes closed is none ↦ let e : gate - at ≡ 0 = omega (arith, is) in rw (e, none, is) refl
      | opens is fits rest first more ↦
          let h : (suc at + (4 + stated bytes) ≤ gate) × (gate < suc at + length bytes) = bounds limit (suc at) (4 + stated bytes) bytes gate rest more in
          let e : gate - at ≡ suc (gate - suc at) = omega (arith, h.0) in
          rw (e, first) (open_on limit at g (gate - suc at) bytes behind rest (walk limit gate 0 behind) is fits (omega (arith, h.0)) (omega (arith, h.0, h.1)) some
          (walk_on limit (suc at) (4 + stated bytes) bytes behind gate rest some more))
    ]

pub adds_ends : (bodies more : List BodyAt) (gate : ℕ) → adds bodies (Ends gate more) ≡ Ends gate (bodies ++ more)
adds_ends [] more gate = refl
adds_ends (body ∷ bodies) more gate = ap (add body) (adds_ends bodies more gate)

pub adds_bad : (bodies : List BodyAt) (gate : ℕ) → adds bodies (Bad gate) ≡ Bad gate
adds_bad [] gate = refl
adds_bad (body ∷ bodies) gate = ap (add body) (adds_bad bodies gate)

adds-append : (bodies more : List BodyAt) (reading : Reading) → adds (bodies ++ more) reading ≡ adds bodies (adds more reading)
adds-append [] more reading = refl
adds-append (body ∷ bodies) more reading = ap (add body) (adds-append bodies more reading)

-- one frame more of a file was read
pub adds_more : (all here there : Reading) (bodies after : List BodyAt) (body : BodyAt) → all ≡ adds bodies here → here ≡ add body there
    → after ≡ bodies ++ body ∷ [] → all ≡ adds after there
adds_more all here there bodies after body so is after_is =
    so ∙ ap (adds bodies) is ∙ sym (ap (λ bs. adds bs there) after_is ∙ adds-append bodies (body ∷ []) there)

-- passing over a front
walk_past : (limit at : ℕ) (front bytes : List ℕ) → walk limit at (length front) (front ++ bytes) ≡ walk limit (at + length front) 0 bytes
walk_past limit at [] bytes = ap (λ n. walk limit n 0 bytes) (omega arith)
walk_past limit at (x ∷ front) bytes =
    walk_past limit (suc at) front bytes ∙ ap (λ n. walk limit n 0 bytes) (omega arith)

stated_piece : (body rest : List ℕ) → length body < 2 ^ 32 → stated (to_be_bytes w32 (length body) ++ body ++ rest) ≡ length body
unfolding stated
stated_piece body rest short = from_be_bytes-to_be_bytes_4 (length body) short

-- an open frame that is whole, and the frames behind it
pub frame_then : (limit gate : ℕ) (body rest : List ℕ) → length body < 2 ^ 32 → 0 < length rest → end_of gate body + 1 ≤ limit
    → walk limit gate 0 (1 ∷ (to_be_bytes w32 (length body) ++ body ++ rest)) ≡ add (gate, body) (walk limit (end_of gate body) 0 rest)
frame_then limit gate body rest short some fits =
    let front : List ℕ = to_be_bytes w32 (length body) ++ body in
    let bytes : List ℕ = front ++ rest in
    let size : stated bytes ≡ length body = stated_piece body rest short in
    let len : length front ≡ 4 + length body = simp (length-append) (omega arith) in
    let total : length bytes ≡ 4 + length body + length rest = omega (arith, len, length-append front rest) in
    walk_open limit gate 1 bytes refl (fits_lies limit gate bytes (omega (arith, total, size)) (omega (arith, size)))
    ∙ ap (λ k. add (gate, take k (drop 4 bytes)) (walk limit (suc gate) (4 + k) bytes)) size
    ∙ ap (λ b. add (gate, b) (walk limit (suc gate) (4 + length body) bytes)) (take_at body rest (length body) refl)
    ∙ ap (λ k. add (gate, body) (walk limit (suc gate) k bytes)) (sym len)
    ∙ ap (add (gate, body)) (walk_past limit (suc gate) front rest)
    ∙ ap (λ k. add (gate, body) (walk limit k 0 rest)) (let e : suc gate + length front ≡ end_of gate body = omega (arith, len) in e)

pub walk_frame : (limit gate : ℕ) (body behind : List ℕ) → length body < 2 ^ 32 → end_of gate body + 1 ≤ limit
    → walk limit gate 0 (1 ∷ (piece_of body ++ behind)) ≡ Ends (end_of gate body) ((gate, body) ∷ [])
walk_frame limit gate body behind short fits =
    ap (λ bytes. walk limit gate 0 (1 ∷ bytes)) (append_assoc (to_be_bytes w32 (length body) ++ body) (0 ∷ []) behind)
    ∙ frame_then limit gate body (0 ∷ behind) short (omega arith) fits
    ∙ ap (add (gate, body)) (walk_closed limit (end_of gate body) 0 behind (λ never. absurd (cc)))

-- in one byte there is no frame
pub one_byte : (limit at : ℕ) (bytes : List ℕ) (gate : ℕ) (bodies : List BodyAt) → length bytes ≤ 1
    → walk limit at 0 bytes ≡ Ends gate bodies → (gate ≡ at) × (bodies ≡ [])
one_byte limit at [] gate bodies short ends = absurd (let e : Bad at ≡ Ends gate bodies = ends in cc)
one_byte limit at (g ∷ bytes) gate bodies short ends =
    elim (step limit at g bytes gate bodies ends) [
      | closes closed is none ↦ (is, none)
      | opens is fits rest first more ↦ absurd (omega (arith, (lies_fits limit at bytes fits).0))
    ]

-- a frame that lies in the file, and the frames behind it
next_frame : (limit gate size : ℕ) (file body : List ℕ) → get_or file gate 0 ≡ 1 → size ≡ stated (drop (gate + 1) file)
    → gate + 6 + size ≤ length file → gate + 6 + size ≤ limit → body ≡ take size (drop (gate + 5) file)
    → frames_from limit gate file ≡ add (gate, body) (frames_from limit (end_of gate body) file)
next_frame limit gate size file body is_open size_is in_file in_limit is =
    let bytes : List ℕ = drop (gate + 1) file in
    let len : length bytes ≡ length file - (gate + 1) = length-drop (gate + 1) file in
    let first : drop gate file ≡ 1 ∷ bytes = drop_more file gate 0 (omega arith) ∙ ap (λ b. b ∷ bytes) is_open in
    let whole_size : length body ≡ size = ap length is ∙ (length-take size (drop (gate + 5) file) ∙ (let e : min size (length (drop (gate + 5) file)) ≡ size = omega (arith, length-drop (gate + 5) file) in e)) in
    let body_is : take size (drop 4 bytes) ≡ body = ap (take size) (drop-drop 4 (gate + 1) file) ∙ ap (λ n. take size (drop n file)) (let e : gate + 1 + 4 ≡ gate + 5 = omega arith in e) ∙ sym is in
    let front : length (take (4 + size) bytes) ≡ 4 + size = omega (arith, length-take (4 + size) bytes, len) in
    ap (walk limit gate 0) first
    ∙ walk_open limit gate 1 bytes refl (fits_lies limit gate bytes (omega (arith, len, size_is)) (omega (arith, size_is)))
    ∙ ap (λ n. add (gate, take n (drop 4 bytes)) (walk limit (suc gate) (4 + n) bytes)) (sym size_is)
    ∙ ap (λ b. add (gate, b) (walk limit (suc gate) (4 + size) bytes)) body_is
    ∙ ap (λ xs. add (gate, body) (walk limit (suc gate) (4 + size) xs)) (sym (take-append-drop (4 + size) bytes))
    ∙ ap (λ n. add (gate, body) (walk limit (suc gate) n (take (4 + size) bytes ++ drop (4 + size) bytes))) (sym front)
    ∙ ap (add (gate, body)) (walk_past limit (suc gate) (take (4 + size) bytes) (drop (4 + size) bytes))
    ∙ ap (λ n. add (gate, body) (walk limit n 0 (drop (4 + size) bytes))) (let e : suc gate + length (take (4 + size) bytes) ≡ end_of gate body = omega (arith, front, whole_size) in e)
    ∙ ap (λ xs. add (gate, body) (walk limit (end_of gate body) 0 xs)) (drop-drop (4 + size) (gate + 1) file)
    ∙ ap (λ n. add (gate, body) (walk limit (end_of gate body) 0 (drop n file))) (let e : gate + 1 + (4 + size) ≡ end_of gate body = omega (arith, whole_size) in e)

-- what a walk finds at a gate byte
module _ (limit gate : ℕ) (file : List ℕ) (inside : gate < length file) where
  begins : drop gate file ≡ get_or file gate 0 ∷ drop (gate + 1) file
  begins = drop_more file gate 0 inside

  pub closed_here : frame_at limit gate file ≡ Closed → frames_from limit gate file ≡ Ends gate []
  closed_here is = ap (walk limit gate 0) begins ∙ walk_closed limit gate (get_or file gate 0) (drop (gate + 1) file) (closed_frame limit gate file is)

  pub cut_here : frame_at limit gate file ≡ Cut → frames_from limit gate file ≡ Bad gate
  cut_here is =
      let h = cut_frame limit gate file is in
      ap (walk limit gate 0) begins ∙ walk_bad limit gate (get_or file gate 0) (drop (gate + 1) file) h.0 h.1

pub whole_here : (limit gate size : ℕ) (file body : List ℕ) → frame_at limit gate file ≡ Whole size → gate + 6 + size ≤ length file
    → gate + 6 + size ≤ limit → body ≡ take size (drop (gate + 5) file)
    → frames_from limit gate file ≡ add (gate, body) (frames_from limit (end_of gate body) file)
whole_here limit gate size file body is in_file in_limit body_is =
    let w = whole_frame limit gate size file is in
    next_frame limit gate size file body w.is_open (sym w.size_is) in_file in_limit body_is
