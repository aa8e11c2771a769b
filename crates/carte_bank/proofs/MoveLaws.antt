-- Laws of the first move of a list of frames.
use Rattle.std.proofs.Common.{◌≡◌, ◌≢◌, ℕ, suc, zero, ◌+◌, ◌-◌, ◌<◌, ◌≤◌, true, false, Some, None, List, [], ◌∷◌, ◌++◌, length, take, drop, get_or, arith, refl, sym, ◌∙◌, ap, inl, inr, length-append, length-take, length-drop}
use Rattle.std.proofs.lemmas.Bool.{cases_eq, cases_Bool}
use Rattle.std.proofs.lemmas.Bool.Decides.{nat_tests}
use Rattle.std.proofs.lemmas.List.{drop-drop, drop-take, drop_more, get_or-drop, get_or-take, places, same_lists, take-append-drop, take-take}
use Rattle.std.specs.Prelude.{◌==◌}
use Rattle.std.specs.Int.{from_be_bytes, w32, w64}
use Rattle.carte_bank.specs.Moves.{body_behind, first_of, frame_at, is_move, lies, move_by, move_from, stated, stated_at}
use Rattle.carte_bank.specs.declared.frames.FrameAt.TheVariants.{Closed, Cut, Whole}
use Rattle.carte_bank.specs.declared.moves.Move.{Move}

-- one step
pub first_shut : (limit at gate : ℕ) (bytes : List ℕ) → gate ≢ 1 → first_of limit at 0 (gate ∷ bytes) ≡ None
first_shut limit at gate bytes shut = grind (arith, nat_tests)

pub first_cut : (limit at gate : ℕ) (bytes : List ℕ) → lies limit at bytes ≡ false → first_of limit at 0 (gate ∷ bytes) ≡ None
first_cut limit at gate bytes cut =
    elim (cases_eq gate 1) [
      | inl is_open ↦ rw (is_open, cut) refl
      | inr shut ↦ first_shut limit at gate bytes shut
    ]

pub first_met : (limit at : ℕ) (bytes : List ℕ) → lies limit at bytes ≡ true → is_move (body_behind bytes) ≡ true
    → first_of limit at 0 (1 ∷ bytes) ≡ Some (move_by at (body_behind bytes))
first_met limit at bytes whole is = rw (whole, is) refl

pub first_past : (limit at : ℕ) (bytes : List ℕ) → lies limit at bytes ≡ true → is_move (body_behind bytes) ≡ false
    → first_of limit at 0 (1 ∷ bytes) ≡ first_of limit (suc at) (4 + stated bytes) bytes
first_past limit at bytes whole other = rw (whole, other) refl

-- what the first byte was of which a move comes
data Step (limit at g : ℕ) (bytes : List ℕ) (m : Move) : Type 0 where
  meets : g ≡ 1 → lies limit at bytes ≡ true → is_move (body_behind bytes) ≡ true → m ≡ move_by at (body_behind bytes) → Step limit at g bytes m
  passes : g ≡ 1 → lies limit at bytes ≡ true → is_move (body_behind bytes) ≡ false → first_of limit (suc at) (4 + stated bytes) bytes ≡ Some m
      → Step limit at g bytes m

abbrev pub as_move : ℕ → ℕ → Move
as_move gate place = record { gate = gate; place = place }

some_same : (a b : Move) → Some a ≡ Some b → a ≡ b
some_same a b is = cc

step : (limit at g : ℕ) (bytes : List ℕ) (m : Move) → first_of limit at 0 (g ∷ bytes) ≡ Some m → Step limit at g bytes m
step limit at g bytes m found =
    elim (cases_eq g 1) [
      | inr shut ↦ absurd (let e : None ≡ Some m = sym (first_shut limit at g bytes shut) ∙ found in cc)
      | inl is_open ↦ elim (cases_Bool (lies limit at bytes)) [
        | inr cut ↦ absurd (let e : None ≡ Some m = sym (first_cut limit at g bytes cut) ∙ found in cc)
        | inl whole ↦
            let at_one : first_of limit at 0 (1 ∷ bytes) ≡ Some m = ap (λ b. first_of limit at 0 (b ∷ bytes)) (sym is_open) ∙ found in
            elim (cases_Bool (is_move (body_behind bytes))) [
              | inl is ↦ meets is_open whole is (some_same m _ (sym at_one ∙ first_met limit at bytes whole is))
              | inr other ↦ passes is_open whole other (sym (first_past limit at bytes whole other) ∙ at_one)
            ]
      ]
    ]

lies_fits : (limit at : ℕ) (bytes : List ℕ) → lies limit at bytes ≡ true → (stated bytes + 5 ≤ length bytes) × (at + 6 + stated bytes ≤ limit)
lies_fits limit at bytes fits = (grind (arith, nat_tests), grind (arith, nat_tests))

fits_lies : (limit at : ℕ) (bytes : List ℕ) → stated bytes + 5 ≤ length bytes → at + 6 + stated bytes ≤ limit → lies limit at bytes ≡ true
fits_lies limit at bytes in_file in_limit = grind (arith, nat_tests)

-- a move has 9 bytes
nine : (bytes : List ℕ) → stated bytes + 5 ≤ length bytes → is_move (body_behind bytes) ≡ true → stated bytes ≡ 9
nine bytes fits is =
    let len : length (body_behind bytes) ≡ stated bytes = simp (length-take, length-drop) (omega arith) in
    let is_nine : length (body_behind bytes) ≡ 9 = grind (arith, nat_tests) in
    omega (arith, len, is_nine)

-- it lies in the bytes, behind what is passed over
pub move_bounds : (limit at skip : ℕ) (bytes : List ℕ) (m : Move) → first_of limit at skip bytes ≡ Some m
    → (at + skip ≤ m.gate) × (m.gate + 15 ≤ at + length bytes)
move_bounds limit at skip [] m found = absurd (let e : None ≡ Some m = found in cc)
move_bounds limit at (suc skip) (byte ∷ bytes) m found =
    let h : (suc at + skip ≤ m.gate) × (m.gate + 15 ≤ suc at + length bytes) = move_bounds limit (suc at) skip bytes m found in
    (omega (arith, h.0), omega (arith, h.1))
move_bounds limit at zero (g ∷ bytes) m found =
    elim (step limit at g bytes m found) [
      | meets is_open whole is here ↦
          let fits : (stated bytes + 5 ≤ length bytes) × (at + 6 + stated bytes ≤ limit) = lies_fits limit at bytes whole in
          let n : stated bytes ≡ 9 = nine bytes fits.0 is in
          let e : m.gate ≡ at = ap (λ (k : Move). k.gate) here in
          (omega (arith, e), omega (arith, e, n, fits.0))
      | passes is_open whole other more ↦
          let h : (suc at + (4 + stated bytes) ≤ m.gate) × (m.gate + 15 ≤ suc at + length bytes) = move_bounds limit (suc at) (4 + stated bytes) bytes m more in
          (omega (arith, h.0), omega (arith, h.1))
    ]

-- a part of a front
part_of_front : (n s m : ℕ) (bytes behind : List ℕ) → n + s ≤ m → m ≤ length bytes
    → take s (drop n (take m bytes ++ behind)) ≡ take s (drop n bytes)
part_of_front n s m bytes behind fits within =
    same_lists _ _ (simp (length-take, length-drop, length-append) (omega arith)) (λ k d below. grind (arith, places))

stated_front : (m : ℕ) (bytes behind : List ℕ) → 4 ≤ m → m ≤ length bytes → stated (take m bytes ++ behind) ≡ stated bytes
unfolding stated
stated_front m bytes behind fits within = ap (from_be_bytes w32) (part_of_front 0 4 m bytes behind (omega arith) within)

-- a whole frame of which a front stays, with something behind it
record Front (limit at m : ℕ) (bytes behind : List ℕ) : Type 0 where
  same : stated (take m bytes ++ behind) ≡ stated bytes
  body : body_behind (take m bytes ++ behind) ≡ body_behind bytes
  whole : lies limit at (take m bytes ++ behind) ≡ true

front : (limit at m : ℕ) (bytes behind : List ℕ) → lies limit at bytes ≡ true → 4 + stated bytes ≤ m → m ≤ length bytes → 0 < length behind
    → Front limit at m bytes behind
front limit at m bytes behind whole past inside some =
    let s : stated (take m bytes ++ behind) ≡ stated bytes = stated_front m bytes behind (omega arith) inside in
    let fits : (stated bytes + 5 ≤ length bytes) × (at + 6 + stated bytes ≤ limit) = lies_fits limit at bytes whole in
    let len : length (take m bytes ++ behind) ≡ m + length behind = simp (length-append, length-take) (omega arith) in
    record {
      same = s;
      body = ap (λ n. take n (drop 4 (take m bytes ++ behind))) s ∙ part_of_front 4 (stated bytes) m bytes behind past inside;
      whole = fits_lies limit at (take m bytes ++ behind) (omega (arith, len, s)) (omega (arith, s, fits.1));
    }

-- where its frame stays, it stays the first
pub move_stays : (limit at skip n : ℕ) (bytes behind : List ℕ) (m : Move) → first_of limit at skip bytes ≡ Some m → m.gate + 14 ≤ at + n → n ≤ length bytes
    → 0 < length behind → first_of limit at skip (take n bytes ++ behind) ≡ Some m
move_stays limit at skip n [] behind m found past inside some = absurd (let e : None ≡ Some m = found in cc)
move_stays limit at (suc skip) n (byte ∷ bytes) behind m found past inside some =
    let h : (suc at + skip ≤ m.gate) × (m.gate + 15 ≤ suc at + length bytes) = move_bounds limit (suc at) skip bytes m found in
    let e : n ≡ suc (n - 1) = omega (arith, h.0, past) in
    rw e (move_stays limit (suc at) skip (n - 1) bytes behind m found (omega (arith, past, h.0)) (omega (arith, inside)) some)
move_stays limit at zero n (g ∷ bytes) behind m found past inside some =
    elim (step limit at g bytes m found) [
      | meets is_open whole is here ↦
          let fits : (stated bytes + 5 ≤ length bytes) × (at + 6 + stated bytes ≤ limit) = lies_fits limit at bytes whole in
          let nine_is : stated bytes ≡ 9 = nine bytes fits.0 is in
          let e : m.gate ≡ at = ap (λ (k : Move). k.gate) here in
          let n_is : n ≡ suc (n - 1) = omega (arith, past, e) in
          let f : Front limit at (n - 1) bytes behind = front limit at (n - 1) bytes behind whole (omega (arith, nine_is, past, e)) (omega (arith, inside, past, e)) some in
          rw (n_is, is_open) (first_met limit at (take (n - 1) bytes ++ behind) f.whole (ap is_move f.body ∙ is)
          ∙ ap (λ b. Some (move_by at b)) f.body ∙ ap Some (sym here))
      | passes is_open whole other more ↦
          let h : (suc at + (4 + stated bytes) ≤ m.gate) × (m.gate + 15 ≤ suc at + length bytes) = move_bounds limit (suc at) (4 + stated bytes) bytes m more in
          let n_is : n ≡ suc (n - 1) = omega (arith, past, h.0) in
          let f : Front limit at (n - 1) bytes behind = front limit at (n - 1) bytes behind whole (omega (arith, past, h.0)) (omega (arith, inside, past, h.0)) some in
          rw (n_is, is_open) (first_past limit at (take (n - 1) bytes ++ behind) f.whole (ap is_move f.body ∙ other)
          ∙ ap (λ s. first_of limit (suc at) (4 + s) (take (n - 1) bytes ++ behind)) f.same
          ∙ move_stays limit (suc at) (4 + stated bytes) (n - 1) bytes behind m more (omega (arith, past, h.0)) (omega (arith, inside, past, h.0)) some)
    ]

-- passing over a front
first_behind : (limit at : ℕ) (front bytes : List ℕ) → first_of limit at (length front) (front ++ bytes) ≡ first_of limit (at + length front) 0 bytes
first_behind limit at [] bytes = ap (λ n. first_of limit n 0 bytes) (omega arith)
first_behind limit at (x ∷ front) bytes =
    first_behind limit (suc at) front bytes ∙ ap (λ n. first_of limit n 0 bytes) (omega arith)

-- what stands at a gate byte
module _ (limit gate : ℕ) (file : List ℕ) (inside : gate < length file) where
  begins : (byte : ℕ) → get_or file gate 0 ≡ byte → drop gate file ≡ byte ∷ drop (gate + 1) file
  begins byte is = drop_more file gate 0 inside ∙ ap (λ b. b ∷ drop (gate + 1) file) is

  pub shut_here : get_or file gate 0 ≢ 1 → move_from limit gate file ≡ None
  shut_here shut = ap (first_of limit gate 0) (begins (get_or file gate 0) refl) ∙ first_shut limit gate (get_or file gate 0) (drop (gate + 1) file) shut

  pub cut_here : lies limit gate (drop (gate + 1) file) ≡ false → move_from limit gate file ≡ None
  cut_here cut = ap (first_of limit gate 0) (begins (get_or file gate 0) refl) ∙ first_cut limit gate (get_or file gate 0) (drop (gate + 1) file) cut

  module _ (is_open : get_or file gate 0 ≡ 1) (whole : lies limit gate (drop (gate + 1) file) ≡ true) where
    pub met_here : is_move (body_behind (drop (gate + 1) file)) ≡ true → move_from limit gate file ≡ Some (move_by gate (body_behind (drop (gate + 1) file)))
    met_here is = ap (first_of limit gate 0) (begins 1 is_open) ∙ first_met limit gate (drop (gate + 1) file) whole is

    pub past_here : (size : ℕ) → size ≡ stated (drop (gate + 1) file) → is_move (body_behind (drop (gate + 1) file)) ≡ false
        → move_from limit gate file ≡ move_from limit (gate + 5 + size) file
    past_here size size_is other =
        let bytes : List ℕ = drop (gate + 1) file in
        let len : length bytes ≡ length file - (gate + 1) = length-drop (gate + 1) file in
        let fits : (stated bytes + 5 ≤ length bytes) × (gate + 6 + stated bytes ≤ limit) = lies_fits limit gate bytes whole in
        let long : length (take (4 + size) bytes) ≡ 4 + size = omega (arith, length-take (4 + size) bytes, len, fits.0, size_is) in
        ap (first_of limit gate 0) (begins 1 is_open) ∙ first_past limit gate bytes whole other
        ∙ ap (λ n. first_of limit (suc gate) (4 + n) bytes) (sym size_is)
        ∙ ap (λ xs. first_of limit (suc gate) (4 + size) xs) (sym (take-append-drop (4 + size) bytes))
        ∙ ap (λ n. first_of limit (suc gate) n (take (4 + size) bytes ++ drop (4 + size) bytes)) (sym long)
        ∙ first_behind limit (suc gate) (take (4 + size) bytes) (drop (4 + size) bytes)
        ∙ ap (λ n. first_of limit n 0 (drop (4 + size) bytes)) (let e : suc gate + length (take (4 + size) bytes) ≡ gate + 5 + size = omega (arith, long) in e)
        ∙ ap (λ xs. first_of limit (gate + 5 + size) 0 xs) (drop-drop (4 + size) (gate + 1) file)
        ∙ ap (λ n. first_of limit (gate + 5 + size) 0 (drop n file)) (let e : gate + 1 + (4 + size) ≡ gate + 5 + size = omega arith in e)

-- what the body of a frame is, from the file
module _ (gate : ℕ) (file : List ℕ) (size_is : stated (drop (gate + 1) file) ≡ 9) (fits : gate + 15 ≤ length file) where
  behind : List ℕ
  behind = body_behind (drop (gate + 1) file)

  body_is : body_behind (drop (gate + 1) file) ≡ take 9 (drop (gate + 5) file)
  body_is =
      ap (λ n. take n (drop 4 (drop (gate + 1) file))) size_is
      ∙ ap (take 9) (drop-drop 4 (gate + 1) file ∙ ap (λ n. drop n file) (let e : gate + 1 + 4 ≡ gate + 5 = omega arith in e))

  kind_is : get_or (take 9 (drop (gate + 5) file)) 0 0 ≡ get_or file (gate + 5) 0
  kind_is =
      get_or-take 9 (drop (gate + 5) file) 0 0 (omega arith) ∙ get_or-drop (gate + 5) file 0 0
      ∙ ap (λ i. get_or file i 0) (let e : gate + 5 + 0 ≡ gate + 5 = omega arith in e)

  long : length (take 9 (drop (gate + 5) file)) ≡ 9
  long = simp (length-take, length-drop) (omega arith)

  pub is_move_here : get_or file (gate + 5) 0 ≡ 2 → is_move (body_behind (drop (gate + 1) file)) ≡ true
  is_move_here two =
      let k : get_or (take 9 (drop (gate + 5) file)) 0 0 ≡ 2 = kind_is ∙ two in
      ap is_move body_is ∙ grind (arith, nat_tests, long, k)

  pub no_move_here : get_or file (gate + 5) 0 ≢ 2 → is_move (body_behind (drop (gate + 1) file)) ≡ false
  no_move_here other =
      let k : get_or (take 9 (drop (gate + 5) file)) 0 0 ≢ 2 = λ two. other (sym kind_is ∙ two) in
      ap is_move body_is ∙ grind (arith, nat_tests, long, k)

  number_is : take 8 (drop 1 (take 9 (drop (gate + 5) file))) ≡ take 8 (drop (gate + 6) file)
  number_is =
      ap (take 8) (drop-take 1 8 (drop (gate + 5) file))
      ∙ take-take 8 8 (drop 1 (drop (gate + 5) file)) (omega arith)
      ∙ ap (take 8) (drop-drop 1 (gate + 5) file ∙ ap (λ n. drop n file) (let e : gate + 5 + 1 ≡ gate + 6 = omega arith in e))

  pub place_here : stated_at 1 (body_behind (drop (gate + 1) file)) ≡ stated_at (gate + 6) file
  unfolding stated_at
  place_here =
      ap (λ b. from_be_bytes w64 (take 8 (drop 1 b))) body_is ∙ ap (from_be_bytes w64) number_is

-- a body of another length is no move
pub other_length : (bytes : List ℕ) → stated bytes + 5 ≤ length bytes → stated bytes ≢ 9 → is_move (body_behind bytes) ≡ false
other_length bytes fits other =
    elim (cases_Bool (is_move (body_behind bytes))) [
      | inl is ↦ absurd (other (nine bytes fits is))
      | inr off ↦ off
    ]

-- what a whole frame is
pub record IsWhole (limit gate size : ℕ) (file : List ℕ) : Type 0 where
  pub is_open : get_or file gate 0 ≡ 1
  pub lies_there : lies limit gate (drop (gate + 1) file) ≡ true
  pub size_is : stated (drop (gate + 1) file) ≡ size

whole_size : (a b : ℕ) → Whole a ≡ Whole b → a ≡ b
whole_size a b is = cc

pub whole_frame : (limit gate size : ℕ) (file : List ℕ) → frame_at limit gate file ≡ Whole size → IsWhole limit gate size file
whole_frame limit gate size file is =
    elim (cases_Bool (get_or file gate 0 == 1)) [
      | inr shut ↦ absurd (let e : Closed ≡ Whole size = sym (rw shut refl) ∙ is in cc)
      | inl is_open ↦ elim (cases_Bool (lies limit gate (drop (gate + 1) file))) [
        | inr cut ↦ absurd (let e : Cut ≡ Whole size = sym (rw (is_open, cut) refl) ∙ is in cc)
        | inl there ↦ record {
          is_open = grind (arith, nat_tests);
          lies_there = there;
          size_is = whole_size _ _ (sym (rw (is_open, there) refl) ∙ is);
        }
      ]
    ]

-- and what one that isn't
pub closed_frame : (limit gate : ℕ) (file : List ℕ) → frame_at limit gate file ≡ Closed → get_or file gate 0 ≢ 1
closed_frame limit gate file is is_open =
    let on : get_or file gate 0 == 1 ≡ true = grind (arith, nat_tests) in
    elim (cases_Bool (lies limit gate (drop (gate + 1) file))) [
      | inr cut ↦ let e : Cut ≡ Closed = sym (rw (on, cut) refl) ∙ is in cc
      | inl there ↦ let e : Whole (stated (drop (gate + 1) file)) ≡ Closed = sym (rw (on, there) refl) ∙ is in cc
    ]

pub cut_frame : (limit gate : ℕ) (file : List ℕ) → frame_at limit gate file ≡ Cut → (get_or file gate 0 ≡ 1) × (lies limit gate (drop (gate + 1) file) ≡ false)
cut_frame limit gate file is =
    elim (cases_Bool (get_or file gate 0 == 1)) [
      | inr shut ↦ absurd (let e : Closed ≡ Cut = sym (rw shut refl) ∙ is in cc)
      | inl is_open ↦ elim (cases_Bool (lies limit gate (drop (gate + 1) file))) [
        | inr cut ↦ (grind (arith, nat_tests), cut)
        | inl there ↦ absurd (let e : Whole (stated (drop (gate + 1) file)) ≡ Cut = sym (rw (is_open, there) refl) ∙ is in cc)
      ]
    ]

module _ (limit gate size : ℕ) (file : List ℕ) (frame : frame_at limit gate file ≡ Whole size) (fits : gate + 6 + size ≤ length file) where
  w : IsWhole limit gate size file
  w = whole_frame limit gate size file frame

  inside : gate < length file
  inside = omega (arith, fits)

  bytes_fit : stated (drop (gate + 1) file) + 5 ≤ length (drop (gate + 1) file)
  bytes_fit = omega (arith, fits, w.size_is, length-drop (gate + 1) file)

  -- one of another length is passed over
  pub past_length : size ≢ 9 → move_from limit gate file ≡ move_from limit (gate + 5 + size) file
  past_length other =
      past_here limit gate file inside w.is_open w.lies_there size (sym w.size_is)
      (other_length (drop (gate + 1) file) bytes_fit (λ is. other (sym w.size_is ∙ is)))

  -- and one of another kind
  pub past_kind : get_or file (gate + 5) 0 ≢ 2 → move_from limit gate file ≡ move_from limit (gate + 5 + size) file
  past_kind other =
      elim (cases_eq size 9) [
        | inr length_other ↦ past_length length_other
        | inl is ↦ past_here limit gate file inside w.is_open w.lies_there size (sym w.size_is)
            (no_move_here gate file (w.size_is ∙ is) (omega (arith, fits, is)) other)
      ]

  pub met_kind : size ≡ 9 → get_or file (gate + 5) 0 ≡ 2 → move_from limit gate file ≡ Some (as_move gate (stated_at (gate + 6) file))
  met_kind is two =
      met_here limit gate file inside w.is_open w.lies_there (is_move_here gate file (w.size_is ∙ is) (omega (arith, fits, is)) two)
      ∙ ap (λ p. Some (as_move gate p)) (place_here gate file (w.size_is ∙ is) (omega (arith, fits, is)))
