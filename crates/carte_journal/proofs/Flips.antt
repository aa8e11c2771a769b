-- A rewriting of a bank, step by step: what each of its images is read as.
use Rattle.std.proofs.Common.{◌≡◌, ◌≢◌, ◌⊎◌, ℕ, ◌+◌, ◌<◌, ◌≤◌, ◌^◌, true, false, Some, List, [], ◌∷◌, ◌++◌, length, take, drop, get_or, arith, refl, sym, ◌∙◌, ap, subst, inl, inr}
use Rattle.std.specs.Prelude.{◌==◌, not}
use Rattle.std.specs.Int.{from_be_bytes, w64}
use Rattle.std.proofs.lemmas.Bool.{cases_eq}
use Rattle.std.proofs.lemmas.Bool.Decides.{nat_tests}
use Rattle.std.proofs.lemmas.List.{drop-drop}
use Rattle.std.proofs.lemmas.Nat.{from_be_bytes-to_be_bytes_8}
use Rattle.carte_io.specs.Disk.{IsTorn, IsWritten, put_at, range_of}
use Rattle.carte_io.specs.MemDisks.{image_wrote}
use Rattle.carte_io.specs.Puts.{length-put_at, put_at_outside}
use Rattle.carte_io.proofs.Torn.{drop_put, torn_drop}
use Rattle.carte_bank.specs.Moves.{stated_at}
use Rattle.carte_bank.specs.Roots.{root_at}
use Rattle.carte_bank.specs.Turns.{active_at, other_at, root_bytes, shut, turned}
use Rattle.carte_bank.specs.declared.roots.Roots.{Roots}
use Rattle.carte_bank.proofs.RootLaws.{Rooted, Same, has_roots, rooted, same_number, same_taken}
use Rattle.carte_bank.proofs.TurnLaws.{IsActive, apart_from, other_changes, other_closed, other_turned, root_as, root_within, rooted_active, rooted_turned, roots_from, torn_same, with_other}
use Rattle.carte_journal.specs.Frames.{BodyAt, Ends, frames_from, walk}
use Rattle.carte_journal.specs.Ready.{IsReady, IsStaged}
use Rattle.carte_journal.proofs.Files.{first_put, frames_same, gate_from, gate_inside, put_torn}

-- bytes outside of a piece
put_same : (lo hi at : ℕ) (file piece : List ℕ) → hi ≤ length file → (hi ≤ at) ⊎ (at + length piece ≤ lo) → Same lo hi file (put_at file at piece)
put_same lo hi at file piece within (inl below) i low high = put_at_outside file at piece i (omega (arith, high, within)) (inl (omega (arith, high, below)))
put_same lo hi at file piece within (inr above) i low high = put_at_outside file at piece i (omega (arith, high, within)) (inr (omega (arith, low, above)))

-- a region beside a bank, behind the roots
pub record IsBeside (roots : Roots) (gate at long : ℕ) : Type 0 where
  pub behind : roots.place + 34 ≤ at
  pub apart : (at + long ≤ roots.start) ⊎ (at ≡ gate + 1)

module _ (limit gate : ℕ) (roots : Roots) (bodies : List BodyAt) (file : List ℕ) (ready : IsReady limit (Some roots) gate bodies file) where
  r : Rooted limit roots file
  r = rooted limit roots file ready.bank_is

  active : IsActive roots file
  active = rooted_active limit roots file r

  start_before : roots.start ≤ gate
  start_before = gate_from limit roots.start gate bodies file ready.frames

  pub gate_there : gate < length file
  gate_there = gate_inside limit roots.start gate bodies file ready.frames

  pub roots_there : (roots.place + 34 ≤ roots.start) × (roots.start ≤ gate)
  roots_there = (r.behind, start_before)

  other_within : (roots.place ≤ other_at roots) × (other_at roots + 17 ≤ roots.place + 34)
  other_within = root_within roots.place (not roots.second)

  active_within : (roots.place ≤ active_at roots) × (active_at roots + 17 ≤ roots.place + 34)
  active_within = root_within roots.place roots.second

  -- a file with other roots, which stand where these do
  other_ready : (new : Roots) (end : ℕ) (bs : List BodyAt) (c : List ℕ) → Same 0 roots.place file c → new.place ≡ roots.place → IsActive new c
      → new.place + 34 ≤ new.start → new.start < length c → new.start < limit → frames_from limit new.start c ≡ Ends end bs → IsReady limit (Some new) end bs c
  other_ready new end bs c same place_is is behind inside under ends = record {
    begins = same_taken 8 0 roots.place file c same (omega (arith, roots_from limit roots file r)) (omega (arith, r.long)) (omega (arith, place_is, behind, inside)) ∙ ready.begins;
    bank_is = has_roots limit new c (rooted_turned limit roots new file c r same place_is is behind inside under);
    frames = record { inside = omega (arith, inside); ends = ends };
  }

  -- with the bank as it was
  bank_same : (new : Roots) (c : List ℕ) → Same 0 roots.place file c → Same roots.start (gate + 1) file c → length file ≤ length c
      → new.place ≡ roots.place → new.start ≡ roots.start → IsActive new c → IsReady limit (Some new) gate bodies c
  bank_same new c front bank long place_is start_is is =
      other_ready new gate bodies c front place_is is (omega (arith, place_is, start_is, r.behind)) (omega (arith, start_is, r.inside, long))
      (omega (arith, start_is, r.under))
      (ap (λ n. frames_from limit n c) start_is ∙ (frames_same limit roots.start gate bodies file ready.frames c bank (omega (arith, gate_there, long))).ends)

  -- the gate byte of the other root torn
  module _ (c : List ℕ) (torn : IsTorn (range_of (other_at roots) 1) file c) where
    none_below : (i : ℕ) → i < other_at roots → ¬ (IsWritten (range_of (other_at roots) 1) i)
    none_below i below = λ written. elim written [ inl range ↦ absurd (omega (arith, range.0, below)) | inr never ↦ never ]

    none_above : (i : ℕ) → other_at roots + 1 ≤ i → ¬ (IsWritten (range_of (other_at roots) 1) i)
    none_above i above = λ written. elim written [ inl range ↦ absurd (omega (arith, range.1, above)) | inr never ↦ never ]

    front_there : Same 0 roots.place file c
    front_there = torn_same 0 roots.place _ file c torn (omega (arith, r.long)) (λ i low high. none_below i (omega (arith, high, other_within.0)))

    bank_there : Same roots.start (gate + 1) file c
    bank_there =
        torn_same roots.start (gate + 1) _ file c torn (omega (arith, gate_there)) (λ i low high. none_above i (omega (arith, low, other_within.1, r.behind)))

    pub active_there : Same (active_at roots) (active_at roots + 17) file c
    active_there =
        torn_same (active_at roots) (active_at roots + 17) _ file c torn (omega (arith, active_within.1, r.long))
        (λ i low high. elim (apart_from roots i low high) [
          | inl below ↦ none_below i below
          | inr above ↦ none_above i (omega (arith, above))
        ])

    pub numbers_there : Same (other_at roots + 1) (other_at roots + 17) file c
    numbers_there =
        torn_same (other_at roots + 1) (other_at roots + 17) _ file c torn (omega (arith, other_within.1, r.long)) (λ i low high. none_above i low)

    long_there : roots.place + 34 ≤ length c
    long_there = omega (arith, r.long, torn.no_shorter)

    -- it was open: the bodies are the same
    pub closing : roots.both ≡ true → IsReady limit (Some (with_other roots (get_or c (other_at roots) 0 == 1))) gate bodies c
    closing both =
        bank_same (with_other roots (get_or c (other_at roots) 0 == 1)) c front_there bank_there torn.no_shorter refl refl
        (other_changes roots file c active active_there r.long long_there (λ i low high. numbers_there i low (omega (arith, high))) both)

    -- it was closed, and still is
    pub stays_closed : roots.both ≡ false → get_or c (other_at roots) 0 ≢ 1 → IsReady limit (Some roots) gate bodies c
    stays_closed both closed =
        bank_same roots c front_there bank_there torn.no_shorter refl refl (other_closed roots file c active active_there r.long long_there both closed)

    -- it is open, and leads to another bank
    pub flips : (at end : ℕ) (new : List BodyAt) → get_or c (other_at roots) 0 ≡ 1 → stated_at (other_at roots + 1) file ≡ roots.generation + 1
        → stated_at (other_at roots + 9) file ≡ at → roots.place + 34 ≤ at → at < length file → at < limit → frames_from limit at file ≡ Ends end new
        → IsReady limit (Some (turned roots at)) end new c
    flips at end new is_open generation start behind inside low frames =
        let on : get_or c (other_at roots) 0 == 1 ≡ true = grind (arith, nat_tests) in
        let fits : other_at roots + 17 ≤ length file = omega (arith, other_within.1, r.long) in
        let fits' : other_at roots + 17 ≤ length c = omega (arith, other_within.1, long_there) in
        let g : stated_at (other_at roots + 1) c ≡ roots.generation + 1 =
        same_number (other_at roots + 1) (other_at roots + 1) (other_at roots + 17) file c numbers_there (omega arith) (omega arith) fits fits' ∙ generation in
        let s : stated_at (other_at roots + 9) c ≡ at =
        same_number (other_at roots + 9) (other_at roots + 1) (other_at roots + 17) file c numbers_there (omega arith) (omega arith) fits fits' ∙ start in
        let root_is : root_at (other_at roots) c ≡ root_as true (roots.generation + 1) at = rw (on, g, s) refl in
        let same : drop at c ≡ drop at file =
        torn_drop at (range_of (other_at roots) 1) file c torn (omega (arith, fits)) (λ i from. none_above i (omega (arith, from, behind, other_within.1))) in
        other_ready (turned roots at) end new c front_there refl (other_turned roots file c active active_there r.long long_there at root_is)
        behind (omega (arith, inside, torn.no_shorter)) low (ap (walk limit at 0) same ∙ frames)

  -- the gate byte of the other root closed
  pub closed_ready : roots.both ≡ true → IsReady limit (Some (shut roots)) gate bodies (put_at file (other_at roots) (0 ∷ []))
  closed_ready both =
      let c : List ℕ = put_at file (other_at roots) (0 ∷ []) in
      let byte : get_or c (other_at roots) 0 ≡ 0 = first_put file (other_at roots) 0 [] (omega (arith, other_within.1, r.long)) in
      let off : get_or c (other_at roots) 0 == 1 ≡ false = ap (λ b. b == 1) byte in
      subst (λ b. IsReady limit (Some (with_other roots b)) gate bodies c) off (closing c (put_torn file (other_at roots) (0 ∷ [])) both)

  -- the other root, which is closed, and a region torn
  module _ (at long : ℕ) (beside : IsBeside roots gate at long) (both : roots.both ≡ false) where
    abbrev pair : List (ℕ × ℕ)
    pair = (at, at + long) ∷ range_of (other_at roots + 1) 16

    outside : (i : ℕ) → (i < at) ⊎ (at + long ≤ i) → (i < other_at roots + 1) ⊎ (other_at roots + 17 ≤ i) → ¬ (IsWritten pair i)
    outside i (inl below) (inl under) = λ written. elim written [ inl range ↦ absurd (omega (arith, range.0, below)) | inr more ↦ elim more [ inl range ↦ absurd (omega (arith, range.0, under)) | inr never ↦ never ] ]
    outside i (inl below) (inr above) = λ written. elim written [ inl range ↦ absurd (omega (arith, range.0, below)) | inr more ↦ elim more [ inl range ↦ absurd (omega (arith, range.1, above)) | inr never ↦ never ] ]
    outside i (inr past) (inl under) = λ written. elim written [ inl range ↦ absurd (omega (arith, range.1, past)) | inr more ↦ elim more [ inl range ↦ absurd (omega (arith, range.0, under)) | inr never ↦ never ] ]
    outside i (inr past) (inr above) = λ written. elim written [ inl range ↦ absurd (omega (arith, range.1, past)) | inr more ↦ elim more [ inl range ↦ absurd (omega (arith, range.1, above)) | inr never ↦ never ] ]

    bank_beside : (i : ℕ) → roots.start ≤ i → i < gate + 1 → (i < at) ⊎ (at + long ≤ i)
    bank_beside i low high = elim beside.apart [
      | inl front ↦ inr (omega (arith, front, low))
      | inr back ↦ inl (omega (arith, back, high))
    ]

    other_shut : get_or file (other_at roots) 0 ≢ 1
    other_shut is_open =
        let on : get_or file (other_at roots) 0 == 1 ≡ true = grind (arith, nat_tests) in
        let e : true ≡ false = sym on ∙ active.other ∙ both in
        cc

    pub staging : (c : List ℕ) → IsTorn pair file c → IsReady limit (Some roots) gate bodies c
    staging c torn =
        let behind = beside.behind in
        let front : Same 0 roots.place file c =
        torn_same 0 roots.place pair file c torn (omega (arith, r.long)) (λ i low high. outside i (inl (omega (arith, high, behind))) (inl (omega (arith, high, other_within.0)))) in
        let bank : Same roots.start (gate + 1) file c =
        torn_same roots.start (gate + 1) pair file c torn (omega (arith, gate_there))
        (λ i low high. outside i (bank_beside i low high) (inr (omega (arith, low, r.behind, other_within.1)))) in
        let kept : Same (active_at roots) (active_at roots + 17) file c =
        torn_same (active_at roots) (active_at roots + 17) pair file c torn (omega (arith, active_within.1, r.long))
        (λ i low high. outside i (inl (omega (arith, high, active_within.1, behind))) (elim (apart_from roots i low high) [
          | inl below ↦ inl (omega (arith, below))
          | inr above ↦ inr above
        ])) in
        let byte : get_or c (other_at roots) 0 ≡ get_or file (other_at roots) 0 =
        torn.outside (other_at roots) (omega (arith, other_within.1, r.long)) (outside (other_at roots) (inl (omega (arith, other_within.1, behind))) (inl (omega arith))) in
        bank_same roots c front bank torn.no_shorter refl refl
        (other_closed roots file c active kept r.long (omega (arith, r.long, torn.no_shorter)) both (λ is_open. other_shut (sym byte ∙ is_open)))

-- the numbers of a root that was written
generation_put : (bytes behind : List ℕ) (at g s : ℕ) → drop at bytes ≡ root_bytes g s ++ behind → g < 2 ^ 64 → stated_at at bytes ≡ g
unfolding stated_at
generation_put bytes behind at g s is low = ap (λ b. from_be_bytes w64 (take 8 b)) is ∙ from_be_bytes-to_be_bytes_8 g low

start_put : (bytes behind : List ℕ) (at g s : ℕ) → drop at bytes ≡ root_bytes g s ++ behind → s < 2 ^ 64 → stated_at (at + 8) bytes ≡ s
unfolding stated_at
start_put bytes behind at g s is low =
    ap (λ b. from_be_bytes w64 (take 8 b)) (sym (drop-drop 8 at bytes) ∙ ap (drop 8) is) ∙ from_be_bytes-to_be_bytes_8 s low

-- the other root and the region written
module _ (limit gate at end : ℕ) (roots : Roots) (bodies new : List BodyAt) (file region : List ℕ)
    (ready : IsReady limit (Some (shut roots)) gate bodies file) (beside : IsBeside roots gate at (length region)) (low : at < 2 ^ 64)
    (next : roots.generation + 1 < 2 ^ 64) where
  abbrev bytes : List ℕ
  bytes = root_bytes (roots.generation + 1) at

  abbrev with_root : List ℕ
  with_root = put_at file (other_at roots + 1) bytes

  abbrev pub staged_file : List ℕ
  staged_file = put_at with_root at region

  rs : Rooted limit (shut roots) file
  rs = rooted limit (shut roots) file ready.bank_is

  within : (roots.place ≤ other_at roots) × (other_at roots + 17 ≤ roots.place + 34)
  within = root_within roots.place (not roots.second)

  root_fits : other_at roots + 17 ≤ length file
  root_fits = omega (arith, within.1, rs.long)

  long_root : length with_root ≡ length file
  long_root = omega (arith, length-put_at file (other_at roots + 1) bytes, root_fits)

  at_inside : at ≤ length file
  at_inside = elim beside.apart [
    | inl front ↦ omega (arith, front, rs.inside)
    | inr back ↦ omega (arith, back, gate_inside limit roots.start gate bodies file ready.frames)
  ]

  region_same : Same (other_at roots + 1) (other_at roots + 17) with_root staged_file
  region_same = put_same (other_at roots + 1) (other_at roots + 17) at with_root region (omega (arith, long_root, root_fits)) (inl (omega (arith, within.1, beside.behind)))

  root_put : drop (other_at roots + 1) with_root ≡ bytes ++ drop (other_at roots + 17) file
  root_put = drop_put file (other_at roots + 1) bytes (omega (arith, root_fits)) ∙ ap (λ n. bytes ++ drop n file) (let e : other_at roots + 1 + 16 ≡ other_at roots + 17 = omega arith in e)

  long_staged : (length with_root ≤ length staged_file) × (at + length region ≤ length staged_file)
  long_staged = (omega (arith, length-put_at with_root at region), omega (arith, length-put_at with_root at region))

  number_same : (n : ℕ) → other_at roots + 1 ≤ n → n + 8 ≤ other_at roots + 17 → stated_at n staged_file ≡ stated_at n with_root
  number_same n from fits =
      same_number n (other_at roots + 1) (other_at roots + 17) with_root staged_file region_same from fits (omega (arith, long_root, root_fits))
      (omega (arith, long_root, root_fits, long_staged.0))

  pub pair_torn : IsTorn ((at, at + length region) ∷ range_of (other_at roots + 1) 16) file staged_file
  pair_torn = image_wrote (range_of (other_at roots + 1) 16) file with_root at region (put_torn file (other_at roots + 1) bytes)

  pub staged_is : 0 < length region → at < limit → ((behind : List ℕ) → walk limit at 0 (region ++ behind) ≡ Ends end new)
      → IsStaged limit roots gate at end bodies new staged_file
  staged_is some under walks = record {
    ready = staging limit gate (shut roots) bodies file ready at (length region) (record { behind = beside.behind; apart = beside.apart }) refl staged_file pair_torn;
    generation = number_same (other_at roots + 1) (omega arith) (omega arith)
        ∙ generation_put with_root (drop (other_at roots + 17) file) (other_at roots + 1) (roots.generation + 1) at root_put next;
    start = number_same (other_at roots + 9) (omega arith) (omega arith)
        ∙ ap (λ n. stated_at n with_root) (let e : other_at roots + 9 ≡ other_at roots + 1 + 8 = omega arith in e)
        ∙ start_put with_root (drop (other_at roots + 17) file) (other_at roots + 1) (roots.generation + 1) at root_put low;
    frames = ap (walk limit at 0) (drop_put with_root at region (omega (arith, at_inside, long_root))) ∙ walks (drop (at + length region) with_root);
    behind = beside.behind;
    inside = omega (arith, long_staged.1, some);
    low = under;
  }

-- the gate byte of the other root torn, or opened
module _ (limit gate at end : ℕ) (roots : Roots) (bodies new : List BodyAt) (file : List ℕ) (staged : IsStaged limit roots gate at end bodies new file) where
  open_ready : (c : List ℕ) → IsTorn (range_of (other_at roots) 1) file c → get_or c (other_at roots) 0 ≡ 1 → IsReady limit (Some (turned roots at)) end new c
  open_ready c torn is_open =
      flips limit gate (shut roots) bodies file staged.ready c torn at end new is_open staged.generation staged.start staged.behind staged.inside staged.low staged.frames

  pub either_ready : (c : List ℕ) → IsTorn (range_of (other_at roots) 1) file c
      → IsReady limit (Some (shut roots)) gate bodies c ⊎ IsReady limit (Some (turned roots at)) end new c
  either_ready c torn =
      elim (cases_eq (get_or c (other_at roots) 0) 1) [
        | inl is_open ↦ inr (open_ready c torn is_open)
        | inr closed ↦ inl (stays_closed limit gate (shut roots) bodies file staged.ready c torn refl closed)
      ]

  pub turned_ready : IsReady limit (Some (turned roots at)) end new (put_at file (other_at roots) (1 ∷ []))
  turned_ready =
      let within : (roots.place ≤ other_at roots) × (other_at roots + 17 ≤ roots.place + 34) = root_within roots.place (not roots.second) in
      let r : Rooted limit (shut roots) file = rooted limit (shut roots) file staged.ready.bank_is in
      open_ready (put_at file (other_at roots) (1 ∷ [])) (put_torn file (other_at roots) (1 ∷ []))
      (first_put file (other_at roots) 1 [] (omega (arith, within.1, r.long)))
