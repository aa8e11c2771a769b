-- Laws of the reading of a file, before, in and after a commit.
use Rattle.std.proofs.Common.{◌≡◌, ◌⊎◌, ℕ, ◌+◌, ◌<◌, ◌≤◌, ◌^◌, true, false, Option, Some, None, List, [], ◌∷◌, ◌++◌, length, take, drop, arith, refl, sym, ◌∙◌, ap, subst, inl, inr, length-drop}
use Rattle.std.specs.Prelude.{nat_le}
use Rattle.std.specs.Str.{bytes_eq}
use Rattle.std.proofs.lemmas.Bool.{cases_lt, cases_Bool, lt-leb}
use Rattle.std.proofs.lemmas.Bool.Decides.{nat_tests}
use Rattle.std.proofs.lemmas.Slice.Eq.{bytes_eq-Decides}
use Rattle.std.proofs.lemmas.List.{drop_all, take-take}
use Rattle.carte_io.specs.Disk.{IsTorn, Story, put_at, range_of}
use Rattle.carte_io.proofs.Torn.{put_inside}
use Rattle.carte_bank.specs.Moves.{is_move}
use Rattle.carte_bank.specs.Roots.{Astray, Known, bank_at, start_of}
use Rattle.carte_bank.specs.declared.roots.Roots.{Roots}
use Rattle.carte_bank.proofs.RootLaws.{rooted}
use Rattle.carte_journal.specs.Frames.{Bad, BodyAt, Ends, Reading, add, bank_in, end_of, frames_from, header, piece_of, reading, reading_in}
use Rattle.carte_journal.specs.Journals.{IsRead}
use Rattle.carte_journal.specs.Ready.{HasFrames, IsReady, start_bytes}
use Rattle.carte_journal.proofs.Walks.{adds, adds_more, one_byte}
use Rattle.carte_journal.proofs.Banks.{bank_kept, bank_with}
use Rattle.carte_journal.proofs.Files.{gate_from, gate_inside, opened, staged, torn_behind, torn_gate}

-- a file of at most 9 bytes is a new one
pub new_reads : (limit : ℕ) (file : List ℕ) → length file ≤ 9 → reading limit file ≡ Ends 8 []
new_reads limit file short = grind (arith, nat_tests)

long_reads : (limit : ℕ) (file : List ℕ) → 9 < length file → bytes_eq (take 8 file) header ≡ true → reading limit file ≡ reading_in limit file (bank_at limit file)
long_reads limit file long same = let off : nat_le (length file) 9 ≡ false = lt-leb (length file) 9 long in rw (off, same) refl

pub long_bank : (limit : ℕ) (file : List ℕ) → 9 < length file → bank_in limit file ≡ bank_at limit file
long_bank limit file long = let off : nat_le (length file) 9 ≡ false = lt-leb (length file) 9 long in rw off refl

pub new_bank : (limit : ℕ) (file : List ℕ) → length file ≤ 9 → bank_in limit file ≡ Known None
new_bank limit file short = grind (arith, nat_tests)

bad_reads : (limit : ℕ) (file : List ℕ) → 9 < length file → bytes_eq (take 8 file) header ≡ false → reading limit file ≡ Bad 0
bad_reads limit file long other = grind (arith, nat_tests)

-- a file of 9 bytes has no frame
nine_bytes : (limit gate : ℕ) (bodies : List BodyAt) (file : List ℕ) → HasFrames limit 8 gate bodies file → length file ≤ 9
    → (gate ≡ 8) × (bodies ≡ [])
nine_bytes limit gate bodies file has short =
    one_byte limit 8 (drop 8 file) gate bodies (omega (arith, length-drop 8 file, short)) has.ends

short_file : (limit : ℕ) (bank : Option Roots) (gate : ℕ) (bodies : List BodyAt) (file : List ℕ) → bank_at limit file ≡ Known bank
    → HasFrames limit (start_of bank) gate bodies file → length file ≤ 9 → (gate ≡ 8) × (bodies ≡ [])
short_file limit None gate bodies file known has short = nine_bytes limit gate bodies file has short
short_file limit (Some roots) gate bodies file known has short = absurd (omega (arith, (rooted limit roots file known).long, short))

-- where a bank may start
pub start_from : (limit : ℕ) (bank : Option Roots) (file : List ℕ) → bank_at limit file ≡ Known bank → 8 ≤ start_of bank
start_from limit None file known = omega arith
start_from limit (Some roots) file known = let r = rooted limit roots file known in omega (arith, r.behind, r.place)

start_inside : (limit : ℕ) (bank : Option Roots) (file : List ℕ) → bank_at limit file ≡ Known bank → 9 < length file → start_of bank ≤ length file
start_inside limit None file known long = omega (arith, long)
start_inside limit (Some roots) file known long = omega (arith, (rooted limit roots file known).inside)

pub ready_reads : (limit : ℕ) (bank : Option Roots) (gate : ℕ) (bodies : List BodyAt) (file : List ℕ) → IsReady limit bank gate bodies file
    → reading limit file ≡ Ends gate bodies
ready_reads limit bank gate bodies file ready =
    elim (cases_lt 9 (length file)) [
      | inl long ↦ long_reads limit file long ((bytes_eq-Decides (take 8 file) header).1 ready.begins) ∙ ap (reading_in limit file) ready.bank_is ∙ ready.frames.ends
      | inr short ↦
          let h : (gate ≡ 8) × (bodies ≡ []) = short_file limit bank gate bodies file ready.bank_is ready.frames short in
          new_reads limit file short ∙ ap (λ g. Ends g []) (sym h.0) ∙ ap (Ends gate) (sym h.1)
    ]

pub read_ready : (limit : ℕ) (bank : Option Roots) (gate : ℕ) (bodies : List BodyAt) (file : List ℕ) → 9 < length file → reading limit file ≡ Ends gate bodies
    → bank_in limit file ≡ Known bank → IsReady limit bank gate bodies file
read_ready limit bank gate bodies file long reads is =
    let known : bank_at limit file ≡ Known bank = sym (long_bank limit file long) ∙ is in
    elim (cases_Bool (bytes_eq (take 8 file) header)) [
      | inl same ↦ record {
        begins = (bytes_eq-Decides (take 8 file) header).0 same;
        bank_is = known;
        frames = record {
          inside = start_inside limit bank file known long;
          ends = sym (long_reads limit file long same ∙ ap (reading_in limit file) known) ∙ reads;
        };
      }
      | inr other ↦ absurd (let e : Bad 0 ≡ Ends gate bodies = sym (bad_reads limit file long other) ∙ reads in cc)
    ]

-- the header over a new file, and any image of it
started : (file : List ℕ) → length file ≤ 9 → put_at file 0 start_bytes ≡ start_bytes
started file short = put_inside file 0 start_bytes (omega arith) ∙ ap (λ rest. start_bytes ++ rest) (drop_all 9 file short)

pub started_ready : (limit : ℕ) (file : List ℕ) → length file ≤ 9 → IsReady limit None 8 [] (put_at file 0 start_bytes)
started_ready limit file short =
    subst (IsReady limit None 8 []) (sym (started file short)) (record { begins = refl; bank_is = refl; frames = record { inside = omega arith; ends = refl } })

pub started_torn : (limit : ℕ) (file c : List ℕ) → length file ≤ 9 → IsTorn (range_of 0 9) file c → reading limit c ≡ Ends 8 []
started_torn limit file c short torn = new_reads limit c (omega (arith, torn.no_longer))

module _ (limit : ℕ) (bank : Option Roots) (gate : ℕ) (bodies : List BodyAt) (file : List ℕ) (ready : IsReady limit bank gate bodies file) where
  pub begins_too : (c : List ℕ) → take gate c ≡ take gate file → take 8 c ≡ header
  begins_too c same =
      let from : 8 ≤ gate = omega (arith, start_from limit bank file ready.bank_is, gate_from limit (start_of bank) gate bodies file ready.frames) in
      sym (take-take 8 gate c from) ∙ ap (take 8) same ∙ take-take 8 gate file from ∙ ready.begins

  -- with the same bodies
  pub still_ready : (c : List ℕ) → HasFrames limit (start_of bank) gate bodies c → take gate c ≡ take gate file → IsReady limit bank gate bodies c
  still_ready c has same = record {
    begins = begins_too c same;
    bank_is = bank_kept limit gate bank bodies file c ready.bank_is ready.frames same (gate_inside limit (start_of bank) gate bodies c has) has;
    frames = has;
  }

  -- with one more
  more_ready : (c body : List ℕ) → is_move body ≡ false → gate < length c → HasFrames limit (start_of bank) (end_of gate body) (bodies ++ (gate, body) ∷ []) c
      → take gate c ≡ take gate file → IsReady limit bank (end_of gate body) (bodies ++ (gate, body) ∷ []) c
  more_ready c body other inside has same = record {
    begins = begins_too c same;
    bank_is = bank_with limit gate bank bodies file c ready.bank_is ready.frames same inside (end_of gate body) body other has;
    frames = has;
  }

  -- a frame torn behind the closed gate byte
  pub behind_torn : (n : ℕ) (c : List ℕ) → IsTorn (range_of (gate + 1) n) file c → reading limit c ≡ Ends gate bodies
  behind_torn n c torn =
      let h : HasFrames limit (start_of bank) gate bodies c × (take gate c ≡ take gate file) = torn_behind limit (start_of bank) gate bodies file ready.frames n c torn in
      ready_reads limit bank gate bodies c (still_ready c h.0 h.1)

  -- the frame behind the closed gate byte
  pub staged_ready : (piece : List ℕ) → IsReady limit bank gate bodies (put_at file (gate + 1) piece)
  staged_ready piece =
      let file' : List ℕ = put_at file (gate + 1) piece in
      let h : HasFrames limit (start_of bank) gate bodies file' × (take gate file' ≡ take gate file) = staged limit (start_of bank) gate bodies file ready.frames piece in
      still_ready file' h.0 h.1

  module _ (body : List ℕ) (other : is_move body ≡ false) where
    -- the gate byte torn, in front of the frame
    pub gate_torn : (c piece tail : List ℕ) → piece ≡ piece_of body ++ tail → length body < 2 ^ 32 → end_of gate body + 1 ≤ limit
        → IsTorn (range_of gate 1) (put_at file (gate + 1) piece) c
        → (reading limit c ≡ Ends gate bodies) ⊎ (reading limit c ≡ Ends (end_of gate body) (bodies ++ (gate, body) ∷ []))
    gate_torn c piece tail is short fits torn =
        let h : (HasFrames limit (start_of bank) gate bodies c ⊎ HasFrames limit (start_of bank) (end_of gate body) (bodies ++ (gate, body) ∷ []) c) × (take gate c ≡ take gate file) =
        torn_gate limit (start_of bank) gate bodies file ready.frames c piece body tail is short fits torn in
        elim h.0 [
          | inl before ↦ inl (ready_reads limit bank gate bodies c (still_ready c before h.1))
          | inr after ↦
              let inside : end_of gate body < length c = gate_inside limit (start_of bank) (end_of gate body) (bodies ++ (gate, body) ∷ []) c after in
              inr (ready_reads limit bank (end_of gate body) (bodies ++ (gate, body) ∷ []) c (more_ready c body other (omega (arith, inside)) after h.1))
        ]

    -- the gate byte open
    pub opened_ready : (piece tail : List ℕ) → piece ≡ piece_of body ++ tail → length body < 2 ^ 32 → end_of gate body + 1 ≤ limit
        → IsReady limit bank (end_of gate body) (bodies ++ (gate, body) ∷ []) (put_at (put_at file (gate + 1) piece) gate (1 ∷ []))
    opened_ready piece tail is short fits =
        let file' : List ℕ = put_at (put_at file (gate + 1) piece) gate (1 ∷ []) in
        let h : HasFrames limit (start_of bank) (end_of gate body) (bodies ++ (gate, body) ∷ []) file' × (take gate file' ≡ take gate file) =
        opened limit (start_of bank) gate bodies file ready.frames piece body tail is short fits in
        let inside : end_of gate body < length file' = gate_inside limit (start_of bank) (end_of gate body) (bodies ++ (gate, body) ∷ []) file' h.0 in
        more_ready file' body other (omega (arith, inside)) h.0 h.1

-- what a file is read as, by its bank and that one's frames
module _ (limit : ℕ) (file : List ℕ) (long : 9 < length file) (begins : bytes_eq (take 8 file) header ≡ true) where
  pub astray_reads : (gate : ℕ) → bank_at limit file ≡ Astray gate → reading limit file ≡ Bad gate
  astray_reads gate is = long_reads limit file long begins ∙ ap (reading_in limit file) is

  pub bank_reads : (bank : Option Roots) (r : Reading) → bank_at limit file ≡ Known bank → frames_from limit (start_of bank) file ≡ r
      → reading limit file ≡ r
  bank_reads bank r is frames = long_reads limit file long begins ∙ ap (reading_in limit file) is ∙ frames

  pub is_read : (bank : Option Roots) (gate start frames : ℕ) (bodies : List BodyAt) → bank_at limit file ≡ Known bank → start ≡ start_of bank
      → frames_from limit start file ≡ Ends gate bodies → frames ≡ length bodies
      → IsRead (record { gate = gate; limit = limit; fresh = false; broken = false; bank = bank; frames = frames }) bodies file
  is_read bank gate start frames bodies known start_is ends frames_are = record {
    reads = bank_reads bank (Ends gate bodies) known (ap (λ n. frames_from limit n file) (sym start_is) ∙ ends);
    fresh_is = sym (lt-leb (length file) 9 long);
    bank_is = long_bank limit file long ∙ known;
    frames_is = frames_are;
  }

-- one frame more was read, of a disk whose story stays
pub read_more : (limit start gate end : ℕ) (bytes : List ℕ) (bodies after : List BodyAt) (s t : Story) → s ≡ t
    → frames_from limit start t.now.reads ≡ adds bodies (frames_from limit gate t.now.reads)
    → frames_from limit gate s.now.reads ≡ add (gate, bytes) (frames_from limit (end_of gate bytes) s.now.reads)
    → end ≡ end_of gate bytes → after ≡ bodies ++ (gate, bytes) ∷ []
    → frames_from limit start t.now.reads ≡ adds after (frames_from limit end t.now.reads)
read_more limit start gate end bytes bodies after s t same so is end_is after_is =
    adds_more _ (frames_from limit gate t.now.reads) (frames_from limit (end_of gate bytes) t.now.reads) bodies after (gate, bytes) so
    (subst (λ (v : Story). frames_from limit gate v.now.reads ≡ add (gate, bytes) (frames_from limit (end_of gate bytes) v.now.reads)) same is) after_is
    ∙ ap (λ n. adds after (frames_from limit n t.now.reads)) (sym end_is)
