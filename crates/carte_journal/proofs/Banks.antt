-- What keeps the bank of a file: bytes that are the same up to a gate byte, and bodies that are no moves.
use Rattle.std.proofs.Common.{◌≡◌, ℕ, suc, zero, ◌+◌, ◌<◌, ◌≤◌, false, Option, Some, None, List, [], ◌∷◌, ◌++◌, length, take, drop, arith, refl, sym, ◌∙◌, ap, subst, inl, inr, append-nil}
use Rattle.std.specs.Prelude.{if◌then◌else◌}
use Rattle.std.proofs.lemmas.Bool.{cases_Bool}
use Rattle.carte_bank.specs.Moves.{body_behind, first_of, is_move, move_by, stated}
use Rattle.carte_bank.specs.Roots.{Known, bank_at, bank_of, start_of}
use Rattle.carte_bank.specs.declared.moves.Move.{Move}
use Rattle.carte_bank.specs.declared.roots.Roots.{Roots}
use Rattle.carte_bank.proofs.MoveLaws.{first_met, first_past, first_shut}
use Rattle.carte_bank.proofs.RootLaws.{Rooted, has_roots, no_move, rooted, same_roots}
use Rattle.carte_journal.specs.Frames.{BodyAt, Ends, walk}
use Rattle.carte_journal.specs.Ready.{HasFrames}
use Rattle.carte_journal.proofs.Files.{gate_from, same_front}
use Rattle.carte_journal.proofs.Walks.{closes, opens, step}

-- the first move among bodies
abbrev pub first_move : List BodyAt → Option Move
first_move [] = None
first_move (body ∷ bodies) = if is_move body.1 then Some (move_by body.0 body.1) else first_move bodies

-- of a list that ends at a closed gate byte
pub move_is : (limit at skip : ℕ) (bytes : List ℕ) (gate : ℕ) (bodies : List BodyAt) → walk limit at skip bytes ≡ Ends gate bodies
    → first_of limit at skip bytes ≡ first_move bodies
move_is limit at skip [] gate bodies ends = absurd (cc)
move_is limit at (suc skip) (byte ∷ bytes) gate bodies ends = move_is limit (suc at) skip bytes gate bodies ends
move_is limit at zero (g ∷ bytes) gate bodies ends =
    elim (step limit at g bytes gate bodies ends) [
      | closes closed is none ↦ first_shut limit at g bytes closed ∙ ap first_move (sym none)
      | opens is fits rest first more ↦ elim (cases_Bool (is_move (body_behind bytes))) [
        | inl on ↦
            ap (λ b. first_of limit at 0 (b ∷ bytes)) is ∙ first_met limit at bytes fits on
            ∙ sym (ap first_move first ∙ rw on refl)
        | inr off ↦
            ap (λ b. first_of limit at 0 (b ∷ bytes)) is ∙ first_past limit at bytes fits off
            ∙ move_is limit (suc at) (4 + stated bytes) bytes gate rest more
            ∙ sym (ap first_move first ∙ rw off refl)
      ]
    ]

none_more : (bodies more : List BodyAt) → first_move bodies ≡ None → first_move more ≡ None → first_move (bodies ++ more) ≡ None
none_more [] more none other = other
none_more (body ∷ bodies) more none other =
    elim (cases_Bool (is_move body.1)) [
      | inl on ↦ absurd (let e : Some (move_by body.0 body.1) ≡ None = sym (rw on refl) ∙ none in cc)
      | inr off ↦ rw off (none_more bodies more (sym (rw off refl) ∙ none) other)
    ]

no_move_one : (gate : ℕ) (body : List ℕ) → is_move body ≡ false → first_move ((gate, body) ∷ []) ≡ None
no_move_one gate body other = rw other refl

pub bank_stays : (limit gate end : ℕ) (bank : Option Roots) (bodies more : List BodyAt) (file c : List ℕ) → bank_at limit file ≡ Known bank
    → HasFrames limit (start_of bank) gate bodies file → take gate c ≡ take gate file → gate < length c → first_move more ≡ None
    → HasFrames limit (start_of bank) end (bodies ++ more) c → bank_at limit c ≡ Known bank
bank_stays limit gate end None bodies more file c known has same inside none after =
    let in_file : first_move bodies ≡ None = sym (move_is limit 8 0 (drop 8 file) gate bodies has.ends) ∙ no_move limit file known in
    ap (bank_of limit c) (move_is limit 8 0 (drop 8 c) end (bodies ++ more) after.ends ∙ none_more bodies more in_file none)
bank_stays limit gate end (Some roots) bodies more file c known has same inside none after =
    let r : Rooted limit roots file = rooted limit roots file known in
    let from : roots.start ≤ gate = gate_from limit roots.start gate bodies file has in
    has_roots limit roots c
    (same_roots limit roots file c r (same_front gate (roots.place + 34) file c same (omega (arith, r.behind, from))) (omega (arith, from, inside)))

module _ (limit gate : ℕ) (bank : Option Roots) (bodies : List BodyAt) (file c : List ℕ) (known : bank_at limit file ≡ Known bank)
    (has : HasFrames limit (start_of bank) gate bodies file) (same : take gate c ≡ take gate file) (inside : gate < length c) where
  -- with the same bodies
  pub bank_kept : HasFrames limit (start_of bank) gate bodies c → bank_at limit c ≡ Known bank
  bank_kept after =
      bank_stays limit gate gate bank bodies [] file c known has same inside refl
      (subst (λ bs. HasFrames limit (start_of bank) gate bs c) (sym (append-nil bodies)) after)

  -- with one more
  pub bank_with : (end : ℕ) (body : List ℕ) → is_move body ≡ false → HasFrames limit (start_of bank) end (bodies ++ (gate, body) ∷ []) c
      → bank_at limit c ≡ Known bank
  bank_with end body other after = bank_stays limit gate end bank bodies ((gate, body) ∷ []) file c known has same inside (no_move_one gate body other) after
