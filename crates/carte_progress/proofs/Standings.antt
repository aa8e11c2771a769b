-- What stands on a bench where something is put at a name.
use Rattle.std.proofs.Common.{◌≡◌, ℕ, List, [], ◌∷◌, Some, refl, sym, ◌∙◌, subst, inl, inr, ◌⊎◌}
use Rattle.carte_value.specs.Truths.{Among}
use Rattle.carte_value.proofs.Members.{same_or_not}
use Rattle.carte_book.specs.Book.{Book}
use Rattle.carte_book.specs.Needs.{IsRule}
use Rattle.carte_bench.specs.declared.slot.Slot.{Slot}
use Rattle.carte_bench.specs.declared.slot.Slot.TheVariants.{Stopped}
use Rattle.carte_bench.specs.Spots.{Spots, PutAt}
use Rattle.carte_bench.specs.Ended.{IsOpen}
use Rattle.carte_bench.proofs.Puts.{put_here, put_apart}
use Rattle.carte_progress.specs.Standing.{Behind, IsLeft, StaysKnown}
use Rattle.carte_progress.proofs.Puts.{stood_before}

-- a member of what stands behind another name is apart from it
pub apart_from : (ks : List (List ℕ)) (k j : List ℕ) → ¬ (Among ks k) → Among ks j → ¬ (k ≡ j)
apart_from ks k j off here same = off (subst (Among ks) (sym same) here)

module _ {J : Type 0} where
  pub known_put : (s d : Spots J) (k : List ℕ) (x : Slot J) → PutAt s d k x → StaysKnown s d
  known_put s d k x put q y is = elim (same_or_not k q) [
    | inl same ↦ (x, subst (λ i. d i ≡ Some x) same (put_here s d k x put))
    | inr other ↦ (y, put_apart s d k x q other put ∙ is)
  ]

  pub rules_put : (b : Book) (s d : Spots J) (k : List ℕ) (x : Slot J) → PutAt s d k x → IsRule b k → ((q : List ℕ) (y : Slot J) → s q ≡ Some y → IsRule b q) → (q : List ℕ) (y : Slot J) → d q ≡ Some y → IsRule b q
  rules_put b s d k x put rule_there all q y is = elim (same_or_not k q) [
    | inl same ↦ subst (IsRule b) same rule_there
    | inr other ↦ all q y (stood_before s d k x q (Some y) put other is)
  ]

  pub behind_put : (s d : Spots J) (k : List ℕ) (x : Slot J) (n : List ℕ) (path : List (List ℕ)) → PutAt s d k x → ¬ (Among path k) → Behind s n path → Behind d n path
  behind_put s d k x n [] put off behind = tt
  behind_put s d k x n (j ∷ ks) put off ((p, is), behind) = ((p, put_apart s d k x j (λ same. off (inl same)) put ∙ is), behind_put s d k x j ks put (λ here. off (inr here)) behind)

  -- each of a path waits for what is before it
  pub behind_of : (s : Spots J) (n : List ℕ) (path : List (List ℕ)) (q : List ℕ) → Behind s n path → Among path q → (p : J) × (r : List ℕ) × (s q ≡ Some (Stopped p r)) × ((r ≡ n) ⊎ Among path r)
  behind_of s n [] q behind here = absurd here
  behind_of s n (j ∷ ks) q ((p, is), behind) (inl same) = (p, n, rw same is, inl refl)
  behind_of s n (j ∷ ks) q ((p, is), behind) (inr later) =
      let rest = behind_of s j ks q behind later in (
        rest.0,
        rest.1,
        rest.2,
        elim rest.3 [
          | inl same ↦ inr (inl same)
          | inr there ↦ inr (inr there)
        ],
      )

  -- what is left stays so, where what is open there stays
  pub left_moves : (b : Book) (s d : Spots J) (path path' : List (List ℕ)) (n : List ℕ) → (IsOpen s n → ¬ (Among path n) → (d n ≡ s n) × ¬ (Among path' n)) → IsLeft b s path n → IsLeft b d path' n
  left_moves b s d path path' n moves (inl nothing) = inl nothing
  left_moves b s d path path' n moves (inr (((x, is), undone), off)) =
      let on = moves ((x, is), undone) off in
      inr (((x, on.0 ∙ is), rw on.0 undone), on.1)

  pub open_before : (s d : Spots J) (q : List ℕ) → d q ≡ s q → IsOpen d q → IsOpen s q
  open_before s d q same ((x, is), undone) = ((x, sym same ∙ is), rw same at undone)
