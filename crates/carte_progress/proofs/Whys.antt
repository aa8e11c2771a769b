-- The first target that has a reason.
use Rattle.std.proofs.Common.{◌≡◌, ℕ, zero, suc, ◌+◌, ◌<◌, List, [], ◌∷◌, ◌++◌, length, take, get_or, Some, None, refl, ap, sym, ◌∙◌, subst, inl, inr, arith}
use Rattle.std.proofs.lemmas.List.{take_more}
use Rattle.carte_value.specs.Truths.{Among}
use Rattle.carte_value.proofs.Members.{among_right}
use Rattle.carte_book.specs.Book.{Book}
use Rattle.carte_book.specs.Reason.{IsClean, AllClean, Begins, IsReason}
use Rattle.carte_book.specs.declared.reason.Reason.{Reason}
use Rattle.carte_book.specs.declared.reason.Reason.TheVariants.{Cycle, Missing, Dynamic}
use Rattle.carte_bench.specs.Waits.{Onward, WaitsAs}
use Rattle.carte_progress.specs.Reasons.{HaveNone, FirstReason}

-- the item at an index
pub parted : (ts : List (List ℕ)) (at : ℕ) (t : List ℕ) → at < length ts → t ≡ get_or ts at t → (after : List (List ℕ)) × (ts ≡ take at ts ++ t ∷ after)
parted [] at t below is = absurd (omega arith)
parted (i ∷ ts) zero t below is = (ts, ap (λ x. x ∷ ts) (sym is))
parted (i ∷ ts) (suc at) t below is = let p = parted ts at t (omega arith) is in (p.0, ap (λ xs. i ∷ xs) p.1)

pub one_more : (ts : List (List ℕ)) (at : ℕ) (t : List ℕ) → at < length ts → t ≡ get_or ts at t → take (at + 1) ts ≡ take at ts ++ t ∷ []
one_more ts at t below is = take_more ts at t below ∙ ap (λ x. take at ts ++ x ∷ []) (sym is)

pub item_among : (ts : List (List ℕ)) (at : ℕ) (t : List ℕ) → at < length ts → t ≡ get_or ts at t → Among ts t
item_among ts at t below is = let p = parted ts at t below is in subst (λ xs. Among xs t) (sym p.1) (among_right (take at ts) (t ∷ p.0) t (inl refl))

pub none_end : (f : List ℕ → Onward) (ts : List (List ℕ)) (t : List ℕ) → HaveNone f ts → WaitsAs f t None → HaveNone f (ts ++ t ∷ [])
none_end f [] t none one = (one, tt)
none_end f (i ∷ ts) t none one = (none.0, none_end f ts t none.1 one)

pub first_in : (f : List ℕ → Onward) (before after : List (List ℕ)) (t : List ℕ) (r : Reason) → HaveNone f before → WaitsAs f t (Some r) → FirstReason f (before ++ t ∷ after) (Some r)
first_in f [] after t r none waits = inl waits
first_in f (i ∷ before) after t r none waits = inr (none.0, first_in f before after t r none.1 waits)

-- behind targets with clean values, the reason of the next is that of all
begins_later : (b : Book) (t i : List ℕ) (ts path : List (List ℕ)) → IsClean b t → Begins b (i ∷ ts) path → Begins b (t ∷ i ∷ ts) path
begins_later b t i ts [] clean from = from
begins_later b t i ts (j ∷ js) clean from = inr (clean, from)

begins_one : (b : Book) (t : List ℕ) (ts path : List (List ℕ)) → Begins b (t ∷ []) path → Begins b (t ∷ ts) path
begins_one b t ts [] from = from
begins_one b t ts (j ∷ js) (inl here) = inl here
begins_one b t ts (j ∷ js) (inr later) = absurd later.1

reason_one : (b : Book) (t : List ℕ) (ts : List (List ℕ)) (r : Reason) → IsReason b (t ∷ []) r → IsReason b (t ∷ ts) r
reason_one b t ts (Cycle path) is = (begins_one b t ts path is.0, is.1)
reason_one b t ts (Missing path) is = (begins_one b t ts path is.0, is.1)
reason_one b t ts (Dynamic path) is = is

reason_later : (b : Book) (t i : List ℕ) (ts : List (List ℕ)) (r : Reason) → IsClean b t → IsReason b (i ∷ ts) r → IsReason b (t ∷ i ∷ ts) r
reason_later b t i ts (Cycle path) clean is = (begins_later b t i ts path clean is.0, is.1)
reason_later b t i ts (Missing path) clean is = (begins_later b t i ts path clean is.0, is.1)
reason_later b t i ts (Dynamic path) clean is = is

module _ (b : Book) (f : List ℕ → Onward) (reasoned : (t : List ℕ) (r : Reason) → WaitsAs f t (Some r) → IsReason b (t ∷ []) r) where
  pub first_reason_is : (ts : List (List ℕ)) (r : Reason) → ((t : List ℕ) → Among ts t → WaitsAs f t None → IsClean b t) → FirstReason f ts (Some r) → IsReason b ts r
  first_reason_is [] r clean first = absurd first
  first_reason_is (t ∷ ts) r clean (inl waits) = reason_one b t ts r (reasoned t r waits)
  first_reason_is (t ∷ []) r clean (inr (none, later)) = absurd later
  first_reason_is (t ∷ i ∷ ts) r clean (inr (none, later)) = reason_later b t i ts r (clean t (inl refl) none) (first_reason_is (i ∷ ts) r (λ j here. clean j (inr here)) later)

  pub all_clean : (ts : List (List ℕ)) → ((t : List ℕ) → Among ts t → WaitsAs f t None → IsClean b t) → HaveNone f ts → AllClean b ts
  all_clean [] clean none = tt
  all_clean (t ∷ ts) clean none = (clean t (inl refl) none.0, all_clean ts (λ j here. clean j (inr here)) none.1)
