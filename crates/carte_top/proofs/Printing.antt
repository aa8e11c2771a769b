-- A reply that is written behind what stands in front of it.
use Rattle.std.proofs.Common.{◌≡◌, ℕ, suc, ◌+◌, List, [], ◌∷◌, ◌++◌, length, take, length-append, append_assoc, ap, sym, ◌∙◌, subst, arith}
use Rattle.std.proofs.lemmas.List.{take-append-le}
use Rattle.carte_io.specs.Causes.{Rose}
use Rattle.carte_io.specs.Streams.{SinkState, TakesFront as TakesFrontOf}
use Rattle.carte_report.specs.declared.status.Status.{Status}
use Rattle.carte_report.specs.declared.status.Status.TheVariants.{Done, BookRefused, Usage, BuildRefused, ReadFault, WriteFault, DiskFault, BadState, StateFull, NoMemory, ScriptTooLong}
use Rattle.carte_top.specs.Around.{OverSink}
use Rattle.carte_top.specs.Running.{Prints}

take_behind : (xs ys : List ℕ) (n : ℕ) → take (length xs + n) (xs ++ ys) ≡ xs ++ take n ys
take_behind [] ys n = let same : length {A = ℕ} [] + n ≡ n = omega arith in ap (λ m. take m ys) same
take_behind (x ∷ xs) ys n =
    let more : length (x ∷ xs) + n ≡ suc (length xs + n) = omega arith in
    ap (λ m. take m (x ∷ (xs ++ ys))) more ∙ ap (λ t. x ∷ t) (take_behind xs ys n)

module _ (tells : Type 0) (old : SinkState) (front bytes : List ℕ) where
  abbrev Over : SinkState → SinkState → OverSink
  Over a b = record { tells = tells; old = a; new = b }

  -- all of the front was taken
  module _ (mid new : SinkState) (taken : tells → mid.taken ≡ old.taken ++ front) (faults : mid.faults ≡ old.faults) where
    pub prints_behind : (status : Status) → Prints bytes (Over mid new) status → Prints (front ++ bytes) (Over old new) status
    prints_behind Done prints = (
      λ told.
          let all = prints.0 told in
          (all.0 ∙ ap (λ (xs : List ℕ). xs ++ bytes) (taken told) ∙ append_assoc old.taken front bytes, all.1),
      prints.1 ∙ faults,
    )
    prints_behind WriteFault prints = (
      λ told.
          let some = prints.0 told in (
            length front + some.0,
            omega (arith, some.1, length-append front bytes),
            some.2 ∙ ap (λ (xs : List ℕ). xs ++ take some.0 bytes) (taken told) ∙ append_assoc old.taken front (take some.0 bytes)
                ∙ ap (λ (xs : List ℕ). old.taken ++ xs) (sym (take_behind front bytes some.0)),
          ),
      subst (λ (n : ℕ). Rose n new.faults) faults prints.1,
    )
    prints_behind (BookRefused fault) prints = absurd prints
    prints_behind (Usage fault) prints = absurd prints
    prints_behind (BuildRefused reason) prints = absurd prints
    prints_behind ReadFault prints = absurd prints
    prints_behind DiskFault prints = absurd prints
    prints_behind (BadState offset) prints = absurd prints
    prints_behind (StateFull needed most) prints = absurd prints
    prints_behind NoMemory prints = absurd prints
    prints_behind ScriptTooLong prints = absurd prints

  -- or not
  pub prints_no_front : (new : SinkState) → (tells → TakesFrontOf front old.taken new.taken) → Rose old.faults new.faults → Prints (front ++ bytes) (Over old new) WriteFault
  prints_no_front new taken rose = (
    λ told.
        let some = taken told in (
          some.count,
          omega (arith, some.below, length-append front bytes),
          some.front ∙ ap (λ (xs : List ℕ). old.taken ++ xs) (sym (take-append-le some.count front bytes (omega (arith, some.below)))),
        ),
    rose,
  )
