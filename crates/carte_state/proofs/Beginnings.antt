-- Batches over what is kept in either version.
use Rattle.std.proofs.Common.{◌≡◌, Bool, true, false, if◌then◌else◌, List, [], ◌∷◌, Option, Some, None, refl, ap, sym, ◌∙◌}
use Rattle.std.specs.Prelude.{◌&&◌, is_none}
use Rattle.carte_record.specs.Empty.{brings_no_key, brings_no_trace, goes_on, is_empty}
use Rattle.carte_record.specs.Folds.{apply, carried, started}
use Rattle.carte_record.specs.Kept.{SomeKept, nothing_kept}
use Rattle.carte_record.specs.declared.batch.Batch.{Batch}
use Rattle.carte_record.specs.declared.start.Start.TheVariants.{Cleared}
use Rattle.carte_record_one.specs.declared.kept.KeptOne.{KeptOne}
use Rattle.carte_state.specs.Runs.{applied_to}
use Rattle.carte_state.specs.States.{any_of}
use Rattle.carte_state.specs.Versions.{AnyKept, Begins, InOne, InTwo, apply_to, two_of}

first_of : (b c : Bool) → b && c ≡ true → b ≡ true
first_of true c is = refl
first_of false c is = cc

-- an empty batch doesn't begin cleared
not_cleared : (B : Batch) → is_empty B ≡ true → B.start ≡ Cleared → ⊥
not_cleared B empty cleared =
    let goes = first_of (goes_on B.start) (is_none B.chain) (first_of (goes_on B.start && is_none B.chain) (brings_no_key B) (first_of ((goes_on B.start && is_none B.chain) && brings_no_key B) (brings_no_trace B) empty)) in
    let clash : true ≡ false = sym goes ∙ ap goes_on cleared in
    cc

-- it is of version 2
abbrev pub IsTwo : AnyKept → Type 0
IsTwo (InOne K) = ⊥
IsTwo (InTwo K) = Unit {0}

pub two_begins : (K : AnyKept) (B : Batch) → IsTwo K → Begins K B
two_begins (InOne K) B never = absurd never
two_begins (InTwo K) B is = tt

two_if : (empty : Bool) (K : AnyKept) (L : SomeKept) → (empty ≡ true → IsTwo K) → IsTwo (if empty then K else InTwo L)
two_if true K L is = is refl
two_if false K L is = tt

is_two : (K : AnyKept) (B : Batch) → Begins K B → is_empty B ≡ true → IsTwo K
is_two (InOne K) B begins empty = not_cleared B empty begins
is_two (InTwo K) B begins empty = tt

pub two_after : (K : AnyKept) (B : Batch) → Begins K B → IsTwo (apply_to B K)
two_after K B begins = two_if (is_empty B) K (apply B (two_of K)) (is_two K B begins)

pub two_on : (K : AnyKept) (Bs : List Batch) → IsTwo K → IsTwo (applied_to K Bs)
two_on K [] is = is
two_on K (B ∷ Bs) is = two_on (apply_to B K) Bs (two_after K B (two_begins K B is))

-- what a batch makes doesn't hang on what stands beside what is kept in version 1
pub begun_alike : (o : Option KeptOne) (K : SomeKept) (B : Batch) → Begins (any_of o K) B → apply B K ≡ apply B (two_of (any_of o K))
begun_alike None K B begins = refl
begun_alike (Some J) K B begins = ap (λ s. carried B (started s K)) begins ∙ sym (ap (λ s. carried B (started s nothing_kept)) begins)

pub none_old : (o : Option KeptOne) (K : SomeKept) (B : Batch) → Begins (any_of o K) B → is_empty B ≡ true → o ≡ None
none_old None K B begins empty = refl
none_old (Some J) K B begins empty = absurd (not_cleared B empty begins)
