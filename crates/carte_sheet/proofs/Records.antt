-- The records of a text, one after the other.
use Rattle.std.proofs.Common.{◌≡◌, ◌⊎◌, inl, inr, ℕ, zero, suc, ◌+◌, ◌-◌, ◌<◌, ◌≤◌, ◌==◌, Bool, true, false, cond, List, [], ◌∷◌, ◌++◌, length, Option, Some, None, refl, ap, sym, ◌∙◌, subst, arith, add-one}
use Rattle.std.proofs.lemmas.Bool.{false≢true}
use Rattle.csv.specs.Machine.{Read, step, in_field, start_field, start_record, ends_with, ends_at_end, is_end, fields_after, field_after, next_record}
use Rattle.csv.specs.Reading.{default_config, records_from, records_next, Reached, strip_bom}
use Rattle.csv.specs.declared.parser.State.{State}
use Rattle.csv.specs.declared.parser.State.TheVariants as st
use Rattle.csv.specs.declared.parser.Action.{Action}
use Rattle.csv.specs.declared.parser.Action.TheVariants as act
use Rattle.csv.specs.declared.parser.Terminator.TheVariants as term
use Rattle.carte_sheet.specs.Reading.{records_of}

-- the state between two records
abbrev pub IsBetween : State → Type 0
IsBetween s = (s ≡ st.StartRecord) ⊎ (s ≡ st.AfterCr)

-- a step that ends a record leads there
abbrev EndsBetween : State × Action → Type 0
EndsBetween p = is_end p.1 ≡ true → IsBetween p.0

either : (b : Bool) (p q : State × Action) → EndsBetween p → EndsBetween q → EndsBetween (cond b p q)
either true p q f g = f
either false p q f g = g

goes_on : (s : State) → EndsBetween (s, act.Skip)
goes_on s e = absurd (false≢true e)

copies : (s : State) → EndsBetween (s, act.Copy)
copies s e = absurd (false≢true e)

ends_field : (s : State) → EndsBetween (s, act.EndField)
ends_field s e = absurd (false≢true e)

between : (b : Bool) → IsBetween (cond b st.AfterCr st.StartRecord)
between true = inr refl
between false = inl refl

in_field_ends : (c : ℕ) → EndsBetween (in_field default_config c)
in_field_ends c = either (c == 44) _ _ (ends_field st.StartField) (either (ends_with term.CRLF c) _ _ (λ e. between (c == 13)) (copies st.InField))

start_field_ends : (c : ℕ) → EndsBetween (start_field default_config c)
start_field_ends c = either (c == 34) _ _ (goes_on st.InQuoted) (in_field_ends c)

start_record_ends : (c : ℕ) → EndsBetween (start_record default_config c)
start_record_ends c = either (ends_with term.CRLF c) _ _ (goes_on st.StartRecord) (start_field_ends c)

step_ends : (s : State) (c : ℕ) → EndsBetween (step default_config s c)
step_ends st.StartRecord c = start_record_ends c
step_ends st.StartField c = start_field_ends c
step_ends st.InField c = in_field_ends c
step_ends st.InQuoted c = either (c == 34) _ _ (goes_on st.AfterQuote) (copies st.InQuoted)
step_ends st.InEscape c = copies st.InQuoted
step_ends st.AfterQuote c = either (c == 34) _ _ (copies st.InQuoted) (in_field_ends c)
step_ends st.InComment c = either (c == 10) _ _ (goes_on st.StartRecord) (goes_on st.InComment)
step_ends st.AfterCr c = either (c == 10) _ _ (goes_on st.StartRecord) (start_record_ends c)

-- what is left behind a record, and the state there
abbrev Leaves : List ℕ → Read → Type 0
Leaves xs p = (length p.2 ≤ length xs - 1) × IsBetween p.1

leaves : (s : State) (fields : List (List ℕ)) (field xs : List ℕ) (p : Read) → next_record default_config s fields field xs ≡ Some p → Leaves xs p
unfolding next_record
leaves s fields field [] p e = at_end (ends_at_end s) e
  where
    at_end : (b : Bool) → cond b (Some (fields ++ (field ∷ []), st.StartRecord, [])) None ≡ Some p → Leaves [] p
    at_end true is = let same : (fields ++ (field ∷ []), st.StartRecord, []) ≡ p = cc in subst (Leaves []) same (omega arith, inl refl)
    at_end false is = cc
leaves s fields field (c ∷ rest) p e = go (is_end (step default_config s c).1) refl e (leaves (step default_config s c).0 (fields_after (step default_config s c).1 fields field) (field_after (step default_config s c).1 c field) rest p)
  where
    go : (b : Bool) → is_end (step default_config s c).1 ≡ b
        → cond b (Some (fields_after (step default_config s c).1 fields field, (step default_config s c).0, rest)) (next_record default_config (step default_config s c).0 (fields_after (step default_config s c).1 fields field) (field_after (step default_config s c).1 c field) rest) ≡ Some p
        → (next_record default_config (step default_config s c).0 (fields_after (step default_config s c).1 fields field) (field_after (step default_config s c).1 c field) rest ≡ Some p → Leaves rest p)
        → Leaves (c ∷ rest) p
    go true ends is more =
        let same : (fields_after (step default_config s c).1 fields field, (step default_config s c).0, rest) ≡ p = cc in
        subst (Leaves (c ∷ rest)) same (omega arith, step_ends s c ends)
    go false ends is more = let h = more is in (omega (arith, h.0), h.1)

-- between records there is none at the end of a text
none_at_end : (s : State) → IsBetween s → next_record default_config s [] [] [] ≡ None
unfolding next_record
none_at_end st.StartRecord b = refl
none_at_end st.AfterCr b = refl
none_at_end s (inl e) = cc
none_at_end s (inr e) = cc

pub consumes : (s : State) (xs : List ℕ) (p : Read) → IsBetween s → next_record default_config s [] [] xs ≡ Some p → (length p.2 < length xs) × IsBetween p.1
consumes s [] p b e = let none = none_at_end s b in cc
consumes s (c ∷ rest) p b e = let h = leaves s [] [] (c ∷ rest) p e in (omega (arith, h.0), h.1)

-- ---- all records from a state between two on

abbrev pub rest_from : State → List ℕ → List (List (List ℕ))
rest_from s xs = records_from default_config (length xs + 1) s xs

pub all_from_start : (text : List ℕ) → records_of text ≡ rest_from st.StartRecord (strip_bom text)
unfolding records_of
all_from_start text = refl

enough : (n m : ℕ) (s : State) (xs : List ℕ) → IsBetween s → length xs < n → length xs < m → records_from default_config n s xs ≡ records_from default_config m s xs
unfolding records_from
enough zero m s xs b h g = absurd (omega arith)
enough (suc n) zero s xs b h g = absurd (omega arith)
enough (suc n) (suc m) s xs b h g = go (next_record default_config s [] [] xs) refl (enough n m)
  where
    go : (o : Option Read) → next_record default_config s [] [] xs ≡ o
        → ((s : State) (xs : List ℕ) → IsBetween s → length xs < n → length xs < m → records_from default_config n s xs ≡ records_from default_config m s xs)
        → records_next (records_from default_config n) o ≡ records_next (records_from default_config m) o
    go None e more = refl
    go (Some p) e more =
        let left = consumes s xs p b e in
        ap (λ (rs : List (List (List ℕ))). p.0 ∷ rs) (more p.1 p.2 left.1 (omega (arith, left.0)) (omega (arith, left.0)))

pub one_more : (s : State) (xs : List ℕ) (p : Read) → IsBetween s → next_record default_config s [] [] xs ≡ Some p → rest_from s xs ≡ p.0 ∷ rest_from p.1 p.2
unfolding records_from
one_more s xs p b e =
    let left = consumes s xs p b e in
    rw (add-one (length xs), e) (ap (λ (rs : List (List (List ℕ))). p.0 ∷ rs) (enough (length xs) (length p.2 + 1) p.1 p.2 left.1 left.0 (omega arith)))

pub no_more : (s : State) (xs : List ℕ) → next_record default_config s [] [] xs ≡ None → rest_from s xs ≡ []
unfolding records_from
no_more s xs e = rw (add-one (length xs), e) refl

-- the record that was reached from there
pub reached_more : (s t : State) (xs ys : List ℕ) (f : List (List ℕ)) → IsBetween s → Reached default_config s xs (f ∷ []) t ys → (rest_from s xs ≡ f ∷ rest_from t ys) × IsBetween t
unfolding Reached
reached_more s t xs ys f b (p, e, is, (state, left)) =
    let after = consumes s xs p b e in
    (one_more s xs p b e ∙ ap (λ (g : List (List ℕ)). g ∷ rest_from p.1 p.2) (sym is) ∙ ap (λ (u : State). f ∷ rest_from u p.2) state ∙ ap (λ (zs : List ℕ). f ∷ rest_from t zs) left, subst IsBetween state after.1)
