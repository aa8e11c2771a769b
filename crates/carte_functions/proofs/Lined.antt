-- The first line of a text, and the lines behind it.
use Rattle.std.proofs.Common.{◌≡◌, ℕ, ◌<◌, Bool, true, false, cond, eqb, List, [], ◌∷◌, length, refl, Some, None, Bor, ◌≢◌, lit<}
use Rattle.std.specs.List.{slice_split, onto_first, position_or_len, before_first, after_first, All}
use Rattle.std.proofs.lemmas.List.Splits.{slice_split_first, slice_split_none}
use Rattle.std.proofs.lemmas.Str.Pattern.{IsSplitOnceResult, split_once_first}
use Rattle.std.proofs.lemmas.List.Sums.{fails_before_first}
use Rattle.carte_tree.specs.Texts.{lines, without_last_empty}

-- a line feed
abbrev pub feeds : ℕ → Bool
feeds b = eqb b 10

pub record Parts (parts : List (List ℕ)) : Type 0 where
  pub first : List ℕ
  pub rest : List (List ℕ)
  pub are : parts ≡ first ∷ rest

onto_parts : (x : ℕ) (parts : List (List ℕ)) → Parts (onto_first x parts)
onto_parts x [] = record { first = x ∷ []; rest = []; are = refl }
onto_parts x (p ∷ ps) = record { first = x ∷ p; rest = ps; are = refl }

-- there is always a part
parts_of : (t : List ℕ) → Parts (slice_split feeds t)
parts_of [] = record { first = []; rest = []; are = refl }
parts_of (b ∷ bs) =
    elim (feeds b) as (λ f. Parts (cond f ([] ∷ slice_split feeds bs) (onto_first b (slice_split feeds bs)))) [
      | true ↦ record { first = []; rest = slice_split feeds bs; are = refl }
      | false ↦ onto_parts b (slice_split feeds bs)
    ]

-- a part before others is a line, whatever is in it
before_others : (l : List ℕ) (ps : List (List ℕ)) → Parts ps → without_last_empty (l ∷ ps) ≡ l ∷ without_last_empty ps
before_others [] ps p = rw p.are refl
before_others (b ∷ bs) ps p = refl

pub lines_first : (t : List ℕ) → position_or_len feeds t < length t → lines t ≡ before_first feeds t ∷ lines (after_first feeds t)
lines_first t within =
    rw (slice_split_first feeds t 0 within) (before_others (before_first feeds t) (slice_split feeds (after_first feeds t)) (parts_of (after_first feeds t)))

pub lines_last : (b : ℕ) (bs : List ℕ) → position_or_len feeds (b ∷ bs) ≡ length (b ∷ bs) → lines (b ∷ bs) ≡ (b ∷ bs) ∷ []
lines_last b bs none =
    let all : All (λ x. feeds x ≡ false) (b ∷ bs) = λ k d within. fails_before_first feeds (b ∷ bs) k d (rw none within) in
    rw (slice_split_none feeds (b ∷ bs) all) refl

-- a text that is cut at its first line feed
pub lines_cut : (t : List ℕ) (line behind : Bor (List ℕ)) → IsSplitOnceResult 10 t (Some (line, behind)) → lines t ≡ line.now ∷ lines behind.now
lines_cut t line behind cut =
    let parts = split_once_first 10 t (Some (line, behind)) cut (lit< tt) in
    rw (parts.1, parts.2) (lines_first t parts.0)

-- a text without a line feed
pub lines_whole : (t : List ℕ) → IsSplitOnceResult 10 t None → length t ≢ 0 → lines t ≡ t ∷ []
lines_whole [] cut some = absurd (some refl)
lines_whole (b ∷ bs) cut some = lines_last b bs (split_once_first 10 (b ∷ bs) None cut (lit< tt))
