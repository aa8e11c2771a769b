-- Names told apart and put in order by their fronts.
use Rattle.std.proofs.Common.{◌≡◌, ◌≢◌, ℕ, zero, suc, ◌<◌, ◌≤◌, ◌*◌, ◌+◌, true, eqb, List, [], ◌∷◌, length, take, drop, min, slice_index, slice_index_or, slice_set, get_or, refl, ap, ap₂, sym, ◌∙◌, subst, arith, inl, inr, length-take, length-take-le, length-drop, get_or-take}
use Rattle.std.specs.Ordering.{nat_cmp, ordering_then, MatchOrdering, is_eq}
use Rattle.std.specs.Cmp.{ranks, unsigned_ties}
use Rattle.std.specs.Cmp.Lexicographic.{bytes_decides, texts_ties}
use Rattle.std.specs.Int.{w64, from_be_bytes}
use Rattle.std.specs.declared.cmp.Ordering.{Ordering}
use Rattle.std.specs.declared.cmp.Ordering.TheVariants.{Less, Equal, Greater}
use Rattle.std.proofs.lemmas.Bool.{cases_lt, le-leb, lt-leb}
use Rattle.std.proofs.lemmas.List.{get_or_past, get_or-drop}
use Rattle.carte_name.specs.Names.{is_name, name_eq, name_cmp}
use Rattle.carte_name.specs.Fronts.{padded, front_of, fed, shown, Fits, IsHeld}
use Rattle.carte_name.specs.declared.held.Held.{Held}
use Rattle.carte_name.specs.declared.held.Held.TheVariants.{Short}

-- a byte more of the text
pub padded_set : (n at : ℕ) (t : List ℕ) → at < n → at < length t → padded n (take (suc at) t) ≡ slice_set (padded n (take at t)) at (slice_index_or t at 0)
padded_set zero at t within there = absurd (omega arith)
padded_set (suc n) at [] within there = absurd (omega arith)
padded_set (suc n) zero (x ∷ t) within there = refl
padded_set (suc n) (suc at) (x ∷ t) within there = ap (λ f. x ∷ f) (padded_set n at t (omega arith) (omega arith))

-- all of it that there is room for
pub padded_take : (n at : ℕ) (t : List ℕ) → min (length t) n ≤ at → padded n (take at t) ≡ padded n t
padded_take zero at t all = refl
padded_take (suc n) zero [] all = refl
padded_take (suc n) (suc at) [] all = refl
padded_take (suc n) zero (x ∷ t) all = absurd (omega arith)
padded_take (suc n) (suc at) (x ∷ t) all = ap (λ f. x ∷ f) (padded_take n at t (omega arith))

-- numbers: where the first byte that is not alike is smaller, the number is smaller

abbrev number : ℕ → List ℕ → ℕ
number a [] = a
number a (x ∷ xs) = number (a * 256 + x) xs

abbrev Small : List ℕ → Type 0
Small xs = (i : ℕ) → slice_index_or xs i 0 < 256

number_less : (a b : ℕ) (xs ys : List ℕ) → length xs ≡ length ys → Small xs → Small ys → a < b → number a xs < number b ys
number_less a b [] [] long small small' less = less
number_less a b [] (y ∷ ys) long small small' less = absurd (omega arith)
number_less a b (x ∷ xs) [] long small small' less = absurd (omega arith)
number_less a b (x ∷ xs) (y ∷ ys) long small small' less = number_less (a * 256 + x) (b * 256 + y) xs ys (omega arith) (λ i. small (suc i)) (λ i. small' (suc i)) (omega (arith, small 0, small' 0))

less_is : (x y : ℕ) (r : Ordering) → MatchOrdering r (x < y) (x ≡ y) (y < x) → x < y → r ≡ Less
less_is x y Less h l = refl
less_is x y Equal h l = let e : x ≡ y = h in absurd (omega arith)
less_is x y Greater h l = let e : y < x = h in absurd (omega arith)

equal_is : (x y : ℕ) (r : Ordering) → MatchOrdering r (x < y) (x ≡ y) (y < x) → x ≡ y → r ≡ Equal
equal_is x y Less h l = let e : x < y = h in absurd (omega arith)
equal_is x y Equal h l = refl
equal_is x y Greater h l = let e : y < x = h in absurd (omega arith)

greater_is : (x y : ℕ) (r : Ordering) → MatchOrdering r (x < y) (x ≡ y) (y < x) → y < x → r ≡ Greater
greater_is x y Less h l = let e : x < y = h in absurd (omega arith)
greater_is x y Equal h l = let e : x ≡ y = h in absurd (omega arith)
greater_is x y Greater h l = refl

less : (x y : ℕ) → x < y → nat_cmp x y ≡ Less
less x y = less_is x y (nat_cmp x y) (ranks x y)

greater : (x y : ℕ) → y < x → nat_cmp x y ≡ Greater
greater x y = greater_is x y (nat_cmp x y) (ranks x y)

level : (x : ℕ) → nat_cmp x x ≡ Equal
level x = equal_is x x (nat_cmp x x) (ranks x x) refl

number_cmp : (a : ℕ) (xs ys : List ℕ) → length xs ≡ length ys → Small xs → Small ys → nat_cmp (number a xs) (number a ys) ≡ name_cmp xs ys
number_cmp a [] [] long small small' = level a
number_cmp a [] (y ∷ ys) long small small' = absurd (omega arith)
number_cmp a (x ∷ xs) [] long small small' = absurd (omega arith)
number_cmp a (x ∷ xs) (y ∷ ys) long small small' = by (nat_cmp x y) (ranks x y) (number_cmp (a * 256 + x) xs ys (omega arith) (λ i. small (suc i)) (λ i. small' (suc i)))
  where
    rest : length xs ≡ length ys
    rest = omega arith

    by : (r : Ordering) → MatchOrdering r (x < y) (x ≡ y) (y < x) → nat_cmp (number (a * 256 + x) xs) (number (a * 256 + x) ys) ≡ name_cmp xs ys → nat_cmp (number (a * 256 + x) xs) (number (a * 256 + y) ys) ≡ ordering_then r (name_cmp xs ys)
    by Less h next = let l : x < y = h in less _ _ (number_less (a * 256 + x) (a * 256 + y) xs ys rest (λ i. small (suc i)) (λ i. small' (suc i)) (omega arith))
    by Greater h next = let l : y < x = h in greater _ _ (number_less (a * 256 + y) (a * 256 + x) ys xs (sym rest) (λ i. small' (suc i)) (λ i. small (suc i)) (omega arith))
    by Equal h next = let e : x ≡ y = h in subst (λ z. nat_cmp (number (a * 256 + x) xs) (number (a * 256 + z) ys) ≡ name_cmp xs ys) e next

-- what stands behind zeros decides only where the fronts are alike

none_first : (n : ℕ) (j : List ℕ) → ordering_then (name_cmp (padded n []) (padded n j)) Less ≡ Less
none_first zero j = refl
none_first (suc n) [] = none_first n []
none_first (suc n) (zero ∷ j) = none_first n j
none_first (suc n) (suc y ∷ j) = ap (λ r. ordering_then (ordering_then r (name_cmp (padded n []) (padded n j))) Less) (less 0 (suc y) (omega arith))

none_last : (n : ℕ) (k : List ℕ) → ordering_then (name_cmp (padded n k) (padded n [])) Greater ≡ Greater
none_last zero k = refl
none_last (suc n) [] = none_last n []
none_last (suc n) (zero ∷ k) = none_last n k
none_last (suc n) (suc x ∷ k) = ap (λ r. ordering_then (ordering_then r (name_cmp (padded n k) (padded n []))) Greater) (greater (suc x) 0 (omega arith))

pads_alike : (n : ℕ) → name_cmp (padded n []) (padded n []) ≡ Equal
pads_alike zero = refl
pads_alike (suc n) = pads_alike n

pub fronts_decide : (n : ℕ) (k j : List ℕ) → ordering_then (name_cmp (padded n k) (padded n j)) (name_cmp k j) ≡ name_cmp k j
fronts_decide zero k j = refl
fronts_decide (suc n) [] [] = ap (λ r. ordering_then r Equal) (pads_alike n)
fronts_decide (suc n) [] (y ∷ j) = none_first (suc n) (y ∷ j)
fronts_decide (suc n) (x ∷ k) [] = none_last (suc n) (x ∷ k)
fronts_decide (suc n) (x ∷ k) (y ∷ j) = by (nat_cmp x y) (fronts_decide n k j)
  where
    by : (r : Ordering) → ordering_then (name_cmp (padded n k) (padded n j)) (name_cmp k j) ≡ name_cmp k j → ordering_then (ordering_then r (name_cmp (padded n k) (padded n j))) (ordering_then r (name_cmp k j)) ≡ ordering_then r (name_cmp k j)
    by Less next = refl
    by Equal next = next
    by Greater next = refl

-- so where the fronts are not alike, their order is that of the names
pub unlike_order : (k j : List ℕ) (r : Ordering) → r ≡ name_cmp (front_of k) (front_of j) → r ≢ Equal → r ≡ name_cmp k j
unfolding front_of
unlike_order k j r is unlike = by r is unlike (fronts_decide 16 k j)
  where
    by : (s : Ordering) → s ≡ name_cmp (padded 16 k) (padded 16 j) → s ≢ Equal → ordering_then (name_cmp (padded 16 k) (padded 16 j)) (name_cmp k j) ≡ name_cmp k j → s ≡ name_cmp k j
    by Less e not all = subst (λ q. ordering_then q (name_cmp k j) ≡ name_cmp k j) (sym e) all
    by Equal e not all = absurd (not refl)
    by Greater e not all = subst (λ q. ordering_then q (name_cmp k j) ≡ name_cmp k j) (sym e) all

one_more : (n m : ℕ) → nat_cmp n m ≡ nat_cmp (suc n) (suc m)
one_more n m = by (nat_cmp n m) (ranks n m)
  where
    by : (r : Ordering) → MatchOrdering r (n < m) (n ≡ m) (m < n) → r ≡ nat_cmp (suc n) (suc m)
    by Less h = let l : n < m = h in sym (less (suc n) (suc m) (omega arith))
    by Equal h = let e : n ≡ m = h in sym (equal_is (suc n) (suc m) (nat_cmp (suc n) (suc m)) (ranks (suc n) (suc m)) (omega arith))
    by Greater h = let l : m < n = h in sym (greater (suc n) (suc m) (omega arith))

-- the beginnings of one list are in the order of their lengths
pub beginnings_order : (f : List ℕ) (n m : ℕ) → n ≤ length f → m ≤ length f → name_cmp (take n f) (take m f) ≡ nat_cmp n m
beginnings_order [] zero zero few few' = refl
beginnings_order [] (suc n) m few few' = absurd (omega arith)
beginnings_order [] n (suc m) few few' = absurd (omega arith)
beginnings_order (x ∷ f) zero zero few few' = refl
beginnings_order (x ∷ f) zero (suc m) few few' = sym (less 0 (suc m) (omega arith))
beginnings_order (x ∷ f) (suc n) zero few few' = sym (greater (suc n) 0 (omega arith))
beginnings_order (x ∷ f) (suc n) (suc m) few few' = ap (λ r. ordering_then r (name_cmp (take n f) (take m f))) (level x) ∙ beginnings_order f n m (omega arith) (omega arith) ∙ one_more n m

pub parts_order : (n : ℕ) (xs ys : List ℕ) → length xs ≡ length ys → ordering_then (name_cmp (take n xs) (take n ys)) (name_cmp (drop n xs) (drop n ys)) ≡ name_cmp xs ys
parts_order zero xs ys long = refl
parts_order (suc n) [] [] long = refl
parts_order (suc n) [] (y ∷ ys) long = absurd (omega arith)
parts_order (suc n) (x ∷ xs) [] long = absurd (omega arith)
parts_order (suc n) (x ∷ xs) (y ∷ ys) long = by (nat_cmp x y) (parts_order n xs ys (omega arith))
  where
    by : (r : Ordering) → ordering_then (name_cmp (take n xs) (take n ys)) (name_cmp (drop n xs) (drop n ys)) ≡ name_cmp xs ys → ordering_then (ordering_then r (name_cmp (take n xs) (take n ys))) (name_cmp (drop n xs) (drop n ys)) ≡ ordering_then r (name_cmp xs ys)
    by Less next = refl
    by Equal next = next
    by Greater next = refl

-- fronts as two numbers

as_number : (xs : List ℕ) → length xs ≡ 8 → from_be_bytes w64 xs ≡ number 0 xs
as_number [] long = absurd (omega arith)
as_number (a ∷ []) long = absurd (omega arith)
as_number (a ∷ b ∷ []) long = absurd (omega arith)
as_number (a ∷ b ∷ c ∷ []) long = absurd (omega arith)
as_number (a ∷ b ∷ c ∷ d ∷ []) long = absurd (omega arith)
as_number (a ∷ b ∷ c ∷ d ∷ e ∷ []) long = absurd (omega arith)
as_number (a ∷ b ∷ c ∷ d ∷ e ∷ f ∷ []) long = absurd (omega arith)
as_number (a ∷ b ∷ c ∷ d ∷ e ∷ f ∷ g ∷ []) long = absurd (omega arith)
as_number (a ∷ b ∷ c ∷ d ∷ e ∷ f ∷ g ∷ h ∷ []) long = omega arith
as_number (a ∷ b ∷ c ∷ d ∷ e ∷ f ∷ g ∷ h ∷ i ∷ xs) long = absurd (omega arith)

word_order : (xs ys : List ℕ) → length xs ≡ 8 → length ys ≡ 8 → Small xs → Small ys → nat_cmp (from_be_bytes w64 xs) (from_be_bytes w64 ys) ≡ name_cmp xs ys
word_order xs ys long long' small small' = ap₂ nat_cmp (as_number xs long) (as_number ys long') ∙ number_cmp 0 xs ys (long ∙ sym long') small small'

small_front : (f : List ℕ) → Small f → Small (take 8 f)
small_front f small i = elim (cases_lt i 8) [
  | inl below ↦ rw (get_or-take 8 f i 0 below) (small i)
  | inr past ↦ rw (get_or_past (take 8 f) i 0 (omega (arith, length-take 8 f))) (omega arith)
]

small_rest : (f : List ℕ) → Small f → Small (drop 8 f)
small_rest f small i = rw (get_or-drop 8 f i 0) (small (8 + i))

-- a front of 16 bytes, and its two numbers
pub record IsFront (f : List ℕ) (h l : ℕ) : Type 0 where
  pub long : length f ≡ 16
  pub small : (i : ℕ) → get_or f i 0 < 256
  pub high : h ≡ from_be_bytes w64 (take 8 f)
  pub low : l ≡ from_be_bytes w64 (drop 8 f)

pub numbers_order : (f g : List ℕ) (h l h' l' : ℕ) → IsFront f h l → IsFront g h' l' → ordering_then (nat_cmp h h') (nat_cmp l l') ≡ name_cmp f g
numbers_order f g h l h' l' is is' =
    let a = is.long in
    let b = is'.long in
    let first : nat_cmp h h' ≡ name_cmp (take 8 f) (take 8 g) = ap₂ nat_cmp is.high is'.high ∙ word_order (take 8 f) (take 8 g) (length-take-le 8 f (omega arith)) (length-take-le 8 g (omega arith)) (small_front f is.small) (small_front g is'.small) in
    let next : nat_cmp l l' ≡ name_cmp (drop 8 f) (drop 8 g) = ap₂ nat_cmp is.low is'.low ∙ word_order (drop 8 f) (drop 8 g) (omega (arith, length-drop 8 f)) (omega (arith, length-drop 8 g)) (small_rest f is.small) (small_rest g is'.small) in
    ap₂ ordering_then first next ∙ parts_order 8 f g (a ∙ sym b)

pub unlike_first : (r q : Ordering) → r ≢ Equal → r ≡ ordering_then r q
unlike_first Less q not = refl
unlike_first Equal q not = absurd (not refl)
unlike_first Greater q not = refl

-- the same bytes, by the order of their numbers
pub numbers_alike : (f g : List ℕ) (h l h' l' : ℕ) → IsFront f h l → IsFront g h' l' → h ≡ h' → eqb l l' ≡ name_eq f g
numbers_alike f g h l h' l' is is' same =
    unsigned_ties l l'
    ∙ ap (λ r. is_eq (ordering_then r (nat_cmp l l'))) (sym (equal_is h h' (nat_cmp h h') (ranks h h') same))
    ∙ ap is_eq (numbers_order f g h l h' l' is is')
    ∙ sym (texts_ties f g)

pub numbers_unlike : (f g : List ℕ) (h l h' l' : ℕ) → IsFront f h l → IsFront g h' l' → (h ≡ h' → ⊥) → eqb h h' ≡ name_eq f g
numbers_unlike f g h l h' l' is is' other =
    unsigned_ties h h' ∙ by (nat_cmp h h') (ranks h h') ∙ ap is_eq (numbers_order f g h l h' l' is is') ∙ sym (texts_ties f g)
  where
    by : (r : Ordering) → MatchOrdering r (h < h') (h ≡ h') (h' < h) → is_eq r ≡ is_eq (ordering_then r (nat_cmp l l'))
    by Less s = refl
    by Equal s = absurd (other s)
    by Greater s = refl

-- names that are not long

length_padded : (n : ℕ) (k : List ℕ) → length (padded n k) ≡ n
length_padded zero k = refl
length_padded (suc n) [] = ap suc (length_padded n [])
length_padded (suc n) (x ∷ k) = ap suc (length_padded n k)

pub length_front : (k : List ℕ) → length (front_of k) ≡ 16
unfolding front_of
length_front k = length_padded 16 k

pub short_order : (f g k : List ℕ) (n m : ℕ) → f ≡ front_of k → n ≤ 16 → m ≤ 16 → f ≡ g → nat_cmp n m ≡ name_cmp (take n f) (take m g)
short_order f g k n m is few few' same =
    let long : length f ≡ 16 = ap length is ∙ length_front k in
    subst (λ e. nat_cmp n m ≡ name_cmp (take n f) (take m e)) same (sym (beginnings_order f n m (omega arith) (omega arith)))

pub same_by_order : (f g : List ℕ) → Equal ≡ name_cmp f g → f ≡ g
same_by_order f g is = (bytes_decides f g).0 (texts_ties f g ∙ ap is_eq (sym is))

pub short_alike : (f g k : List ℕ) (n m : ℕ) → f ≡ front_of k → n ≤ 16 → m ≤ 16 → true ≡ name_eq f g → eqb n m ≡ name_eq (take n f) (take m g)
short_alike f g k n m is few few' same = unsigned_ties n m ∙ ap is_eq (short_order f g k n m is few few' ((bytes_decides f g).0 (sym same))) ∙ sym (texts_ties (take n f) (take m g))

pub first_of_front : (k : List ℕ) → slice_index (front_of k) 0 ≡ slice_index k 0
unfolding front_of
first_of_front [] = refl
first_of_front (x ∷ k) = refl

pub fed_short : (k : List ℕ) → length k ≤ 16 → fed k ≡ front_of k ∷ []
unfolding fed
fed_short k few = rw (le-leb (length k) 16 few) refl

pub fed_long : (k : List ℕ) → 16 < length k → fed k ≡ k ∷ []
unfolding fed
fed_long k many = rw (lt-leb (length k) 16 many) refl

take_padded : (n : ℕ) (t : List ℕ) → length t ≤ n → take (length t) (padded n t) ≡ t
take_padded n [] few = refl
take_padded zero (x ∷ t) few = absurd (omega arith)
take_padded (suc n) (x ∷ t) few = ap (λ xs. x ∷ xs) (take_padded n t (omega arith))

pub taken : (t f : List ℕ) (n : ℕ) → f ≡ front_of t → n ≡ length t → length t ≤ 16 → take n f ≡ t
unfolding front_of
taken t f n front long few = rw (front, long) (take_padded 16 t few)

-- a text of at most 16 bytes is kept in the name, and any other whole
pub held_short : (t f : List ℕ) (held : Held) (n hint : ℕ) → is_name t ≡ true → f ≡ front_of t → held ≡ Short n hint f → n ≡ length t → length t ≤ 16 → IsHeld held
held_short t f held n hint name front is long few =
    let all : take n f ≡ t = taken t f n front long few in
    subst IsHeld (sym is) (record { is = subst (λ k. is_name k ≡ true) (sym all) name; fits = (front ∙ ap front_of (sym all), omega arith) })

pub held_long : (t : List ℕ) (held : Held) → is_name t ≡ true → shown held ≡ t → Fits held → IsHeld held
held_long t held name whole fits = record { is = subst (λ k. is_name k ≡ true) (sym whole) name; fits = fits }
