-- There is one reason at most, and none where every target has a clean value.
use Rattle.std.proofs.Common.{◌≡◌, ℕ, List, [], ◌∷◌, Err, refl, subst, inl, inr}
use Rattle.carte_value.specs.Truths.{Among}
use Rattle.carte_tree.specs.Meaning.{eval}
use Rattle.carte_book.specs.Book.{Book, clean}
use Rattle.carte_book.specs.Needs.{IsRule}
use Rattle.carte_book.specs.Reason.{AllClean, StuckAt, Begins, GoesRound, GoesAstray, IsReason}
use Rattle.carte_book.specs.declared.reason.Reason.{Reason}
use Rattle.carte_book.specs.declared.reason.Reason.TheVariants.{Cycle, Missing, Dynamic}

begins_same : (b : Book) (ts : List (List ℕ)) (j i : List ℕ) (p q : List (List ℕ)) → Begins b ts (j ∷ p) → Begins b ts (i ∷ q) → j ≡ i
begins_same b [] j i p q h g = absurd h
begins_same b (k ∷ ks) j i p q h g = elim h [
  | inl here ↦ elim g [
    | inl there ↦ cc
    | inr past ↦ let e = past.0.1 in cc
  ]
  | inr past ↦ elim g [
    | inl there ↦ let e = past.0.1 in cc
    | inr on ↦ begins_same b ks j i p q past.1 on.1
  ]
]

stuck_same : (b : Book) (k j i : List ℕ) → StuckAt b k j → StuckAt b k i → j ≡ i
stuck_same b k j i h g =
    let e : h.0 ≡ g.0 = cc in
    let r : eval b.kind (clean b) g.0 ≡ Err j = rw e at h.2 in
    cc

-- the names seen are rules
AreRules : Book → List (List ℕ) → Type 0
AreRules b seen = (j : List ℕ) → Among seen j → IsRule b j

rules_more : (b : Book) (k j : List ℕ) (seen : List (List ℕ)) → StuckAt b k j → AreRules b seen → AreRules b (k ∷ seen)
unfolding AreRules
rules_more b k j seen stuck rules i among = elim among [
  | inl same ↦ (stuck.0, rw same stuck.1)
  | inr later ↦ rules i later
]

round_same : (b : Book) (seen : List (List ℕ)) (k : List ℕ) (p q : List (List ℕ)) → GoesRound b seen (k ∷ p) → GoesRound b seen (k ∷ q) → p ≡ q
round_same b seen k [] [] h g = refl
round_same b seen k [] (i ∷ q) h g = absurd (g.0 h)
round_same b seen k (j ∷ p) [] h g = absurd (h.0 g)
round_same b seen k (j ∷ p) (i ∷ q) h g =
    let e : i ≡ j = stuck_same b k i j g.1 h.1 in
    let there : GoesRound b (k ∷ seen) (j ∷ q) = subst (λ (x : List ℕ). GoesRound b (k ∷ seen) (x ∷ q)) e g.2 in
    let rest : p ≡ q = round_same b (k ∷ seen) j p q h.2 there in
    cc

astray_same : (b : Book) (seen : List (List ℕ)) (k : List ℕ) (p q : List (List ℕ)) → GoesAstray b seen (k ∷ p) → GoesAstray b seen (k ∷ q) → p ≡ q
astray_same b seen k [] [] h g = refl
astray_same b seen k [] (i ∷ q) h g = let e = g.1.1 in cc
astray_same b seen k (j ∷ p) [] h g = let e = h.1.1 in cc
astray_same b seen k (j ∷ p) (i ∷ q) h g =
    let e : i ≡ j = stuck_same b k i j g.1 h.1 in
    let there : GoesAstray b (k ∷ seen) (j ∷ q) = subst (λ (x : List ℕ). GoesAstray b (k ∷ seen) (x ∷ q)) e g.2 in
    let rest : p ≡ q = astray_same b (k ∷ seen) j p q h.2 there in
    cc

not_both : (b : Book) (seen : List (List ℕ)) (k : List ℕ) (p q : List (List ℕ)) → AreRules b seen → GoesRound b seen (k ∷ p) → GoesAstray b seen (k ∷ q) → ⊥
unfolding AreRules
not_both b seen k [] [] rules h g = let has = rules k h in let e = has.1 in cc
not_both b seen k [] (i ∷ q) rules h g = g.0 h
not_both b seen k (j ∷ p) [] rules h g = let e = h.1.1 in cc
not_both b seen k (j ∷ p) (i ∷ q) rules h g =
    let e : i ≡ j = stuck_same b k i j g.1 h.1 in
    let there : GoesAstray b (k ∷ seen) (j ∷ q) = subst (λ (x : List ℕ). GoesAstray b (k ∷ seen) (x ∷ q)) e g.2 in
    not_both b (k ∷ seen) j p q (rules_more b k j seen h.1 rules) h.2 there

none_seen : (b : Book) → AreRules b []
unfolding AreRules
none_seen b j among = absurd among

no_start : (b : Book) (ts : List (List ℕ)) → Begins b ts [] → ⊥
no_start b [] h = h
no_start b (k ∷ ks) h = h

pub one_reason : (b : Book) (ts : List (List ℕ)) (r s : Reason) → IsReason b ts r → IsReason b ts s → r ≡ s
one_reason b ts (Dynamic path) s h g = absurd h
one_reason b ts r (Dynamic path) h g = absurd g
one_reason b ts (Cycle []) s h g = absurd (h.1)
one_reason b ts (Missing []) s h g = absurd (h.1)
one_reason b ts r (Cycle []) h g = absurd (g.1)
one_reason b ts r (Missing []) h g = absurd (g.1)
one_reason b ts (Cycle (k ∷ p)) (Cycle (j ∷ q)) h g =
    let e : j ≡ k = begins_same b ts j k q p g.0 h.0 in
    let there : GoesRound b [] (k ∷ q) = subst (λ (x : List ℕ). GoesRound b [] (x ∷ q)) e g.1 in
    let rest : p ≡ q = round_same b [] k p q h.1 there in
    cc
one_reason b ts (Missing (k ∷ p)) (Missing (j ∷ q)) h g =
    let e : j ≡ k = begins_same b ts j k q p g.0 h.0 in
    let there : GoesAstray b [] (k ∷ q) = subst (λ (x : List ℕ). GoesAstray b [] (x ∷ q)) e g.1 in
    let rest : p ≡ q = astray_same b [] k p q h.1 there in
    cc
one_reason b ts (Cycle (k ∷ p)) (Missing (j ∷ q)) h g =
    let e : j ≡ k = begins_same b ts j k q p g.0 h.0 in
    let there : GoesAstray b [] (k ∷ q) = subst (λ (x : List ℕ). GoesAstray b [] (x ∷ q)) e g.1 in
    absurd (not_both b [] k p q (none_seen b) h.1 there)
one_reason b ts (Missing (k ∷ p)) (Cycle (j ∷ q)) h g =
    let e : j ≡ k = begins_same b ts j k q p g.0 h.0 in
    let there : GoesRound b [] (k ∷ q) = subst (λ (x : List ℕ). GoesRound b [] (x ∷ q)) e g.1 in
    absurd (not_both b [] k q p (none_seen b) there h.1)

-- a path begins with a target that has no clean value
begins_stuck : (b : Book) (ts path : List (List ℕ)) → Begins b ts path → AllClean b ts → ⊥
begins_stuck b [] path h all = h
begins_stuck b (k ∷ ks) [] h all = h
begins_stuck b (k ∷ ks) (j ∷ js) h all = elim h [
  | inl here ↦ let e = all.0.1 in cc
  | inr past ↦ begins_stuck b ks (j ∷ js) past.1 all.1
]

pub no_reason : (b : Book) (ts : List (List ℕ)) (r : Reason) → IsReason b ts r → AllClean b ts → ⊥
no_reason b ts (Cycle path) h all = begins_stuck b ts path h.0 all
no_reason b ts (Missing path) h all = begins_stuck b ts path h.0 all
no_reason b ts (Dynamic path) h all = h
