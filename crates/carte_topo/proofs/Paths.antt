-- Paths of frames, unwound from the oldest on.
use Rattle.std.proofs.Common.{◌≡◌, ℕ, List, [], ◌∷◌, ◌++◌, None, refl, ap, sym, ◌∙◌, inl, inr, ◌⊎◌, append_assoc}
use Rattle.carte_value.specs.Truths.{Among, NoneTwice}
use Rattle.carte_value.proofs.Asks.{stop_kept}
use Rattle.carte_tree.specs.Meaning.{asks}
use Rattle.carte_book.specs.Book.{Book, content, clean}
use Rattle.carte_book.specs.Reason.{StuckAt, GoesRound, GoesAstray}
use Rattle.carte_book.specs.Dynamic.{LeadsToDynamic, refs}
use Rattle.carte_book.proofs.Clean.{IsHeld, no_clean}
use Rattle.carte_topo.specs.declared.walk.Frame.{Frame}
use Rattle.carte_topo.specs.Walk.{Path, names, unwound}
use Rattle.carte_topo.specs.Between.{StopsAt, StopsInTurn, EndsWith}

unwound_last : (p : Path) (f : Frame) (ks : List (List ℕ)) → unwound (names (p ++ f ∷ [])) ks ≡ f.name ∷ unwound (names p) ks
unwound_last [] f ks = refl
unwound_last (g ∷ p) f ks = unwound_last p f (g.name ∷ ks)

-- the oldest name moves from the path to what was unwound
pub unwound_more : (ns ns' : List (List ℕ)) (p p' : Path) (f : Frame) (ks all : List (List ℕ)) → ns' ≡ ns ++ f.name ∷ [] → p ≡ p' ++ f ∷ [] → ns ++ unwound (names p) ks ≡ all → ns' ++ unwound (names p') ks ≡ all
unwound_more ns ns' p p' f ks all grown shrunk so =
    rw grown (append_assoc ns (f.name ∷ []) (unwound (names p') ks) ∙ ap (λ us. ns ++ us) (sym (unwound_last p' f ks)) ∙ ap (λ q. ns ++ unwound (names q) ks) (sym shrunk) ∙ so)

held_in : (b : Book) (k : List ℕ) (js : List (List ℕ)) → StopsInTurn b k js → (q : List ℕ) → Among js q → (j : List ℕ) × StopsAt b q j × (Among js j ⊎ (j ≡ k))
held_in b k [] chain q among = absurd among
held_in b k (j ∷ js) chain q among = elim among [
  | inl same ↦ (k, (rw same chain.0), inr refl)
  | inr later ↦ deeper (held_in b j js chain.1 q later)
]
  where
    deeper : (i : List ℕ) × StopsAt b q i × (Among js i ⊎ (i ≡ j)) → (i : List ℕ) × StopsAt b q i × (Among (j ∷ js) i ⊎ (i ≡ k))
    deeper h = (
      h.0,
      h.1,
      elim h.2 [
        | inl on ↦ inl (inr on)
        | inr is ↦ inl (inl is)
      ],
    )

-- no name of a chain that ends in nothing, or goes round, has a clean value
pub none_clean : (b : Book) (k : List ℕ) (js : List (List ℕ)) → StopsInTurn b k js → (content b k ≡ None) ⊎ Among js k → (q : List ℕ) → Among js q ⊎ (q ≡ k) → clean b q ≡ None
none_clean b k js chain ends = no_clean b (λ q. Among js q ⊎ (q ≡ k)) held
  where
    on_path : (q : List ℕ) → Among js q → IsHeld b (λ q. Among js q ⊎ (q ≡ k)) q
    on_path q among =
        let h = held_in b k js chain q among in
        inr (h.1.formula, h.1.is_rule, h.1.known, h.1.below, h.0, h.1.stops, h.2)

    held : (q : List ℕ) → Among js q ⊎ (q ≡ k) → IsHeld b (λ q. Among js q ⊎ (q ≡ k)) q
    held q (inl among) = on_path q among
    held q (inr is) = elim ends [
      | inl nothing ↦ inl (rw is nothing)
      | inr among ↦ on_path q (rw is among)
    ]

stuck : (b : Book) (j k : List ℕ) → clean b k ≡ None → StopsAt b j k → StuckAt b j k
stuck b j k none s = (s.formula, s.is_rule, stop_kept s.known (clean b) (asks b.kind s.formula) k s.below none s.stops)

pub round_unwound : (b : Book) (k : List ℕ) (js ks : List (List ℕ)) → ((q : List ℕ) → Among js q ⊎ (q ≡ k) → clean b q ≡ None) → NoneTwice js → StopsInTurn b k js → GoesRound b js (k ∷ ks) → GoesRound b [] (unwound js (k ∷ ks))
round_unwound b k [] ks none once chain goes = goes
round_unwound b k (j ∷ js) ks none once chain goes =
    round_unwound b j js (k ∷ ks) (λ q h. elim h [
      | inl among ↦ none q (inl (inr among))
      | inr is ↦ none q (inl (inl is))
    ]) once.1 chain.1 (once.0, stuck b j k (none k (inr refl)) chain.0, goes)

pub astray_unwound : (b : Book) (k : List ℕ) (js ks : List (List ℕ)) → ((q : List ℕ) → Among js q ⊎ (q ≡ k) → clean b q ≡ None) → NoneTwice js → StopsInTurn b k js → GoesAstray b js (k ∷ ks) → GoesAstray b [] (unwound js (k ∷ ks))
astray_unwound b k [] ks none once chain goes = goes
astray_unwound b k (j ∷ js) ks none once chain goes =
    astray_unwound b j js (k ∷ ks) (λ q h. elim h [
      | inl among ↦ none q (inl (inr among))
      | inr is ↦ none q (inl (inl is))
    ]) once.1 chain.1 (once.0, stuck b j k (none k (inr refl)) chain.0, goes)

-- a chain leads to a dynamic rule where its newest name does
pub leads_unwound : (b : Book) (k : List ℕ) (js ks : List (List ℕ)) → StopsInTurn b k js → LeadsToDynamic b (k ∷ ks) → LeadsToDynamic b (unwound js (k ∷ ks))
leads_unwound b k [] ks chain leads = leads
leads_unwound b k (j ∷ js) ks chain leads =
    leads_unwound b j js (k ∷ ks) chain.1 ((chain.0.formula, chain.0.is_rule, chain.0.is_static), refers, leads)
  where
    refers : Among (refs b j) k
    refers = rw chain.0.is_rule chain.0.named

-- the oldest name comes first
pub unwound_from : (goal : List ℕ) (j : List ℕ) (js ks : List (List ℕ)) → EndsWith goal (j ∷ js) → (rest : List (List ℕ)) × (unwound (j ∷ js) ks ≡ goal ∷ rest)
unwound_from goal j [] ks ends = (ks, ap (λ i. i ∷ ks) ends)
unwound_from goal j (i ∷ js) ks ends = unwound_from goal i js (j ∷ ks) ends

pub oldest_among : (goal : List ℕ) (j : List ℕ) (js : List (List ℕ)) → EndsWith goal (j ∷ js) → Among (j ∷ js) goal
oldest_among goal j [] ends = inl (sym ends)
oldest_among goal j (i ∷ js) ends = inr (oldest_among goal i js ends)
