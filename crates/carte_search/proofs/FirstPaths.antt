-- The first goal that the search comes to has the first of all paths.
use Rattle.std.proofs.Common.{◌≡◌, ℕ, zero, suc, ◌≤◌, ◌<◌, true, List, [], ◌∷◌, length, slice_get, Some, refl, sym, subst, inl, inr, ◌⊎◌, arith, Less}
use Rattle.std.proofs.Math.Nat.{eq-or-lt_of_le}
use Rattle.std.proofs.lemmas.Option.{slice_get_within}
use Rattle.carte_value.specs.Truths.{Among}
use Rattle.carte_book.specs.Dynamic.{path_cmp}
use Rattle.carte_search.specs.Paths.{IsFirstPath, IsPath, LeadsToGoal, NoPath}
use Rattle.carte_search.specs.Search.{Graph, HasNodes, IsNode, Unvisited, Trail, unwound}
use Rattle.carte_search.proofs.Trails.{UpTo, up_to_trans, up_to_not_after, up_to_also, up_to_longer, unwound_back, before_by_path}
use Rattle.carte_search.proofs.Searching.{nexts, Found, IsSearch}

at_or_past : (n i : ℕ) → (n ≤ i) ⊎ (i < n)
at_or_past zero i = inl (omega arith)
at_or_past (suc n) zero = inr (omega arith)
at_or_past (suc n) (suc i) = elim (at_or_past n i) [
  | inl past ↦ inl (omega arith)
  | inr before ↦ inr (omega arith)
]

node_of_path : (G : Graph) → HasNodes G.nexts G.is_goal G.nodes → (k : List ℕ) (rest : List (List ℕ)) → LeadsToGoal G.nexts G.is_goal (k ∷ rest) → IsNode G.nodes k
node_of_path G has k [] leads = has.goals k leads
node_of_path G has k (j ∷ rest) leads = has.inner k j leads.0

module _ (G : Graph) (has : HasNodes G.nexts G.is_goal G.nodes) (unvisited : Unvisited) (ts : List Trail) (n : ℕ) (s : IsSearch G unvisited ts n) where
  -- one that wasn't gone on from, and comes no later than p
  pub record Open (p : Trail) : Type 0 where
    pub at : ℕ
    pub trail : Trail
    pub from : n ≤ at
    pub is : slice_get ts at ≡ Some trail
    pub up_to : UpTo trail p

  -- a name that a trail no later than q goes on to was met
  opens : (rest : List (List ℕ)) (k : List ℕ) (p q : Trail) (f : Found G ts k p) → UpTo p q → n ≤ f.at → Open (unwound rest (k ∷ q))
  opens rest k p q f up_to past = record {
    at = f.at;
    trail = k ∷ f.before;
    from = past;
    is = f.is;
    up_to = up_to_trans (k ∷ f.before) (k ∷ q) (unwound rest (k ∷ q)) (up_to_also k f.before q (up_to_trans f.before p q f.up_to up_to)) (up_to_longer rest (k ∷ q));
  }

  -- each path leads past an open one
  comes_to : (rest : List (List ℕ)) (k : List ℕ) (i : ℕ) (p q : Trail) → i < n → slice_get ts i ≡ Some p → UpTo p q → Among (nexts G p) k → LeadsToGoal G.nexts G.is_goal (k ∷ rest) → Open (unwound rest (k ∷ q))
  comes_to [] k i p q below is up_to among leads =
      let f = s.covered i p k below is (node_of_path G has k [] leads) among in
      elim (at_or_past n f.at) [
        | inl past ↦ opens [] k p q f up_to past
        | inr before ↦ absurd (s.passed f.at (k ∷ f.before) before f.is leads)
      ]
  comes_to (j ∷ rest) k i p q below is up_to among leads =
      let f = s.covered i p k below is (node_of_path G has k (j ∷ rest) leads) among in
      elim (at_or_past n f.at) [
        | inl past ↦ opens (j ∷ rest) k p q f up_to past
        | inr before ↦ comes_to rest j f.at (k ∷ f.before) (k ∷ q) before f.is (up_to_also k f.before q (up_to_trans f.before p q f.up_to up_to)) leads.0 leads.1
      ]

  path_opens : 0 < n → (path : List (List ℕ)) → IsPath G.nexts G.is_goal G.starts path → Open (unwound path [])
  path_opens some [] is = absurd is
  path_opens some (k ∷ rest) is = comes_to rest k 0 [] [] some s.root (inl refl) is.0 is.1

  -- where none is open, there is no path
  pub no_path : 0 < n → length ts ≤ n → NoPath G.nexts G.is_goal G.starts
  no_path some all path is = let o = path_opens some path is in omega (arith, o.from, slice_get_within ts o.at o.trail o.is)

  leads_back : (p : Trail) (k : List ℕ) (rest : List (List ℕ)) (i : ℕ) → slice_get ts i ≡ Some (k ∷ p) → LeadsToGoal G.nexts G.is_goal (k ∷ rest) → IsPath G.nexts G.is_goal G.starts (unwound p (k ∷ rest))
  leads_back [] k rest i is leads = let m = s.made i k [] is in (m.among, leads)
  leads_back (j ∷ p) k rest i is leads = let m = s.made i k (j ∷ p) is in leads_back p j (k ∷ rest) m.at m.is (m.among, leads)

  -- the first open one comes before the others
  first_open : (t : Trail) → slice_get ts n ≡ Some t → (q : Trail) → Open q → UpTo t q
  first_open t here q o = elim (eq-or-lt_of_le o.from) [
    | inl same ↦ let there : slice_get ts o.at ≡ Some t = rw (← same) here in let found = o.is in let one : t ≡ o.trail = cc in subst (λ (u : Trail). UpTo u q) (sym one) o.up_to
    | inr later ↦ up_to_trans t o.trail q (inr (s.rising n o.at t o.trail later here o.is)) o.up_to
  ]

  pub first_path : 0 < n → (k : List ℕ) (p : Trail) → slice_get ts n ≡ Some (k ∷ p) → G.is_goal k → IsFirstPath G.nexts G.is_goal G.starts (unwound (k ∷ p) [])
  first_path some k p here goal = record {
    is_path = leads_back p k [] n here goal;
    first = λ other is less. up_to_not_after (k ∷ p) (unwound other []) (first_open (k ∷ p) here (unwound other []) (path_opens some other is))
        (before_by_path (unwound other []) (k ∷ p) (subst (λ (path : List (List ℕ)). path_cmp path (unwound (k ∷ p) []) ≡ Less) (sym (unwound_back other [])) less));
  }
