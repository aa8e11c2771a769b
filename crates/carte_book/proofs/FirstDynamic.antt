-- Where written references lead from the targets to a dynamic rule, one of the paths comes first.
use Rattle.std.proofs.Common.{◌≡◌, ℕ, zero, suc, ◌≤◌, ◌<◌, Bool, true, false, List, [], ◌∷◌, ◌++◌, map, length, Option, Some, None, refl, ap, sym, ◌∙◌, subst, inl, inr, ◌⊎◌, arith, Ordering, Less, Equal, Greater}
use Rattle.std.specs.Ordering.{nat_cmp}
use Rattle.std.specs.Cmp.Lexicographic.{slice_cmp, lists_total}
use Rattle.std.proofs.lemmas.Bool.{cases_lt}
use Rattle.std.proofs.lemmas.Cmp.{nat_list_cmp_total, ranked, tied_itself}
use Rattle.carte_name.specs.Names.{name_cmp}
use Rattle.carte_value.specs.Lists.{Has}
use Rattle.carte_value.specs.Truths.{Among, NoneTwice}
use Rattle.carte_value.proofs.Members.{has_left, has_right, no_longer}
use Rattle.carte_tree.specs.Tree.{Tree}
use Rattle.carte_tree.specs.Formula.{is_static_tree}
use Rattle.carte_book.specs.Book.{Item, input, rule, Book, content, rules_of}
use Rattle.carte_book.specs.Dynamic.{refs, IsStaticRule, IsDynamicRule, LeadsToDynamic, IsDynamicPath, NoDynamicPath, or_then, path_cmp, IsFirstDynamicPath, OrderCleanOrReason}
use Rattle.carte_book.specs.Stuck.{CleanOrReason}
use Rattle.carte_book.specs.declared.reason.Reason.TheVariants.{Cycle, Missing, Dynamic}
use Rattle.carte_book.proofs.Reasoned.{is_among_or_not, names_among, rule_listed, reason_or_clean}

abbrev Path : Type 0
Path = List (List ℕ)

abbrev Decided : Type 0 → Type 0
Decided P = P ⊎ (¬ P)

-- ---- the order of paths

abbrev Sooner : Path → Path → Type 0
Sooner p q = (length p < length q) ⊎ ((length p ≡ length q) × (slice_cmp name_cmp p q ≡ Less))

less_is_sooner : (p q : Path) → path_cmp p q ≡ Less → Sooner p q
less_is_sooner p q = by (nat_cmp (length p) (length q)) refl
  where
    by : (o : Ordering) → o ≡ nat_cmp (length p) (length q) → or_then o (slice_cmp name_cmp p q) ≡ Less → Sooner p q
    by Less is h = inl (ranked (length p) (length q) Less is)
    by Equal is h = inr (ranked (length p) (length q) Equal is, h)
    by Greater is h = cc

sooner_trans : (p q r : Path) → Sooner p q → Sooner q r → Sooner p r
sooner_trans p q r (inl h) (inl g) = inl (omega arith)
sooner_trans p q r (inl h) (inr g) = let same : length q ≡ length r = g.0 in inl (omega arith)
sooner_trans p q r (inr h) (inl g) = let same : length p ≡ length q = h.0 in inl (omega arith)
sooner_trans p q r (inr h) (inr g) = inr (h.0 ∙ g.0, (lists_total nat_list_cmp_total).trans p q r h.1 g.1)

not_itself : (p : Path) → ¬ (Sooner p p)
not_itself p (inl h) = omega arith
not_itself p (inr h) = let tied : slice_cmp name_cmp p p ≡ Equal = tied_itself (lists_total nat_list_cmp_total) p in let less = h.1 in cc

sooner_or_not : (p q : Path) → Decided (Sooner p q)
sooner_or_not p q = elim (cases_lt (length p) (length q)) [
  | inl shorter ↦ inl (inl shorter)
  | inr most ↦ elim (cases_lt (length q) (length p)) [
    | inl longer ↦ inr (λ s. elim s [
      | inl h ↦ omega arith
      | inr h ↦ let same : length p ≡ length q = h.0 in omega arith
    ])
    | inr least ↦ by (slice_cmp name_cmp p q) refl (let same : length p ≡ length q = omega arith in same)
  ]
]
  where
    by : (o : Ordering) → slice_cmp name_cmp p q ≡ o → length p ≡ length q → Decided (Sooner p q)
    by Less is same = inl (inr (same, is))
    by Equal is same = inr (λ s. elim s [
      | inl h ↦ omega arith
      | inr h ↦ let less = h.1 in cc
    ])
    by Greater is same = inr (λ s. elim s [
      | inl h ↦ omega arith
      | inr h ↦ let less = h.1 in cc
    ])

-- ---- of the paths in a list that have a property, the first

record First (P : Path → Type 0) (ps : List Path) : Type 0 where
  pub path : Path
  pub has : P path
  pub first : (q : Path) → Has ps q → P q → ¬ (Sooner q path)

abbrev FirstOrNone : (Path → Type 0) → List Path → Type 0
FirstOrNone P ps = First P ps ⊎ ((q : Path) → Has ps q → ¬ (P q))

first_with : (P : Path → Type 0) (p : Path) (ps : List Path) → P p → FirstOrNone P ps → First P (p ∷ ps)
first_with P p ps here (inr none) = record {
  path = p;
  has = here;
  first = λ q h so. elim h [
    | inl same ↦ subst (λ (r : Path). ¬ (Sooner r p)) (sym same) (not_itself p)
    | inr later ↦ absurd (none q later so)
  ];
}
first_with P p ps here (inl f) = elim (sooner_or_not p f.path) [
  | inl sooner ↦ record {
    path = p;
    has = here;
    first = λ q h so. elim h [
      | inl same ↦ subst (λ (r : Path). ¬ (Sooner r p)) (sym same) (not_itself p)
      | inr later ↦ λ s. f.first q later so (sooner_trans q p f.path s sooner)
    ];
  }
  | inr not ↦ record {
    path = f.path;
    has = f.has;
    first = λ q h so. elim h [
      | inl same ↦ subst (λ (r : Path). ¬ (Sooner r f.path)) (sym same) not
      | inr later ↦ f.first q later so
    ];
  }
]

first_without : (P : Path → Type 0) (p : Path) (ps : List Path) → ¬ (P p) → FirstOrNone P ps → FirstOrNone P (p ∷ ps)
first_without P p ps un (inl f) = inl (record {
  path = f.path;
  has = f.has;
  first = λ q h so. elim h [
    | inl same ↦ absurd (un (subst P same so))
    | inr later ↦ f.first q later so
  ];
})
first_without P p ps un (inr none) = inr (λ q h so. elim h [
  | inl same ↦ un (subst P same so)
  | inr later ↦ none q later so
])

first_in : (P : Path → Type 0) → ((p : Path) → Decided (P p)) → (ps : List Path) → FirstOrNone P ps
first_in P decide [] = inr (λ q h so. h)
first_in P decide (p ∷ ps) = elim (decide p) [
  | inl here ↦ inl (first_with P p ps here (first_in P decide ps))
  | inr un ↦ first_without P p ps un (first_in P decide ps)
]

-- ---- walks along written references

fronted : List ℕ → List Path → List Path
fronted k ps = (k ∷ []) ∷ map (λ p. k ∷ p) ps

gathered : (List ℕ → List Path) → List (List ℕ) → List Path
gathered f [] = []
gathered f (k ∷ ks) = f k ++ gathered f ks

in_fronted : (k : List ℕ) (ps : List Path) (p : Path) → Has ps p → Has (map (λ q. k ∷ q) ps) (k ∷ p)
in_fronted k [] p h = absurd h
in_fronted k (q ∷ ps) p h = elim h [
  | inl same ↦ inl (ap (λ (r : Path). k ∷ r) same)
  | inr later ↦ inr (in_fronted k ps p later)
]

in_gathered : (f : List ℕ → List Path) (ks : List (List ℕ)) (k : List ℕ) (p : Path) → Among ks k → Has (f k) p → Has (gathered f ks) p
unfolding gathered
in_gathered f [] k p among h = absurd among
in_gathered f (j ∷ ks) k p among h = elim among [
  | inl same ↦ has_left (f j) (gathered f ks) p (subst (λ (i : List ℕ). Has (f i) p) same h)
  | inr later ↦ has_right (f j) (gathered f ks) p (in_gathered f ks k p later h)
]

module _ (b : Book) where
  -- all of at most so many names that begin with one of these
  walks : ℕ → List (List ℕ) → List Path
  walks zero ks = []
  walks (suc n) ks = gathered (λ k. fronted k (walks n (refs b k))) ks

  walked : (n : ℕ) (ks : List (List ℕ)) (k : List ℕ) (rest : Path) → Among ks k → LeadsToDynamic b (k ∷ rest) → length (k ∷ rest) ≤ n → Has (walks n ks) (k ∷ rest)
  unfolding walks fronted
  walked zero ks k rest among leads most = absurd (omega arith)
  walked (suc n) ks k [] among leads most = in_gathered (λ i. fronted i (walks n (refs b i))) ks k (k ∷ []) among (inl refl)
  walked (suc n) ks k (j ∷ js) among leads most =
      in_gathered (λ i. fronted i (walks n (refs b i))) ks k (k ∷ j ∷ js) among (inr (in_fronted k (walks n (refs b k)) (j ∷ js) (walked n (refs b k) j js leads.1 leads.2 (omega arith))))

  -- ---- what is a path can be told

  dynamic_or_not : (k : List ℕ) → Decided (IsDynamicRule b k)
  dynamic_or_not k = at (content b k) refl
    where
      by : (e : Tree) (t : Bool) → content b k ≡ Some (rule e) → is_static_tree e ≡ t → Decided (IsDynamicRule b k)
      by e false is dynamic = inl (e, is, dynamic)
      by e true is static = inr (λ d. let at_other = d.1 in let other = d.2 in let same : e ≡ d.0 = cc in let both : true ≡ false = sym static ∙ ap is_static_tree same ∙ other in cc)

      at : (o : Option Item) → content b k ≡ o → Decided (IsDynamicRule b k)
      at None is = inr (λ d. let at_other = d.1 in cc)
      at (Some (input v)) is = inr (λ d. let at_other = d.1 in cc)
      at (Some (rule e)) is = by e (is_static_tree e) is refl

  static_or_not : (k : List ℕ) → Decided (IsStaticRule b k)
  static_or_not k = at (content b k) refl
    where
      by : (e : Tree) (t : Bool) → content b k ≡ Some (rule e) → is_static_tree e ≡ t → Decided (IsStaticRule b k)
      by e true is static = inl (e, is, static)
      by e false is dynamic = inr (λ d. let at_other = d.1 in let other = d.2 in let same : e ≡ d.0 = cc in let both : false ≡ true = sym dynamic ∙ ap is_static_tree same ∙ other in cc)

      at : (o : Option Item) → content b k ≡ o → Decided (IsStaticRule b k)
      at None is = inr (λ d. let at_other = d.1 in cc)
      at (Some (input v)) is = inr (λ d. let at_other = d.1 in cc)
      at (Some (rule e)) is = by e (is_static_tree e) is refl

  leads_or_not : (p : Path) → Decided (LeadsToDynamic b p)
  leads_or_not [] = inr (λ h. h)
  leads_or_not (k ∷ []) = dynamic_or_not k
  leads_or_not (k ∷ j ∷ ks) = elim (static_or_not k) [
    | inr un ↦ inr (λ h. un h.0)
    | inl static ↦ elim (is_among_or_not (refs b k) j) [
      | inr un ↦ inr (λ h. un h.1)
      | inl among ↦ elim (leads_or_not (j ∷ ks)) [
        | inr un ↦ inr (λ h. un h.2)
        | inl leads ↦ inl (static, among, leads)
      ]
    ]
  ]

  path_or_not : (targets : List (List ℕ)) (p : Path) → Decided (IsDynamicPath b targets p)
  path_or_not targets [] = inr (λ h. h)
  path_or_not targets (k ∷ ks) = elim (is_among_or_not targets k) [
    | inr un ↦ inr (λ h. un h.0)
    | inl among ↦ elim (leads_or_not (k ∷ ks)) [
      | inr un ↦ inr (λ h. un h.1)
      | inl leads ↦ inl (among, leads)
    ]
  ]

  -- ---- a path that goes round can be cut short

  record Short (k : List ℕ) : Type 0 where
    pub rest : Path
    pub leads : LeadsToDynamic b (k ∷ rest)
    pub once : NoneTwice (k ∷ rest)

  from_there : (p : Path) (k : List ℕ) → Among p k → LeadsToDynamic b p → NoneTwice p → Short k
  from_there [] k among leads once = absurd among
  from_there (j ∷ []) k among leads once = elim among [
    | inl same ↦ subst Short (sym same) (record { rest = []; leads = leads; once = once })
    | inr never ↦ absurd never
  ]
  from_there (j ∷ i ∷ is) k among leads once = elim among [
    | inl same ↦ subst Short (sym same) (record { rest = i ∷ is; leads = leads; once = once })
    | inr later ↦ from_there (i ∷ is) k later leads.2 once.1
  ]

  cut_short : (k : List ℕ) (ks : Path) → LeadsToDynamic b (k ∷ ks) → Short k
  cut_short k [] leads = record { rest = []; leads = leads; once = ((λ h. h), tt) }
  cut_short k (j ∷ js) leads = with_front (cut_short j js leads.2)
    where
      with_front : Short j → Short k
      with_front s = elim (is_among_or_not (j ∷ s.rest) k) [
        | inl among ↦ from_there (j ∷ s.rest) k among s.leads s.once
        | inr new ↦ record { rest = j ∷ s.rest; leads = (leads.0, leads.1, s.leads); once = (new, s.once) }
      ]

  all_listed : (p : Path) → LeadsToDynamic b p → (q : List ℕ) → Among p q → Among (names_among (rules_of b)) q
  all_listed [] leads q among = absurd among
  all_listed (k ∷ []) leads q among = elim among [
    | inl same ↦ rw same (rule_listed b k leads.0 leads.1)
    | inr never ↦ absurd never
  ]
  all_listed (k ∷ j ∷ ks) leads q among = elim among [
    | inl same ↦ rw same (rule_listed b k leads.0.0 leads.0.1)
    | inr later ↦ all_listed (j ∷ ks) leads.2 q later
  ]

  most_names : ℕ
  most_names = length (names_among (rules_of b))

  -- each path has one among the walks that doesn't come behind it
  record Among_walks (targets : List (List ℕ)) (p : Path) : Type 0 where
    pub other : Path
    pub is_path : IsDynamicPath b targets other
    pub walk : Has (walks most_names targets) other
    pub upto : (other ≡ p) ⊎ Sooner other p

  among_walks : (targets : List (List ℕ)) (p : Path) → IsDynamicPath b targets p → Among_walks targets p
  unfolding most_names
  among_walks targets [] is = absurd is
  among_walks targets (k ∷ ks) is = elim (cases_lt (length (names_among (rules_of b))) (length (k ∷ ks))) [
    | inr few ↦ record { other = k ∷ ks; is_path = is; walk = walked (length (names_among (rules_of b))) targets k ks is.0 is.1 few; upto = inl refl }
    | inl many ↦ shortened many (cut_short k ks is.1)
  ]
    where
      shortened : length (names_among (rules_of b)) < length (k ∷ ks) → Short k → Among_walks targets (k ∷ ks)
      shortened many s =
          let few : length (k ∷ s.rest) ≤ length (names_among (rules_of b)) = no_longer (k ∷ s.rest) (names_among (rules_of b)) s.once (all_listed (k ∷ s.rest) s.leads) in
          record { other = k ∷ s.rest; is_path = (is.0, s.leads); walk = walked (length (names_among (rules_of b))) targets k s.rest is.0 s.leads few; upto = inr (inl (omega arith)) }

  first_or_none : (targets : List (List ℕ)) → ((path : Path) × IsFirstDynamicPath b targets path) ⊎ NoDynamicPath b targets
  first_or_none targets = elim (first_in (IsDynamicPath b targets) (path_or_not targets) (walks most_names targets)) [
    | inr none ↦ inr (λ path is. let w = among_walks targets path is in none w.other w.walk w.is_path)
    | inl f ↦ inl (f.path, record { is_path = f.has; first = λ other is less. before f other is (less_is_sooner other f.path less) })
  ]
    where
      before : (f : First (IsDynamicPath b targets) (walks most_names targets)) (q : Path) → IsDynamicPath b targets q → ¬ (Sooner q f.path)
      before f q is sooner =
          let w = among_walks targets q is in
          f.first w.other w.walk w.is_path (elim w.upto [
            | inl same ↦ subst (λ (r : Path). Sooner r f.path) (sym same) sooner
            | inr s ↦ sooner_trans w.other q f.path s sooner
          ])

  behind_none : (targets : List (List ℕ)) → NoDynamicPath b targets → CleanOrReason b targets → OrderCleanOrReason b targets
  behind_none targets none (inl all) = inl (none, all)
  behind_none targets none (inr (Cycle path, why)) = inr (Cycle path, (none, why))
  behind_none targets none (inr (Missing path, why)) = inr (Missing path, (none, why))
  behind_none targets none (inr (Dynamic path, never)) = absurd never

  pub order_reason_or_clean : (targets : List (List ℕ)) → OrderCleanOrReason b targets
  order_reason_or_clean targets = elim (first_or_none targets) [
    | inl found ↦ inr (Dynamic found.0, found.1)
    | inr none ↦ behind_none targets none (reason_or_clean b targets)
  ]
