-- Where the kept chain is right, the needs of each name of the list stand before it.
use Rattle.std.proofs.Common.{◌≡◌, ◌⊎◌, ℕ, List, [], ◌∷◌, ◌++◌, Option, Some, None, refl, ap, sym, ◌∙◌, subst, inl, inr}
use Rattle.carte_value.specs.Truths.{Among, NoneTwice}
use Rattle.carte_value.proofs.Members.{among_append, among_left, among_right}
use Rattle.carte_book.specs.Book.{Item, input, rule, Book, content}
use Rattle.carte_book.specs.Edits.{IsInput}
use Rattle.carte_book.specs.Needs as book_needs
use Rattle.carte_book.specs.Needs.{IsRule, IsReachedRule, Reaches, needs}
use Rattle.carte_book.specs.Reason.{AllClean}
use Rattle.carte_book.proofs.Clean.{clean_nothing}
use Rattle.carte_record.specs.declared.entry.Entry.{Entry}
use Rattle.carte_record.specs.Kept.{SomeKept}
use Rattle.carte_sound.specs.Base.{IsBase}
use Rattle.carte_sound.specs.Chains.{ArePicked, IsFirstList, IsRightChain, StandsBefore}
use Rattle.carte_sound.specs.Marks as marks
use Rattle.carte_sound.specs.Marks.{Leads}
use Rattle.carte_sound.specs.Treated.{IsLedRule, IsLedTo}
use Rattle.carte_sound.proofs.Reached.{needing_rule, reached_clean}
use Rattle.carte_restart.specs.Straight.{IsPrepared, NeedsAmong}
use Rattle.carte_restart.proofs.Leading.{leads_need}
use Rattle.carte_restart.proofs.Picking.{first_each}

-- lists that are prepared

no_parts : (before after : List (List ℕ)) (k : List ℕ) → [] ≡ before ++ k ∷ after → ⊥
no_parts [] after k is = cc
no_parts (x ∷ xs) after k is = cc

prepared_none : (b : Book) (others : List (List ℕ)) → IsPrepared b others []
prepared_none b others before after k is is_rule = absurd (no_parts before after k is)

passed : (xs others : List (List ℕ)) (x j : List ℕ) → Among (xs ++ x ∷ others) j → (j ≡ x) ⊎ Among (xs ++ others) j
passed xs others x j here = elim (among_append xs (x ∷ others) j here) [
  | inl first ↦ inr (among_left xs others j first)
  | inr then ↦ elim then [
    | inl same ↦ inl same
    | inr later ↦ inr (among_right xs others j later)
  ]
]

prepared_next : (b : Book) (others zs : List (List ℕ)) (x : List ℕ) → (IsRule b x → NeedsAmong b others x) → IsPrepared b (x ∷ others) zs → IsPrepared b others (x ∷ zs)
prepared_next b others zs x here rest [] after k is is_rule =
    let same : x ≡ k = cc in
    subst (NeedsAmong b others) same (here (subst (IsRule b) (sym same) is_rule))
prepared_next b others zs x here rest (y ∷ ys) after k is is_rule =
    let same : x ≡ y = cc in
    let tail : zs ≡ ys ++ k ∷ after = cc in
    λ j need. elim (rest ys after k tail is_rule j need) [
      | inl given ↦ inl given
      | inr (held, among) ↦ inr (
        held,
        elim (passed ys others x j among) [
          | inl first ↦ inl (first ∙ same)
          | inr later ↦ inr later
        ],
      )
    ]

-- where all have their needs among the others
prepared_all : (b : Book) (others ks : List (List ℕ)) → ((k : List ℕ) → Among ks k → IsRule b k → NeedsAmong b others k) → IsPrepared b others ks
prepared_all b others ks all before after k is is_rule j need = elim (all k (subst (λ xs. Among xs k) (sym is) (among_right before (k ∷ after) k (inl refl))) is_rule j need) [
  | inl given ↦ inl given
  | inr (held, among) ↦ inr (held, among_right before others j among)
]

stands_behind : (xs : List (List ℕ)) (j k : List ℕ) → StandsBefore xs j k → Among xs k
stands_behind [] j k never = absurd never
stands_behind (x ∷ xs) j k (inl here) = inr here.1
stands_behind (x ∷ xs) j k (inr later) = inr (stands_behind xs j k later)

-- picked from an order in which needs stand first
module _ (b : Book) (P : List ℕ → Type 0) (further : (k j : List ℕ) → P k → Among (needs b k) j → IsInput b j ⊎ (IsRule b j × P j)) where
  picked_prepared : (xs ys others : List (List ℕ)) → ArePicked P xs ys → NoneTwice xs → ((k j : List ℕ) → P k → Among xs k → Among (needs b k) j → IsRule b j → Among others j ⊎ StandsBefore xs j k) → IsPrepared b others ys
  picked_prepared [] ys others is once order = subst (IsPrepared b others) (sym is) (prepared_none b others)
  picked_prepared (x ∷ xs) ys others (inl (has, zs, is, rest)) once order = subst (IsPrepared b others) (sym is) (prepared_next b others zs x (λ held. here) (picked_prepared xs zs (x ∷ others) rest once.1 later))
    where
      here : NeedsAmong b others x
      here j need = elim (further x j has need) [
        | inl given ↦ inl given
        | inr (held, so) ↦ inr (
          held,
          elim (order x j has (inl refl) need held) [
            | inl before ↦ before
            | inr stands ↦ elim stands [
              | inl first ↦ absurd (once.0 first.1)
              | inr behind ↦ absurd (once.0 (stands_behind xs j x behind))
            ]
          ],
        )
      ]

      later : (k j : List ℕ) → P k → Among xs k → Among (needs b k) j → IsRule b j → Among (x ∷ others) j ⊎ StandsBefore xs j k
      later k j so among need held = elim (order k j so (inr among) need held) [
        | inl before ↦ inl (inr before)
        | inr stands ↦ elim stands [
          | inl first ↦ inl (inl (sym first.0))
          | inr behind ↦ inr behind
        ]
      ]
  picked_prepared (x ∷ xs) ys others (inr (other, rest)) once order = picked_prepared xs ys others rest once.1 later
    where
      later : (k j : List ℕ) → P k → Among xs k → Among (needs b k) j → IsRule b j → Among others j ⊎ StandsBefore xs j k
      later k j so among need held = elim (order k j so (inr among) need held) [
        | inl before ↦ inl before
        | inr stands ↦ elim stands [
          | inl first ↦ elim (further k j so need) [
            | inl (v, given) ↦ (let both : Some (rule held.0) ≡ Some (input v) = sym held.1 ∙ given in cc)
            | inr (same, needed) ↦ absurd (other (subst P (sym first.0) needed))
          ]
          | inr behind ↦ inr behind
        ]
      ]

module _ (K : SomeKept) (b : Book) (H : List Book) (base : IsBase K b H) (targets : List (List ℕ)) (all : AllClean b targets) (right : IsRightChain K b targets) where
  -- a reached key that has an entry needs what that tells of
  needs_so : (k : List ℕ) (e : Entry) → Reaches b targets k → K.entries k ≡ Some e → e.needs ≡ needs b k
  needs_so k e reached kept =
      let r = right.entries k (base.keys k e kept, reached) in
      let both : Some e ≡ Some r.0 = sym kept ∙ r.1 in
      let same : e ≡ r.0 = cc in
      ap (λ (x : Entry). x.needs) same ∙ r.2

  -- what is led to is reached
  leads_reached : (k q : List ℕ) → Reaches b targets k → Leads K k q → Reaches b targets q
  leads_reached k q reached (marks.need e kept among) = book_needs.need reached (subst (λ ks. Among ks q) (needs_so k e reached kept) among)
  leads_reached k q reached (marks.on {i = i} e kept among leads) = leads_reached i q (book_needs.need reached (subst (λ ks. Among ks i) (needs_so k e reached kept) among)) leads

  led_reached : (k : List ℕ) → IsLedRule K b targets k → IsReachedRule b targets k
  led_reached k (held, led) = (held, leads_reached led.target k (book_needs.target led.among) led.leads)

  -- what a reached rule needs is led to
  need_of : (k j : List ℕ) → Reaches b targets k → IsRule b k → Among (needs b k) j → (Among targets k ⊎ IsLedTo K targets k) → IsLedTo K targets j
  need_of k j reached held need from =
      let r = right.entries k (held, reached) in
      let among = subst (λ ks. Among ks j) (sym r.2) need in
      elim from [
        | inl target ↦ record { target = k; among = target; leads = marks.need r.0 r.1 among }
        | inr led ↦ record { target = led.target; among = led.among; leads = leads_need K led.target k j r.0 r.1 among led.leads }
      ]

  reached_led : (k : List ℕ) → Reaches b targets k → Among targets k ⊎ IsLedTo K targets k
  reached_led k (book_needs.target among) = inl among
  reached_led k (book_needs.need {j = j} reached need) = inr (need_of j k reached (needing_rule b j k need) need (reached_led j reached))

  further : (k j : List ℕ) → IsReachedRule b targets k → Among (needs b k) j → IsInput b j ⊎ (IsRule b j × IsLedRule K b targets j)
  further k j (held, reached) need = at (content b j) refl
    where
      at : (o : Option Item) → content b j ≡ o → IsInput b j ⊎ (IsRule b j × IsLedRule K b targets j)
      at None is = let has = reached_clean b targets all j (book_needs.need reached need) in let both : None ≡ Some has.0 = sym (clean_nothing b j is) ∙ has.1 in cc
      at (Some (input v)) is = inl (v, is)
      at (Some (rule e)) is = inr ((e, is), ((e, is), need_of k j reached held need (reached_led k reached)))

  -- so none of the list is besides the chain
  no_others : (others : List (List ℕ)) → ((k : List ℕ) → Among others k → IsLedRule K b targets k × ¬ (Among K.chain k)) → others ≡ []
  no_others [] only = refl
  no_others (k ∷ ks) only = let o = only k (inl refl) in absurd (o.1 (right.stands k (led_reached k o.0)))

  pub first_prepared : (list : List (List ℕ)) → IsFirstList K b targets list → IsPrepared b [] list
  first_prepared list first =
      let none = no_others first.others first.besides.only in
      subst (IsPrepared b []) (sym (first.parts ∙ ap (λ ks. first.chained ++ ks) none ∙ nil_end first.chained))
      (picked_prepared b (IsLedRule K b targets) (λ k j led need. further k j (led_reached k led) need) K.chain first.chained [] first.in_chain base.sound.chain (λ k j led among need held. inr (right.before j k (led_reached k led) need held)))
    where
      nil_end : (ks : List (List ℕ)) → ks ++ [] ≡ ks
      nil_end [] = refl
      nil_end (j ∷ js) = ap (λ ks. j ∷ ks) (nil_end js)

  pub targets_prepared : (list : List (List ℕ)) → IsFirstList K b targets list → IsPrepared b list targets
  targets_prepared list first = prepared_all b list targets (λ k among held j need. elim (further k j (held, book_needs.target among) need) [
    | inl given ↦ inl given
    | inr (rule_there, led) ↦ inr (rule_there, first_each K b targets list j first led)
  ])
