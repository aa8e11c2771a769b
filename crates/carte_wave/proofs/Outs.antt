-- Keys that are out, on a bench that is seen as it would be were they back.
use Rattle.std.proofs.Common.{◌≡◌, ◌⊎◌, ℕ, true, false, cond, List, [], ◌∷◌, Option, Some, None, refl, sym, ◌∙◌, subst, inl, inr}
use Rattle.carte_name.specs.Names.{name_eq}
use Rattle.carte_value.specs.Truths.{Among}
use Rattle.carte_value.proofs.Members.{same_or_not}
use Rattle.carte_bench.specs.declared.slot.Slot.{Slot}
use Rattle.carte_bench.specs.declared.slot.Slot.TheVariants.{Ready, Stopped, Out, Done}
use Rattle.carte_bench.specs.Spots.{Spots, PutAt, IsSame, is_done, is_ready}
use Rattle.carte_bench.proofs.Puts.{put_here, put_apart}
use Rattle.carte_progress.specs.Standing.{IsDemanded}
use Rattle.carte_progress.proofs.Puts.{ready_there}
use Rattle.carte_wave.specs.Settling.{AreOut}

pub among_or_not : (ks : List (List ℕ)) (q : List ℕ) → Among ks q ⊎ (¬ (Among ks q))
among_or_not [] q = inr (λ never. never)
among_or_not (k ∷ ks) q = elim (same_or_not q k) [
  | inl same ↦ inl (inl same)
  | inr other ↦ elim (among_or_not ks q) [
    | inl here ↦ inl (inr here)
    | inr off ↦ inr (λ h. elim h [
      | inl same ↦ other same
      | inr later ↦ off later
    ])
  ]
]

module _ {J : Type 0} where
  -- with this at a name
  abbrev pub put_in : Spots J → List ℕ → Slot J → Spots J
  put_in v k x q = cond (name_eq k q) (Some x) (v q)

  pub ready_undone : (v : Spots J) (o : Option (Slot J)) → is_ready v o ≡ true → is_done o ≡ false
  ready_undone v None is = refl
  ready_undone v (Some (Ready p)) is = refl
  ready_undone v (Some (Stopped p n)) is = refl
  ready_undone v (Some Out) is = refl
  ready_undone v (Some (Done m)) is = cc

  pub out_same : (v s d : Spots J) (ks : List (List ℕ)) → AreOut v s ks → IsSame s d → AreOut v d ks
  out_same v s d ks out same = record { out = λ q here. same q ∙ out.out q here; else_same = λ q off. same q ∙ out.else_same q off }

  -- the first of them is put back
  pub out_put : (v s d : Spots J) (k : List ℕ) (x : Slot J) (ks : List (List ℕ)) → AreOut v s (k ∷ ks) → ¬ (Among ks k) → PutAt s d k x → AreOut (put_in v k x) d ks
  out_put v s d k x ks out off put = record {
    out = λ q here. put_apart s d k x q (λ same. off (subst (Among ks) (sym same) here)) put ∙ out.out q (inr here);
    else_same = λ q away. elim (same_or_not k q) [
      | inl same ↦ subst (λ i. d i ≡ put_in v k x i) same (put_here s d k x put ∙ sym (put_here v (put_in v k x) k x (λ i. refl)))
      | inr other ↦ put_apart s d k x q other put ∙ out.else_same q (λ h. elim h [
        | inl same ↦ other (sym same)
        | inr later ↦ away later
      ]) ∙ sym (put_apart v (put_in v k x) k x q other (λ i. refl))
    ];
  }

  module _ (v s : Spots J) (ks : List (List ℕ)) (out : AreOut v s ks) where
    pub none_seen : (n : List ℕ) → s n ≡ None → v n ≡ None
    none_seen n is = elim (among_or_not ks n) [
      | inl here ↦ (let both : Some Out ≡ None = sym (out.out n here) ∙ is in cc)
      | inr off ↦ sym (out.else_same n off) ∙ is
    ]

    pub done_seen : (n : List ℕ) → is_done (s n) ≡ true → is_done (v n) ≡ true
    done_seen n is = elim (among_or_not ks n) [
      | inl here ↦ (let both : false ≡ true = rw (out.out n here) at is in cc)
      | inr off ↦ rw (out.else_same n off) at is
    ]

    -- one that isn't there is put there
    pub out_demand : (d : Spots J) (n : List ℕ) (x : Slot J) → s n ≡ None → PutAt s d n x → AreOut (put_in v n x) d ks
    out_demand d n x none put = record {
      out = λ q here. put_apart s d n x q (apart q here) put ∙ out.out q here;
      else_same = λ q away. elim (same_or_not n q) [
        | inl same ↦ subst (λ i. d i ≡ put_in v n x i) same (put_here s d n x put ∙ sym (put_here v (put_in v n x) n x (λ i. refl)))
        | inr other ↦ put_apart s d n x q other put ∙ out.else_same q away ∙ sym (put_apart v (put_in v n x) n x q other (λ i. refl))
      ];
    }
      where
        apart : (q : List ℕ) → Among ks q → ¬ (n ≡ q)
        apart q here same = let both : None ≡ Some Out = sym none ∙ subst (λ i. s i ≡ Some Out) (sym same) (out.out q here) in cc

    module _ (ready : (q : List ℕ) → Among ks q → is_ready v (v q) ≡ true) where
      pub demanded_seen : (n : List ℕ) → IsDemanded s n → IsDemanded v n
      demanded_seen n (x, is) = elim (among_or_not ks n) [
        | inl here ↦ ready_there v (v n) (ready n here)
        | inr off ↦ (x, sym (out.else_same n off) ∙ is)
      ]
