-- One job of a wave is put back: what stands then, as it would be were the rest back too.
use Rattle.std.proofs.Common.{◌≡◌, ◌⊎◌, ℕ, ◌≤◌, ◌<◌, true, false, List, ◌∷◌, Some, None, refl, sym, ◌∙◌, subst, inl, inr, arith}
use Rattle.carte_value.specs.Truths.{Among, NoneTwice}
use Rattle.carte_value.proofs.Members.{same_or_not}
use Rattle.carte_book.specs.Book.{Book}
use Rattle.carte_book.specs.Needs.{IsRule}
use Rattle.carte_effect.specs.declared.outcome.Made.{Made}
use Rattle.carte_bench.specs.declared.slot.Slot.TheVariants.{Ready, Stopped, Done}
use Rattle.carte_bench.specs.Spots.{Spots, PutAt, is_done, is_ready, job_in}
use Rattle.carte_bench.proofs.Puts.{put_here, put_apart}
use Rattle.carte_progress.specs.Standing.{IsDemanded}
use Rattle.carte_progress.proofs.Puts.{not_both, job_undone, job_there}
use Rattle.carte_progress.proofs.Standings.{known_put}
use Rattle.carte_wave.specs.Front.{Line, AddsReady, Wakes}
use Rattle.carte_wave.specs.Settling.{AreOut}
use Rattle.carte_wave.specs.Standing.{IsHeldBy, IsLined, AreWanted, IsFewer, weight, left}
use Rattle.carte_wave.proofs.Lined.{Moves, lined_put}
use Rattle.carte_wave.proofs.Lighter.{left_most, left_less, lighter_put, job_weight, done_weight, undone_weight}
use Rattle.carte_wave.proofs.Outs.{put_in}

-- where the wave that began here has these keys still out
pub record IsAmid {J : Type 0} (name : J → List ℕ) (b : Book) (v0 v s : Spots J) (ks : List (List ℕ)) (f : Line) : Type 0 where
  pub lined : IsLined name b v ks f
  pub wanted : AreWanted v f
  pub fewer : IsFewer b v0 v f
  pub out : AreOut v s ks
  pub once : NoneTwice ks

module _ {J : Type 0} (name : J → List ℕ) (b : Book) (v0 v : Spots J) (k : List ℕ) (ks : List (List ℕ)) (f : Line) (l : IsLined name b v (k ∷ ks) f) (off : ¬ (Among ks k)) (p : J) (stood : job_in (v k) ≡ Some p) where
  undone : is_done (v k) ≡ false
  undone = job_undone (v k) p stood

  rule_here : IsRule b k
  rule_here = let there = job_there (v k) p stood in l.rules k there.0 there.1

  -- none that the line has waiting at an open name was taken
  untaken : (n q : List ℕ) → Among (k ∷ ks) q → Among (f.waits n) q → is_done (v n) ≡ false → ⊥
  untaken n q taken here open_n =
      let w = l.waits_is n q here open_n in
      let ready : is_done (v n) ≡ true = rw w.1 at (l.taken_is q taken) in
      not_both (v n) ready open_n

  less : (q : List ℕ) → Among ks q → Among (k ∷ ks) q × ¬ (k ≡ q)
  less q here = (inr here, λ same. off (subst (Among ks) (sym same) here))

  else_taken : (q : List ℕ) → Among (k ∷ ks) q → (k ≡ q) ⊎ Among ks q
  else_taken q (inl same) = inl (sym same)
  else_taken q (inr later) = inr later

  -- it ended
  module _ (m : Made) (g : Line) (wakes : Wakes k f g) where
    abbrev pub v_done : Spots J
    v_done = put_in v k (Done m)

    put_done : PutAt v v_done k (Done m)
    put_done q = refl

    woken : (q : List ℕ) → Among (f.waits k) q → (is_ready v_done (v_done q) ≡ true) × ¬ (Among ks q)
    woken q here =
        let w = l.waits_is k q here undone in
        let other : ¬ (k ≡ q) = λ same. untaken k q (inl (sym same)) here undone in (
          rw (put_apart v v_done k (Done m) q other put_done, w.1, put_here v v_done k (Done m) put_done) refl,
          λ taken. untaken k q (inr taken) here undone,
        )

    moves_done : Moves name b v v_done k (Done m) put_done undone (k ∷ ks) ks f g
    moves_done = record {
      taken_less = less;
      taken_else = else_taken;
      not_ready = λ is. l.apart k is (inl refl);
      unwaited = λ n here open_n. untaken n k (inl refl) here open_n;
      is_rule = rule_here;
      named_here = λ j is. cc;
      not_out = λ is. cc;
      ready_more = wakes.stays;
      ready_new = λ q is. elim (wakes.only q is) [
        | inl here ↦ inr (woken q here)
        | inr old ↦ inl old
      ];
      waits_new = λ n q here open_n. inl (rw (wakes.waits n) at here);
      waits_kept = λ n q here open_n. elim (same_or_not k n) [
        | inl same ↦ inl (wakes.there q (subst (λ i. Among (f.waits i) q) (sym same) here))
        | inr other ↦ inr (rw (wakes.waits n) here, rw (put_apart v v_done k (Done m) n other put_done) open_n)
      ];
      here_fresh = λ j is. cc;
      here_stopped = λ n j is. cc;
    }

    pub lined_done : IsLined name b v_done ks g
    lined_done = lined_put name b v v_done k (Done m) put_done undone (k ∷ ks) ks f g moves_done l

    pub wanted_done : AreWanted v f → AreWanted v_done g
    wanted_done wanted n q here = let there = wanted n q (rw (wakes.waits n) at here) in known_put v v_done k (Done m) put_done n there.0 there.1

    pub fewer_done : IsFewer b v0 v f → IsFewer b v0 v_done g
    fewer_done fewer = record { lighter = lighter; fewer = λ q is. left_less v0 v_done lighter b k rule_here lower }
      where
        one : weight (v k) ≡ 1
        one = job_weight (v k) p stood

        lighter : (q : List ℕ) → weight (v_done q) ≤ weight (v0 q)
        lighter q = omega (arith, lighter_put v v_done k (Done m) put_done (omega arith) q, fewer.lighter q)

        lower : weight (v_done k) < weight (v0 k)
        lower = rw (put_here v v_done k (Done m) put_done) (omega (arith, one, fewer.lighter k))

  -- it stopped
  module _ (j : J) (named : name j ≡ k) (n : List ℕ) where
    abbrev pub v_stopped : Spots J
    v_stopped = put_in v k (Stopped j n)

    put_stopped : PutAt v v_stopped k (Stopped j n)
    put_stopped q = refl

    here_now : v_stopped k ≡ Some (Stopped j n)
    here_now = put_here v v_stopped k (Stopped j n) put_stopped

    lighter_stopped : IsFewer b v0 v f → (q : List ℕ) → weight (v_stopped q) ≤ weight (v0 q)
    lighter_stopped fewer q = omega (arith, lighter_put v v_stopped k (Stopped j n) put_stopped (rw (job_weight (v k) p stood) (omega arith)) q, fewer.lighter q)

    left_stopped : left b v_stopped ≤ left b v
    left_stopped = left_most v v_stopped (lighter_put v v_stopped k (Stopped j n) put_stopped (rw (job_weight (v k) p stood) (omega arith))) b

    still_open : (i : List ℕ) → is_done (v i) ≡ false → is_done (v_stopped i) ≡ false
    still_open i open_i = elim (same_or_not k i) [
      | inl same ↦ subst (λ a. is_done (v_stopped a) ≡ false) same (rw here_now refl)
      | inr other ↦ rw (put_apart v v_stopped k (Stopped j n) i other put_stopped) open_i
    ]

    -- what the line is after it
    pub record Registered (g : Line) : Type 0 where
      pub more : (q : List ℕ) → f.ready q ≡ true → g.ready q ≡ true
      pub new : (q : List ℕ) → g.ready q ≡ true → (f.ready q ≡ true) ⊎ ((q ≡ k) × (is_done (v_stopped n) ≡ true))
      pub waits : (i q : List ℕ) → Among (g.waits i) q → Among (f.waits i) q ⊎ ((q ≡ k) × (i ≡ n) × IsRule b n)
      pub kept : (i q : List ℕ) → Among (f.waits i) q → Among (g.waits i) q
      pub here : (g.ready k ≡ true) ⊎ IsHeldBy b v_stopped g n k

    module _ (g : Line) (registered : Registered g) where
      moves_stopped : Moves name b v v_stopped k (Stopped j n) put_stopped undone (k ∷ ks) ks f g
      moves_stopped = record {
        taken_less = less;
        taken_else = else_taken;
        not_ready = λ is. l.apart k is (inl refl);
        unwaited = λ i here open_i. untaken i k (inl refl) here open_i;
        is_rule = rule_here;
        named_here = λ i is. (let same : j ≡ i = cc in rw (← same) named);
        not_out = λ is. cc;
        ready_more = registered.more;
        ready_new = λ q is. elim (registered.new q is) [
          | inl old ↦ inl old
          | inr now ↦ inr (rw (now.0, here_now) now.1, λ taken. off (subst (Among ks) now.0 taken))
        ];
        waits_new = λ i q here open_i. elim (registered.waits i q here) [
          | inl old ↦ inl old
          | inr new ↦ inr (j, rw (new.0, new.1) here_now)
        ];
        waits_kept = λ i q here open_i. inr (registered.kept i q here, still_open i open_i);
        here_fresh = λ i is. cc;
        here_stopped = λ i q is. (let same : n ≡ i = cc in subst (λ a. (g.ready k ≡ true) ⊎ IsHeldBy b v_stopped g a k) same registered.here);
      }

      pub lined_stopped : IsLined name b v_stopped ks g
      lined_stopped = lined_put name b v v_stopped k (Stopped j n) put_stopped undone (k ∷ ks) ks f g moves_stopped l

      pub wanted_stopped : AreWanted v f → (i q : List ℕ) → Among (g.waits i) q → IsDemanded v_stopped i ⊎ ((i ≡ n) × IsRule b n)
      wanted_stopped wanted i q here = elim (registered.waits i q here) [
        | inl old ↦ (let there = wanted i q old in inl (known_put v v_stopped k (Stopped j n) put_stopped i there.0 there.1))
        | inr new ↦ inr (new.1, new.2)
      ]

      pub fewer_stopped : IsFewer b v0 v f → (is_done (v_stopped n) ≡ true → IsRule b n × (is_done (v0 n) ≡ false)) → IsFewer b v0 v_stopped g
      fewer_stopped fewer since = record {
        lighter = lighter_stopped fewer;
        fewer = λ q is. elim (registered.new q is) [
          | inl old ↦ omega (arith, left_stopped, fewer.fewer q old)
          | inr now ↦ (let s = since now.1 in left_less v0 v_stopped (lighter_stopped fewer) b n s.0 (omega (arith, done_weight (v_stopped n) now.1, undone_weight (v0 n) s.1)))
        ];
      }

-- a rule that wasn't demanded is demanded
module _ {J : Type 0} (name : J → List ℕ) (b : Book) (v0 v : Spots J) (ks : List (List ℕ)) (f g : Line) (l : IsLined name b v ks f) (n : List ℕ) (j : J) (held : IsRule b n) (named : name j ≡ n) (none : v n ≡ None) (adds : AddsReady n f g) where
  abbrev pub v_more : Spots J
  v_more = put_in v n (Ready j)

  put_more : PutAt v v_more n (Ready j)
  put_more q = refl

  none_undone : is_done (v n) ≡ false
  none_undone = rw none refl

  open_yet : (i : List ℕ) → is_done (v i) ≡ false → is_done (v_more i) ≡ false
  open_yet i open_i = elim (same_or_not n i) [
    | inl same ↦ subst (λ a. is_done (v_more a) ≡ false) same (rw (put_here v v_more n (Ready j) put_more) refl)
    | inr other ↦ rw (put_apart v v_more n (Ready j) i other put_more) open_i
  ]

  apart_taken : (q : List ℕ) → Among ks q → ¬ (n ≡ q)
  apart_taken q here same = let ready : is_ready v None ≡ true = rw (← same, none) at (l.taken_is q here) in cc

  moves_more : Moves name b v v_more n (Ready j) put_more none_undone ks ks f g
  moves_more = record {
    taken_less = λ q here. (here, apart_taken q here);
    taken_else = λ q here. inr here;
    not_ready = λ is. (let ready : is_ready v None ≡ true = rw none at (l.ready_is n is) in cc);
    unwaited = λ i here open_i. (let w = l.waits_is i n here open_i in let both : None ≡ Some (Stopped w.0 i) = sym none ∙ w.1 in cc);
    is_rule = held;
    named_here = λ i is. (let same : j ≡ i = cc in rw (← same) named);
    not_out = λ is. cc;
    ready_more = adds.stays;
    ready_new = λ q is. elim (adds.only q is) [
      | inl same ↦ inr (rw (same, put_here v v_more n (Ready j) put_more) refl, λ taken. apart_taken q taken (sym same))
      | inr old ↦ inl old
    ];
    waits_new = λ i q here open_i. inl (rw (adds.waits i) at here);
    waits_kept = λ i q here open_i. inr (rw (adds.waits i) here, open_yet i open_i);
    here_fresh = λ i is. adds.there;
    here_stopped = λ i q is. cc;
  }

  pub lined_more : IsLined name b v_more ks g
  lined_more = lined_put name b v v_more n (Ready j) put_more none_undone ks ks f g moves_more l

  pub wanted_more : ((i q : List ℕ) → Among (f.waits i) q → IsDemanded v i ⊎ ((i ≡ n) × IsRule b n)) → AreWanted v_more g
  wanted_more wanted i q here = elim (wanted i q (rw (adds.waits i) at here)) [
    | inl there ↦ known_put v v_more n (Ready j) put_more i there.0 there.1
    | inr now ↦ (Ready j, rw now.0 (put_here v v_more n (Ready j) put_more))
  ]

  pub fewer_more : ((q : List ℕ) → weight (v q) ≤ weight (v0 q)) → IsFewer b v0 v_more g
  fewer_more before = record { lighter = lighter; fewer = λ q is. left_less v0 v_more lighter b n held lower }
    where
      lighter : (q : List ℕ) → weight (v_more q) ≤ weight (v0 q)
      lighter q = omega (arith, lighter_put v v_more n (Ready j) put_more (rw none (omega arith)) q, before q)

      two : 2 ≤ weight (v0 n)
      two = rw none at (before n)

      lower : weight (v_more n) < weight (v0 n)
      lower = rw (put_here v v_more n (Ready j) put_more) (omega (arith, two))
