-- The end of a walk: the rules that the targets reach, in order, or why the walk ended early.
use Rattle.std.proofs.Common.{◌≡◌, ℕ, List, [], ◌∷◌, slice_get, take, suc, zero, ◌+◌, ◌≤◌, length, Option, Some, None, Err, refl, sym, ◌∙◌, subst, inl, inr, ◌⊎◌, add-one, arith}
use Rattle.std.proofs.lemmas.List.{take_all}
use Rattle.carte_value.specs.Truths.{Among}
use Rattle.carte_tree.specs.Formula.{refs_of}
use Rattle.carte_tree.specs.Meaning.{fetched}
use Rattle.carte_book.specs.Book.{Item, input, rule, Book, content, clean}
use Rattle.carte_book.specs.Needs.{Reaches, target, need, needs, needs_of}
use Rattle.carte_book.specs.Reason.{IsReason, Begins, IsClean, AllClean}
use Rattle.carte_book.specs.Dynamic.{LeadsToDynamic, NoDynamicPath, refs}
use Rattle.carte_book.specs.declared.reason.Reason.{Reason}
use Rattle.carte_book.specs.declared.reason.Reason.TheVariants.{Cycle, Missing, Dynamic}
use Rattle.carte_topo.specs.declared.walk.Stop.{Stop}
use Rattle.carte_topo.specs.declared.walk.Stop.TheVariants.{Refused, NoMemory, Dynamic as MetDynamic}
use Rattle.carte_topo.specs.Orders.{IsReady, IsOrder}
use Rattle.carte_topo.specs.Walk.{Seen, Path, Done}
use Rattle.carte_topo.specs.Between.{IsWalk, IsPathFrom, IsBetween, Reached, Reaching, IsStop}
use Rattle.carte_tree.proofs.StaticRuns.{static_fetched}
use Rattle.carte_topo.proofs.Stopping.{until_among}
use Rattle.carte_topo.proofs.Ready.{each_among, ready_rule, ready_kept, ready_clean}
use Rattle.carte_topo.proofs.Walking.{done_clean}
use Rattle.carte_topo.proofs.Turning.{IsTurning}

-- at the end of a turning loop
pub at_rest : (b : Book) (ts : List (List ℕ)) (goal : List ℕ) (seen : Seen) (path : Path) (done : Done) → path ≡ [] → IsWalk b ts goal seen path done → IsBetween b ts seen path done
at_rest b ts goal seen path done none w = record {
  empty = none;
  walk = λ other. let v : IsWalk b ts goal seen [] done = rw none at w in record {
    in_order = v.in_order;
    once = v.once;
    finished = v.finished;
    waits = v.waits;
    passed = v.passed;
    met_rule = v.met_rule;
    met_only = v.met_only;
    stand = v.stand;
    linked = v.linked;
    path_once = v.path_once;
    path_open = v.path_open;
    path_reached = v.path_reached;
    from = tt;
  };
}

pub none_left : (path : Path) (n : ℕ) → n ≡ length path → n ≡ 0 → path ≡ []
none_left [] n is none = refl
none_left (f ∷ fs) n is none = absurd (omega (arith, is, none))

-- the target was reached, where the path was empty and has stayed so
pub turned_all : (b : Book) (ts : List (List ℕ)) (goal : List ℕ) (seen : Seen) (path path' : Path) (start done : Done) → path ≡ [] → path' ≡ [] → IsTurning b ts goal seen path start done → Reached b ts goal seen path' start done
turned_all b ts goal seen path path' start done none still t = record {
  between = at_rest b ts goal seen path' done still (subst (λ (p : Path). IsWalk b ts goal seen p done) (none ∙ sym still) t.walk);
  more = t.more;
  known = t.last none;
}

module _ (b : Book) (ts : List (List ℕ)) (goal : List ℕ) (seen : Seen) (done : Done) where
  -- the references of a rule that is done are ready
  refs_ready : IsWalk b ts goal seen [] done → (j k : List ℕ) → IsReady b done j → Among (refs b j) k → IsReady b done k
  refs_ready w j k ready = at (content b j) refl
    where
      at : (o : Option Item) → content b j ≡ o → Among (needs_of o refs_of) k → IsReady b done k
      at None is among = absurd among
      at (Some (input v)) is among = absurd among
      at (Some (rule e)) is among =
          let n = (w.finished j (ready_rule b done j (e, is) ready)).next in
          let same : e ≡ n.formula = let h = n.is_rule in cc in
          each_among (IsReady b done) (refs_of n.formula) k n.ready (rw same at among)

  -- what a rule that is done looks up is among its references
  needs_refs : IsWalk b ts goal seen [] done → (j k : List ℕ) → IsReady b done j → Among (needs b j) k → Among (refs b j) k
  needs_refs w j k ready = at (content b j) refl
    where
      at : (o : Option Item) → content b j ≡ o → Among (needs_of o (λ e. fetched b.kind (clean b) e)) k → Among (needs_of o refs_of) k
      at None is among = absurd among
      at (Some (input v)) is among = absurd among
      at (Some (rule e)) is among =
          let n = (w.finished j (ready_rule b done j (e, is) ready)).next in
          let same : n.formula ≡ e = let h = n.is_rule in cc in
          until_among (clean b) (refs_of e) k (rw (static_fetched b.kind (clean b) e (rw same at n.is_static)) at among)

  reached_ready : IsWalk b ts goal seen [] done → ((k : List ℕ) → Among ts k → IsReady b done k) → (k : List ℕ) → Reaches b ts k → IsReady b done k
  reached_ready w known k (target among) = known k among
  reached_ready w known k (need {j = j} reached among) =
      let ready = reached_ready w known j reached in
      refs_ready w j k ready (needs_refs w j k ready among)

  -- no dynamic rule is behind what is ready
  never_leads : IsWalk b ts goal seen [] done → (k : List ℕ) (ks : List (List ℕ)) → IsReady b done k → LeadsToDynamic b (k ∷ ks) → ⊥
  never_leads w k [] ready leads =
      let n = (w.finished k (ready_rule b done k (leads.0, leads.1) ready)).next in
      let a = n.is_rule in
      let c = n.is_static in
      let d = leads.1 in
      let e = leads.2 in
      cc
  never_leads w k (j ∷ ks) ready leads = never_leads w j ks (refs_ready w k j ready leads.1) leads.2

  no_path : IsWalk b ts goal seen [] done → ((k : List ℕ) → Among ts k → IsReady b done k) → NoDynamicPath b ts
  no_path w known [] is_path = is_path
  no_path w known (k ∷ ks) is_path = never_leads w k ks (known k is_path.0) is_path.1

each_clean : (b : Book) (ks : List (List ℕ)) → ((k : List ℕ) → Among ks k → IsClean b k) → AllClean b ks
each_clean b [] clean = tt
each_clean b (k ∷ ks) clean = (clean k (inl refl), each_clean b ks (λ q among. clean q (inr among)))

ready_all : (b : Book) (ts : List (List ℕ)) (done : Done) (n : ℕ) → length ts ≤ n → ((k : List ℕ) → Among (take n ts) k → IsReady b done k) → (k : List ℕ) → Among ts k → IsReady b done k
ready_all b ts done n long known k among = known k (rw (take_all n ts long) among)

pub at_end : (b : Book) (ts : List (List ℕ)) (seen : Seen) (path : Path) (done : Done) (n : ℕ) → length ts ≤ n → IsBetween b ts seen path done → ((k : List ℕ) → Among (take n ts) k → IsReady b done k) → IsOrder b ts done
at_end b ts seen path done n long between known = record {
  no_dynamic = no_path b ts [] seen done w all;
  all_clean = each_clean b ts (λ k among. ready_clean b done k (done_clean b ts [] seen [] done w) (all k among));
  once = w.once;
  only = λ k among. let f = w.finished k among in ((f.next.formula, f.next.is_rule), f.reached);
  each = λ k reached. ready_rule b done k reached.0 (reached_ready b ts [] seen done w all k reached.1);
  in_order = w.in_order;
  known = all;
}
  where
    w : IsWalk b ts [] seen [] done
    w = between.walk []

    all : (k : List ℕ) → Among ts k → IsReady b done k
    all = ready_all b ts done n long known

-- the earlier targets have clean values, and this one hasn't
begins_at : (b : Book) (ts : List (List ℕ)) (i : ℕ) (goal : List ℕ) (rest : List (List ℕ)) → slice_get ts i ≡ Some goal → ((k : List ℕ) → Among (take i ts) k → IsClean b k) → clean b goal ≡ None → Begins b ts (goal ∷ rest)
begins_at b [] i goal rest at clean none = cc
begins_at b (t ∷ ts) zero goal rest at clean none = let e : t ≡ goal = cc in inl (e, (rw e none))
begins_at b (t ∷ ts) (suc i) goal rest at clean none = inr (clean t (inl refl), begins_at b ts i goal rest at (λ k among. clean k (inr among)) none)

earlier_clean : (b : Book) (ts : List (List ℕ)) (seen : Seen) (path : Path) (done : Done) (ks : List (List ℕ)) → IsBetween b ts seen path done → ((k : List ℕ) → Among ks k → IsReady b done k) → (k : List ℕ) → Among ks k → IsClean b k
earlier_clean b ts seen path done ks between known k among = ready_clean b done k (done_clean b ts [] seen [] done (between.walk [])) (known k among)

pub reason_found : (b : Book) (ts : List (List ℕ)) (seen : Seen) (path : Path) (done : Done) (i : ℕ) (goal : List ℕ) (reason : Reason) → slice_get ts i ≡ Some goal → IsBetween b ts seen path done → ((k : List ℕ) → Among (take i ts) k → IsReady b done k) → IsPathFrom b goal reason → IsReason b ts reason
reason_found b ts seen path done i goal (Cycle names) at between known is_path =
    ((rw is_path.1 (begins_at b ts i goal is_path.0 at (earlier_clean b ts seen path done (take i ts) between known) is_path.2)), is_path.3)
reason_found b ts seen path done i goal (Missing names) at between known is_path =
    ((rw is_path.1 (begins_at b ts i goal is_path.0 at (earlier_clean b ts seen path done (take i ts) between known) is_path.2)), is_path.3)
reason_found b ts seen path done i goal (Dynamic names) at between known is_path = absurd is_path

pub stops_so : (b : Book) (ts : List (List ℕ)) (seen seen' : Seen) (path path' : Path) (done done' : Done) (i : ℕ) (goal : List ℕ) (stop : Stop) → slice_get ts i ≡ Some goal → IsBetween b ts seen path done → ((k : List ℕ) → Among (take i ts) k → IsReady b done k) → Reaching b ts goal seen' path' done done' (Err stop) → IsStop b ts stop
stops_so b ts seen seen' path path' done done' i goal NoMemory at between known reaching = tt
stops_so b ts seen seen' path path' done done' i goal MetDynamic at between known reaching = reaching
stops_so b ts seen seen' path path' done done' i goal (Refused reason) at between known reaching = reason_found b ts seen path done i goal reason at between known reaching

take_more_among : (ts : List (List ℕ)) (i : ℕ) (goal k : List ℕ) → slice_get ts i ≡ Some goal → Among (take (suc i) ts) k → Among (take i ts) k ⊎ (k ≡ goal)
take_more_among [] i goal k at among = cc
take_more_among (t ∷ ts) zero goal k at among = elim among [
  | inl same ↦ inr (let e : t ≡ goal = cc in same ∙ e)
  | inr later ↦ absurd (none ts later)
]
  where
    none : (ts : List (List ℕ)) → Among (take 0 ts) k → ⊥
    none [] h = h
    none (t ∷ ts) h = h
take_more_among (t ∷ ts) (suc i) goal k at among = elim among [
  | inl same ↦ inl (inl same)
  | inr later ↦ elim (take_more_among ts i goal k at later) [
    | inl before ↦ inl (inr before)
    | inr here ↦ inr here
  ]
]

pub ready_more_targets : (b : Book) (ts : List (List ℕ)) (seen' : Seen) (path' : Path) (done done' : Done) (i : ℕ) (goal : List ℕ) → slice_get ts i ≡ Some goal → ((k : List ℕ) → Among (take i ts) k → IsReady b done k) → Reached b ts goal seen' path' done done' → (k : List ℕ) → Among (take (i + 1) ts) k → IsReady b done' k
ready_more_targets b ts seen' path' done done' i goal at known reached k among = elim (take_more_among ts i goal k at (rw add-one at among)) [
  | inl before ↦ ready_kept b done done' k reached.more (known k before)
  | inr here ↦ rw here reached.known
]
