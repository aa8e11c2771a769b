-- What is due of a book without rules, over an empty state.
use Rattle.std.proofs.Common.{◌≡◌, ◌⊎◌, ◌+◌, ℕ, pos, zero, suc, Bool, true, false, cond, List, [], ◌∷◌, length, Option, Some, None, Ok, refl, sym, ap, ◌∙◌, inl, inr, subst}
use Rattle.std.specs.Prelude.{codes}
use Rattle.std.specs.Ordering.{eq_by_cmp}
use Rattle.std.specs.Result.{result_ok}
use Rattle.std.specs.FinMap.{empty, get-empty}
use Rattle.carte_io.specs.Disk.{Story}
use Rattle.carte_io.specs.Streams.{SourceState}
use Rattle.carte_name.specs.declared.kind.Kind.{Kind}
use Rattle.carte_name.specs.declared.kind.Kind.TheVariants.{Rules}
use Rattle.carte_value.specs.declared.value.Value.{Value}
use Rattle.carte_value.specs.declared.value.Value.TheVariants.{Number}
use Rattle.carte_value.specs.Lists.{Has}
use Rattle.carte_name.specs.Names.{name_cmp}
use Rattle.carte_tree.specs.Meaning.{eval}
use Rattle.carte_tree.specs.Tree.{Tree}
use Rattle.carte_book.specs.Book.{Book, Item, clean, content, input, or_default, rule, rules_of, val, valued}
use Rattle.carte_book.specs.Dynamic.{LeadsToDynamic, NoDynamicPath}
use Rattle.carte_book.specs.Needs.{IsRule}
use Rattle.carte_book.specs.Reason.{AllClean}
use Rattle.carte_book.proofs.Books.{item_put}
use Rattle.carte_record.specs.declared.batch.Batch.{Batch}
use Rattle.carte_record.specs.Kept.{SomeKept, nothing_kept}
use Rattle.carte_rules.specs.Reading.{BookOf}
use Rattle.carte_sound.specs.Base.{HasDistinctDigests, SameRules}
use Rattle.carte_sound.specs.Held.{How}
use Rattle.carte_sound.specs.LeadsTo.{chain_behind, chain_stays}
use Rattle.carte_sound.specs.Treated as treated
use Rattle.carte_sound.specs.Treated.{IsDoneInOrder, IsDoneRestarting, IsDoneSuspending, IsTreated, IsTreatedRestarting}
use Rattle.carte_sound.proofs.Histories.{nothing_sound}
use Rattle.carte_state.specs.Folding.{Keeps}
use Rattle.carte_words.specs.declared.words.Command.{Command}
use Rattle.carte_engine.specs.Answers.{Leads}
use Rattle.carte_engine.specs.Committing.{FitAll}
use Rattle.carte_engine.specs.Schedulers.{IsServed}
use Rattle.carte_engine.specs.declared.answer.Answer.{Answer}
use Rattle.carte_engine.specs.declared.answer.Answer.TheVariants as answer
use Rattle.carte_engine.specs.declared.scheduler.Scheduler.{Scheduler}
use Rattle.carte_engine.specs.declared.scheduler.Scheduler.TheVariants.{Topological, Restarting, Suspending}
use Rattle.carte_report.specs.declared.status.Status.TheVariants.{Done}
use Rattle.carte_top.specs.Chosen.{BookOfKind, how_of, scheduler_of}
use Rattle.carte_top.specs.Due.{AllFit, IsDue, IsDueFor, IsFound, IsPlanned}
use Rattle.carte_top.specs.Plain.{AsksPlainly, PlainIsDue, plain_book, told_disk, told_source}
use Rattle.carte_state.specs.Versions.{Fresh, InTwo}
use Rattle.carte_top.proofs.Bare.{IsOneEmpty, brings_empty}

module _ (b : Book) (none : (k : List ℕ) → ¬ (IsRule b k)) where
  none_treated : (h : How) (K : SomeKept) (targets : List (List ℕ)) (k : List ℕ) → IsTreated h K b targets k → ⊥
  none_treated h K targets k (treated.IsTreated.target among is) = none k is
  none_treated h K targets k (treated.IsTreated.need before followed among is) = none k is

  none_restarted : (h : How) (K : SomeKept) (targets : List (List ℕ)) (k : List ℕ) → IsTreatedRestarting h K b targets k → ⊥
  none_restarted h K targets k (treated.IsTreatedRestarting.target among is) = none k is
  none_restarted h K targets k (treated.IsTreatedRestarting.led led is) = none k is
  none_restarted h K targets k (treated.IsTreatedRestarting.need before followed among is) = none k is

  none_leads : (path : List (List ℕ)) → LeadsToDynamic b path → ⊥
  none_leads [] leads = leads
  none_leads (k ∷ []) leads = none k (leads.0, leads.1)
  none_leads (k ∷ j ∷ ks) leads = none k (leads.0.0, leads.0.1)

  no_path : (targets : List (List ℕ)) → NoDynamicPath b targets
  no_path targets [] is = is
  no_path targets (k ∷ ks) is = none_leads (k ∷ ks) is.1

  pub plain_served : (s : Scheduler) (targets : List (List ℕ)) → AllClean b targets → IsServed s b targets
  plain_served Topological targets all = (no_path targets, all)
  plain_served Restarting targets all = all
  plain_served Suspending targets all = all

  -- nothing is finished, and so nothing is brought
  pub plain_leads : (s : Scheduler) (h : How) (targets : List (List ℕ)) (a : Answer) (Bs : List Batch) → Leads s h (InTwo nothing_kept) b targets a Bs → IsOneEmpty Bs
  plain_leads Topological h targets (answer.Built built) Bs leads = brings_empty h (λ M k. IsDoneInOrder b targets k) chain_stays b Bs refl (λ M k done. none k done.0.0) leads
  plain_leads Topological h targets (answer.Refused reason runs) Bs leads = brings_empty h (λ M k. ⊥) chain_stays b Bs refl (λ M k never. never) leads
  plain_leads Restarting h targets a Bs leads = brings_empty h (λ M k. IsDoneRestarting h M b targets k) chain_behind b Bs refl (λ M k done. none_restarted h M targets k done.0) leads
  plain_leads Suspending h targets a Bs leads = brings_empty h (λ M k. IsDoneSuspending h M b targets k) chain_stays b Bs refl (λ M k done. none_treated h M targets k done.0) leads

-- ---- the book with one input

abbrev bare_book : Book
bare_book = record { kind = Rules; items = empty }

at_name : (q : List ℕ) → content plain_book q ≡ cond (eq_by_cmp name_cmp q (codes "a")) (Some (input (Number (pos 1)))) None
at_name q =
    item_put bare_book (codes "a") (input (Number (pos 1))) q
    ∙ ap (λ (o : Option Item). cond (eq_by_cmp name_cmp q (codes "a")) (Some (input (Number (pos 1)))) (or_default o None)) (get-empty name_cmp q)

one_item : (q : List ℕ) → (content plain_book q ≡ Some (input (Number (pos 1)))) ⊎ (content plain_book q ≡ None)
one_item q = by_name (eq_by_cmp name_cmp q (codes "a")) (at_name q)
  where
    by_name : (t : Bool) → content plain_book q ≡ cond t (Some (input (Number (pos 1)))) None → (content plain_book q ≡ Some (input (Number (pos 1)))) ⊎ (content plain_book q ≡ None)
    by_name true is = inl is
    by_name false is = inr is

no_rule : (k : List ℕ) → ¬ (IsRule plain_book k)
no_rule k (e, is) = elim (one_item k) [
  | inl there ↦ cc
  | inr there ↦ cc
]

one_value : (f : Tree → Option Value) (q : List ℕ) (v : Value) → valued (content plain_book q) f ≡ Some v → v ≡ Number (pos 1)
one_value f q v is = elim (one_item q) [
  | inl there ↦ let at : valued (content plain_book q) f ≡ Some (Number (pos 1)) = ap (λ (o : Option Item). valued o f) there in cc
  | inr there ↦ let at : valued (content plain_book q) f ≡ None = ap (λ (o : Option Item). valued o f) there in cc
]

one_val : (n : ℕ) (q : List ℕ) (v : Value) → val plain_book n q ≡ Some v → v ≡ Number (pos 1)
one_val zero q v is = one_value _ q v is
one_val (suc n) q v is = one_value _ q v is

one_clean : (b : Book) (q : List ℕ) (v : Value) → Has (plain_book ∷ []) b → clean b q ≡ Some v → v ≡ Number (pos 1)
one_clean b q v (inl is) has = one_val (length (rules_of plain_book) + 1) q v (subst (λ (c : Book). clean c q ≡ Some v) is has)
one_clean b q v (inr never) has = absurd never

one_of : (b : Book) → Has (plain_book ∷ []) b → b ≡ plain_book
one_of b (inl is) = is
one_of b (inr never) = absurd never

same_rules : (b c : Book) → b ≡ c → SameRules b c
same_rules b c is = record { kind = ap (λ (x : Book). x.kind) is; rules = λ k e at. subst (λ (x : Book). content x k ≡ Some (rule e)) is at }

plain_distinct : HasDistinctDigests (plain_book ∷ [])
plain_distinct = record {
  values = λ b c j k v w has_b has_c of_v of_w same. one_clean b j v has_b of_v ∙ sym (one_clean c k w has_c of_w);
  rules = λ b c has_b has_c same. same_rules b c (one_of b has_b ∙ sym (one_of c has_c));
  tasks = λ b c j k f g has_b has_c of_f of_g same. absurd (no_rule j (f, subst (λ (x : Book). content x j ≡ Some (rule f)) (one_of b has_b) of_f));
}

val_there : (n : ℕ) → val plain_book n (codes "a") ≡ Some (Number (pos 1))
val_there zero = ap (λ (o : Option Item). valued o (λ e. None)) (at_name (codes "a"))
val_there (suc n) = ap (λ (o : Option Item). valued o (λ e. result_ok (eval Rules (val plain_book n) e))) (at_name (codes "a"))

module _ (limit : ℕ) (words : List (List ℕ)) (state : Story) (asks : AsksPlainly words) (empty_file : state.now.reads ≡ []) where
  all_clean : AllClean plain_book (codes "a" ∷ [])
  all_clean = ((Number (pos 1), val_there (length (rules_of plain_book) + 1)), tt)

  served : IsServed (scheduler_of asks.asked.scheduler) plain_book asks.asked.targets
  served = plain_served plain_book no_rule (scheduler_of asks.asked.scheduler) asks.asked.targets (subst (AllClean plain_book) (sym asks.targets) all_clean)

  fits : AllFit limit (told_disk state) (IsPlanned asks.asked plain_book (InTwo nothing_kept))
  fits Bs (a, plan) s loaded limit_is =
      let one = plain_leads plain_book no_rule (scheduler_of asks.asked.scheduler) (how_of asks.asked.rebuilder) asks.asked.targets a Bs plan.leads in
      subst (FitAll true s) (sym one.1) (λ base of_file. (inl one.2, λ mid after. tt))

  found : IsFound limit (told_disk state) plain_book (λ K. AllFit limit (told_disk state) (IsPlanned asks.asked plain_book K))
  found = (tt, InTwo nothing_kept, subst (Keeps limit (InTwo nothing_kept)) (sym empty_file) (record { gate = 8; bodies = []; reads = refl; makes = record { phase = Fresh; folded = refl; kept = refl } }), ([], nothing_sound [], plain_distinct, fits))

  is_due : (book script : SourceState) → BookOf book.left (Ok plain_book) → IsDue limit words (told_source book) (told_source script) (told_disk state) Done
  is_due book script bytes =
      let kind : BookOfKind asks.asked.kind book.left (Ok plain_book) = subst (λ (k : Kind). BookOfKind k book.left (Ok plain_book)) (sym asks.kind) bytes in
      (asks.asked, asks.meant, subst (λ (c : Command). IsDueFor c limit asks.asked (told_source book) (told_source script) (told_disk state) Done) (sym asks.build) (tt, plain_book, kind, (served, found)))

pub plain_is_due : PlainIsDue
plain_is_due limit words book script state asks bytes empty_file = is_due limit words state asks empty_file book script bytes
