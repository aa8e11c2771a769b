-- Words, bytes, seeds, files and targets come to one thing each.
use Rattle.std.proofs.Common.{◌≡◌, ℕ, List, Option, Some, None, Result, Ok, refl, sym, ap, ap₂, ◌∙◌}
use Rattle.std.specs.FinMap.{FinMap, get, nat_cmp-IsAntisymmetric, same_map, slice_cmp-IsAntisymmetric}
use Rattle.std.proofs.lemmas.Cmp.{nat_list_cmp_total}
use Rattle.carte_name.specs.declared.kind.Kind.{Kind}
use Rattle.carte_name.specs.declared.kind.Kind.TheVariants.{Rules, Sheet}
use Rattle.carte_name.specs.Names.{name_cmp}
use Rattle.carte_book.specs.Book.{Book, Item, content, default_of, or_default}
use Rattle.carte_book.specs.declared.fault.BookFault.{BookFault}
use Rattle.carte_book.specs.declared.reason.Reason.{Reason}
use Rattle.carte_book.proofs.Orders.{one_order_reason, no_order_reason}
use Rattle.carte_book.proofs.Reasons.{one_reason, no_reason}
use Rattle.carte_generate.specs.Generated.{IsGenerated, inputs_of, item}
use Rattle.carte_rules.proofs.Unique.{one_book}
use Rattle.carte_sheet.proofs.Unique.{one_sheet}
use Rattle.carte_words.specs.Words.{words_of}
use Rattle.carte_words.specs.declared.words.Words.{Words as Asked}
use Rattle.carte_engine.specs.Schedulers.{IsServed, IsRefusedFor}
use Rattle.carte_engine.specs.declared.scheduler.Scheduler.{Scheduler}
use Rattle.carte_engine.specs.declared.scheduler.Scheduler.TheVariants.{Topological, Restarting, Suspending}
use Rattle.carte_top.specs.Chosen.{BookOfKind}

pub one_meant : (words : List (List ℕ)) (w v : Asked) → words_of words ≡ Ok w → words_of words ≡ Ok v → w ≡ v
one_meant words w v one other = cc

pub one_outcome : (kind : Kind) (bytes : List ℕ) (o p : Result Book BookFault) → BookOfKind kind bytes o → BookOfKind kind bytes p → o ≡ p
one_outcome Rules bytes o p one other = one_book bytes o p one other
one_outcome Sheet bytes o p one other = one_sheet bytes o p one other

pub one_of_kind : (kind : Kind) (bytes : List ℕ) (b c : Book) → BookOfKind kind bytes (Ok b) → BookOfKind kind bytes (Ok c) → b ≡ c
one_of_kind kind bytes b c one other = let same : Ok b ≡ Ok c = one_outcome kind bytes (Ok b) (Ok c) one other in cc

pub one_refusal : (s : Scheduler) (b : Book) (targets : List (List ℕ)) (r q : Reason) → IsRefusedFor s b targets r → IsRefusedFor s b targets q → r ≡ q
one_refusal Topological b targets r q one other = one_order_reason b targets r q one other
one_refusal Restarting b targets r q one other = one_reason b targets r q one other
one_refusal Suspending b targets r q one other = one_reason b targets r q one other

pub served_or_refused : (s : Scheduler) (b : Book) (targets : List (List ℕ)) (r : Reason) → IsServed s b targets → IsRefusedFor s b targets r → ⊥
served_or_refused Topological b targets r served refused = no_order_reason b targets r refused served.0 served.1
served_or_refused Restarting b targets r served refused = no_reason b targets r refused served
served_or_refused Suspending b targets r served refused = no_reason b targets r refused served

-- ---- a generated book

-- in a rule file what a name has is what the book holds
held : (b : Book) (k : List ℕ) → b.kind ≡ Rules → content b k ≡ get b.items k
held b k kind = ap (λ (q : Kind). or_default (get b.items k) (default_of q k)) kind ∙ alone (get b.items k)
  where
    alone : (o : Option Item) → or_default o None ≡ o
    alone (Some x) = refl
    alone None = refl

module _ (seed count : ℕ) (b c : Book) (one : IsGenerated seed count b) (other : IsGenerated seed count c) where
  -- what the one has, the other has
  has_too : (k : List ℕ) (x : Item) → get b.items k ≡ Some x → get c.items k ≡ Some x
  has_too k x is =
      let there : content b k ≡ Some x = held b k one.kind ∙ is in
      let at = one.only k x there in
      let made = Some (item seed (inputs_of count) at.0) in
      let here : content b k ≡ made = ap (content b) at.2 ∙ one.each at.0 at.1 in
      let also : content c k ≡ made = ap (content c) at.2 ∙ other.each at.0 at.1 in
      sym (held c k other.kind) ∙ also ∙ sym here ∙ there

same_answers : (o p : Option Item) → ((x : Item) → o ≡ Some x → p ≡ Some x) → ((x : Item) → p ≡ Some x → o ≡ Some x) → o ≡ p
same_answers (Some x) p to from = sym (to x refl)
same_answers None (Some y) to from = from y refl
same_answers None None to from = refl

pub one_generated : (seed count : ℕ) (b c : Book) → IsGenerated seed count b → IsGenerated seed count c → b ≡ c
one_generated seed count b c one other =
    let items : b.items ≡ c.items = same_map nat_list_cmp_total (slice_cmp-IsAntisymmetric nat_cmp-IsAntisymmetric) b.items c.items
    (λ k. same_answers (get b.items k) (get c.items k) (has_too seed count b c one other k) (has_too seed count c b other one k)) in
    ap₂ (λ (kind : Kind) (m : FinMap name_cmp Item). record { kind = kind; items = m }) (one.kind ∙ sym other.kind) items
