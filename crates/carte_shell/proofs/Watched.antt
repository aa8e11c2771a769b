-- What is known between the builds of a session.
use Rattle.std.proofs.Common.{◌≡◌, ℕ, Bool, true, false, cond, List, Option, Some, None, is_some, Result, Ok, Err, refl, ap, sym, ◌∙◌, subst}
use Rattle.std.specs.Ordering.{eq_by_cmp}
use Rattle.carte_name.specs.Names.{name_cmp}
use Rattle.carte_value.specs.declared.value.Value.{Value}
use Rattle.carte_book.specs.Book.{Book, Item, content, input}
use Rattle.carte_book.specs.Edits.{Sets, with_item}
use Rattle.carte_book.specs.declared.fault.SetFault.{SetFault}
use Rattle.carte_book.specs.declared.fault.SetFault.TheVariants as set
use Rattle.carte_book.proofs.Books.{item_put}
use Rattle.carte_book.proofs.Clean.{tied_name}
use Rattle.carte_mark.specs.Watching.{SameBut, Watches}
use Rattle.carte_mark.specs.declared.watch.Watch.{Watch}
use Rattle.carte_record.specs.declared.batch.Batch.{Batch}
use Rattle.carte_record.specs.Folds.{applied}
use Rattle.carte_record.specs.Kept.{SomeKept}
use Rattle.carte_state.specs.Around.{OverDisk}
use Rattle.carte_state.specs.Runs.{applied_to}
use Rattle.carte_state.specs.States.{Stand, any_in, any_of, kept_in}
use Rattle.carte_state.specs.Versions.{InTwo}
use Rattle.carte_engine.specs.Committing.{PutsAll}
use Rattle.carte_engine.specs.Versions.{kept_for}
use Rattle.carte_engine.proofs.Raising.{applied_two}
use Rattle.carte_engine.proofs.Several.{puts_kept}
use Rattle.carte_shell.specs.Watched.{IsWatchedBehind, IsWatchedIn}

-- ---- an input is set

same_but : (b c : Book) (k : List ℕ) → c ≡ b → SameBut k b c
same_but b c k is = record { kind = ap (λ (x : Book). x.kind) is; rest = λ q other. ap (λ x. content x q) is }

put_but : (b : Book) (k : List ℕ) (x : Item) → SameBut k b (with_item b k x)
put_but b k x = record { kind = refl; rest = λ q other. item_put b k x q ∙ on q other (eq_by_cmp name_cmp q k) refl }
  where
    on : (q : List ℕ) → ¬ (q ≡ k) → (t : Bool) → eq_by_cmp name_cmp q k ≡ t → cond t (Some x) (content b q) ≡ content b q
    on q other true is = absurd (other (tied_name q k is))
    on q other false is = refl

pub sets_but : (b c : Book) (k : List ℕ) (v : Value) (r : Result (Unit {0}) SetFault) → Sets b c k v r → SameBut k b c
sets_but b c k v (Ok u) sets = subst (SameBut k b) (sym sets.1) (put_but b k (input v))
sets_but b c k v (Err set.NotInput) sets = same_but b c k sets.1
sets_but b c k v (Err set.NoSuchName) sets = same_but b c k sets.1
sets_but b c k v (Err set.Limit) sets = same_but b c k sets.3
sets_but b c k v (Err set.NoMemory) sets = same_but b c k sets.1

-- ---- batches are put

in_two : (s : Stand) (L : SomeKept) → any_in s ≡ InTwo L → (s.one ≡ None) × (kept_in s ≡ L)
in_two s L = elim s.one as (λ o. any_of o (kept_in s) ≡ InTwo L → (o ≡ None) × (kept_in s ≡ L)) [
  | None ↦ λ is. (let same : kept_in s ≡ L = cc in (refl, same))
  | Some J ↦ λ is. cc
]

pub none_there : {A : Type 0} (o : Option A) → is_some o ≡ false → o ≡ None
none_there None is = refl
none_there (Some x) is = cc

pub watched_behind : (d : OverDisk) (s new : Stand) (b : Book) (Bs : List Batch) (o : Option Watch) → PutsAll true d s Bs new → IsWatchedBehind s b Bs o → IsWatchedIn new b o
watched_behind d s new b Bs o puts so w is =
    let was = so w is in
    let any : any_in new ≡ InTwo (applied (kept_in s) Bs) = puts_kept true d s Bs new puts ∙ (ap (λ j. applied_to (any_of j (kept_in s)) Bs) (none_there s.one was.0) ∙ applied_two (kept_in s) Bs) in
    let two = in_two new (applied (kept_in s) Bs) any in
    (ap is_some two.0, subst (λ K. Watches K b w) (sym two.1) was.1)

-- what a build finds is what is kept
pub found_two : (s : Stand) (b : Book) → is_some s.one ≡ false → kept_for (any_in s) b ≡ kept_in s
found_two s b none = ap (λ o. kept_for (any_of o (kept_in s)) b) (none_there s.one none)
