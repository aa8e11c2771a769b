-- Tasks of rules, and rules that have one task in two books.
use Rattle.std.proofs.Common.{◌≡◌, ◌⊎◌, ℕ, List, Option, Some, None, refl, ap, sym, ◌∙◌, inl, inr}
use Rattle.carte_value.specs.declared.digest.Digest.{Digest}
use Rattle.carte_value.specs.Lists.{Has}
use Rattle.carte_tree.specs.Tree.{Tree}
use Rattle.carte_book.specs.Book.{Item, input, rule, Book, content}
use Rattle.carte_book.specs.Edits.{IsInput}
use Rattle.carte_book.specs.Needs.{IsRule}
use Rattle.carte_book.specs.Task.{task_digest_of, task_in, task_now}
use Rattle.carte_book.proofs.Tasks.{task_of_rule}
use Rattle.carte_sound.specs.Base.{HasDistinctDigests}
use Rattle.carte_sound.specs.True.{or_none}

pub rule_or_not : (b : Book) (k : List ℕ) → IsRule b k ⊎ ¬ (IsRule b k)
rule_or_not b k = on_item (content b k) refl
  where
    on_item : (o : Option Item) → content b k ≡ o → IsRule b k ⊎ ¬ (IsRule b k)
    on_item None is = inr (λ r. let e : None ≡ Some (rule r.0) = sym is ∙ r.1 in cc)
    on_item (Some (input v)) is = inr (λ r. let e : Some (input v) ≡ Some (rule r.0) = sym is ∙ r.1 in cc)
    on_item (Some (rule f)) is = inl (f, is)

pub input_or_not : (b : Book) (k : List ℕ) → IsInput b k ⊎ ¬ (IsInput b k)
input_or_not b k = on_item (content b k) refl
  where
    on_item : (o : Option Item) → content b k ≡ o → IsInput b k ⊎ ¬ (IsInput b k)
    on_item None is = inr (λ r. let e : None ≡ Some (input r.0) = sym is ∙ r.1 in cc)
    on_item (Some (input v)) is = inl (v, is)
    on_item (Some (rule f)) is = inr (λ r. let e : Some (rule f) ≡ Some (input r.0) = sym is ∙ r.1 in cc)

-- what has a task is a rule
pub rule_of_task : (b : Book) (k : List ℕ) (d : Digest) → task_now b k ≡ Some d → (g : Tree) × (content b k ≡ Some (rule g)) × (task_digest_of b.kind g ≡ d)
rule_of_task b k d = on_item (content b k)
  where
    on_item : (o : Option Item) → task_in b.kind o ≡ Some d → (g : Tree) × (o ≡ Some (rule g)) × (task_digest_of b.kind g ≡ d)
    on_item None is = cc
    on_item (Some (input v)) is = cc
    on_item (Some (rule g)) is = (g, refl, (let same : task_digest_of b.kind g ≡ d = cc in same))

-- the task that a rule is written with
pub own_task : (b : Book) (k : List ℕ) (f : Tree) → content b k ≡ Some (rule f) → or_none (task_now b k) ≡ task_digest_of b.kind f
own_task b k f is = ap or_none (task_of_rule b k f is)

-- a rule whose task another book has at the name is that rule there, in a book of the same kind
pub same_task : (H : List Book) → HasDistinctDigests H → (c b : Book) → Has H c → Has H b → (k : List ℕ) (f : Tree) → content c k ≡ Some (rule f) → task_now b k ≡ Some (task_digest_of c.kind f) → (c.kind ≡ b.kind) × (content b k ≡ Some (rule f))
same_task H distinct c b in_c in_b k f at_c now =
    let g = rule_of_task b k (task_digest_of c.kind f) now in
    let same = distinct.tasks c b k k f g.0 in_c in_b at_c g.1 (sym g.2) in
    (same.0, g.1 ∙ ap (λ e. Some (rule e)) (sym same.1))
