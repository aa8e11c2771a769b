-- What a build brings that finishes nothing, where nothing is kept: one batch with nothing in it.
use Rattle.std.proofs.Common.{◌≡◌, ℕ, Bool, true, false, cond, List, [], ◌∷◌, Option, Some, None, option_map, refl, sym, ap, ◌∙◌, subst, inl}
use Rattle.std.specs.Option.{option_or}
use Rattle.std.specs.List.{flat_map}
use Rattle.std.specs.Prelude.{unwrap_or}
use Rattle.carte_value.specs.declared.link.Link.{Link}
use Rattle.carte_value.specs.Truths.{Among}
use Rattle.carte_book.specs.Book.{Book}
use Rattle.carte_table.specs.Lookups.{find_last, is_link_of, link_in}
use Rattle.carte_record.specs.declared.batch.Batch.{Batch}
use Rattle.carte_record.specs.declared.entry.Entry.{Entry}
use Rattle.carte_record.specs.declared.way.Way.TheVariants.{Verifying, Constructive, Deep}
use Rattle.carte_record.specs.Empty.{is_empty}
use Rattle.carte_record.specs.Kept.{SomeKept, nothing_kept}
use Rattle.carte_record.specs.Lookups.{entry_in, is_entry_of}
use Rattle.carte_sound.specs.Begun as begun
use Rattle.carte_sound.specs.Begun.{Beginning, IsBeginning, IsGone, begin, no_change}
use Rattle.carte_sound.specs.Held.{How}
use Rattle.carte_sound.specs.Left.{Finishes, keys_of}
use Rattle.carte_sound.specs.LeadsTo.{Chaining}
use Rattle.carte_sound.specs.Marks.{IsMarked}
use Rattle.carte_sound.specs.Parts.{AreOfParts, AreSized, BringsParts, IsOfPart}
use Rattle.carte_sound.proofs.Tests.{name_self}
use Rattle.carte_top.proofs.Clearing.{no_value}

-- ---- lists in which nothing is found

either_none : {A : Type 0} (o : Option A) (t : Bool) (x : A) → t ≡ true → ¬ (option_or o (cond t (Some x) None) ≡ None)
either_none None true x is none = cc
either_none None false x is none = cc
either_none (Some y) t x is none = cc

some_last : {A : Type 0} (p : A → Bool) (x : A) (xs : List A) → p x ≡ true → ¬ (find_last p (x ∷ xs) ≡ None)
some_last p x xs is none = either_none (find_last p xs) (p x) x is none

mapped_none : {A B : Type 0} (f : A → B) (o : Option A) → option_map f o ≡ None → o ≡ None
mapped_none f None is = refl
mapped_none f (Some x) is = cc

no_links : (ls : List Link) → ((k : List ℕ) → link_in ls k ≡ None) → ls ≡ []
no_links [] none = refl
no_links (l ∷ ls) none = absurd (some_last (is_link_of l.name) l ls (name_self l.name) (mapped_none (λ m. m.digest) (find_last (is_link_of l.name) (l ∷ ls)) (none l.name)))

no_entries : (es : List Entry) → ((k : List ℕ) → entry_in es k ≡ None) → es ≡ []
no_entries [] none = refl
no_entries (e ∷ es) none = absurd (some_last (is_entry_of e.key) e es (name_self e.key) (none e.key))

or_none : {A : Type 0} (o : Option A) → None ≡ option_or o None → o ≡ None
or_none None is = refl
or_none (Some x) is = cc

no_names : (P : List ℕ → Type 0) (ks : List (List ℕ)) → ((k : List ℕ) → Among ks k → P k) → ((k : List ℕ) → ¬ (P k)) → ks ≡ []
no_names P [] only never = refl
no_names P (k ∷ ks) only never = absurd (never k (only k (inl refl)))

-- ---- what a build begins with

never_gone : (b : Book) (k : List ℕ) → ¬ (IsGone nothing_kept b k)
never_gone b k (begun.IsGone.seen d kept other) = cc
never_gone b k (begun.IsGone.entry e kept other) = cc

never_marked : (b : Book) (k : List ℕ) → ¬ (IsMarked nothing_kept b k)
never_marked b k marked = let kept = marked.kept in cc

same_begun : (x : Beginning) → x.marks ≡ [] → x.gone ≡ [] → x ≡ no_change
same_begun x marks gone i = record { marks = marks i; gone = gone i }

nothing_begun : (b : Book) (x : Beginning) → IsBeginning nothing_kept b x → x ≡ no_change
nothing_begun b x begins =
    same_begun x (no_names (IsMarked nothing_kept b) x.marks begins.marks.only (never_marked b)) (no_names (IsGone nothing_kept b) x.gone begins.gone.only (never_gone b))

-- ---- its one batch

abbrev bare : SomeKept
bare = begin nothing_kept no_change

no_chain : (o : Option (List (List ℕ))) → [] ≡ unwrap_or o [] → ((ks : List (List ℕ)) → o ≡ Some ks → ¬ ([] ≡ ks)) → o ≡ None
no_chain None is differs = refl
no_chain (Some ks) is differs = absurd (differs ks refl is)

empty_part : (h : How) (b : Book) (B : Batch) → IsOfPart h b bare [] [] [] no_change B → is_empty B ≡ true
empty_part h b B of =
    let chain : B.chain ≡ None = no_chain B.chain of.carries.chain of.carries.chain_differs in
    let values : B.values ≡ [] = no_value B.values (λ d. sym (of.carries.values d)) in
    let gone : B.gone ≡ [] = of.gone in
    let seen : B.seen ≡ [] = no_links B.seen (λ q. or_none (link_in B.seen q) (of.carries.seen q)) in
    let entries : B.entries ≡ [] = no_entries B.entries (λ q. or_none (entry_in B.entries q) (of.carries.entries q)) in
    let stale : B.stale ≡ [] = of.stale in
    let verifying : B.verifying ≡ [] = of.traces Verifying in
    let constructive : B.constructive ≡ [] = of.traces Constructive in
    let deep : B.deep ≡ [] = of.traces Deep in
    rw (of.starts, chain, values, gone, seen, entries, stale, verifying, constructive, deep) refl

abbrev pub IsOneEmpty : List Batch → Type 0
IsOneEmpty Bs = (B : Batch) × (Bs ≡ B ∷ []) × (is_empty B ≡ true)

one_batch : (h : How) (b : Book) (chain : List (List ℕ)) (Bs : List Batch) → chain ≡ [] → AreOfParts h b bare chain [] no_change ([] ∷ []) Bs → IsOneEmpty Bs
one_batch h b chain [] is are = absurd are
one_batch h b chain (B ∷ []) is are = (B, refl, empty_part h b B (subst (λ ks. IsOfPart h b bare [] [] ks no_change B) is are.0))
one_batch h b chain (B ∷ C ∷ Bs) is are = absurd are.1

one_part : (parts : List Finishes) → AreSized parts → flat_map (λ part. part) parts ≡ [] → parts ≡ [] ∷ []
one_part [] sized none = absurd sized
one_part ([] ∷ []) sized none = refl
one_part ((f ∷ fs) ∷ []) sized none = cc
one_part ([] ∷ next ∷ parts) sized none = let full : 0 ≡ 256 = sized.0 in cc
one_part ((f ∷ fs) ∷ next ∷ parts) sized none = cc

none_finished : (fs : Finishes) → ((k : List ℕ) → ¬ (Among (keys_of fs) k)) → fs ≡ []
none_finished [] only = refl
none_finished (f ∷ fs) only = absurd (only f.0 (inl refl))

pub brings_empty : (h : How) (done : SomeKept → List ℕ → Type 0) (chained : Chaining) (b : Book) (Bs : List Batch)
    → chained [] [] ≡ [] → ((M : SomeKept) (k : List ℕ) → ¬ (done M k)) → BringsParts h done chained nothing_kept b Bs → IsOneEmpty Bs
brings_empty h done chained b Bs none never brings =
    let finished : brings.finished ≡ [] = none_finished brings.finished (λ k among. never (begin nothing_kept brings.begun) k (brings.order.only k among)) in
    let parts : brings.parts ≡ [] ∷ [] = one_part brings.parts brings.are_parts.sized (brings.are_parts.whole ∙ finished) in
    let begins : brings.begun ≡ no_change = nothing_begun b brings.begun brings.begins in
    let chain : chained (keys_of brings.finished) [] ≡ [] = ap (λ fs. chained (keys_of fs) []) finished ∙ none in
    one_batch h b (chained (keys_of brings.finished) []) Bs chain
    (subst (λ ps. AreOfParts h b bare (chained (keys_of brings.finished) []) [] no_change ps Bs) parts
    (subst (λ x. AreOfParts h b (begin nothing_kept x) (chained (keys_of brings.finished) []) [] x brings.parts Bs) begins brings.batches))
