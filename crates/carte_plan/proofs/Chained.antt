-- The chain that is put into a batch.
use Rattle.std.proofs.Common.{◌≡◌, ℕ, Bool, true, false, List, Some, refl, ap, sym, ◌∙◌, subst, inl, inr}
use Rattle.std.specs.Bool.{Decides}
use Rattle.std.specs.Cmp.Lexicographic.{bytes_decides, pointwise}
use Rattle.std.proofs.lemmas.Slice.Eq.{slice_eq-Decides}
use Rattle.carte_name.specs.Names.{name_eq}
use Rattle.carte_book.specs.Book.{Book}
use Rattle.carte_record.specs.declared.batch.Batch.{Batch}
use Rattle.carte_record.specs.declared.way.Way.{Way}
use Rattle.carte_record.specs.declared.way.Way.TheVariants.{Verifying, Constructive, Deep}
use Rattle.carte_record.specs.Folds.{batch_traces}
use Rattle.carte_record.specs.Kept.{SomeKept, traces_in}
use Rattle.carte_sound.specs.Carries.{Carries}
use Rattle.carte_note.specs.Notes.{AreUnmarked}
use Rattle.carte_plan.specs.Planned.{PutsChain}

-- the test of the two lists tells whether the chain is to be put
module _ (old chain xs ys : List (List ℕ)) (B : Batch) where
  chains_decide : (t : Bool) → xs ≡ old → ys ≡ chain → t ≡ pointwise name_eq xs ys → Decides t (old ≡ chain)
  chains_decide t one two test = subst (λ zs. Decides t (zs ≡ chain)) one (subst (λ zs. Decides t (xs ≡ zs)) two (slice_eq-Decides bytes_decides xs ys t test))

  pub chain_same : (t : Bool) → xs ≡ old → ys ≡ chain → t ≡ pointwise name_eq xs ys → t ≡ true → PutsChain old chain B B
  chain_same t one two test is = inl ((chains_decide t one two test).0 is, refl)

  pub chain_other : (ks : List (List ℕ)) (t : Bool) → xs ≡ old → ys ≡ chain → t ≡ pointwise name_eq xs ys → t ≡ false → ks ≡ chain → PutsChain old chain B (record B { chain = Some ks })
  chain_other ks t one two test is same = inr ((λ they. let both : true ≡ false = sym ((chains_decide t one two test).1 they) ∙ is in cc), ap (λ zs. record B { chain = Some zs }) same)

-- the chain alone was put
puts_traces : (B : Batch) (chain : List (List ℕ)) (w : Way) → batch_traces w (record B { chain = Some chain }) ≡ batch_traces w B
puts_traces B chain Verifying = refl
puts_traces B chain Constructive = refl
puts_traces B chain Deep = refl

pub puts_unmarked : (old chain : List (List ℕ)) (B C : Batch) → PutsChain old chain B C → AreUnmarked B.entries → AreUnmarked C.entries
puts_unmarked old chain B C (inl (same, is)) unmarked = subst (λ (D : Batch). AreUnmarked D.entries) (sym is) unmarked
puts_unmarked old chain B C (inr (other, is)) unmarked = subst (λ (D : Batch). AreUnmarked D.entries) (sym is) unmarked

pub puts_start : (old chain : List (List ℕ)) (B C : Batch) → PutsChain old chain B C → C.start ≡ B.start
puts_start old chain B C (inl (same, is)) = ap (λ (D : Batch). D.start) is
puts_start old chain B C (inr (other, is)) = ap (λ (D : Batch). D.start) is

pub puts_gone : (old chain : List (List ℕ)) (B C : Batch) → PutsChain old chain B C → C.gone ≡ B.gone
puts_gone old chain B C (inl (same, is)) = ap (λ (D : Batch). D.gone) is
puts_gone old chain B C (inr (other, is)) = ap (λ (D : Batch). D.gone) is

pub puts_stale : (old chain : List (List ℕ)) (B C : Batch) → PutsChain old chain B C → C.stale ≡ B.stale
puts_stale old chain B C (inl (same, is)) = ap (λ (D : Batch). D.stale) is
puts_stale old chain B C (inr (other, is)) = ap (λ (D : Batch). D.stale) is

pub puts_ways : (old chain : List (List ℕ)) (B C : Batch) → PutsChain old chain B C → (w : Way) → batch_traces w C ≡ batch_traces w B
puts_ways old chain B C (inl (same, is)) w = ap (batch_traces w) is
puts_ways old chain B C (inr (other, is)) w = ap (batch_traces w) is ∙ puts_traces B chain w

-- so it carries the chain besides
pub puts_carries : (b : Book) (L N : SomeKept) (chain : List (List ℕ)) (B C : Batch) → PutsChain L.chain chain B C → Carries b L (record N { chain = L.chain }) B → Carries b L (record N { chain = chain }) C
puts_carries b L N chain B C (inl (same, is)) c = subst (λ D. Carries b L (record N { chain = chain }) D) (sym is) (subst (λ ks. Carries b L (record N { chain = ks }) B) same c)
puts_carries b L N chain B C (inr (other, is)) c = subst (λ D. Carries b L (record N { chain = chain }) D) (sym is) (record {
  values = c.values;
  values_lacked = c.values_lacked;
  values_once = c.values_once;
  seen = c.seen;
  seen_differs = c.seen_differs;
  seen_present = c.seen_present;
  seen_once = c.seen_once;
  entries = c.entries;
  entries_differ = c.entries_differ;
  entries_once = c.entries_once;
  traces = λ w q. c.traces w q ∙ ap (λ ts. traces_in w q ts (L.traces w q)) (sym (puts_traces B chain w));
  chain = refl;
  chain_differs = λ ks is_chain. (let same : chain ≡ ks = cc in λ was. other (was ∙ sym same));
})
