-- The batches that a build may commit.
use Rattle.std.specs.Prelude.{ℕ, ◌≡◌, ◌&&◌, false, not, List, [], ◌∷◌, ◌++◌, None, filter, if◌then◌else◌}
use Rattle.carte_book.specs.Book.{Book}
use Rattle.carte_record.specs.declared.batch.Batch.{Batch}
use Rattle.carte_record.specs.declared.entry.Entry.{Entry}
use Rattle.carte_record.specs.declared.start.Start.TheVariants.{GoOn}
use Rattle.carte_record.specs.Ways.{TraceBy}
use Rattle.carte_record.specs.declared.way.Way.{Way}
use Rattle.carte_record.specs.Folds.{is_among, batch_traces, apply}
use Rattle.carte_record.specs.Kept.{SomeKept}
use Rattle.carte_value.specs.Lists.{Has}
use Rattle.carte_sound.specs.Begun.{Beginning, IsBeginning, begin}
use Rattle.carte_sound.specs.True.{trace_of}
use Rattle.carte_sound.specs.Held.{How}
use Rattle.carte_sound.specs.Left.{is_way, Finishes, keys_of, left}
use Rattle.carte_sound.specs.Finished.{IsFinishing}
use Rattle.carte_sound.specs.Treated.{IsDoneInOrder, IsDoneSuspending, IsDoneRestarting}
use Rattle.carte_sound.specs.Carries.{Carries}

abbrev pub empty_batch : Batch
empty_batch = record { start = GoOn; values = []; gone = []; seen = []; entries = []; stale = []; verifying = []; constructive = []; deep = []; chain = None }

-- of each key that ran one trace, in the order in which the keys were finished
abbrev pub traces_made : How → Book → Finishes → (w : Way) → List (TraceBy w)
traces_made h b [] w = []
traces_made h b (f ∷ fs) w = if f.1 && is_way h w then trace_of w b f.0 ∷ traces_made h b fs w else traces_made h b fs w

-- the new marks but those of keys that are dropped or finished
abbrev pub marks_left : Finishes → Beginning → List (List ℕ)
marks_left fs x = filter (λ k. not (is_among x.gone k) && not (is_among (keys_of fs) k)) x.marks

-- how a build's finished keys and the old chain make the new one: it stays, or they come first
abbrev pub Chaining : Type 0
Chaining = List (List ℕ) → List (List ℕ) → List (List ℕ)

abbrev pub chain_stays : Chaining
chain_stays ks old = old

abbrev pub chain_behind : Chaining
chain_behind ks old = ks ++ filter (λ k. not (is_among ks k)) old

-- A build marks and drops, finishes what is done in some order, and brings just what is new by that. What is done is told over what it begins with.
pub record Brings (h : How) (done : SomeKept → List ℕ → Type 0) (chained : Chaining) (K : SomeKept) (b : Book) (B : Batch) : Type 0 where
  pub begun : Beginning
  pub begins : IsBeginning K b begun
  pub finished : Finishes
  pub order : IsFinishing h b (begin K begun) (done (begin K begun)) finished
  pub start : B.start ≡ GoOn
  pub gone : B.gone ≡ begun.gone
  pub stale : B.stale ≡ marks_left finished begun
  pub traces : (w : Way) → batch_traces w B ≡ traces_made h b finished w
  pub unmarked : (e : Entry) → Has B.entries e → e.stale ≡ false
  pub carries : Carries b (begin K begun) (left h b (begin K begun) finished (chained (keys_of finished) K.chain)) B
  pub applied : apply B K ≡ left h b (begin K begun) finished (chained (keys_of finished) K.chain)

-- where rules are ordered before any is worked out: what is reached is done
abbrev pub LeadsInOrder : How → SomeKept → Book → List (List ℕ) → Batch → Type 0
LeadsInOrder h K b targets B = Brings h (λ M k. IsDoneInOrder b targets k) chain_stays K b B

-- and nothing where the build is refused then
abbrev pub LeadsRefused : How → SomeKept → Book → Batch → Type 0
LeadsRefused h K b B = Brings h (λ M k. ⊥) chain_stays K b B

-- where a rule waits for what it needs: what is treated over what the build begins with
abbrev pub LeadsSuspending : How → SomeKept → Book → List (List ℕ) → Batch → Type 0
LeadsSuspending h K b targets B = Brings h (λ M k. IsDoneSuspending h M b targets k) chain_stays K b B

-- where a rule is begun anew once what it needs is done: the finished keys come before the old chain
abbrev pub LeadsRestarting : How → SomeKept → Book → List (List ℕ) → Batch → Type 0
LeadsRestarting h K b targets B = Brings h (λ M k. IsDoneRestarting h M b targets k) chain_behind K b B
