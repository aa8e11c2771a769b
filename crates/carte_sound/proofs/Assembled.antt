-- From the batch that notes finished keys one by one to the batch of a build.
use Rattle.std.proofs.Common.{◌≡◌, ℕ, Bool, true, false, ◌&&◌, cond, List, [], ◌∷◌, ◌++◌, refl, ap, sym, ◌∙◌}
use Rattle.std.specs.Prelude.{if◌then◌else◌}
use Rattle.carte_book.specs.Book.{Book}
use Rattle.carte_record.specs.declared.batch.Batch.{Batch}
use Rattle.carte_record.specs.declared.way.Way.{Way}
use Rattle.carte_record.specs.Kept.{SomeKept}
use Rattle.carte_sound.specs.True.{trace_of}
use Rattle.carte_sound.specs.Held.{How}
use Rattle.carte_sound.specs.Left.{is_way, Finishes, add_all, left}
use Rattle.carte_sound.specs.Carries.{Carries}
use Rattle.carte_sound.specs.LeadsTo.{traces_made}
use Rattle.carte_sound.proofs.Finishing.{adds_chain}

-- what carries the finished keys carries what is left, where the chain stays
pub carries_left : (h : How) (b : Book) (M : SomeKept) (fs : Finishes) (B : Batch) → Carries b M (add_all h b M fs) B → Carries b M (left h b M fs M.chain) B
carries_left h b M fs B c = record {
  values = c.values;
  values_lacked = c.values_lacked;
  values_once = c.values_once;
  seen = c.seen;
  seen_differs = c.seen_differs;
  seen_present = c.seen_present;
  seen_once = c.seen_once;
  entries = c.entries;
  entries_differ = c.entries_differ;
  entries_once = c.entries_once;
  traces = c.traces;
  chain = sym (adds_chain h b M fs) ∙ c.chain;
  chain_differs = c.chain_differs;
}

-- traces of a list that grows at its end
pub traces_end : (h : How) (b : Book) (fs : Finishes) (k : List ℕ) (ran : Bool) (w : Way) → traces_made h b (fs ++ (k, ran) ∷ []) w ≡ traces_made h b fs w ++ (if ran && is_way h w then trace_of w b k ∷ [] else [])
traces_end h b [] k ran w = refl
traces_end h b (f ∷ fs) k ran w = on_tests (f.1 && is_way h w) (traces_end h b fs k ran w)
  where
    on_tests : (t : Bool) → traces_made h b (fs ++ (k, ran) ∷ []) w ≡ traces_made h b fs w ++ (if ran && is_way h w then trace_of w b k ∷ [] else []) → cond t (trace_of w b f.0 ∷ traces_made h b (fs ++ (k, ran) ∷ []) w) (traces_made h b (fs ++ (k, ran) ∷ []) w) ≡ cond t (trace_of w b f.0 ∷ traces_made h b fs w) (traces_made h b fs w) ++ (if ran && is_way h w then trace_of w b k ∷ [] else [])
    on_tests true later = ap (λ ts. trace_of w b f.0 ∷ ts) later
    on_tests false later = later
