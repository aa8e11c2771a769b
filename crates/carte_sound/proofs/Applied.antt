-- A batch that carries the difference, with what its build drops and marks, makes what the build leaves.
use Rattle.std.proofs.Common.{◌≡◌, ℕ, true, false, not, ◌&&◌, cond, List, [], Some, None, option_map, ap, sym, ◌∙◌, inl}
use Rattle.std.specs.Option.{option_or}
use Rattle.carte_value.specs.declared.digest.Digest.{Digest}
use Rattle.carte_book.specs.Book.{Book}
use Rattle.carte_record.specs.declared.batch.Batch.{Batch}
use Rattle.carte_record.specs.declared.entry.Entry.{Entry}
use Rattle.carte_record.specs.declared.start.Start.TheVariants.{GoOn}
use Rattle.carte_record.specs.declared.way.Way.{Way}
use Rattle.carte_record.specs.Folds.{is_among, batch_traces, started, carried, apply}
use Rattle.carte_record.specs.Kept.{SomeKept, traces_in, staled}
use Rattle.carte_table.specs.Lookups.{link_in}
use Rattle.carte_record.specs.Lookups.{entry_in}
use Rattle.carte_sound.specs.Begun.{Beginning, begin}
use Rattle.carte_sound.specs.Held.{How}
use Rattle.carte_sound.specs.Left.{Finishes, keys_of, left}
use Rattle.carte_sound.specs.Carries.{Carries}
use Rattle.carte_sound.specs.LeadsTo.{marks_left}
use Rattle.carte_sound.proofs.Tests.{tested_among}
use Rattle.carte_sound.proofs.Finishing.{among_finished}
use Rattle.carte_sound.proofs.Unstale.{unstale_all, among_filtered, unfinished_entry, mark_carried}

-- kept information is equal where all its parts are
pub kept_same : (K L : SomeKept) → ((q : List ℕ) → K.seen q ≡ L.seen q) → ((q : List ℕ) → K.entries q ≡ L.entries q) → ((w : Way) (q : List ℕ) → K.traces w q ≡ L.traces w q) → K.chain ≡ L.chain → ((d : Digest) → K.stored d ≡ L.stored d) → K ≡ L
kept_same K L seen entries traces chain stored i = record {
  seen = λ q. seen q i;
  entries = λ q. entries q i;
  traces = λ w q. traces w q i;
  chain = chain i;
  stored = λ d. stored d i;
}

module _ (h : How) (b : Book) (K : SomeKept) (x : Beginning) (fs : Finishes) (chain : List (List ℕ)) (B : Batch) (gone : B.gone ≡ x.gone) (stale : B.stale ≡ marks_left fs x) (carries : Carries b (begin K x) (left h b (begin K x) fs chain) B) where
  carried_entry : (q : List ℕ) → (carried B K).entries q ≡ (left h b (begin K x) fs chain).entries q
  carried_entry q =
      ap (λ ks. option_map (staled (is_among ks q)) (option_or (entry_in B.entries q) (cond (is_among B.gone q) None (K.entries q)))) stale
      ∙ ap (λ ks. option_map (staled (is_among (marks_left fs x) q)) (option_or (entry_in B.entries q) (cond (is_among ks q) None (K.entries q)))) gone
      ∙ ap (λ m. option_map (staled m) (option_or (entry_in B.entries q) (cond (is_among x.gone q) None (K.entries q)))) (among_filtered (λ k. not (is_among x.gone k) && not (is_among (keys_of fs) k)) x.marks q)
      ∙ mark_carried (is_among x.gone q) (is_among x.marks q) (is_among (keys_of fs) q) (entry_in B.entries q) (K.entries q) ((left h b (begin K x) fs chain).entries q) unstale (unfinished_entry h b fs (begin K x) q) (carries.entries_differ q) (carries.entries q)
    where
      unstale : is_among (keys_of fs) q ≡ true → (e : Entry) → (left h b (begin K x) fs chain).entries q ≡ Some e → e.stale ≡ false
      unstale is = unstale_all h b fs (begin K x) [] (λ j among. absurd among) q (among_finished fs [] q (inl (tested_among (keys_of fs) q is)))

  pub carried_left : carried B K ≡ left h b (begin K x) fs chain
  carried_left = kept_same (carried B K) (left h b (begin K x) fs chain)
      (λ q. ap (λ ks. option_or (link_in B.seen q) (cond (is_among ks q) None (K.seen q))) gone ∙ sym (carries.seen q))
      carried_entry
      (λ w q. ap (λ ks. traces_in w q (batch_traces w B) (cond (is_among ks q) [] (K.traces w q))) gone ∙ sym (carries.traces w q))
      (sym carries.chain)
      (λ d. sym (carries.values d))

pub difference_applied : (h : How) (b : Book) (K : SomeKept) (x : Beginning) (fs : Finishes) (chain : List (List ℕ)) (B : Batch) → B.start ≡ GoOn → B.gone ≡ x.gone → B.stale ≡ marks_left fs x → Carries b (begin K x) (left h b (begin K x) fs chain) B → apply B K ≡ left h b (begin K x) fs chain
difference_applied h b K x fs chain B start gone stale carries = ap (λ s. carried B (started s K)) start ∙ carried_left h b K x fs chain B gone stale carries
