-- Finished keys noted one after the other.
use Rattle.std.proofs.Common.{◌≡◌, List, [], ◌∷◌, ◌++◌, refl, ap, sym, ◌∙◌, subst, append-nil, append_assoc}
use Rattle.carte_value.specs.Truths.{Among}
use Rattle.carte_book.specs.Book.{Book}
use Rattle.carte_record.specs.declared.batch.Batch.{Batch}
use Rattle.carte_record.specs.Folds.{batch_traces}
use Rattle.carte_record.specs.Kept.{SomeKept}
use Rattle.carte_sound.specs.Carries.{Carries}
use Rattle.carte_sound.specs.Held.{How}
use Rattle.carte_sound.specs.LeadsTo.{traces_made}
use Rattle.carte_sound.specs.Left.{add_all}
use Rattle.carte_sound.proofs.Assembled.{traces_end}
use Rattle.carte_sound.proofs.Finishing.{adds_end}
use Rattle.carte_note.specs.declared.finished.Finished.{Finished}
use Rattle.carte_note.specs.Notes.{AreUnmarked, Notes, Noted, trace_made}
use Rattle.carte_note.specs.Right.{finishes_of, has_run, key_of}
use Rattle.carte_plan.specs.Planned.{AreGiven, NotesAll}
use Rattle.carte_plan.proofs.Lists.{finishes_end, keys_same, once_front, others_stay, right_front}

pub none_noted : (h : How) (M : SomeKept) (b : Book) (B : Batch) → NotesAll h M b [] B B
none_noted h M b B = record {
  start = refl;
  gone = refl;
  stale = refl;
  unmarked = λ are. are;
  carries = λ given c. c;
  traces = λ given c w. sym (append-nil (batch_traces w B));
}

module _ (h : How) (M : SomeKept) (b : Book) (before : List Finished) (f : Finished) (old mid new : Batch) (so : NotesAll h M b before old mid) (notes : Notes h M b f mid new) where
  front : AreGiven h M b (before ++ f ∷ []) → AreGiven h M b before
  front given = record { now = given.now; right = (right_front h M b before f given.right).0; once = (once_front before f given.once).0 }

  one : (given : AreGiven h M b (before ++ f ∷ [])) → Carries b M M old → Noted h M (add_all h b M (finishes_of before)) b (key_of f) f mid new
  one given c =
      let apart = (once_front before f given.once).1 in
      notes (add_all h b M (finishes_of before)) (key_of f) given.now (so.carries (front given) c)
      (others_stay h b M (finishes_of before) (key_of f) (λ among. apart (subst (λ ks. Among ks (key_of f)) (keys_same before) among)))
      (right_front h M b before f given.right).1

  pub one_noted : (AreUnmarked mid.entries → AreUnmarked new.entries) → new.start ≡ mid.start → new.gone ≡ mid.gone → new.stale ≡ mid.stale → NotesAll h M b (before ++ f ∷ []) old new
  one_noted unmarked start gone stale = record {
    start = start ∙ so.start;
    gone = gone ∙ so.gone;
    stale = stale ∙ so.stale;
    unmarked = λ are. unmarked (so.unmarked are);
    carries = λ given c. subst (λ L. Carries b M L new) (sym (ap (add_all h b M) (finishes_end before f) ∙ adds_end h b M (finishes_of before) (key_of f) (has_run f.made))) (one given c).carries;
    traces = λ given c w.
        (one given c).traces w
        ∙ (ap (λ ts. ts ++ trace_made h b (key_of f) f w) (so.traces (front given) c w)
        ∙ (append_assoc (batch_traces w old) (traces_made h b (finishes_of before) w) (trace_made h b (key_of f) f w)
        ∙ ap (λ ts. batch_traces w old ++ ts) (sym (ap (λ fs. traces_made h b fs w) (finishes_end before f) ∙ traces_end h b (finishes_of before) (key_of f) (has_run f.made) w))));
  }
