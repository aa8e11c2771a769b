-- The checks of traces with the result of the key's entry are those of all traces that may be reused.
use Rattle.std.proofs.Common.{◌≡◌, ℕ, true, List, [], Some, None, refl, ap, sym, ◌∙◌, subst}
use Rattle.carte_task.specs.Checking.{Checking}
use Rattle.carte_book.specs.Book.{Book}
use Rattle.carte_book.specs.Task.{task_now}
use Rattle.carte_record.specs.declared.entry.Entry.{Entry}
use Rattle.carte_record.specs.declared.kept.Kept.{Kept}
use Rattle.carte_record.specs.declared.trace.Trace.{Trace}
use Rattle.carte_record.specs.declared.way.Way.TheVariants.{Verifying}
use Rattle.carte_table.specs.Lookups.{digest_eq}
use Rattle.carte_record.specs.Lookups.{first_entry}
use Rattle.carte_record.specs.Kept.{kept_view}
use Rattle.carte_sound.specs.Held.{IsTrusted}
use Rattle.carte_sound.proofs.Tests.{same_digest, digest_self}
use Rattle.carte_rebuild.specs.Earlier.{checks_now}
use Rattle.carte_rebuild.specs.Traced.{AreTried}
use Rattle.carte_rebuild.proofs.Starting.{tried_verifying}

pub with_entry : (K : Kept) (b : Book) (k : List ℕ) (e : Entry) (cs : List Checking) → first_entry K.entries k ≡ Some e → cs ≡ checks_now (task_now b k) (Some e.result) K.values k K.verifying → AreTried Verifying (kept_view K) b k cs
with_entry K b k e cs found is = subst (AreTried Verifying (kept_view K) b k) (sym is) (tried_verifying (kept_view K) b k (Some e.result) K.values K.verifying refl refl
    (λ t wanted. (e, found, same_digest e.result t.result wanted))
    (λ t trusted. wants t trusted))
  where
    wants : (t : Trace) → IsTrusted Verifying (kept_view K) k t → digest_eq e.result t.result ≡ true
    wants t (d, kept, same) =
        let both : Some e ≡ Some d = sym found ∙ kept in
        let one : e ≡ d = cc in
        subst (λ x. digest_eq e.result x ≡ true) (ap (λ (x : Entry). x.result) one ∙ same) (digest_self e.result)

pub without_entry : (K : Kept) (b : Book) (k : List ℕ) (cs : List Checking) → first_entry K.entries k ≡ None → cs ≡ [] → AreTried Verifying (kept_view K) b k cs
without_entry K b k cs none is = subst (AreTried Verifying (kept_view K) b k) (sym is) (record {
  only = λ c has. absurd has;
  each = λ t v has of trusted stored. (let both : Some trusted.0 ≡ None = sym trusted.1 ∙ none in cc);
})
