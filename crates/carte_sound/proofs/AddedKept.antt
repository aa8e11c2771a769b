-- A finished key is kept with its clean value, and each that was so before still is.
use Rattle.std.proofs.Common.{◌≡◌, ℕ, Bool, List, Some, ap, sym, ◌∙◌, inl, inr, subst}
use Rattle.carte_value.specs.Spelling.{digest_of}
use Rattle.carte_book.specs.Book.{Book}
use Rattle.carte_record.specs.Kept.{SomeKept}
use Rattle.carte_sound.specs.Held.{How}
use Rattle.carte_sound.specs.Results.{IsKeptNow}
use Rattle.carte_sound.specs.Left.{entry_left, add}
use Rattle.carte_sound.proofs.Tests.{eq_or_apart, put_here, put_there}
use Rattle.carte_sound.proofs.Held.{stored_value}
use Rattle.carte_sound.proofs.Entries.{leaves}
use Rattle.carte_sound.proofs.Written.{stored_grows}
use Rattle.carte_sound.proofs.AddedNow.{IsNext, leaves_entry}
use Rattle.carte_sound.proofs.Added.{leaves_stored, added_sound}

module _ (h : How) (b : Book) (H : List Book) (K : SomeKept) (k : List ℕ) (ran : Bool) (p : IsNext h b H K k ran) where
  -- the key is kept with its clean value
  pub kept_here : IsKeptNow (add h b K k ran) b k
  kept_here =
      let at : (add h b K k ran).entries k ≡ Some (entry_left h K b k) = put_here K.entries k (entry_left h K b k) in
      let told = leaves_entry h b H K k ran p (entry_left h K b k) (leaves h b K k p.order) in
      let of : (entry_left h K b k).result ≡ digest_of p.value = told.result ∙ ap digest_of (let same_value : told.value ≡ p.value = (let s : Some told.value ≡ Some p.value = sym told.clean ∙ p.clean in cc) in same_value) in
      record {
        entry = entry_left h K b k;
        kept = at;
        result = record {
          value = p.value;
          clean = p.clean;
          digest = of;
          stored = stored_value (add h b K k ran) H (added_sound h b H K k ran p) p.base.distinct b p.base.present k p.value p.clean (entry_left h K b k).result (leaves_stored h b H K k ran p (entry_left h K b k) (leaves h b K k p.order)) of;
        };
      }

  -- and each that was so before still is
  pub kept_grows : (j : List ℕ) → IsKeptNow K b j → IsKeptNow (add h b K k ran) b j
  kept_grows j before = elim (eq_or_apart j k) [
    | inl is ↦ subst (IsKeptNow (add h b K k ran) b) (sym is) kept_here
    | inr apart ↦ record {
      entry = before.entry;
      kept = put_there K.entries k (entry_left h K b k) j apart ∙ before.kept;
      result = record {
        value = before.result.value;
        clean = before.result.clean;
        digest = before.result.digest;
        stored = stored_grows h b K k ran before.entry.result before.result.value before.result.stored;
      };
    }
  ]
