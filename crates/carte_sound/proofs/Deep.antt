-- What a key has that is held by the rules and the inputs beneath it.
use Rattle.std.proofs.Common.{◌≡◌, ℕ, List, Some, ap, ◌∙◌}
use Rattle.carte_value.specs.declared.digest.Digest.{Digest}
use Rattle.carte_value.specs.Spelling.{digest_of}
use Rattle.carte_book.specs.Book.{Book, clean}
use Rattle.carte_record.specs.declared.deep_trace.DeepTrace.{DeepTrace}
use Rattle.carte_record.specs.declared.way.Way.TheVariants.{Verifying, Constructive, Deep}
use Rattle.carte_record.specs.Kept.{SomeKept}
use Rattle.carte_sound.specs.Base.{IsBase}
use Rattle.carte_sound.specs.Held.{How, dirty, tracing, IsHeldBy, IsHeld}
use Rattle.carte_sound.specs.Results.{HasResult}
use Rattle.carte_sound.specs.True.{digest_or, deep_trace}
use Rattle.carte_sound.proofs.DeepRules.{deep_same, deep_value}
use Rattle.carte_sound.proofs.Held.{stored_value, verifying_held, constructive_held, fresh_result}

module _ (K : SomeKept) (b : Book) (H : List Book) (base : IsBase K b H) where
  -- its trace is that of the present book
  pub deep_held : (k : List ℕ) (t : DeepTrace) → IsHeldBy Deep K b k t → HasResult K b k t.result × (t ≡ deep_trace b k)
  deep_held k t held =
      let s = base.sound.traces Deep k t held.kept in
      let c = s.book in
      let v = s.trace.value in
      let now : clean b k ≡ Some v = deep_value H base.distinct c b s.stood base.present k t s.trace held.task held.links in
      let of : t.result ≡ digest_of v = ap (λ (x : DeepTrace). x.result) s.trace.trace ∙ ap digest_or s.trace.clean in (
        record { value = v; clean = now; digest = of; stored = stored_value K H base.sound base.distinct c s.stood k v s.trace.clean t.result (base.sound.trace_stored Deep k t held.kept) of },
        deep_same H base.distinct c b s.stood base.present k t s.trace held.task held.links,
      )

  -- a held key has its clean value in the store, under all four rebuilders
  pub held_result : (h : How) (k : List ℕ) → IsHeld h K b k → (d : Digest) × HasResult K b k d
  held_result dirty k held = (held.entry.result, fresh_result K b H base k held)
  held_result (tracing Verifying) k held = (held.0.result, (verifying_held K b H base k held.0 held.1).0)
  held_result (tracing Constructive) k held = (held.0.result, (constructive_held K b H base k held.0 held.1).0)
  held_result (tracing Deep) k held = (held.0.result, (deep_held k held.0 held.1).0)
