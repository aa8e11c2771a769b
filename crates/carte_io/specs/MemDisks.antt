-- A disk in memory as its clauses see it: what it held at first, and the calls that passed.
use Rattle.std.specs.Prelude.{◌≡◌, ◌⊎◌, ℕ, ◌+◌, ◌<◌, ◌≤◌, ◌||◌, nat_le, max, List, [], ◌∷◌, ◌++◌, length, Bool, false, Option, Some, None, refl}
use Rattle.std.proofs.Common.{get_or, arith, inl, inr, ◌∙◌}
use Rattle.std.proofs.lemmas.Bool.{cases_lt}
use Rattle.carte_io.specs.Causes.{counted}
use Rattle.carte_io.specs.Memory.{is_failing}
use Rattle.carte_io.specs.Disk.{Story, wrote, did_sync, CountsUp, EachMoment, IsImage, IsTorn, IsWithin, IsWritten, Moment, moments, put_at}
use Rattle.carte_io.specs.Puts.{length-put_at, put_at_outside}
use Rattle.carte_io.specs.declared.passed.Passed.{Passed}
use Rattle.carte_io.specs.declared.passed.Passed.TheVariants.{Wrote, Synced}

-- what it held at first, the writing calls that passed, oldest first, the numbers of the calls that fail, after
-- how many writing calls it stops, and how many calls and failures there were
pub record MemoryOfDisk : Type 0 where
  pub first : List ℕ
  pub passed : List Passed
  pub failing : List ℕ
  pub stop : Option ℕ
  pub calls : ℕ
  pub faults : ℕ

-- a disk that has these bytes, all of them synced, before any call
abbrev pub begun_disk : List ℕ → List ℕ → MemoryOfDisk
begun_disk bytes failing = record { first = bytes; passed = []; failing = failing; stop = None; calls = 0; faults = 0 }

-- its story, for which there is no bound
abbrev pub begun : List ℕ → Story
begun bytes = record { now = record { reads = bytes; synced = bytes; written = []; passed = 0 }; past = []; most = None }

abbrev pub after_call : Story → Passed → Story
after_call s (Wrote at piece) = wrote at piece s
after_call s Synced = did_sync s

abbrev pub after_calls : Story → List Passed → Story
after_calls s [] = s
after_calls s (call ∷ calls) = after_calls (after_call s call) calls

-- how many writing calls pass in all, where it is to stop after so many, and so many passed already
abbrev pub most_of : Option ℕ → ℕ → Option ℕ
most_of None n = None
most_of (Some stop) n = Some (max stop n)

abbrev pub bounded : Option ℕ → Story → Story
bounded most s = record s { most = most }

abbrev pub story_of : MemoryOfDisk → Story
story_of d = bounded (most_of d.stop (length d.passed)) (after_calls (begun d.first) d.passed)

abbrev pub is_stopped : Option ℕ → ℕ → Bool
is_stopped None n = false
is_stopped (Some stop) n = nat_le stop n

-- the next call fails by the list or by a stop
abbrev pub is_refusing : MemoryOfDisk → Bool
is_refusing d = is_failing d.failing d.calls || is_stopped d.stop (length d.passed)

-- a call that gave what a read gives, or the length
abbrev pub disk_read : MemoryOfDisk → MemoryOfDisk
disk_read d = record d { calls = counted d.calls }

-- a writing call passed
abbrev pub disk_passed : Passed → MemoryOfDisk → MemoryOfDisk
disk_passed call d = record d { passed = d.passed ++ call ∷ []; calls = counted d.calls }

-- a call failed, which changes the two counts alone
abbrev pub disk_failed : MemoryOfDisk → MemoryOfDisk
disk_failed d = record d { calls = counted d.calls; faults = counted d.faults }

-- laws, for the trait's own law

-- an offset outside of the written ranges is outside of the newest
pub not_in_newest : (at n i : ℕ) (ranges : List (ℕ × ℕ)) → ¬ IsWritten ((at, at + n) ∷ ranges) i → (i < at) ⊎ (at + n ≤ i)
not_in_newest at n i ranges out =
    elim (cases_lt i at) [
      | inl below ↦ inl below
      | inr above ↦ elim (cases_lt i (at + n)) [
        | inl inside ↦ absurd (out (inl (above, inside)))
        | inr behind ↦ inr behind
      ]
    ]

-- after a write what a read gives is an image again
pub image_wrote : (ranges : List (ℕ × ℕ)) (synced reads : List ℕ) (at : ℕ) (piece : List ℕ)
    → IsTorn ranges synced reads → IsTorn ((at, at + length piece) ∷ ranges) synced (put_at reads at piece)
image_wrote ranges synced reads at piece torn = record {
  no_shorter = omega (arith, length-put_at reads at piece, torn.no_shorter);
  no_longer = omega (arith, length-put_at reads at piece, torn.no_longer);
  outside = λ i within out.
      let kept : get_or (put_at reads at piece) i 0 ≡ get_or reads i 0 =
      put_at_outside reads at piece i (omega (arith, torn.no_shorter)) (not_in_newest at (length piece) i ranges out) in
      kept ∙ torn.outside i within (λ was. out (inr was));
}

pub image_synced : (reads : List ℕ) → IsTorn [] reads reads
image_synced reads = record { no_shorter = omega arith; no_longer = omega arith; outside = λ i within out. refl }

pub image_after : (s : Story) (calls : List Passed) → IsImage s.now s.now.reads → IsImage (after_calls s calls).now (after_calls s calls).now.reads
image_after s [] image = image
image_after s (Wrote at piece ∷ calls) image =
    image_after (wrote at piece s) calls (image_wrote s.now.written s.now.synced s.now.reads at piece image)
image_after s (Synced ∷ calls) image = image_after (did_sync s) calls (image_synced s.now.reads)

pub image_of : (d : MemoryOfDisk) → IsImage (story_of d).now (story_of d).now.reads
image_of d = image_after (begun d.first) d.passed (image_synced d.first)

-- more calls passed than before, whatever was let pass
each_fewer : (n k : ℕ) → n ≤ k → (ms : List Moment) → EachMoment (λ m. m.passed ≤ n) ms → EachMoment (λ m. m.passed ≤ k) ms
each_fewer n k le [] each = tt
each_fewer n k le (m ∷ ms) each = (omega (arith, each.0), each_fewer n k le ms each.1)

counts_more : (s : Story) (m : Moment) → s.now.passed ≤ m.passed → CountsUp (moments s) → CountsUp (m ∷ moments s)
counts_more s m le up = ((le, each_fewer s.now.passed m.passed le s.past up.0), up)

counts_after : (s : Story) (calls : List Passed) → CountsUp (moments s) → CountsUp (moments (after_calls s calls))
counts_after s [] up = up
counts_after s (Wrote at piece ∷ calls) up = counts_after (wrote at piece s) calls (counts_more s (wrote at piece s).now (omega arith) up)
counts_after s (Synced ∷ calls) up = counts_after (did_sync s) calls (counts_more s (did_sync s).now (omega arith) up)

pub in_order_of : (d : MemoryOfDisk) → CountsUp (moments (story_of d))
in_order_of d = counts_after (begun d.first) d.passed (tt, tt)

pub passed-after_calls : (s : Story) (calls : List Passed) → (after_calls s calls).now.passed ≡ s.now.passed + length calls
passed-after_calls s [] = omega arith
passed-after_calls s (Wrote at piece ∷ calls) = omega (arith, passed-after_calls (wrote at piece s) calls)
passed-after_calls s (Synced ∷ calls) = omega (arith, passed-after_calls (did_sync s) calls)

within_most : (stop : Option ℕ) (n m : ℕ) → m ≤ n → IsWithin (most_of stop n) m
within_most None n m le = tt
within_most (Some stop) n m le = omega arith

pub within_of : (d : MemoryOfDisk) → IsWithin (story_of d).most (story_of d).now.passed
within_of d = within_most d.stop (length d.passed) _ (omega (arith, passed-after_calls (begun d.first) d.passed))
