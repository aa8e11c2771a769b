-- Laws of images and of what a crash leaves, for callers that write.
use Rattle.std.proofs.Common.{◌≡◌, ℕ, ◌+◌, ◌≤◌, List, [], ◌∷◌, ◌++◌, length, arith, refl, sym, ◌∙◌, ap, subst, inl, inr, append_assoc}
use Rattle.std.proofs.lemmas.Grind.{same_number_lists}
use Rattle.carte_io.specs.Disk.{CountsUp, EachMoment, IsImage, IsSettled, IsTorn, Leaves, LeavesOnly, Moment, Story, Throughout, longest, moments}

-- of a settled disk a crash leaves exactly what a read gives
pub settled_image : (m : Moment) (image : List ℕ) → IsSettled m → IsImage m image → image ≡ m.reads
settled_image m image settled torn =
    let same : IsTorn [] m.synced image = subst (λ ranges. IsTorn ranges m.synced image) settled.written torn in
    let len : length image ≡ length m.synced = omega (arith, same.no_shorter, same.no_longer) in
    same_number_lists image m.synced len (λ k below. same.outside k (omega arith) (λ never. never)) ∙ settled.synced

-- and it may leave that
pub reads_image : (m : Moment) → IsSettled m → IsImage m m.reads
reads_image m settled =
    subst (λ ranges. IsTorn ranges m.synced m.reads) (sym settled.written)
    (subst (λ bytes. IsTorn [] bytes m.reads) (sym settled.synced) (record { no_shorter = omega arith; no_longer = omega arith; outside = λ i within out. refl }))

-- moments that have more
each_more : (Q R : Moment → Type 0) (ms : List Moment) → ((m : Moment) → Q m → R m) → EachMoment Q ms → EachMoment R ms
each_more Q R [] f each = tt
each_more Q R (m ∷ ms) f each = (f m each.0, each_more Q R ms f each.1)

each_append : (Q : Moment → Type 0) (ms ns : List Moment) → EachMoment Q ms → EachMoment Q ns → EachMoment Q (ms ++ ns)
each_append Q [] ns each other = other
each_append Q (m ∷ ms) ns each other = (each.0, each_append Q ms ns each.1 other)

pub throughout_more : (old new : Story) (Q R : Moment → Type 0) → ((m : Moment) → Q m → R m) → Throughout old new Q → Throughout old new R
throughout_more old new Q R f all = record {
  later = all.later;
  goes_on = all.goes_on;
  bound = all.bound;
  first = f old.now all.first;
  each = each_more Q R all.later f all.each;
}

pub throughout_then : (old mid new : Story) (Q : Moment → Type 0) → Throughout old mid Q → Throughout mid new Q → Throughout old new Q
throughout_then old mid new Q one two = record {
  later = two.later ++ one.later;
  bound = two.bound ∙ one.bound;
  goes_on = two.goes_on ∙ ap (λ ms. two.later ++ ms) one.goes_on ∙ sym (append_assoc two.later one.later (moments old));
  first = one.first;
  each = each_append Q two.later one.later two.each one.each;
}

-- no moment has passed
pub throughout_none : (old new : Story) (Q : Moment → Type 0) → new ≡ old → Q old.now → Throughout old new Q
throughout_none old new Q is now = record { later = []; goes_on = ap moments is; bound = ap (λ (s : Story). s.most) is; first = now; each = tt }

-- one moment has passed
pub throughout_one : (old new : Story) (Q : Moment → Type 0) (m : Moment) → moments new ≡ m ∷ moments old → new.most ≡ old.most → Q old.now → Q m → Throughout old new Q
throughout_one old new Q m is most first now = record { later = m ∷ []; goes_on = is; bound = most; first = first; each = (now, tt) }

last_moment : (old new : Story) (Q : Moment → Type 0) (later : List Moment) → moments new ≡ later ++ moments old → Q old.now → EachMoment Q later → Q new.now
last_moment old new Q [] goes_on first each = let is : new.now ≡ old.now = cc in subst Q (sym is) first
last_moment old new Q (m ∷ ms) goes_on first each = let is : new.now ≡ m = cc in subst Q (sym is) each.0

-- the moment now is one of those since then
pub throughout_last : (old new : Story) (Q : Moment → Type 0) → Throughout old new Q → Q new.now
throughout_last old new Q all = last_moment old new Q all.later all.goes_on all.first all.each

-- how many calls had passed at moments, the newest first, in front of others
each_counted : (n k : ℕ) (Q : Moment → Type 0) (later older : List Moment) → EachMoment (λ m. m.passed ≤ n) (later ++ older)
    → EachMoment (λ m. k ≤ m.passed) later → EachMoment Q later → EachMoment (λ m. Q m × (k ≤ m.passed) × (m.passed ≤ n)) later
each_counted n k Q [] older few many each = tt
each_counted n k Q (m ∷ later) older few many each = ((each.0, many.0, few.0), each_counted n k Q later older few.1 many.1 each.1)

few_first : (n : ℕ) (later : List Moment) (m : Moment) (ms : List Moment) → EachMoment (λ m. m.passed ≤ n) (later ++ (m ∷ ms)) → m.passed ≤ n
few_first n [] m ms few = few.0
few_first n (l ∷ later) m ms few = few_first n later m ms few.1

each_many : (later : List Moment) (m : Moment) (ms : List Moment) → CountsUp (later ++ (m ∷ ms)) → EachMoment (λ l. m.passed ≤ l.passed) later
each_many [] m ms up = tt
each_many (l ∷ later) m ms up = (few_first l.passed later m ms up.0, each_many later m ms up.1)

-- at each of them had as many calls passed as at the first, and no more than at the last
pub throughout_counted : (old new : Story) (Q : Moment → Type 0) → CountsUp (moments new) → Throughout old new Q
    → Throughout old new (λ m. Q m × (old.now.passed ≤ m.passed) × (m.passed ≤ new.now.passed))
throughout_counted old new Q up all =
    let few : EachMoment (λ m. m.passed ≤ new.now.passed) (all.later ++ moments old) =
    subst (EachMoment (λ m. m.passed ≤ new.now.passed)) all.goes_on (omega arith, up.0) in
    let many : EachMoment (λ m. old.now.passed ≤ m.passed) all.later = each_many all.later old.now old.past (subst CountsUp all.goes_on up) in
    record {
      later = all.later;
      goes_on = all.goes_on;
      bound = all.bound;
      first = (all.first, omega arith, few_first new.now.passed all.later old.now old.past few);
      each = each_counted new.now.passed old.now.passed Q all.later (moments old) few many all.each;
    }

-- the same of images
pub leaves_more : (old new : Story) (P Q : List ℕ → Type 0) → ((c : List ℕ) → P c → Q c) → LeavesOnly old new P → LeavesOnly old new Q
leaves_more old new P Q f = throughout_more old new (Leaves P) (Leaves Q) (λ m leaves c image. f c (leaves c image))

pub leaves_then : (old mid new : Story) (P : List ℕ → Type 0) → LeavesOnly old mid P → LeavesOnly mid new P → LeavesOnly old new P
leaves_then old mid new P = throughout_then old mid new (Leaves P)

pub leaves_none : (old new : Story) (P : List ℕ → Type 0) → new ≡ old → ((c : List ℕ) → IsImage old.now c → P c) → LeavesOnly old new P
leaves_none old new P = throughout_none old new (Leaves P)

-- what a crash now leaves is one of the things that a crash since then left
pub leaves_last : (old new : Story) (P : List ℕ → Type 0) → LeavesOnly old new P → (c : List ℕ) → IsImage new.now c → P c
leaves_last old new P = throughout_last old new (Leaves P)

longest_more : (n : ℕ) (range : ℕ × ℕ) (ranges : List (ℕ × ℕ)) → longest n ranges ≤ longest n (range ∷ ranges)
longest_more n range ranges = omega arith

-- a file that is torn in some ranges is torn in more
pub torn_more : (range : ℕ × ℕ) (ranges : List (ℕ × ℕ)) (old new : List ℕ) → IsTorn ranges old new → IsTorn (range ∷ ranges) old new
torn_more range ranges old new torn = record {
  no_shorter = torn.no_shorter;
  no_longer = omega (arith, torn.no_longer, longest_more (length old) range ranges);
  outside = λ i within out. torn.outside i within (λ older. out (inr older));
}

pub torn_none : (old : List ℕ) → IsTorn [] old old
torn_none old = record { no_shorter = omega arith; no_longer = omega arith; outside = λ i within out. refl }
