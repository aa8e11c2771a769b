-- Lines leave the state sound, whatever crash comes.
use Rattle.std.proofs.Common.{◌≡◌, ℕ, ◌+◌, true, List, [], ◌∷◌, ◌++◌, Result, Ok, Err, refl, sym, ◌∙◌, ap, subst, inl, inr, ◌⊎◌, arith, append_assoc, append-nil}
use Rattle.carte_io.specs.Disk.{LeavesOnly, Story}
use Rattle.carte_io.proofs.Images.{leaves_more, leaves_none, leaves_then}
use Rattle.carte_value.specs.declared.value.Value.{Value}
use Rattle.carte_book.specs.Book.{Book}
use Rattle.carte_book.specs.Edits.{Sets}
use Rattle.carte_book.specs.declared.fault.SetFault.{SetFault}
use Rattle.carte_book.specs.declared.fault.SetFault.TheVariants as set
use Rattle.carte_engine.specs.Answers.{Leads}
use Rattle.carte_engine.specs.Clearing.{clearing}
use Rattle.carte_engine.specs.Versions.{IsSoundAny}
use Rattle.carte_engine.specs.declared.answer.Answer.{Answer}
use Rattle.carte_engine.proofs.Emptying.{clearing_empties}
use Rattle.carte_engine.proofs.Keeping.{plan_sound}
use Rattle.carte_engine.proofs.Several.{all_leaves, puts_kept, puts_limit, puts_rest}
use Rattle.carte_engine.proofs.Raising.{sound_behind}
use Rattle.carte_record.specs.declared.batch.Batch.{Batch}
use Rattle.carte_session.specs.declared.end.StepEnd.{StepEnd}
use Rattle.carte_sound.specs.Base.{HasDistinctDigests}
use Rattle.carte_sound.proofs.Begins.{front_distinct}
use Rattle.carte_sound.proofs.Histories.{nothing_sound}
use Rattle.carte_state.specs.Folding.{Keeps}
use Rattle.carte_state.specs.Runs.{applied_to}
use Rattle.carte_state.specs.States.{IsKeptOn, Stand, any_in}
use Rattle.carte_state.specs.Versions.{AnyKept}
use Rattle.carte_state.specs.declared.fault.ApplyFault.{ApplyFault}
use Rattle.carte_state.proofs.Applies.{kept_leaves}
use Rattle.carte_words.specs.Lines.{Means}
use Rattle.carte_words.specs.declared.line.Line.{Line}
use Rattle.carte_words.specs.declared.line.Line.TheVariants as line
use Rattle.carte_shell.specs.Answers.{Answers, Brings, Obeys, Plans}
use Rattle.carte_shell.specs.Books.{Edits, IsBookAt}
use Rattle.carte_shell.specs.Chosen.{how_of, scheduler_of}
use Rattle.carte_shell.specs.Commits.{Commits, Puts, Stops, disk_between}
use Rattle.carte_shell.specs.Replies.{Said}
use Rattle.carte_shell.specs.Scenes.{Scene}
use Rattle.carte_shell.specs.Stopping.{fault_of}
use Rattle.carte_shell.specs.Sound.{EndLeavesSound, KeepsSound, LeavesSound, LinesStaySound, StandsSound, StaysSound}

-- ---- commits

module _ (m m' : Scene) (Bs : List Batch) (J : List Book) where
  -- what the first of the batches make of what is kept, however many
  abbrev Sounds : List Book → Type 0
  Sounds H = (some rest : List Batch) → Bs ≡ some ++ rest → IsSoundAny (applied_to (any_in m.stand) some) (H ++ J)

  images_sound : (tells : Type 0) (result : Result (Unit {0}) ApplyFault) → Commits tells m m' Bs result → tells → IsKeptOn m.stand m.story → (H : List Book) → Sounds H
      → LeavesOnly m.story m'.story (KeepsSound m.stand.journal.limit (H ++ J))
  images_sound tells result c told on H sounds =
      leaves_more m.story m'.story (λ file. (some rest : List Batch) × (Bs ≡ some ++ rest) × Keeps m.stand.journal.limit (applied_to (any_in m.stand) some) file) (KeepsSound m.stand.journal.limit (H ++ J))
      (λ file at. (applied_to (any_in m.stand) at.0, at.3, sounds at.0 at.1 at.2))
      (all_leaves (disk_between tells m m') m.stand m'.stand Bs result c.commits told on)

  abbrev MakesSound : Type 0
  MakesSound = (H : List Book) → IsSoundAny (any_in m.stand) H → HasDistinctDigests (H ++ J) → Sounds H

  pub put_sound : (tells : Type 0) → Puts tells m m' Bs → MakesSound → StaysSound tells m m' J
  put_sound tells puts makes told H stands distinct =
      let made = makes H stands.sound distinct in
      let d = disk_between tells m m' in (
        record {
          kept_on = puts_rest true d m.stand Bs m'.stand puts.commits told stands.kept_on;
          sound = subst (λ (A : AnyKept). IsSoundAny A (H ++ J)) (sym (puts_kept true d m.stand Bs m'.stand puts.commits)) (made Bs [] (sym (append-nil Bs)));
        },
        images_sound tells (Ok tt) puts told stands.kept_on H made,
      )

  pub stop_sound : (tells : Type 0) (end : StepEnd) → Stops tells m m' Bs end → MakesSound → LeavesSound tells m m' J
  stop_sound tells end stops makes told H stands distinct = images_sound tells (Err (fault_of end)) stops told stands.kept_on H (makes H stands.sound distinct)

-- ---- no commit

pub still_sound : (tells : Type 0) (m m' : Scene) (J : List Book) → m'.stand ≡ m.stand → m'.story ≡ m.story → StaysSound tells m m' J
still_sound tells m m' J stand story told H stands distinct =
    let longer = sound_behind (any_in m.stand) H J stands.sound in (
      record {
        kept_on = subst (λ (s : Story). IsKeptOn m'.stand s) (sym story) (subst (λ (s : Stand). IsKeptOn s m.story) (sym stand) stands.kept_on);
        sound = subst (λ (s : Stand). IsSoundAny (any_in s) (H ++ J)) (sym stand) longer;
      },
      leaves_none m.story m'.story (KeepsSound m.stand.journal.limit (H ++ J)) story (λ file image. (any_in m.stand, kept_leaves m.stand m.story stands.kept_on file image, longer)),
    )

same_sound : (tells : Type 0) (m m' : Scene) (J : List Book) → m' ≡ m → StaysSound tells m m' J
same_sound tells m m' J same = still_sound tells m m' J (ap (λ (x : Scene). x.stand) same) (ap (λ (x : Scene). x.story) same)

-- ---- batches

built_sound : (m : Scene) (targets : List (List ℕ)) (a : Answer) (Bs : List Batch) → Plans m targets a Bs → (H : List Book) → IsSoundAny (any_in m.stand) H → HasDistinctDigests (H ++ m.book ∷ [])
    → (some rest : List Batch) → Bs ≡ some ++ rest → IsSoundAny (applied_to (any_in m.stand) some) (H ++ m.book ∷ [])
built_sound m targets a Bs plans H sound distinct some rest are =
    let s = scheduler_of m.choices.scheduler in
    let h = how_of m.choices.rebuilder in
    plan_sound s h (any_in m.stand) H m.book targets a some rest sound distinct (subst (Leads s h (any_in m.stand) m.book targets a) are (plans H sound distinct).leads)

-- the front of a list with one item has none, or it alone
one_front : (C : Batch) (some rest : List Batch) → C ∷ [] ≡ some ++ rest → (some ≡ []) ⊎ (some ≡ C ∷ [])
one_front C [] rest are = inl refl
one_front C (B ∷ []) rest are = inr cc
one_front C (B ∷ D ∷ some) rest are = cc

cleaned_sound : (m : Scene) (Bs : List Batch) → Bs ≡ clearing m.stand ∷ [] → (H : List Book) → IsSoundAny (any_in m.stand) H → HasDistinctDigests (H ++ [])
    → (some rest : List Batch) → Bs ≡ some ++ rest → IsSoundAny (applied_to (any_in m.stand) some) (H ++ [])
cleaned_sound m Bs is H sound distinct some rest are = elim (one_front (clearing m.stand) some rest (sym is ∙ are)) [
  | inl none ↦ subst (λ (Cs : List Batch). IsSoundAny (applied_to (any_in m.stand) Cs) (H ++ [])) (sym none) (sound_behind (any_in m.stand) H [] sound)
  | inr one ↦ subst (λ (Cs : List Batch). IsSoundAny (applied_to (any_in m.stand) Cs) (H ++ [])) (sym one) (subst (λ (A : AnyKept). IsSoundAny A (H ++ [])) (sym (clearing_empties m.stand)) (nothing_sound (H ++ [])))
]

-- ---- edits

edited : (b c : Book) (k : List ℕ) (v : Value) (r : Result (Unit {0}) SetFault) → Sets b c k v r → ¬ (r ≡ Err set.NoMemory) → Edits b k v c
edited b c k v (Ok u) sets told = inl sets
edited b c k v (Err set.NotInput) sets told = inr ((λ s. let i = s.0.1 in let r = sets.0.1 in cc), sets.1)
edited b c k v (Err set.NoSuchName) sets told = inr ((λ s. let i = s.0.1 in let r = sets.0 in cc), sets.1)
edited b c k v (Err set.Limit) sets told = inr ((λ s. let few = s.1 sets.1 in omega (arith, few, sets.2)), sets.3)
edited b c k v (Err set.NoMemory) sets told = absurd (told refl)

-- ---- a line

abbrev One : Type 0 → Scene → Scene → List ℕ → Type 0
One tells m m' bytes = (J : List Book) × IsBookAt m.book bytes J m'.book × (m'.stand.journal.limit ≡ m.stand.journal.limit) × StaysSound tells m m' J

module _ (tells : Type 0) (m m' : Scene) (bytes text : List ℕ) where
  obeyed : (l : Line) (reply : Said) → Means m.book.kind bytes l → Obeys tells m l reply m' → One tells m m' bytes
  obeyed line.Nothing reply means does =
      ([], inr (line.Nothing, means, (refl, ap (λ (x : Scene). x.book) does.1)), ap (λ (x : Scene). x.stand.journal.limit) does.1, same_sound tells m m' [] does.1)
  obeyed (line.Set k v) reply means does = (
    [],
    inr (line.Set k v, means, (refl, edited m.book m'.book k v does.0.result does.0.sets does.0.told)),
    ap (λ (x : Scene). x.stand.journal.limit) does.1,
    still_sound tells m m' [] (ap (λ (x : Scene). x.stand) does.1) (ap (λ (x : Scene). x.story) does.1),
  )
  obeyed (line.Build targets) reply means does = (
    m.book ∷ [],
    inr (line.Build targets, means, (refl, does.4.book)),
    puts_limit true (disk_between tells m m') m.stand does.1 m'.stand does.4.commits,
    put_sound m m' does.1 (m.book ∷ []) tells does.4 (built_sound m targets does.0 does.1 does.2),
  )
  obeyed (line.Explain targets) reply means does =
      (m.book ∷ [], inr (line.Explain targets, means, (refl, ap (λ (x : Scene). x.book) does.1)), ap (λ (x : Scene). x.stand.journal.limit) does.1, same_sound tells m m' (m.book ∷ []) does.1)
  obeyed line.Clean reply means does =
      let Bs = clearing m.stand ∷ [] in
      ([], inr (line.Clean, means, (refl, does.1.book)), puts_limit true (disk_between tells m m') m.stand Bs m'.stand does.1.commits, put_sound m m' Bs [] tells does.1 (cleaned_sound m Bs refl))

  pub answered : (n : ℕ) → Answers tells m n bytes text m' → One tells m m' bytes
  answered n (inl stray) =
      ([], inl (stray.0, refl, ap (λ (x : Scene). x.book) stray.2), ap (λ (x : Scene). x.stand.journal.limit) stray.2, same_sound tells m m' [] stray.2)
  answered n (inr (l, means, reply, is, does)) = obeyed l reply means does

-- ---- lines

then_sound : (tells : Type 0) (m mid m' : Scene) (I J : List Book) → mid.stand.journal.limit ≡ m.stand.journal.limit → StaysSound tells m mid I → StaysSound tells mid m' J → StaysSound tells m m' (I ++ J)
then_sound tells m mid m' I J limit one two told H stands distinct =
    let assoc = append_assoc H I J in
    let distinct_on = subst HasDistinctDigests (sym assoc) distinct in
    let a = one told H stands (front_distinct (H ++ I) J distinct_on) in
    let b = two told (H ++ I) a.0 distinct_on in (
      subst (StandsSound m') assoc b.0,
      leaves_then m.story mid.story m'.story (KeepsSound m.stand.journal.limit (H ++ (I ++ J)))
          (leaves_more m.story mid.story (KeepsSound m.stand.journal.limit (H ++ I)) (KeepsSound m.stand.journal.limit (H ++ (I ++ J)))
          (λ file keeps. (keeps.0, keeps.1, subst (IsSoundAny keeps.0) assoc (sound_behind keeps.0 (H ++ I) J keeps.2))) a.1)
          (subst (λ (limit : ℕ). LeavesOnly mid.story m'.story (KeepsSound limit (H ++ (I ++ J)))) limit
          (subst (λ (G : List Book). LeavesOnly mid.story m'.story (KeepsSound mid.stand.journal.limit G)) assoc b.1)),
    )

pub lines_sound : (tells : Type 0) → LinesStaySound tells
lines_sound tells n m m' [] said goes =
    ([], (refl, ap (λ (x : Scene). x.book) goes.0), ap (λ (x : Scene). x.stand.journal.limit) goes.0, same_sound tells m m' [] goes.0)
lines_sound tells n m m' (bytes ∷ lines) said goes =
    let one = answered tells m goes.0 bytes goes.1 n goes.3 in
    let rest = lines_sound tells (n + 1) goes.0 m' lines goes.2 goes.4 in (
      one.0 ++ rest.0,
      (goes.0.book, one.0, rest.0, one.1, refl, rest.1),
      rest.2 ∙ one.2,
      then_sound tells m goes.0 m' one.0 rest.0 one.2 one.3 rest.3,
    )

-- ---- a line that isn't answered

leaves : (tells : Type 0) (m m' : Scene) (J : List Book) → StaysSound tells m m' J → LeavesSound tells m m' J
leaves tells m m' J stays told H stands distinct = (stays told H stands distinct).1

module _ (tells : Type 0) (m m' : Scene) (bytes : List ℕ) where
  abbrev Left : Type 0
  Left = (J : List Book) × ((J ≡ []) ⊎ IsBookAt m.book bytes J m.book) × LeavesSound tells m m' J

  brought : (l : Line) (end : StepEnd) → Means m.book.kind bytes l → (Bs : List Batch) → Brings m l Bs → Stops tells m m' Bs end → Left
  brought (line.Build targets) end means Bs brings stops =
      (m.book ∷ [], inr (inr (line.Build targets, means, (refl, refl))), stop_sound m m' Bs (m.book ∷ []) tells end stops (built_sound m targets brings.0 Bs brings.1))
  brought line.Clean end means Bs brings stops = ([], inl refl, stop_sound m m' Bs [] tells end stops (cleaned_sound m Bs brings))
  brought (line.Set k v) end means Bs brings stops = absurd brings
  brought (line.Explain targets) end means Bs brings stops = absurd brings
  brought line.Nothing end means Bs brings stops = absurd brings

pub end_sound : (tells : Type 0) → EndLeavesSound tells
end_sound tells n m m' bytes end (inl none) = ([], inl refl, leaves tells m m' [] (same_sound tells m m' [] none.1))
end_sound tells n m m' bytes end (inr (l, means, inl none)) = ([], inl refl, leaves tells m m' [] (same_sound tells m m' [] none.1))
end_sound tells n m m' bytes end (inr (l, means, inr (Bs, brings, stops))) = brought tells m m' bytes l end means Bs brings stops
