-- Whatever end a session comes to, it leaves the state sound.
use Rattle.std.proofs.Common.{◌≡◌, ℕ, ◌+◌, List, [], ◌∷◌, ◌++◌, length, Result, Ok, Err, refl, sym, ◌∙◌, ap, subst, inl, inr, ◌⊎◌, append_assoc, append-nil}
use Rattle.carte_io.specs.Disk.{LeavesOnly}
use Rattle.carte_io.proofs.Images.{leaves_more, leaves_then}
use Rattle.carte_book.specs.Book.{Book}
use Rattle.carte_session.specs.Around.{OverSink, OverSource}
use Rattle.carte_session.specs.Session.{Ended, Goes}
use Rattle.carte_session.specs.declared.end.SessionEnd.{SessionEnd}
use Rattle.carte_session.specs.declared.end.SessionEnd.TheVariants.{Machine, NoMemory, ReadFault, TooLong, WriteFault}
use Rattle.carte_session.specs.declared.end.StepEnd.{StepEnd}
use Rattle.carte_session.proofs.SessionLemmas.{goes_more}
use Rattle.carte_engine.specs.Versions.{IsSoundAny}
use Rattle.carte_engine.proofs.Raising.{sound_behind}
use Rattle.carte_sound.specs.Base.{HasDistinctDigests}
use Rattle.carte_sound.proofs.Begins.{front_distinct}
use Rattle.carte_shell.specs.Answers.{Answers, Ends}
use Rattle.carte_shell.specs.Books.{AreBooks, IsBookAt}
use Rattle.carte_shell.specs.Scenes.{Scene}
use Rattle.carte_shell.specs.Sound.{KeepsSound, LeavesSound, SessionStaysSound, StaysSound}
use Rattle.carte_shell.proofs.Sounding.{end_sound, lines_sound}

-- one line more
books_more : (b c d : Book) (lines : List (List ℕ)) (bytes : List ℕ) (J I : List Book) → AreBooks b lines J c → IsBookAt c bytes I d → AreBooks b (lines ++ bytes ∷ []) (J ++ I) d
books_more b c d [] bytes J I are at =
    let same : J ++ I ≡ I ++ [] = ap (λ K. K ++ I) are.0 ∙ sym (append-nil I) in
    (d, I, [], subst (λ (e : Book). IsBookAt e bytes I d) are.1 at, same, (refl, refl))
books_more b c d (line ∷ lines) bytes J I are at = (
  are.0,
  are.1,
  are.2 ++ I,
  are.3,
  ap (λ K. K ++ I) are.4 ∙ append_assoc are.1 are.2 I,
  books_more are.0 c d lines bytes are.2 I are.5 at,
)

module _ (tells : Type 0) (m m' : Scene) where
  abbrev Whole : Type 0
  Whole = (lines : List (List ℕ)) × (J : List Book) × ((c : Book) × AreBooks m.book lines J c) × LeavesSound tells m m' J

  all_answered : (lines : List (List ℕ)) (said : List ℕ) → Goes (Answers tells) 1 m lines said m' → Whole
  all_answered lines said goes =
      let all = lines_sound tells 1 m m' lines said goes in
      (lines, all.0, (m'.book, all.1), (λ told H stands distinct. (all.3 told H stands distinct).1))

  -- the last line isn't answered
  last_not : (mid : Scene) (lines : List (List ℕ)) (said bytes : List ℕ) (n : ℕ) (end : StepEnd) → Goes (Answers tells) 1 m lines said mid → Ends tells mid n bytes end m' → Whole
  last_not mid lines said bytes n end goes ends = elim last.1 [
    | inl none ↦ (lines, all.0 ++ last.0, (mid.book, subst (λ I. AreBooks m.book lines I mid.book) (sym (ap (λ I. all.0 ++ I) none ∙ append-nil all.0)) all.1), both)
    | inr at ↦ (lines ++ bytes ∷ [], all.0 ++ last.0, (mid.book, books_more m.book mid.book mid.book lines bytes all.0 last.0 all.1 at), both)
  ]
    where
      all : (J : List Book) × AreBooks m.book lines J mid.book × (mid.stand.journal.limit ≡ m.stand.journal.limit) × StaysSound tells m mid J
      all = lines_sound tells 1 m mid lines said goes

      last : (I : List Book) × ((I ≡ []) ⊎ IsBookAt mid.book bytes I mid.book) × LeavesSound tells mid m' I
      last = end_sound tells n mid m' bytes end ends

      both : LeavesSound tells m m' (all.0 ++ last.0)
      both told H stands distinct =
          let J = all.0 in
          let I = last.0 in
          let limit = m.stand.journal.limit in
          let assoc = append_assoc H J I in
          let distinct_on = subst HasDistinctDigests (sym assoc) distinct in
          let a = all.3 told H stands (front_distinct (H ++ J) I distinct_on) in
          leaves_then m.story mid.story m'.story (KeepsSound limit (H ++ (J ++ I)))
          (leaves_more m.story mid.story (KeepsSound limit (H ++ J)) (KeepsSound limit (H ++ (J ++ I)))
          (λ file keeps. (keeps.0, keeps.1, subst (IsSoundAny keeps.0) assoc (sound_behind keeps.0 (H ++ J) I keeps.2))) a.1)
          (subst (λ (most : ℕ). LeavesOnly mid.story m'.story (KeepsSound most (H ++ (J ++ I)))) all.2
          (subst (λ (G : List Book). LeavesOnly mid.story m'.story (KeepsSound mid.stand.journal.limit G)) assoc (last.2 told (H ++ J) a.0 distinct_on)))

  pub ended : (s : OverSource) (k : OverSink) (limit : ℕ) (read : List ℕ) (result : Result (Unit {0}) SessionEnd) → Ended (Answers tells) (Ends tells) m m' s k limit read result → Whole
  ended s k limit read (Ok done) is = all_answered is.0 is.1 is.3
  ended s k limit read (Err ReadFault) is = all_answered is.0 is.1 is.4
  ended s k limit read (Err TooLong) is = all_answered is.0 is.1 is.4
  ended s k limit read (Err WriteFault) is =
      all_answered (is.0.0 ++ is.0.3 ∷ []) (is.0.1 ++ is.0.4) (goes_more (Answers tells) is.0.0 1 (length is.0.0 + 1) m is.0.2 m' is.0.1 is.0.3 is.0.4 is.0.6 refl is.0.7)
  ended s k limit read (Err NoMemory) is = all_answered is.0.0 is.0.1 is.0.8
  ended s k limit read (Err (Machine end)) is = last_not is.0.2 is.0.0 is.0.1 is.0.3 (length is.0.0 + 1) end is.0.5 is.0.6

pub session_sound : (tells source_tells sink_tells : Type 0) → SessionStaysSound tells source_tells sink_tells
session_sound tells source_tells sink_tells m m' script left k k' limit result is =
    ended tells m m' (record { tells = source_tells; old = script; new = left }) (record { tells = sink_tells; old = k; new = k' }) limit is.read result is.ended
