-- Steps of a session, line after line.
use Rattle.std.proofs.Common.{◌≡◌, ◌≢◌, ◌⊎◌, ℕ, ◌+◌, ◌<◌, ◌≤◌, List, [], ◌∷◌, ◌++◌, length, get_or, take, drop, refl, sym, ◌∙◌, ap, subst, inl, inr, arith, append_assoc}
use Rattle.std.specs.Prelude.{Result, Ok, Err, MatchResult}
use Rattle.std.proofs.lemmas.List.{append-nil, length-append, length-take-le, take_at, take_more, length-drop, take-append-drop}
use Rattle.carte_io.specs.Causes.{HasCauseOf}
use Rattle.carte_io.specs.Streams.{Moves, SinkState}
use Rattle.carte_session.specs.Around.{OverSink, OverSource, Takes, TakesFront}
use Rattle.carte_session.specs.Carried.{Carried, Finished, Progress, TakesOne, TakesSome}
use Rattle.carte_session.specs.Lines.{IsCut, IsNext, spelled}
use Rattle.carte_session.specs.Session.{Ended, Goes, IsSession, Stopped}
use Rattle.carte_session.specs.declared.end.SessionEnd.{SessionEnd}
use Rattle.carte_session.specs.declared.end.SessionEnd.TheVariants.{ReadFault, WriteFault, TooLong, NoMemory, Machine}
use Rattle.carte_session.specs.declared.end.StepEnd.{StepEnd}
use Rattle.carte_session.proofs.LineLemmas.{cut_byte, cut_feed, next_feed, next_on, next_weaker, whole_more}

abbrev pub over : Type 0 → SinkState → SinkState → OverSink
over tells old new = record { tells = tells; old = old; new = new }

-- what the sink took

still_handed : (said reply mid new : List ℕ) (handed handed' : ℕ) → new ≡ mid ++ reply → (said ≡ []) ⊎ (handed ≡ length mid)
    → ((reply ≡ []) × (handed' ≡ handed)) ⊎ (handed' ≡ length new) → (said ++ reply ≡ []) ⊎ (handed' ≡ length new)
still_handed said reply mid new handed handed' is before (inr all) = inr all
still_handed said reply mid new handed handed' is (inl silent) (inl w) = inl (ap (λ xs. xs ++ reply) silent ∙ w.0)
still_handed said reply mid new handed handed' is (inr all) (inl w) = inr (omega (arith, ap length is, length-append mid reply, ap length w.0, w.1))

takes_reply : (tells : Type 0) (k mid new : SinkState) (said reply : List ℕ) → Takes (over tells k mid) said → TakesOne (over tells mid new) reply
    → Takes (over tells k new) (said ++ reply)
takes_reply tells k mid new said reply before one = λ told.
    let b = before told in let o = one told in (
      o.0 ∙ ap (λ xs. xs ++ reply) b.0 ∙ append_assoc k.taken said reply,
      still_handed said reply mid.taken new.taken mid.handed new.handed o.0 b.1 o.1,
    )

front_handed : (said taken mid : List ℕ) (handed handed' : ℕ) → mid ≡ taken ++ said → handed ≤ handed' → (said ≡ []) ⊎ (handed ≡ length mid)
    → (said ≡ []) ⊎ (length taken + length said ≤ handed')
front_handed said taken mid handed handed' is le (inl silent) = inl silent
front_handed said taken mid handed handed' is le (inr all) = inr (omega (arith, ap length is, length-append taken said))

takes_front : (tells : Type 0) (k mid new : SinkState) (said reply : List ℕ) → Takes (over tells k mid) said → TakesSome (over tells mid new) reply
    → TakesFront (over tells k new) said reply
takes_front tells k mid new said reply before some = λ told.
    let b = before told in let o = some told in (
      o.0,
      o.1,
      o.2 ∙ ap (λ xs. xs ++ take o.0 reply) b.0 ∙ append_assoc k.taken said (take o.0 reply),
      front_handed said k.taken mid.taken mid.handed new.handed b.0 o.3 b.1,
    )

split_at : (read bytes : List ℕ) (i x : ℕ) → i < length bytes → x ≡ get_or bytes i 0 → read ++ bytes ≡ ((read ++ take i bytes) ++ x ∷ []) ++ drop (i + 1) bytes
split_at read bytes i x within is =
    ap (λ xs. read ++ xs) (sym (take-append-drop (i + 1) bytes)) ∙ sym (append_assoc read (take (i + 1) bytes) (drop (i + 1) bytes))
    ∙ ap (λ xs. (read ++ xs) ++ drop (i + 1) bytes) (take_more bytes i 0 within ∙ ap (λ (y : ℕ). take i bytes ++ y ∷ []) (sym is))
    ∙ ap (λ xs. xs ++ drop (i + 1) bytes) (sym (append_assoc read (take i bytes) (x ∷ [])))

-- the machine

module _ {M : Type 0} (Answers : M → ℕ → List ℕ → List ℕ → M → Type 0) where
  pub goes_more : (lines : List (List ℕ)) (n number : ℕ) (m mid m' : M) (said line reply : List ℕ) → Goes Answers n m lines said mid
      → number ≡ length lines + n → Answers mid number line reply m' → Goes Answers n m (lines ++ line ∷ []) (said ++ reply) m'
  goes_more [] n number m mid m' said line reply goes is one =
      let here : number ≡ n = omega arith in (
        m',
        reply,
        [],
        subst (λ (x : M). Answers x n line reply m') goes.0 (subst (λ (i : ℕ). Answers mid i line reply m') here one),
        (refl, refl),
        ap (λ xs. xs ++ reply) goes.1 ∙ sym (append-nil reply),
      )
  goes_more (l ∷ lines) n number m mid m' said line reply goes is one = (
    goes.0,
    goes.1,
    goes.2 ++ reply,
    goes.3,
    goes_more lines (n + 1) number goes.0 mid m' goes.2 line reply goes.4 (omega arith) one,
    ap (λ xs. xs ++ reply) goes.5 ∙ append_assoc goes.1 goes.2 reply,
  )

  pub progress_byte : (m m' : M) (k : OverSink) (read rest rest' : List ℕ) (count x : ℕ) → x ≢ 10 → rest' ≡ rest ++ x ∷ []
      → Progress Answers m m' k read count rest → Progress Answers m m' k (read ++ x ∷ []) count rest'
  progress_byte m m' k read rest rest' count x other is p = record {
    lines = p.lines;
    said = p.said;
    cut = subst (λ (xs : List ℕ). IsCut (read ++ x ∷ []) p.lines xs) (sym is) (cut_byte read rest p.lines x other p.cut);
    goes = p.goes;
    counted = p.counted;
    takes = p.takes;
  }

  pub progress_none : (m m' : M) (k : OverSink) (read rest : List ℕ) (count : ℕ) → Progress Answers m m' k read count rest
      → Progress Answers m m' k (read ++ []) count rest
  progress_none m m' k read rest count p = subst (λ (xs : List ℕ). Progress Answers m m' k xs count rest) (sym (append-nil read)) p

  pub progress_feed : (m mid m' : M) (tells : Type 0) (k k1 k2 : SinkState) (read rest rest' line reply : List ℕ) (count x : ℕ) → x ≡ 10 → rest' ≡ [] → line ≡ rest
      → Progress Answers m mid (over tells k k1) read count rest → Answers mid (count + 1) line reply m' → TakesOne (over tells k1 k2) reply
      → Progress Answers m m' (over tells k k2) (read ++ x ∷ []) (count + 1) rest'
  progress_feed m mid m' tells k k1 k2 read rest rest' line reply count x feed is same p one takes = record {
    lines = p.lines ++ rest ∷ [];
    said = p.said ++ reply;
    cut = subst (λ (xs : List ℕ). IsCut (read ++ x ∷ []) (p.lines ++ rest ∷ []) xs) (sym is) (cut_feed read rest p.lines x feed p.cut);
    goes = goes_more p.lines 1 (count + 1) m mid m' p.said rest reply p.goes (omega (arith, p.counted))
        (subst (λ (xs : List ℕ). Answers mid (count + 1) xs reply m') same one);
    counted = omega (arith, p.counted, length-append p.lines (rest ∷ []));
    takes = takes_reply tells k k1 k2 p.said reply p.takes takes;
  }

  pub finished_none : (m m' : M) (k : OverSink) (read rest : List ℕ) (count : ℕ) → rest ≡ [] → Progress Answers m m' k read count rest → Finished Answers m m' k read
  finished_none m m' k read rest count is p = record {
    lines = p.lines;
    said = p.said;
    all = inl (subst (λ (xs : List ℕ). IsCut read p.lines xs) is p.cut);
    goes = p.goes;
    takes = p.takes;
  }

  finished_last : (m mid m' : M) (tells : Type 0) (k k1 k2 : SinkState) (read rest reply : List ℕ) (count : ℕ) → rest ≢ []
      → Progress Answers m mid (over tells k k1) read count rest → Answers mid (count + 1) rest reply m' → TakesOne (over tells k1 k2) reply
      → Finished Answers m m' (over tells k k2) read
  finished_last m mid m' tells k k1 k2 read rest reply count some p one takes = record {
    lines = p.lines ++ rest ∷ [];
    said = p.said ++ reply;
    all = inr (p.lines, rest, refl, some, p.cut);
    goes = goes_more p.lines 1 (count + 1) m mid m' p.said rest reply p.goes (omega (arith, p.counted)) one;
    takes = takes_reply tells k k1 k2 p.said reply p.takes takes;
  }

  module _ (Ends : M → ℕ → List ℕ → StepEnd → M → Type 0) where
    stopped_by : (T : Type 0) (m mid m' : M) (tells : Type 0) (k k1 k2 : SinkState) (read line said : List ℕ) (lines : List (List ℕ)) (most number : ℕ) (AtEnd : Type 0)
        (end : SessionEnd) → IsNext read lines line most AtEnd → Goes Answers 1 m lines said mid → number ≡ length lines + 1 → Takes (over tells k k1) said
        → Carried {T = T} Answers Ends mid m' (over tells k1 k2) number line (Err end) → Stopped Answers Ends m m' (over tells k k2) read most AtEnd end
    stopped_by T m mid m' tells k k1 k2 read line said lines most number AtEnd WriteFault next goes is takes one =
        (lines, said, mid, line, one.0, next, goes, subst (λ (n : ℕ). Answers mid n line one.0 m') is one.1, takes_front tells k k1 k2 said one.0 takes one.2)
    stopped_by T m mid m' tells k k1 k2 read line said lines most number AtEnd (Machine end) next goes is takes one = (
      lines,
      said,
      mid,
      line,
      next,
      goes,
      subst (λ (n : ℕ). Ends mid n line end m') is one.0,
      subst (λ (x : SinkState). Takes (over tells k x) said) (sym one.1) takes,
    )
    stopped_by T m mid m' tells k k1 k2 read line said lines most number AtEnd ReadFault next goes is takes one = absurd one
    stopped_by T m mid m' tells k k1 k2 read line said lines most number AtEnd TooLong next goes is takes one = absurd one
    stopped_by T m mid m' tells k k1 k2 read line said lines most number AtEnd NoMemory next goes is takes one = absurd one

    pub stopped_feed : (T : Type 0) (m mid m' : M) (tells : Type 0) (k k1 k2 : SinkState) (read rest line : List ℕ) (count x : ℕ) (end : SessionEnd) → x ≡ 10 → line ≡ rest
        → Progress Answers m mid (over tells k k1) read count rest → Carried {T = T} Answers Ends mid m' (over tells k1 k2) (count + 1) line (Err end)
        → Stopped Answers Ends m m' (over tells k k2) (read ++ x ∷ []) 1 ⊥ end
    stopped_feed T m mid m' tells k k1 k2 read rest line count x end feed same p one =
        stopped_by T m mid m' tells k k1 k2 (read ++ x ∷ []) rest p.said p.lines 1 (count + 1) ⊥ end (next_feed read rest p.lines x ⊥ feed p.cut) p.goes
        (omega (arith, p.counted)) p.takes
        (subst (λ (xs : List ℕ). Carried {T = T} Answers Ends mid m' (over tells k1 k2) (count + 1) xs (Err end)) same one)

    pub stopped_memory : (m m' : M) (k : OverSink) (read rest : List ℕ) (count x : ℕ) → Progress Answers m m' k read count rest
        → Stopped Answers Ends m m' k (read ++ x ∷ []) 1 ⊥ NoMemory
    stopped_memory m m' k read rest count x p =
        (p.lines, p.said, rest, x ∷ [], whole_more read rest (x ∷ []) p.lines p.cut.whole, p.cut.lined, p.cut.open_rest, omega arith, p.goes, p.takes)

    -- the last line is carried out
    pub finished_by : {T : Type 0} (r : Result T SessionEnd) (m mid m' : M) (tells : Type 0) (k k1 k2 : SinkState) (read rest line : List ℕ) (count : ℕ) → rest ≢ [] → line ≡ rest
        → Carried Answers Ends mid m' (over tells k1 k2) (count + 1) line r → Progress Answers m mid (over tells k k1) read count rest
        → MatchResult r (λ _. Finished Answers m m' (over tells k k2) read) (λ end. Stopped Answers Ends m m' (over tells k k2) read 0 (Unit {0}) end)
    finished_by (Ok done) m mid m' tells k k1 k2 read rest line count some same one p =
        finished_last m mid m' tells k k1 k2 read rest one.0 count some p (subst (λ (xs : List ℕ). Answers mid (count + 1) xs one.0 m') same one.1) one.2
    finished_by {T = T} (Err end) m mid m' tells k k1 k2 read rest line count some same one p =
        stopped_by T m mid m' tells k k1 k2 read rest p.said p.lines 0 (count + 1) (Unit {0}) end
        (p.cut.lined, p.cut.open_rest, inr (p.cut.whole, some, tt)) p.goes (omega (arith, p.counted)) p.takes
        (subst (λ (xs : List ℕ). Carried {T = T} Answers Ends mid m' (over tells k1 k2) (count + 1) xs (Err end)) same one)

    -- more was read behind it
    pub stopped_on : (m m' : M) (k : OverSink) (read more all : List ℕ) (most most' : ℕ) (AtEnd : Type 0) (end : SessionEnd) → length more + most ≤ most'
        → all ≡ read ++ more → Stopped Answers Ends m m' k read most ⊥ end → Stopped Answers Ends m m' k all most' AtEnd end
    stopped_on m m' k read more all most most' AtEnd WriteFault fits is w =
        subst (λ (xs : List ℕ). Stopped Answers Ends m m' k xs most' AtEnd WriteFault) (sym is)
        (w.0, w.1, w.2, w.3, w.4, next_on read more w.3 w.0 most most' AtEnd fits w.5, w.6, w.7, w.8)
    stopped_on m m' k read more all most most' AtEnd (Machine end) fits is w =
        subst (λ (xs : List ℕ). Stopped Answers Ends m m' k xs most' AtEnd (Machine end)) (sym is)
        (w.0, w.1, w.2, w.3, next_on read more w.3 w.0 most most' AtEnd fits w.4, w.5, w.6, w.7)
    stopped_on m m' k read more all most most' AtEnd NoMemory fits is w =
        subst (λ (xs : List ℕ). Stopped Answers Ends m m' k xs most' AtEnd NoMemory) (sym is) (
          w.0,
          w.1,
          w.2,
          w.3 ++ more,
          whole_more read (w.2 ++ w.3) more w.0 w.4 ∙ ap (λ xs. spelled w.0 ++ xs) (append_assoc w.2 w.3 more),
          w.5,
          w.6,
          omega (arith, length-append w.3 more, w.7),
          w.8,
          w.9,
        )
    stopped_on m m' k read more all most most' AtEnd ReadFault fits is w = absurd w
    stopped_on m m' k read more all most most' AtEnd TooLong fits is w = absurd w

    -- of bytes that were fed, one after another, an end at one of them
    pub stopped_item : (m m' : M) (k : OverSink) (read bytes : List ℕ) (i x : ℕ) (end : SessionEnd) → i < length bytes → x ≡ get_or bytes i 0
        → Stopped Answers Ends m m' k ((read ++ take i bytes) ++ x ∷ []) 1 ⊥ end → Stopped Answers Ends m m' k (read ++ bytes) (length bytes) ⊥ end
    stopped_item m m' k read bytes i x end within is w =
        stopped_on m m' k ((read ++ take i bytes) ++ x ∷ []) (drop (i + 1) bytes) (read ++ bytes) 1 (length bytes) ⊥ end
        (omega (arith, length-drop (i + 1) bytes)) (split_at read bytes i x within is) w

    stopped_weaker : (m m' : M) (k : OverSink) (read : List ℕ) (most most' : ℕ) (AtEnd AtEnd' : Type 0) (end : SessionEnd) → most ≤ most' → (AtEnd → AtEnd')
        → Stopped Answers Ends m m' k read most AtEnd end → Stopped Answers Ends m m' k read most' AtEnd' end
    stopped_weaker m m' k read most most' AtEnd AtEnd' WriteFault fits at_end w =
        (w.0, w.1, w.2, w.3, w.4, next_weaker read w.3 w.0 most most' AtEnd AtEnd' fits at_end w.5, w.6, w.7, w.8)
    stopped_weaker m m' k read most most' AtEnd AtEnd' (Machine end) fits at_end w =
        (w.0, w.1, w.2, w.3, next_weaker read w.3 w.0 most most' AtEnd AtEnd' fits at_end w.4, w.5, w.6, w.7)
    stopped_weaker m m' k read most most' AtEnd AtEnd' NoMemory fits at_end w =
        (w.0, w.1, w.2, w.3, w.4, w.5, w.6, omega (arith, w.7), w.8, w.9)
    stopped_weaker m m' k read most most' AtEnd AtEnd' ReadFault fits at_end w = absurd w
    stopped_weaker m m' k read most most' AtEnd AtEnd' TooLong fits at_end w = absurd w

    ended_stop : (m m' : M) (s : OverSource) (k : OverSink) (limit most : ℕ) (read : List ℕ) (AtEnd : Type 0) (end : SessionEnd) → most ≤ s.new.last
        → (AtEnd → s.tells → s.new.left ≡ []) → (s.tells → s.old.left ≡ read ++ s.new.left) → Stopped Answers Ends m m' k read most AtEnd end
        → Ended {T = Unit {0}} Answers Ends m m' s k limit read (Err end) × (end ≢ ReadFault)
    ended_stop m m' s k limit most read AtEnd WriteFault fits at_end left w =
        ((stopped_weaker m m' k read most s.new.last AtEnd (s.tells → s.new.left ≡ []) WriteFault fits at_end w, left), λ e. absurd (cc))
    ended_stop m m' s k limit most read AtEnd (Machine end) fits at_end left w =
        ((stopped_weaker m m' k read most s.new.last AtEnd (s.tells → s.new.left ≡ []) (Machine end) fits at_end w, left), λ e. absurd (cc))
    ended_stop m m' s k limit most read AtEnd NoMemory fits at_end left w =
        ((stopped_weaker m m' k read most s.new.last AtEnd (s.tells → s.new.left ≡ []) NoMemory fits at_end w, left), λ e. absurd (cc))
    ended_stop m m' s k limit most read AtEnd ReadFault fits at_end left w = absurd w
    ended_stop m m' s k limit most read AtEnd TooLong fits at_end left w = absurd w

    pub session_stop : (m m' : M) (s : OverSource) (k : OverSink) (limit most : ℕ) (read : List ℕ) (AtEnd : Type 0) (end : SessionEnd) → most ≤ s.new.last
        → (AtEnd → s.tells → s.new.left ≡ []) → (s.tells → s.old.left ≡ read ++ s.new.left) → Stopped Answers Ends m m' k read most AtEnd end
        → length read ≤ limit → s.new.faults ≡ s.old.faults → HasCauseOf {T = Unit {0}} WriteFault k.old.faults k.new.faults (Err end)
        → IsSession {T = Unit {0}} Answers Ends m m' s k limit (Err end)
    session_stop m m' s k limit most read AtEnd end fits at_end left w within same cause =
        let both = ended_stop m m' s k limit most read AtEnd end fits at_end left w in
        record {
          read = read;
          within = within;
          ended = both.0;
          source_cause = record {
            later = omega (arith, same);
            failed = λ e. let is : end ≡ ReadFault = cc in absurd (both.1 is);
            passed = λ _. same;
          };
          sink_cause = cause;
        }

    pub session_finish : (r : Result (Unit {0}) SessionEnd) (m m' : M) (s : OverSource) (k : OverSink) (limit : ℕ) (read : List ℕ)
        → (s.tells → s.new.left ≡ []) → (s.tells → s.old.left ≡ read ++ s.new.left)
        → MatchResult r (λ _. Finished Answers m m' k read) (λ end. Stopped Answers Ends m m' k read 0 (Unit {0}) end)
        → length read ≤ limit → s.new.faults ≡ s.old.faults → HasCauseOf WriteFault k.old.faults k.new.faults r → IsSession Answers Ends m m' s k limit r
    session_finish (Ok done) m m' s k limit read at_end left f within same cause = record {
      read = read;
      within = within;
      ended = (f.lines, f.said, f.all, f.goes, f.takes, λ told. (left told ∙ ap (λ xs. read ++ xs) (at_end told) ∙ append-nil read, at_end told));
      source_cause = record { later = omega (arith, same); failed = λ e. absurd (cc); passed = λ _. same };
      sink_cause = cause;
    }
    session_finish (Err end) m m' s k limit read at_end left w within same cause =
        session_stop m m' s k limit 0 read (Unit {0}) end (omega arith) (λ _. at_end) left w within same cause

-- a read: the first bytes of the piece stand behind what was read before
pub read_on : (n : ℕ) (first left left' read into into' back piece : List ℕ) → first ≡ read ++ left → Moves n left left' into into' → piece ≡ into' ++ back
    → first ≡ (read ++ take n piece) ++ left'
read_on n first left left' read into into' back piece is moves piece_is =
    let front : take n piece ≡ take n left =
    ap (take n) piece_is ∙ ap (λ xs. take n (xs ++ back)) moves.front ∙ ap (take n) (append_assoc (take n left) (drop n into) back)
    ∙ take_at (take n left) (drop n into ++ back) n (length-take-le n left moves.enough) in
    is ∙ ap (λ xs. read ++ xs) (sym (take-append-drop n left)) ∙ sym (append_assoc read (take n left) (drop n left))
    ∙ ap (λ xs. (read ++ xs) ++ drop n left) (sym front) ∙ ap (λ xs. (read ++ take n piece) ++ xs) (sym moves.rest)
