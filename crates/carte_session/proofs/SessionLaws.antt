-- Laws of sessions.
use Rattle.std.proofs.Common.{◌≡◌, ℕ, ◌<◌, List, ◌∷◌, ◌++◌, length, sym, ◌∙◌, ap, subst, arith}
use Rattle.std.proofs.lemmas.List.{length-append}
use Rattle.carte_session.specs.Laws.{DoneLines, TooLongIsLonger}
use Rattle.carte_session.specs.Lines.{lines_of}
use Rattle.carte_session.specs.Session.{Goes}
use Rattle.carte_session.specs.declared.end.StepEnd.{StepEnd}
use Rattle.carte_session.proofs.LineLemmas.{lines_of-all}

longer_by : (limit x : ℕ) (read left all : List ℕ) → length read ≡ limit → all ≡ read ++ x ∷ left → limit < length all
longer_by limit x read left all long is = omega (arith, ap length is, length-append read (x ∷ left))

module _ {M : Type 0} (Answers : M → ℕ → List ℕ → List ℕ → M → Type 0) (Ends : M → ℕ → List ℕ → StepEnd → M → Type 0) (source_tells sink_tells : Type 0) where
  pub too_long_is : TooLongIsLonger Answers Ends source_tells sink_tells
  too_long_is m m' script left k k' limit is told =
      let more = is.ended.7 told in longer_by limit more.0 is.read left.left script.left is.ended.6 more.1

  pub done_lines_are : DoneLines Answers Ends source_tells sink_tells
  done_lines_are m m' script left k k' limit is told =
      let whole : script.left ≡ is.read = (is.ended.5 told).0 in (
        omega (arith, ap length whole, is.within),
        (
          is.ended.1,
          subst (λ (ls : List (List ℕ)). Goes Answers 1 m ls is.ended.1 m') (lines_of-all is.read is.ended.0 is.ended.2 ∙ ap lines_of (sym whole)) is.ended.3,
          is.ended.4,
        ),
      )
