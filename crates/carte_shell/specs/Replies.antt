-- The reply to a line, and why what it asks for was refused.
use Rattle.std.specs.Prelude.{ℕ, Bool, List, Option, Some, None, string_bytes}
use Rattle.carte_book.specs.declared.reason.Reason.{Reason}
use Rattle.carte_engine.specs.declared.answer.Answer.{Answer}
use Rattle.carte_engine.specs.declared.answer.Answer.TheVariants.{Built, Refused}
use Rattle.carte_report.specs.Lines.{refused_line}
use Rattle.carte_report.specs.Reply.{reply}
use Rattle.carte_shell.specs.declared.reply.Reply.{Reply}

pub record Said : Type 0 where
  pub text : List ℕ
  pub refused : Option Reason

abbrev pub said : Reply → Said
said r = record { text = string_bytes r.text; refused = r.refused }

-- of what wasn't refused, and of what was
abbrev pub plain : List ℕ → Said
plain text = record { text = text; refused = None }

abbrev pub refusal : Reason → Said
refusal reason = record { text = refused_line reason; refused = Some reason }

-- the targets with their values, the rules that ran where they are to be listed, and the counts; or why a target has no value
abbrev pub build_reply : Bool → List (List ℕ) → Answer → Said
build_reply list targets (Built built) = plain (reply targets built.values list built.ran built.given_up built.reused)
build_reply list targets (Refused reason runs) = refusal reason
