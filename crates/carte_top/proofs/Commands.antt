-- What was done for each command.
use Rattle.std.proofs.Common.{◌≡◌, ℕ, refl, sym, subst, inl, inr}
use Rattle.carte_words.specs.declared.words.Command.{Command}
use Rattle.carte_words.specs.declared.words.Command.TheVariants as command
use Rattle.carte_words.specs.declared.words.Words.{Words as Asked}
use Rattle.carte_report.specs.declared.status.Status.{Status}
use Rattle.carte_report.specs.declared.status.Status.TheVariants.{ReadFault}
use Rattle.carte_top.specs.Around.{OverSource, OverDisk, OverSink, IsUnread}
use Rattle.carte_top.specs.Outcome.{Cleaned, Does, Generated, TellsEither, TellsSource}
use Rattle.carte_top.specs.Running.{Builds, Cleans, Generates, ReadsEnough, RunOf, Runs, Sits, Tells}
use Rattle.carte_top.specs.Sound.{KeepsOn}

module _ (limit : ℕ) (w : Asked) (s c : OverSource) (d : OverDisk) (k : OverSink) (status : Status) where
  abbrev For : Command → Type 0
  For to = RunOf (Does to limit w s c d k status) (KeepsOn to limit w s c d) (TellsEither s c status (w.command ≡ command.Session)) s d k status

  run_for : (to : Command) → w.command ≡ to → For to → Runs limit w s c d k status
  run_for to is run = subst For (sym is) run

  pub for_build : w.command ≡ command.Build → IsUnread c → Builds limit w s d k status → Runs limit w s c d k status
  for_build is unread run =
      run_for command.Build is (record { did = run.did; read = run.read; visits = run.visits; source = inl (run.source, unread); disk = run.disk; sink = run.sink })

  pub for_explain : w.command ≡ command.Explain → IsUnread c → Tells limit w s d k status → Runs limit w s c d k status
  for_explain is unread run =
      run_for command.Explain is (record { did = run.did; read = run.read; visits = run.visits; source = inl (run.source, unread); disk = run.disk; sink = run.sink })

  pub for_session : w.command ≡ command.Session → Sits limit w s c d k status → Runs limit w s c d k status
  for_session is run = run_for command.Session is (record { did = run.did; read = run.read; visits = run.visits; source = told run.source; disk = run.disk; sink = run.sink })
    where
      told : TellsEither s c status (Unit {0}) → TellsEither s c status (w.command ≡ command.Session)
      told (inl alone) = inl alone
      told (inr (u, same, tells)) = inr (is, same, tells)

  -- where no source is read, none has failed
  alone : (to : Status) → (to ≡ ReadFault → ⊥) → s.new.faults ≡ s.old.faults → TellsSource s to
  alone ReadFault other same = absurd (other refl)
  alone to other same = same

  pub for_clean : w.command ≡ command.Clean → IsUnread s → IsUnread c → ReadsEnough s → Cleans limit d k status → Runs limit w s c d k status
  for_clean is unread still read run =
      run_for command.Clean is (record {
        did = (unread, run.did);
        read = read;
        visits = run.visits;
        source = inl (alone status (λ is. subst (Cleaned limit d k) is run.did) unread.1, still);
        disk = run.disk;
        sink = run.sink;
      })

  pub for_generate : w.command ≡ command.Generate → IsUnread s → IsUnread c → ReadsEnough s → Generates limit w d k status → Runs limit w s c d k status
  for_generate is unread still read run =
      run_for command.Generate is (record {
        did = (unread, run.did);
        read = read;
        visits = run.visits;
        source = inl (alone status (λ is. subst (Generated limit w d k) is run.did) unread.1, still);
        disk = run.disk;
        sink = run.sink;
      })
