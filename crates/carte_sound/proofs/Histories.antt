-- What is kept stays sound as the history grows, and nothing kept is sound.
use Rattle.std.proofs.Common.{List}
use Rattle.carte_book.specs.Book.{Book}
use Rattle.carte_record.specs.Kept.{SomeKept, nothing_kept}
use Rattle.carte_value.specs.Lists.{Has}
use Rattle.carte_sound.specs.Sound.{IsSound}
use Rattle.carte_sound.specs.Base.{HasDistinctDigests, IsBase}

-- what is kept stays sound as the history grows
pub longer_sound : (K : SomeKept) (H J : List Book) → ((c : Book) → Has H c → Has J c) → IsSound K H → IsSound K J
longer_sound K H J into sound = record {
  traces = λ w k t has. let s = sound.traces w k t has in record { book = s.book; stood = into s.book s.stood; trace = s.trace; entry = s.entry; kept = s.kept };
  entries = λ k e kept. let s = sound.entries k e kept in record { book = s.book; stood = into s.book s.stood; entry = s.entry; fresh = s.fresh };
  stored = λ d v is. let s = sound.stored d v is in (s.0, record { book = s.1.book; stood = into s.1.book s.1.stood; name = s.1.name; is_rule = s.1.is_rule; clean = s.1.clean });
  entry_stored = sound.entry_stored;
  trace_stored = sound.trace_stored;
  chain = sound.chain;
  apart = sound.apart;
}

-- nothing kept is sound
pub nothing_sound : (H : List Book) → IsSound nothing_kept H
nothing_sound H = record {
  traces = λ w k t has. absurd has;
  entries = λ k e kept. cc;
  stored = λ d v is. cc;
  entry_stored = λ k e kept. cc;
  trace_stored = λ w k t has. absurd has;
  chain = tt;
  apart = λ i d e is kept. cc;
}

-- and what a build may begin with
pub nothing_begun : (b : Book) (H : List Book) → Has H b → HasDistinctDigests H → IsBase nothing_kept b H
nothing_begun b H stands distinct = record {
  sound = nothing_sound H;
  present = stands;
  distinct = distinct;
  keys = λ k e kept. cc;
  inputs = λ i d is. cc;
  now = λ k e kept fresh. cc;
}
