-- From what a line does to what a step answers.
use Rattle.std.proofs.Common.{◌≡◌, ℕ, List, Result, Ok, Err, refl, ap, sym, subst, inl, inr}
use Rattle.std.specs.Prelude.{MatchResult}
use Rattle.carte_value.specs.declared.value.Value.{Value}
use Rattle.carte_book.specs.Book.{Book}
use Rattle.carte_session.specs.declared.end.StepEnd.{StepEnd}
use Rattle.carte_session.specs.declared.end.StepEnd.TheVariants.{NoMemory}
use Rattle.carte_name.specs.declared.kind.Kind.{Kind}
use Rattle.carte_words.specs.Lines.{Means}
use Rattle.carte_words.specs.Named.{LineNamed}
use Rattle.carte_words.specs.declared.line.Line.{Line}
use Rattle.carte_words.specs.declared.line.Line.TheVariants as line
use Rattle.carte_shell.specs.Answers.{Answers, Breaks, Ends, NamesInput, Obeys, SetsInput}
use Rattle.carte_shell.specs.Replies.{Said}
use Rattle.carte_shell.specs.Scenes.{Scene}

module _ (tells : Type 0) (m m' : Scene) where
  pub ends_at : (n : ℕ) (bytes : List ℕ) (l : Line) (end : StepEnd) → Means m.book.kind bytes l → Breaks tells m l end m' → Ends tells m n bytes end m'
  ends_at n bytes l end means breaks = inr (l, means, breaks)

  pub answers_with : (n : ℕ) (bytes : List ℕ) (l : Line) (reply : Said) → Means m.book.kind bytes l → Obeys tells m l reply m' → Answers tells m n bytes reply.text m'
  answers_with n bytes l reply means does = inr (l, means, reply, refl, does)

  -- where nothing was changed, it would be answered so again, and so would all that would have been before it
  pub stays_with : m' ≡ m → (bytes : List ℕ) (l : Line) (reply : Said) → Means m.book.kind bytes l → Obeys tells m l reply m'
      → ((n : ℕ) → Answers tells m' n bytes reply.text m') × ((other told : List ℕ) → ((n : ℕ) → Answers tells m n other told m) → (n : ℕ) → Answers tells m' n other told m')
  stays_with same bytes l reply means does = (
    λ n. subst (λ s. Answers tells s n bytes reply.text m') (sym same) (answers_with n bytes l reply means does),
    λ other told before n. subst (λ s. Answers tells s n other told s) (sym same) (before n),
  )

-- a line that was read names an input of the book's kind
pub names_input : (kind : Kind) (l : Line) → LineNamed kind l → NamesInput kind l
names_input kind (line.Set k v) named = named
names_input kind (line.Build targets) named = tt
names_input kind (line.Explain targets) named = tt
names_input kind line.Clean named = tt
names_input kind line.Nothing named = tt

pub sets_by : {S : Type 0} (said : S → Said) (tells : Type 0) (m : Scene) (c : Book) (k : List ℕ) (v : Value) (q : Result S StepEnd)
    → MatchResult q (λ t. SetsInput m.book c k v (said t)) (λ end. (end ≡ NoMemory) × (c ≡ m.book))
    → MatchResult q (λ t. Obeys tells m (line.Set k v) (said t) (record m { book = c })) (λ end. Breaks tells m (line.Set k v) end (record m { book = c }))
sets_by said tells m c k v (Ok t) sets = (sets, refl)
sets_by said tells m c k v (Err end) sets = inl (sets.0, ap (λ (b : Book). record m { book = b }) sets.1)

-- the book alone has changed
scenes : (m m' : Scene) → m'.choices ≡ m.choices → m'.stand ≡ m.stand → m'.story ≡ m.story → m'.faults ≡ m.faults → m' ≡ record m { book = m'.book }
scenes m m' choices stand story faults i = record { choices = choices i; book = m'.book; stand = stand i; story = story i; faults = faults i }

pub sets_apart : {S : Type 0} (said : S → Said) (tells : Type 0) (m m' : Scene) (k : List ℕ) (v : Value) (q : Result S StepEnd)
    → m'.choices ≡ m.choices → m'.stand ≡ m.stand → m'.story ≡ m.story → m'.faults ≡ m.faults
    → MatchResult q (λ t. SetsInput m.book m'.book k v (said t)) (λ end. (end ≡ NoMemory) × (m'.book ≡ m.book))
    → MatchResult q (λ t. Obeys tells m (line.Set k v) (said t) m') (λ end. Breaks tells m (line.Set k v) end m')
sets_apart said tells m m' k v q choices stand story faults told =
    subst (λ x. MatchResult q (λ t. Obeys tells m (line.Set k v) (said t) x) (λ end. Breaks tells m (line.Set k v) end x)) (sym (scenes m m' choices stand story faults)) (sets_by said tells m m'.book k v q told)

-- none has changed
pub same_scene : (m m' : Scene) → m'.choices ≡ m.choices → m'.book ≡ m.book → m'.stand ≡ m.stand → m'.story ≡ m.story → m'.faults ≡ m.faults → m' ≡ m
same_scene m m' choices book stand story faults i = record { choices = choices i; book = book i; stand = stand i; story = story i; faults = faults i }
