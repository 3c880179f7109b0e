-- The state of a folding that was fed some bytes of an input, and that more of them carry it on.
use Rattle.std.specs.Prelude.{◌≡◌, ◌≢◌, ℕ, ◌+◌, ◌⊎◌, List, [], ◌++◌, Ok, Err, MatchOption}
use Rattle.machine_laws.specs.Runs.{History}
use Rattle.buffer_commands.specs.declared.effect.Effect.{Effect}
use Rattle.request_once.specs.declared.answer.Answer.{Answer}
use Rattle.irc_line.specs.Splitting.{HasNoLineFeed}
use Rattle.fold_app.specs.Lines.{lines_of}
use Rattle.fold_app.specs.Fold.{Request, printed, bodies_of, printed_from, fold_text}
use Rattle.fold_app.specs.Faults.{IsOfALine}
use Rattle.fold_app.specs.declared.fault.FoldFault.{FoldFault}
use Rattle.fold_app.specs.declared.fault.FoldFault.TheVariants.{Memory}
use Rattle.fold_app.specs.declared.feeding.Folding.{Folding}

-- what each request is answered after a history
abbrev pub Answers : Type 0
Answers = History Request → ℕ → Request → List (Answer Effect)

-- an input that begins with the fed bytes gives what follows from going on after a history of this many lines, in the
-- line that is begun
pub record GoesOn (fed : List ℕ) (place : ℕ) (earlier : History Request) (begun : List ℕ) : Type 0 where
  pub one_line : HasNoLineFeed begun
  pub same : (answers : Answers) (more : List ℕ) → printed_from answers (place + 1) earlier (bodies_of (place + 1) (lines_of (begun ++ more))) ≡ fold_text answers (fed ++ more)

-- each input that begins with the fed bytes has this fault
pub record Fails (fed : List ℕ) (e : FoldFault) : Type 0 where
  pub always : (answers : Answers) (more : List ℕ) → fold_text answers (fed ++ more) ≡ Err e

-- all lines that ended in the fed bytes are folded, in a machine that was first as this one
pub record HasFolded {S M : Type 0} (stands : M → S → History Request → Type 0) (effects : S → Answers) (first : M) (fed : List ℕ) (machine : M) (folding : Folding) : Type 0 where
  pub earlier : History Request
  pub goes_on : GoesOn fed folding.place earlier folding.begun.items
  pub told : (s : S) → stands first s [] → stands machine s earlier × (folding.output.items ≡ printed (effects s) earlier)

-- the fed bytes have a bad line, with this fault
pub record HasFailed (fed : List ℕ) (e : FoldFault) : Type 0 where
  pub of_a_line : IsOfALine e
  pub fails : Fails fed e

-- the state of a folding that was fed these bytes
pub record StandsFor {S M : Type 0} (stands : M → S → History Request → Type 0) (effects : S → Answers) (first : M) (fed : List ℕ) (machine : M) (folding : Folding) : Type 0 where
  pub how : MatchOption folding.fault (HasFolded stands effects first fed machine folding) (HasFailed fed)

-- these bytes more, and all lines that ended in what was fed are folded again
pub record FoldsOn {S M : Type 0} (stands : M → S → History Request → Type 0) (effects : S → Answers) (machine : M) (folding : Folding) (bytes : List ℕ) (after : M) (fed_on : Folding) : Type 0 where
  pub carries : (first : M) (fed : List ℕ) → HasFolded stands effects first fed machine folding → HasFolded stands effects first (fed ++ bytes) after fed_on

-- these bytes more, and what was fed has a bad line, with this fault
pub record FailsOn {S M : Type 0} (stands : M → S → History Request → Type 0) (effects : S → Answers) (machine : M) (folding : Folding) (bytes : List ℕ) (e : FoldFault) : Type 0 where
  pub carries : (first : M) (fed : List ℕ) → HasFolded stands effects first fed machine folding → Fails (fed ++ bytes) e

-- whatever a folding was fed, it then was fed that and these bytes more
pub record Carries {S M : Type 0} (stands : M → S → History Request → Type 0) (effects : S → Answers) (machine : M) (folding : Folding) (bytes : List ℕ) (after : M) (fed_on : Folding) : Type 0 where
  pub carries : (first : M) (fed : List ℕ) → StandsFor stands effects first fed machine folding → StandsFor stands effects first (fed ++ bytes) after fed_on

-- whatever a folding was fed, this is the text of the answers to it
pub record GivesText {S M : Type 0} (stands : M → S → History Request → Type 0) (effects : S → Answers) (machine : M) (folding : Folding) (text : List ℕ) : Type 0 where
  pub gives : (first : M) (fed : List ℕ) → StandsFor stands effects first fed machine folding → (s : S) → stands first s [] → fold_text (effects s) fed ≡ Ok text

-- whatever a folding was fed, this is its fault, or memory ran out
pub record GivesFault {S M : Type 0} (stands : M → S → History Request → Type 0) (effects : S → Answers) (machine : M) (folding : Folding) (e : FoldFault) : Type 0 where
  pub gives : (first : M) (fed : List ℕ) → StandsFor stands effects first fed machine folding → ((e ≡ Memory) ⊎ IsOfALine e) × (e ≢ Memory → (answers : Answers) → fold_text answers fed ≡ Err e)
