-- Which events a file of a version may hold.
use Rattle.std.proofs.Common.{◌≡◌, ℕ, Bool, true, false, List, ◌++◌, get_or, refl, sym, ap, subst, ◌∙◌, arith}
use Rattle.std.specs.Prelude.{All, not}
use Rattle.irc_line.specs.Lines.{Parts}
use Rattle.world_events.specs.declared.event.Event.{Event}
use Rattle.world_events.specs.declared.event.Event.TheVariants.{Does, Restart, StopIn}
use Rattle.world_events.specs.declared.event.Input.{Input}
use Rattle.world_events.specs.declared.event.Input.TheVariants as input
use Rattle.recorder.specs.Dates.{event_brings_name, input_brings_name}
use Rattle.recorder.specs.EventLists.{FitEvents}
use Rattle.recorder.specs.InputReadings.{FitsEvent, FitsInput, text_of_event}
use Rattle.recorder.proofs.Inputs.{one_event}
use Rattle.records.specs.RecordReading.{FitsIn, may_hold}
use Rattle.records.specs.RecordText.{version_mark}
use Rattle.records.specs.declared.file_version.FileVersion.{FileVersion}
use Rattle.records.specs.declared.file_version.FileVersion.TheVariants.{First, Second}

not_true : (b : Bool) → not b ≡ true → b ≡ false
not_true true h = absurd cc
not_true false h = refl

not_false : (b : Bool) → b ≡ false → not b ≡ true
not_false true h = absurd cc
not_false false h = refl

-- files of two versions do not begin with the same bytes
pub one_version : (v w : FileVersion) (r s : List ℕ) → version_mark v ++ r ≡ version_mark w ++ s → v ≡ w
one_version First First r s e = refl
one_version Second Second r s e = refl
one_version First Second r s e = let other : 49 ≡ 50 = ap (λ (l : List ℕ). get_or l 6 0) e in absurd (omega (arith, other))
one_version Second First r s e = let other : 50 ≡ 49 = ap (λ (l : List ℕ). get_or l 6 0) e in absurd (omega (arith, other))

-- Over bodies, their spelling and its limits, and which bring a name
module _ {B : Type 0} (spelled : B → List ℕ) (fits : B → Type 0) (brings : B → Bool) where
  input_fits : (x : Input B Parts (List ℕ)) → FitsInput spelled (FitsIn fits brings First) x → FitsInput spelled fits x × (input_brings_name brings x ≡ false)
  input_fits (input.Timeout n) f = (f, refl)
  input_fits (input.Beat n) f = (f, refl)
  input_fits (input.Deliver n k) f = (f, refl)
  input_fits (input.Ask n b) f = ((f.0, (f.1.0.0, f.1.1)), f.1.0.1)
  input_fits (input.Opened n) f = (f, refl)
  input_fits (input.Closed n) f = (f, refl)
  input_fits (input.Heard n at l) f = (f, refl)
  input_fits (input.Claim n) f = (f, refl)
  input_fits (input.Apply n) f = (f, refl)
  input_fits (input.Look n place target) f = (f, refl)

  -- what is held fits, and may be held
  pub parts : (v : FileVersion) (e : Event B Parts (List ℕ)) → FitsEvent spelled (FitsIn fits brings v) e → FitsEvent spelled fits e × (may_hold brings v e ≡ true)
  parts Second (Does x) f = (f, refl)
  parts Second (Restart n) f = (f, refl)
  parts Second (StopIn x after) f = (f, refl)
  parts First (Does x) f = let p = input_fits x f in (p.0, not_false (input_brings_name brings x) p.1)
  parts First (Restart n) f = (f, refl)
  parts First (StopIn x after) f = let p = input_fits x f in (p.0, not_false (input_brings_name brings x) p.1)

  pub all_fit : (v : FileVersion) (events : List (Event B Parts (List ℕ))) → FitEvents spelled (FitsIn fits brings v) events → FitEvents spelled fits events
  all_fit v events h = λ k d lt. (parts v (get_or events k d) (h k d lt)).0

  -- in a file of the first version no event brings a name
  pub none_bring : (events : List (Event B Parts (List ℕ))) → FitEvents spelled (FitsIn fits brings First) events → All (λ e. event_brings_name brings e ≡ false) events
  none_bring events h = λ k d lt. not_true (event_brings_name brings (get_or events k d)) (parts First (get_or events k d) (h k d lt)).1

  module _ (own : (a b : B) → fits a → fits b → spelled a ≡ spelled b → a ≡ b) where
    -- an event was read that may not be held, and a line is of one event
    pub read_other : (v : FileVersion) (line : List ℕ) (e : Event B Parts (List ℕ)) → FitsEvent spelled fits e × (text_of_event spelled fits e ≡ line) → may_hold brings v e ≡ false
        → (d : Event B Parts (List ℕ)) → FitsEvent spelled (FitsIn fits brings v) d → text_of_event spelled fits d ≡ line → ⊥
    read_other v line e read may_not d f t =
        let p = parts v d f in
        let same : d ≡ e = one_event spelled fits own d e p.0 read.0 (t ∙ sym read.1) in
        let may : may_hold brings v e ≡ true = subst (λ (x : Event B Parts (List ℕ)). may_hold brings v x ≡ true) same p.1 in
        absurd cc
