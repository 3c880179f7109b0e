-- For the file of a record no fault is reported except that memory ran out.
use Rattle.std.proofs.Common.{◌≡◌, ⊎_elim, ℕ, Bool, List, ◌∷◌, ◌++◌, [], Some, None, refl, sym, subst, ◌∙◌, append_assoc, arith}
use Rattle.std.specs.Prelude.{decimal}
use Rattle.std.proofs.lemmas.List.{append_cancel_left}
use Rattle.irc_line.specs.Lines.{Parts}
use Rattle.raft_log.specs.Peers.{IsGroupSize}
use Rattle.world_events.specs.declared.event.Event.{Event}
use Rattle.recorder.specs.EventLists.{FitEvents, text_of_events}
use Rattle.recorder.specs.InputReadings.{text_of_event}
use Rattle.recorder.specs.Readings.{FitsDigits, digits_of}
use Rattle.recorder.proofs.Apart.{same_ends}
use Rattle.records.specs.ReadingLaws.{HasNoFault}
use Rattle.records.specs.RecordReading.{FitsIn, IsBadBehind, IsBadItem, IsBadSetup, IsBadSize, IsRecordOf}
use Rattle.records.specs.RecordText.{outputs_line, setup_text, size_text, version_mark}
use Rattle.records.specs.declared.file_version.FileVersion.{FileVersion}
use Rattle.records.specs.declared.replay_fault.ReplayFault.TheVariants.{Version, BadLine, TooLong, Memory}
use Rattle.records.proofs.Holding.{one_version}
use Rattle.records.proofs.LineFronts.{setup_lacks, size_lacks}
use Rattle.records.proofs.OneReading.{one_line, outputs_end}

-- texts of one version that are the same are the same after it
same_behind : (v w : FileVersion) (r s input : List ℕ) → version_mark v ++ r ≡ input → version_mark w ++ s ≡ input → (v ≡ w) × (r ≡ s)
same_behind v w r s input h k =
    let same : v ≡ w = one_version v w r s (h ∙ sym k) in
    (same, append_cancel_left (version_mark v) r s (subst (λ (x : FileVersion). version_mark v ++ r ≡ version_mark x ++ s) (sym same) (h ∙ sym k)))

-- Over bodies, their spelling and its limits
module _ {B : Type 0} (spelled : B → List ℕ) (fits : B → Type 0) where
  -- events and then the line `outputs` have no bad item
  no_bad_item : (text : List ℕ) (number : ℕ) (events : List (Event B Parts (List ℕ))) (outputs : List ℕ) → FitEvents spelled fits events
      → text_of_events spelled fits events ++ (outputs_line ++ outputs) ≡ text → IsBadItem spelled fits text number → ⊥
  no_bad_item text number events outputs good whole b =
      let ends = same_ends spelled fits b.before events b.rest (outputs_line ++ outputs) b.good good (b.whole ∙ sym whole)
      (λ e more f t. b.bad (Some e, more) f (sym (append_assoc (text_of_event spelled fits e) (10 ∷ []) more) ∙ t)) (outputs_end spelled fits outputs) in
      b.bad (None, outputs) tt (sym ends.1)

-- Over setups and bodies, and which of these bring a name
module _ {S B : Type 0} (setup_spelled : S → List ℕ) (setup_fits : S → Type 0) (spelled : B → List ℕ) (fits : B → Type 0) (brings : B → Bool) where
  abbrev rest_text : List (Event B Parts (List ℕ)) → List ℕ → List ℕ
  rest_text events outputs = text_of_events spelled fits events ++ (outputs_line ++ outputs)

  module _ (input : List ℕ) (size : ℕ) (setup : S) (events : List (Event B Parts (List ℕ))) (outputs : List ℕ) (is : IsRecordOf setup_spelled setup_fits spelled fits brings input size setup events outputs) where
    abbrev behind_size : List ℕ
    behind_size = setup_text setup_spelled setup_fits (setup, rest_text events outputs)

    good_size : (number : ℕ) → IsBadSize input number → ⊥
    good_size number b =
        let same = same_behind is.version b.version (size_text (size, behind_size)) b.rest input is.whole b.whole in
        b.bad (size, behind_size) is.allowed same.1

    good_setup : (number : ℕ) → IsBadSetup setup_spelled setup_fits spelled fits brings input number → ⊥
    good_setup number b =
        let same = same_behind is.version b.version (size_text (size, behind_size)) (size_text (b.size, b.rest)) input is.whole b.whole in
        let sizes = one_line decimal IsGroupSize size_lacks size b.size behind_size b.rest is.allowed b.allowed same.1 in
        b.bad (setup, rest_text events outputs) is.good_setup sizes.1

    good_behind : (number : ℕ) → IsBadBehind setup_spelled setup_fits spelled fits brings input number → ⊥
    good_behind number b =
        let same = same_behind is.version b.version (size_text (size, behind_size)) (size_text (b.size, setup_text setup_spelled setup_fits (b.setup, b.rest))) input is.whole b.whole in
        let sizes = one_line decimal IsGroupSize size_lacks size b.size behind_size (setup_text setup_spelled setup_fits (b.setup, b.rest)) is.allowed b.allowed same.1 in
        let setups = one_line (digits_of setup_spelled) (FitsDigits setup_fits setup_spelled) (setup_lacks setup_spelled setup_fits) setup b.setup (rest_text events outputs) b.rest is.good_setup b.good_setup sizes.1 in
        let good = subst (λ (v : FileVersion). FitEvents spelled (FitsIn fits brings v) events) same.0 is.good_events in
        no_bad_item spelled (FitsIn fits brings b.version) b.rest number events outputs good setups.1 b.bad

  pub no_fault : HasNoFault setup_spelled setup_fits spelled fits brings
  no_fault input size setup events outputs Version is fault = absurd (fault.1 (is.version, (_, is.whole)))
  no_fault input size setup events outputs (BadLine number) is fault =
      absurd (⊎_elim (good_size input size setup events outputs is number) (⊎_elim (good_setup input size setup events outputs is number) (good_behind input size setup events outputs is number)) fault.1)
  no_fault input size setup events outputs TooLong is fault = absurd (omega (arith, is.short, fault))
  no_fault input size setup events outputs Memory is fault = refl
