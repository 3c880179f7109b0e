-- A record file is read in one way.
use Rattle.std.proofs.Common.{◌≡◌, ℕ, ◌<◌, Bool, true, false, List, ◌∷◌, ◌++◌, Option, None, Some, refl, sym, ap, subst, ◌∙◌, arith}
use Rattle.std.specs.Prelude.{codes, decimal, slice_index}
use Rattle.std.proofs.lemmas.Fmt.{decimal_injective}
use Rattle.std.proofs.lemmas.List.{append_cancel_left, append_cancel_right}
use Rattle.hex.specs.Hex.{encode_lower}
use Rattle.hex.proofs.HexLemmas.{decode_of-encode_lower}
use Rattle.irc_line.specs.Lines.{Parts, spelling}
use Rattle.raft_log.specs.Peers.{IsGroupSize}
use Rattle.world_events.specs.declared.event.Event.{Event}
use Rattle.world_events.specs.declared.event.Event.TheVariants.{Does, Restart, StopIn}
use Rattle.recorder.specs.declared.kind.Kind.{Kind}
use Rattle.recorder.specs.declared.kind.Kind.TheVariants.{Timeout, Beat, Deliver, Ask, Opened, Closed, Heard, Claim, Apply, Look}
use Rattle.recorder.specs.EventLists.{FitEvents, line_and, text_of_events}
use Rattle.recorder.specs.EventText.{fields, kind_of}
use Rattle.recorder.specs.InputReadings.{FitsEvent, text_of_event}
use Rattle.recorder.specs.Kinds.{word}
use Rattle.recorder.specs.Readings.{FitsDigits, digits_of}
use Rattle.recorder.specs.Splits.{split_at}
use Rattle.recorder.proofs.Apart.{one_list, same_ends}
use Rattle.recorder.proofs.Lines.{line_split}
use Rattle.recorder.proofs.Splits.{joined}
use Rattle.records.specs.ReadingLaws.{FirstBringsNoName, IsReadOneWay}
use Rattle.records.specs.RecordReading.{FitsIn}
use Rattle.records.specs.RecordText.{outputs_line, setup_text, size_text, version_mark}
use Rattle.records.specs.declared.file_version.FileVersion.{FileVersion}
use Rattle.records.specs.declared.file_version.FileVersion.TheVariants.{First}
use Rattle.records.proofs.Holding.{all_fit, none_bring, one_version}
use Rattle.records.proofs.LineFronts.{falls, setup_lacks, size_lacks}

-- ---- no event's line is `outputs`

word_lacks : (k : Kind) → split_at 32 (word k) ≡ None
word_lacks Timeout = refl
word_lacks Beat = refl
word_lacks Deliver = refl
word_lacks Ask = refl
word_lacks Opened = refl
word_lacks Closed = refl
word_lacks Heard = refl
word_lacks Claim = refl
word_lacks Apply = refl
word_lacks Look = refl

-- what has a space in it is not `outputs`
spaced : (text front back : List ℕ) → split_at 32 text ≡ Some (front, back) → text ≡ codes "outputs" → ⊥
spaced text front back s e =
    let none : split_at 32 (codes "outputs") ≡ None = refl in
    let some : split_at 32 (codes "outputs") ≡ Some (front, back) = subst (λ (t : List ℕ). split_at 32 t ≡ Some (front, back)) e s in
    absurd cc

module _ {B : Type 0} (spelled : B → List ℕ) (fits : B → Type 0) where
  no_event : (e : Event B Parts (List ℕ)) → text_of_event spelled fits e ≡ codes "outputs" → ⊥
  no_event (Does x) t = spaced (text_of_event spelled fits (Does x)) (word (kind_of spelled spelling x)) (fields spelled spelling x) (joined 32 (word (kind_of spelled spelling x)) (fields spelled spelling x) (word_lacks (kind_of spelled spelling x))) t
  no_event (Restart n) t = spaced (text_of_event spelled fits (Restart n)) (codes "restart") (decimal n) refl t
  no_event (StopIn x false) t = spaced (text_of_event spelled fits (StopIn x false)) (codes "stop") _ refl t
  no_event (StopIn x true) t = spaced (text_of_event spelled fits (StopIn x true)) (codes "stop") _ refl t

  -- the line `outputs` and more begin with no event's line
  pub outputs_end : (outputs : List ℕ) (e : Event B Parts (List ℕ)) (more : List ℕ) → FitsEvent spelled fits e → line_and spelled fits (e, more) ≡ outputs_line ++ outputs → ⊥
  outputs_end outputs e more f t =
      let l = line_split spelled fits e more (outputs_line ++ outputs) f t in
      let at : split_at 10 (outputs_line ++ outputs) ≡ Some (codes "outputs", outputs) = refl in
      let pair : (text_of_event spelled fits e, more) ≡ (codes "outputs", outputs) = cc in
      no_event e (ap (λ (p : List ℕ × List ℕ). p.0) pair)

-- ---- the parts, one after the other

pair_is : (p q : List ℕ × List ℕ) → ◌≡◌ {A = Option (List ℕ × List ℕ)} (Some p) (Some q) → p ≡ q
pair_is p q e = cc

-- lines of two values that begin one text: the values' texts are the same, and what follows them
pub one_line : {A : Type 0} (text : A → List ℕ) (fits : A → Type 0) → ((a : A) → fits a → split_at 10 (text a) ≡ None) → (a b : A) (r s : List ℕ) → fits a → fits b → text a ++ 10 ∷ r ≡ text b ++ 10 ∷ s → (text a ≡ text b) × (r ≡ s)
one_line text fits lacks a b r s f g t =
    let one = falls text fits lacks (a, r) (text b ++ 10 ∷ s) f t in
    let two = falls text fits lacks (b, s) (text b ++ 10 ∷ s) g refl in
    let same : (text a, r) ≡ (text b, s) = pair_is (text a, r) (text b, s) (sym one ∙ two) in
    (ap (λ (p : List ℕ × List ℕ). p.0) same, ap (λ (p : List ℕ × List ℕ). p.1) same)

digits_are : (a b : List ℕ) → ((i : ℕ) → slice_index a i < 256) → ((i : ℕ) → slice_index b i < 256) → encode_lower a ≡ encode_lower b → a ≡ b
digits_are a b f g t =
    let one = decode_of-encode_lower a f in
    let two = decode_of-encode_lower b g in
    cc

-- Over setups and bodies no two of which have one spelling
module _ {S B : Type 0} (setup_spelled : S → List ℕ) (setup_fits : S → Type 0) (spelled : B → List ℕ) (fits : B → Type 0)
    (brings : B → Bool) (own_setup : (a b : S) → setup_fits a → setup_fits b → setup_spelled a ≡ setup_spelled b → a ≡ b) (own_body : (a b : B) → fits a → fits b → spelled a ≡ spelled b → a ≡ b) where
  -- what follows the setup's line
  abbrev rest_text : List (Event B Parts (List ℕ)) → List ℕ → List ℕ
  rest_text events outputs = text_of_events spelled fits events ++ (outputs_line ++ outputs)

  -- what follows the version
  abbrev sized_text : ℕ → S → List (Event B Parts (List ℕ)) → List ℕ → List ℕ
  sized_text size setup events outputs = size_text (size, setup_text setup_spelled setup_fits (setup, rest_text events outputs))

  pub one_reading : IsReadOneWay setup_spelled setup_fits spelled fits brings
  one_reading input m n s t es fs o q h k =
      let marked : version_mark h.version ++ sized_text m s es o ≡ version_mark k.version ++ sized_text n t fs q = h.whole ∙ sym k.whole in
      let version : h.version ≡ k.version = one_version h.version k.version (sized_text m s es o) (sized_text n t fs q) marked in
      let whole : version_mark h.version ++ sized_text m s es o ≡ version_mark h.version ++ sized_text n t fs q =
      subst (λ (v : FileVersion). version_mark h.version ++ sized_text m s es o ≡ version_mark v ++ sized_text n t fs q) (sym version) marked in
      let good = all_fit spelled fits brings h.version es h.good_events in
      let good_other = all_fit spelled fits brings k.version fs k.good_events in
      let behind = append_cancel_left (version_mark h.version) _ _ whole in
      let sizes = one_line decimal IsGroupSize size_lacks m n (setup_text setup_spelled setup_fits (s, rest_text es o)) (setup_text setup_spelled setup_fits (t, rest_text fs q)) h.allowed k.allowed behind in
      let setups = one_line (digits_of setup_spelled) (FitsDigits setup_fits setup_spelled) (setup_lacks setup_spelled setup_fits) s t (rest_text es o) (rest_text fs q) h.good_setup k.good_setup sizes.1 in
      let ends = same_ends spelled fits es fs (outputs_line ++ o) (outputs_line ++ q) good good_other setups.1 (outputs_end spelled fits o) (outputs_end spelled fits q) in
      let texts : text_of_events spelled fits es ++ (outputs_line ++ q) ≡ text_of_events spelled fits fs ++ (outputs_line ++ q) = ap (λ (r : List ℕ). text_of_events spelled fits es ++ r) (sym ends.1) ∙ setups.1 in
      record {
        sizes = decimal_injective m n (omega (arith, h.allowed)) (omega (arith, k.allowed)) sizes.0;
        setups = own_setup s t h.good_setup.0 k.good_setup.0 (digits_are (setup_spelled s) (setup_spelled t) h.good_setup.1 k.good_setup.1 setups.0);
        lists = one_list spelled fits own_body es fs good good_other (append_cancel_right _ _ (outputs_line ++ q) texts);
        outs = append_cancel_left outputs_line o q ends.1;
      }

-- Over setups and bodies, and which of these bring a name
module _ {S B : Type 0} (setup_spelled : S → List ℕ) (setup_fits : S → Type 0) (spelled : B → List ℕ) (fits : B → Type 0) (brings : B → Bool) where
  pub first_brings_no_name : FirstBringsNoName setup_spelled setup_fits spelled fits brings
  first_brings_no_name input size setup events outputs rest of mark =
      let behind = size_text (size, setup_text setup_spelled setup_fits (setup, text_of_events spelled fits events ++ (outputs_line ++ outputs))) in
      let version : of.version ≡ First = one_version of.version First behind rest (of.whole ∙ sym mark) in
      none_bring spelled fits brings events (subst (λ (v : FileVersion). FitEvents spelled (FitsIn fits brings v) events) version of.good_events)
