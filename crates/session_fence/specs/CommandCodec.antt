-- Commands are a codec where the commands below and the lines are. These are lemmas; nothing here has to be trusted.
use Rattle.std.proofs.Common.{◌≡◌, ℕ, List, [], ◌∷◌, ◌++◌, IsTrue, refl, arith}
use Rattle.std.specs.Prelude.{is_some}
use Rattle.wire_bytes.specs.Fields.{Reading, through, both, reading_of}
use Rattle.wire_bytes.specs.Codecs.{IsCodec, through-codec, both-codec}
use Rattle.wire_bytes.specs.ChoiceCodec.{choice-codec}
use Rattle.wire_bytes.specs.Values.{spelled_session, spelled_number, FitsSession, FitsNumber, FitsMoment, session, number, moment}
use Rattle.wire_bytes.specs.ValueCodecs.{session_is_codec, number_is_codec, moment_is_codec}
use Rattle.wire_bytes.specs.declared.session_id.SessionId.{SessionId}
use Rattle.session_fence.specs.declared.command.FenceCommand.{FenceCommand}
use Rattle.session_fence.specs.declared.command.FenceCommand.TheVariants.{Inner, Opened, Shut, Heard}
use Rattle.session_fence.specs.Spelling.{command_kind, spelled_parts, spelled_command, FitsCommand, opened_taken, shut_taken, heard_of, heard_taken, command_taken}

module _ {C L : Type 0} (command : C → List ℕ) (command_fits : C → Type 0) (below_taken : Reading C) (line : L → List ℕ) (line_fits : L → Type 0) (line_taken : Reading L)
    (command_codec : IsCodec command command_fits below_taken) (line_codec : IsCodec line line_fits line_taken) where
  abbrev fits : FenceCommand C L → Type 0
  fits x = FitsCommand command_fits line_fits x

  parts_codec : IsCodec (λ (p : ((SessionId × ℕ) × ℕ) × L). ((spelled_session p.0.0.0 ++ spelled_number p.0.0.1) ++ spelled_number p.0.1) ++ line p.1) (λ p. ((FitsSession p.0.0.0 × FitsNumber p.0.0.1) × FitsMoment p.0.1) × line_fits p.1) (both (both (both session number) moment) line_taken)
  parts_codec =
      both-codec (λ (p : (SessionId × ℕ) × ℕ). (spelled_session p.0.0 ++ spelled_number p.0.1) ++ spelled_number p.1) (λ p. (FitsSession p.0.0 × FitsNumber p.0.1) × FitsMoment p.1) (both (both session number) moment) line line_fits line_taken
      (both-codec (λ (p : SessionId × ℕ). spelled_session p.0 ++ spelled_number p.1) (λ p. FitsSession p.0 × FitsNumber p.1) (both session number) spelled_number FitsMoment moment
      (both-codec spelled_session FitsSession session spelled_number FitsNumber number session_is_codec number_is_codec)
      moment_is_codec)
      line_codec

  split_inner : (x : FenceCommand C L) → fits x × (command_kind x ≡ 0) → (c : C) × command_fits c × (Inner c ≡ x)
  split_inner (Inner c) h = (c, h.0, refl)
  split_inner (Opened id) h = absurd (omega arith)
  split_inner (Shut id) h = absurd (omega arith)
  split_inner (Heard id n at l) h = absurd (omega arith)

  split_opened : (x : FenceCommand C L) → fits x × (command_kind x ≡ 1) → (id : SessionId) × FitsSession id × (Opened id ≡ x)
  split_opened (Inner c) h = absurd (omega arith)
  split_opened (Opened id) h = (id, h.0, refl)
  split_opened (Shut id) h = absurd (omega arith)
  split_opened (Heard id n at l) h = absurd (omega arith)

  split_shut : (x : FenceCommand C L) → fits x × (command_kind x ≡ 2) → (id : SessionId) × FitsSession id × (Shut id ≡ x)
  split_shut (Inner c) h = absurd (omega arith)
  split_shut (Opened id) h = absurd (omega arith)
  split_shut (Shut id) h = (id, h.0, refl)
  split_shut (Heard id n at l) h = absurd (omega arith)

  split_heard : (x : FenceCommand C L) → fits x × (command_kind x ≡ 3) → (p : ((SessionId × ℕ) × ℕ) × L) × (((FitsSession p.0.0.0 × FitsNumber p.0.0.1) × FitsMoment p.0.1) × line_fits p.1) × (heard_of p ≡ x)
  split_heard (Inner c) h = absurd (omega arith)
  split_heard (Opened id) h = absurd (omega arith)
  split_heard (Shut id) h = absurd (omega arith)
  split_heard (Heard id n at l) h = ((((id, n), at), l), h.0, refl)

  abbrev cases : List (ℕ × Reading (FenceCommand C L))
  cases = (0, through Inner below_taken) ∷ (1, opened_taken) ∷ (2, shut_taken) ∷ (3, heard_taken line_taken) ∷ []

  listed : (x : FenceCommand C L) → fits x → IsTrue (is_some (reading_of (command_kind x) cases))
  listed (Inner c) h = refl
  listed (Opened id) h = refl
  listed (Shut id) h = refl
  listed (Heard id n at l) h = refl

  pub command_is_codec : IsCodec (spelled_command command line) (FitsCommand command_fits line_fits) (command_taken below_taken line_taken)
  command_is_codec =
      choice-codec command_kind (spelled_parts command line) fits cases (
        through-codec (spelled_parts command line) (λ x. fits x × (command_kind x ≡ 0)) command command_fits below_taken Inner command_codec (λ c h. (h, refl)) (λ c h. refl) split_inner,
        (
          through-codec (spelled_parts command line) (λ x. fits x × (command_kind x ≡ 1)) spelled_session FitsSession session Opened session_is_codec (λ id h. (h, refl)) (λ id h. refl) split_opened,
          (
            through-codec (spelled_parts command line) (λ x. fits x × (command_kind x ≡ 2)) spelled_session FitsSession session Shut session_is_codec (λ id h. (h, refl)) (λ id h. refl) split_shut,
            (
              through-codec (spelled_parts command line) (λ x. fits x × (command_kind x ≡ 3)) _ _ (both (both (both session number) moment) line_taken) heard_of parts_codec (λ p h. (h, refl)) (λ p h. refl) split_heard,
              tt,
            ),
          ),
        ),
      )
      listed
