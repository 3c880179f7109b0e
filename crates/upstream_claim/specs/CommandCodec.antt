-- Commands are a codec where the commands below are. These are lemmas; nothing here has to be
-- trusted.
use Rattle.std.proofs.Common.{◌≡◌, ℕ, List, [], ◌∷◌, IsTrue, refl, arith}
use Rattle.std.specs.Prelude.{is_some}
use Rattle.wire_bytes.specs.Fields.{Reading, through, both, reading_of}
use Rattle.wire_bytes.specs.Codecs.{IsCodec, through-codec, both-codec}
use Rattle.wire_bytes.specs.ChoiceCodec.{choice-codec}
use Rattle.wire_bytes.specs.Values.{spelled_session, spelled_number, FitsSession, FitsNumber, session, number}
use Rattle.wire_bytes.specs.ValueCodecs.{session_is_codec, number_is_codec}
use Rattle.wire_bytes.specs.declared.session_id.SessionId.{SessionId}
use Rattle.upstream_claim.specs.declared.command.ClaimsCommand.{ClaimsCommand}
use Rattle.upstream_claim.specs.declared.command.ClaimsCommand.TheVariants.{Inner, Claim}
use Rattle.upstream_claim.specs.Spelling.{command_kind, spelled_parts, spelled_command, FitsCommand, claim_of, claim_taken, command_taken}

module _ {C : Type 0} (command : C → List ℕ) (command_fits : C → Type 0) (below_taken : Reading C) (command_codec : IsCodec command command_fits below_taken) where
  abbrev fits : ClaimsCommand C → Type 0
  fits x = FitsCommand command_fits x

  split_inner : (x : ClaimsCommand C) → fits x × (command_kind x ≡ 0) → (c : C) × command_fits c × (Inner c ≡ x)
  split_inner (Inner c) h = (c, h.0, refl)
  split_inner (Claim id n) h = absurd (omega arith)

  split_claim : (x : ClaimsCommand C) → fits x × (command_kind x ≡ 1) → (p : SessionId × ℕ) × (FitsSession p.0 × FitsNumber p.1) × (claim_of p ≡ x)
  split_claim (Inner c) h = absurd (omega arith)
  split_claim (Claim id n) h = ((id, n), h.0, refl)

  abbrev cases : List (ℕ × Reading (ClaimsCommand C))
  cases = (0, through Inner below_taken) ∷ (1, claim_taken) ∷ []

  listed : (x : ClaimsCommand C) → fits x → IsTrue (is_some (reading_of (command_kind x) cases))
  listed (Inner c) h = refl
  listed (Claim id n) h = refl

  pub command_is_codec : IsCodec (spelled_command command) (FitsCommand command_fits) (command_taken below_taken)
  command_is_codec =
      choice-codec command_kind (spelled_parts command) fits cases (
        through-codec (spelled_parts command) (λ x. fits x × (command_kind x ≡ 0)) command command_fits below_taken Inner command_codec (λ c h. (h, refl)) (λ c h. refl) split_inner,
        (
          through-codec (spelled_parts command) (λ x. fits x × (command_kind x ≡ 1)) _ _ (both session number) claim_of
              (both-codec spelled_session FitsSession session spelled_number FitsNumber number session_is_codec number_is_codec) (λ p h. (h, refl)) (λ p h. refl) split_claim,
          tt,
        ),
      )
      listed
