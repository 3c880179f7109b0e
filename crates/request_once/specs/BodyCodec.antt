-- Bodies are a codec where the commands below and the actions are. These are lemmas; nothing here has to be trusted.
use Rattle.std.proofs.Common.{◌≡◌, ℕ, List, [], ◌∷◌, ◌++◌, IsTrue, refl, arith}
use Rattle.std.specs.Prelude.{is_some}
use Rattle.wire_bytes.specs.Fields.{Reading, done, through, both, reading_of}
use Rattle.wire_bytes.specs.Codecs.{IsCodec, through-codec, both-codec, done-codec}
use Rattle.wire_bytes.specs.ChoiceCodec.{choice-codec}
use Rattle.wire_bytes.specs.Values.{spelled_origin, spelled_number, spelled_mark, FitsOrigin, FitsNumber, FitsMoment, FitsMark, origin, number, moment, mark_taken}
use Rattle.wire_bytes.specs.ValueCodecs.{origin_is_codec, number_is_codec, moment_is_codec, mark_is_codec}
use Rattle.wire_bytes.specs.declared.mark.Mark as mark
use Rattle.wire_bytes.specs.declared.origin.Origin.{Origin}
use Rattle.request_once.specs.declared.body.Body.{Body}
use Rattle.request_once.specs.declared.body.Body.TheVariants.{Inner, Asked, Blank, Mark}
use Rattle.request_once.specs.Spelling.{body_kind, spelled_parts, spelled_body, FitsBody, asked_of, asked_taken, marking_taken, body_taken}

module _ {C A : Type 0} (command : C → List ℕ) (command_fits : C → Type 0) (command_taken : Reading C) (action : A → List ℕ) (action_fits : A → Type 0) (action_taken : Reading A)
    (command_codec : IsCodec command command_fits command_taken) (action_codec : IsCodec action action_fits action_taken) where
  abbrev fits : Body C A → Type 0
  fits body = FitsBody command_fits action_fits body

  parts_codec : IsCodec (λ (p : ((Origin × ℕ) × ℕ) × A). ((spelled_origin p.0.0.0 ++ spelled_number p.0.0.1) ++ spelled_number p.0.1) ++ action p.1) (λ p. ((FitsOrigin p.0.0.0 × FitsNumber p.0.0.1) × FitsMoment p.0.1) × action_fits p.1) (both (both (both origin number) moment) action_taken)
  parts_codec =
      both-codec (λ (p : (Origin × ℕ) × ℕ). (spelled_origin p.0.0 ++ spelled_number p.0.1) ++ spelled_number p.1) (λ p. (FitsOrigin p.0.0 × FitsNumber p.0.1) × FitsMoment p.1) (both (both origin number) moment) action action_fits action_taken
      (both-codec (λ (p : Origin × ℕ). spelled_origin p.0 ++ spelled_number p.1) (λ p. FitsOrigin p.0 × FitsNumber p.1) (both origin number) spelled_number FitsMoment moment
      (both-codec spelled_origin FitsOrigin origin spelled_number FitsNumber number origin_is_codec number_is_codec)
      moment_is_codec)
      action_codec

  split_inner : (body : Body C A) → fits body × (body_kind body ≡ 0) → (c : C) × command_fits c × (Inner c ≡ body)
  split_inner (Inner c) h = (c, h.0, refl)
  split_inner (Asked o n at a) h = absurd (omega arith)
  split_inner Blank h = absurd (omega arith)
  split_inner (Mark m) h = absurd (omega arith)

  split_asked : (body : Body C A) → fits body × (body_kind body ≡ 1) → (p : ((Origin × ℕ) × ℕ) × A) × (((FitsOrigin p.0.0.0 × FitsNumber p.0.0.1) × FitsMoment p.0.1) × action_fits p.1) × (asked_of p ≡ body)
  split_asked (Inner c) h = absurd (omega arith)
  split_asked (Asked o n at a) h = ((((o, n), at), a), h.0, refl)
  split_asked Blank h = absurd (omega arith)
  split_asked (Mark m) h = absurd (omega arith)

  split_blank : (body : Body C A) → fits body × (body_kind body ≡ 2) → Blank ≡ body
  split_blank (Inner c) h = absurd (omega arith)
  split_blank (Asked o n at a) h = absurd (omega arith)
  split_blank Blank h = refl
  split_blank (Mark m) h = absurd (omega arith)

  split_mark : (body : Body C A) → fits body × (body_kind body ≡ 3) → (m : mark.Mark) × FitsMark m × (Mark m ≡ body)
  split_mark (Inner c) h = absurd (omega arith)
  split_mark (Asked o n at a) h = absurd (omega arith)
  split_mark Blank h = absurd (omega arith)
  split_mark (Mark m) h = (m, h.0, refl)

  -- what may follow each kind byte
  abbrev cases : List (ℕ × Reading (Body C A))
  cases = (0, through Inner command_taken) ∷ (1, asked_taken action_taken) ∷ (2, done Blank) ∷ (3, marking_taken) ∷ []

  listed : (body : Body C A) → fits body → IsTrue (is_some (reading_of (body_kind body) cases))
  listed (Inner c) h = refl
  listed (Asked o n at a) h = refl
  listed Blank h = refl
  listed (Mark m) h = refl

  pub body_is_codec : IsCodec (spelled_body command action) (FitsBody command_fits action_fits) (body_taken command_taken action_taken)
  body_is_codec =
      choice-codec body_kind (spelled_parts command action) fits cases (
        through-codec (spelled_parts command action) (λ body. fits body × (body_kind body ≡ 0)) command command_fits command_taken Inner command_codec (λ c h. (h, refl)) (λ c h. refl) split_inner,
        (
          through-codec (spelled_parts command action) (λ body. fits body × (body_kind body ≡ 1)) _ _ (both (both (both origin number) moment) action_taken) asked_of parts_codec (λ p h. (h, refl)) (λ p h. refl) split_asked,
          (
            done-codec (spelled_parts command action) (λ body. fits body × (body_kind body ≡ 2)) Blank (tt, refl) refl split_blank,
            (
              through-codec (spelled_parts command action) (λ body. fits body × (body_kind body ≡ 3)) spelled_mark FitsMark mark_taken Mark mark_is_codec (λ m h. (h, refl)) (λ m h. refl) split_mark,
              tt,
            ),
          ),
        ),
      )
      listed
