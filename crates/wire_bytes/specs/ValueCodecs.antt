-- The small values are codecs. These are lemmas; nothing here has to be trusted.
use Rattle.std.proofs.Common.{ℕ, ◌^◌, ◌≤◌, ◌∷◌, [], ◌++◌, refl, arith}
use Rattle.std.specs.Int.{w64}
use Rattle.wire_bytes.specs.Fields.{byte_within, both}
use Rattle.wire_bytes.specs.Limits.{number_limit, second_limit}
use Rattle.wire_bytes.specs.Values.{FitsNumber, number, FitsMoment, moment, spelled_number, FitsOrigin, spelled_origin, origin, mark_of, FitsMark, spelled_mark, mark_taken, FitsSession, spelled_session, session}
use Rattle.wire_bytes.specs.Codecs.{IsCodec, through-codec, both-codec}
use Rattle.wire_bytes.specs.FieldCodecs.{byte-codec, number-codec, wide64}

pub number_is_codec : IsCodec spelled_number FitsNumber number
unfolding number spelled_number
number_is_codec = number-codec w64 (2 ^ 64) number_limit wide64 (omega arith)

pub moment_is_codec : IsCodec spelled_number FitsMoment moment
unfolding moment spelled_number
moment_is_codec = number-codec w64 (2 ^ 64) second_limit wide64 (omega arith)

pub session_is_codec : IsCodec spelled_session FitsSession session
unfolding session spelled_session
session_is_codec = both-codec spelled_number FitsNumber number spelled_number FitsNumber number number_is_codec number_is_codec

-- a byte between these limits and two numbers, as they are read
parts_codec : (least most : ℕ) → IsCodec (λ (p : ℕ × (ℕ × ℕ)). (p.0 ∷ []) ++ (spelled_number p.1.0 ++ spelled_number p.1.1)) (λ p. ((least ≤ p.0) × (p.0 ≤ most)) × (FitsNumber p.1.0 × FitsNumber p.1.1)) (both (byte_within least most) (both number number))
parts_codec least most =
    both-codec (λ (n : ℕ). n ∷ []) (λ n. (least ≤ n) × (n ≤ most)) (byte_within least most) (λ (p : ℕ × ℕ). spelled_number p.0 ++ spelled_number p.1) (λ p. FitsNumber p.0 × FitsNumber p.1) (both number number)
    (byte-codec least most) (both-codec spelled_number FitsNumber number spelled_number FitsNumber number number_is_codec number_is_codec)

pub origin_is_codec : IsCodec spelled_origin FitsOrigin origin
unfolding origin spelled_origin
origin_is_codec =
    through-codec spelled_origin FitsOrigin _ _ (both (byte_within 1 7) (both number number)) (λ p. (p.0, p.1.0, p.1.1)) (parts_codec 1 7)
    (λ p h. (h.0.0, h.0.1, h.1.0, h.1.1)) (λ p h. refl) (λ o h. ((o.0, (o.1, o.2)), ((h.0, h.1), (h.2, h.3)), refl))

pub mark_is_codec : IsCodec spelled_mark FitsMark mark_taken
unfolding mark_taken spelled_mark
mark_is_codec =
    through-codec spelled_mark FitsMark _ _ (both (byte_within 0 255) (both number number)) mark_of (parts_codec 0 255)
    (λ p h. (h.0.1, h.1.0, h.1.1)) (λ p h. refl) (λ m h. ((m.node, (m.boot, m.number)), ((omega arith, h.0), (h.1, h.2)), refl))
