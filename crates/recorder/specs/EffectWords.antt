-- How effects are printed.
use Rattle.std.specs.Prelude.{ℕ, List, [], ◌∷◌, ◌++◌, take, flat_map, codes, decimal}
use Rattle.irc_line.specs.Lines.{Parts, spelling}
use Rattle.wire_bytes.specs.Texts.{origin_text}
use Rattle.wire_bytes.specs.declared.origin.Origin.{Origin}
use Rattle.buffer_commands.specs.declared.effect.Effect.{Effect}
use Rattle.buffer_commands.specs.declared.effect.Effect.TheVariants.{Close, Show, Send, Rejoin}
use Rattle.session_fence.specs.declared.effect.FenceEffect.{FenceEffect}
use Rattle.session_fence.specs.declared.effect.FenceEffect.TheVariants.{Inner as Fenced, Rejoin as RejoinOf}
use Rattle.upstream_claim.specs.declared.effect.ClaimsEffect.{ClaimsEffect}
use Rattle.upstream_claim.specs.declared.effect.ClaimsEffect.TheVariants.{Inner as Claimed, Busy, Hand}
use Rattle.request_once.specs.declared.answer.Answer.{Answer}
use Rattle.request_once.specs.declared.answer.Answer.TheVariants.{Effect as Passed, Done, Repeat, Gap, Marked}
use Rattle.irc_line.specs.Limits.{content_limit}

-- a word and an origin, a space between them
abbrev pub to_origin : List ℕ → Origin → List ℕ
to_origin word o = word ++ 32 ∷ origin_text o

-- how a line is printed: the first 510 bytes of its spelling
abbrev pub printed_line : List ℕ → List ℕ
printed_line spelled = take content_limit spelled

-- a channel that is joined again
abbrev pub rejoin_words : Parts → List ℕ
rejoin_words line = codes "rejoin " ++ printed_line (spelling line)

-- an effect of the buffers: `close`, `show` or `send` with the client's origin and its line, if any, or a rejoin
abbrev pub effect_words : Effect → List ℕ
effect_words (Close o) = to_origin (codes "close") o
effect_words (Show o shown) = to_origin (codes "show") o ++ 32 ∷ printed_line shown
effect_words (Send o line) = to_origin (codes "send") o ++ 32 ∷ printed_line (spelling line)
effect_words (Rejoin line) = rejoin_words line

-- Over the words of the effects below
module _ {E : Type 0} (inner : E → List ℕ) where
  -- an effect below, or a channel that is joined again; the session that joins it is not printed
  abbrev pub fence_words : FenceEffect E → List ℕ
  fence_words (Fenced e) = inner e
  fence_words (RejoinOf id line) = rejoin_words line

  -- an effect below, `busy` with the origin of a line that got no number, or `hand` with a line's number and the line
  abbrev pub claims_words : ClaimsEffect E → List ℕ
  claims_words (Claimed e) = inner e
  claims_words (Busy o) = to_origin (codes "busy") o
  claims_words (Hand id number line) = codes "hand " ++ decimal number ++ 32 ∷ printed_line (spelling line)

  -- an effect below, `done`, `repeat` or `gap` with a request's origin and a number, or `marked` with the mark's number
  abbrev pub answer_words : Answer E → List ℕ
  answer_words (Passed e) = inner e
  answer_words (Done o number) = to_origin (codes "done") o ++ 32 ∷ decimal number
  answer_words (Repeat o number) = to_origin (codes "repeat") o ++ 32 ∷ decimal number
  answer_words (Gap o number) = to_origin (codes "gap") o ++ 32 ∷ decimal number
  answer_words (Marked mark) = codes "marked " ++ decimal mark.number

  -- a line of output: the place of the body, the words of one of its answers, LF
  abbrev pub answer_line : ℕ → Answer E → List ℕ
  answer_line place a = decimal place ++ 32 ∷ answer_words a ++ 10 ∷ []

  -- the answers to the body at this place, a line each
  abbrev pub answer_lines : ℕ → List (Answer E) → List ℕ
  answer_lines place answers = flat_map (answer_line place) answers
