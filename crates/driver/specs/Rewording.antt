-- What a client hears when the server ends the bouncer's session. The server says so by a line to the bouncer, which a
-- client's program would take as meant for itself, and hang up.
use Rattle.std.specs.Prelude.{◌≡◌, ℕ, ◌-◌, Bool, ◌&&◌, ◌||◌, ◌==◌, if◌then◌else◌, nat_eq, codes, length, IsTrue, List, [], ◌∷◌, ◌++◌, Option, Some, None}
use Rattle.std.specs.List.{starts_with}
use Rattle.bouncer_tower.specs.Hosting.{class_of}
use Rattle.irc_line.specs.Lines.{Parts, is_line, message, parameter, spelling}
use Rattle.irc_line.specs.Names.{same_name}
use Rattle.irc_line.specs.Reading.{IsShort, canonical, judged}
use Rattle.buffer_commands.specs.declared.effect.Effect.TheVariants.{Show}
use Rattle.buffer_machine.specs.Messages.{has_command, source}
use Rattle.client_gate.specs.declared.settings.Settings.{Settings}
use Rattle.client_gate.specs.Gates.{Gate, GateEffect, after_effect}
use Rattle.request_once.specs.declared.answer.Answer.TheVariants as answer
use Rattle.session_fence.specs.declared.effect.FenceEffect.TheVariants as fence
use Rattle.upstream_claim.specs.declared.effect.ClaimsEffect.TheVariants as claims
use Rattle.driver.specs.Nicks.{notice}
use Rattle.driver.specs.Parameters.{last_parameter, nick_or_server}
use Rattle.driver.specs.Opening.{behind_space}

-- a text after a colon, if it is not empty
abbrev pub behind_colon : List ℕ → List ℕ
behind_colon [] = []
behind_colon (byte ∷ text) = codes ": " ++ byte ∷ text

-- the KILL of the user with this nick
abbrev pub is_kill : List ℕ → Parts → Bool
is_kill nick line = has_command (codes "KILL") line && same_name nick (parameter 0 line)

-- what a client gets when the server ends the session by this line: its last words, or who killed the nick, and why
abbrev pub ending_of : List ℕ → Parts → Option (List ℕ)
ending_of nick line =
    if has_command (codes "ERROR") line
    then Some (codes "The server ends the session" ++ behind_colon (last_parameter line))
    else
    if is_kill nick line
    then Some (codes "The server ends the session: killed by " ++ nick_or_server (source line) ++ behind_colon (parameter 1 line))
    else None

-- by the line that was read, if one was
abbrev pub ending_in : List ℕ → Option Parts → Option (List ℕ)
ending_in nick None = None
ending_in nick (Some line) = ending_of nick line

-- the part of a line after its prefix
abbrev pub unprefixed : List ℕ → List ℕ
unprefixed [] = []
unprefixed (byte ∷ line) = if byte == 58 then behind_space line else byte ∷ line

-- the start of a line's command allows it to be such a line
abbrev pub may_end : List ℕ → Bool
may_end shown = starts_with nat_eq (unprefixed shown) (codes "ERROR") || starts_with nat_eq (unprefixed shown) (codes "KILL")

-- the bytes of a NOTICE of `*status` with a text for this nick
abbrev pub noticed : List ℕ → List ℕ → List ℕ
noticed nick text = spelling (message (Some (codes "*status!bouncer@local")) (codes "NOTICE") nick text)

-- the NOTICE of a text, if there is one, in place of what was shown
abbrev pub told_instead : Option (List ℕ) → List ℕ → List ℕ → List ℕ
told_instead None nick shown = shown
told_instead (Some text) nick shown = noticed nick text

-- what a client of this nick hears of what is shown: a NOTICE instead of a line by which the server ends the session,
-- else what is shown
abbrev pub worded : List ℕ → List ℕ → List ℕ
worded nick shown = told_instead (ending_in nick (canonical shown (judged shown))) nick shown

-- an effect as a client of this nick hears it
abbrev pub reworded : List ℕ → GateEffect → GateEffect
reworded nick (answer.Effect (claims.Inner (fence.Inner (Show origin shown)))) =
    answer.Effect (claims.Inner (fence.Inner (Show origin (worded nick shown))))
reworded nick other = other

-- Whatever line the server says: one by which it ends the session becomes a NOTICE in its place, any other is shown as
-- it came. The NOTICE has the form of those of `*status`. Where an effect goes, and what it makes of a gate, stays the
-- same.
pub record RewordsEndings : Type 0 where
  pub lines :
      (nick : List ℕ) (line : Parts) → IsTrue (is_line line) → IsShort line
      → worded nick (spelling line) ≡ told_instead (ending_of nick line) nick (spelling line)
  pub notices : (nick text : List ℕ) → noticed nick text ++ 13 ∷ 10 ∷ [] ≡ notice nick text
  pub goes : (nick : List ℕ) (effect : GateEffect) → class_of (reworded nick effect) ≡ class_of effect
  pub counts : (s : Settings) (g : Gate) (nick : List ℕ) (effect : GateEffect) → after_effect s g (reworded nick effect) ≡ after_effect s g effect
