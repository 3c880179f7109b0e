-- Lines by which the server ends the session, by their encoding, and what rewording leaves unchanged.
use Rattle.std.proofs.Common.{◌≡◌, ◌∙◌, ℕ, Bool, true, false, ◌&&◌, ◌||◌, List, [], ◌∷◌, ◌++◌, Option, Some, None, length, refl, sym, ap}
use Rattle.std.specs.Prelude.{◌==◌, IsTrue, Result, Ok, Err, codes, if◌then◌else◌, nat_eq, nat_lt}
use Rattle.std.specs.List.{list_all, starts_with}
use Rattle.std.proofs.Math.Bool.{or-true}
use Rattle.std.proofs.lemmas.List.{append_assoc}
use Rattle.buffer_commands.specs.declared.effect.Effect.TheVariants as effect
use Rattle.buffer_machine.specs.Messages.{has_command}
use Rattle.bouncer_tower.specs.Hosting.{class_of}
use Rattle.client_gate.specs.declared.settings.Settings.{Settings}
use Rattle.client_gate.specs.Gates.{Gate, GateEffect, after_effect}
use Rattle.irc_line.specs.declared.fault.LineFault.{LineFault}
use Rattle.irc_line.specs.Lines.{Parts, is_line, is_prefix, is_word_byte, spelled_parameters, spelled_prefix, spelling}
use Rattle.irc_line.specs.Names.{is_content_byte, same_bytes}
use Rattle.irc_line.specs.Reading.{IsShort, canonical, judged}
use Rattle.irc_line.proofs.Booleans.{and_left, and_right, false_of, not_true}
use Rattle.irc_line.proofs.Building.{line_facts}
use Rattle.irc_line.proofs.Canonical.{spelling_judged}
use Rattle.irc_line.proofs.Judging.{judged_line}
use Rattle.irc_line.proofs.SameBytes.{same_bytes-eq, same_bytes-refl}
use Rattle.request_once.specs.declared.answer.Answer.TheVariants as answer
use Rattle.session_fence.specs.declared.effect.FenceEffect.TheVariants as fence
use Rattle.upstream_claim.specs.declared.effect.ClaimsEffect.TheVariants as claims
use Rattle.driver.specs.Nicks.{notice}
use Rattle.driver.specs.Opening.{behind_space}
use Rattle.driver.specs.Rewording.{RewordsEndings, ending_in, may_end, noticed, reworded, told_instead, unprefixed, worded}

-- the part after a word and a space
behind_word : (word command rest : List ℕ) → list_all is_word_byte word ≡ true → behind_space (((word ++ 32 ∷ []) ++ command) ++ rest) ≡ command ++ rest
behind_word [] command rest is = refl
behind_word (x ∷ word) command rest is =
    rw (not_true (x == 32) (and_right (is_content_byte x) _ (and_left (is_word_byte x) _ is)))
    (behind_word word command rest (and_right (is_word_byte x) _ is))

-- the part after an encoded prefix
unprefixed_is : (prefix : Option (List ℕ)) (x : ℕ) (command rest : List ℕ) → is_prefix prefix ≡ true → (x == 58) ≡ false → unprefixed ((spelled_prefix prefix ++ x ∷ command) ++ rest) ≡ x ∷ (command ++ rest)
unprefixed_is None x command rest is other = rw other refl
unprefixed_is (Some word) x command rest is other = behind_word word (x ∷ command) rest (and_right (nat_lt 0 (length word)) _ is)

abbrev begins : List ℕ → Bool
begins bytes = starts_with nat_eq bytes (codes "ERROR") || starts_with nat_eq bytes (codes "KILL")

error_may : (line : Parts) → IsTrue (is_line line) → has_command (codes "ERROR") line ≡ true → may_end (spelling line) ≡ true
unfolding spelling
error_may line ok is =
    let rest = spelled_parameters line.command line.parameters in
    let command : line.command ≡ codes "ERROR" = same_bytes-eq line.command (codes "ERROR") is in
    let whole : unprefixed ((spelled_prefix line.prefix ++ line.command) ++ rest) ≡ codes "ERROR" ++ rest =
    ap (λ (command : List ℕ). unprefixed ((spelled_prefix line.prefix ++ command) ++ rest)) command
    ∙ unprefixed_is line.prefix 69 (codes "RROR") rest (line_facts line ok).prefix refl
    in
    ap begins whole

kill_may : (line : Parts) → IsTrue (is_line line) → has_command (codes "KILL") line ≡ true → may_end (spelling line) ≡ true
unfolding spelling
kill_may line ok is =
    let rest = spelled_parameters line.command line.parameters in
    let command : line.command ≡ codes "KILL" = same_bytes-eq line.command (codes "KILL") is in
    let whole : unprefixed ((spelled_prefix line.prefix ++ line.command) ++ rest) ≡ codes "KILL" ++ rest =
    ap (λ (command : List ℕ). unprefixed ((spelled_prefix line.prefix ++ command) ++ rest)) command
    ∙ unprefixed_is line.prefix 75 (codes "ILL") rest (line_facts line ok).prefix refl
    in
    ap begins whole

neither : (error kill own : Bool) (first second : List ℕ) → error ≡ false → kill ≡ false → (if error then Some first else if kill && own then Some second else None) ≡ None
neither true kill own first second e k = absurd (cc e)
neither false true own first second e k = absurd (cc k)
neither false false own first second e k = refl

ends_none : (nick shown : List ℕ) (line : Parts) (same : Bool) → same_bytes (spelling line) shown ≡ same → IsTrue (is_line line) → may_end shown ≡ false → ending_in nick (if same then Some line else None) ≡ None
ends_none nick shown line false is ok other = refl
ends_none nick shown line true is ok other =
    let none : may_end (spelling line) ≡ false = ap may_end (same_bytes-eq (spelling line) shown is) ∙ other in
    neither (has_command (codes "ERROR") line) (has_command (codes "KILL") line) _ _ _
    (false_of _ (λ error. sym none ∙ error_may line ok error))
    (false_of _ (λ kill. sym none ∙ kill_may line ok kill))

judged_none : (nick shown : List ℕ) (judgement : Result Parts LineFault) → judged shown ≡ judgement → may_end shown ≡ false → ending_in nick (canonical shown judgement) ≡ None
judged_none nick shown (Err fault) is other = refl
judged_none nick shown (Ok line) is other = ends_none nick shown line (same_bytes (spelling line) shown) refl (judged_line shown line is) other

-- an encoded line that begins with neither command ends no session
pub ends_nothing : (nick shown : List ℕ) → may_end shown ≡ false → ending_in nick (canonical shown (judged shown)) ≡ None
ends_nothing nick shown other = judged_none nick shown (judged shown) refl other

-- What is reworded

line_worded : (nick : List ℕ) (line : Parts) → IsTrue (is_line line) → IsShort line → worded nick (spelling line) ≡ told_instead (ending_in nick (Some line)) nick (spelling line)
line_worded nick line ok short =
    let shown = spelling line in
    ap (λ (judgement : Result Parts LineFault). told_instead (ending_in nick (canonical shown judgement)) nick shown) (spelling_judged line ok short)
    ∙ ap (λ (same : Bool). told_instead (ending_in nick (if same then Some line else None)) nick shown) (same_bytes-refl shown)

notice_spelled : (nick text : List ℕ) → noticed nick text ++ 13 ∷ 10 ∷ [] ≡ notice nick text
unfolding spelling
notice_spelled nick text =
    rw (or-true _) (ap (λ (rest : List ℕ). codes ":*status!bouncer@local NOTICE " ++ rest ++ 13 ∷ 10 ∷ []) (sym (append_assoc nick (32 ∷ 58 ∷ []) text)))

class_same : (nick : List ℕ) (effect : GateEffect) → class_of (reworded nick effect) ≡ class_of effect
class_same nick (answer.Effect (claims.Inner (fence.Inner (effect.Show origin shown)))) = refl
class_same nick (answer.Effect (claims.Inner (fence.Inner (effect.Close origin)))) = refl
class_same nick (answer.Effect (claims.Inner (fence.Inner (effect.Send origin line)))) = refl
class_same nick (answer.Effect (claims.Inner (fence.Inner (effect.Rejoin line)))) = refl
class_same nick (answer.Effect (claims.Inner (fence.Rejoin session line))) = refl
class_same nick (answer.Effect (claims.Busy origin)) = refl
class_same nick (answer.Effect (claims.Hand session number line)) = refl
class_same nick (answer.Done origin number) = refl
class_same nick (answer.Gap origin number) = refl
class_same nick (answer.Repeat origin number) = refl
class_same nick (answer.Marked mark) = refl

counts_same : (s : Settings) (g : Gate) (nick : List ℕ) (effect : GateEffect) → after_effect s g (reworded nick effect) ≡ after_effect s g effect
counts_same s g nick (answer.Effect (claims.Inner (fence.Inner (effect.Show origin shown)))) = refl
counts_same s g nick (answer.Effect (claims.Inner (fence.Inner (effect.Close origin)))) = refl
counts_same s g nick (answer.Effect (claims.Inner (fence.Inner (effect.Send origin line)))) = refl
counts_same s g nick (answer.Effect (claims.Inner (fence.Inner (effect.Rejoin line)))) = refl
counts_same s g nick (answer.Effect (claims.Inner (fence.Rejoin session line))) = refl
counts_same s g nick (answer.Effect (claims.Busy origin)) = refl
counts_same s g nick (answer.Effect (claims.Hand session number line)) = refl
counts_same s g nick (answer.Done origin number) = refl
counts_same s g nick (answer.Gap origin number) = refl
counts_same s g nick (answer.Repeat origin number) = refl
counts_same s g nick (answer.Marked mark) = refl

pub rewords_endings : RewordsEndings
rewords_endings = record {
  lines = line_worded;
  notices = notice_spelled;
  goes = class_same;
  counts = counts_same;
}
