-- What is judged to be a line is one, and which fault a content has.
use Rattle.std.proofs.Common.{◌≡◌, ℕ, Bool, true, false, ◌&&◌, List, [], ◌∷◌, ◌++◌, length, refl, ap, sym, subst, ◌∙◌, ◌≤◌, ◌<◌}
use Rattle.std.specs.Prelude.{if◌then◌else◌, Option, Some, None, Result, Ok, Err, nat_lt, nat_le, position, IsTrue}
use Rattle.irc_line.specs.Names.{is_content_byte}
use Rattle.irc_line.specs.Lines.{Parts, spelling, is_line, is_prefix, is_middle, is_upper_command, are_parameters}
use Rattle.irc_line.specs.Grammar.{AreContent, IsFirstBad, IsLine, IsMiddle, IsPrefix, IsTail, none, trailing, middle}
use Rattle.irc_line.specs.Reading.{read, judged, judged_parts, judged_bytes}
use Rattle.irc_line.specs.declared.fault.LineFault.{LineFault}
use Rattle.irc_line.specs.declared.fault.LineFault.TheVariants.{TooLong, NoCommand, BadByte, TooManyParameters}
use Rattle.irc_line.proofs.Grammar.{complete, sound}
use Rattle.irc_line.proofs.Booleans.{and_both, and_right}
use Rattle.irc_line.proofs.Words.{content_left, content_right, no_place, all_content, first_place, word_passes, middle_passes, command_passes, is_bad}
use Rattle.irc_line.proofs.Numbers.{ge_of, of_ge, of_lt, of_le}

-- what the grammar reads from content bytes is a line

prefix_passes : (first : List ℕ) (prefix : Option (List ℕ)) → IsPrefix first prefix → AreContent first → is_prefix prefix ≡ true
prefix_passes first None h k = refl
prefix_passes first (Some p) h k =
    let whole : AreContent (58 ∷ (p ++ 32 ∷ h.0)) = subst (λ t. AreContent t) h.3 k in
    word_passes p h.2 (content_left p (32 ∷ h.0) (and_right (is_content_byte 58) _ whole))

more_made : (word : List ℕ) (ps : List (List ℕ)) → IsMiddle word → AreContent word → are_parameters ps ≡ true → are_parameters (word ∷ ps) ≡ true
more_made word [] w k h = k
more_made word (y ∷ ps) w k h = and_both (is_middle word) _ (middle_passes word w k) h

parameters_pass : {s : List ℕ} {ps : List (List ℕ)} → IsTail s ps → AreContent s → are_parameters ps ≡ true
parameters_pass (none spaces h) k = refl
parameters_pass (trailing spaces text h) k = and_right (is_content_byte 58) _ (content_right spaces (58 ∷ text) (and_right (is_content_byte 32) _ k))
parameters_pass (middle spaces word rest ps h w t) k =
    let both : AreContent (word ++ rest) = content_right spaces (word ++ rest) (and_right (is_content_byte 32) _ k) in
    more_made word ps w (content_left word rest both) (parameters_pass t (content_right word rest both))

pub line_passes : (content : List ℕ) (p : Parts) → IsLine content p → AreContent content → length p.parameters ≤ 15 → IsTrue (is_line p)
unfolding is_line
line_passes content p h k few =
    let whole : AreContent (h.0 ++ (h.1 ++ (h.2 ++ h.3))) = subst (λ t. AreContent t) h.4 k in
    let from_first : AreContent (h.1 ++ (h.2 ++ h.3)) = content_right h.0 _ whole in
    let from_word : AreContent (h.2 ++ h.3) = content_right h.1 _ from_first in
    let prefix : is_prefix p.prefix ≡ true = prefix_passes h.1 p.prefix h.6 (content_left h.1 _ from_first) in
    let command : is_upper_command p.command ≡ true = subst (λ c. is_upper_command c ≡ true) (sym h.8) (command_passes h.2 h.7) in
    let parameters : are_parameters p.parameters ≡ true = parameters_pass h.9 (content_right h.2 h.3 from_word) in
    and_both (is_prefix p.prefix && is_upper_command p.command && nat_le (length p.parameters) 15) _ (and_both (is_prefix p.prefix && is_upper_command p.command) _ (and_both (is_prefix p.prefix) _ prefix command) (of_le (length p.parameters) 15 few)) parameters

-- What a judgement says

-- what holds of a content that is judged to be a line
pub record IsJudged (content : List ℕ) (p : Parts) : Type 0 where
  pub short : length content ≤ 511
  pub bytes : AreContent content
  pub is_read : read content ≡ Some p
  pub few : length p.parameters ≤ 15
  pub spelled_short : length (spelling p) ≤ 511

limits_by : (q p : Parts) (b c : Bool) → nat_lt 15 (length q.parameters) ≡ b → nat_lt 511 (length (spelling q)) ≡ c
    → (let r : Result Parts LineFault = if b then Err TooManyParameters else if c then Err TooLong else Ok q in r) ≡ Ok p
    → (let o : Option Parts = Some q in o ≡ Some p) × (length p.parameters ≤ 15) × (length (spelling p) ≤ 511)
limits_by q p true c e f h = cc
limits_by q p false true e f h = cc
limits_by q p false false e f h =
    let same : q ≡ p = cc in
    (ap Some same, subst (λ r. length r.parameters ≤ 15) same (ge_of 15 _ e), subst (λ r. length (spelling r) ≤ 511) same (ge_of 511 _ f))

parts_limits : (q : Option Parts) (p : Parts) → judged_parts q ≡ Ok p → (q ≡ Some p) × (length p.parameters ≤ 15) × (length (spelling p) ≤ 511)
parts_limits None p h = cc
parts_limits (Some q) p h = limits_by q p (nat_lt 15 (length q.parameters)) (nat_lt 511 (length (spelling q))) refl refl h

bytes_judged : (content : List ℕ) (p : Parts) (o : Option ℕ) → position is_bad content ≡ o → length content ≤ 511 → judged_bytes o content ≡ Ok p → IsJudged content p
bytes_judged content p None e l h =
    let limits = parts_limits (read content) p h in
    record { short = l; bytes = all_content content e; is_read = limits.0; few = limits.1; spelled_short = limits.2 }
bytes_judged content p (Some place) e l h = cc

length_judged : (content : List ℕ) (p : Parts) (b : Bool) → nat_lt 511 (length content) ≡ b
    → (if b then Err TooLong else judged_bytes (position is_bad content) content) ≡ Ok p → IsJudged content p
length_judged content p true e h = cc
length_judged content p false e h = bytes_judged content p (position is_bad content) refl (ge_of 511 _ e) h

pub judged_is : (content : List ℕ) (p : Parts) → judged content ≡ Ok p → IsJudged content p
unfolding judged
judged_is content p h = length_judged content p (nat_lt 511 (length content)) refl h

-- what is judged to be a line is a line
pub judged_line : (content : List ℕ) (p : Parts) → judged content ≡ Ok p → IsTrue (is_line p)
judged_line content p h =
    let j = judged_is content p h in
    line_passes content p (sound content p j.is_read) j.bytes j.few

-- The faults, in their order

pub judged_long : (content : List ℕ) → 511 < length content → judged content ≡ Err TooLong
unfolding judged
judged_long content h = rw (of_lt 511 (length content) h) refl

pub judged_bad : (content : List ℕ) (place : ℕ) → length content ≤ 511 → IsFirstBad content place → judged content ≡ Err (BadByte place)
unfolding judged
judged_bad content place l h = rw (of_ge 511 (length content) l, first_place content place h) refl

clean_judged : (content : List ℕ) → length content ≤ 511 → AreContent content → judged content ≡ judged_parts (read content)
unfolding judged
clean_judged content l k = rw (of_ge 511 (length content) l, no_place content k) refl

none_by : (content : List ℕ) (o : Option Parts) → read content ≡ o → ((p : Parts) → IsLine content p → ⊥) → judged_parts o ≡ Err NoCommand
none_by content None e n = refl
none_by content (Some p) e n = absurd (n p (sound content p e))

pub judged_none : (content : List ℕ) → length content ≤ 511 → AreContent content → ((p : Parts) → IsLine content p → ⊥) → judged content ≡ Err NoCommand
judged_none content l k n = clean_judged content l k ∙ none_by content (read content) refl n

parts_judged : (content : List ℕ) (p : Parts) → length content ≤ 511 → AreContent content → IsLine content p → judged content ≡ judged_parts (Some p)
parts_judged content p l k h = clean_judged content l k ∙ ap judged_parts (complete content p h)

pub judged_many : (content : List ℕ) (p : Parts) → length content ≤ 511 → AreContent content → IsLine content p → 15 < length p.parameters → judged content ≡ Err TooManyParameters
judged_many content p l k h m = rw (parts_judged content p l k h, of_lt 15 (length p.parameters) m) refl

pub judged_spelled_long : (content : List ℕ) (p : Parts) → length content ≤ 511 → AreContent content → IsLine content p → length p.parameters ≤ 15 → 511 < length (spelling p)
    → judged content ≡ Err TooLong
judged_spelled_long content p l k h m s = rw (parts_judged content p l k h, of_ge 15 (length p.parameters) m, of_lt 511 (length (spelling p)) s) refl

pub judged_ok : (content : List ℕ) (p : Parts) → length content ≤ 511 → AreContent content → IsLine content p → length p.parameters ≤ 15 → length (spelling p) ≤ 511
    → judged content ≡ Ok p
judged_ok content p l k h m s = rw (parts_judged content p l k h, of_ge 15 (length p.parameters) m, of_ge 511 (length (spelling p)) s) refl
