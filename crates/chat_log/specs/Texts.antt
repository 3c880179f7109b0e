-- How one line is printed.
use Rattle.std.specs.Prelude.{ℕ, Bool, ◌&&◌, if◌then◌else◌, ◌==◌, List, [], ◌∷◌, ◌++◌, drop, flat_map, length, is_some, codes}
use Rattle.irc_line.specs.Names.{action_mark, begins_with}
use Rattle.irc_line.specs.Lines.{Parts, parameter, spelling}
use Rattle.buffer_machine.specs.Messages.{has_command, is_message, source}
use Rattle.chat_log.specs.Controls.{printed}
use Rattle.chat_log.specs.Moments.{stamp}

-- one byte 1 at the end is dropped
abbrev pub without_mark : List ℕ → List ℕ
without_mark [] = []
without_mark (b ∷ []) = if b == 1 then [] else b ∷ []
without_mark (b ∷ c ∷ s) = b ∷ without_mark (c ∷ s)

-- a message with a source, a target and a text
abbrev pub is_speech : Parts → Bool
is_speech line = is_some line.prefix && is_message line && length line.parameters == 2

-- a NOTICE as `-alice- hi`
abbrev pub noticed : Parts → List ℕ
noticed line = 45 ∷ (source line ++ 45 ∷ 32 ∷ parameter 1 line)

-- an ACTION as `* alice waves`
abbrev pub acted : Parts → List ℕ
acted line = 42 ∷ 32 ∷ (source line ++ 32 ∷ without_mark (drop 8 (parameter 1 line)))

-- any other message as `<alice> hi`
abbrev pub said : Parts → List ℕ
said line = 60 ∷ (source line ++ 62 ∷ 32 ∷ parameter 1 line)

-- who says what
abbrev pub speech : Parts → List ℕ
speech line =
    if has_command (codes "NOTICE") line
    then noticed line
    else
    if begins_with (parameter 1 line) action_mark then acted line else said line

-- a message as its target and who says what; any other line as its canonical spelling
abbrev pub content : Parts → List ℕ
content line = if is_speech line then parameter 0 line ++ 32 ∷ speech line else spelling line

-- a line at a moment, as a line of text
unfoldable pub line_text : ℕ → Parts → List ℕ
line_text at line = stamp at ++ (printed (content line) ++ 10 ∷ [])

-- lines at their moments, as text
abbrev pub text_of : List (ℕ × Parts) → List ℕ
text_of lines = flat_map (λ k. line_text k.0 k.1) lines
