-- How a content is read from its front, and which fault it has.
use Rattle.std.specs.Prelude.{◌≡◌, ◌<◌, ◌≤◌, ℕ, Bool, true, false, not, if◌then◌else◌, ◌==◌, nat_lt, List, [], ◌∷◌, length, Option, Some, None, Result, Ok, Err, map, position}
use Rattle.irc_line.specs.Names.{is_content_byte, same_bytes}
use Rattle.irc_line.specs.Lines.{Parts, spelling}
use Rattle.irc_line.specs.Grammar.{AreContent, IsLine, is_space, is_command, upper}
use Rattle.irc_line.specs.declared.fault.LineFault.{LineFault}
use Rattle.irc_line.specs.declared.fault.LineFault.TheVariants.{TooLong, NoCommand, BadByte, TooManyParameters}
use Rattle.irc_line.specs.Limits.{line_limit, parameter_limit}

-- the bytes after the first spaces
abbrev pub skip_spaces : List ℕ → List ℕ
skip_spaces [] = []
skip_spaces (b ∷ s) = if is_space b then skip_spaces s else b ∷ s

-- the bytes before the first space
abbrev pub word_of : List ℕ → List ℕ
word_of [] = []
word_of (b ∷ s) = if is_space b then [] else b ∷ word_of s

-- the bytes from the first space on
abbrev pub behind_word : List ℕ → List ℕ
behind_word [] = []
behind_word (b ∷ s) = if is_space b then b ∷ s else behind_word s

-- the parameters that follow, where the first argument says whether this is still within a word
abbrev pub parameters_from : Bool → List ℕ → List (List ℕ)
parameters_from b [] = []
parameters_from true (x ∷ s) = if is_space x then parameters_from false s else parameters_from true s
parameters_from false (x ∷ s) =
    if is_space x then parameters_from false s else if x == 58 then s ∷ [] else (x ∷ word_of s) ∷ parameters_from true s

-- the parameters of what follows a command
abbrev pub parameters_of : List ℕ → List (List ℕ)
parameters_of s = parameters_from false s

-- these are the first parameter of a text and what follows it, which is shorter
pub record IsFirstParameter (text first behind : List ℕ) : Type 0 where
  pub whole : parameters_of text ≡ first ∷ parameters_of behind
  pub shorter : length behind < length text

-- the parts of a prefix, of a command in any letters and of what follows it
abbrev pub drafted : Option (List ℕ) → List ℕ → List ℕ → Parts
drafted prefix word tail = record { prefix = prefix; command = map upper word; parameters = parameters_of tail }

-- the parts of what follows a prefix, where it begins with a command
abbrev pub read_command : Option (List ℕ) → List ℕ → Option Parts
read_command prefix s = if is_command (word_of s) then Some (drafted prefix (word_of s) (behind_word s)) else None

-- the parts of what does not begin with a space
abbrev pub read_prefix : List ℕ → Option Parts
read_prefix [] = None
read_prefix (b ∷ s) =
    if b == 58
    then (if length (word_of s) == 0 then None else read_command (Some (word_of s)) (skip_spaces (behind_word s)))
    else read_command None (b ∷ s)

-- the parts of a content, or none
unfoldable pub read : List ℕ → Option Parts
read content = read_prefix (skip_spaces content)

-- what was read, within its limits
abbrev pub judged_parts : Option Parts → Result Parts LineFault
judged_parts None = Err NoCommand
judged_parts (Some p) =
    if nat_lt parameter_limit (length p.parameters) then Err TooManyParameters else if nat_lt line_limit (length (spelling p)) then Err TooLong else Ok p

-- the first argument is the place of the first byte that no content may hold
abbrev pub judged_bytes : Option ℕ → List ℕ → Result Parts LineFault
judged_bytes None content = judged_parts (read content)
judged_bytes (Some place) content = Err (BadByte place)

-- the parts of a content, or its first fault
unfoldable pub judged : List ℕ → Result Parts LineFault
judged content = if nat_lt line_limit (length content) then Err TooLong else judged_bytes (position (λ b. not (is_content_byte b)) content) content

-- what was read of these bytes, where they are its canonical spelling
abbrev pub canonical : List ℕ → Result Parts LineFault → Option Parts
canonical bytes (Ok p) = if same_bytes (spelling p) bytes then Some p else None
canonical bytes (Err e) = None

-- a content's first fault
abbrev pub HasFault : List ℕ → LineFault → Type 0
HasFault content fault = judged content ≡ Err fault

-- a content's line
abbrev pub HasLine : List ℕ → Parts → Type 0
HasLine content p = judged content ≡ Ok p

-- at most 511 bytes, none of them NUL, CR or LF
abbrev pub IsClean : List ℕ → Type 0
IsClean content = (length content ≤ line_limit) × AreContent content

-- a clean content that the grammar reads as these parts
abbrev pub Says : List ℕ → Parts → Type 0
Says content p = IsClean content × IsLine content p

-- a content that the grammar does not read
abbrev pub SaysNothing : List ℕ → Type 0
SaysNothing content = (p : Parts) → ¬ IsLine content p

-- a line's 15 parameters at most
abbrev pub HasFew : Parts → Type 0
HasFew p = length p.parameters ≤ parameter_limit

-- a canonical spelling of at most 511 bytes
abbrev pub IsShort : Parts → Type 0
IsShort p = length (spelling p) ≤ line_limit
