-- The limits of lines and names.
use Rattle.std.specs.Prelude.{ℕ}
use Rattle.irc_line.specs.declared.limits.TheConstants.{CONTENT_LIMIT, HELD_LIMIT, LINE_LIMIT, NAME_LIMIT, PARAMETER_LIMIT}

-- how many bytes a content has at most, without its CR LF
abbrev pub content_limit : ℕ
content_limit = CONTENT_LIMIT

-- how many bytes a line's canonical spelling has at most
abbrev pub line_limit : ℕ
line_limit = LINE_LIMIT

-- how many parameters a line has at most
abbrev pub parameter_limit : ℕ
parameter_limit = PARAMETER_LIMIT

-- how many bytes a name has at most
abbrev pub name_limit : ℕ
name_limit = NAME_LIMIT

-- how many bytes are held at most of a content that has not ended
abbrev pub held_limit : ℕ
held_limit = HELD_LIMIT
