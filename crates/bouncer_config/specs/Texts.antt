-- The texts of a configuration: passwords, addresses, paths and the log's levels.
use Rattle.std.specs.Prelude.{codes, false, ℕ, ◌+◌, ◌-◌, ◌*◌, Bool, not, ◌&&◌, ◌||◌, ◌==◌, nat_le, nat_lt, if◌then◌else◌, List, [], length, ◌∷◌, Option, Some, None, option_and_then}
use Rattle.std.specs.List.{list_all}
use Rattle.irc_line.specs.Names.{is_content_byte, is_text, first_is, same_bytes}
use Rattle.irc_line.specs.Comparing.{behind}
use Rattle.bouncer_config.specs.declared.input_end.InputEnd.{InputEnd}
use Rattle.bouncer_config.specs.declared.input_end.InputEnd.TheVariants.{Stops, Ignored}
use Rattle.bouncer_config.specs.declared.log_level.LogLevel.{LogLevel}
use Rattle.bouncer_config.specs.declared.log_level.LogLevel.TheVariants.{Quiet, Info, Debug}
use Rattle.bouncer_config.specs.declared.password.TheConstants.{PASSWORD_LIMIT}

-- no NUL, CR, LF or space
abbrev pub is_password_byte : ℕ → Bool
is_password_byte b = is_content_byte b && not (b == 32)

-- how many bytes a password may have
abbrev pub password_limit : ℕ
password_limit = PASSWORD_LIMIT

-- such bytes, at least one and not too many
abbrev pub is_password : List ℕ → Bool
is_password bytes = nat_le 1 (length bytes) && nat_le (length bytes) password_limit && list_all is_password_byte bytes

-- at least one byte, and none of them NUL
abbrev pub is_path : List ℕ → Bool
is_path bytes = nat_le 1 (length bytes) && list_all (λ b. not (b == 0)) bytes

-- the first byte is a letter
abbrev pub begins_with_letter : List ℕ → Bool
begins_with_letter [] = false
begins_with_letter (b ∷ bytes) = (nat_le 65 b && nat_le b 90) || (nat_le 97 b && nat_le b 122)

-- a line that a session may send first: a text that begins with a command
abbrev pub is_first_line : List ℕ → Bool
is_first_line bytes = begins_with_letter bytes && is_text bytes

-- the port that results from further digits after those of a port, if it is at most 65535
abbrev pub port_after : ℕ → List ℕ → Option ℕ
port_after port [] = Some port
port_after port (d ∷ ds) = if nat_lt d 48 || nat_lt 57 d then None else (if nat_lt 65535 (port * 10 + (d - 48)) then None else port_after (port * 10 + (d - 48)) ds)

-- the port is not 0
abbrev pub no_zero : ℕ → Option ℕ
no_zero port = if nat_le 1 port then Some port else None

-- the port that digits without a leading 0 give
abbrev pub port_of : List ℕ → Option ℕ
port_of digits = if first_is 48 digits then None else option_and_then no_zero (port_after 0 digits)

-- the port of a text `127.0.0.1:PORT`
abbrev pub address_of : List ℕ → Option ℕ
address_of text = option_and_then port_of (behind (codes "127.0.0.1:") text)

-- the level of the log that a word names
abbrev pub level_of : List ℕ → Option LogLevel
level_of text = if same_bytes text (codes "quiet") then Some Quiet else (if same_bytes text (codes "info") then Some Info else (if same_bytes text (codes "debug") then Some Debug else None))

-- what the end of standard input does, from a word
abbrev pub input_end_of : List ℕ → Option InputEnd
input_end_of text = if same_bytes text (codes "stop") then Some Stops else (if same_bytes text (codes "ignore") then Some Ignored else None)
