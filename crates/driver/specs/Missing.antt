-- What people are told when there is no server.
use Rattle.std.specs.Prelude.{ℕ, zero, suc, ◌+◌, ◌-◌, ◌/◌, ◌%◌, nat_eq, if◌then◌else◌, codes, decimal, List, [], ◌++◌, Option, Some, None}
use Rattle.driver.specs.declared.link.Stage.{Stage}
use Rattle.driver.specs.declared.link.Stage.TheVariants.{Closing, Connecting, Idle, Open}
use Rattle.driver.specs.declared.link.silence.TheConstants.{TIME_TO_CLOSE}
use Rattle.driver.specs.declared.news.Ending.{Ending}
use Rattle.driver.specs.declared.news.Ending.TheVariants.{ByServer, LedNoMore, Lost, Refused, Silent, Unreachable}

-- why a connection ended, or was not made, in words
abbrev pub words_of : Ending → List ℕ
words_of Refused = codes "the connection was refused"
words_of Unreachable = codes "there is no way to the server"
words_of ByServer = codes "the server closed the connection"
words_of Lost = codes "no connection"
words_of Silent = codes "the server is silent"
words_of LedNoMore = codes "the node leads no more"

-- how many milliseconds are left until the server may be tried again; none if it is being tried now
abbrev pub try_in : Stage → ℕ → Option ℕ
try_in (Idle since wait) now = Some (wait - (now - since.since))
try_in (Closing since wait) now = Some (wait + (TIME_TO_CLOSE - (now - since.since)))
try_in (Connecting node) now = None
try_in (Open session) now = None

-- milliseconds as seconds, rounded up
abbrev pub seconds_of : ℕ → ℕ
seconds_of ms = if nat_eq (ms % 1000) 0 then ms / 1000 else ms / 1000 + 1

-- when the server is tried again, in words
abbrev pub try_text : Option ℕ → List ℕ
try_text None = codes "it is tried now."
try_text (Some zero) = codes "it is tried as soon as a node leads."
try_text (Some (suc ms)) = codes "next try in " ++ decimal (seconds_of (suc ms)) ++ codes " s."

-- why the last session ended, if there was one, after a colon
abbrev pub why_text : Option Ending → List ℕ
why_text None = []
why_text (Some why) = codes ": " ++ words_of why

-- what people are told when there is no server
abbrev pub missing_text : Option Ending → Option ℕ → List ℕ
missing_text ended next = codes "There is no server" ++ why_text ended ++ codes "; " ++ try_text next

-- what people are told when there is no session that the server gave
abbrev pub missing : Stage → Option Ending → ℕ → Option (List ℕ)
missing (Idle since wait) ended now = Some (missing_text ended (try_in (Idle since wait) now))
missing (Closing since wait) ended now = Some (missing_text ended (try_in (Closing since wait) now))
missing (Connecting node) ended now = Some (missing_text ended None)
missing (Open session) ended now = if session.is_opened then None else Some (missing_text ended None)
