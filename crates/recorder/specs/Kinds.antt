-- The words with which events begin.
use Rattle.std.specs.Prelude.{ℕ, Bool, true, false, List, Option, Some, None, if◌then◌else◌, codes}
use Rattle.irc_line.specs.Names.{same_bytes}
use Rattle.recorder.specs.declared.kind.Kind.{Kind}
use Rattle.recorder.specs.declared.kind.Kind.TheVariants.{Timeout, Beat, Deliver, Ask, Opened, Closed, Heard, Claim, Apply, Look}

-- the word of a kind
abbrev pub word : Kind → List ℕ
word Timeout = codes "timeout"
word Beat = codes "beat"
word Deliver = codes "deliver"
word Ask = codes "ask"
word Opened = codes "opened"
word Closed = codes "closed"
word Heard = codes "heard"
word Claim = codes "claim"
word Apply = codes "apply"
word Look = codes "look"

-- the kind of a word, if any
abbrev pub kind_of_word : List ℕ → Option Kind
kind_of_word w =
    if same_bytes w (word Timeout) then Some Timeout
    else if same_bytes w (word Beat) then Some Beat
    else if same_bytes w (word Deliver) then Some Deliver
    else if same_bytes w (word Ask) then Some Ask
    else if same_bytes w (word Opened) then Some Opened
    else if same_bytes w (word Closed) then Some Closed
    else if same_bytes w (word Heard) then Some Heard
    else if same_bytes w (word Claim) then Some Claim
    else if same_bytes w (word Apply) then Some Apply
    else if same_bytes w (word Look) then Some Look
    else None

-- the word of a stop, by whether what was saved is as after the event
abbrev pub side_word : Bool → List ℕ
side_word false = codes "before"
side_word true = codes "after"

-- whether what was saved is as after the event, from this word, if it says so
abbrev pub side_of_word : List ℕ → Option Bool
side_of_word w = if same_bytes w (side_word false) then Some false else if same_bytes w (side_word true) then Some true else None
