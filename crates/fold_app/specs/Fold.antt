-- What the folding of an input gives: the text of the answers to its bodies, or the fault of its first bad line.
use Rattle.std.specs.Prelude.{ℕ, ◌+◌, if◌then◌else◌, ◌==◌, List, [], ◌∷◌, ◌++◌, length, Option, Some, None, Result, Ok, Err}
use Rattle.wire_bytes.specs.declared.wire_fault.WireFault.{WireFault}
use Rattle.machine_laws.specs.Runs.{History, came}
use Rattle.buffer_commands.specs.Settings.{plain}
use Rattle.buffer_machine.specs.Machine.{effects_at}
use Rattle.buffer_commands.specs.Spellings.{command, action}
use Rattle.buffer_commands.specs.declared.command.Action.{Action}
use Rattle.buffer_commands.specs.declared.command.Command.{Command}
use Rattle.buffer_commands.specs.declared.command.Command.TheVariants.{Client}
use Rattle.buffer_commands.specs.declared.effect.Effect.{Effect}
use Rattle.request_once.specs.Fresh.{answers}
use Rattle.request_once.specs.Spelling.{body_taken}
use Rattle.request_once.specs.declared.answer.Answer.{Answer}
use Rattle.request_once.specs.declared.body.Body.{Body}
use Rattle.recorder.specs.EffectWords.{answer_lines, effect_words}
use Rattle.fold_app.specs.Lines.{lines_of, hex_bytes}
use Rattle.fold_app.specs.declared.fault.FoldFault.{FoldFault}
use Rattle.fold_app.specs.declared.fault.FoldFault.TheVariants.{BadHex, BadBody}

-- the body of a line: a command of the buffers, a request of a client, a mark, or nothing
abbrev pub Request : Type 0
Request = Body Command Action

-- the text of the answers to all bodies of a history, in order of place
abbrev pub printed : (History Request → ℕ → Request → List (Answer Effect)) → History Request → List ℕ
printed answers [] = []
printed answers (x ∷ earlier) = printed answers earlier ++ answer_lines effect_words x.0 (answers earlier x.0 x.1)

-- the value of a reading that took all of this many bytes
abbrev pub if_whole : {V : Type 0} → ℕ → Result (V × ℕ) WireFault → Option V
if_whole n (Ok r) = if r.1 == n then Some r.0 else None
if_whole n (Err e) = None

-- the body that bytes encode, with nothing before or after it
unfoldable pub body_of : List ℕ → Option Request
body_of bytes = if_whole (length bytes) (body_taken command action bytes)

-- the body of line k, or that its bytes encode none
abbrev pub or_bad_body : ℕ → Option Request → Result Request FoldFault
or_bad_body k (Some body) = Ok body
or_bad_body k None = Err (BadBody k)

-- the body that the bytes of line k encode, or what is wrong: the line is no hex, or its bytes encode no body
abbrev pub judged_bytes : ℕ → Option (List ℕ) → Result Request FoldFault
judged_bytes k (Some bytes) = or_bad_body k (body_of bytes)
judged_bytes k None = Err (BadHex k)

-- the body of line k, or what is wrong with the line
unfoldable pub judged_line : ℕ → List ℕ → Result Request FoldFault
judged_line k line = judged_bytes k (hex_bytes line)

-- a body before those of the lines after it, or the fault of the first bad one of them all
abbrev pub put_before : Result Request FoldFault → Result (List Request) FoldFault → Result (List Request) FoldFault
put_before (Err e) rest = Err e
put_before (Ok body) (Ok bodies) = Ok (body ∷ bodies)
put_before (Ok body) (Err e) = Err e

-- the bodies of lines that are numbered from k, or what is wrong with the first bad one
abbrev pub bodies_of : ℕ → List (List ℕ) → Result (List Request) FoldFault
bodies_of k [] = Ok []
bodies_of k (line ∷ lines) = put_before (judged_line k line) (bodies_of (k + 1) lines)

-- the text of the answers to the bodies that come at the places from this one on, after an earlier history
abbrev pub printed_from : (History Request → ℕ → Request → List (Answer Effect)) → ℕ → History Request → Result (List Request) FoldFault → Result (List ℕ) FoldFault
printed_from answers place earlier (Ok bodies) = Ok (printed answers (came place bodies earlier))
printed_from answers place earlier (Err e) = Err e

-- the text of the answers to the bodies of an input, if the first is at place 1 and nothing came before it
unfoldable pub fold_text : (History Request → ℕ → Request → List (Answer Effect)) → List ℕ → Result (List ℕ) FoldFault
fold_text answers input = printed_from answers 1 [] (bodies_of 1 (lines_of input))

-- the answers to a body by buffers with the plain setup, each request taking effect once
unfoldable pub plain_answers : History Request → ℕ → Request → List (Answer Effect)
plain_answers = answers Client (effects_at plain)
