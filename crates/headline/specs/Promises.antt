-- Laws of the bouncer over every list of events: requests act once, lines are handed once, confirmed looks are current.
use Rattle.std.specs.Prelude.{true, false, ◌≡◌, ◌⊎◌, ◌<◌, ◌≤◌, ◌-◌, ℕ, pred, List, [], ◌∷◌, ◌++◌, length, take, Some, slice_get}
use Rattle.irc_line.specs.Lines.{Parts}
use Rattle.wire_bytes.specs.declared.origin.Origin.{Origin}
use Rattle.wire_bytes.specs.declared.session_id.SessionId.{SessionId}
use Rattle.wire_bytes.specs.declared.mark.Mark as mark
use Rattle.machine_laws.specs.Runs.{History}
use Rattle.buffer_commands.specs.Settings.{Settings}
use Rattle.request_once.specs.declared.body.Body.TheVariants.{Asked, Mark}
use Rattle.request_once.specs.Fresh.{fresh, stays, times, is_done, is_request}
use Rattle.buffer_commands.specs.declared.command.Action.{Action}
use Rattle.bouncer_tower.specs.Bodies.{TowerBody, plain, session, outgoing, claimed}
use Rattle.bouncer_tower.specs.Hosting.{playback}
use Rattle.raft_log.specs.declared.entry.Entry.{Entry}
use Rattle.raft_log.specs.Lists.{item}
use Rattle.raft_log.specs.Node.{Node}
use Rattle.raft_node.specs.Machine.{history}
use Rattle.raft_node.specs.Steps.{Out, Looked}
use Rattle.agreement.specs.World.{Begins, committed}
use Rattle.world_run.specs.World.{Input, Timeout, Beat, Deliver, Ask, Opened, Closed, Heard, Claim, Event, Does, Restart, StopIn, Look, Apply, count, moment, outputs, agreed, left, handed}
use Rattle.world_run.specs.Laws.{IsAgreed, IsFaithful, RunsAreApart}
use Rattle.headline.specs.Tower.{tower}

-- a body is this mark
abbrev pub IsMark : mark.Mark → TowerBody → Type 0
IsMark m body = Mark m ≡ body

-- a body is a client's request of this number
abbrev pub IsRequest : Origin → ℕ → TowerBody → Type 0
IsRequest o n body = is_request o n body ≡ true

-- This holds for groups of every size, over every list of events.
abbrev pub OverAll : (s : Settings) → ((s : Settings) → ℕ → List (Event (tower s)) → Type 0) → Type 0
OverAll s P = (size : ℕ) (es : List (Event (tower s))) → P s size es

module _ (s : Settings) where
  -- Two lists of bodies give the same commands of the buffers, session, outgoing lines and claims.
  pub record IsUnchanged (one other : History TowerBody) : Type 0 where
    pub plain : plain one ≡ plain other
    pub session : session one ≡ session other
    pub outgoing : outgoing s one ≡ outgoing s other
    pub claimed : claimed s one ≡ claimed s other

  -- the bodies that are agreed, each at its place
  abbrev pub bodies : ℕ → List (Event (tower s)) → History TowerBody
  bodies size es = history (agreed (tower s) size es)

  -- this is what is agreed
  abbrev pub AreAgreed : ℕ → List (Event (tower s)) → List (Entry TowerBody) → Type 0
  AreAgreed size es entries = entries ≡ agreed (tower s) size es

  -- this is what comes out
  abbrev pub ComesOut : ℕ → List (Event (tower s)) → List (Out (tower s)) → Type 0
  ComesOut size es outs = outs ≡ outputs (tower s) size es

  -- no two requests that take effect have the same origin and number
  abbrev pub RequestsActOnce : ℕ → List (Event (tower s)) → Type 0
  RequestsActOnce size es = (o : Origin) (n : ℕ) → times o n (fresh (bodies size es)) ≤ 1

  -- Any other request changes nothing: if the agreed list has one that is not the next of its origin, the commands of
  -- the buffers, the session, the outgoing lines and their claims are those of the list without it.
  abbrev pub OthersChangeNothing : ℕ → List (Event (tower s)) → Type 0
  OthersChangeNothing size es =
      (later earlier : History TowerBody) (place : ℕ) (o : Origin) (n at : ℕ) (action : Action) →
      bodies size es ≡ later ++ (place, Asked o n at action) ∷ earlier → stays (fresh earlier) (Asked o n at action) ≡ false →
      IsUnchanged (bodies size es) (later ++ earlier)

  -- and that one is done is reported at most once, by all nodes and all their runs
  abbrev pub DoneOnce : ℕ → List (Event (tower s)) → Type 0
  DoneOnce size es = (o : Origin) (n : ℕ) → count (is_done o n) (left (tower s) size es) ≤ 1

  -- the numbers of the lines that are handed upstream are all different
  abbrev pub HandedOnce : ℕ → List (Event (tower s)) → Type 0
  HandedOnce size es =
      (i j n : ℕ) (one other : Parts) →
      slice_get (handed (tower s) size es) i ≡ Some (n, one) → slice_get (handed (tower s) size es) j ≡ Some (n, other) → i ≡ j

  -- and each is a place and line of the outgoing lines of the agreed list, with a claim that took effect
  abbrev pub HandedIsOutgoing : ℕ → List (Event (tower s)) → Type 0
  HandedIsOutgoing size es =
      (i n : ℕ) (line : Parts) →
      slice_get (handed (tower s) size es) i ≡ Some (n, line) →
      (slice_get (outgoing s (bodies size es)) (n - 1) ≡ Some line) × ((c : ℕ) × (id : SessionId) × (slice_get (claimed s (bodies size es)) c ≡ Some (n, id)))

  -- an event that asks for such a body
  abbrev pub AsksIn : (TowerBody → Type 0) → Input (tower s) → Type 0
  AsksIn P (Timeout i) = ⊥
  AsksIn P (Beat i) = ⊥
  AsksIn P (Deliver j k) = ⊥
  AsksIn P (Ask i asked) = P asked
  AsksIn P (Opened i) = ⊥
  AsksIn P (Closed i) = ⊥
  AsksIn P (Heard i at line) = ⊥
  AsksIn P (Claim i) = ⊥
  AsksIn P (Apply i) = ⊥
  AsksIn P (Look i from target) = ⊥

  -- an event that does; a stop before its input is saved does not
  abbrev pub Asks : (TowerBody → Type 0) → Event (tower s) → Type 0
  Asks P (Does x) = AsksIn P x
  Asks P (Restart i) = ⊥
  Asks P (StopIn x false) = ⊥
  Asks P (StopIn x true) = AsksIn P x

  -- one of these events asks for it
  abbrev pub IsAsked : (TowerBody → Type 0) → List (Event (tower s)) → Type 0
  IsAsked P [] = ⊥
  IsAsked P (e ∷ es) = Asks P e ⊎ IsAsked P es

  -- a mark that no event has asked for so far: each of its places in what is agreed later is above all that any node
  -- has committed
  abbrev pub MarksAreAbove : ℕ → List (Event (tower s)) → Type 0
  MarksAreAbove size early =
      (late : List (Event (tower s))) (m : mark.Mark) (p : ℕ) (e : Entry TowerBody) →
      (IsAsked (IsMark m) early → ⊥) → item (agreed (tower s) size (early ++ late)) p ≡ Some e → e.body ≡ Mark m →
      (k a : ℕ) → length (committed (moment (tower s) size early k) a) < p

  -- a node that has applied such a mark has applied, below it, all that any node had committed by then
  abbrev pub AppliedMarks : ℕ → List (Event (tower s)) → Type 0
  AppliedMarks size early =
      (late : List (Event (tower s))) (m : mark.Mark) (j c p : ℕ) (n : Node TowerBody) (e : Entry TowerBody) →
      (IsAsked (IsMark m) early → ⊥) → item (moment (tower s) size (early ++ late) j) c ≡ Some n → item (take n.applied n.log) p ≡ Some e → e.body ≡ Mark m →
      (k a : ℕ) → Begins (committed (moment (tower s) size early k) a) (take (pred p) (take n.applied n.log))

  -- a look that is answered at or after the place of such a mark is the playback of a list that begins with all that
  -- any node had committed by then
  abbrev pub ConfirmedLooks : ℕ → List (Event (tower s)) → Type 0
  ConfirmedLooks size early =
      (late : List (Event (tower s))) (m : mark.Mark) (p : ℕ) (e : Entry TowerBody) (j i from place : ℕ) (target : List ℕ) (lines : List (List ℕ)) →
      (IsAsked (IsMark m) early → ⊥) → item (agreed (tower s) size (early ++ late)) p ≡ Some e → e.body ≡ Mark m → p ≤ place →
      item (early ++ late) j ≡ Some (Does (Look i from target)) → item (outputs (tower s) size (early ++ late)) j ≡ Some (Looked place lines) →
      (k a : ℕ) →
      (lines ≡ playback s (history (take place (agreed (tower s) size (early ++ late)))) target)
      × Begins (committed (moment (tower s) size early k) a) (take place (agreed (tower s) size (early ++ late)))

  -- what was reported as done took effect in what is agreed by then
  abbrev pub DoneIsAgreed : ℕ → List (Event (tower s)) → Type 0
  DoneIsAgreed size es =
      (o : Origin) (n : ℕ) → count (is_done o n) (left (tower s) size es) ≤ times o n (fresh (bodies size es))

  -- A request was reported as done. Another one, that no event asked for by then, is at some place of what is agreed
  -- later: the first one took effect before that place.
  abbrev pub DoneIsBefore : ℕ → List (Event (tower s)) → Type 0
  DoneIsBefore size early =
      (late : List (Event (tower s))) (o other : Origin) (n m p : ℕ) (e : Entry TowerBody) →
      1 ≤ count (is_done o n) (left (tower s) size early) → (IsAsked (IsRequest other m) early → ⊥) →
      item (agreed (tower s) size (early ++ late)) p ≡ Some e → IsRequest other m e.body →
      times o n (fresh (history (take (pred p) (agreed (tower s) size (early ++ late))))) ≡ 1

  -- What holds for the bouncer over these events.
  pub record IsHeadline (size : ℕ) (es : List (Event (tower s))) : Type 0 where
    -- the committed entries of any two nodes at any two moments: one list begins the other
    pub agreed : IsAgreed (tower s) size es
    -- every look and all that leaves follows from the agreed list at its place
    pub faithful : IsFaithful (tower s) size es
    -- runs of a node have boots of their own, no session id belongs to two runs
    pub apart : RunsAreApart (tower s) size es
    -- no numbered request takes effect twice, all else of its origin and number changes nothing, nor is one reported
    -- twice as done
    pub acts_once : RequestsActOnce size es
    pub others_change_nothing : OthersChangeNothing size es
    pub done_once : DoneOnce size es
    -- what was reported as done is agreed, before all that was asked for later
    pub done_is_agreed : DoneIsAgreed size es
    pub done_is_before : (k : ℕ) → DoneIsBefore size (take k es)
    -- no line is handed upstream twice, and each is the outgoing line of its number
    pub handed_once : HandedOnce size es
    pub outgoing : HandedIsOutgoing size es
    -- a mark that was not asked for before a moment is above all that was committed by then
    pub marks : (k : ℕ) → MarksAreAbove size (take k es)
    pub applied_marks : (k : ℕ) → AppliedMarks size (take k es)
    pub confirmed : (k : ℕ) → ConfirmedLooks size (take k es)
