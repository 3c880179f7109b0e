-- The words and the classes of the picture's parts.
use Rattle.std.specs.Prelude.{ℕ, List, [], codes}
use Rattle.raft_log.specs.declared.role.Role.{Role}
use Rattle.raft_log.specs.declared.role.Role.TheVariants.{Follower, Candidate, Leader}
use Rattle.world_app.specs.declared.kinds.Deed.{Deed}
use Rattle.world_app.specs.declared.kinds.Deed.TheVariants.{Timeout, Beat, Deliver, Ask, Opened, Closed, Heard, Claim, Apply, Look}
use Rattle.world_app.specs.declared.kinds.Happening.{Happening}
use Rattle.world_app.specs.declared.kinds.Happening.TheVariants.{Does, Restarts, StopsBefore, StopsAfter}
use Rattle.world_app.specs.declared.kinds.MessageKind.{MessageKind}
use Rattle.world_app.specs.declared.kinds.MessageKind.TheVariants.{RequestVote, Vote, Denial, Append, Reply, Gap, Forward}

-- the class of a role
abbrev pub role_class : Role → List ℕ
role_class Follower = codes "follower"
role_class Candidate = codes "candidate"
role_class Leader = codes "leader"

-- the words for a node that takes a role, before its term
abbrev pub role_words : Role → List ℕ
role_words Follower = codes "follows in term "
role_words Candidate = codes "candidate in term "
role_words Leader = codes "leads in term "

-- the classes of a message: votes, appends with their replies, and what is forwarded or missing
abbrev pub kind_class : MessageKind → List ℕ
kind_class RequestVote = codes "vote"
kind_class Vote = codes "vote"
kind_class Denial = codes "vote dashed"
kind_class Append = codes "append"
kind_class Reply = codes "append"
kind_class Gap = codes "forward dashed"
kind_class Forward = codes "forward"

-- the class of an event's words
abbrev pub happening_class : Happening → List ℕ
happening_class (Does deed) = codes "event"
happening_class Restarts = codes "stop"
happening_class (StopsBefore deed) = codes "stop"
happening_class (StopsAfter deed) = codes "stop"

-- the word of an input
abbrev pub deed_word : Deed → List ℕ
deed_word Timeout = codes "timeout"
deed_word Beat = codes "beat"
deed_word Deliver = codes "deliver"
deed_word Ask = codes "ask"
deed_word Opened = codes "opened"
deed_word Closed = codes "closed"
deed_word Heard = codes "heard"
deed_word Claim = codes "claim"
deed_word Apply = codes "apply"
deed_word Look = codes "look"

-- none for a delivery, since it has an arrow
abbrev pub done_word : Deed → List ℕ
done_word Deliver = []
done_word deed = deed_word deed

-- the words for an event, before the word of its input
abbrev pub happening_front : Happening → List ℕ
happening_front (Does deed) = []
happening_front Restarts = codes "restarts"
happening_front (StopsBefore deed) = codes "stops before "
happening_front (StopsAfter deed) = codes "stops after "

-- the word of an event's input
abbrev pub deed_of : Happening → List ℕ
deed_of (Does deed) = done_word deed
deed_of Restarts = []
deed_of (StopsBefore deed) = deed_word deed
deed_of (StopsAfter deed) = deed_word deed
