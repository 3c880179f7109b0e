-- Entries that are sent and taken, and what the answers do: the steps of one node of a group.
use Rattle.std.specs.Prelude.{ℕ, suc, pred, ◌+◌, ◌-◌, ◌==◌, Bool, true, false, ◌&&◌, List, [], ◌∷◌, ◌++◌, length, map, take, drop, max, min, Option, None, Some, nat_lt, nat_le, if◌then◌else◌}
use Rattle.raft_log.specs.declared.entry.Entry.{Entry}
use Rattle.raft_log.specs.declared.message.Message.{Message}
use Rattle.raft_log.specs.declared.message.Kind.TheVariants.{Append, AppendReply, Forward}
use Rattle.raft_log.specs.declared.role.Role.TheVariants.{Follower}
use Rattle.raft_log.specs.Batches.{batch, batch_limit}
use Rattle.raft_log.specs.Lists.{item_or, with_item, others}
use Rattle.raft_log.specs.Logs.{entry_limit, term_at, agrees_at, repair, conflicts_within}
use Rattle.raft_log.specs.Votes.{commit_place}
use Rattle.raft_log.specs.Node.{Node, is_leader, is_candidate, message, sending}
use Rattle.election.specs.Elections as election

module _ {B : Type 0} where
  -- what a leader sends to a node: the entries from its next place on, as many as go at once, and the place before them
  abbrev pub append_for : ℕ → Node B → ℕ → Message B
  append_for i s j =
      let prev : ℕ = pred (item_or s.next j 0) in
      message s.term i j (Append (batch prev (term_at s.log prev) (take batch_limit (drop prev s.log)) s.commit))

  -- a leader sends to each other node; others do nothing
  abbrev pub beat : ℕ → ℕ → Node B → Node B
  beat size i s = if is_leader s.role then sending s (map (append_for i s) (others size i)) else s

  -- entries were taken or not, up to this place
  abbrev pub reply : ℕ → ℕ → ℕ → Bool → ℕ → Message B
  reply t i from ok place = message t i from (AppendReply ok place)

  -- a node answers so
  abbrev pub answering : ℕ → Node B → ℕ → Bool → ℕ → Node B
  answering i s from ok place = sending s (reply s.term i from ok place ∷ [])

  -- the entries are taken, and the sender's commit as far as they reach
  abbrev pub appended : ℕ → Node B → ℕ → ℕ → List (Entry B) → ℕ → Node B
  appended i s from prev entries commit =
      answering i
      (record s { log = repair s.log prev entries; commit = max s.commit (min commit (prev + length entries)) })
      from true (prev + length entries)

  -- a log that does not agree at the place before them refuses it; entries that conflict with what is committed are ignored
  abbrev pub accepted : ℕ → Node B → ℕ → ℕ → ℕ → List (Entry B) → ℕ → Node B
  accepted i s from prev prev_term entries commit =
      if agrees_at s.log prev prev_term
      then (if conflicts_within (drop prev s.log) entries (s.commit - prev) then s else appended i s from prev entries commit)
      else answering i s from false prev

  -- the entries of a leader of a term that is not larger: a smaller one is refused, else the sender is the known leader
  -- from then on
  abbrev pub on_append : ℕ → Node B → ℕ → ℕ → ℕ → ℕ → List (Entry B) → ℕ → Node B
  on_append i s from t prev prev_term entries commit =
      if nat_lt t s.term
      then answering i s from false 0
      else (if is_leader s.role
      then s
      else accepted i (record s { role = Follower; leader = Some from }) from prev prev_term entries commit)

  -- a node's log is the same at least up to this place
  abbrev pub with_match : Node B → ℕ → ℕ → Node B
  with_match s j place =
      let reached : ℕ = max place (item_or s.matched j 0) in
      record s { matched = with_item s.matched j reached; next = with_item s.next j (suc reached) }

  -- what a majority has of the leader's own term is committed; its own log counts as a whole
  abbrev pub advanced : ℕ → ℕ → Node B → Node B
  advanced size i s =
      record s { commit = commit_place size (with_item s.matched i (length s.log)) s.log s.term s.commit (length s.log) }

  -- the place before is tried next, if that place was tried last
  abbrev pub stepped_back : Node B → ℕ → ℕ → Node B
  stepped_back s j place =
      if item_or s.next j 0 == suc place then record s { next = with_item s.next j (max 1 place) } else s

  -- the answer to an append of this term, up to a place of the log
  abbrev pub on_append_reply : ℕ → ℕ → Node B → ℕ → ℕ → Bool → ℕ → Node B
  on_append_reply size i s from t ok place =
      if is_leader s.role && ((s.term == t) && nat_le place (length s.log))
      then (if ok then advanced size i (with_match s from place) else stepped_back s from place)
      else s

  -- a body is appended in the node's own term
  abbrev pub appending : Node B → B → Node B
  appending s body = record s { log = s.log ++ record { term = s.term; body = body } ∷ [] }

  -- a leader whose log is not full appends a body; others do nothing
  abbrev pub on_forward : Node B → B → Node B
  on_forward s body = if is_leader s.role && nat_lt (length s.log) entry_limit then appending s body else s

  -- a body is sent to the known leader, if any
  abbrev pub forwarded : ℕ → Node B → B → Option ℕ → Node B
  forwarded i s body None = s
  forwarded i s body (Some j) = sending s (message s.term i j (Forward body) ∷ [])

  -- a leader appends a body, another node sends it to its leader
  abbrev pub ask : ℕ → Node B → B → Node B
  ask i s body = if is_leader s.role then on_forward s body else forwarded i s body s.leader

  -- a candidate takes a vote; if it makes it leader, it appends a blank body first
  abbrev pub on_vote : B → ℕ → Node B → ℕ → ℕ → Bool → Node B
  on_vote blank size s from t granted =
      if is_candidate s.role then on_forward (election.on_vote size s from t granted) blank else s
