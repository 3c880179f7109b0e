-- Nothing reads what was sent.
use Rattle.std.proofs.Common.{◌≡◌, ℕ, suc, ◌-◌, Bool, true, false, ◌&&◌, ◌||◌, not, cond, ltb, leb, eqb, List, Option, Some, None, length, drop, refl, ap, ◌∙◌, append_assoc}
use Rattle.std.specs.Prelude.{◌^◌}
use Rattle.raft_log.specs.declared.entry.Entry.{Entry}
use Rattle.raft_log.specs.declared.message.Kind.{Kind}
use Rattle.raft_log.specs.declared.message.Kind.TheVariants.{RequestVote, Vote, Append, AppendReply, Forward}
use Rattle.raft_log.specs.declared.message.Message.{Message}
use Rattle.raft_log.specs.declared.node_state.Live.{Live}
use Rattle.raft_log.specs.Lists.{item, item_or, with_item}
use Rattle.raft_log.specs.Logs.{entry_limit, agrees_at, conflicts_within}
use Rattle.raft_log.specs.Node.{Node, is_leader, is_candidate, raised, sending}
use Rattle.raft_log.specs.Votes.{majority}
use Rattle.election.specs.Elections as election
use Rattle.election.specs.Elections.{timed_out, grants, on_request_vote, leading}
use Rattle.replication.specs.Replication.{beat, accepted, on_append, with_match, advanced, stepped_back, on_append_reply, on_forward, on_vote, forwarded, ask}
use Rattle.node_steps.specs.Messages.{handled, is_heard, on_message}
use Rattle.raft_node.specs.Machine.{Machine}
use Rattle.node_steps.specs.declared.refusal.Refusal.TheVariants.{LogFull, TermsSpent, NoLeader, Behind, BadOrigin}
use Rattle.node_steps.specs.Asking.{is_full, may_ask, finds_leader}
use Rattle.raft_node.specs.Steps.{Turn, Act, Expires, Beats, Hears, Asks, Opens, Closes, HearsLine, Claims, Applies, Looks, Idles, Own, Acts, Restarts, Stops, stopped, quiet, refused, applied_history, asks, asked, adds, opened, closed, heard, claimed, if_leading, applied, turn, own}
use Rattle.raft_node.specs.Sound.{sent_first, SentIsNotRead}

-- what is done to a choice is done to what is chosen
both : {A C : Type 0} (b : Bool) (f : A → C) (x y : A) (fx fy : C) → fx ≡ f x → fy ≡ f y → cond b fx fy ≡ f (cond b x y)
both true f x y fx fy p q = p
both false f x y fx fy p q = q

module _ {B : Type 0} (xs : List (Message B)) where
  abbrev first : Node B → Node B
  first s = sent_first xs s

  sends : (s : Node B) (ms : List (Message B)) → sending (first s) ms ≡ first (sending s ms)
  sends s ms = ap (λ l. record s { sent = l }) (append_assoc xs s.sent ms)

  module _ (n i : ℕ) (s : Node B) where
    raises : (t : ℕ) → raised (first s) t ≡ first (raised s t)
    raises t = both (ltb s.term t) first _ s _ _ refl refl

    times : timed_out n i (first s) ≡ first (timed_out n i s)
    times = both (is_leader s.role || leb (2 ^ 60) s.term) first s _ _ _ refl (sends (election.begun n i s) _)

    beats : beat n i (first s) ≡ first (beat n i s)
    beats = both (is_leader s.role) first _ s _ _ (sends s _) refl

    forwards : (b : B) → on_forward (first s) b ≡ first (on_forward s b)
    forwards b = both (is_leader s.role && ltb (length s.log) entry_limit) first _ s _ _ refl refl

    to_leader : (b : B) (o : Option ℕ) → forwarded i (first s) b o ≡ first (forwarded i s b o)
    to_leader b None = refl
    to_leader b (Some j) = sends s _

    asks_same : (b : B) → ask i (first s) b ≡ first (ask i s b)
    asks_same b = both (is_leader s.role) first (on_forward s b) (forwarded i s b s.leader) _ _ (forwards b) (to_leader b s.leader)

    requests : (from t index last : ℕ) → on_request_vote i (first s) from t index last ≡ first (on_request_vote i s from t index last)
    requests from t index last = both (grants s from t index last) first _ _ _ _ (sends (record s { vote = Some from }) _) (sends s _)

    counts : (from t : ℕ) (granted : Bool) → election.on_vote n (first s) from t granted ≡ first (election.on_vote n s from t granted)
    counts from t granted =
        both (is_candidate s.role && (eqb s.term t && granted)) first _ s _ _
        (both (majority n (with_item s.voters from true)) first (leading n (record s { voters = with_item s.voters from true })) (record s { voters = with_item s.voters from true }) _ _ refl refl)
        refl

    replies : (from t : ℕ) (ok : Bool) (place : ℕ) → on_append_reply n i (first s) from t ok place ≡ first (on_append_reply n i s from t ok place)
    replies from t ok place =
        both (is_leader s.role && (eqb s.term t && leb place (length s.log))) first _ s _ _
        (both ok first (advanced n i (with_match s from place)) (stepped_back s from place) _ _ refl
        (both (eqb (item_or s.next from 0) (suc place)) first _ s _ _ refl refl))
        refl

    accepts : (from prev prev_term : ℕ) (es : List (Entry B)) (commit : ℕ) → accepted i (first s) from prev prev_term es commit ≡ first (accepted i s from prev prev_term es commit)
    accepts from prev prev_term es commit =
        both (agrees_at s.log prev prev_term) first _ _ _ _
        (both (conflicts_within (drop prev s.log) es (s.commit - prev)) first s _ _ _ refl (sends (record s { log = _; commit = _ }) _))
        (sends s _)

  votes : (blank : B) (n i : ℕ) (s : Node B) (from t : ℕ) (granted : Bool) → on_vote blank n (first s) from t granted ≡ first (on_vote blank n s from t granted)
  votes blank n i s from t granted =
      both (is_candidate s.role) first _ s _ _
      (ap (λ z. on_forward z blank) (counts n i s from t granted) ∙ forwards n i (election.on_vote n s from t granted) blank)
      refl

  appends : (n i : ℕ) (s : Node B) (from t prev prev_term : ℕ) (es : List (Entry B)) (commit : ℕ) → on_append i (first s) from t prev prev_term es commit ≡ first (on_append i s from t prev prev_term es commit)
  appends n i s from t prev prev_term es commit =
      both (ltb t s.term) first _ _ _ _ (sends s _)
      (both (is_leader s.role) first s _ _ _ refl (accepts n i (record s { role = _; leader = Some from }) from prev prev_term es commit))

  handles : (blank : B) (n i : ℕ) (s : Node B) (m : Message B) (k : Kind B) → handled blank n i (first s) m k ≡ first (handled blank n i s m k)
  handles blank n i s m (RequestVote index last) = requests n i s m.from m.term index last
  handles blank n i s m (Vote granted) = votes blank n i s m.from m.term granted
  handles blank n i s m (Append b) = appends n i s m.from m.term b.prev_index b.prev_term b.entries b.commit
  handles blank n i s m (AppendReply ok place) = replies n i s m.from m.term ok place
  handles blank n i s m (Forward b) = forwards n i s b

  hears : (blank : B) (n i : ℕ) (s : Node B) (m : Message B) → on_message blank n i (first s) m ≡ first (on_message blank n i s m)
  hears blank n i s m =
      both (is_heard n i m) first (handled blank n i (raised s m.term) m m.kind) s _ _
      (ap (λ z. handled blank n i z m m.kind) (raises n i s m.term) ∙ handles blank n i (raised s m.term) m m.kind)
      refl

module _ (M : Machine) (xs : List (Message M.Body)) (n i : ℕ) (s : Node M.Body) where
  abbrev begin' : Turn M → Turn M
  begin' t = record { node = sent_first xs t.node; out = t.out }

  abbrev quietly : Node M.Body → Turn M
  quietly z = quiet M z

  adds_same : (live : Option Live) (attempts : ℕ) (b : M.Body) → adds M (sent_first xs s) live attempts b ≡ begin' (adds M s live attempts b)
  adds_same live attempts b =
      both (is_full s) begin' (refused M s LogFull) _ _ _ refl
      (ap quietly (forwards xs n i (record s { live = live; attempts = attempts }) b))

  asked_same : (b : M.Body) → asked M i (sent_first xs s) b ≡ begin' (asked M i s b)
  asked_same b =
      both (may_ask i s (M.source b)) begin' _ (refused M s BadOrigin) _ _
      (both (finds_leader s s.leader) begin' (asks M i s b) (refused M s NoLeader) _ _
      (both (is_leader s.role && is_full s) begin' (refused M s LogFull) _ _ _ refl (ap quietly (asks_same xs n i s b)))
      refl)
      refl

  leading_same : (t u : Turn M) → t ≡ begin' u → if_leading M (sent_first xs s) t ≡ begin' (if_leading M s u)
  leading_same t u e = both (is_leader s.role) begin' u (quiet M s) t _ e refl

  opened_same : (o : Option Live) → opened M (sent_first xs s) o ≡ begin' (opened M s o)
  opened_same None = both (leb (2 ^ 60) s.attempts) begin' (refused M s TermsSpent) _ _ _ refl (adds_same _ _ _)
  opened_same (Some l) = refl

  closed_same : (o : Option Live) → closed M (sent_first xs s) o ≡ begin' (closed M s o)
  closed_same None = refl
  closed_same (Some l) = adds_same _ _ _

  heard_same : (o : Option Live) (at : ℕ) (line : M.Line) → heard M (sent_first xs s) o at line ≡ begin' (heard M s o at line)
  heard_same None at line = refl
  heard_same (Some l) at line = adds_same _ _ _

  claimed_same : (o : Option Live) (k : Option ℕ) → claimed M (sent_first xs s) o k ≡ begin' (claimed M s o k)
  claimed_same None k = refl
  claimed_same (Some l) None = refl
  claimed_same (Some l) (Some k) = adds_same _ _ _

  applied_same : (o : Option (Entry M.Body)) → applied M i (sent_first xs s) o ≡ begin' (applied M i s o)
  applied_same None = refl
  applied_same (Some e) = refl

  turn_same : (a : Act M) → turn M n i a (sent_first xs s) ≡ begin' (turn M n i a s)
  turn_same Expires =
      both (not (is_leader s.role) && leb (2 ^ 60) s.term) begin' (refused M s TermsSpent) _ _ _ refl (ap quietly (times xs n i s))
  turn_same Beats = ap quietly (beats xs n i s)
  turn_same (Hears m) = ap quietly (hears xs M.blank n i s m)
  turn_same (Asks b) = asked_same b
  turn_same Opens = leading_same _ _ (opened_same s.live)
  turn_same Closes = leading_same _ _ (closed_same s.live)
  turn_same (HearsLine at line) = leading_same _ _ (heard_same s.live at line)
  turn_same Claims = leading_same _ _ (claimed_same s.live (M.next_claim (applied_history M s)))
  turn_same Applies = both (ltb s.applied s.commit) begin' _ (quiet M s) _ _ (applied_same (item s.log (suc s.applied))) refl
  turn_same (Looks from target) = both (ltb s.applied from) begin' (refused M s (Behind s.applied)) _ _ _ refl refl
  turn_same Idles = refl

  stopped_same : (a : Act M) (after : Bool) → stopped n after (sent_first xs s) (turn M n i a (sent_first xs s)).node ≡ sent_first xs (stopped n after s (turn M n i a s).node)
  stopped_same a true = ap (λ (t : Turn M). stopped n true (sent_first xs s) t.node) (turn_same a)
  stopped_same a false = refl

  own_same : (o : Own M) → own M n i o (sent_first xs s) ≡ begin' (own M n i o s)
  own_same (Acts a) = turn_same a
  own_same Restarts = refl
  own_same (Stops a after) = ap quietly (stopped_same a after)

module _ (M : Machine) where
  pub sent_is_not_read : SentIsNotRead M
  sent_is_not_read n i o s xs = own_same M xs n i s o
