-- How steps and plans fit together.
use Rattle.std.proofs.Common.{◌≡◌, ℕ, suc, ◌^◌, Bool, true, false, ◌&&◌, nat_le, List, length, Option, None, Some, Result, Ok, Err, refl, sym, ap, ◌∙◌, arith}
use Rattle.std.proofs.lemmas.Bool.{cond-true, cond-false}
use Rattle.std.specs.Option.{is_some}
use Rattle.std.specs.Prelude.{[], not, if◌then◌else◌}
use Rattle.wire_bytes.specs.declared.session_id.SessionId.{SessionId}
use Rattle.machine_laws.specs.declared.class.Source.{Source}
use Rattle.raft_log.specs.declared.entry.Entry.{Entry}
use Rattle.raft_log.specs.declared.message.Message.{Message}
use Rattle.raft_log.specs.declared.node_state.Live.{Live}
use Rattle.raft_log.specs.declared.node_state.Standing.{Standing}
use Rattle.raft_log.specs.declared.position.Position.{Position}
use Rattle.raft_log.specs.declared.position.Position.TheVariants as position
use Rattle.raft_log.specs.declared.role.Role.{Role}
use Rattle.raft_log.specs.declared.role.Role.TheVariants.{Leader}
use Rattle.raft_log.specs.declared.step.Step.{Step}
use Rattle.raft_log.specs.Node.{Node, is_leader}
use Rattle.raft_log.specs.Positions.{leader_of, live_of, role_of}
use Rattle.raft_log.specs.Seen.{node_of}
use Rattle.raft_log.specs.Logs.{entry_limit}
use Rattle.raft_log.specs.Steps.{IsSavable, IsSending, IsStep, Prepares}
use Rattle.raft_log.proofs.Sending.{node_still, sent-node, sent-savable}
use Rattle.election.specs.Elections.{timed_out}
use Rattle.replication.specs.Replication.{on_forward, ask}
use Rattle.node_steps.specs.declared.refusal.Refusal.TheVariants.{TermsSpent}
use Rattle.node_steps.specs.declared.unprepared.Unprepared.{Unprepared}
use Rattle.node_steps.specs.declared.unprepared.Unprepared.TheVariants.{Memory, Refused}
use Rattle.node_steps.specs.Asking.{may_ask, finds_leader, is_full, new_session}
use Rattle.node_steps.specs.Plans.{Plan, Goes, Declines, IsPrepared, IsStepOf, election_plan, own_plan, ask_plan, if_leading, opening, open_plan, closing, close_plan, hearing, hear_plan, claiming, claim_plan}

-- a leader knows no other leader
leads : (p : Position) → is_leader (role_of p) ≡ true → (role_of p ≡ Leader) × (leader_of p ≡ None)
leads (position.Follower leader) h = absurd cc
leads position.Candidate h = absurd cc
leads (position.Leader live) h = (refl, refl)

-- a node that holds a session leads
pub holds : (p : Position) (live : Live) → live_of p ≡ Some live → is_leader (role_of p) ≡ true
holds (position.Follower leader) live h = absurd cc
holds position.Candidate live h = absurd cc
holds (position.Leader l) live h = refl

module _ {B : Type 0} (standing : Standing) (log : List (Entry B)) where
  -- the result of a definition is the step of a plan with that result
  pub comes : (plan : Node B → Plan B) (f : Node B → Node B) (step : Step B) → Prepares f standing log step → IsSavable standing log step
      → ((sent : List (Message B)) → plan (node_of standing log sent) ≡ Goes (f (node_of standing log sent))) → IsStepOf plan standing log step
  comes plan f step h savable same = record { goes = λ sent. same sent ∙ sym (ap Goes (h sent)); savable = savable }

  -- a step that changes nothing is that of a plan that does nothing
  pub stays : (plan : Node B → Plan B) (step : Step B) → IsSending standing log [] step
      → ((sent : List (Message B)) → plan (node_of standing log sent) ≡ Goes (node_of standing log sent)) → IsStepOf plan standing log step
  stays plan step h same =
      record {
        goes = λ sent. same sent ∙ sym (ap Goes (sent-node standing log [] step h sent ∙ node_still standing log sent));
        savable = sent-savable standing log [] step h standing refl (omega arith);
      }

  -- a plan that says the same of this node is prepared in the same way
  pub prepared-as : (plan plan' : Node B → Plan B) → ((sent : List (Message B)) → plan (node_of standing log sent) ≡ plan' (node_of standing log sent))
      → (r : Result (Step B) Unprepared) → IsPrepared plan standing log r → IsPrepared plan' standing log r
  prepared-as plan plan' same (Ok step) h = record { goes = λ sent. sym (same sent) ∙ h.goes sent; savable = h.savable }
  prepared-as plan plan' same (Err Memory) h = λ sent. ((h sent).0, sym (same sent) ∙ (h sent).1)
  prepared-as plan plan' same (Err (Refused refusal)) h = λ sent. sym (same sent) ∙ h sent

  leads_so : (sent : List (Message B)) (live : Option Live) (attempts : ℕ) (r : Role) (l : Option ℕ) → r ≡ Leader → l ≡ None
      → node_of (record standing { position = position.Leader live; attempts = attempts }) log sent ≡ record (node_of standing log sent) { role = r; leader = l; live = live; attempts = attempts }
  leads_so sent live attempts r l er el = rw (er, el) refl

  -- a leader with another session and other attempts
  led_is : (sent : List (Message B)) (live : Option Live) (attempts : ℕ) → is_leader (role_of standing.position) ≡ true
      → node_of (record standing { position = position.Leader live; attempts = attempts }) log sent ≡ record (node_of standing log sent) { live = live; attempts = attempts }
  led_is sent live attempts h =
      let k = leads standing.position h in
      leads_so sent live attempts (role_of standing.position) (leader_of standing.position) k.0 k.1

  -- the step that appends a body of a leader's own, with the standing that it is to have
  pub own_step : (live : Option Live) (attempts : ℕ) (body : B) (step : Step B) → is_leader (role_of standing.position) ≡ true → nat_le entry_limit (length log) ≡ false
      → IsStep (λ s. on_forward s body) (record standing { position = position.Leader live; attempts = attempts }) log step → IsStepOf (own_plan live attempts body) standing log step
  own_step live attempts body step leading room h =
      record {
        goes = λ sent.
            own_goes live attempts body (node_of standing log sent) room
            ∙ ap (λ (n : Node B). Goes (on_forward n body)) (sym (led_is sent live attempts leading))
            ∙ sym (ap Goes (h.prepares sent));
        savable = record { kept = h.savable.kept; few = h.savable.few; room = h.savable.room; boot = h.savable.boot; term = h.savable.term };
      }
    where
      own_goes : (live : Option Live) (attempts : ℕ) (body : B) (n : Node B) → is_full n ≡ false → own_plan live attempts body n ≡ Goes (on_forward (record n { live = live; attempts = attempts }) body)
      own_goes live attempts body n h = rw h refl

-- this session, whose next line has this number
abbrev pub session : SessionId → ℕ → Live
session id next = record { id = id; next = next }

module _ {B : Type 0} (n : Node B) where
  -- before the terms are spent an election begins, unless the node leads
  pub election_begins : (size i : ℕ) → (not (is_leader n.role) && nat_le (2 ^ 60) n.term) ≡ false → election_plan size i n ≡ Goes (timed_out size i n)
  election_begins size i h = cond-false (not (is_leader n.role) && nat_le (2 ^ 60) n.term) (Declines TermsSpent) (Goes (timed_out size i n)) h

  -- what is asked, if it may be, a leader is known and the log has room
  pub ask_goes : (i : ℕ) (source : Source) (body : B) → may_ask i n source ≡ true → finds_leader n n.leader ≡ true → (is_leader n.role && is_full n) ≡ false
      → ask_plan i source body n ≡ Goes (ask i n body)
  ask_goes i source body a b c = rw (a, b, c) refl

  -- a node that does not lead does nothing
  pub follows : (plan : Plan B) → is_leader n.role ≡ false → if_leading n plan ≡ Goes n
  follows plan h = cond-false (is_leader n.role) plan (Goes n) h

  leads_to : (plan : Plan B) → is_leader n.role ≡ true → if_leading n plan ≡ plan
  leads_to plan h = cond-true (is_leader n.role) plan (Goes n) h

  -- nor does one whose plan is to do nothing
  idles : (plan : Plan B) → plan ≡ Goes n → if_leading n plan ≡ Goes n
  idles plan h = by (is_leader n.role)
    where
      by : (b : Bool) → (if b then plan else Goes n) ≡ Goes n
      by true = h
      by false = refl

  pub opens_not : (opened : SessionId → B) → is_some n.live ≡ true → open_plan opened n ≡ Goes n
  opens_not opened h = idles (opening opened n n.live) (by n.live h)
    where
      by : (l : Option Live) → is_some l ≡ true → opening opened n l ≡ Goes n
      by None e = absurd cc
      by (Some live) e = refl

  -- the body of a session that is opened
  pub opens : (opened : SessionId → B) (id : SessionId) (term attempt next attempts : ℕ) (body : B) → is_leader n.role ≡ true → is_some n.live ≡ false → nat_le (2 ^ 60) n.attempts ≡ false
      → body ≡ opened id → id ≡ (term, attempt) → term ≡ n.term → attempt ≡ suc n.attempts → next ≡ 1 → attempts ≡ suc n.attempts
      → own_plan (Some (session id next)) attempts body n ≡ open_plan opened n
  opens opened id term attempt next attempts body leading none few eb ei et ea en es =
      let given : SessionId → ℕ → ℕ → B → Plan B = λ x k a b. own_plan (Some (session x k)) a b n in
      ap (λ (b : B). given id next attempts b) eb
      ∙ (ap (λ (x : SessionId). given x next attempts (opened x)) (ei ∙ ap (λ (t : ℕ). (t, attempt)) et ∙ ap (λ (a : ℕ). (n.term, a)) ea)
      ∙ (ap (λ (k : ℕ). given (n.term, suc n.attempts) k attempts (opened (n.term, suc n.attempts))) en
      ∙ (ap (λ (a : ℕ). given (n.term, suc n.attempts) 1 a (opened (n.term, suc n.attempts))) es
      ∙ sym (leads_to (opening opened n n.live) leading ∙ by n.live none))))
    where
      by : (l : Option Live) → is_some l ≡ false → opening opened n l ≡ own_plan (Some (new_session n)) (suc n.attempts) (opened (new_session n).id) n
      by None e = cond-false (nat_le (2 ^ 60) n.attempts) (Declines TermsSpent) (own_plan (Some (new_session n)) (suc n.attempts) (opened (new_session n).id) n) few
      by (Some live) e = absurd cc

  -- the log has room for a body of a leader's own
  pub own_goes_on : (live : Option Live) (attempts : ℕ) (body : B) → is_full n ≡ false → own_plan live attempts body n ≡ Goes (on_forward (record n { live = live; attempts = attempts }) body)
  own_goes_on live attempts body h = rw h refl

  -- the body of the session that is shut
  pub closes_live : (shut : SessionId → B) (live : Live) (body : B) → is_leader n.role ≡ true → n.live ≡ Some live → body ≡ shut live.id
      → own_plan None n.attempts body n ≡ close_plan shut n
  closes_live shut live body a b eb =
      ap (λ (x : B). own_plan None n.attempts x n) eb
      ∙ sym (leads_to (closing shut n n.live) a ∙ ap (λ (l : Option Live). closing shut n l) b)

  -- the body of the line that is claimed
  pub claims_line : (claim : SessionId → ℕ → B) (number : Option ℕ) (k : ℕ) (live : Live) (body : B) → is_leader n.role ≡ true → number ≡ Some k → n.live ≡ Some live → body ≡ claim live.id k
      → own_plan (Some live) n.attempts body n ≡ claim_plan claim number n
  claims_line claim number k live body a en b eb =
      ap (λ (x : B). own_plan (Some live) n.attempts x n) eb
      ∙ (ap (λ (l : Option Live). own_plan l n.attempts (claim live.id k) n) (sym b)
      ∙ sym (leads_to (claiming claim number n n.live) a ∙ (ap (λ (o : Option ℕ). claiming claim o n n.live) en ∙ ap (λ (l : Option Live). claiming claim (Some k) n l) b)))

  pub closes_not : (shut : SessionId → B) → n.live ≡ None → close_plan shut n ≡ Goes n
  closes_not shut h = idles (closing shut n n.live) (ap (λ (l : Option Live). closing shut n l) h)

  pub hears_not : (heard : SessionId → ℕ → B) → n.live ≡ None → hear_plan heard n ≡ Goes n
  hears_not heard h = idles (hearing heard n n.live) (ap (λ (l : Option Live). hearing heard n l) h)

  -- the body of a line that came
  pub hears_line : (heard : SessionId → ℕ → B) (live : Live) (next : ℕ) (body : B) → is_leader n.role ≡ true → n.live ≡ Some live → body ≡ heard live.id live.next → next ≡ suc live.next
      → own_plan (Some (session live.id next)) n.attempts body n ≡ hear_plan heard n
  hears_line heard live next body a b eb en =
      ap (λ (x : B). own_plan (Some (session live.id next)) n.attempts x n) eb
      ∙ (ap (λ (k : ℕ). own_plan (Some (session live.id k)) n.attempts (heard live.id live.next) n) en
      ∙ sym (leads_to (hearing heard n n.live) a ∙ ap (λ (l : Option Live). hearing heard n l) b))

  pub claims_not : (claim : SessionId → ℕ → B) (number : Option ℕ) → n.live ≡ None → claim_plan claim number n ≡ Goes n
  claims_not claim number h = idles (claiming claim number n n.live) (ap (λ (l : Option Live). claiming claim number n l) h)

  pub claims_none : (claim : SessionId → ℕ → B) (number : Option ℕ) (live : Live) → number ≡ None → n.live ≡ Some live → claim_plan claim number n ≡ Goes n
  claims_none claim number live none h =
      idles (claiming claim number n n.live)
      (ap (λ (k : Option ℕ). claiming claim k n n.live) none ∙ ap (λ (l : Option Live). claiming claim None n l) h)
