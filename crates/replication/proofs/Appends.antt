-- The cases of an append.
use Rattle.std.proofs.Common.{◌≡◌, ℕ, ◌+◌, ◌-◌, ◌≤◌, true, false, if◌then◌else◌, List, [], ◌∷◌, ◌++◌, length, take, drop, max, min, Option, None, Some, nat_lt, refl, sym, ap, ◌∙◌, arith, length-take}
use Rattle.std.proofs.lemmas.Bool.{cond-true, cond-false}
use Rattle.raft_log.specs.declared.entry.Entry.{Entry}
use Rattle.raft_log.specs.declared.message.Message.{Message}
use Rattle.raft_log.specs.declared.node_state.Live.{Live}
use Rattle.raft_log.specs.declared.node_state.Standing.{Standing}
use Rattle.raft_log.specs.declared.position.Position.{Position}
use Rattle.raft_log.specs.declared.position.Position.TheVariants.{Follower, Candidate, Leader}
use Rattle.raft_log.specs.declared.role.Role.TheVariants.{Follower as FollowerRole}
use Rattle.raft_log.specs.declared.step.Step.{Step}
use Rattle.raft_log.specs.Batches.{batch_limit}
use Rattle.raft_log.specs.Logs.{agrees_at, conflicts_within, repair}
use Rattle.raft_log.specs.Node.{Node, is_leader}
use Rattle.raft_log.specs.Positions.{role_of, live_of}
use Rattle.raft_log.specs.Seen.{node_of}
use Rattle.raft_log.specs.Steps.{IsSending, IsStep, log_after}
use Rattle.raft_log.proofs.Conflicts.{repair-kept}
use Rattle.raft_log.proofs.Repairs.{repair_long}
use Rattle.raft_log.proofs.Sending.{sent-step, step-as, node_still, within-following}
use Rattle.replication.specs.Replication.{on_append, accepted, appended, answering, reply}

-- a node that does not lead holds no session
pub follows : (p : Position) → ((live : Option Live) → p ≡ Leader live → ⊥) → is_leader (role_of p) ≡ false
follows (Follower leader) h = refl
follows Candidate h = refl
follows (Leader live) h = absurd (h live refl)

no_session : (p : Position) → is_leader (role_of p) ≡ false → None ≡ live_of p
no_session (Follower leader) h = refl
no_session Candidate h = refl
no_session (Leader live) h = absurd cc

module _ {B : Type 0} (i from t prev prev_term commit : ℕ) (es : List (Entry B)) (s : Standing) (log : List (Entry B)) (step : Step B) where
  abbrev taken_from : Node B → Node B
  taken_from n = on_append i n from t prev prev_term es commit

  abbrev as_follower : Node B → Node B
  as_follower n = accepted i (record n { role = FollowerRole; leader = Some from }) from prev prev_term es commit

  abbrev in_term : Node B → Node B
  in_term n = if is_leader n.role then n else as_follower n

  -- a smaller term is refused
  pub older : IsSending s log (reply s.term i from false 0 ∷ []) step → nat_lt t s.term ≡ true → IsStep taken_from s log step
  older h e =
      sent-step s log (reply s.term i from false 0 ∷ []) step h s taken_from
      (λ sent. sym (cond-true (nat_lt t s.term) (answering i (node_of s log sent) from false 0) (in_term (node_of s log sent)) e))
      refl (omega arith) (omega arith) (λ w. w)

  -- a leader ignores it
  pub leading : IsSending s log [] step → nat_lt t s.term ≡ false → is_leader (role_of s.position) ≡ true → IsStep taken_from s log step
  leading h e role =
      sent-step s log [] step h s taken_from
      (λ sent.
      let now : Node B = node_of s log sent in
      node_still s log sent
      ∙ sym (cond-false (nat_lt t s.term) (answering i now from false 0) (in_term now) e ∙ cond-true (is_leader (role_of s.position)) now (as_follower now) role))
      refl (omega arith) (omega arith) (λ w. w)

  -- another node takes the sender for its leader
  pub following : nat_lt t s.term ≡ false → is_leader (role_of s.position) ≡ false
      → IsStep (λ n. accepted i n from prev prev_term es commit) (record s { position = Follower (Some from) }) log step → IsStep taken_from s log step
  following e role h =
      record {
        prepares = λ sent.
            let now : Node B = node_of s log sent in
            h.prepares sent
            ∙ (ap (λ (l : Option Live). accepted i (record now { role = FollowerRole; leader = Some from; live = l }) from prev prev_term es commit) (no_session s.position role)
            ∙ sym (cond-false (nat_lt t s.term) (answering i now from false 0) (in_term now) e ∙ cond-false (is_leader (role_of s.position)) now (as_follower now) role));
        savable = record { kept = h.savable.kept; few = h.savable.few; room = h.savable.room; boot = h.savable.boot; term = h.savable.term };
        places = λ w. h.places (within-following FollowerRole refl w.commit_within);
        committed = h.committed;
      }

  abbrev accepted_from : Node B → Node B
  accepted_from n = accepted i n from prev prev_term es commit

  abbrev unless_committed : Node B → Node B
  unless_committed n = if conflicts_within (drop prev n.log) es (n.commit - prev) then n else appended i n from prev es commit

  -- a log that does not agree refuses it
  pub refusing : (place : ℕ) → IsSending s log (reply s.term i from false place ∷ []) step → place ≡ prev → agrees_at log prev prev_term ≡ false → IsStep accepted_from s log step
  refusing place h p e =
      sent-step s log (reply s.term i from false place ∷ []) step h s accepted_from
      (λ sent. ap (λ (k : ℕ). answering i (node_of s log sent) from false k) p ∙ sym (cond-false (agrees_at log prev prev_term) (unless_committed (node_of s log sent)) (answering i (node_of s log sent) from false prev) e))
      refl (omega arith) (omega arith) (λ w. w)

  -- what conflicts with committed entries is ignored
  pub ignoring : IsSending s log [] step → agrees_at log prev prev_term ≡ true → conflicts_within (drop prev log) es (s.commit - prev) ≡ true → IsStep accepted_from s log step
  ignoring h e k =
      sent-step s log [] step h s accepted_from
      (λ sent.
      let now : Node B = node_of s log sent in
      node_still s log sent
      ∙ sym (cond-true (agrees_at log prev prev_term) (unless_committed now) (answering i now from false prev) e
      ∙ cond-true (conflicts_within (drop prev log) es (s.commit - prev)) now (appended i now from prev es commit) k))
      refl (omega arith) (omega arith) (λ w. w)

  -- all else is taken
  pub taking : IsStep (λ n. appended i n from prev es commit) s log step → agrees_at log prev prev_term ≡ true → conflicts_within (drop prev log) es (s.commit - prev) ≡ false → IsStep accepted_from s log step
  taking h e k =
      step-as (λ n. appended i n from prev es commit) accepted_from s log step
      (λ sent.
      let now : Node B = node_of s log sent in
      sym (cond-true (agrees_at log prev prev_term) (unless_committed now) (answering i now from false prev) e
      ∙ cond-false (conflicts_within (drop prev log) es (s.commit - prev)) now (appended i now from prev es commit) k))
      h

-- what the entries leave of a log and its commit
pub appends : {B : Type 0} (i from prev commit : ℕ) (es : List (Entry B)) (s : Standing) (log : List (Entry B)) (step : Step B) (commit' reached : ℕ)
    → step.standing ≡ record s { commit = commit' } → step.messages.items ≡ reply s.term i from true reached ∷ []
    → reached ≡ prev + length es → commit' ≡ max s.commit (min commit reached)
    → log_after log step ≡ repair log prev es → step.keep ≤ length log → length step.entries.items ≤ length es → step.keep + length step.entries.items ≤ 1000000
    → length es ≤ batch_limit → prev ≤ length log → is_leader (role_of s.position) ≡ false → conflicts_within (drop prev log) es (s.commit - prev) ≡ false
    → IsStep (λ n. appended i n from prev es commit) s log step
appends {B} i from prev commit es s log step commit' reached new sends at rises repaired kept few room short within role none =
    let c : step.standing.commit ≡ commit' = ap (λ (n : Standing). n.commit) new in
    let t : step.standing.term ≡ s.term = ap (λ (n : Standing). n.term) new in
    let stays : s.commit ≤ length log → take s.commit (log_after log step) ≡ take s.commit log =
    λ below. ap (take s.commit) repaired ∙ repair-kept log prev s.commit es within below none
    in
    let long : reached ≤ length (log_after log step) = omega (arith, repair_long log prev es within, ap (length {A = Entry B}) repaired) in
    record {
      prepares = λ sent.
          let mk : ℕ → ℕ → List (Entry B) → Node B = λ k r l. node_of (record s { commit = k }) l (sent ++ reply s.term i from true r ∷ []) in
          ap (λ (n : Standing). node_of n (log_after log step) (sent ++ step.messages.items)) new
          ∙ (ap (λ (ms : List (Message B)). node_of (record s { commit = commit' }) (log_after log step) (sent ++ ms)) sends
          ∙ (ap (λ (k : ℕ). mk k reached (log_after log step)) rises
          ∙ (ap (λ (r : ℕ). mk (max s.commit (min commit r)) r (log_after log step)) at
          ∙ ap (λ (l : List (Entry B)). mk (max s.commit (min commit (prev + length es))) (prev + length es) l) repaired)));
      savable = record { kept = kept; few = omega arith; room = room; boot = ap (λ (n : Standing). n.boot) new; term = omega arith };
      places = λ w.
          let below : s.commit ≤ length (log_after log step) =
          omega (arith, ap (length {A = Entry B}) (stays w.commit_within), length-take s.commit log, length-take s.commit (log_after log step), w.commit_within)
          in
          within-following (role_of step.standing.position) (ap (λ (n : Standing). is_leader (role_of n.position)) new ∙ role) (omega (arith, c, rises, long, below));
      committed = (stays, omega (arith, c, rises));
    }
