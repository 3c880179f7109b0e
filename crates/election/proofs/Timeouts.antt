-- The cases of a timeout.
use Rattle.std.proofs.Common.{◌≡◌, ℕ, suc, ◌+◌, ◌^◌, Bool, true, false, ◌||◌, nat_le, List, [], ◌++◌, length, replicate, Option, None, Some, refl, sym, ap, ◌∙◌, arith}
use Rattle.std.proofs.lemmas.Bool.{cond-true, cond-false}
use Rattle.raft_log.specs.declared.entry.Entry.{Entry}
use Rattle.raft_log.specs.declared.message.Message.{Message}
use Rattle.raft_log.specs.declared.node_state.Live.{Live}
use Rattle.raft_log.specs.declared.node_state.Standing.{Standing}
use Rattle.raft_log.specs.declared.position.Position.{Position}
use Rattle.raft_log.specs.declared.position.Position.TheVariants.{Follower, Candidate, Leader}
use Rattle.raft_log.specs.declared.step.Step.{Step}
use Rattle.raft_log.specs.Lists.{with_item}
use Rattle.raft_log.specs.Logs.{last_term}
use Rattle.raft_log.specs.Node.{Node, is_leader}
use Rattle.raft_log.specs.Peers.{PeerLists}
use Rattle.raft_log.specs.Positions.{role_of, live_of}
use Rattle.raft_log.specs.Seen.{node_of}
use Rattle.raft_log.specs.Steps.{IsSending, Prepares}
use Rattle.raft_log.proofs.Sending.{sent-prepares, node_still}
use Rattle.election.specs.Elections.{timed_out, asking, vote_requests}

-- a node that does not lead holds no session
pub no_session : (p : Position) → is_leader (role_of p) ≡ false → live_of p ≡ None
no_session (Follower leader) h = refl
no_session Candidate h = refl
no_session (Leader live) h = absurd cc

-- a position that is not a leader's
pub follows : (p : Position) → ((live : Option Live) → p ≡ Leader live → ⊥) → is_leader (role_of p) ≡ false
follows (Follower leader) h = refl
follows Candidate h = refl
follows (Leader live) h = absurd (h live refl)

either_left : (a b : Bool) → a ≡ true → (a || b) ≡ true
either_left a b h = ap (λ (x : Bool). x || b) h

either_right : (a b : Bool) → b ≡ true → (a || b) ≡ true
either_right true b h = refl
either_right false b h = h

neither : (a b : Bool) → a ≡ false → b ≡ false → (a || b) ≡ false
neither a b h k = ap (λ (x : Bool). x || b) h ∙ k

module _ {B : Type 0} (size i : ℕ) (s : Standing) (log : List (Entry B)) (step : Step B) where
  still : IsSending s log [] step → (is_leader (role_of s.position) || nat_le (2 ^ 60) s.term) ≡ true → Prepares (timed_out size i) s log step
  still h e =
      sent-prepares s log [] step h s (timed_out size i) (λ sent.
      node_still s log sent ∙ sym (cond-true _ (node_of s log sent) (asking size i (node_of s log sent)) e))

  -- a leader does nothing
  pub leads : IsSending s log [] step → is_leader (role_of s.position) ≡ true → Prepares (timed_out size i) s log step
  leads h e = still h (either_left _ _ e)

  -- nor does a node whose terms are spent
  pub spent : IsSending s log [] step → nat_le (2 ^ 60) s.term ≡ true → Prepares (timed_out size i) s log step
  spent h e = still h (either_right _ _ e)

  -- another begins the next term
  pub begins : (term : ℕ) (peers : PeerLists) (messages : List (Message B))
      → IsSending (record s { term = term; vote = Some i; position = Candidate; peers = peers }) log messages step
      → is_leader (role_of s.position) ≡ false → nat_le (2 ^ 60) s.term ≡ false → term ≡ s.term + 1
      → peers ≡ record s.peers { voters = with_item (replicate size false) i true }
      → messages ≡ vote_requests size i term (length log) (last_term log)
      → Prepares (timed_out size i) s log step
  begins term peers messages h role few next only asks =
      sent-prepares (record s { term = term; vote = Some i; position = Candidate; peers = peers }) log messages step h s (timed_out size i) (λ sent.
      let t : term ≡ suc s.term = omega arith in
      let now : Node B = node_of s log sent in
      let live : live_of s.position ≡ None = no_session s.position role in
      let mk : ℕ → PeerLists → List (Message B) → Node B = λ x p ms. node_of (record s { term = x; vote = Some i; position = Candidate; peers = p }) log (sent ++ ms) in
      let mine : PeerLists = record s.peers { voters = with_item (replicate size false) i true } in
      let requests : messages ≡ vote_requests size i (suc s.term) (length log) (last_term log) = asks ∙ ap (λ (x : ℕ). vote_requests size i x (length log) (last_term log)) t in
      let same : mk term peers messages ≡ asking size i now =
      ap (λ (x : ℕ). mk x peers messages) t
      ∙ (ap (λ (p : PeerLists). mk (suc s.term) p messages) only
      ∙ (ap (λ (ms : List (Message B)). mk (suc s.term) mine ms) requests
      ∙ ap (λ (l : Option Live). record (asking size i now) { live = l }) (sym live)))
      in
      same ∙ sym (cond-false _ now (asking size i now) (neither _ _ role few)))
