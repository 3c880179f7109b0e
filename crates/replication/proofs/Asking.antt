-- The cases of a body that a node gets.
use Rattle.std.proofs.Common.{zero, get_or, pred, ◌-◌, inl, inr, ◌≡◌, ℕ, suc, ◌+◌, ◌<◌, ◌≤◌, Bool, true, false, ◌&&◌, nat_lt, List, [], ◌∷◌, ◌++◌, map, length, take, All, Option, None, Some, refl, sym, ap, ◌∙◌, subst, arith, length-append}
use Rattle.std.proofs.lemmas.Bool.{cond-true, cond-false, cases_lt}
use Rattle.std.proofs.lemmas.List.Elements.{All-get_or, All-from_get_or}
use Rattle.raft_log.specs.Lists.{item_or, others}
use Rattle.replication.specs.Replication.{beat, append_for}
use Rattle.std.proofs.lemmas.List.{take_all, take-append-le}
use Rattle.raft_log.specs.declared.entry.Entry.{Entry}
use Rattle.raft_log.specs.declared.message.Message.{Message}
use Rattle.raft_log.specs.declared.message.Kind.TheVariants.{Forward}
use Rattle.raft_log.specs.declared.node_state.Live.{Live}
use Rattle.raft_log.specs.declared.node_state.Standing.{Standing}
use Rattle.raft_log.specs.declared.position.Position.{Position}
use Rattle.raft_log.specs.declared.position.Position.TheVariants.{Follower, Candidate, Leader}
use Rattle.raft_log.specs.declared.step.Step.{Step}
use Rattle.raft_log.specs.Logs.{entry_limit}
use Rattle.raft_log.specs.Node.{Node, is_leader, is_candidate, message}
use Rattle.raft_log.specs.Positions.{role_of, leader_of}
use Rattle.raft_log.specs.Seen.{node_of, Becomes}
use Rattle.raft_log.specs.Steps.{IsSending, IsStep, IsNextWithin, IsWithinLog, log_after}
use Rattle.raft_log.proofs.Sending.{sent-step, step-as, node_still}
use Rattle.election.specs.Elections as election
use Rattle.replication.specs.Replication.{appending, on_forward, forwarded, ask, on_vote}

all_with : {P Q : ℕ → Type 0} → ((x : ℕ) → P x → Q x) → (xs : List ℕ) → All P xs → All Q xs
all_with {P} {Q} f xs h = All-from_get_or Q xs 0 (λ i lt. f (get_or xs i 0) (All-get_or P xs i 0 lt h))

all_more : (last last' : ℕ) → last ≤ last' → (xs : List ℕ) → All (IsNextWithin last) xs → All (IsNextWithin last') xs
all_more last last' le xs h = all_with {P = IsNextWithin last} {Q = IsNextWithin last'} (λ x w. (w.0, omega (arith, w.1))) xs h

match_more : (last last' : ℕ) → last ≤ last' → (xs : List ℕ) → All (λ m. m ≤ last) xs → All (λ m. m ≤ last') xs
match_more last last' le xs h = all_with {P = λ m. m ≤ last} {Q = λ m. m ≤ last'} (λ x w. omega (arith, w)) xs h

pub get_or-past : (xs : List ℕ) (k d : ℕ) → length xs ≤ k → get_or xs k d ≡ d
get_or-past [] k d h = refl
get_or-past (x ∷ xs) zero d h = absurd (omega arith)
get_or-past (x ∷ xs) (suc k) d h = get_or-past xs k d (omega arith)

-- a place in a list of places within a log, or 0
pub item-within : (last : ℕ) (xs : List ℕ) (j : ℕ) → All (IsNextWithin last) xs → item_or xs j 0 ≤ suc last
item-within last xs zero h = omega arith
item-within last xs (suc k) h =
    elim (cases_lt k (length xs)) [
      | inl lt ↦ (All-get_or (IsNextWithin last) xs k 0 lt h).1
      | inr ge ↦ let none : get_or xs k 0 ≡ 0 = get_or-past xs k 0 ge in omega arith
    ]

pub pred-is : (n : ℕ) → pred n ≡ n - 1
pred-is zero = omega arith
pred-is (suc n) = omega arith

pub leads : (p : Position) (live : Option Live) → p ≡ Leader live → is_leader (role_of p) ≡ true
leads p live e = ap (λ (q : Position). is_leader (role_of q)) e

pub leads_not : (p : Position) → ((live : Option Live) → p ≡ Leader live → ⊥) → is_leader (role_of p) ≡ false
leads_not (Follower leader) h = refl
leads_not Candidate h = refl
leads_not (Leader live) h = absurd (h live refl)

pub candidate_not : (p : Position) → (p ≡ Candidate → ⊥) → is_candidate (role_of p) ≡ false
candidate_not (Follower leader) h = refl
candidate_not Candidate h = absurd (h refl)
candidate_not (Leader live) h = refl

module _ {B : Type 0} (s : Standing) (log : List (Entry B)) (step : Step B) (body : B) where
  -- an entry after the log
  pub adds : (e : Entry B) → step.standing ≡ s → step.keep ≡ length log → step.entries.items ≡ e ∷ [] → step.messages.items ≡ [] → e ≡ record { term = s.term; body = body }
      → length log < entry_limit → IsStep (λ n. appending n body) s log step
  adds e new keep added silent is room =
      let after : log_after log step ≡ log ++ e ∷ [] =
      ap (λ (k : ℕ). take k log ++ step.entries.items) keep
      ∙ (ap (λ (l : List (Entry B)). l ++ step.entries.items) (take_all (length log) log (omega arith)) ∙ ap (λ (es : List (Entry B)). log ++ es) added)
      in
      let one : length step.entries.items ≡ 1 = ap (length {A = Entry B}) added in
      let long : length (log_after log step) ≡ length log + 1 = omega (arith, ap (length {A = Entry B}) after, length-append log (e ∷ [])) in
      let commit : step.standing.commit ≡ s.commit = ap (λ (n : Standing). n.commit) new in
      let term : step.standing.term ≡ s.term = ap (λ (n : Standing). n.term) new in
      record {
        prepares = λ sent.
            ap (λ (n : Standing). node_of n (log_after log step) (sent ++ step.messages.items)) new
            ∙ (ap (λ (ms : List (Message B)). node_of s (log_after log step) (sent ++ ms)) silent
            ∙ (node_still s (log_after log step) sent
            ∙ (ap (λ (l : List (Entry B)). node_of s l sent) after ∙ ap (λ (x : Entry B). node_of s (log ++ x ∷ []) sent) is)));
        savable = record { kept = omega (arith, keep); few = omega arith; room = omega (arith, keep); boot = ap (λ (n : Standing). n.boot) new; term = omega arith };
        places = λ w.
            subst (λ (n : Standing). IsWithinLog n (log_after log step)) (sym new) (record {
              commit_within = omega (arith, w.commit_within);
              next_within = λ t. all_more (length log) (length (log_after log step)) (omega arith) s.peers.next (w.next_within t);
              match_within = λ t. match_more (length log) (length (log_after log step)) (omega arith) s.peers.matched (w.match_within t);
            });
        committed = (λ below. ap (take s.commit) after ∙ take-append-le s.commit log (e ∷ []) below, omega arith);
      }

  pub forwards : IsStep (λ n. appending n body) s log step → is_leader (role_of s.position) ≡ true → length log < entry_limit → IsStep (λ n. on_forward n body) s log step
  forwards h role room =
      let both : (is_leader (role_of s.position) && nat_lt (length log) entry_limit) ≡ true = ap (λ (b : Bool). b && nat_lt (length log) entry_limit) role ∙ grind arith in
      step-as (λ n. appending n body) (λ n. on_forward n body) s log step
      (λ sent. sym (cond-true (is_leader (role_of s.position) && nat_lt (length log) entry_limit) (appending (node_of s log sent) body) (node_of s log sent) both)) h

  stays : IsSending s log [] step → (f : Node B → Node B) → ((sent : List (Message B)) → f (node_of s log sent) ≡ node_of s log sent) → IsStep f s log step
  stays h f e = sent-step s log [] step h s f (λ sent. node_still s log sent ∙ sym (e sent)) refl (omega arith) (omega arith) (λ w. w)

  pub drops_full : IsSending s log [] step → is_leader (role_of s.position) ≡ true → entry_limit ≤ length log → IsStep (λ n. on_forward n body) s log step
  drops_full h role full =
      let either : (is_leader (role_of s.position) && nat_lt (length log) entry_limit) ≡ false = ap (λ (b : Bool). b && nat_lt (length log) entry_limit) role ∙ grind arith in
      stays h (λ n. on_forward n body) (λ sent. cond-false _ (appending (node_of s log sent) body) (node_of s log sent) either)

  pub drops : IsSending s log [] step → is_leader (role_of s.position) ≡ false → IsStep (λ n. on_forward n body) s log step
  drops h role =
      let either : (is_leader (role_of s.position) && nat_lt (length log) entry_limit) ≡ false = ap (λ (b : Bool). b && nat_lt (length log) entry_limit) role in
      stays h (λ n. on_forward n body) (λ sent. cond-false _ (appending (node_of s log sent) body) (node_of s log sent) either)

  pub leader_asks : (i : ℕ) → IsStep (λ n. on_forward n body) s log step → is_leader (role_of s.position) ≡ true → IsStep (λ n. ask i n body) s log step
  leader_asks i h role =
      step-as (λ n. on_forward n body) (λ n. ask i n body) s log step
      (λ sent. sym (cond-true (is_leader (role_of s.position)) (on_forward (node_of s log sent) body) (forwarded i (node_of s log sent) body (leader_of s.position)) role)) h

  pub asks_none : (i : ℕ) → IsSending s log [] step → is_leader (role_of s.position) ≡ false → leader_of s.position ≡ None → IsStep (λ n. ask i n body) s log step
  asks_none i h role none =
      stays h (λ n. ask i n body) (λ sent.
      cond-false (is_leader (role_of s.position)) (on_forward (node_of s log sent) body) (forwarded i (node_of s log sent) body (leader_of s.position)) role
      ∙ ap (λ (l : Option ℕ). forwarded i (node_of s log sent) body l) none)

  pub asks_leader : (i j own to : ℕ) → IsSending s log (message s.term own to (Forward body) ∷ []) step → own ≡ i → to ≡ j
      → is_leader (role_of s.position) ≡ false → leader_of s.position ≡ Some j → IsStep (λ n. ask i n body) s log step
  asks_leader i j own to h a b role some =
      sent-step s log (message s.term own to (Forward body) ∷ []) step h s (λ n. ask i n body)
      (λ sent.
      let now : Node B = node_of s log sent in
      ap (λ (k : ℕ). node_of s log (sent ++ message s.term k to (Forward body) ∷ [])) a
      ∙ (ap (λ (k : ℕ). node_of s log (sent ++ message s.term i k (Forward body) ∷ [])) b
      ∙ sym (cond-false (is_leader (role_of s.position)) (on_forward now body) (forwarded i now body (leader_of s.position)) role ∙ ap (λ (l : Option ℕ). forwarded i now body l) some)))
      refl (omega arith) (omega arith) (λ w. w)

  -- a vote that is counted, and what it appends
  pub votes : (size from t : ℕ) (granted : Bool) (known : Standing) → is_candidate (role_of s.position) ≡ true
      → Becomes (λ n. election.on_vote size n from t granted) s log known → known.boot ≡ s.boot → known.term ≡ s.term → known.commit ≡ s.commit → (IsWithinLog s log → IsWithinLog known log)
      → IsStep (λ n. on_forward n body) known log step → IsStep (λ n. on_vote body size n from t granted) s log step
  votes size from t granted known role becomes boot term commit keeps h =
      record {
        prepares = λ sent.
            h.prepares sent
            ∙ (ap (λ (n : Node B). on_forward n body) (becomes sent)
            ∙ sym (cond-true (is_candidate (role_of s.position)) (on_forward (election.on_vote size (node_of s log sent) from t granted) body) (node_of s log sent) role));
        savable = record { kept = h.savable.kept; few = h.savable.few; room = h.savable.room; boot = h.savable.boot ∙ boot; term = omega (arith, h.savable.term) };
        places = λ w. h.places (keeps w);
        committed = subst (λ (k : ℕ). (k ≤ length log → take k (log_after log step) ≡ take k log) × (k ≤ step.standing.commit)) commit h.committed;
      }

  pub votes_not : (size from t : ℕ) (granted : Bool) → IsSending s log [] step → is_candidate (role_of s.position) ≡ false → IsStep (λ n. on_vote body size n from t granted) s log step
  votes_not size from t granted h role =
      stays h (λ n. on_vote body size n from t granted)
      (λ sent. cond-false (is_candidate (role_of s.position)) (on_forward (election.on_vote size (node_of s log sent) from t granted) body) (node_of s log sent) role)

module _ {B : Type 0} (s : Standing) (log : List (Entry B)) (step : Step B) (size i : ℕ) where
  -- a leader sends to the others
  pub beats : (messages : List (Message B)) → IsSending s log messages step → is_leader (role_of s.position) ≡ true
      → messages ≡ map (append_for i (node_of s log [])) (others size i) → IsStep (beat size i) s log step
  beats messages h role e =
      sent-step s log messages step h s (beat size i)
      (λ sent.
      let now : Node B = node_of s log sent in
      ap (λ (ms : List (Message B)). node_of s log (sent ++ ms)) e
      ∙ sym (cond-true (is_leader (role_of s.position)) (record now { sent = sent ++ map (append_for i now) (others size i) }) now role))
      refl (omega arith) (omega arith) (λ w. w)

  pub beats_not : IsSending s log [] step → is_leader (role_of s.position) ≡ false → IsStep (beat size i) s log step
  beats_not h role =
      sent-step s log [] step h s (beat size i)
      (λ sent.
      let now : Node B = node_of s log sent in
      node_still s log sent ∙ sym (cond-false (is_leader (role_of s.position)) (record now { sent = sent ++ map (append_for i now) (others size i) }) now role))
      refl (omega arith) (omega arith) (λ w. w)
