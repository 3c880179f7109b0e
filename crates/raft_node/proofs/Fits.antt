-- A node's lists are of its group's size, a leader's next places and matches are within its log, and only a follower
-- knows who leads.
use Rattle.std.proofs.Common.{◌≡◌, ℕ, zero, suc, ◌-◌, ◌≤◌, max, Bool, true, false, ◌&&◌, ◌||◌, ltb, leb, eqb, List, [], ◌∷◌, ◌++◌, ⊎_elim, Option, Some, None, length, replicate, drop, refl, ◌∙◌, arith, length-append}
use Rattle.std.specs.Prelude.{◌^◌}
use Rattle.std.proofs.Math.ListN.{length-replicate}
use Rattle.std.proofs.lemmas.Bool.{cond_both, and_parts, leb-true}
use Rattle.raft_log.specs.declared.message.Kind.{Kind}
use Rattle.raft_log.specs.declared.message.Kind.TheVariants.{RequestVote, Vote, Append, AppendReply, Forward}
use Rattle.raft_log.specs.declared.message.Message.{Message}
use Rattle.raft_log.specs.declared.role.Role.{Role}
use Rattle.raft_log.specs.declared.role.Role.TheVariants.{Follower, Candidate, Leader}
use Rattle.raft_log.specs.Lists.{item_or, with_item}
use Rattle.raft_log.specs.Logs.{entry_limit, agrees_at, conflicts_within}
use Rattle.raft_log.specs.Node.{Node, is_leader, is_candidate, raised}
use Rattle.raft_log.specs.Votes.{majority}
use Rattle.election.specs.Elections as election
use Rattle.election.specs.Elections.{timed_out, grants, leading}
use Rattle.replication.specs.Replication.{beat, with_match, advanced, stepped_back, on_append_reply, on_forward, forwarded, ask}
use Rattle.node_steps.specs.Messages.{handled, is_heard, on_message}
use Rattle.raft_node.proofs.Items.{item-with_cases, length-with_item}

-- next places and matches of a log of this length
pub record Within (n l : ℕ) (next matched : List ℕ) : Type 0 where
  pub at : (j : ℕ) → 1 ≤ j → j ≤ n → (1 ≤ item_or next j 0) × (item_or next j 0 ≤ suc l) × (item_or matched j 0 ≤ l)

within_more : (n l m : ℕ) (next matched : List ℕ) → l ≤ m → Within n l next matched → Within n m next matched
within_more n l m next matched le w =
    record { at = λ j a b. let r = w.at j a b in (r.0, omega (arith, r.1), omega (arith, r.2)) }

get_replicate : (n j x : ℕ) → suc j ≤ n → item_or (replicate n x) (suc j) 0 ≡ x
get_replicate zero j x h = absurd (omega arith)
get_replicate (suc n) zero x h = refl
get_replicate (suc n) (suc j) x h = get_replicate n j x (omega arith)

at_replicate : (n j x : ℕ) → 1 ≤ j → j ≤ n → item_or (replicate n x) j 0 ≡ x
at_replicate n zero x h k = absurd (omega arith)
at_replicate n (suc j) x h k = get_replicate n j x k

pub within_new : (n l : ℕ) → Within n l (replicate n (suc l)) (replicate n 0)
within_new n l =
    record {
      at = λ j a b.
          let p : item_or (replicate n (suc l)) j 0 ≡ suc l = at_replicate n j (suc l) a b in
          let q : item_or (replicate n 0) j 0 ≡ 0 = at_replicate n j 0 a b in
          (omega (arith, p), omega (arith, p), omega (arith, q));
    }

-- a place is written over
within_next : (n l : ℕ) (next matched : List ℕ) (k x : ℕ) → 1 ≤ x → x ≤ suc l → Within n l next matched → Within n l (with_item next k x) matched
within_next n l next matched k x low high w =
    record {
      at = λ j a b.
          let r = w.at j a b in
          ⊎_elim
          (λ h. (omega (arith, h.1, low), omega (arith, h.1, high), r.2))
          (λ h. (omega (arith, h, r.0), omega (arith, h, r.1), r.2))
          (item-with_cases next k j x 0);
    }

within_match : (n l : ℕ) (next matched : List ℕ) (k x : ℕ) → x ≤ l → Within n l next matched → Within n l next (with_item matched k x)
within_match n l next matched k x high w =
    record {
      at = λ j a b.
          let r = w.at j a b in
          ⊎_elim
          (λ h. (r.0, r.1, omega (arith, h.1, high)))
          (λ h. (r.0, r.1, omega (arith, h, r.2)))
          (item-with_cases matched k j x 0);
    }

follower_leads : {X : Type 0} → Follower ≡ Leader → X
follower_leads e = absurd (cc e)

candidate_leads : {X : Type 0} → Candidate ≡ Leader → X
candidate_leads e = absurd (cc e)

candidate_knows : {X : Type 0} (r : Role) → is_candidate r ≡ true → r ≡ Follower → X
candidate_knows Follower h e = absurd (cc h)
candidate_knows Candidate h e = absurd (cc e)
candidate_knows Leader h e = absurd (cc e)

candidate_led : {X : Type 0} (r : Role) → is_candidate r ≡ true → r ≡ Leader → X
candidate_led Follower h e = absurd (cc e)
candidate_led Candidate h e = absurd (cc e)
candidate_led Leader h e = absurd (cc h)

pub no_leader : {r : Role} (o : Option ℕ) → o ≡ None → (j : ℕ) → o ≡ Some j → r ≡ Follower
no_leader o e j h = absurd (cc (e, h))

module _ {B : Type 0} where
  pub record Fits (n : ℕ) (s : Node B) : Type 0 where
    pub knows : (j : ℕ) → s.leader ≡ Some j → s.role ≡ Follower
    pub voters_long : length s.voters ≡ n
    pub next_long : length s.next ≡ n
    pub matched_long : length s.matched ≡ n
    pub within : s.role ≡ Leader → Within n (length s.log) s.next s.matched

  module _ (n i : ℕ) (s : Node B) (h : Fits n s) where
    raised_fits : (t : ℕ) → Fits n (raised s t)
    raised_fits t =
        cond_both (ltb s.term t) _ s (λ z. Fits n z)
        (λ c. record { knows = λ j e. refl; voters_long = h.voters_long; next_long = h.next_long; matched_long = h.matched_long; within = λ e. follower_leads e })
        (λ c. h)

    pub timeout_fits : Fits n (timed_out n i s)
    timeout_fits =
        cond_both (is_leader s.role || leb (2 ^ 60) s.term) s _ (λ z. Fits n z) (λ c. h)
        (λ c. record {
          knows = λ j e. absurd (cc e);
          voters_long = length-with_item (replicate n false) i true ∙ length-replicate n false;
          next_long = h.next_long;
          matched_long = h.matched_long;
          within = λ e. candidate_leads e;
        })

    pub beat_fits : Fits n (beat n i s)
    beat_fits =
        cond_both (is_leader s.role) _ s (λ z. Fits n z)
        (λ c. record { knows = h.knows; voters_long = h.voters_long; next_long = h.next_long; matched_long = h.matched_long; within = h.within }) (λ c. h)

    pub forward_fits : (b : B) → Fits n (on_forward s b)
    forward_fits b =
        cond_both (is_leader s.role && ltb (length s.log) entry_limit) _ s (λ z. Fits n z)
        (λ c. record {
          knows = h.knows;
          voters_long = h.voters_long;
          next_long = h.next_long;
          matched_long = h.matched_long;
          within = λ e. within_more n (length s.log) (length (s.log ++ record { term = s.term; body = b } ∷ [])) s.next s.matched (omega (arith, length-append s.log (record { term = s.term; body = b } ∷ []))) (h.within e);
        })
        (λ c. h)

    pub ask_fits : (b : B) → Fits n (ask i s b)
    ask_fits b = cond_both (is_leader s.role) (on_forward s b) (forwarded i s b s.leader) (λ z. Fits n z) (λ c. forward_fits b) (λ c. to_leader s.leader)
      where
        to_leader : (o : Option ℕ) → Fits n (forwarded i s b o)
        to_leader None = h
        to_leader (Some j) = record { knows = h.knows; voters_long = h.voters_long; next_long = h.next_long; matched_long = h.matched_long; within = h.within }

    vote_fits : (from t : ℕ) (granted : Bool) → Fits n (election.on_vote n s from t granted)
    vote_fits from t granted =
        cond_both (is_candidate s.role && (eqb s.term t && granted)) _ s (λ z. Fits n z)
        (λ c.
        let asks : is_candidate s.role ≡ true = (and_parts (is_candidate s.role) _ c).0 in
        let long : length (with_item s.voters from true) ≡ n = length-with_item s.voters from true ∙ h.voters_long in
        cond_both (majority n (with_item s.voters from true)) (leading n (record s { voters = with_item s.voters from true })) (record s { voters = with_item s.voters from true }) (λ z. Fits n z)
        (λ k. record {
          knows = λ j e. absurd (cc e);
          voters_long = long;
          next_long = length-replicate n (suc (length s.log));
          matched_long = length-replicate n 0;
          within = λ e. within_new n (length s.log);
        })
        (λ k. record { knows = h.knows; voters_long = long; next_long = h.next_long; matched_long = h.matched_long; within = λ e. candidate_led s.role asks e }))
        (λ c. h)

    -- the sender is one of the group
    reply_fits : (from t : ℕ) (ok : Bool) (place : ℕ) → 1 ≤ from → from ≤ n → Fits n (on_append_reply n i s from t ok place)
    reply_fits from t ok place low high =
        cond_both (is_leader s.role && (eqb s.term t && leb place (length s.log))) _ s (λ z. Fits n z)
        (λ c.
        let r = and_parts (is_leader s.role) _ c in
        let le : place ≤ length s.log = leb-true place (length s.log) (and_parts (eqb s.term t) _ r.1).1 in
        cond_both ok (advanced n i (with_match s from place)) (stepped_back s from place) (λ z. Fits n z)
        (λ d. record {
          knows = h.knows;
          voters_long = h.voters_long;
          next_long = length-with_item s.next from (suc (max place (item_or s.matched from 0))) ∙ h.next_long;
          matched_long = length-with_item s.matched from (max place (item_or s.matched from 0)) ∙ h.matched_long;
          within = λ e.
              let w : Within n (length s.log) s.next s.matched = h.within e in
              let m : item_or s.matched from 0 ≤ length s.log = (w.at from low high).2 in
              within_match n (length s.log) (with_item s.next from (suc (max place (item_or s.matched from 0)))) s.matched from (max place (item_or s.matched from 0)) (omega (arith, le, m))
              (within_next n (length s.log) s.next s.matched from (suc (max place (item_or s.matched from 0))) (omega arith) (omega (arith, le, m)) w);
        })
        (λ d. cond_both (eqb (item_or s.next from 0) (suc place)) _ s (λ z. Fits n z)
        (λ e. record {
          knows = h.knows;
          voters_long = h.voters_long;
          next_long = length-with_item s.next from (max 1 place) ∙ h.next_long;
          matched_long = h.matched_long;
          within = λ l. within_next n (length s.log) s.next s.matched from (max 1 place) (omega arith) (omega (arith, le)) (h.within l);
        })
        (λ e. h)))
        (λ c. h)

  module _ (blank : B) (n i : ℕ) (s : Node B) (h : Fits n s) where
    handled_fits : (m : Message B) (k : Kind B) → 1 ≤ m.from → m.from ≤ n → Fits n (handled blank n i s m k)
    handled_fits m (RequestVote l u) low high =
        cond_both (grants s m.from m.term l u) _ _ (λ z. Fits n z)
        (λ c. record { knows = h.knows; voters_long = h.voters_long; next_long = h.next_long; matched_long = h.matched_long; within = h.within })
        (λ c. record { knows = h.knows; voters_long = h.voters_long; next_long = h.next_long; matched_long = h.matched_long; within = h.within })
    handled_fits m (Vote granted) low high =
        cond_both (is_candidate s.role) (on_forward (election.on_vote n s m.from m.term granted) blank) s (λ z. Fits n z)
        (λ c. forward_fits n i (election.on_vote n s m.from m.term granted) (vote_fits n i s h m.from m.term granted) blank)
        (λ c. h)
    handled_fits m (Append b) low high =
        cond_both (ltb m.term s.term) _ _ (λ z. Fits n z)
        (λ c. record { knows = h.knows; voters_long = h.voters_long; next_long = h.next_long; matched_long = h.matched_long; within = h.within })
        (λ c. cond_both (is_leader s.role) s _ (λ z. Fits n z) (λ x. h)
        (λ x. cond_both (agrees_at s.log b.prev_index b.prev_term) _ _ (λ z. Fits n z)
        (λ y. cond_both (conflicts_within (drop b.prev_index s.log) b.entries (s.commit - b.prev_index)) _ _ (λ z. Fits n z)
        (λ q. record { knows = λ j e. refl; voters_long = h.voters_long; next_long = h.next_long; matched_long = h.matched_long; within = λ e. follower_leads e })
        (λ q. record { knows = λ j e. refl; voters_long = h.voters_long; next_long = h.next_long; matched_long = h.matched_long; within = λ e. follower_leads e }))
        (λ y. record { knows = λ j e. refl; voters_long = h.voters_long; next_long = h.next_long; matched_long = h.matched_long; within = λ e. follower_leads e })))
    handled_fits m (AppendReply ok place) low high = reply_fits n i s h m.from m.term ok place low high
    handled_fits m (Forward b) low high = forward_fits n i s h b

  pub message_fits : (blank : B) (n i : ℕ) (s : Node B) → Fits n s → (m : Message B) → Fits n (on_message blank n i s m)
  message_fits blank n i s h m =
      cond_both (is_heard n i m) (handled blank n i (raised s m.term) m m.kind) s (λ z. Fits n z)
      (λ c.
      let r = and_parts (eqb m.to i) _ c in
      let q = and_parts (leb 1 m.from) _ ((and_parts _ _ r.1).1) in
      handled_fits blank n i (raised s m.term) (raised_fits n i s h m.term) m m.kind (leb-true 1 m.from q.0) (leb-true m.from n q.1))
      (λ c. h)
