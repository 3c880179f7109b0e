-- What a change of the ghost keeps.
use Rattle.std.proofs.Common.{◌≡◌, ℕ, zero, suc, ◌<◌, ◌≤◌, Bool, true, false, List, [], ◌∷◌, Option, Some, length, refl, sym, ap, subst, ◌∙◌, arith, inl, inr, ⊎_elim}
use Rattle.raft_log.specs.declared.entry.Entry.{Entry}
use Rattle.raft_log.specs.declared.message.Kind.{Kind}
use Rattle.raft_log.specs.declared.message.Kind.TheVariants.{RequestVote, Vote, Append, AppendReply, Forward}
use Rattle.raft_log.specs.declared.message.Message.{Message}
use Rattle.raft_log.specs.declared.role.Role.{Role}
use Rattle.raft_log.specs.declared.role.Role.TheVariants.{Follower, Candidate, Leader}
use Rattle.raft_log.specs.Node.{Node}
use Rattle.raft_log.specs.Logs.{last_term}
use Rattle.agreement.specs.World.{Begins}
use Rattle.agreement.proofs.Lists.{begins_self, begins_trans, begins_shorter, begins_nil}
use Rattle.agreement.proofs.Counts.{majorities_meet}
use Rattle.agreement.proofs.Ghost.{Ghost, Sound, Carried, Fact, Chosen, GhostOk, KindOk, AllOk, CandidateOk, LeaderOk, RoleOk, NodeOk, Held}

module _ {B : Type 0} where
  -- what was chosen is in the log of each later leader when it was elected

  pub complete : (n : ℕ) (g : Ghost B) (ok : GhostOk n g) (p : List (Entry B)) (ch : Chosen n g p) (fuel x c : ℕ) → x ≤ fuel → ch.term < x → g.owner x ≡ Some c → Begins p (g.runs x c)
  complete n g ok p ch zero x c le lt own = absurd (omega arith)
  complete n g ok p ch (suc f) x c le lt own =
      let m = majorities_meet n (g.won x) ch.who (ok.won_length x c own, ok.won_majority x c own) (ch.who_length, ch.who_majority) in
      let earlier : Carried g ch.term x p = record { by = λ u d tu ux ou. complete n g ok p ch f u d (omega arith) tu ou } in
      (ok.won_facts x c m.0 own m.1).holds ch.term p lt ch.of_ledger ch.ends (ch.who_acked m.0 m.2) earlier

  -- how the ghost may change

  pub record Extends (g g' : Ghost B) : Type 0 where
    pub ballots : (v t c : ℕ) → g.ballot v t ≡ Some c → g'.ballot v t ≡ Some c
    pub owners : (t c : ℕ) → g.owner t ≡ Some c → g'.owner t ≡ Some c
    pub boots_kept : (t c : ℕ) → g.owner t ≡ Some c → g'.boots t ≡ g.boots t
    pub runs_kept : (t c : ℕ) → g.ballot c t ≡ Some c → g'.runs t c ≡ g.runs t c
    pub ledgers : (t : ℕ) → Begins (g.ledger t) (g'.ledger t)
    pub ackeds : (v t : ℕ) → g.acked v t ≤ g'.acked v t
    pub acked_kept : (v t x c : ℕ) → g.ballot v x ≡ Some c → t < x → g'.acked v t ≤ g.acked v t
    pub agreeds : Begins g.agreed g'.agreed

  -- and at a node that did not step
  pub record Apart (j : ℕ) (g g' : Ghost B) : Type 0 where
    pub ballot_same : (t : ℕ) → g'.ballot j t ≡ g.ballot j t
    pub acked_same : (t : ℕ) → g'.acked j t ≤ g.acked j t
    pub owner_same : (t : ℕ) → g'.owner t ≡ Some j → g.owner t ≡ Some j
    pub ledger_same : (t : ℕ) → g.owner t ≡ Some j → g'.ledger t ≡ g.ledger t

  pub extends_self : (g : Ghost B) → Extends g g
  extends_self g =
      record {
        ballots = λ v t c h. h;
        owners = λ t c h. h;
        boots_kept = λ t c h. refl;
        runs_kept = λ t c h. refl;
        ledgers = λ t. begins_self (g.ledger t);
        ackeds = λ v t. omega arith;
        acked_kept = λ v t x c h l. omega arith;
        agreeds = begins_self g.agreed;
      }

  pub extends_on : (g h k : Ghost B) → Extends g h → Extends h k → Extends g k
  extends_on g h k a b =
      record {
        ballots = λ v t c e. b.ballots v t c (a.ballots v t c e);
        owners = λ t c e. b.owners t c (a.owners t c e);
        boots_kept = λ t c e. b.boots_kept t c (a.owners t c e) ∙ a.boots_kept t c e;
        runs_kept = λ t c e. b.runs_kept t c (a.ballots c t c e) ∙ a.runs_kept t c e;
        ledgers = λ t. begins_trans (g.ledger t) (h.ledger t) (k.ledger t) (a.ledgers t) (b.ledgers t);
        ackeds = λ v t. omega (arith, a.ackeds v t, b.ackeds v t);
        acked_kept = λ v t x c e l. omega (arith, a.acked_kept v t x c e l, b.acked_kept v t x c (a.ballots v x c e) l);
        agreeds = begins_trans g.agreed h.agreed k.agreed a.agreeds b.agreeds;
      }

  pub apart_self : (j : ℕ) (g : Ghost B) → Apart j g g
  apart_self j g = record { ballot_same = λ t. refl; acked_same = λ t. omega arith; owner_same = λ t h. h; ledger_same = λ t h. refl }

  pub apart_on : (j : ℕ) (g h k : Ghost B) → Extends g h → Apart j g h → Apart j h k → Apart j g k
  apart_on j g h k e a b =
      record {
        ballot_same = λ t. b.ballot_same t ∙ a.ballot_same t;
        acked_same = λ t. omega (arith, a.acked_same t, b.acked_same t);
        owner_same = λ t o. a.owner_same t (b.owner_same t o);
        ledger_same = λ t o. b.ledger_same t (e.owners t j o) ∙ a.ledger_same t o;
      }

  -- what that keeps

  pub sound_later : (l l' : ℕ → List (Entry B)) (x : ℕ) (log : List (Entry B)) → ((t : ℕ) → Begins (l t) (l' t)) → Sound l x log → Sound l' x log
  sound_later l l' x log grow s =
      record { rooted = λ q b. begins_trans q (l (last_term q)) (l' (last_term q)) (s.rooted q b) (grow (last_term q)); upto = s.upto }

  pub sound_more : (l : ℕ → List (Entry B)) (x y : ℕ) (log : List (Entry B)) → x ≤ y → Sound l x log → Sound l y log
  sound_more l x y log le s = record { rooted = s.rooted; upto = λ q b. omega (arith, s.upto q b) }

  pub sound_front : (l : ℕ → List (Entry B)) (x : ℕ) (p log : List (Entry B)) → Begins p log → Sound l x log → Sound l x p
  sound_front l x p log b s =
      record { rooted = λ q c. s.rooted q (begins_trans q p log c b); upto = λ q c. s.upto q (begins_trans q p log c b) }

  pub held_more : (n : ℕ) (g : Ghost B) (x y : ℕ) (p : List (Entry B)) → x ≤ y → Held n g x p → Held n g y p
  held_more n g x y p le h =
      ⊎_elim (λ e. inl e) (λ k. inr (record { whole = k.whole; chosen = k.chosen; low = omega (arith, k.low); front = k.front })) h

  pub held_front : (n : ℕ) (g : Ghost B) (x : ℕ) (p q : List (Entry B)) → Begins p q → Held n g x q → Held n g x p
  held_front n g x p q b h =
      ⊎_elim (λ e. inl (begins_nil p (subst (λ z. Begins p z) e b)))
      (λ k. inr (record { whole = k.whole; chosen = k.chosen; low = k.low; front = begins_trans p q k.whole b k.front })) h

  module _ (n : ℕ) (g g' : Ghost B) (ok : GhostOk n g) (ex : Extends g g') where
    pub carried_back : (t x : ℕ) (p : List (Entry B)) → Carried g' t x p → Carried g t x p
    carried_back t x p c =
        record {
          by = λ u d tu ux ou.
              subst (λ r. Begins p r) (ex.runs_kept u d (ok.owner_voted u d ou)) (c.by u d tu ux (ex.owners u d ou));
        }

    pub in_ledger : (t k : ℕ) (v : ℕ) (p : List (Entry B)) → Begins p (g'.ledger t) → length p ≤ g.acked v t → Begins p (g.ledger t)
    in_ledger t k v p b le = begins_shorter p (g.ledger t) (g'.ledger t) b (ex.ledgers t) (omega (arith, ok.acked_in v t))

    pub fact_later : (v x c : ℕ) → g.ballot v x ≡ Some c → Fact g v x c → Fact g' v x c
    fact_later v x c voted f =
        record {
          holds = λ t p lt b ends le car.
              let le' : length p ≤ g.acked v t = omega (arith, ex.acked_kept v t x c voted lt) in
              subst (λ r. Begins p r)
              (sym (ex.runs_kept x c (ok.self_votes v x c voted)))
              (f.holds t p lt (in_ledger t 0 v p b le') ends le' (carried_back t x p car));
        }

    pub chosen_later : (p : List (Entry B)) → Chosen n g p → Chosen n g' p
    chosen_later p ch =
        record {
          term = ch.term;
          of_ledger = begins_trans p (g.ledger ch.term) (g'.ledger ch.term) ch.of_ledger (ex.ledgers ch.term);
          ends = ch.ends;
          who = ch.who;
          who_length = ch.who_length;
          who_majority = ch.who_majority;
          who_acked = λ v i. omega (arith, ch.who_acked v i, ex.ackeds v ch.term);
        }

    pub held_later : (x : ℕ) (p : List (Entry B)) → Held n g x p → Held n g' x p
    unfolding chosen_later
    held_later x p h =
        ⊎_elim (λ e. inl e)
        (λ k. inr (record { whole = k.whole; chosen = chosen_later k.whole k.chosen; low = k.low; front = k.front }))
        h

    pub kind_later : (m : Message B) (k : Kind B) → KindOk n g m k → KindOk n g' m k
    kind_later m (RequestVote l u) h =
        record {
          voted = ex.ballots m.from m.term m.from h.voted;
          length_is = ap length (ex.runs_kept m.term m.from h.voted) ∙ h.length_is;
          term_is = ap last_term (ex.runs_kept m.term m.from h.voted) ∙ h.term_is;
        }
    kind_later m (Vote true) h = ex.ballots m.from m.term m.to h
    kind_later m (Vote false) h = tt
    kind_later m (Append b) h =
        record {
          front = h.front;
          front_length = h.front_length;
          front_term = h.front_term;
          of_ledger = begins_trans _ (g.ledger m.term) (g'.ledger m.term) h.of_ledger (ex.ledgers m.term);
          owner = ex.owners m.term m.from h.owner;
          done = h.done;
          done_length = h.done_length;
          done_ledger = begins_trans _ (g.ledger m.term) (g'.ledger m.term) h.done_ledger (ex.ledgers m.term);
          done_held = held_later m.term h.done h.done_held;
          done_agreed = begins_trans _ g.agreed g'.agreed h.done_agreed ex.agreeds;
        }
    kind_later m (AppendReply true p) h = omega (arith, h, ex.ackeds m.from m.term)
    kind_later m (AppendReply false p) h = tt
    kind_later m (Forward b) h = tt

    pub all_later : (ms : List (Message B)) → AllOk n g ms → AllOk n g' ms
    all_later [] h = tt
    all_later (m ∷ ms) h = (kind_later m m.kind h.0, all_later ms h.1)

    pub candidate_later : (i term : ℕ) (vote : Option ℕ) (log : List (Entry B)) (voters : List Bool) → Apart i g g' → g.ballot i term ≡ vote → CandidateOk n g i term vote log voters → CandidateOk n g' i term vote log voters
    candidate_later i term vote log voters ap' now c =
        record {
          voted = c.voted;
          not_owner = λ o. c.not_owner (ap'.owner_same term o);
          log_is = ex.runs_kept term i (now ∙ c.voted) ∙ c.log_is;
          voters_length = c.voters_length;
          voters_ok = λ v h. ex.ballots v term i (c.voters_ok v h);
        }

    pub leader_later : (i boot term : ℕ) (log : List (Entry B)) (next matched : List ℕ) → Apart i g g' → LeaderOk n g i boot term log next matched → LeaderOk n g' i boot term log next matched
    leader_later i boot term log next matched ap' c =
        record {
          owner = ex.owners term i c.owner;
          log_is = ap'.ledger_same term c.owner ∙ c.log_is;
          boot_is = ex.boots_kept term i c.owner ∙ c.boot_is;
          own_acked = omega (arith, c.own_acked, ex.ackeds i term);
          matched_length = c.matched_length;
          matched_ok = λ j. omega (arith, c.matched_ok j, ex.ackeds j term);
          next_ok = c.next_ok;
        }

    pub role_later : (i : ℕ) (role : Role) (boot term : ℕ) (vote : Option ℕ) (log : List (Entry B)) (voters : List Bool) (next matched : List ℕ) → Apart i g g' → g.ballot i term ≡ vote → RoleOk n g i role boot term vote log voters next matched → RoleOk n g' i role boot term vote log voters next matched
    role_later i Follower boot term vote log voters next matched a now r = tt
    role_later i Candidate boot term vote log voters next matched a now r = candidate_later i term vote log voters a now r
    role_later i Leader boot term vote log voters next matched a now r = leader_later i boot term log next matched a r

    -- a node that did not step
    pub node_later : (j : ℕ) (s : Node B) → Apart j g g' → NodeOk n g j s → NodeOk n g' j s
    node_later j s a o =
        record {
          vote_now = a.ballot_same s.term ∙ o.vote_now;
          vote_later = λ t h. a.ballot_same t ∙ o.vote_later t h;
          acked_later = λ t h. omega (arith, a.acked_same t, o.acked_later t h);
          log_ok = sound_later g.ledger g'.ledger s.term s.log ex.ledgers o.log_ok;
          keeps = λ t p b le car.
              let le' : length p ≤ g.acked j t = omega (arith, a.acked_same t) in
              o.keeps t p (in_ledger t 0 j p b le') le' (carried_back t (suc s.term) p car);
          commit_in = o.commit_in;
          commit_ok = begins_trans _ g.agreed g'.agreed o.commit_ok ex.agreeds;
          commit_held = held_later s.term _ o.commit_held;
          role_ok = role_later j s.role s.boot s.term s.vote s.log s.voters s.next s.matched a o.vote_now o.role_ok;
          sent_ok = all_later s.sent o.sent_ok;
        }
