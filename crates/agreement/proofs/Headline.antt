-- Every list of events.
use Rattle.std.proofs.Common.{◌∙◌, ◌≡◌, ℕ, zero, suc, ◌≤◌, Bool, true, false, ltb, eqb, List, [], ◌∷◌, ◌++◌, inl, ⊎_elim, Option, Some, None, slice_get, refl, sym, subst, arith}
use Rattle.std.proofs.Math.ListN.{length-replicate}
use Rattle.std.proofs.lemmas.Bool.{and_parts, cond_both, ltb-false, eqb-true}
use Rattle.raft_log.specs.Lists.{item, with_item}
use Rattle.raft_log.specs.declared.entry.Entry.{Entry}
use Rattle.raft_log.specs.declared.message.Kind.{Kind}
use Rattle.raft_log.specs.declared.message.Kind.TheVariants.{RequestVote, Vote, Append, AppendReply, Forward}
use Rattle.raft_log.specs.declared.message.Message.{Message}
use Rattle.raft_log.specs.Node.{Node, is_leader, message, raised}
use Rattle.raft_log.specs.declared.node_state.Live.{Live}
use Rattle.raft_log.specs.Logs.{last_term}
use Rattle.node_steps.specs.Messages.{is_heard, on_message, handled}
use Rattle.raft_node.specs.Raft.{newborn}
use Rattle.replication.specs.Replication.{ask, forwarded}
use Rattle.agreement.specs.World.{lifted, Act, Expires, Beats, Hears, Asks, Lifts, Nothing, Own, Acts, Restarts, Stops, acted, own, Input, Timeout, Beat, Deliver, Ask, Lift, Idle, Event, Does, Restart, StopIn, sent_of, hears, act_of, stepper, own_of, placed, happens, run, start, committed_of, committed, Begins}
use Rattle.raft_node.specs.Steps.{stopped}
use Rattle.agreement.proofs.Lists.{begins_none, begins_nil}
use Rattle.raft_node.proofs.Items.{length-with_item, item_of_with, item_of_replicate}
use Rattle.agreement.proofs.Ghost.{Ghost, Sound, GhostOk, KindOk, MsgOk, AllOk, NodeOk, Good}
use Rattle.agreement.proofs.Later.{Extends, extends_self, extends_on, all_later, node_later}
use Rattle.agreement.proofs.Plain.{Moved, stay, sending_ok, raised_ok, restarted_ok, unsent_ok, beat_ok}
use Rattle.agreement.proofs.Votes.{timeout_moved, request_moved}
use Rattle.agreement.proofs.Elections.{vote_moved}
use Rattle.agreement.proofs.Entries.{forward_moved}
use Rattle.agreement.proofs.Taking.{append_moved}
use Rattle.agreement.proofs.Commits.{reply_moved}

module _ {B : Type 0} where
  -- one turn of one node

  handled_moved : (blank : B) (n : ℕ) (g : Ghost B) (gok : GhostOk n g) (i : ℕ) (s : Node B) (ok : NodeOk n g i s) (m : Message B) (k : Kind B) → m.to ≡ i → m.term ≤ s.term → KindOk n g m k → Moved n g i (handled blank n i s m k)
  handled_moved blank n g gok i s ok m (RequestVote l u) to_me reach told = request_moved n g gok i s ok m l u told
  handled_moved blank n g gok i s ok m (Vote granted) to_me reach told = vote_moved blank n g gok i s ok m granted to_me told
  handled_moved blank n g gok i s ok m (Append b) to_me reach told = append_moved n g gok i s ok m b.prev_index b.prev_term b.entries b.commit told reach
  handled_moved blank n g gok i s ok m (AppendReply o p) to_me reach told = reply_moved n g gok i s ok m o p told
  handled_moved blank n g gok i s ok m (Forward b) to_me reach told = forward_moved n g gok i s ok b

  reaches : (s : Node B) (t : ℕ) → t ≤ (raised s t).term
  reaches s t = cond_both (ltb s.term t) _ s (λ z. t ≤ z.term) (λ h. omega arith) (λ h. ltb-false s.term t h)

  message_moved : (blank : B) (n : ℕ) (g : Ghost B) (gok : GhostOk n g) (i : ℕ) (s : Node B) (ok : NodeOk n g i s) (m : Message B) → MsgOk n g m → Moved n g i (on_message blank n i s m)
  message_moved blank n g gok i s ok m told =
      cond_both (is_heard n i m) _ s (λ z. Moved n g i z)
      (λ h. handled_moved blank n g gok i (raised s m.term) (raised_ok n g i s ok m.term) m m.kind (eqb-true m.to i (and_parts (eqb m.to i) _ h).0) (reaches s m.term) told)
      (λ h. stay n g i s gok ok)

  ask_moved : (n : ℕ) (g : Ghost B) (gok : GhostOk n g) (i : ℕ) (s : Node B) (ok : NodeOk n g i s) (b : B) → Moved n g i (ask i s b)
  ask_moved n g gok i s ok b =
      cond_both (is_leader s.role) _ _ (λ z. Moved n g i z) (λ h. forward_moved n g gok i s ok b) (λ h. to_leader s.leader)
    where
      to_leader : (o : Option ℕ) → Moved n g i (forwarded i s b o)
      to_leader None = stay n g i s gok ok
      to_leader (Some j) = stay n g i _ gok (sending_ok n g i s ok (message s.term i j (Forward b) ∷ []) (tt, tt))

  lifted_ok : (n : ℕ) (g : Ghost B) (i : ℕ) (s : Node B) → NodeOk n g i s → (a : ℕ) (l : Option Live) (k : ℕ) → NodeOk n g i (lifted s a l k)
  lifted_ok n g i s ok a l k =
      record {
        vote_now = ok.vote_now;
        vote_later = ok.vote_later;
        acked_later = ok.acked_later;
        log_ok = ok.log_ok;
        keeps = ok.keeps;
        commit_in = ok.commit_in;
        commit_ok = ok.commit_ok;
        commit_held = ok.commit_held;
        role_ok = ok.role_ok;
        sent_ok = ok.sent_ok;
      }

  -- what a node hears was sent
  abbrev pub ActOk : ℕ → Ghost B → (Act B) → Type 0
  ActOk n g Expires = Unit {0}
  ActOk n g Beats = Unit {0}
  ActOk n g (Hears m) = MsgOk n g m
  ActOk n g (Asks b) = Unit {0}
  ActOk n g (Lifts a l k b) = Unit {0}
  ActOk n g Nothing = Unit {0}

  abbrev pub OwnOk : ℕ → Ghost B → (Own B) → Type 0
  OwnOk n g (Acts a) = ActOk n g a
  OwnOk n g Restarts = Unit {0}
  OwnOk n g (Stops a after) = ActOk n g a

  module _ (n : ℕ) (g : Ghost B) (gok : GhostOk n g) (i : ℕ) (s : Node B) (ok : NodeOk n g i s) where
    acted_moved : (blank : B) (a : (Act B)) → ActOk n g a → Moved n g i (acted blank n i a s)
    acted_moved blank Expires h = timeout_moved n g gok i s ok
    acted_moved blank Beats h = stay n g i _ gok (beat_ok n g i s ok)
    acted_moved blank (Hears m) h = message_moved blank n g gok i s ok m h
    acted_moved blank (Asks b) h = ask_moved n g gok i s ok b
    acted_moved blank (Lifts a l k None) h = stay n g i _ gok (lifted_ok n g i s ok a l k)
    acted_moved blank (Lifts a l k (Some b)) h = forward_moved n g gok i (lifted s a l k) (lifted_ok n g i s ok a l k) b
    acted_moved blank Nothing h = stay n g i s gok ok

    pub stopped_moved : (s1 : Node B) (after : Bool) → Moved n g i s1 → Moved n g i (stopped n after s s1)
    stopped_moved s1 false m = stay n g i _ gok (restarted_ok n g i s ok)
    stopped_moved s1 true m =
        record {
          after = m.after;
          ghost_ok = m.ghost_ok;
          extends = m.extends;
          apart = m.apart;
          node_ok = restarted_ok n m.after i _ (unsent_ok n m.after i s1 m.node_ok s.sent (all_later n g m.after gok m.extends s.sent ok.sent_ok));
        }

    pub own_moved : (blank : B) (o : (Own B)) → OwnOk n g o → Moved n g i (own blank n i o s)
    own_moved blank (Acts a) h = acted_moved blank a h
    own_moved blank Restarts h = stay n g i _ gok (restarted_ok n g i s ok)
    own_moved blank (Stops a after) h = stopped_moved _ after (acted_moved blank a h)

  -- what comes from a world

  all_get : (n : ℕ) (g : Ghost B) (ms : List (Message B)) (k : ℕ) (m : Message B) → AllOk n g ms → slice_get ms k ≡ Some m → MsgOk n g m
  all_get n g [] k m h e = absurd (cc e)
  all_get n g (x ∷ ms) zero m h e = subst (λ z. MsgOk n g z) (cc e) h.0
  all_get n g (x ∷ ms) (suc k) m h e = all_get n g ms k m h.1 e

  all_item : (n : ℕ) (g : Ghost B) (ms : List (Message B)) (k : ℕ) (m : Message B) → AllOk n g ms → item ms k ≡ Some m → MsgOk n g m
  all_item n g ms zero m h e = absurd (cc e)
  all_item n g ms (suc k) m h e = all_get n g ms k m h e

  module _ (n : ℕ) (g : Ghost B) (w : List (Node B)) (good : Good n g w) where
    sent_ok_at : (j : ℕ) (o : Option (Node B)) (k : ℕ) (m : Message B) → item w j ≡ o → sent_of o k ≡ Some m → MsgOk n g m
    sent_ok_at j None k m at e = absurd (cc e)
    sent_ok_at j (Some s) k m at e = all_item n g s.sent k m (good.nodes j s at).sent_ok e

    heard_ok : (o : Option (Message B)) → ((m : Message B) → o ≡ Some m → MsgOk n g m) → ActOk n g (hears o)
    heard_ok None h = tt
    heard_ok (Some m) h = h m refl

    act_ok : (x : (Input B)) → ActOk n g (act_of w x)
    act_ok (Timeout i) = tt
    act_ok (Beat i) = tt
    act_ok (Deliver j k) = heard_ok (sent_of (item w j) k) (λ m e. sent_ok_at j (item w j) k m refl e)
    act_ok (Ask i b) = tt
    act_ok (Lift i a l k b) = tt
    act_ok (Idle i) = tt

    pub own_ok : (e : (Event B)) → OwnOk n g (own_of w e)
    own_ok (Does x) = act_ok x
    own_ok (Restart i) = tt
    own_ok (StopIn x after) = act_ok x

  -- the world after an event

  pub record Goes (g : Ghost B) (w : List (Node B)) (n : ℕ) : Type 0 where
    pub after : Ghost B
    pub good : Good n after w
    pub more : Extends g after

  abbrev pub goes_stay : (g : Ghost B) (w : List (Node B)) (n : ℕ) → Good n g w → Goes g w n
  goes_stay g w n good = record { after = g; good = good; more = extends_self g }

  pub goes_on : (n : ℕ) (g : Ghost B) (w : List (Node B)) (i : ℕ) (s : Node B) (s' : Node B) → Good n g w → item w i ≡ Some s → Moved n g i s' → Goes g (with_item w i s') n
  goes_on n g w i s s' good here m =
      record {
        after = m.after;
        more = m.extends;
        good = record {
          size = length-with_item w i s' ∙ good.size;
          ghost_ok = m.ghost_ok;
          nodes = λ j y at.
              ⊎_elim
              (λ h. subst (λ z. NodeOk n m.after z y) (sym h.0) (subst (λ z. NodeOk n m.after i z) h.1 m.node_ok))
              (λ h. node_later n g m.after good.ghost_ok m.extends j y (m.apart j h.0) (good.nodes j y h.1))
              (item_of_with w i s' j y s here at);
        };
      }

  placed_goes : (n : ℕ) (g : Ghost B) (w : List (Node B)) (i : ℕ) (f : Node B → (Node B)) (o : Option (Node B)) → item w i ≡ o → Good n g w → ((s : Node B) → item w i ≡ Some s → Moved n g i (f s)) → Goes g (placed w i f o) n
  placed_goes n g w i f None at good h = goes_stay g w n good
  placed_goes n g w i f (Some s) at good h = goes_on n g w i s (f s) good at (h s at)

  happens_goes : (blank : B) (n : ℕ) (g : Ghost B) (w : List (Node B)) (e : (Event B)) → Good n g w → Goes g (happens blank w e) n
  happens_goes blank n g w e good =
      placed_goes n g w (stepper w e) _ (item w (stepper w e)) refl good
      (λ s at.
      subst (λ k. Moved n g (stepper w e) (own blank k (stepper w e) (own_of w e) s)) (sym good.size)
      (own_moved n g good.ghost_ok (stepper w e) s (good.nodes (stepper w e) s at) blank (own_of w e) (own_ok n g w good e)))

  pub run_goes : (blank : B) (n : ℕ) (es : List (Event B)) (g : Ghost B) (w : List (Node B)) → Good n g w → Goes g (run blank es w) n
  run_goes blank n [] g w good = goes_stay g w n good
  run_goes blank n (e ∷ es) g w good =
      let one : Goes g (happens blank w e) n = happens_goes blank n g w e good in
      let rest : Goes one.after (run blank es (happens blank w e)) n = run_goes blank n es one.after (happens blank w e) one.good in
      record { after = rest.after; good = rest.good; more = extends_on g one.after rest.after one.more rest.more }

  pub run_append : (blank : B) (es fs : List (Event B)) (w : List (Node B)) → run blank (es ++ fs) w ≡ run blank fs (run blank es w)
  run_append blank [] fs w = refl
  run_append blank (e ∷ es) fs w = run_append blank es fs (happens blank w e)

  -- the start

  abbrev pub before : Ghost B
  before =
      record {
        ballot = λ v t. None;
        owner = λ t. None;
        boots = λ t. 0;
        won = λ t. [];
        runs = λ t c. [];
        ledger = λ t. [];
        acked = λ v t. 0;
        agreed = [];
      }

  sound_none : (l : ℕ → List (Entry B)) (x : ℕ) → Sound l x []
  sound_none l x =
      record {
        rooted = λ q b. subst (λ z. Begins z (l (last_term z))) (sym (begins_nil q b)) (begins_none (l 0));
        upto = λ q b. subst (λ z. last_term z ≤ x) (sym (begins_nil q b)) (omega arith);
      }

  before_ok : (n : ℕ) → GhostOk {B = B} n before
  before_ok n =
      record {
        self_votes = λ v t c h. absurd (cc h);
        owner_voted = λ t c h. absurd (cc h);
        owner_began = λ t c h. absurd (cc h);
        unowned = λ t h. refl;
        won_length = λ t c h. absurd (cc h);
        won_majority = λ t c h. absurd (cc h);
        won_votes = λ t c v h w. absurd (cc h);
        won_facts = λ t c v h w. absurd (cc h);
        open_facts = λ t c v h b. absurd (cc b);
        ledgers = λ t. sound_none _ t;
        began = λ t c. sound_none _ t;
        acked_in = λ v t. omega arith;
        agreed_ok = inl refl;
      }

  newborn_ok : (n i : ℕ) → NodeOk {B = B} n before i (newborn n)
  newborn_ok n i =
      record {
        vote_now = refl;
        vote_later = λ t h. refl;
        acked_later = λ t h. omega arith;
        log_ok = sound_none _ 0;
        keeps = λ t p b le car. b;
        commit_in = omega arith;
        commit_ok = begins_none [];
        commit_held = inl refl;
        role_ok = tt;
        sent_ok = tt;
      }

  pub start_good : (n : ℕ) → Good {B = B} n before (start n)
  start_good n =
      record {
        size = length-replicate {A = Node B} n (newborn n);
        ghost_ok = before_ok n;
        nodes = λ i s at. subst (λ (z : Node B). NodeOk n before i z) (item_of_replicate n i (newborn n) s at) (newborn_ok n i);
      }

  -- the headline

  pub committed_ok : (n : ℕ) (g : Ghost B) (w : List (Node B)) (a : ℕ) → Good n g w → Begins (committed w a) g.agreed
  committed_ok n g w a good = by_node (item w a) refl
    where
      by_node : (o : Option (Node B)) → item w a ≡ o → Begins (committed_of o) g.agreed
      by_node None e = begins_none g.agreed
      by_node (Some s) e = (good.nodes a s e).commit_ok
