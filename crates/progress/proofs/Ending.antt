-- A leader's log ends in an entry of its own term, unless it was full.
use Rattle.std.proofs.Common.{◌≡◌, ℕ, ◌-◌, ◌≤◌, Bool, true, false, ◌&&◌, ◌||◌, cond, eqb, ltb, leb, List, [], ◌∷◌, length, drop, Option, Some, None, refl, subst, arith, inl, inr, ◌⊎◌, ⊎_elim, length-append}
use Rattle.std.specs.Prelude.{◌^◌}
use Rattle.std.proofs.lemmas.Bool.{cond_both, ltb-false}
use Rattle.raft_log.specs.declared.entry.Entry.{Entry}
use Rattle.raft_log.specs.declared.message.Kind.{Kind}
use Rattle.raft_log.specs.declared.message.Kind.TheVariants.{RequestVote, Vote, Append, AppendReply, Forward}
use Rattle.raft_log.specs.declared.message.Message.{Message}
use Rattle.raft_log.specs.declared.role.Role.{Role}
use Rattle.raft_log.specs.declared.role.Role.TheVariants.{Follower, Candidate, Leader}
use Rattle.raft_log.specs.Lists.{item, with_item}
use Rattle.raft_log.specs.Logs.{entry_limit, last_term, agrees_at, conflicts_within}
use Rattle.raft_log.specs.Node.{Node, is_leader, is_candidate, raised}
use Rattle.raft_log.specs.Votes.{majority}
use Rattle.election.specs.Elections.{asking, timed_out, on_request_vote, leading, elected}
use Rattle.election.specs.Elections as election
use Rattle.replication.specs.Replication.{answering, appended, accepted, on_append, with_match, advanced, stepped_back, on_append_reply, appending, on_forward, forwarded, on_vote}
use Rattle.node_steps.specs.Messages.{is_heard, handled}
use Rattle.raft_node.specs.Raft.{newborn, restarted}
use Rattle.raft_node.proofs.Items.{item_of_with, item_of_replicate}
use Rattle.agreement.specs.World.{Act, Expires, Beats, Hears, Asks, Lifts, Nothing, Own, Acts, Restarts, Stops, lifted, acted, own, Event, stepper, own_of, placed, happens, run, start}
use Rattle.agreement.proofs.Lists.{last_term_push}

not_both : (r : Role) → is_candidate r ≡ true → is_leader r ≡ true → ⊥
not_both Follower a b = absurd (cc a)
not_both Candidate a b = absurd (cc b)
not_both Leader a b = absurd (cc a)

module _ {B : Type 0} where
  abbrev pub Ends : Node B → Type 0
  Ends s = is_leader s.role ≡ true → ((1 ≤ length s.log) × (last_term s.log ≡ s.term)) ⊎ (entry_limit ≤ length s.log)

  follows : (s : Node B) → is_leader s.role ≡ false → Ends s
  follows s f l = absurd (cc (f, l))

  pushed : (s : Node B) (b : B) → Ends (appending s b)
  pushed s b l =
      let n = length-append s.log (record { term = s.term; body = b } ∷ []) in
      inl (omega arith, last_term_push s.log (record { term = s.term; body = b }))

  ends_forward : (s : Node B) (b : B) → Ends s → Ends (on_forward s b)
  ends_forward s b e = cond_both (is_leader s.role && ltb (length s.log) entry_limit) (appending s b) s Ends (λ h. pushed s b) (λ h. e)

  ends_led : (n : ℕ) (s : Node B) (b : B) → Ends (on_forward (leading n s) b)
  ends_led n s b = cond_both (true && ltb (length s.log) entry_limit) (appending (leading n s) b) (leading n s) Ends (λ h. pushed (leading n s) b) (λ h l. inr (ltb-false (length s.log) entry_limit h))

  ends_vote : (blank : B) (n : ℕ) (s : Node B) (j t : ℕ) (granted : Bool) → Ends s → Ends (on_vote blank n s j t granted)
  ends_vote blank n s j t granted e =
      cond_both (is_candidate s.role) (on_forward (election.on_vote n s j t granted) blank) s Ends
      (λ c. cond_both (is_candidate s.role && (eqb s.term t && granted)) (elected n (record s { voters = with_item s.voters j true })) s (λ z. Ends (on_forward z blank))
      (λ h. cond_both (majority n (with_item s.voters j true)) (leading n (record s { voters = with_item s.voters j true })) (record s { voters = with_item s.voters j true }) (λ z. Ends (on_forward z blank))
      (λ m. ends_led n (record s { voters = with_item s.voters j true }) blank)
      (λ m. ends_forward (record s { voters = with_item s.voters j true }) blank (λ l. absurd (not_both s.role c l))))
      (λ h. ends_forward s blank e))
      (λ c. e)

  ends_raised : (s : Node B) (t : ℕ) → Ends s → Ends (raised s t)
  ends_raised s t e = cond_both (ltb s.term t) _ s Ends (λ h l. absurd (cc l)) (λ h. e)

  ends_append : (i : ℕ) (s : Node B) (j t prev prev_term commit : ℕ) (es : List (Entry B)) → Ends s → Ends (on_append i s j t prev prev_term es commit)
  ends_append i s j t prev prev_term commit es e =
      cond_both (ltb t s.term) _ _ Ends (λ h. e)
      (λ h. cond_both (is_leader s.role) s _ Ends (λ l. e) (λ l. taken (record s { role = Follower; leader = Some j }) refl))
    where
      taken : (u : Node B) → is_leader u.role ≡ false → Ends (accepted i u j prev prev_term es commit)
      taken u f =
          cond_both (agrees_at u.log prev prev_term) (cond (conflicts_within (drop prev u.log) es (u.commit - prev)) u (appended i u j prev es commit)) (answering i u j false prev) Ends
          (λ a. cond_both (conflicts_within (drop prev u.log) es (u.commit - prev)) u (appended i u j prev es commit) Ends (λ c. follows u f) (λ c. follows (appended i u j prev es commit) f))
          (λ a. follows (answering i u j false prev) f)

  ends_reply : (n i : ℕ) (s : Node B) (j t : ℕ) (ok : Bool) (place : ℕ) → Ends s → Ends (on_append_reply n i s j t ok place)
  ends_reply n i s j t ok place e =
      cond_both (is_leader s.role && (eqb s.term t && leb place (length s.log))) _ s Ends
      (λ h. cond_both ok (advanced n i (with_match s j place)) (stepped_back s j place) Ends (λ o. e) (λ o. cond_both _ _ s Ends (λ q. e) (λ q. e)))
      (λ h. e)

  ends_handled : (blank : B) (n i : ℕ) (s : Node B) (m : Message B) (k : Kind B) → Ends s → Ends (handled blank n i s m k)
  ends_handled blank n i s m (RequestVote index last) e = cond_both _ _ _ Ends (λ h. e) (λ h. e)
  ends_handled blank n i s m (Vote granted) e = ends_vote blank n s m.from m.term granted e
  ends_handled blank n i s m (Append b) e = ends_append i s m.from m.term b.prev_index b.prev_term b.commit b.entries e
  ends_handled blank n i s m (AppendReply ok place) e = ends_reply n i s m.from m.term ok place e
  ends_handled blank n i s m (Forward body) e = ends_forward s body e

  ends_forwarded : (i : ℕ) (s : Node B) (body : B) (o : Option ℕ) → Ends s → Ends (forwarded i s body o)
  ends_forwarded i s body None e = e
  ends_forwarded i s body (Some j) e = e

  module _ (blank : B) (n i : ℕ) (s : Node B) (e : Ends s) where
    ends_acted : (a : Act B) → Ends (acted blank n i a s)
    ends_acted Expires = cond_both (is_leader s.role || leb (2 ^ 60) s.term) s (asking n i s) Ends (λ h. e) (λ h l. absurd (cc l))
    ends_acted Beats = cond_both (is_leader s.role) _ s Ends (λ h. e) (λ h. e)
    ends_acted (Hears m) = cond_both (is_heard n i m) (handled blank n i (raised s m.term) m m.kind) s Ends (λ h. ends_handled blank n i (raised s m.term) m m.kind (ends_raised s m.term e)) (λ h. e)
    ends_acted (Asks body) = cond_both (is_leader s.role) (on_forward s body) (forwarded i s body s.leader) Ends (λ h. ends_forward s body e) (λ h. ends_forwarded i s body s.leader e)
    ends_acted (Lifts applied live attempts None) = e
    ends_acted (Lifts applied live attempts (Some body)) = ends_forward (lifted s applied live attempts) body e
    ends_acted Nothing = e

    ends_own : (o : Own B) → Ends (own blank n i o s)
    ends_own (Acts a) = ends_acted a
    ends_own Restarts = follows (restarted n s) refl
    ends_own (Stops a after) = cond_both after _ (restarted n s) Ends (λ h l. absurd (cc l)) (λ h l. absurd (cc l))

  pub record EndsNow (w : List (Node B)) : Type 0 where
    pub each : (i : ℕ) (s : Node B) → item w i ≡ Some s → Ends s

  ends_happens : (blank : B) (w : List (Node B)) (e : Event B) → EndsNow w → EndsNow (happens blank w e)
  ends_happens blank w e h = by_item (item w (stepper w e)) refl
    where
      by_item : (o : Option (Node B)) → item w (stepper w e) ≡ o → EndsNow (placed w (stepper w e) (own blank (length w) (stepper w e) (own_of w e)) o)
      by_item None p = h
      by_item (Some s) p =
          record {
            each = λ j y at.
                ⊎_elim
                (λ r. subst Ends r.1 (ends_own blank (length w) (stepper w e) s (h.each (stepper w e) s p) (own_of w e)))
                (λ r. h.each j y r.1)
                (item_of_with w (stepper w e) _ j y s p at);
          }

  pub ends_run : (blank : B) (es : List (Event B)) (w : List (Node B)) → EndsNow w → EndsNow (run blank es w)
  ends_run blank [] w h = h
  ends_run blank (e ∷ es) w h = ends_run blank es (happens blank w e) (ends_happens blank w e h)

  pub ends_start : (n : ℕ) → EndsNow (start n)
  ends_start n = record { each = λ i s at. subst Ends (item_of_replicate n i (newborn n) s at) (follows (newborn n) refl) }
