-- A node stays sound, whatever happens to it.
use Rattle.std.proofs.Common.{◌≡◌, ℕ, suc, ◌≤◌, true, false, Option, length, refl, sym, ap, subst, arith, zero, ◌<◌, get_or, All, List}
use Rattle.std.proofs.Math.ListN.{length-replicate}
use Rattle.raft_log.specs.declared.node_state.Live.{Live}
use Rattle.raft_log.specs.Node.{Node, is_leader}
use Rattle.raft_log.specs.Steps.{IsNextWithin}
use Rattle.replication.specs.Replication.{on_forward}
use Rattle.raft_node.specs.Raft.{started, newborn}
use Rattle.raft_node.specs.Machine.{Machine}
use Rattle.raft_node.specs.Steps.{Turn, Act, Own, Acts, Restarts, Stops, turn, own}
use Rattle.raft_node.specs.Sound.{BeginsSound, IsSound, SentGrows, StaysSound, TurnKeepsApplied}
use Rattle.std.proofs.lemmas.Grind.{get_or_default_zero}
use Rattle.raft_node.proofs.Fares.{role_leader, Lives, Turned, GoesOn, Applied, Step, InRun, NewRun, turn_step, own_step}
use Rattle.raft_node.proofs.Fits.{Within, Fits, timeout_fits, beat_fits, forward_fits, ask_fits, message_fits}
use Rattle.raft_node.proofs.Grows.{Grows, same_grows, grows_on, take_less, timeout_grows, beat_grows, forward_grows, ask_grows, message_grows}
use Rattle.raft_node.proofs.Sent.{Sends, none_sent, timeout_sends, beat_sends, forward_sends, ask_sends, message_sends}
use Rattle.raft_node.proofs.Turns.{each_turn}

-- places of lists of a group's size
within_of : (n l : ℕ) (next matched : List ℕ) → length next ≡ n → length matched ≡ n → All (IsNextWithin l) next → All (λ m. m ≤ l) matched → Within n l next matched
within_of n l next matched p q a b =
    record {
      at = elim [
        | zero ↦ λ low high. absurd (omega arith)
        | suc k ↦ λ low high. let r = a k 0 (omega (arith, high, p)) in (r.0, r.1, b k 0 (omega (arith, high, q)))
      ];
    }

next_at : (n l : ℕ) (next matched : List ℕ) → Within n l next matched → (k : ℕ) → k < n → IsNextWithin l (get_or next k 0)
next_at n l next matched w k lt = let r = w.at (suc k) (omega arith) lt in (r.0, r.1)

match_at : (n l : ℕ) (next matched : List ℕ) → Within n l next matched → (k : ℕ) → k < n → get_or matched k 0 ≤ l
match_at n l next matched w k lt = (w.at (suc k) (omega arith) lt).2

module _ {B : Type 0} where
  -- what a node has of its own
  pub record Upper (s : Node B) : Type 0 where
    pub applied_in : s.applied ≤ s.commit
    pub lives : Lives s

  lifted_fits : (n : ℕ) (s : Node B) (live : Option Live) (attempts : ℕ) → Fits n s → Fits n (record s { live = live; attempts = attempts })
  lifted_fits n s live attempts h = record { knows = h.knows; voters_long = h.voters_long; next_long = h.next_long; matched_long = h.matched_long; within = h.within }

  new_fits : (n boot term : ℕ) (s : Node B) → Fits n (started n boot term s.vote s.log s.sent)
  new_fits n boot term s =
      record {
        knows = λ j e. refl;
        voters_long = length-replicate n false;
        next_long = length-replicate n 0;
        matched_long = length-replicate n 0;
        within = λ e. absurd (cc e);
      }

  fits_of : (n : ℕ) (s : Node B) → IsSound n s → Fits n s
  fits_of n s h =
      record {
        knows = h.3;
        voters_long = h.4.0;
        next_long = h.4.1;
        matched_long = h.4.2;
        within = λ e. within_of n (length s.log) s.next s.matched h.4.1 h.4.2 (h.1.next_within (ap is_leader e)) (h.1.match_within (ap is_leader e));
      }

  sound_by : (n : ℕ) (s : Node B) → Upper s → s.commit ≤ length s.log → Fits n s → IsSound n s
  sound_by n s u c f = (
    u.applied_in,
    record {
      commit_within = c;
      next_within = λ t k d lt. subst (IsNextWithin (length s.log)) (sym (get_or_default_zero s.next k d lt)) (next_at n (length s.log) s.next s.matched (f.within (role_leader s.role t)) k (omega (arith, lt, f.next_long)));
      match_within = λ t k d lt. subst (λ m. m ≤ length s.log) (sym (get_or_default_zero s.matched k d lt)) (match_at n (length s.log) s.next s.matched (f.within (role_leader s.role t)) k (omega (arith, lt, f.matched_long)));
    },
    u.lives.of,
    f.knows,
    (f.voters_long, f.next_long, f.matched_long),
  )

pub begins_sound : (B : Type 0) → BeginsSound B
begins_sound B n =
    sound_by {B = B} n (newborn n) (record { applied_in = omega arith; lives = record { of = λ l e. absurd (cc e) } }) (omega arith) (new_fits n 1 0 (newborn n))

module _ (M : Machine) where
  pub upper_step : (i : ℕ) (s : Node M.Body) (u : Turn M) → Upper s → Step M i s u → Upper u.node
  upper_step i s u h (InRun (GoesOn g e)) = record { applied_in = omega (arith, g.applied_is, g.commit_up, h.applied_in); lives = g.lives h.lives }
  upper_step i s u h (InRun (Applied x lt at e)) =
      subst (λ (z : Turn M). Upper z.node) (sym e) (record { applied_in = omega arith; lives = record { of = h.lives.of } })
  upper_step i s u h (NewRun bo ap' li e) = record { applied_in = omega (arith, ap'); lives = record { of = λ k f. absurd (cc (li, f)) } }

  turn_grows : (n i : ℕ) (a : Act M) (s : Node M.Body) → Grows s (turn M n i a s).node
  turn_grows n i a s =
      each_turn M n i s (Grows s)
      (record {
        stays = same_grows s s refl refl;
        times = timeout_grows n i s;
        beats = beat_grows n i s;
        hears = message_grows M.blank n i s;
        asks = ask_grows n i s;
        adds = λ live attempts b. grows_on s (record s { live = live; attempts = attempts }) _ (same_grows s _ refl refl) (forward_grows n i (record s { live = live; attempts = attempts }) b);
        applies = same_grows s _ refl refl;
      })
      a

  turn_fits : (n i : ℕ) (a : Act M) (s : Node M.Body) → Fits n s → Fits n (turn M n i a s).node
  turn_fits n i a s h =
      each_turn M n i s (Fits n)
      (record {
        stays = h;
        times = timeout_fits n i s h;
        beats = beat_fits n i s h;
        hears = message_fits M.blank n i s h;
        asks = ask_fits n i s h;
        adds = λ live attempts b. forward_fits n i (record s { live = live; attempts = attempts }) (lifted_fits n s live attempts h) b;
        applies = record { knows = h.knows; voters_long = h.voters_long; next_long = h.next_long; matched_long = h.matched_long; within = h.within };
      })
      a

  pub stays_sound : StaysSound M
  stays_sound n i o s h =
      sound_by n _ (upper_step i s (own M n i o s) upper (own_step M n i s upper.lives o)) (commit_in o) (fits o)
    where
      upper : Upper s
      upper = record { applied_in = h.0; lives = record { of = h.2 } }

      commit_in : (o : Own M) → (own M n i o s).node.commit ≤ length (own M n i o s).node.log
      commit_in (Acts a) = (turn_grows n i a s).within h.1.commit_within
      commit_in Restarts = omega arith
      commit_in (Stops a false) = omega arith
      commit_in (Stops a true) = omega arith

      fits : (o : Own M) → Fits n (own M n i o s).node
      fits (Acts a) = turn_fits n i a s (fits_of n s h)
      fits Restarts = new_fits n _ _ s
      fits (Stops a false) = new_fits n _ _ s
      fits (Stops a true) = new_fits n _ _ (record (turn M n i a s).node { sent = s.sent })

  one_more : (i : ℕ) (s : Node M.Body) (u : Turn M) → Turned M i s u → (s.applied ≤ u.node.applied) × (u.node.applied ≤ suc s.applied)
  one_more i s u (GoesOn f e) = (omega (arith, f.applied_is), omega (arith, f.applied_is))
  one_more i s u (Applied x lt at e) = let same : u.node.applied ≡ suc s.applied = ap (λ (z : Turn M). z.node.applied) e in (omega (arith, same), omega (arith, same))

  pub turn_keeps_applied : TurnKeepsApplied M
  turn_keeps_applied n i a s h =
      let g : Grows s (turn M n i a s).node = turn_grows n i a s in
      let more : (s.applied ≤ (turn M n i a s).node.applied) × ((turn M n i a s).node.applied ≤ suc s.applied) = one_more i s (turn M n i a s) (turn_step M n i s (record { of = h.2 }) a) in
      (take_less s.applied s.commit (turn M n i a s).node.log s.log h.0 (g.front h.1.commit_within), more.0, more.1)

  turn_sends : (n i : ℕ) (a : Act M) (s : Node M.Body) → Sends i s (turn M n i a s).node
  turn_sends n i a s =
      each_turn M n i s (Sends i s)
      (record {
        stays = none_sent i s s refl;
        times = timeout_sends i n s;
        beats = beat_sends i n s;
        hears = message_sends i M.blank n s;
        asks = ask_sends i n s;
        adds = λ live attempts b.
            let r : Sends i (record s { live = live; attempts = attempts }) (on_forward (record s { live = live; attempts = attempts }) b) = forward_sends i n (record s { live = live; attempts = attempts }) b in
            record { more = r.more; is = r.is; own_name = r.own_name };
        applies = none_sent i s _ refl;
      })
      a

  own_sends : (n i : ℕ) (o : Own M) (s : Node M.Body) → Sends i s (own M n i o s).node
  own_sends n i (Acts a) s = turn_sends n i a s
  own_sends n i Restarts s = none_sent i s _ refl
  own_sends n i (Stops a false) s = none_sent i s _ refl
  own_sends n i (Stops a true) s = none_sent i s _ refl

  pub sent_grows : SentGrows M
  sent_grows n i o s = let r : Sends i s (own M n i o s).node = own_sends n i o s in (r.more, r.is, r.own_name)
