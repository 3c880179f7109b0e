-- Each step of a whole node is one of its core, which knows nothing of sessions and machines.
use Rattle.std.proofs.Common.{◌≡◌, ℕ, zero, suc, true, false, ◌&&◌, not, ltb, leb, List, [], ◌∷◌, ◌++◌, ◌⊎◌, inl, inr, ⊎_elim, Option, Some, None, length, take, refl, sym, ap, subst, ◌∙◌}
use Rattle.std.specs.Prelude.{◌^◌}
use Rattle.std.proofs.lemmas.Bool.{cond_both}
use Rattle.raft_log.specs.Lists.{item, with_item}
use Rattle.raft_log.specs.declared.entry.Entry.{Entry}
use Rattle.raft_log.specs.declared.message.Message.{Message}
use Rattle.raft_log.specs.declared.node_state.Live.{Live}
use Rattle.raft_log.specs.Node.{Node, is_leader}
use Rattle.election.specs.Elections.{timed_out}
use Rattle.replication.specs.Replication.{on_forward, ask}
use Rattle.agreement.specs.World.{sent_of, placed}
use Rattle.node_steps.specs.declared.refusal.Refusal.TheVariants.{LogFull, TermsSpent, NoLeader, Behind, BadOrigin}
use Rattle.node_steps.specs.Asking.{is_full, may_ask, finds_leader, new_session}
use Rattle.raft_node.specs.Steps.{stopped, Out, Quiet, Turn, Own, Acts, Restarts, Stops, quiet, refused, applied_history, expired, asks, asked, adds, opened, closed, heard, claimed, if_leading, applied, apply_next, looked, turn, own}
use Rattle.raft_node.specs.Machine.{Machine}
use Rattle.world_run.specs.World.{Input, Timeout, Beat, Deliver, Ask, Opened, Closed, Heard, Claim, Apply, Look, Event, Does, Restart, StopIn, actor, hears, act_of, BringsAt, BringsIn, Brings, Brought, IsAccepted, world_by, happens, run, longest_over}
use Rattle.agreement.specs.World as core
use Rattle.agreement.specs.Laws as core_laws
use Rattle.agreement.proofs.Ruled as ruled
use Rattle.agreement.specs.Laws.{longer, longest_now, IsAmong}

module _ (M : Machine) where
  -- a core input by which the node becomes the result of its turn; a refused turn brings nothing
  pub record Low (n i : ℕ) (w : List (Node M.Body)) (K : M.Body → Type 0) (s : Node M.Body) (t : Turn M) : Type 0 where
    pub by : core.Input M.Body
    pub actor_is : core.actor w by ≡ i
    pub does : core.acted M.blank n i (core.act_of w by) s ≡ t.node
    pub only : (b : M.Body) → IsAmong b (core_laws.brings_in by) → K b × IsAccepted M t.out

  quiet_is : IsAccepted M Quiet
  quiet_is refusal e = absurd (cc e)

  the_one : (K : M.Body → Type 0) (b : M.Body) → K b → (c : M.Body) → IsAmong c (b ∷ []) → K c × IsAccepted M Quiet
  the_one K b k c h = ⊎_elim (λ e. (subst K (sym e) k, quiet_is)) (λ z. absurd z) h

  module _ (n i : ℕ) (w : List (Node M.Body)) (K : M.Body → Type 0) (s : Node M.Body) where
    abbrev LowTurn : Turn M → Type 0
    LowTurn t = Low n i w K s t

    idle : (out : Out M) → LowTurn (record { node = s; out = out })
    idle out = record { by = core.Idle i; actor_is = refl; does = refl; only = λ b h. absurd h }

    low_adds : (live : Option Live) (attempts : ℕ) (b : M.Body) → K b → LowTurn (adds M s live attempts b)
    low_adds live attempts b k =
        cond_both (is_full s) (refused M s LogFull) (quiet M (on_forward (record s { live = live; attempts = attempts }) b)) LowTurn
        (λ h. idle _) (λ h. record { by = core.Lift i s.applied live attempts (Some b); actor_is = refl; does = refl; only = the_one K b k })

    low_expired : LowTurn (expired M n i s)
    low_expired =
        cond_both (not (is_leader s.role) && leb (2 ^ 60) s.term) (refused M s TermsSpent) (quiet M (timed_out n i s)) LowTurn
        (λ h. idle _) (λ h. record { by = core.Timeout i; actor_is = refl; does = refl; only = λ b h. absurd h })

    low_asked : (b : M.Body) → K b → LowTurn (asked M i s b)
    low_asked b has =
        cond_both (may_ask i s (M.source b)) _ (refused M s BadOrigin) LowTurn
        (λ h. cond_both (finds_leader s s.leader) (asks M i s b) (refused M s NoLeader) LowTurn
        (λ k. cond_both (is_leader s.role && is_full s) (refused M s LogFull) (quiet M (ask i s b)) LowTurn
        (λ f. idle _) (λ f. record { by = core.Ask i b; actor_is = refl; does = refl; only = the_one K b has }))
        (λ k. idle _))
        (λ h. idle _)

    low_leading : (t : Turn M) → (is_leader s.role ≡ true → LowTurn t) → LowTurn (if_leading M s t)
    low_leading t h = cond_both (is_leader s.role) t (quiet M s) LowTurn (λ l. h l) (λ l. idle _)

    low_opened : (s.live ≡ None → K (M.opened (new_session s).id)) → (o : Option Live) → s.live ≡ o → LowTurn (opened M s o)
    low_opened k None e = cond_both (leb (2 ^ 60) s.attempts) (refused M s TermsSpent) _ LowTurn (λ h. idle _) (λ h. low_adds _ _ _ (k e))
    low_opened k (Some l) e = idle _

    low_closed : ((l : Live) → s.live ≡ Some l → K (M.shut l.id)) → (o : Option Live) → s.live ≡ o → LowTurn (closed M s o)
    low_closed k None e = idle _
    low_closed k (Some l) e = low_adds _ _ _ (k l e)

    low_heard : (at : ℕ) (line : M.Line) → ((l : Live) → s.live ≡ Some l → K (M.heard l.id l.next at line)) → (o : Option Live) → s.live ≡ o → LowTurn (heard M s o at line)
    low_heard at line k None e = idle _
    low_heard at line k (Some l) e = low_adds _ _ _ (k l e)

    abbrev next : Option ℕ
    next = M.next_claim (applied_history M s)

    low_claimed : ((l : Live) (number : ℕ) → s.live ≡ Some l → next ≡ Some number → K (M.claim l.id number)) → (o : Option Live) (p : Option ℕ) → s.live ≡ o → next ≡ p → LowTurn (claimed M s o p)
    low_claimed k None p e f = idle _
    low_claimed k (Some l) None e f = idle _
    low_claimed k (Some l) (Some number) e f = low_adds _ _ _ (k l number e f)

    low_applied : (o : Option (Entry M.Body)) → LowTurn (applied M i s o)
    low_applied None = idle _
    low_applied (Some e) = record { by = core.Lift i (suc s.applied) s.live s.attempts None; actor_is = refl; does = refl; only = λ b h. absurd h }

    low_apply : LowTurn (apply_next M i s)
    low_apply = cond_both (ltb s.applied s.commit) _ (quiet M s) LowTurn (λ h. low_applied (item s.log (suc s.applied))) (λ h. idle _)

    low_looked : (from : ℕ) (target : M.Target) → LowTurn (looked M s from target)
    low_looked from target = cond_both (ltb s.applied from) (refused M s (Behind s.applied)) _ LowTurn (λ h. idle _) (λ h. idle _)

    hear_same : (o : Option (Message M.Body)) → core.acted M.blank n i (core.hears o) s ≡ (turn M n i (hears M o) s).node
    hear_same None = refl
    hear_same (Some m) = refl

  pub low_input : (n : ℕ) (w : List (Node M.Body)) (x : Input M) (s : Node M.Body) → Low n (actor M w x) w (BringsAt M s x) s (turn M n (actor M w x) (act_of M w x) s)
  low_input n w (Timeout i) s = low_expired n i w _ s
  low_input n w (Beat i) s = record { by = core.Beat i; actor_is = refl; does = refl; only = λ b h. absurd h }
  low_input n w (Deliver j k) s = record { by = core.Deliver j k; actor_is = refl; does = hear_same n _ w (λ b. ⊥) s (sent_of (item w j) k); only = λ b h. absurd h }
  low_input n w (Ask i b) s = low_asked n i w (BringsAt M s (Ask i b)) s b refl
  low_input n w (Opened i) s =
      let K : M.Body → Type 0 = BringsAt M s (Opened i) in
      low_leading n i w K s _ (λ leads. low_opened n i w K s (λ none. (leads, none, refl)) s.live refl)
  low_input n w (Closed i) s =
      let K : M.Body → Type 0 = BringsAt M s (Closed i) in
      low_leading n i w K s _ (λ leads. low_closed n i w K s (λ l live. (leads, l, live, refl)) s.live refl)
  low_input n w (Heard i at line) s =
      let K : M.Body → Type 0 = BringsAt M s (Heard i at line) in
      low_leading n i w K s _ (λ leads. low_heard n i w K s at line (λ l live. (leads, l, live, refl)) s.live refl)
  low_input n w (Claim i) s =
      let K : M.Body → Type 0 = BringsAt M s (Claim i) in
      low_leading n i w K s _ (λ leads. low_claimed n i w K s (λ l number live next. (leads, l, live, number, next, refl)) s.live (M.next_claim (applied_history M s)) refl refl)
  low_input n w (Apply i) s = low_apply n i w _ s
  low_input n w (Look i from target) s = low_looked n i w _ s from target

  same_world : (w : List (Node M.Body)) (i j : ℕ) → j ≡ i → (c : core.Own M.Body) (r : Own M) → ((s : Node M.Body) → item w i ≡ Some s → core.own M.blank (length w) i c s ≡ (own M (length w) i r s).node)
      → placed w j (core.own M.blank (length w) j c) (item w j) ≡ world_by M w i r (item w i)
  same_world w i j p c r h = subst (λ z. placed w z (core.own M.blank (length w) z c) (item w z) ≡ world_by M w i r (item w i)) (sym p) (by_item (item w i) refl)
    where
      by_item : (o : Option (Node M.Body)) → item w i ≡ o → placed w i (core.own M.blank (length w) i c) o ≡ world_by M w i r o
      by_item None e = refl
      by_item (Some s) e = ap (λ z. with_item w i z) (h s e)

  record LowEvent (w : List (Node M.Body)) (e : Event M) : Type 0 where
    by : core.Event M.Body
    goes : core.happens M.blank w by ≡ happens M w e
    only : (b : M.Body) → IsAmong b (core_laws.brings by) → Brings M w e b

  none_some : {A B : Type 0} {x : A} → None ≡ Some x → B
  none_some e = absurd (cc e)

  low_event : (w : List (Node M.Body)) (e : Event M) → LowEvent w e
  low_event w (Does x) = by_item (item w (actor M w x)) refl
    where
      by_item : (o : Option (Node M.Body)) → item w (actor M w x) ≡ o → LowEvent w (Does x)
      by_item None e = record { by = core.Does (core.Idle (actor M w x)); goes = same_world w _ _ refl (core.Acts core.Nothing) (Acts (act_of M w x)) (λ s at. none_some (sym e ∙ at)); only = λ b h. absurd h }
      by_item (Some s) e =
          let l : Low (length w) (actor M w x) w (BringsAt M s x) s (turn M (length w) (actor M w x) (act_of M w x) s) = low_input (length w) w x s in
          record {
            by = core.Does l.by;
            only = λ b h. let o = l.only b h in record { node = s; there = e; accepted = o.1; brings = o.0 };
            goes = same_world w (actor M w x) (core.actor w l.by) l.actor_is (core.Acts (core.act_of w l.by)) (Acts (act_of M w x))
                (λ z at. let same : s ≡ z = cc (e, at) in subst (λ y. core.acted M.blank (length w) (actor M w x) (core.act_of w l.by) y ≡ (turn M (length w) (actor M w x) (act_of M w x) y).node) same l.does);
          }
  low_event w (Restart i) = record { by = core.Restart i; goes = same_world w i i refl core.Restarts Restarts (λ s at. refl); only = λ b h. absurd h }
  low_event w (StopIn x false) =
      record {
        by = core.Restart (actor M w x);
        goes = same_world w _ _ refl core.Restarts (Stops (act_of M w x) false) (λ s at. refl);
        only = λ b h. absurd h;
      }
  low_event w (StopIn x true) = by_item (item w (actor M w x)) refl
    where
      by_item : (o : Option (Node M.Body)) → item w (actor M w x) ≡ o → LowEvent w (StopIn x true)
      by_item None e = record { by = core.StopIn (core.Idle (actor M w x)) true; goes = same_world w _ _ refl (core.Stops core.Nothing true) (Stops (act_of M w x) true) (λ s at. none_some (sym e ∙ at)); only = λ b h. absurd h }
      by_item (Some s) e =
          let l : Low (length w) (actor M w x) w (BringsAt M s x) s (turn M (length w) (actor M w x) (act_of M w x) s) = low_input (length w) w x s in
          record {
            by = core.StopIn l.by true;
            only = λ b h. let o = l.only b h in record { node = s; there = e; accepted = o.1; brings = o.0 };
            goes = same_world w (actor M w x) (core.actor w l.by) l.actor_is (core.Stops (core.act_of w l.by) true) (Stops (act_of M w x) true)
                (λ z at. let same : s ≡ z = cc (e, at) in
                ap (λ y. stopped (length w) true z y) (subst (λ y. core.acted M.blank (length w) (actor M w x) (core.act_of w l.by) y ≡ (turn M (length w) (actor M w x) (act_of M w x) y).node) same l.does));
          }

  -- the core's events
  pub lowered : List (Event M) → List (Node M.Body) → List (core.Event M.Body)
  lowered [] w = []
  lowered (e ∷ es) w = (low_event w e).by ∷ lowered es (happens M w e)

  pub run_lowered : (es : List (Event M)) (w : List (Node M.Body)) (k : ℕ) → core.run M.blank (take k (lowered es w)) w ≡ run M (take k es) w
  unfolding lowered
  run_lowered es w zero = refl
  run_lowered [] w (suc k) = refl
  run_lowered (e ∷ es) w (suc k) =
      subst (λ z. core.run M.blank (take k (lowered es (happens M w e))) z ≡ run M (take k es) (happens M w e)) (sym (low_event w e).goes) (run_lowered es (happens M w e) k)

  pub longest_lowered : (es : List (Event M)) (w : List (Node M.Body)) → core_laws.longest_over M.blank (lowered es w) w ≡ longest_over M es w
  unfolding lowered
  longest_lowered [] w = refl
  longest_lowered (e ∷ es) w =
      ap (λ z. longer (longest_now w) z)
      (subst (λ z. core_laws.longest_over M.blank (lowered es (happens M w e)) z ≡ longest_over M es (happens M w e)) (sym (low_event w e).goes) (longest_lowered es (happens M w e)))

  pub lowered_append : (es fs : List (Event M)) (w : List (Node M.Body)) → lowered (es ++ fs) w ≡ lowered es w ++ lowered fs (run M es w)
  unfolding lowered
  lowered_append [] fs w = refl
  lowered_append (e ∷ es) fs w = ap (λ z. (low_event w e).by ∷ z) (lowered_append es fs (happens M w e))

  -- at every moment
  abbrev pub Always : (List (Node M.Body) → Type 0) → List (Event M) → List (Node M.Body) → Type 0
  Always P [] w = P w
  Always P (e ∷ es) w = P w × Always P es (happens M w e)

  pub raise : (P : List (Node M.Body) → Type 0) (es : List (Event M)) (w : List (Node M.Body)) → ruled.Always M.blank P (lowered es w) w → Always P es w
  unfolding lowered
  raise P [] w h = h
  raise P (e ∷ es) w h = (h.0, raise P es (happens M w e) (subst (λ z. ruled.Always M.blank P (lowered es (happens M w e)) z) (low_event w e).goes h.1))

  pub always_at : (P : List (Node M.Body) → Type 0) (es : List (Event M)) (w : List (Node M.Body)) (k : ℕ) → Always P es w → P (run M (take k es) w)
  always_at P [] w zero h = h
  always_at P [] w (suc k) h = h
  always_at P (e ∷ es) w zero h = h.0
  always_at P (e ∷ es) w (suc k) h = always_at P es (happens M w e) k h.1

  among_either : (b : M.Body) (xs ys : List M.Body) → IsAmong b (xs ++ ys) → IsAmong b xs ⊎ IsAmong b ys
  among_either b [] ys h = inr h
  among_either b (x ∷ xs) ys h = ⊎_elim (λ e. inl (inl e)) (λ r. ⊎_elim (λ p. inl (inr p)) (λ q. inr q) (among_either b xs ys r)) h

  pub brought_lowered : (es : List (Event M)) (w : List (Node M.Body)) (b : M.Body) → IsAmong b (core_laws.brought (lowered es w)) → Brought M es w b
  unfolding lowered
  brought_lowered [] w b h = h
  brought_lowered (e ∷ es) w b h =
      ⊎_elim (λ p. inl ((low_event w e).only b p)) (λ q. inr (brought_lowered es (happens M w e) b q))
      (among_either b (core_laws.brings (low_event w e).by) (core_laws.brought (lowered es (happens M w e))) h)
