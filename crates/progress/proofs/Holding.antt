-- A node that leads already leads the nodes of a majority, if none of them is ahead of it; one that hears of a later
-- term follows.
use Rattle.std.proofs.Common.{◌≡◌, ℕ, zero, suc, ◌+◌, ◌<◌, ◌≤◌, Bool, true, false, ltb, List, [], ◌∷◌, length, map, Some, None, refl, sym, ap, subst, ◌∙◌, arith, inl, inr, ⊎_elim}
use Rattle.std.proofs.lemmas.Bool.{cond-true, cond-false, cond_both, lt-ltb, ltb-true, ltb-false, cases_Bool, cases_eq}
use Rattle.raft_log.specs.declared.role.Role.TheVariants.{Follower}
use Rattle.raft_log.specs.Lists.{item, item_or, others}
use Rattle.raft_log.specs.Logs.{entry_limit, last_term}
use Rattle.raft_log.specs.Node.{Node, is_leader, raised, sending}
use Rattle.replication.specs.Replication.{append_for, beat, reply, on_append_reply}
use Rattle.node_steps.specs.Messages.{handled, on_message}
use Rattle.raft_node.specs.Machine.{Machine}
use Rattle.agreement.specs.World.{Begins}
use Rattle.agreement.specs.Laws.{IsIn, IsMajority}
use Rattle.agreement.proofs.Plain.{role_leader}
use Rattle.world_run.specs.World.{World, Event, Does, Beat, Deliver, happens}
use Rattle.progress.specs.Plans.{place_among, count_sent, term_of, ahead, greatest_term, peers, answered, exchange}
use Rattle.progress.specs.Laws.{boot_of}
use Rattle.progress.proofs.Places.{item_there, some_same}
use Rattle.progress.proofs.Members.{Among, in_bounds, all_peers}
use Rattle.progress.proofs.Stepping.{Stepped, event_stepped, Leads, leads_first, leads_more}
use Rattle.progress.proofs.Electing.{term_within}
use Rattle.progress.proofs.Exchanging.{sent_to, Exchanged, exchanged}
use Rattle.progress.proofs.Voting.{raised_up, raised_same, heard_as}
use Rattle.progress.proofs.Alike.{AreAlike, Has}
use Rattle.progress.proofs.Sane.{Heads, Sane}
use Rattle.progress.proofs.Appending.{Follows, Linked}
use Rattle.progress.proofs.Settling.{Led}
use Rattle.progress.proofs.Confirming.{Caught, Nothing}
use Rattle.progress.proofs.Reigning.{committed_front}

-- none of these nodes is ahead, or this one is
pub ahead_none : {B : Type 0} (w : List (Node B)) (t : ℕ) (js : List ℕ) → ahead w t js ≡ None → (k : ℕ) → Among k js → term_of (item w k) ≤ t
ahead_none w t [] e k h = absurd h
ahead_none w t (j ∷ js) e k h =
    ⊎_elim
    (λ yes'. absurd (cc (cond-true (ltb t (term_of (item w j))) (Some j) (ahead w t js) yes', e)))
    (λ not'. ⊎_elim
    (λ q. subst (λ z. term_of (item w z) ≤ t) (sym q) (ltb-false t (term_of (item w j)) not'))
    (λ a. ahead_none w t js (sym (cond-false (ltb t (term_of (item w j))) (Some j) (ahead w t js) not') ∙ e) k a) h)
    (cases_Bool (ltb t (term_of (item w j))))

pub ahead_some : {B : Type 0} (w : List (Node B)) (t : ℕ) (js : List ℕ) (j : ℕ) → ahead w t js ≡ Some j → Among j js × (t < term_of (item w j))
ahead_some w t [] j e = absurd (cc e)
ahead_some w t (i ∷ js) j e =
    ⊎_elim
    (λ yes'.
    let same : i ≡ j = cc (cond-true (ltb t (term_of (item w i))) (Some i) (ahead w t js) yes', e) in
    (inl (sym same), subst (λ z. t < term_of (item w z)) same (ltb-true t (term_of (item w i)) yes')))
    (λ not'. let r = ahead_some w t js j (sym (cond-false (ltb t (term_of (item w i))) (Some i) (ahead w t js) not') ∙ e) in (inr r.0, r.1))
    (cases_Bool (ltb t (term_of (item w i))))

pub greatest_within : {B : Type 0} (w : List (Node B)) (x : ℕ) → ((k : ℕ) (s : Node B) → item w k ≡ Some s → s.term ≤ x) → greatest_term w ≤ x
greatest_within [] x h = omega arith
greatest_within (s ∷ w) x h =
    let a = h 1 s refl in
    let r = greatest_within w x (λ k t at. later k t at) in
    omega arith
  where
    later : (k : ℕ) (t : Node _) → item w k ≡ Some t → t.term ≤ x
    later zero t at = absurd (cc at)
    later (suc k) t at = h (suc (suc k)) t at

module _ (M : Machine) (set : List Bool) (n c : ℕ) (w : World M) (s : Node M.Body) (size : length w ≡ n) (most : IsMajority n set) (in_c : IsIn set c) (at : item w c ≡ Some s) (sane : Sane n w) (leads : is_leader s.role ≡ true) (room : length s.log < entry_limit) where
  abbrev top : Heads n w c s
  top = sane.heads c s at leads

  pub some_entry : (1 ≤ length s.log) × (last_term s.log ≡ s.term)
  some_entry = ⊎_elim (λ h. h) (λ full. absurd (omega arith)) top.ends

  abbrev pub boots_here : ℕ → ℕ
  boots_here j = boot_of (item w j)

  -- for a node that is not ahead
  module _ (j : ℕ) (t : Node M.Body) (there : item w j ≡ Some t) (le : t.term ≤ s.term) (ne : j ≡ c → ⊥) where
    follows_by : (z : Node M.Body) → z.term ≡ s.term → is_leader z.role ≡ false → z.boot ≡ t.boot → z.applied ≡ t.applied → z.log ≡ t.log → z.commit ≡ t.commit
        → Follows s.term s.log (boots_here j) (length s.log) z
    follows_by z term role boot applied log commit =
        record {
          term_is = term;
          role_is = role;
          boot_is = boot ∙ sym (ap boot_of there);
          applied_in = omega (arith, sane.applied_in j t there, front.0);
          alike = subst (λ l. AreAlike l s.log) (sym log) (sane.alike j c t s there at);
          short = λ b. log ∙ top.short j t there le some_entry.1 (subst (λ l. Begins s.log l) log b);
          commit_in = omega (arith, front.0);
          commit_has = subst (λ l. Has z.commit l s.log) (sym log) (subst (λ k. Has k t.log s.log) (sym commit) front.1);
        }
      where
        front : (t.commit ≤ length s.log) × Has t.commit t.log s.log
        front = committed_front t.log s.log t.commit (sane.commit_in j t there) (top.holds j t there le)

    no_leader : t.term ≡ s.term → is_leader t.role ≡ false
    no_leader same = ⊎_elim (λ l. absurd (ne (top.alone j t there l same))) (λ f. f) (cases_Bool (is_leader t.role))

    follows_it : Follows s.term s.log (boots_here j) (length s.log) (raised t s.term)
    follows_it =
        cond_both (ltb t.term s.term) _ t (λ z. Follows s.term s.log (boots_here j) (length s.log) z)
        (λ h. follows_by (record t { term = s.term; vote = None; role = Follower; leader = None; live = None }) refl refl refl refl refl refl)
        (λ h. let same : t.term ≡ s.term = let b = ltb-false t.term s.term h in omega arith in follows_by t same (no_leader same) refl refl refl refl)

    log_raised : (raised t s.term).log ≡ t.log
    log_raised = cond_both (ltb t.term s.term) _ t (λ z. z.log ≡ t.log) (λ h. refl) (λ h. refl)

    linked_to : 1 ≤ j → j ≤ n → Linked s.log (item_or s.next j 0) (item_or s.matched j 0) (raised t s.term).log
    linked_to low high =
        record {
          next_low = top.next_low j low high;
          next_high = top.next_high j;
          matched_in = top.matched_in j;
          matched_has = subst (λ l. Has (item_or s.matched j 0) l s.log) (sym log_raised) (top.matched_has j t there le);
        }

  abbrev OfCaught : ℕ → ℕ → ℕ → Node M.Body → Type 0
  OfCaught j next matched t = Caught M set n c s.term s.log boots_here (length s.log) most in_c some_entry.1 some_entry.0 (peers set c) j next matched t

  abbrev OfNothing : Node M.Body → Type 0
  OfNothing t = Nothing M set n c s.term s.log boots_here (length s.log) most in_c some_entry.1 some_entry.0 t

  pub still_reigns : ((j : ℕ) (t : Node M.Body) → IsIn set j → (j ≡ c → ⊥) → item w j ≡ Some t → t.term ≤ s.term)
      → Led M set n c s.term s.log boots_here (length s.log) OfCaught OfNothing w
  still_reigns behind =
      record {
        long = size;
        leader = s;
        at = at;
        leading = record {
          role_is = role_leader s.role leads;
          term_is = refl;
          boot_is = sym (ap boot_of at);
          applied_in = omega (arith, sane.applied_in c s at, sane.commit_in c s at);
          log_is = refl;
          commit_in = sane.commit_in c s at;
          next_long = top.next_long;
          matched_long = top.matched_long;
        };
        nodes = λ j in_j ne.
            let b = in_bounds set j in_j in
            let l : length set ≡ n = most.0 in
            let found : (t : Node M.Body) × (item w j ≡ Some t) = item_there w j b.0 (omega (arith, b.1, size)) in (
              found.0,
              found.1,
              record {
                follows = follows_it j found.0 found.1 (behind j found.0 in_j ne found.1) ne;
                linked = linked_to j found.0 found.1 (behind j found.0 in_j ne found.1) ne b.0 (omega (arith, b.1));
                more = λ apart. absurd (apart (all_peers set c j in_j ne));
              },
            );
        more = tt;
      }

  -- it hears of a later term

  module _ (j : ℕ) (t : Node M.Body) (in_j : IsIn set j) (ne : j ≡ c → ⊥) (there : item w j ≡ Some t) (later : s.term < t.term) where
    abbrev s1 : Node M.Body
    s1 = sending s (map (append_for c s) (others n c))

    abbrev pub told : Node M.Body
    told = sending t (reply t.term j c false 0 ∷ [])

    abbrev pub behind_it : Node M.Body
    behind_it = record s1 { term = t.term; vote = None; role = Follower; leader = None; live = None }

    b_c : (1 ≤ c) × (c ≤ n)
    b_c = let r = in_bounds set c in_c in let e : length set ≡ n = most.0 in (r.0, omega (arith, r.1))

    b_j : (1 ≤ j) × (j ≤ n)
    b_j = let r = in_bounds set j in_j in let e : length set ≡ n = most.0 in (r.0, omega (arith, r.1))

    refuses : on_message M.blank n j t (append_for c s j) ≡ told
    refuses =
        heard_as M.blank n j t (append_for c s j) refl (λ e. ne (sym e)) b_c.0 b_c.1
        ∙ (ap (λ z. handled M.blank n j z (append_for c s j) (append_for c s j).kind) (raised_same t s.term (omega arith))
        ∙ cond-true (ltb s.term t.term) _ _ (lt-ltb s.term t.term later))

    learns : on_message M.blank n c s1 (reply t.term j c false 0) ≡ behind_it
    learns =
        heard_as M.blank n c s1 (reply t.term j c false 0) refl ne b_j.0 b_j.1
        ∙ ap (λ z. on_append_reply n c z j t.term false 0) (raised_up s1 t.term later)

    abbrev v1 : World M
    v1 = happens M w (Does (Beat c))

    beaten : Stepped M w v1 c (beat (length w) c s)
    beaten = event_stepped M w (Does (Beat c)) c s refl at

    at_c : item v1 c ≡ Some s1
    at_c = beaten.here ∙ ap Some (cond-true (is_leader s.role) _ s leads ∙ ap (λ z. sending s (map (append_for c s) (others z c))) size)

    pub steps_back : Leads M set w (exchange M c j w) (λ v. Exchanged M w v c j behind_it told)
    steps_back =
        leads_first M set w (Does (Beat c)) (answered M c (count_sent (item w c)) j w) (λ v. Exchanged M w v c j behind_it told) in_c tt
        (subst (λ z. Leads M set v1 z (λ v. Exchanged M w v c j behind_it told)) same_list
        (leads_more M set v1 (answered M c (count_sent (item w c)) j v1) (λ v. Exchanged M v1 v c j behind_it told) (λ v. Exchanged M w v c j behind_it told)
        (exchanged M set v1 c j (count_sent (item w c)) s1 t behind_it told (append_for c s j) (reply t.term j c false 0)
        in_c in_j ne at_c (beaten.else j ne ∙ there)
        (ap (λ z. item s1.sent (z + place_among c j)) (ap count_sent at) ∙ sent_to n c j s.sent (append_for c s) b_c.0 b_j.0 b_j.1 ne)
        refl
        (ap (λ z. on_message M.blank z j t (append_for c s j)) (beaten.long ∙ size) ∙ refuses)
        refl refl
        (ap (λ z. on_message M.blank z c s1 (reply t.term j c false 0)) (beaten.long ∙ size) ∙ learns))
        (λ v ex. record { at_c = ex.at_c; at_j = ex.at_j; else = λ k nc nj. ex.else k nc nj ∙ beaten.else k nc; long = ex.long ∙ beaten.long })))
      where
        same_list : answered M c (count_sent (item w c)) j (happens M w (Does (Beat c))) ≡ answered M c (count_sent (item w c)) j w
        same_list =
            let e : count_sent (item (happens M w (Does (Beat c))) j) ≡ count_sent (item w j) = ap count_sent (beaten.else j ne) in
            ap (λ z. let first : Event M = Does (Deliver c (count_sent (item w c) + place_among c j)) in let second : Event M = Does (Deliver j (suc z)) in first ∷ second ∷ []) e

    here_s : item w c ≡ Some s
    here_s = at

    -- each node is unchanged in what counts
    pub record Alike (v : World M) (k : ℕ) (u : Node M.Body) : Type 0 where
      pub old : Node M.Body
      pub was : item w k ≡ Some old
      pub log_is : u.log ≡ old.log
      pub boot_is : u.boot ≡ old.boot
      pub term_in : u.term ≤ greatest_term w

    pub alike_each : (v : World M) → Exchanged M w v c j behind_it told → (k : ℕ) (u : Node M.Body) → item v k ≡ Some u → Alike v k u
    alike_each v ex k u at =
        ⊎_elim
        (λ e. as_c (some_same (sym at ∙ (ap (λ z. item v z) e ∙ ex.at_c))) e)
        (λ nc. ⊎_elim
        (λ e. as_j (some_same (sym at ∙ (ap (λ z. item v z) e ∙ ex.at_j))) e)
        (λ nj. let was : item w k ≡ Some u = sym (ex.else k nc nj) ∙ at in record { old = u; was = was; log_is = refl; boot_is = refl; term_in = term_within w k u was })
        (cases_eq k j))
        (cases_eq k c)
      where
        as_c : u ≡ behind_it → k ≡ c → Alike v k u
        as_c q e = record { old = s; was = ap (λ z. item w z) e ∙ here_s; log_is = ap (λ z. z.log) q; boot_is = ap (λ z. z.boot) q; term_in = subst (λ z. z.term ≤ greatest_term w) (sym q) (term_within w j t there) }

        as_j : u ≡ told → k ≡ j → Alike v k u
        as_j q e = record { old = t; was = ap (λ z. item w z) e ∙ there; log_is = ap (λ z. z.log) q; boot_is = ap (λ z. z.boot) q; term_in = subst (λ z. z.term ≤ greatest_term w) (sym q) (term_within w j t there) }

    pub not_above : (v : World M) → Exchanged M w v c j behind_it told → greatest_term v ≤ greatest_term w
    not_above v ex = greatest_within v (greatest_term w) (λ k u at. (alike_each v ex k u at).term_in)

    pub boots_back : (v : World M) → Exchanged M w v c j behind_it told → (k : ℕ) → IsIn set k → boot_of (item v k) ≡ boot_of (item w k)
    boots_back v ex k in_k =
        ⊎_elim
        (λ e. ap (λ z. boot_of (item v z)) e ∙ (ap boot_of ex.at_c ∙ (sym (ap boot_of here_s) ∙ ap (λ z. boot_of (item w z)) (sym e))))
        (λ nc. ⊎_elim
        (λ e. ap (λ z. boot_of (item v z)) e ∙ (ap boot_of ex.at_j ∙ (sym (ap boot_of there) ∙ ap (λ z. boot_of (item w z)) (sym e))))
        (λ nj. ap boot_of (ex.else k nc nj)) (cases_eq k j))
        (cases_eq k c)

    pub over_back : (v : World M) → Exchanged M w v c j behind_it told → (k : ℕ) (u : Node M.Body) → IsIn set k → item w k ≡ Some u → u.term ≤ greatest_term v
    over_back v ex k u in_k at =
        ⊎_elim
        (λ e. let q : u ≡ s = some_same (sym at ∙ (ap (λ z. item w z) e ∙ here_s)) in let r = term_within v c behind_it ex.at_c in let p : u.term ≡ s.term = ap (λ z. z.term) q in omega arith)
        (λ nc. ⊎_elim
        (λ e. let q : u ≡ t = some_same (sym at ∙ (ap (λ z. item w z) e ∙ there)) in let r = term_within v j told ex.at_j in let p : u.term ≡ t.term = ap (λ z. z.term) q in omega arith)
        (λ nj. term_within v k u (ex.else k nc nj ∙ at)) (cases_eq k j))
        (cases_eq k c)
