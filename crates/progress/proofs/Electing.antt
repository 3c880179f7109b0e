-- A node whose log is the most up to date is elected by the nodes of a majority.
use Rattle.std.proofs.Common.{◌≡◌, ℕ, zero, suc, ◌+◌, ◌-◌, ◌<◌, ◌≤◌, Bool, false, true, List, [], ◌∷◌, length, replicate, Some, refl, sym, ap, subst, ◌∙◌, arith, inl, inr, ◌⊎◌, ⊎_elim}
use Rattle.std.specs.Prelude.{◌^◌}
use Rattle.std.proofs.lemmas.Bool.{cases_eq, true≢false}
use Rattle.raft_log.specs.declared.message.Kind.TheVariants.{RequestVote, Vote}
use Rattle.raft_log.specs.declared.message.Message.{Message}
use Rattle.raft_log.specs.Lists.{item}
use Rattle.raft_log.specs.Logs.{entry_limit, last_term}
use Rattle.raft_log.specs.Node.{Node, is_leader, message}
use Rattle.election.specs.Elections.{asking}
use Rattle.node_steps.specs.Messages.{on_message}
use Rattle.raft_node.specs.Machine.{Machine}
use Rattle.raft_node.specs.Steps.{Expires, turn}
use Rattle.agreement.specs.Laws.{IsIn, IsMajority, IsAsUpToDateAs}
use Rattle.world_run.specs.World.{World, Does, Timeout, happens}
use Rattle.progress.specs.Plans.{place_among, count_sent, term_of, greatest_term, peers, answered, rise, canvass, elect, for_each}
use Rattle.progress.proofs.Places.{item_there}
use Rattle.progress.proofs.Members.{Among, in_bounds, AreLeft, peers_left, all_peers, left_rest}
use Rattle.progress.proofs.Stepping.{Stepped, event_stepped, Leads, leads_nothing, leads_event, leads_first, leads_then, leads_more, leads_each}
use Rattle.progress.proofs.Exchanging.{sent_to, Exchanged, exchanged}
use Rattle.progress.proofs.Voting.{voted, votes, LeadsNow, Stands, counts, Waits, asks_on, asks_first, own_vote, expires, majority_grows}

pub term_within : {B : Type 0} (w : List (Node B)) (k : ℕ) (s : Node B) → item w k ≡ Some s → s.term ≤ greatest_term w
term_within w zero s at = absurd (cc at)
term_within [] (suc k) s at = absurd (cc at)
term_within (x ∷ w) (suc zero) s at = let e : x.term ≡ s.term = ap (λ z. term_of z) at in omega arith
term_within (x ∷ w) (suc (suc k)) s at = let r = term_within w (suc k) s at in omega arith

module _ (M : Machine) where
  -- what a node needs to be elected
  pub record MayLead (set : List Bool) (n c : ℕ) (w : World M) (s : Node M.Body) : Type 0 where
    pub size : length w ≡ n
    pub two : 2 ≤ n
    pub most : IsMajority n set
    pub in_set : IsIn set c
    pub at : item w c ≡ Some s
    pub good : IsAsUpToDateAs set w s.log
    pub terms : greatest_term w < 2 ^ 60
    pub room : length s.log < entry_limit
    pub waits : is_leader s.role ≡ false
    pub commit_in : s.commit ≤ length s.log
    pub applied_in : s.applied ≤ length s.log

  -- only this node changed, and waits in this term
  pub record Risen (c b : ℕ) (w v : World M) (log : List _) (t : ℕ) : Type 0 where
    pub node : Node M.Body
    pub at : item v c ≡ Some node
    pub waits : Waits {B = M.Body} t b log node
    pub else : (k : ℕ) → (k ≡ c → ⊥) → item v k ≡ item w k
    pub long : length v ≡ length w

  module _ (set : List Bool) (n c : ℕ) (w : World M) (s : Node M.Body) (may : MayLead set n c w s) where
    abbrev Up : ℕ → World M → Type 0
    Up t v = Risen c s.boot w v s.log t

    waited : (t : ℕ) (v : World M) → Up t v → t < 2 ^ 60 → Up (suc t) (happens M v (Does (Timeout c)))
    waited t v up lt =
        let step : Stepped M v (happens M v (Does (Timeout c))) c (turn M (length v) c Expires up.node).node = event_stepped M v (Does (Timeout c)) c up.node refl up.at in
        record {
          node = asking (length v) c up.node;
          at = step.here ∙ ap Some (expires M (length v) c up.node up.waits.role_is (omega (arith, up.waits.term_is)));
          waits = asks_on (length v) c t s.boot s.log up.node up.waits;
          else = λ k ne. step.else k ne ∙ up.else k ne;
          long = step.long ∙ up.long;
        }

    timeouts : (k t u : ℕ) (v : World M) → Up t v → u ≡ t + k → u ≤ 2 ^ 60 → Leads M set v (replicate k (Does (Timeout c))) (Up u)
    timeouts zero t u v up e le = leads_nothing M set v (Up u) (subst (λ z. Up z v) (omega arith) up)
    timeouts (suc k) t u v up e le =
        leads_first M set v (Does (Timeout c)) (replicate k (Does (Timeout c))) (Up u) may.in_set tt
        (timeouts k (suc t) u (happens M v (Does (Timeout c))) (waited t v up (omega arith)) (omega arith) le)

    rises : Leads M set w (rise M c w) (Up (greatest_term w))
    rises =
        let under = term_within w c s may.at in
        let told : term_of (item w c) ≡ s.term = ap term_of may.at in
        timeouts (greatest_term w - term_of (item w c)) s.term (greatest_term w) w
        (record {
          node = s;
          at = may.at;
          waits = record { role_is = may.waits; term_is = refl; boot_is = refl; log_is = refl; commit_in = may.commit_in; applied_in = may.applied_in };
          else = λ k ne. refl;
          long = refl;
        })
        (omega arith) (let lt = may.terms in omega arith)

    -- the votes

    abbrev T : ℕ
    T = suc (greatest_term w)

    -- these nodes are to be asked yet
    record Canvassed (sent : List (Message M.Body)) (js : List ℕ) (v : World M) : Type 0 where
      long : length v ≡ n
      leader : Node M.Body
      at : item v c ≡ Some leader
      stands : Stands M.blank n T s.boot s.log sent (λ k. IsIn set k × (Among k js → ⊥)) leader
      joined : (k : ℕ) → IsIn set k → (k ≡ c → ⊥) → (Among k js → ⊥) → (u : Node M.Body) × (item w k ≡ Some u) × (item v k ≡ Some (voted T c k u))
      waits : (k : ℕ) → Among k js → item v k ≡ item w k

    one_asked : (sent : List (Message M.Body)) (base j : ℕ) (js : List ℕ) (v : World M)
        → ((k : ℕ) → 1 ≤ k → k ≤ n → (k ≡ c → ⊥) → item sent (base + place_among c k) ≡ Some (message T c k (RequestVote (length s.log) (last_term s.log))))
        → AreLeft set c (j ∷ js) → Canvassed sent (j ∷ js) v → Leads M set v (answered M c base j v) (Canvassed sent js)
    one_asked sent base j js v asked left h =
        leads_more M set v (answered M c base j v) (λ z. Exchanged M v z c j s' u') (Canvassed sent js)
        (exchanged M set v c j base h.leader u s' u' (message T c j (RequestVote (length s.log) (last_term s.log))) (message T j c (Vote true))
        may.in_set in_j other h.at here
        (ap (λ z. item z (base + place_among c j)) sent_is ∙ asked j low high other)
        refl
        (ap (λ z. on_message M.blank z j u (message T c j (RequestVote (length s.log) (last_term s.log)))) h.long
        ∙ votes M.blank n T c j (length s.log) (last_term s.log) u c_low c_high (λ e. other (sym e)) (omega (arith, term_within w j u there)) (may.good j u in_j there))
        refl refl
        (ap (λ z. on_message M.blank z c h.leader (message T j c (Vote true))) h.long))
        (λ z ex. record {
          long = ex.long ∙ h.long;
          leader = s';
          at = ex.at_c;
          stands = counts M.blank n T s.boot s.log sent (λ k. IsIn set k × (Among k (j ∷ js) → ⊥)) (λ k. IsIn set k × (Among k js → ⊥)) c j h.leader may.room other low high more h.stands;
          joined = λ k in_k ne out. ⊎_elim (λ e. as_j z ex k e) (λ nj. as_before z ex k in_k ne nj (λ a. ⊎_elim nj out a)) (cases_eq k j);
          waits = λ k a. ex.else k (left.others k (inr a)) (λ e. left.apart.0 (subst (λ x. Among x js) e a)) ∙ h.waits k (inr a);
        })
      where
        in_j : IsIn set j
        in_j = left.in_set j (inl refl)

        other : j ≡ c → ⊥
        other = left.others j (inl refl)

        set_long : length set ≡ n
        set_long = may.most.0

        low : 1 ≤ j
        low = (in_bounds set j in_j).0

        high : j ≤ n
        high = let r = (in_bounds set j in_j).1 in omega (arith, set_long)

        c_low : 1 ≤ c
        c_low = (in_bounds set c may.in_set).0

        c_high : c ≤ n
        c_high = let r = (in_bounds set c may.in_set).1 in omega (arith, set_long)

        found : (u : Node M.Body) × (item w j ≡ Some u)
        found = item_there w j low (let e = may.size in omega (arith, high))

        u : Node M.Body
        u = found.0

        there : item w j ≡ Some found.0
        there = found.1

        here : item v j ≡ Some found.0
        here = h.waits j (inl refl) ∙ found.1

        s' : Node M.Body
        s' = on_message M.blank n c h.leader (message T j c (Vote true))

        u' : Node M.Body
        u' = voted T c j found.0

        sent_is : h.leader.sent ≡ sent
        sent_is = ⊎_elim (λ a. a.0.sent_is) (λ l. l.sent_is) h.stands

        more : (k : ℕ) → IsIn set k × (Among k js → ⊥) → (IsIn set k × (Among k (j ∷ js) → ⊥)) ⊎ (k ≡ j)
        more k q = ⊎_elim (λ e. inr e) (λ nj. inl (q.0, (λ a. ⊎_elim nj q.1 a))) (cases_eq k j)

        as_j : (z : World M) → Exchanged M v z c j (on_message M.blank n c h.leader (message T j c (Vote true))) (voted T c j found.0) → (k : ℕ) → k ≡ j
            → (x : Node M.Body) × (item w k ≡ Some x) × (item z k ≡ Some (voted T c k x))
        as_j z ex k e =
            subst (λ i. (x : Node M.Body) × (item w i ≡ Some x) × (item z i ≡ Some (voted T c i x))) (sym e) (found.0, found.1, ex.at_j)

        as_before : (z : World M) → Exchanged M v z c j (on_message M.blank n c h.leader (message T j c (Vote true))) (voted T c j found.0) → (k : ℕ) → IsIn set k → (k ≡ c → ⊥) → (k ≡ j → ⊥) → (Among k (j ∷ js) → ⊥)
            → (x : Node M.Body) × (item w k ≡ Some x) × (item z k ≡ Some (voted T c k x))
        as_before z ex k in_k ne nj out = let r = h.joined k in_k ne out in (r.0, r.1, ex.else k ne nj ∙ r.2)

    -- it leads, in a term above every other, and the others of the set voted for it
    pub record Elected (v : World M) : Type 0 where
      pub long : length v ≡ n
      pub leader : Node M.Body
      pub at : item v c ≡ Some leader
      pub leads : LeadsNow M.blank n T s.boot s.log leader.sent leader
      pub joined : (k : ℕ) → IsIn set k → (k ≡ c → ⊥) → (u : Node M.Body) × (item w k ≡ Some u) × (item v k ≡ Some (voted T c k u))

    c_bounds : (1 ≤ c) × (c ≤ n)
    c_bounds = let r = in_bounds set c may.in_set in let e : length set ≡ n = may.most.0 in (r.0, omega (arith, r.1))

    won : (sent : List (Message M.Body)) (v : World M) → Canvassed sent [] v → Elected v
    won sent v h =
        record {
          long = h.long;
          leader = h.leader;
          at = h.at;
          leads = ⊎_elim (λ a. absurd (true≢false (sym (majority_grows n set h.leader.voters (may.most.0 ∙ sym a.0.voters_length) (λ k i. a.1 k (i, (λ z. z))) may.most.1) ∙ a.0.few))) (λ l. same_sent l) h.stands;
          joined = λ k i ne. h.joined k i ne (λ z. z);
        }
      where
        same_sent : LeadsNow M.blank n T s.boot s.log sent h.leader → LeadsNow M.blank n T s.boot s.log h.leader.sent h.leader
        same_sent l = subst (λ z. LeadsNow M.blank n T s.boot s.log z h.leader) (sym l.sent_is) l

    begins : (v : World M) (up : Up (greatest_term w) v) → Leads M set v (Does (Timeout c) ∷ []) (Canvassed (asking n c up.node).sent (peers set c))
    begins v up =
        leads_event M set v (Does (Timeout c)) (Canvassed (asking n c up.node).sent (peers set c)) may.in_set tt
        (record {
          long = step.long ∙ (up.long ∙ may.size);
          leader = asking n c up.node;
          at = step.here ∙ ap Some (expires M (length v) c up.node up.waits.role_is (let lt = may.terms in omega (arith, up.waits.term_is)) ∙ ap (λ z. asking z c up.node) (up.long ∙ may.size));
          stands = inl (asks_first n c (greatest_term w) s.boot s.log up.node may.two c_bounds.0 up.waits, (λ k q. own k q));
          joined = λ k i ne out. absurd (out (all_peers set c k i ne));
          waits = λ k a. let ne : k ≡ c → ⊥ = (peers_left set c).others k a in step.else k ne ∙ up.else k ne;
        })
      where
        step : Stepped M v (happens M v (Does (Timeout c))) c (turn M (length v) c Expires up.node).node
        step = event_stepped M v (Does (Timeout c)) c up.node refl up.at

        own : (k : ℕ) → IsIn set k × (Among k (peers set c) → ⊥) → IsIn (asking n c up.node).voters k
        own k q =
            ⊎_elim (λ e. subst (λ z. IsIn (asking n c up.node).voters z) (sym e) (own_vote n c up.node c_bounds.0 c_bounds.1))
            (λ ne. absurd (q.1 (all_peers set c k q.0 ne))) (cases_eq k c)

    all_asked : (v : World M) (up : Up (greatest_term w) v) (k : ℕ) → 1 ≤ k → k ≤ n → (k ≡ c → ⊥)
        → item (asking n c up.node).sent (count_sent (item v c) + place_among c k) ≡ Some (message T c k (RequestVote (length s.log) (last_term s.log)))
    all_asked v up k low high ne =
        ap (λ z. item (asking n c up.node).sent (z + place_among c k)) (ap count_sent up.at)
        ∙ (sent_to n c k up.node.sent (λ j. message (suc up.node.term) c j (RequestVote (length up.node.log) (last_term up.node.log))) c_bounds.0 low high ne
        ∙ (ap (λ z. Some (message (suc z) c k (RequestVote (length up.node.log) (last_term up.node.log)))) up.waits.term_is
        ∙ ap (λ z. Some (message T c k (RequestVote (length z) (last_term z)))) up.waits.log_is))

    canvassed : (v : World M) → Up (greatest_term w) v → Leads M set v (canvass M c (peers set c) v) Elected
    canvassed v up =
        let sent : List (Message M.Body) = (asking n c up.node).sent in
        let base : ℕ = count_sent (item v c) in
        leads_then M set v (λ z. Does (Timeout c) ∷ []) (for_each M (answered M c base) (peers set c)) (Canvassed sent (peers set c)) Elected
        (begins v up)
        (λ z h. leads_more M set z (for_each M (answered M c base) (peers set c) z) (Canvassed sent []) Elected
        (leads_each M set (answered M c base) (AreLeft set c) (Canvassed sent)
        (λ j js x left i. one_asked sent base j js x (all_asked v up) left i)
        (λ j js left. left_rest set c j js left) (peers set c) z (peers_left set c) h)
        (won sent))

    pub elected_by : Leads M set w (elect M c (peers set c) w) Elected
    elected_by = leads_then M set w (rise M c) (canvass M c (peers set c)) (Up (greatest_term w)) Elected rises canvassed
