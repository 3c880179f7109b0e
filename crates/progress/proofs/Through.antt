-- In a world that a group reaches, a majority of its nodes has a leader, commits all that it has, and answers.
use Rattle.std.proofs.Common.{◌≡◌, ℕ, suc, ◌<◌, ◌≤◌, Bool, true, ◌&&◌, eqb, List, length, None, Some, refl, sym, ap, subst, ◌∙◌, arith, ⊎_elim}
use Rattle.std.proofs.lemmas.Bool.{cases_eq}
use Rattle.machine_laws.specs.declared.class.Source.{Source}
use Rattle.machine_laws.specs.declared.class.Source.TheVariants.{Client, Run, Node as AnyNode, Leader as ALeader}
use Rattle.raft_log.specs.Lists.{item, item_or}
use Rattle.raft_log.specs.Logs.{entry_limit}
use Rattle.raft_log.specs.Node.{Node}
use Rattle.node_steps.specs.Asking.{may_ask}
use Rattle.raft_node.specs.Machine.{Machine}
use Rattle.agreement.specs.Laws.{IsIn, IsMajority}
use Rattle.world_run.specs.World.{World, Event, run}
use Rattle.progress.specs.Plans.{greatest_term, log_of, elect_events, lead_events, bring_events, through_events, candidate, peers, elect, lead, bring, get_through}
use Rattle.progress.specs.Laws.{boot_of, AreWithin, HasRoom, MayAsk, IsBy, IsElected, IsSettled, IsAnswered, IsThrough}
use Rattle.progress.proofs.Places.{item_there}
use Rattle.progress.proofs.Members.{in_bounds}
use Rattle.progress.proofs.Stepping.{others_stay, Leads, leads_append}
use Rattle.progress.proofs.Electing.{MayLead, Elected, elected_by}
use Rattle.progress.proofs.Sane.{Sane}
use Rattle.progress.proofs.Settling.{Stood}
use Rattle.progress.proofs.Confirming.{Settled, settled_node}
use Rattle.progress.proofs.Standing.{boot_now}
use Rattle.progress.proofs.Lengths.{then_long, elect_long}
use Rattle.progress.proofs.Applying.{answered_later}
use Rattle.progress.proofs.Sums.{add, bring_more, few_peers}
use Rattle.progress.proofs.Ruling as ruling
use Rattle.progress.proofs.Bringing as bringing

module _ (M : Machine) where
  pub is_by : (set : List Bool) (most : ℕ) (w : World M) (es : List (Event M)) → AreWithin M set w es → length es ≤ most → IsBy M set most w es
  is_by set most w es within few = record { within = within; few = few; others = λ i out. others_stay M set es w within i out }

  pub is_elected : (set : List Bool) (n c : ℕ) (w : World M) (s : Node M.Body) → MayLead M set n c w s → IsElected M set c w (elect M c (peers set c) w)
  is_elected set n c w s may =
      let l : Leads M set w (elect M c (peers set c) w) (Elected M set n c w s may) = elected_by M set n c w s may in
      record {
        by = is_by set (elect_events (length w) (greatest_term w)) w (elect M c (peers set c) w) l.within
            (subst (λ z. length (elect M c (peers set c) w) ≤ elect_events z (greatest_term w)) (sym may.size) (elect_long M c (peers set c) w n (few_peers set n c may.most)));
        leader = l.ends.leader;
        at = l.ends.at;
        leads = l.ends.leads.role_is;
        joined = λ j in_j. ⊎_elim
            (λ e. (l.ends.leader, ap (λ z. item (run M (elect M c (peers set c) w) w) z) e ∙ l.ends.at, l.ends.leads.term_is))
            (λ ne. let r = l.ends.joined j in_j ne in (_, r.2, refl)) (cases_eq j c);
      }

  module _ (set : List Bool) (n i : ℕ) (w : World M) (onward : (es : List (Event M)) → Sane n (run M es w)) (size : length w ≡ n) (two : 2 ≤ n) (most : IsMajority n set) (in_i : IsIn set i) (room : HasRoom M set w) where
    abbrev c : ℕ
    c = candidate set w

    abbrev then_world : World M
    then_world = run M (lead M set w) w

    leads : Leads M set w (lead M set w) (ruling.Reign M set n i w onward size two most in_i room)
    leads = ruling.leads M set n i w onward size two most in_i room

    abbrev reign : ruling.Reign M set n i w onward size two most in_i room (run M (lead M set w) w)
    reign = leads.ends

    in_c : IsIn set c
    in_c = ruling.in_c M set n i w onward size two most in_i room

    lead_few : length (lead M set w) ≤ lead_events n (greatest_term w) (length (log_of (item w c)))
    lead_few = ruling.lead_few M set n i w onward size two most in_i room

    abbrev Stays : ℕ → Type 0
    Stays j = (t : Node M.Body) × (item then_world j ≡ Some t) × (t.term ≡ reign.led.leader.term) × (t.log ≡ reign.led.leader.log) × (t.commit ≡ length reign.led.leader.log) × (t.boot ≡ boot_of (item w j))

    as_leader : (j : ℕ) → IsIn set j → j ≡ c → Stays j
    as_leader j in_j e =
        (reign.led.leader, ap (λ z. item then_world z) e ∙ reign.led.at, refl, refl, reign.led.more ∙ sym (ap length reign.led.leading.log_is), reign.led.leading.boot_is ∙ (ap reign.boots (sym e) ∙ reign.known.boots_are j in_j))

    as_other : (j : ℕ) → IsIn set j → (j ≡ c → ⊥) → Stays j
    as_other j in_j ne =
        let r = settled_node M set n c reign.T reign.L reign.boots reign.high most (ruling.in_c M set n i w onward size two most in_i room) reign.known.ends reign.known.some then_world reign.led j in_j ne in
        let st : Stood M set n c reign.T reign.L reign.boots reign.high (Settled M set n c reign.T reign.L reign.boots reign.high most (ruling.in_c M set n i w onward size two most in_i room) reign.known.ends reign.known.some) j (item_or reign.led.leader.next j 0) (item_or reign.led.leader.matched j 0) r.0 = r.2 in
        (r.0, r.1, st.follows.term_is ∙ sym reign.led.leading.term_is, st.more.0 ∙ sym reign.led.leading.log_is, st.more.1 ∙ sym (ap length reign.led.leading.log_is), st.follows.boot_is ∙ reign.known.boots_are j in_j)

    pub is_settled : IsSettled M set c w (lead M set w)
    is_settled =
        record {
          by = is_by set (lead_events (length w) (greatest_term w) (length (log_of (item w c)))) w (lead M set w) leads.within
              (subst (λ z. length (lead M set w) ≤ lead_events z (greatest_term w) (length (log_of (item w c)))) (sym size) lead_few);
          leader = reign.led.leader;
          at = reign.led.at;
          leads = reign.led.leading.role_is;
          above = λ j t in_j at. subst (λ z. t.term ≤ z) (sym reign.led.leading.term_is) (reign.known.above j t in_j at);
          settled = λ j in_j. ⊎_elim (λ e. as_leader j in_j e) (λ ne. as_other j in_j ne) (cases_eq j c);
        }

    module _ (a : ℕ) (body : M.Body) (in_a : IsIn set a) where
      -- whether a request may be asked depends on the run alone
      same_asks : (t u : Node M.Body) (source : Source) → u.boot ≡ t.boot → may_ask a u source ≡ true → may_ask a t source ≡ true
      same_asks t u (Client origin) e h = ap (λ z. eqb origin.0 a && eqb origin.1 z) (sym e) ∙ h
      same_asks t u (Run node boot) e h = ap (λ z. eqb node a && eqb boot z) (sym e) ∙ h
      same_asks t u AnyNode e h = h
      same_asks t u ALeader e h = h

      room1 : length reign.L < entry_limit
      room1 =
          let r = room.entries c (ruling.found M set n i w onward size two most in_i room).0 in_c (ruling.found M set n i w onward size two most in_i room).1 in
          omega (arith, reign.known.long)

      asks_then : MayAsk M a body w → (t : Node M.Body) → item then_world a ≡ Some t → may_ask a t (M.source body) ≡ true
      asks_then may t at =
          let b = in_bounds set a in_a in
          let l : length set ≡ n = most.0 in
          let old : (u : Node M.Body) × (item w a ≡ Some u) = item_there w a b.0 (omega (arith, b.1, size)) in
          let stays : Stays a = ⊎_elim (λ e. as_leader a in_a e) (λ ne. as_other a in_a ne) (cases_eq a c) in
          same_asks t old.0 (M.source body)
          (sym (ap boot_of old.1) ∙ (sym stays.5 ∙ (sym (ap boot_of stays.1) ∙ ap boot_of at))) (may.takes old.0 old.1)

      pub gets_through : MayAsk M a body w → IsThrough M set a body w (get_through M set a body w)
      gets_through may =
          let r : AreWithin M set then_world (bring M set c a body then_world) × IsAnswered M a (boot_of (item then_world a)) None reign.L body then_world (bring M set c a body then_world) =
          bringing.brings M set n c reign.T reign.L reign.boots reign.high most (ruling.in_c M set n i w onward size two most in_i room) reign.known.ends reign.known.some (ruling.no_peers M set n i w onward size two most in_i room) room1 reign.known.high_in a body in_a then_world reign.led (asks_then may) in
          let l : Leads M set w (get_through M set a body w) (λ z. Unit {0}) =
          leads_append M set w (lead M set w) (bring M set c a body then_world) (ruling.Reign M set n i w onward size two most in_i room) (λ z. Unit {0}) leads (λ h. record { ends = tt; within = r.0 }) in
          let boot_is : boot_of (item then_world a) ≡ boot_of (item w a) =
          boot_now M set n c reign.T reign.L reign.boots reign.high most (ruling.in_c M set n i w onward size two most in_i room) reign.known.ends reign.known.some a in_a then_world reign.led ∙ reign.known.boots_are a in_a in
          let stays : Stays a = ⊎_elim (λ e. as_leader a in_a e) (λ ne. as_other a in_a ne) (cases_eq a c) in
          let log_is : log_of (item then_world a) ≡ reign.L = ap log_of stays.1 ∙ (stays.3 ∙ reign.led.leading.log_is) in
          let one : length reign.L ≤ suc (length (log_of (item w c))) = omega (arith, reign.known.long, ap (λ z. length (log_of z)) (ruling.found M set n i w onward size two most in_i room).1) in
          let few : length (bring M set c a body then_world) ≤ bring_events n (length reign.L) =
          bringing.bring_few M set n c reign.T reign.L reign.boots reign.high most (ruling.in_c M set n i w onward size two most in_i room) reign.known.ends reign.known.some (ruling.no_peers M set n i w onward size two most in_i room) room1 reign.known.high_in a body in_a then_world reign.led (asks_then may) in
          let more = bring_more n (length reign.L) (suc (length (log_of (item w c)))) one in
          record {
            by = is_by set (through_events (length w) (greatest_term w) (length (log_of (item w c)))) w (get_through M set a body w) l.within
                (subst (λ z. length (get_through M set a body w) ≤ through_events z (greatest_term w) (length (log_of (item w c)))) (sym size)
                (add (length (lead M set w)) (length (bring M set c a body then_world)) (lead_events n (greatest_term w) (length (log_of (item w c)))) (bring_events n (suc (length (log_of (item w c))))) (length (get_through M set a body w))
                lead_few (omega arith) (then_long M w (lead M set) (bring M set c a body))));
            answered = subst (λ z. IsAnswered M a (boot_of (item w a)) None z body w (get_through M set a body w)) (sym log_is)
                (subst (λ z. IsAnswered M a z None reign.L body w (get_through M set a body w)) boot_is (answered_later M a (boot_of (item then_world a)) None reign.L body w (lead M set w) (bring M set c a body then_world) r.1));
          }
