-- The node of a majority whose log is the most up to date comes to lead it, and all that it has is committed.
use Rattle.std.proofs.Common.{◌≡◌, ℕ, suc, ◌+◌, ◌<◌, ◌≤◌, Bool, true, false, List, [], ◌∷◌, ◌++◌, length, Option, Some, None, refl, sym, ap, subst, ◌∙◌, arith, inl, inr, ◌⊎◌, ⊎_elim, length-append}
use Rattle.std.proofs.lemmas.Bool.{cond_both, cases_eq}
use Rattle.raft_log.specs.declared.entry.Entry.{Entry}
use Rattle.raft_log.specs.Lists.{item}
use Rattle.raft_log.specs.Logs.{entry_limit, last_term, up_to_date}
use Rattle.raft_log.specs.Node.{Node, is_leader}
use Rattle.raft_node.specs.Machine.{Machine}
use Rattle.agreement.specs.World.{Begins}
use Rattle.agreement.specs.Laws.{IsIn, IsMajority}
use Rattle.agreement.proofs.Lists.{begins_self, last_term_push}
use Rattle.world_run.specs.World.{World, Event, run}
use Rattle.progress.specs.Plans.{greatest_term, log_of, term_of, does_lead, ahead, elect_events, settle_events, lead_events, and_then, candidate, peers, elect, exchange, elect_behind, take_lead, settle, lead}
use Rattle.progress.specs.Laws.{boot_of, HasRoom}
use Rattle.progress.proofs.Places.{item_there}
use Rattle.progress.proofs.Members.{in_bounds, AreLeft, peers_left, all_peers}
use Rattle.progress.proofs.Choosing.{candidate_in, candidate_good}
use Rattle.progress.proofs.Stepping.{Leads, leads_nothing, leads_append, leads_then, leads_more}
use Rattle.progress.proofs.Exchanging.{Exchanged}
use Rattle.progress.proofs.Electing.{term_within, MayLead, Elected, elected_by}
use Rattle.progress.proofs.Sane.{Sane}
use Rattle.progress.proofs.Settling.{Led}
use Rattle.progress.proofs.Confirming.{Caught, Nothing, Settled, AllCommitted, settled_by}
use Rattle.progress.proofs.Reigning.{peers_some, some_new, boots_now, reigns}
use Rattle.progress.proofs.Holding.{ahead_none, ahead_some, some_entry, boots_here, still_reigns, told, behind_it, steps_back, Alike, alike_each, not_above, boots_back, over_back}
use Rattle.progress.proofs.Lengths.{then_long, elect_long, settle_long}
use Rattle.progress.proofs.Sums.{add, settle_more, few_peers}

module _ (M : Machine) where
  module _ (set : List Bool) (n i : ℕ) (w : World M) (onward : (es : List (Event M)) → Sane n (run M es w)) (size : length w ≡ n) (two : 2 ≤ n) (most : IsMajority n set) (in_i : IsIn set i) (room : HasRoom M set w) where
    abbrev pub c : ℕ
    c = candidate set w

    pub in_c : IsIn set c
    in_c = candidate_in set w i in_i

    pub found : (s : Node M.Body) × (item w c ≡ Some s)
    found = let b = in_bounds set c in_c in let l : length set ≡ n = most.0 in item_there w c b.0 (omega (arith, b.1, size))

    abbrev pub s : Node M.Body
    s = found.0

    pub entries : length s.log < entry_limit
    entries = let r = room.entries c s in_c found.1 in omega arith

    pub no_peers : peers set c ≡ [] → ⊥
    no_peers = peers_some set n c two most in_c

    -- one leads, and this holds besides

    abbrev pub Of : (T : ℕ) (L : List (Entry M.Body)) (boots : ℕ → ℕ) (high : ℕ) (ends : last_term L ≡ T) (some : 1 ≤ length L) → World M → Type 0
    Of T L boots high ends some v =
        Led M set n c T L boots high (Caught M set n c T L boots high most in_c ends some (peers set c)) (Nothing M set n c T L boots high most in_c ends some) v

    abbrev pub AllOf : (T : ℕ) (L : List (Entry M.Body)) (boots : ℕ → ℕ) (high : ℕ) (ends : last_term L ≡ T) (some : 1 ≤ length L) → World M → Type 0
    AllOf T L boots high ends some v =
        Led M set n c T L boots high (Settled M set n c T L boots high most in_c ends some) (AllCommitted M set n c T L boots high most in_c ends some) v

    pub record Known (T : ℕ) (L : List (Entry M.Body)) (boots : ℕ → ℕ) (high : ℕ) : Type 0 where
      pub ends : last_term L ≡ T
      pub some : 1 ≤ length L
      pub long : length L ≤ suc (length s.log)
      pub high_in : high ≤ length L
      pub boots_are : (j : ℕ) → IsIn set j → boots j ≡ boot_of (item w j)
      pub above : (j : ℕ) (t : Node M.Body) → IsIn set j → item w j ≡ Some t → t.term ≤ T
      pub front : Begins s.log L
      pub grown : (s.term < T) ⊎ (length L ≤ length s.log)

    pub record Held (v : World M) : Type 0 where
      pub T : ℕ
      pub L : List (Entry M.Body)
      pub boots : ℕ → ℕ
      pub high : ℕ
      pub known : Known T L boots high
      pub led : Of T L boots high known.ends known.some v

    pub record Reign (x : World M) : Type 0 where
      pub T : ℕ
      pub L : List (Entry M.Body)
      pub boots : ℕ → ℕ
      pub high : ℕ
      pub known : Known T L boots high
      pub led : AllOf T L boots high known.ends known.some x

    -- it is elected, from here or a world in which it follows

    module _ (x : World M) (s' : Node M.Body) (may : MayLead M set n c x s') (sane : Sane n x) (same_log : s'.log ≡ s.log)
        (same_boots : (j : ℕ) → IsIn set j → boot_of (item x j) ≡ boot_of (item w j))
        (over : (j : ℕ) (t : Node M.Body) → IsIn set j → item w j ≡ Some t → t.term ≤ greatest_term x) where
      boots_hold : (v : World M) → Elected M set n c x s' may v → (j : ℕ) → IsIn set j → boot_of (item v j) ≡ boot_of (item w j)
      boots_hold v won j in_j =
          ⊎_elim
          (λ e. ap (λ z. boot_of (item v z)) e ∙ (ap boot_of won.at ∙ (won.leads.boot_is ∙ (sym (ap boot_of may.at) ∙ (ap (λ z. boot_of (item x z)) (sym e) ∙ same_boots j in_j)))))
          (λ ne. let r = won.joined j in_j ne in ap boot_of r.2 ∙ (sym (ap boot_of r.1) ∙ same_boots j in_j))
          (cases_eq j c)

      abbrev e' : Entry M.Body
      e' = record { term = suc (greatest_term x); body = M.blank }

      elected_held : Leads M set x (elect M c (peers set c) x) Held
      elected_held =
          leads_more M set x (elect M c (peers set c) x) (Elected M set n c x s' may) Held (elected_by M set n c x s' may)
          (λ v won. record {
            T = suc (greatest_term x);
            L = s'.log ++ e' ∷ [];
            boots = boots_now M set n c x s' may sane v won;
            high = length s'.log;
            known = record {
              ends = last_term_push s'.log e';
              some = some_new s'.log e';
              long = let r = length-append s'.log (e' ∷ []) in let q : length s'.log ≡ length s.log = ap length same_log in omega arith;
              high_in = let r = length-append s'.log (e' ∷ []) in omega arith;
              boots_are = boots_hold v won;
              above = λ j t in_j at. let r = over j t in_j at in omega arith;
              front = subst (λ z. Begins z (s'.log ++ e' ∷ [])) same_log (e' ∷ [], refl);
              grown = inl (let r = over c s in_c found.1 in omega arith);
            };
            led = reigns M set n c x s' may sane v won;
          })

    from_here : is_leader s.role ≡ false → MayLead M set n c w s
    from_here follows =
        let sane : Sane n w = onward [] in
        record {
          size = size;
          two = two;
          most = most;
          in_set = in_c;
          at = found.1;
          good = candidate_good set w i in_i s found.1;
          terms = room.terms;
          room = entries;
          waits = follows;
          commit_in = sane.commit_in c s found.1;
          applied_in = omega (arith, sane.commit_in c s found.1, sane.applied_in c s found.1);
        }

    first_elected : is_leader s.role ≡ false → Leads M set w (elect M c (peers set c) w) Held
    first_elected follows = elected_held w s (from_here follows) (onward []) refl (λ j in_j. refl) (λ j t in_j at. term_within w j t at)

    -- it led before

    module _ (leads : is_leader s.role ≡ true) where
      abbrev kept : (1 ≤ length s.log) × (last_term s.log ≡ s.term)
      kept = some_entry M set n c w s size most in_c found.1 (onward []) leads entries

      still : ((j : ℕ) (t : Node M.Body) → IsIn set j → (j ≡ c → ⊥) → item w j ≡ Some t → t.term ≤ s.term) → Held w
      still behind =
          record {
            T = s.term;
            L = s.log;
            boots = boots_here M set n c w s size most in_c found.1 (onward []) leads entries;
            high = length s.log;
            known = record {
              ends = kept.1;
              some = kept.0;
              long = omega arith;
              high_in = omega arith;
              boots_are = λ j in_j. refl;
              above = λ j t in_j at. ⊎_elim (λ e. same_term j t e at) (λ ne. behind j t in_j ne at) (cases_eq j c);
              front = begins_self s.log;
              grown = inr (omega arith);
            };
            led = still_reigns M set n c w s size most in_c found.1 (onward []) leads entries behind;
          }
        where
          same_term : (j : ℕ) (t : Node M.Body) → j ≡ c → item w j ≡ Some t → t.term ≤ s.term
          same_term j t e at =
              let one : item w c ≡ Some t = ap (λ z. item w z) (sym e) ∙ at in
              let two : term_of (item w c) ≡ s.term = ap term_of found.1 in
              let three : term_of (item w c) ≡ t.term = ap term_of one in
              omega arith

      module _ (j : ℕ) (in_j : IsIn set j) (ne : j ≡ c → ⊥) (t : Node M.Body) (there : item w j ≡ Some t) (later : s.term < t.term) where
        abbrev back : Node M.Body
        back = behind_it M set n c w s size most in_c found.1 (onward []) leads entries j t in_j ne there later

        abbrev said : Node M.Body
        said = told M set n c w s size most in_c found.1 (onward []) leads entries j t in_j ne there later

        steps : Leads M set w (exchange M c j w) (λ v. Exchanged M w v c j back said)
        steps = steps_back M set n c w s size most in_c found.1 (onward []) leads entries j t in_j ne there later

        may_back : (v : World M) → Exchanged M w v c j back said → MayLead M set n c v back
        may_back v ex =
            let sane : Sane n w = onward [] in
            record {
              size = ex.long ∙ size;
              two = two;
              most = most;
              in_set = in_c;
              at = ex.at_c;
              good = λ k u in_k at.
                  let a : Alike M set n c w s size most in_c found.1 (onward []) leads entries j t in_j ne there later v k u = alike_each M set n c w s size most in_c found.1 (onward []) leads entries j t in_j ne there later v ex k u at in
                  subst (λ z. up_to_date (last_term s.log) (length s.log) (last_term z) (length z) ≡ true) (sym a.log_is) (candidate_good set w i in_i s found.1 k a.old in_k a.was);
              terms = omega (arith, not_above M set n c w s size most in_c found.1 (onward []) leads entries j t in_j ne there later v ex, room.terms);
              room = entries;
              waits = refl;
              commit_in = sane.commit_in c s found.1;
              applied_in = omega (arith, sane.commit_in c s found.1, sane.applied_in c s found.1);
            }

        again : Leads M set w (and_then M (exchange M c j) (elect M c (peers set c)) w) Held
        again =
            leads_append M set w (exchange M c j w) (elect M c (peers set c) (run M (exchange M c j w) w)) (λ v. Exchanged M w v c j back said) Held steps
            (λ ex. elected_held (run M (exchange M c j w) w) back (may_back (run M (exchange M c j w) w) ex) (onward (exchange M c j w)) refl (boots_back M set n c w s size most in_c found.1 (onward []) leads entries j t in_j ne there later (run M (exchange M c j w) w) ex) (over_back M set n c w s size most in_c found.1 (onward []) leads entries j t in_j ne there later (run M (exchange M c j w) w) ex))

        again_few : length (and_then M (exchange M c j) (elect M c (peers set c)) w) ≤ 3 + elect_events n (greatest_term w)
        again_few =
            let v : World M = run M (exchange M c j w) w in
            let a = elect_long M c (peers set c) v n (few_peers set n c most) in
            let b = not_above M set n c w s size most in_c found.1 (onward []) leads entries j t in_j ne there later v steps.ends in
            let d = then_long M w (exchange M c j) (elect M c (peers set c)) in
            omega arith

      -- the state of the others
      abbrev Both : List (Event M) → Type 0
      Both es = Leads M set w es Held × (length es ≤ 3 + elect_events n (greatest_term w))

      by_ahead : (o : Option ℕ) → ahead w (term_of (item w c)) (peers set c) ≡ o → Both (elect_behind M c (peers set c) o w)
      by_ahead None e = (
        leads_nothing M set w Held (still (λ j t in_j ne at.
            let r = ahead_none w (term_of (item w c)) (peers set c) e j (all_peers set c j in_j ne) in
            let p : term_of (item w c) ≡ s.term = ap term_of found.1 in
            let q : term_of (item w j) ≡ t.term = ap term_of at in omega arith)),
        omega arith,
      )
      by_ahead (Some j) e =
          let r = ahead_some w (term_of (item w c)) (peers set c) j e in
          let left : AreLeft set c (peers set c) = peers_left set c in
          let in_j : IsIn set j = left.in_set j r.0 in
          let ne : j ≡ c → ⊥ = left.others j r.0 in
          let b = in_bounds set j in_j in
          let l : length set ≡ n = most.0 in
          let there : (t : Node M.Body) × (item w j ≡ Some t) = item_there w j b.0 (omega (arith, b.1, size)) in
          let p : term_of (item w c) ≡ s.term = ap term_of found.1 in
          let q : term_of (item w j) ≡ there.0.term = ap term_of there.1 in
          let later : s.term < there.0.term = omega (arith, r.1) in
          (again j in_j ne there.0 there.1 later, again_few j in_j ne there.0 there.1 later)

    abbrev Takes : List (Event M) → Type 0
    Takes es = Leads M set w es Held × (length es ≤ 3 + elect_events n (greatest_term w))

    takes_lead : Takes (take_lead M c (peers set c) w)
    takes_lead =
        cond_both (does_lead (item w c)) (elect_behind M c (peers set c) (ahead w (term_of (item w c)) (peers set c)) w) (elect M c (peers set c) w) Takes
        (λ l. by_ahead (sym (ap does_lead found.1) ∙ l) (ahead w (term_of (item w c)) (peers set c)) refl)
        (λ f. (first_elected (sym (ap does_lead found.1) ∙ f), (let a = elect_long M c (peers set c) w n (few_peers set n c most) in omega arith)))

    settles : (v : World M) → Held v → Leads M set v (settle M c (peers set c) v) Reign
    settles v h =
        leads_more M set v (settle M c (peers set c) v) (AllOf h.T h.L h.boots h.high h.known.ends h.known.some) Reign
        (settled_by M set n c h.T h.L h.boots h.high most in_c h.known.ends h.known.some no_peers v h.led)
        (λ x g. record { T = h.T; L = h.L; boots = h.boots; high = h.high; known = h.known; led = g })

    pub leads : Leads M set w (lead M set w) Reign
    leads = leads_then M set w (take_lead M c (peers set c)) (settle M c (peers set c)) Held Reign takes_lead.0 settles

    pub lead_few : length (lead M set w) ≤ lead_events n (greatest_term w) (length (log_of (item w c)))
    lead_few =
        let v : World M = run M (take_lead M c (peers set c) w) w in
        let h : Held v = takes_lead.0.ends in
        let here : length (log_of (item w c)) ≡ length s.log = ap (λ z. length (log_of z)) found.1 in
        let long : length (log_of (item v c)) ≡ length h.L = ap (λ z. length (log_of z)) h.led.at ∙ ap length h.led.leading.log_is in
        let b = settle_long M c (peers set c) v n (length h.L) (few_peers set n c most) long in
        let d = settle_more n (length h.L) (suc (length (log_of (item w c)))) (omega (arith, h.known.long)) in
        add (length (take_lead M c (peers set c) w)) (length (settle M c (peers set c) v)) (3 + elect_events n (greatest_term w)) (settle_events n (suc (length (log_of (item w c))))) (length (lead M set w))
        takes_lead.1 (omega arith) (then_long M w (take_lead M c (peers set c)) (settle M c (peers set c)))
