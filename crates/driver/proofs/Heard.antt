-- What a report, and time, order for a node that is down, or up.
use Rattle.std.proofs.Common.{◌≡◌, ◌∙◌, ◌++◌, ℕ, zero, suc, ◌+◌, ◌-◌, ◌≤◌, Bool, true, false, List, Option, Some, None, refl, sym, ap, subst, slice_get, arith}
use Rattle.std.specs.Prelude.{◌&&◌, ◌||◌, not, is_some, nat_eq, option_map}
use Rattle.std.specs.BTreeMap.{keys}
use Rattle.std.proofs.lemmas.List.{append_assoc}
use Rattle.wire_bytes.specs.declared.moment.Moment.{Moment}
use Rattle.client_gate.specs.Gates.{GateEffect}
use Rattle.node_notes.specs.declared.progress.Progress.{Progress}
use Rattle.node_notes.specs.declared.status.Status.{Status}
use Rattle.raft_node.specs.declared.node_fault.Cause.{Cause}
use Rattle.driver.specs.declared.clients.Clients.{Clients}
use Rattle.driver.specs.declared.node_monitor.NodeMonitor.{NodeMonitor}
use Rattle.driver.specs.declared.absence.Absence.TheVariants.{Down}
use Rattle.driver.specs.declared.driver.Driver.{Driver}
use Rattle.driver.specs.declared.retirement.Retirement.{Retirement}
use Rattle.driver.specs.declared.news.Ending.TheVariants.{Silent}
use Rattle.driver.specs.declared.order.Order.{Order}
use Rattle.driver.specs.declared.settings.Settings.{Settings}
use Rattle.driver.specs.Crowds.{Told}
use Rattle.driver.specs.Driving.{Ticks, changed_at, orders_of, round_of, told_of}
use Rattle.driver.specs.Retiring.{fresh, retirement_at}
use Rattle.driver.specs.Hearing.{begins_run, elected_news, heard_news, is_elected, is_none, stood_news, was_up, is_new_run}
use Rattle.driver.specs.Leading.{IsLeader, term_in}
use Rattle.driver.specs.Servers.{is_silent}
use Rattle.driver.specs.Reports.{BeginsIf, Hears, WordsBy, WordsIf, heard_at, heard_if, lost_at}
use Rattle.driver.specs.Rounds.{Round, SpreadsAll, SpreadsBy, ask_orders, retired, retirement_due, retirement_told}
use Rattle.driver.specs.Telling.{Ordered, ordered, told_to}
use Rattle.driver.specs.Waking.{awake}
use Rattle.driver.proofs.Adding.{Adds, adds_both, nothing_adds}
use Rattle.driver.proofs.Claiming.{apart_eq, same_eq}
use Rattle.driver.proofs.Cutting.{cuts_all}
use Rattle.driver.proofs.Monitors.{Ids, look, look_in}
use Rattle.driver.proofs.Falling.{IsOther, Turns, awake_stays, elected_plain, heard_stands, other_stands, passed_stays, stays_turns, stood_change, stood_good, stood_ids, stood_own}
use Rattle.driver.proofs.Growing.{AllAre, AllGood, Grows, by_number, cuts_grow, leaves_grow, same_grows, ticks_grow, words_grow}
use Rattle.driver.proofs.Restarts.{Plain, apart_good, both_false, follows_all, follows_both, told_apart}
use Rattle.driver.proofs.Resting.{asks_stay, lead_by, leaves_stay, node_stays, nodes_stay}
use Rattle.driver.proofs.Staying.{StandsAs, Stays, Steady, grows_stay, orders_stay, other_changed, own_changed, own_stands, same_stays, stays_both}

-- What its clients hear.

told_fits : (n : ℕ) (down : Bool) (old new : Told) → AllGood (Plain n down) old.clients → new ≡ old → Grows (Plain n down) old new
told_fits n down old new good same =
    same_grows (Plain n down) old new good (ap (λ (told : Told). told.clients) same, ap (λ (told : Told). told.orders) same)

words_if : (n : ℕ) (down b refused : Bool) (now : ℕ) (at : Moment) (node lost : ℕ) (old new : Told) → AllGood (Plain n down) old.clients → WordsIf b refused now at node lost old new → Grows (Plain n down) old new
words_if n down true refused now at node lost old new good w = words_grow (Plain n down) at now node lost refused (keys old.clients.all) old new good w
words_if n down false refused now at node lost old new good same = told_fits n down old new good same

words_fit : (n : ℕ) (down : Bool) (cause : Option Cause) (refused lost : Bool) (now : ℕ) (at : Moment) (node : ℕ) (driver : Driver) (old new : Told) → AllGood (Plain n down) old.clients → WordsBy cause refused lost now at node driver old new → Grows (Plain n down) old new
words_fit n down (Some cause) refused lost now at node driver old new good w = cuts_grow (Plain n down) Down node (keys old.clients.all) old new good w
words_fit n down None refused lost now at node driver old new good w = words_if n down (refused || lost) refused now at node (lost_at driver.monitors node) old new good w

-- of the node itself, which is down or up after the report
words_own : (n : ℕ) (P : Order → Type 0) (cause : Option Cause) (refused lost : Bool) (now : ℕ) (at : Moment) (driver : Driver) (old new : Told) → AllGood P old.clients → WordsBy cause refused lost now at n driver old new → Grows (Plain n (is_some cause)) old new
words_own n P (Some cause) refused lost now at driver old new good w = cuts_all P Down n old new good w
words_own n P None refused lost now at driver old new good w =
    words_if n false (refused || lost) refused now at n (lost_at driver.monitors n) old new (λ number c is. apart_good n false P c refl (good number c is)) w

-- A run of a node begins.

word_fits : (n : ℕ) (down : Bool) (boot : ℕ) (found : Option NodeMonitor) → ((d : NodeMonitor) → found ≡ Some d → (down && nat_eq d.id n) ≡ false) → AllAre (Plain n down) (orders_of (λ d. retirement_told (fresh d.id boot) d) found)
unfolding AllAre
word_fits n down boot None apart = tt
word_fits n down boot (Some d) apart = ((told_apart down (nat_eq d.id n) _ (apart d refl), refl), tt)

begins_stay : (n : ℕ) (down begins : Bool) (now : ℕ) (at : Moment) (node boot : ℕ) (old new : Driver) → Steady n down old → (begins ≡ true → (d : NodeMonitor) → slice_get old.monitors (node - 1) ≡ Some d → (down && nat_eq d.id n) ≡ false) → BeginsIf begins now at node boot old new → Stays n down old new
begins_stay n down false now at node boot old new steady apart same = same_stays n down old new steady same
begins_stay n down true now at node boot old new steady apart b =
    let g = leaves_grow (Plain n down) at node boot (keys old.clients.all) (told_of old) b.left steady.good b.leaves in
    let monitors = ap (λ (driver : Driver). driver.monitors) b.rest in
    record {
      adds =
          adds_both (Plain n down) old.orders b.left.orders new.orders
          (record { told = g.told; orders = g.orders; all = g.all })
          (record {
            told = orders_of (λ d. retirement_told (fresh d.id boot) d) (slice_get old.monitors (node - 1));
            orders = b.orders;
            all = word_fits n down boot (slice_get old.monitors (node - 1)) (apart refl);
          });
      steady = record {
        good = subst (λ (clients : Clients). AllGood (Plain n down) clients) (sym b.clients) g.good;
        ids = subst (λ (monitors : List NodeMonitor). Ids monitors) (sym monitors) steady.ids;
        at = subst (λ (monitors : List NodeMonitor). StandsAs down (slice_get monitors (n - 1))) (sym monitors) steady.at;
      };
    }

-- A report of another node.
other_report : (n now : ℕ) (at : Moment) (node : ℕ) (status : Status) (effects : List GateEffect) (progress : Progress) (refused down : Bool) (old new : Driver) → 1 ≤ n → Steady n down old → (h : Hears now at node status effects progress refused old new) → IsOther n (slice_get h.passed.monitors (node - 1)) → ((d : NodeMonitor) → slice_get h.worded.monitors (node - 1) ≡ Some d → nat_eq d.id n ≡ false) → slice_get (changed_at (stood_change h.passed now status progress) h.passed.monitors node) (n - 1) ≡ slice_get h.passed.monitors (n - 1) → Stays n down old new
other_report n now at node status effects progress refused down old new low steady h other apart same =
    let passed = passed_stays n now at node status effects progress refused down old new steady h in
    let stood = other_stands n now node down status progress refused h.passed h.stood passed.steady other same h.stands in
    let worded =
    grows_stay n down h.stood h.worded stood.steady (ap (λ (driver : Driver). driver.monitors) h.is_worded)
    (words_fit n down status.down refused (heard_at h.passed node status progress).has_lost now at node h.stood (told_of h.stood) (told_of h.worded) stood.steady.good h.words)
    in
    let begun =
    begins_stay n down (heard_at h.passed node status progress).is_new now at node status.boot h.worded h.begun worded.steady
    (λ _ d is. both_false down (nat_eq d.id n) (λ own. absurd (cc (own, apart d is)))) h.begins
    in
    let ticked = node_stays n now node down h.begun new low begun.steady h.ticks in
    stays_both n down old h.passed new passed
    (stays_both n down h.passed h.stood new stood
    (stays_both n down h.stood h.worded new worded (stays_both n down h.worded h.begun new begun ticked)))

-- a run of a node that is down does not begin
begun_up : (cause : Option Cause) (more : Bool) → (is_none cause && more) ≡ true → is_some cause ≡ false
begun_up None more is = refl
begun_up (Some cause) more is = absurd (cc is)

-- what was ordered first, and then
pub then_orders : (before between after : Ordered) (xs ys : List Order) → between ≡ ordered before xs → after ≡ ordered between ys → after ≡ ordered before (xs ++ ys)
then_orders before between after xs ys first last =
    last
    ∙ ap (λ (orders : Ordered). ordered orders ys) first
    ∙ ap (λ (items : List Order). record before { items = items }) (append_assoc before.items xs ys)

-- A report of the node itself.
own_report : (n now : ℕ) (at : Moment) (status : Status) (effects : List GateEffect) (progress : Progress) (refused down : Bool) (d : NodeMonitor) (old new : Driver) → 1 ≤ n → Steady n down old → (h : Hears now at n status effects progress refused old new) → slice_get h.passed.monitors (n - 1) ≡ Some d → Turns n down old new
own_report n now at status effects progress refused down d old new low steady h found =
    let last = is_some status.down in
    let passed = passed_stays n now at n status effects progress refused down old new steady h in
    let change = stood_change h.passed now status progress in
    let id : d.id ≡ n - 1 + 1 = passed.steady.ids (n - 1) (look d) (ap look_in found) in
    let own : nat_eq d.id n ≡ true = subst (λ (k : ℕ). nat_eq k n ≡ true) (omega (arith, id, low)) (same_eq n) in
    let here : StandsAs down (Some d) = subst (λ (found : Option NodeMonitor). StandsAs down found) found passed.steady.at in
    let monitor : slice_get h.stood.monitors (n - 1) ≡ Some (change d) =
    ap (λ (monitors : List NodeMonitor). slice_get monitors (n - 1)) h.stands.monitors
    ∙ own_changed change h.passed.monitors (n - 1) (slice_get h.passed.monitors (n - 1)) refl
    ∙ ap (λ (found : Option NodeMonitor). option_map change found) found
    in
    let orders : h.stood.orders ≡ ordered h.passed.orders (heard_news d status) =
    h.stands.orders ∙ ap (λ (found : Option NodeMonitor). ordered h.passed.orders (orders_of (λ d. heard_news d status) found)) found
    in
    let news =
    follows_both n down down last (elected_news d status) (stood_news d status status.down)
    (follows_all n down (elected_news d status) (elected_plain n down (is_elected d status) d.id status.term))
    (stood_own n down d status status.down own here)
    in
    let good = stood_good now n status progress refused (Plain n down) h.passed h.stood passed.steady.good h.stands in
    let ids = stood_ids n now n status progress refused h.passed h.stood passed.steady.ids h.stands in
    let words = words_own n (Plain n down) status.down refused (heard_at h.passed n status progress).has_lost now at h.stood (told_of h.stood) (told_of h.worded) good h.words in
    let monitors = ap (λ (driver : Driver). driver.monitors) h.is_worded in
    let worded : Steady n last h.worded = record {
      good = words.good;
      ids = subst (λ (monitors : List NodeMonitor). Ids monitors) (sym monitors) ids;
      at =
          subst (λ (monitors : List NodeMonitor). StandsAs last (slice_get monitors (n - 1))) (sym monitors)
          (subst (λ (found : Option NodeMonitor). StandsAs last found) (sym monitor) (heard_stands d now (told_to h.passed.orders d.id) status progress));
    } in
    let is_new : (heard_at h.passed n status progress).is_new ≡ begins_run d.status status =
    ap (λ (found : Option NodeMonitor). (heard_if h.passed.orders found status progress).is_new) found
    in
    let begun =
    begins_stay n last (heard_at h.passed n status progress).is_new now at n status.boot h.worded h.begun worded
    (λ new e is. both_false last (nat_eq e.id n) (λ own. begun_up status.down (not (was_up d.status) || is_new_run d.status status) (sym is_new ∙ new))) h.begins
    in
    let ticked = node_stays n now n last h.begun new low begun.steady h.ticks in
    let rest = stays_both n last h.worded h.begun new begun ticked in
    let first = passed.adds in
    let heard = heard_news d status in
    record {
      last = last;
      told = first.told ++ (heard ++ (words.told ++ rest.adds.told));
      orders =
          then_orders old.orders h.passed.orders new.orders first.told (heard ++ (words.told ++ rest.adds.told)) first.orders
          (then_orders h.passed.orders h.stood.orders new.orders heard (words.told ++ rest.adds.told) orders
          (then_orders h.stood.orders h.worded.orders new.orders words.told rest.adds.told words.orders rest.adds.orders));
      follows =
          follows_both n down down last first.told (heard ++ (words.told ++ rest.adds.told)) (follows_all n down first.told first.all)
          (follows_both n down last last heard (words.told ++ rest.adds.told) news
          (follows_both n last last last words.told rest.adds.told (follows_all n last words.told words.all) (follows_all n last rest.adds.told rest.adds.all)));
      steady = rest.steady;
    }

-- a monitor of another node
ids_other : (n node : ℕ) (monitors : List NodeMonitor) (d : NodeMonitor) → 1 ≤ n → 1 ≤ node → (node ≡ n → ⊥) → Ids monitors → slice_get monitors (node - 1) ≡ Some d → nat_eq d.id n ≡ false
ids_other n node monitors d low low_node apart ids is =
    let id : d.id ≡ node - 1 + 1 = ids (node - 1) (look d) (ap look_in is) in
    apart_eq d.id n (λ e. apart (omega (arith, id, e, low, low_node)))

is_other : (n node : ℕ) (monitors : List NodeMonitor) (found : Option NodeMonitor) → 1 ≤ n → 1 ≤ node → (node ≡ n → ⊥) → Ids monitors → slice_get monitors (node - 1) ≡ found → IsOther n found
is_other n node monitors None low low_node apart ids is = tt
is_other n node monitors (Some d) low low_node apart ids is = ids_other n node monitors d low low_node apart ids is

report_other : (n now : ℕ) (at : Moment) (node : ℕ) (status : Status) (effects : List GateEffect) (progress : Progress) (refused down : Bool) (old new : Driver) → 1 ≤ n → 1 ≤ node → (node ≡ n → ⊥) → Steady n down old → Hears now at node status effects progress refused old new → Stays n down old new
report_other n now at node status effects progress refused down old new low low_node apart steady h =
    let ids = (passed_stays n now at node status effects progress refused down old new steady h).steady.ids in
    let worded =
    subst (λ (monitors : List NodeMonitor). Ids monitors) (sym (ap (λ (driver : Driver). driver.monitors) h.is_worded))
    (stood_ids n now node status progress refused h.passed h.stood ids h.stands)
    in
    other_report n now at node status effects progress refused down old new low steady h
    (is_other n node h.passed.monitors (slice_get h.passed.monitors (node - 1)) low low_node apart ids refl)
    (λ d is. ids_other n node h.worded.monitors d low low_node apart worded is)
    (other_changed (stood_change h.passed now status progress) h.passed.monitors (node - 1) (n - 1) (slice_get h.passed.monitors (node - 1))
    (λ e. apart (omega (arith, e, low, low_node))))

some_none : (d : NodeMonitor) (P : Type 0) → None ≡ Some d → P
some_none d P is = absurd (cc is)

own_by : (n now : ℕ) (at : Moment) (status : Status) (effects : List GateEffect) (progress : Progress) (refused down : Bool) (found : Option NodeMonitor) (old new : Driver) → 1 ≤ n → Steady n down old → (h : Hears now at n status effects progress refused old new) → slice_get h.passed.monitors (n - 1) ≡ found → Turns n down old new
own_by n now at status effects progress refused down (Some d) old new low steady h is =
    own_report n now at status effects progress refused down d old new low steady h is
own_by n now at status effects progress refused down None old new low steady h is =
    let change = stood_change h.passed now status progress in
    let none : slice_get (changed_at change h.passed.monitors n) (n - 1) ≡ None =
    own_changed change h.passed.monitors (n - 1) (slice_get h.passed.monitors (n - 1)) refl ∙ ap (λ (found : Option NodeMonitor). option_map change found) is
    in
    let worded : slice_get h.worded.monitors (n - 1) ≡ None =
    ap (λ (monitors : List NodeMonitor). slice_get monitors (n - 1)) (ap (λ (driver : Driver). driver.monitors) h.is_worded ∙ h.stands.monitors) ∙ none
    in
    stays_turns n down old new
    (other_report n now at n status effects progress refused down old new low steady h
    (subst (λ (found : Option NodeMonitor). IsOther n found) (sym is) tt)
    (λ d here. some_none d (nat_eq d.id n ≡ false) (sym worded ∙ here))
    (none ∙ sym is))

report_own : (n now : ℕ) (at : Moment) (status : Status) (effects : List GateEffect) (progress : Progress) (refused down : Bool) (old new : Driver) → 1 ≤ n → Steady n down old → Hears now at n status effects progress refused old new → Turns n down old new
report_own n now at status effects progress refused down old new low steady h =
    own_by n now at status effects progress refused down (slice_get h.passed.monitors (n - 1)) old new low steady h refl

-- A worker reports.
pub report_turns : (n now : ℕ) (at : Moment) (node : ℕ) (status : Status) (effects : List GateEffect) (progress : Progress) (refused down : Bool) (old new : Driver) → 1 ≤ n → 1 ≤ node → Steady n down old → Hears now at node status effects progress refused old new → Turns n down old new
report_turns n now at node status effects progress refused down old new low low_node steady h =
    by_number node n (Turns n down old new)
    (λ same.
    report_own n now at status effects progress refused down old new low steady
    (subst (λ (k : ℕ). Hears now at k status effects progress refused old new) same h))
    (λ apart. stays_turns n down old new (report_other n now at node status effects progress refused down old new low low_node apart steady h))

-- Time passes.

ask_fits : (n : ℕ) (down : Bool) (due : Option Retirement) (monitor : NodeMonitor) → (down && nat_eq monitor.id n) ≡ false → AllAre (Plain n down) (ask_orders due monitor)
unfolding AllAre
ask_fits n down None monitor apart = tt
ask_fits n down (Some retirement) monitor apart = ((told_apart down (nat_eq monitor.id n) _ apart, refl), tt)

-- the node that leads is up
leader_apart : (n leader : ℕ) (down : Bool) (monitors : List NodeMonitor) (via : NodeMonitor) → 1 ≤ n → Ids monitors → StandsAs down (slice_get monitors (n - 1)) → IsLeader monitors (Some leader) → slice_get monitors (leader - 1) ≡ Some via → (down && nat_eq via.id n) ≡ false
leader_apart n leader down monitors via low ids at (term, so) is =
    both_false down (nat_eq via.id n)
    (λ own. lead_by down (Some via) term (own_stands n leader down monitors via low ids at is own) (subst (λ (found : Option NodeMonitor). term_in found ≡ Some term) is so.leads))

spreads_fit : (n : ℕ) (down : Bool) (count : ℕ) (settings : Settings) (now leader node : ℕ) (monitors : List NodeMonitor) (old new : Round) → 1 ≤ n → Ids monitors → StandsAs down (slice_get monitors (n - 1)) → IsLeader monitors (Some leader) → SpreadsAll count settings now leader node monitors old new → Adds (Plain n down) old.orders new.orders
unfolding SpreadsAll
spreads_fit n down zero settings now leader node monitors old new low ids at leads same =
    nothing_adds (Plain n down) old.orders new.orders (ap (λ (round : Round). round.orders) same)
spreads_fit n down (suc count) settings now leader node monitors old new low ids at leads (behind, s, more) =
    let due = retirement_due settings now (retired settings now s.own (retirement_at old.retirements node)) in
    adds_both (Plain n down) old.orders behind.orders new.orders
    (record {
      told = ask_orders due s.via;
      orders = s.orders;
      all = ask_fits n down due s.via (leader_apart n leader down monitors s.via low ids at leads s.is_via);
    })
    (spreads_fit n down count settings now leader (node + 1) monitors behind new low ids at leads more)

spreads_by : (n : ℕ) (down : Bool) (leader : Option ℕ) (settings : Settings) (now : ℕ) (monitors : List NodeMonitor) (old new : Round) → 1 ≤ n → Ids monitors → StandsAs down (slice_get monitors (n - 1)) → IsLeader monitors leader → SpreadsBy leader settings now monitors old new → Adds (Plain n down) old.orders new.orders
spreads_by n down None settings now monitors old new low ids at leads same =
    nothing_adds (Plain n down) old.orders new.orders (ap (λ (round : Round). round.orders) same)
spreads_by n down (Some leader) settings now monitors old new low ids at leads s =
    spreads_fit n down 7 settings now leader 1 monitors old new low ids at leads s

pub ticks_stay : (n now : ℕ) (at : Moment) (down : Bool) (old new : Driver) → 1 ≤ n → Steady n down old → Ticks now at old new → Stays n down old new
ticks_stay n now at down old new low steady t =
    let first = awake_stays n now down old steady in
    let pinged = asks_stay n now down (awake now old) t.pinged first.steady t.pings in
    let left = leaves_stay n (is_silent t.pinged.link.stage now) now down Silent t.pinged t.left pinged.steady t.leaves in
    let served =
    grows_stay n down t.left t.served left.steady (ap (λ (driver : Driver). driver.monitors) t.is_served)
    (ticks_grow (Plain n down) at t.left.settings.timeout_ms now t.left.monitors (keys t.left.clients.all) (told_of t.left) (told_of t.served) left.steady.good t.clients)
    in
    let asked = nodes_stay n 7 now 1 down t.served t.asked low served.steady t.nodes in
    let word =
    orders_stay n down t.asked new asked.steady (ap (λ (driver : Driver). driver.monitors) t.rest) (ap (λ (driver : Driver). driver.clients) t.rest)
    (spreads_by n down t.retired.leader t.asked.settings now t.asked.monitors (round_of t.asked) (round_of new) low asked.steady.ids asked.steady.at t.retired.is_leader t.retired.spreads)
    in
    stays_both n down old (awake now old) new first
    (stays_both n down (awake now old) t.pinged new pinged
    (stays_both n down t.pinged t.left new left
    (stays_both n down t.left t.served new served (stays_both n down t.served t.asked new asked word))))
