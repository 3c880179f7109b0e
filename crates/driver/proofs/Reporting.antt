-- What reports, and time, do to the claims of a node.
use Rattle.std.proofs.Common.{◌≡◌, ◌∙◌, ℕ, zero, suc, ◌+◌, ◌-◌, ◌≤◌, Bool, true, false, List, [], ◌∷◌, Option, Some, None, refl, sym, ap, subst, slice_get, arith}
use Rattle.std.specs.Prelude.{◌&&◌, ◌||◌, if◌then◌else◌, nat_eq, nat_le, map, option_map}
use Rattle.std.specs.BTreeMap.{keys}
use Rattle.wire_bytes.specs.declared.moment.Moment.{Moment}
use Rattle.client_gate.specs.Gates.{GateEffect}
use Rattle.node_notes.specs.declared.progress.Progress.{Progress}
use Rattle.node_notes.specs.declared.status.Status.{Status}
use Rattle.raft_node.specs.declared.node_fault.Cause.{Cause}
use Rattle.driver.specs.declared.node_monitor.standing.Outage.{Outage}
use Rattle.driver.specs.declared.clients.Clients.{Clients}
use Rattle.driver.specs.declared.node_monitor.standing.Claimed.{Claimed}
use Rattle.driver.specs.declared.node_monitor.NodeMonitor.{NodeMonitor}
use Rattle.driver.specs.declared.absence.Absence.TheVariants.{Down}
use Rattle.driver.specs.declared.driver.Driver.{Driver}
use Rattle.driver.specs.declared.retirement.Retirement.{Retirement}
use Rattle.driver.specs.declared.order.Order.{Order}
use Rattle.driver.specs.declared.order.Order.TheVariants as order
use Rattle.driver.specs.Crowds.{Told}
use Rattle.driver.specs.declared.news.Ending.TheVariants.{Silent}
use Rattle.driver.specs.declared.news.News.{News}
use Rattle.driver.specs.declared.news.News.TheVariants.{Elected}
use Rattle.driver.specs.declared.settings.Settings.{Settings}
use Rattle.driver.specs.Driving.{Ticks, orders_of, round_of, told_of}
use Rattle.driver.specs.Retiring.{fresh, retirement_at}
use Rattle.driver.specs.Hearing.{answers_news, begins_run, down_behind, down_news, elected_news, heard_behind, heard_news, is_elected, progressed, settled, settles, stood_behind, stood_news, told_behind, up_behind, up_news, was_up}
use Rattle.driver.specs.Servers.{is_silent}
use Rattle.driver.specs.Reports.{BeginsIf, Hears, Stands, WordsBy, WordsIf, heard_at, lost_at}
use Rattle.driver.specs.Rounds.{Round, SpreadsAll, SpreadsBy, ask_orders, retired, retirement_due, retirement_told}
use Rattle.driver.specs.Telling.{ordered, told_to}
use Rattle.driver.specs.Waking.{awake, slept, waited_longer}
use Rattle.driver.proofs.Adding.{Adds, adds_both, nothing_adds, passes_grow}
use Rattle.driver.proofs.Claiming.{node_result, nodes_result, same_eq, sound_behind}
use Rattle.driver.proofs.Keeping.{Keeps, Line, Sound, asks_keep, keeps_both, keeps_result, leaves_keep, orders_keep, result_keeps, same_keeps}
use Rattle.driver.proofs.Monitors.{Ids, Look, changed_other, changed_own, ids_changed, ids_kept, look, look_at, look_in, mapped_same}
use Rattle.driver.proofs.Growing.{AllAre, AllGood, Grows, all_append, by_number, cuts_grow, leaves_grow, same_grows, ticks_grow, words_grow}
use Rattle.driver.proofs.Quiet.{NoClaim}
use Rattle.driver.proofs.Waiting.{Outcome, Waits, or_status, outcome_of, waits_kept}

-- What is known of a node after a report of it.

pub down_look : (d : NodeMonitor) (now : ℕ) (down : Option Outage) → look (down_behind d now down) ≡ look d
down_look d now None = refl
down_look d now (Some since) = refl

pub up_look : (d : NodeMonitor) (now : ℕ) (new up : Bool) → look (up_behind d now new up) ≡ look d
up_look d now new true = refl
up_look d now new false = refl

pub stood_look : (d : NodeMonitor) (now : ℕ) (new up : Bool) (down : Option Cause) → look (stood_behind d now new up down) ≡ look d
stood_look d now new up None = up_look d now new up
stood_look d now new up (Some cause) = down_look d now d.down

-- a node that does not report that it has applied all leaves its last claim unsettled
pub unsettled_by : (claim : Claimed) (done : Bool) (status : Status) → claim.is_settled ≡ false → nat_eq status.applied status.last ≡ false → (claim.is_settled || (done && nat_eq status.applied status.last)) ≡ false
unsettled_by claim true status is apart = ap (λ (b : Bool). b || nat_eq status.applied status.last) is ∙ apart
unsettled_by claim false status is apart = ap (λ (b : Bool). b || false) is

pub heard_look : (d : NodeMonitor) (now told : ℕ) (status : Status) (progress : Progress) → look (heard_behind d now told status progress) ≡ record { id = d.id; claimed = settled d.claimed status (progressed d.progress told progress).done; status = Some status }
heard_look d now told status progress = stood_look (told_behind d now told status progress) now (begins_run d.status status) (was_up d.status) status.down

pub waits_heard_by : (n : ℕ) (line : Line) (old new : Driver) (now : ℕ) (counts : NodeMonitor → ℕ) (status : Status) (progress : Progress) (found : Option NodeMonitor) → nat_eq status.applied status.last ≡ false → (w : Waits n line old) → look_in found ≡ Some w.at → look_at new.monitors (n - 1) ≡ look_in (option_map (λ d. heard_behind d now (counts d) status progress) found) → Waits n line new
waits_heard_by n line old new now counts status progress None apart w is changed = absurd (cc is)
waits_heard_by n line old new now counts status progress (Some d) apart w is changed =
    let done = (progressed d.progress (counts d) progress).done in
    let here : look d ≡ w.at = ap (or_status w.at) is in
    let claimed : d.claimed ≡ Some w.claim = ap (λ (x : Look). x.claimed) here ∙ w.is_claim in
    record {
      at = record { id = d.id; claimed = settled d.claimed status done; status = Some status };
      is_at = changed ∙ ap Some (heard_look d now (counts d) status progress);
      claim = record w.claim { is_settled = w.claim.is_settled || settles w.claim.note status done };
      is_claim = ap (λ (c : Option Claimed). settled c status done) claimed;
      session = w.session;
      number = w.number;
      unsettled = unsettled_by w.claim (nat_le w.claim.note done) status w.unsettled apart;
    }

-- if two things are, the second is if the first is
pub second_false : (a b : Bool) → a ≡ true → (a && b) ≡ false → b ≡ false
second_false a b is not_so = sym (ap (λ (x : Bool). x && b) is) ∙ not_so

-- A report of a node that does not say that it has applied all leaves what waits.
pub stood_waits : (n now node : ℕ) (status : Status) (progress : Progress) (refused : Bool) (line : Line) (old new : Driver) → 1 ≤ n → 1 ≤ node → (nat_eq node n && nat_eq status.applied status.last) ≡ false → Stands now node status progress refused old new → Waits n line old → Waits n line new
stood_waits n now node status progress refused line old new low low_node apart s w =
    let change : NodeMonitor → NodeMonitor = λ d. heard_behind d now (told_to old.orders d.id) status progress in
    by_number node n (Waits n line new)
    (λ is.
    let own : nat_eq node n ≡ true = subst (λ (k : ℕ). nat_eq node k ≡ true) is (same_eq node) in
    let changed = ap (λ (monitors : List NodeMonitor). look_at monitors (node - 1)) s.monitors ∙ changed_own change old.monitors node in
    waits_heard_by n line old new now (λ d. told_to old.orders d.id) status progress (slice_get old.monitors (n - 1))
    (second_false (nat_eq node n) (nat_eq status.applied status.last) own apart) w w.is_at
    (subst (λ (k : ℕ). look_at new.monitors (k - 1) ≡ look_in (option_map change (slice_get old.monitors (k - 1)))) is changed))
    (λ other.
    waits_kept n line old new
    (ap (λ (monitors : List NodeMonitor). look_at monitors (n - 1)) s.monitors ∙ changed_other change old.monitors node (n - 1) (λ e. other (omega (arith, e, low, low_node))))
    w)

pub if_quiet : (n : ℕ) (b : Bool) (news : News) → AllAre (NoClaim n) (if b then order.Log news ∷ [] else [])
unfolding AllAre
if_quiet n true news = (refl, tt)
if_quiet n false news = tt

pub up_quiet : (n id boot : ℕ) (up : Bool) → AllAre (NoClaim n) (up_news id boot up)
unfolding AllAre
up_quiet n id boot true = tt
up_quiet n id boot false = (refl, tt)

pub answers_quiet : (n id : ℕ) (hung : Bool) → AllAre (NoClaim n) (answers_news id hung)
unfolding AllAre
answers_quiet n id true = (refl, tt)
answers_quiet n id false = tt

pub down_quiet : (n id : ℕ) (cause : Cause) (down : Option Outage) → AllAre (NoClaim n) (down_news id cause down)
unfolding AllAre
down_quiet n id cause None = (refl, tt)
down_quiet n id cause (Some since) = tt

pub stood_quiet : (n : ℕ) (d : NodeMonitor) (status : Status) (down : Option Cause) → AllAre (NoClaim n) (stood_news d status down)
stood_quiet n d status None =
    all_append (NoClaim n) (answers_news d.id (d.presence.is_hanging && begins_run d.status status)) (up_news d.id status.boot (was_up d.status))
    (answers_quiet n d.id (d.presence.is_hanging && begins_run d.status status))
    (up_quiet n d.id status.boot (was_up d.status))
stood_quiet n d status (Some cause) = down_quiet n d.id cause d.down

pub news_quiet : (n : ℕ) (status : Status) (found : Option NodeMonitor) → AllAre (NoClaim n) (orders_of (λ d. heard_news d status) found)
unfolding AllAre
news_quiet n status None = tt
news_quiet n status (Some d) =
    all_append (NoClaim n) (elected_news d status) (stood_news d status status.down)
    (if_quiet n (is_elected d status) (Elected d.id status.term))
    (stood_quiet n d status status.down)

-- what is known after it
pub stood_sound : (n now node : ℕ) (status : Status) (progress : Progress) (refused : Bool) (old new : Driver) → Sound n old → Stands now node status progress refused old new → Sound n new
stood_sound n now node status progress refused old new sound s = record {
  good = subst (λ (clients : Clients). AllGood (NoClaim n) clients) (sym (ap (λ (driver : Driver). driver.clients) s.rest)) sound.good;
  ids =
      subst (λ (monitors : List NodeMonitor). Ids monitors) (sym s.monitors)
      (ids_changed (λ d. heard_behind d now (told_to old.orders d.id) status progress)
      (λ d. ap (λ (x : Look). x.id) (heard_look d now (told_to old.orders d.id) status progress)) old.monitors node sound.ids);
}

pub stood_adds : (n now node : ℕ) (status : Status) (progress : Progress) (refused : Bool) (old new : Driver) → Stands now node status progress refused old new → Adds (NoClaim n) old.orders new.orders
stood_adds n now node status progress refused old new s = record {
  told = orders_of (λ d. heard_news d status) (slice_get old.monitors (node - 1));
  orders = s.orders;
  all = news_quiet n status (slice_get old.monitors (node - 1));
}

-- what clients do keeps the monitors
pub grows_keep : (n : ℕ) (old new : Driver) → Sound n old → new.monitors ≡ old.monitors → Grows (NoClaim n) (told_of old) (told_of new) → Keeps n old new
grows_keep n old new sound same g = record {
  adds = record { told = g.told; orders = g.orders; all = g.all };
  sound = record { good = g.good; ids = subst (λ (monitors : List NodeMonitor). Ids monitors) (sym same) sound.ids };
  same = ap (λ (monitors : List NodeMonitor). look_at monitors (n - 1)) same;
}

pub told_same : (n : ℕ) (old new : Told) → AllGood (NoClaim n) old.clients → new ≡ old → Grows (NoClaim n) old new
told_same n old new good same =
    same_grows (NoClaim n) old new good (ap (λ (told : Told). told.clients) same, ap (λ (told : Told). told.orders) same)

pub words_if : (n : ℕ) (b refused : Bool) (now : ℕ) (at : Moment) (node lost : ℕ) (old new : Told) → AllGood (NoClaim n) old.clients → WordsIf b refused now at node lost old new → Grows (NoClaim n) old new
words_if n true refused now at node lost old new good w = words_grow (NoClaim n) at now node lost refused (keys old.clients.all) old new good w
words_if n false refused now at node lost old new good same = told_same n old new good same

pub words_by : (n : ℕ) (down : Option Cause) (refused lost : Bool) (now : ℕ) (at : Moment) (node : ℕ) (driver : Driver) (old new : Told) → AllGood (NoClaim n) old.clients → WordsBy down refused lost now at node driver old new → Grows (NoClaim n) old new
words_by n (Some cause) refused lost now at node driver old new good w = cuts_grow (NoClaim n) Down node (keys old.clients.all) old new good w
words_by n None refused lost now at node driver old new good w = words_if n (refused || lost) refused now at node (lost_at driver.monitors node) old new good w

pub word_quiet : (n boot : ℕ) (found : Option NodeMonitor) → AllAre (NoClaim n) (orders_of (λ d. retirement_told (fresh d.id boot) d) found)
unfolding AllAre
word_quiet n boot None = tt
word_quiet n boot (Some d) = (refl, tt)

pub begins_keep : (n : ℕ) (begins : Bool) (now : ℕ) (at : Moment) (node boot : ℕ) (old new : Driver) → Sound n old → BeginsIf begins now at node boot old new → Keeps n old new
unfolding AllAre
begins_keep n false now at node boot old new sound same = same_keeps n old new sound same
begins_keep n true now at node boot old new sound b =
    let g = leaves_grow (NoClaim n) at node boot (keys old.clients.all) (told_of old) b.left sound.good b.leaves in
    let monitors = ap (λ (driver : Driver). driver.monitors) b.rest in
    record {
      adds =
          adds_both (NoClaim n) old.orders b.left.orders new.orders
          (record { told = g.told; orders = g.orders; all = g.all })
          (record {
            told = orders_of (λ d. retirement_told (fresh d.id boot) d) (slice_get old.monitors (node - 1));
            orders = b.orders;
            all = word_quiet n boot (slice_get old.monitors (node - 1));
          });
      sound = record {
        good = subst (λ (clients : Clients). AllGood (NoClaim n) clients) (sym b.clients) g.good;
        ids = subst (λ (monitors : List NodeMonitor). Ids monitors) (sym monitors) sound.ids;
      };
      same = ap (λ (monitors : List NodeMonitor). look_at monitors (n - 1)) monitors;
    }

-- the driver is awake
pub awake_keeps : (n now : ℕ) (old : Driver) → Sound n old → Keeps n old (awake now old)
awake_keeps n now old sound =
    let change = waited_longer (slept old.ran old.settings.timeout_ms now) in
    let same = λ (j : ℕ). mapped_same change (λ d. refl) old.monitors j in
    record {
      adds = nothing_adds (NoClaim n) old.orders old.orders refl;
      sound = record { good = sound.good; ids = ids_kept old.monitors (map change old.monitors) same sound.ids };
      same = same (n - 1);
    }

-- A worker reports.
pub report_outcome : (n now : ℕ) (at : Moment) (node : ℕ) (status : Status) (effects : List GateEffect) (progress : Progress) (refused : Bool) (old new : Driver) (told : List Order) → 1 ≤ n → 1 ≤ node → Sound n old → Hears now at node status effects progress refused old new → new.orders ≡ ordered old.orders told → Outcome n (nat_eq node n && nat_eq status.applied status.last) old new told
report_outcome n now at node status effects progress refused old new told low low_node sound h is =
    let woken = awake now old in
    let first = awake_keeps n now old sound in
    let (grows, same) = passes_grow (NoClaim n) now at node effects woken h.passed sound.good h.passes in
    let passes = grows_keep n woken h.passed first.sound same grows in
    let passed = keeps_both n old woken h.passed first passes in
    let stood = stood_sound n now node status progress refused h.passed h.stood passed.sound h.stands in
    let worded =
    grows_keep n h.stood h.worded stood (ap (λ (driver : Driver). driver.monitors) h.is_worded)
    (words_by n status.down refused (heard_at h.passed node status progress).has_lost now at node h.stood (told_of h.stood) (told_of h.worded) stood.good h.words)
    in
    let begun = begins_keep n (heard_at h.passed node status progress).is_new now at node status.boot h.worded h.begun worded.sound h.begins in
    let behind = keeps_both n h.stood h.worded h.begun worded begun in
    outcome_of n (nat_eq node n && nat_eq status.applied status.last) old h.stood new told
    (adds_both (NoClaim n) old.orders h.passed.orders h.stood.orders passed.adds (stood_adds n now node status progress refused h.passed h.stood h.stands))
    (λ apart line w. stood_waits n now node status progress refused line h.passed h.stood low low_node apart h.stands (waits_kept n line old h.passed passed.same w))
    (keeps_result n h.stood h.begun new behind (node_result n now node h.begun new low low_node begun.sound h.ticks))
    is

pub ask_quiet : (n : ℕ) (due : Option Retirement) (monitor : NodeMonitor) → AllAre (NoClaim n) (ask_orders due monitor)
unfolding AllAre
ask_quiet n None monitor = tt
ask_quiet n (Some retirement) monitor = (refl, tt)

pub spreads_add : (n count : ℕ) (settings : Settings) (now leader node : ℕ) (monitors : List NodeMonitor) (old new : Round) → SpreadsAll count settings now leader node monitors old new → Adds (NoClaim n) old.orders new.orders
unfolding SpreadsAll
spreads_add n zero settings now leader node monitors old new same = nothing_adds (NoClaim n) old.orders new.orders (ap (λ (round : Round). round.orders) same)
spreads_add n (suc count) settings now leader node monitors old new (behind, s, more) =
    let due = retirement_due settings now (retired settings now s.own (retirement_at old.retirements node)) in
    adds_both (NoClaim n) old.orders behind.orders new.orders
    (record { told = ask_orders due s.via; orders = s.orders; all = ask_quiet n due s.via })
    (spreads_add n count settings now leader (node + 1) monitors behind new more)

pub spreads_by : (n : ℕ) (leader : Option ℕ) (settings : Settings) (now : ℕ) (monitors : List NodeMonitor) (old new : Round) → SpreadsBy leader settings now monitors old new → Adds (NoClaim n) old.orders new.orders
spreads_by n None settings now monitors old new same = nothing_adds (NoClaim n) old.orders new.orders (ap (λ (round : Round). round.orders) same)
spreads_by n (Some leader) settings now monitors old new s = spreads_add n 7 settings now leader 1 monitors old new s

-- Time passes.
pub tick_outcome : (n now : ℕ) (at : Moment) (old new : Driver) (told : List Order) → 1 ≤ n → Sound n old → Ticks now at old new → new.orders ≡ ordered old.orders told → Outcome n false old new told
tick_outcome n now at old new told low sound t is =
    let first = awake_keeps n now old sound in
    let pinged = keeps_both n old (awake now old) t.pinged first (asks_keep n now (awake now old) t.pinged first.sound t.pings) in
    let left = keeps_both n old t.pinged t.left pinged (leaves_keep n (is_silent t.pinged.link.stage now) now Silent t.pinged t.left pinged.sound t.leaves) in
    let served =
    grows_keep n t.left t.served left.sound (ap (λ (driver : Driver). driver.monitors) t.is_served)
    (ticks_grow (NoClaim n) at t.left.settings.timeout_ms now t.left.monitors (keys t.left.clients.all) (told_of t.left) (told_of t.served) left.sound.good t.clients)
    in
    let asked = nodes_result n 7 now 1 t.served t.asked low (omega (arith)) served.sound t.nodes in
    let word = orders_keep n t.asked new (sound_behind n t.served t.asked asked) (ap (λ (driver : Driver). driver.monitors) t.rest) (ap (λ (driver : Driver). driver.clients) t.rest) (spreads_by n t.retired.leader t.asked.settings now t.asked.monitors (round_of t.asked) (round_of new) t.retired.spreads) in
    outcome_of n false old old new told (nothing_adds (NoClaim n) old.orders old.orders refl) (λ _ line w. w)
    (keeps_result n old t.served new (keeps_both n old t.left t.served left served) (result_keeps n t.served t.asked new asked word))
    is
