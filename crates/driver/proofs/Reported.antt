-- What a report of a node does to the connection to the server.
use Rattle.std.proofs.Common.{◌≡◌, ℕ, ◌-◌, Bool, true, false, List, [], ◌∷◌, Option, Some, None, refl, sym, ap, subst, slice_get}
use Rattle.std.specs.Prelude.{◌&&◌, if◌then◌else◌, ◌||◌}
use Rattle.std.specs.BTreeMap.{keys}
use Rattle.wire_bytes.specs.declared.moment.Moment.{Moment}
use Rattle.client_gate.specs.Gates.{GateEffect}
use Rattle.bouncer_tower.specs.Hosting.{class_of}
use Rattle.irc_line.specs.Lines.{Parts, parameter}
use Rattle.machine_laws.specs.declared.class.Class.{Class}
use Rattle.machine_laws.specs.declared.class.Class.TheVariants.{Hand as HandClass, Nowhere, Rejoin, To}
use Rattle.node_notes.specs.declared.progress.Progress.{Progress}
use Rattle.node_notes.specs.declared.status.Status.{Status}
use Rattle.raft_node.specs.declared.node_fault.Cause.{Cause}
use Rattle.driver.specs.declared.absence.Absence.TheVariants as absence
use Rattle.driver.specs.declared.clients.Clients.{Clients}
use Rattle.driver.specs.declared.driver.Driver.{Driver}
use Rattle.driver.specs.declared.link.Link.{Link}
use Rattle.driver.specs.declared.link.Stage.{Stage}
use Rattle.driver.specs.declared.link.Stage.TheVariants.{Closing, Connecting, Idle, Open}
use Rattle.driver.specs.declared.news.News.{News}
use Rattle.driver.specs.declared.news.News.TheVariants as news
use Rattle.driver.specs.declared.node_monitor.NodeMonitor.{NodeMonitor}
use Rattle.driver.specs.declared.node_monitor.standing.Outage.{Outage}
use Rattle.driver.specs.declared.order.Order.{Order}
use Rattle.driver.specs.declared.order.Order.TheVariants as order
use Rattle.driver.specs.declared.retirement.Retirement.{Retirement}
use Rattle.driver.specs.Keys.{KeyOf}
use Rattle.driver.specs.Learning.{LearnsIf, nick_learnt}
use Rattle.driver.specs.Links.{is_open, is_session_of}
use Rattle.driver.specs.Opening.{joined_as}
use Rattle.driver.specs.Outgoing.{Waiting, nothing_waits}
use Rattle.driver.specs.Writing.{joined, link_passed}
use Rattle.driver.specs.Crowds.{Told}
use Rattle.driver.specs.Driving.{orders_of, told_of}
use Rattle.driver.specs.Hearing.{answers_news, begins_run, down_news, elected_news, heard_news, is_elected, stood_news, up_news, was_up}
use Rattle.driver.specs.Passing.{PassEach}
use Rattle.driver.specs.Quitting.{Connection}
use Rattle.driver.specs.Reports.{BeginsIf, Hears, WordsBy, WordsIf, heard_at, lost_at}
use Rattle.driver.specs.Retiring.{fresh}
use Rattle.driver.specs.Rounds.{retirement_told}
use Rattle.driver.specs.Waking.{awake}
use Rattle.driver.proofs.Adding.{adds_both, passes_grow}
use Rattle.driver.proofs.Growing.{AllAre, AllGood, Grows, all_append, cuts_grow, leaves_grow, same_grows, words_grow}
use Rattle.driver.proofs.Quitting.{Fits, Goes, Inner, StandsAs, adds_goes, goes_both, inner_goes, moved_goes, same_fits, same_goes}
use Rattle.driver.proofs.Used.{node_goes, not_both, of_inner}

-- What waits changes only in a session.

session_open : (stage : Stage) (node : ℕ) → is_session_of stage node ≡ true → is_open stage ≡ true
session_open (Idle since wait) node is = absurd (cc is)
session_open (Closing since wait) node is = absurd (cc is)
session_open (Connecting other) node is = absurd (cc is)
session_open (Open session) node is = refl

pub open_fits : (c : Connection) (old new : Link) → is_open new.stage ≡ true → StandsAs c new.stage → Fits c new
open_fits c old new up stands = record { stands = stands; empty = λ closed. not_both (is_open new.stage) (new.waiting ≡ nothing_waits) up closed }

joined_fits : (c : Connection) (is : Bool) (node : ℕ) (keys : List KeyOf) (channel : List ℕ) (link : Link) → is_session_of link.stage node ≡ is → Fits c link → Fits c (if is then joined keys channel link else link)
joined_fits c true node keys channel link is fits = open_fits c link (joined keys channel link) (session_open link.stage node is) fits.stands
joined_fits c false node keys channel link is fits = fits

passed_fits : (c : Connection) (keys : List KeyOf) (class : Class Parts) (node : ℕ) (link : Link) → Fits c link → Fits c (link_passed keys class node link)
passed_fits c keys (Rejoin session line) node link fits = joined_fits c (is_session_of link.stage node) node keys (parameter 0 line) link refl fits
passed_fits c keys (To origin) node link fits = fits
passed_fits c keys (HandClass session number line) node link fits = fits
passed_fits c keys Nowhere node link fits = fits

pub handed_fits : (c : Connection) (is : Bool) (node : ℕ) (waiting : Waiting) (link : Link) → is_session_of link.stage node ≡ is → Fits c link → Fits c (record link { waiting = if is then waiting else link.waiting })
handed_fits c true node waiting link is fits = open_fits c link (record link { waiting = waiting }) (session_open link.stage node is) fits.stands
handed_fits c false node waiting link is fits = fits

learnt_link : (nick : Option (List ℕ)) (old new : Driver) → LearnsIf nick old new → new.link ≡ old.link
learnt_link None old new same = ap (λ (driver : Driver). driver.link) same
learnt_link (Some nick) old new l = ap (λ (driver : Driver). driver.link) l.rest

passes_fit : (c : Connection) (now : ℕ) (at : Moment) (node : ℕ) (effects : List GateEffect) (old new : Driver) → PassEach now at node effects old new → Fits c old.link → Fits c new.link
unfolding PassEach
passes_fit c now at node [] old new same fits = same_fits c old.link new.link (ap (λ (driver : Driver). driver.link) same) fits
passes_fit c now at node (effect ∷ effects) old new (mid, p, more) fits =
    let learnt = same_fits c old.link p.learnt.link (learnt_link (nick_learnt old.given old.settings.nick (joined_as effect)) old p.learnt p.learns) fits in
    let keys = p.learnt.settings.channel_keys.items in
    let passed = passed_fits c keys (class_of effect) node p.learnt.link learnt in
    passes_fit c now at node effects mid new more (same_fits c (link_passed keys (class_of effect) node p.learnt.link) mid.link (ap (λ (driver : Driver). driver.link) p.rest) passed)

-- A worker reports.

if_inner : (b : Bool) (said : News) → Inner (order.Log said) → AllAre Inner (if b then order.Log said ∷ [] else [])
unfolding AllAre
if_inner true said is = (is, tt)
if_inner false said is = tt

up_inner : (id boot : ℕ) (up : Bool) → AllAre Inner (up_news id boot up)
unfolding AllAre
up_inner id boot true = tt
up_inner id boot false = (tt, tt)

answers_inner : (id : ℕ) (hung : Bool) → AllAre Inner (answers_news id hung)
unfolding AllAre
answers_inner id true = (tt, tt)
answers_inner id false = tt

down_inner : (id : ℕ) (cause : Cause) (since : Option Outage) → AllAre Inner (down_news id cause since)
unfolding AllAre
down_inner id cause None = (tt, tt)
down_inner id cause (Some since) = tt

stood_inner : (d : NodeMonitor) (status : Status) (cause : Option Cause) → AllAre Inner (stood_news d status cause)
stood_inner d status None =
    all_append Inner (answers_news d.id (d.presence.is_hanging && begins_run d.status status)) (up_news d.id status.boot (was_up d.status))
    (answers_inner d.id (d.presence.is_hanging && begins_run d.status status))
    (up_inner d.id status.boot (was_up d.status))
stood_inner d status (Some cause) = down_inner d.id cause d.down

heard_inner : (status : Status) (d : NodeMonitor) → AllAre Inner (heard_news d status)
heard_inner status d =
    all_append Inner (elected_news d status) (stood_news d status status.down)
    (if_inner (is_elected d status) (news.Elected d.id status.term) tt)
    (stood_inner d status status.down)

told_same : (old new : Told) → AllGood Inner old.clients → new ≡ old → Grows Inner old new
told_same old new good same = same_grows Inner old new good (ap (λ (told : Told). told.clients) same, ap (λ (told : Told). told.orders) same)

words_if : (b refused : Bool) (now : ℕ) (at : Moment) (node lost : ℕ) (old new : Told) → AllGood Inner old.clients → WordsIf b refused now at node lost old new → Grows Inner old new
words_if true refused now at node lost old new good w = words_grow Inner at now node lost refused (keys old.clients.all) old new good w
words_if false refused now at node lost old new good same = told_same old new good same

words_by : (cause : Option Cause) (refused lost : Bool) (now : ℕ) (at : Moment) (node : ℕ) (driver : Driver) (old new : Told) → AllGood Inner old.clients → WordsBy cause refused lost now at node driver old new → Grows Inner old new
words_by (Some cause) refused lost now at node driver old new good w = cuts_grow Inner absence.Down node (keys old.clients.all) old new good w
words_by None refused lost now at node driver old new good w = words_if (refused || lost) refused now at node (lost_at driver.monitors node) old new good w

retired_inner : (retirement : Retirement) (d : NodeMonitor) → AllAre Inner (retirement_told retirement d)
unfolding AllAre
retired_inner retirement d = (tt, tt)

begins_go : (now : ℕ) (c : Connection) (begins : Bool) (at : Moment) (node boot : ℕ) (old new : Driver) → Fits c old.link → AllGood Inner old.clients → BeginsIf begins now at node boot old new → Goes now c old new
begins_go now c false at node boot old new fits good same = same_goes now c old new fits good same
begins_go now c true at node boot old new fits good b =
    let g = leaves_grow Inner at node boot (keys old.clients.all) (told_of old) b.left good b.leaves in
    let orders : NodeMonitor → List Order = λ d. retirement_told (fresh d.id boot) d in
    let all =
    adds_both Inner old.orders b.left.orders new.orders
    (record { told = g.told; orders = g.orders; all = g.all })
    (record { told = orders_of orders (slice_get old.monitors (node - 1)); orders = b.orders; all = of_inner orders (slice_get old.monitors (node - 1)) (λ d. retired_inner (fresh d.id boot) d) })
    in
    inner_goes now c old new fits (ap (λ (driver : Driver). driver.link) b.rest)
    (record {
      told = all.told;
      orders = all.orders;
      all = all.all;
      good = subst (λ (clients : Clients). AllGood Inner clients) (sym b.clients) g.good;
    })

pub hears_go : (now : ℕ) (at : Moment) (node : ℕ) (status : Status) (effects : List GateEffect) (progress : Progress) (refused : Bool) (c : Connection) (old new : Driver) → Fits c old.link → AllGood Inner old.clients → Hears now at node status effects progress refused old new → Goes now c old new
hears_go now at node status effects progress refused c old new fits good h =
    let (grows, monitors) = passes_grow Inner now at node effects (awake now old) h.passed good h.passes in
    let passed = moved_goes now c old h.passed fits (λ d is. passes_fit d now at node effects (awake now old) h.passed h.passes is) grows in
    let orders : NodeMonitor → List Order = λ d. heard_news d status in
    let stood =
    adds_goes now passed.last h.passed h.stood passed.fits passed.good (ap (λ (driver : Driver). driver.link) h.stands.rest) (ap (λ (driver : Driver). driver.clients) h.stands.rest)
    (record {
      told = orders_of orders (slice_get h.passed.monitors (node - 1));
      orders = h.stands.orders;
      all = of_inner orders (slice_get h.passed.monitors (node - 1)) (heard_inner status);
    })
    in
    let worded =
    inner_goes now stood.last h.stood h.worded stood.fits (ap (λ (driver : Driver). driver.link) h.is_worded)
    (words_by status.down refused (heard_at h.passed node status progress).has_lost now at node h.stood (told_of h.stood) (told_of h.worded) stood.good h.words)
    in
    let begun = begins_go now worded.last (heard_at h.passed node status progress).is_new at node status.boot h.worded h.begun worded.fits worded.good h.begins in
    let ticked = node_goes now node begun.last h.begun new begun.fits begun.good h.ticks in
    goes_both now c old h.passed new passed
    (goes_both now passed.last h.passed h.stood new stood
    (goes_both now stood.last h.stood h.worded new worded (goes_both now worded.last h.worded h.begun new begun ticked)))
