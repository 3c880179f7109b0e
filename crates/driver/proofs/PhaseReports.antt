-- What the report of a node does to the phase of a session.
use Rattle.std.proofs.Common.{◌≡◌, ◌∙◌, ℕ, ◌-◌, Bool, true, false, List, [], ◌∷◌, Option, Some, None, refl, sym, ap, subst, slice_get}
use Rattle.std.specs.Prelude.{◌&&◌, ◌||◌, if◌then◌else◌}
use Rattle.std.specs.BTreeMap.{keys}
use Rattle.wire_bytes.specs.declared.moment.Moment.{Moment}
use Rattle.bouncer_tower.specs.Hosting.{class_of}
use Rattle.client_gate.specs.Gates.{GateEffect}
use Rattle.irc_line.specs.Lines.{Parts}
use Rattle.machine_laws.specs.declared.class.Class.{Class}
use Rattle.machine_laws.specs.declared.class.Class.TheVariants.{Hand as HandClass, Nowhere, Rejoin, To}
use Rattle.node_notes.specs.declared.progress.Progress.{Progress}
use Rattle.node_notes.specs.declared.status.Status.{Status}
use Rattle.raft_node.specs.declared.node_fault.Cause.{Cause}
use Rattle.driver.specs.declared.absence.Absence.TheVariants as absence
use Rattle.driver.specs.declared.clients.Clients.{Clients}
use Rattle.driver.specs.declared.driver.Driver.{Driver}
use Rattle.driver.specs.declared.link.Link.{Link}
use Rattle.driver.specs.declared.news.News.{News}
use Rattle.driver.specs.declared.news.News.TheVariants as news
use Rattle.driver.specs.declared.node_monitor.NodeMonitor.{NodeMonitor}
use Rattle.driver.specs.declared.node_monitor.standing.Outage.{Outage}
use Rattle.driver.specs.declared.order.Order.{Order}
use Rattle.driver.specs.declared.order.Order.TheVariants as order
use Rattle.driver.specs.declared.retirement.Retirement.{Retirement}
use Rattle.driver.specs.Crowds.{Told}
use Rattle.driver.specs.Driving.{orders_of, told_of}
use Rattle.driver.specs.Hearing.{answers_news, begins_run, down_news, elected_news, heard_news, is_elected, stood_news, up_news, was_up}
use Rattle.driver.specs.Keys.{KeyOf}
use Rattle.driver.specs.Learning.{LearnsIf, nick_learnt}
use Rattle.driver.specs.Links.{is_session_of}
use Rattle.driver.specs.Opening.{joined_as}
use Rattle.driver.specs.Ordering.{Phase}
use Rattle.driver.specs.Passing.{PassEach}
use Rattle.driver.specs.Reports.{BeginsIf, Hears, WordsBy, WordsIf, heard_at, lost_at}
use Rattle.driver.specs.Retiring.{fresh}
use Rattle.driver.specs.Rounds.{retirement_told}
use Rattle.driver.specs.Waking.{awake}
use Rattle.driver.specs.Writing.{joined, link_passed}
use Rattle.driver.proofs.Adding.{adds_both, passes_grow}
use Rattle.driver.proofs.Growing.{AllAre, AllGood, Grows, all_append, cuts_grow, leaves_grow, same_grows, words_grow}
use Rattle.driver.proofs.PhaseClients.{of_calm}
use Rattle.driver.proofs.Phases.{Calm, Goes, StandsAs, adds_goes, calm_goes, goes_both, same_goes}
use Rattle.driver.proofs.PhaseNodes.{node_goes}

if_calm : (b : Bool) (said : News) → Calm (order.Log said) → AllAre Calm (if b then order.Log said ∷ [] else [])
unfolding AllAre
if_calm true said is = (is, tt)
if_calm false said is = tt

up_calm : (id boot : ℕ) (up : Bool) → AllAre Calm (up_news id boot up)
unfolding AllAre
up_calm id boot true = tt
up_calm id boot false = (tt, tt)

answers_calm : (id : ℕ) (hung : Bool) → AllAre Calm (answers_news id hung)
unfolding AllAre
answers_calm id true = (tt, tt)
answers_calm id false = tt

down_calm : (id : ℕ) (cause : Cause) (since : Option Outage) → AllAre Calm (down_news id cause since)
unfolding AllAre
down_calm id cause None = (tt, tt)
down_calm id cause (Some since) = tt

stood_calm : (d : NodeMonitor) (status : Status) (cause : Option Cause) → AllAre Calm (stood_news d status cause)
stood_calm d status None =
    all_append Calm (answers_news d.id (d.presence.is_hanging && begins_run d.status status)) (up_news d.id status.boot (was_up d.status))
    (answers_calm d.id (d.presence.is_hanging && begins_run d.status status))
    (up_calm d.id status.boot (was_up d.status))
stood_calm d status (Some cause) = down_calm d.id cause d.down

heard_calm : (status : Status) (d : NodeMonitor) → AllAre Calm (heard_news d status)
heard_calm status d =
    all_append Calm (elected_news d status) (stood_news d status status.down)
    (if_calm (is_elected d status) (news.Elected d.id status.term) tt)
    (stood_calm d status status.down)

told_same : (old new : Told) → AllGood Calm old.clients → new ≡ old → Grows Calm old new
told_same old new good same = same_grows Calm old new good (ap (λ (told : Told). told.clients) same, ap (λ (told : Told). told.orders) same)

words_if : (b refused : Bool) (now : ℕ) (at : Moment) (node lost : ℕ) (old new : Told) → AllGood Calm old.clients → WordsIf b refused now at node lost old new → Grows Calm old new
words_if true refused now at node lost old new good w = words_grow Calm at now node lost refused (keys old.clients.all) old new good w
words_if false refused now at node lost old new good same = told_same old new good same

words_by : (cause : Option Cause) (refused lost : Bool) (now : ℕ) (at : Moment) (node : ℕ) (driver : Driver) (old new : Told) → AllGood Calm old.clients → WordsBy cause refused lost now at node driver old new → Grows Calm old new
words_by (Some cause) refused lost now at node driver old new good w = cuts_grow Calm absence.Down node (keys old.clients.all) old new good w
words_by None refused lost now at node driver old new good w = words_if (refused || lost) refused now at node (lost_at driver.monitors node) old new good w

retired_calm : (retirement : Retirement) (d : NodeMonitor) → AllAre Calm (retirement_told retirement d)
unfolding AllAre
retired_calm retirement d = (tt, tt)

begins_go : (begins : Bool) (now : ℕ) (at : Moment) (node boot : ℕ) (phase : Phase) (old new : Driver) → StandsAs phase old.link.stage → AllGood Calm old.clients → BeginsIf begins now at node boot old new → Goes phase old new
begins_go false now at node boot phase old new stands good same = same_goes phase old new stands good same
begins_go true now at node boot phase old new stands good b =
    let g = leaves_grow Calm at node boot (keys old.clients.all) (told_of old) b.left good b.leaves in
    let orders : NodeMonitor → List Order = λ d. retirement_told (fresh d.id boot) d in
    let all =
    adds_both Calm old.orders b.left.orders new.orders
    (record { told = g.told; orders = g.orders; all = g.all })
    (record { told = orders_of orders (slice_get old.monitors (node - 1)); orders = b.orders; all = of_calm orders (slice_get old.monitors (node - 1)) (λ d. retired_calm (fresh d.id boot) d) })
    in
    calm_goes phase old new stands (ap (λ (driver : Driver). driver.link.stage) b.rest)
    (record {
      told = all.told;
      orders = all.orders;
      all = all.all;
      good = subst (λ (clients : Clients). AllGood Calm clients) (sym b.clients) g.good;
    })

joined_stage : (is : Bool) (keys : List KeyOf) (channel : List ℕ) (link : Link) → (if is then joined keys channel link else link).stage ≡ link.stage
joined_stage true keys channel link = refl
joined_stage false keys channel link = refl

passed_stage : (keys : List KeyOf) (class : Class Parts) (node : ℕ) (link : Link) → (link_passed keys class node link).stage ≡ link.stage
passed_stage keys (Rejoin session line) node link = joined_stage (is_session_of link.stage node) keys _ link
passed_stage keys (To origin) node link = refl
passed_stage keys (HandClass session number line) node link = refl
passed_stage keys Nowhere node link = refl

learnt_stage : (nick : Option (List ℕ)) (old new : Driver) → LearnsIf nick old new → new.link.stage ≡ old.link.stage
learnt_stage None old new same = ap (λ (driver : Driver). driver.link.stage) same
learnt_stage (Some nick) old new l = ap (λ (driver : Driver). driver.link.stage) l.rest

passes_stage : (now : ℕ) (at : Moment) (node : ℕ) (effects : List GateEffect) (old new : Driver) → PassEach now at node effects old new → new.link.stage ≡ old.link.stage
unfolding PassEach
passes_stage now at node [] old new same = ap (λ (driver : Driver). driver.link.stage) same
passes_stage now at node (effect ∷ effects) old new (mid, p, more) =
    passes_stage now at node effects mid new more
    ∙ ap (λ (driver : Driver). driver.link.stage) p.rest
    ∙ passed_stage p.learnt.settings.channel_keys.items (class_of effect) node p.learnt.link
    ∙ learnt_stage (nick_learnt old.given old.settings.nick (joined_as effect)) old p.learnt p.learns

pub hears_go : (now : ℕ) (at : Moment) (node : ℕ) (status : Status) (effects : List GateEffect) (progress : Progress) (refused : Bool) (phase : Phase) (old new : Driver) → StandsAs phase old.link.stage → AllGood Calm old.clients → Hears now at node status effects progress refused old new → Goes phase old new
hears_go now at node status effects progress refused phase old new stands good h =
    let (grows, monitors) = passes_grow Calm now at node effects (awake now old) h.passed good h.passes in
    let passed = calm_goes phase old h.passed stands (passes_stage now at node effects (awake now old) h.passed h.passes) grows in
    let orders : NodeMonitor → List Order = λ d. heard_news d status in
    let stood =
    adds_goes passed.last h.passed h.stood passed.stands passed.good (ap (λ (driver : Driver). driver.link.stage) h.stands.rest) (ap (λ (driver : Driver). driver.clients) h.stands.rest)
    (record {
      told = orders_of orders (slice_get h.passed.monitors (node - 1));
      orders = h.stands.orders;
      all = of_calm orders (slice_get h.passed.monitors (node - 1)) (heard_calm status);
    })
    in
    let worded =
    calm_goes stood.last h.stood h.worded stood.stands (ap (λ (driver : Driver). driver.link.stage) h.is_worded)
    (words_by status.down refused (heard_at h.passed node status progress).has_lost now at node h.stood (told_of h.stood) (told_of h.worded) stood.good h.words)
    in
    let begun = begins_go (heard_at h.passed node status progress).is_new now at node status.boot worded.last h.worded h.begun worded.stands worded.good h.begins in
    let ticked = node_goes now node begun.last h.begun new begun.stands begun.good h.ticks in
    goes_both phase old h.passed new passed
    (goes_both passed.last h.passed h.stood new stood
    (goes_both stood.last h.stood h.worded new worded (goes_both worded.last h.worded h.begun new begun ticked)))
