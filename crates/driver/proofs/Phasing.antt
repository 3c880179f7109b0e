-- What each call does to the phase of a session: over all calls nodes are told of sessions in order.
use Rattle.std.proofs.Common.{◌≡◌, ◌∙◌, ◌++◌, ℕ, Bool, true, false, List, [], ◌∷◌, Option, Some, None, refl, sym, ap, subst}
use Rattle.std.specs.Prelude.{◌&&◌, if◌then◌else◌, is_some, nat_eq}
use Rattle.std.specs.BTreeMap.{keys}
use Rattle.driver.specs.declared.clients.Clients.{Clients}
use Rattle.driver.specs.declared.driver.Driver.{Driver}
use Rattle.driver.specs.declared.link.Session.{Session}
use Rattle.driver.specs.declared.link.Stage.{Stage}
use Rattle.driver.specs.declared.link.Stage.TheVariants.{Closing, Connecting, Idle, Open}
use Rattle.driver.specs.declared.order.Order.{Order}
use Rattle.driver.specs.declared.order.Order.TheVariants as order
use Rattle.driver.specs.declared.settings.Settings.{Settings}
use Rattle.driver.specs.Calls.{Call, Does, DoesAll, IsTold, Step, Connect, Connected, Dismiss, End, Hand, Hear, Lose, Notice, Receive, ReceiveLine, Refuse, Take, Tick, Watch, WatchNodes, WatchPasswords}
use Rattle.driver.specs.Counting.{all_told}
use Rattle.driver.specs.Driving.{closed_of, closed_orders, told_of}
use Rattle.driver.specs.Guarding.{untold}
use Rattle.driver.specs.Hearing.{boot_up}
use Rattle.driver.specs.Links.{Connects, IsLost, ending, node_of, status_at}
use Rattle.driver.specs.Ordering.{EndsAreTold, Gone, Leads, Phase, SessionsAreTold}
use Rattle.driver.specs.Rosters.{client_at}
use Rattle.driver.specs.Telling.{ordered}
use Rattle.driver.proofs.Adding.{Adds, all_written_add, nothing_adds, written_adds}
use Rattle.driver.proofs.ClientCalls.{more_adds}
use Rattle.driver.proofs.Growing.{AllAre, AllGood, Good, dismisses_grow, none_some}
use Rattle.driver.proofs.PhaseBytes.{end_given, none_given}
use Rattle.driver.proofs.PhaseClients.{connect_goes, loses_go, speaks_go, watch_goes, watches_go}
use Rattle.driver.proofs.PhaseEnds.{ends_go}
use Rattle.driver.proofs.PhaseNodes.{ticks_go}
use Rattle.driver.proofs.Phases.{Calm, Goes, Has, StandsAs, adds_goes, calm_goes, calm_same, kept_has, leads_both, phase_by}
use Rattle.driver.proofs.Waiting.{items_same}
use Rattle.driver.proofs.PhaseReports.{hears_go}
use Rattle.driver.proofs.PhaseTold.{takes_go}

-- The connection is made.

stands_go : (now : ℕ) (phase : Phase) (stage : Stage) (settings : Settings) (old new : Driver) → old.link.stage ≡ stage → StandsAs phase stage → AllGood Calm old.clients → new.clients ≡ old.clients → Connects stage settings now old.orders new.link.stage new.orders → Goes phase old new
unfolding AllAre
stands_go now phase (Idle since wait) settings old new is stands good clients (same, none) =
    adds_goes phase old new (subst (λ (stage : Stage). StandsAs phase stage) (sym is) stands) good (same ∙ sym is) clients (nothing_adds Calm old.orders new.orders none)
stands_go now phase (Closing since wait) settings old new is stands good clients (same, none) =
    adds_goes phase old new (subst (λ (stage : Stage). StandsAs phase stage) (sym is) stands) good (same ∙ sym is) clients (nothing_adds Calm old.orders new.orders none)
stands_go now phase (Open session) settings old new is stands good clients (same, none) =
    adds_goes phase old new (subst (λ (stage : Stage). StandsAs phase stage) (sym is) stands) good (same ∙ sym is) clients (nothing_adds Calm old.orders new.orders none)
stands_go now phase (Connecting node) settings old new is asked good clients (session, begun, opened) =
    let has : Has [] phase session = record {
      nick = settings.nick;
      calls = [];
      after = begun.uplink_is;
      is_live = refl;
      done = [];
      all = none_given settings.nick;
      opened = begun.is_unopened;
      phase_is = asked ∙ ap (λ (given : Bool). phase_by given session.node) (sym begun.is_unopened);
    } in
    let send = order.Send begun.first ∷ [] in
    record {
      last = phase;
      told = send;
      orders = begun.orders;
      leads = calm_same phase send (kept_has [] phase session has) (tt, tt);
      stands = subst (λ (stage : Stage). StandsAs phase stage) (sym opened) has;
      good = subst (λ (clients : Clients). AllGood Calm clients) (sym clients) good;
    }

-- Each call.

record Behind (phase : Phase) (told : List Order) (new : Driver) : Type 0 where
  next : Phase
  leads : Leads phase told next
  stands : StandsAs next new.link.stage
  good : AllGood Calm new.clients

of_goes : (phase : Phase) (told : List Order) (old new : Driver) → Goes phase old new → new.orders ≡ ordered old.orders told → Behind phase told new
of_goes phase told old new g is = record {
  next = g.last;
  leads = subst (λ (items : List Order). Leads phase items g.last) (items_same old.orders new.orders g.told told g.orders is) g.leads;
  stands = g.stands;
  good = g.good;
}

given_goes : (phase : Phase) (told : List Order) (old new : Driver) → StandsAs phase old.link.stage → AllGood Calm old.clients → new ≡ record old { orders = new.orders } → Adds Calm old.orders new.orders → new.orders ≡ ordered old.orders told → Behind phase told new
given_goes phase told old new stands good rest adds is =
    of_goes phase told old new (adds_goes phase old new stands good (ap (λ (driver : Driver). driver.link.stage) rest) (ap (λ (driver : Driver). driver.clients) rest) adds) is

call_goes : (phase : Phase) (call : Call) (told : List Order) (old new : Driver) → StandsAs phase old.link.stage → AllGood Calm old.clients → Does call old new → IsTold call told old.orders new.orders → Behind phase told new
unfolding Leads
call_goes phase (Connect now node) told old new stands good (low, k) is = of_goes phase told old new (connect_goes now node phase old new stands good k) is
call_goes phase (Receive bytes now at number) told old new stands good s is =
    of_goes phase told old new (speaks_go bytes now at number (client_at old.clients number) phase old new refl stands good s) is
call_goes phase (Lose now at number) told old new stands good s is =
    of_goes phase told old new (loses_go now at number (client_at old.clients number) phase old new refl stands good s) is
call_goes phase (Hand node line) told old new stands good h is =
    of_goes phase told old new
    (adds_goes phase old new stands good (ap (λ (driver : Driver). driver.link.stage) h) (ap (λ (driver : Driver). driver.clients) h) (nothing_adds Calm old.orders new.orders (ap (λ (driver : Driver). driver.orders) h)))
    is
call_goes phase (Hear now at node status effects progress refused) told old new stands good r is =
    of_goes phase told old new (hears_go now at node status effects progress refused phase old new stands good r.hears) is
call_goes phase (Tick now at) told old new stands good t is = of_goes phase told old new (ticks_go now at phase old new stands good t) is
call_goes phase (Connected now) told old new stands good s is =
    of_goes phase told old new (stands_go now phase old.link.stage old.settings old new refl stands good (ap (λ (driver : Driver). driver.clients) s.rest) s.stands) is
call_goes phase (ReceiveLine now at bytes) told old new stands good t is =
    of_goes phase told old new (takes_go (node_of old.link.stage) now at bytes phase old new refl stands good t) is
call_goes phase (End now why) told old new stands good e is = of_goes phase told old new (ends_go now why phase old new stands good e).goes is
call_goes phase (Notice text) told old new stands good o is =
    given_goes phase told old new stands good o.rest (all_written_add Calm (keys old.clients.all) old.clients _ old.orders new.orders good o.given) is
call_goes phase (Dismiss now at) told old new stands good d is =
    of_goes phase told old new
    (calm_goes phase old new stands (ap (λ (driver : Driver). driver.link.stage) d.rest) (dismisses_grow Calm at now (keys old.clients.all) (told_of old) (told_of new) good d.clients))
    is
call_goes phase Watch told old new stands good w is = of_goes phase told old new (watch_goes w.leader phase old new stands good w.watches) is
call_goes phase (WatchNodes now) told old new stands good w is = of_goes phase told old new (watches_go now phase old new stands good w) is
call_goes phase (WatchPasswords now) told old new stands good w is =
    of_goes phase told old new
    (adds_goes phase old new stands good (ap (λ (driver : Driver). driver.link.stage) w.rest) (ap (λ (driver : Driver). driver.clients) w.rest)
    (more_adds Calm (nat_eq (untold now old.guard) 0) (untold now old.guard) old.orders new.orders tt w.orders))
    is
call_goes phase (Refuse number) told old new stands good o is =
    given_goes phase told old new stands good o.rest (written_adds Calm old.clients number (client_at old.clients number) _ old.orders new.orders refl good o.given) is
call_goes phase Take told old new stands good o is = record {
  next = phase;
  leads = subst (λ (items : List Order). Leads phase items phase) (sym is) refl;
  stands = subst (λ (stage : Stage). StandsAs phase stage) (sym (ap (λ (driver : Driver). driver.link.stage) o.rest)) stands;
  good = subst (λ (clients : Clients). AllGood Calm clients) (sym (ap (λ (driver : Driver). driver.clients) o.rest)) good;
}

steps_lead : (phase : Phase) (steps : List Step) (old new : Driver) → StandsAs phase old.link.stage → AllGood Calm old.clients → DoesAll steps old new → (last : Phase) × Leads phase (all_told steps) last
unfolding DoesAll Leads all_told
steps_lead phase [] old new stands good same = (phase, refl)
steps_lead phase (step ∷ more) old new stands good (mid, does, rest) =
    let b = call_goes phase step.call step.told old mid stands good does.does does.told in
    let (last, leads) = steps_lead b.next more mid new b.stands b.good rest in
    (last, leads_both phase b.next last step.told (all_told more) b.leads leads)

pub sessions_told : SessionsAreTold
sessions_told steps driver led =
    let new = led.is_new in
    steps_lead Gone steps led.first driver (subst (λ (stage : Stage). StandsAs Gone stage) (sym new.stage) tt)
    (λ number c found. none_some c (Good Calm c) (sym (new.clients number) ∙ found))
    led.calls

-- The end of an open connection.

steps_stand : (phase : Phase) (steps : List Step) (old new : Driver) → StandsAs phase old.link.stage → AllGood Calm old.clients → DoesAll steps old new → (last : Phase) × StandsAs last new.link.stage
unfolding DoesAll
steps_stand phase [] old new stands good same = (phase, subst (λ (driver : Driver). StandsAs phase driver.link.stage) (sym same) stands)
steps_stand phase (step ∷ more) old new stands good (mid, does, rest) =
    let b = call_goes phase step.call step.told old mid stands good does.does does.told in
    steps_stand b.next more mid new b.stands b.good rest

closed_up : (node : ℕ) (lost up : Bool) → lost ≡ true → up ≡ true → (if lost && up then Some node else None) ≡ Some node
closed_up node true true lost up = refl
closed_up node true false lost up = absurd (cc up)
closed_up node false up lost is = absurd (cc lost)

ended_by : (stage : Stage) (phase : Phase) (session : Session) (lost : Bool) → stage ≡ Open session → StandsAs phase stage → IsLost stage lost → lost ≡ true
ended_by (Idle since wait) phase session lost is stands l = absurd (cc is)
ended_by (Closing since wait) phase session lost is stands l = absurd (cc is)
ended_by (Connecting node) phase session lost is stands l = absurd (cc is)
ended_by (Open own) phase session lost is has (behind, given, goes, same) =
    same ∙ end_given has.nick has.calls given has.is_live (goes.inputs has.nick has.calls has.after)

pub ends_told : EndsAreTold
ends_told steps driver new session now why led is up e =
    let first = led.is_new in
    let (last, stands) =
    steps_stand Gone steps led.first driver (subst (λ (stage : Stage). StandsAs Gone stage) (sym first.stage) tt)
    (λ number c found. none_some c (Good Calm c) (sym (first.clients number) ∙ found))
    led.calls
    in
    let lost = ended_by driver.link.stage last session e.lost is stands e.is_lost in
    let closed : closed_of driver.monitors (node_of driver.link.stage) e.lost ≡ Some session.node =
    ap (λ (stage : Stage). closed_of driver.monitors (node_of stage) e.lost) is
    ∙ closed_up session.node e.lost (is_some (boot_up (status_at driver.monitors session.node))) lost up
    in
    e.orders
    ∙ ap (λ (stage : Stage). ordered driver.orders (ending stage why ++ closed_orders (closed_of driver.monitors (node_of driver.link.stage) e.lost))) is
    ∙ ap (λ (node : Option ℕ). ordered driver.orders (ending (Open session) why ++ closed_orders node)) closed
