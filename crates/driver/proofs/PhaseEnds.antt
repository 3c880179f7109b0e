-- What the end of a connection, and the order for the next, do to the phase of a session.
use Rattle.std.proofs.Common.{◌≡◌, ◌∙◌, ◌++◌, ℕ, Bool, true, false, List, [], ◌∷◌, Option, Some, None, refl, sym, ap, subst}
use Rattle.std.specs.Prelude.{◌&&◌, if◌then◌else◌, is_some, nat_eq}
use Rattle.driver.specs.declared.clients.Clients.{Clients}
use Rattle.driver.specs.declared.driver.Driver.{Driver}
use Rattle.driver.specs.declared.backoff.Backoff.{Backoff}
use Rattle.driver.specs.declared.link.Stage.{Stage}
use Rattle.driver.specs.declared.link.Stage.TheVariants.{Closing, Connecting, Idle, Open}
use Rattle.driver.specs.declared.news.Ending.{Ending}
use Rattle.driver.specs.declared.news.Ending.TheVariants as reason
use Rattle.driver.specs.declared.node_monitor.NodeMonitor.{NodeMonitor}
use Rattle.driver.specs.declared.order.Order.{Order}
use Rattle.driver.specs.declared.order.Order.TheVariants as order
use Rattle.driver.specs.Driving.{Ends, Leaves, LeavesIf, LeavesOlder, Quits, QuitsIf, closed_of, closed_orders}
use Rattle.driver.specs.Hearing.{boot_up}
use Rattle.driver.specs.Links.{end_of, ending, idle_behind, is_open, lingering, may_connect, node_of, status_at}
use Rattle.driver.specs.Ordering.{Asked, Ended, Given, Gone, Leads, Phase, asked_behind, behind, closed_behind, missed_behind}
use Rattle.driver.specs.Telling.{ordered}
use Rattle.driver.proofs.Adding.{one_adds}
use Rattle.driver.proofs.Claiming.{same_eq}
use Rattle.driver.proofs.Growing.{AllAre, AllGood}
use Rattle.driver.proofs.Phases.{Calm, Goes, IsOver, StandsAs, adds_goes, goes_both, leads_both, one_goes, phase_by, same_goes}

-- The end of a connection.

same_if : (b : Bool) (phase : Phase) → b ≡ true → (if b then Some phase else None) ≡ Some phase
same_if true phase is = refl
same_if false phase is = absurd (cc is)

by_ended : (given : Bool) (node : ℕ) (why : Ending) → behind (order.Log (end_of given node why)) (phase_by given node) ≡ Some (Ended node)
by_ended true node why = same_if (nat_eq node node) (Ended node) (same_eq node)
by_ended false node why = refl

abbrev or_node : ℕ → Option ℕ → ℕ
or_node node None = node
or_node node (Some own) = own

-- what is logged leads to a phase in which there is no connection, and its node was not told of the end yet
record IsLogged (phase : Phase) (stage : Stage) (told : List Order) : Type 0 where
  last : Phase
  leads : Leads phase told last
  over : IsOver last
  own : (node : ℕ) → node_of stage ≡ Some node → last ≡ Ended node

ending_leads : (phase : Phase) (stage : Stage) (why : Ending) → StandsAs phase stage → IsLogged phase stage (ending stage why)
unfolding Leads
ending_leads phase (Idle since wait) why is = record { last = phase; leads = refl; over = is; own = λ node none. absurd (cc none) }
ending_leads phase (Closing since wait) why is = record { last = phase; leads = refl; over = is; own = λ node none. absurd (cc none) }
ending_leads phase (Connecting node) why is = record {
  last = Ended node;
  leads = (Ended node, ap (missed_behind node) is, refl);
  over = tt;
  own = λ own same. ap (λ (found : Option ℕ). Ended (or_node node found)) same;
}
ending_leads phase (Open session) why has = record {
  last = Ended session.node;
  leads = (
    Ended session.node,
    ap (behind (order.Log (end_of session.is_opened session.node why))) has.phase_is ∙ by_ended session.is_opened session.node why,
    refl,
  );
  over = tt;
  own = λ own same. ap (λ (found : Option ℕ). Ended (or_node session.node found)) same;
}

record IsClosed (phase : Phase) (told : List Order) : Type 0 where
  last : Phase
  leads : Leads phase told last
  over : IsOver last

closed_if : (up : Bool) (phase : Phase) (node : ℕ) → phase ≡ Ended node → IsClosed phase (closed_orders (if up then Some node else None))
unfolding Leads
closed_if true phase node is = record {
  last = Gone;
  leads = (Gone, ap (closed_behind node) is ∙ same_if (nat_eq node node) Gone (same_eq node), refl);
  over = tt;
}
closed_if false phase node is = record { last = phase; leads = refl; over = subst IsOver (sym is) tt }

closed_leads : (monitors : List NodeMonitor) (own : Option ℕ) (lost : Bool) (phase : Phase) → IsOver phase → ((node : ℕ) → own ≡ Some node → phase ≡ Ended node) → IsClosed phase (closed_orders (closed_of monitors own lost))
unfolding Leads
closed_leads monitors None lost phase over is = record { last = phase; leads = refl; over = over }
closed_leads monitors (Some node) lost phase over is = closed_if (lost && is_some (boot_up (status_at monitors node))) phase node (is node refl)

idle_over : (phase : Phase) (stage : Stage) (backoff : Backoff) (now : ℕ) → IsOver phase → StandsAs phase (idle_behind stage backoff now)
idle_over phase (Idle since wait) backoff now over = over
idle_over phase (Closing since wait) backoff now over = over
idle_over phase (Connecting node) backoff now over = over
idle_over phase (Open session) backoff now over = over

-- and then there is no connection
pub record Over (phase : Phase) (old new : Driver) : Type 0 where
  pub goes : Goes phase old new
  pub over : IsOver goes.last

pub ends_go : (now : ℕ) (why : Ending) (phase : Phase) (old new : Driver) → StandsAs phase old.link.stage → AllGood Calm old.clients → Ends now why old new → Over phase old new
ends_go now why phase old new stands good e =
    let said = ending_leads phase old.link.stage why stands in
    let closed = closed_leads old.monitors (node_of old.link.stage) e.lost said.last said.over said.own in
    let orders = closed_orders (closed_of old.monitors (node_of old.link.stage) e.lost) in
    record {
      goes = record {
        last = closed.last;
        told = ending old.link.stage why ++ orders;
        orders = e.orders;
        leads = leads_both phase said.last closed.last (ending old.link.stage why) orders said.leads closed.leads;
        stands =
            subst (λ (stage : Stage). StandsAs closed.last stage) (sym e.stage)
            (idle_over closed.last old.link.stage old.link.backoff now closed.over);
        good = subst (λ (clients : Clients). AllGood Calm clients) (sym (ap (λ (driver : Driver). driver.clients) e.rest)) good;
      };
      over = closed.over;
    }

-- a connection is closed, and then it is gone
leaves_go : (now : ℕ) (why : Ending) (phase : Phase) (old new : Driver) → StandsAs phase old.link.stage → AllGood Calm old.clients → Leaves now why old new → Goes phase old new
leaves_go now why phase old new stands good l =
    let first =
    adds_goes phase old l.closed stands good (ap (λ (driver : Driver). driver.link.stage) l.rest) (ap (λ (driver : Driver). driver.clients) l.rest)
    (one_adds Calm order.Disconnect old.orders l.closed.orders l.orders tt)
    in
    goes_both phase old l.closed new first (ends_go now why first.last l.closed new first.stands first.good l.ends).goes

pub leaves_if : (leaves : Bool) (now : ℕ) (why : Ending) (phase : Phase) (old new : Driver) → StandsAs phase old.link.stage → AllGood Calm old.clients → LeavesIf leaves now why old new → Goes phase old new
leaves_if false now why phase old new stands good same = same_goes phase old new stands good same
leaves_if true now why phase old new stands good l = leaves_go now why phase old new stands good l

-- A session whose node no longer leads: the server is told, and is to close the connection.

lingers : (phase : Phase) (stage : Stage) → IsOver phase → StandsAs phase stage → StandsAs phase (lingering stage)
lingers phase (Idle since wait) over is = is
lingers phase (Closing since wait) over is = is
lingers phase (Connecting node) over is = is
lingers phase (Open session) over is = is

quits_go : (now : ℕ) (phase : Phase) (old new : Driver) → StandsAs phase old.link.stage → AllGood Calm old.clients → Quits now old new → Goes phase old new
quits_go now phase old new stands good q =
    let first =
    adds_goes phase old q.said stands good (ap (λ (driver : Driver). driver.link.stage) q.says.rest) (ap (λ (driver : Driver). driver.clients) q.says.rest)
    (one_adds Calm (order.Send q.says.bytes) old.orders q.said.orders q.says.orders tt)
    in
    let ends = ends_go now reason.LedNoMore first.last q.said q.ended first.stands first.good q.ends in
    let last : Goes first.last q.said new = record {
      last = ends.goes.last;
      told = ends.goes.told;
      orders = ap (λ (driver : Driver). driver.orders) q.rest ∙ ends.goes.orders;
      leads = ends.goes.leads;
      stands =
          subst (λ (stage : Stage). StandsAs ends.goes.last stage) (sym (ap (λ (driver : Driver). driver.link.stage) q.rest))
          (lingers ends.goes.last q.ended.link.stage ends.over ends.goes.stands);
      good = subst (λ (clients : Clients). AllGood Calm clients) (sym (ap (λ (driver : Driver). driver.clients) q.rest)) ends.goes.good;
    } in
    goes_both phase old q.said new first last

quits_if : (up : Bool) (now : ℕ) (phase : Phase) (old new : Driver) → StandsAs phase old.link.stage → AllGood Calm old.clients → QuitsIf up now old new → Goes phase old new
quits_if false now phase old new stands good l = leaves_go now reason.LedNoMore phase old new stands good l
quits_if true now phase old new stands good q = quits_go now phase old new stands good q

pub older_goes : (older : Bool) (now : ℕ) (phase : Phase) (old new : Driver) → StandsAs phase old.link.stage → AllGood Calm old.clients → LeavesOlder older now old new → Goes phase old new
older_goes false now phase old new stands good same = same_goes phase old new stands good same
older_goes true now phase old new stands good q = quits_if (is_open old.link.stage) now phase old new stands good q

-- The server is connected to.

over_asked : (phase : Phase) → IsOver phase → asked_behind phase ≡ Some Asked
over_asked Gone over = refl
over_asked Asked over = absurd over
over_asked (Given own) over = absurd over
over_asked (Ended own) over = refl

tried_over : (now : ℕ) (phase : Phase) (stage : Stage) → may_connect stage now ≡ true → StandsAs phase stage → IsOver phase
tried_over now phase (Idle since wait) is stands = stands
tried_over now phase (Closing since wait) is stands = absurd (cc is)
tried_over now phase (Connecting node) is stands = absurd (cc is)
tried_over now phase (Open session) is stands = absurd (cc is)

pub connects_by : (now node : ℕ) (phase : Phase) (may : Bool) (old new : Driver) → may_connect old.link.stage now ≡ may → StandsAs phase old.link.stage → AllGood Calm old.clients → new.orders ≡ ordered old.orders (if may then order.Connect ∷ [] else []) → new.link.stage ≡ (if may then Connecting node else old.link.stage) → new.clients ≡ old.clients → Goes phase old new
unfolding AllAre
connects_by now node phase true old new is stands good orders stage clients =
    one_goes phase Asked order.Connect old new (over_asked phase (tried_over now phase old.link.stage is stands)) orders clients
    (subst (λ (stage : Stage). StandsAs Asked stage) (sym stage) refl) good
connects_by now node phase false old new is stands good orders stage clients =
    adds_goes phase old new stands good stage clients (record { told = []; orders = orders; all = tt })
