-- What the end of a session does to the connection to the server.
use Rattle.std.proofs.Common.{◌≡◌, ◌∙◌, ◌++◌, ℕ, ◌-◌, Bool, true, false, List, [], ◌∷◌, Option, Some, None, refl, sym, ap, subst}
use Rattle.std.specs.Prelude.{if◌then◌else◌, nat_le}
use Rattle.irc_line.specs.Names.{same_bytes}
use Rattle.driver.specs.declared.backoff.Backoff.{Backoff}
use Rattle.driver.specs.declared.clients.Clients.{Clients}
use Rattle.driver.specs.declared.driver.Driver.{Driver}
use Rattle.driver.specs.declared.link.Link.{Link}
use Rattle.driver.specs.declared.link.Stage.{Stage}
use Rattle.driver.specs.declared.link.Stage.TheVariants.{Closing, Connecting, Idle, Open}
use Rattle.driver.specs.declared.news.Ending.{Ending}
use Rattle.driver.specs.declared.news.Ending.TheVariants as reason
use Rattle.driver.specs.declared.order.Order.TheVariants as order
use Rattle.driver.specs.Driving.{Ends, Leaves, LeavesIf, LeavesOlder, Quits, QuitsIf, closed_of, closed_orders, quit_line}
use Rattle.driver.specs.Leading.{is_older}
use Rattle.driver.specs.Links.{ending, end_of, idle_behind, is_open, lingering, node_of, waiting_behind}
use Rattle.driver.specs.Outgoing.{Waiting, nothing_waits}
use Rattle.driver.specs.Servers.{is_silent}
use Rattle.driver.specs.Quitting.{Connection, Gone, Leads, Over, Told, Used, behind, closed_behind, kept, said_behind}
use Rattle.driver.proofs.Growing.{AllGood}
use Rattle.driver.proofs.Heard.{then_orders}
use Rattle.driver.proofs.Quitting.{Fits, Goes, Inner, IsUsed, StandsAs, leads_both, same_goes}

-- The end of a session.

gone_ended : (now : ℕ) (cause : Ending) (node : ℕ) (given : Bool) → behind now (order.Log (end_of given node cause)) Gone ≡ Some Gone
gone_ended now reason.Refused node true = refl
gone_ended now reason.Refused node false = refl
gone_ended now reason.Unreachable node true = refl
gone_ended now reason.Unreachable node false = refl
gone_ended now reason.ByServer node true = refl
gone_ended now reason.ByServer node false = refl
gone_ended now reason.Lost node true = refl
gone_ended now reason.Lost node false = refl
gone_ended now reason.Silent node true = refl
gone_ended now reason.Silent node false = refl
gone_ended now reason.LedNoMore node true = refl
gone_ended now reason.LedNoMore node false = refl

gone_ending : (now : ℕ) (stage : Stage) (cause : Ending) → Leads now Gone (ending stage cause) Gone
unfolding Leads
gone_ending now (Idle since wait) cause = refl
gone_ending now (Closing since wait) cause = refl
gone_ending now (Connecting node) cause = (Gone, gone_ended now cause node false, refl)
gone_ending now (Open session) cause = (Gone, gone_ended now cause session.node session.is_opened, refl)

-- the node, if there is one, that is told that the session closed
told_closed : (now : ℕ) (c : Connection) (node : Option ℕ) → kept c ≡ c → Leads now c (closed_orders node) c
unfolding Leads
told_closed now c None same = refl
told_closed now c (Some node) same = (c, ap Some same, refl)

idle_gone : (stage : Stage) (backoff : Backoff) (now : ℕ) → StandsAs Gone (idle_behind stage backoff now)
idle_gone (Idle since wait) backoff now = refl
idle_gone (Closing since wait) backoff now = refl
idle_gone (Connecting node) backoff now = refl
idle_gone (Open session) backoff now = refl

waits_none : (stage : Stage) (waiting : Waiting) → (is_open stage ≡ false → waiting ≡ nothing_waits) → waiting_behind stage waiting ≡ nothing_waits
waits_none (Idle since wait) waiting empty = empty refl
waits_none (Closing since wait) waiting empty = empty refl
waits_none (Connecting node) waiting empty = refl
waits_none (Open session) waiting empty = refl

pub ends_go : (moment now : ℕ) (cause : Ending) (old new : Driver) → (is_open old.link.stage ≡ false → old.link.waiting ≡ nothing_waits) → AllGood Inner old.clients → Ends now cause old new → Goes moment Gone old new
ends_go moment now cause old new empty good e =
    let node = closed_of old.monitors (node_of old.link.stage) e.lost in
    record {
      last = Gone;
      told = ending old.link.stage cause ++ closed_orders node;
      orders = e.orders;
      leads = leads_both moment Gone Gone Gone (ending old.link.stage cause) (closed_orders node) (gone_ending moment old.link.stage cause) (told_closed moment Gone node refl);
      fits = record {
        stands = subst (λ (stage : Stage). StandsAs Gone stage) (sym e.stage) (idle_gone old.link.stage old.link.backoff now);
        empty = λ _. e.waiting ∙ waits_none old.link.stage old.link.waiting empty;
      };
      good = subst (λ (clients : Clients). AllGood Inner clients) (sym (ap (λ (driver : Driver). driver.clients) e.rest)) good;
    }

-- a connection is closed, and then it is gone
leaves_go : (now : ℕ) (c : Connection) (cause : Ending) (old new : Driver) → closed_behind now c ≡ Some Gone → Fits c old.link → AllGood Inner old.clients → Leaves now cause old new → Goes now c old new
unfolding Leads
leaves_go now c cause old new may fits good l =
    let link = ap (λ (driver : Driver). driver.link) l.rest in
    let empty = subst (λ (link : Link). is_open link.stage ≡ false → link.waiting ≡ nothing_waits) (sym link) fits.empty in
    let clients = subst (λ (clients : Clients). AllGood Inner clients) (sym (ap (λ (driver : Driver). driver.clients) l.rest)) good in
    let e = ends_go now now cause l.closed new empty clients l.ends in
    record {
      last = e.last;
      told = order.Disconnect ∷ e.told;
      orders = then_orders old.orders l.closed.orders new.orders (order.Disconnect ∷ []) e.told l.orders e.orders;
      leads = (Gone, may, e.leads);
      fits = e.fits;
      good = e.good;
    }

used_closed : (now : ℕ) (c : Connection) → IsUsed c → closed_behind now c ≡ Some Gone
used_closed now Gone is = absurd is
used_closed now Used is = refl
used_closed now Told is = refl
used_closed now (Over since) is = absurd is

waited_closed : (b : Bool) → b ≡ true → (if b then Some Gone else None) ≡ Some Gone
waited_closed true is = refl
waited_closed false is = absurd (cc is)

-- one that is silent, or that the server had its time to close, may be closed
silent_closed : (now : ℕ) (c : Connection) (stage : Stage) → StandsAs c stage → is_silent stage now ≡ true → closed_behind now c ≡ Some Gone
silent_closed now c (Idle since wait) stands is = absurd (cc is)
silent_closed now c (Closing since wait) stands is = ap (closed_behind now) stands ∙ waited_closed (nat_le 1000 (now - since.since)) is
silent_closed now c (Connecting node) stands is = absurd (cc is)
silent_closed now c (Open session) stands is = used_closed now c stands

silent_by : (now : ℕ) (c : Connection) (silent : Bool) (cause : Ending) (stage : Stage) (old new : Driver) → is_silent stage now ≡ silent → StandsAs c stage → Fits c old.link → AllGood Inner old.clients → LeavesIf silent now cause old new → Goes now c old new
silent_by now c false cause stage old new is stands fits good same = same_goes now c old new fits good same
silent_by now c true cause stage old new is stands fits good l = leaves_go now c cause old new (silent_closed now c stage stands is) fits good l

pub silent_goes : (now : ℕ) (c : Connection) (cause : Ending) (old new : Driver) → Fits c old.link → AllGood Inner old.clients → LeavesIf (is_silent old.link.stage now) now cause old new → Goes now c old new
silent_goes now c cause old new fits good l = silent_by now c (is_silent old.link.stage now) cause old.link.stage old new refl fits.stands fits good l

-- A session whose node no longer leads.

pub used_open : (c : Connection) (stage : Stage) → is_open stage ≡ true → StandsAs c stage → IsUsed c
used_open c (Idle since wait) is stands = absurd (cc is)
used_open c (Closing since wait) is stands = absurd (cc is)
used_open c (Connecting node) is stands = absurd (cc is)
used_open c (Open session) is stands = stands

pub open_used : (c : Connection) (stage : Stage) → is_open stage ≡ true → IsUsed c → StandsAs c stage
open_used c (Idle since wait) is used = absurd (cc is)
open_used c (Closing since wait) is used = absurd (cc is)
open_used c (Connecting node) is used = used
open_used c (Open session) is used = used

-- the server is told
quit_said : (c : Connection) (bytes : List ℕ) → IsUsed c → bytes ≡ quit_line → said_behind (same_bytes bytes quit_line) c ≡ Some Told
quit_said Gone bytes used is = absurd used
quit_said Used bytes used is = ap (λ (bytes : List ℕ). said_behind (same_bytes bytes quit_line) Used) is
quit_said Told bytes used is = ap (λ (bytes : List ℕ). said_behind (same_bytes bytes quit_line) Told) is
quit_said (Over since) bytes used is = absurd used

-- and then it is logged
told_over : (now node : ℕ) (given : Bool) → behind now (order.Log (end_of given node reason.LedNoMore)) Told ≡ Some (Over now)
told_over now node true = refl
told_over now node false = refl

over_ending : (now : ℕ) (stage : Stage) → is_open stage ≡ true → Leads now Told (ending stage reason.LedNoMore) (Over now)
unfolding Leads
over_ending now (Idle since wait) is = absurd (cc is)
over_ending now (Closing since wait) is = absurd (cc is)
over_ending now (Connecting node) is = absurd (cc is)
over_ending now (Open session) is = (Over now, told_over now session.node session.is_opened, refl)

lingers_over : (stage : Stage) (backoff : Backoff) (now : ℕ) → is_open stage ≡ true → StandsAs (Over now) (lingering (idle_behind stage backoff now))
lingers_over (Idle since wait) backoff now is = absurd (cc is)
lingers_over (Closing since wait) backoff now is = absurd (cc is)
lingers_over (Connecting node) backoff now is = absurd (cc is)
lingers_over (Open session) backoff now is = refl

quits_go : (now : ℕ) (c : Connection) (old new : Driver) → is_open old.link.stage ≡ true → Fits c old.link → AllGood Inner old.clients → Quits now old new → Goes now c old new
unfolding Leads
quits_go now c old new up fits good q =
    let stage = q.said.link.stage in
    let same : q.said.link ≡ old.link = ap (λ (driver : Driver). driver.link) q.says.rest in
    let is : is_open stage ≡ true = ap (λ (link : Link). is_open link.stage) same ∙ up in
    let empty = subst (λ (link : Link). is_open link.stage ≡ false → link.waiting ≡ nothing_waits) (sym same) fits.empty in
    let node = closed_of q.said.monitors (node_of stage) q.ends.lost in
    let rest = ending stage reason.LedNoMore ++ closed_orders node in
    let clients =
    ap (λ (driver : Driver). driver.clients) q.rest ∙ ap (λ (driver : Driver). driver.clients) q.ends.rest ∙ ap (λ (driver : Driver). driver.clients) q.says.rest
    in
    record {
      last = Over now;
      told = order.Send q.says.bytes ∷ rest;
      orders =
          then_orders old.orders q.said.orders new.orders (order.Send q.says.bytes ∷ []) rest q.says.orders
          (ap (λ (driver : Driver). driver.orders) q.rest ∙ q.ends.orders);
      leads = (
        Told,
        quit_said c q.says.bytes.items (used_open c old.link.stage up fits.stands) q.says.are,
        leads_both now Told (Over now) (Over now) (ending stage reason.LedNoMore) (closed_orders node) (over_ending now stage is) (told_closed now (Over now) node refl),
      );
      fits = record {
        stands =
            subst (λ (stage : Stage). StandsAs (Over now) stage)
            (sym (ap (λ (driver : Driver). driver.link.stage) q.rest ∙ ap lingering q.ends.stage))
            (lingers_over stage q.said.link.backoff now is);
        empty = λ _. ap (λ (driver : Driver). driver.link.waiting) q.rest ∙ q.ends.waiting ∙ waits_none stage q.said.link.waiting empty;
      };
      good = subst (λ (clients : Clients). AllGood Inner clients) (sym clients) good;
    }

quits_by : (now : ℕ) (c : Connection) (up : Bool) (old new : Driver) → is_open old.link.stage ≡ up → IsUsed c → Fits c old.link → AllGood Inner old.clients → QuitsIf up now old new → Goes now c old new
quits_by now c false old new is used fits good l = leaves_go now c reason.LedNoMore old new (used_closed now c used) fits good l
quits_by now c true old new is used fits good q = quits_go now c old new is fits good q

-- a connection of an older leader is in use
older_used : (c : Connection) (stage : Stage) (leader : Option ℕ) → is_older (node_of stage) leader ≡ true → StandsAs c stage → IsUsed c
older_used c (Idle since wait) leader is stands = absurd (cc is)
older_used c (Closing since wait) leader is stands = absurd (cc is)
older_used c (Connecting node) leader is stands = stands
older_used c (Open session) leader is stands = stands

pub older_goes : (now : ℕ) (c : Connection) (older : Bool) (leader : Option ℕ) (old new : Driver) → is_older (node_of old.link.stage) leader ≡ older → Fits c old.link → AllGood Inner old.clients → LeavesOlder older now old new → Goes now c old new
older_goes now c false leader old new is fits good same = same_goes now c old new fits good same
older_goes now c true leader old new is fits good q =
    quits_by now c (is_open old.link.stage) old new refl (older_used c old.link.stage leader is fits.stands) fits good q
