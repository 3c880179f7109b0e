-- What each call does to the connection to the server: over all calls sessions end first.
use Rattle.std.proofs.Common.{◌≡◌, ◌∙◌, ℕ, Bool, true, false, List, [], ◌∷◌, Option, Some, None, refl, sym, ap, subst}
use Rattle.std.specs.Prelude.{if◌then◌else◌, nat_eq}
use Rattle.std.specs.BTreeMap.{keys}
use Rattle.std.specs.Global.{Vec}
use Rattle.irc_line.specs.Lines.{Parts}
use Rattle.wire_bytes.specs.declared.moment.Moment.{Moment}
use Rattle.buffer_commands.specs.declared.wire_line.WireLine.{WireLine}
use Rattle.bouncer_tower.specs.Bodies.{TowerBody}
use Rattle.node_notes.specs.declared.note.Note.{Note}
use Rattle.node_notes.specs.declared.note.Note.TheVariants as note
use Rattle.driver.specs.Absent.{Absences, reason_number}
use Rattle.driver.specs.Nicks.{nick_in}
use Rattle.driver.specs.Sessions.{absent_news}
use Rattle.driver.specs.Guarding.{untold}
use Rattle.driver.specs.declared.clients.Clients.{Clients}
use Rattle.driver.specs.declared.driver.Driver.{Driver}
use Rattle.driver.specs.declared.link.Link.{Link}
use Rattle.driver.specs.declared.link.Stage.{Stage}
use Rattle.driver.specs.declared.link.Stage.TheVariants.{Closing, Connecting, Idle, Open}
use Rattle.driver.specs.declared.order.Order.{Order}
use Rattle.driver.specs.declared.order.Order.TheVariants as order
use Rattle.driver.specs.declared.settings.Settings.{Settings}
use Rattle.driver.specs.Links.{node_of, Connects, Receives, is_fresh, is_open, is_session_of, opened as opened_stage, send_some}
use Rattle.driver.specs.Writing.{handed}
use Rattle.driver.specs.Dropping.{with_handed}
use Rattle.driver.specs.Calls.{Call, Does, DoesAll, IsTold, Step, Connect, Connected, Dismiss, End, Hand, Hear, Lose, Notice, Receive, ReceiveLine, Refuse, Take, Tick, Watch, WatchNodes, WatchPasswords}
use Rattle.driver.specs.Driving.{told_of}
use Rattle.driver.specs.Filling.{is_left_out}
use Rattle.driver.specs.Quitting.{AllLead, Connection, Gone, Leads, SessionsEndFirst, met_by, moment_of}
use Rattle.driver.specs.Rosters.{client_at}
use Rattle.driver.specs.Sessions.{TakesIf, TellsAllOf, TellsIf, link_behind, opened_of, opened_with}
use Rattle.driver.specs.Outgoing.{with_opening}
use Rattle.driver.specs.Telling.{ordered}
use Rattle.driver.proofs.Adding.{adds_grow, all_written_add, nothing_adds, one_adds, written_adds}
use Rattle.driver.proofs.Calling.{renames_by}
use Rattle.driver.proofs.ClientCalls.{more_adds}
use Rattle.driver.proofs.Growing.{AllAre, AllGood, Good, dismisses_grow, none_some}
use Rattle.driver.proofs.Inside.{connect_goes, given_goes, loses_go, speaks_go, watch_goes, watches_go}
use Rattle.driver.proofs.Parted.{ends_go}
use Rattle.driver.proofs.Quitting.{Fits, Goes, Inner, IsUsed, StandsAs, adds_goes, goes_both, inner_goes, moved_goes, same_fits, same_goes}
use Rattle.driver.proofs.Reported.{handed_fits, hears_go, open_fits}
use Rattle.driver.proofs.Used.{says_go}
use Rattle.driver.proofs.Waiting.{items_same}
use Rattle.driver.proofs.Lapsing.{stage_link, ticks_go}

-- The connection to the server is made, or brings bytes.

quiet_stage : (c : Connection) (stage : Stage) (old new : Driver) → old.link.stage ≡ stage → Fits c old.link → AllGood Inner old.clients → new.link.stage ≡ stage → new.link ≡ record old.link { stage = new.link.stage } → new.clients ≡ old.clients → new.orders ≡ old.orders → Goes 0 c old new
quiet_stage c stage old new is fits good same link clients none =
    adds_goes 0 c old new fits good (stage_link stage old new is same link) clients (nothing_adds Inner old.orders new.orders none)

stands_go : (now : ℕ) (c : Connection) (stage : Stage) (settings : Settings) (old new : Driver) → old.link.stage ≡ stage → Fits c old.link → AllGood Inner old.clients → new.link ≡ record old.link { stage = new.link.stage } → new.clients ≡ old.clients → Connects stage settings now old.orders new.link.stage new.orders → Goes 0 c old new
stands_go now c (Idle since wait) settings old new is fits good link clients (same, none) = quiet_stage c (Idle since wait) old new is fits good same link clients none
stands_go now c (Closing since wait) settings old new is fits good link clients (same, none) = quiet_stage c (Closing since wait) old new is fits good same link clients none
stands_go now c (Open session) settings old new is fits good link clients (same, none) = quiet_stage c (Open session) old new is fits good same link clients none
stands_go now c (Connecting node) settings old new is fits good link clients (session, begun, opened) =
    says_go 0 c begun.first old new (subst (λ (stage : Stage). StandsAs c stage) is fits.stands) (ap is_open opened) begun.orders clients good

sent_go : (c : Connection) (reply : Vec ℕ) (items : List ℕ) (old new : Driver) → IsUsed c → is_open new.link.stage ≡ true → StandsAs c new.link.stage → AllGood Inner old.clients → new.clients ≡ old.clients → new.orders ≡ ordered old.orders (send_some reply items) → Goes 0 c old new
unfolding AllAre Leads
sent_go c reply [] old new used up stands good clients orders = record {
  last = c;
  told = [];
  orders = orders;
  leads = refl;
  fits = open_fits c new.link new.link up stands;
  good = subst (λ (clients : Clients). AllGood Inner clients) (sym clients) good;
}
sent_go c reply (byte ∷ more) old new used up stands good clients orders = says_go 0 c reply old new used up orders clients good

received_go : (now : ℕ) (at : Moment) (bytes : List ℕ) (c : Connection) (stage : Stage) (notes : List (Note TowerBody WireLine)) (old new : Driver) → old.link.stage ≡ stage → Fits c old.link → AllGood Inner old.clients → new.link ≡ record old.link { stage = new.link.stage } → new.clients ≡ old.clients → Receives stage now at bytes old.orders new.link.stage notes new.orders → Goes 0 c old new
received_go now at bytes c (Idle since wait) notes old new is fits good link clients (same, none, quiet) = quiet_stage c (Idle since wait) old new is fits good same link clients quiet
received_go now at bytes c (Closing since wait) notes old new is fits good link clients (same, none, quiet) = quiet_stage c (Closing since wait) old new is fits good same link clients quiet
received_go now at bytes c (Connecting node) notes old new is fits good link clients (same, none, quiet) = quiet_stage c (Connecting node) old new is fits good same link clients quiet
received_go now at bytes c (Open session) notes old new is fits good link clients (behind, h, opened) =
    let used : IsUsed c = subst (λ (stage : Stage). StandsAs c stage) is fits.stands in
    sent_go c h.reply h.reply.items old new used (ap is_open opened) (subst (λ (stage : Stage). StandsAs c stage) (sym opened) used) good clients h.orders

opened_stands : (c : Connection) (stage : Stage) → StandsAs c stage → StandsAs c (opened_stage stage)
opened_stands c (Idle since wait) stands = stands
opened_stands c (Closing since wait) stands = stands
opened_stands c (Connecting node) stands = stands
opened_stands c (Open session) stands = stands

opened_is : (stage : Stage) → is_open (opened_stage stage) ≡ is_open stage
opened_is (Idle since wait) = refl
opened_is (Closing since wait) = refl
opened_is (Connecting node) = refl
opened_is (Open session) = refl

opened_fresh : (stage : Stage) → is_open stage ≡ false → is_fresh stage ≡ false
opened_fresh (Idle since wait) closed = refl
opened_fresh (Closing since wait) closed = refl
opened_fresh (Connecting node) closed = refl
opened_fresh (Open session) closed = absurd (cc closed)

opened_fits : (c : Connection) (lines : List Parts) (link : Link) → Fits c link → Fits c (opened_with lines link)
opened_fits c lines link fits = record {
  stands = opened_stands c link.stage fits.stands;
  empty = λ closed.
      let was : is_open link.stage ≡ false = sym (opened_is link.stage) ∙ closed in
      ap (λ (fresh : Bool). if fresh then with_opening lines link.waiting else link.waiting) (opened_fresh link.stage was) ∙ fits.empty was;
}

behind_fits : (c : Connection) (lines : List Parts) (nick : List ℕ) (came : Note TowerBody WireLine) (link : Link) → Fits c link → Fits c (link_behind lines nick came link)
behind_fits c lines nick note.Opened link fits = opened_fits c lines link fits
behind_fits c lines nick (note.Heard at line) link fits = record { stands = fits.stands; empty = fits.empty }
behind_fits c lines nick (note.Timeout contacts) link fits = fits
behind_fits c lines nick note.Beat link fits = fits
behind_fits c lines nick (note.Ask body) link fits = fits
behind_fits c lines nick note.Closed link fits = fits
behind_fits c lines nick note.Claim link fits = fits
behind_fits c lines nick note.Wake link fits = fits
behind_fits c lines nick note.Restart link fits = fits
behind_fits c lines nick note.End link fits = fits

absent_inner : (node : ℕ) (number : Option ℕ) → AllAre Inner (absent_news node number)
unfolding AllAre
absent_inner node None = tt
absent_inner node (Some number) = (tt, tt)

opened_inner : (node : ℕ) (nick : List ℕ) (absent : Absences) (came : Note TowerBody WireLine) → AllAre Inner (opened_of node nick absent came)
unfolding AllAre
opened_inner node nick absent note.Opened = (tt, tt)
opened_inner node nick absent (note.Heard at line) = absent_inner node (reason_number nick line absent)
opened_inner node nick absent (note.Timeout contacts) = tt
opened_inner node nick absent note.Beat = tt
opened_inner node nick absent (note.Ask body) = tt
opened_inner node nick absent note.Closed = tt
opened_inner node nick absent note.Claim = tt
opened_inner node nick absent note.Wake = tt
opened_inner node nick absent note.Restart = tt
opened_inner node nick absent note.End = tt

tells_go : (c : Connection) (out : Bool) (node : ℕ) (came : Note TowerBody WireLine) (old new : Driver) → Fits c old.link → AllGood Inner old.clients → TellsIf out node came old new → Goes 0 c old new
tells_go c true node came old new fits good same = same_goes 0 c old new fits good same
tells_go c false node came old new fits good t =
    let named =
    adds_goes 0 c old t.named fits good (ap (λ (driver : Driver). driver.link) t.nick.rest) (ap (λ (driver : Driver). driver.clients) t.nick.rest)
    (renames_by Inner came old t.named.orders good t.nick.renames)
    in
    let lines = t.named.settings.on_connect.items in
    let link = ap (λ (driver : Driver). driver.link) t.opens.rest in
    let opened =
    moved_goes 0 named.last t.named t.opened named.fits
    (λ d is. same_fits d (link_behind lines (nick_in t.named) came t.named.link) t.opened.link link (behind_fits d lines (nick_in t.named) came t.named.link is))
    (adds_grow Inner (told_of t.named) (told_of t.opened) named.good (ap (λ (driver : Driver). driver.clients) t.opens.rest)
    (record { told = opened_of node (nick_in t.named) t.named.link.absent came; orders = t.opens.orders; all = opened_inner node (nick_in t.named) t.named.link.absent came }))
    in
    let both = goes_both 0 c old t.named t.opened named opened in
    goes_both 0 c old t.opened new both
    (adds_goes 0 both.last t.opened new both.fits both.good (ap (λ (driver : Driver). driver.link) t.rest) (ap (λ (driver : Driver). driver.clients) t.rest)
    (one_adds Inner (order.Submit node came) t.opened.orders new.orders t.orders tt))

tells_all_go : (c : Connection) (node : ℕ) (notes : List (Note TowerBody WireLine)) (old new : Driver) → Fits c old.link → AllGood Inner old.clients → TellsAllOf node notes old new → Goes 0 c old new
unfolding TellsAllOf
tells_all_go c node [] old new fits good same = same_goes 0 c old new fits good same
tells_all_go c node (came ∷ more) old new fits good (mid, one, rest) =
    let first = tells_go c (is_left_out old.level came) node came old mid fits good one in
    goes_both 0 c old mid new first (tells_all_go first.last node more mid new first.fits first.good rest)

takes_go : (c : Connection) (node : Option ℕ) (now : ℕ) (at : Moment) (bytes : List ℕ) (old new : Driver) → Fits c old.link → AllGood Inner old.clients → TakesIf node now at bytes old new → Goes 0 c old new
takes_go c None now at bytes old new fits good same = same_goes 0 c old new fits good same
takes_go c (Some node) now at bytes old new fits good t =
    let first =
    received_go now at bytes c old.link.stage t.notes old t.taken refl fits good (ap (λ (driver : Driver). driver.link) t.rest) (ap (λ (driver : Driver). driver.clients) t.rest) t.receives
    in
    goes_both 0 c old t.taken new first (tells_all_go first.last node t.notes t.taken new first.fits first.good t.tells)

-- Each call.

-- what a call orders may be ordered, and leads to the state of the connection
record Behind (now : ℕ) (c : Connection) (told : List Order) (new : Driver) : Type 0 where
  next : Connection
  leads : Leads now c told next
  fits : Fits next new.link
  good : AllGood Inner new.clients

of_goes : (now : ℕ) (c : Connection) (told : List Order) (old new : Driver) → Goes now c old new → new.orders ≡ ordered old.orders told → Behind now c told new
of_goes now c told old new g is = record {
  next = g.last;
  leads = subst (λ (items : List Order). Leads now c items g.last) (items_same old.orders new.orders g.told told g.orders is) g.leads;
  fits = g.fits;
  good = g.good;
}

call_goes : (c : Connection) (call : Call) (told : List Order) (old new : Driver) → Fits c old.link → AllGood Inner old.clients → Does call old new → IsTold call told old.orders new.orders → Behind (moment_of call) (met_by call c) told new
unfolding Leads
call_goes c (Connect now node) told old new fits good (low, k) is = of_goes 0 c told old new (connect_goes now node c old new fits good k) is
call_goes c (Receive bytes now at number) told old new fits good s is =
    of_goes 0 c told old new (speaks_go bytes now at number (client_at old.clients number) c old new refl fits good s) is
call_goes c (Lose now at number) told old new fits good s is =
    of_goes 0 c told old new (loses_go now at number (client_at old.clients number) c old new refl fits good s) is
call_goes c (Hand node line) told old new fits good h is =
    of_goes 0 c told old new
    (moved_goes 0 c old new fits
    (λ d has. same_fits d (handed old.dropping node line old.link) new.link (ap (λ (driver : Driver). driver.link) h)
    (handed_fits d (is_session_of old.link.stage node) node (with_handed old.dropping line old.link.waiting) old.link refl has))
    (adds_grow Inner (told_of old) (told_of new) good (ap (λ (driver : Driver). driver.clients) h) (nothing_adds Inner old.orders new.orders (ap (λ (driver : Driver). driver.orders) h))))
    is
call_goes c (Hear now at node status effects progress refused) told old new fits good r is =
    of_goes now c told old new (hears_go now at node status effects progress refused c old new fits good r.hears) is
call_goes c (Tick now at) told old new fits good t is = of_goes now c told old new (ticks_go now at c old new fits good t) is
call_goes c (Connected now) told old new fits good s is =
    of_goes 0 c told old new (stands_go now c old.link.stage old.settings old new refl fits good s.link (ap (λ (driver : Driver). driver.clients) s.rest) s.stands) is
call_goes c (ReceiveLine now at bytes) told old new fits good t is =
    of_goes 0 c told old new (takes_go c (node_of old.link.stage) now at bytes old new fits good t) is
call_goes c (End now why) told old new fits good e is = of_goes 0 Gone told old new (ends_go 0 now why old new fits.empty good e) is
call_goes c (Notice text) told old new fits good o is =
    of_goes 0 c told old new (given_goes _ c old new fits good o (all_written_add Inner (keys old.clients.all) old.clients _ old.orders new.orders good o.given)) is
call_goes c (Dismiss now at) told old new fits good d is =
    of_goes 0 c told old new
    (inner_goes 0 c old new fits (ap (λ (driver : Driver). driver.link) d.rest) (dismisses_grow Inner at now (keys old.clients.all) (told_of old) (told_of new) good d.clients))
    is
call_goes c Watch told old new fits good w is = of_goes 0 c told old new (watch_goes w.leader c old new fits good w.watches) is
call_goes c (WatchNodes now) told old new fits good w is = of_goes 0 c told old new (watches_go now c old new fits good w) is
call_goes c (WatchPasswords now) told old new fits good w is =
    of_goes 0 c told old new
    (adds_goes 0 c old new fits good (ap (λ (driver : Driver). driver.link) w.rest) (ap (λ (driver : Driver). driver.clients) w.rest)
    (more_adds Inner (nat_eq (untold now old.guard) 0) (untold now old.guard) old.orders new.orders tt w.orders))
    is
call_goes c (Refuse number) told old new fits good o is =
    of_goes 0 c told old new
    (given_goes _ c old new fits good o (written_adds Inner old.clients number (client_at old.clients number) _ old.orders new.orders refl good o.given))
    is
call_goes c Take told old new fits good o is = record {
  next = c;
  leads = subst (λ (items : List Order). Leads 0 c items c) (sym is) refl;
  fits = same_fits c old.link new.link (ap (λ (driver : Driver). driver.link) o.rest) fits;
  good = subst (λ (clients : Clients). AllGood Inner clients) (sym (ap (λ (driver : Driver). driver.clients) o.rest)) good;
}

steps_lead : (c : Connection) (steps : List Step) (old new : Driver) → Fits c old.link → AllGood Inner old.clients → DoesAll steps old new → AllLead c steps
unfolding DoesAll AllLead
steps_lead c [] old new fits good same = tt
steps_lead c (step ∷ more) old new fits good (mid, does, rest) =
    let b = call_goes c step.call step.told old mid fits good does.does does.told in
    (b.next, b.leads, steps_lead b.next more mid new b.fits b.good rest)

pub sessions_end : SessionsEndFirst
sessions_end steps driver led =
    let new = led.is_new in
    steps_lead Gone steps led.first driver
    (record { stands = subst (λ (stage : Stage). StandsAs Gone stage) (sym new.stage) refl; empty = λ _. new.waiting })
    (λ number c found. none_some c (Good Inner c) (sym (new.clients number) ∙ found))
    led.calls
