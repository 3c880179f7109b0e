-- What the bytes of the server, and the notes that they give, do to the phase of a session.
use Rattle.std.proofs.Common.{◌≡◌, ◌∙◌, ◌++◌, ℕ, Bool, true, false, List, [], ◌∷◌, Option, Some, None, refl, sym, ap, subst}
use Rattle.std.specs.Prelude.{◌||◌, if◌then◌else◌, length, nat_eq, nat_lt}
use Rattle.std.specs.Global.{Vec}
use Rattle.std.proofs.lemmas.List.{append-nil}
use Rattle.std.proofs.lemmas.List.Folds.{list_any-append}
use Rattle.irc_line.specs.Limits.{line_limit}
use Rattle.irc_line.specs.Lines.{Parts, spelling}
use Rattle.bouncer_tower.specs.Bodies.{TowerBody}
use Rattle.buffer_commands.specs.declared.wire_line.WireLine.{WireLine}
use Rattle.node_notes.specs.declared.note.Note.{Note}
use Rattle.node_notes.specs.declared.note.Note.TheVariants as note
use Rattle.uplink.specs.declared.input.UplinkInput.{UplinkInput}
use Rattle.uplink.specs.declared.input.UplinkInput.TheVariants as input
use Rattle.uplink.specs.Calls.Call.{Fed}
use Rattle.uplink.specs.Calls.{is_end}
use Rattle.wire_bytes.specs.declared.moment.Moment.{Moment}
use Rattle.driver.specs.declared.clients.Clients.{Clients}
use Rattle.driver.specs.declared.driver.Driver.{Driver}
use Rattle.driver.specs.declared.link.Session.{Session}
use Rattle.driver.specs.declared.link.Stage.{Stage}
use Rattle.driver.specs.declared.link.Stage.TheVariants.{Closing, Connecting, Idle, Open}
use Rattle.driver.specs.declared.order.Order.{Order}
use Rattle.driver.specs.declared.order.Order.TheVariants as order
use Rattle.driver.specs.Absent.{Absences, reason_number}
use Rattle.driver.specs.Filling.{is_left_out}
use Rattle.driver.specs.Links.{HasReceived, Receives, is_answer, node_of, notes_of, opened as opened_stage, send_some}
use Rattle.driver.specs.Nicks.{nick_in}
use Rattle.driver.specs.Ordering.{Asked, Given, Leads, Phase, heard_behind, opened_behind}
use Rattle.driver.specs.Sessions.{TakesIf, TellsAllOf, TellsIf, TellsOf, opened_of}
use Rattle.driver.specs.Telling.{Ordered, ordered}
use Rattle.driver.proofs.Adding.{Adds, adds_both, nothing_adds}
use Rattle.driver.proofs.Calling.{renames_by}
use Rattle.driver.proofs.Claiming.{same_eq}
use Rattle.driver.proofs.Growing.{AllAre, AllGood}
use Rattle.driver.proofs.Heard.{then_orders}
use Rattle.driver.proofs.PhaseBytes.{absent_calm, has_session, heard_later, moved, never_closed, opens_first}
use Rattle.driver.proofs.Phases.{Calm, Goes, Has, StandsAs, adds_goes, calm_same, goes_both, kept_has, leads_both, phase_by, same_goes}

-- The node is told what its session's uplink gave.

same_some : (b : Bool) (phase : Phase) → b ≡ true → (if b then Some phase else None) ≡ Some phase
same_some true phase is = refl
same_some false phase is = absurd (cc is)

opened_calm : (node : ℕ) (nick : List ℕ) (absent : Absences) (came : Note TowerBody WireLine) → AllAre Calm (opened_of node nick absent came)
unfolding AllAre
opened_calm node nick absent note.Opened = (tt, tt)
opened_calm node nick absent (note.Heard at line) = absent_calm node (reason_number nick line absent)
opened_calm node nick absent (note.Timeout contacts) = tt
opened_calm node nick absent note.Beat = tt
opened_calm node nick absent (note.Ask body) = tt
opened_calm node nick absent note.Closed = tt
opened_calm node nick absent note.Claim = tt
opened_calm node nick absent note.Wake = tt
opened_calm node nick absent note.Restart = tt
opened_calm node nick absent note.End = tt

-- what comes before a note is of no session
before_note : (node : ℕ) (came : Note TowerBody WireLine) (old new : Driver) → AllGood Calm old.clients → (t : TellsOf node came old new) → Adds Calm old.orders t.opened.orders
before_note node came old new good t =
    adds_both Calm old.orders t.named.orders t.opened.orders
    (renames_by Calm came old t.named.orders good t.nick.renames)
    (record { told = opened_of node (nick_in t.named) t.named.link.absent came; orders = t.opens.orders; all = opened_calm node (nick_in t.named) t.named.link.absent came })

clients_same : (node : ℕ) (came : Note TowerBody WireLine) (old new : Driver) → (t : TellsOf node came old new) → new.clients ≡ old.clients
clients_same node came old new t =
    ap (λ (driver : Driver). driver.clients) t.rest ∙ ap (λ (driver : Driver). driver.clients) t.opens.rest ∙ ap (λ (driver : Driver). driver.clients) t.nick.rest

-- A part of what was given is told; this is left.
record Tells (left : List UplinkInput) (phase : Phase) (node : ℕ) (old new : Driver) : Type 0 where
  last : Phase
  told : List Order
  orders : new.orders ≡ ordered old.orders told
  leads : Leads phase told last
  session : Session
  stage : new.link.stage ≡ Open session
  node_is : session.node ≡ node
  has : Has left last session
  good : AllGood Calm new.clients

note_told : (left some : List UplinkInput) (phase next : Phase) (node : ℕ) (came : Note TowerBody WireLine) (session behind : Session) (old new : Driver) → Has some phase session → Has left next behind → AllGood Calm old.clients → (t : TellsOf node came old new) → new.link.stage ≡ Open behind → behind.node ≡ node → Leads phase (order.Submit node came ∷ []) next → Tells left phase node old new
note_told left some phase next node came session behind old new was has good t stage own leads =
    let before = before_note node came old new good t in
    record {
      last = next;
      told = before.told ++ order.Submit node came ∷ [];
      orders = then_orders old.orders t.opened.orders new.orders before.told (order.Submit node came ∷ []) before.orders t.orders;
      leads = leads_both phase phase next before.told (order.Submit node came ∷ []) (calm_same phase before.told (kept_has some phase session was) before.all) leads;
      session = behind;
      stage = stage;
      node_is = own;
      has = has;
      good = subst (λ (clients : Clients). AllGood Calm clients) (sym (clients_same node came old new t)) good;
    }

opening_told : (left : List UplinkInput) (phase : Phase) (node : ℕ) (session : Session) (old new : Driver) → old.link.stage ≡ Open session → session.node ≡ node → Has (input.Opened ∷ left) phase session → AllGood Calm old.clients → TellsOf node note.Opened old new → Tells left phase node old new
unfolding Leads
opening_told left phase node session old new is own has good t =
    let behind : Session = record session { is_opened = true } in
    let first : session.is_opened ≡ false = has.opened ∙ opens_first has.done left (has_session (input.Opened ∷ left) phase session has) in
    let asked : phase ≡ Asked = has.phase_is ∙ ap (λ (given : Bool). phase_by given session.node) first in
    let stage : new.link.stage ≡ Open behind =
    ap (λ (driver : Driver). driver.link.stage) t.rest
    ∙ ap (λ (driver : Driver). driver.link.stage) t.opens.rest
    ∙ ap (λ (driver : Driver). opened_stage driver.link.stage) t.nick.rest
    ∙ ap opened_stage is
    in
    note_told left (input.Opened ∷ left) phase (Given node) node note.Opened session behind old new has
    (moved input.Opened left phase (Given node) session behind has refl refl (ap Given (sym own)))
    good t stage own
    (Given node, ap (opened_behind node) asked, refl)

line_told : (left : List UplinkInput) (phase : Phase) (node : ℕ) (at : Moment) (line : Parts) (session : Session) (old new : Driver) → old.link.stage ≡ Open session → session.node ≡ node → Has (input.Heard line ∷ left) phase session → AllGood Calm old.clients → TellsOf node (note.Heard at line) old new → Tells left phase node old new
unfolding Leads
line_told left phase node at line session old new is own has good t =
    let later : session.is_opened ≡ true = has.opened ∙ heard_later has.done line left (has_session (input.Heard line ∷ left) phase session has) in
    let given : phase ≡ Given node = has.phase_is ∙ ap (λ (given : Bool). phase_by given session.node) later ∙ ap Given own in
    let stage : new.link.stage ≡ Open session =
    ap (λ (driver : Driver). driver.link.stage) t.rest
    ∙ ap (λ (driver : Driver). driver.link.stage) t.opens.rest
    ∙ ap (λ (driver : Driver). driver.link.stage) t.nick.rest
    ∙ is
    in
    note_told left (input.Heard line ∷ left) phase phase node (note.Heard at line) session session old new has
    (moved (input.Heard line) left phase phase session session has refl later has.phase_is)
    good t stage own
    (phase, ap (heard_behind node) given ∙ same_some (nat_eq node node) (Given node) (same_eq node) ∙ ap Some (sym given), refl)

-- if it is told, and is not left out
line_if : (out : Bool) (left : List UplinkInput) (phase : Phase) (node : ℕ) (at : Moment) (line : Parts) (session : Session) (old new : Driver) → old.link.stage ≡ Open session → session.node ≡ node → Has (input.Heard line ∷ left) phase session → AllGood Calm old.clients → TellsIf out node (note.Heard at line) old new → Tells left phase node old new
unfolding Leads
line_if false left phase node at line session old new is own has good t = line_told left phase node at line session old new is own has good t
line_if true left phase node at line session old new is own has good same =
    let later : session.is_opened ≡ true = has.opened ∙ heard_later has.done line left (has_session (input.Heard line ∷ left) phase session has) in
    let none = nothing_adds Calm old.orders new.orders (ap (λ (driver : Driver). driver.orders) same) in
    record {
      last = phase;
      told = none.told;
      orders = none.orders;
      leads = calm_same phase none.told (kept_has (input.Heard line ∷ left) phase session has) none.all;
      session = session;
      stage = ap (λ (driver : Driver). driver.link.stage) same ∙ is;
      node_is = own;
      has = moved (input.Heard line) left phase phase session session has refl later has.phase_is;
      good = subst (λ (clients : Clients). AllGood Calm clients) (sym (ap (λ (driver : Driver). driver.clients) same)) good;
    }

-- a part is told, and then the rest
tells_then : (left : List UplinkInput) (phase : Phase) (node : ℕ) (old mid new : Driver) → (first : Tells left phase node old mid) → Goes first.last mid new → Goes phase old new
tells_then left phase node old mid new first rest = record {
  last = rest.last;
  told = first.told ++ rest.told;
  orders = then_orders old.orders mid.orders new.orders first.told rest.told first.orders rest.orders;
  leads = leads_both phase first.last rest.last first.told rest.told first.leads rest.leads;
  stands = rest.stands;
  good = rest.good;
}

-- what is left is told
abbrev pub Left : Moment → ℕ → List UplinkInput → Driver → Type 0
Left at node left new =
    (phase : Phase) (session : Session) (old : Driver)
    → old.link.stage ≡ Open session → session.node ≡ node → Has left phase session → AllGood Calm old.clients
    → TellsAllOf node (notes_of at left) old new → Goes phase old new

line_cut : (answers long : Bool) (left : List UplinkInput) (phase : Phase) (node : ℕ) (at : Moment) (line : Parts) (session : Session) (old new : Driver) → Left at node left new → old.link.stage ≡ Open session → session.node ≡ node → Has (input.Heard line ∷ left) phase session → AllGood Calm old.clients → TellsAllOf node ((if answers then [] else (if long then [] else note.Heard at line ∷ [])) ++ notes_of at left) old new → Goes phase old new
unfolding TellsAllOf
line_cut true long left phase node at line session old new rest is own has good tells =
    let later : session.is_opened ≡ true = has.opened ∙ heard_later has.done line left (has_session (input.Heard line ∷ left) phase session has) in
    rest phase session old is own (moved (input.Heard line) left phase phase session session has refl later has.phase_is) good tells
line_cut false true left phase node at line session old new rest is own has good tells =
    let later : session.is_opened ≡ true = has.opened ∙ heard_later has.done line left (has_session (input.Heard line ∷ left) phase session has) in
    rest phase session old is own (moved (input.Heard line) left phase phase session session has refl later has.phase_is) good tells
line_cut false false left phase node at line session old new rest is own has good (mid, one, more) =
    let first = line_if (is_left_out old.level (note.Heard at line)) left phase node at line session old mid is own has good one in
    tells_then left phase node old mid new first (rest first.last first.session mid first.stage first.node_is first.has first.good more)

tells_go : (at : Moment) (node : ℕ) (left : List UplinkInput) (new : Driver) → Left at node left new
unfolding TellsAllOf notes_of
tells_go at node [] new phase session old is own has good same =
    same_goes phase old new (subst (λ (stage : Stage). StandsAs phase stage) (sym is) has) good same
tells_go at node (input.Opened ∷ left) new phase session old is own has good (mid, one, more) =
    let first = opening_told left phase node session old mid is own has good one in
    tells_then left phase node old mid new first (tells_go at node left new first.last first.session mid first.stage first.node_is first.has first.good more)
tells_go at node (input.Heard line ∷ left) new phase session old is own has good tells =
    line_cut (is_answer line) (nat_lt line_limit (length (spelling line))) left phase node at line session old new (tells_go at node left new) is own has good tells
tells_go at node (input.Closed ∷ left) new phase session old is own has good tells =
    absurd (never_closed has.done left (has_session (input.Closed ∷ left) phase session has))

-- Bytes of the server come.

sent_calm : (bytes : Vec ℕ) (some : List ℕ) → AllAre Calm (send_some bytes some)
unfolding AllAre
sent_calm bytes [] = tt
sent_calm bytes (byte ∷ more) = (tt, tt)

abbrev or_no : ℕ → Option ℕ → ℕ
or_no node None = node
or_no node (Some own) = own

received_has : (now : ℕ) (at : Moment) (bytes : List ℕ) (phase : Phase) (old new : Session) (notes : List (Note TowerBody WireLine)) (before after : Ordered) → Has [] phase old → (h : HasReceived now at bytes old before new notes after) → Has h.given phase new
received_has now at bytes phase old new notes before after has h = record {
  nick = has.nick;
  calls = has.calls ++ Fed bytes ∷ [];
  after = h.goes_on.after has.nick has.calls has.after;
  is_live = list_any-append is_end has.calls (Fed bytes ∷ []) ∙ ap (λ (ended : Bool). ended || false) has.is_live;
  done = has.done;
  all = ap (λ (done : List UplinkInput). done ++ h.given) (sym (append-nil has.done) ∙ has.all) ∙ h.goes_on.inputs has.nick has.calls has.after;
  opened = h.is_opened ∙ has.opened;
  phase_is =
      has.phase_is
      ∙ ap (λ (given : Bool). phase_by given old.node) (sym h.is_opened)
      ∙ ap (phase_by new.is_opened) (sym h.node_is);
}

none_go : (at : Moment) (node : ℕ) (phase : Phase) (stage : Stage) (notes : List (Note TowerBody WireLine)) (old taken new : Driver) → old.link.stage ≡ stage → StandsAs phase old.link.stage → AllGood Calm old.clients → taken.clients ≡ old.clients → taken.link.stage ≡ stage → notes ≡ [] → taken.orders ≡ old.orders → TellsAllOf node notes taken new → Goes phase old new
unfolding TellsAllOf
none_go at node phase stage notes old taken new is stands good clients same none quiet tells =
    let first = adds_goes phase old taken stands good (same ∙ sym is) clients (nothing_adds Calm old.orders taken.orders quiet) in
    let last : new ≡ taken = subst (λ (notes : List (Note TowerBody WireLine)). TellsAllOf node notes taken new) none tells in
    goes_both phase old taken new first (same_goes first.last taken new first.stands first.good last)

takes_by : (now : ℕ) (at : Moment) (bytes : List ℕ) (node : ℕ) (phase : Phase) (stage : Stage) (notes : List (Note TowerBody WireLine)) (old taken new : Driver) → old.link.stage ≡ stage → node_of stage ≡ Some node → StandsAs phase old.link.stage → AllGood Calm old.clients → taken.clients ≡ old.clients → Receives stage now at bytes old.orders taken.link.stage notes taken.orders → TellsAllOf node notes taken new → Goes phase old new
takes_by now at bytes node phase (Idle since wait) notes old taken new is own stands good clients (same, none, quiet) tells = none_go at node phase (Idle since wait) notes old taken new is stands good clients same none quiet tells
takes_by now at bytes node phase (Closing since wait) notes old taken new is own stands good clients (same, none, quiet) tells = none_go at node phase (Closing since wait) notes old taken new is stands good clients same none quiet tells
takes_by now at bytes node phase (Connecting other) notes old taken new is own stands good clients (same, none, quiet) tells = none_go at node phase (Connecting other) notes old taken new is stands good clients same none quiet tells
takes_by now at bytes node phase (Open session) notes old taken new is own stands good clients (behind, h, opened) tells =
    let has : Has [] phase session = subst (λ (stage : Stage). StandsAs phase stage) is stands in
    let node_is : behind.node ≡ node = h.node_is ∙ ap (or_no session.node) own in
    let all = subst (λ (notes : List (Note TowerBody WireLine)). TellsAllOf node notes taken new) h.are_notes tells in
    let rest =
    tells_go at node h.given new phase behind taken opened node_is (received_has now at bytes phase session behind notes old.orders taken.orders has h)
    (subst (λ (clients : Clients). AllGood Calm clients) (sym clients) good) all
    in
    let sent = send_some h.reply h.reply.items in
    record {
      last = rest.last;
      told = sent ++ rest.told;
      orders = then_orders old.orders taken.orders new.orders sent rest.told h.orders rest.orders;
      leads = leads_both phase phase rest.last sent rest.told (calm_same phase sent (kept_has [] phase session has) (sent_calm h.reply h.reply.items)) rest.leads;
      stands = rest.stands;
      good = rest.good;
    }

pub takes_go : (found : Option ℕ) (now : ℕ) (at : Moment) (bytes : List ℕ) (phase : Phase) (old new : Driver) → node_of old.link.stage ≡ found → StandsAs phase old.link.stage → AllGood Calm old.clients → TakesIf found now at bytes old new → Goes phase old new
takes_go None now at bytes phase old new own stands good same = same_goes phase old new stands good same
takes_go (Some node) now at bytes phase old new own stands good t =
    takes_by now at bytes node phase old.link.stage t.notes old t.taken new refl own stands good (ap (λ (driver : Driver). driver.clients) t.rest) t.receives t.tells
