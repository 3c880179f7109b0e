-- What each call of a driver but a report and a tick orders for a node that is down, or up.
use Rattle.std.proofs.Common.{◌≡◌, ◌∙◌, ℕ, ◌-◌, Bool, true, false, List, [], ◌∷◌, Option, Some, None, refl, sym, ap, subst, slice_get}
use Rattle.std.specs.Prelude.{◌&&◌, ◌^◌, IfSome, if◌then◌else◌, is_some, nat_eq, nat_lt}
use Rattle.std.specs.BTreeMap.{keys}
use Rattle.std.specs.Global.{Vec}
use Rattle.std.proofs.lemmas.Bool.{eqb-true}
use Rattle.wire_bytes.specs.declared.moment.Moment.{Moment}
use Rattle.wire_bytes.specs.declared.origin.Origin.{Origin}
use Rattle.client_gate.specs.Calls.{Held, Stands as GateStands}
use Rattle.client_gate.specs.Made.{made}
use Rattle.buffer_commands.specs.declared.wire_line.WireLine.{WireLine}
use Rattle.bouncer_tower.specs.Bodies.{TowerBody}
use Rattle.node_notes.specs.declared.note.Note.{Note}
use Rattle.node_notes.specs.declared.note.Note.TheVariants as note
use Rattle.driver.specs.Absent.{Absences, reason_number}
use Rattle.driver.specs.Sessions.{absent_news}
use Rattle.driver.specs.Guarding.{due_at}
use Rattle.driver.specs.declared.client.Client.{Client}
use Rattle.driver.specs.declared.clients.Clients.{Clients}
use Rattle.driver.specs.declared.node_monitor.NodeMonitor.{NodeMonitor}
use Rattle.driver.specs.declared.driver.Driver.{Driver}
use Rattle.driver.specs.declared.level.Level.{Level}
use Rattle.driver.specs.declared.link.Stage.{Stage}
use Rattle.driver.specs.declared.link.Stage.TheVariants.{Closing, Connecting, Idle, Open}
use Rattle.driver.specs.declared.news.News.TheVariants.{LogFills, TurnedAway}
use Rattle.driver.specs.declared.order.Order.TheVariants as order
use Rattle.driver.specs.Arriving.{ArrivesBy, boot_at, boot_in, next_number, turned_away_by, visited}
use Rattle.driver.specs.Calls.{ConnectsTo, Goes, Orders, Speaks}
use Rattle.driver.specs.Crowds.{told as crowd}
use Rattle.driver.specs.Driving.{orders_of, told_of}
use Rattle.driver.specs.Filling.{TellsLevelIf, WatchesFor, is_left_out}
use Rattle.driver.specs.Retiring.{with_seen}
use Rattle.driver.specs.Hearing.{boot_up, turned_away, turned_away_news}
use Rattle.driver.specs.Links.{Receives, send_some}
use Rattle.driver.specs.Nicks.{nick_in}
use Rattle.driver.specs.Clients.{is_leaving, is_shut}
use Rattle.driver.specs.Links.{status_in}
use Rattle.driver.specs.Rosters.{AreOthersSame, client_at, is_attached_in}
use Rattle.driver.specs.Sessions.{TakesIf, TellsAllOf, TellsIf, opened_of}
use Rattle.driver.specs.Telling.{Ordered, ordered}
use Rattle.driver.proofs.Adding.{Adds, adds_both, all_written_add, nothing_adds, one_adds}
use Rattle.driver.proofs.Calling.{renames_by}
use Rattle.driver.proofs.ClientCalls.{greeted_adds, or_client, visited_look, comes_add}
use Rattle.driver.proofs.Monitors.{ids_kept, look_at}
use Rattle.driver.proofs.Growing.{AllAre, AllGood, Good, by_number, one_grows}
use Rattle.driver.proofs.Owning.{lost_own, reads_own}
use Rattle.driver.proofs.Restarts.{Plain, both_false, client_plain, told_apart}
use Rattle.driver.proofs.Resting.{up_own}
use Rattle.driver.proofs.Staying.{StandsAs, Stays, Steady, changed_as, grows_stay, orders_stay, same_stays, stays_both}

-- A client connects to a node that is up.

arrived_fits : (n : ℕ) (down : Bool) (node boot number : ℕ) (password nick : List ℕ) (now : ℕ) (old new : Clients) → (down && nat_eq node n) ≡ false → AllGood (Plain n down) old → AreOthersSame number old new → ArrivesBy (Some boot) (Some number) node password nick now old new → AllGood (Plain n down) new
arrived_fits n down node boot number password nick now old new up good others a k c found =
    by_number number k (Good (Plain n down) c)
    (λ same.
    let here = subst (λ (k : ℕ). client_at new k ≡ Some c) (sym same) found in
    let is : a.client ≡ c = ap (or_client a.client) (sym a.is_there ∙ here) in
    let origin : a.client.origin.0 ≡ node = ap (λ (origin : Origin). origin.0) a.is_new.origin_is in
    let client : Good (Plain n down) a.client = record {
      settings = made (node, boot, number) password nick;
      calls = [];
      stands = subst (λ (held : Held). GateStands (made (node, boot, number) password nick) [] held) (sym a.is_new.gate_is) a.is_made;
      fits = λ o own. client_plain n down a.client.origin o (subst (λ (k : ℕ). (down && nat_eq k n) ≡ false) (sym origin) up) own;
    } in
    subst (λ (c : Client). Good (Plain n down) c) is client)
    (λ apart. good k c (sym (others k apart) ∙ found))

arrive_fits : (n : ℕ) (down : Bool) (node : ℕ) (boot number : Option ℕ) (password nick : List ℕ) (now : ℕ) (old new : Clients) → (is_some boot ≡ true → (down && nat_eq node n) ≡ false) → AllGood (Plain n down) old → IfSome number (λ number. AreOthersSame number old new) → ArrivesBy boot number node password nick now old new → AllGood (Plain n down) new
arrive_fits n down node None number password nick now old new up good others same = subst (λ (clients : Clients). AllGood (Plain n down) clients) (sym same) good
arrive_fits n down node (Some boot) None password nick now old new up good others same = subst (λ (clients : Clients). AllGood (Plain n down) clients) (sym same) good
arrive_fits n down node (Some boot) (Some number) password nick now old new up good others a =
    arrived_fits n down node boot number password nick now old new (up refl) good others a

away_fits : (n : ℕ) (down away : Bool) (id : ℕ) → AllAre (Plain n down) (if away then [] else order.Log (TurnedAway id) ∷ [])
unfolding AllAre
away_fits n down true id = tt
away_fits n down false id = ((tt, refl), tt)

turned_fits : (n : ℕ) (down : Bool) (found : Option NodeMonitor) → AllAre (Plain n down) (orders_of turned_away_news found)
unfolding AllAre
turned_fits n down None = tt
turned_fits n down (Some d) = away_fits n down d.visitors.has_turned_away d.id

turned_by : (n : ℕ) (down : Bool) (boot : Option ℕ) (monitors : List NodeMonitor) (node : ℕ) → AllAre (Plain n down) (turned_away_by boot monitors node)
unfolding AllAre
turned_by n down None monitors node = turned_fits n down (slice_get monitors (node - 1))
turned_by n down (Some boot) monitors node = tt

visited_as : (n : ℕ) (down : Bool) (boot : Option ℕ) (taken : Bool) (monitors : List NodeMonitor) (node : ℕ) → StandsAs down (slice_get monitors (n - 1)) → StandsAs down (slice_get (visited boot taken monitors node) (n - 1))
visited_as n down None taken monitors node at = changed_as n node down turned_away monitors (λ d. (refl, refl)) at
visited_as n down (Some boot) true monitors node at = changed_as n node down (with_seen boot) monitors (λ d. (refl, refl)) at
visited_as n down (Some boot) false monitors node at = at

-- a node that takes clients is up
open_if : (hangs : Bool) (boot : Option ℕ) → is_some (if hangs then None else boot) ≡ true → is_some boot ≡ true
open_if true boot is = absurd (cc is)
open_if false boot is = is

open_up : (found : Option NodeMonitor) → is_some (boot_in found) ≡ true → is_some (boot_up (status_in found)) ≡ true
open_up None is = absurd (cc is)
open_up (Some d) is = open_if d.presence.is_hanging (boot_up d.status) is

pub connect_stays : (n now node : ℕ) (down : Bool) (old new : Driver) → Steady n down old → ConnectsTo now node old new → Stays n down old new
connect_stays n now node down old new steady c =
    let boot = boot_at old.monitors node in
    let taken = nat_lt old.numbered (2 ^ 60) in
    record {
      adds = record { told = turned_away_by boot old.monitors node; orders = c.orders; all = turned_by n down boot old.monitors node };
      steady = record {
        good =
            arrive_fits n down node boot (next_number old.monitors node old.numbered) old.settings.password.items (nick_in old) now old.clients new.clients
            (λ up. both_false down (nat_eq node n) (λ own. up_own n node down old.monitors steady.at (open_up (slice_get old.monitors (node - 1)) up) own))
            steady.good c.others c.arrived;
        ids = ids_kept old.monitors new.monitors (λ j. ap (λ (monitors : List NodeMonitor). look_at monitors j) c.monitors ∙ visited_look boot taken old.monitors node j) steady.ids;
        at =
            subst (λ (monitors : List NodeMonitor). StandsAs down (slice_get monitors (n - 1))) (sym c.monitors)
            (visited_as n down boot taken old.monitors node steady.at);
      };
    }

-- A client's bytes come, or it is gone.

pub speaks_stay : (n : ℕ) (down : Bool) (bytes : List ℕ) (now : ℕ) (at : Moment) (number : ℕ) (found : Option Client) (old new : Driver) → client_at old.clients number ≡ found → Steady n down old → Speaks bytes now at number old new → Stays n down old new
speaks_stay n down bytes now at number None old new is steady s =
    let (clients, orders) = s.nobody is in
    orders_stay n down old new steady (ap (λ (driver : Driver). driver.monitors) s.rest) clients (nothing_adds (Plain n down) old.orders new.orders orders)
speaks_stay n down bytes now at number (Some c) old new is steady s =
    let behind = crowd new.clients s.comes.told in
    let g =
    one_grows (Plain n down) number _ _ (told_of old) behind c is is steady.good s.others s.comes.served
    (λ gs calls client stands h. reads_own (is_shut c) bytes now at (due_at old.guard now) gs calls c client old.orders s.comes.told refl stands h.receives)
    in
    let greeted = comes_add (Plain n down) bytes now at number old new g.good (λ origin. (tt, refl)) s.comes in
    let all = adds_both (Plain n down) old.orders s.comes.told new.orders (record { told = g.told; orders = g.orders; all = g.all }) greeted in
    grows_stay n down old new steady (ap (λ (driver : Driver). driver.monitors) s.rest) (record { told = all.told; orders = all.orders; all = all.all; good = g.good })

pub goes_stay : (n : ℕ) (down : Bool) (now : ℕ) (at : Moment) (number : ℕ) (found : Option Client) (old new : Driver) → client_at old.clients number ≡ found → Steady n down old → Goes now at number old new → Stays n down old new
goes_stay n down now at number None old new is steady s =
    let (clients, orders) = s.nobody is in
    orders_stay n down old new steady (ap (λ (driver : Driver). driver.monitors) s.rest) clients (nothing_adds (Plain n down) old.orders new.orders orders)
goes_stay n down now at number (Some c) old new is steady s =
    grows_stay n down old new steady (ap (λ (driver : Driver). driver.monitors) s.rest)
    (one_grows (Plain n down) number _ _ (told_of old) (told_of new) c is is steady.good s.others s.served
    (λ gs calls client stands h. lost_own c.is_gone now at gs calls c client old.orders new.orders refl stands h))

-- Only orders are given.
pub given_stay : (n : ℕ) (down : Bool) (gives : Ordered → Ordered → Type 0) (old new : Driver) → Steady n down old → (o : Orders gives old new) → Adds (Plain n down) old.orders new.orders → Stays n down old new
given_stay n down gives old new steady o adds =
    orders_stay n down old new steady (ap (λ (driver : Driver). driver.monitors) o.rest) (ap (λ (driver : Driver). driver.clients) o.rest) adds

-- Bytes of the server come, of a session of a node that is up.

absent_fits : (n : ℕ) (down : Bool) (node : ℕ) (number : Option ℕ) → AllAre (Plain n down) (absent_news node number)
unfolding AllAre
absent_fits n down node None = tt
absent_fits n down node (Some number) = ((tt, refl), tt)

opened_fits : (n : ℕ) (down : Bool) (node : ℕ) (nick : List ℕ) (absent : Absences) (came : Note TowerBody WireLine) → AllAre (Plain n down) (opened_of node nick absent came)
unfolding AllAre
opened_fits n down node nick absent note.Opened = ((tt, refl), tt)
opened_fits n down node nick absent (note.Heard at line) = absent_fits n down node (reason_number nick line absent)
opened_fits n down node nick absent (note.Timeout contacts) = tt
opened_fits n down node nick absent note.Beat = tt
opened_fits n down node nick absent (note.Ask body) = tt
opened_fits n down node nick absent note.Closed = tt
opened_fits n down node nick absent note.Claim = tt
opened_fits n down node nick absent note.Wake = tt
opened_fits n down node nick absent note.Restart = tt
opened_fits n down node nick absent note.End = tt

tells_stay : (n : ℕ) (down out : Bool) (node : ℕ) (came : Note TowerBody WireLine) (old new : Driver) → (down && nat_eq node n) ≡ false → Steady n down old → TellsIf out node came old new → Stays n down old new
tells_stay n down true node came old new up steady same = same_stays n down old new steady same
tells_stay n down false node came old new up steady t =
    let named =
    orders_stay n down old t.named steady (ap (λ (driver : Driver). driver.monitors) t.nick.rest) (ap (λ (driver : Driver). driver.clients) t.nick.rest)
    (renames_by (Plain n down) came old t.named.orders steady.good t.nick.renames)
    in
    let opened =
    orders_stay n down t.named t.opened named.steady (ap (λ (driver : Driver). driver.monitors) t.opens.rest) (ap (λ (driver : Driver). driver.clients) t.opens.rest)
    (record { told = opened_of node (nick_in t.named) t.named.link.absent came; orders = t.opens.orders; all = opened_fits n down node (nick_in t.named) t.named.link.absent came })
    in
    let last =
    orders_stay n down t.opened new opened.steady (ap (λ (driver : Driver). driver.monitors) t.rest) (ap (λ (driver : Driver). driver.clients) t.rest)
    (one_adds (Plain n down) (order.Submit node came) t.opened.orders new.orders t.orders (told_apart down (nat_eq node n) came up, refl))
    in
    stays_both n down old t.opened new (stays_both n down old t.named t.opened named opened) last

tells_all_stay : (n : ℕ) (down : Bool) (node : ℕ) (notes : List (Note TowerBody WireLine)) (old new : Driver) → (down && nat_eq node n) ≡ false → Steady n down old → TellsAllOf node notes old new → Stays n down old new
unfolding TellsAllOf
tells_all_stay n down node [] old new up steady same = same_stays n down old new steady same
tells_all_stay n down node (came ∷ more) old new up steady (behind, first, rest) =
    let s = tells_stay n down (is_left_out old.level came) node came old behind up steady first in
    stays_both n down old behind new s (tells_all_stay n down node more behind new up s.steady rest)

send_fits : (n : ℕ) (down : Bool) (bytes : Vec ℕ) (items : List ℕ) → AllAre (Plain n down) (send_some bytes items)
unfolding AllAre
send_fits n down bytes [] = tt
send_fits n down bytes (byte ∷ more) = ((tt, refl), tt)

received_fits : (n : ℕ) (down : Bool) (stage : Stage) (now : ℕ) (at : Moment) (bytes : List ℕ) (before after : Ordered) (new : Stage) (notes : List (Note TowerBody WireLine)) → Receives stage now at bytes before new notes after → Adds (Plain n down) before after
received_fits n down (Idle since wait) now at bytes before after new notes (same, none, is) = nothing_adds (Plain n down) before after is
received_fits n down (Closing since wait) now at bytes before after new notes (same, none, is) = nothing_adds (Plain n down) before after is
received_fits n down (Connecting node) now at bytes before after new notes (same, none, is) = nothing_adds (Plain n down) before after is
received_fits n down (Open session) now at bytes before after new notes (behind, h, is) =
    record { told = send_some h.reply h.reply.items; orders = h.orders; all = send_fits n down h.reply h.reply.items }

pub takes_stay : (n : ℕ) (down : Bool) (node : Option ℕ) (now : ℕ) (at : Moment) (bytes : List ℕ) (old new : Driver) → (node ≡ Some n → down ≡ false) → Steady n down old → TakesIf node now at bytes old new → Stays n down old new
takes_stay n down None now at bytes old new up steady same = same_stays n down old new steady same
takes_stay n down (Some node) now at bytes old new up steady t =
    let apart = both_false down (nat_eq node n) (λ own. up (ap Some (eqb-true node n own))) in
    let first =
    orders_stay n down old t.taken steady (ap (λ (driver : Driver). driver.monitors) t.rest) (ap (λ (driver : Driver). driver.clients) t.rest)
    (received_fits n down old.link.stage now at bytes old.orders t.taken.orders t.taken.link.stage t.notes t.receives)
    in
    stays_both n down old t.taken new first (tells_all_stay n down node t.notes t.taken new apart first.steady t.tells)

-- The log is looked at.

level_stays : (n : ℕ) (down rises : Bool) (node : ℕ) (level : Level) (old new : Driver) → Steady n down old → TellsLevelIf rises node level old new → Stays n down old new
level_stays n down false node level old new steady same = same_stays n down old new steady same
level_stays n down true node level old new steady t =
    orders_stay n down old new steady (ap (λ (driver : Driver). driver.monitors) t.rest) (ap (λ (driver : Driver). driver.clients) t.rest)
    (adds_both (Plain n down) old.orders (ordered old.orders (order.Log (LogFills node level) ∷ [])) new.orders
    (one_adds (Plain n down) (order.Log (LogFills node level)) old.orders _ refl (tt, refl))
    (all_written_add (Plain n down) (keys old.clients.all) old.clients _ _ new.orders steady.good t.written))

pub watch_stays : (n : ℕ) (down : Bool) (leader : Option ℕ) (old new : Driver) → Steady n down old → WatchesFor leader old new → Stays n down old new
watch_stays n down None old new steady same = same_stays n down old new steady same
watch_stays n down (Some node) old new steady w = level_stays n down _ node _ old new steady w
