-- A node that is down gets no note but to start again, whatever is called.
use Rattle.std.proofs.Common.{◌≡◌, ◌∙◌, ℕ, zero, suc, ◌-◌, ◌≤◌, Bool, true, false, List, [], ◌∷◌, Option, Some, None, refl, sym, ap, subst, slice_get}
use Rattle.std.specs.BTreeMap.{keys}
use Rattle.irc_line.specs.Lines.{Parts}
use Rattle.wire_bytes.specs.declared.moment.Moment.{Moment}
use Rattle.buffer_commands.specs.declared.wire_line.WireLine.{WireLine}
use Rattle.bouncer_tower.specs.Bodies.{TowerBody}
use Rattle.node_notes.specs.declared.note.Note.{Note}
use Rattle.node_notes.specs.declared.note.Note.TheVariants as note
use Rattle.std.specs.Prelude.{nat_eq}
use Rattle.driver.specs.Nicks.{nick_in}
use Rattle.driver.specs.Guarding.{untold}
use Rattle.driver.specs.declared.clients.Clients.{Clients}
use Rattle.driver.specs.declared.node_monitor.NodeMonitor.{NodeMonitor}
use Rattle.driver.specs.declared.driver.Driver.{Driver}
use Rattle.driver.specs.declared.link.Link.{Link}
use Rattle.driver.specs.declared.link.Stage.{Stage}
use Rattle.driver.specs.declared.link.Stage.TheVariants.{Closing, Connecting, Idle, Open}
use Rattle.driver.specs.declared.order.Order.{Order}
use Rattle.driver.specs.declared.settings.Settings.{Settings}
use Rattle.driver.specs.Arriving.{IsNewDriver, new_monitors}
use Rattle.driver.specs.Calls.{Call, Does, DoesAll, IsTold, Step}
use Rattle.driver.specs.Calls.{Connect, Connected, Dismiss, End, Hand, Hear, Lose, Notice, Receive, ReceiveLine, Refuse, Take, Tick, Watch, WatchNodes, WatchPasswords}
use Rattle.driver.specs.Counting.{all_told}
use Rattle.driver.specs.Downtime.{DownIsOnlyRestarted}
use Rattle.driver.specs.Filling.{TellsLevelIf, WatchesFor, is_left_out}
use Rattle.driver.specs.Leading.{IsLeader}
use Rattle.driver.specs.Led.{IsOf, IsOfLeader}
use Rattle.driver.specs.Links.{Connects, Receives, node_of, opened as opened_stage}
use Rattle.driver.specs.Rosters.{client_at}
use Rattle.driver.specs.Sessions.{TakesIf, TellsAllOf, TellsIf, link_behind}
use Rattle.driver.specs.Telling.{Ordered, ordered}
use Rattle.driver.proofs.Adding.{all_written_add, nothing_adds, written_adds}
use Rattle.driver.proofs.Calling.{stands_add}
use Rattle.driver.proofs.ClientCalls.{more_adds}
use Rattle.driver.proofs.Monitors.{Ids}
use Rattle.driver.proofs.Dialing.{connect_stays, given_stay, goes_stay, speaks_stay, takes_stay, watch_stays}
use Rattle.driver.proofs.Falling.{Turns}
use Rattle.driver.proofs.Growing.{AllGood, Good, none_some}
use Rattle.driver.proofs.Heard.{report_turns, ticks_stay}
use Rattle.driver.proofs.Led.{heard_of_leader, idle_of_none, ticked_of_leader}
use Rattle.driver.proofs.OneClaim.{new_ids}
use Rattle.driver.proofs.Restarts.{Follows, Plain, follows_all, follows_both, restarts_between}
use Rattle.driver.proofs.Resting.{ends_stay, lead_own}
use Rattle.driver.proofs.Staying.{StandsAs, Stays, Steady, orders_stay}
use Rattle.driver.proofs.Waiting.{items_same}
use Rattle.driver.proofs.Watching.{dismissed_stay, nodes_link, nodes_stay}

-- The connection to the server belongs to no node that is down.
abbrev pub IsUp : ℕ → Bool → Stage → Type 0
IsUp n down stage = node_of stage ≡ Some n → down ≡ false

up_kept : (n : ℕ) (down : Bool) (old new : Stage) → node_of new ≡ node_of old → IsUp n down old → IsUp n down new
up_kept n down old new same up = λ own. up (sym same ∙ own)

same_link : (n : ℕ) (down : Bool) (old new : Driver) → new.link ≡ old.link → IsUp n down old.link.stage → IsUp n down new.link.stage
same_link n down old new same up = up_kept n down old.link.stage new.link.stage (ap (λ (link : Link). node_of link.stage) same) up

none_other : (n : ℕ) (P : Type 0) → None ≡ Some n → P
none_other n P is = absurd (cc is)

-- it belongs to the node that leads, which is up
leader_by : (n : ℕ) (down : Bool) (monitors : List NodeMonitor) (own leader : Option ℕ) → StandsAs down (slice_get monitors (n - 1)) → IsLeader monitors leader → IsOf own leader → own ≡ Some n → down ≡ false
leader_by n down monitors None leader at leads is own = none_other n (down ≡ false) own
leader_by n down monitors (Some node) leader at leads is own =
    lead_own n n down monitors at (subst (λ (leader : Option ℕ). IsLeader monitors leader) (is ∙ own) leads) refl

leader_up : (n : ℕ) (down : Bool) (driver : Driver) → Steady n down driver → IsOfLeader driver → IsUp n down driver.link.stage
leader_up n down driver steady l = λ own. leader_by n down driver.monitors (node_of driver.link.stage) l.leader steady.at l.is_leader l.is_of own

connected_node : (stage : Stage) (settings : Settings) (now : ℕ) (before after : Ordered) (new : Stage) → Connects stage settings now before new after → node_of new ≡ node_of stage
connected_node (Idle since wait) settings now before after new (same, none) = ap node_of same
connected_node (Closing since wait) settings now before after new (same, none) = ap node_of same
connected_node (Connecting node) settings now before after new (session, begun, is) = ap node_of is ∙ ap Some begun.node_is
connected_node (Open session) settings now before after new (same, none) = ap node_of same

received_node : (stage : Stage) (now : ℕ) (at : Moment) (bytes : List ℕ) (before after : Ordered) (new : Stage) (notes : List (Note TowerBody WireLine)) → Receives stage now at bytes before new notes after → node_of new ≡ node_of stage
received_node (Idle since wait) now at bytes before after new notes (same, none, is) = ap node_of same
received_node (Closing since wait) now at bytes before after new notes (same, none, is) = ap node_of same
received_node (Connecting node) now at bytes before after new notes (same, none, is) = ap node_of same
received_node (Open session) now at bytes before after new notes (behind, h, is) = ap node_of is ∙ ap Some h.node_is

opened_node : (stage : Stage) → node_of (opened_stage stage) ≡ node_of stage
opened_node (Idle since wait) = refl
opened_node (Closing since wait) = refl
opened_node (Connecting node) = refl
opened_node (Open session) = refl

behind_node : (lines : List Parts) (nick : List ℕ) (came : Note TowerBody WireLine) (link : Link) → node_of (link_behind lines nick came link).stage ≡ node_of link.stage
behind_node lines nick note.Opened link = opened_node link.stage
behind_node lines nick (note.Heard at line) link = refl
behind_node lines nick (note.Timeout contacts) link = refl
behind_node lines nick note.Beat link = refl
behind_node lines nick (note.Ask body) link = refl
behind_node lines nick note.Closed link = refl
behind_node lines nick note.Claim link = refl
behind_node lines nick note.Wake link = refl
behind_node lines nick note.Restart link = refl
behind_node lines nick note.End link = refl

tells_node : (out : Bool) (node : ℕ) (came : Note TowerBody WireLine) (old new : Driver) → TellsIf out node came old new → node_of new.link.stage ≡ node_of old.link.stage
tells_node true node came old new same = ap (λ (driver : Driver). node_of driver.link.stage) same
tells_node false node came old new t =
    ap (λ (driver : Driver). node_of driver.link.stage) t.rest
    ∙ ap (λ (driver : Driver). node_of driver.link.stage) t.opens.rest
    ∙ behind_node t.named.settings.on_connect.items (nick_in t.named) came t.named.link
    ∙ ap (λ (driver : Driver). node_of driver.link.stage) t.nick.rest

tells_all_node : (node : ℕ) (notes : List (Note TowerBody WireLine)) (old new : Driver) → TellsAllOf node notes old new → node_of new.link.stage ≡ node_of old.link.stage
unfolding TellsAllOf
tells_all_node node [] old new same = ap (λ (driver : Driver). node_of driver.link.stage) same
tells_all_node node (came ∷ more) old new (behind, first, rest) =
    tells_all_node node more behind new rest ∙ tells_node (is_left_out old.level came) node came old behind first

takes_node : (node : Option ℕ) (now : ℕ) (at : Moment) (bytes : List ℕ) (old new : Driver) → TakesIf node now at bytes old new → node_of new.link.stage ≡ node_of old.link.stage
takes_node None now at bytes old new same = ap (λ (driver : Driver). node_of driver.link.stage) same
takes_node (Some node) now at bytes old new t =
    tells_all_node node t.notes t.taken new t.tells
    ∙ received_node old.link.stage now at bytes old.orders t.taken.orders t.taken.link.stage t.notes t.receives

level_link : (rises : Bool) (node : ℕ) (level : _) (old new : Driver) → TellsLevelIf rises node level old new → new.link ≡ old.link
level_link false node level old new same = ap (λ (driver : Driver). driver.link) same
level_link true node level old new t = ap (λ (driver : Driver). driver.link) t.rest

watch_link : (leader : Option ℕ) (old new : Driver) → WatchesFor leader old new → new.link ≡ old.link
watch_link None old new same = ap (λ (driver : Driver). driver.link) same
watch_link (Some node) old new w = level_link _ node _ old new w

-- What a call does: its orders lead to the state of the node afterwards.
pub record Result (n : ℕ) (down : Bool) (old new : Driver) (told : List Order) : Type 0 where
  pub last : Bool
  pub follows : Follows n down told last
  pub steady : Steady n last new
  pub up : IsUp n last new.link.stage

turned : (n : ℕ) (down : Bool) (old new : Driver) (told : List Order) → (t : Turns n down old new) → IsUp n t.last new.link.stage → new.orders ≡ ordered old.orders told → Result n down old new told
turned n down old new told t up is = record {
  last = t.last;
  follows = subst (λ (items : List Order). Follows n down items t.last) (items_same old.orders new.orders t.told told t.orders is) t.follows;
  steady = t.steady;
  up = up;
}

stayed : (n : ℕ) (down : Bool) (old new : Driver) (told : List Order) → Stays n down old new → IsUp n down new.link.stage → new.orders ≡ ordered old.orders told → Result n down old new told
stayed n down old new told s up is = record {
  last = down;
  follows =
      subst (λ (items : List Order). Follows n down items down) (items_same old.orders new.orders s.adds.told told s.adds.orders is)
      (follows_all n down s.adds.told s.adds.all);
  steady = s.steady;
  up = up;
}

-- if the connection is unchanged
kept : (n : ℕ) (down : Bool) (old new : Driver) (told : List Order) → Stays n down old new → new.link ≡ old.link → IsUp n down old.link.stage → new.orders ≡ ordered old.orders told → Result n down old new told
kept n down old new told s same up is = stayed n down old new told s (same_link n down old new same up) is

call_result : (n : ℕ) (down : Bool) (call : Call) (told : List Order) (old new : Driver) → 1 ≤ n → Steady n down old → IsUp n down old.link.stage → Does call old new → IsTold call told old.orders new.orders → Result n down old new told
unfolding Follows
call_result n down (Connect now node) told old new low steady up (low_node, c) is =
    kept n down old new told (connect_stays n now node down old new steady c) (ap (λ (driver : Driver). driver.link) c.rest) up is
call_result n down (Receive bytes now at number) told old new low steady up s is =
    stayed n down old new told (speaks_stay n down bytes now at number (client_at old.clients number) old new refl steady s)
    (up_kept n down old.link.stage new.link.stage (ap (λ (driver : Driver). node_of driver.link.stage) s.rest) up)
    is
call_result n down (Lose now at number) told old new low steady up s is =
    kept n down old new told (goes_stay n down now at number (client_at old.clients number) old new refl steady s) (ap (λ (driver : Driver). driver.link) s.rest) up is
call_result n down (Hand node line) told old new low steady up h is =
    stayed n down old new told
    (orders_stay n down old new steady
    (ap (λ (driver : Driver). driver.monitors) h)
    (ap (λ (driver : Driver). driver.clients) h)
    (nothing_adds (Plain n down) old.orders new.orders (ap (λ (driver : Driver). driver.orders) h)))
    (up_kept n down old.link.stage new.link.stage (ap (λ (driver : Driver). node_of driver.link.stage) h) up)
    is
call_result n down (Hear now at node status effects progress refused) told old new low steady up r is =
    let t = report_turns n now at node status effects progress refused down old new low r.low steady r.hears in
    turned n down old new told t (leader_up n t.last new t.steady (heard_of_leader now at node status effects progress refused old new r.hears)) is
call_result n down (Tick now at) told old new low steady up t is =
    let s = ticks_stay n now at down old new low steady t in
    stayed n down old new told s (leader_up n down new s.steady (ticked_of_leader now at old new t)) is
call_result n down (Connected now) told old new low steady up s is =
    stayed n down old new told
    (orders_stay n down old new steady (ap (λ (driver : Driver). driver.monitors) s.rest) (ap (λ (driver : Driver). driver.clients) s.rest) (stands_add (Plain n down) old.link.stage old.settings now old.orders new.orders new.link.stage (λ bytes. (tt, refl)) s.stands))
    (up_kept n down old.link.stage new.link.stage (connected_node old.link.stage old.settings now old.orders new.orders new.link.stage s.stands) up)
    is
call_result n down (ReceiveLine now at bytes) told old new low steady up t is =
    stayed n down old new told (takes_stay n down (node_of old.link.stage) now at bytes old new up steady t)
    (up_kept n down old.link.stage new.link.stage (takes_node (node_of old.link.stage) now at bytes old new t) up)
    is
call_result n down (End now why) told old new low steady up e is =
    stayed n down old new told (ends_stay n now down why old new steady e)
    (λ own. none_other n (down ≡ false) (sym (ap node_of e.stage ∙ idle_of_none old.link.stage old.link.backoff now) ∙ own))
    is
call_result n down (Notice text) told old new low steady up o is =
    kept n down old new told
    (given_stay n down _ old new steady o (all_written_add (Plain n down) (keys old.clients.all) old.clients _ old.orders new.orders steady.good o.given))
    (ap (λ (driver : Driver). driver.link) o.rest) up is
call_result n down (Dismiss now at) told old new low steady up d is =
    kept n down old new told (dismissed_stay n now at down old new steady d) (ap (λ (driver : Driver). driver.link) d.rest) up is
call_result n down Watch told old new low steady up w is =
    kept n down old new told (watch_stays n down w.leader old new steady w.watches) (watch_link w.leader old new w.watches) up is
call_result n down (WatchNodes now) told old new low steady up w is =
    kept n down old new told (nodes_stay n now down old new steady w) (nodes_link now old new w) up is
call_result n down (WatchPasswords now) told old new low steady up w is =
    kept n down old new told
    (orders_stay n down old new steady
    (ap (λ (driver : Driver). driver.monitors) w.rest)
    (ap (λ (driver : Driver). driver.clients) w.rest)
    (more_adds (Plain n down) (nat_eq (untold now old.guard) 0) (untold now old.guard) old.orders new.orders (tt, refl) w.orders))
    (ap (λ (driver : Driver). driver.link) w.rest) up is
call_result n down (Refuse number) told old new low steady up o is =
    kept n down old new told
    (given_stay n down _ old new steady o (written_adds (Plain n down) old.clients number (client_at old.clients number) _ old.orders new.orders refl steady.good o.given))
    (ap (λ (driver : Driver). driver.link) o.rest) up is
call_result n down Take told old new low steady up o is = record {
  last = down;
  follows = subst (λ (items : List Order). Follows n down items down) (sym is) refl;
  steady = record {
    good = subst (λ (clients : Clients). AllGood (Plain n down) clients) (sym (ap (λ (driver : Driver). driver.clients) o.rest)) steady.good;
    ids = subst (λ (monitors : List NodeMonitor). Ids monitors) (sym (ap (λ (driver : Driver). driver.monitors) o.rest)) steady.ids;
    at = subst (λ (monitors : List NodeMonitor). StandsAs down (slice_get monitors (n - 1))) (sym (ap (λ (driver : Driver). driver.monitors) o.rest)) steady.at;
  };
  up = same_link n down old new (ap (λ (driver : Driver). driver.link) o.rest) up;
}

-- all orders of the calls lead to the state of the node at the end
record Leads (n : ℕ) (down : Bool) (told : List Order) : Type 0 where
  last : Bool
  follows : Follows n down told last

steps_lead : (n : ℕ) (down : Bool) (steps : List Step) (old new : Driver) → 1 ≤ n → Steady n down old → IsUp n down old.link.stage → DoesAll steps old new → Leads n down (all_told steps)
unfolding DoesAll all_told Follows
steps_lead n down [] old new low steady up same = record { last = down; follows = refl }
steps_lead n down (step ∷ more) old new low steady up (behind, does, rest) =
    let r = call_result n down step.call step.told old behind low steady up does.does does.told in
    let l = steps_lead n r.last more behind new low r.steady r.up rest in
    record {
      last = l.last;
      follows = follows_both n down r.last l.last step.told (all_told more) r.follows l.follows;
    }

-- A new driver knows of no node that is down.

new_at : (settings : Settings) (now i : ℕ) → StandsAs false (slice_get (new_monitors settings now) i)
new_at settings now zero = (refl, refl)
new_at settings now (suc zero) = (refl, refl)
new_at settings now (suc (suc zero)) = (refl, refl)
new_at settings now (suc (suc (suc zero))) = (refl, refl)
new_at settings now (suc (suc (suc (suc zero)))) = (refl, refl)
new_at settings now (suc (suc (suc (suc (suc zero))))) = (refl, refl)
new_at settings now (suc (suc (suc (suc (suc (suc zero)))))) = (refl, refl)
new_at settings now (suc (suc (suc (suc (suc (suc (suc i))))))) = refl

new_steady : (n : ℕ) (settings : Settings) (now : ℕ) (driver : Driver) → IsNewDriver settings now driver → Steady n false driver
new_steady n settings now driver new = record {
  good = λ number c found. none_some c (Good (Plain n false) c) (sym (new.clients number) ∙ found);
  ids = subst (λ (monitors : List NodeMonitor). Ids monitors) (sym new.monitors) (new_ids settings now);
  at = subst (λ (monitors : List NodeMonitor). StandsAs false (slice_get monitors (n - 1))) (sym new.monitors) (new_at settings now (n - 1));
}

pub only_restarted : DownIsOnlyRestarted
only_restarted node cause came steps driver before between behind low led told none =
    let steady = new_steady node led.settings led.now led.first led.is_new in
    let l = steps_lead node false steps led.first driver low steady (λ own. refl) led.calls in
    restarts_between node cause came l.last before between behind
    (subst (λ (items : List Order). Follows node false items l.last) told l.follows) none
