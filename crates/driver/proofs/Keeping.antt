-- What keeps what is known of the last claim of a node.
use Rattle.std.proofs.Common.{◌≡◌, ◌∙◌, ◌++◌, ◌⊎◌, inl, inr, ℕ, ◌-◌, Bool, true, false, List, [], ◌∷◌, Option, Some, None, refl, sym, ap, subst, slice_get, ⊎_elim}
use Rattle.std.specs.BTreeMap.{keys}
use Rattle.std.specs.Prelude.{◌||◌, if◌then◌else◌}
use Rattle.std.specs.List.{list_any}
use Rattle.std.proofs.lemmas.List.{append_assoc}
use Rattle.std.proofs.lemmas.List.Folds.{list_any-append}
use Rattle.driver.specs.declared.clients.Clients.{Clients}
use Rattle.driver.specs.declared.node_monitor.standing.Claimed.{Claimed}
use Rattle.driver.specs.declared.node_monitor.NodeMonitor.{NodeMonitor}
use Rattle.driver.specs.declared.driver.Driver.{Driver}
use Rattle.driver.specs.declared.link.Stage.{Stage}
use Rattle.driver.specs.declared.link.Stage.TheVariants.{Closing, Connecting, Idle, Open}
use Rattle.driver.specs.Dropping.{TellsDroppedIf}
use Rattle.driver.specs.declared.news.Ending.{Ending}
use Rattle.driver.specs.declared.news.Ending.TheVariants.{LedNoMore}
use Rattle.driver.specs.declared.order.Order.{Order}
use Rattle.driver.specs.declared.order.Order.TheVariants as order
use Rattle.driver.specs.Claiming.{claims}
use Rattle.driver.specs.Monitors.{is_claimed, line_to_claim}
use Rattle.driver.specs.Driving.{AsksServer, Connects, Ends, LeavesIf, LeavesOlder, QuitsIf, TicksMonitor, closed_of, closed_orders, orders_of, tick_orders, ticked}
use Rattle.driver.specs.Links.{ending, is_open, may_connect, node_of}
use Rattle.driver.specs.Servers.{AsksForWord, is_quiet}
use Rattle.driver.specs.Telling.{Ordered, ordered}
use Rattle.driver.specs.Writing.{Hands, WriteLines}
use Rattle.irc_line.specs.Lines.{Parts}
use Rattle.driver.proofs.Adding.{Adds, adds_both, all_written_add, nothing_adds, one_adds}
use Rattle.driver.proofs.Monitors.{Ids, Look, changed_same, ids_kept, look_at, ticked_look}
use Rattle.driver.proofs.Growing.{AllAre, AllGood, all_append}
use Rattle.driver.proofs.Quiet.{NoClaim, none_claims, quiet_tick}
use Rattle.driver.proofs.Writing.{lines_add, lines_rest}

-- the line of a session
abbrev pub Line : Type 0
Line = (ℕ × ℕ) × ℕ

-- the gate of each client has had some calls, and each monitor belongs to its node
pub record Sound (n : ℕ) (driver : Driver) : Type 0 where
  pub good : AllGood (NoClaim n) driver.clients
  pub ids : Ids driver.monitors

-- The node was asked for no claim, and what is known of its last one is unchanged.
pub record Keeps (n : ℕ) (old new : Driver) : Type 0 where
  pub adds : Adds (NoClaim n) old.orders new.orders
  pub sound : Sound n new
  pub same : look_at new.monitors (n - 1) ≡ look_at old.monitors (n - 1)

-- The node was asked for the claim of a line, with no unsettled claim of it.
pub record IsClaimed (n : ℕ) (old new : Driver) : Type 0 where
  pub told : List Order
  pub orders : new.orders ≡ ordered old.orders told
  pub has : list_any (claims n) told ≡ true
  pub sound : Sound n new
  pub before : Look
  pub is_before : look_at old.monitors (n - 1) ≡ Some before
  pub line : Line
  pub is_line : line_to_claim before.status ≡ Some line
  pub wait : ℕ
  pub now : ℕ
  pub is_free : is_claimed before.claimed wait now line.0 line.1 ≡ false
  pub claim : Claimed
  pub is_claim : look_at new.monitors (n - 1) ≡ Some (record { id = before.id; claimed = Some claim; status = before.status })
  pub session : claim.session ≡ line.0
  pub number : claim.number ≡ line.1
  pub unsettled : claim.is_settled ≡ false

abbrev pub Result : ℕ → Driver → Driver → Type 0
Result n old new = Keeps n old new ⊎ IsClaimed n old new

pub same_keeps : (n : ℕ) (old new : Driver) → Sound n old → new ≡ old → Keeps n old new
same_keeps n old new sound same = record {
  adds = nothing_adds (NoClaim n) old.orders new.orders (ap (λ (driver : Driver). driver.orders) same);
  sound = subst (λ (driver : Driver). Sound n driver) (sym same) sound;
  same = ap (λ (driver : Driver). look_at driver.monitors (n - 1)) same;
}

pub keeps_both : (n : ℕ) (old behind new : Driver) → Keeps n old behind → Keeps n behind new → Keeps n old new
keeps_both n old behind new first last = record {
  adds = adds_both (NoClaim n) old.orders behind.orders new.orders first.adds last.adds;
  sound = last.sound;
  same = last.same ∙ first.same;
}

pub keeps_claimed : (n : ℕ) (old behind new : Driver) → Keeps n old behind → IsClaimed n behind new → IsClaimed n old new
keeps_claimed n old behind new k c = record {
  told = k.adds.told ++ c.told;
  orders =
      c.orders
      ∙ ap (λ (orders : Ordered). ordered orders c.told) k.adds.orders
      ∙ ap (λ (items : List Order). record old.orders { items = items }) (append_assoc old.orders.items k.adds.told c.told);
  has =
      list_any-append (claims n) k.adds.told c.told
      ∙ ap (λ (b : Bool). b || list_any (claims n) c.told) (none_claims n k.adds.told k.adds.all)
      ∙ c.has;
  sound = c.sound;
  before = c.before;
  is_before = sym k.same ∙ c.is_before;
  line = c.line;
  is_line = c.is_line;
  wait = c.wait;
  now = c.now;
  is_free = c.is_free;
  claim = c.claim;
  is_claim = c.is_claim;
  session = c.session;
  number = c.number;
  unsettled = c.unsettled;
}

pub claimed_keeps : (n : ℕ) (old behind new : Driver) → IsClaimed n old behind → Keeps n behind new → IsClaimed n old new
claimed_keeps n old behind new c k = record {
  told = c.told ++ k.adds.told;
  orders =
      k.adds.orders
      ∙ ap (λ (orders : Ordered). ordered orders k.adds.told) c.orders
      ∙ ap (λ (items : List Order). record old.orders { items = items }) (append_assoc old.orders.items c.told k.adds.told);
  has =
      list_any-append (claims n) c.told k.adds.told
      ∙ ap (λ (b : Bool). b || list_any (claims n) k.adds.told) c.has;
  sound = k.sound;
  before = c.before;
  is_before = c.is_before;
  line = c.line;
  is_line = c.is_line;
  wait = c.wait;
  now = c.now;
  is_free = c.is_free;
  claim = c.claim;
  is_claim = k.same ∙ c.is_claim;
  session = c.session;
  number = c.number;
  unsettled = c.unsettled;
}

pub keeps_result : (n : ℕ) (old behind new : Driver) → Keeps n old behind → Result n behind new → Result n old new
keeps_result n old behind new k r =
    ⊎_elim (λ last. inl (keeps_both n old behind new k last)) (λ last. inr (keeps_claimed n old behind new k last)) r

pub result_keeps : (n : ℕ) (old behind new : Driver) → Result n old behind → Keeps n behind new → Result n old new
result_keeps n old behind new r k =
    ⊎_elim (λ first. inl (keeps_both n old behind new first k)) (λ first. inr (claimed_keeps n old behind new first k)) r

-- what keeps the monitors and the clients
pub orders_keep : (n : ℕ) (old new : Driver) → Sound n old → new.monitors ≡ old.monitors → new.clients ≡ old.clients → Adds (NoClaim n) old.orders new.orders → Keeps n old new
orders_keep n old new sound monitors clients adds = record {
  adds = adds;
  sound = record {
    good = subst (λ (clients : Clients). AllGood (NoClaim n) clients) (sym clients) sound.good;
    ids = subst (λ (monitors : List NodeMonitor). Ids monitors) (sym monitors) sound.ids;
  };
  same = ap (λ (monitors : List NodeMonitor). look_at monitors (n - 1)) monitors;
}

-- a node gets the notes of the clock and of the retirement of its runs
pub monitor_keeps : (n now node : ℕ) (old new : Driver) → Sound n old → TicksMonitor now node old new → Keeps n old new
monitor_keeps n now node old new sound t =
    let change : NodeMonitor → NodeMonitor = ticked old.orders old.retirements.all old.settings now in
    let same = λ (j : ℕ). ap (λ (monitors : List NodeMonitor). look_at monitors j) t.monitors ∙ changed_same change (ticked_look old.orders old.retirements.all old.settings now) old.monitors node j in
    record {
      adds = record {
        told = orders_of (tick_orders old.orders old.retirements.all old.settings now) (slice_get old.monitors (node - 1));
        orders = t.orders;
        all = quiet_tick n old.orders old.retirements.all old.settings now (slice_get old.monitors (node - 1));
      };
      sound = record {
        good = subst (λ (clients : Clients). AllGood (NoClaim n) clients) (sym (ap (λ (driver : Driver). driver.clients) t.rest)) sound.good;
        ids = ids_kept old.monitors new.monitors same sound.ids;
      };
      same = same (n - 1);
    }

pub ending_quiet : (n : ℕ) (stage : Stage) (why : Ending) → AllAre (NoClaim n) (ending stage why)
unfolding AllAre
ending_quiet n (Idle since wait) why = tt
ending_quiet n (Closing since wait) why = tt
ending_quiet n (Connecting node) why = (refl, tt)
ending_quiet n (Open session) why = (refl, tt)

pub closed_quiet : (n : ℕ) (node : Option ℕ) → AllAre (NoClaim n) (closed_orders node)
unfolding AllAre
closed_quiet n None = tt
closed_quiet n (Some node) = (refl, tt)

-- the connection to the server is gone
pub ends_keep : (n now : ℕ) (why : Ending) (old new : Driver) → Sound n old → Ends now why old new → Keeps n old new
ends_keep n now why old new sound e =
    let node = closed_of old.monitors (node_of old.link.stage) e.lost in
    orders_keep n old new sound
    (ap (λ (driver : Driver). driver.monitors) e.rest)
    (ap (λ (driver : Driver). driver.clients) e.rest)
    (record {
      told = ending old.link.stage why ++ closed_orders node;
      orders = e.orders;
      all = all_append (NoClaim n) (ending old.link.stage why) (closed_orders node) (ending_quiet n old.link.stage why) (closed_quiet n node);
    })

-- it is sent a PING
asks_by : (n : ℕ) (asks : Bool) (now : ℕ) (old new : Driver) → Sound n old → new ≡ record old { orders = new.orders; link = record old.link { stage = new.link.stage } } → AsksForWord asks now old.link.stage old.orders new.link.stage new.orders → Keeps n old new
asks_by n false now old new sound rest (stage, orders) =
    orders_keep n old new sound (ap (λ (driver : Driver). driver.monitors) rest) (ap (λ (driver : Driver). driver.clients) rest)
    (nothing_adds (NoClaim n) old.orders new.orders orders)
asks_by n true now old new sound rest (ping, is, orders, stage) =
    orders_keep n old new sound (ap (λ (driver : Driver). driver.monitors) rest) (ap (λ (driver : Driver). driver.clients) rest)
    (one_adds (NoClaim n) (order.Send ping) old.orders new.orders orders refl)

pub asks_keep : (n now : ℕ) (old new : Driver) → Sound n old → AsksServer now old new → Keeps n old new
asks_keep n now old new sound a = asks_by n (is_quiet old.link.stage now) now old new sound a.rest a.asks

-- or is left
pub leaves_keep : (n : ℕ) (leaves : Bool) (now : ℕ) (why : Ending) (old new : Driver) → Sound n old → LeavesIf leaves now why old new → Keeps n old new
leaves_keep n false now why old new sound same = same_keeps n old new sound same
leaves_keep n true now why old new sound l =
    let first =
    orders_keep n old l.closed sound
    (ap (λ (driver : Driver). driver.monitors) l.rest)
    (ap (λ (driver : Driver). driver.clients) l.rest)
    (one_adds (NoClaim n) order.Disconnect old.orders l.closed.orders l.orders refl)
    in
    keeps_both n old l.closed new first (ends_keep n now why l.closed new first.sound l.ends)

-- the server is told that the session is over, and the connection is left
pub quits_keep : (n : ℕ) (is : Bool) (now : ℕ) (old new : Driver) → Sound n old → QuitsIf is now old new → Keeps n old new
quits_keep n false now old new sound l = leaves_keep n true now LedNoMore old new sound l
quits_keep n true now old new sound q =
    let first =
    orders_keep n old q.said sound
    (ap (λ (driver : Driver). driver.monitors) q.says.rest)
    (ap (λ (driver : Driver). driver.clients) q.says.rest)
    (one_adds (NoClaim n) (order.Send q.says.bytes) old.orders q.said.orders q.says.orders refl)
    in
    let second = ends_keep n now LedNoMore q.said q.ended first.sound q.ends in
    let last =
    orders_keep n q.ended new second.sound
    (ap (λ (driver : Driver). driver.monitors) q.rest)
    (ap (λ (driver : Driver). driver.clients) q.rest)
    (nothing_adds (NoClaim n) q.ended.orders new.orders (ap (λ (driver : Driver). driver.orders) q.rest))
    in
    keeps_both n old q.said new first (keeps_both n q.said q.ended new second last)

-- or that of an older leader is
pub older_keep : (n : ℕ) (leaves : Bool) (now : ℕ) (old new : Driver) → Sound n old → LeavesOlder leaves now old new → Keeps n old new
older_keep n false now old new sound same = same_keeps n old new sound same
older_keep n true now old new sound q = quits_keep n (is_open old.link.stage) now old new sound q

pub connects_add : (n : ℕ) (may : Bool) (before after : Ordered) → after ≡ ordered before (if may then order.Connect ∷ [] else []) → Adds (NoClaim n) before after
unfolding AllAre
connects_add n true before after is = record { told = order.Connect ∷ []; orders = is; all = (refl, tt) }
connects_add n false before after is = record { told = []; orders = is; all = tt }

-- the server is connected to
pub connects_keep : (n now node : ℕ) (old new : Driver) → Sound n old → Connects now node old new → Keeps n old new
connects_keep n now node old new sound c =
    orders_keep n old new sound
    (ap (λ (driver : Driver). driver.monitors) c.rest)
    (ap (λ (driver : Driver). driver.clients) c.rest)
    (connects_add n (may_connect old.link.stage now) old.orders new.orders c.orders)

-- a drop ends
pub drop_keeps : (n : ℕ) (ended : Option ℕ) (old new : Driver) → Sound n old → TellsDroppedIf ended old new → Keeps n old new
drop_keeps n None old new sound same = same_keeps n old new sound same
drop_keeps n (Some count) old new sound t =
    orders_keep n old new sound
    (ap (λ (driver : Driver). driver.monitors) t.rest)
    (ap (λ (driver : Driver). driver.clients) t.rest)
    (all_written_add (NoClaim n) (keys old.clients.all) old.clients _ old.orders new.orders sound.good t.written)

-- lines go out
pub writes_keep : (n count now node : ℕ) (old new : Driver) → Sound n old → WriteLines count now node old new → Keeps n old new
writes_keep n count now node old new sound w =
    let rest = lines_rest count now node old new w in
    orders_keep n old new sound
    (ap (λ (driver : Driver). driver.monitors) rest)
    (ap (λ (driver : Driver). driver.clients) rest)
    (lines_add (NoClaim n) count now node old new (λ bytes. refl) w)

-- and a line is handed out
pub hands_keep : (n node : ℕ) (line : Parts) (old new : Driver) → Sound n old → Hands node line old new → Keeps n old new
hands_keep n node line old new sound h =
    orders_keep n old new sound
    (ap (λ (driver : Driver). driver.monitors) h)
    (ap (λ (driver : Driver). driver.clients) h)
    (nothing_adds (NoClaim n) old.orders new.orders (ap (λ (driver : Driver). driver.orders) h))
