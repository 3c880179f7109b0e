-- What each call of a driver does for the claims of a node.
use Rattle.std.proofs.Common.{◌++◌, ℕ, Bool, true, false, List, [], ◌∷◌, length, Option, Some, None, refl, sym, ap, subst}
use Rattle.std.specs.Prelude.{if◌then◌else◌, nat_lt}
use Rattle.std.specs.BTreeMap.{keys}
use Rattle.std.specs.Global.{Vec}
use Rattle.wire_bytes.specs.declared.moment.Moment.{Moment}
use Rattle.buffer_commands.specs.declared.wire_line.WireLine.{WireLine}
use Rattle.bouncer_tower.specs.Bodies.{TowerBody}
use Rattle.irc_line.specs.Lines.{Parts, spelling}
use Rattle.node_notes.specs.declared.note.Note.{Note}
use Rattle.node_notes.specs.declared.note.Note.TheVariants as note
use Rattle.uplink.specs.declared.input.UplinkInput.{UplinkInput}
use Rattle.uplink.specs.declared.input.UplinkInput.TheVariants as input
use Rattle.driver.specs.Absent.{Absences, reason_number}
use Rattle.driver.specs.Sessions.{absent_news}
use Rattle.driver.specs.declared.clients.Clients.{Clients}
use Rattle.driver.specs.declared.driver.Driver.{Driver}
use Rattle.driver.specs.declared.level.Level.{Level}
use Rattle.driver.specs.declared.link.Stage.{Stage}
use Rattle.driver.specs.declared.link.Stage.TheVariants.{Closing, Connecting, Idle, Open}
use Rattle.driver.specs.declared.news.News.TheVariants.{LogFills}
use Rattle.driver.specs.declared.order.Order.{Order}
use Rattle.driver.specs.declared.order.Order.TheVariants as order
use Rattle.driver.specs.declared.settings.Settings.{Settings}
use Rattle.driver.specs.Filling.{TellsLevelIf, WatchesFor}
use Rattle.driver.specs.Links.{Connects, Receives, is_answer, notes_of, send_some}
use Rattle.driver.specs.Nicks.{RenamesBy, RenamesIf, is_renamed, nick_in}
use Rattle.driver.specs.Sessions.{TakesIf, TellsAllOf, TellsIf, opened_of}
use Rattle.driver.specs.Filling.{is_left_out}
use Rattle.driver.specs.Telling.{Ordered, ordered}
use Rattle.driver.proofs.Adding.{Adds, adds_both, all_written_add, nothing_adds, one_adds}
use Rattle.driver.proofs.Keeping.{Keeps, Sound, keeps_both, orders_keep, same_keeps}
use Rattle.driver.proofs.Growing.{AllAre, AllGood}
use Rattle.driver.proofs.Quiet.{IsQuiet, NoClaim, quiet_told}

-- The connection to the server is made.
pub stands_add : (P : Order → Type 0) (stage : Stage) (settings : Settings) (now : ℕ) (before after : Ordered) (new : Stage) → ((bytes : Vec ℕ) → P (order.Send bytes)) → Connects stage settings now before new after → Adds P before after
stands_add P (Idle since wait) settings now before after new fits (same, none) = nothing_adds P before after none
stands_add P (Closing since wait) settings now before after new fits (same, none) = nothing_adds P before after none
stands_add P (Connecting node) settings now before after new fits (session, begun, is) = one_adds P (order.Send begun.first) before after begun.orders (fits begun.first)
stands_add P (Open session) settings now before after new fits (same, none) = nothing_adds P before after none

-- Bytes of the server come.

-- notes that are no claims
abbrev pub AllQuiet : List (Note TowerBody WireLine) → Type 0
AllQuiet [] = Unit {0}
AllQuiet (came ∷ more) = IsQuiet (Some came) × AllQuiet more

pub quiet_cut : (answers long : Bool) (at : Moment) (line : Parts) (more : List (Note TowerBody WireLine)) → AllQuiet more → AllQuiet ((if answers then [] else (if long then [] else note.Heard at line ∷ [])) ++ more)
quiet_cut true long at line more all = all
quiet_cut false true at line more all = all
quiet_cut false false at line more all = (refl, all)

pub quiet_notes : (at : Moment) (inputs : List UplinkInput) → AllQuiet (notes_of at inputs)
unfolding notes_of
quiet_notes at [] = tt
quiet_notes at (input.Opened ∷ inputs) = (refl, quiet_notes at inputs)
quiet_notes at (input.Heard line ∷ inputs) = quiet_cut (is_answer line) (nat_lt 511 (length (spelling line))) at line (notes_of at inputs) (quiet_notes at inputs)
quiet_notes at (input.Closed ∷ inputs) = (refl, quiet_notes at inputs)

pub renames_if : (P : Order → Type 0) (is : Bool) (clients : Clients) (text : List ℕ) (before after : Ordered) → AllGood P clients → RenamesIf is clients text before after → Adds P before after
renames_if P false clients text before after good none = nothing_adds P before after none
renames_if P true clients text before after good w = all_written_add P (keys clients.all) clients text before after good w

pub renames_by : (P : Order → Type 0) (came : Note TowerBody WireLine) (old : Driver) (after : Ordered) → AllGood P old.clients → RenamesBy came old after → Adds P old.orders after
renames_by P (note.Heard at line) old after good r = renames_if P (is_renamed (nick_in old) line) old.clients _ old.orders after good r
renames_by P (note.Timeout contacts) old after good r = nothing_adds P old.orders after r
renames_by P note.Beat old after good r = nothing_adds P old.orders after r
renames_by P (note.Ask body) old after good r = nothing_adds P old.orders after r
renames_by P note.Opened old after good r = nothing_adds P old.orders after r
renames_by P note.Closed old after good r = nothing_adds P old.orders after r
renames_by P note.Claim old after good r = nothing_adds P old.orders after r
renames_by P note.Wake old after good r = nothing_adds P old.orders after r
renames_by P note.Restart old after good r = nothing_adds P old.orders after r
renames_by P note.End old after good r = nothing_adds P old.orders after r

absent_quiet : (n node : ℕ) (number : Option ℕ) → AllAre (NoClaim n) (absent_news node number)
unfolding AllAre
absent_quiet n node None = tt
absent_quiet n node (Some number) = (refl, tt)

pub opened_quiet : (n node : ℕ) (nick : List ℕ) (absent : Absences) (came : Note TowerBody WireLine) → AllAre (NoClaim n) (opened_of node nick absent came)
unfolding AllAre
opened_quiet n node nick absent note.Opened = (refl, tt)
opened_quiet n node nick absent (note.Heard at line) = absent_quiet n node (reason_number nick line absent)
opened_quiet n node nick absent (note.Timeout contacts) = tt
opened_quiet n node nick absent note.Beat = tt
opened_quiet n node nick absent (note.Ask body) = tt
opened_quiet n node nick absent note.Closed = tt
opened_quiet n node nick absent note.Claim = tt
opened_quiet n node nick absent note.Wake = tt
opened_quiet n node nick absent note.Restart = tt
opened_quiet n node nick absent note.End = tt

pub tells_keep : (n : ℕ) (out : Bool) (node : ℕ) (came : Note TowerBody WireLine) (old new : Driver) → Sound n old → IsQuiet (Some came) → TellsIf out node came old new → Keeps n old new
tells_keep n true node came old new sound is same = same_keeps n old new sound same
tells_keep n false node came old new sound is t =
    let named =
    orders_keep n old t.named sound (ap (λ (driver : Driver). driver.monitors) t.nick.rest) (ap (λ (driver : Driver). driver.clients) t.nick.rest)
    (renames_by (NoClaim n) came old t.named.orders sound.good t.nick.renames)
    in
    let opened =
    orders_keep n t.named t.opened named.sound (ap (λ (driver : Driver). driver.monitors) t.opens.rest) (ap (λ (driver : Driver). driver.clients) t.opens.rest)
    (record { told = opened_of node (nick_in t.named) t.named.link.absent came; orders = t.opens.orders; all = opened_quiet n node (nick_in t.named) t.named.link.absent came })
    in
    let last =
    orders_keep n t.opened new opened.sound (ap (λ (driver : Driver). driver.monitors) t.rest) (ap (λ (driver : Driver). driver.clients) t.rest)
    (one_adds (NoClaim n) (order.Submit node came) t.opened.orders new.orders t.orders (quiet_told n node came is))
    in
    keeps_both n old t.opened new (keeps_both n old t.named t.opened named opened) last

pub tells_all_keep : (n node : ℕ) (notes : List (Note TowerBody WireLine)) (old new : Driver) → Sound n old → AllQuiet notes → TellsAllOf node notes old new → Keeps n old new
unfolding TellsAllOf
tells_all_keep n node [] old new sound all same = same_keeps n old new sound same
tells_all_keep n node (came ∷ more) old new sound (is, all) (behind, first, rest) =
    let k = tells_keep n (is_left_out old.level came) node came old behind sound is first in
    keeps_both n old behind new k (tells_all_keep n node more behind new k.sound all rest)

pub send_quiet : (n : ℕ) (bytes : Vec ℕ) (items : List ℕ) → AllAre (NoClaim n) (send_some bytes items)
unfolding AllAre
send_quiet n bytes [] = tt
send_quiet n bytes (byte ∷ more) = (refl, tt)

pub received_add : (n : ℕ) (stage : Stage) (now : ℕ) (at : Moment) (bytes : List ℕ) (before after : Ordered) (new : Stage) (notes : List (Note TowerBody WireLine)) → Receives stage now at bytes before new notes after → Adds (NoClaim n) before after × AllQuiet notes
received_add n (Idle since wait) now at bytes before after new notes (same, none, is) =
    (nothing_adds (NoClaim n) before after is, subst AllQuiet (sym none) tt)
received_add n (Closing since wait) now at bytes before after new notes (same, none, is) =
    (nothing_adds (NoClaim n) before after is, subst AllQuiet (sym none) tt)
received_add n (Connecting node) now at bytes before after new notes (same, none, is) =
    (nothing_adds (NoClaim n) before after is, subst AllQuiet (sym none) tt)
received_add n (Open session) now at bytes before after new notes (behind, h, is) = (
  record { told = send_some h.reply h.reply.items; orders = h.orders; all = send_quiet n h.reply h.reply.items },
  subst AllQuiet (sym h.are_notes) (quiet_notes at h.given),
)

pub takes_keep : (n : ℕ) (node : Option ℕ) (now : ℕ) (at : Moment) (bytes : List ℕ) (old new : Driver) → Sound n old → TakesIf node now at bytes old new → Keeps n old new
takes_keep n None now at bytes old new sound same = same_keeps n old new sound same
takes_keep n (Some node) now at bytes old new sound t =
    let (adds, all) = received_add n old.link.stage now at bytes old.orders t.taken.orders t.taken.link.stage t.notes t.receives in
    let first = orders_keep n old t.taken sound (ap (λ (driver : Driver). driver.monitors) t.rest) (ap (λ (driver : Driver). driver.clients) t.rest) adds in
    keeps_both n old t.taken new first (tells_all_keep n node t.notes t.taken new first.sound all t.tells)

-- The log is looked at.
pub level_keeps : (n : ℕ) (rises : Bool) (node : ℕ) (level : Level) (old new : Driver) → Sound n old → TellsLevelIf rises node level old new → Keeps n old new
level_keeps n false node level old new sound same = same_keeps n old new sound same
level_keeps n true node level old new sound t =
    orders_keep n old new sound (ap (λ (driver : Driver). driver.monitors) t.rest) (ap (λ (driver : Driver). driver.clients) t.rest)
    (adds_both (NoClaim n) old.orders (ordered old.orders (order.Log (LogFills node level) ∷ [])) new.orders
    (one_adds (NoClaim n) (order.Log (LogFills node level)) old.orders _ refl refl)
    (all_written_add (NoClaim n) (keys old.clients.all) old.clients _ _ new.orders sound.good t.written))

pub watch_keeps : (n : ℕ) (leader : Option ℕ) (old new : Driver) → Sound n old → WatchesFor leader old new → Keeps n old new
watch_keeps n None old new sound same = same_keeps n old new sound same
watch_keeps n (Some node) old new sound w = level_keeps n _ node _ old new sound w
