-- A line is claimed in time, and again if its claim is not in the log.
use Rattle.std.proofs.Common.{◌≡◌, ◌∙◌, ◌++◌, ℕ, zero, suc, ◌+◌, ◌-◌, ◌≤◌, Bool, true, false, List, [], ◌∷◌, Option, Some, None, refl, sym, ap, subst, slice_get, arith}
use Rattle.std.specs.Prelude.{◌&&◌, ◌||◌, if◌then◌else◌, is_some, nat_eq, not}
use Rattle.std.specs.List.{list_any}
use Rattle.std.proofs.lemmas.List.{append_assoc}
use Rattle.irc_line.specs.Lines.{Parts}
use Rattle.node_notes.specs.declared.note.Note.TheVariants as note
use Rattle.driver.specs.declared.driver.Driver.{Driver}
use Rattle.driver.specs.declared.driver.writing.TheConstants.{MOST_AT_ONCE}
use Rattle.driver.specs.declared.node_monitor.NodeMonitor.{NodeMonitor}
use Rattle.driver.specs.declared.order.Order.{Order}
use Rattle.driver.specs.declared.order.Order.TheVariants.{Submit}
use Rattle.driver.specs.declared.outgoing.Piece.{Piece}
use Rattle.driver.specs.declared.settings.Settings.{Settings}
use Rattle.driver.specs.Claiming.{claims}
use Rattle.driver.specs.Dropping.{drop_end}
use Rattle.driver.specs.Driving.{Claims, ServesIf, orders_of}
use Rattle.driver.specs.Leading.{IsLeader, is_that}
use Rattle.driver.specs.Links.{status_in}
use Rattle.driver.specs.Monitors.{claim_at, claim_due, claim_if, is_claimed, line_to_claim, told, unless_claimed}
use Rattle.driver.specs.Outgoing.{Waiting, has_said}
use Rattle.driver.specs.Schedule.{IsFree, only_questions}
use Rattle.driver.specs.Telling.{Ordered, ordered}
use Rattle.driver.specs.Writing.{GoesOutIf, WriteLines, are_due, may_claim, may_write, piece_at, piece_of}
use Rattle.driver.proofs.Claiming.{claims_sound, same_eq}
use Rattle.driver.proofs.Clocks.{More, kept_more, more_both}
use Rattle.driver.proofs.Events.{any_last}
use Rattle.driver.proofs.Keeping.{Keeps, Line, connects_keep, drop_keeps, keeps_both}
use Rattle.driver.proofs.Monitors.{Look, look, look_in}
use Rattle.driver.proofs.Served.{Turn}
use Rattle.driver.proofs.Waiting.{items_same, status_of}

-- Nothing goes out if a line is to be claimed, and only questions wait.

no_piece : (due : Bool) (may : Bool) (questions : List Parts) → due ≡ false → piece_at may due (only_questions questions) ≡ None
no_piece true may questions is = absurd (cc is)
no_piece false true questions is = refl
no_piece false false questions is = refl

none_out : (now : ℕ) (due : Bool) (found : Option Piece) (old new : Driver) → found ≡ None → GoesOutIf now due found old new → new ≡ old
none_out now due None old new is same = same
none_out now due (Some piece) old new is goes = absurd (cc is)

lines_none : (count now node : ℕ) (questions : List Parts) (old new : Driver) → old.link.waiting ≡ only_questions questions → are_due (slice_get old.monitors (node - 1)) ≡ false → WriteLines count now node old new → new ≡ old
unfolding WriteLines
lines_none zero now node questions old new waiting due same = same
lines_none (suc count) now node questions old new waiting due (behind, one, more) =
    let none : piece_of now node old ≡ None =
    ap (λ (w : Waiting). piece_at (may_write old now) (are_due (slice_get old.monitors (node - 1))) w) waiting
    ∙ no_piece (are_due (slice_get old.monitors (node - 1))) (may_write old now) questions due
    in
    let first = none_out now (are_due (slice_get old.monitors (node - 1))) (piece_of now node old) old behind none one in
    let rest =
    lines_none count now node questions behind new
    (subst (λ (driver : Driver). driver.link.waiting ≡ only_questions questions) (sym first) waiting)
    (subst (λ (driver : Driver). are_due (slice_get driver.monitors (node - 1)) ≡ false) (sym first) due) more
    in
    rest ∙ first

-- A node that is served, with a line that is due, is asked to claim it.

abbrev pub or_look : Look → Option Look → Look
or_look x None = x
or_look x (Some y) = y

due_now : (d : NodeMonitor) (settings : Settings) (now : ℕ) (line : Line) → line_to_claim d.status ≡ Some line → is_claimed d.claimed settings.timeout_ms now line.0 line.1 ≡ false → claim_due d settings now ≡ Some line
unfolding claim_due
due_now d settings now line is free =
    ap (λ (found : Option Line). unless_claimed d settings.timeout_ms now found) is
    ∙ ap (λ (b : Bool). if b then None else Some line) free

-- What is known of a node that is to be asked for a claim.
pub record IsReady (n now : ℕ) (line : Line) (driver : Driver) : Type 0 where
  pub at : NodeMonitor
  pub is : slice_get driver.monitors (n - 1) ≡ Some at
  pub is_line : line_to_claim at.status ≡ Some line
  pub is_due : is_claimed at.claimed driver.settings.timeout_ms now line.0 line.1 ≡ false
  pub free : IsFree now driver

not_due : (driver : Driver) (n : ℕ) (d : NodeMonitor) (line : Line) → slice_get driver.monitors (n - 1) ≡ Some d → line_to_claim d.status ≡ Some line → are_due (slice_get driver.monitors (n - 1)) ≡ false
not_due driver n d line is is_line =
    ap are_due is ∙ ap (λ (found : Option Line). not (is_some found)) is_line

or_true : (first last : Bool) → last ≡ true → (first || last) ≡ true
or_true true last is = refl
or_true false last is = is

may_now : (now : ℕ) (driver : Driver) → IsFree now driver → may_claim driver now ≡ true
may_now now driver f =
    ap (λ (w : Waiting). not (has_said w) && (is_some driver.dropping || may_write driver now)) f.waiting
    ∙ or_true (is_some driver.dropping) (may_write driver now) f.may

claim_told : (may : Bool) (due : Option Line) (id : ℕ) (line : Line) → may ≡ true → due ≡ Some line → told id (claim_if may due) ≡ Submit id note.Claim ∷ []
claim_told may due id line may_is due_is =
    ap (λ (due : Option Line). told id (claim_if may due)) due_is ∙ ap (λ (b : Bool). told id (if b then Some note.Claim else None)) may_is

-- the note is among the orders
pub among : (is : Order → Bool) (before first last after : Ordered) (order : Order) (given : List Order) → (a : More before first) → last ≡ ordered first (order ∷ []) → (b : More last after) → after ≡ ordered before given → is order ≡ true → list_any is given ≡ true
among is before first last after order given a one b orders so =
    let all =
    b.orders
    ∙ ap (λ (orders : Ordered). ordered orders b.told) (one ∙ ap (λ (orders : Ordered). ordered orders (order ∷ [])) a.orders)
    ∙ ap (λ (items : List Order). record before { items = items })
    (append_assoc (before.items ++ a.told) (order ∷ []) b.told ∙ append_assoc before.items a.told (order ∷ b.told))
    in
    ap (list_any is) (items_same before after given (a.told ++ (order ∷ b.told)) orders all)
    ∙ any_last is a.told (order ∷ b.told) (ap (λ (found : Bool). found || list_any is b.told) so)

served_claim : (n now : ℕ) (line : Line) (serves : Bool) (old here behind new : Driver) (given : List Order) → 1 ≤ n → serves ≡ true → Keeps n old here → IsReady n now line here → ServesIf serves now n here behind → Keeps n behind new → new.orders ≡ ordered old.orders given → list_any (claims n) given ≡ true
served_claim n now line false old here behind new given low is k ready s last orders = absurd (cc is)
served_claim n now line true old here behind new given low is k ready s last orders =
    let due = not_due here n ready.at line ready.is ready.is_line in
    let same = lines_none MOST_AT_ONCE now n ready.free.questions here s.written ready.free.waiting due s.writes in
    let c = subst (λ (driver : Driver). Claims now n driver s.claimed) same s.claims in
    let may = may_now now here ready.free in
    let due_is = due_now ready.at here.settings now line ready.is_line ready.is_due in
    let told_is : s.claimed.orders ≡ ordered here.orders (Submit ready.at.id note.Claim ∷ []) =
    c.orders
    ∙ ap (λ (found : Option NodeMonitor). ordered here.orders (orders_of (λ d. told d.id (claim_at d here.settings now (may_claim here now))) found)) ready.is
    ∙ ap (λ (told : List Order). ordered here.orders told) (claim_told (may_claim here now) (claim_due ready.at here.settings now) ready.at.id line may due_is)
    in
    let id : ready.at.id ≡ n - 1 + 1 = k.sound.ids (n - 1) (look ready.at) (ap look_in ready.is) in
    let id_is : ready.at.id ≡ n = omega (arith, id, low) in
    let connected = connects_keep n now n s.claimed s.connected (claims_sound n now n here s.claimed k.sound c) s.connects in
    let connects = keeps_both n s.claimed s.connected behind connected (drop_keeps n (drop_end s.connected n) s.connected behind connected.sound s.ends) in
    among (claims n) old.orders here.orders s.claimed.orders new.orders (Submit ready.at.id note.Claim) given
    (kept_more n old here k) told_is
    (more_both s.claimed.orders behind.orders new.orders (kept_more n s.claimed behind connects) (kept_more n behind new last))
    orders
    (subst (λ (k : ℕ). nat_eq k n ≡ true) (sym id_is) (same_eq n))

-- as time passes
status_found : (found : Option NodeMonitor) (x : Look) → look_in found ≡ Some x → status_in found ≡ x.status
status_found found x is = status_of found x is

pub record HasMonitor (found : Option NodeMonitor) (x : Look) : Type 0 where
  pub own : NodeMonitor
  pub is : found ≡ Some own
  pub same : look own ≡ x

monitor_of : (found : Option NodeMonitor) (x : Look) → look_in found ≡ Some x → HasMonitor found x
monitor_of None x is = absurd (cc is)
monitor_of (Some d) x is = record { own = d; is = refl; same = ap (or_look x) is }

pub turn_claims : (n now : ℕ) (line : Line) (next new : Driver) (d : NodeMonitor) (given : List Order) → 1 ≤ n → Turn n now next new → IsLeader next.monitors (Some n) → slice_get next.monitors (n - 1) ≡ Some d → line_to_claim d.status ≡ Some line → is_claimed d.claimed next.settings.timeout_ms now line.0 line.1 ≡ false → IsFree now next → new.orders ≡ ordered next.orders given → list_any (claims n) given ≡ true
turn_claims n now line next new d given low t leads is is_line is_due free orders =
    let goes = t.goes leads in
    let m = monitor_of (slice_get t.here.monitors (n - 1)) (look d) (goes.looks (n - 1) ∙ ap look_in is) in
    let ready : IsReady n now line t.here = record {
      at = m.own;
      is = m.is;
      is_line = ap (λ (x : Look). line_to_claim x.status) m.same ∙ is_line;
      is_due =
          ap (λ (x : Look). is_claimed x.claimed t.here.settings.timeout_ms now line.0 line.1) m.same
          ∙ ap (λ (s : Settings). is_claimed d.claimed s.timeout_ms now line.0 line.1) goes.settings
          ∙ is_due;
      free = goes.free free;
    } in
    served_claim n now line (is_that t.leader n) next t.here t.behind new given low (t.leads leads) t.keeps ready t.serves t.last orders
