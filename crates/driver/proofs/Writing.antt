-- What changes when lines go out, and the orders for them.
use Rattle.std.proofs.Common.{◌≡◌, ◌∙◌, ℕ, zero, suc, ◌-◌, ◌<◌, ◌≤◌, ◌+◌, Bool, false, Option, Some, None, refl, sym, ap, subst, slice_get, arith}
use Rattle.std.specs.Global.{Vec}
use Rattle.std.specs.Option.{is_some}
use Rattle.driver.specs.declared.driver.Driver.{Driver}
use Rattle.driver.specs.declared.order.Order.{Order}
use Rattle.driver.specs.declared.order.Order.TheVariants.{Send}
use Rattle.driver.specs.declared.outgoing.Piece.{Piece}
use Rattle.driver.specs.Writing.{GoesOutIf, WriteLines, WritesLine, are_due, piece_of}
use Rattle.driver.proofs.Adding.{Adds, adds_both, nothing_adds, one_adds}

-- a driver with the orders, the pace, what waits, what is known of keys and what may not have arrived taken from
-- another
abbrev pub written_as : Driver → Driver → Driver
written_as new old = record old { orders = new.orders; pace = new.pace; unheard = new.unheard; link = record old.link { waiting = new.link.waiting; keys = new.link.keys } }

one_rest : (now : ℕ) (due : Bool) (found : Option Piece) (old new : Driver) → GoesOutIf now due found old new → new ≡ written_as new old
one_rest now due None old new same = subst (λ (driver : Driver). driver ≡ written_as driver old) (sym same) refl
one_rest now due (Some piece) old new goes = subst (λ (driver : Driver). driver ≡ written_as driver old) (sym goes.rest) refl

one_sent : (P : Order → Type 0) (now : ℕ) (due : Bool) (found : Option Piece) (old new : Driver) → ((bytes : Vec ℕ) → P (Send bytes)) → GoesOutIf now due found old new → Adds P old.orders new.orders
one_sent P now due None old new fits same = nothing_adds P old.orders new.orders (ap (λ (driver : Driver). driver.orders) same)
one_sent P now due (Some piece) old new fits goes =
    one_adds P (Send goes.sent.bytes) old.orders new.orders goes.sent.orders (fits goes.sent.bytes)

-- only these change
pub lines_rest : (count now node : ℕ) (old new : Driver) → WriteLines count now node old new → new ≡ written_as new old
unfolding WriteLines
lines_rest zero now node old new same = subst (λ (driver : Driver). driver ≡ written_as driver old) (sym same) refl
lines_rest (suc count) now node old new (behind, one, more) =
    lines_rest count now node behind new more
    ∙ ap (λ (driver : Driver). written_as new driver) (one_rest now (are_due (slice_get old.monitors (node - 1))) (piece_of now node old) old behind one)

-- and what is ordered goes to the server
pub lines_add : (P : Order → Type 0) (count now node : ℕ) (old new : Driver) → ((bytes : Vec ℕ) → P (Send bytes)) → WriteLines count now node old new → Adds P old.orders new.orders
unfolding WriteLines
lines_add P zero now node old new fits same = nothing_adds P old.orders new.orders (ap (λ (driver : Driver). driver.orders) same)
lines_add P (suc count) now node old new fits (behind, one, more) =
    adds_both P old.orders behind.orders new.orders
    (one_sent P now (are_due (slice_get old.monitors (node - 1))) (piece_of now node old) old behind fits one)
    (lines_add P count now node behind new fits more)

-- a line goes out, and then those after it
pub write_more : (i count now node : ℕ) (old behind new : Driver) → i < count → WritesLine now node old behind → WriteLines (count - (i + 1)) now node behind new → WriteLines (count - i) now node old new
unfolding WriteLines
write_more i count now node old behind new within one more =
    let left : suc (count - (i + 1)) ≡ count - i = omega (arith, within) in
    subst (λ (left : ℕ). WriteLines left now node old new) left (behind, one, more)

-- no line is left
pub write_none : (i count now node : ℕ) (driver : Driver) → count ≤ i → WriteLines (count - i) now node driver driver
unfolding WriteLines
write_none i count now node driver over =
    let none : 0 ≡ count - i = omega (arith, over) in
    subst (λ (left : ℕ). WriteLines left now node driver driver) none refl

-- if nothing goes out any more, no more lines do
pub write_idle : (count now node : ℕ) (driver : Driver) → piece_of now node driver ≡ None → WriteLines count now node driver driver
unfolding WriteLines
write_idle zero now node driver none = refl
write_idle (suc count) now node driver none =
    let same : WritesLine now node driver driver =
    subst (λ (found : Option Piece). GoesOutIf now (are_due (slice_get driver.monitors (node - 1))) found driver driver) (sym none) refl
    in
    (driver, same, write_idle count now node driver none)

none_of : (found : Option Piece) → is_some found ≡ false → found ≡ None
none_of None is = refl
none_of (Some piece) is = absurd (cc is)

pub idle_same : (now : ℕ) (due : Bool) (found : Option Piece) (old new : Driver) → found ≡ None → GoesOutIf now due found old new → new ≡ old
idle_same now due None old new none same = same
idle_same now due (Some piece) old new none goes = absurd (cc none)

-- nothing goes out any more, and so it stays
pub write_last : (i count now node : ℕ) (old new : Driver) → i < count → is_some (piece_of now node old) ≡ false → WritesLine now node old new → WriteLines (count - i) now node old new
write_last i count now node old new within is one =
    let none : piece_of now node old ≡ None = none_of (piece_of now node old) is in
    let same : new ≡ old = idle_same now (are_due (slice_get old.monitors (node - 1))) (piece_of now node old) old new none one in
    write_more i count now node old new new within one
    (write_idle (count - (i + 1)) now node new (ap (λ (driver : Driver). piece_of now node driver) same ∙ none))
