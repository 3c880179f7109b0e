-- What is done with orders depends on what they do, a byte at a time.
use Rattle.std.proofs.Common.{◌≡◌, ◌∙◌, ◌==◌, ◌||◌, ℕ, Bool, true, false, cond, List, [], ◌∷◌, ◌++◌, map, refl, ap, subst, sym, Option}
use Rattle.std.specs.List.{list_any}
use Rattle.mio.specs.declared.net.stream.TcpStream.{TcpStream}
use Rattle.driver.specs.Deeds.{Byte, Deed, Done, deeds, deeds_of}
use Rattle.driver.specs.declared.order.Order.{Order}
use Rattle.driver.specs.declared.order.Order.TheVariants.{Submit, Write, Close, Connect, Send, Disconnect, Log}
use Rattle.bouncer_run.specs.declared.connection.Connection.{Connection}
use Rattle.bouncer_run.specs.declared.sockets.Sockets.{Sockets}
use Rattle.bouncer_run.specs.Deliveries.{AreDone, HasWritten, bytes_for, bytes_in, closes, guest_at}
use Rattle.bouncer_run.specs.Sendings.{Awaits, IsSent, sent_behind, sent_by}
use Rattle.bouncer_run.specs.Submissions.{TowerNote, note_in, notes_in}

-- the bytes for a client
abbrev byte_for : ℕ → ℕ → ℕ → List ℕ
byte_for number client byte = cond (client == number) (byte ∷ []) []

abbrev bytes_by : ℕ → List Deed → List ℕ
bytes_by number [] = []
bytes_by number (Byte client byte ∷ more) = byte_for number client byte ++ bytes_by number more
bytes_by number (Done order ∷ more) = cond (closes number order) [] (bytes_by number more)

-- of bytes to one client
written_here : (here : Bool) (byte : ℕ) (bytes more : List ℕ) → cond here (byte ∷ []) [] ++ (cond here bytes [] ++ more) ≡ cond here (byte ∷ bytes) [] ++ more
written_here true byte bytes more = refl
written_here false byte bytes more = refl

nothing_here : (here : Bool) (more : List ℕ) → more ≡ cond here [] [] ++ more
nothing_here true more = refl
nothing_here false more = refl

bytes_by_write : (number client : ℕ) (bytes : List ℕ) (more : List Deed) → bytes_by number (map (Byte client) bytes ++ more) ≡ cond (client == number) bytes [] ++ bytes_by number more
bytes_by_write number client [] more = nothing_here (client == number) (bytes_by number more)
bytes_by_write number client (byte ∷ bytes) more =
    ap (λ (l : List ℕ). byte_for number client byte ++ l) (bytes_by_write number client bytes more) ∙ written_here (client == number) byte bytes (bytes_by number more)

bytes_by_order : (number : ℕ) (order : Order) (more : List Deed) → bytes_by number (deeds_of order ++ more) ≡ cond (closes number order) [] (bytes_in number order ++ bytes_by number more)
bytes_by_order number (Submit node note) more = refl
bytes_by_order number (Write client bytes) more = bytes_by_write number client bytes.items more
bytes_by_order number (Close client) more = refl
bytes_by_order number Connect more = refl
bytes_by_order number (Send bytes) more = refl
bytes_by_order number Disconnect more = refl
bytes_by_order number (Log news) more = refl

bytes_by_all : (number : ℕ) (orders : List Order) → bytes_by number (deeds orders) ≡ bytes_for number orders
bytes_by_all number [] = refl
bytes_by_all number (order ∷ orders) =
    bytes_by_order number order (deeds orders) ∙ ap (λ (l : List ℕ). cond (closes number order) [] (bytes_in number order ++ l)) (bytes_by_all number orders)

-- whether a client is closed
abbrev closed_by : ℕ → List Deed → Bool
closed_by number [] = false
closed_by number (Byte client byte ∷ more) = closed_by number more
closed_by number (Done order ∷ more) = closes number order || closed_by number more

closed_by_write : (number client : ℕ) (bytes : List ℕ) (more : List Deed) → closed_by number (map (Byte client) bytes ++ more) ≡ closed_by number more
closed_by_write number client [] more = refl
closed_by_write number client (byte ∷ bytes) more = closed_by_write number client bytes more

closed_by_order : (number : ℕ) (order : Order) (more : List Deed) → closed_by number (deeds_of order ++ more) ≡ (closes number order || closed_by number more)
closed_by_order number (Submit node note) more = refl
closed_by_order number (Write client bytes) more = closed_by_write number client bytes.items more
closed_by_order number (Close client) more = refl
closed_by_order number Connect more = refl
closed_by_order number (Send bytes) more = refl
closed_by_order number Disconnect more = refl
closed_by_order number (Log news) more = refl

closed_by_all : (number : ℕ) (orders : List Order) → closed_by number (deeds orders) ≡ list_any (closes number) orders
closed_by_all number [] = refl
closed_by_all number (order ∷ orders) =
    closed_by_order number order (deeds orders) ∙ ap (λ (b : Bool). closes number order || b) (closed_by_all number orders)

-- the bytes for the server
abbrev sent_all : List Deed → Option (List ℕ) → Option (List ℕ)
sent_all [] waiting = waiting
sent_all (Byte client byte ∷ more) waiting = sent_all more waiting
sent_all (Done order ∷ more) waiting = sent_all more (sent_by order waiting)

sent_all_write : (client : ℕ) (bytes : List ℕ) (more : List Deed) (waiting : Option (List ℕ)) → sent_all (map (Byte client) bytes ++ more) waiting ≡ sent_all more waiting
sent_all_write client [] more waiting = refl
sent_all_write client (byte ∷ bytes) more waiting = sent_all_write client bytes more waiting

sent_all_order : (order : Order) (more : List Deed) (waiting : Option (List ℕ)) → sent_all (deeds_of order ++ more) waiting ≡ sent_all more (sent_by order waiting)
sent_all_order (Submit node note) more waiting = refl
sent_all_order (Write client bytes) more waiting = sent_all_write client bytes.items more waiting
sent_all_order (Close client) more waiting = refl
sent_all_order Connect more waiting = refl
sent_all_order (Send bytes) more waiting = refl
sent_all_order Disconnect more waiting = refl
sent_all_order (Log news) more waiting = refl

sent_all_orders : (orders : List Order) (waiting : Option (List ℕ)) → sent_all (deeds orders) waiting ≡ sent_behind orders waiting
sent_all_orders [] waiting = refl
sent_all_orders (order ∷ orders) waiting = sent_all_order order (deeds orders) waiting ∙ sent_all_orders orders (sent_by order waiting)

-- the notes
abbrev notes_by : List Deed → List (ℕ × TowerNote)
notes_by [] = []
notes_by (Byte client byte ∷ more) = notes_by more
notes_by (Done order ∷ more) = note_in order ++ notes_by more

notes_by_write : (client : ℕ) (bytes : List ℕ) (more : List Deed) → notes_by (map (Byte client) bytes ++ more) ≡ notes_by more
notes_by_write client [] more = refl
notes_by_write client (byte ∷ bytes) more = notes_by_write client bytes more

notes_by_order : (order : Order) (more : List Deed) → notes_by (deeds_of order ++ more) ≡ note_in order ++ notes_by more
notes_by_order (Submit node note) more = refl
notes_by_order (Write client bytes) more = notes_by_write client bytes.items more
notes_by_order (Close client) more = refl
notes_by_order Connect more = refl
notes_by_order (Send bytes) more = refl
notes_by_order Disconnect more = refl
notes_by_order (Log news) more = refl

notes_by_all : (orders : List Order) → notes_by (deeds orders) ≡ notes_in orders
notes_by_all [] = refl
notes_by_all (order ∷ orders) = notes_by_order order (deeds orders) ∙ ap (λ (l : List (ℕ × TowerNote)). note_in order ++ l) (notes_by_all orders)

-- orders that do the same
pub same_done : (given ordered : List Order) (old new : Sockets) → deeds given ≡ deeds ordered → AreDone given old new → AreDone ordered old new
same_done given ordered old new same done number =
    subst (λ (l : List ℕ). HasWritten l (list_any (closes number) ordered) (guest_at old number) (guest_at new number))
    (sym (bytes_by_all number given) ∙ (ap (λ (l : List Deed). bytes_by number l) same ∙ bytes_by_all number ordered))
    (subst (λ (b : Bool). HasWritten (bytes_for number given) b (guest_at old number) (guest_at new number))
    (sym (closed_by_all number given) ∙ (ap (λ (l : List Deed). closed_by number l) same ∙ closed_by_all number ordered)) (done number))

pub same_sent : (given ordered : List Order) (old new : Option (Connection TcpStream)) → deeds given ≡ deeds ordered → IsSent given old new → IsSent ordered old new
same_sent given ordered old new same sent waiting awaits =
    subst (λ (w : Option (List ℕ)). Awaits w new)
    (sym (sent_all_orders given waiting) ∙ (ap (λ (l : List Deed). sent_all l waiting) same ∙ sent_all_orders ordered waiting)) (sent waiting awaits)

pub same_notes : (given ordered : List Order) → deeds given ≡ deeds ordered → notes_in given ≡ notes_in ordered
same_notes given ordered same = sym (notes_by_all given) ∙ (ap (λ (l : List Deed). notes_by l) same ∙ notes_by_all ordered)
