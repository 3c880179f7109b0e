-- What orders do to a client, one after the other.
use Rattle.std.proofs.Common.{◌≡◌, ◌≤◌, ℕ, ◌+◌, ◌==◌, ◌||◌, max, Bool, true, false, nat_le, cond, List, [], ◌∷◌, ◌++◌, length, refl, sym, ap, ◌∙◌, subst, append_assoc, Option, Some, None, arith}
use Rattle.std.proofs.lemmas.Bool.{eq-eqb, eqb-true}
use Rattle.std.proofs.lemmas.List.{append-nil, length-append}
use Rattle.std.proofs.Math.Nat.{le-max_right}
use Rattle.std.specs.Global.{Vec}
use Rattle.std.specs.List.{list_any}
use Rattle.driver.specs.declared.order.Order.{Order}
use Rattle.driver.specs.declared.order.Order.TheVariants.{Write}
use Rattle.bouncer_run.specs.declared.connection.Phase.{Phase}
use Rattle.bouncer_run.specs.declared.connection.Phase.TheVariants.{Open, Ending}
use Rattle.bouncer_run.specs.declared.connection.TheConstants.{MOST_UNSENT}
use Rattle.bouncer_run.specs.declared.guest.Guest.{Guest}
use Rattle.bouncer_run.specs.declared.sockets.Sockets.{Sockets}
use Rattle.bouncer_run.specs.Connections.{gathered, is_ending, may_wait}
use Rattle.bouncer_run.specs.Deliveries.{AreDone, AreOthersSame, HasWritten, IsWritten, bytes_for, bytes_in, closes, guest_at, with_waiting}

-- after bytes that may wait, more are too many, or they are too many at once
full_behind : (m a b c : ℕ) → nat_le (a + b) m ≡ false → nat_le (a + (b + c)) m ≡ false
full_behind m a b c h = grind arith

full_both : (m a b c : ℕ) → nat_le (a + b + c) m ≡ false → nat_le (a + (b + c)) m ≡ false
full_both m a b c h = grind arith

few_both : (m a b c : ℕ) → b ≤ max m a → c ≤ max m b → c ≤ max m a
few_both m a b c h g = grind arith

-- the bytes of the second part count if the first does not close
abbrev pub behind : Bool → List ℕ → List ℕ
behind true bytes = []
behind false bytes = bytes

-- too much would wait already after the first part
falls_first : (p : Phase) (w first more : List ℕ) → may_wait p w first ≡ false → may_wait p w (first ++ more) ≡ false
falls_first Open w first more h = ap (λ (n : ℕ). nat_le (length w + n) MOST_UNSENT) (length-append first more) ∙ full_behind MOST_UNSENT (length w) (length first) (length more) h
falls_first (Ending since) w first more h = h

-- or after the second
falls_second : (p q : Phase) (closed : Bool) (w v first more : List ℕ) → is_ending q ≡ (is_ending p || closed) → v ≡ gathered p w first → may_wait q v more ≡ false → may_wait p w (first ++ behind closed more) ≡ false
falls_second p (Ending since) closed w v first more e g h = absurd (cc h)
falls_second (Ending since) Open closed w v first more e g h = absurd (cc e)
falls_second Open Open true w v first more e g h = absurd (cc e)
falls_second Open Open false w v first more e g h =
    ap (λ (n : ℕ). nat_le (length w + n) MOST_UNSENT) (length-append first more)
    ∙ full_both MOST_UNSENT (length w) (length first) (length more) (ap (λ (n : ℕ). nat_le (n + length more) MOST_UNSENT) (sym (length-append w first) ∙ ap (λ (l : List ℕ). length l) (sym g)) ∙ h)

-- what waits after both parts
waits_both : (p q : Phase) (closed : Bool) (w v u first more : List ℕ) → is_ending q ≡ (is_ending p || closed) → v ≡ gathered p w first → u ≡ gathered q v more → u ≡ gathered p w (first ++ behind closed more)
waits_both (Ending since) Open closed w v u first more e g h = absurd (cc e)
waits_both (Ending since) (Ending at) closed w v u first more e g h = h ∙ g
waits_both Open Open true w v u first more e g h = absurd (cc e)
waits_both Open (Ending at) false w v u first more e g h = absurd (cc e)
waits_both Open (Ending at) true w v u first more e g h = h ∙ g ∙ ap (λ (l : List ℕ). w ++ l) (sym (append-nil first))
waits_both Open Open false w v u first more e g h = h ∙ ap (λ (l : List ℕ). l ++ more) g ∙ append_assoc w first more

or_false : (b : Bool) → (b || false) ≡ b
or_false true = refl
or_false false = refl

gathered_none : (p : Phase) (w : List ℕ) → gathered p w [] ≡ w
gathered_none Open w = append-nil w
gathered_none (Ending since) w = refl

or_or : (a b c : Bool) → ((a || b) || c) ≡ (a || (b || c))
or_or true b c = refl
or_or false b c = refl

written_both : (first more : List ℕ) (closed over : Bool) (old mid new : Guest) → IsWritten first closed old mid → IsWritten more over mid new → IsWritten (first ++ behind closed more) (closed || over) old new
written_both first more closed over old mid new g h = record {
  waits = waits_both old.connection.phase mid.connection.phase closed old.connection.unsent mid.connection.unsent new.connection.unsent first more g.ending g.waits h.waits;
  few = few_both MOST_UNSENT (length old.connection.unsent) (length mid.connection.unsent) (length new.connection.unsent) g.few h.few;
  ending = h.ending ∙ ap (λ (b : Bool). b || over) g.ending ∙ or_or (is_ending old.connection.phase) closed over;
  rest = h.rest ∙ ap (λ (guest : Guest). with_waiting guest new.stage new.connection.unsent new.connection.phase) g.rest;
}

both : (first more : List ℕ) (closed over : Bool) (a b c : Option Guest) → HasWritten first closed a b → HasWritten more over b c → HasWritten (first ++ behind closed more) (closed || over) a c
both first more closed over None None c g h = h
both first more closed over None (Some mid) c g h = absurd (cc g)
both first more closed over (Some old) None None g h = falls_first old.connection.phase old.connection.unsent first (behind closed more) g
both first more closed over (Some old) None (Some new) g h = absurd (cc h)
both first more closed over (Some old) (Some mid) None g h =
    falls_second old.connection.phase mid.connection.phase closed old.connection.unsent mid.connection.unsent first more g.ending g.waits h
both first more closed over (Some old) (Some mid) (Some new) g h = written_both first more closed over old mid new g h

-- the bytes of one more order
bytes_both : (closed : Bool) (first more : List ℕ) → (cond closed [] (first ++ [])) ++ behind (closed || false) more ≡ cond closed [] (first ++ more)
bytes_both true first more = refl
bytes_both false first more = ap (λ (l : List ℕ). l ++ more) (append-nil first)

closed_both : (closed over : Bool) → ((closed || false) || over) ≡ (closed || over)
closed_both true over = refl
closed_both false over = refl

-- what one order does to a client, and then more
one_more : (number : ℕ) (order : Order) (orders : List Order) (a b c : Option Guest) → HasWritten (bytes_for number (order ∷ [])) (list_any (closes number) (order ∷ [])) a b → HasWritten (bytes_for number orders) (list_any (closes number) orders) b c → HasWritten (bytes_for number (order ∷ orders)) (list_any (closes number) (order ∷ orders)) a c
one_more number order orders a b c g h =
    let closed : Bool = closes number order in
    let over : Bool = list_any (closes number) orders in
    let more : List ℕ = bytes_for number orders in
    subst (λ (l : List ℕ). HasWritten l (closed || over) a c) (bytes_both closed (bytes_in number order) more)
    (subst (λ (k : Bool). HasWritten (bytes_for number (order ∷ []) ++ behind (closed || false) more) k a c) (closed_both closed over)
    (both (bytes_for number (order ∷ [])) more (closed || false) over a b c g h))

-- one order is done, and then more are
pub one_done : (order : Order) (orders : List Order) (old mid new : Sockets) → AreDone (order ∷ []) old mid → AreDone orders mid new → AreDone (order ∷ orders) old new
one_done order orders old mid new g h number = one_more number order orders (guest_at old number) (guest_at mid number) (guest_at new number) (g number) (h number)

-- nothing is written, and a client is as it was
same : (a : Option Guest) → HasWritten [] false a a
same None = refl
same (Some guest) = record {
  waits = sym (gathered_none guest.connection.phase guest.connection.unsent);
  few = le-max_right MOST_UNSENT (length guest.connection.unsent);
  ending = sym (or_false (is_ending guest.connection.phase));
  rest = refl;
}

-- once no order is left
pub none_done : (orders : List Order) (new : Sockets) → orders ≡ [] → AreDone orders new new
none_done orders new none = subst (λ (l : List Order). AreDone l new new) (sym none) (λ number. same (guest_at new number))

-- for an order to write: what its client is written, and what others are
write_by : (here : Bool) (bytes : List ℕ) (a b : Option Guest) → (here ≡ true → HasWritten bytes false a b) → (here ≡ false → b ≡ a) → HasWritten (cond here bytes [] ++ []) false a b
write_by true bytes a b client others = subst (λ (l : List ℕ). HasWritten l false a b) (sym (append-nil bytes)) (client refl)
write_by false bytes a b client others = subst (λ (g : Option Guest). HasWritten [] false a g) (sym (others refl)) (same a)

pub write_done : (order : Order) (number : ℕ) (bytes : Vec ℕ) (sent : List ℕ) (old new : Sockets) → order ≡ Write number bytes → sent ≡ bytes.items → HasWritten sent false (guest_at old number) (guest_at new number) → AreOthersSame number old new → AreDone (order ∷ []) old new
write_done order number bytes sent old new is all client others =
    subst (λ (o : Order). AreDone (o ∷ []) old new) (sym is) (λ other.
    write_by (number == other) bytes.items (guest_at old other) (guest_at new other)
    (λ t. subst (λ (n : ℕ). HasWritten bytes.items false (guest_at old n) (guest_at new n)) (eqb-true number other t)
    (subst (λ (l : List ℕ). HasWritten l false (guest_at old number) (guest_at new number)) all client))
    (λ f. others other (λ e. absurd (cc (sym f ∙ eq-eqb number other e)))))
