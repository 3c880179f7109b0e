-- What clients order, and that the gate of each has had some calls, whatever happens to them.
use Rattle.std.proofs.Common.{◌≡◌, ◌∙◌, ◌++◌, ℕ, Bool, true, false, List, [], ◌∷◌, Option, Some, None, refl, sym, ap, subst, ⊎_elim, arith}
use Rattle.std.specs.Prelude.{◌&&◌, if◌then◌else◌}
use Rattle.std.proofs.lemmas.Bool.{cases_lt}
use Rattle.std.proofs.lemmas.List.{append_assoc, append-nil}
use Rattle.wire_bytes.specs.declared.moment.Moment.{Moment}
use Rattle.wire_bytes.specs.declared.origin.Origin.{Origin}
use Rattle.client_gate.specs.declared.settings.Settings.{Settings}
use Rattle.client_gate.specs.Calls.{Call, Stands, gate}
use Rattle.client_gate.specs.Gates.{last_request}
use Rattle.driver.specs.declared.absence.Absence.{Absence}
use Rattle.driver.specs.declared.client.Client.{Client}
use Rattle.driver.specs.declared.clients.Clients.{Clients}
use Rattle.driver.specs.declared.order.Order.{Order}
use Rattle.driver.specs.declared.order.Order.TheVariants.{Close, Write}
use Rattle.driver.specs.Asking.{is_idle}
use Rattle.driver.specs.Clients.{is_leaving, left_news, parting_unless}
use Rattle.driver.specs.Crowds.{CutEach, CutsClient, DismissEach, DismissesClient, IsSame, LeaveEach, LeavesClient, TickEach, TicksClient, Told, WordEach, WordsClient, is_below, is_of}
use Rattle.driver.specs.Leaving.{is_overdue}
use Rattle.driver.specs.Once.{IsFor, TellsOnly}
use Rattle.driver.specs.Outages.{IsToldIf}
use Rattle.driver.specs.Rosters.{AreOthersSame, Serves, client_at, kept}
use Rattle.driver.specs.Silence.{is_to_go, waited}
use Rattle.driver.specs.Telling.{Ordered, ordered}
use Rattle.driver.proofs.Owning.{dismissed_own, ticks_own, words_own}
use Rattle.driver.proofs.OwnOrders.{Owns, only_left, only_parting}

-- all orders are of this kind
unfoldable pub AllAre : (Order → Type 0) → List Order → Type 0
AllAre P [] = Unit {0}
AllAre P (order ∷ more) = P order × AllAre P more

pub all_append : (P : Order → Type 0) (xs ys : List Order) → AllAre P xs → AllAre P ys → AllAre P (xs ++ ys)
unfolding AllAre
all_append P [] ys first last = last
all_append P (x ∷ xs) ys (is, first) last = (is, all_append P xs ys first last)

-- orders of a client are of this kind if each order of it is
pub only_all_are : (P : Order → Type 0) (origin : Origin) (told : List Order) → ((order : Order) → IsFor origin order → P order) → TellsOnly origin told → AllAre P told
unfolding AllAre TellsOnly
only_all_are P origin [] fits own = tt
only_all_are P origin (order ∷ more) fits (is, own) = (fits order is, only_all_are P origin more fits own)

-- The gate of a client has had some calls, and its orders are of this kind.
pub record Good (P : Order → Type 0) (c : Client) : Type 0 where
  pub settings : Settings
  pub calls : List Call
  pub stands : Stands settings calls c.gate
  pub fits : (order : Order) → IsFor c.origin order → P order

abbrev pub AllGood : (Order → Type 0) → Clients → Type 0
AllGood P clients = (number : ℕ) (c : Client) → client_at clients number ≡ Some c → Good P c

-- More is ordered, all of this kind, and the clients stay as they have to be.
pub record Grows (P : Order → Type 0) (old new : Told) : Type 0 where
  pub told : List Order
  pub orders : new.orders ≡ ordered old.orders told
  pub all : AllAre P told
  pub good : AllGood P new.clients

pub same_grows : (P : Order → Type 0) (old new : Told) → AllGood P old.clients → IsSame old new → Grows P old new
unfolding AllAre
same_grows P old new good (same, none) = record {
  told = [];
  orders = none ∙ sym (ap (λ (items : List Order). record old.orders { items = items }) (append-nil old.orders.items));
  all = tt;
  good = subst (λ (clients : Clients). AllGood P clients) (sym same) good;
}

pub grows_both : (P : Order → Type 0) (old behind new : Told) → Grows P old behind → Grows P behind new → Grows P old new
grows_both P old behind new first last = record {
  told = first.told ++ last.told;
  orders =
      last.orders
      ∙ ap (λ (orders : Ordered). ordered orders last.told) first.orders
      ∙ ap (λ (items : List Order). record old.orders { items = items }) (append_assoc old.orders.items first.told last.told);
  all = all_append P first.told last.told first.all last.all;
  good = last.good;
}

-- a number is another one, or the same
pub by_number : (a b : ℕ) (P : Type 0) → (a ≡ b → P) → ((a ≡ b → ⊥) → P) → P
by_number a b P same other =
    ⊎_elim
    (λ h. other (λ e. omega (arith, h, e)))
    (λ le.
    ⊎_elim
    (λ h. other (λ e. omega (arith, h, e)))
    (λ ge. same (omega (arith, le, ge)))
    (cases_lt b a))
    (cases_lt a b)

abbrev pub or_this : Client → Option Client → Client
or_this c None = c
or_this c (Some d) = d

pub none_some : (c : Client) (P : Type 0) → None ≡ Some c → P
none_some c P is = absurd (cc is)

-- a client that is kept is that one
kept_is : (over : Bool) (c d : Client) → (if over then None else Some c) ≡ Some d → c ≡ d
kept_is true c d is = none_some d (c ≡ d) is
kept_is false c d is = ap (or_this c) is

pub good_as : (P : Order → Type 0) (c d : Client) → c ≡ d → Good P c → Good P d
good_as P c d same good = subst (λ (client : Client). Good P client) same good

-- One client became another, and the rest stay.
pub one_good : (P : Order → Type 0) (number : ℕ) (old new : Clients) (s : Settings) (calls : List Call) (client : Client) → AllGood P old → AreOthersSame number old new → Good P client → client_at new number ≡ kept s calls client → AllGood P new
one_good P number old new s calls client good others is kept n c found =
    by_number number n (Good P c)
    (λ same.
    let at_number = subst (λ (n : ℕ). client_at new n ≡ Some c) (sym same) found in
    good_as P client c (kept_is (client.is_gone && is_idle (gate s calls).waiting) client c (sym kept ∙ at_number)) is)
    (λ apart. good n c (sym (others n apart) ∙ found))

pub one_grows : (P : Order → Type 0) (number : ℕ) (meant : Client → Type 0) (happens : Settings → List Call → Client → Client → Type 0) (old new : Told) (c : Client) → client_at old.clients number ≡ Some c → meant c → AllGood P old.clients → AreOthersSame number old.clients new.clients → Serves meant happens number new.clients → ((s : Settings) (calls : List Call) (client : Client) → Stands s calls c.gate → happens s calls c client → Owns s c old.orders client new.orders) → Grows P old new
one_grows P number meant happens old new c found is good others serves own =
    let g = good number c found in
    let b = serves g.settings g.calls c is g.stands in
    let o = own g.settings g.calls b.client g.stands b.happened in
    let client : Good P b.client = record {
      settings = g.settings;
      calls = o.behind;
      stands = o.stands;
      fits = λ order own. g.fits order (subst (λ (origin : Origin). IsFor origin order) o.origin own);
    } in
    record {
      told = o.told;
      orders = o.orders;
      all = only_all_are P c.origin o.told g.fits o.own;
      good = one_good P number old.clients new.clients g.settings o.behind b.client good others client (b.is_kept o.behind o.stands);
    }

-- Time passes for clients.
tick_by : (P : Order → Type 0) (at : Moment) (timeout now : ℕ) (monitors : List _) (number : ℕ) (found : Option Client) (old new : Told) → client_at old.clients number ≡ found → AllGood P old.clients → TicksClient at timeout now monitors number old new → Grows P old new
tick_by P at timeout now monitors number None old new is good t = same_grows P old new good (t.nobody is)
tick_by P at timeout now monitors number (Some c) old new is good t =
    one_grows P number _ _ old new c is is good t.others t.served
    (λ s calls client stands h.
    ticks_own (is_overdue c now) h.reads (is_to_go (waited h.reads now c) now) timeout now at s calls c client old.orders new.orders refl refl stands h.ticks)

pub ticks_grow : (P : Order → Type 0) (at : Moment) (timeout now : ℕ) (monitors : List _) (numbers : List ℕ) (old new : Told) → AllGood P old.clients → TickEach at timeout now monitors numbers old new → Grows P old new
unfolding TickEach
ticks_grow P at timeout now monitors [] old new good same =
    same_grows P old new good (ap (λ (told : Told). told.clients) same, ap (λ (told : Told). told.orders) same)
ticks_grow P at timeout now monitors (number ∷ numbers) old new good (behind, ticks, more) =
    let first = tick_by P at timeout now monitors number (client_at old.clients number) old behind refl good ticks in
    grows_both P old behind new first (ticks_grow P at timeout now monitors numbers behind new first.good more)

-- A node reports what may be lost.
word_of : (P : Order → Type 0) (at : Moment) (now node lost : ℕ) (refused : Bool) (number : ℕ) (c : Client) (own : Bool) (old new : Told) → client_at old.clients number ≡ Some c → is_of c.origin node ≡ own → AllGood P old.clients → WordsClient at now node lost refused number old new → Grows P old new
word_of P at now node lost refused number c false old new is own good w = same_grows P old new good (w.stays c is own)
word_of P at now node lost refused number c true old new is own good w =
    one_grows P number _ _ old new c is (is, own) good w.others w.served
    (λ s calls client stands h. words_own lost refused now at s calls c client old.orders new.orders stands h)

word_by : (P : Order → Type 0) (at : Moment) (now node lost : ℕ) (refused : Bool) (number : ℕ) (found : Option Client) (old new : Told) → client_at old.clients number ≡ found → AllGood P old.clients → WordsClient at now node lost refused number old new → Grows P old new
word_by P at now node lost refused number None old new is good w = same_grows P old new good (w.nobody is)
word_by P at now node lost refused number (Some c) old new is good w =
    word_of P at now node lost refused number c (is_of c.origin node) old new is refl good w

pub words_grow : (P : Order → Type 0) (at : Moment) (now node lost : ℕ) (refused : Bool) (numbers : List ℕ) (old new : Told) → AllGood P old.clients → WordEach at now node lost refused numbers old new → Grows P old new
unfolding WordEach
words_grow P at now node lost refused [] old new good same =
    same_grows P old new good (ap (λ (told : Told). told.clients) same, ap (λ (told : Told). told.orders) same)
words_grow P at now node lost refused (number ∷ numbers) old new good (behind, words, more) =
    let first = word_by P at now node lost refused number (client_at old.clients number) old behind refl good words in
    grows_both P old behind new first (words_grow P at now node lost refused numbers behind new first.good more)

-- A client of a number that is gone leaves the others as they are.
gone_good : (P : Order → Type 0) (number : ℕ) (old new : Clients) → AllGood P old → AreOthersSame number old new → client_at new number ≡ None → AllGood P new
gone_good P number old new good others gone n c found =
    by_number number n (Good P c)
    (λ same. none_some c (Good P c) (sym gone ∙ subst (λ (n : ℕ). client_at new n ≡ Some c) (sym same) found))
    (λ apart. good n c (sym (others n apart) ∙ found))

-- Clients of runs that are over are closed.
leave_of : (P : Order → Type 0) (at : Moment) (node boot number : ℕ) (c : Client) (below : Bool) (old new : Told) → client_at old.clients number ≡ Some c → is_below c.origin node boot ≡ below → AllGood P old.clients → LeavesClient at node boot number old new → Grows P old new
leave_of P at node boot number c false old new is below good l = same_grows P old new good (l.stays c is below)
leave_of P at node boot number c true old new is below good l =
    let g = good number c is in
    let last = last_request (gate g.settings g.calls) in
    record {
      told = parting_unless c.is_gone c.is_attached c.origin at last;
      orders = l.orders g.settings g.calls c is below g.stands;
      all = only_all_are P c.origin (parting_unless c.is_gone c.is_attached c.origin at last) g.fits (only_parting c.is_gone c.is_attached c.origin at last);
      good = gone_good P number old.clients new.clients good l.others (l.leaves c is below);
    }

leave_by : (P : Order → Type 0) (at : Moment) (node boot number : ℕ) (found : Option Client) (old new : Told) → client_at old.clients number ≡ found → AllGood P old.clients → LeavesClient at node boot number old new → Grows P old new
leave_by P at node boot number None old new is good l = same_grows P old new good (l.nobody is)
leave_by P at node boot number (Some c) old new is good l = leave_of P at node boot number c (is_below c.origin node boot) old new is refl good l

pub leaves_grow : (P : Order → Type 0) (at : Moment) (node boot : ℕ) (numbers : List ℕ) (old new : Told) → AllGood P old.clients → LeaveEach at node boot numbers old new → Grows P old new
unfolding LeaveEach
leaves_grow P at node boot [] old new good same =
    same_grows P old new good (ap (λ (told : Told). told.clients) same, ap (λ (told : Told). told.orders) same)
leaves_grow P at node boot (number ∷ numbers) old new good (behind, leaves, more) =
    let first = leave_by P at node boot number (client_at old.clients number) old behind refl good leaves in
    grows_both P old behind new first (leaves_grow P at node boot numbers behind new first.good more)

-- Clients of a node that serves nobody are cut off.
cut_told : (P : Order → Type 0) (why : Absence) (gone : Bool) (c : Client) (old new : Told) → Good P c → AllGood P new.clients → IsToldIf gone why c old.orders new.orders → Grows P old new
unfolding AllAre
cut_told P why true c old new g good none = record {
  told = [];
  orders = none ∙ sym (ap (λ (items : List Order). record old.orders { items = items }) (append-nil old.orders.items));
  all = tt;
  good = good;
}
cut_told P why false c old new g good (line, says, orders) = record {
  told = Write c.origin.2 line ∷ Close c.origin.2 ∷ left_news c.is_attached c.origin;
  orders = orders;
  all = (
    g.fits (Write c.origin.2 line) refl,
    (g.fits (Close c.origin.2) refl, only_all_are P c.origin (left_news c.is_attached c.origin) g.fits (only_left c.is_attached c.origin)),
  );
  good = good;
}

cut_of : (P : Order → Type 0) (why : Absence) (node number : ℕ) (c : Client) (own : Bool) (old new : Told) → client_at old.clients number ≡ Some c → is_of c.origin node ≡ own → AllGood P old.clients → CutsClient why node number old new → Grows P old new
cut_of P why node number c false old new is own good u = same_grows P old new good (u.stays c is own)
cut_of P why node number c true old new is own good u =
    cut_told P why c.is_gone c old new (good number c is) (gone_good P number old.clients new.clients good u.others (u.leaves c is own)) (u.told c is own)

cut_by : (P : Order → Type 0) (why : Absence) (node number : ℕ) (found : Option Client) (old new : Told) → client_at old.clients number ≡ found → AllGood P old.clients → CutsClient why node number old new → Grows P old new
cut_by P why node number None old new is good u = same_grows P old new good (u.nobody is)
cut_by P why node number (Some c) old new is good u = cut_of P why node number c (is_of c.origin node) old new is refl good u

pub cuts_grow : (P : Order → Type 0) (why : Absence) (node : ℕ) (numbers : List ℕ) (old new : Told) → AllGood P old.clients → CutEach why node numbers old new → Grows P old new
unfolding CutEach
cuts_grow P why node [] old new good same =
    same_grows P old new good (ap (λ (told : Told). told.clients) same, ap (λ (told : Told). told.orders) same)
cuts_grow P why node (number ∷ numbers) old new good (behind, cuts, more) =
    let first = cut_by P why node number (client_at old.clients number) old behind refl good cuts in
    grows_both P old behind new first (cuts_grow P why node numbers behind new first.good more)

-- Clients are to leave.
dismiss_by : (P : Order → Type 0) (at : Moment) (now number : ℕ) (found : Option Client) (old new : Told) → client_at old.clients number ≡ found → AllGood P old.clients → DismissesClient at now number old new → Grows P old new
dismiss_by P at now number None old new is good d = same_grows P old new good (d.nobody is)
dismiss_by P at now number (Some c) old new is good d =
    one_grows P number _ _ old new c is is good d.others d.served
    (λ s calls client stands h. dismissed_own (is_leaving c) now at s calls c client old.orders new.orders refl stands h)

pub dismisses_grow : (P : Order → Type 0) (at : Moment) (now : ℕ) (numbers : List ℕ) (old new : Told) → AllGood P old.clients → DismissEach at now numbers old new → Grows P old new
unfolding DismissEach
dismisses_grow P at now [] old new good same =
    same_grows P old new good (ap (λ (told : Told). told.clients) same, ap (λ (told : Told). told.orders) same)
dismisses_grow P at now (number ∷ numbers) old new good (behind, dismisses, more) =
    let first = dismiss_by P at now number (client_at old.clients number) old behind refl good dismisses in
    grows_both P old behind new first (dismisses_grow P at now numbers behind new first.good more)
