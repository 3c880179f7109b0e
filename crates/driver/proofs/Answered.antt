-- What a client is answered to words to the bouncer: all of it is written to that client.
use Rattle.std.proofs.Common.{◌≡◌, ◌∙◌, ℕ, ◌+◌, ◌-◌, Bool, true, false, List, [], ◌∷◌, length, Option, Some, None, refl, sym, ap, subst, arith}
use Rattle.std.specs.Prelude.{◌^◌, ◌||◌, min}
use Rattle.std.specs.BTreeMap.{keys}
use Rattle.std.specs.List.{list_any}
use Rattle.std.specs.Global.{Vec}
use Rattle.client_gate.specs.declared.status_word.StatusWord.{StatusWord}
use Rattle.client_gate.specs.declared.status_word.StatusWord.TheVariants as word
use Rattle.driver.specs.declared.client.Client.{Client}
use Rattle.driver.specs.declared.clients.Clients.{Clients}
use Rattle.driver.specs.declared.driver.Driver.{Driver}
use Rattle.driver.specs.declared.order.Order.{Order}
use Rattle.driver.specs.declared.order.Order.TheVariants.{Write}
use Rattle.driver.specs.Answering.{Answers, AnswersAll, AnswersIf, AnswersGoToWhoAsks, AreTold, AreWrites, ChangesJust, IsListed, IsListedIf, IsWrite, ListEach, answered_as, help_texts, is_drop}
use Rattle.driver.specs.Dropping.{DropsSaid, MayWait, drop_words, dropped_as, dropped_in, waiting_left}
use Rattle.driver.specs.Outgoing.{Waiting, nothing_waits, without_said}
use Rattle.driver.specs.Nicks.{IsWritten, is_reached, nick_in, notice}
use Rattle.driver.specs.Rosters.{client_at}
use Rattle.driver.specs.Telling.{Ordered}
use Rattle.driver.proofs.Adding.{Adds, adds_both, nothing_adds, written_if}
use Rattle.driver.proofs.Growing.{AllAre, or_this}

-- what is written to the client that was found is of this kind
abbrev pub Fits : (Order → Type 0) → Option Client → Type 0
Fits P found = (c : Client) → found ≡ Some c → (line : Vec ℕ) → P (Write c.origin.2 line)

written_one : (P : Order → Type 0) (found : Option Client) (text : List ℕ) (before after : Ordered) → Fits P found → IsWritten found text before after → Adds P before after
written_one P None text before after fits none = nothing_adds P before after none
written_one P (Some c) text before after fits w = written_if P (is_reached c) c.origin.2 text before after (fits c refl) w

texts_add : (P : Order → Type 0) (texts : List (List ℕ)) (found : Option Client) (nick : List ℕ) (before after : Ordered) → Fits P found → AreTold texts found nick before after → Adds P before after
unfolding AreTold
texts_add P [] found nick before after fits none = nothing_adds P before after none
texts_add P (text ∷ texts) found nick before after fits (behind, first, more) =
    adds_both P before behind after (written_one P found (notice nick text) before behind fits first) (texts_add P texts found nick behind after fits more)

listed_if : (P : Order → Type 0) (reached : Bool) (client : Client) (found : Option Client) (nick : List ℕ) (before after : Ordered) → Fits P found → IsListedIf reached client found nick before after → Adds P before after
listed_if P false client found nick before after fits none = nothing_adds P before after none
listed_if P true client found nick before after fits w = written_one P found _ before after fits w

listed_by : (P : Order → Type 0) (listed found : Option Client) (nick : List ℕ) (before after : Ordered) → Fits P found → IsListed listed found nick before after → Adds P before after
listed_by P None found nick before after fits none = nothing_adds P before after none
listed_by P (Some client) found nick before after fits w = listed_if P (is_reached client) client found nick before after fits w

list_adds : (P : Order → Type 0) (numbers : List ℕ) (clients : Clients) (found : Option Client) (nick : List ℕ) (before after : Ordered) → Fits P found → ListEach numbers clients found nick before after → Adds P before after
unfolding ListEach
list_adds P [] clients found nick before after fits none = nothing_adds P before after none
list_adds P (number ∷ numbers) clients found nick before after fits (behind, first, more) =
    adds_both P before behind after (listed_by P (client_at clients number) found nick before behind fits first) (list_adds P numbers clients found nick behind after fits more)

answer_adds : (P : Order → Type 0) (word : StatusWord) (now number : ℕ) (old new : Driver) → Fits P (client_at old.clients number) → Answers word now number old new → Adds P old.orders new.orders
answer_adds P word.Help now number old new fits a =
    texts_add P help_texts (client_at old.clients number) (nick_in old) old.orders new.orders fits a.told
answer_adds P word.Unknown now number old new fits a =
    texts_add P help_texts (client_at old.clients number) (nick_in old) old.orders new.orders fits a.told
answer_adds P word.Status now number old new fits a =
    adds_both P old.orders a.told.stood new.orders
    (texts_add P _ (client_at old.clients number) (nick_in old) old.orders a.told.stood fits a.told.stands)
    (list_adds P (keys old.clients.all) old.clients (client_at old.clients number) (nick_in old) a.told.stood new.orders fits a.told.lists)
answer_adds P word.Clients now number old new fits a =
    list_adds P (keys old.clients.all) old.clients (client_at old.clients number) (nick_in old) old.orders new.orders fits a.told
answer_adds P word.DropWaiting now number old new fits a =
    texts_add P (drop_words a.drops.waits ∷ []) (client_at old.clients number) (nick_in old) old.orders new.orders fits a.told

-- What a word changes.

told_rest : (old new : Driver) → new ≡ record old { orders = new.orders } → new ≡ answered_as new old
told_rest old new is = subst (λ (driver : Driver). driver ≡ answered_as driver old) (sym is) refl

drops_rest : (old new : Driver) (waits : Bool) → new ≡ dropped_as waits new old → new ≡ answered_as new old
drops_rest old new true is = subst (λ (driver : Driver). driver ≡ answered_as driver old) (sym is) refl
drops_rest old new false is = subst (λ (driver : Driver). driver ≡ answered_as driver old) (sym is) refl

pub answer_rest : (word : StatusWord) (now number : ℕ) (old new : Driver) → Answers word now number old new → new ≡ answered_as new old
answer_rest word.Help now number old new a = told_rest old new a.rest
answer_rest word.Unknown now number old new a = told_rest old new a.rest
answer_rest word.Status now number old new a = told_rest old new a.rest
answer_rest word.Clients now number old new a = told_rest old new a.rest
answer_rest word.DropWaiting now number old new a = drops_rest old new a.drops.waits a.drops.rest

pub rest_both : (old behind new : Driver) → behind ≡ answered_as behind old → new ≡ answered_as new behind → new ≡ answered_as new old
rest_both old behind new first more = more ∙ ap (answered_as new) first

answers_add : (P : Order → Type 0) (words : List StatusWord) (now number : ℕ) (old new : Driver) → Fits P (client_at old.clients number) → AnswersAll words now number old new → Adds P old.orders new.orders
unfolding AnswersAll
answers_add P [] now number old new fits same = nothing_adds P old.orders new.orders (ap (λ (driver : Driver). driver.orders) same)
answers_add P (word ∷ words) now number old new fits (behind, first, more) =
    adds_both P old.orders behind.orders new.orders (answer_adds P word now number old behind fits first)
    (answers_add P words now number behind new
    (subst (λ (clients : Clients). Fits P (client_at clients number)) (sym (ap (λ (driver : Driver). driver.clients) (answer_rest word now number old behind first))) fits) more)

pub answers_add_if : (P : Order → Type 0) (attached : Bool) (words : List StatusWord) (now number : ℕ) (old new : Driver) → Fits P (client_at old.clients number) → AnswersIf attached words now number old new → Adds P old.orders new.orders
answers_add_if P false words now number old new fits same = nothing_adds P old.orders new.orders (ap (λ (driver : Driver). driver.orders) same)
answers_add_if P true words now number old new fits all = answers_add P words now number old new fits all

-- Nothing waits if nothing did.

left_empty : (waits : Bool) (waiting : Waiting) → waiting ≡ nothing_waits → waiting_left waits waiting ≡ nothing_waits
left_empty true waiting is = ap without_said is
left_empty false waiting is = is

answer_empty : (word : StatusWord) (now number : ℕ) (old new : Driver) → Answers word now number old new → old.link.waiting ≡ nothing_waits → new.link.waiting ≡ nothing_waits
answer_empty word.Help now number old new a is = ap (λ (driver : Driver). driver.link.waiting) a.rest ∙ is
answer_empty word.Unknown now number old new a is = ap (λ (driver : Driver). driver.link.waiting) a.rest ∙ is
answer_empty word.Status now number old new a is = ap (λ (driver : Driver). driver.link.waiting) a.rest ∙ is
answer_empty word.Clients now number old new a is = ap (λ (driver : Driver). driver.link.waiting) a.rest ∙ is
answer_empty word.DropWaiting now number old new a is =
    ap (λ (driver : Driver). driver.link.waiting) a.drops.rest ∙ left_empty a.drops.waits old.link.waiting is

answers_empty : (words : List StatusWord) (now number : ℕ) (old new : Driver) → AnswersAll words now number old new → old.link.waiting ≡ nothing_waits → new.link.waiting ≡ nothing_waits
unfolding AnswersAll
answers_empty [] now number old new same is = ap (λ (driver : Driver). driver.link.waiting) same ∙ is
answers_empty (word ∷ words) now number old new (behind, first, more) is =
    answers_empty words now number behind new more (answer_empty word now number old behind first is)

pub answers_empty_if : (attached : Bool) (words : List StatusWord) (now number : ℕ) (old new : Driver) → AnswersIf attached words now number old new → old.link.waiting ≡ nothing_waits → new.link.waiting ≡ nothing_waits
answers_empty_if false words now number old new same is = ap (λ (driver : Driver). driver.link.waiting) same ∙ is
answers_empty_if true words now number old new all is = answers_empty words now number old new all is

-- Words of which DROP WAITING is the first, or none is.

abbrev most : ℕ
most = 2 ^ 64 - 1

counts_more : (count : ℕ) → min (min count most + 0) most ≡ min count most
counts_more count = omega (arith)

word_just : (word : StatusWord) (now number : ℕ) (old new : Driver) → Answers word now number old new → ChangesJust (is_drop word) old new
word_just word.Help now number old new a = a.rest
word_just word.Unknown now number old new a = a.rest
word_just word.Status now number old new a = a.rest
word_just word.Clients now number old new a = a.rest
word_just word.DropWaiting now number old new a = a.drops

-- only orders change, and then what waits is dropped
later_drop : (old behind new : Driver) → behind ≡ record old { orders = behind.orders } → DropsSaid behind new → DropsSaid old new
later_drop old behind new same d =
    let e : DropsSaid (record old { orders = behind.orders }) new = subst (λ (driver : Driver). DropsSaid driver new) same d in
    record {
      waits = e.waits;
      may_wait = record { leader = e.may_wait.leader; is_leader = e.may_wait.is_leader; is = e.may_wait.is };
      rest = e.rest;
    }

-- what waits is dropped, and then what waits after that is too
drops_twice : (old behind new : Driver) (first last : Bool) → MayWait old first → behind ≡ dropped_as first behind old → MayWait behind last → new ≡ dropped_as last new behind → DropsSaid old new
drops_twice old behind new false last may is also more =
    let e : DropsSaid (record old { orders = behind.orders }) new =
    subst (λ (driver : Driver). DropsSaid driver new) is (record { waits = last; may_wait = also; rest = more })
    in
    record {
      waits = e.waits;
      may_wait = record { leader = e.may_wait.leader; is_leader = e.may_wait.is_leader; is = e.may_wait.is };
      rest = e.rest;
    }
drops_twice old behind new true true may is also more = record {
  waits = true;
  may_wait = may;
  rest =
      more ∙ ap (λ (driver : Driver). dropped_as true new driver) is
      ∙ ap (λ (count : ℕ). record old { orders = new.orders; dropping = Some count; link = record old.link { waiting = without_said old.link.waiting } })
      (counts_more (dropped_in old.dropping + length old.link.waiting.said));
}
drops_twice old behind new true false may is also more = record {
  waits = true;
  may_wait = may;
  rest = more ∙ ap (λ (driver : Driver). dropped_as false new driver) is;
}

just_both : (first more : Bool) (old behind new : Driver) → ChangesJust first old behind → ChangesJust more behind new → ChangesJust (first || more) old new
just_both false false old behind new is next = next ∙ ap (λ (driver : Driver). record driver { orders = new.orders }) is
just_both false true old behind new is next = later_drop old behind new is next
just_both true false old behind new d next = record {
  waits = d.waits;
  may_wait = d.may_wait;
  rest = next ∙ ap (λ (driver : Driver). record driver { orders = new.orders }) d.rest;
}
just_both true true old behind new d next = drops_twice old behind new d.waits next.waits d.may_wait d.rest next.may_wait next.rest

answers_just : (words : List StatusWord) (now number : ℕ) (old new : Driver) → AnswersAll words now number old new → ChangesJust (list_any is_drop words) old new
unfolding AnswersAll
answers_just [] now number old new same = ap (λ (driver : Driver). record driver { orders = new.orders }) same
answers_just (word ∷ words) now number old new (behind, first, more) =
    just_both (is_drop word) (list_any is_drop words) old behind new (word_just word now number old behind first) (answers_just words now number behind new more)

are_writes : (client : ℕ) (orders : List Order) → AllAre (IsWrite client) orders → AreWrites client orders
unfolding AllAre AreWrites
are_writes client [] all = tt
are_writes client (order ∷ more) (is, all) = (is, are_writes client more all)

pub go_to_who_asks : AnswersGoToWhoAsks
go_to_who_asks words now number c old new found all =
    let adds =
    answers_add (IsWrite c.origin.2) words now number old new
    (λ d is line. ap (λ (found : Option Client). (or_this c found).origin.2) (sym is ∙ found)) all
    in
    record {
      told = adds.told;
      orders = adds.orders;
      own = are_writes c.origin.2 adds.told adds.all;
      rest = answers_just words now number old new all;
    }
