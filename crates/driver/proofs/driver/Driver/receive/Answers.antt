use Rattle.std.proofs.Common.{rules, ◌≡◌, ◌∙◌, Bool, ℕ, Option, None, Some, ap, subst, sym}
use Rattle.std.proofs.lemmas.Result.{on_ok_weaker}
use Rattle.driver.specs.declared.clients.Clients.{Clients}
use Rattle.driver.specs.declared.driver.Driver.{Driver}
use Rattle.driver.specs.declared.guard.Guard.{Guard}
use Rattle.driver.specs.declared.link.Link.{Link}
use Rattle.driver.specs.Answering.{AnswersIf, answered_as}
use Rattle.driver.specs.Guarding.{NotesIf, due_at}
use Rattle.driver.specs.Nicks.{IsGreeted, nick_in, warned}
use Rattle.driver.specs.Rosters.{Serves, client_at, is_attached_in, refused_in}
use Rattle.driver.specs.Serving.{ReceivesWords}
use Rattle.driver.proofs.driver.Driver.receive.Goals as goal

pub returns-clause-nobody : goal.returns-clause-nobody
returns-clause-nobody c none =
    let number = c.args.number in
    let (same, orders) = c.receive.ensures.nobody none in
    let still : client_at c.receive.new.self number ≡ None = subst (λ (clients : Clients). client_at clients number ≡ None) (sym same) none in
    let greeted = c.greet.ensures.nobody still in
    let met : client_at c.greet.new.self.clients number ≡ None = subst (λ (clients : Clients). client_at clients number ≡ None) (sym (ap (λ (driver : Driver). driver.clients) greeted)) still in
    let answered = c.answer_all.ensures.nobody met in
    let there : client_at c.answer_all.new.self.clients number ≡ None = subst (λ (clients : Clients). client_at clients number ≡ None) (sym (ap (λ (driver : Driver). driver.clients) answered)) met in
    let noted = c.note_refusal.ensures.nobody there in (
      ap (λ (driver : Driver). driver.clients) noted ∙ ap (λ (driver : Driver). driver.clients) answered ∙ ap (λ (driver : Driver). driver.clients) greeted ∙ same,
      ap (λ (driver : Driver). driver.orders) noted ∙ ap (λ (driver : Driver). driver.orders) answered ∙ ap (λ (driver : Driver). driver.orders) greeted ∙ orders,
    )

pub returns-clause-served : goal.returns-clause-served
returns-clause-served c =
    let old = c.args.self.now in
    let now = c.args.now.now in
    let number = c.args.number in
    let told = c.receive.new.orders in
    let words = c.in_ok-words.words.items in
    let middle = c.greet.new.self in
    let behind = c.answer_all.new.self in
    let new = c.note_refusal.new.self in
    let greet = ap (λ (driver : Driver). driver.clients) c.greet.ensures.rest in
    let answer = ap (λ (driver : Driver). driver.clients) c.answer_all.ensures.rest in
    let guard = ap (λ (driver : Driver). driver.guard) c.answer_all.ensures.rest ∙ ap (λ (driver : Driver). driver.guard) c.greet.ensures.rest in
    let note = ap (λ (driver : Driver). driver.clients) c.note_refusal.ensures.rest in
    let clients = sym (note ∙ answer ∙ greet) in
    let is_middle : middle ≡ record old { clients = new.clients; orders = middle.orders } =
    c.greet.ensures.rest ∙ ap (λ (clients : Clients). record old { clients = clients; orders = middle.orders }) clients
    in
    let middle_link = ap (λ (driver : Driver). driver.link) c.greet.ensures.rest in
    let link : record old.link { waiting = behind.link.waiting } ≡ new.link =
    ap (λ (link : Link). record link { waiting = behind.link.waiting }) (sym middle_link)
    ∙ sym (ap (λ (driver : Driver). driver.link) c.answer_all.ensures.rest)
    ∙ sym (ap (λ (driver : Driver). driver.link) c.note_refusal.ensures.rest)
    in
    let dropping : behind.dropping ≡ new.dropping = sym (ap (λ (driver : Driver). driver.dropping) c.note_refusal.ensures.rest) in
    let is_behind : behind ≡ record old { clients = new.clients; orders = behind.orders; dropping = new.dropping; link = new.link } =
    c.answer_all.ensures.rest
    ∙ ap (answered_as behind) is_middle
    ∙ ap (λ (dropping : Option ℕ). record old { clients = new.clients; orders = behind.orders; dropping = dropping; link = record old.link { waiting = behind.link.waiting } }) dropping
    ∙ ap (λ (link : Link). record old { clients = new.clients; orders = behind.orders; dropping = new.dropping; link = link }) link
    in
    on_ok_weaker c.note_refusal.result (λ noted.
    record {
      told = told;
      words = words;
      served =
          subst
          (λ (clients : Clients). Serves (λ d. client_at old.clients number ≡ Some d) (λ s calls d client. ReceivesWords c.args.bytes.now words now.ms now.at (due_at old.guard now.ms) s calls d old.orders client told) number clients)
          clients
          (subst
          (λ (due : ℕ). Serves (λ d. client_at old.clients number ≡ Some d) (λ s calls d client. ReceivesWords c.args.bytes.now words now.ms now.at due s calls d old.orders client told) number c.receive.new.self)
          c.due-due.ensures c.in_ok-words.ensures.served);
      greeted = middle.orders;
      greets =
          subst
          (λ (was : Bool). IsGreeted was (warned old now.ms) (client_at new.clients number) (nick_in old) told middle.orders)
          c.is_attached-was_attached.ensures
          (subst (λ (clients : Clients). IsGreeted c.is_attached-was_attached.result (warned old now.ms) (client_at clients number) (nick_in old) told middle.orders) clients c.in_ok-greet.ensures.told);
      answered = behind.orders;
      answers =
          subst (λ (driver : Driver). AnswersIf (is_attached_in (client_at driver.clients number)) words now.ms number driver (record old { clients = new.clients; orders = behind.orders; dropping = new.dropping; link = new.link })) is_middle
          (subst (λ (driver : Driver). AnswersIf (is_attached_in (client_at middle.clients number)) words now.ms number middle driver) is_behind c.in_ok-answer_all.ensures.answered);
      notes =
          subst
          (λ (was : Bool). NotesIf was (refused_in (client_at new.clients number)) now.ms old.guard behind.orders new.guard new.orders)
          (search rules)
          (subst
          (λ (clients : Clients). NotesIf c.is_some-was_refused.result (refused_in (client_at clients number)) now.ms old.guard behind.orders new.guard new.orders)
          (sym note)
          (subst
          (λ (guard : Guard). NotesIf c.is_some-was_refused.result (refused_in (client_at behind.clients number)) now.ms guard behind.orders new.guard new.orders)
          guard noted));
    })
    c.note_refusal.ensures.noted
