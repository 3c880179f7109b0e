use Rattle.std.proofs.Common.{◌≡◌, ◌-◌, ◌∙◌, None, Option, ap, rules, slice_get, subst, sym}
use Rattle.driver.specs.declared.link.Link.{Link}
use Rattle.driver.specs.declared.outgoing.Piece.{Piece}
use Rattle.driver.specs.Outgoing.{Waiting, next_piece}
use Rattle.driver.specs.Writing.{GoesOutIf, are_due, may_write, piece_of}
use Rattle.driver.proofs.Idle.{nothing_goes, nothing_left}
use Rattle.driver.proofs.driver.Driver.write_line.Goals as goal

pub returns-in_default-clause-written : goal.returns-in_default-clause-written
returns-in_default-clause-written c =
    let old = c.args.self.now in
    let now = c.args.now.now.ms in
    let due = are_due (slice_get old.monitors (c.args.node - 1)) in
    let none : next_piece c.are_due-are_due.result old.link.waiting ≡ None = search rules in
    let idle : next_piece due old.link.waiting ≡ None = ap (λ d. next_piece d old.link.waiting) (sym c.are_due-are_due.ensures) ∙ none in
    let left = c.next_piece.ensures.rest ∙ ap (λ (waiting : Waiting). record old.link { waiting = waiting }) (nothing_left c.are_due-are_due.result old.link.waiting none) in
    subst (λ (piece : Option Piece). GoesOutIf now due piece old (record old { link = c.next_piece.new.self }))
    (sym (nothing_goes (may_write old now) due old.link.waiting idle)) (ap (λ (link : Link). record old { link = link }) left)
