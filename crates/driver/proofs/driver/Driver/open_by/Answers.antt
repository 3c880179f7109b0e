use Rattle.std.proofs.Common.{◌≡◌, subst, sym}
use Rattle.std.specs.Prelude.{OnOk}
use Rattle.irc_line.specs.Lines.{Parts}
use Rattle.bouncer_tower.specs.Bodies.{TowerBody}
use Rattle.buffer_commands.specs.declared.wire_line.WireLine.{WireLine}
use Rattle.node_notes.specs.declared.note.Note.{Note}
use Rattle.node_notes.specs.declared.note.Note.TheVariants as note
use Rattle.driver.specs.Sessions.{OpensBy}
use Rattle.driver.proofs.Outcomes.{ok_both}
use Rattle.driver.proofs.driver.Driver.open_by.Goals as goal

pub returns-in-Heard : goal.returns-in-Heard
returns-in-Heard c =
    let old = c.args.self.now in
    let new = c.hear_channels.new.self in
    subst (λ (came : Note TowerBody WireLine). OnOk c.hear_channels.result (OpensBy c.args.node came old new)) (sym c.in-Heard.is)
    (subst (λ (line : Parts). OnOk c.hear_channels.result (OpensBy c.args.node (note.Heard c.in-Heard.field-0 line) old new)) c.line.ensures.value
    (ok_both c.hear_channels.result _ _ _ (λ told rest. record { orders = told; rest = rest }) c.hear_channels.ensures.told c.hear_channels.ensures.rest))
