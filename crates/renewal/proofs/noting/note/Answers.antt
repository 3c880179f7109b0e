use Rattle.std.proofs.Common.{◌≡◌, ◌∙◌, ap, sym, true}
use Rattle.std.specs.Prelude.{is_some}
use Rattle.bouncer_tower.specs.Bodies.{plain, session}
use Rattle.renewal.specs.Lists.{joined_names}
use Rattle.renewal.proofs.LastLive.{noted_live}
use Rattle.renewal.proofs.noting.note.Goals as goal

pub returns-in_ok-joined : goal.returns-in_ok-joined
returns-in_ok-joined c = λ s h st w.
    let live : is_some (session h) ≡ true = ap is_some (sym (c.session_of.ensures s h st)) ∙ (sym c.is_some.ensures ∙ c.if-is_some.true) in
    noted_live s h c.in_ok-joined.field-0.items live
    (c.in_ok-joined.ensures ∙ ap joined_names (c.channels.ensures s (plain h) (c.buffers_of.ensures s h st)))
