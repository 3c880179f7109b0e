use Rattle.std.proofs.Common.{◌≡◌, ◌++◌, take}
use Rattle.std.specs.Prelude.{flat_map}
use Rattle.buffer_machine.specs.Effects.{show_all}
use Rattle.buffer_machine.specs.Answering.{played_by}
use Rattle.buffer_machine.proofs.showing.show_queries.Given as goal

abbrev pub invariant-loop-query : goal.invariant-loop-query
invariant-loop-query l =
    l.effects.items ≡ l.initial.effects.items ++ flat_map (λ t. show_all l.player.origin (played_by l.player.offset l.player.reader t)) (take l.query-index l.queries)
