use Rattle.std.proofs.Common.{map}
use Rattle.std.proofs.lemmas.List.{map-append}
use Rattle.client_gate.proofs.Separators.{one_piece_more, last_piece}
use Rattle.client_gate.proofs.splitting.pieces.Goals as goal

pub loop-piece-preserved : goal.loop-piece-preserved
loop-piece-preserved c =
    rw (c.in_ok-push.ensures.items, map-append) (one_piece_more c.args.separator (map (λ x. x.now) c.loop-piece.all.items) c.loop-piece.rest.now _ _ _ c.in-Some.ensures c.loop-piece.invariant)

pub returns : goal.returns
returns c =
    rw (c.in_ok-push-2.ensures.items, map-append) (last_piece c.args.separator (map (λ x. x.now) c.loop-piece.all.items) c.loop-piece.rest.now _ c.in_default.ensures c.loop-piece.invariant)
