use Rattle.std.proofs.Common.{rules, ◌≡◌, ◌≢◌, ◌∷◌, [], ◌++◌, length, map, arith}
use Rattle.std.specs.Prelude.{codes, drop}
use Rattle.std.proofs.Common.{length-drop}
use Rattle.std.proofs.lemmas.Grind.{common_steps}
use Rattle.std.proofs.lemmas.Bool.Decides.{nat_tests}
use Rattle.irc_line.specs.Lines.{spelling}
use Rattle.buffer_lines.specs.Stamps.{frame, timed}
use Rattle.buffer_lines.proofs.Framed.{framed_some}
use Rattle.buffer_lines.proofs.line_ring.played.Goals as goal

pub returns : goal.returns
returns c =
    let ne : length (drop c.args.older c.args.lines.now.items) ≢ 0 = rw (length-drop c.args.older c.args.lines.now.items) (grind (arith, nat_tests)) in
    let f1 : c.in_ok-frame_line.field-0 ≡ spelling (frame c.args.target.now (codes "Buffer Playback...")) = c.in_ok-frame_line.ensures in
    let f2 : c.in_ok-frame_line-2.field-0 ≡ spelling (frame c.args.target.now (codes "Playback Complete.")) = c.in_ok-frame_line-2.ensures in
    let n : c.in_ok-all.all.items ≡ [] = c.in_ok-all.ensures.items in
    let e1 : c.push.new.self.items ≡ c.in_ok-all.all.items ++ c.in_ok-frame_line.field-0 ∷ [] = c.in_ok-push.ensures.items in
    let e2 : c.push_behind.new.all.items ≡ c.push.new.self.items ++ map (λ k. spelling (timed c.args.offset k)) (drop c.args.older c.args.lines.now.items) = search (rules, common_steps) in
    let e3 : c.push-2.new.self.items ≡ c.push_behind.new.all.items ++ c.in_ok-frame_line-2.field-0 ∷ [] = c.in_ok-push-2.ensures.items in
    rw (framed_some c.args.offset c.args.target.now (drop c.args.older c.args.lines.now.items) ne, e3, e2, e1, f1, f2, n)
