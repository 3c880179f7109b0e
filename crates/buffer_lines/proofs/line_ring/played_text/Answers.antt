use Rattle.std.proofs.Common.{rules, ◌≡◌, ◌++◌, ◌∷◌, [], ◌+◌, ◌-◌, ℕ, List, length, map, take, sym, ap, arith, ◌∙◌, length-append}
use Rattle.std.specs.List.{concat}
use Rattle.irc_line.specs.Lines.{spelling}
use Rattle.buffer_lines.specs.Stamps.{shown_timed, timed}
use Rattle.buffer_lines.proofs.Framed.{shown_next}
use Rattle.buffer_lines.proofs.Parts.{concat_push, lengths_push}
use Rattle.buffer_lines.proofs.line_ring.played_text.Goals as goal

pub loop-line-preserved : goal.loop-line-preserved
loop-line-preserved c =
    let done : List (List ℕ) = shown_timed c.args.offset (take c.loop-line.line-index c.args.lines.now) in
    let shown : List ℕ = spelling (timed c.args.offset c.line-item.result) in
    let more : shown_timed c.args.offset (take (c.loop-line.line-index + 1) c.args.lines.now) ≡ done ++ shown ∷ [] = shown_next c.args.offset c.args.lines.now c.loop-line.line-index c.line-item.result c.loop-line-test.true c.line-item.is in
    let grown : c.play.new.out.items ≡ c.loop-line.text.items ++ shown = search rules in
    let before : c.len-from.result ≡ length c.loop-line.text.items = search rules in
    let after : c.len.result ≡ length c.play.new.out.items = search rules in
    let long : c.len.result - c.len-from.result ≡ length shown = omega (arith, before, after, length-append c.loop-line.text.items shown, ap (length {A = ℕ}) grown) in
    record {
      text =
          grown ∙ ap (λ (xs : List ℕ). xs ++ shown) c.loop-line.invariant.text ∙ sym (concat_push done shown)
          ∙ ap concat (sym more);
      lengths =
          c.in_ok-push.ensures.items ∙ ap (λ (n : ℕ). c.loop-line.lengths.items ++ n ∷ []) long
          ∙ ap (λ (ns : List ℕ). ns ++ length shown ∷ []) c.loop-line.invariant.lengths
          ∙ sym (lengths_push done shown) ∙ ap (map (length {A = ℕ})) (sym more);
    }
