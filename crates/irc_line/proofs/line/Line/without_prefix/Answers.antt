use Rattle.std.proofs.Common.{◌≡◌, ◌-◌, None, subst}
use Rattle.std.specs.Prelude.{IfOk}
use Rattle.irc_line.specs.Lines.{parts}
use Rattle.irc_line.specs.Places.{cut_parts}
use Rattle.irc_line.proofs.Cutting.{cut_held, cut_is, rest_cut}
use Rattle.irc_line.proofs.line.Line.without_prefix.Goals as goal

pub cut-requires : goal.cut-requires
cut-requires c =
    let s = c.self.inside in
    cut_held c.in_ok-text.text.items 0 (s.tail - s.command) _
    (rest_cut c.args.self.now s.text c.spelling.result.now c.in_ok-text.text.items s.command s.tail c.self.view_is c.self.invariant c.spelling.ensures.value c.in_ok-text.ensures.items)

pub returns : goal.returns
returns c =
    let s = c.self.inside in
    let same : cut_parts c.in_ok-text.text.items 0 (s.tail - s.command) ≡ parts None c.args.self.now.command c.args.self.now.parameters =
    cut_is c.in_ok-text.text.items 0 (s.tail - s.command) _
    (rest_cut c.args.self.now s.text c.spelling.result.now c.in_ok-text.text.items s.command s.tail c.self.view_is c.self.invariant c.spelling.ensures.value c.in_ok-text.ensures.items) in
    subst (λ q. IfOk c.cut.result (λ l. l ≡ q)) same c.cut.ensures
