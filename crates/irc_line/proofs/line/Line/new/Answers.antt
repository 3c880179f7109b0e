use Rattle.std.proofs.Common.{◌≡◌, length, map, arith}
use Rattle.std.specs.Option.{option_map}
use Rattle.irc_line.specs.Lines.{Parts, parts}
use Rattle.irc_line.specs.Places.{IsCut}
use Rattle.irc_line.proofs.Cutting.{cut_held, cut_is, spelled_cut}
use Rattle.irc_line.proofs.line.Line.new.Goals as goal

pub cut-requires : goal.cut-requires
cut-requires c =
    let p : Parts = parts (option_map (λ x. x.now) c.args.prefix) c.args.command.now (map (λ x. x.now) c.args.parameters.now) in
    let start : c.len-start.result ≡ length c.push_prefix.new.out.items = omega arith in
    let end : c.len-end.result ≡ length c.extend_from_slice.new.self.items = omega arith in
    let cut : IsCut c.push_parameters.new.out.items c.len-start.result c.len-end.result p =
    spelled_cut p c.in_ok-text.text.items c.push_prefix.new.out.items c.extend_from_slice.new.self.items c.push_parameters.new.out.items c.len-start.result c.len-end.result c.requires
    c.in_ok-text.ensures.items c.in_ok-push_prefix.ensures.ok start c.in_ok-extend_from_slice.ensures.items end c.in_ok-push_parameters.ensures.ok in
    cut_held c.push_parameters.new.out.items c.len-start.result c.len-end.result p cut

pub returns : goal.returns
returns c =
    let p : Parts = parts (option_map (λ x. x.now) c.args.prefix) c.args.command.now (map (λ x. x.now) c.args.parameters.now) in
    let start : c.len-start.result ≡ length c.push_prefix.new.out.items = omega arith in
    let end : c.len-end.result ≡ length c.extend_from_slice.new.self.items = omega arith in
    let cut : IsCut c.push_parameters.new.out.items c.len-start.result c.len-end.result p =
    spelled_cut p c.in_ok-text.text.items c.push_prefix.new.out.items c.extend_from_slice.new.self.items c.push_parameters.new.out.items c.len-start.result c.len-end.result c.requires
    c.in_ok-text.ensures.items c.in_ok-push_prefix.ensures.ok start c.in_ok-extend_from_slice.ensures.items end c.in_ok-push_parameters.ensures.ok in
    rw (← cut_is c.push_parameters.new.out.items c.len-start.result c.len-end.result p cut) c.cut.ensures
