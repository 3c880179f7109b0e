use Rattle.std.proofs.Common.{◌≡◌, ◌+◌, ◌≤◌, arith, length, subst}
use Rattle.std.specs.Prelude.{IfOk}
use Rattle.std.specs.Option.{option_map}
use Rattle.irc_line.specs.Places.{cut_parts}
use Rattle.irc_line.proofs.Cutting.{cut_held, cut_is, draft_cut}
use Rattle.irc_line.proofs.draft.Draft.copied.Goals as goal

pub overflow_add-start : goal.overflow_add-start
overflow_add-start c =
    let d = c.self.inside in
    let start = c.prefix_len-start.result in
    let cut = draft_cut c.args.self.now (option_map (λ x. x.now) d.prefix) d.command.now d.tail.now c.args.bytes.now c.in_ok-text.text.items start
    c.self.view_is c.requires.line c.requires.spelled c.in_ok-text.ensures.items c.prefix_len-start.ensures in
    let end : start + length d.command.now ≤ length c.in_ok-text.text.items = (cut_held c.in_ok-text.text.items start (start + length d.command.now) c.args.self.now cut).tail_end in
    let text : c.in_ok-text.text.items ≡ c.args.bytes.now = c.in_ok-text.ensures.items in
    omega arith

pub cut-requires : goal.cut-requires
cut-requires c =
    let d = c.self.inside in
    let start = c.prefix_len-start.result in
    cut_held c.in_ok-text.text.items start (start + length d.command.now) c.args.self.now
    (draft_cut c.args.self.now (option_map (λ x. x.now) d.prefix) d.command.now d.tail.now c.args.bytes.now c.in_ok-text.text.items start
    c.self.view_is c.requires.line c.requires.spelled c.in_ok-text.ensures.items c.prefix_len-start.ensures)

pub returns : goal.returns
returns c =
    let d = c.self.inside in
    let start = c.prefix_len-start.result in
    let same : cut_parts c.in_ok-text.text.items start (start + length d.command.now) ≡ c.args.self.now =
    cut_is c.in_ok-text.text.items start (start + length d.command.now) c.args.self.now
    (draft_cut c.args.self.now (option_map (λ x. x.now) d.prefix) d.command.now d.tail.now c.args.bytes.now c.in_ok-text.text.items start
    c.self.view_is c.requires.line c.requires.spelled c.in_ok-text.ensures.items c.prefix_len-start.ensures) in
    subst (λ q. IfOk c.cut.result (λ l. l ≡ q)) same c.cut.ensures
