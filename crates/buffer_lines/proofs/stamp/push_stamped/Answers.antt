use Rattle.std.proofs.Common.{◌≡◌, true, false, append_assoc, sym, ◌∙◌}
use Rattle.irc_line.specs.Names.{begins_with, action_mark}
use Rattle.buffer_lines.proofs.Stamped.{stamped_action, stamped_plain}
use Rattle.buffer_lines.proofs.stamp.push_stamped.Goals as goal

pub returns-in_ok-extend_from_slice-3 : goal.returns-in_ok-extend_from_slice-3
returns-in_ok-extend_from_slice-3 c =
    let is : begins_with c.args.text.now action_mark ≡ true = sym c.is_action.ensures ∙ c.if-is_action.true in
    let e1 = c.in_ok-extend_from_slice.ensures.items in
    let e2 = c.in_ok-extend_from_slice-2.ensures.items in
    let e3 = c.in_ok-extend_from_slice-3.ensures.items in
    e3 ∙ rw (c.rest_from.ensures, e2, c.stamp_at-stamp.ensures, e1, stamped_action c.args.offset c.args.at c.args.text.now is) (simp append_assoc)

pub returns-in_ok-extend_from_slice-5 : goal.returns-in_ok-extend_from_slice-5
returns-in_ok-extend_from_slice-5 c =
    let is : begins_with c.args.text.now action_mark ≡ false = sym c.is_action.ensures ∙ c.if-is_action.false in
    let e1 = c.in_ok-extend_from_slice-4.ensures.items in
    let e2 = c.in_ok-extend_from_slice-5.ensures.items in
    e2 ∙ rw (e1, c.stamp_at-stamp.ensures, stamped_plain c.args.offset c.args.at c.args.text.now is) (simp append_assoc)
