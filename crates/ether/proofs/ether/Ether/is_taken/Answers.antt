use Rattle.std.proofs.Common.{rules, ◌≡◌, ℕ, ◌+◌, ◌*◌, ◌<◌, sym, ap, ◌∙◌, subst}
use Rattle.ether.specs.Passes.{EtherParts, looks_of, view_of}
use Rattle.ether.proofs.Steps.{at_step, glances_by, mailbox_low}
use Rattle.ether.proofs.ether.Ether.is_taken.Goals as goal

pub load-requires : goal.load-requires
load-requires g c =
    let is = c.requires.pass in
    let pass = c.args.pass.now in
    let n = c.value.result in
    let group_is : n ≡ c.self.inside.group.size = c.value.ensures.value in
    let size_is : c.args.self.now.size ≡ n = sym (group_is ∙ ap (λ (e : EtherParts g.row.M-Setup.Denot). e.size) c.self.view_is) in
    let low : pass.node * n + c.args.to + 1 < n * n + 1 =
    mailbox_low n pass.node c.args.to (subst (λ (m : ℕ). pass.node < m) size_is is.near) (subst (λ (m : ℕ). c.args.to < m) size_is c.requires.to)
    in (
      search rules,
      subst (λ (w : ℕ). pass.node * n + c.args.to + 1 < w) (sym (c.self.invariant.0 ∙ ap (λ (m : ℕ). m * m + 1) (sym group_is))) low,
      glances_by _ c.self.inside.table.shared.key.size _ _ (pass.node * n + c.args.to + 1) pass.seat.me (at_step (pass.node * n + c.args.to + 1)) is.out pass.spare (looks_of pass) (view_of pass) is.me,
    )
