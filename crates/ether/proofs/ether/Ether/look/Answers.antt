use Rattle.std.proofs.Common.{rules, ◌≡◌, ℕ, ◌+◌, ◌*◌, ◌%◌, ◌<◌, refl, sym, ap, ◌∙◌, subst, arith}
use Rattle.ether.specs.declared.rule.Group.{Group}
use Rattle.ether.specs.Passes.{EtherParts, looks_of, view_of}
use Rattle.ether.specs.Rule.{mailbox_of}
use Rattle.ether.proofs.Passes.{took_pass}
use Rattle.ether.proofs.Steps.{at_step, glances_by, mailbox_low, takes_by}
use Rattle.ether.proofs.ether.Ether.look.Goals as goal

pub load-requires : goal.load-requires
load-requires g c =
    let is = c.requires.pass in
    let pass = c.args.pass.now in
    let n = c.value.result in
    let group_is : n ≡ c.self.inside.group.size = c.value.ensures.value in
    let size_is : c.args.self.now.size ≡ n = sym (group_is ∙ ap (λ (e : EtherParts g.row.M-Setup.Denot). e.size) c.self.view_is) in
    let low : c.args.from * n + pass.node + 1 < n * n + 1 =
    mailbox_low n c.args.from pass.node (subst (λ (m : ℕ). c.args.from < m) size_is c.requires.from) (subst (λ (m : ℕ). pass.node < m) size_is is.near)
    in (
      search rules,
      subst (λ (w : ℕ). c.args.from * n + pass.node + 1 < w) (sym (c.self.invariant.0 ∙ ap (λ (m : ℕ). m * m + 1) (sym group_is))) low,
      glances_by _ c.self.inside.table.shared.key.size _ _ (c.args.from * n + pass.node + 1) pass.seat.me (at_step (c.args.from * n + pass.node + 1)) is.out pass.spare (looks_of pass) (view_of pass) is.me,
    )

pub swap-found-requires : goal.swap-found-requires
swap-found-requires g c =
    let is = c.requires.pass in
    let pass = c.args.pass.now in
    let key = c.self.inside.table.shared.key in
    let n = c.value.result in
    let full = c.if-load-lt-FULL.false in
    let kept : c.load.new.seat.me ≡ pass.seat.me = c.load.ensures.2.1 (omega arith) in
    let group_is : n ≡ c.self.inside.group.size = c.value.ensures.value in
    let size_is : c.args.self.now.size ≡ n = sym (group_is ∙ ap (λ (e : EtherParts g.row.M-Setup.Denot). e.size) c.self.view_is) in
    let key_is : key.size ≡ n = ap (λ (k : Group g.row.M-Setup.Denot). k.size) c.self.invariant.1 ∙ sym group_is in
    let near : pass.node < n = subst (λ (m : ℕ). pass.node < m) size_is is.near in
    let near' : (view_of pass).node < key.size = subst (λ (m : ℕ). (view_of pass).node < m) (sym key_is) (subst (λ (i : ℕ). i < n) (sym is.node) near) in
    let from : c.args.from < n = subst (λ (m : ℕ). c.args.from < m) size_is c.requires.from in
    let low : c.args.from * n + pass.node + 1 < n * n + 1 = mailbox_low n c.args.from pass.node from near in
    let box : c.args.from * n + pass.node + 1 ≡ mailbox_of key.size g.W.Step.from (view_of pass).node =
    ap (λ (f : ℕ). f * n + pass.node + 1) (sym c.requires.step) ∙ ap (λ (m : ℕ). g.W.Step.from * m + pass.node + 1) (sym key_is) ∙ ap (λ (i : ℕ). mailbox_of key.size g.W.Step.from i) (sym is.node)
    in (
      search rules,
      subst (λ (w : ℕ). c.args.from * n + pass.node + 1 < w) (sym (c.self.invariant.0 ∙ ap (λ (m : ℕ). m * m + 1) (sym group_is))) low,
      takes_by _ key.size _ _ (c.args.from * n + pass.node + 1) g.W.Step.from c.load.new.seat.me (at_step (c.args.from * n + pass.node + 1)) is.out pass.spare (looks_of pass) (view_of pass) (kept ∙ is.me) box near'
          (subst (λ (m : ℕ). c.args.from * n + pass.node + 1 < m * m + 1) (sym key_is) low),
    )

pub returns-clause-pass : goal.returns-clause-pass
returns-clause-pass g c =
    let pass = c.args.pass.now in
    let full = c.if-load-lt-FULL.false in
    let kept : c.load.new.seat.me ≡ pass.seat.me = c.load.ensures.2.1 (omega arith) in
    let new = record pass { seat = c.exchange.new.seat; spare = c.swap-found.result % 64 } in
    let took = took_pass _ _ pass new _ c.swap-found.ensures.2.0 c.exchange.result c.load.new.seat.me c.swap-found.new.seat.me c.requires.pass kept c.swap-found.ensures.2.1 c.exchange.ensures.2 c.exchange.ensures.3
    (search rules) refl (omega arith) refl
    in
    (took.0, refl)

pub returns-clause-open : goal.returns-clause-open
returns-clause-open g c =
    let pass = c.args.pass.now in
    let full = c.if-load-lt-FULL.false in
    let kept : c.load.new.seat.me ≡ pass.seat.me = c.load.ensures.2.1 (omega arith) in
    let new = record pass { seat = c.exchange.new.seat; spare = c.swap-found.result % 64 } in
    let took = took_pass _ _ pass new _ c.swap-found.ensures.2.0 c.exchange.result c.load.new.seat.me c.swap-found.new.seat.me c.requires.pass kept c.swap-found.ensures.2.1 c.exchange.ensures.2 c.exchange.ensures.3
    (search rules) refl (omega arith) refl
    in
    took.1
