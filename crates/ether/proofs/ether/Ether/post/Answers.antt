use Rattle.std.proofs.Common.{rules, ◌≡◌, ◌≤◌, ◌-◌, suc, arith, ℕ, ◌+◌, ◌*◌, ◌%◌, ◌<◌, refl, sym, ap, ◌∙◌, subst}
use Rattle.ether.specs.declared.rule.Group.{Group}
use Rattle.ether.specs.Passes.{EtherParts, looks_of, view_of}
use Rattle.ether.specs.Rule.{mailbox_of}
use Rattle.world_views.specs.Views.{addressee}
use Rattle.ether.proofs.Passes.{looked, one_behind, posted_older, posted_pass, slot_first}
use Rattle.ether.proofs.Steps.{at_step, mailbox_low, posts_by}
use Rattle.ether.proofs.ether.Ether.post.Goals as goal

pub swap-found-requires : goal.swap-found-requires
swap-found-requires g c =
    let is = c.requires.pass.0 in
    let pass = c.args.pass.now in
    let e = c.args.envelope in
    let key = c.self.inside.table.shared.key in
    let n = c.value.result in
    let to = e.message.to in
    let group_is : n ≡ c.self.inside.group.size = c.value.ensures.value in
    let size_is : c.args.self.now.size ≡ n = sym (group_is ∙ ap (λ (x : EtherParts g.row.M-Setup.Denot). x.size) c.self.view_is) in
    let key_is : key.size ≡ n = ap (λ (k : Group g.row.M-Setup.Denot). k.size) c.self.invariant.1 ∙ sym group_is in
    let named : to ≡ suc (addressee e) = one_behind to c.requires.addressee.0 in
    let place : to - 1 ≡ addressee e = omega arith in
    let near_to : addressee e < n = (let h = subst (λ (m : ℕ). to ≤ m) size_is c.requires.addressee.1 in omega arith) in
    let near : pass.node < n = subst (λ (m : ℕ). pass.node < m) size_is is.near in
    let near' : (view_of pass).node < key.size = subst (λ (m : ℕ). (view_of pass).node < m) (sym key_is) (subst (λ (i : ℕ). i < n) (sym is.node) near) in
    let low : pass.node * n + (to - 1) + 1 < n * n + 1 = subst (λ (t : ℕ). pass.node * n + t + 1 < n * n + 1) (sym place) (mailbox_low n pass.node (addressee e) near near_to) in
    let box : pass.node * n + (to - 1) + 1 ≡ mailbox_of key.size (view_of pass).node (addressee e) =
    ap (λ (t : ℕ). pass.node * n + t + 1) place ∙ ap (λ (m : ℕ). pass.node * m + addressee e + 1) (sym key_is) ∙ ap (λ (i : ℕ). mailbox_of key.size i (addressee e)) (sym is.node)
    in (
      search rules,
      subst (λ (w : ℕ). pass.node * n + (to - 1) + 1 < w) (sym (c.self.invariant.0 ∙ ap (λ (m : ℕ). m * m + 1) (sym group_is))) low,
      posts_by _ key.size _ _ (pass.node * n + (to - 1) + 1) _ (at_step (pass.node * n + (to - 1) + 1)) pass.spare (looks_of pass) (view_of pass) e (search rules) box near' named
          (subst (λ (m : ℕ). addressee e < m) (sym key_is) near_to) c.requires.sent.0 c.requires.sent.1 (subst (λ (m : ℕ). pass.node * n + (to - 1) + 1 < m * m + 1) (sym key_is) low),
    )

pub exchange-requires : goal.exchange-requires
exchange-requires g c = (search rules, (c.swap-found.ensures.2.0, slot_first _ _ _ c.swap-found.new.seat.me c.swap-found.ensures.2.1))

pub returns-clause-older : goal.returns-clause-older
returns-clause-older g c =
    let pass = c.args.pass.now in
    posted_older pass.spare (looks_of pass) _ (view_of pass) c.args.envelope (c.swap-found.result % 64) c.swap-found.ensures.2.0 c.exchange.result c.exchange-none.new.seat.me c.swap-found.new.seat.me
    (search rules) c.swap-found.ensures.2.1 c.swap-found.ensures.2.3 c.exchange.ensures.2

pub returns-clause-looks : goal.returns-clause-looks
returns-clause-looks g c =
    let pass = c.args.pass.now in
    let to = c.args.envelope.message.to in
    let n = c.value.result in
    let size_is : n ≡ c.args.self.now.size = c.value.ensures.value ∙ ap (λ (x : EtherParts g.row.M-Setup.Denot). x.size) c.self.view_is in
    let named : to ≡ suc (addressee c.args.envelope) = one_behind to c.requires.addressee.0 in
    let place : to - 1 ≡ addressee c.args.envelope = omega arith in
    let box : pass.node * n + (to - 1) + 1 ≡ mailbox_of c.args.self.now.size pass.node (addressee c.args.envelope) =
    (λ i. pass.node * size_is i + place i + 1)
    in
    looked (record pass { seat = c.exchange.new.seat; spare = c.swap-found.result % 64 }) (looks_of pass) (c.swap-found.result % 64) (pass.node * n + (to - 1) + 1) _ c.swap-found.ensures.2.0 c.exchange.result _ c.swap-found.new.seat.me _
    c.swap-found.ensures.2.1 (search rules) box c.exchange.ensures.2 c.exchange.ensures.3

pub returns-then-found-lt-FULL-clause-open : goal.returns-then-found-lt-FULL-clause-open
returns-then-found-lt-FULL-clause-open g c =
    let pass = c.args.pass.now in
    let none = c.swap-found.ensures.2.2 c.if-found-lt-FULL.true in
    let now = record pass { seat = c.swap-found.new.seat; spare = c.swap-found.result % 64 } in
    let posts = posted_pass _ _ pass now _ c.args.envelope c.swap-found.ensures.2.0 c.exchange-none.new.seat.me c.requires.pass.0 c.requires.pass.1 (search rules) c.swap-found.ensures.2.1 none (search rules) refl (omega arith) refl in
    ((posts.0, posts.1), refl)
