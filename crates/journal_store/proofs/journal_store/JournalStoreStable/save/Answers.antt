use Rattle.std.proofs.Common.{rules, ◌≡◌, false, IsTrue, Bool, subst, sym}
use Rattle.stable_store.specs.declared.saved.Saved.{Saved}
use Rattle.stable_store.specs.Stores.{changed}
use Rattle.journal_store.specs.Serving.{IsSettled, is_broken}
use Rattle.journal_store.proofs.Calls.{follows_of, save_done_stands, saved_stands, settled_of}
use Rattle.journal_store.proofs.Mending.{settled_staged}
use Rattle.journal_store.proofs.journal_store.JournalStoreStable.save.Goals as goal

pub invariant_of-self : goal.invariant_of-self
invariant_of-self g c = λ h.
    let before = subst (λ (b : Bool). IsTrue b) c.in_err-self-inside.ensures.honest h in
    let whole : is_broken c.self.inside.known ≡ false = search rules in
    let settled = settled_of g.B.Wire.taken _ _ _ _ whole (c.self.invariant before) in
    let may = follows_of g.D.Disk.honest g.D.Disk.failures c.args.change.now _ _ c.self.view_is c.requires before whole in
    c.in_err-self-inside.ensures.sound before _ settled may

pub returns-in_err-self-inside-clause-stands : goal.returns-in_err-self-inside-clause-stands
returns-in_err-self-inside-clause-stands g c = rw (← c.self.view_is) (λ h.
    let whole : is_broken c.self.inside.known ≡ false = search rules in
    let settled = settled_of g.B.Wire.taken _ _ _ _ whole (c.self.invariant h) in
    let may = follows_of g.D.Disk.honest g.D.Disk.failures c.args.change.now _ _ c.self.view_is c.requires h whole in
    saved_stands g.B.Wire.taken (g.D.Disk.states c.self.inside.disk) (g.D.Disk.states c.append.new.disk) c.self.inside.saved c.self.inside.end c.self.inside.known c.append.new.known c.args.change.now c.self.inside.end c.self.inside.saved whole c.in_err-self-inside.ensures.broken may (c.in_err-self-inside.ensures.doubt h _ settled may))

pub returns-in_err-self-inside-clause-any_moment : goal.returns-in_err-self-inside-clause-any_moment
returns-in_err-self-inside-clause-any_moment g c = rw (← c.self.view_is) (λ h whole.
    let settled = settled_of g.B.Wire.taken _ _ _ _ whole (c.self.invariant h) in
    c.in_err-self-inside.ensures.any_moment h _ settled (follows_of g.D.Disk.honest g.D.Disk.failures c.args.change.now _ _ c.self.view_is c.requires h whole))

pub returns-in_err-follow-clause-any_moment : goal.returns-in_err-follow-clause-any_moment
returns-in_err-follow-clause-any_moment g c = rw (← c.self.view_is) (λ h whole.
    let settled = settled_of g.B.Wire.taken _ _ _ _ whole (c.self.invariant h) in
    c.in_ok-self-inside.ensures.any_moment h _ settled (follows_of g.D.Disk.honest g.D.Disk.failures c.args.change.now _ _ c.self.view_is c.requires h whole))

pub returns-clause-any_moment : goal.returns-clause-any_moment
returns-clause-any_moment g c = rw (← c.self.view_is) (λ h whole.
    let settled = settled_of g.B.Wire.taken _ _ _ _ whole (c.self.invariant h) in
    c.in_ok-self-inside.ensures.any_moment h _ settled (follows_of g.D.Disk.honest g.D.Disk.failures c.args.change.now _ _ c.self.view_is c.requires h whole))

pub invariant_of-self-in_err-follow : goal.invariant_of-self-in_err-follow
invariant_of-self-in_err-follow g c = λ h.
    let before = subst (λ (b : Bool). IsTrue b) c.in_ok-self-inside.ensures.honest h in
    let whole : is_broken c.self.inside.known ≡ false = search rules in
    let settled = settled_of g.B.Wire.taken _ _ _ _ whole (c.self.invariant before) in
    let may = follows_of g.D.Disk.honest g.D.Disk.failures c.args.change.now _ _ c.self.view_is c.requires before whole in
    settled_staged g.B.Wire.taken _ _ _ (c.in_ok-self-inside.ensures.settled before _ settled may)

pub returns-in_err-follow-clause-stands : goal.returns-in_err-follow-clause-stands
returns-in_err-follow-clause-stands g c = rw (← c.self.view_is) (λ h.
    let whole : is_broken c.self.inside.known ≡ false = search rules in
    let settled = settled_of g.B.Wire.taken _ _ _ _ whole (c.self.invariant h) in
    let may = follows_of g.D.Disk.honest g.D.Disk.failures c.args.change.now _ _ c.self.view_is c.requires h whole in
    save_done_stands g.B.Wire.taken (g.D.Disk.states c.self.inside.disk) (g.D.Disk.states c.append.new.disk) c.self.inside.saved c.self.inside.end c.self.inside.known c.args.change.now c.in_ok-self-inside.field-0 c.self.inside.saved whole may (c.in_ok-self-inside.ensures.settled h _ settled may))

pub invariant_of-self-2 : goal.invariant_of-self-2
invariant_of-self-2 g c = λ h.
    let before = subst (λ (b : Bool). IsTrue b) c.in_ok-self-inside.ensures.honest h in
    let whole : is_broken c.self.inside.known ≡ false = search rules in
    let settled = settled_of g.B.Wire.taken _ _ _ _ whole (c.self.invariant before) in
    let may = follows_of g.D.Disk.honest g.D.Disk.failures c.args.change.now _ _ c.self.view_is c.requires before whole in
    let is : c.follow.new.saved ≡ changed c.self.inside.saved c.args.change.now = c.in_ok-follow.ensures.ok in
    subst (λ (s : Saved g.row.B.Denot). IsSettled g.B.Wire.taken (g.D.Disk.states c.append.new.disk) s c.in_ok-self-inside.field-0) (sym is)
    (c.in_ok-self-inside.ensures.settled before _ settled may)
