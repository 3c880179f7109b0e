use Rattle.std.proofs.Common.{[], ℕ, ◌≤◌, length, subst, sym}
use Rattle.journal_folder.proofs.Told.{told_of_group}
use Rattle.journal_folder.proofs.settling.settle_long.Goals as goal

pub returns-in_ok-carry_out-in-Ok-clause-settled : goal.returns-in_ok-carry_out-in-Ok-clause-settled
returns-in_ok-carry_out-in-Ok-clause-settled g c =
    let tells = c.in_ok-carry_out-in-Ok.ensures.told in (
      c.requires.some,
      record {
        store = c.args.held.now.store;
        same = c.requires.same;
        group = c.args.held.now.group.standing.saved.items;
        count = c.requires.count;
        of_it = told_of_group c.args.held.now.store.setup c.args.config.now.setup [] (length c.args.config.now.listen.items) c.args.held.now.group.standing.saved.items c.as_slice-group.result.now
            c.in-Ok.plan c.in_ok-carry_out-in-Ok.field-0 c.as_slice-group.ensures.value c.in-Ok.ensures.plan tells;
        long = c.requires.long;
        short = subst (λ (n : ℕ). n ≤ c.args.renew_at) (sym tells.now) c.in-Ok.ensures.short;
      },
    )
