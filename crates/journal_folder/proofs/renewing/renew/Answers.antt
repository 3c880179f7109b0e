use Rattle.std.proofs.Common.{length}
use Rattle.std.proofs.lemmas.Result.{IfOk-weaker}
use Rattle.journal_folder.proofs.Told.{told_of_store}
use Rattle.journal_folder.proofs.renewing.renew.Goals as goal

pub returns-clause-told : goal.returns-clause-told
returns-clause-told g c =
    IfOk-weaker c.carry_out.result _ _
    (λ told tells. record {
      store = c.in_ok-held.held.store;
      of_it = told_of_store c.in_ok-held.held.store c.args.config.now.setup c.args.forgotten.now (length c.args.config.now.listen.items) c.in_ok-held.held.group.standing.saved.items c.deref.result.now
          c.in_ok-plan.plan told c.deref.ensures.value c.in_ok-held.ensures.count c.in_ok-plan.ensures.plan tells;
    })
    c.carry_out.ensures.told
