use Rattle.std.proofs.Common.{[], length}
use Rattle.journal_folder.proofs.Told.{told_of_store}
use Rattle.journal_folder.proofs.settling.begin_changed.Goals as goal

pub returns-clause-changed : goal.returns-clause-changed
returns-clause-changed g c = record {
  store = c.args.held.now.store;
  keys_are = c.requires.keys;
  some = c.requires.some;
  renewed = told_of_store c.args.held.now.store c.args.config.now.setup [] (length c.args.config.now.listen.items) c.args.held.now.group.standing.saved.items c.deref.result.now
      c.in-Ok.plan c.in_ok-renewed.renewed c.deref.ensures.value c.requires.count c.in-Ok.ensures.plan c.in_ok-renewed.ensures.told;
}
