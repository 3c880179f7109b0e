use Rattle.std.proofs.Common.{[], length, sym, ◌∙◌}
use Rattle.journal_folder.proofs.Told.{told_of_group}
use Rattle.journal_folder.proofs.settling.begin_without.Goals as goal

pub returns-clause-without : goal.returns-clause-without
returns-clause-without g c = record {
  store = c.args.held.now.store;
  keys_are = c.requires.keys;
  group = record { standing = c.args.held.now.group.standing; stands = c.requires.stands };
  lost = c.in_ok-renewed.ensures.lost;
  some = λ none. c.requires.lost (sym c.in_ok-renewed.ensures.lost ∙ none);
  of_it = told_of_group c.args.held.now.store.setup c.args.config.now.setup [] (length c.args.config.now.listen.items) c.args.held.now.group.standing.saved.items c.deref.result.now
      c.in-Ok.plan c.in_ok-renewed.renewed c.deref.ensures.value c.in-Ok.ensures.plan c.in_ok-renewed.ensures.told;
}
