use Rattle.std.proofs.Common.{sym, ◌∙◌}
use Rattle.journal_folder.proofs.foretelling.coming_of.Goals as goal

pub returns-in-Ok : goal.returns-in-Ok
returns-in-Ok c =
    let not_none = c.is_none.ensures.some search in record {
      store = c.args.store.now;
      keys_are = c.in_ok-keys.ensures.keys;
      group = record { standing = c.args.standing.now; stands = c.requires.stands };
      are = c.in_ok-lost.ensures;
      some = λ none. not_none (sym c.in_ok-lost.ensures ∙ none);
    }
