use Rattle.std.proofs.Common.{rules, ◌≡◌, ◌∙◌, ℕ, List, [], ◌∷◌, is_some, refl, take, subst}
use Rattle.std.proofs.lemmas.Result.{on_ok_weaker}
use Rattle.driver.specs.Answering.{AreTold}
use Rattle.driver.specs.Filling.{entries_of}
use Rattle.driver.specs.Nicks.{nick_in}
use Rattle.driver.specs.Rosters.{client_at}
use Rattle.driver.specs.Standing.{standing_texts, nodes_text, server_text, waiting_text, log_text, waits_in_log}
use Rattle.driver.proofs.driver.Driver.tell_texts.Goals as goal

pub returns-clause-told : goal.returns-clause-told
returns-clause-told c =
    let old = c.args.self.now in
    let nodes : c.as_slice.result.now ≡ nodes_text c.args.leader.now (take old.settings.size old.monitors) = search rules in
    let server : c.as_slice-2.result.now ≡ server_text old.link c.args.now.now.ms = search rules in
    let waiting : c.as_slice-3.result.now ≡ waiting_text old.link.waiting (waits_in_log c.args.leader.now old.monitors) (is_some old.dropping) = search rules in
    let log : c.as_slice-4.result.now ≡ log_text (entries_of old.monitors c.args.leader.now) = search rules in
    let same : (c.as_slice.result.now ∷ c.as_slice-2.result.now ∷ c.as_slice-3.result.now ∷ c.as_slice-4.result.now ∷ []) ≡ standing_texts c.args.leader.now c.args.now.now.ms old =
    rw (nodes, server, waiting, log) refl
    in
    on_ok_weaker c.tell_lines.result
    (λ told. subst (λ (texts : List (List ℕ)). AreTold texts (client_at old.clients c.args.number) (nick_in old) old.orders c.tell_lines.new.self.orders) same told)
    c.tell_lines.ensures.told
