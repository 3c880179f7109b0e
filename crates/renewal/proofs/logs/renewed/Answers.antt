use Rattle.std.proofs.Common.{List, ◌∙◌, ap, map, subst, sym}
use Rattle.machine_laws.specs.Runs.{run}
use Rattle.bouncer_tower.specs.Bodies.{TowerBody}
use Rattle.renewal.specs.Lists.{AreNoted, bodies_of, entry_of}
use Rattle.renewal.proofs.Entries.{is_renewal}
use Rattle.renewal.proofs.logs.renewed.Goals as goal

pub returns-clause-begun : goal.returns-clause-begun
returns-clause-begun c =
    is_renewal c.args.from.now c.args.to.now c.args.forgotten.now c.deref.result.now c.args.boots.now c.args.term c.in_ok-start.start.term c.in_ok-start.start.client
    c.deref-2.result.now c.args.log.now c.in_ok-anew.anew c.in_ok-bodies.bodies.items
    c.in_ok-start.ensures.term c.in_ok-start.ensures.client (c.deref-2.ensures.value ∙ c.in_ok-floors.ensures.floors)
    (c.in_ok-anew.ensures.log ∙ ap (λ (bs : List TowerBody). map (entry_of c.in_ok-start.start.term) bs) c.deref-3.ensures.value)
    (subst (λ names. AreNoted c.args.from.now (run (bodies_of c.args.log.now)) names) (sym c.deref.ensures.value) c.in_ok-layers.ensures.joined)
    (c.in_ok-bodies.ensures.anew (run (bodies_of c.args.log.now)) c.in_ok-layers.ensures.stands)
    (c.in_ok-bodies.ensures.known (run (bodies_of c.args.log.now)) c.in_ok-layers.ensures.stands)
    (c.in_ok-bodies.ensures.few (run (bodies_of c.args.log.now)) c.in_ok-layers.ensures.stands)
