use Rattle.headline.proofs.Hands.{handed_once}
use Rattle.headline.proofs.Promised.{headline_of}
use Rattle.headline.specs.Tower.{tower}
use Rattle.world_views.proofs.Handing.{handed_apart}
use Rattle.world_views.proofs.Openings.{history}
use Rattle.world_views.specs.Openings.{whole}
use Rattle.headline.proofs.running.running_bouncers_keep_the_promises.Goals as goal

pub returns : goal.returns
returns c =
    λ s size next before views rule honest opened.
    let h = history (tower s) size next before views rule honest opened in (
      h.0,
      record {
        history = h.1;
        headline = headline_of s _ (whole (tower s) before views h.0);
        apart = (handed_apart (tower s) size next before views rule honest opened (handed_once s)).1;
      },
    )
