use Rattle.std.proofs.Common.{rules, ◌≡◌, [], ◌∷◌, refl}
use Rattle.ether.specs.Passes.{looks_of, view_of}
use Rattle.ether.proofs.Cutting.{cuts, joins}
use Rattle.ether.proofs.Moments.{meets_back, two_of_one}
use Rattle.ether.proofs.Passes.{same_pass}
use Rattle.ether.proofs.ether.Ether.meet.Given as given
use Rattle.ether.proofs.ether.Ether.meet.Goals as goal

pub split_seat-lent-requires : goal.split_seat-lent-requires
split_seat-lent-requires g c = (search rules, search rules, cuts _ _ _ 0 _)

pub join_seat-requires : goal.join_seat-requires
join_seat-requires g c = (search rules, search rules, search rules, search rules, joins _ _ _ _ _ _)

pub split_seat-back-requires : goal.split_seat-back-requires
split_seat-back-requires g c = (search rules, search rules, cuts _ _ _ 1 _)

pub join_seat-requires-2 : goal.join_seat-requires-2
join_seat-requires-2 g c = (search rules, search rules, search rules, search rules, joins _ _ _ _ _ _)

after : (g : given.Over) → (c : goal.After-join_seat-2 g)
    → (c.split_seat-back.new.seat.me ≡ c.args.one.now.seat.me) × (c.join_seat-2.new.seat.me ≡ c.args.other.now.seat.me)
    × (c.join_seat.new.seat.me.0.views ≡ view_of c.args.one.now ∷ view_of c.args.other.now ∷ [])
after g c =
    let one = c.requires.0 in
    let other = c.requires.1 in
    meets_back c.args.one.now.seat.me c.join_seat.new.seat.me c.learn.new.seat.me c.split_seat-back.new.seat.me c.args.other.now.seat.me c.split_seat-lent.new.seat.me c.join_seat-2.new.seat.me
    c.split_seat-lent.result.me c.split_seat-back.result.me
    one.out c.args.one.now.spare (looks_of c.args.one.now) (view_of c.args.one.now) other.out c.args.other.now.spare (looks_of c.args.other.now) (view_of c.args.other.now) one.me other.me
    c.split_seat-lent.ensures.2 c.split_seat-lent.ensures.4 c.join_seat.ensures.2 c.learn.ensures.same.2 c.split_seat-back.ensures.2 c.split_seat-back.ensures.4 c.join_seat-2.ensures.2

pub returns-clause-one : goal.returns-clause-one
returns-clause-one g c =
    same_pass _ _ c.args.one.now (record c.args.one.now { seat = c.split_seat-back.new.seat }) c.requires.0 (after g c).0 (search rules) refl refl refl

pub returns-clause-other : goal.returns-clause-other
returns-clause-other g c =
    same_pass _ _ c.args.other.now (record c.args.other.now { seat = c.join_seat-2.new.seat }) c.requires.1 (after g c).1 (search rules) refl refl refl

pub returns-clause-meet : goal.returns-clause-meet
returns-clause-meet g c = two_of_one _ c.args.self.now.size _ _ _ c.learn.ensures.fact (after g c).2
