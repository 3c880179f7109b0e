-- The nick learnt from a JOIN is the nick in force.
use Rattle.std.proofs.Common.{◌≡◌, ◌∙◌, ℕ, Bool, true, false, List, Option, Some, None, refl, ap, subst}
use Rattle.std.specs.Prelude.{if◌then◌else◌}
use Rattle.irc_line.specs.Names.{is_name, same_bytes}
use Rattle.irc_line.proofs.SameBytes.{same_bytes-eq}
use Rattle.driver.specs.declared.driver.Driver.{Driver}
use Rattle.driver.specs.Learning.{JoinsShowTheNick, LearnsIf, name_if, nick_learnt}
use Rattle.driver.specs.Nicks.{nick_by, nick_in}
use Rattle.driver.specs.Opening.{joined_as}

named_by : (b : Bool) (nick : List ℕ) (old learnt : Driver) → b ≡ true → LearnsIf (if b then Some nick else None) old learnt → nick_in learnt ≡ nick
named_by true nick old learnt is l = ap nick_in l.rest
named_by false nick old learnt is l = absurd (cc is)

learnt_by : (same : Bool) (asked nick : List ℕ) (old learnt : Driver) → same_bytes asked nick ≡ same → (same ≡ true → asked ≡ nick) → is_name nick ≡ true → nick_in old ≡ asked → LearnsIf (if same then None else name_if nick) old learnt → nick_in learnt ≡ nick
learnt_by true asked nick old learnt is equal named in_force same = ap nick_in same ∙ in_force ∙ equal refl
learnt_by false asked nick old learnt is equal named in_force l =
    named_by (is_name nick) nick old learnt named l

-- what is learnt from a nick that is shown, if none was given
shown_by : (given shown : Option (List ℕ)) (nick : List ℕ) (old learnt : Driver) → old.given ≡ given → given ≡ None → shown ≡ Some nick → is_name nick ≡ true → LearnsIf (nick_learnt given old.settings.nick shown) old learnt → nick_in learnt ≡ nick
shown_by given shown nick old learnt here none is named l =
    let asked = old.settings.nick in
    learnt_by (same_bytes asked nick) asked nick old learnt refl (same_bytes-eq asked nick) named
    (ap (λ (given : Option (List ℕ)). nick_by given asked) (here ∙ none))
    (subst (λ (shown : Option (List ℕ)). LearnsIf (nick_learnt None asked shown) old learnt) is
    (subst (λ (given : Option (List ℕ)). LearnsIf (nick_learnt given asked shown) old learnt) none l))

pub joins_show : JoinsShowTheNick
joins_show effect nick old learnt l none is named = shown_by old.given (joined_as effect) nick old learnt refl none is named l
