-- The warnings about a configuration.
use Rattle.std.specs.Prelude.{ℕ, ◌*◌, nat_le, nat_lt, Bool, false, not, ◌&&◌, ◌||◌, ◌==◌, List, [], ◌∷◌, codes}
use Rattle.std.specs.List.{list_all}
use Rattle.irc_line.specs.Names.{same_bytes}
use Rattle.bouncer_config.specs.declared.config.Config.{Config}
use Rattle.run_plan.specs.declared.warning.Warning.{Warning}
use Rattle.run_plan.specs.declared.warning.Warning.TheVariants.{BeatsTooSeldom, NickIsTakenNowhere, PasswordIsKnown}

-- three beats take longer than the others wait for a leader
abbrev pub are_too_seldom : ℕ → ℕ → Bool
are_too_seldom beat_ms timeout_ms = nat_lt timeout_ms (3 * beat_ms)

-- a byte that a nick may begin with: by RFC 2812 a letter or one of `[]\`_^{|}`, the bytes 65 to 125; servers that
-- allow more allow those past 127
abbrev pub begins_nicks : ℕ → Bool
begins_nicks b = (nat_le 65 b && nat_le b 125) || nat_le 128 b

-- a byte that a nick may have: these, a digit, or `-`
abbrev pub is_of_nicks : ℕ → Bool
is_of_nicks b = begins_nicks b || (nat_le 48 b && nat_le b 57) || b == 45

-- a nick that some server accepts
abbrev pub is_taken_somewhere : List ℕ → Bool
is_taken_somewhere [] = false
is_taken_somewhere (b ∷ bs) = begins_nicks b && list_all is_of_nicks bs

-- the password of the example, which everybody can read
abbrev pub known_password : List ℕ
known_password = codes "correct-horse"

-- this warning applies to a configuration
abbrev pub is_warned : Warning → Config → Bool
is_warned BeatsTooSeldom c = are_too_seldom c.beat_ms c.timeout_ms
is_warned NickIsTakenNowhere c = not (is_taken_somewhere c.setup.nick)
is_warned PasswordIsKnown c = same_bytes c.password known_password
