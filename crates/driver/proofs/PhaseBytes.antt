-- In which order an uplink gives the inputs of a session, before its end is reported.
use Rattle.std.proofs.Common.{◌≡◌, ◌∙◌, ◌++◌, ℕ, Bool, true, false, List, [], ◌∷◌, Option, Some, None, refl, sym, ap, subst}
use Rattle.std.specs.Prelude.{if◌then◌else◌, is_some}
use Rattle.std.specs.Option.{option_to_list}
use Rattle.std.specs.List.{list_any}
use Rattle.std.proofs.lemmas.List.{append_assoc, append-nil}
use Rattle.irc_line.specs.Lines.{Parts}
use Rattle.irc_line.specs.Splitting.{items, items_from}
use Rattle.irc_line.specs.declared.item.Item.{Item}
use Rattle.irc_line.specs.declared.item.Item.TheVariants.{Got, Refused}
use Rattle.uplink.specs.declared.input.UplinkInput.{UplinkInput}
use Rattle.uplink.specs.declared.input.UplinkInput.TheVariants as input
use Rattle.uplink.specs.declared.meaning.Meaning.{Meaning}
use Rattle.uplink.specs.declared.meaning.Meaning.TheVariants as meaning
use Rattle.uplink.specs.declared.session.Session.{Session as Link}
use Rattle.uplink.specs.declared.session.Session.TheVariants as link
use Rattle.uplink.specs.Calls.{Call, IsAfter, bytes_of, inputs_of, is_end}
use Rattle.uplink.specs.Calls.Call.{Ended, Failed, Fed}
use Rattle.uplink.specs.Sessions.{after_line, after_meaning, asking, given_by, inputs_for, inputs_from, meaning_of, next_nick}
use Rattle.driver.specs.declared.link.Session.{Session}
use Rattle.driver.specs.Ordering.{Phase}
use Rattle.driver.specs.Sessions.{absent_news}
use Rattle.driver.proofs.Growing.{AllAre}
use Rattle.driver.proofs.Phases.{Calm, Has, has_given, phase_by}

-- What an uplink gives before its end is reported: nothing, or that the session opened, and then lines.

abbrev pub AreLines : List UplinkInput → Type 0
AreLines [] = Unit {0}
AreLines (input.Opened ∷ more) = ⊥
AreLines (input.Heard line ∷ more) = AreLines more
AreLines (input.Closed ∷ more) = ⊥

abbrev pub IsSession : List UplinkInput → Type 0
IsSession [] = Unit {0}
IsSession (input.Opened ∷ more) = AreLines more
IsSession (input.Heard line ∷ more) = ⊥
IsSession (input.Closed ∷ more) = ⊥

abbrev FitsIn : Link → List UplinkInput → Type 0
FitsIn (link.Registering nick) inputs = IsSession inputs
FitsIn link.Open inputs = AreLines inputs

fits_asking : (nick : List ℕ) (next : Option (List ℕ)) (more : List Item) → ((session : Link) → FitsIn session (inputs_from session more)) → IsSession (inputs_from (asking nick next) more)
fits_asking nick None more rest = rest (link.Registering nick)
fits_asking nick (Some next) more rest = rest (link.Registering next)

fits_line : (session : Link) (means : Meaning) (line : Parts) (more : List Item) → ((session : Link) → FitsIn session (inputs_from session more)) → FitsIn session (given_by session means line ++ inputs_from (after_meaning session means) more)
fits_line (link.Registering nick) meaning.Ping line more rest = rest (link.Registering nick)
fits_line (link.Registering nick) meaning.Welcome line more rest = rest link.Open
fits_line (link.Registering nick) meaning.NickInUse line more rest = fits_asking nick (next_nick nick) more rest
fits_line (link.Registering nick) meaning.Other line more rest = rest (link.Registering nick)
fits_line link.Open meaning.Ping line more rest = rest link.Open
fits_line link.Open meaning.Welcome line more rest = rest link.Open
fits_line link.Open meaning.NickInUse line more rest = rest link.Open
fits_line link.Open meaning.Other line more rest = rest link.Open

fits_none : (session : Link) → FitsIn session []
fits_none (link.Registering nick) = tt
fits_none link.Open = tt

fits_from : (session : Link) (all : List Item) → FitsIn session (inputs_from session all)
unfolding inputs_for after_line
fits_from session [] = fits_none session
fits_from session (Got line ∷ more) = fits_line session (meaning_of line) line more (λ next. fits_from next more)
fits_from session (Refused fault ∷ more) = fits_from session more

live_inputs : (nick : List ℕ) (calls : List Call) → list_any is_end calls ≡ false → inputs_of nick calls ≡ inputs_from (link.Registering nick) (items (bytes_of calls))
unfolding inputs_of
live_inputs nick calls live =
    ap (λ (ended : Bool). inputs_from (link.Registering nick) (items (bytes_of calls)) ++ (if ended then input.Closed ∷ [] else [])) live
    ∙ append-nil (inputs_from (link.Registering nick) (items (bytes_of calls)))

-- a new uplink gave nothing
pub none_given : (nick : List ℕ) → [] ≡ inputs_of nick []
unfolding inputs_of items_from
none_given nick = refl

session_of_calls : (nick : List ℕ) (calls : List Call) → list_any is_end calls ≡ false → IsSession (inputs_of nick calls)
session_of_calls nick calls live = subst IsSession (sym (live_inputs nick calls live)) (fits_from (link.Registering nick) (items (bytes_of calls)))

-- so the opening comes first, lines come behind it, and the end does not come
lines_only : (lines left : List UplinkInput) → AreLines (lines ++ input.Opened ∷ left) → ⊥
lines_only [] left are = are
lines_only (input.Opened ∷ lines) left are = are
lines_only (input.Heard line ∷ lines) left are = lines_only lines left are
lines_only (input.Closed ∷ lines) left are = are

lines_open : (lines left : List UplinkInput) → AreLines (lines ++ input.Closed ∷ left) → ⊥
lines_open [] left are = are
lines_open (input.Opened ∷ lines) left are = are
lines_open (input.Heard line ∷ lines) left are = lines_open lines left are
lines_open (input.Closed ∷ lines) left are = are

pub opens_first : (done left : List UplinkInput) → IsSession (done ++ input.Opened ∷ left) → has_given done ≡ false
opens_first [] left is = refl
opens_first (input.Opened ∷ done) left is = absurd (lines_only done left is)
opens_first (input.Heard line ∷ done) left is = absurd is
opens_first (input.Closed ∷ done) left is = absurd is

pub heard_later : (done : List UplinkInput) (line : Parts) (left : List UplinkInput) → IsSession (done ++ input.Heard line ∷ left) → has_given done ≡ true
heard_later [] line left is = absurd is
heard_later (some ∷ done) line left is = refl

pub never_closed : (done left : List UplinkInput) → IsSession (done ++ input.Closed ∷ left) → ⊥
never_closed [] left is = is
never_closed (input.Opened ∷ done) left is = lines_open done left is
never_closed (input.Heard line ∷ done) left is = is
never_closed (input.Closed ∷ done) left is = is

pub has_session : (left : List UplinkInput) (phase : Phase) (session : Session) → (has : Has left phase session) → IsSession (has.done ++ left)
has_session left phase session has = subst IsSession (sym has.all) (session_of_calls has.nick has.calls has.is_live)

-- one more is told
given_more : (done : List UplinkInput) (one : UplinkInput) → has_given (done ++ one ∷ []) ≡ true
given_more [] one = refl
given_more (some ∷ done) one = refl

pub moved : (one : UplinkInput) (left : List UplinkInput) (phase next : Phase) (session new : Session) → (has : Has (one ∷ left) phase session) → new.uplink ≡ session.uplink → new.is_opened ≡ true → next ≡ phase_by new.is_opened new.node → Has left next new
moved one left phase next session new has same opened is = record {
  nick = has.nick;
  calls = has.calls;
  after = subst (λ uplink. IsAfter uplink has.nick has.calls) (sym same) has.after;
  is_live = has.is_live;
  done = has.done ++ one ∷ [];
  all = append_assoc has.done (one ∷ []) left ∙ has.all;
  opened = opened ∙ sym (given_more has.done one);
  phase_is = is;
}

pub absent_calm : (node : ℕ) (number : Option ℕ) → AllAre Calm (absent_news node number)
unfolding AllAre
absent_calm node None = tt
absent_calm node (Some number) = (tt, tt)

-- so its end is given when it is reported

ends_any : (calls : List Call) → list_any is_end (calls ++ Ended ∷ []) ≡ true
ends_any [] = refl
ends_any (Fed bytes ∷ calls) = ends_any calls
ends_any (Failed ∷ calls) = ends_any calls
ends_any (Ended ∷ calls) = refl

end_inputs : (nick : List ℕ) (calls : List Call) → inputs_of nick (calls ++ Ended ∷ []) ≡ inputs_from (link.Registering nick) (items (bytes_of (calls ++ Ended ∷ []))) ++ input.Closed ∷ []
unfolding inputs_of
end_inputs nick calls =
    ap (λ (ended : Bool). inputs_from (link.Registering nick) (items (bytes_of (calls ++ Ended ∷ []))) ++ (if ended then input.Closed ∷ [] else [])) (ends_any calls)

pub end_given : (nick : List ℕ) (calls : List Call) (given : Option UplinkInput) → list_any is_end calls ≡ false → inputs_of nick calls ++ option_to_list given ≡ inputs_of nick (calls ++ Ended ∷ []) → is_some given ≡ true
end_given nick calls (Some one) live is = refl
end_given nick calls None live is =
    let whole : inputs_of nick calls ≡ inputs_from (link.Registering nick) (items (bytes_of (calls ++ Ended ∷ []))) ++ input.Closed ∷ [] =
    sym (append-nil (inputs_of nick calls)) ∙ is ∙ end_inputs nick calls
    in
    absurd (never_closed (inputs_from (link.Registering nick) (items (bytes_of (calls ++ Ended ∷ [])))) [] (subst IsSession whole (session_of_calls nick calls live)))
