-- What one more call changes.
use Rattle.std.proofs.Common.{◌≡◌, ℕ, Bool, true, false, ◌||◌, List, [], ◌∷◌, ◌++◌, refl, ap, sym, ◌∙◌, append_assoc, subst}
use Rattle.std.specs.Prelude.{if◌then◌else◌}
use Rattle.std.specs.List.{list_any}
use Rattle.std.proofs.Math.Bool.{or-false, or-true}
use Rattle.std.proofs.lemmas.List.{append-nil}
use Rattle.std.proofs.lemmas.List.Folds.{list_any-append}
use Rattle.irc_line.specs.Splitting.{BringsItems, Stands, StandsBehind, items, items_from}
use Rattle.irc_line.specs.declared.item.Item.{Item}
use Rattle.uplink.specs.declared.input.UplinkInput.TheVariants.{Closed}
use Rattle.uplink.specs.declared.session.Session.{Session}
use Rattle.uplink.specs.declared.session.Session.TheVariants.{Registering}
use Rattle.uplink.specs.declared.standing.Standing.TheVariants.{Live, Lost, Over}
use Rattle.uplink.specs.Sessions.{after_items, inputs_from, replies_from}
use Rattle.uplink.specs.Calls.{Call, IsAfter, Link, bytes_of, inputs_of, is_end, is_failure, replies_of, session_of, standing_of}
use Rattle.uplink.specs.Calls.Call.{Ended, Fed, Failed}
use Rattle.uplink.proofs.Lists.{after-append, inputs-append, replies-append}

-- The bytes of the session

bytes-ended : (calls : List Call) → bytes_of (calls ++ Ended ∷ []) ≡ bytes_of calls
bytes-ended [] = refl
bytes-ended (Fed bytes ∷ later) = ap (λ t. bytes ++ t) (bytes-ended later)
bytes-ended (Failed ∷ later) = refl
bytes-ended (Ended ∷ later) = refl

bytes-failed : (calls : List Call) → bytes_of (calls ++ Failed ∷ []) ≡ bytes_of calls
bytes-failed [] = refl
bytes-failed (Fed bytes ∷ later) = ap (λ t. bytes ++ t) (bytes-failed later)
bytes-failed (Failed ∷ later) = refl
bytes-failed (Ended ∷ later) = refl

-- bytes that are fed while it is live
bytes-fed : (calls : List Call) (bytes : List ℕ) → list_any is_end calls ≡ false → list_any is_failure calls ≡ false → bytes_of (calls ++ Fed bytes ∷ []) ≡ bytes_of calls ++ bytes
bytes-fed [] bytes e w = append-nil bytes
bytes-fed (Fed first ∷ later) bytes e w =
    ap (λ t. first ++ t) (bytes-fed later bytes e w) ∙ sym (append_assoc first (bytes_of later) bytes)
bytes-fed (Failed ∷ later) bytes e w = cc
bytes-fed (Ended ∷ later) bytes e w = cc

-- bytes that are fed later
bytes-late : (calls : List Call) (bytes : List ℕ) → (list_any is_end calls || list_any is_failure calls) ≡ true → bytes_of (calls ++ Fed bytes ∷ []) ≡ bytes_of calls
bytes-late [] bytes h = cc
bytes-late (Fed first ∷ later) bytes h = ap (λ t. first ++ t) (bytes-late later bytes h)
bytes-late (Failed ∷ later) bytes h = refl
bytes-late (Ended ∷ later) bytes h = refl

-- The ends among the calls

ends-fed : (calls : List Call) (bytes : List ℕ) → list_any is_end (calls ++ Fed bytes ∷ []) ≡ list_any is_end calls
ends-fed calls bytes = list_any-append is_end calls (Fed bytes ∷ []) ∙ or-false (list_any is_end calls)

failures-fed : (calls : List Call) (bytes : List ℕ) → list_any is_failure (calls ++ Fed bytes ∷ []) ≡ list_any is_failure calls
failures-fed calls bytes = list_any-append is_failure calls (Fed bytes ∷ []) ∙ or-false (list_any is_failure calls)

ends-failed : (calls : List Call) → list_any is_end (calls ++ Failed ∷ []) ≡ list_any is_end calls
ends-failed calls = list_any-append is_end calls (Failed ∷ []) ∙ or-false (list_any is_end calls)

failures-failed : (calls : List Call) → list_any is_failure (calls ++ Failed ∷ []) ≡ true
failures-failed calls = list_any-append is_failure calls (Failed ∷ []) ∙ or-true (list_any is_failure calls)

ends-ended : (calls : List Call) → list_any is_end (calls ++ Ended ∷ []) ≡ true
ends-ended calls = list_any-append is_end calls (Ended ∷ []) ∙ or-true (list_any is_end calls)

-- The state of the calls

-- what a live uplink says about its calls
pub record LiveCalls (nick : List ℕ) (calls : List Call) (s : Session) : Type 0 where
  pub no_end : list_any is_end calls ≡ false
  pub no_failure : list_any is_failure calls ≡ false
  pub session : s ≡ session_of nick calls

live_by : (nick : List ℕ) (calls : List Call) (s : Session) (e w : Bool) → list_any is_end calls ≡ e → list_any is_failure calls ≡ w → (if e then Over else if w then Lost else Live (session_of nick calls)) ≡ Live s → LiveCalls nick calls s
live_by nick calls s true w p q h = cc
live_by nick calls s false true p q h = cc
live_by nick calls s false false p q h = record { no_end = p; no_failure = q; session = cc }

pub live_calls : (link : Link) (nick : List ℕ) (calls : List Call) (s : Session) → link.standing ≡ Live s → IsAfter link nick calls → LiveCalls nick calls s
unfolding standing_of
live_calls link nick calls s l h = live_by nick calls s (list_any is_end calls) (list_any is_failure calls) refl refl (sym h.standing ∙ l)

standing_live : (nick : List ℕ) (calls : List Call) → list_any is_end calls ≡ false → list_any is_failure calls ≡ false → standing_of nick calls ≡ Live (session_of nick calls)
unfolding standing_of
standing_live nick calls e w = rw (e, w) refl

standing_over : (nick : List ℕ) (calls : List Call) → list_any is_end calls ≡ true → standing_of nick calls ≡ Over
unfolding standing_of
standing_over nick calls e = rw e refl

standing_lost : (nick : List ℕ) (calls : List Call) → list_any is_end calls ≡ false → list_any is_failure calls ≡ true → standing_of nick calls ≡ Lost
unfolding standing_of
standing_lost nick calls e w = rw (e, w) refl

-- One more call

pub fed_after : (link new : Link) (s : Session) (bytes : List ℕ) (got : List Item) (nick : List ℕ) (calls : List Call) → link.standing ≡ Live s → BringsItems link.held bytes got → StandsBehind link.held bytes new.held → new.standing ≡ Live (after_items s got) → IsAfter link nick calls → IsAfter new nick (calls ++ Fed bytes ∷ [])
fed_after link new s bytes got nick calls l brings stands n h =
    let was : LiveCalls nick calls s = live_calls link nick calls s l h in
    let all : bytes_of (calls ++ Fed bytes ∷ []) ≡ bytes_of calls ++ bytes = bytes-fed calls bytes was.no_end was.no_failure in
    let more : items (bytes_of calls ++ bytes) ≡ items (bytes_of calls) ++ got = sym (brings (bytes_of calls) (h.held s l)) in
    let session : session_of nick (calls ++ Fed bytes ∷ []) ≡ after_items s got =
    ap (λ t. after_items (Registering nick) (items t)) all ∙ ap (λ t. after_items (Registering nick) t) more ∙ after-append (Registering nick) (items (bytes_of calls)) got ∙ ap (λ t. after_items t got) (sym was.session) in
    record {
      standing = n ∙ ap Live (sym session) ∙ sym (standing_live nick (calls ++ Fed bytes ∷ []) (ends-fed calls bytes ∙ was.no_end) (failures-fed calls bytes ∙ was.no_failure));
      held = λ t e. subst (λ b. Stands new.held b) (sym all) (stands (bytes_of calls) (h.held s l));
    }

pub fed_inputs : (link : Link) (s : Session) (bytes : List ℕ) (got : List Item) (nick : List ℕ) (calls : List Call) → link.standing ≡ Live s → BringsItems link.held bytes got → IsAfter link nick calls → inputs_of nick calls ++ inputs_from s got ≡ inputs_of nick (calls ++ Fed bytes ∷ [])
unfolding inputs_of
fed_inputs link s bytes got nick calls l brings h =
    let was : LiveCalls nick calls s = live_calls link nick calls s l h in
    let all : bytes_of (calls ++ Fed bytes ∷ []) ≡ bytes_of calls ++ bytes = bytes-fed calls bytes was.no_end was.no_failure in
    let more : items (bytes_of calls ++ bytes) ≡ items (bytes_of calls) ++ got = sym (brings (bytes_of calls) (h.held s l)) in
    let given : inputs_from (Registering nick) (items (bytes_of (calls ++ Fed bytes ∷ []))) ≡ inputs_from (Registering nick) (items (bytes_of calls)) ++ inputs_from s got =
    ap (λ t. inputs_from (Registering nick) (items t)) all ∙ ap (λ t. inputs_from (Registering nick) t) more ∙ inputs-append (Registering nick) (items (bytes_of calls)) got ∙ ap (λ t. inputs_from (Registering nick) (items (bytes_of calls)) ++ inputs_from t got) (sym was.session) in
    rw (was.no_end, ends-fed calls bytes ∙ was.no_end, append-nil, append-nil) (sym given)

pub fed_replies : (link : Link) (s : Session) (bytes : List ℕ) (got : List Item) (nick : List ℕ) (calls : List Call) → link.standing ≡ Live s → BringsItems link.held bytes got → IsAfter link nick calls → replies_of nick calls ++ replies_from s got ≡ replies_of nick (calls ++ Fed bytes ∷ [])
unfolding replies_of
fed_replies link s bytes got nick calls l brings h =
    let was : LiveCalls nick calls s = live_calls link nick calls s l h in
    let all : bytes_of (calls ++ Fed bytes ∷ []) ≡ bytes_of calls ++ bytes = bytes-fed calls bytes was.no_end was.no_failure in
    let more : items (bytes_of calls ++ bytes) ≡ items (bytes_of calls) ++ got = sym (brings (bytes_of calls) (h.held s l)) in
    sym (ap (λ t. replies_from (Registering nick) (items t)) all ∙ ap (λ t. replies_from (Registering nick) t) more ∙ replies-append (Registering nick) (items (bytes_of calls)) got ∙ ap (λ t. replies_from (Registering nick) (items (bytes_of calls)) ++ replies_from t got) (sym was.session))

-- memory ran out while it was live
pub failed_after : (link new : Link) (s : Session) (nick : List ℕ) (calls : List Call) → link.standing ≡ Live s → new.standing ≡ Lost → IsAfter link nick calls → IsAfter new nick (calls ++ Failed ∷ [])
failed_after link new s nick calls l n h =
    let was : LiveCalls nick calls s = live_calls link nick calls s l h in
    record {
      standing = n ∙ sym (standing_lost nick (calls ++ Failed ∷ []) (ends-failed calls ∙ was.no_end) (failures-failed calls));
      held = λ t e. cc;
    }

pub failed_inputs : (nick : List ℕ) (calls : List Call) → inputs_of nick calls ++ [] ≡ inputs_of nick (calls ++ Failed ∷ [])
unfolding inputs_of
failed_inputs nick calls = rw (ends-failed calls, bytes-failed calls) (append-nil (inputs_of nick calls))

pub failed_replies : (nick : List ℕ) (calls : List Call) → replies_of nick calls ++ [] ≡ replies_of nick (calls ++ Failed ∷ [])
unfolding replies_of
failed_replies nick calls = rw bytes-failed (append-nil (replies_of nick calls))

-- the end is reported
pub ended_after : (link new : Link) (nick : List ℕ) (calls : List Call) → new.standing ≡ Over → IsAfter link nick calls → IsAfter new nick (calls ++ Ended ∷ [])
ended_after link new nick calls n h =
    record {
      standing = n ∙ sym (standing_over nick (calls ++ Ended ∷ []) (ends-ended calls));
      held = λ t e. cc;
    }

pub ended_replies : (nick : List ℕ) (calls : List Call) → replies_of nick calls ++ [] ≡ replies_of nick (calls ++ Ended ∷ [])
unfolding replies_of
ended_replies nick calls =
    append-nil (replies_from (Registering nick) (items (bytes_of calls))) ∙ ap (λ t. replies_from (Registering nick) (items t)) (sym (bytes-ended calls))

end_by : (nick : List ℕ) (calls : List Call) (e w : Bool) → list_any is_end calls ≡ e → (if e then Over else if w then Lost else Live (session_of nick calls)) ≡ Over → list_any is_end calls ≡ true
end_by nick calls true w p h = p
end_by nick calls false true p h = cc
end_by nick calls false false p h = cc

no_end_by : (nick : List ℕ) (calls : List Call) (e w : Bool) → list_any is_end calls ≡ e → ((if e then Over else if w then Lost else Live (session_of nick calls)) ≡ Over → ⊥) → list_any is_end calls ≡ false
no_end_by nick calls true w p h = absurd (h refl)
no_end_by nick calls false w p h = p

-- the first time the end is given
pub ended_first : (link : Link) (nick : List ℕ) (calls : List Call) → (link.standing ≡ Over → ⊥) → IsAfter link nick calls → inputs_of nick calls ++ Closed ∷ [] ≡ inputs_of nick (calls ++ Ended ∷ [])
unfolding inputs_of standing_of
ended_first link nick calls l h =
    let none : list_any is_end calls ≡ false = no_end_by nick calls (list_any is_end calls) (list_any is_failure calls) refl (λ o. l (h.standing ∙ o)) in
    rw (none, ends-ended calls, bytes-ended calls, append-nil) refl

-- later it is not
pub ended_again : (link : Link) (nick : List ℕ) (calls : List Call) → link.standing ≡ Over → IsAfter link nick calls → inputs_of nick calls ++ [] ≡ inputs_of nick (calls ++ Ended ∷ [])
unfolding inputs_of standing_of
ended_again link nick calls l h =
    let some : list_any is_end calls ≡ true = end_by nick calls (list_any is_end calls) (list_any is_failure calls) refl (sym h.standing ∙ l) in
    rw (some, ends-ended calls, bytes-ended calls, append-nil) refl

-- Bytes that come too late

dead_by : (nick : List ℕ) (calls : List Call) (e w : Bool) → list_any is_end calls ≡ e → list_any is_failure calls ≡ w → ((s : Session) → (if e then Over else if w then Lost else Live (session_of nick calls)) ≡ Live s → ⊥) → (list_any is_end calls || list_any is_failure calls) ≡ true
dead_by nick calls true w p q h = rw p refl
dead_by nick calls false true p q h = rw (p, q) refl
dead_by nick calls false false p q h = absurd (h (session_of nick calls) refl)

late_bytes : (link : Link) (bytes nick : List ℕ) (calls : List Call) → ((s : Session) → link.standing ≡ Live s → ⊥) → IsAfter link nick calls → bytes_of (calls ++ Fed bytes ∷ []) ≡ bytes_of calls
unfolding standing_of
late_bytes link bytes nick calls l h =
    bytes-late calls bytes (dead_by nick calls (list_any is_end calls) (list_any is_failure calls) refl refl (λ s o. l s (h.standing ∙ o)))

pub late_after : (link new : Link) (bytes nick : List ℕ) (calls : List Call) → ((s : Session) → link.standing ≡ Live s → ⊥) → new.standing ≡ link.standing → IsAfter link nick calls → IsAfter new nick (calls ++ Fed bytes ∷ [])
unfolding standing_of
late_after link new bytes nick calls l n h =
    record {
      standing = rw (ends-fed calls bytes, failures-fed calls bytes, late_bytes link bytes nick calls l h) (n ∙ h.standing);
      held = λ s e. absurd (l s (sym n ∙ e));
    }

pub late_inputs : (link : Link) (bytes nick : List ℕ) (calls : List Call) → ((s : Session) → link.standing ≡ Live s → ⊥) → IsAfter link nick calls → inputs_of nick calls ++ [] ≡ inputs_of nick (calls ++ Fed bytes ∷ [])
unfolding inputs_of
late_inputs link bytes nick calls l h =
    rw (ends-fed calls bytes, late_bytes link bytes nick calls l h) (append-nil (inputs_of nick calls))

pub late_replies : (link : Link) (bytes nick : List ℕ) (calls : List Call) → ((s : Session) → link.standing ≡ Live s → ⊥) → IsAfter link nick calls → replies_of nick calls ++ [] ≡ replies_of nick (calls ++ Fed bytes ∷ [])
unfolding replies_of
late_replies link bytes nick calls l h =
    rw (late_bytes link bytes nick calls l h) (append-nil (replies_of nick calls))

-- No call yet

pub new_after : (link : Link) (nick : List ℕ) → link.standing ≡ Live (Registering nick) → Stands link.held [] → IsAfter link nick []
unfolding standing_of items_from
new_after link nick l s = record { standing = l; held = λ t e. s }
