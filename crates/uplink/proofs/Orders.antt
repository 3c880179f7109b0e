-- Laws over all calls.
use Rattle.std.proofs.Common.{◌≡◌, ℕ, Bool, true, false, ◌&&◌, List, [], ◌∷◌, ◌++◌, refl, ap, ◌∙◌, append_assoc, arith, subst}
use Rattle.std.specs.Prelude.{if◌then◌else◌, ◌==◌, IsTrue, Option, Some, None, codes, nat_le, length}
use Rattle.std.specs.List.{list_any}
use Rattle.std.proofs.lemmas.Bool.Decides.{nat_tests}
use Rattle.irc_line.specs.Lines.{Parts}
use Rattle.irc_line.specs.Names.{is_name, same_bytes}
use Rattle.irc_line.specs.Splitting.{items}
use Rattle.irc_line.specs.declared.item.Item.{Item}
use Rattle.irc_line.specs.declared.item.Item.TheVariants.{Got, Refused}
use Rattle.uplink.specs.declared.input.UplinkInput.{UplinkInput}
use Rattle.uplink.specs.declared.input.UplinkInput.TheVariants.{Opened, Heard, Closed}
use Rattle.uplink.specs.declared.meaning.Meaning.{Meaning}
use Rattle.uplink.specs.declared.meaning.Meaning.TheVariants.{Ping, Welcome, NickInUse, Other}
use Rattle.uplink.specs.declared.session.Session.{Session}
use Rattle.uplink.specs.declared.session.Session.TheVariants.{Registering, Open}
use Rattle.uplink.specs.Sessions.{after_items, after_line, after_meaning, asking, given_by, inputs_for, inputs_from, meaning_of, next_nick}
use Rattle.uplink.specs.Calls.{Call, bytes_of, closing, inputs_of, is_end, is_failure, replies_of, session_of, standing_of}
use Rattle.uplink.specs.Calls.Call.{Ended, Failed, Fed}
use Rattle.uplink.specs.Orders.{AreAlike, from_welcome, heard_at, heard_of, is_heard_to_end, is_in_order, opening, session_inputs}
use Rattle.uplink.proofs.Nicks.{longer_name}

-- Cutting

bytes-cut : (first second : List ℕ) (before later : List Call) → bytes_of (before ++ Fed (first ++ second) ∷ later) ≡ bytes_of (before ++ Fed first ∷ Fed second ∷ later)
bytes-cut first second [] later = append_assoc first second (bytes_of later)
bytes-cut first second (Fed bytes ∷ before) later = ap (λ t. bytes ++ t) (bytes-cut first second before later)
bytes-cut first second (Failed ∷ before) later = refl
bytes-cut first second (Ended ∷ before) later = refl

ends-cut : (first second : List ℕ) (before later : List Call) → list_any is_end (before ++ Fed (first ++ second) ∷ later) ≡ list_any is_end (before ++ Fed first ∷ Fed second ∷ later)
ends-cut first second [] later = refl
ends-cut first second (Fed bytes ∷ before) later = ends-cut first second before later
ends-cut first second (Failed ∷ before) later = ends-cut first second before later
ends-cut first second (Ended ∷ before) later = refl

failures-cut : (first second : List ℕ) (before later : List Call) → list_any is_failure (before ++ Fed (first ++ second) ∷ later) ≡ list_any is_failure (before ++ Fed first ∷ Fed second ∷ later)
failures-cut first second [] later = refl
failures-cut first second (Fed bytes ∷ before) later = failures-cut first second before later
failures-cut first second (Failed ∷ before) later = refl
failures-cut first second (Ended ∷ before) later = failures-cut first second before later

pub cut_alike : (nick first second : List ℕ) (before later : List Call) → AreAlike nick (before ++ Fed (first ++ second) ∷ later) (before ++ Fed first ∷ Fed second ∷ later)
unfolding inputs_of replies_of standing_of
cut_alike nick first second before later = (
  rw (bytes-cut first second before later, ends-cut first second before later) refl,
  rw (bytes-cut first second before later) refl,
  rw (bytes-cut first second before later, ends-cut first second before later, failures-cut first second before later) refl,
)

-- The first 001

first_byte : (b : ℕ) (more other : Bool) → (b == 80 && more) ≡ true → (b == 48 && other) ≡ false
first_byte b more other h = grind (arith, nat_tests)

-- a PING is no 001
no_welcome : (word : List ℕ) → same_bytes word (codes "PING") ≡ true → same_bytes word (codes "001") ≡ false
no_welcome [] h = cc
no_welcome (b ∷ word) h = first_byte b (same_bytes word (codes "ING")) (same_bytes word (codes "01")) h

-- the meaning of a line, by whether its command is PING, 001 or 433
abbrev meaning_by : Bool → Bool → Bool → Meaning
meaning_by ping welcome in_use = if ping then Ping else if welcome then Welcome else if in_use then NickInUse else Other

open_by : (line : Parts) (ping welcome in_use : Bool) → given_by Open (meaning_by ping welcome in_use) line ≡ (if ping then [] else Heard line ∷ [])
open_by line true welcome in_use = refl
open_by line false true in_use = refl
open_by line false false true = refl
open_by line false false false = refl

open_inputs : (xs : List Item) → inputs_from Open xs ≡ heard_of xs
unfolding after_line inputs_for
open_inputs [] = refl
open_inputs (Refused fault ∷ xs) = open_inputs xs
open_inputs (Got line ∷ xs) =
    ap (λ t. t ++ inputs_from Open xs) (open_by line (same_bytes line.command (codes "PING")) (same_bytes line.command (codes "001")) (same_bytes line.command (codes "433"))) ∙ ap (λ t. heard_at (Got line) ++ t) (open_inputs xs)

asking_inputs : (nick : List ℕ) (next : Option (List ℕ)) (xs : List Item) → ((n : List ℕ) → inputs_from (Registering n) xs ≡ session_inputs xs) → inputs_from (asking nick next) xs ≡ session_inputs xs
asking_inputs nick None xs ih = ih nick
asking_inputs nick (Some next) xs ih = ih next

-- what a line and what comes after it give, by whether its command is PING, 001 or 433
abbrev given_from : List ℕ → Meaning → Parts → List Item → List UplinkInput
given_from nick meaning line xs = given_by (Registering nick) meaning line ++ inputs_from (after_meaning (Registering nick) meaning) xs

abbrev told_from : Bool → Item → List Item → List UplinkInput
told_from welcome item xs =
    let left : List Item = if welcome then item ∷ xs else from_welcome xs in
    opening left ++ heard_of left

first_by : (nick : List ℕ) (line : Parts) (xs : List Item) (ping welcome in_use : Bool) → same_bytes line.command (codes "PING") ≡ ping → (ping ≡ true → welcome ≡ false) → ((n : List ℕ) → inputs_from (Registering n) xs ≡ session_inputs xs) → given_from nick (meaning_by ping welcome in_use) line xs ≡ told_from welcome (Got line) xs
first_by nick line xs true true in_use p other ih = let clash : true ≡ false = other refl in cc
first_by nick line xs true false in_use p other ih = ih nick
first_by nick line xs false true in_use p other ih = rw p (ap (λ t. Opened ∷ Heard line ∷ t) (open_inputs xs))
first_by nick line xs false false true p other ih = asking_inputs nick (next_nick nick) xs ih
first_by nick line xs false false false p other ih = ih nick

first_inputs : (nick : List ℕ) (xs : List Item) → inputs_from (Registering nick) xs ≡ session_inputs xs
unfolding after_line inputs_for
first_inputs nick [] = refl
first_inputs nick (Refused fault ∷ xs) = first_inputs nick xs
first_inputs nick (Got line ∷ xs) =
    first_by nick line xs (same_bytes line.command (codes "PING")) (same_bytes line.command (codes "001")) (same_bytes line.command (codes "433")) refl (no_welcome line.command) (λ n. first_inputs n xs)

pub all_inputs : (nick : List ℕ) (calls : List Call) → inputs_of nick calls ≡ session_inputs (items (bytes_of calls)) ++ closing calls
unfolding inputs_of
all_inputs nick calls = ap (λ t. t ++ closing calls) (first_inputs nick (items (bytes_of calls)))

-- The order of the inputs

-- the end, if it was reported
abbrev end_by : Bool → List UplinkInput
end_by told = if told then Closed ∷ [] else []

heard_line_ends : (line : Parts) (rest : List UplinkInput) (ping : Bool) → is_heard_to_end rest ≡ true → is_heard_to_end ((if ping then [] else Heard line ∷ []) ++ rest) ≡ true
heard_line_ends line rest true h = h
heard_line_ends line rest false h = h

heard_ends : (xs : List Item) (told : Bool) → is_heard_to_end (heard_of xs ++ end_by told) ≡ true
heard_ends [] true = refl
heard_ends [] false = refl
heard_ends (Refused fault ∷ xs) told = heard_ends xs told
heard_ends (Got line ∷ xs) told =
    rw append_assoc (heard_line_ends line (heard_of xs ++ end_by told) (same_bytes line.command (codes "PING")) (heard_ends xs told))

ordered : (xs : List Item) (told : Bool) → is_in_order (opening xs ++ heard_of xs ++ end_by told) ≡ true
ordered [] true = refl
ordered [] false = refl
ordered (x ∷ xs) told = heard_ends (x ∷ xs) told

pub inputs_ordered : (nick : List ℕ) (calls : List Call) → IsTrue (is_in_order (inputs_of nick calls))
inputs_ordered nick calls =
    ap is_in_order (all_inputs nick calls) ∙ ordered (from_welcome (items (bytes_of calls))) (list_any is_end calls)

-- The nick

-- the nick that was last asked for is a name
abbrev IsNamed : Session → Type 0
IsNamed (Registering nick) = is_name nick ≡ true
IsNamed Open = Unit {0}

named_next : (nick next : List ℕ) (fits : Bool) → is_name next ≡ fits → is_name nick ≡ true → IsNamed (asking nick (if fits then Some next else None))
named_next nick next true e h = e
named_next nick next false e h = h

named_by : (nick : List ℕ) (meaning : Meaning) → is_name nick ≡ true → IsNamed (after_meaning (Registering nick) meaning)
named_by nick Ping h = h
named_by nick Welcome h = tt
named_by nick NickInUse h = named_next nick (nick ++ 95 ∷ []) (nat_le (length (nick ++ 95 ∷ [])) 64) (longer_name nick h) h
named_by nick Other h = h

named_line : (s : Session) (line : Parts) → IsNamed s → IsNamed (after_line s line)
unfolding after_line
named_line (Registering nick) line h = named_by nick (meaning_of line) h
named_line Open line h = tt

named_items : (s : Session) (xs : List Item) → IsNamed s → IsNamed (after_items s xs)
named_items s [] h = h
named_items s (Refused fault ∷ xs) h = named_items s xs h
named_items s (Got line ∷ xs) h = named_items (after_line s line) xs (named_line s line h)

pub nick_named : (nick last : List ℕ) (calls : List Call) → IsTrue (is_name nick) → session_of nick calls ≡ Registering last → IsTrue (is_name last)
nick_named nick last calls h e =
    subst (λ s. IsNamed s) e (named_items (Registering nick) (items (bytes_of calls)) h)
