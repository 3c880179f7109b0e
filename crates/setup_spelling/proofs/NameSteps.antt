-- Names of channels that are read one after the other.
use Rattle.std.proofs.Common.{◌≡◌, ℕ, zero, suc, ◌+◌, ◌-◌, ◌<◌, Bool, true, false, List, [], ◌∷◌, ◌++◌, length, drop, Option, Some, None, Result, Ok, Err, IsTrue, refl, sym, ap, ◌∙◌, arith, add-zero, append_assoc, append-nil}
use Rattle.std.specs.Prelude.{◌||◌, if◌then◌else◌, is_ok, slice_get}
use Rattle.irc_line.specs.Names.{is_channel}
use Rattle.wire_bytes.specs.declared.wire_fault.WireFault.{WireFault}
use Rattle.wire_bytes.specs.declared.wire_fault.WireFault.TheVariants.{Short, Bad, Memory}
use Rattle.wire_bytes.specs.Fields.{Reading, behind, byte_within, goes_on, moved, only, tested, through, ◌>>=◌}
use Rattle.wire_bytes.specs.Codecs.{behind-done}
use Rattle.wire_bytes.specs.Contents.{name}
use Rattle.wire_bytes.specs.Wants.{Wants, once_whole, wants_both, wants_next}
use Rattle.wire_bytes.proofs.Steps.{behind-then, through-read, through-stops}
use Rattle.wire_bytes.proofs.Wanting.{IsHeld}
use Rattle.buffer_commands.specs.Spellings.{channel_name}
use Rattle.setup_spelling.specs.Spelling.{channel_after, channels, channels_after, is_after, last_of}

-- what was read at a place, if it passes this test
abbrev tested_at : {X : Type 0} → ℕ → (X → Bool) → Result (X × ℕ) WireFault → Result (X × ℕ) WireFault
tested_at place test (Ok r) = if test r.0 then Ok r else Err (Bad place)
tested_at place test (Err e) = Err e

abbrev refused : {X : Type 0} → ℕ → Result (X × ℕ) WireFault
refused place = Err (Bad place)

moved_by : {X : Type 0} (place : ℕ) (r : X × ℕ) (b : Bool) → moved place (if b then Ok r else Err (Bad 0)) ≡ (if b then Ok (r.0, place + r.1) else Err (Bad place))
moved_by place r true = refl
moved_by {X} place r false = ap (λ (n : ℕ). refused {X = X} n) (add-zero place)

moved-tested : {X : Type 0} (place : ℕ) (test : X → Bool) (r : Result (X × ℕ) WireFault) → moved place (tested test r) ≡ tested_at place test (moved place r)
moved-tested place test (Ok r) = moved_by place r (test r.0)
moved-tested place test (Err Short) = refl
moved-tested place test (Err (Bad p)) = refl
moved-tested place test (Err Memory) = refl

behind-only : {X : Type 0} (place : ℕ) (test : X → Bool) (reading : Reading X) (input : List ℕ) → behind place (only test reading) input ≡ tested_at place test (behind place reading input)
unfolding behind only
behind-only place test reading input = moved-tested place test (reading (drop place input))

-- a channel's name is a name that passes two tests
channel_at : (place : ℕ) (before : Option (List ℕ)) (input : List ℕ) → behind place (channel_after before) input ≡ tested_at place (is_after before) (tested_at place is_channel (behind place name input))
unfolding channel_after channel_name
channel_at place before input = behind-only place (is_after before) (only is_channel name) input ∙ ap (tested_at place (is_after before)) (behind-only place is_channel name input)

module _ (place : ℕ) (before : Option (List ℕ)) (input : List ℕ) where
  pub channel_stops : (e : WireFault) → behind place name input ≡ Err e → behind place (channel_after before) input ≡ Err e
  channel_stops e h = channel_at place before input ∙ ap (λ r. tested_at place (is_after before) (tested_at place is_channel r)) h

  pub channel_read : (v : List ℕ) (n : ℕ) → behind place name input ≡ Ok (v, n) → is_channel v ≡ true → is_after before v ≡ true → behind place (channel_after before) input ≡ Ok (v, n)
  channel_read v n h c a = channel_at place before input ∙ (ap (λ r. tested_at place (is_after before) (tested_at place is_channel r)) h ∙ rw (c, a) refl)

  pub no_channel : (v : List ℕ) (n : ℕ) → behind place name input ≡ Ok (v, n) → is_channel v ≡ false → behind place (channel_after before) input ≡ Err (Bad place)
  no_channel v n h c = channel_at place before input ∙ (ap (λ r. tested_at place (is_after before) (tested_at place is_channel r)) h ∙ rw c refl)

  pub not_after : (v : List ℕ) (n : ℕ) → behind place name input ≡ Ok (v, n) → is_channel v ≡ true → is_after before v ≡ false → behind place (channel_after before) input ≡ Err (Bad place)
  not_after v n h c a = channel_at place before input ∙ (ap (λ r. tested_at place (is_after before) (tested_at place is_channel r)) h ∙ rw (c, a) refl)

-- ---- one name after the other

abbrev Names : Type 0
Names = Result (List (List ℕ) × ℕ) WireFault

-- these names before those that were read
abbrev pub joined : List (List ℕ) → Names → Names
joined front (Ok r) = Ok (front ++ r.0, r.1)
joined front (Err e) = Err e

abbrev read : List (List ℕ) → ℕ → Names
read names n = Ok (names, n)

joined-joined : (a b : List (List ℕ)) (r : Names) → joined a (joined b r) ≡ joined (a ++ b) r
joined-joined a b (Ok r) = ap (λ (names : List (List ℕ)). read names r.1) (sym (append_assoc a b r.0))
joined-joined a b (Err e) = refl

pub joined-nothing : (a : List (List ℕ)) (n : ℕ) → joined a (Ok ([], n)) ≡ Ok (a, n)
joined-nothing a n = ap (λ (names : List (List ℕ)). read names n) (append-nil a)

get_last : (names : List (List ℕ)) (x : List ℕ) → slice_get (names ++ x ∷ []) (length names) ≡ Some x
get_last [] x = refl
get_last (y ∷ names) x = get_last names x

length_push : (names : List (List ℕ)) (x : List ℕ) → length (names ++ x ∷ []) ≡ suc (length names)
length_push [] x = refl
length_push (y ∷ names) x = ap suc (length_push names x)

last_pushed : (names : List (List ℕ)) (x : List ℕ) → last_of (names ++ x ∷ []) ≡ Some x
last_pushed names x =
    let same : length (names ++ x ∷ []) - 1 ≡ length names = omega (arith, length_push names x) in
    ap (λ (k : ℕ). slice_get (names ++ x ∷ []) k) same ∙ get_last names x

module _ (input : List ℕ) where
  abbrev next_names : ℕ → List ℕ → ℕ → Names
  next_names m c k = behind k (through (λ cs. c ∷ cs) (channels_after m (Some c))) input

  step_by : (c : List ℕ) (k m : ℕ) (r : Names) → behind k (channels_after m (Some c)) input ≡ r → next_names m c k ≡ joined (c ∷ []) r
  step_by c k m (Ok r) h = through-read (λ cs. c ∷ cs) (channels_after m (Some c)) k input r.0 r.1 h
  step_by c k m (Err e) h = through-stops (λ cs. c ∷ cs) (channels_after m (Some c)) k input e h

  -- one was read, and this many are left
  names_step : (place n k : ℕ) (before : Option (List ℕ)) (c : List ℕ) → 0 < n → behind place (channel_after before) input ≡ Ok (c, k)
      → behind place (channels_after n before) input ≡ joined (c ∷ []) (behind k (channels_after (n - 1) (Some c)) input)
  names_step place zero k before c pos h = absurd (omega (arith, pos))
  names_step place (suc m) k before c pos h =
      let less : suc m - 1 ≡ m = omega arith in
      behind-then place (channel_after before) (λ x. through (λ cs. x ∷ cs) (channels_after m (Some x))) input
      ∙ (ap (λ r. goes_on r (next_names m)) h ∙ (step_by c k m (behind k (channels_after m (Some c)) input) refl ∙ ap (λ (i : ℕ). joined (c ∷ []) (behind k (channels_after i (Some c)) input)) (sym less)))

  pub names_stop : (place n : ℕ) (before : Option (List ℕ)) (e : WireFault) → 0 < n → behind place (channel_after before) input ≡ Err e → behind place (channels_after n before) input ≡ Err e
  names_stop place zero before e pos h = absurd (omega (arith, pos))
  names_stop place (suc m) before e pos h =
      behind-then place (channel_after before) (λ x. through (λ cs. x ∷ cs) (channels_after m (Some x))) input ∙ ap (λ r. goes_on r (next_names m)) h

  pub names_end : (place n : ℕ) (before : Option (List ℕ)) → n ≡ 0 → behind place (channels_after n before) input ≡ Ok ([], place)
  names_end place n before h = ap (λ (i : ℕ). behind place (channels_after i before) input) h ∙ behind-done place [] input

  -- one more was read after these
  pub one_more : (place count end next left : ℕ) (names more : List (List ℕ)) (c : List ℕ) → 0 < left → more ≡ names ++ c ∷ []
      → joined names (behind end (channels_after left (last_of names)) input) ≡ behind place (channels_after count None) input
      → behind end (channel_after (last_of names)) input ≡ Ok (c, next)
      → joined more (behind next (channels_after (left - 1) (last_of more)) input) ≡ behind place (channels_after count None) input
  one_more place count end next left names more c pos is same h =
      rw (is, last_pushed names c) (sym (joined-joined names (c ∷ []) (behind next (channels_after (left - 1) (Some c)) input)) ∙ (ap (joined names) (sym (names_step end left next (last_of names) c pos h)) ∙ same))

  abbrev goes : Result (ℕ × ℕ) WireFault → Names
  goes r = goes_on r (λ n k. behind k (channels_after n None) input)

  pub count_stops : (e : WireFault) → byte_within 0 100 input ≡ Err e → channels input ≡ Err e
  unfolding channels ◌>>=◌
  count_stops e h = ap goes h

  pub count_goes : (n k : ℕ) → byte_within 0 100 input ≡ Ok (n, k) → channels input ≡ behind k (channels_after n None) input
  unfolding channels ◌>>=◌
  count_goes n k h = ap goes h

-- ---- what needs memory

or_held : (a b : Bool) → IsTrue (a || b) → (IsTrue b → ⊥) → IsTrue a
or_held true b h none = refl
or_held false b h none = absurd (none h)

next_held : {X : Type 0} (second : Wants) (r : Result (X × ℕ) WireFault) (input : List ℕ) → IsHeld second → IsTrue (wants_next r second input) → ⊥
next_held second (Ok r) input held h = held (drop r.1 input) h
next_held second (Err e) input held h = absurd cc

-- where the second value is held in place, the first needs memory where both together do
pub first_wants : {X : Type 0} (first : Wants) (reading : Reading X) (second : Wants) (input : List ℕ) → IsHeld second → IsTrue (wants_both first reading second input) → IsTrue (first input)
first_wants first reading second input held h = or_held (first input) (wants_next (reading input) second input) h (next_held second (reading input) input held)

whole_by : {X : Type 0} (r : Result (X × ℕ) WireFault) (second : Wants) (input : List ℕ) → IsTrue (is_ok r || wants_next r second input) → IsTrue (is_ok r)
whole_by (Ok r) second input h = refl
whole_by (Err e) second input h = absurd cc

-- memory that is needed after a value that is copied is needed only once that value is there whole
pub whole_first : {X : Type 0} (reading : Reading X) (second : Wants) (input : List ℕ) → IsTrue (wants_both (once_whole reading) reading second input) → IsTrue (once_whole reading input)
whole_first reading second input h = whole_by (reading input) second input h
