-- What is found in a file, record by record.
use Rattle.std.proofs.Common.{◌≡◌, ◌≢◌, inl, inr, ℕ, suc, ◌+◌, ◌<◌, ◌≤◌, Bool, true, false, List, [], ◌∷◌, ◌++◌, length, take, drop, get_or, Some, None, Result, Ok, Err, refl, sym, ◌∙◌, ap, subst, arith, append_assoc, length-append, take-append-drop}
use Rattle.std.specs.Prelude.{nat_lt, nat_le, if◌then◌else◌, ◌==◌}
use Rattle.std.specs.Int.{w32, from_be_bytes}
use Rattle.std.proofs.Math.Seq.{take-add}
use Rattle.std.proofs.lemmas.Bool.{cases_Bool, lt-ltb, le-ltb, eq-eqb, ne_eqb, eqb-true, and_parts, ltb-false}
use Rattle.std.proofs.lemmas.List.{take_at, drop_at, drop_more, length-take-le, length-drop}
use Rattle.wire_bytes.specs.declared.wire_fault.WireFault.{WireFault}
use Rattle.wire_bytes.specs.Fields.{number_to}
use Rattle.wire_bytes.specs.Codecs.{value_is}
use Rattle.stable_store.specs.declared.store_fault.StoreFault.TheVariants.{NotAStore, Version, Damaged}
use Rattle.journal_store.specs.Journals.{Payload, name, version, older_version, has_version, begins, exact, sized_read, record_read, scan, found, payload_limit, IsPayload, Reached, AtRest}
use Rattle.journal_store.proofs.Scanning.{skips}
use Rattle.journal_store.proofs.Saving.{empty_leads, older_leads}

abbrev sized_by : Bool → List ℕ → Result (ℕ × ℕ) WireFault
sized_by short front = if short then Err WireFault.Short else (if nat_le (from_be_bytes w32 front) payload_limit then Ok (from_be_bytes w32 front, 4) else Err (WireFault.Bad 0))

number_is : (a : List ℕ) → number_to w32 payload_limit a ≡ sized_by (nat_lt (length a) 4) (take 4 a)
unfolding number_to
number_is a = refl

-- a number in four bytes is read only from these
number_front : (a b : List ℕ) (n : ℕ) → 4 ≤ length a → number_to w32 payload_limit a ≡ Ok (n, 4) → take 4 a ≡ take 4 b → 4 ≤ length b → number_to w32 payload_limit b ≡ Ok (n, 4)
number_front a b n la e same lb =
    let long-a : nat_lt (length a) 4 ≡ false = le-ltb (length a) 4 la in
    let long-b : nat_lt (length b) 4 ≡ false = le-ltb (length b) 4 lb in
    number_is b ∙ (ap (λ (t : Bool). sized_by t (take 4 b)) (long-b ∙ sym long-a) ∙ (ap (sized_by (nat_lt (length a) 4)) (sym same) ∙ (sym (number_is a) ∙ e)))

where_low : (low : Bool) (m n k : ℕ) → ◌≡◌ {A = Result (ℕ × ℕ) WireFault} (if low then Ok (m, 4) else Err (WireFault.Bad 0)) (Ok (n, k)) → k ≡ 4
where_low true m n k e = ap (λ (r : ℕ × ℕ). r.1) (sym (value_is (m, 4) (n, k) e))
where_low false m n k e = absurd cc

sized_ok : (short : Bool) (front : List ℕ) (n k : ℕ) → sized_by short front ≡ Ok (n, k) → (short ≡ false) × (k ≡ 4)
sized_ok true front n k e = absurd cc
sized_ok false front n k e = (refl, where_low (nat_le (from_be_bytes w32 front) payload_limit) (from_be_bytes w32 front) n k e)

-- a number that is read has four bytes
pub number_parts : (a : List ℕ) (n k : ℕ) → number_to w32 payload_limit a ≡ Ok (n, k) → (4 ≤ length a) × (number_to w32 payload_limit a ≡ Ok (n, 4))
number_parts a n k e =
    let parts = sized_ok (nat_lt (length a) 4) (take 4 a) n k (sym (number_is a) ∙ e) in
    (ltb-false (length a) 4 parts.0, subst (λ (m : ℕ). number_to w32 payload_limit a ≡ Ok (n, m)) parts.1 e)

begins_is : (xs file : List ℕ) → begins xs file ≡ true → file ≡ xs ++ drop (length xs) file
begins_is [] file h = refl
begins_is (x ∷ xs) [] h = absurd cc
begins_is (x ∷ xs) (y ∷ file) h =
    let parts = and_parts (x == y) (begins xs file) h in
    ap (λ (z : ℕ). z ∷ file) (sym (eqb-true x y parts.0)) ∙ ap (λ (l : List ℕ). x ∷ l) (begins_is xs file parts.1)

file_at : (place : ℕ) (file : List ℕ) → place < length file → file ≡ take place file ++ get_or file place 0 ∷ drop (place + 1) file
file_at place file h = sym (take-append-drop place file) ∙ ap (λ (l : List ℕ). take place file ++ l) (drop_more file place 0 h)

module _ {S C : Type 0} (p : Payload S C) where
  -- ---- no record

  pub no_size : (s : S) (rest : List ℕ) (e : WireFault) → number_to w32 payload_limit rest ≡ Err e → record_read p s rest ≡ None
  unfolding record_read
  no_size s rest e h = ap (sized_read p s rest) h

  pub no_room : (s : S) (rest : List ℕ) (n : ℕ) → number_to w32 payload_limit rest ≡ Ok (n, 4) → length (drop 4 rest) ≤ n → record_read p s rest ≡ None
  unfolding record_read
  no_room s rest n h le = let short : nat_lt n (length (drop 4 rest)) ≡ false = le-ltb n (length (drop 4 rest)) le in rw (h, short) refl

  no_exact : (s : S) (rest : List ℕ) (n : ℕ) → number_to w32 payload_limit rest ≡ Ok (n, 4) → n < length (drop 4 rest) → exact p n (p.taken (take n (drop 4 rest))) ≡ None → record_read p s rest ≡ None
  unfolding record_read
  no_exact s rest n h room none = let fits : nat_lt n (length (drop 4 rest)) ≡ true = lt-ltb n (length (drop 4 rest)) room in rw (h, fits, none) refl

  pub no_change : (s : S) (rest : List ℕ) (n : ℕ) (e : WireFault) → number_to w32 payload_limit rest ≡ Ok (n, 4) → n < length (drop 4 rest) → p.taken (take n (drop 4 rest)) ≡ Err e → record_read p s rest ≡ None
  no_change s rest n e h room err = no_exact s rest n h room (ap (exact p n) err)

  pub no_end : (s : S) (rest : List ℕ) (n m : ℕ) (c : C) → number_to w32 payload_limit rest ≡ Ok (n, 4) → n < length (drop 4 rest) → p.taken (take n (drop 4 rest)) ≡ Ok (c, m) → m ≢ n → record_read p s rest ≡ None
  no_end s rest n m c h room ok other = let unequal : (m == n) ≡ false = ne_eqb m n other in no_exact s rest n h room (rw (ok, unequal) refl)

  pub no_follow : (s : S) (rest : List ℕ) (n : ℕ) (c : C) → IsPayload p rest c n → p.may s c ≡ false → record_read p s rest ≡ None
  unfolding record_read
  no_follow s rest n c is may =
      let fits : nat_lt n (length (drop 4 rest)) ≡ true = lt-ltb n (length (drop 4 rest)) is.room in
      let same : (n == n) ≡ true = eq-eqb n n refl in
      rw (is.sized, fits, is.one, same, may) refl

  -- ---- a record

  pub a_record : (s : S) (rest : List ℕ) (n : ℕ) (c : C) → IsPayload p rest c n → p.may s c ≡ true → record_read p s rest ≡ Some (p.changed s c, n)
  unfolding record_read
  a_record s rest n c is may =
      let fits : nat_lt n (length (drop 4 rest)) ≡ true = lt-ltb n (length (drop 4 rest)) is.room in
      let same : (n == n) ≡ true = eq-eqb n n refl in
      rw (is.sized, fits, is.one, same, may) refl

  -- a record is read from its own bytes, and from no others
  own_bytes : (rest : List ℕ) (n : ℕ) (c : C) → IsPayload p rest c n → (gate : ℕ) (more : List ℕ) → IsPayload p (take (4 + n) rest ++ gate ∷ more) c n
  own_bytes rest n c is gate more =
      let long : 4 + n < length rest = omega (arith, is.room, length-drop 4 rest) in
      let parts : take (4 + n) rest ++ gate ∷ more ≡ take 4 rest ++ (take n (drop 4 rest) ++ gate ∷ more) = ap (λ (l : List ℕ). l ++ gate ∷ more) (take-add 4 n rest) ∙ append_assoc (take 4 rest) (take n (drop 4 rest)) (gate ∷ more) in
      let four : length (take 4 rest) ≡ 4 = length-take-le 4 rest (omega (arith, long)) in
      let size : length (take n (drop 4 rest)) ≡ n = length-take-le n (drop 4 rest) (omega (arith, is.room)) in
      let body : drop 4 (take (4 + n) rest ++ gate ∷ more) ≡ take n (drop 4 rest) ++ gate ∷ more = ap (drop 4) parts ∙ drop_at (take 4 rest) (take n (drop 4 rest) ++ gate ∷ more) 4 four in
      let head : take 4 (take (4 + n) rest ++ gate ∷ more) ≡ take 4 rest = ap (take 4) parts ∙ take_at (take 4 rest) (take n (drop 4 rest) ++ gate ∷ more) 4 four in
      record {
        sized = number_front rest (take (4 + n) rest ++ gate ∷ more) n (omega (arith, long)) is.sized (sym head) (omega (arith, length-append (take (4 + n) rest) (gate ∷ more), length-take-le (4 + n) rest (omega (arith, long))));
        room = omega (arith, ap length body, length-append (take n (drop 4 rest)) (gate ∷ more), size);
        one = ap p.taken (ap (take n) body ∙ take_at (take n (drop 4 rest)) (gate ∷ more) n size) ∙ is.one;
      }

  module _ (start : S) (file : List ℕ) where
    -- a closed gate ends the journal
    pub reached_rest : (s : S) (place : ℕ) → Reached p start file s place → get_or file place 0 ≡ 0 → AtRest p start file s place
    reached_rest s place reached closed = record {
      front = take place file;
      behind = drop (place + 1) file;
      file_is = file_at place file reached.within ∙ ap (λ (g : ℕ). take place file ++ g ∷ drop (place + 1) file) closed;
      place_is = length-take-le place file (omega (arith, reached.within));
      leads = reached.leads;
    }

    -- an open gate with no record after it is damage
    pub reached_damage : (s : S) (place : ℕ) → Reached p start file s place → get_or file place 0 ≢ 0 → record_read p s (drop (place + 1) file) ≡ None → found p start file ≡ Err (Damaged place)
    reached_damage s place reached shut none =
        let open_gate : (get_or file place 0 == 0) ≡ false = ne_eqb _ 0 shut in
        let here : scan p (get_or file place 0 ∷ drop (place + 1) file) s place 0 ≡ Err (Damaged place) = rw (open_gate, none) refl in
        ap (found p start) (file_at place file reached.within) ∙ (reached.leads (get_or file place 0) (drop (place + 1) file) ∙ here)

    -- a record behind an open gate
    pub reached_next : (s : S) (place n : ℕ) (c : C) → Reached p start file s place → get_or file place 0 ≢ 0 → IsPayload p (drop (place + 1) file) c n → p.may s c ≡ true → Reached p start file (p.changed s c) (place + (5 + n))
    reached_next s place n c reached shut is may = record {
      within = omega (arith, is.room, length-drop 4 (drop (place + 1) file), length-drop (place + 1) file);
      leads = λ gate more.
          let rest = drop (place + 1) file in
          let old = get_or file place 0 in
          let bytes = take (4 + n) rest in
          let front : take (place + (5 + n)) file ≡ take place file ++ old ∷ bytes =
          take-add place (5 + n) file ∙ ap (λ (l : List ℕ). take place file ++ l) (ap (take (5 + n)) (drop_more file place 0 reached.within) ∙ one_more n old rest) in
          let whole : take (place + (5 + n)) file ++ gate ∷ more ≡ take place file ++ old ∷ (bytes ++ gate ∷ more) = ap (λ (l : List ℕ). l ++ gate ∷ more) front ∙ append_assoc (take place file) (old ∷ bytes) (gate ∷ more) in
          let open_gate : (old == 0) ≡ false = ne_eqb old 0 shut in
          let there = a_record s (bytes ++ gate ∷ more) n c (own_bytes rest n c is gate more) may in
          let size : length bytes ≡ 4 + n = length-take-le (4 + n) rest (omega (arith, is.room, length-drop 4 rest)) in
          let passed : scan p (bytes ++ gate ∷ more) (p.changed s c) (suc place) (4 + n) ≡ scan p (gate ∷ more) (p.changed s c) (place + (5 + n)) 0 =
          skips p bytes (gate ∷ more) (p.changed s c) (suc place) (4 + n) size ∙ ap (λ (k : ℕ). scan p (gate ∷ more) (p.changed s c) k 0) (omega arith) in
          let here : scan p (old ∷ (bytes ++ gate ∷ more)) s place 0 ≡ scan p (gate ∷ more) (p.changed s c) (place + (5 + n)) 0 = rw (open_gate, there) passed in
          ap (found p start) whole ∙ (reached.leads old (bytes ++ gate ∷ more) ∙ here);
    }
      where
        one_more : (n g : ℕ) (l : List ℕ) → take (5 + n) (g ∷ l) ≡ g ∷ take (4 + n) l
        one_more n g l = ap (λ (k : ℕ). take k (g ∷ l)) (let e : 5 + n ≡ suc (4 + n) = omega arith in e)

    -- ---- the header

    pub not_long : length file < 9 → found p start file ≡ Err NotAStore
    not_long short = let is : nat_lt (length file) 9 ≡ true = lt-ltb (length file) 9 short in rw is refl

    pub not_named : 9 ≤ length file → begins name file ≡ false → found p start file ≡ Err NotAStore
    not_named long other = let is : nat_lt (length file) 9 ≡ false = le-ltb (length file) 9 long in rw (is, other) refl

    pub not_this_version : 9 ≤ length file → begins name file ≡ true → has_version (drop 6 file) ≡ false → found p start file ≡ Err Version
    not_this_version long named other = let is : nat_lt (length file) 9 ≡ false = le-ltb (length file) 9 long in rw (is, named, other) refl

    -- the name is followed by these two bytes, with which a journal may begin
    begun_with : (v : List ℕ) → length (name ++ v) ≡ 8 → ((gate : ℕ) (more : List ℕ) → found p start ((name ++ v) ++ gate ∷ more) ≡ scan p (gate ∷ more) start 8 0)
        → 9 ≤ length file → begins name file ≡ true → begins v (drop 6 file) ≡ true → Reached p start file start 8
    begun_with v size leads long named of_version =
        let behind = drop (length v) (drop 6 file) in
        let whole : file ≡ (name ++ v) ++ behind = begins_is name file named ∙ ap (λ (l : List ℕ). name ++ l) (begins_is v (drop 6 file) of_version) in
        let front : take 8 file ≡ name ++ v = ap (take 8) whole ∙ take_at (name ++ v) behind 8 size in
        record { within = omega arith; leads = λ gate rest. ap (λ (l : List ℕ). found p start (l ++ gate ∷ rest)) front ∙ leads gate rest }

    pub begun : 9 ≤ length file → begins name file ≡ true → has_version (drop 6 file) ≡ true → Reached p start file start 8
    begun long named either = elim (cases_Bool (begins version (drop 6 file))) [
      | inl newer ↦ begun_with version refl (empty_leads p start) long named newer
      | inr other ↦ begun_with older_version refl (older_leads p start) long named (rw other at either)
    ]
