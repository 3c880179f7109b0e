-- What a crash leaves in each step of a save, and the file after it.
use Rattle.std.proofs.Common.{◌≡◌, ◌≢◌, inl, inr, ℕ, ◌+◌, ◌<◌, List, [], ◌∷◌, ◌++◌, length, take, drop, get_or, Ok, refl, sym, ◌∙◌, ap, subst, arith, append_assoc, length-append, take-append-drop}
use Rattle.std.specs.Int.{w32, to_be_bytes}
use Rattle.std.proofs.lemmas.Bool.{cases_eq, le-ltb}
use Rattle.std.proofs.lemmas.List.{take_at, drop_at, drop_more}
use Rattle.journal_store.specs.declared.known.Known.{Known}
use Rattle.journal_store.specs.Disks.{DiskState, IsImage, Within, settled_at, writing, written_over, now, Runs, LeavesOnly, Gated}
use Rattle.journal_store.specs.Journals.{Payload, scan, found, name, older_version, header, AtRest, StandsForOne, staged}
use Rattle.journal_store.proofs.Torn.{torn_image}
use Rattle.journal_store.proofs.Moments.{started, goes_on, while_writing, within_now}
use Rattle.journal_store.proofs.Patching.{rewritten}
use Rattle.journal_store.proofs.Scanning.{Spells, opened, size_is}

one_written : (l : List ℕ) (place : ℕ) → written_over l place (1 ∷ []) ≡ take place l ++ 1 ∷ drop (place + 1) l
one_written l place = refl

module _ {S C : Type 0} (p : Payload S C) (start : S) where
  -- a closed gate ends the journal
  pub stands : (file : List ℕ) (s : S) (place : ℕ) → AtRest p start file s place → found p start file ≡ Ok s
  stands file s place rest = ap (found p start) rest.file_is ∙ rest.leads 0 rest.behind

  module _ (file : List ℕ) (s : S) (place : ℕ) (rest : AtRest p start file s place) where
    pub place_within : place < length file
    place_within = omega (arith, ap length rest.file_is, length-append rest.front (0 ∷ rest.behind), rest.place_is)

    up_to_gate : take (place + 1) file ≡ rest.front ++ 0 ∷ []
    up_to_gate =
        ap (take (place + 1)) (rest.file_is ∙ sym (append_assoc rest.front (0 ∷ []) rest.behind))
        ∙ take_at (rest.front ++ 0 ∷ []) rest.behind (place + 1) (omega (arith, length-append rest.front (0 ∷ []), rest.place_is))

    -- what follows a closed gate has no meaning
    pub same_to_gate : (f : List ℕ) → take (place + 1) f ≡ take (place + 1) file → AtRest p start f s place
    same_to_gate f same = record {
      front = rest.front;
      behind = drop (place + 1) f;
      file_is = sym (take-append-drop (place + 1) f) ∙ (ap (λ (l : List ℕ). l ++ drop (place + 1) f) (same ∙ up_to_gate) ∙ append_assoc rest.front (0 ∷ []) (drop (place + 1) f));
      place_is = rest.place_is;
      leads = rest.leads;
    }

    -- the closed gate is there in each outcome of the first write
    pub first_rest : (n : ℕ) (f : List ℕ) → IsImage (writing (place + 1) n (settled_at file)) f → AtRest p start f s place
    first_rest n f im = same_to_gate f (torn_image (place + 1) n file f (omega (arith, place_within)) im).before

    pub first_write : (n : ℕ) (f : List ℕ) → IsImage (writing (place + 1) n (settled_at file)) f → found p start f ≡ Ok s
    first_write n f im = stands f s place (first_rest n f im)

    pub first_within : (n : ℕ) (old new : List DiskState) → now old ≡ settled_at file → Runs (writing (place + 1) n (now old)) old new → Within (now new) (writing (place + 1) n (settled_at file))
    first_within n old new settled runs =
        subst (λ (b : DiskState). Within (now new) (writing (place + 1) n b)) settled (within_now (writing (place + 1) n (now old)) old new (while_writing (place + 1) n (now old)) runs)

    module _ (c : C) (payload : List ℕ) (spells : Spells p s c payload) where
      abbrev pub size : ℕ
      size = length (staged payload)

      abbrev pub tail : List ℕ
      tail = drop (place + 1 + size) file

      abbrev pub record_bytes : List ℕ → List ℕ
      record_bytes more = to_be_bytes w32 (length payload) ++ (payload ++ more)

      abbrev pub with_gate : ℕ → List ℕ
      with_gate gate = rest.front ++ gate ∷ record_bytes (0 ∷ tail)

      size_of : size ≡ 5 + length payload
      size_of = omega (arith, length-append (to_be_bytes w32 (length payload)) (payload ++ 0 ∷ []), length-append payload (0 ∷ []), size_is (length payload))

      staged_split : staged payload ++ tail ≡ record_bytes (0 ∷ tail)
      staged_split = append_assoc (to_be_bytes w32 (length payload)) (payload ++ 0 ∷ []) tail ∙ ap (λ (l : List ℕ). to_be_bytes w32 (length payload) ++ l) (append_assoc payload (0 ∷ []) tail)

      -- the file once the first write is done
      pub first_done : written_over file (place + 1) (staged payload) ≡ with_gate 0
      first_done =
          ap (λ (l : List ℕ). l ++ (staged payload ++ tail)) up_to_gate
          ∙ (append_assoc rest.front (0 ∷ []) (staged payload ++ tail) ∙ ap (λ (l : List ℕ). rest.front ++ 0 ∷ l) staged_split)

      front_of : (gate : ℕ) → take place (with_gate gate) ≡ rest.front
      front_of gate = take_at rest.front (gate ∷ record_bytes (0 ∷ tail)) place rest.place_is

      back_of : (gate : ℕ) → drop (place + 1) (with_gate gate) ≡ record_bytes (0 ∷ tail)
      back_of gate =
          ap (drop (place + 1)) (sym (append_assoc rest.front (gate ∷ []) (record_bytes (0 ∷ tail))))
          ∙ drop_at (rest.front ++ gate ∷ []) (record_bytes (0 ∷ tail)) (place + 1) (omega (arith, length-append rest.front (gate ∷ []), rest.place_is))

      pub gate_within : (gate : ℕ) → place < length (with_gate gate)
      gate_within gate = omega (arith, length-append rest.front (gate ∷ record_bytes (0 ∷ tail)), rest.place_is)

      -- behind an open gate the change counts, and a closed gate ends the journal
      gate_read : (gate : ℕ) → gate ≢ 0 → found p start (with_gate gate) ≡ Ok (p.changed s c)
      gate_read gate shut = rest.leads gate (record_bytes (0 ∷ tail)) ∙ opened p s c payload spells gate 0 tail place shut

      pub either : (gate : ℕ) → StandsForOne p start s (p.changed s c) (with_gate gate)
      either gate = elim (cases_eq gate 0) [
        | inl closed ↦ inl (ap (λ (g : ℕ). found p start (with_gate g)) closed ∙ rest.leads 0 (record_bytes (0 ∷ tail)))
        | inr shut ↦ inr (gate_read gate shut)
      ]

      -- in each outcome of the second write the whole record is there behind its gate
      pub second_write : (f : List ℕ) → IsImage (writing place 1 (settled_at (with_gate 0))) f → StandsForOne p start s (p.changed s c) f
      second_write f im =
          let torn = torn_image place 1 (with_gate 0) f (omega (arith, gate_within 0)) im in
          let gate = get_or f place 0 in
          let behind : drop place f ≡ gate ∷ record_bytes (0 ∷ tail) =
          drop_more f place 0 (omega (arith, torn.no_shorter, gate_within 0)) ∙ ap (λ (l : List ℕ). gate ∷ l) (torn.after ∙ back_of 0) in
          let whole : f ≡ with_gate gate =
          sym (take-append-drop place f) ∙ (ap (λ (l : List ℕ). l ++ drop place f) (torn.before ∙ front_of 0) ∙ ap (λ (l : List ℕ). rest.front ++ l) behind) in
          subst (StandsForOne p start s (p.changed s c)) (sym whole) (either gate)

      -- and the gate is within the file
      pub second_long : (f : List ℕ) → IsImage (writing place 1 (settled_at (with_gate 0))) f → place < length f
      second_long f im = omega (arith, im.no_shorter, gate_within 0)

      -- also while the gate is written again
      pub written_again : (mid new : List DiskState) → now mid ≡ settled_at (with_gate 0) → Runs (writing place 1 (now mid)) mid new → IsImage (now new) (now new).bytes
          → (f : List ℕ) → IsImage (writing place 1 (now new)) f → IsImage (writing place 1 (settled_at (with_gate 0))) f
      written_again mid new settled runs own f im =
          let within : Within (now new) (writing place 1 (settled_at (with_gate 0))) =
          subst (λ (b : DiskState). Within (now new) (writing place 1 b)) settled (within_now (writing place 1 (now mid)) mid new (while_writing place 1 (now mid)) runs) in
          rewritten (now new) place 1 own (omega (arith, second_long (now new).bytes (within.leaves (now new).bytes own))) (settled_at (with_gate 0)) within f im

      -- the file once the second write is done
      pub second_done : written_over (with_gate 0) place (1 ∷ []) ≡ with_gate 1
      second_done =
          one_written (with_gate 0) place
          ∙ ap (λ (l : List ℕ). l ++ (1 ∷ drop (place + 1) (with_gate 0))) (front_of 0)
          ∙ ap (λ (l : List ℕ). rest.front ++ 1 ∷ l) (back_of 0)

      moved_front : (gate : ℕ) (more : List ℕ) → (rest.front ++ 1 ∷ (to_be_bytes w32 (length payload) ++ payload)) ++ gate ∷ more ≡ rest.front ++ 1 ∷ record_bytes (gate ∷ more)
      moved_front gate more =
          append_assoc rest.front (1 ∷ (to_be_bytes w32 (length payload) ++ payload)) (gate ∷ more)
          ∙ ap (λ (l : List ℕ). rest.front ++ 1 ∷ l) (append_assoc (to_be_bytes w32 (length payload)) payload (gate ∷ more))

      -- after the save the file is at rest at its new gate
      pub saved_rest : AtRest p start (with_gate 1) (p.changed s c) (place + (5 + length payload))
      saved_rest = record {
        front = rest.front ++ 1 ∷ (to_be_bytes w32 (length payload) ++ payload);
        behind = tail;
        file_is = sym (moved_front 0 tail);
        place_is = omega (arith, length-append rest.front (1 ∷ (to_be_bytes w32 (length payload) ++ payload)), length-append (to_be_bytes w32 (length payload)) payload, size_is (length payload), rest.place_is);
        leads = λ gate more. ap (found p start) (moved_front gate more) ∙ (rest.leads 1 (record_bytes (gate ∷ more)) ∙ opened p s c payload spells 1 gate more place (omega arith));
      }

  -- At each moment of the four calls of a save a crash leaves a file that stands for the state before it, or after.
  module _ (file : List ℕ) (s : S) (place : ℕ) (rest : AtRest p start file s place) (c : C) (payload : List ℕ) (spells : Spells p s c payload) where
    abbrev Either : List ℕ → Type 0
    Either = StandsForOne p start s (p.changed s c)

    abbrev staged_file : List ℕ
    staged_file = with_gate file s place rest c payload spells 0

    pub mid_is : (old mid : List DiskState) → now old ≡ settled_at file → now mid ≡ settled_at (written_over (now old).bytes (place + 1) (staged payload)) → now mid ≡ settled_at staged_file
    mid_is old mid settled is = is ∙ (ap (λ (b : DiskState). settled_at (written_over b.bytes (place + 1) (staged payload))) settled ∙ ap settled_at (first_done file s place rest c payload spells))

    pub save_moments : (old new : List DiskState) (known : Known) → now old ≡ settled_at file → Gated place (staged payload) old new known → LeavesOnly Either old new
    save_moments old new known settled calls =
        let bounded : Runs (writing (place + 1) (length (staged payload)) (settled_at file)) old calls.mid = subst (λ (b : DiskState). Runs (writing (place + 1) (length (staged payload)) b) old calls.mid) settled calls.first in
        let staging : LeavesOnly Either old calls.mid = goes_on Either _ old old calls.mid (started Either old) bounded (λ f im. inl (first_write file s place rest (length (staged payload)) f im)) in
        elim calls.second [
          | inl stopped ↦ subst (λ (l : List DiskState). LeavesOnly Either old l) (sym stopped.1) staging
          | inr went_on ↦
              let is_staged = mid_is old calls.mid settled went_on.1.0 in
              let opening : Runs (writing place 1 (settled_at staged_file)) calls.mid new = subst (λ (b : DiskState). Runs (writing place 1 b) calls.mid new) is_staged went_on.1.1 in
              goes_on Either _ old calls.mid new staging opening (λ f im. second_write file s place rest c payload spells f im)
        ]

    -- and after them all is synced, and the file stands for the state after the save
    pub save_done : (old new : List DiskState) → now old ≡ settled_at file → now new ≡ settled_at (written_over (written_over (now old).bytes (place + 1) (staged payload)) place (1 ∷ []))
        → (f : List ℕ) × (now new ≡ settled_at f) × AtRest p start f (p.changed s c) (place + length (staged payload))
    save_done old new settled is = (
      with_gate file s place rest c payload spells 1,
      is ∙ (ap (λ (b : DiskState). settled_at (written_over (written_over b.bytes (place + 1) (staged payload)) place (1 ∷ []))) settled ∙ (ap (λ (l : List ℕ). settled_at (written_over l place (1 ∷ []))) (first_done file s place rest c payload spells)
          ∙ ap settled_at (second_done file s place rest c payload spells))),
      subst (λ (n : ℕ). AtRest p start (with_gate file s place rest c payload spells 1) (p.changed s c) (place + n)) (sym (size_of file s place rest c payload spells)) (saved_rest file s place rest c payload spells),
    )

  pub empty_leads : (gate : ℕ) (more : List ℕ) → found p start (header ++ gate ∷ more) ≡ scan p (gate ∷ more) start 8 0
  empty_leads gate more = let long : length (header ++ gate ∷ more) ≡ 9 + length more = length-append header (gate ∷ more) ∙ omega arith in rw (le-ltb (length (header ++ gate ∷ more)) 9 (omega (arith, long))) refl

  -- also for the older version
  pub older_leads : (gate : ℕ) (more : List ℕ) → found p start ((name ++ older_version) ++ gate ∷ more) ≡ scan p (gate ∷ more) start 8 0
  older_leads gate more = let long : length ((name ++ older_version) ++ gate ∷ more) ≡ 9 + length more = length-append (name ++ older_version) (gate ∷ more) ∙ omega arith in rw (le-ltb (length ((name ++ older_version) ++ gate ∷ more)) 9 (omega (arith, long))) refl

  -- a new journal, whatever follows its closed gate
  pub empty_rest : (behind : List ℕ) → AtRest p start (header ++ 0 ∷ behind) start 8
  empty_rest behind = record { front = header; behind = behind; file_is = refl; place_is = refl; leads = empty_leads }
