-- What is spelled is read back, and what is read is spelled so.
use Rattle.std.proofs.Common.{◌≡◌, ℕ, ◌-◌, ◌≤◌, inl, inr, Bool, true, false, cond, ltb, List, [], ◌++◌, length, take, drop, Option, None, Some, Result, Ok, Err, refl, sym, ap, subst, ◌∙◌, append-nil, arith}
use Rattle.std.specs.Prelude.{IfOk}
use Rattle.std.proofs.Math.Seq.{drop-append_seam}
use Rattle.std.proofs.lemmas.Result.{IfOk-weaker}
use Rattle.std.proofs.lemmas.Bool.{cases_lt, ltb-false, le-ltb}
use Rattle.std.proofs.lemmas.List.{get_or-take, get_or_past, length-append, length-take, take-append-drop, take_all, take_at}
use Rattle.irc_line.specs.Names.{same_bytes}
use Rattle.irc_line.proofs.SameBytes.{same_bytes-eq, same_bytes-refl}
use Rattle.wire_bytes.specs.declared.wire_fault.WireFault.{WireFault}
use Rattle.wire_bytes.specs.Fields.{AreBytes, Reading}
use Rattle.wire_bytes.specs.Codecs.{AreBytes-drop, IsCodec}
use Rattle.buffer_commands.specs.Settings.{Settings}
use Rattle.store_setup.specs.declared.store_setup.StoreSetup.{StoreSetup}
use Rattle.store_setup.specs.declared.fault.SetupFileFault.{SetupFileFault}
use Rattle.store_setup.specs.declared.fault.SetupFileFault.TheVariants.{NotASetup, Version, Damaged}
use Rattle.store_setup.specs.declared.file.Form.{Form}
use Rattle.store_setup.specs.declared.file.Form.TheVariants.{Nameless, Named}
use Rattle.store_setup.specs.Files.{Fields, FitsName, FitsStore, NamedFields, checked, digest_of, fields_read, fields_taken, header_of, headed, judged, mark, named_fields_taken, named_store_of, sealed, spelled_fields, spelled_named_fields, spelling, spelling_by, store_of, stored, unknown, whole}
use Rattle.store_setup.specs.FileCodec.{FitFields, FitNamedFields, fields_is_codec, named_fields_is_codec}
use Rattle.store_setup.proofs.Digests.{sha256_len}

-- ---- what is spelled is read

module _ {X : Type 0} (make : X → StoreSetup) where
  -- all fields are read if no byte is left
  whole_read : (f : X) (len n : ℕ) → len ≤ n → whole make len (Ok (f, n)) ≡ Ok (make f)
  whole_read f len n h = ap (λ (b : Bool). cond b (Err Damaged) (Ok (make f))) (le-ltb n len h)

  fields_back : (spelled : X → List ℕ) (fits : X → Type 0) (taken : Reading X) → IsCodec spelled fits taken → (f : X) → fits f
      → whole make (length (spelled f)) (taken (spelled f)) ≡ Ok (make f)
  fields_back spelled fits taken codec f h =
      let bytes = spelled f in
      let all : taken bytes ≡ Ok (f, length bytes) = ap taken (sym (append-nil bytes)) ∙ codec.read_back f [] h in
      ap (whole make (length bytes)) all ∙ whole_read f (length bytes) (length bytes) (omega arith)

header_len : (form : Form) → length (header_of form) ≡ 8
header_len Nameless = refl
header_len Named = refl

checked_back : (form : Form) (fields : List ℕ) → checked form fields (digest_of form fields) ≡ fields_read form fields
checked_back form fields = ap (λ (b : Bool). cond b (fields_read form fields) (Err Damaged)) (same_bytes-refl (digest_of form fields))

judged_back : (form : Form) (fields : List ℕ) → judged form (fields ++ digest_of form fields) ≡ fields_read form fields
judged_back form fields =
    let rest = fields ++ digest_of form fields in
    let at : length rest - 32 ≡ length fields = omega (arith, length-append fields (digest_of form fields), sha256_len (header_of form ++ fields)) in
    ap (λ (n : ℕ). checked form (take n rest) (drop n rest)) at
    ∙ (ap (λ (front : List ℕ). checked form front (drop (length fields) rest)) (take_at fields (digest_of form fields) (length fields) refl)
    ∙ (ap (checked form fields) (drop-append_seam fields (digest_of form fields)) ∙ checked_back form fields))

headed_back : (form : Form) (rest : List ℕ) → stored (header_of form ++ rest) ≡ judged form rest
headed_back Nameless rest = ap (λ (b : Bool). cond b (Err NotASetup) (judged Nameless rest)) (le-ltb (length (header_of Nameless ++ rest)) 8 (omega arith))
headed_back Named rest = ap (λ (b : Bool). cond b (Err NotASetup) (judged Named rest)) (le-ltb (length (header_of Named ++ rest)) 8 (omega arith))

sealed_back : (form : Form) (fields : List ℕ) → stored (sealed form fields) ≡ fields_read form fields
sealed_back form fields = headed_back form (fields ++ digest_of form fields) ∙ judged_back form fields

back_by : (nodes renewals : ℕ) (name : Option ℕ) (setup : Settings) → FitsStore (record { nodes = nodes; renewals = renewals; name = name; setup = setup })
    → stored (spelling_by name (record { nodes = nodes; renewals = renewals; name = name; setup = setup })) ≡ Ok (record { nodes = nodes; renewals = renewals; name = name; setup = setup })
back_by nodes renewals None setup h =
    let f : Fields = ((nodes, renewals), setup) in
    sealed_back Nameless (spelled_fields f) ∙ fields_back store_of spelled_fields FitFields fields_taken fields_is_codec f (h.0.0, h.1)
back_by nodes renewals (Some name) setup h =
    let f : NamedFields = (((nodes, renewals), name), setup) in
    sealed_back Named (spelled_named_fields f) ∙ fields_back named_store_of spelled_named_fields FitNamedFields named_fields_taken named_fields_is_codec f h

pub read_back : (s : StoreSetup) → FitsStore s → stored (spelling s) ≡ Ok s
read_back s h = back_by s.nodes s.renewals s.name s.setup h

-- ---- what is read is spelled so

abbrev answer : StoreSetup → Result StoreSetup SetupFileFault
answer s = Ok s

abbrev refused : SetupFileFault → Result StoreSetup SetupFileFault
refused e = Err e

-- a result comes from the first of two branches if the second is a fault
first_of : (b : Bool) (r : Result StoreSetup SetupFileFault) (e : SetupFileFault) (s : StoreSetup) → cond b r (refused e) ≡ answer s → (b ≡ true) × (r ≡ answer s)
first_of true r e s h = (refl, h)
first_of false r e s h = absurd cc

second_of : (b : Bool) (r : Result StoreSetup SetupFileFault) (e : SetupFileFault) (s : StoreSetup) → cond b (refused e) r ≡ answer s → (b ≡ false) × (r ≡ answer s)
second_of true r e s h = absurd cc
second_of false r e s h = (refl, h)

never_both : (b : Bool) (d e : SetupFileFault) (s : StoreSetup) → cond b (refused d) (refused e) ≡ answer s → ⊥
never_both true d e s h = absurd cc
never_both false d e s h = absurd cc

store_is : (s t : StoreSetup) → answer s ≡ answer t → s ≡ t
store_is s t h = cc

-- the fields that were read, whose spelling is what they were read from
record AreRead {X : Type 0} (make : X → StoreSetup) (spelled : X → List ℕ) (fits : X → Type 0) (fields : List ℕ) (s : StoreSetup) : Type 0 where
  read : X
  fit : fits read
  same : make read ≡ s
  spell : fields ≡ spelled read

module _ {X : Type 0} (make : X → StoreSetup) where
  one_whole_by : (spelled : X → List ℕ) (fits : X → Type 0) (taken : Reading X) → IsCodec spelled fits taken
      → (fields : List ℕ) (s : StoreSetup) (r : Result (X × ℕ) WireFault) → AreBytes fields → taken fields ≡ r → whole make (length fields) r ≡ answer s
      → AreRead make spelled fits fields s
  one_whole_by spelled fits taken codec fields s (Err e) bytes is h = absurd cc
  one_whole_by spelled fits taken codec fields s (Ok r) bytes is h =
      let inner = second_of (ltb r.1 (length fields)) (Ok (make r.0)) Damaged s h in
      let one = codec.one_spelling fields r.0 r.1 bytes is in
      let all : take r.1 fields ≡ fields = take_all r.1 fields (ltb-false _ _ inner.0) in
      record { read = r.0; fit = one.0; same = store_is (make r.0) s inner.1; spell = sym all ∙ one.1 }

-- bytes that a form spells are those of the store, and the store is an allowed one
abbrev IsSpelled : Form → List ℕ → StoreSetup → Type 0
IsSpelled form fields s = FitsStore s × (sealed form fields ≡ spelling s)

one_whole : (form : Form) (fields : List ℕ) (s : StoreSetup) → AreBytes fields → fields_read form fields ≡ answer s → IsSpelled form fields s
one_whole Nameless fields s bytes h =
    let one : AreRead store_of spelled_fields FitFields fields s = one_whole_by store_of spelled_fields FitFields fields_taken fields_is_codec fields s (fields_taken fields) bytes refl h in
    subst (λ (t : StoreSetup). IsSpelled Nameless fields t) one.same (((one.fit.0, tt), one.fit.1), ap (sealed Nameless) one.spell)
one_whole Named fields s bytes h =
    let one : AreRead named_store_of spelled_named_fields FitNamedFields fields s =
    one_whole_by named_store_of spelled_named_fields FitNamedFields named_fields_taken named_fields_is_codec fields s (named_fields_taken fields) bytes refl h in
    subst (λ (t : StoreSetup). IsSpelled Named fields t) one.same (one.fit, ap (sealed Named) one.spell)

AreBytes-take : (n : ℕ) (bytes : List ℕ) → AreBytes bytes → AreBytes (take n bytes)
AreBytes-take n bytes h i =
    elim (cases_lt i n) [
      | inl lt ↦ rw (get_or-take n bytes i 0 lt) (h i)
      | inr le ↦ rw (get_or_past (take n bytes) i 0 (omega (arith, length-take n bytes, le))) (omega arith)
    ]

one_judged : (form : Form) (rest : List ℕ) (s : StoreSetup) → AreBytes rest → judged form rest ≡ answer s → FitsStore s × (header_of form ++ rest ≡ spelling s)
one_judged form rest s bytes h =
    let n = length rest - 32 in
    let fields = take n rest in
    let inner = first_of (same_bytes (drop n rest) (digest_of form fields)) (fields_read form fields) Damaged s h in
    let digest : drop n rest ≡ digest_of form fields = same_bytes-eq (drop n rest) (digest_of form fields) inner.0 in
    let one = one_whole form fields s (AreBytes-take n rest bytes) inner.1 in
    let split : rest ≡ fields ++ digest_of form fields = sym (take-append-drop n rest) ∙ ap (λ (d : List ℕ). fields ++ d) digest in
    (one.0, ap (λ (t : List ℕ). header_of form ++ t) split ∙ one.1)

-- a header of a form, if the file is read
one_headed_by : (named nameless old : Bool) (header rest : List ℕ) (s : StoreSetup) → AreBytes rest
    → (named ≡ true → header ≡ header_of Named) → (nameless ≡ true → header ≡ header_of Nameless)
    → cond named (judged Named rest) (cond nameless (judged Nameless rest) (cond old (refused Version) (refused NotASetup))) ≡ answer s
    → FitsStore s × (header ++ rest ≡ spelling s)
one_headed_by true nameless old header rest s bytes is _ h = let one = one_judged Named rest s bytes h in (one.0, ap (λ (t : List ℕ). t ++ rest) (is refl) ∙ one.1)
one_headed_by false true old header rest s bytes _ is h = let one = one_judged Nameless rest s bytes h in (one.0, ap (λ (t : List ℕ). t ++ rest) (is refl) ∙ one.1)
one_headed_by false false old header rest s bytes _ _ h = absurd (never_both old Version NotASetup s h)

pub one_spelling : (bytes : List ℕ) (s : StoreSetup) → AreBytes bytes → stored bytes ≡ Ok s → FitsStore s × (bytes ≡ spelling s)
one_spelling bytes s fit h =
    let some = second_of (ltb (length bytes) 8) _ NotASetup s h in
    let header = take 8 bytes in
    let one = one_headed_by (same_bytes header (header_of Named)) (same_bytes header (header_of Nameless)) (same_bytes (take 6 header) mark) header (drop 8 bytes) s (AreBytes-drop 8 bytes fit) (same_bytes-eq header (header_of Named)) (same_bytes-eq header (header_of Nameless)) some.1 in
    (one.0, sym (take-append-drop 8 bytes) ∙ one.1)

-- the same for a result
pub answered : (bytes : List ℕ) (r : Result StoreSetup SetupFileFault) → AreBytes bytes → IfOk r (λ s. stored bytes ≡ Ok s) → IfOk r (λ s. bytes ≡ spelling s)
answered bytes r fit h = IfOk-weaker r _ _ (λ s is. (one_spelling bytes s fit is).1) h
