-- Rows of nodes, one of which changes.
use Rattle.std.proofs.Common.{◌≡◌, ◌⊎◌, ⊎_elim, inl, inr, ℕ, zero, suc, ◌+◌, ◌-◌, ◌<◌, ◌≤◌, List, [], ◌∷◌, ◌++◌, append_assoc, append-nil, length, replicate, set, get_or, refl, sym, ap, subst, ◌∙◌, arith}
use Rattle.std.proofs.lemmas.List.{length-append, length-set, get_or-set_same, get_or-set_other}
use Rattle.std.proofs.lemmas.Option.{slice_get-get_or, slice_get_past}
use Rattle.std.specs.Global.{Vec}
use Rattle.std.specs.Prelude.{Option}
use Rattle.raft_log.specs.Node.{Node}
use Rattle.world_app.specs.Diagrams.{sent_count}
use Rattle.world_app.specs.SendingRows.{AreEmpty, AreNoted, items_of, noted, rows_at}

-- the rows of a node that exists
pub rows_of_one : (all : List (Vec ℕ)) (index : ℕ) (rows : Vec ℕ) → index < length all → rows ≡ get_or all index rows → rows_at all index ≡ rows.items
rows_of_one all index rows lt e =
    ap (λ (o : Option (Vec ℕ)). items_of o) (slice_get-get_or all index rows lt) ∙ ap (λ (v : Vec ℕ). v.items) (sym e)

-- none for a node that does not
pub no_rows_at : (all : List (Vec ℕ)) (index : ℕ) → length all ≤ index → rows_at all index ≡ []
no_rows_at all index past = ap (λ (o : Option (Vec ℕ)). items_of o) (slice_get_past all index past)

-- those of the node that changes
pub rows_set_same : (all : List (Vec ℕ)) (index : ℕ) (rows : Vec ℕ) → index < length all → rows_at (set all index rows) index ≡ rows.items
rows_set_same all index rows lt =
    let within : index < length (set all index rows) = omega (arith, length-set all index rows, lt) in
    rows_of_one (set all index rows) index rows within (sym (get_or-set_same all index rows rows lt))

-- those of all others
pub rows_set_other : (all : List (Vec ℕ)) (index other : ℕ) (rows : Vec ℕ) → index < length all → other < length all → (other ≡ index → ⊥) → rows_at (set all index rows) other ≡ rows_at all other
rows_set_other all index other rows lt within differ =
    let after : other < length (set all index rows) = omega (arith, length-set all index rows, within) in
    ap (λ (o : Option (Vec ℕ)). items_of o) (slice_get-get_or (set all index rows) other rows after)
    ∙ ap (λ (v : Vec ℕ). v.items) (get_or-set_other all index other rows rows differ)
    ∙ sym (ap (λ (o : Option (Vec ℕ)). items_of o) (slice_get-get_or all other rows within))

-- one more row for one node
pub note_more : (rows : List ℕ) (count row : ℕ) → length rows < count → (rows ++ row ∷ []) ++ replicate (count - length (rows ++ row ∷ [])) row ≡ rows ++ replicate (count - length rows) row
note_more rows count row lt =
    let long : length (rows ++ row ∷ []) ≡ length rows + 1 = length-append rows (row ∷ []) in
    let one : count - length rows ≡ suc (count - length (rows ++ row ∷ [])) = omega (arith, long, lt) in
    append_assoc rows (row ∷ []) (replicate (count - length (rows ++ row ∷ [])) row) ∙ ap (λ (n : ℕ). rows ++ replicate n row) (sym one)

-- none more
pub note_none : (rows : List ℕ) (count row : ℕ) → count ≤ length rows → rows ++ replicate (count - length rows) row ≡ rows
note_none rows count row le =
    let none : count - length rows ≡ 0 = omega (arith, le) in
    ap (λ (n : ℕ). rows ++ replicate n row) none ∙ append-nil rows

-- one more node that sent nothing
none_at_end : (all : List (Vec ℕ)) (v : Vec ℕ) (index : ℕ) → ((j : ℕ) → rows_at all j ≡ []) → v.items ≡ [] → rows_at (all ++ v ∷ []) index ≡ []
none_at_end [] v zero h e = e
none_at_end [] v (suc index) h e = refl
none_at_end (x ∷ all) v zero h e = h zero
none_at_end (x ∷ all) v (suc index) h e = none_at_end all v index (λ j. h (suc j)) e

none_of_none : (index : ℕ) → rows_at [] index ≡ []
none_of_none zero = refl
none_of_none (suc index) = refl

pub none_empty : (all : List (Vec ℕ)) → all ≡ [] → AreEmpty 0 all
none_empty all e =
    let is : AreEmpty 0 [] = record { length_is = refl; none = none_of_none } in
    subst (λ (rs : List (Vec ℕ)). AreEmpty 0 rs) (sym e) is

pub one_empty : (n : ℕ) (all new : List (Vec ℕ)) (v : Vec ℕ) → new ≡ all ++ v ∷ [] → v.items ≡ [] → AreEmpty n all → AreEmpty (n + 1) new
one_empty n all new v more e was =
    let is : AreEmpty (n + 1) (all ++ v ∷ []) =
    record { length_is = length-append all (v ∷ []) ∙ ap (λ (k : ℕ). k + 1) was.length_is; none = λ index. none_at_end all v index was.none e } in
    subst (λ (rs : List (Vec ℕ)). AreEmpty (n + 1) rs) (sym more) is

-- a number below the next one is this one, or is below it
at_or_before : (i index : ℕ) → i < index + 1 → (i ≡ index) ⊎ (i < index)
at_or_before zero zero lt = inl refl
at_or_before zero (suc index) lt = inr (omega arith)
at_or_before (suc i) zero lt = absurd (omega (arith, lt))
at_or_before (suc i) (suc index) lt = ⊎_elim (λ e. inl (ap suc e)) (λ h. inr (omega (arith, h))) (at_or_before i index (omega (arith, lt)))

module _ {B : Type 0} where
  -- the nodes before this index are noted, and the others are as before
  pub record AreNotedTo (row index : ℕ) (w : List (Node B)) (old new : List (Vec ℕ)) : Type 0 where
    pub length_is : length new ≡ length old
    pub done : (i : ℕ) → i < index → rows_at new i ≡ noted row (sent_count w (suc i)) (rows_at old i)
    pub left : (i : ℕ) → index ≤ i → i < length old → rows_at new i ≡ rows_at old i

  pub none_noted : (row : ℕ) (w : List (Node B)) (old : List (Vec ℕ)) → AreNotedTo row 0 w old old
  none_noted row w old = record { length_is = refl; done = λ i lt. absurd (omega (arith, lt)); left = λ i le lt. refl }

  -- one more node is noted
  pub one_noted : (row index count : ℕ) (w : List (Node B)) (old now new : List (Vec ℕ)) (before after : Vec ℕ)
      → index < length old → before ≡ get_or now index before → count ≡ sent_count w (suc index) → after.items ≡ noted row count before.items → new ≡ set now index after
      → AreNotedTo row index w old now → AreNotedTo row (index + 1) w old new
  one_noted row index count w old now new before after lt at counted made changed was =
      let within : index < length now = omega (arith, lt, was.length_is) in
      let here : rows_at (set now index after) index ≡ noted row (sent_count w (suc index)) (rows_at old index) =
      rows_set_same now index after within ∙ made
      ∙ ap (λ (c : ℕ). noted row c before.items) counted
      ∙ ap (λ (rs : List ℕ). noted row (sent_count w (suc index)) rs) (sym (rows_of_one now index before within at) ∙ was.left index (omega arith) lt) in
      let is : AreNotedTo row (index + 1) w old (set now index after) =
      record {
        length_is = length-set now index after ∙ was.length_is;
        done = λ i less. ⊎_elim
            (λ e. subst (λ (j : ℕ). rows_at (set now index after) j ≡ noted row (sent_count w (suc j)) (rows_at old j)) (sym e) here)
            (λ h. rows_set_other now index i after within (omega (arith, h, within)) (λ e. absurd (omega (arith, e, h))) ∙ was.done i h)
            (at_or_before i index less);
        left = λ i le less. rows_set_other now index i after within (omega (arith, less, was.length_is)) (λ e. absurd (omega (arith, e, le))) ∙ was.left i (omega (arith, le)) less;
      } in
      subst (λ (rs : List (Vec ℕ)). AreNotedTo row (index + 1) w old rs) (sym changed) is

  -- all are noted
  pub all_noted : (row index : ℕ) (w : List (Node B)) (old new : List (Vec ℕ)) → length old ≤ index → AreNotedTo row index w old new → AreNoted row w old new
  all_noted row index w old new past was = record { length_is = was.length_is; each = λ i lt. was.done i (omega (arith, lt, past)) }
