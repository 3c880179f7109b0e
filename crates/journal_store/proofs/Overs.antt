-- A write in memory: the new bytes are an image while the range is written.
use Rattle.std.proofs.Common.{◌≡◌, ⊎_elim, ℕ, ◌+◌, ◌-◌, ◌<◌, ◌≤◌, List, [], ◌∷◌, ◌++◌, length, take, drop, get_or, Vec, refl, sym, ◌∙◌, ap, subst, arith, length-append, take-append-drop}
use Rattle.std.specs.declared.alloc.Global.{Global}
use Rattle.std.proofs.lemmas.List.{drop-drop, get_or-take, get_or-drop, length-take-le, length-drop, get_or-append-add}
use Rattle.std.proofs.Math.ListN.{get_or-append}
use Rattle.journal_store.specs.Disks.{DiskState, IsImage, settled_at, writing, written_over, Within}
use Rattle.journal_store.specs.Pasts.{had}
use Rattle.journal_store.proofs.Torn.{settled_image}

pub had_push : (past : List (Vec ℕ Global)) (v : Vec ℕ Global) → had (past ++ v ∷ []) ≡ settled_at v.items ∷ had past
had_push [] v = refl
had_push (p ∷ past) v = ap (λ (l : List DiskState). l ++ settled_at p.items ∷ []) (had_push past v)

module _ (old : List ℕ) (place : ℕ) (bytes : List ℕ) (within : place ≤ length old) where
  front : length (take place old) ≡ place
  front = length-take-le place old within

  pub size : length (written_over old place bytes) ≡ place + (length bytes + length (drop (place + length bytes) old))
  size = omega (arith, length-append (take place old) (bytes ++ drop (place + length bytes) old), length-append bytes (drop (place + length bytes) old), front)

  pub before : (i : ℕ) → i < place → get_or (written_over old place bytes) i 0 ≡ get_or old i 0
  before i lt = get_or-append (take place old) (bytes ++ drop (place + length bytes) old) 0 i (omega (arith, lt, front)) ∙ get_or-take place old i 0 lt

  behind : (i : ℕ) → get_or (written_over old place bytes) (place + (length bytes + i)) 0 ≡ get_or old (place + length bytes + i) 0
  behind i =
      ap (λ (n : ℕ). get_or (written_over old place bytes) (n + (length bytes + i)) 0) (sym front)
      ∙ (get_or-append-add (take place old) (bytes ++ drop (place + length bytes) old) (length bytes + i) 0
      ∙ (get_or-append-add bytes (drop (place + length bytes) old) i 0 ∙ get_or-drop (place + length bytes) old i 0))

  pub after : (i : ℕ) → place + length bytes ≤ i → get_or (written_over old place bytes) i 0 ≡ get_or old i 0
  after i le =
      ap (λ (n : ℕ). get_or (written_over old place bytes) n 0) (let e : i ≡ place + (length bytes + (i - (place + length bytes))) = omega (arith, le) in e)
      ∙ (behind (i - (place + length bytes)) ∙ ap (λ (n : ℕ). get_or old n 0) (let e : place + length bytes + (i - (place + length bytes)) ≡ i = omega (arith, le) in e))

  pub over_within : Within (settled_at (written_over old place bytes)) (writing place (length bytes) (settled_at old))
  over_within = record {
    leaves = λ file im.
        let same : file ≡ written_over old place bytes = settled_image (written_over old place bytes) file im in
        subst (λ (l : List ℕ). IsImage (writing place (length bytes) (settled_at old)) l) (sym same) (record {
          no_shorter = omega (arith, size, length-drop (place + length bytes) old);
          no_longer = omega (arith, size, length-drop (place + length bytes) old);
          stays = λ i lt below out left. ⊎_elim (λ l. before i l) (λ r. after i r) out.0;
        });
    risks = λ r h. ⊎_elim (λ w. absurd w) (λ l. absurd l) h;
  }

-- bytes written over themselves
pub over_same : (old : List ℕ) (place n : ℕ) → place + n ≤ length old → written_over old place (take n (drop place old)) ≡ old
over_same old place n fits =
    let front : length (take n (drop place old)) ≡ n = length-take-le n (drop place old) (omega (arith, fits, length-drop place old)) in
    let back : drop (place + length (take n (drop place old))) old ≡ drop n (drop place old) = ap (λ (k : ℕ). drop (place + k) old) front ∙ sym (drop-drop n place old) in
    ap (λ (l : List ℕ). take place old ++ (take n (drop place old) ++ l)) back
    ∙ (ap (λ (l : List ℕ). take place old ++ l) (take-append-drop n (drop place old)) ∙ take-append-drop place old)
