-- Runs of terms: those of a part of a log and of one that grows; and that the runs and the bodies give the log.
use Rattle.std.proofs.Common.{◌≡◌, ◌≢◌, ℕ, zero, suc, ◌+◌, ◌-◌, ◌<◌, ◌≤◌, true, false, cond, eqb, leb, List, [], ◌∷◌, ◌++◌, map, length, take, drop, get_or, append-nil, drop-cons, Result, Ok, Err, Option, None, Some, ⊎_elim, refl, sym, ap, subst, ◌∙◌, arith, length-take, length-drop, eq-eqb}
use Rattle.std.specs.Option.{unwrap_or, option_map}
use Rattle.std.specs.List.{slice_get}
use Rattle.std.specs.List.Sorted.{IsPartitionPoint, IsNonDecreasingBy}
use Rattle.std.specs.Result.{IsOk, OnOk}
use Rattle.std.proofs.lemmas.Bool.{true≢false, eqb-false, cond_both, cases_Bool, cond-true, cond-false, ne_eqb}
use Rattle.std.proofs.lemmas.Option.{none-some, get_or_from_slice_get}
use Rattle.std.proofs.lemmas.List.{map-append, take-map, length-map, take_more, get_or-drop, drop_all}
use Rattle.raft_log.specs.declared.entry.Entry.{Entry}
use Rattle.raft_log.specs.declared.run.Run.{Run}
use Rattle.raft_log.specs.Lists.{item}
use Rattle.raft_log.specs.Logs.{last_after, term_at, entry_limit, standing}
use Rattle.raft_log.proofs.Repairs.{term_at_index, standing_none}
use Rattle.raft_log.specs.Runs.{goes_on, runs_behind, term_runs, last_of, last_run_of, last_run, Alternate, terms, runs_of, entries_from, entries_of, IsLog}

-- the first of these runs begins after k
abbrev pub BeginsBehind : ℕ → List Run → Type 0
BeginsBehind k [] = Unit {0}
BeginsBehind k (r ∷ rs) = k < r.first

-- each run begins after the one before it
abbrev pub Rising : List Run → Type 0
Rising [] = Unit {0}
Rising (r ∷ rs) = BeginsBehind r.first rs × Rising rs

-- the first p runs begin at m or before it, and the next one after it
abbrev pub Parted : ℕ → List Run → ℕ → Type 0
Parted m [] p = Unit {0}
Parted m (r ∷ rs) zero = m < r.first
Parted m (r ∷ rs) (suc p) = (r.first ≤ m) × Parted m rs p

pub begins : (o : Option ℕ) (k : ℕ) (ts : List ℕ) (j : ℕ) → j ≤ k → BeginsBehind j (runs_behind o k ts)
begins o k [] j h = tt
begins o k (t ∷ ts) j h =
    cond_both (goes_on o t) (runs_behind o (suc k) ts) (record { first = suc k; term = t } ∷ runs_behind (Some t) (suc k) ts) (λ z. BeginsBehind j z) (λ _. begins o (suc k) ts j (omega arith)) (λ _. omega arith)

pub rising : (o : Option ℕ) (k : ℕ) (ts : List ℕ) → Rising (runs_behind o k ts)
rising o k [] = tt
rising o k (t ∷ ts) =
    cond_both (goes_on o t) (runs_behind o (suc k) ts) (record { first = suc k; term = t } ∷ runs_behind (Some t) (suc k) ts) Rising (λ _. rising o (suc k) ts) (λ _. (begins (Some t) (suc k) ts (suc k) (omega arith), rising (Some t) (suc k) ts))

-- an entry of the same term continues the last run
last_same : (s t : ℕ) (ts : List ℕ) → s ≡ t → last_of (Some s) ts ≡ last_of (Some t) ts
last_same s t ts q = ap (λ (z : ℕ). last_of (Some z) ts) q

goes_on_is : (o : Option ℕ) (t : ℕ) → goes_on o t ≡ true → o ≡ Some t
goes_on_is None t h = absurd (cc)
goes_on_is (Some s) t h = ap Some (grind (arith, h))

last_goes_on : (o : Option ℕ) (t : ℕ) (ts : List ℕ) → goes_on o t ≡ true → last_of o ts ≡ last_of (Some t) ts
last_goes_on o t ts h = ap (λ (z : Option ℕ). last_of z ts) (goes_on_is o t h)

-- the runs of terms that follow others
pub runs-append : (o : Option ℕ) (k : ℕ) (ts us : List ℕ) (m : ℕ) → m ≡ k + length ts → runs_behind o k (ts ++ us) ≡ runs_behind o k ts ++ runs_behind (last_of o ts) m us
runs-append o k [] us m e = ap (λ (n : ℕ). runs_behind o n us) (omega (arith, e))
runs-append o k (t ∷ ts) us m e =
    let new : List Run = record { first = suc k; term = t } ∷ runs_behind (Some t) (suc k) ts in
    let rest : List Run = runs_behind (last_of (Some t) ts) m us in
    ⊎_elim
    (λ c.
    cond-true (goes_on o t) (runs_behind o (suc k) (ts ++ us)) (record { first = suc k; term = t } ∷ runs_behind (Some t) (suc k) (ts ++ us)) c
    ∙ (runs-append o (suc k) ts us m (omega (arith, e))
    ∙ (ap (λ (z : Option ℕ). runs_behind o (suc k) ts ++ runs_behind z m us) (last_goes_on o t ts c)
    ∙ ap (λ (z : List Run). z ++ rest) (sym (cond-true (goes_on o t) (runs_behind o (suc k) ts) new c)))))
    (λ c.
    cond-false (goes_on o t) (runs_behind o (suc k) (ts ++ us)) (record { first = suc k; term = t } ∷ runs_behind (Some t) (suc k) (ts ++ us)) c
    ∙ (ap (λ (z : List Run). record { first = suc k; term = t } ∷ z) (runs-append (Some t) (suc k) ts us m (omega (arith, e)))
    ∙ ap (λ (z : List Run). z ++ rest) (sym (cond-false (goes_on o t) (runs_behind o (suc k) ts) new c))))
    (cases_Bool (goes_on o t))

-- the last run has the last term
pub last-run : (o : Option ℕ) (k : ℕ) (ts : List ℕ) → last_run_of o (runs_behind o k ts) ≡ last_of o ts
last-run o k [] = refl
last-run o k (t ∷ ts) =
    let new : List Run = record { first = suc k; term = t } ∷ runs_behind (Some t) (suc k) ts in
    ⊎_elim
    (λ c. ap (last_run_of o) (cond-true (goes_on o t) (runs_behind o (suc k) ts) new c) ∙ (last-run o (suc k) ts ∙ last_goes_on o t ts c))
    (λ c. ap (last_run_of o) (cond-false (goes_on o t) (runs_behind o (suc k) ts) new c) ∙ last-run (Some t) (suc k) ts)
    (cases_Bool (goes_on o t))

none_before : (k p : ℕ) (rs : List Run) → BeginsBehind k rs → Parted k rs p → [] ≡ take p rs
none_before k zero [] b h = refl
none_before k (suc p) [] b h = refl
none_before k zero (r ∷ rs) b h = refl
none_before k (suc p) (r ∷ rs) b h = absurd (omega (arith, h.0, b))

take_none : (p : ℕ) → ◌≡◌ {A = List Run} [] (take p [])
take_none zero = refl
take_none (suc p) = refl

parted_new : (k m p : ℕ) (r : Run) (rs : List Run) → r.first ≡ suc k → k < m → (short : List Run) → Parted m (r ∷ rs) p → ((q : ℕ) → Parted m rs q → short ≡ take q rs) → r ∷ short ≡ take p (r ∷ rs)
parted_new k m zero r rs f lt short h more = absurd (omega (arith, f, h))
parted_new k m (suc p) r rs f lt short h more = ap (λ (z : List Run). r ∷ z) (more p h.1)

-- the runs of the first n terms are the first runs, up to those that begin after n
pub runs-take : (o : Option ℕ) (k n m : ℕ) (ts : List ℕ) (p : ℕ) → m ≡ k + n → Parted m (runs_behind o k ts) p → runs_behind o k (take n ts) ≡ take p (runs_behind o k ts)
runs-take o k zero m ts p e h = none_before k p (runs_behind o k ts) (begins o k ts k (omega arith)) (subst (λ (z : ℕ). Parted z (runs_behind o k ts) p) (omega (arith, e)) h)
runs-take o k (suc n) m [] p e h = take_none p
runs-take o k (suc n) m (t ∷ ts) p e h =
    let run : Run = record { first = suc k; term = t } in
    let new : List Run = run ∷ runs_behind (Some t) (suc k) ts in
    let old : List Run = runs_behind o (suc k) ts in
    ⊎_elim
    (λ c.
    let is : runs_behind o k (t ∷ ts) ≡ old = cond-true (goes_on o t) old new c in
    cond-true (goes_on o t) (runs_behind o (suc k) (take n ts)) (run ∷ runs_behind (Some t) (suc k) (take n ts)) c
    ∙ (runs-take o (suc k) n m ts p (omega (arith, e)) (subst (λ (z : List Run). Parted m z p) is h) ∙ ap (take p) (sym is)))
    (λ c.
    let is : runs_behind o k (t ∷ ts) ≡ new = cond-false (goes_on o t) old new c in
    cond-false (goes_on o t) (runs_behind o (suc k) (take n ts)) (run ∷ runs_behind (Some t) (suc k) (take n ts)) c
    ∙ (parted_new k m p run (runs_behind (Some t) (suc k) ts) refl (omega (arith, e)) (runs_behind (Some t) (suc k) (take n ts)) (subst (λ (z : List Run). Parted m z p) is h)
    (λ q more. runs-take (Some t) (suc k) n m ts q (omega (arith, e)) more)
    ∙ ap (take p) (sym is)))
    (cases_Bool (goes_on o t))

-- what a partition point means, by the list
pub parted : (m : ℕ) (rs : List Run) (p : ℕ) → ((i : ℕ) (d : Run) → i < p → (get_or rs i d).first ≤ m) → ((i : ℕ) (d : Run) → p ≤ i → i < length rs → m < (get_or rs i d).first) → Parted m rs p
parted m [] p below above = tt
parted m (r ∷ rs) zero below above = above 0 r (omega arith) (omega arith)
parted m (r ∷ rs) (suc p) below above =
    (below 0 r (omega arith), parted m rs p (λ i d lt. below (suc i) d (omega arith)) (λ i d ge lt. above (suc i) d (omega arith) (omega arith)))

rising_from : (m : ℕ) (rs : List Run) (j : ℕ) (d : Run) → BeginsBehind m rs → Rising rs → j < length rs → m ≤ (get_or rs j d).first
rising_from m [] j d b r lt = absurd (omega arith)
rising_from m (x ∷ rs) zero d b r lt = omega (arith, b)
rising_from m (x ∷ rs) (suc j) d b r lt = omega (arith, b, rising_from x.first rs j d r.0 r.1 (omega arith))

pub rising_runs : (rs : List Run) → Rising rs → IsNonDecreasingBy (λ (r : Run). r.first) rs
rising_runs [] r i j d le lt = absurd (omega arith)
rising_runs (x ∷ rs) r zero zero d le lt = omega arith
rising_runs (x ∷ rs) r zero (suc j) d le lt = rising_from x.first rs j d r.0 r.1 (omega arith)
rising_runs (x ∷ rs) r (suc i) zero d le lt = absurd (omega arith)
rising_runs (x ∷ rs) r (suc i) (suc j) d le lt = rising_runs rs r.1 i j d (omega arith) (omega arith)

-- what the look-up of a run finds
pub begun-value : (rs : List Run) (p k : ℕ) (ts : List ℕ) → rs ≡ term_runs ts → IsPartitionPoint (λ (r : Run). leb r.first k ≡ true) (λ (r : Run). leb r.first k ≡ false) rs p
    → take p rs ≡ term_runs (take k ts)
begun-value rs p k ts is point =
    let parts : Parted k rs p =
    parted k rs p (λ i d lt. let h : leb (get_or rs i d).first k ≡ true = point.0 i d (omega arith) lt in grind (arith, h))
    (λ i d ge lt. let h : leb (get_or rs i d).first k ≡ false = point.1 i d ge lt in grind (arith, h))
    in
    ap (take p) is ∙ sym (runs-take None 0 k k ts p (omega arith) (subst (λ (z : List Run). Parted k z p) is parts))

pub rising-of : (rs : List Run) (ts : List ℕ) → rs ≡ term_runs ts → IsNonDecreasingBy (λ (r : Run). r.first) rs
rising-of rs ts is = rising_runs rs (subst Rising (sym is) (rising None 0 ts))

-- the last run, by its place
pub last-run-at : (o : Option ℕ) (rs : List Run) (n : ℕ) (r : Run) → n ≡ length rs - 1 → slice_get rs n ≡ Some r → last_run_of o rs ≡ Some r.term
last-run-at o [] n r e h = absurd (none-some r h)
last-run-at o (x ∷ []) zero r e h = ap (option_map (λ (z : Run). z.term)) h
last-run-at o (x ∷ []) (suc n) r e h = absurd (omega (arith, e))
last-run-at o (x ∷ y ∷ rs) zero r e h = absurd (omega (arith, e))
last-run-at o (x ∷ y ∷ rs) (suc n) r e h = last-run-at (Some x.term) (y ∷ rs) n r (omega (arith, e)) h

-- the first of these runs does not continue this term
abbrev pub BeginsOther : Option ℕ → List Run → Type 0
BeginsOther o [] = Unit {0}
BeginsOther o (r ∷ rs) = goes_on o r.term ≡ false

begins-other : (o : Option ℕ) (k : ℕ) (ts : List ℕ) → BeginsOther o (runs_behind o k ts)
begins-other o k [] = tt
begins-other o k (t ∷ ts) =
    cond_both (goes_on o t) (runs_behind o (suc k) ts) (record { first = suc k; term = t } ∷ runs_behind (Some t) (suc k) ts) (λ z. BeginsOther o z) (λ _. begins-other o (suc k) ts) (λ c. c)

alternate-cons : (r : Run) (rs : List Run) → BeginsBehind r.first rs → BeginsOther (Some r.term) rs → Alternate rs → Alternate (r ∷ rs)
alternate-cons r [] b o h = tt
alternate-cons r (s ∷ rs) b o h = (b, eqb-false r.term s.term o, h)

alternates : (o : Option ℕ) (k : ℕ) (ts : List ℕ) → Alternate (runs_behind o k ts)
alternates o k [] = tt
alternates o k (t ∷ ts) =
    let run : Run = record { first = suc k; term = t } in
    cond_both (goes_on o t) (runs_behind o (suc k) ts) (run ∷ runs_behind (Some t) (suc k) ts) Alternate (λ _. alternates o (suc k) ts)
    (λ _. alternate-cons run (runs_behind (Some t) (suc k) ts) (begins (Some t) (suc k) ts (suc k) (omega arith)) (begins-other (Some t) (suc k) ts) (alternates (Some t) (suc k) ts))

abbrev first_index : List Run → ℕ
first_index [] = 1
first_index (r ∷ rs) = r.first

-- one more term continues the last run, or begins another
added : (ts : List ℕ) (t : ℕ) (rs : List Run) → rs ≡ term_runs ts → term_runs (ts ++ t ∷ []) ≡ rs ++ (cond (goes_on (last_run rs) t) [] (record { first = suc (length ts); term = t } ∷ []))
added ts t rs is =
    let new : List Run = record { first = suc (length ts); term = t } ∷ [] in
    let last : last_of None ts ≡ last_run rs = sym (ap last_run is ∙ last-run None 0 ts) in
    runs-append None 0 ts (t ∷ []) (length ts) (omega arith)
    ∙ (ap (λ (z : List Run). z ++ cond (goes_on (last_of None ts) t) [] new) (sym is) ∙ ap (λ (o : Option ℕ). rs ++ cond (goes_on o t) [] new) last)

pub added-same : (ts : List ℕ) (t : ℕ) (rs : List Run) → rs ≡ term_runs ts → goes_on (last_run rs) t ≡ true → rs ≡ term_runs (ts ++ t ∷ [])
added-same ts t rs is same =
    sym (added ts t rs is ∙ (ap (λ (z : List Run). rs ++ z) (cond-true (goes_on (last_run rs) t) [] (record { first = suc (length ts); term = t } ∷ []) same) ∙ append-nil rs))

pub added-new : (ts : List ℕ) (t k : ℕ) (rs : List Run) → rs ≡ term_runs ts → k ≡ suc (length ts) → goes_on (last_run rs) t ≡ false → rs ++ record { first = k; term = t } ∷ [] ≡ term_runs (ts ++ t ∷ [])
added-new ts t k rs is at other =
    ap (λ (n : ℕ). rs ++ record { first = n; term = t } ∷ []) at
    ∙ sym (added ts t rs is ∙ ap (λ (z : List Run). rs ++ z) (cond-false (goes_on (last_run rs) t) [] (record { first = suc (length ts); term = t } ∷ []) other))

-- what a call made that can't fail
pub made : {T E P : Type 0} (r : Result T E) → IsOk r → OnOk r P → P
made (Ok x) is h = h
made (Err e) is h = absurd (true≢false (sym is))

pub on_ok : {T E P : Type 0} (r : Result T E) → P → OnOk r P
on_ok (Ok x) h = h
on_ok (Err e) h = tt

module _ {B : Type 0} where
  abbrev pub bodies : List (Entry B) → List B
  bodies log = map (λ e. e.body) log

  skipped : (k t : ℕ) (rs : List Run) (b : B) (bs : List B) → BeginsBehind (suc k) rs → entries_from k t rs (b ∷ bs) ≡ record { term = t; body = b } ∷ entries_from (suc k) t rs bs
  skipped k t [] b bs h = refl
  skipped k t (r ∷ rs) b bs h =
      cond-false (eqb r.first (suc k)) (record { term = r.term; body = b } ∷ entries_from (suc k) r.term rs bs) (record { term = t; body = b } ∷ entries_from (suc k) t (r ∷ rs) bs) (ne_eqb r.first (suc k) (λ e. omega (arith, e, h)))

  new_run : (k t : ℕ) (e : Entry B) (es : List (Entry B)) → entries_from (suc k) e.term (runs_behind (Some e.term) (suc k) (terms es)) (bodies es) ≡ es
      → entries_from k t (record { first = suc k; term = e.term } ∷ runs_behind (Some e.term) (suc k) (terms es)) (e.body ∷ bodies es) ≡ e ∷ es
  new_run k t e es h =
      let r : Run = record { first = suc k; term = e.term } in
      let rs : List Run = runs_behind (Some e.term) (suc k) (terms es) in
      let same : eqb (suc k) (suc k) ≡ true = grind arith in
      cond-true (eqb (suc k) (suc k)) (e ∷ entries_from (suc k) e.term rs (bodies es)) (record { term = t; body = e.body } ∷ entries_from (suc k) t (r ∷ rs) (bodies es)) same
      ∙ ap (λ (z : List (Entry B)). e ∷ z) h

  -- the runs and the bodies give the entries
  pub given-back : (o : Option ℕ) (k : ℕ) (es : List (Entry B)) → entries_from k (unwrap_or o 0) (runs_behind o k (terms es)) (bodies es) ≡ es
  given-back o k [] = refl
  given-back None k (e ∷ es) = new_run k 0 e es (given-back (Some e.term) (suc k) es)
  given-back (Some s) k (e ∷ es) =
      let old : List Run = runs_behind (Some s) (suc k) (terms es) in
      let new : List Run = record { first = suc k; term = e.term } ∷ runs_behind (Some e.term) (suc k) (terms es) in
      ⊎_elim
      (λ c.
      let q : s ≡ e.term = grind (arith, c) in
      let ih : entries_from (suc k) s old (bodies es) ≡ es = given-back (Some s) (suc k) es in
      let entry : record { term = s; body = e.body } ≡ e = λ i. record { term = q i; body = e.body } in
      ap (λ (z : List Run). entries_from k s z (e.body ∷ bodies es)) (cond-true (eqb s e.term) old new c)
      ∙ (skipped k s old e.body (bodies es) (begins (Some s) (suc k) (terms es) (suc k) (omega arith))
      ∙ (λ i. entry i ∷ ih i)))
      (λ c. ap (λ (z : List Run). entries_from k s z (e.body ∷ bodies es)) (cond-false (eqb s e.term) old new c) ∙ new_run k s e es (given-back (Some e.term) (suc k) es))
      (cases_Bool (eqb s e.term))

  -- the entries have these bodies
  pub bodies-from : (k t : ℕ) (rs : List Run) (bs : List B) → bodies (entries_from k t rs bs) ≡ bs
  bodies-from k t rs [] = refl
  bodies-from k t [] (b ∷ bs) = ap (λ (z : List B). b ∷ z) (bodies-from (suc k) t [] bs)
  bodies-from k t (r ∷ rs) (b ∷ bs) =
      cond_both (eqb r.first (suc k)) (record { term = r.term; body = b } ∷ entries_from (suc k) r.term rs bs) (record { term = t; body = b } ∷ entries_from (suc k) t (r ∷ rs) bs)
      (λ (z : List (Entry B)). bodies z ≡ b ∷ bs)
      (λ _. ap (λ (z : List B). b ∷ z) (bodies-from (suc k) r.term rs bs))
      (λ _. ap (λ (z : List B). b ∷ z) (bodies-from (suc k) t (r ∷ rs) bs))

  -- what holds of a log, by the list that it is
  pub record Keeps (rs : List Run) (bs : List B) (log : List (Entry B)) : Type 0 where
    pub runs : rs ≡ runs_of log
    pub bodies_are : bs ≡ bodies log
    pub len : length bs ≡ length log
    pub limit : length log ≤ entry_limit

  pub keeps : (rs : List Run) (bs : List B) (log : List (Entry B)) → entries_of rs bs ≡ log → IsLog rs bs → Keeps rs bs log
  keeps rs bs log e h =
      let b : bs ≡ bodies log = sym (bodies-from 0 0 rs bs) ∙ ap bodies e in
      let len : length bs ≡ length log = ap (length {A = B}) b ∙ length-map log (λ (x : Entry B). x.body) in
      record {
        runs = h.are_runs ∙ ap runs_of e;
        bodies_are = b;
        len = len;
        limit = omega (arith, len, h.few);
      }

  -- a log whose runs and bodies are those of a list is that list
  pub log-view : (rs : List Run) (bs : List B) (log : List (Entry B)) → rs ≡ runs_of log → bs ≡ bodies log → entries_of rs bs ≡ log
  log-view rs bs log r b = (λ i. entries_of (r i) (b i)) ∙ given-back None 0 log

  pub log-is : (rs : List Run) (bs : List B) (log : List (Entry B)) → rs ≡ runs_of log → bs ≡ bodies log → length log ≤ entry_limit → IsLog rs bs
  log-is rs bs log r b few =
      record {
        are_runs = r ∙ ap runs_of (sym (log-view rs bs log r b));
        few = omega (arith, few, ap (length {A = B}) b, length-map log (λ (x : Entry B). x.body));
      }

  last_after_is : (t : ℕ) (o : Option ℕ) (es : List (Entry B)) → unwrap_or o 0 ≡ t → unwrap_or (last_of o (terms es)) 0 ≡ last_after t es
  last_after_is t o [] h = h
  last_after_is t o (e ∷ es) h = last_after_is e.term (Some e.term) es refl

  -- the term at an index is that of the last run that begins at or before it
  pub term-by-runs : (log : List (Entry B)) (k : ℕ) (begun : List Run) (o : Option ℕ) → begun ≡ term_runs (take k (terms log)) → o ≡ last_run begun → unwrap_or o 0 ≡ term_at log k
  term-by-runs log k begun o b e =
      ap (λ (z : Option ℕ). unwrap_or z 0) (e ∙ (ap last_run b ∙ (last-run None 0 (take k (terms log)) ∙ ap (last_of None) (take-map (λ (x : Entry B). x.term) k log))))
      ∙ last_after_is 0 None (take k log) refl

  entry_from : (t : ℕ) (log : List (Entry B)) (j : ℕ) (b : B) → slice_get (bodies log) j ≡ Some b → slice_get log j ≡ Some (record { term = last_after t (take (suc j) log); body = b })
  entry_from t [] j b h = absurd (none-some b h)
  entry_from t (e ∷ log) zero b h = λ i. Some (record { term = e.term; body = unwrap_or (h i) b })
  entry_from t (e ∷ log) (suc j) b h = entry_from e.term log j b h

  -- the entry at an index is its term with its body
  pub entry-at : (log : List (Entry B)) (k j : ℕ) (bs : List B) (b : B) → bs ≡ bodies log → k ≡ suc j → slice_get bs j ≡ Some b → item log k ≡ Some (record { term = term_at log k; body = b })
  entry-at log k j bs b e s h =
      subst (λ (n : ℕ). item log n ≡ Some (record { term = term_at log n; body = b })) (sym s) (entry_from 0 log j b (ap (λ (z : List B). slice_get z j) (sym e) ∙ h))

  -- the runs of a log with entries after its first ones
  pub runs-behind : (log es : List (Entry B)) (k : ℕ) (kept begun : List Run) (o : Option ℕ) → k ≤ length log → kept ≡ term_runs (take k (terms log)) → o ≡ last_run kept
      → begun ≡ runs_behind o k (terms es) → kept ++ begun ≡ runs_of (take k log ++ es)
  runs-behind log es k kept begun o le is_kept is_last is_begun =
      let first : List ℕ = take k (terms log) in
      let len : length first ≡ k = omega (arith, length-take k (terms log), length-map log (λ (x : Entry B). x.term), le) in
      let last : o ≡ last_of None first = is_last ∙ (ap last_run is_kept ∙ last-run None 0 first) in
      let ts : first ++ terms es ≡ terms (take k log ++ es) =
      ap (λ (z : List ℕ). z ++ terms es) (take-map (λ (x : Entry B). x.term) k log) ∙ sym (map-append (λ (x : Entry B). x.term) (take k log) es)
      in
      (λ i. is_kept i ++ (is_begun ∙ ap (λ (z : Option ℕ). runs_behind z k (terms es)) last) i)
      ∙ (sym (runs-append None 0 first (terms es) k (omega (arith, len))) ∙ ap term_runs ts)

  pub bodies-behind : (log es : List (Entry B)) (k : ℕ) (bs added : List B) → bs ≡ bodies log → added ≡ bodies es → take k bs ++ added ≡ bodies (take k log ++ es)
  bodies-behind log es k bs added b a =
      (λ i. take k (b i) ++ a i)
      ∙ (ap (λ (z : List B). z ++ bodies es) (take-map (λ (x : Entry B). x.body) k log) ∙ sym (map-append (λ (x : Entry B). x.body) (take k log) es))

  -- a log with one more entry
  pub runs-more : (log : List (Entry B)) (e : Entry B) (rs : List Run) → rs ≡ term_runs (terms log ++ e.term ∷ []) → rs ≡ runs_of (log ++ e ∷ [])
  runs-more log e rs h = h ∙ ap term_runs (sym (map-append (λ (x : Entry B). x.term) log (e ∷ [])))

  pub bodies-more : (log : List (Entry B)) (e : Entry B) (bs more : List B) → bs ≡ bodies log → more ≡ bs ++ e.body ∷ [] → more ≡ bodies (log ++ e ∷ [])
  bodies-more log e bs more b m = m ∙ (ap (λ (z : List B). z ++ e.body ∷ []) b ∙ sym (map-append (λ (x : Entry B). x.body) log (e ∷ [])))

  -- one more entry is copied
  pub copied-more : (log : List (Entry B)) (i j b : ℕ) (x : Entry B) → b ≡ i + j → b < length log → item log (suc b) ≡ Some x → take (suc j) (drop i log) ≡ take j (drop i log) ++ x ∷ []
  copied-more log i j b x e lt h =
      let n : length (drop i log) ≡ length log - i = length-drop i log in
      let is : get_or (drop i log) j x ≡ x = get_or-drop i log j x ∙ (ap (λ (k : ℕ). get_or log k x) (sym e) ∙ get_or_from_slice_get log b x x h) in
      let one : suc j ≡ j + 1 = omega arith in
      ap (λ (k : ℕ). take k (drop i log)) one ∙ (take_more (drop i log) j x (omega (arith, n, e, lt)) ∙ ap (λ (z : Entry B). take j (drop i log) ++ z ∷ []) is)

  term_there : (log : List (Entry B)) (i : ℕ) (d : Entry B) → i < length log → (get_or log i d).term ≡ term_at log (suc i)
  term_there log i d lt =
      let same : suc i - 1 ≡ i = omega arith in
      sym (ap (λ (k : ℕ). (get_or log k d).term) same) ∙ term_at_index log (suc i) d (omega arith) (omega arith)

  stands : (log es : List (Entry B)) (i j : ℕ) (e : Entry B) → i < length log → j < length es → e ≡ get_or es j e
      → standing (drop i log) (drop j es) ≡ cond (eqb (term_at log (suc i)) e.term) (suc (standing (drop (suc i) log) (drop (suc j) es))) 0
  stands log es i j e lt lt' is =
      ap (λ (z : List (Entry B)). standing z (drop j es)) (drop-cons log i e lt)
      ∙ (ap (λ (z : List (Entry B)). standing (get_or log i e ∷ drop (suc i) log) z) (drop-cons es j e lt')
      ∙ (ap (λ (z : Entry B). cond (eqb (get_or log i e).term z.term) (suc (standing (drop (suc i) log) (drop (suc j) es))) 0) (sym is)
      ∙ ap (λ (t : ℕ). cond (eqb t e.term) (suc (standing (drop (suc i) log) (drop (suc j) es))) 0) (term_there log i e lt)))

  -- one more entry is already there
  pub stands-more : (log es : List (Entry B)) (i j m n : ℕ) (e : Entry B) → m ≡ suc i → n ≡ suc j → i < length log → j < length es → e ≡ get_or es j e → term_at log (suc i) ≡ e.term
      → standing (drop i log) (drop j es) ≡ suc (standing (drop m log) (drop n es))
  stands-more log es i j m n e im jn lt lt' is same =
      stands log es i j e lt lt' is
      ∙ (cond-true (eqb (term_at log (suc i)) e.term) (suc (standing (drop (suc i) log) (drop (suc j) es))) 0 (eq-eqb (term_at log (suc i)) e.term same)
      ∙ (ap (λ (k : ℕ). suc (standing (drop k log) (drop (suc j) es))) (sym im) ∙ ap (λ (k : ℕ). suc (standing (drop m log) (drop k es))) (sym jn)))

  -- no more entries are there: another term, or one of the lists ends
  pub stands-other : (log es : List (Entry B)) (i j : ℕ) (e : Entry B) → i < length log → j < length es → e ≡ get_or es j e → term_at log (suc i) ≢ e.term → standing (drop i log) (drop j es) ≡ 0
  stands-other log es i j e lt lt' is other =
      stands log es i j e lt lt' is ∙ cond-false (eqb (term_at log (suc i)) e.term) (suc (standing (drop (suc i) log) (drop (suc j) es))) 0 (ne_eqb (term_at log (suc i)) e.term other)

  pub stands-past : (log es : List (Entry B)) (i : ℕ) → length log ≤ i → standing (drop i log) es ≡ 0
  stands-past log es i le = ap (λ (z : List (Entry B)). standing z es) (drop_all i log le)

  pub stands-end : (log es : List (Entry B)) (j : ℕ) → length es ≤ j → standing log (drop j es) ≡ 0
  stands-end log es j le = ap (λ (z : List (Entry B)). standing log z) (drop_all j es le) ∙ standing_none log

  first-run : (log : List (Entry B)) → first_index (runs_of log) ≡ 1
  first-run [] = refl
  first-run (e ∷ log) = refl

  pub first-at-1 : (log : List (Entry B)) (r : Run) (rs : List Run) → runs_of log ≡ r ∷ rs → r.first ≡ 1
  first-at-1 log r rs h = sym (ap first_index h) ∙ first-run log

  pub runs-alternate : (log : List (Entry B)) → Alternate (runs_of log)
  runs-alternate log = alternates None 0 (terms log)
