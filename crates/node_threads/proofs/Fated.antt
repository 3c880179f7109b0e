-- What becomes of the requests that a worker gets, over several steps.
use Rattle.std.proofs.Common.{◌≡◌, ◌≤◌, ◌+◌, ◌||◌, ⊎_elim, ℕ, Bool, true, false, List, [], ◌∷◌, ◌++◌, take, take-append-drop, Some, refl, sym, ap, ◌∙◌, subst, append_assoc, append-nil, if◌then◌else◌, nat_eq, arith}
use Rattle.std.proofs.lemmas.List.Sorted.{IsPermutation-append_comm, IsPermutation-append_left, IsPermutation-append_right, IsPermutation-refl, IsPermutation-to_front, IsPermutation-trans, sum_by-IsPermutation}
use Rattle.std.proofs.lemmas.List.Sums.{sum_by-append}
use Rattle.std.specs.Prelude.{IsPermutation}
use Rattle.std.specs.List.{AllByRecursion, list_any}
use Rattle.raft_log.specs.Batches.{batch_limit}
use Rattle.node_notes.specs.declared.note.Note.TheVariants as note
use Rattle.node_threads.specs.declared.job.Job.{Job}
use Rattle.node_threads.specs.declared.job.Job.TheVariants as job
use Rattle.node_threads.specs.declared.worker_loop.requests.Request.{Request}
use Rattle.node_threads.specs.Fates.{EachHasOneFate, IsCounted, counted_by, counted_by_all, is_restart, may_come, request_by, requests_by}
use Rattle.node_threads.specs.Reports.{is_end}
use Rattle.node_threads.specs.Requests.{HasAsked, Queue, WaitsOrIsLost, behind, ended, last_asked, lose, request}
use Rattle.node_threads.specs.Waiting.{Account, AsksFront, HaveComeBack, Heeds, HeedsUnless, counted}
use Rattle.node_threads.proofs.Counted.{came_once, last_once, times_both}
use Rattle.node_threads.proofs.Waiting.{lost_by_asking}

-- ---- lists in another order

module _ {A : Type 0} where
  moved : (xs ys us vs : List A) → us ≡ xs → ys ≡ vs → IsPermutation xs ys → IsPermutation us vs
  moved xs ys us vs from to h = subst (λ (z : List A × List A). IsPermutation z.0 z.1) (λ t. (sym from t, to t)) h

  interchanged : (a b c d : List A) → IsPermutation ((a ++ b) ++ (c ++ d)) ((a ++ c) ++ (b ++ d))
  interchanged a b c d =
      let swapped = IsPermutation-append_right a ((b ++ c) ++ d) ((c ++ b) ++ d) (IsPermutation-append_left d (b ++ c) (c ++ b) (IsPermutation-append_comm b c)) in
      moved (a ++ ((b ++ c) ++ d)) (a ++ ((c ++ b) ++ d)) ((a ++ b) ++ (c ++ d)) ((a ++ c) ++ (b ++ d)) (append_assoc a b (c ++ d) ∙ ap (λ l. a ++ l) (sym (append_assoc b c d)))
      (ap (λ l. a ++ l) (append_assoc c b d) ∙ sym (append_assoc a c (b ++ d))) swapped

  -- what comes in and what goes out, one after the other
  both_once : (w0 i1 o1 w1 i2 o2 w2 : List A) → IsPermutation (w0 ++ i1) (o1 ++ w1) → IsPermutation (w1 ++ i2) (o2 ++ w2) → IsPermutation (w0 ++ (i1 ++ i2)) ((o1 ++ o2) ++ w2)
  both_once w0 i1 o1 w1 i2 o2 w2 one two =
      let first = moved ((w0 ++ i1) ++ i2) ((o1 ++ w1) ++ i2) (w0 ++ (i1 ++ i2)) (o1 ++ (w1 ++ i2)) (sym (append_assoc w0 i1 i2)) (append_assoc o1 w1 i2)
      (IsPermutation-append_left i2 (w0 ++ i1) (o1 ++ w1) one) in
      let second = moved (o1 ++ (w1 ++ i2)) (o1 ++ (o2 ++ w2)) (o1 ++ (w1 ++ i2)) ((o1 ++ o2) ++ w2) refl (sym (append_assoc o1 o2 w2)) (IsPermutation-append_right o1 (w1 ++ i2) (o2 ++ w2) two) in
      IsPermutation-trans (w0 ++ (i1 ++ i2)) (o1 ++ (w1 ++ i2)) ((o1 ++ o2) ++ w2) first second

  three_once : (s1 e1 l1 s2 e2 l2 : List A) → IsPermutation ((s1 ++ (e1 ++ l1)) ++ (s2 ++ (e2 ++ l2))) ((s1 ++ s2) ++ ((e1 ++ e2) ++ (l1 ++ l2)))
  three_once s1 e1 l1 s2 e2 l2 =
      IsPermutation-trans ((s1 ++ (e1 ++ l1)) ++ (s2 ++ (e2 ++ l2))) ((s1 ++ s2) ++ ((e1 ++ l1) ++ (e2 ++ l2))) ((s1 ++ s2) ++ ((e1 ++ e2) ++ (l1 ++ l2)))
      (interchanged s1 (e1 ++ l1) s2 (e2 ++ l2))
      (IsPermutation-append_right (s1 ++ s2) ((e1 ++ l1) ++ (e2 ++ l2)) ((e1 ++ e2) ++ (l1 ++ l2)) (interchanged e1 l1 e2 l2))

  all_once : (w0 t1 b1 s1 e1 l1 w1 t2 b2 s2 e2 l2 w2 : List A) → IsPermutation (w0 ++ (t1 ++ b1)) ((s1 ++ (e1 ++ l1)) ++ w1) → IsPermutation (w1 ++ (t2 ++ b2)) ((s2 ++ (e2 ++ l2)) ++ w2)
      → IsPermutation (w0 ++ ((t1 ++ t2) ++ (b1 ++ b2))) (((s1 ++ s2) ++ ((e1 ++ e2) ++ (l1 ++ l2))) ++ w2)
  all_once w0 t1 b1 s1 e1 l1 w1 t2 b2 s2 e2 l2 w2 one two =
      let comes = IsPermutation-append_right w0 ((t1 ++ t2) ++ (b1 ++ b2)) ((t1 ++ b1) ++ (t2 ++ b2)) (interchanged t1 t2 b1 b2) in
      let both = both_once w0 (t1 ++ b1) (s1 ++ (e1 ++ l1)) w1 (t2 ++ b2) (s2 ++ (e2 ++ l2)) w2 one two in
      let goes = IsPermutation-append_left w2 ((s1 ++ (e1 ++ l1)) ++ (s2 ++ (e2 ++ l2))) ((s1 ++ s2) ++ ((e1 ++ e2) ++ (l1 ++ l2))) (three_once s1 e1 l1 s2 e2 l2) in
      IsPermutation-trans (w0 ++ ((t1 ++ t2) ++ (b1 ++ b2))) (w0 ++ ((t1 ++ b1) ++ (t2 ++ b2))) (((s1 ++ s2) ++ ((e1 ++ e2) ++ (l1 ++ l2))) ++ w2) comes
      (IsPermutation-trans (w0 ++ ((t1 ++ b1) ++ (t2 ++ b2))) (((s1 ++ (e1 ++ l1)) ++ (s2 ++ (e2 ++ l2))) ++ w2) (((s1 ++ s2) ++ ((e1 ++ e2) ++ (l1 ++ l2))) ++ w2) both goes)

  none_both : (xs ys : List A) → xs ++ ys ≡ [] → (xs ≡ []) × (ys ≡ [])
  none_both [] ys is = (refl, is)
  none_both (x ∷ xs) ys is = absurd (cc is)

  pub all_both : (P : A → Type 0) (xs ys : List A) → AllByRecursion P xs → AllByRecursion P ys → AllByRecursion P (xs ++ ys)
  all_both P [] ys h more = more
  all_both P (x ∷ xs) ys h more = (h.0, all_both P xs ys h.1 more)

neither : (a b : Bool) → (a || b) ≡ false → (a ≡ false) × (b ≡ false)
neither false b is = (refl, is)
neither true b is = absurd (cc is)

pub or_false : (a : Bool) → (a || false) ≡ a
or_false false = refl
or_false true = refl

module _ {B : Type 0} where
  -- -- one step after the other

  lost_still : (low high : ℕ) (rs : List (Request B)) → low ≤ high → AllByRecursion (λ (r : Request B). r.note ≤ low) rs → AllByRecursion (λ (r : Request B). r.note ≤ high) rs
  lost_still low high [] le h = h
  lost_still low high (r ∷ rs) le h = let least = h.0 in (omega (arith, least, le), lost_still low high rs le h.1)

  pub fates_both : (t1 s1 t2 s2 : List (Request B)) (r1 r2 : Bool) (q m n : Queue B) → EachHasOneFate t1 s1 r1 q m → EachHasOneFate t2 s2 r2 m n
      → EachHasOneFate (t1 ++ t2) (s1 ++ s2) (r1 || r2) q n
  fates_both t1 s1 t2 s2 r1 r2 q m n one two =
      let least = one.lost_grows in
      let more = two.lost_grows in
      record {
        back = one.back ++ two.back;
        ended = one.ended ++ two.ended;
        lost = one.lost ++ two.lost;
        once = all_once q.waiting t1 one.back s1 one.ended one.lost m.waiting t2 two.back s2 two.ended two.lost n.waiting one.once two.once;
        ended_by_restart = λ is. let no = neither r1 r2 is in (λ i. one.ended_by_restart no.0 i ++ two.ended_by_restart no.1 i);
        lost_is_told = all_both (λ (r : Request B). r.note ≤ n.lost) one.lost two.lost (lost_still m.lost n.lost one.lost more one.lost_is_told) two.lost_is_told;
        lost_grows = omega (arith, least, more);
        back_once = λ number.
            let first = one.back_once number in
            let more = two.back_once number in
            let backs = times_both number one.back two.back in
            let asks = times_both number s1 s2 in
            omega (arith, first, more, backs, asks);
        in_order = λ back ends lost.
            let b = none_both one.back two.back back in
            let e = none_both one.ended two.ended ends in
            let l = none_both one.lost two.lost lost in
            sym (append_assoc q.waiting t1 t2) ∙ ap (λ x. x ++ t2) (one.in_order b.0 e.0 l.0) ∙ append_assoc s1 m.waiting t2 ∙ ap (λ x. s1 ++ x) (two.in_order b.1 e.1 l.1)
            ∙ sym (append_assoc s1 s2 n.waiting);
      }

  pub fate_none : (q n : Queue B) → n ≡ q → EachHasOneFate [] [] false q n
  fate_none q n is =
      subst (λ (z : Queue B). EachHasOneFate [] [] false q z) (sym is)
      (record {
        back = [];
        ended = [];
        lost = [];
        once = moved q.waiting q.waiting (q.waiting ++ []) q.waiting (append-nil q.waiting) refl (IsPermutation-refl q.waiting);
        ended_by_restart = λ no. refl;
        lost_is_told = tt;
        lost_grows = omega arith;
        back_once = λ number. omega arith;
        in_order = λ back ends lost. append-nil q.waiting;
      })

  pub fate_back : (a b : Account B) → HaveComeBack a b → EachHasOneFate [] [] false a.requests b.requests
  fate_back a b h =
      let w = a.requests.waiting in
      record {
        back = h.back;
        ended = [];
        lost = [];
        once = moved (w ++ h.back) (h.back ++ w) (w ++ h.back) b.requests.waiting refl (sym h.waiting_is) (IsPermutation-append_comm w h.back);
        ended_by_restart = λ no. refl;
        lost_is_told = tt;
        lost_grows = h.lost_grows;
        back_once = λ number. let once = came_once a.requests.asked b.requests.asked h.back number h.came in omega (arith, once);
        in_order = λ back ends lost. append-nil w ∙ sym (h.waiting_is ∙ ap (λ l. l ++ w) back);
      }

  fate_told : (number : ℕ) (body : B) (q n : Queue B) → WaitsOrIsLost number (behind (request number body) q) q n → EachHasOneFate (request number body ∷ []) [] false q n
  fate_told number body q n is =
      let r = request number body in
      ⊎_elim
      (λ (waits : n ≡ behind r q).
      subst (λ (z : Queue B). EachHasOneFate (r ∷ []) [] false q z) (sym waits)
      (record {
        back = [];
        ended = [];
        lost = [];
        once = IsPermutation-refl (q.waiting ++ r ∷ []);
        ended_by_restart = λ no. refl;
        lost_is_told = tt;
        lost_grows = omega arith;
        back_once = λ number. omega arith;
        in_order = λ back ends lost. refl;
      }))
      (λ (lost : n ≡ lose number q).
      subst (λ (z : Queue B). EachHasOneFate (r ∷ []) [] false q z) (sym lost)
      (record {
        back = [];
        ended = [];
        lost = r ∷ [];
        once = IsPermutation-to_front q.waiting r;
        ended_by_restart = λ no. refl;
        lost_is_told = (omega arith, tt);
        lost_grows = omega arith;
        back_once = λ number. omega arith;
        in_order = λ back ends none. absurd (cc none);
      })) is

  fate_ended : (q n : Queue B) → n ≡ ended q → EachHasOneFate [] [] true q n
  fate_ended q n is =
      subst (λ (z : Queue B). EachHasOneFate [] [] true q z) (sym is)
      (record {
        back = [];
        ended = q.waiting;
        lost = [];
        once = moved q.waiting q.waiting (q.waiting ++ []) ((q.waiting ++ []) ++ []) (append-nil q.waiting)
            (sym (append-nil (q.waiting ++ []) ∙ append-nil q.waiting)) (IsPermutation-refl q.waiting);
        ended_by_restart = λ no. absurd (cc no);
        lost_is_told = tt;
        lost_grows = omega arith;
        back_once = λ number. omega arith;
        in_order = λ back ends lost. append-nil q.waiting ∙ ends;
      })

  -- several of the first that wait were asked
  fate_front : (asked : List (Request B)) (term : ℕ) (q n : Queue B) → q.waiting ≡ asked ++ n.waiting → n.asked ≡ last_asked term asked q.asked → q.lost ≤ n.lost
      → EachHasOneFate [] asked false q n
  fate_front asked term q n is last grows =
      record {
        back = [];
        ended = [];
        lost = [];
        once = moved q.waiting q.waiting (q.waiting ++ []) ((asked ++ []) ++ n.waiting) (append-nil q.waiting) (is ∙ ap (λ l. l ++ n.waiting) (sym (append-nil asked)))
            (IsPermutation-refl q.waiting);
        ended_by_restart = λ no. refl;
        lost_is_told = tt;
        lost_grows = grows;
        back_once = λ number.
            let now = ap (may_come number) last in
            let once = last_once term asked q.asked number in
            omega (arith, now, once);
        in_order = λ back ends lost. append-nil q.waiting ∙ is;
      }

  pub fate_together : (term : ℕ) (a b : Account B) → AsksFront term a b → EachHasOneFate [] (take batch_limit a.requests.waiting) false a.requests b.requests
  fate_together term a b h =
      let w = a.requests.waiting in
      fate_front (take batch_limit w) term a.requests b.requests (sym (take-append-drop batch_limit w) ∙ ap (λ l. take batch_limit w ++ l) (sym h.waiting_is)) h.asked_is h.lost_grows

  -- the first was asked, and then some came back
  pub fate_first : (term : ℕ) (a b : Account B) (body : B) (left : Queue B) → (h : HasAsked term a.requests (Some body) left) → HaveComeBack (record a { requests = left }) b
      → EachHasOneFate [] (request h.0 body ∷ []) false a.requests b.requests
  fate_first term a b body left h back =
      let r = request h.0 body in
      let one = fate_front (r ∷ []) term a.requests left h.1 (ap (λ (z : Queue B). z.asked) h.2) (lost_by_asking term a.requests body left h) in
      fates_both [] (r ∷ []) [] [] false false a.requests left b.requests one (fate_back (record a { requests = left }) b back)

  -- by its number
  pub counted_fate : (told asked : List (Request B)) (restarted : Bool) (q n : Queue B) (h : EachHasOneFate told asked restarted q n) (number : ℕ)
      → IsCounted told asked q n h.back h.ended h.lost number
  counted_fate told asked restarted q n h number =
      let f = λ (r : Request B). if nat_eq r.note number then 1 else 0 in
      let all = sum_by-IsPermutation f (q.waiting ++ (told ++ h.back)) ((asked ++ (h.ended ++ h.lost)) ++ n.waiting) h.once in
      let one = sum_by-append f q.waiting (told ++ h.back) in
      let two = sum_by-append f told h.back in
      let three = sum_by-append f (asked ++ (h.ended ++ h.lost)) n.waiting in
      let four = sum_by-append f asked (h.ended ++ h.lost) in
      let five = sum_by-append f h.ended h.lost in
      (omega (arith, all, one, two, three, four, five), h.back_once number)

module _ {M A L T P S C E : Type 0} where
  abbrev IsFated : Job M A L T P S C E → Account C → Account C → Type 0
  IsFated j a b = EachHasOneFate (request_by (counted_by j a.done) j) [] (is_restart j) a.requests b.requests × (b.done ≡ counted_by j a.done)

  -- by a job that is heeded
  fate_by : (j : Job M A L T P S C E) (a b : Account C) → HeedsUnless (is_end j) j a b → IsFated j a b
  fate_by (job.Note (note.Timeout contacts)) a b h = (fate_back (counted true a) b h, h.done_is)
  fate_by (job.Note note.Beat) a b h = (fate_back (counted true a) b h, h.done_is)
  fate_by (job.Note (note.Ask body)) a b h = (fate_told (counted true a).done body a.requests b.requests h.1, h.0)
  fate_by (job.Note note.Opened) a b h = (fate_back (counted true a) b h, h.done_is)
  fate_by (job.Note note.Closed) a b h = (fate_back (counted true a) b h, h.done_is)
  fate_by (job.Note (note.Heard at line)) a b h = (fate_back (counted true a) b h, h.done_is)
  fate_by (job.Note note.Claim) a b h = (fate_back (counted true a) b h, h.done_is)
  fate_by (job.Note note.Wake) a b h = (fate_back (counted false a) b h, h.done_is)
  fate_by (job.Note note.Restart) a b h = (fate_ended a.requests b.requests (ap (λ (z : Account C). z.requests) h), ap (λ (z : Account C). z.done) h)
  fate_by (job.Note note.End) a b h = (fate_none a.requests b.requests (ap (λ (z : Account C). z.requests) h), ap (λ (z : Account C). z.done) h)
  fate_by (job.Look place target reply) a b h = (fate_back (counted false a) b h, h.done_is)
  fate_by (job.Mark reply) a b h = (fate_back (counted false a) b h, h.done_is)
  fate_by (job.LookAfter number target reply) a b h = (fate_back (counted false a) b h, h.done_is)
  fate_by (job.Restart reply) a b h = (fate_ended a.requests b.requests (ap (λ (z : Account C). z.requests) h), ap (λ (z : Account C). z.done) h)
  fate_by (job.Status reply) a b h = (fate_back (counted false a) b h, h.done_is)

  pub counted_heeding : (js : List (Job M A L T P S C E)) (a b : Account C) → Heeds js a b → b.done ≡ counted_by_all js a.done
  counted_heeding [] a b h = ap (λ (z : Account C). z.done) h
  counted_heeding (j ∷ js) a b h = counted_heeding js h.0 b h.2 ∙ ap (counted_by_all js) (fate_by j a h.0 h.1).1

  -- by jobs that are heeded
  pub fates_by : (js : List (Job M A L T P S C E)) (a b : Account C) → Heeds js a b → EachHasOneFate (requests_by a.done js) [] (list_any is_restart js) a.requests b.requests
  fates_by [] a b h = fate_none a.requests b.requests (ap (λ (z : Account C). z.requests) h)
  fates_by (j ∷ js) a b h =
      let m = h.0 in
      let one = fate_by j a m h.1 in
      let rest = subst (λ (n : ℕ). EachHasOneFate (requests_by n js) [] (list_any is_restart js) m.requests b.requests) one.1 (fates_by js m b h.2) in
      fates_both (request_by (counted_by j a.done) j) [] (requests_by (counted_by j a.done) js) [] (is_restart j) (list_any is_restart js) a.requests m.requests b.requests one.0 rest

  -- the requests of some jobs, and of those after them
  pub requests_both : (js ks : List (Job M A L T P S C E)) (n : ℕ) → requests_by n (js ++ ks) ≡ requests_by n js ++ requests_by (counted_by_all js n) ks
  requests_both [] ks n = refl
  requests_both (j ∷ js) ks n =
      let m = counted_by j n in
      ap (λ l. request_by m j ++ l) (requests_both js ks m) ∙ sym (append_assoc (request_by m j) (requests_by m js) (requests_by (counted_by_all js m) ks))

  pub counted_both : (js ks : List (Job M A L T P S C E)) (n : ℕ) → counted_by_all (js ++ ks) n ≡ counted_by_all ks (counted_by_all js n)
  counted_both [] ks n = refl
  counted_both (j ∷ js) ks n = counted_both js ks (counted_by j n)
