-- Nodes that are opened, begun and closed one by one, node 1 first.
use Rattle.std.proofs.Common.{◌≡◌, ◌<◌, ℕ, suc, ◌+◌, inl, inr, List, [], ◌∷◌, ◌++◌, length, map, refl, sym, ap, ◌∙◌, subst, arith, append_assoc, append-nil}
use Rattle.raft_node.specs.Parts.{Keeper}
use Rattle.world_views.specs.Views.{View}
use Rattle.ether.specs.Passes.{EtherParts, view_of}
use Rattle.node_cells.specs.declared.record.Recording.{Recording}
use Rattle.node_cells.specs.Cells.{CellParts, CellRoom, view_in}
use Rattle.node_cells.specs.Groups.{ClosingParts, HasClosed, IsNextCell}
use Rattle.node_cells.specs.Unopened.{HasClosedUnopened, IsNextUnopened, UnopenedParts}
use Rattle.node_threads.specs.declared.place.Place.{Place}
use Rattle.node_threads.specs.declared.place.Place.TheVariants.{Open, Late}
use Rattle.node_threads.specs.Joins.{CanJoinAll, JoinsAll}
use Rattle.node_threads.specs.Homes.{AllFrom, ArePaired, HasJoined, Home, IsHome, IsNextHome, IsSameHome, home_of}
use Rattle.node_threads.specs.Places.{HasWorked, IsLeftView, place_home}

module _ {A : Type 0} where
  pub all_snoc : (P : ℕ → A → Type 0) (i : ℕ) (xs : List A) (x : A) (n : ℕ) → n ≡ i + length xs → AllFrom P i xs → P n x → AllFrom P i (xs ++ x ∷ [])
  all_snoc P i [] x n e all last = let is : n ≡ i = omega arith in (subst (λ (m : ℕ). P m x) is last, tt)
  all_snoc P i (y ∷ xs) x n e all last = (all.0, all_snoc P (suc i) xs x n (omega arith) all.1 last)

  all_weaker : (P Q : ℕ → A → Type 0) → ((i : ℕ) (x : A) → P i x → Q i x) → (i : ℕ) (xs : List A) → AllFrom P i xs → AllFrom Q i xs
  all_weaker P Q f i [] all = tt
  all_weaker P Q f i (x ∷ xs) all = (f i x all.0, all_weaker P Q f (suc i) xs all.1)

  map_end : {B : Type 0} (f : A → B) (xs : List A) (x : A) → map f (xs ++ x ∷ []) ≡ map f xs ++ f x ∷ []
  map_end f [] x = refl
  map_end f (y ∷ xs) x = ap (λ l. f y ∷ l) (map_end f xs x)

  pub length_end : (xs : List A) (x : A) → length (xs ++ x ∷ []) ≡ suc (length xs)
  length_end [] x = refl
  length_end (y ∷ xs) x = ap suc (length_end xs x)

module _ {A B : Type 0} (R : A → B → Type 0) where
  -- one more pair
  paired_end : (xs : List A) (ys : List B) (x : A) (y : B) → ArePaired R xs ys → R x y → ArePaired R (xs ++ x ∷ []) (ys ++ y ∷ [])
  paired_end [] [] x y all last = (last, tt)
  paired_end [] (b ∷ ys) x y all last = absurd all
  paired_end (a ∷ xs) [] x y all last = absurd all
  paired_end (a ∷ xs) (b ∷ ys) x y all last = (all.0, paired_end xs ys x y all.1 last)

  -- the pairs of what these items become
  paired_map : {C : Type 0} (f : C → A) (xs : List C) (ys : List B) → ArePaired (λ c y. R (f c) y) xs ys → ArePaired R (map f xs) ys
  paired_map f [] [] all = tt
  paired_map f [] (b ∷ ys) all = absurd all
  paired_map f (a ∷ xs) [] all = absurd all
  paired_map f (a ∷ xs) (b ∷ ys) all = (all.0, paired_map f xs ys all.1)

pub map_twice : {A B C : Type 0} (f : A → B) (h : B → C) (xs : List A) → map h (map f xs) ≡ map (λ x. h (f x)) xs
map_twice f h [] = refl
map_twice f h (x ∷ xs) = ap (λ l. h (f x) ∷ l) (map_twice f h xs)

-- a list of no items
pub none_left : {A : Type 0} (xs : List A) (n : ℕ) → n ≡ length xs → n ≡ 0 → xs ≡ []
none_left [] n long none = refl
none_left (x ∷ xs) n long none = absurd (cc (sym long ∙ none))

module _ {Setup Hosted Store B L T E P U : Type 0} where
  -- a cell that a thread left is closed
  next_cell : (closing : ClosingParts Setup B L T) (c d : CellParts Setup Hosted Store B L T E P U) → IsNextHome closing (home_of c) → IsSameHome c d → IsNextCell closing d
  next_cell closing c d next same =
      record { ether = same.ether ∙ next.home.ether; recording = same.recording ∙ next.home.recording; node = same.view.node ∙ next.home.node; few = next.few }

module _ {Hosted Store U O A L T P Setup B E : Type 0} (k : Keeper Store B) (gives : O → Store → Type 0) (old : ClosingParts Setup B L T) where
  -- the node that a thread left is closed
  pub next_open : (p : Place Hosted Store U O A L T P Setup B E) (d : CellRoom Setup Hosted Store B L T E P U) → IsNextHome old (place_home p) → HasWorked k gives p (Open d) → IsNextCell old d.parts
  next_open (Open c) d next worked = next_cell old c.parts d.parts next worked
  next_open (Late u opener) d next worked =
      let fresh = worked.1.fresh in
      next_cell old worked.0 d.parts
      (record {
        home = record { ether = fresh.ether_is ∙ next.home.ether; recording = fresh.recording_is ∙ next.home.recording; node = ap (λ (v : View B L T). v.node) fresh.view ∙ next.home.node };
        few = next.few;
      }) worked.2

  pub next_late : (p : Place Hosted Store U O A L T P Setup B E) (v : UnopenedParts Setup B L T U) (left : O) → IsNextHome old (place_home p) → HasWorked k gives p (Late v left) → IsNextUnopened old v
  next_late (Open c) v left next worked = absurd worked
  next_late (Late u opener) v left next worked =
      subst (λ (z : UnopenedParts Setup B L T U). IsNextUnopened old z) (sym worked) (record { ether = next.home.ether; node = next.home.node; few = next.few })

  pub joined_open : (p : Place Hosted Store U O A L T P Setup B E) (d : CellRoom Setup Hosted Store B L T E P U) (new : ClosingParts Setup B L T) → HasWorked k gives p (Open d) → HasClosed old d.parts new
      → HasJoined (IsLeftView k gives p) old new
  joined_open (Open c) d new worked closed =
      record { ether = closed.ether; recording = closed.recording; view = view_in d.parts; left = worked.view; views = closed.views }
  joined_open (Late u opener) d new worked closed =
      record { ether = closed.ether; recording = closed.recording; view = view_in d.parts; left = inr (worked.0, worked.1, worked.2.view); views = closed.views }

  pub joined_late : (p : Place Hosted Store U O A L T P Setup B E) (v : UnopenedParts Setup B L T U) (left : O) (new : ClosingParts Setup B L T) → HasWorked k gives p (Late v left) → HasClosedUnopened old v new
      → HasJoined (IsLeftView k gives p) old new
  joined_late (Open c) v left new worked closed = absurd worked
  joined_late (Late u opener) v left new worked closed =
      record {
        ether = closed.ether;
        recording = closed.recording;
        view = view_of v.pass;
        left = inl (ap (λ (z : UnopenedParts Setup B L T U). view_of z.pass) worked);
        views = closed.views;
      }

module _ {Setup B L T A : Type 0} (f : A → Home Setup B L T) (left : A → View B L T → Type 0) where
  abbrev can : ClosingParts Setup B L T → A → Type 0
  can c t = IsNextHome c (f t)

  abbrev step : ClosingParts Setup B L T → A → ClosingParts Setup B L T → Type 0
  step c t d = HasJoined (left t) c d

  -- threads of the nodes from the next one on, as many as are left, may all be joined
  pub may_join : (c : ClosingParts Setup B L T) (ts : List A) → AllFrom (λ i t. IsHome c.ether c.recording i (f t)) (length c.views) ts → length c.views + length ts ≡ c.ether.size
      → CanJoinAll can step c ts
  may_join c [] homes many = tt
  may_join c (t ∷ ts) homes many = (
    record { home = homes.0; few = omega (arith, many) },
    λ d h.
        let long : length d.views ≡ suc (length c.views) = ap (λ (l : List (View B L T)). length l) h.views ∙ length_end c.views h.view in
        let size : d.ether.size ≡ c.ether.size = ap (λ (e : EtherParts Setup). e.size) h.ether in
        may_join d ts (subst (λ (z : (EtherParts Setup × Recording) × ℕ). AllFrom (λ i t. IsHome z.0.0 z.0.1 i (f t)) z.1 ts) (λ k. ((sym h.ether k, sym h.recording k), sym long k)) homes.1)
        (omega (arith, long, many, size)),
  )

  -- what they leave
  pub have_joined : (c : ClosingParts Setup B L T) (ts : List A) (d : ClosingParts Setup B L T) (done : List A) → JoinsAll step c ts d
      → ArePaired left done c.views
      → (d.ether ≡ c.ether) × (d.recording ≡ c.recording) × (length d.views ≡ length c.views + length ts) × ArePaired left (done ++ ts) d.views
  have_joined c [] d done j all = (
    ap (λ (z : ClosingParts Setup B L T). z.ether) j,
    ap (λ (z : ClosingParts Setup B L T). z.recording) j,
    (let long = ap (λ (z : ClosingParts Setup B L T). length z.views) j in omega (arith, long)),
    subst (λ (z : List A × List (View B L T)). ArePaired left z.0 z.1) (λ k. (sym (append-nil done) k, sym (ap (λ (z : ClosingParts Setup B L T). z.views) j) k)) all,
  )
  have_joined c (t ∷ ts) d done j all =
      let b = j.0 in
      let h = j.1 in
      let grown : ArePaired left (done ++ t ∷ []) b.views =
      subst (λ (l : List (View B L T)). ArePaired left (done ++ t ∷ []) l) (sym h.views) (paired_end left done c.views t h.view all h.left) in
      let r = have_joined b ts d (done ++ t ∷ []) j.2 grown in
      let long : length b.views ≡ suc (length c.views) = ap (λ (l : List (View B L T)). length l) h.views ∙ length_end c.views h.view in
      let many = r.2 in (
        r.0 ∙ h.ether,
        r.1 ∙ h.recording,
        omega (arith, long, many),
        subst (λ (l : List A). ArePaired left l d.views) (append_assoc done (t ∷ []) ts) r.3,
      )

  -- if nothing is left yet, and the threads are those of all nodes
  module _ (c : ClosingParts Setup B L T) (ts : List A) (none : c.views ≡ []) (many : length ts ≡ c.ether.size) where
    no_views : length c.views ≡ 0
    no_views = ap (λ (l : List (View B L T)). length l) none

    may_join_all : AllFrom (λ i t. IsHome c.ether c.recording i (f t)) 0 ts → CanJoinAll can step c ts
    may_join_all homes =
        may_join c ts (subst (λ (n : ℕ). AllFrom (λ i t. IsHome c.ether c.recording i (f t)) n ts) (sym no_views) homes) (omega (arith, no_views, many))

    all_have_joined : (d : ClosingParts Setup B L T) → JoinsAll step c ts d
        → (d.ether ≡ c.ether) × (d.recording ≡ c.recording) × (length d.views ≡ d.ether.size) × ArePaired left ts d.views
    all_have_joined d j =
        let r = have_joined c ts d [] j (subst (λ (l : List (View B L T)). ArePaired left [] l) (sym none) tt) in
        let long = r.2 in
        let size = ap (λ (e : EtherParts Setup). e.size) r.0 in
        (r.0, r.1, omega (arith, long, size, no_views, many), r.3)

module _ {Hosted Store U O A L T P Setup B E H : Type 0} (k : Keeper Store B) (gives : O → Store → Type 0) (c : ClosingParts Setup B L T) (ts : List H)
    (place : H → Place Hosted Store U O A L T P Setup B E) (none : c.views ≡ []) (many : length ts ≡ c.ether.size) where
  -- the threads of all nodes may be joined, if nothing is left yet
  pub may_join_places : AllFrom (λ i t. IsHome c.ether c.recording i (place_home (place t))) 0 ts
      → CanJoinAll (λ b t. IsNextHome b (place_home (place t))) (λ b t d. HasJoined (IsLeftView k gives (place t)) b d) c ts
  may_join_places homes = may_join_all (λ t. place_home (place t)) (λ t v. IsLeftView k gives (place t) v) c ts none many homes

  -- what they leave
  pub places_have_joined : (d : ClosingParts Setup B L T) → JoinsAll (λ b t e. HasJoined (IsLeftView k gives (place t)) b e) c ts d
      → (d.ether ≡ c.ether) × (d.recording ≡ c.recording) × (length d.views ≡ d.ether.size) × ArePaired (IsLeftView k gives) (map place ts) d.views
  places_have_joined d j =
      let r = all_have_joined (λ t. place_home (place t)) (λ t v. IsLeftView k gives (place t) v) c ts none many d j in
      (r.0, r.1, r.2, paired_map (IsLeftView k gives) place ts d.views r.3)

-- threads that were joined, and one more
module _ {C H : Type 0} (joins : C → H → C → Type 0) where
  pub joins_end : (c : C) (ts : List H) (d : C) (t : H) (e : C) → JoinsAll joins c ts d → joins d t e → JoinsAll joins c (ts ++ t ∷ []) e
  joins_end c [] d t e j one = (e, subst (λ (z : C). joins z t e) j one, refl)
  joins_end c (x ∷ ts) d t e j one = (j.0, j.1, joins_end j.0 ts d t e j.2 one)

  -- those left of all may be joined, and the others were
  pub record AreJoining (can : C → H → Type 0) (all : List H) (first now : C) (rest : List H) : Type 0 where
    pub may : CanJoinAll can joins now rest
    pub done : List H
    pub whole : done ++ rest ≡ all
    pub were : JoinsAll joins first done now

  pub none_joining : (can : C → H → Type 0) (all : List H) (first : C) → CanJoinAll can joins first all → AreJoining can all first first all
  none_joining can all first may = record { may = may; done = []; whole = refl; were = refl }

  pub one_joining : (can : C → H → Type 0) (all : List H) (first now next : C) (rest rest' : List H) (t : H) → AreJoining can all first now rest → rest ≡ t ∷ rest'
      → joins now t next → AreJoining can all first next rest'
  one_joining can all first now next rest rest' t old is one =
      let o = subst (λ (l : List H). AreJoining can all first now l) is old in
      record {
        may = o.may.1 next one;
        done = o.done ++ t ∷ [];
        whole = append_assoc o.done (t ∷ []) rest' ∙ o.whole;
        were = joins_end first o.done now t next o.were one;
      }

  pub all_joining : (can : C → H → Type 0) (all : List H) (first now : C) (rest : List H) → AreJoining can all first now rest → rest ≡ [] → JoinsAll joins first all now
  all_joining can all first now rest old none =
      let o = subst (λ (l : List H). AreJoining can all first now l) none old in
      subst (λ (l : List H). JoinsAll joins first l now) (sym (append-nil o.done) ∙ o.whole) o.were

module _ {Setup B L T N W A : Type 0} (k : EtherParts Setup) (r : Recording) (home : N → Home Setup B L T) (f : W → N) (h : A → N) where
  -- Some of these workers run in threads, and these are left.
  pub record HaveBegun (all : List W) (threads : List A) (rest : List W) : Type 0 where
    pub running : AllFrom (λ i t. IsHome k r i (home (h t))) 0 threads
    pub waiting : AllFrom (λ i w. IsHome k r i (home (f w))) (length threads) rest
    pub many : length threads + length rest ≡ k.size
    pub whole : map h threads ++ map f rest ≡ map f all

  pub none_begun : (all : List W) (threads : List A) (rest : List W) → AllFrom (λ i w. IsHome k r i (home (f w))) 0 all → length all ≡ k.size → threads ≡ [] → rest ≡ all
      → HaveBegun all threads rest
  none_begun all threads rest homes many none whole =
      subst (λ (z : List A × List W). HaveBegun all z.0 z.1) (λ d. (sym none d, sym whole d)) (record { running = tt; waiting = homes; many = omega (arith, many); whole = refl })

  pub few_begun : (all : List W) (threads : List A) (rest rest' : List W) (w : W) → HaveBegun all threads rest → rest ≡ w ∷ rest' → length threads < k.size
  few_begun all threads rest rest' w old is = let many = (subst (λ (l : List W). HaveBegun all threads l) is old).many in omega (arith, many)

  one_begun : (all : List W) (threads : List A) (rest rest' : List W) (w : W) (t : A) → HaveBegun all threads rest → rest ≡ w ∷ rest' → h t ≡ f w
      → HaveBegun all (threads ++ t ∷ []) rest'
  one_begun all threads rest rest' w t old is same =
      let o = subst (λ (l : List W). HaveBegun all threads l) is old in
      let long = length_end threads t in
      let many = o.many in
      record {
        running = all_snoc (λ i t. IsHome k r i (home (h t))) 0 threads t (length threads) (omega arith) o.running
            (subst (λ (c : N). IsHome k r (length threads) (home c)) (sym same) o.waiting.0);
        waiting = subst (λ (n : ℕ). AllFrom (λ i w. IsHome k r i (home (f w))) n rest') (sym long) o.waiting.1;
        many = omega (arith, long, many);
        whole = ap (λ (l : List N). l ++ map f rest') (map_end h threads t)
            ∙ (append_assoc (map h threads) (h t ∷ []) (map f rest') ∙ (ap (λ (c : N). map h threads ++ c ∷ map f rest') same ∙ o.whole));
      }

  pub next_begun : (all : List W) (threads threads' : List A) (rest rest' : List W) (w : W) (t : A) → HaveBegun all threads rest → rest ≡ w ∷ rest' → h t ≡ f w
      → threads' ≡ threads ++ t ∷ [] → HaveBegun all threads' rest'
  next_begun all threads threads' rest rest' w t old is same more = subst (λ (l : List A). HaveBegun all l rest') (sym more) (one_begun all threads rest rest' w t old is same)

  pub all_begun : (all : List W) (threads : List A) (rest : List W) → HaveBegun all threads rest → rest ≡ []
      → AllFrom (λ i t. IsHome k r i (home (h t))) 0 threads × (length threads ≡ k.size) × (map h threads ≡ map f all)
  all_begun all threads rest old none =
      let o = subst (λ (l : List W). HaveBegun all threads l) none old in
      let many = o.many in
      (o.running, omega (arith, many), sym (append-nil (map h threads)) ∙ o.whole)
