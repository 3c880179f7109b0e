-- No key differs exactly if a store has a setup and this many nodes.
use Rattle.std.proofs.Common.{◌≡◌, ℕ, Bool, true, false, not, ◌==◌, ◌&&◌, List, [], ◌∷◌, refl, ap, subst, ◌∙◌, arith}
use Rattle.std.specs.Prelude.{filter, cond}
use Rattle.irc_line.specs.Names.{same_bytes}
use Rattle.irc_line.proofs.Booleans.{and_left, and_right}
use Rattle.irc_line.proofs.SameBytes.{same_bytes-eq, same_bytes-refl}
use Rattle.buffer_commands.specs.Settings.{Settings}
use Rattle.bouncer_config.specs.declared.key.Key.{Key}
use Rattle.store_setup.specs.declared.store_setup.StoreSetup.{StoreSetup}
use Rattle.store_setup.specs.Changes.{IsOf, changed_keys, compared, differs, is_other, same_names}

same_names-eq : (ms ns : List (List ℕ)) → same_names ms ns ≡ true → ms ≡ ns
same_names-eq [] [] h = refl
same_names-eq [] (n ∷ ns) h = absurd cc
same_names-eq (m ∷ ms) [] h = absurd cc
same_names-eq (m ∷ ms) (n ∷ ns) h =
    ap (λ (x : List ℕ). x ∷ ms) (same_bytes-eq m n (and_left (same_bytes m n) (same_names ms ns) h))
    ∙ ap (λ (xs : List (List ℕ)). n ∷ xs) (same_names-eq ms ns (and_right (same_bytes m n) (same_names ms ns) h))

both_true : (a b : Bool) → a ≡ true → b ≡ true → (a && b) ≡ true
both_true a b h k = rw (h, k) refl

same_names-refl : (ms : List (List ℕ)) → same_names ms ms ≡ true
same_names-refl [] = refl
same_names-refl (m ∷ ms) = both_true (same_bytes m m) (same_names ms ms) (same_bytes-refl m) (same_names-refl ms)

not_false : (b : Bool) → not b ≡ false → b ≡ true
not_false true h = refl
not_false false h = absurd cc

not_true : (b : Bool) → b ≡ true → not b ≡ false
not_true b h = rw h refl

other-eq : (a b : Bool) → is_other a b ≡ false → a ≡ b
other-eq true true h = refl
other-eq true false h = absurd cc
other-eq false true h = absurd cc
other-eq false false h = refl

other-refl : (a : Bool) → is_other a a ≡ false
other-refl true = refl
other-refl false = refl

number_eq : (a b : ℕ) → not (a == b) ≡ false → a ≡ b
number_eq a b h = grind (arith, not_false (a == b) h)

number-refl : (a : ℕ) → not (a == a) ≡ false
number-refl a = not_true (a == a) (grind arith)

-- the first of these passes no test, and neither do the others
none_passes_by : (b : Bool) (k : Key) (ks : List Key) → cond b (k ∷ ks) ks ≡ [] → (b ≡ false) × (ks ≡ [])
none_passes_by true k ks h = absurd cc
none_passes_by false k ks h = (refl, h)

none_passes : (test : Key → Bool) (k : Key) (ks : List Key) → filter test (k ∷ ks) ≡ [] → (test k ≡ false) × (filter test ks ≡ [])
none_passes test k ks h = none_passes_by (test k) k (filter test ks) h

none_left : (test : Key → Bool) (k : Key) (ks : List Key) → test k ≡ false → filter test ks ≡ [] → filter test (k ∷ ks) ≡ []
none_left test k ks h rest = ap (λ (b : Bool). cond b (k ∷ filter test ks) (filter test ks)) h ∙ rest

-- each of these fails the test
abbrev NoneOf : (Key → Bool) → List Key → Type 0
NoneOf test [] = Unit {0}
NoneOf test (k ∷ ks) = (test k ≡ false) × NoneOf test ks

none_of : (test : Key → Bool) (ks : List Key) → filter test ks ≡ [] → NoneOf test ks
none_of test [] h = tt
none_of test (k ∷ ks) h = let p = none_passes test k ks h in (p.0, none_of test ks p.1)

of_none : (test : Key → Bool) (ks : List Key) → NoneOf test ks → filter test ks ≡ []
of_none test [] h = refl
of_none test (k ∷ ks) h = none_left test k ks h.0 (of_none test ks h.1)

-- settings of these parts
abbrev made : (nick : List ℕ) (channels : List (List ℕ)) (channel_size query_size most_queries : ℕ) (clears_channels clears_queries many_clients : Bool) (offset : ℕ) → Settings
made nick channels channel_size query_size most_queries clears_channels clears_queries many_clients offset =
    record {
      nick = nick;
      channels = channels;
      channel_size = channel_size;
      query_size = query_size;
      most_queries = most_queries;
      clears_channels = clears_channels;
      clears_queries = clears_queries;
      many_clients = many_clients;
      offset = offset;
    }

same_settings : (a b : Settings) → a.nick ≡ b.nick → a.channels ≡ b.channels → a.channel_size ≡ b.channel_size → a.query_size ≡ b.query_size → a.most_queries ≡ b.most_queries
    → a.clears_channels ≡ b.clears_channels → a.clears_queries ≡ b.clears_queries → a.many_clients ≡ b.many_clients → a.offset ≡ b.offset → a ≡ b
same_settings a b n c cs qs mq cc cq mc o =
    ap (λ (x : List ℕ). made x a.channels a.channel_size a.query_size a.most_queries a.clears_channels a.clears_queries a.many_clients a.offset) n
    ∙ (ap (λ (x : List (List ℕ)). made b.nick x a.channel_size a.query_size a.most_queries a.clears_channels a.clears_queries a.many_clients a.offset) c
    ∙ (ap (λ (x : ℕ). made b.nick b.channels x a.query_size a.most_queries a.clears_channels a.clears_queries a.many_clients a.offset) cs
    ∙ (ap (λ (x : ℕ). made b.nick b.channels b.channel_size x a.most_queries a.clears_channels a.clears_queries a.many_clients a.offset) qs
    ∙ (ap (λ (x : ℕ). made b.nick b.channels b.channel_size b.query_size x a.clears_channels a.clears_queries a.many_clients a.offset) mq
    ∙ (ap (λ (x : Bool). made b.nick b.channels b.channel_size b.query_size b.most_queries x a.clears_queries a.many_clients a.offset) cc
    ∙ (ap (λ (x : Bool). made b.nick b.channels b.channel_size b.query_size b.most_queries b.clears_channels x a.many_clients a.offset) cq
    ∙ (ap (λ (x : Bool). made b.nick b.channels b.channel_size b.query_size b.most_queries b.clears_channels b.clears_queries x a.offset) mc
    ∙ ap (λ (x : ℕ). made b.nick b.channels b.channel_size b.query_size b.most_queries b.clears_channels b.clears_queries b.many_clients x) o)))))))

-- if no key differs, the store has the setup and this many nodes
pub none_differs : (store : StoreSetup) (s : Settings) (nodes : ℕ) → changed_keys store s nodes ≡ [] → IsOf store s nodes
none_differs store s nodes h =
    let n = none_of (differs store s nodes) compared h in (
      same_settings store.setup s
          (same_bytes-eq store.setup.nick s.nick (not_false _ n.0))
          (same_names-eq store.setup.channels s.channels (not_false _ n.1.1.0))
          (number_eq store.setup.channel_size s.channel_size n.1.1.1.0)
          (number_eq store.setup.query_size s.query_size n.1.1.1.1.0)
          (number_eq store.setup.most_queries s.most_queries n.1.1.1.1.1.0)
          (other-eq store.setup.clears_channels s.clears_channels n.1.1.1.1.1.1.1.0)
          (other-eq store.setup.clears_queries s.clears_queries n.1.1.1.1.1.1.1.1.0)
          (other-eq store.setup.many_clients s.many_clients n.1.1.1.1.1.1.1.1.1.0)
          (number_eq store.setup.offset s.offset n.1.1.1.1.1.1.0),
      number_eq store.nodes nodes n.1.0,
    )

none_of_itself : (store : StoreSetup) → changed_keys store store.setup store.nodes ≡ []
none_of_itself store =
    of_none (differs store store.setup store.nodes) compared (
      not_true _ (same_bytes-refl store.setup.nick),
      (
        number-refl store.nodes,
        (
          not_true _ (same_names-refl store.setup.channels),
          (
            number-refl store.setup.channel_size,
            (
              number-refl store.setup.query_size,
              (
                number-refl store.setup.most_queries,
                (
                  number-refl store.setup.offset,
                  (
                    other-refl store.setup.clears_channels,
                    (
                      other-refl store.setup.clears_queries,
                      (
                        other-refl store.setup.many_clients,
                        tt,
                      ),
                    ),
                  ),
                ),
              ),
            ),
          ),
        ),
      ),
    )

-- and conversely
pub none_differs_where_same : (store : StoreSetup) (s : Settings) (nodes : ℕ) → IsOf store s nodes → changed_keys store s nodes ≡ []
none_differs_where_same store s nodes h =
    subst (λ (t : Settings). changed_keys store t nodes ≡ []) h.0 (subst (λ (n : ℕ). changed_keys store store.setup n ≡ []) h.1 (none_of_itself store))
