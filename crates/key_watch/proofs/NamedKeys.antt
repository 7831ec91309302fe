-- Keys with given numbers, in a table that grows.
use Rattle.std.proofs.Common.{◌≡◌, ℕ, zero, suc, ◌<◌, ◌≤◌, Bool, true, false, true≢false, nat_eq, eq-eqb, eqb-true, ◌||◌, ◌&&◌, List, [], ◌∷◌, ◌++◌, length, map, take, slice_get, IfOk, OnErr, OnOk, Option, Some, None, Result, Ok, Err, option_map, refl, sym, ap, ap₂, subst, ◌∙◌, inl, inr, append_assoc, arith}
use Rattle.std.proofs.lemmas.List.{append-nil}
use Rattle.std.proofs.lemmas.Option.{slice_get_within}
use Rattle.mg_word.specs.OrderLaws.{lits_equal}
use Rattle.mg_word.specs.Sets.{same_lit}
use Rattle.mg_word.specs.declared.lit.Lit.{Lit}
use Rattle.mg_word.proofs.Members.{and_true, both_true, or_true, same_tests}
use Rattle.key_watch.specs.declared.key.Key.{Key}
use Rattle.key_watch.specs.declared.key.Side.{Side}
use Rattle.key_watch.specs.declared.key.Side.TheVariants.{Barred, Held}
use Rattle.key_watch.specs.declared.owner.Owner.{Owner}
use Rattle.key_watch.specs.KeyNumbers.{AreDifferent, AreKnown, Grows, IsNumbered, cons_key, keys_named, set_named, watched_by}
use Rattle.key_watch.specs.Keys.{IsLeast, Watched, key_on, same_key, same_side}
use Rattle.key_watch.specs.Owned.{IsLeastOwner, Owned, has, stands}
use Rattle.key_watch.specs.Owners.{owner_lt}
use Rattle.key_watch.specs.Watching.{Has, WatchedNumbers}
use Rattle.key_watch.proofs.Membership.{get_last, get_left, get_more, has_more, same_some, there_has}

-- ---- one key

side_itself : (side : Side) → same_side side side ≡ true
side_itself Held = refl
side_itself Barred = refl

side_same : (a b : Side) → same_side a b ≡ true → a ≡ b
side_same Held Held e = refl
side_same Held Barred e = absurd (true≢false (sym e))
side_same Barred Held e = absurd (true≢false (sym e))
side_same Barred Barred e = refl

pub key_itself : (key : Key) → same_key key key ≡ true
key_itself key = and_true (same_side key.side key.side) (same_lit key.lit key.lit) (side_itself key.side) ((lits_equal key.lit key.lit).1 refl)

pub key_same : (a b : Key) → same_key a b ≡ true → a ≡ b
key_same a b e =
    let both = both_true (same_side a.side b.side) (same_lit a.lit b.lit) e in
    let sides = side_same a.side b.side both.0 in
    let lits = (lits_equal a.lit b.lit).0 both.1 in
    λ i. record { side = sides i; lit = lits i }

-- ---- several

head_known : (keys : List Key) (number : ℕ) (numbers : List ℕ) → AreKnown keys (number ∷ numbers) → number < length keys
head_known keys number numbers known = known number (there_has (number ∷ numbers) 0 number refl)

tail_known : (keys : List Key) (number : ℕ) (numbers : List ℕ) → AreKnown keys (number ∷ numbers) → AreKnown keys numbers
tail_known keys number numbers known one there = known one (or_true (nat_eq number one) (has nat_eq numbers one) (inr there))

get_known : (keys : List Key) (number : ℕ) → number < length keys → (key : Key) × (slice_get keys number ≡ Some key)
get_known [] number small = absurd (omega (arith, small))
get_known (key ∷ keys) zero small = (key, refl)
get_known (key ∷ keys) (suc number) small = get_known keys number (omega (arith, small))

pub named_more : (keys : List Key) (front back : List ℕ) → keys_named keys (front ++ back) ≡ keys_named keys front ++ keys_named keys back
named_more keys [] back = refl
named_more keys (number ∷ front) back = by (slice_get keys number) (named_more keys front back)
  where
    by : (key : Option Key) → keys_named keys (front ++ back) ≡ keys_named keys front ++ keys_named keys back → cons_key key (keys_named keys (front ++ back)) ≡ cons_key key (keys_named keys front) ++ keys_named keys back
    by None e = e
    by (Some key) e = ap (λ ks. key ∷ ks) e

pub named_one : (keys : List Key) (number : ℕ) (key : Key) → slice_get keys number ≡ Some key → keys_named keys (number ∷ []) ≡ key ∷ []
named_one keys number key e = ap (λ one. cons_key one []) e

pub named_grown : (keys more : List Key) (numbers : List ℕ) → AreKnown keys numbers → keys_named (keys ++ more) numbers ≡ keys_named keys numbers
named_grown keys more [] known = refl
named_grown keys more (number ∷ numbers) known =
    let (key, is) = get_known keys number (head_known keys number numbers known) in
    ap₂ cons_key (get_left keys more number key is ∙ sym is) (named_grown keys more numbers (tail_known keys number numbers known))

pub named_length : (keys : List Key) (numbers : List ℕ) → AreKnown keys numbers → length (keys_named keys numbers) ≡ length numbers
named_length keys [] known = refl
named_length keys (number ∷ numbers) known =
    let (key, is) = get_known keys number (head_known keys number numbers known) in
    ap (λ one. length (cons_key one (keys_named keys numbers))) is ∙ ap suc (named_length keys numbers (tail_known keys number numbers known))

pub named_taken : (keys : List Key) (count : ℕ) (numbers : List ℕ) → AreKnown keys numbers → keys_named keys (take count numbers) ≡ take count (keys_named keys numbers)
named_taken keys zero numbers known = refl
named_taken keys (suc count) [] known = refl
named_taken keys (suc count) (number ∷ numbers) known =
    let (key, is) = get_known keys number (head_known keys number numbers known) in
    ap (λ one. cons_key one (keys_named keys (take count numbers))) is
    ∙ (ap (λ ks. key ∷ ks) (named_taken keys count numbers (tail_known keys number numbers known)) ∙ sym (ap (λ one. take (suc count) (cons_key one (keys_named keys numbers))) is))

taken_has : (count : ℕ) (numbers : List ℕ) (number : ℕ) → Has (take count numbers) number → Has numbers number
taken_has zero numbers number bad = absurd (true≢false (sym bad))
taken_has (suc count) [] number bad = bad
taken_has (suc count) (one ∷ numbers) number e = by (nat_eq one number) e (taken_has count numbers number)
  where
    by : (here : Bool) → (here || has nat_eq (take count numbers) number) ≡ true → (Has (take count numbers) number → Has numbers number) → (here || has nat_eq numbers number) ≡ true
    by true e more = refl
    by false e more = more e

pub taken_known : (keys : List Key) (count : ℕ) (numbers : List ℕ) → AreKnown keys numbers → AreKnown keys (take count numbers)
taken_known keys count numbers known number there = known number (taken_has count numbers number there)

-- ---- sets that stand

module _ (keys : List Key) (different : AreDifferent keys) where
  one_same : (a b : ℕ) (key other : Key) → slice_get keys a ≡ Some key → slice_get keys b ≡ Some other → same_key key other ≡ nat_eq a b
  one_same a b key other a_is b_is =
      same_tests (same_key key other) (nat_eq a b) (λ e. eq-eqb a b (different a b other (a_is ∙ ap Some (key_same key other e)) b_is))
      (λ e. subst (λ one. same_key key one ≡ true) (same_some key other (sym a_is ∙ (ap (slice_get keys) (eqb-true a b e) ∙ b_is))) (key_itself key))

  named_has : (numbers : List ℕ) → AreKnown keys numbers → (number : ℕ) (key : Key) → slice_get keys number ≡ Some key → has same_key (keys_named keys numbers) key ≡ has nat_eq numbers number
  named_has [] known number key is = refl
  named_has (first ∷ numbers) known number key is =
      let (own, own_is) = get_known keys first (head_known keys first numbers known) in
      ap (λ one. has same_key (cons_key one (keys_named keys numbers)) key) own_is
      ∙ ap₂ (λ a b. a || b) (one_same first number own key own_is is) (named_has numbers (tail_known keys first numbers known) number key is)

  pub named_stands : (path : List ℕ) → AreKnown keys path → (set : Owned ℕ) → AreKnown keys set.keys → stands same_key (keys_named keys path) (set_named keys set) ≡ stands nat_eq path set
  named_stands path path_known set known = by set.keys known
    where
      by : (numbers : List ℕ) → AreKnown keys numbers → stands same_key (keys_named keys path) (record { keys = keys_named keys numbers; owner = set.owner }) ≡ stands nat_eq path (record { keys = numbers; owner = set.owner })
      by [] known = refl
      by (first ∷ numbers) known =
          let (own, own_is) = get_known keys first (head_known keys first numbers known) in
          ap (λ one. stands same_key (keys_named keys path) (record { keys = cons_key one (keys_named keys numbers); owner = set.owner })) own_is
          ∙ ap₂ (λ a b. a && b) (named_has path path_known first own own_is) (by numbers (tail_known keys first numbers known))

get_map : {X Y : Type 0} (f : X → Y) (xs : List X) (k : ℕ) → slice_get (map f xs) k ≡ option_map f (slice_get xs k)
get_map f [] k = refl
get_map f (x ∷ xs) zero = refl
get_map f (x ∷ xs) (suc k) = get_map f xs k

mapped : {X Y : Type 0} (f : X → Y) (xs : List X) (k : ℕ) (y : Y) → slice_get (map f xs) k ≡ Some y → (x : X) × (slice_get xs k ≡ Some x) × (f x ≡ y)
mapped {X} f xs k y e = by (slice_get xs k) refl (sym (get_map f xs k) ∙ e)
  where
    by : (one : Option X) → slice_get xs k ≡ one → option_map f one ≡ Some y → (x : X) × (slice_get xs k ≡ Some x) × (f x ≡ y)
    by None is e = let bad : ⊥ = cc in absurd bad
    by (Some x) is e = (x, is, same_some (f x) y e)

pub named_least : (keys : List Key) (watched : WatchedNumbers) → IsNumbered keys watched → (least : Option Owner) → IsLeastOwner ℕ nat_eq watched.path watched.sets least → IsLeast (watched_by keys watched) least
named_least keys watched numbered None none = λ place set is.
    let (one, one_is, same) = mapped (set_named keys) watched.sets place set is in
    subst (λ s. stands same_key (keys_named keys watched.path) s ≡ false) same (named_stands keys numbered.different watched.path numbered.path one (numbered.sets place one one_is) ∙ none place one one_is)
named_least keys watched numbered (Some owner) least = (
  record {
    place = least.0.place;
    set = set_named keys least.0.set;
    is = get_map (set_named keys) watched.sets least.0.place ∙ ap (option_map (set_named keys)) least.0.is;
    stands = named_stands keys numbered.different watched.path numbered.path least.0.set (numbered.sets least.0.place least.0.set least.0.is) ∙ least.0.stands;
    owned = least.0.owned;
  },
  λ place set is e.
      let (one, one_is, same) = mapped (set_named keys) watched.sets place set is in
      subst (λ (s : Owned Key). owner_lt s.owner owner ≡ false) same
      (least.1 place one one_is (sym (named_stands keys numbered.different watched.path numbered.path one (numbered.sets place one one_is)) ∙ (ap (stands same_key (keys_named keys watched.path)) same ∙ e))),
)

-- ---- a table that grows

sets_grown : (keys more : List Key) (sets : List (Owned ℕ)) → ((place : ℕ) (set : Owned ℕ) → slice_get sets place ≡ Some set → AreKnown keys set.keys) → map (set_named (keys ++ more)) sets ≡ map (set_named keys) sets
sets_grown keys more [] known = refl
sets_grown keys more (set ∷ sets) known =
    ap₂ (λ one rest. one ∷ rest) (ap (λ ks. record { keys = ks; owner = set.owner }) (named_grown keys more set.keys (known 0 set refl))) (sets_grown keys more sets (λ place one is. known (suc place) one is))

grown_length : (keys more : List Key) → length keys ≤ length (keys ++ more)
grown_length [] more = omega arith
grown_length (key ∷ keys) more = let rest = grown_length keys more in omega (arith, rest)

pub known_grown : (keys keys' : List Key) → Grows keys keys' → (numbers : List ℕ) → AreKnown keys numbers → AreKnown keys' numbers
known_grown keys keys' grows numbers known number there =
    let small = known number there in
    let long = grown_length keys grows.more in
    subst (λ ks. number < length ks) (sym grows.is) (omega (arith, small, long))

pub named_grows : (keys keys' : List Key) → Grows keys keys' → (numbers : List ℕ) → AreKnown keys numbers → keys_named keys' numbers ≡ keys_named keys numbers
named_grows keys keys' grows numbers known = ap (λ ks. keys_named ks numbers) grows.is ∙ named_grown keys grows.more numbers known

-- the sets and the path are the same
pub watched_grown : (keys keys' : List Key) → Grows keys keys' → (watched watched' : WatchedNumbers) → IsNumbered keys watched → watched' ≡ record watched { keys = watched'.keys } → watched_by keys' watched' ≡ watched_by keys watched
watched_grown keys keys' grows watched watched' numbered same =
    ap (watched_by keys') same
    ∙ (ap (λ ks. watched_by ks watched) grows.is
    ∙ ap₂ (λ sets path. record { sets = sets; path = path }) (sets_grown keys grows.more watched.sets numbered.sets) (named_grown keys grows.more watched.path numbered.path))

pub numbered_grown : (keys keys' : List Key) → Grows keys keys' → AreDifferent keys' → (watched watched' : WatchedNumbers) → IsNumbered keys watched → watched' ≡ record watched { keys = watched'.keys } → length keys' ≤ watched'.keys → IsNumbered keys' watched'
numbered_grown keys keys' grows different watched watched' numbered same room = record {
  different = different;
  room = room;
  path = subst (AreKnown keys') (sym (ap (λ (one : WatchedNumbers). one.path) same)) (known_grown keys keys' grows watched.path numbered.path);
  sets = λ place set is. known_grown keys keys' grows set.keys (numbered.sets place set (ap (λ (one : WatchedNumbers). slice_get one.sets place) (sym same) ∙ is));
}

-- ---- answers

pub err_anyway : {X E : Type 0} (answer : Result X E) (P : Type 0) → P → OnErr answer P
err_anyway (Ok x) P p = tt
err_anyway (Err e) P p = p

pub ok_then : {X E : Type 0} (answer : Result X E) (P Q : Type 0) → OnOk answer P → (P → Q) → OnOk answer Q
ok_then (Ok x) P Q p f = f p
ok_then (Err e) P Q p f = tt

pub err_then : {X E : Type 0} (answer : Result X E) (P Q : Type 0) → OnErr answer P → (P → Q) → OnErr answer Q
err_then (Ok x) P Q p f = tt
err_then (Err e) P Q p f = f p

pub either_then : {X E : Type 0} (answer : Result X E) (P Q G : Type 0) → OnOk answer P → OnErr answer Q → (P → G) → (Q → G) → G
either_then (Ok x) P Q G p q f g = f p
either_then (Err e) P Q G p q f g = g q

pub number_added : {E : Type 0} (keys keys' : List Key) (key : Key) (answer : Result ℕ E) → IfOk answer (λ number. number ≡ length keys) → OnOk answer (keys' ≡ keys ++ key ∷ []) → IfOk answer (λ number. slice_get keys' number ≡ Some key)
number_added keys keys' key (Ok number) at is = ap₂ slice_get is at ∙ get_last keys key
number_added keys keys' key (Err e) at is = tt

pub different_more : (keys : List Key) (key : Key) → AreDifferent keys → ((number : ℕ) → slice_get keys number ≡ Some key → ⊥) → AreDifferent (keys ++ key ∷ [])
different_more keys key different absent i j one i_is j_is = elim (get_more keys key i one i_is) [
  | inl i_old ↦ elim (get_more keys key j one j_is) [
    | inl j_old ↦ different i j one i_old j_old
    | inr (at, same) ↦ absurd (absent i (i_old ∙ ap Some same))
  ]
  | inr (i_at, i_same) ↦ elim (get_more keys key j one j_is) [
    | inl j_old ↦ absurd (absent j (j_old ∙ ap Some i_same))
    | inr (j_at, same) ↦ i_at ∙ sym j_at
  ]
]

-- ---- numbers of several keys

map_more : (side : Side) (lits : List Lit) (lit : Lit) → map (key_on side) (lits ++ lit ∷ []) ≡ map (key_on side) lits ++ key_on side lit ∷ []
map_more side [] lit = refl
map_more side (first ∷ lits) lit = ap (λ rest. key_on side first ∷ rest) (map_more side lits lit)

pub grows_further : (one two three : List Key) → Grows one two → Grows two three → Grows one three
grows_further one two three first second = record { more = first.more ++ second.more; is = second.is ∙ (ap (λ front. front ++ second.more) first.is ∙ append_assoc one first.more second.more) }

-- what holds under way
pub record AreNumbering (side : Side) (lits : List Lit) (table : List Key) (watched : WatchedNumbers) (into : List ℕ) (table' : List Key) (watched' : WatchedNumbers) (into' : List ℕ) : Type 0 where
  pub named : keys_named table' into' ≡ keys_named table into ++ map (key_on side) lits
  pub known : AreKnown table' into'
  pub grows : Grows table table'
  pub different : AreDifferent table'
  pub room : length table' ≤ watched'.keys
  pub same : watched' ≡ record watched { keys = watched'.keys }

pub numbering_begins : (side : Side) (table : List Key) (watched : WatchedNumbers) (into : List ℕ) → AreKnown table into → AreDifferent table → length table ≤ watched.keys → AreNumbering side [] table watched into table watched into
numbering_begins side table watched into known different room = record {
  named = sym (append-nil (keys_named table into));
  known = known;
  grows = record { more = []; is = sym (append-nil table) };
  different = different;
  room = room;
  same = refl;
}

pub numbering_more : (side : Side) (lits : List Lit) (table : List Key) (watched : WatchedNumbers) (into : List ℕ) (table' : List Key) (watched' : WatchedNumbers) (into' : List ℕ) → AreNumbering side lits table watched into table' watched' into'
    → (lit : Lit) (number : ℕ) (table'' : List Key) (watched'' : WatchedNumbers) → slice_get table'' number ≡ Some (key_on side lit) → Grows table' table'' → AreDifferent table'' → length table'' ≤ watched''.keys → watched'' ≡ record watched' { keys = watched''.keys }
    → (into'' : List ℕ) → into'' ≡ into' ++ number ∷ [] → AreNumbering side (lits ++ lit ∷ []) table watched into table'' watched'' into''
numbering_more side lits table watched into table' watched' into' old lit number table'' watched'' is grows different room same into'' pushed = record {
  named = ap (keys_named table'') pushed
      ∙ (named_more table'' into' (number ∷ [])
      ∙ (ap₂ (λ front back. front ++ back) (named_grows table' table'' grows into' old.known ∙ old.named) (named_one table'' number (key_on side lit) is)
      ∙ (append_assoc (keys_named table into) (map (key_on side) lits) (key_on side lit ∷ []) ∙ ap (λ back. keys_named table into ++ back) (sym (map_more side lits lit)))));
  known = λ one there. elim (has_more into' number one (subst (λ ns. Has ns one) pushed there)) [
    | inl older ↦ known_grown table' table'' grows into' old.known one older
    | inr here ↦ subst (λ n. n < length table'') here (slice_get_within table'' number (key_on side lit) is)
  ];
  grows = grows_further table table' table'' old.grows grows;
  different = different;
  room = room;
  same = same ∙ ap (λ (one : WatchedNumbers). record one { keys = watched''.keys }) old.same;
}

-- ---- a path that grows or is cut, and a set more

module _ (keys keys' : List Key) (grows : Grows keys keys') (different : AreDifferent keys') (watched watched' : WatchedNumbers) (numbered : IsNumbered keys watched) (same : watched' ≡ record watched { keys = watched'.keys }) (room : length keys' ≤ watched'.keys) where
  pub numbered_now : IsNumbered keys' watched'
  numbered_now = numbered_grown keys keys' grows different watched watched' numbered same room

  pub seen_now : watched_by keys' watched' ≡ watched_by keys watched
  seen_now = watched_grown keys keys' grows watched watched' numbered same

  module _ (number : ℕ) (key : Key) (is : slice_get keys' number ≡ Some key) (after : WatchedNumbers) (pushed : after ≡ record watched' { path = watched'.path ++ number ∷ [] }) where
    pub push_numbered : IsNumbered keys' after
    push_numbered = subst (IsNumbered keys') (sym pushed) record {
      different = different;
      room = room;
      path = λ one there. elim (has_more watched'.path number one there) [
        | inl old ↦ numbered_now.path one old
        | inr here ↦ subst (λ n. n < length keys') here (slice_get_within keys' number key is)
      ];
      sets = numbered_now.sets;
    }

    pub push_seen : watched_by keys' after ≡ record (watched_by keys watched) { path = (watched_by keys watched).path ++ key ∷ [] }
    push_seen =
        ap (watched_by keys') pushed
        ∙ (ap (λ path. record { sets = map (set_named keys') watched'.sets; path = path }) (named_more keys' watched'.path (number ∷ []) ∙ ap (λ back. keys_named keys' watched'.path ++ back) (named_one keys' number key is))
        ∙ ap (λ (one : Watched). record one { path = one.path ++ key ∷ [] }) seen_now)

  module _ (set : Owned ℕ) (known : AreKnown keys' set.keys) (named : List Key) (is : keys_named keys' set.keys ≡ named) (after : WatchedNumbers) (added : after ≡ record watched' { sets = watched'.sets ++ set ∷ [] }) where
    pub add_numbered : IsNumbered keys' after
    add_numbered = subst (IsNumbered keys') (sym added) record {
      different = different;
      room = room;
      path = numbered_now.path;
      sets = λ place one there. elim (get_more watched'.sets set place one there) [
        | inl old ↦ numbered_now.sets place one old
        | inr (at, here) ↦ subst (λ (s : Owned ℕ). AreKnown keys' s.keys) (sym here) known
      ];
    }

    sets_more : (sets : List (Owned ℕ)) → map (set_named keys') (sets ++ set ∷ []) ≡ map (set_named keys') sets ++ record { keys = named; owner = set.owner } ∷ []
    sets_more [] = ap (λ ks. record { keys = ks; owner = set.owner } ∷ []) is
    sets_more (one ∷ sets) = ap (λ rest. set_named keys' one ∷ rest) (sets_more sets)

    pub add_seen : watched_by keys' after ≡ record (watched_by keys watched) { sets = (watched_by keys watched).sets ++ record { keys = named; owner = set.owner } ∷ [] }
    add_seen =
        ap (watched_by keys') added
        ∙ (ap (λ sets. record { sets = sets; path = keys_named keys' watched'.path }) (sets_more watched'.sets)
        ∙ ap (λ (one : Watched). record one { sets = one.sets ++ record { keys = named; owner = set.owner } ∷ [] }) seen_now)

pub cut_numbered : (keys : List Key) (watched : WatchedNumbers) (count : ℕ) → IsNumbered keys watched → (after : WatchedNumbers) → after ≡ record watched { path = take count watched.path } → IsNumbered keys after
cut_numbered keys watched count numbered after is = subst (IsNumbered keys) (sym is) record {
  different = numbered.different;
  room = numbered.room;
  path = taken_known keys count watched.path numbered.path;
  sets = numbered.sets;
}

pub cut_seen : (keys : List Key) (watched : WatchedNumbers) (count : ℕ) → IsNumbered keys watched → (after : WatchedNumbers) → after ≡ record watched { path = take count watched.path } → watched_by keys after ≡ record (watched_by keys watched) { path = take count (watched_by keys watched).path }
cut_seen keys watched count numbered after is = ap (watched_by keys) is ∙ ap (λ path. record { sets = map (set_named keys) watched.sets; path = path }) (named_taken keys count watched.path numbered.path)
