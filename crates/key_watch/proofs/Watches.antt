-- What a watch keeps, where keys come, a path grows or is cut, and sets are added.
use Rattle.std.proofs.Common.{◌≡◌, ◌≢◌, ℕ, zero, suc, ◌+◌, ◌<◌, ◌≤◌, Bool, true, false, true≢false, nat_eq, nat_lt, nat_le, eq-eqb, eqb-true, ◌||◌, List, [], ◌∷◌, ◌++◌, get_or, length, take, slice_get, slice_set, Option, Some, None, is_some, option_map, unwrap_or, refl, sym, ap, ap₂, subst, ◌∙◌, inl, inr, arith, if◌then◌else◌}
use Rattle.std.specs.List.{list_all}
use Rattle.std.proofs.lemmas.Bool.{cases_eq, cases_lt, le-leb, leb-true, le-ltb, lt-ltb, ltb-true, ne_eqb}
use Rattle.std.proofs.lemmas.List.{length-append}
use Rattle.std.proofs.lemmas.Option.{slice_get-get_or, slice_get_past, slice_get_within}
use Rattle.mg_word.proofs.Members.{either_true, never_true}
use Rattle.key_watch.specs.declared.owner.Owner.{Owner}
use Rattle.key_watch.specs.Arriving.{Arrives, IsUpTo}
use Rattle.key_watch.specs.Owned.{IsLeastOwner, IsOwnerOfOne, Owned, has, stands}
use Rattle.key_watch.specs.Owners.{least_with}
use Rattle.key_watch.specs.Watching.{AreLeast, AreLowered, AreWaiting, Has, IsChained, IsWaiting, IsWatching, came, chain_of, has_arrived, is_by, place_on, reached, stands_since}
use Rattle.key_watch.proofs.Comings.{by_itself, front_has, is_before, joined, path_has, place_more, place_within}
use Rattle.key_watch.proofs.Membership.{all_of, each_of, get_last, get_left, get_more, get_set_other, get_set_same, has_last, has_left, has_more, length-slice_set, same_some}
use Rattle.key_watch.proofs.OwnerOrder.{from_either, up_to_before, up_to_further, up_to_more}

-- ---- lists

-- one more of what stands for nothing
pub more_nothing : {X : Type 0} (xs : List X) (none : X) (k : ℕ) → unwrap_or (slice_get (xs ++ none ∷ []) k) none ≡ unwrap_or (slice_get xs k) none
more_nothing [] none zero = refl
more_nothing [] none (suc k) = refl
more_nothing (x ∷ xs) none zero = refl
more_nothing (x ∷ xs) none (suc k) = more_nothing xs none k

take_whole : (count : ℕ) (xs : List ℕ) (x : ℕ) → count ≤ length xs → take count (xs ++ x ∷ []) ≡ take count xs
take_whole zero xs x small = refl
take_whole (suc count) [] x small = absurd (omega (arith, small))
take_whole (suc count) (y ∷ xs) x small = ap (λ ys. y ∷ ys) (take_whole count xs x (omega (arith, small)))

pub take_all : (xs : List ℕ) → take (length xs) xs ≡ xs
take_all [] = refl
take_all (x ∷ xs) = ap (λ ys. x ∷ ys) (take_all xs)

take_past : (count : ℕ) (xs : List ℕ) → length xs ≤ count → take count xs ≡ xs
take_past zero [] past = refl
take_past (suc count) [] past = refl
take_past zero (x ∷ xs) past = absurd (omega (arith, past))
take_past (suc count) (x ∷ xs) past = ap (λ ys. x ∷ ys) (take_past count xs (omega (arith, past)))

get_taken : {X : Type 0} (count k : ℕ) (xs : List X) → k < count → slice_get (take count xs) k ≡ slice_get xs k
get_taken zero k xs small = absurd (omega (arith, small))
get_taken (suc count) k [] small = refl
get_taken (suc count) zero (x ∷ xs) small = refl
get_taken (suc count) (suc k) (x ∷ xs) small = get_taken count k xs (omega (arith, small))

length_taken : {X : Type 0} (count : ℕ) (xs : List X) → count ≤ length xs → length (take count xs) ≡ count
length_taken zero xs small = refl
length_taken (suc count) [] small = absurd (omega (arith, small))
length_taken (suc count) (x ∷ xs) small = ap suc (length_taken count xs (omega (arith, small)))

get_front : {X : Type 0} (xs : List X) (y : X) (k : ℕ) → k < length xs → slice_get (xs ++ y ∷ []) k ≡ slice_get xs k
get_front [] y k small = absurd (omega (arith, small))
get_front (x ∷ xs) y zero small = refl
get_front (x ∷ xs) y (suc k) small = get_front xs y k (omega (arith, small))

get_some : {X : Type 0} (xs : List X) (k : ℕ) → k < length xs → (x : X) × (slice_get xs k ≡ Some x)
get_some [] k small = absurd (omega (arith, small))
get_some (x ∷ xs) zero small = (x, refl)
get_some (x ∷ xs) (suc k) small = get_some xs k (omega (arith, small))

-- ---- which sets stand

stands_same : (path other : List ℕ) (set : Owned ℕ) → ((key : ℕ) → has nat_eq path key ≡ has nat_eq other key) → stands nat_eq path set ≡ true → stands nat_eq other set ≡ true
stands_same path other set same e = all_of (has nat_eq other) set.keys (λ key there. sym (same key) ∙ each_of (has nat_eq path) set.keys e key there)

-- of paths with the same keys
pub least_same : (path other : List ℕ) (sets : List (Owned ℕ)) (least : Option Owner) → ((key : ℕ) → has nat_eq path key ≡ has nat_eq other key) → IsLeastOwner ℕ nat_eq path sets least → IsLeastOwner ℕ nat_eq other sets least
least_same path other sets None same none = λ place set is. never_true (stands nat_eq other set) (λ e. true≢false (sym (stands_same other path set (λ key. sym (same key)) e) ∙ none place set is))
least_same path other sets (Some owner) same least = (
  record { place = least.0.place; set = least.0.set; is = least.0.is; stands = stands_same path other least.0.set same least.0.stands; owned = least.0.owned },
  λ place set is e. least.1 place set is (stands_same other path set (λ key. sym (same key)) e),
)

-- a set that stands has an owner that is no less
pub least_up_to : (path : List ℕ) (sets : List (Owned ℕ)) (least : Option Owner) → IsLeastOwner ℕ nat_eq path sets least → (place : ℕ) (set : Owned ℕ) → slice_get sets place ≡ Some set → stands nat_eq path set ≡ true → IsUpTo least set.owner
least_up_to path sets None none place set is e = true≢false (sym e ∙ none place set is)
least_up_to path sets (Some owner) least place set is e = least.1 place set is e

-- the least, by what it is that of and by what it is up to
pub least_by : (path : List ℕ) (sets : List (Owned ℕ)) (least : Option Owner) → ((owner : Owner) → least ≡ Some owner → IsOwnerOfOne ℕ nat_eq path sets owner)
    → ((place : ℕ) (set : Owned ℕ) → slice_get sets place ≡ Some set → stands nat_eq path set ≡ true → IsUpTo least set.owner) → IsLeastOwner ℕ nat_eq path sets least
least_by path sets None from up_to = λ place set is. never_true (stands nat_eq path set) (λ e. up_to place set is e)
least_by path sets (Some owner) from up_to = (from owner refl, up_to)

-- ---- more keys

module _ (sets : List (Owned ℕ)) (waits : List (Option ℕ)) (chains : List (List ℕ)) (places : List (Option ℕ)) (path : List ℕ) (leasts : List (Option Owner)) (keeps : IsWatching sets waits chains places path leasts) where
  not_there : (key : ℕ) → length chains ≤ key → place_on path key ≡ None
  not_there key past = by (place_on path key) refl
    where
      by : (at : Option ℕ) → place_on path key ≡ at → at ≡ None
      by None e = refl
      by (Some at) e = absurd (let small = keeps.known key (path_has path key ∙ ap is_some e) in omega (arith, small, past))

  pub came_on : (key : ℕ) → came places key ≡ place_on path key
  came_on key = elim (cases_lt key (length places)) [
    | inl inside ↦ ap (λ at. unwrap_or at None) (keeps.placed key inside)
    | inr past ↦ (let size = keeps.sized in ap (λ at. unwrap_or at None) (slice_get_past places key past) ∙ sym (not_there key (omega (arith, past, size))))
  ]

  pub more_places : IsWatching sets waits chains (places ++ None ∷ []) path leasts
  more_places = record {
    waiting = record {
      each = λ at set wait is waits_is. let old = keeps.waiting.each at set wait is waits_is in (waiting set wait old.0, old.1);
      known = keeps.waiting.known;
      sized = keeps.waiting.sized;
    };
    placed = placed;
    known = keeps.known;
    sized = (let size = keeps.sized in let more = length-append places (None ∷ []) in omega (arith, size, more));
    least = keeps.least;
    counted = keeps.counted;
  }
    where
      same : (key : ℕ) → came (places ++ None ∷ []) key ≡ came places key
      same key = more_nothing places None key

      waiting : (set : Owned ℕ) (wait : Option ℕ) → IsWaiting places set.keys wait → IsWaiting (places ++ None ∷ []) set.keys wait
      waiting set None e = e
      waiting set (Some last) both = (both.0, λ key there. ap₂ is_by (same key) (same last) ∙ both.1 key there)

      placed : (key : ℕ) → key < length (places ++ None ∷ []) → slice_get (places ++ None ∷ []) key ≡ Some (place_on path key)
      placed key small = elim (cases_lt key (length places)) [
        | inl inside ↦ get_front places None key inside ∙ keeps.placed key inside
        | inr past ↦
            let more = length-append places (None ∷ []) in
            let last : key ≡ length places = omega (arith, small, past, more) in
            let size = keeps.sized in
            ap (slice_get (places ++ None ∷ [])) last ∙ (get_last places None ∙ ap Some (sym (not_there key (omega (arith, past, size)))))
      ]

  pub more_chains : length chains < length places → IsWatching sets waits (chains ++ [] ∷ []) places path leasts
  more_chains room = record {
    waiting = record {
      each = λ at set wait is waits_is. let old = keeps.waiting.each at set wait is waits_is in (old.0, chained at wait old.1);
      known = λ at set is key there. let small = keeps.waiting.known at set is key there in let more = length-append chains ([] ∷ []) in omega (arith, small, more);
      sized = keeps.waiting.sized;
    };
    placed = keeps.placed;
    known = λ key there. let small = keeps.known key there in let more = length-append chains ([] ∷ []) in omega (arith, small, more);
    sized = (let more = length-append chains ([] ∷ []) in omega (arith, room, more));
    least = keeps.least;
    counted = keeps.counted;
  }
    where
      chained : (at : ℕ) (wait : Option ℕ) → IsChained chains at wait → IsChained (chains ++ [] ∷ []) at wait
      chained at None e = e
      chained at (Some key) e = subst (λ xs. Has xs at) (sym (more_nothing chains [] key)) e

  -- ---- the least at each length

  pub least_now : (least : Option Owner) → slice_get leasts (length path) ≡ Some least → IsLeastOwner ℕ nat_eq path sets least
  least_now least is = subst (λ p. IsLeastOwner ℕ nat_eq p sets least) (take_all path) (keeps.least (length path) least (omega arith) is)

  abbrev one_more : Option Owner → List (Option Owner)
  one_more least = take (length path + 1) leasts ++ least ∷ []

  one_more_front : (least : Option Owner) (count : ℕ) → count ≤ length path → slice_get (one_more least) count ≡ slice_get leasts count
  one_more_front least count small =
      let size = keeps.counted in
      let whole = length_taken (length path + 1) leasts (omega (arith, size)) in
      get_front (take (length path + 1) leasts) least count (omega (arith, small, whole)) ∙ get_taken (length path + 1) count leasts (omega (arith, small))

  one_more_last : (least : Option Owner) → slice_get (one_more least) (length path + 1) ≡ Some least
  one_more_last least =
      let size = keeps.counted in
      let whole = length_taken (length path + 1) leasts (omega (arith, size)) in
      ap (slice_get (one_more least)) (sym whole) ∙ get_last (take (length path + 1) leasts) least

  one_more_length : (least : Option Owner) → length (one_more least) ≡ length path + 2
  one_more_length least =
      let size = keeps.counted in
      let whole = length_taken (length path + 1) leasts (omega (arith, size)) in
      let more = length-append (take (length path + 1) leasts) (least ∷ []) in
      omega (arith, whole, more)

  -- an entry that is not used yet
  pub spare_least : (least : Option Owner) → IsWatching sets waits chains places path (one_more least)
  spare_least least = record {
    waiting = keeps.waiting;
    placed = keeps.placed;
    known = keeps.known;
    sized = keeps.sized;
    least = λ count one small is. keeps.least count one small (sym (one_more_front least count small) ∙ is);
    counted = (let size = one_more_length least in omega (arith, size));
  }

  least_more : (key : ℕ) (least : Option Owner) → IsLeastOwner ℕ nat_eq (path ++ key ∷ []) sets least → AreLeast sets (path ++ key ∷ []) (one_more least)
  least_more key least now count one small is =
      let more = length-append path (key ∷ []) in
      elim (cases_lt count (length path + 1)) [
        | inl inside ↦
            subst (λ p. IsLeastOwner ℕ nat_eq p sets one) (sym (take_whole count path key (omega (arith, inside))))
            (keeps.least count one (omega (arith, inside)) (sym (one_more_front least count (omega (arith, inside))) ∙ is))
        | inr past ↦
            let last : count ≡ length path + 1 = omega (arith, small, past, more) in
            let same : least ≡ one = same_some least one (sym (one_more_last least) ∙ (ap (slice_get (one_more least)) (sym last) ∙ is)) in
            subst (λ p. IsLeastOwner ℕ nat_eq p sets one) (sym (take_past count (path ++ key ∷ []) (omega (arith, last, more)))) (subst (IsLeastOwner ℕ nat_eq (path ++ key ∷ []) sets) same now)
      ]

  -- ---- a key that is there already

  pub push_again : (key : ℕ) → Has path key → (least : Option Owner) → slice_get leasts (length path) ≡ Some least → IsWatching sets waits chains places (path ++ key ∷ []) (one_more least)
  push_again key there least is = record {
    waiting = keeps.waiting;
    placed = λ k small. keeps.placed k small ∙ ap Some (sym (kept k));
    known = λ k more. elim (has_more path key k more) [ inl old ↦ keeps.known k old | inr same ↦ subst (λ n. n < length chains) same (keeps.known key there) ];
    sized = keeps.sized;
    least = least_more key least (least_same path (path ++ key ∷ []) sets least (λ k. path_has path k ∙ (ap is_some (sym (kept k)) ∙ sym (path_has (path ++ key ∷ []) k))) (least_now least is));
    counted = (let size = one_more_length least in let more = length-append path (key ∷ []) in omega (arith, size, more));
  }
    where
      held : (at : Option ℕ) → is_some at ≡ true → (same : Bool) → joined at (length path) same ≡ at
      held None e same = absurd (true≢false (sym e))
      held (Some at) e same = refl

      away : (at : Option ℕ) → joined at (length path) false ≡ at
      away None = refl
      away (Some at) = refl

      kept : (k : ℕ) → place_on (path ++ key ∷ []) k ≡ place_on path k
      kept k = place_more path key k ∙ (elim (cases_eq key k) [
        | inl same ↦ held (place_on path k) (sym (path_has path k) ∙ subst (Has path) same there) (nat_eq key k)
        | inr apart ↦ ap (joined (place_on path k) (length path)) (ne_eqb key k apart) ∙ away (place_on path k)
      ])

  -- ---- a key that comes

  pub push_new : (key : ℕ) → key < length chains → has nat_eq path key ≡ false → (least : Option Owner) → slice_get leasts (length path) ≡ Some least
      → (waits' : List (Option ℕ)) (chains' : List (List ℕ)) → AreWaiting sets waits' chains' places → length chains' ≡ length chains → (least' : Option Owner) → Arrives sets waits' places key least least'
      → IsWatching sets waits' chains' (slice_set places key (Some (length path))) (path ++ key ∷ []) (one_more least')
  push_new key known away least is waits' chains' waiting size least' arrives = record {
    waiting = record {
      each = λ at set wait at_is wait_is. let old = waiting.each at set wait at_is wait_is in (waits_on at set wait at_is wait_is old.0, old.1);
      known = waiting.known;
      sized = waiting.sized;
    };
    placed = placed;
    known = λ k more. elim (has_more path key k more) [ inl old ↦ (let small = keeps.known k old in omega (arith, small, size)) | inr same ↦ omega (arith, known, same, size) ];
    sized = (let sizes = keeps.sized in let long = length-slice_set places key (Some (length path)) in omega (arith, sizes, size, long));
    least = least_more key least' (least_by (path ++ key ∷ []) sets least' from up_to);
    counted = (let sizes = one_more_length least' in let more = length-append path (key ∷ []) in omega (arith, sizes, more));
  }
    where
      places' : List (Option ℕ)
      places' = slice_set places key (Some (length path))

      not_on : place_on path key ≡ None
      not_on = by (place_on path key) refl
        where
          by : (at : Option ℕ) → place_on path key ≡ at → at ≡ None
          by None e = refl
          by (Some at) e = absurd (true≢false (sym (path_has path key ∙ ap is_some e) ∙ away))

      never_came : came places key ≡ None
      never_came = came_on key ∙ not_on

      comes : came (slice_set places key (Some (length path))) key ≡ Some (length path)
      comes = let sizes = keeps.sized in ap (λ at. unwrap_or at None) (get_set_same places key (Some (length path)) (omega (arith, known, sizes)))

      others : (k : ℕ) → k ≢ key → came (slice_set places key (Some (length path))) k ≡ came places k
      others k apart = ap (λ at. unwrap_or at None) (get_set_other places key k (Some (length path)) apart)

      apart_is : (k : ℕ) → k ≢ key → joined (place_on path k) (length path) (nat_eq key k) ≡ place_on path k
      apart_is k apart = ap (joined (place_on path k) (length path)) (ne_eqb key k (λ e. apart (sym e))) ∙ by (place_on path k)
        where
          by : (at : Option ℕ) → joined at (length path) false ≡ at
          by None = refl
          by (Some at) = refl

      placed : (k : ℕ) → k < length (slice_set places key (Some (length path))) → slice_get (slice_set places key (Some (length path))) k ≡ Some (place_on (path ++ key ∷ []) k)
      placed k small =
          let long = length-slice_set places key (Some (length path)) in
          let sizes = keeps.sized in
          elim (cases_eq k key) [
            | inl same ↦
                ap (slice_get (slice_set places key (Some (length path)))) same
                ∙ (get_set_same places key (Some (length path)) (omega (arith, known, sizes))
                ∙ ap Some (sym (ap (place_on (path ++ key ∷ [])) same ∙ (place_more path key key ∙ ap₂ (λ at here. joined at (length path) here) not_on (eq-eqb key key refl)))))
            | inr apart ↦ get_set_other places key k (Some (length path)) apart ∙ (keeps.placed k (omega (arith, small, long)) ∙ ap Some (sym (place_more path key k ∙ apart_is k apart)))
          ]

      nothing_later : (one : Option ℕ) → is_by None one ≡ true → one ≡ None
      nothing_later None e = refl
      nothing_later (Some at) e = absurd (true≢false (sym e))

      earlier : (k : ℕ) → has_arrived places key k ≡ true → is_by (came (slice_set places key (Some (length path))) k) (Some (length path)) ≡ true
      earlier k arrived = elim (cases_eq k key) [
        | inl same ↦ ap (λ one. is_by one (Some (length path))) (ap (came (slice_set places key (Some (length path)))) same ∙ comes) ∙ by_itself (Some (length path))
        | inr apart ↦
            let some : is_some (place_on path k) ≡ true = sym (ap is_some (came_on k)) ∙ (sym (ap (λ b. b || is_some (came places k)) (ne_eqb k key apart)) ∙ arrived) in
            ap (λ one. is_by one (Some (length path))) (others k apart ∙ came_on k) ∙ by (place_on path k) refl some
      ]
        where
          by : (at : Option ℕ) → place_on path k ≡ at → is_some at ≡ true → is_by at (Some (length path)) ≡ true
          by None e some = absurd (true≢false (sym some))
          by (Some at) e some = let small = place_within path k at e in le-leb at (length path) (omega (arith, small))

      waits_on : (at : ℕ) (set : Owned ℕ) (wait : Option ℕ) → slice_get sets at ≡ Some set → slice_get waits' at ≡ Some wait → IsWaiting places set.keys wait → IsWaiting (slice_set places key (Some (length path))) set.keys wait
      waits_on at set None at_is wait_is old = old
      waits_on at set (Some last) at_is wait_is old = elim (cases_eq last key) [
        | inl same ↦
            let now = arrives.each at set at_is (subst (λ n. slice_get waits' at ≡ Some (Some n)) same wait_is) in
            (old.0, λ k there. ap (is_by (came (slice_set places key (Some (length path))) k)) (ap (came (slice_set places key (Some (length path)))) same ∙ comes) ∙ earlier k (now.0 k there))
        | inr apart ↦ (
          old.0,
          λ k there. elim (cases_eq k key) [
            | inl same ↦
                let none : came places last ≡ None = nothing_later (came places last) (sym (ap (λ one. is_by one (came places last)) (ap (came places) same ∙ never_came)) ∙ old.1 k there) in
                ap (is_by (came (slice_set places key (Some (length path))) k)) (others last apart ∙ none)
            | inr far ↦ ap₂ is_by (others k far) (others last apart) ∙ old.1 k there
          ],
        )
      ]

      has_old : (k : ℕ) → is_some (came places k) ≡ true → has nat_eq path k ≡ true
      has_old k some = path_has path k ∙ (sym (ap is_some (came_on k)) ∙ some)

      from : (owner : Owner) → least' ≡ Some owner → IsOwnerOfOne ℕ nat_eq (path ++ key ∷ []) sets owner
      from owner e = elim (arrives.least.from owner e) [
        | inl old ↦
            let one = (subst (IsLeastOwner ℕ nat_eq path sets) old (least_now least is)).0 in
            record { place = one.place; set = one.set; is = one.is; stands = all_of (has nat_eq (path ++ key ∷ [])) one.set.keys (λ k there. has_left path (key ∷ []) k (each_of (has nat_eq path) one.set.keys one.stands k there)); owned = one.owned }
        | inr new ↦ record {
          place = new.place;
          set = new.set;
          is = new.is;
          stands = all_of (has nat_eq (path ++ key ∷ [])) new.set.keys (λ k there. elim (either_true (nat_eq k key) (is_some (came places k)) (new.arrived k there)) [
            | inl same ↦ subst (Has (path ++ key ∷ [])) (sym (eqb-true k key same)) (has_last path key)
            | inr some ↦ has_left path (key ∷ []) k (has_old k some)
          ]);
          owned = new.owned;
        }
      ]

      up_to_old : (owner : Owner) (before : Option Owner) → least ≡ before → IsUpTo before owner → IsUpTo least' owner
      up_to_old owner None e bad = absurd bad
      up_to_old owner (Some held) e up = up_to_further least' held owner (arrives.least.up_to held e) up

      came_some : (k last : ℕ) → is_by (came places k) (came places last) ≡ true → is_some (came places last) ≡ true → is_some (came places k) ≡ true
      came_some k last early some = by (came places k) (came places last) early some
        where
          by : (one two : Option ℕ) → is_by one two ≡ true → is_some two ≡ true → is_some one ≡ true
          by one None e f = absurd (true≢false (sym f))
          by None (Some late) e f = absurd (true≢false (sym e))
          by (Some early) (Some late) e f = refl

      up_to : (place : ℕ) (set : Owned ℕ) → slice_get sets place ≡ Some set → stands nat_eq (path ++ key ∷ []) set ≡ true → IsUpTo least' set.owner
      up_to place set at_is all =
          let small = slice_get_within sets place set at_is in
          let sizes = waiting.sized in
          let (wait, wait_is) = get_some waits' place (omega (arith, small, sizes)) in
          by wait wait_is (waiting.each place set wait at_is wait_is).0
        where
          old_way : stands nat_eq path set ≡ true → IsUpTo least' set.owner
          old_way e = up_to_old set.owner least refl (least_up_to path sets least (least_now least is) place set at_is e)

          by : (wait : Option ℕ) → slice_get waits' place ≡ Some wait → IsWaiting places set.keys wait → IsUpTo least' set.owner
          by None wait_is none = old_way (ap (list_all (has nat_eq path)) none)
          by (Some last) wait_is waits_for = elim (has_more path key last (each_of (has nat_eq (path ++ key ∷ [])) set.keys all last waits_for.0)) [
            | inl old ↦
                let some : is_some (came places last) ≡ true = ap is_some (came_on last) ∙ (sym (path_has path last) ∙ old) in
                old_way (all_of (has nat_eq path) set.keys (λ k there. has_old k (came_some k last (waits_for.1 k there) some)))
            | inr same ↦ (arrives.each place set at_is (subst (λ n. slice_get waits' place ≡ Some (Some n)) (sym same) wait_is)).1
          ]

  -- ---- the last key goes

  cut : Option ℕ → ℕ → Option ℕ
  cut None count = None
  cut (Some at) count = if nat_lt at count then Some at else None

  place_cut : (front : List ℕ) (key k : ℕ) → place_on front k ≡ cut (place_on (front ++ key ∷ []) k) (length front)
  unfolding cut
  place_cut front key k = by (place_on front k) refl (nat_eq key k) ∙ ap (λ at. cut at (length front)) (sym (place_more front key k))
    where
      by : (at : Option ℕ) → place_on front k ≡ at → (same : Bool) → at ≡ cut (joined at (length front) same) (length front)
      by None e true = sym (ap (λ b. if b then Some (length front) else None) (le-ltb (length front) (length front) (omega arith)))
      by None e false = refl
      by (Some at) e same = sym (ap (λ b. if b then Some at else None) (lt-ltb at (length front) (place_within front k at e)))

  by_cut : (one two : Option ℕ) (count : ℕ) → is_by one two ≡ true → is_by (cut one count) (cut two count) ≡ true
  unfolding cut
  by_cut one None count e = refl
  by_cut None (Some late) count e = absurd (true≢false (sym e))
  by_cut (Some early) (Some late) count e = by (nat_lt early count) (nat_lt late count) refl refl
    where
      by : (a b : Bool) → nat_lt early count ≡ a → nat_lt late count ≡ b → is_by (if a then Some early else None) (if b then Some late else None) ≡ true
      by true true f g = e
      by true false f g = refl
      by false false f g = refl
      by false true f g = let low = leb-true early late e in let high = ltb-true late count g in absurd (true≢false (sym (lt-ltb early count (omega (arith, low, high))) ∙ f))

  -- where the places are those of the front
  popped : (front : List ℕ) (key : ℕ) → path ≡ front ++ key ∷ [] → (places' : List (Option ℕ)) → length places' ≡ length places → ((k : ℕ) → k < length places' → slice_get places' k ≡ Some (place_on front k))
      → ((k : ℕ) → came places' k ≡ place_on front k) → IsWatching sets waits chains places' front leasts
  popped front key is places' size placed came_is = record {
    waiting = record {
      each = λ at set wait at_is wait_is. let old = keeps.waiting.each at set wait at_is wait_is in (waits_on set wait old.0, old.1);
      known = keeps.waiting.known;
      sized = keeps.waiting.sized;
    };
    placed = placed;
    known = λ k there. keeps.known k (subst (λ p. Has p k) (sym is) (has_left front (key ∷ []) k there));
    sized = (let sizes = keeps.sized in omega (arith, sizes, size));
    least = λ count least small least_is.
        subst (λ p. IsLeastOwner ℕ nat_eq p sets least) (ap (take count) is ∙ take_whole count front key small) (keeps.least count least (let long = longer in omega (arith, small, long)) least_is);
    counted = (let long = longer in let sizes = keeps.counted in omega (arith, long, sizes));
  }
    where
      longer : length path ≡ length front + 1
      longer = ap length is ∙ length-append front (key ∷ [])

      now : (k : ℕ) → came places' k ≡ cut (came places k) (length front)
      now k = came_is k ∙ (place_cut front key k ∙ ap (λ at. cut at (length front)) (ap (λ p. place_on p k) (sym is) ∙ sym (came_on k)))

      waits_on : (set : Owned ℕ) (wait : Option ℕ) → IsWaiting places set.keys wait → IsWaiting places' set.keys wait
      waits_on set None e = e
      waits_on set (Some last) both = (both.0, λ k there. ap₂ is_by (now k) (now last) ∙ by_cut (came places k) (came places last) (length front) (both.1 k there))

  front_place : (front : List ℕ) (key k : ℕ) → k ≢ key → place_on (front ++ key ∷ []) k ≡ place_on front k
  front_place front key k apart = place_more front key k ∙ (ap (joined (place_on front k) (length front)) (ne_eqb key k (λ e. apart (sym e))) ∙ by (place_on front k))
    where
      by : (at : Option ℕ) → joined at (length front) false ≡ at
      by None = refl
      by (Some at) = refl

  -- the key stands nowhere else
  pub pop_only : (front : List ℕ) (key : ℕ) → path ≡ front ++ key ∷ [] → came places key ≡ Some (length front) → IsWatching sets waits chains (slice_set places key None) front leasts
  pop_only front key is first = popped front key is (slice_set places key None) size placed came_is
    where
      size : length (slice_set places key None) ≡ length places
      size = length-slice_set places key None

      gone : place_on front key ≡ None
      gone = by (place_on front key) refl
        where
          was : place_on (front ++ key ∷ []) key ≡ Some (length front)
          was = ap (λ p. place_on p key) (sym is) ∙ (sym (came_on key) ∙ first)

          by : (at : Option ℕ) → place_on front key ≡ at → at ≡ None
          by None e = refl
          by (Some at) e =
              let small = place_within front key at e in
              let same : Some at ≡ Some (length front) = sym (place_more front key key ∙ ap (λ one. joined one (length front) (nat_eq key key)) e) ∙ was in
              let bad = same_some at (length front) same in
              absurd (omega (arith, small, bad))

      inside : key < length places
      inside = let small = keeps.known key (subst (λ p. Has p key) (sym is) (has_last front key)) in let sizes = keeps.sized in omega (arith, small, sizes)

      placed : (k : ℕ) → k < length (slice_set places key None) → slice_get (slice_set places key None) k ≡ Some (place_on front k)
      placed k small = elim (cases_eq k key) [
        | inl same ↦ ap (slice_get (slice_set places key None)) same ∙ (get_set_same places key None inside ∙ ap Some (sym (ap (place_on front) same ∙ gone)))
        | inr apart ↦ get_set_other places key k None apart ∙ (keeps.placed k (let sizes = size in omega (arith, small, sizes)) ∙ ap Some (ap (λ p. place_on p k) is ∙ front_place front key k apart))
      ]

      came_is : (k : ℕ) → came (slice_set places key None) k ≡ place_on front k
      came_is k = elim (cases_eq k key) [
        | inl same ↦ ap (came (slice_set places key None)) same ∙ (ap (λ at. unwrap_or at None) (get_set_same places key None inside) ∙ sym (ap (place_on front) same ∙ gone))
        | inr apart ↦ ap (λ at. unwrap_or at None) (get_set_other places key k None apart) ∙ (came_on k ∙ (ap (λ p. place_on p k) is ∙ front_place front key k apart))
      ]

  -- the key stands earlier too
  pub pop_again : (front : List ℕ) (key : ℕ) → path ≡ front ++ key ∷ [] → (came places key ≡ Some (length front) → ⊥) → IsWatching sets waits chains places front leasts
  pop_again front key is apart = popped front key is places refl (λ k small. keeps.placed k small ∙ ap Some (kept k)) (λ k. came_on k ∙ kept k)
    where
      own : place_on (front ++ key ∷ []) key ≡ place_on front key
      own = place_more front key key ∙ by (place_on front key) refl
        where
          by : (at : Option ℕ) → place_on front key ≡ at → joined at (length front) (nat_eq key key) ≡ at
          by None e = absurd (apart (came_on key ∙ (ap (λ p. place_on p key) is ∙ (place_more front key key ∙ ap₂ (λ one here. joined one (length front) here) e (eq-eqb key key refl)))))
          by (Some at) e = refl

      kept : (k : ℕ) → place_on path k ≡ place_on front k
      kept k = ap (λ p. place_on p k) is ∙ (elim (cases_eq k key) [
        | inl same ↦ ap (place_on (front ++ key ∷ [])) same ∙ (own ∙ sym (ap (place_on front) same))
        | inr far ↦ front_place front key k far
      ])

  -- ---- a set more

  -- with entries that are not used yet
  pub spare_wait : (waits' : List (Option ℕ)) (chains' : List (List ℕ)) → ((at : ℕ) → at < length sets → slice_get waits' at ≡ slice_get waits at) → length sets ≤ length waits' → length chains' ≡ length chains
      → ((key at : ℕ) → Has (chain_of chains key) at → Has (chain_of chains' key) at) → IsWatching sets waits' chains' places path leasts
  spare_wait waits' chains' same long size grown = record {
    waiting = record {
      each = λ at set wait at_is wait_is.
          let small = slice_get_within sets at set at_is in
          let old = keeps.waiting.each at set wait at_is (sym (same at small) ∙ wait_is) in
          (old.0, chained at wait old.1);
      known = λ at set at_is key there. let small = keeps.waiting.known at set at_is key there in omega (arith, small, size);
      sized = long;
    };
    placed = keeps.placed;
    known = λ key there. let small = keeps.known key there in omega (arith, small, size);
    sized = (let sizes = keeps.sized in omega (arith, sizes, size));
    least = keeps.least;
    counted = keeps.counted;
  }
    where
      chained : (at : ℕ) (wait : Option ℕ) → IsChained chains at wait → IsChained chains' at wait
      chained at None e = e
      chained at (Some key) e = grown key at e

  -- when the set stands
  standing : (set : Owned ℕ) (wait : Option ℕ) → IsWaiting places set.keys wait → (count : ℕ) → stands nat_eq (take count path) set ≡ reached (stands_since places wait) count
  standing set None none count = ap (list_all (has nat_eq (take count path))) none ∙ sym (le-leb 0 count (omega arith))
  standing set (Some last) waits_for count = by (came places last) refl
    where
      had : (k : ℕ) → has nat_eq (take count path) k ≡ is_before (came places k) count
      had k = front_has path count k ∙ ap (λ at. is_before at count) (sym (came_on k))

      fails : is_before (came places last) count ≡ false → stands nat_eq (take count path) set ≡ false
      fails e = never_true (stands nat_eq (take count path) set) (λ all. true≢false (sym (each_of (has nat_eq (take count path)) set.keys all last waits_for.0) ∙ (had last ∙ e)))

      early : (one : Option ℕ) (at : ℕ) → is_by one (Some at) ≡ true → at < count → is_before one count ≡ true
      early None at e less = absurd (true≢false (sym e))
      early (Some one) at e less = let low = leb-true one at e in lt-ltb one count (omega (arith, low, less))

      by : (at : Option ℕ) → came places last ≡ at → stands nat_eq (take count path) set ≡ reached (option_map suc at) count
      by None e = fails (ap (λ at. is_before at count) e)
      by (Some at) e = elim (cases_lt at count) [
        | inl less ↦
            all_of (has nat_eq (take count path)) set.keys (λ k there. had k ∙ early (came places k) at (sym (ap (is_by (came places k)) e) ∙ waits_for.1 k there) less)
            ∙ sym (le-leb (suc at) count (omega (arith, less)))
        | inr more ↦ fails (ap (λ one. is_before one count) e ∙ le-ltb at count more) ∙ sym (later (suc at) (omega (arith, more)))
      ]
        where
          later : (n : ℕ) → count < n → nat_le n count ≡ false
          later n less = never_true (nat_le n count) (λ e'. let low = leb-true n count e' in absurd (omega (arith, low, less)))

  pub add_set : (set : Owned ℕ) (wait : Option ℕ) → IsWaiting places set.keys wait → ((key : ℕ) → Has set.keys key → key < length chains) → slice_get waits (length sets) ≡ Some wait → IsChained chains (length sets) wait
      → (leasts' : List (Option Owner)) → AreLowered leasts (stands_since places wait) set.owner leasts'
      → length leasts' ≡ length leasts → IsWatching (sets ++ set ∷ []) waits chains places path leasts'
  add_set set wait waits_for known wait_is chained leasts' lowered size = record {
    waiting = record {
      each = λ at one wait' at_is wait_is'. elim (get_more sets set at one at_is) [
        | inl old ↦ keeps.waiting.each at one wait' old wait_is'
        | inr (last, same) ↦
            let is : wait ≡ wait' = same_some wait wait' (sym wait_is ∙ (ap (slice_get waits) (sym last) ∙ wait_is')) in
            (subst (λ (o : Owned ℕ). IsWaiting places o.keys wait') (sym same) (subst (IsWaiting places set.keys) is waits_for), subst (λ n. IsChained chains n wait') (sym last) (subst (IsChained chains (length sets)) is chained))
      ];
      known = λ at one at_is key there. elim (get_more sets set at one at_is) [
        | inl old ↦ keeps.waiting.known at one old key there
        | inr (last, same) ↦ known key (subst (λ (o : Owned ℕ). Has o.keys key) same there)
      ];
      sized = (let small = slice_get_within waits (length sets) wait wait_is in let more = length-append sets (set ∷ []) in omega (arith, small, more));
    };
    placed = keeps.placed;
    known = keeps.known;
    sized = keeps.sized;
    least = least;
    counted = (let sizes = keeps.counted in omega (arith, sizes, size));
  }
    where
      added : (p : List ℕ) (least : Option Owner) → IsLeastOwner ℕ nat_eq p sets least → (b : Bool) → stands nat_eq p set ≡ b → IsLeastOwner ℕ nat_eq p (sets ++ set ∷ []) (if b then Some (least_with least set.owner) else least)
      added p least old b is = least_by p (sets ++ set ∷ []) (if b then Some (least_with least set.owner) else least) (from b is) (up_to b is)
        where
          more : (owner : Owner) → least ≡ Some owner → IsOwnerOfOne ℕ nat_eq p (sets ++ set ∷ []) owner
          more owner e = let one = (subst (IsLeastOwner ℕ nat_eq p sets) e old).0 in record { place = one.place; set = one.set; is = get_left sets (set ∷ []) one.place one.set one.is; stands = one.stands; owned = one.owned }

          from : (b : Bool) → stands nat_eq p set ≡ b → (owner : Owner) → (if b then Some (least_with least set.owner) else least) ≡ Some owner → IsOwnerOfOne ℕ nat_eq p (sets ++ set ∷ []) owner
          from false is owner e = more owner e
          from true is owner e = elim (from_either least set.owner owner (same_some (least_with least set.owner) owner e)) [
            | inl held ↦ more owner held
            | inr own ↦ record { place = length sets; set = set; is = get_last sets set; stands = is; owned = own }
          ]

          up_to : (b : Bool) → stands nat_eq p set ≡ b → (place : ℕ) (one : Owned ℕ) → slice_get (sets ++ set ∷ []) place ≡ Some one → stands nat_eq p one ≡ true → IsUpTo (if b then Some (least_with least set.owner) else least) one.owner
          up_to false is place one at_is all = elim (get_more sets set place one at_is) [
            | inl held ↦ least_up_to p sets least old place one held all
            | inr (last, same) ↦ absurd (true≢false (sym all ∙ (ap (stands nat_eq p) same ∙ is)))
          ]
          up_to true is place one at_is all = elim (get_more sets set place one at_is) [
            | inl held ↦ up_to_before least set.owner one.owner (least_up_to p sets least old place one held all)
            | inr (last, same) ↦ subst (λ (o : Owned ℕ). IsUpTo (Some (least_with least set.owner)) o.owner) (sym same) (up_to_more least set.owner)
          ]

      least : (count : ℕ) (one : Option Owner) → count ≤ length path → slice_get leasts' count ≡ Some one → IsLeastOwner ℕ nat_eq (take count path) (sets ++ set ∷ []) one
      least count one small is =
          let sizes = keeps.counted in
          let (before, before_is) = get_some leasts count (omega (arith, small, sizes)) in
          let b = reached (stands_since places wait) count in
          let same : (if b then Some (least_with before set.owner) else before) ≡ one =
          same_some (if b then Some (least_with before set.owner) else before) one (sym (lowered count ∙ ap (option_map (λ least. if b then Some (least_with least set.owner) else least)) before_is) ∙ is) in
          subst (IsLeastOwner ℕ nat_eq (take count path) (sets ++ set ∷ [])) same (added (take count path) before (keeps.least count before small before_is) b (standing set wait waits_for count))

  -- so much of the path as there is
  pub since_small : (wait : Option ℕ) (since : ℕ) → stands_since places wait ≡ Some since → since ≤ length path
  since_small None since e = let same : 0 ≡ since = cc in omega (arith, same)
  since_small (Some last) since e = by (came places last) refl e
    where
      by : (at : Option ℕ) → came places last ≡ at → option_map suc at ≡ Some since → since ≤ length path
      by None is e = let bad : ⊥ = cc in absurd bad
      by (Some at) is e = let same : suc at ≡ since = cc in let small = place_within path last at (sym (came_on last) ∙ is) in omega (arith, same, small)

  pub wait_known : (keys : List ℕ) (wait : Option ℕ) → IsWaiting places keys wait → ((key : ℕ) → Has keys key → key < length chains) → (key : ℕ) → wait ≡ Some key → key < length chains
  wait_known keys None waits_for known key e = let bad : ⊥ = cc in absurd bad
  wait_known keys (Some last) waits_for known key e = known key (subst (Has keys) (same_some last key e) waits_for.0)

  -- with an entry for one set more
  module _ (wait : Option ℕ) (chains' : List (List ℕ)) (size : length chains' ≡ length chains) (grown : (key at : ℕ) → Has (chain_of chains key) at → Has (chain_of chains' key) at) where
    cut_whole : length (take (length sets) waits) ≡ length sets
    cut_whole = length_taken (length sets) waits keeps.waiting.sized

    pub entry_is : slice_get (take (length sets) waits ++ wait ∷ []) (length sets) ≡ Some wait
    entry_is = ap (slice_get (take (length sets) waits ++ wait ∷ [])) (sym cut_whole) ∙ get_last (take (length sets) waits) wait

    pub entry_spare : IsWatching sets (take (length sets) waits ++ wait ∷ []) chains' places path leasts
    entry_spare =
        spare_wait (take (length sets) waits ++ wait ∷ []) chains'
        (λ at small. get_front (take (length sets) waits) wait at (let whole = cut_whole in omega (arith, small, whole)) ∙ get_taken (length sets) at waits small)
        (let whole = cut_whole in let more = length-append (take (length sets) waits) (wait ∷ []) in omega (arith, whole, more)) size grown

-- ---- a set in a chain

pub hung_kept : (chains : List (List ℕ)) (key set : ℕ) (chain : List ℕ) → key < length chains → chain ≡ get_or chains key chain → (k at : ℕ) → Has (chain_of chains k) at → Has (chain_of (slice_set chains key (chain ++ set ∷ [])) k) at
hung_kept chains key set chain inside is k at there = elim (cases_eq k key) [
  | inl same ↦
      let before : chain_of chains k ≡ chain = ap (chain_of chains) same ∙ ap (λ one. unwrap_or one []) (slice_get-get_or chains key chain inside ∙ ap Some (sym is)) in
      let now : chain_of (slice_set chains key (chain ++ set ∷ [])) k ≡ chain ++ set ∷ [] = ap (chain_of (slice_set chains key (chain ++ set ∷ []))) same ∙ ap (λ one. unwrap_or one []) (get_set_same chains key (chain ++ set ∷ []) inside) in
      subst (λ xs. Has xs at) (sym now) (has_left chain (set ∷ []) at (subst (λ xs. Has xs at) before there))
  | inr apart ↦ subst (λ xs. Has xs at) (sym (ap (λ one. unwrap_or one []) (get_set_other chains key k (chain ++ set ∷ []) apart))) there
]

pub hung_there : (chains : List (List ℕ)) (key set : ℕ) (chain : List ℕ) → key < length chains → Has (chain_of (slice_set chains key (chain ++ set ∷ [])) key) set
hung_there chains key set chain inside = subst (λ xs. Has xs set) (sym (ap (λ one. unwrap_or one []) (get_set_same chains key (chain ++ set ∷ []) inside))) (has_last chain set)
