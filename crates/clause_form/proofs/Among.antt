-- The variables of lists of items and literals, one more at a time.
use Rattle.std.proofs.Common.{append-nil, ◌≡◌, ℕ, ◌+◌, ◌<◌, ◌≤◌, Bool, true, false, ◌&&◌, ◌||◌, not, List, [], ◌∷◌, ◌++◌, length, get_or, take, refl, sym, ◌∙◌, ap, subst, arith, Option, Some, None, nat_lt, nat_eq, if◌then◌else◌}
use Rattle.std.proofs.lemmas.List.{take_more}
use Rattle.std.proofs.lemmas.List.Folds.{list_any-append, list_any_at}
use Rattle.std.proofs.lemmas.Grind.{flat_map-append}
use Rattle.std.proofs.lemmas.Bool.Decides.{nat_tests}
use Rattle.std.specs.List.{flat_map, list_any, list_all}
use Rattle.mg_word.specs.Forms.{is_among, is_restricted, lits_variables}
use Rattle.mg_word.specs.declared.form.Form.{Form}
use Rattle.mg_word.specs.declared.lit.PatLit.{PatLit}
use Rattle.mg_word.proofs.Members.{both_true}
use Rattle.clause_form.specs.Free.{is_free, IsLeastFrom, IsLeastFree, lesser}

-- a number is among two lists where it is among one
pub among-append : (a b : List ℕ) (v : ℕ) → is_among (a ++ b) v ≡ (is_among a v || is_among b v)
among-append a b v = list_any-append _ a b

-- what the next element adds
pub flat_map-next : {X A : Type 0} (f : X → List A) (xs : List X) (i : ℕ) (d : X) → i < length xs → flat_map f (take (i + 1) xs) ≡ flat_map f (take i xs) ++ f (get_or xs i d)
flat_map-next f xs i d h = ap (flat_map f) (take_more xs i d h) ∙ flat_map-append f (take i xs) (get_or xs i d ∷ []) ∙ ap (λ r. flat_map f (take i xs) ++ r) (append-nil (f (get_or xs i d)))

-- a number is among the parts of one element more where it is among its part
pub among_next : {X : Type 0} (f : X → List ℕ) (xs : List X) (i v : ℕ) (d : X) → i < length xs → is_among (flat_map f (take (i + 1) xs)) v ≡ (is_among (flat_map f (take i xs)) v || is_among (f (get_or xs i d)) v)
among_next f xs i v d h = ap (λ r. is_among r v) (flat_map-next f xs i d h) ∙ among-append (flat_map f (take i xs)) (f (get_or xs i d)) v

or_true : (a b : Bool) → b ≡ true → (a || b) ≡ true
or_true true b e = refl
or_true false b e = e

any_flat_map : {X : Type 0} (f : X → List ℕ) (v : ℕ) (xs : List X) → is_among (flat_map f xs) v ≡ list_any (λ x. is_among (f x) v) xs
any_flat_map f v [] = refl
any_flat_map f v (x ∷ xs) = among-append (f x) (flat_map f xs) v ∙ ap (λ r. is_among (f x) v || r) (any_flat_map f v xs)

pub below : (x y : ℕ) → nat_lt x y ≡ true → x < y
below x y e = grind (arith, nat_tests)

pub not_below : (x y : ℕ) → nat_lt x y ≡ false → y ≤ x
not_below x y e = grind (arith, nat_tests)

same : (x y : ℕ) → nat_eq x y ≡ true → x ≡ y
same x y e = grind (arith, nat_tests)

itself : (x : ℕ) → nat_eq x x ≡ true
itself x = grind (arith, nat_tests)

least_of_both : (a b : List ℕ) (from x y : ℕ) → IsLeastFrom a from (Some x) → IsLeastFrom b from (Some y) → (test : Bool) → nat_lt x y ≡ test → IsLeastFrom (a ++ b) from (if test then Some x else Some y)
least_of_both a b from x y l r true e = (
  l.0,
  rw (among-append a b x) (rw l.1 refl),
  λ other h k. let less = below x y e in let further : other < y = omega arith in rw (among-append a b other) (rw (l.2 other h k) (r.2 other h further)),
)
least_of_both a b from x y l r false e = (
  r.0,
  rw (among-append a b y) (or_true (is_among a y) (is_among b y) r.1),
  λ other h k. let less = not_below x y e in let further : other < x = omega arith in rw (among-append a b other) (rw (l.2 other h further) (r.2 other h k)),
)

-- the variables of two lists together
pub least_joined : (a b : List ℕ) (from : ℕ) (f g : Option ℕ) → IsLeastFrom a from f → IsLeastFrom b from g → IsLeastFrom (a ++ b) from (lesser f g)
least_joined a b from None None l r = λ other h. rw (among-append a b other) (rw (l other h) (r other h))
least_joined a b from None (Some y) l r = (r.0, rw (among-append a b y) (or_true (is_among a y) (is_among b y) r.1), λ other h k. rw (among-append a b other) (rw (l other h) (r.2 other h k)))
least_joined a b from (Some x) None l r = (l.0, rw (among-append a b x) (rw l.1 refl), λ other h k. rw (among-append a b other) (rw (l.2 other h k) (r other h)))
least_joined a b from (Some x) (Some y) l r = least_of_both a b from x y l r (nat_lt x y) refl

-- an element with the number among its own
pub among_at : {X : Type 0} (f : X → List ℕ) (xs : List X) (i v : ℕ) (d : X) → i < length xs → is_among (f (get_or xs i d)) v ≡ true → is_among (flat_map f xs) v ≡ true
among_at f xs i v d h e = any_flat_map f v xs ∙ list_any_at (λ x. is_among (f x) v) xs i d h e

-- one number of the first list, where each is among the second
all_among_head : (x v : ℕ) (xs ys : List ℕ) (same_one : Bool) → nat_eq x v ≡ same_one → is_among ys x ≡ true → (is_among xs v && not (is_among ys v)) ≡ false → ((same_one || is_among xs v) && not (is_among ys v)) ≡ false
all_among_head x v xs ys true e among rest = rw (← same x v e) (rw among refl)
all_among_head x v xs ys false e among rest = rest

-- where each number is among the others, none is there alone
pub all_among : (xs ys : List ℕ) → list_all (λ v. is_among ys v) xs ≡ true → (v : ℕ) → (is_among xs v && not (is_among ys v)) ≡ false
all_among [] ys e v = refl
all_among (x ∷ xs) ys e v =
    let parts = both_true (is_among ys x) (list_all (λ v. is_among ys v) xs) e in
    all_among_head x v xs ys (nat_eq x v) refl parts.0 (all_among xs ys parts.1 v)

not_false : (b : Bool) → not b ≡ false → b ≡ true
not_false true e = refl
not_false false e = cc

later_none : (a b c : Bool) → ((a || b) && c) ≡ false → (b && c) ≡ false
later_none true true c e = e
later_none true false c e = refl
later_none false b c e = e

-- and the other way round
pub none_among : (xs ys : List ℕ) → ((v : ℕ) → (is_among xs v && not (is_among ys v)) ≡ false) → list_all (λ v. is_among ys v) xs ≡ true
none_among [] ys none = refl
none_among (x ∷ xs) ys none =
    let head : is_among ys x ≡ true = not_false (is_among ys x) (rw itself at (none x)) in
    let tail = none_among xs ys (λ v. later_none (nat_eq x v) (is_among xs v) (not (is_among ys v)) (none v)) in
    rw head tail

-- a restricted form has no free variable
pub restricted_none : (form : Form) → is_restricted form ≡ true → (v : ℕ) → is_free form v ≡ false
restricted_none form e v = all_among (lits_variables form.conclusions) (lits_variables form.premises) e v

-- and a form without one is restricted
pub none_restricted : (form : Form) → ((v : ℕ) → is_free form v ≡ false) → is_restricted form ≡ true
none_restricted form none = none_among (lits_variables form.conclusions) (lits_variables form.premises) none

next_free : (form : Form) (from v : ℕ) → ((other : ℕ) → other < from → is_free form other ≡ false) → IsLeastFrom (lits_variables form.conclusions) from (Some v) → (other : ℕ) → other < v → (test : Bool) → nat_lt other from ≡ test → is_free form other ≡ false
next_free form from v before found other h true e = before other (below other from e)
next_free form from v before found other h false e = rw (found.2 other (not_below other from e) h) refl

left_free : (form : Form) (from : ℕ) → ((other : ℕ) → other < from → is_free form other ≡ false) → IsLeastFrom (lits_variables form.conclusions) from None → (other : ℕ) → (test : Bool) → nat_lt other from ≡ test → is_free form other ≡ false
left_free form from before none other true e = before other (below other from e)
left_free form from before none other false e = rw (none other (not_below other from e)) refl

and_false : (a : Bool) → (a && false) ≡ false
and_false true = refl
and_false false = refl

apart_below : (x y : ℕ) → nat_eq x y ≡ false → x < y + 1 → x < y
apart_below x y e h = grind (arith, nat_tests)

next_held : (form : Form) (from v : ℕ) → ((other : ℕ) → other < from → is_free form other ≡ false) → IsLeastFrom (lits_variables form.conclusions) from (Some v) → is_among (lits_variables form.premises) v ≡ true → (other : ℕ) → other < v + 1 → (test : Bool) → nat_eq other v ≡ test → is_free form other ≡ false
next_held form from v before found held other h true e = rw (same other v e) (rw held (and_false (is_among (lits_variables form.conclusions) v)))
next_held form from v before found held other h false e = next_free form from v before found other (apart_below other v e h) (nat_lt other from) refl

-- the least variable from a number on, which no premise holds, where none before it is free
pub least_is_free : (form : Form) (from v : ℕ) → ((other : ℕ) → other < from → is_free form other ≡ false) → IsLeastFrom (lits_variables form.conclusions) from (Some v) → is_among (lits_variables form.premises) v ≡ false → IsLeastFree form v
least_is_free form from v before found missing = record {
  free = rw found.1 (rw missing refl);
  least = λ other h. next_free form from v before found other h (nat_lt other from) refl;
}

-- no variable from the next on is free but those from a later number on
pub none_next : (form : Form) (from v : ℕ) → ((other : ℕ) → other < from → is_free form other ≡ false) → IsLeastFrom (lits_variables form.conclusions) from (Some v) → is_among (lits_variables form.premises) v ≡ true → (other : ℕ) → other < v + 1 → is_free form other ≡ false
none_next form from v before found held other h = next_held form from v before found held other h (nat_eq other v) refl

-- where nothing is left, no variable is free
pub none_left : (form : Form) (from : ℕ) → ((other : ℕ) → other < from → is_free form other ≡ false) → IsLeastFrom (lits_variables form.conclusions) from None → (other : ℕ) → is_free form other ≡ false
none_left form from before none other = left_free form from before none other (nat_lt other from) refl

-- where the search for a variable that no premise holds ends
pub some_free : (form : Form) (conclusions premises : List PatLit) (from v : ℕ) (found : Option ℕ) (held : Bool) → conclusions ≡ form.conclusions → premises ≡ form.premises → ((other : ℕ) → other < from → is_free form other ≡ false) → IsLeastFrom (lits_variables conclusions) from found → found ≡ Some v → held ≡ is_among (lits_variables premises) v → held ≡ false → IsLeastFree form v
some_free form conclusions premises from v found held ce pe before least is he hf =
    let at_some : IsLeastFrom (lits_variables conclusions) from (Some v) = subst (IsLeastFrom (lits_variables conclusions) from) is least in
    let at_form : IsLeastFrom (lits_variables form.conclusions) from (Some v) = subst (λ (lits : List PatLit). IsLeastFrom (lits_variables lits) from (Some v)) ce at_some in
    least_is_free form from v before at_form (ap (λ (lits : List PatLit). is_among (lits_variables lits) v) (sym pe) ∙ sym he ∙ hf)

-- where the search finds no more, the form is restricted
pub no_free : (form : Form) (conclusions : List PatLit) (from : ℕ) (found : Option ℕ) → conclusions ≡ form.conclusions → ((other : ℕ) → other < from → is_free form other ≡ false) → IsLeastFrom (lits_variables conclusions) from found → found ≡ None → is_restricted form ≡ true
no_free form conclusions from found ce before least is =
    let at_none : IsLeastFrom (lits_variables conclusions) from None = subst (IsLeastFrom (lits_variables conclusions) from) is least in
    let at_form : IsLeastFrom (lits_variables form.conclusions) from None = subst (λ (lits : List PatLit). IsLeastFrom (lits_variables lits) from None) ce at_none in
    none_restricted form (none_left form from before at_form)

-- a form with a free variable is not restricted
pub not_restricted : (form : Form) (v : ℕ) → IsLeastFree form v → is_restricted form ≡ true → true ≡ false
not_restricted form v least e = sym least.free ∙ restricted_none form e v
