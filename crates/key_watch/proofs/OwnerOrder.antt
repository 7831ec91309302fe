-- The order of owners, and the least of some.
use Rattle.std.proofs.Common.{◌≡◌, Bool, true, false, true≢false, Option, Some, None, refl, sym, ap, ◌∙◌, ◌⊎◌, inl, inr, arith, if◌then◌else◌}
use Rattle.std.proofs.lemmas.Bool.{le-ltb, lt-ltb, ltb-false, ltb-true}
use Rattle.mg_word.proofs.Members.{never_true}
use Rattle.key_watch.specs.declared.owner.Owner.{Owner}
use Rattle.key_watch.specs.declared.owner.Owner.TheVariants.{Lemma, Found}
use Rattle.key_watch.specs.Arriving.{IsUpTo}
use Rattle.key_watch.specs.Owners.{least_with, owner_lt}

pub not_itself : (one : Owner) → owner_lt one one ≡ false
not_itself (Lemma a) = le-ltb a a (omega arith)
not_itself (Found a) = le-ltb a a (omega arith)

pub lt_trans : (one two three : Owner) → owner_lt one two ≡ true → owner_lt two three ≡ true → owner_lt one three ≡ true
lt_trans (Lemma a) (Lemma b) (Lemma c) e f = let low = ltb-true a b e in let high = ltb-true b c f in lt-ltb a c (omega (arith, low, high))
lt_trans (Lemma a) (Lemma b) (Found c) e f = refl
lt_trans (Lemma a) (Found b) (Lemma c) e f = absurd (true≢false (sym f))
lt_trans (Lemma a) (Found b) (Found c) e f = refl
lt_trans (Found a) (Lemma b) three e f = absurd (true≢false (sym e))
lt_trans (Found a) (Found b) (Lemma c) e f = absurd (true≢false (sym f))
lt_trans (Found a) (Found b) (Found c) e f = let low = ltb-true a b e in let high = ltb-true b c f in lt-ltb a c (omega (arith, low, high))

-- one that is no less than a greater one
pub not_less : (one two three : Owner) → owner_lt one three ≡ false → owner_lt two three ≡ true → owner_lt one two ≡ false
not_less one two three e f = never_true (owner_lt one two) (λ less. true≢false (sym (lt_trans one two three less f) ∙ e))

pub not_less_two : (one two three : Owner) → owner_lt one two ≡ false → owner_lt two three ≡ false → owner_lt one three ≡ false
not_less_two (Lemma a) (Lemma b) (Lemma c) e f = le-ltb a c (let low = ltb-false a b e in let high = ltb-false b c f in omega (arith, low, high))
not_less_two (Lemma a) (Lemma b) (Found c) e f = absurd (true≢false f)
not_less_two (Lemma a) (Found b) three e f = absurd (true≢false e)
not_less_two (Found a) (Lemma b) (Lemma c) e f = refl
not_less_two (Found a) (Lemma b) (Found c) e f = absurd (true≢false f)
not_less_two (Found a) (Found b) (Lemma c) e f = refl
not_less_two (Found a) (Found b) (Found c) e f = le-ltb a c (let low = ltb-false a b e in let high = ltb-false b c f in omega (arith, low, high))

-- ---- one more

pub up_to_before : (least : Option Owner) (more owner : Owner) → IsUpTo least owner → IsUpTo (Some (least_with least more)) owner
up_to_before None more owner bad = absurd bad
up_to_before (Some held) more owner up = by (owner_lt more held) refl
  where
    by : (less : Bool) → owner_lt more held ≡ less → owner_lt owner (if less then more else held) ≡ false
    by true is = not_less owner more held up is
    by false is = up

pub up_to_more : (least : Option Owner) (more : Owner) → IsUpTo (Some (least_with least more)) more
up_to_more None more = not_itself more
up_to_more (Some held) more = by (owner_lt more held) refl
  where
    by : (less : Bool) → owner_lt more held ≡ less → owner_lt more (if less then more else held) ≡ false
    by true is = not_itself more
    by false is = is

pub from_either : (least : Option Owner) (more owner : Owner) → least_with least more ≡ owner → (least ≡ Some owner) ⊎ (more ≡ owner)
from_either None more owner e = inr e
from_either (Some held) more owner e = by (owner_lt more held) e
  where
    by : (less : Bool) → (if less then more else held) ≡ owner → (Some held ≡ Some owner) ⊎ (more ≡ owner)
    by true e = inr e
    by false e = inl (ap Some e)

pub up_to_further : (least : Option Owner) (one two : Owner) → IsUpTo least one → owner_lt two one ≡ false → IsUpTo least two
up_to_further None one two bad e = absurd bad
up_to_further (Some held) one two up e = not_less_two two one held e up
