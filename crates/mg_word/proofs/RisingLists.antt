-- Rising lists of literals: a set has one, and `set_of` is it.
use Rattle.std.proofs.Common.{◌≡◌, zero, suc, Bool, true, false, true≢false, ◌||◌, List, [], ◌∷◌, All, Contains, Decides, refl, sym, ap, ◌∙◌, arith}
use Rattle.std.specs.List.Sorted.{IsStrictlySortedBy}
use Rattle.std.specs.declared.cmp.Ordering.{Ordering}
use Rattle.std.specs.declared.cmp.Ordering.TheVariants.{Less, Equal, Greater}
use Rattle.std.specs.Ordering.{is_lt, ordering_reverse}
use Rattle.std.proofs.lemmas.Bool.{and_parts, and_from}
use Rattle.std.proofs.lemmas.Bool.Decides.{same_from_decides}
use Rattle.std.proofs.lemmas.Cmp.{tied_itself}
use Rattle.std.proofs.lemmas.List.Elements.{All-head}
use Rattle.std.proofs.lemmas.Map.Keys.{sorted_tail}
use Rattle.std.proofs.lemmas.Map.Views.{All-after_first}
use Rattle.mg_word.specs.Orders.{lit_cmp}
use Rattle.mg_word.specs.OrderLaws.{lit_total, lit_same, lits_equal}
use Rattle.mg_word.specs.Sets.{same_lit, holds, is_part, is_below_first, is_rising, placed, with_lit, set_of}
use Rattle.mg_word.specs.declared.lit.Lit.{Lit}
use Rattle.mg_word.proofs.Members.{never_true, same_tests, holds_first, part_holds}

-- the answer is the one that it is tested for
pub is_less : (answer : Ordering) → is_lt answer ≡ true → answer ≡ Less
is_less Less e = refl
is_less Equal e = cc
is_less Greater e = cc

-- no literal stands before itself
pub not_below_itself : (lit : Lit) → lit_cmp lit lit ≡ Less → ⊥
not_below_itself lit less = let tied = tied_itself lit_total lit in cc

-- a literal before the first of a rising list stands before each of it
pub least : (lit : Lit) (lits : List Lit) → is_below_first lit lits ≡ true → is_rising lits ≡ true → (held : Lit) → holds lits held ≡ true → lit_cmp lit held ≡ Less
least lit [] below rising held there = absurd (true≢false (sym there))
least lit (first ∷ lits) below rising held there =
    let parts = and_parts (is_below_first first lits) (is_rising lits) rising in
    by (same_lit first held) refl (λ rest. lit_total.trans lit first held (is_less (lit_cmp lit first) below) (least first lits parts.0 parts.1 held rest))
  where
    by : (same : Bool) → same_lit first held ≡ same → (holds lits held ≡ true → lit_cmp lit held ≡ Less) → lit_cmp lit held ≡ Less
    by true is further = rw (← (lits_equal first held).0 is) (is_less (lit_cmp lit first) below)
    by false is further = further (sym (ap (λ b. b || holds lits held) is) ∙ there)

-- a literal before the first of a rising list is not in it
pub missing_low : (low : Lit) (lits : List Lit) → is_below_first low lits ≡ true → is_rising lits ≡ true → holds lits low ≡ false
missing_low low lits below rising = never_true (holds lits low) (λ there. not_below_itself low (least low lits below rising low there))

-- the first of a rising list is not in the rest
first_once : (lit : Lit) (lits : List Lit) → is_rising (lit ∷ lits) ≡ true → holds lits lit ≡ false
first_once lit lits rising =
    let parts = and_parts (is_below_first lit lits) (is_rising lits) rising in
    missing_low lit lits parts.0 parts.1

-- two rising lists with the same members begin alike
same_first : (a b : Lit) (these those : List Lit) → is_rising (a ∷ these) ≡ true → is_rising (b ∷ those) ≡ true → holds (b ∷ those) a ≡ true → holds (a ∷ these) b ≡ true → a ≡ b
same_first a b these those up_a up_b there here = by (same_lit b a) refl (same_lit a b) refl
  where
    by : (left : Bool) → same_lit b a ≡ left → (right : Bool) → same_lit a b ≡ right → a ≡ b
    by true is right is' = sym ((lits_equal b a).0 is)
    by false is true is' = (lits_equal a b).0 is'
    by false is false is' =
        let rest_b : holds those a ≡ true = sym (ap (λ t. t || holds those a) is) ∙ there in
        let rest_a : holds these b ≡ true = sym (ap (λ t. t || holds these b) is') ∙ here in
        let parts_a = and_parts (is_below_first a these) (is_rising these) up_a in
        let parts_b = and_parts (is_below_first b those) (is_rising those) up_b in
        absurd (not_below_itself a (lit_total.trans a b a (least a these parts_a.0 parts_a.1 b rest_a) (least b those parts_b.0 parts_b.1 a rest_b)))

-- behind the same first literal they have the same members
same_rest : (first : Lit) (these those : List Lit) → is_rising (first ∷ these) ≡ true → is_rising (first ∷ those) ≡ true → ((lit : Lit) → holds (first ∷ these) lit ≡ holds (first ∷ those) lit) → (lit : Lit) → holds these lit ≡ holds those lit
same_rest first these those up_a up_b same lit = by (same_lit first lit) refl
  where
    by : (tie : Bool) → same_lit first lit ≡ tie → holds these lit ≡ holds those lit
    by true is =
        let one = (lits_equal first lit).0 is in
        ap (holds these) (sym one) ∙ first_once first these up_a ∙ sym (first_once first those up_b) ∙ ap (holds those) one
    by false is = sym (ap (λ t. t || holds these lit) is) ∙ same lit ∙ ap (λ t. t || holds those lit) is

-- a set has one rising list
pub rising_same : (these those : List Lit) → is_rising these ≡ true → is_rising those ≡ true → ((lit : Lit) → holds these lit ≡ holds those lit) → these ≡ those
rising_same [] [] up_a up_b same = refl
rising_same [] (b ∷ those) up_a up_b same = absurd (true≢false (sym (holds_first b those) ∙ sym (same b)))
rising_same (a ∷ these) [] up_a up_b same = absurd (true≢false (sym (holds_first a these) ∙ same a))
rising_same (a ∷ these) (b ∷ those) up_a up_b same =
    let first = same_first a b these those up_a up_b (sym (same a) ∙ holds_first a these) (same b ∙ holds_first b those) in
    let parts_a = and_parts (is_below_first a these) (is_rising these) up_a in
    let parts_b = and_parts (is_below_first b those) (is_rising those) up_b in
    let up_b' : is_rising (a ∷ those) ≡ true = rw first up_b in
    let same' : (lit : Lit) → holds (a ∷ these) lit ≡ holds (a ∷ those) lit = λ lit. same lit ∙ ap (λ l. holds (l ∷ those) lit) (sym first) in
    let rest = rising_same these those parts_a.1 parts_b.1 (same_rest a these those up_a up_b' same') in
    cc

-- two rising lists, each a part of the other, are equal
pub parts_same : (these those : List Lit) → is_rising these ≡ true → is_rising those ≡ true → is_part these those ≡ true → is_part those these ≡ true → these ≡ those
parts_same these those up_a up_b part back =
    rising_same these those up_a up_b (λ lit. same_tests (holds these lit) (holds those lit) (part_holds these those lit part) (part_holds those these lit back))

below_with : (low lit : Lit) (lits : List Lit) → is_below_first low lits ≡ true → lit_cmp low lit ≡ Less → is_below_first low (with_lit lits lit) ≡ true
below_with low lit [] below less = ap is_lt less
below_with low lit (first ∷ lits) below less = by (lit_cmp lit first)
  where
    by : (answer : Ordering) → is_below_first low (placed answer lit first lits (with_lit lits lit)) ≡ true
    by Less = ap is_lt less
    by Equal = below
    by Greater = below

-- one literal more keeps a list rising
pub rising-with_lit : (lits : List Lit) (lit : Lit) → is_rising lits ≡ true → is_rising (with_lit lits lit) ≡ true
rising-with_lit [] lit rising = refl
rising-with_lit (first ∷ lits) lit rising =
    let parts = and_parts (is_below_first first lits) (is_rising lits) rising in
    by (lit_cmp lit first) refl parts.0 (rising-with_lit lits lit parts.1)
  where
    by : (answer : Ordering) → lit_cmp lit first ≡ answer → is_below_first first lits ≡ true → is_rising (with_lit lits lit) ≡ true → is_rising (placed answer lit first lits (with_lit lits lit)) ≡ true
    by Less is below further = and_from (is_lt (lit_cmp lit first)) (is_rising (first ∷ lits)) (ap is_lt is) rising
    by Equal is below further = rising
    by Greater is below further =
        let less : lit_cmp first lit ≡ Less = lit_total.antisymm first lit ∙ ap ordering_reverse is in
        and_from (is_below_first first (with_lit lits lit)) (is_rising (with_lit lits lit)) (below_with first lit lits below less) further

swap_or : (a b c : Bool) → (a || (b || c)) ≡ (b || (a || c))
swap_or true true c = refl
swap_or true false c = refl
swap_or false true c = refl
swap_or false false c = refl

-- and it has exactly that member more
pub holds-with_lit : (lits : List Lit) (lit held : Lit) → holds (with_lit lits lit) held ≡ (same_lit lit held || holds lits held)
holds-with_lit [] lit held = refl
holds-with_lit (first ∷ lits) lit held = by (lit_cmp lit first) refl (holds-with_lit lits lit held)
  where
    twice : (a b : Bool) → (a || (a || b)) ≡ (a || b)
    twice true b = refl
    twice false b = refl

    by : (answer : Ordering) → lit_cmp lit first ≡ answer → holds (with_lit lits lit) held ≡ (same_lit lit held || holds lits held)
        → holds (placed answer lit first lits (with_lit lits lit)) held ≡ (same_lit lit held || (same_lit first held || holds lits held))
    by Less is further = refl
    by Equal is further = rw (lit_same lit first is) (sym (twice (same_lit first held) (holds lits held)))
    by Greater is further = ap (λ t. same_lit first held || t) further ∙ swap_or (same_lit first held) (same_lit lit held) (holds lits held)

-- the set of a list rises
pub rising-set_of : (lits : List Lit) → is_rising (set_of lits) ≡ true
rising-set_of [] = refl
rising-set_of (lit ∷ lits) = rising-with_lit (set_of lits) lit (rising-set_of lits)

-- and has exactly the list's members
pub holds-set_of : (lits : List Lit) (held : Lit) → holds (set_of lits) held ≡ holds lits held
holds-set_of [] held = refl
holds-set_of (lit ∷ lits) held = holds-with_lit (set_of lits) lit held ∙ ap (λ t. same_lit lit held || t) (holds-set_of lits held)

-- a rising list with the members of a list is its set
pub set_exact : (lits rising : List Lit) → is_rising rising ≡ true → ((lit : Lit) → holds rising lit ≡ holds lits lit) → rising ≡ set_of lits
set_exact lits rising up same = rising_same rising (set_of lits) up (rising-set_of lits) (λ lit. same lit ∙ sym (holds-set_of lits lit))

-- membership by a test and by an index
pub holds_there : (lits : List Lit) (lit : Lit) → holds lits lit ≡ true → Contains lits lit
holds_there [] lit found = absurd (true≢false (sym found))
holds_there (first ∷ lits) lit found = by (same_lit first lit) refl (holds_there lits lit)
  where
    by : (same : Bool) → same_lit first lit ≡ same → (holds lits lit ≡ true → Contains lits lit) → Contains (first ∷ lits) lit
    by true is further = (0, omega arith, (lits_equal first lit).0 is)
    by false is further =
        let there = further (sym (ap (λ t. t || holds lits lit) is) ∙ found) in
        (suc there.0, omega (arith, there.1), there.2)

-- and the other way
pub there_holds : (lits : List Lit) (lit : Lit) → Contains lits lit → holds lits lit ≡ true
there_holds [] lit (k, within, is) = absurd (omega arith)
there_holds (first ∷ lits) lit (zero, within, is) = ap (λ t. t || holds lits lit) ((lits_equal first lit).1 is)
there_holds (first ∷ lits) lit (suc k, within, is) = by (same_lit first lit) (there_holds lits lit (k, omega arith, is))
  where
    by : (same : Bool) → holds lits lit ≡ true → (same || holds lits lit) ≡ true
    by true there = refl
    by false there = there

-- so the test tells membership
pub holds_decides : (lits : List Lit) (lit : Lit) → Decides (holds lits lit) (Contains lits lit)
holds_decides lits lit = (holds_there lits lit, there_holds lits lit)

-- two lists with the same members
pub holds_same : (these those : List Lit) (lit : Lit) → (Contains these lit → Contains those lit) → (Contains those lit → Contains these lit) → holds these lit ≡ holds those lit
holds_same these those lit forth back = same_from_decides (holds these lit) (holds those lit) (holds_decides these lit) (λ found. back (holds_there those lit found), λ there. there_holds those lit (forth there))

-- a strictly sorted list rises
pub sorted_rises : (lits : List Lit) → IsStrictlySortedBy lit_cmp lits → is_rising lits ≡ true
sorted_rises [] sorted = refl
sorted_rises (lit ∷ lits) sorted =
    and_from (is_below_first lit lits) (is_rising lits) (first lits (All-after_first lit_cmp lit lits sorted)) (sorted_rises lits (sorted_tail lit_cmp lit lits sorted))
  where
    first : (rest : List Lit) → All (λ held. lit_cmp lit held ≡ Less) rest → is_below_first lit rest ≡ true
    first [] above = refl
    first (next ∷ rest) above = ap is_lt (All-head (λ held. lit_cmp lit held ≡ Less) next rest above)
