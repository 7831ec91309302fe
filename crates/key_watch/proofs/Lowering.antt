-- Least owners by the length of the path, where one more owner counts from some length on.
use Rattle.std.proofs.Common.{◌≡◌, ◌≢◌, ℕ, ◌+◌, ◌<◌, ◌≤◌, Bool, true, false, nat_le, nat_lt, ◌&&◌, List, length, get_or, slice_get, slice_set, Option, Some, None, option_map, refl, sym, ap, ap₂, subst, ◌∙◌, inl, inr, arith, if◌then◌else◌}
use Rattle.std.proofs.lemmas.Bool.{cases_eq, cases_lt, le-leb, le-ltb, lt-leb, lt-ltb}
use Rattle.std.proofs.lemmas.Option.{slice_get-get_or, slice_get_within}
use Rattle.key_watch.specs.declared.owner.Owner.{Owner}
use Rattle.key_watch.specs.Owners.{least_with}
use Rattle.key_watch.specs.Watching.{AreLowered}
use Rattle.key_watch.proofs.Membership.{get_set_other, get_set_same}

abbrev lowered : Bool → Owner → Option Owner → Option Owner
lowered counts owner least = if counts then Some (least_with least owner) else least

-- the owner counts from the first length up to the second
abbrev pub AreLoweredBelow : List (Option Owner) → ℕ → Owner → ℕ → List (Option Owner) → Type 0
AreLoweredBelow leasts since owner end leasts' = (count : ℕ) → slice_get leasts' count ≡ option_map (lowered (nat_le since count && nat_lt count end) owner) (slice_get leasts count)

and_false : (a : Bool) → (a && false) ≡ false
and_false true = refl
and_false false = refl

and_true : (a : Bool) → (a && true) ≡ a
and_true true = refl
and_true false = refl

unchanged : (owner : Owner) (one : Option (Option Owner)) → option_map (lowered false owner) one ≡ one
unchanged owner None = refl
unchanged owner (Some least) = refl

nowhere : (since count : ℕ) → (nat_le since count && nat_lt count since) ≡ false
nowhere since count = elim (cases_lt count since) [
  | inl less ↦ ap (λ b. b && nat_lt count since) (lt-leb since count less)
  | inr more ↦ ap (λ b. nat_le since count && b) (le-ltb count since more) ∙ and_false (nat_le since count)
]

pub none_lowered : (leasts : List (Option Owner)) (since : ℕ) (owner : Owner) → AreLoweredBelow leasts since owner since leasts
none_lowered leasts since owner count = sym (ap (λ b. option_map (lowered b owner) (slice_get leasts count)) (nowhere since count) ∙ unchanged owner (slice_get leasts count))

pub lowered_more : (leasts leasts' : List (Option Owner)) (since end : ℕ) (owner : Owner) → AreLoweredBelow leasts since owner end leasts' → end < length leasts' → since ≤ end → (held : Option Owner) → held ≡ get_or leasts' end held
    → AreLoweredBelow leasts since owner (end + 1) (slice_set leasts' end (Some (least_with held owner)))
lowered_more leasts leasts' since end owner old inside late held held_is count = elim (cases_eq count end) [
  | inl same ↦
      let there : slice_get leasts' end ≡ Some held = slice_get-get_or leasts' end held inside ∙ ap Some (sym held_is) in
      let still : (nat_le since end && nat_lt end end) ≡ false = ap (λ b. nat_le since end && b) (le-ltb end end (omega arith)) ∙ and_false (nat_le since end) in
      let before : slice_get leasts end ≡ Some held = sym (old end ∙ (ap (λ b. option_map (lowered b owner) (slice_get leasts end)) still ∙ unchanged owner (slice_get leasts end))) ∙ there in
      let now : (nat_le since end && nat_lt end (end + 1)) ≡ true = ap₂ (λ a b. a && b) (le-leb since end late) (lt-ltb end (end + 1) (omega arith)) in
      subst (λ n. slice_get (slice_set leasts' end (Some (least_with held owner))) n ≡ option_map (lowered (nat_le since n && nat_lt n (end + 1)) owner) (slice_get leasts n)) (sym same)
      (get_set_same leasts' end (Some (least_with held owner)) inside ∙ sym (ap₂ (λ b one. option_map (lowered b owner) one) now before))
  | inr apart ↦
      get_set_other leasts' end count (Some (least_with held owner)) apart
      ∙ (old count ∙ ap (λ b. option_map (lowered (nat_le since count && b) owner) (slice_get leasts count)) (by apart))
]
  where
    by : count ≢ end → nat_lt count end ≡ nat_lt count (end + 1)
    by apart = elim (cases_lt count end) [
      | inl less ↦ lt-ltb count end less ∙ sym (lt-ltb count (end + 1) (omega (arith, less)))
      | inr more ↦ le-ltb count end more ∙ sym (le-ltb count (end + 1) (after more))
    ]
      where
        after : end ≤ count → end + 1 ≤ count
        after more = elim (cases_lt end count) [ inl less ↦ omega (arith, less) | inr back ↦ absurd (apart (omega (arith, more, back))) ]

pub all_lowered : (leasts leasts' : List (Option Owner)) (since end : ℕ) (owner : Owner) → AreLoweredBelow leasts since owner end leasts' → length leasts ≤ end → AreLowered leasts (Some since) owner leasts'
all_lowered leasts leasts' since end owner old past count = old count ∙ by (slice_get leasts count) refl
  where
    by : (one : Option (Option Owner)) → slice_get leasts count ≡ one → option_map (lowered (nat_le since count && nat_lt count end) owner) one ≡ option_map (lowered (nat_le since count) owner) one
    by None e = refl
    by (Some least) e =
        let small = slice_get_within leasts count least e in
        ap (λ b. Some (lowered b owner least)) (ap (λ b. nat_le since count && b) (lt-ltb count end (omega (arith, small, past))) ∙ and_true (nat_le since count))
