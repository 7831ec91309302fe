-- Sets that wait for a key that comes: one after another goes on to wait for another key, or has arrived.
use Rattle.std.proofs.Common.{◌≡◌, ◌≢◌, ℕ, zero, suc, ◌+◌, ◌<◌, ◌≤◌, true, false, true≢false, nat_eq, eq-eqb, List, [], ◌∷◌, length, slice_get, Option, Some, None, is_some, refl, sym, ap, subst, ◌∙◌, inl, inr, arith}
use Rattle.std.specs.Prelude.{option_and_then}
use Rattle.std.proofs.lemmas.Bool.{cases_eq, cases_lt}
use Rattle.std.proofs.lemmas.Option.{slice_get_within}
use Rattle.mg_word.proofs.Members.{both_false}
use Rattle.key_watch.specs.declared.owner.Owner.{Owner}
use Rattle.key_watch.specs.Arriving.{Arrives, IsSent, IsUpTo, IsVisiting, owner_joined}
use Rattle.key_watch.specs.Owned.{Owned}
use Rattle.key_watch.specs.Owners.{least_with}
use Rattle.key_watch.specs.Watching.{Has, HaveArrived, IsChained, IsWaiting, came, chain_of, has_arrived, is_by, missing_in}
use Rattle.key_watch.proofs.Comings.{none_missing, one_missing}
use Rattle.key_watch.proofs.Membership.{get_set_other, get_set_same, has_last, has_left, has_there, length-slice_set, same_some}
use Rattle.key_watch.proofs.OwnerOrder.{from_either, up_to_before, up_to_more}

-- the set, and a key of it that is missing
record IsMissing (sets : List (Owned ℕ)) (places : List (Option ℕ)) (key set other : ℕ) : Type 0 where
  pub one : Owned ℕ
  pub is : slice_get sets set ≡ Some one
  pub has : Has one.keys other
  pub away : has_arrived places key other ≡ false

missing_there : (sets : List (Owned ℕ)) (places : List (Option ℕ)) (key set other : ℕ) → option_and_then (λ (one : Owned ℕ). missing_in places key one.keys) (slice_get sets set) ≡ Some other → IsMissing sets places key set other
missing_there sets places key set other e = by (slice_get sets set) refl e
  where
    by : (found : Option (Owned ℕ)) → slice_get sets set ≡ found → option_and_then (λ (one : Owned ℕ). missing_in places key one.keys) found ≡ Some other → IsMissing sets places key set other
    by None is e = let bad : ⊥ = cc in absurd bad
    by (Some one) is e = let more = one_missing places key one.keys other e in record { one = one; is = is; has = more.0; away = more.1 }

none_came : (one : Option ℕ) → is_some one ≡ false → one ≡ None
none_came None e = refl
none_came (Some at) e = absurd (true≢false e)

by_none : (one other : Option ℕ) → other ≡ None → is_by one other ≡ true
by_none one other e = ap (is_by one) e

module _ (sets : List (Owned ℕ)) (waits : List (Option ℕ)) (chains : List (List ℕ)) (places : List (Option ℕ)) (key count : ℕ) (before least : Option Owner) (visiting : IsVisiting sets waits chains places key count before least) where
  module _ (set : ℕ) (here : slice_get (chain_of chains key) count ≡ Some set) where
    pub in_chain : count < length (chain_of chains key)
    in_chain = slice_get_within (chain_of chains key) count set here

    module _ (other : ℕ) (missing : option_and_then (λ (one : Owned ℕ). missing_in places key one.keys) (slice_get sets set) ≡ Some other) where
      there : IsMissing sets places key set other
      there = missing_there sets places key set other missing

      pub other_known : other < length chains
      other_known = visiting.waiting.known set there.one there.is other there.has

      pub other_apart : key ≢ other
      other_apart e = true≢false (sym (eq-eqb other key (sym e)) ∙ (both_false (nat_eq other key) (is_some (came places other)) there.away).0)

      never_came : came places other ≡ None
      never_came = none_came (came places other) (both_false (nat_eq other key) (is_some (came places other)) there.away).1

      pub sends : (waits' : List (Option ℕ)) (chains' : List (List ℕ)) → IsSent waits chains key count set other waits' chains' → IsVisiting sets waits' chains' places key count before least
      sends waits' chains' sent = record {
        waiting = record {
          each = each;
          known = λ at one is k has. subst (λ n. k < n) (sym sent.sized) (visiting.waiting.known at one is k has);
          sized = (let size : length waits' ≡ length waits = ap length sent.waiting ∙ length-slice_set waits set (Some other) in let old = visiting.waiting.sized in omega (arith, size, old));
        };
        visited = record { each = λ place at one small is at_is. visiting.visited.each place at one small (sym (sent.before place small) ∙ is) at_is };
        least = visiting.least;
      }
        where
          chained : (at : ℕ) (wait : Option ℕ) → at ≢ set → IsChained chains at wait → IsChained chains' at wait
          chained at None apart old = tt
          chained at (Some k) apart old = elim (cases_eq k key) [
            | inl same ↦
                subst (λ n. Has (chain_of chains' n) at) (sym same) (sent.left at (λ e. apart (same_some at set (sym e ∙ here))) (subst (λ n. Has (chain_of chains n) at) same old))
            | inr far ↦ elim (cases_eq k other) [
              | inl same ↦
                  subst (λ n. Has (chain_of chains' n) at) (sym same)
                  (subst (λ xs. Has xs at) (sym sent.gained) (has_left (chain_of chains other) (set ∷ []) at (subst (λ n. Has (chain_of chains n) at) same old)))
              | inr away ↦ subst (λ xs. Has xs at) (sym (sent.others k far away)) old
            ]
          ]

          each : (at : ℕ) (one : Owned ℕ) (wait : Option ℕ) → slice_get sets at ≡ Some one → slice_get waits' at ≡ Some wait → IsWaiting places one.keys wait × IsChained chains' at wait
          each at one wait is waits_is = elim (cases_eq at set) [
            | inl same ↦
                let own : there.one ≡ one = same_some there.one one (sym there.is ∙ (ap (slice_get sets) (sym same) ∙ is)) in
                let small = slice_get_within sets set there.one there.is in
                let size = visiting.waiting.sized in
                let now : Some other ≡ wait = same_some (Some other) wait (sym (get_set_same waits set (Some other) (omega (arith, small, size))) ∙ (ap (λ xs. slice_get xs set) (sym sent.waiting) ∙ (ap (slice_get waits') (sym same) ∙ waits_is))) in
                let waiting : IsWaiting places one.keys (Some other) = (subst (λ (o : Owned ℕ). Has o.keys other) own there.has, λ k has. by_none (came places k) (came places other) never_came) in
                let chain : Has (chain_of chains' other) at = subst (λ n. Has (chain_of chains' other) n) (sym same) (subst (λ xs. Has xs set) (sym sent.gained) (has_last (chain_of chains other) set)) in
                subst (λ w. IsWaiting places one.keys w × IsChained chains' at w) now (waiting, chain)
            | inr apart ↦
                let old : slice_get waits at ≡ Some wait = sym (get_set_other waits set at (Some other) apart) ∙ (ap (λ xs. slice_get xs at) (sym sent.waiting) ∙ waits_is) in
                let both = visiting.waiting.each at one wait is old in
                (both.0, chained at wait apart both.1)
          ]

    pub stays : option_and_then (λ (one : Owned ℕ). missing_in places key one.keys) (slice_get sets set) ≡ None → IsVisiting sets waits chains places key (count + 1) before (owner_joined least (slice_get sets set))
    stays none = by (slice_get sets set) refl none
      where
        nothing_there : (one : Owned ℕ) → slice_get sets set ≡ Some one → slice_get sets set ≡ None → ⊥
        nothing_there one e f = cc

        by : (found : Option (Owned ℕ)) → slice_get sets set ≡ found → option_and_then (λ (one : Owned ℕ). missing_in places key one.keys) found ≡ None → IsVisiting sets waits chains places key (count + 1) before (owner_joined least found)
        by None is e = record {
          waiting = visiting.waiting;
          visited = record {
            each = λ place at one small at_is there. elim (cases_lt place count) [
              | inl less ↦ visiting.visited.each place at one less at_is there
              | inr more ↦
                  let last : place ≡ count = omega (arith, small, more) in
                  let same : set ≡ at = same_some set at (sym here ∙ (ap (slice_get (chain_of chains key)) (sym last) ∙ at_is)) in
                  absurd (nothing_there one (ap (slice_get sets) same ∙ there) is)
            ];
          };
          least = visiting.least;
        }
        by (Some found) is e = record {
          waiting = visiting.waiting;
          visited = record {
            each = λ place at one small at_is there. elim (cases_lt place count) [
              | inl less ↦ (let old = visiting.visited.each place at one less at_is there in (old.0, up_to_before least found.owner one.owner old.1))
              | inr more ↦
                  let last : place ≡ count = omega (arith, small, more) in
                  let same : set ≡ at = same_some set at (sym here ∙ (ap (slice_get (chain_of chains key)) (sym last) ∙ at_is)) in
                  let own : found ≡ one = same_some found one (sym is ∙ (ap (slice_get sets) same ∙ there)) in
                  subst (λ (o : Owned ℕ). HaveArrived places key o.keys × IsUpTo (Some (least_with least found.owner)) o.owner) own (none_missing places key found.keys e, up_to_more least found.owner)
            ];
          };
          least = record {
            from = λ owner e'. elim (from_either least found.owner owner (same_some (least_with least found.owner) owner e')) [
              | inl old ↦ visiting.least.from owner old
              | inr new ↦ inr (record { place = set; set = found; is = is; arrived = none_missing places key found.keys e; owned = new })
            ];
            up_to = λ owner e'. up_to_before least found.owner owner (visiting.least.up_to owner e');
          };
        }

  pub ends : slice_get (chain_of chains key) count ≡ None → Arrives sets waits places key before least
  ends none = record {
    least = visiting.least;
    each = λ at set is waits_is.
        let both = visiting.waiting.each at set (Some key) is waits_is in
        let (place, there) = has_there (chain_of chains key) at both.1 in
        elim (cases_lt place count) [
          | inl less ↦ visiting.visited.each place at set less there is
          | inr more ↦ absurd (past (chain_of chains key) count place none more at there)
        ];
  }
    where
      past : (chain : List ℕ) (count place : ℕ) → slice_get chain count ≡ None → count ≤ place → (at : ℕ) → slice_get chain place ≡ Some at → ⊥
      past [] count place e more at there = cc
      past (x ∷ xs) zero place e more at there = let bad : Some x ≡ None = e in cc
      past (x ∷ xs) (suc count) zero e more at there = omega (arith, more)
      past (x ∷ xs) (suc count) (suc place) e more at there = past xs count place e (omega (arith, more)) at there
