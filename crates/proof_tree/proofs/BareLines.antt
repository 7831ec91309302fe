-- How the lines that begin with `%` are passed over.
use Rattle.std.proofs.Common.{◌≡◌, ◌≢◌, ℕ, ◌+◌, ◌<◌, Bool, true, false, true≢false, not, nat_eq, List, [], ◌∷◌, ◌++◌, length, drop, slice_index_or, refl, sym, ap, ◌∙◌, subst, eqb-true, eq-eqb, if◌then◌else◌}
use Rattle.std.proofs.lemmas.List.{drop_more}
use Rattle.proof_tree.specs.Bare.{start, kept, passed, bare_from, bare}
use Rattle.ascii_text.specs.Bytes.{is_in_line}
use Rattle.proof_tree.specs.FirstFaults.{has_no_feed, BeginsWithLine}
use Rattle.term_text.specs.Fronts.{begins_with}
use Rattle.mg_word.proofs.Members.{both_true, and_true}
use Rattle.ascii_text.proofs.Cuts.{stops}
use Rattle.term_text.proofs.Texts.{not_true}

no_feed : (byte : ℕ) → is_in_line byte ≡ true → nat_eq byte 10 ≡ false
no_feed byte is = not_true (nat_eq byte 10) is

kept_on : (byte : ℕ) (bytes : List ℕ) → nat_eq byte 10 ≡ false → bare_from kept (byte ∷ bytes) ≡ byte ∷ bare_from kept bytes
kept_on byte bytes is = ap (λ b. byte ∷ bare_from (if b then start else kept) bytes) is

passed_on : (byte : ℕ) (bytes : List ℕ) → nat_eq byte 10 ≡ false → bare_from passed (byte ∷ bytes) ≡ bare_from passed bytes
passed_on byte bytes is = ap (λ b. bare_from (if b then start else passed) bytes) is

kept_line : (line after : List ℕ) → has_no_feed line ≡ true → bare_from kept (line ++ 10 ∷ after) ≡ line ++ 10 ∷ bare after
kept_line [] after one = refl
kept_line (byte ∷ line) after one =
    let parts = both_true (is_in_line byte) (has_no_feed line) one in
    kept_on byte (line ++ 10 ∷ after) (no_feed byte parts.0) ∙ ap (λ l. byte ∷ l) (kept_line line after parts.1)

passed_line : (line after : List ℕ) → has_no_feed line ≡ true → bare_from passed (line ++ 10 ∷ after) ≡ bare after
passed_line [] after one = refl
passed_line (byte ∷ line) after one =
    let parts = both_true (is_in_line byte) (has_no_feed line) one in
    passed_on byte (line ++ 10 ∷ after) (no_feed byte parts.0) ∙ passed_line line after parts.1

kept_end : (line : List ℕ) → has_no_feed line ≡ true → bare_from kept line ≡ line
kept_end [] one = refl
kept_end (byte ∷ line) one =
    let parts = both_true (is_in_line byte) (has_no_feed line) one in
    kept_on byte line (no_feed byte parts.0) ∙ ap (λ l. byte ∷ l) (kept_end line parts.1)

passed_end : (line : List ℕ) → has_no_feed line ≡ true → bare_from passed line ≡ []
passed_end [] one = refl
passed_end (byte ∷ line) one =
    let parts = both_true (is_in_line byte) (has_no_feed line) one in
    passed_on byte line (no_feed byte parts.0) ∙ passed_end line parts.1

tested : (byte : ℕ) (bytes : List ℕ) (b : Bool) → begins_with (37 ∷ []) (byte ∷ bytes) ≡ b → nat_eq byte 37 ≡ b
tested byte bytes true is = eq-eqb byte 37 (sym (eqb-true 37 byte (both_true (nat_eq 37 byte) true is).0))
tested byte bytes false is = by (nat_eq byte 37) refl
  where
    by : (b : Bool) → nat_eq byte 37 ≡ b → b ≡ false
    by false other = refl
    by true same = absurd (true≢false (sym (and_true (nat_eq 37 byte) true (eq-eqb 37 byte (sym (eqb-true byte 37 same))) refl) ∙ is))

first_kept : (byte : ℕ) (bytes : List ℕ) → nat_eq byte 37 ≡ false → nat_eq byte 10 ≡ false → bare (byte ∷ bytes) ≡ byte ∷ bare_from kept bytes
first_kept byte bytes other one =
    ap (λ b. (if b then [] else byte ∷ []) ++ bare_from (if b then passed else (if nat_eq byte 10 then start else kept)) bytes) other ∙ ap (λ b. byte ∷ bare_from (if b then start else kept) bytes) one

first_passed : (byte : ℕ) (bytes : List ℕ) → nat_eq byte 37 ≡ true → bare (byte ∷ bytes) ≡ bare_from passed bytes
first_passed byte bytes is =
    ap (λ b. (if b then [] else byte ∷ []) ++ bare_from (if b then passed else (if nat_eq byte 10 then start else kept)) bytes) is

-- the line counts
pub line_kept : (line after : List ℕ) → has_no_feed line ≡ true → begins_with (37 ∷ []) (line ++ 10 ∷ after) ≡ false → BeginsWithLine (bare (line ++ 10 ∷ after)) line (bare after)
line_kept [] after one other = record { one = refl; split = refl }
line_kept (byte ∷ line) after one other =
    let parts = both_true (is_in_line byte) (has_no_feed line) one in
    record { one = one; split = first_kept byte (line ++ 10 ∷ after) (tested byte (line ++ 10 ∷ after) false other) (no_feed byte parts.0) ∙ ap (λ l. byte ∷ l) (kept_line line after parts.1) }

-- the line is passed over
pub line_passed : (line after : List ℕ) → has_no_feed line ≡ true → begins_with (37 ∷ []) (line ++ 10 ∷ after) ≡ true → bare (line ++ 10 ∷ after) ≡ bare after
line_passed [] after one is = absurd (true≢false (sym is))
line_passed (byte ∷ line) after one is =
    let parts = both_true (is_in_line byte) (has_no_feed line) one in
    first_passed byte (line ++ 10 ∷ after) (tested byte (line ++ 10 ∷ after) true is) ∙ passed_line line after parts.1

pub end_passed : (line : List ℕ) → has_no_feed line ≡ true → begins_with (37 ∷ []) line ≡ true → bare line ≡ []
end_passed [] one is = refl
end_passed (byte ∷ line) one is =
    let parts = both_true (is_in_line byte) (has_no_feed line) one in
    first_passed byte line (tested byte line true is) ∙ passed_end line parts.1

pub end_kept : (line : List ℕ) → (length line ≡ 0 → ⊥) → has_no_feed line ≡ true → begins_with (37 ∷ []) line ≡ false → (bare line ≢ []) × (has_no_feed (bare line) ≡ true)
end_kept [] some one other = absurd (some refl)
end_kept (byte ∷ line) some one other =
    let parts = both_true (is_in_line byte) (has_no_feed line) one in
    let is = first_kept byte line (tested byte line false other) (no_feed byte parts.0) ∙ ap (λ l. byte ∷ l) (kept_end line parts.1) in
    (λ none. nothing byte line (sym is ∙ none), ap has_no_feed is ∙ one)
  where
    nothing : (b : ℕ) (l : List ℕ) → b ∷ l ≡ [] → ⊥
    nothing b l same = cc

-- the byte behind a line is its line feed
pub feed_behind : (bytes : List ℕ) (count : ℕ) → count < length bytes → stops is_in_line (drop count bytes) ≡ true → drop count bytes ≡ 10 ∷ drop (count + 1) bytes
feed_behind bytes count within ends =
    let more = drop_more bytes count 0 within in
    more ∙ ap (λ b. b ∷ drop (count + 1) bytes) (feed_is (slice_index_or bytes count 0) (subst (λ l. stops is_in_line l ≡ true) more ends))
  where
    feed_is : (b : ℕ) → not (is_in_line b) ≡ true → b ≡ 10
    feed_is b is = eqb-true b 10 (twice (nat_eq b 10) is)
      where
        twice : (x : Bool) → not (not x) ≡ true → x ≡ true
        twice true is = refl
        twice false is = is
