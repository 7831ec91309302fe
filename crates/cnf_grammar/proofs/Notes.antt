-- Annotations lead on as they are spelled, whatever is kept of their tokens. P says what holds where these tokens were
-- read, the position is this one, and those tokens are left.
use Rattle.cnf_grammar.proofs.Common.{◌≡◌, ℕ, Bool, true, false, cond, not, ◌||◌, List, [], ◌∷◌, ◌++◌, Option, Some, None, refl, sym, ◌∙◌, ap, subst, append_assoc, append-nil, Bracket, Round, Square, State, Position, Shape, Punct, left_round, right_round, left_square, right_square, comma, is_mark, is_bracket, Balanced, no_tokens, then_token, then_group, Part, single, group, opening, closing, spell_balanced, spell_part, spell_parts, or_else, when, any_token, within}
use Rattle.cnf_grammar.proofs.Accepting.{position}

-- what is no bracket is none of the four marks
pub record IsPlain (s : Shape) : Type 0 where
  pub not_left_round : is_mark left_round s ≡ false
  pub not_right_round : is_mark right_round s ≡ false
  pub not_left_square : is_mark left_square s ≡ false
  pub not_right_square : is_mark right_square s ≡ false

pub none_of : (a b c d : Bool) → (a || b || c || d) ≡ false → (a ≡ false) × (b ≡ false) × (c ≡ false) × (d ≡ false)
none_of false false false false h = (refl, refl, refl, refl)
none_of true b c d h = cc
none_of false true c d h = cc
none_of false false true d h = cc
none_of false false false true h = cc

pub is_plain : (s : Shape) → is_bracket s ≡ false → IsPlain s
is_plain s h =
    let parts = none_of (is_mark left_round s) (is_mark right_round s) (is_mark left_square s) (is_mark right_square s) h in
    record { not_left_round = parts.0; not_right_round = parts.1; not_left_square = parts.2; not_right_square = parts.3 }

-- a test passed over, and one taken
pub skip_test : (Q : Option Position → Type 0) (test : Bool) (p : Position) (o : Option Position) → test ≡ false → Q o → Q (or_else test p o)
skip_test Q true p o h a = cc
skip_test Q false p o h a = a

pub take_test : (Q : Option Position → Type 0) (test : Bool) (p : Position) (o : Option Position) → test ≡ true → Q (Some p) → Q (or_else test p o)
take_test Q true p o h a = a
take_test Q false p o h a = cc

pub not_none : (Q : Option Position → Type 0) (test : Bool) (o : Option Position) → test ≡ false → Q o → Q (cond test None o)
not_none Q true o h a = cc
not_none Q false o h a = a

-- a token that is no bracket leads nowhere else
stays : (Q : Option Position → Type 0) (s : Shape) (p : Position) → is_bracket s ≡ false → Q (Some p) → Q (any_token p s)
stays Q s p h a =
    let plain = is_plain s h in
    skip_test Q (is_mark left_round s) (record p { brackets = Round ∷ p.brackets }) (or_else (is_mark left_square s) (record p { brackets = Square ∷ p.brackets }) (when (not (is_bracket s)) p)) plain.not_left_round
    (skip_test Q (is_mark left_square s) (record p { brackets = Square ∷ p.brackets }) (when (not (is_bracket s)) p) plain.not_left_square
    (take_test Q (not (is_bracket s)) p None (ap not h) a))

-- an opening bracket opens one
opens : (Q : Option Position → Type 0) (bracket : Bracket) (state : State) (level depth : ℕ) (brackets : List Bracket) → Q (Some (position state level depth (bracket ∷ brackets))) → Q (any_token (position state level depth brackets) (opening bracket))
opens Q Round state level depth brackets a = a
opens Q Square state level depth brackets a = a

-- within a bracket its own mark closes it
pub closes : (Q : Option Position → Type 0) (bracket : Bracket) (outer : List Bracket) (state : State) (level depth : ℕ) → Q (Some (position state level depth outer)) → Q (within bracket outer (position state level depth (bracket ∷ outer)) (Punct (closing bracket)))
closes Q Round outer state level depth a = a
closes Q Square outer state level depth a = a

-- any other token is passed over there
within-other : (Q : Option Position → Type 0) (bracket : Bracket) (outer : List Bracket) (s : Shape) (p : Position) → is_mark right_round s ≡ false → is_mark right_square s ≡ false → Q (any_token p s) → Q (within bracket outer p s)
within-other Q Round outer s p round square a = skip_test Q (is_mark right_round s) (record p { brackets = outer }) (any_token p s) round a
within-other Q Square outer s p round square a = skip_test Q (is_mark right_square s) (record p { brackets = outer }) (any_token p s) square a

pub not_right_round : (bracket : Bracket) → is_mark right_round (opening bracket) ≡ false
not_right_round Round = refl
not_right_round Square = refl

pub not_right_square : (bracket : Bracket) → is_mark right_square (opening bracket) ≡ false
not_right_square Round = refl
not_right_square Square = refl

pub not_comma : (bracket : Bracket) → is_mark comma (opening bracket) ≡ false
not_comma Round = refl
not_comma Square = refl

grouped : (acc : List Shape) (o c : Shape) (inside more : List Shape) → acc ++ (o ∷ (inside ++ (c ∷ more))) ≡ (((acc ++ o ∷ []) ++ inside) ++ c ∷ []) ++ more
grouped acc o c inside more = sym (append_assoc ((acc ++ o ∷ []) ++ inside) (c ∷ []) more ∙ (append_assoc (acc ++ o ∷ []) inside (c ∷ more) ∙ append_assoc acc (o ∷ []) (inside ++ (c ∷ more))))

-- within brackets a token leads on by the table there
abbrev pub GoesWithin : (List Shape → Option Position → List Shape → Type 0) → State → Type 0
GoesWithin P state = (acc : List Shape) (level depth : ℕ) (bracket : Bracket) (outer : List Bracket) (s : Shape) (tokens : List Shape) → P (acc ++ s ∷ []) (within bracket outer (position state level depth (bracket ∷ outer)) s) tokens → P acc (Some (position state level depth (bracket ∷ outer))) (s ∷ tokens)

-- from the position p, outside brackets, a token that ends nothing leads on as any token
abbrev pub GoesOutside : (List Shape → Option Position → List Shape → Type 0) → State → State → List Bracket → Type 0
GoesOutside P state from brackets = (acc : List Shape) (level depth : ℕ) (s : Shape) (tokens : List Shape) → is_mark comma s ≡ false → is_mark right_round s ≡ false → is_mark right_square s ≡ false → P (acc ++ s ∷ []) (any_token (position state level depth []) s) tokens → P acc (Some (position from level depth brackets)) (s ∷ tokens)

module _ (P : List Shape → Option Position → List Shape → Type 0) (state : State) (goes : GoesWithin P state) where
  pub notes-balanced : (inside : Balanced) (acc : List Shape) (level depth : ℕ) (bracket : Bracket) (outer : List Bracket) (rest : List Shape) → P (acc ++ spell_balanced inside) (Some (position state level depth (bracket ∷ outer))) rest → P acc (Some (position state level depth (bracket ∷ outer))) (spell_balanced inside ++ rest)
  notes-balanced no_tokens acc level depth bracket outer rest h = subst (λ u. P u (Some (position state level depth (bracket ∷ outer))) rest) (append-nil acc) h
  notes-balanced (then_token s plain more) acc level depth bracket outer rest h =
      let p = is_plain s plain in
      let here = position state level depth (bracket ∷ outer) in
      goes acc level depth bracket outer s (spell_balanced more ++ rest)
      (within-other (λ o. P (acc ++ s ∷ []) o (spell_balanced more ++ rest)) bracket outer s here p.not_right_round p.not_right_square
      (stays (λ o. P (acc ++ s ∷ []) o (spell_balanced more ++ rest)) s here plain
      (notes-balanced more (acc ++ s ∷ []) level depth bracket outer rest (subst (λ u. P u (Some here) rest) (sym (append_assoc acc (s ∷ []) (spell_balanced more))) h))))
  notes-balanced (then_group inner inside more) acc level depth bracket outer rest h =
      let here = position state level depth (bracket ∷ outer) in
      let there = position state level depth (inner ∷ (bracket ∷ outer)) in
      let acc1 = acc ++ opening inner ∷ [] in
      let acc2 = acc1 ++ spell_balanced inside in
      let acc3 = acc2 ++ Punct (closing inner) ∷ [] in
      let behind = Punct (closing inner) ∷ (spell_balanced more ++ rest) in
      let whole = (spell_balanced inside ++ Punct (closing inner) ∷ spell_balanced more) ++ rest in
      let last : P acc3 (Some here) (spell_balanced more ++ rest) =
      notes-balanced more acc3 level depth bracket outer rest (subst (λ u. P u (Some here) rest) (grouped acc (opening inner) (Punct (closing inner)) (spell_balanced inside) (spell_balanced more)) h) in
      let close : P acc2 (Some there) behind =
      goes acc2 level depth inner (bracket ∷ outer) (Punct (closing inner)) (spell_balanced more ++ rest)
      (closes (λ o. P acc3 o (spell_balanced more ++ rest)) inner (bracket ∷ outer) state level depth last) in
      let within_it : P acc1 (Some there) (spell_balanced inside ++ behind) = notes-balanced inside acc1 level depth inner (bracket ∷ outer) behind close in
      let same : spell_balanced inside ++ behind ≡ whole = sym (append_assoc (spell_balanced inside) (Punct (closing inner) ∷ spell_balanced more) rest) in
      goes acc level depth bracket outer (opening inner) whole
      (within-other (λ o. P acc1 o whole) bracket outer (opening inner) here (not_right_round inner) (not_right_square inner)
      (opens (λ o. P acc1 o whole) inner state level depth (bracket ∷ outer) (subst (λ u. P acc1 (Some there) u) same within_it)))

  pub notes-part : (from : State) (brackets : List Bracket) → GoesOutside P state from brackets → (part : Part) (acc : List Shape) (level depth : ℕ) (rest : List Shape) → P (acc ++ spell_part part) (Some (position state level depth [])) rest → P acc (Some (position from level depth brackets)) (spell_part part ++ rest)
  notes-part from brackets begins (single s plain apart) acc level depth rest h =
      let q = is_plain s plain in
      begins acc level depth s rest apart q.not_right_round q.not_right_square (stays (λ o. P (acc ++ s ∷ []) o rest) s (position state level depth []) plain h)
  notes-part from brackets begins (group inner inside) acc level depth rest h =
      let there = position state level depth (inner ∷ []) in
      let acc1 = acc ++ opening inner ∷ [] in
      let acc2 = acc1 ++ spell_balanced inside in
      let acc3 = acc2 ++ Punct (closing inner) ∷ [] in
      let whole = (spell_balanced inside ++ Punct (closing inner) ∷ []) ++ rest in
      let last : P acc3 (Some (position state level depth [])) rest =
      subst (λ u. P u (Some (position state level depth [])) rest) (grouped acc (opening inner) (Punct (closing inner)) (spell_balanced inside) [] ∙ append-nil acc3) h in
      let close : P acc2 (Some there) (Punct (closing inner) ∷ rest) =
      goes acc2 level depth inner [] (Punct (closing inner)) rest (closes (λ o. P acc3 o rest) inner [] state level depth last) in
      let within_it : P acc1 (Some there) (spell_balanced inside ++ Punct (closing inner) ∷ rest) = notes-balanced inside acc1 level depth inner [] (Punct (closing inner) ∷ rest) close in
      let same : spell_balanced inside ++ Punct (closing inner) ∷ rest ≡ whole = sym (append_assoc (spell_balanced inside) (Punct (closing inner) ∷ []) rest) in
      begins acc level depth (opening inner) whole (not_comma inner) (not_right_round inner) (not_right_square inner)
      (opens (λ o. P acc1 o whole) inner state level depth [] (subst (λ u. P acc1 (Some there) u) same within_it))

  pub notes-parts : GoesOutside P state state [] → (parts : List Part) (acc : List Shape) (level depth : ℕ) (rest : List Shape) → P (acc ++ spell_parts parts) (Some (position state level depth [])) rest → P acc (Some (position state level depth [])) (spell_parts parts ++ rest)
  notes-parts begins [] acc level depth rest h = subst (λ u. P u (Some (position state level depth [])) rest) (append-nil acc) h
  notes-parts begins (part ∷ more) acc level depth rest h =
      subst (λ u. P acc (Some (position state level depth [])) u) (sym (append_assoc (spell_part part) (spell_parts more) rest))
      (notes-part state [] begins part acc level depth (spell_parts more ++ rest)
      (notes-parts begins more (acc ++ spell_part part) level depth rest (subst (λ u. P u (Some (position state level depth [])) rest) (sym (append_assoc acc (spell_part part) (spell_parts more))) h)))
