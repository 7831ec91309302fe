-- Each token and each fault stands at its place.
use Rattle.std.proofs.Common.{◌≡◌, inl, inr, ℕ, zero, suc, ◌+◌, ◌≤◌, ◌<◌, Bool, true, false, cond, ◌==◌, count_by, List, [], ◌∷◌, ◌++◌, length, take, drop, refl, ap, sym, subst, ◌∙◌, arith, append_assoc, length-append, length-take, length-drop, Option, Some, None}
use Rattle.std.proofs.lemmas.Bool.{eqb-true, not_from_false}
use Rattle.std.proofs.lemmas.List.{append-nil, take-append-drop, drop-drop}
use Rattle.std.proofs.lemmas.List.Sums.{sum_by-append}
use Rattle.ascii_text.specs.Bytes.{is_in_line}
use Rattle.tptp_lexer.specs.Pieces.{piece_of}
use Rattle.tptp_lexer.specs.Spots.{first_spot, past, passed, spot_at, IsPlace}
use Rattle.tptp_lexer.specs.Tokens.{Lexed, lexed_at, tokens_of}
use Rattle.tptp_lexer.specs.Forms.{Each}
use Rattle.tptp_lexer.specs.Lines.{IsPlaceBehind, ArePlaced}
use Rattle.tptp_lexer.specs.Faults.{end_of, IsFaultOf}
use Rattle.tptp_lexer.specs.Cuts.{IsBlank}
use Rattle.tptp_lexer.proofs.FaultPieces.{IsFaulty, piece-faulty}
use Rattle.tptp_lexer.specs.declared.piece.Piece.{Piece}
use Rattle.tptp_lexer.specs.declared.piece.Piece.TheVariants.{Blank, Lexeme, Fault, End}
use Rattle.tptp_lexer.specs.declared.spot.Spot.{Spot}
use Rattle.tptp_lexer.specs.declared.token.LexKind.{LexKind}
use Rattle.tptp_lexer.specs.declared.token.LexFault.{LexFault}
use Rattle.tptp_lexer.specs.declared.token.Token.{Token}
use Rattle.tptp_lexer.proofs.CutLaw.{gap-more}
use Rattle.tptp_lexer.proofs.PieceForms.{IsRight, piece-right}
use Rattle.tptp_lexer.proofs.Within.{IsWithin, piece-within}
use Rattle.tptp_lexer.proofs.Places.{passed-nil, passed-cons}
use Rattle.tptp_lexer.proofs.Starts.{IsAt-start, left_of-start}
use Rattle.tptp_lexer.proofs.Stretches.{IsStretch, stretch-place, stretch-blank, stretch-lexeme, stretch-fault, lexed_at-end}

-- a byte more
each-push : (test : ℕ → Bool) (bytes : List ℕ) (b : ℕ) → Each test bytes → test b ≡ true → Each test (bytes ++ b ∷ [])
each-push test [] b each e = (e, tt)
each-push test (c ∷ bytes) b each e = (each.0, each-push test bytes b each.1 e)

count-push : (bytes : List ℕ) (b : ℕ) → count_by (λ c. c == 10) (bytes ++ b ∷ []) ≡ count_by (λ c. c == 10) bytes + cond (b == 10) 1 0
count-push bytes b =
    let both = sum_by-append (λ c. cond (c == 10) 1 0) bytes (b ∷ []) in
    let last : count_by (λ c. c == 10) (b ∷ []) ≡ 0 + cond (b == 10) 1 0 = refl in
    omega (arith, both, last)

-- the place counts what is before it
abbrev pub IsSpotBehind : List ℕ → Spot → Type 0
IsSpotBehind bytes spot = IsPlaceBehind bytes spot.line spot.column

behind-past : (bytes : List ℕ) (spot : Spot) (b : ℕ) → IsSpotBehind bytes spot → IsSpotBehind (bytes ++ b ∷ []) (past spot b)
behind-past bytes spot b here = by (b == 10) refl
  where
    by : (t : Bool) → b == 10 ≡ t → IsPlaceBehind (bytes ++ b ∷ []) (cond t (spot.line + 1) spot.line) (cond t 1 (spot.column + 1))
    by true e =
        let is : b ≡ 10 = eqb-true b 10 e in
        let count : count_by (λ c. c == 10) (bytes ++ b ∷ []) ≡ count_by (λ c. c == 10) bytes + 1 = count-push bytes b ∙ ap (λ t. count_by (λ c. c == 10) bytes + cond t 1 0) e in
        record {
          line_is = omega (arith, here.line_is, count);
          lines = bytes ++ b ∷ [];
          part = [];
          cut = sym (append-nil (bytes ++ b ∷ []));
          whole = inr (bytes, ap (λ c. bytes ++ c ∷ []) is);
          in_line = tt;
          column_is = refl;
        }
    by false e =
        let count : count_by (λ c. c == 10) (bytes ++ b ∷ []) ≡ count_by (λ c. c == 10) bytes + 0 = count-push bytes b ∙ ap (λ t. count_by (λ c. c == 10) bytes + cond t 1 0) e in
        record {
          line_is = omega (arith, here.line_is, count);
          lines = here.lines;
          part = here.part ++ b ∷ [];
          cut = ap (λ l. l ++ b ∷ []) here.cut ∙ append_assoc here.lines here.part (b ∷ []);
          whole = here.whole;
          in_line = each-push is_in_line here.part b here.in_line (not_from_false (b == 10) e);
          column_is = omega (arith, here.column_is, length-append here.part (b ∷ []));
        }

behind-passed : (done bytes : List ℕ) (spot : Spot) → IsSpotBehind done spot → IsSpotBehind (done ++ bytes) (passed spot bytes)
behind-passed done [] spot here = rw (append-nil done, passed-nil spot) here
behind-passed done (b ∷ bs) spot here =
    let whole : (done ++ b ∷ []) ++ bs ≡ done ++ b ∷ bs = append_assoc done (b ∷ []) bs in
    rw (← whole, passed-cons spot b bs) (behind-passed (done ++ b ∷ []) bs (past spot b) (behind-past done spot b here))

behind-first : IsSpotBehind [] first_spot
behind-first = record { line_is = refl; lines = []; part = []; cut = refl; whole = inl refl; in_line = tt; column_is = refl }

-- the place of a byte counts the bytes before it
pub spot_at-counts : (bytes : List ℕ) (offset : ℕ) → IsSpotBehind (take offset bytes) (spot_at bytes offset)
spot_at-counts bytes offset = behind-passed [] (take offset bytes) first_spot behind-first

-- and so does each place of a text
pub place-counts : (bytes : List ℕ) (spot : Spot) → IsPlace bytes spot → IsSpotBehind (take spot.offset bytes) spot
place-counts bytes spot placed = subst (IsSpotBehind (take spot.offset bytes)) (sym placed.counted) (spot_at-counts bytes spot.offset)

-- the tokens and the fault behind so many bytes are where they are said to be
abbrev pub IsAllPlaced : List ℕ → ℕ → Lexed → Type 0
IsAllPlaced bytes offset lexed = ArePlaced bytes lexed.tokens × IsFaultOf bytes (end_of offset lexed.tokens) lexed.fault

-- white space or a comment before what comes
fault-blank : (bytes : List ℕ) (offset : ℕ) (text : List ℕ) (next : ℕ) → next ≡ offset + length text → drop offset bytes ≡ text ++ drop next bytes → IsBlank text (drop next bytes)
    → (tokens : List Token) (fault : Option LexFault) → IsFaultOf bytes (end_of next tokens) fault → IsFaultOf bytes (end_of offset tokens) fault
fault-blank bytes offset text next there cut blank (token ∷ tokens) fault stands = stands
fault-blank bytes offset text next there cut blank [] None stands = tt
fault-blank bytes offset text next there cut blank [] (Some fault) stands =
    let size : next + length stands.gap + stands.n ≡ offset + length (text ++ stands.gap) + stands.n = omega (arith, there, length-append text stands.gap) in
    record {
      gap = text ++ stands.gap;
      after = stands.after;
      cut = cut ∙ ap (λ l. text ++ l) stands.cut ∙ sym (append_assoc text stands.gap stands.after);
      passed_over = gap-more text stands.gap stands.after (subst (IsBlank text) stands.cut blank) stands.passed_over;
      n = stands.n;
      stands = stands.stands;
      within = stands.within;
      place = subst (λ m. IsPlaceBehind (take m bytes) fault.line fault.column) size stands.place;
    }

-- the same of all that comes
blank-placed : (bytes : List ℕ) (spot : Spot) (n : ℕ) (next : ℕ) → n ≤ length (drop spot.offset bytes) → next ≡ spot.offset + n → piece_of (drop spot.offset bytes) ≡ Blank n → (lexed : Lexed) → IsAllPlaced bytes next lexed → IsAllPlaced bytes spot.offset lexed
blank-placed bytes spot n next fits there piece lexed placed =
    let rest = drop spot.offset bytes in
    let left : drop n rest ≡ drop next bytes = drop-drop n spot.offset bytes ∙ ap (λ m. drop m bytes) (sym there) in
    let blank : IsBlank (take n rest) (drop n rest) = subst (IsRight rest) piece (piece-right rest) in
    let size : next ≡ spot.offset + length (take n rest) = omega (arith, there, fits, length-take n rest) in
    let cut : rest ≡ take n rest ++ drop next bytes = sym (take-append-drop n rest) ∙ ap (λ l. take n rest ++ l) left in
    (placed.0, fault-blank bytes spot.offset (take n rest) next size cut (subst (IsBlank (take n rest)) left blank) lexed.tokens lexed.fault placed.1)

stretch-of : (bytes : List ℕ) (spot : Spot) (n : ℕ) → IsPlace bytes spot → n ≤ length (drop spot.offset bytes) → IsStretch bytes spot (drop spot.offset bytes) (take n (drop spot.offset bytes)) n
stretch-of bytes spot n placed fits = record { placed = placed; rest_is = refl; text_is = refl; fits = fits }

-- the place behind the first n bytes that are left
abbrev next_spot : List ℕ → Spot → ℕ → Spot
next_spot bytes spot n = passed spot (take n (drop spot.offset bytes))

fault-placed : (bytes : List ℕ) (spot : Spot) (kind : LexKind) (n : ℕ) → IsPlace bytes spot → piece_of (drop spot.offset bytes) ≡ Fault kind n → n < length (drop spot.offset bytes)
    → IsAllPlaced bytes spot.offset (lexed_at bytes spot.offset)
fault-placed bytes spot kind n placed piece below =
    let rest = drop spot.offset bytes in
    let stretch = stretch-of bytes spot n placed (omega (arith, below)) in
    let there = stretch-place bytes spot rest (take n rest) n stretch (next_spot bytes spot n) refl in
    let same : (next_spot bytes spot n).offset ≡ spot.offset + 0 + n = omega (arith, there.0) in
    subst (IsAllPlaced bytes spot.offset) (sym (stretch-fault bytes spot rest (take n rest) n stretch kind (sym piece))) (
      tt,
      record {
        gap = [];
        after = rest;
        cut = refl;
        passed_over = ([], tt, refl);
        n = n;
        stands = subst (IsFaulty rest) piece (piece-faulty rest);
        within = below;
        place = subst (λ m. IsSpotBehind (take m bytes) (next_spot bytes spot n)) same (place-counts bytes (next_spot bytes spot n) there.1);
      },
    )

all-placed : (size : ℕ) (bytes : List ℕ) (spot : Spot) → IsPlace bytes spot → length (drop spot.offset bytes) < size → IsAllPlaced bytes spot.offset (lexed_at bytes spot.offset)
all-placed zero bytes spot placed le = absurd (omega arith)
all-placed (suc size) bytes spot placed le = by (piece_of (drop spot.offset bytes)) refl (piece-within (drop spot.offset bytes)) (λ next there shorter. all-placed size bytes next there shorter)
  where
    rest : List ℕ
    rest = drop spot.offset bytes

    next : ℕ → ℕ
    next n = (next_spot bytes spot n).offset

    there : (n : ℕ) → n ≤ length rest → (next n ≡ spot.offset + n) × IsPlace bytes (next_spot bytes spot n)
    there n fits = stretch-place bytes spot rest (take n rest) n (stretch-of bytes spot n placed fits) (next_spot bytes spot n) refl

    behind : (n : ℕ) → 0 < n → n ≤ length rest → ((later : Spot) → IsPlace bytes later → length (drop later.offset bytes) < size → IsAllPlaced bytes later.offset (lexed_at bytes later.offset))
        → IsAllPlaced bytes (next n) (lexed_at bytes (next n))
    behind n some fits more =
        more (next_spot bytes spot n) (there n fits).1
        (omega (arith, (there n fits).0, le, some, fits, length-drop spot.offset bytes, length-drop (next n) bytes))

    by : (piece : Piece) → piece_of rest ≡ piece → IsWithin (length rest) piece
        → ((later : Spot) → IsPlace bytes later → length (drop later.offset bytes) < size → IsAllPlaced bytes later.offset (lexed_at bytes later.offset))
        → IsAllPlaced bytes spot.offset (lexed_at bytes spot.offset)
    by (Blank n) piece within more =
        subst (IsAllPlaced bytes spot.offset)
        (sym (stretch-blank bytes spot rest (take n rest) n (stretch-of bytes spot n placed within.1) (next_spot bytes spot n) refl (sym piece)))
        (blank-placed bytes spot n (next n) within.1 (there n within.1).0 piece (lexed_at bytes (next n)) (behind n within.0 within.1 more))
    by (Lexeme kind n) piece within more =
        let later = behind n within.0 within.1 more in
        let stop : next n ≡ spot.offset + length (take n rest) = omega (arith, (there n within.1).0, within.1, length-take n rest) in
        subst (IsAllPlaced bytes spot.offset)
        (sym (stretch-lexeme bytes spot rest (take n rest) n (stretch-of bytes spot n placed within.1) (next_spot bytes spot n) refl kind (sym piece)))
        ((place-counts bytes spot placed, later.0), subst (λ m. IsFaultOf bytes (end_of m (lexed_at bytes (next n)).tokens) (lexed_at bytes (next n)).fault) stop later.1)
    by (Fault kind n) piece within more = fault-placed bytes spot kind n placed piece within
    by End piece within more = subst (IsAllPlaced bytes spot.offset) (sym (lexed_at-end bytes spot rest placed refl (sym piece))) (tt, tt)

-- the tokens and the fault of a text are where they are said to be
pub tokens-placed : (bytes : List ℕ) → IsAllPlaced bytes 0 (tokens_of bytes)
tokens-placed bytes =
    subst (IsAllPlaced bytes 0) (left_of-start bytes) (all-placed (suc (length bytes)) bytes first_spot (IsAt-start bytes).placed (omega arith))
