-- One list of tokens, and one end or fault, keep the laws for a text.
use Rattle.std.proofs.Common.{◌≡◌, ℕ, ◌+◌, true≢false, List, [], ◌∷◌, length, take, Option, Some, None, refl, sym, ap, subst, ◌∙◌}
use Rattle.std.specs.Option.{is_some}
use Rattle.tptp_lexer.specs.Cuts.{IsCut}
use Rattle.tptp_lexer.specs.Lines.{IsPlaceBehind, ArePlaced}
use Rattle.tptp_lexer.specs.Faults.{FaultStands, end_of, StandsBehind, IsFaultOf}
use Rattle.tptp_lexer.specs.Tokens.{Lexed, tokens_of}
use Rattle.tptp_lexer.specs.declared.token.Token.{Token}
use Rattle.tptp_lexer.specs.declared.token.LexFault.{LexFault}
use Rattle.tptp_lexer.proofs.CutLaw.{tokens-cut}
use Rattle.tptp_lexer.proofs.LineLaw.{tokens-placed}
use Rattle.token_laws.specs.Solutions.{AreTokensOf}
use Rattle.token_laws.proofs.Gaps.{gap-one, rest-one}
use Rattle.token_laws.proofs.Solid.{fault-solid}
use Rattle.token_laws.proofs.OneFault.{stands-one}
use Rattle.token_laws.proofs.OnePlace.{place-one}
use Rattle.token_laws.proofs.OneNext.{IsSameNext, next-one, ends-token, ends-one}

token-one : (whole : List ℕ) (token other : Token) (after left : List ℕ) → IsSameNext token other after left
    → IsPlaceBehind (take token.start whole) token.line token.column → IsPlaceBehind (take other.start whole) other.line other.column → token ≡ other
token-one whole token other after left same place stands =
    let both = place-one (take other.start whole) token.line token.column other.line other.column (subst (λ n. IsPlaceBehind (take n whole) token.line token.column) same.start place) stands in
    λ i. record { kind = same.kind i; start = same.start i; end = same.stop i; line = both.0 i; column = both.1 i; plain = same.plain i }

tokens-one : (whole : List ℕ) (tokens others : List Token) (offset : ℕ) (bytes : List ℕ) (fault other : Option LexFault) → IsCut offset bytes tokens fault → IsCut offset bytes others other
    → ArePlaced whole tokens → ArePlaced whole others → (tokens ≡ others) × (is_some fault ≡ is_some other)
tokens-one whole [] [] offset bytes fault other cut same placed stands = (refl, ends-one bytes fault other cut same)
tokens-one whole [] (token ∷ others) offset bytes fault other cut (after, next, more) placed stands = absurd (ends-token offset bytes fault token after cut next)
tokens-one whole (token ∷ tokens) [] offset bytes fault other (after, next, more) same placed stands = absurd (ends-token offset bytes other token after same next)
tokens-one whole (token ∷ tokens) (found ∷ others) offset bytes fault other (after, next, more) (left, also, rest) placed stands =
    let one = next-one offset bytes token found after left next also in
    let first = token-one whole token found after left one placed.0 stands.0 in
    let moved = subst (λ l. IsCut found.end l tokens fault) one.behind (subst (λ n. IsCut n after tokens fault) one.stop more) in
    let later = tokens-one whole tokens others found.end left fault other moved rest placed.1 stands.1 in
    (λ i. first i ∷ later.0 i, later.1)

behind-one : (whole : List ℕ) (offset : ℕ) (fault other : LexFault) → StandsBehind whole offset fault → StandsBehind whole offset other → fault ≡ other
behind-one whole offset fault other stands same =
    let cut = sym stands.cut ∙ same.cut in
    let solid = fault-solid fault.kind stands.after stands.n stands.stands in
    let also = fault-solid other.kind same.after same.n same.stands in
    let gap = gap-one stands.gap stands.after same.gap same.after stands.passed_over same.passed_over solid also cut in
    let rest = rest-one stands.gap stands.after same.gap same.after gap cut in
    let kind = stands-one fault.kind other.kind same.after stands.n same.n (subst (λ l. FaultStands fault.kind l stands.n) rest stands.stands) same.stands in
    let size : offset + length stands.gap + stands.n ≡ offset + length same.gap + same.n = (λ i. offset + length (gap i) + kind.1 i) in
    let both = place-one (take (offset + length same.gap + same.n) whole) fault.line fault.column other.line other.column
    (subst (λ n. IsPlaceBehind (take n whole) fault.line fault.column) size stands.place) same.place in
    λ i. record { kind = kind.0 i; line = both.0 i; column = both.1 i }

fault-one : (whole : List ℕ) (offset : ℕ) (fault other : Option LexFault) → is_some fault ≡ is_some other → IsFaultOf whole offset fault → IsFaultOf whole offset other → fault ≡ other
fault-one whole offset None None some stands same = refl
fault-one whole offset None (Some other) some stands same = absurd (true≢false (sym some))
fault-one whole offset (Some fault) None some stands same = absurd (true≢false some)
fault-one whole offset (Some fault) (Some other) some stands same = ap Some (behind-one whole offset fault other stands same)

pub list-one : (bytes : List ℕ) (one other : Lexed) → AreTokensOf bytes one → AreTokensOf bytes other → one ≡ other
list-one bytes one other keeps same =
    let tokens = tokens-one bytes one.tokens other.tokens 0 bytes one.fault other.fault keeps.cut same.cut keeps.placed same.placed in
    let fault = fault-one bytes (end_of 0 other.tokens) one.fault other.fault tokens.1 (subst (λ l. IsFaultOf bytes (end_of 0 l) one.fault) tokens.0 keeps.faulty) same.faulty in
    λ i. record { tokens = tokens.0 i; fault = fault i }

pub scan-keeps : (bytes : List ℕ) → AreTokensOf bytes (tokens_of bytes)
scan-keeps bytes = let placed = tokens-placed bytes in record { cut = tokens-cut bytes; placed = placed.0; faulty = placed.1 }
