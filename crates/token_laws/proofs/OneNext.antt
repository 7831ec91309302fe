-- One token comes next, or one end.
use Rattle.std.proofs.Common.{◌≡◌, ◌⊎◌, inl, inr, ℕ, ◌+◌, ◌<◌, Bool, true, false, List, [], ◌∷◌, ◌++◌, length, Option, Some, None, refl, sym, ap, subst, ◌∙◌, arith}
use Rattle.std.specs.Option.{is_some}
use Rattle.std.proofs.lemmas.List.{append-nil}
use Rattle.tptp_lexer.specs.Forms.{HasForm, IsPlain, IsToken}
use Rattle.tptp_lexer.specs.Cuts.{IsGap, NoOpening, IsLongest, IsNext, IsStuck, EndsBy}
use Rattle.tptp_lexer.specs.declared.token.Token.{Token}
use Rattle.tptp_lexer.specs.declared.token.LexKind.{LexKind}
use Rattle.tptp_lexer.specs.declared.token.LexKind.TheVariants.{BadByte, OpenQuote, BadEscape, OpenComment}
use Rattle.tptp_lexer.specs.declared.token.LexFault.{LexFault}
use Rattle.tptp_lexer.proofs.OneKind.{one-kind}
use Rattle.tptp_lexer.proofs.CutLaw.{form-some}
use Rattle.token_laws.proofs.Fronts.{nothing, Longer, fronts}
use Rattle.token_laws.proofs.Gaps.{gap-one, rest-one}
use Rattle.token_laws.proofs.Solid.{solid-end}

longest-one : (text after other left more : List ℕ) → other ≡ text ++ more → after ≡ more ++ left → IsLongest text after → IsToken other → text ≡ other
longest-one text after other left [] is rest longest token = sym (is ∙ append-nil text)
longest-one text after other left (b ∷ more) is rest longest token =
    absurd (longest (b ∷ more) left rest (λ none. nothing (sym none)) (subst IsToken is token))

-- of two tokens at the front of a text, each the longest, both are one
text-one : (text after other left : List ℕ) → text ++ after ≡ other ++ left → IsLongest text after → IsLongest other left → IsToken text → IsToken other → text ≡ other
text-one text after other left e longest same token found = by (fronts text after other left e)
  where
    by : Longer text after other left ⊎ Longer other left text after → text ≡ other
    by (inl (more, is, rest)) = longest-one text after other left more is rest longest found
    by (inr (more, is, rest)) = sym (longest-one other left text after more is rest same token)

same-test : (one other : Bool) → (one ≡ true → other ≡ true) → (other ≡ true → one ≡ true) → one ≡ other
same-test true other to back = sym (to refl)
same-test false true to back = back refl
same-test false false to back = refl

-- two that come next agree in all but their places
pub record IsSameNext (token other : Token) (after left : List ℕ) : Type 0 where
  pub kind : token.kind ≡ other.kind
  pub start : token.start ≡ other.start
  pub stop : token.end ≡ other.end
  pub plain : token.plain ≡ other.plain
  pub behind : after ≡ left

pub next-one : (offset : ℕ) (bytes : List ℕ) (token other : Token) (after left : List ℕ) → IsNext offset bytes token after → IsNext offset bytes other left → IsSameNext token other after left
next-one offset bytes token other after left next same =
    let cut = sym next.cut ∙ same.cut in
    let gap = gap-one next.gap (next.text ++ after) same.gap (same.text ++ left) next.passed_over same.passed_over next.no_blank same.no_blank cut in
    let rest = rest-one next.gap (next.text ++ after) same.gap (same.text ++ left) gap cut in
    let text = text-one next.text after same.text left rest next.longest same.longest (token.kind, next.form) (other.kind, same.form) in
    let kind = one-kind token.kind other.kind same.text (subst (HasForm token.kind) text next.form) same.form in
    record {
      kind = kind;
      start = next.start ∙ ap (λ l. offset + length l) gap ∙ sym same.start;
      stop = next.stop ∙ (λ i. offset + length (gap i) + length (text i)) ∙ sym same.stop;
      plain = same-test token.plain other.plain
          (λ e. same.plain.1 (subst (λ t. IsPlain other.kind t) text (subst (λ k. IsPlain k next.text) kind (next.plain.0 e))))
          (λ e. next.plain.1 (subst (λ t. IsPlain token.kind t) (sym text) (subst (λ k. IsPlain k same.text) (sym kind) (same.plain.0 e))));
      behind = rest-one next.text after same.text left text rest;
    }

stuck-some : (kind : LexKind) → IsStuck kind [] → ⊥
stuck-some BadByte stuck = stuck.0 refl
stuck-some OpenQuote stuck = stuck.0 refl
stuck-some BadEscape stuck = stuck.0 refl
stuck-some OpenComment (inside, unclosed, is) = nothing is

stuck-token : (kind : LexKind) (text after : List ℕ) → IsStuck kind (text ++ after) → IsToken text → NoOpening (text ++ after) → ⊥
stuck-token BadByte text after stuck token never = stuck.1 text after refl token
stuck-token OpenQuote text after stuck token never = stuck.1 text after refl token
stuck-token BadEscape text after stuck token never = stuck.1 text after refl token
stuck-token OpenComment text after (inside, unclosed, is) token never = never inside is

none-left : (text after : List ℕ) → text ++ after ≡ [] → 0 < length text → ⊥
none-left [] after e some = absurd (omega (arith, some))
none-left (b ∷ text) after e some = nothing (sym e)

-- where a token comes next, neither the end nor a fault does
pub ends-token : (offset : ℕ) (bytes : List ℕ) (fault : Option LexFault) (token : Token) (after : List ℕ) → EndsBy bytes fault → IsNext offset bytes token after → ⊥
ends-token offset bytes None token after ends next =
    let cut = append-nil bytes ∙ next.cut in
    let gap = gap-one bytes [] next.gap (next.text ++ after) ends next.passed_over solid-end next.no_blank cut in
    let rest = rest-one bytes [] next.gap (next.text ++ after) gap cut in
    none-left next.text after (sym rest) (form-some token.kind next.text next.form)
ends-token offset bytes (Some fault) token after (gap, behind, is, passed_over, solid, stuck) next =
    let cut = sym is ∙ next.cut in
    let same = gap-one gap behind next.gap (next.text ++ after) passed_over next.passed_over solid next.no_blank cut in
    let rest = rest-one gap behind next.gap (next.text ++ after) same cut in
    stuck-token fault.kind next.text after (subst (IsStuck fault.kind) rest stuck) (token.kind, next.form) next.no_opening

ends-fault : (bytes : List ℕ) (fault : LexFault) → IsGap bytes [] → EndsBy bytes (Some fault) → ⊥
ends-fault bytes fault ends (gap, behind, is, passed_over, solid, stuck) =
    let cut = sym is ∙ sym (append-nil bytes) in
    let same = gap-one gap behind bytes [] passed_over ends solid solid-end cut in
    let rest = rest-one gap behind bytes [] same cut in
    stuck-some fault.kind (subst (IsStuck fault.kind) rest stuck)

-- a text ends, or it is stuck, and not both
pub ends-one : (bytes : List ℕ) (fault other : Option LexFault) → EndsBy bytes fault → EndsBy bytes other → is_some fault ≡ is_some other
ends-one bytes None None ends same = refl
ends-one bytes None (Some other) ends same = absurd (ends-fault bytes other ends same)
ends-one bytes (Some fault) None ends same = absurd (ends-fault bytes fault same ends)
ends-one bytes (Some fault) (Some other) ends same = refl
