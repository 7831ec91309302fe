-- Where neither white space nor a comment begins.
use Rattle.std.proofs.Common.{◌≡◌, ◌⊎◌, inl, inr, ℕ, false, ◌==◌, List, [], ◌∷◌, ◌++◌, refl, sym, ap, subst, ◌∙◌, append_assoc}
use Rattle.ascii_text.specs.Bytes.{is_white, is_visible}
use Rattle.tptp_lexer.specs.Cuts.{HoldsClose, IsBlank, NoBlank}
use Rattle.tptp_lexer.specs.Faults.{StandsInside, FaultStands}
use Rattle.tptp_lexer.specs.declared.token.LexKind.{LexKind}
use Rattle.tptp_lexer.specs.declared.token.LexKind.TheVariants.{BadByte, OpenQuote, BadEscape, OpenComment}
use Rattle.token_laws.proofs.Fronts.{heads, tails, nothing, tell, not-this}
use Rattle.token_laws.proofs.Gaps.{begun}

no-blank-text : (rest : List ℕ) → IsBlank [] rest → ⊥
no-blank-text rest (inl (b, white, is)) = nothing is
no-blank-text rest (inr (inl ((inside, each, is), ends))) = nothing is
no-blank-text rest (inr (inr (inside, none, is))) = nothing is

-- nothing begins at the end
pub solid-end : NoBlank []
solid-end [] rest e blank = no-blank-text rest blank
solid-end (b ∷ front) rest e blank = nothing e

byte-solid : (b : ℕ) (bytes : List ℕ) → is_white b ≡ false → b == 37 ≡ false → b == 47 ≡ false → NoBlank (b ∷ bytes)
byte-solid b bytes clear line block front rest e (inl (w, white, is)) =
    tell is_white w b white clear (heads (begun front (w ∷ []) rest is ∙ sym e))
byte-solid b bytes clear line block front rest e (inr (inl ((inside, each, is), ends))) =
    tell (λ x. x == 37) 37 b refl line (heads (begun front (37 ∷ inside) rest is ∙ sym e))
byte-solid b bytes clear line block front rest e (inr (inr (inside, none, is))) =
    tell (λ x. x == 47) 47 b refl block (heads (begun front (47 ∷ 42 ∷ (inside ++ 42 ∷ 47 ∷ [])) rest is ∙ sym e))

comment-solid : (inside : List ℕ) → (HoldsClose inside → ⊥) → NoBlank (47 ∷ 42 ∷ inside)
comment-solid inside unclosed front rest e (inl (w, white, is)) = tell is_white w 47 white refl (heads (begun front (w ∷ []) rest is ∙ sym e))
comment-solid inside unclosed front rest e (inr (inl ((within, each, is), ends))) = tell (λ x. x == 37) 37 47 refl refl (heads (begun front (37 ∷ within) rest is ∙ sym e))
comment-solid inside unclosed front rest e (inr (inr (within, none, is))) =
    unclosed (within, rest, sym (tails (tails (begun front (47 ∷ 42 ∷ (within ++ 42 ∷ 47 ∷ [])) rest is ∙ sym e))) ∙ append_assoc within (42 ∷ 47 ∷ []) rest)

quote-solid : (bytes : List ℕ) (quote : ℕ) (inside : List ℕ) → (quote ≡ 39) ⊎ (quote ≡ 34) → bytes ≡ quote ∷ inside → NoBlank bytes
quote-solid bytes quote inside (inl is) opened = subst NoBlank (sym (opened ∙ ap (λ q. q ∷ inside) is)) (byte-solid 39 inside refl refl refl)
quote-solid bytes quote inside (inr is) opened = subst NoBlank (sym (opened ∙ ap (λ q. q ∷ inside) is)) (byte-solid 34 inside refl refl refl)

inside-solid : (kind : LexKind) (bytes : List ℕ) (n : ℕ) → StandsInside kind bytes n → NoBlank bytes
inside-solid kind bytes n stands = quote-solid bytes stands.quote stands.inside stands.opens.is_quote stands.opens.opened

-- where a fault stands, nothing is passed over
pub fault-solid : (kind : LexKind) (bytes : List ℕ) (n : ℕ) → FaultStands kind bytes n → NoBlank bytes
fault-solid BadByte bytes n (inl (none, (b, rest, clear, hidden, is))) =
    subst NoBlank (sym is) (byte-solid b rest clear (not-this is_visible b 37 hidden refl) (not-this is_visible b 47 hidden refl))
fault-solid BadByte bytes n (inr stands) = inside-solid BadByte bytes n stands
fault-solid OpenQuote bytes n (none, quote, inside, opens, unclosed) = quote-solid bytes quote inside opens.is_quote opens.opened
fault-solid BadEscape bytes n stands = inside-solid BadEscape bytes n stands
fault-solid OpenComment bytes n (none, inside, unclosed, is) = subst NoBlank (sym is) (comment-solid inside unclosed)
