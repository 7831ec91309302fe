-- Where the name of a file is cut behind its last slash, no character is cut.
use Rattle.std.proofs.Common.{◌≡◌, ℕ, ◌+◌, ◌<◌, Bool, true, false, ◌==◌, if◌then◌else◌, List, [], ◌∷◌, length, drop, get_or, refl, sym, ap, ◌∙◌, arith}
use Rattle.std.proofs.lemmas.Bool.Decides.{nat_tests}
use Rattle.std.proofs.lemmas.List.{drop_more, length-drop}
use Rattle.std.proofs.lemmas.Str.{IsCharBoundary-start, IsCharBoundary-after_ascii}
use Rattle.std.specs.Str.{IsUtf8, IsCharBoundary}
use Rattle.cnf_reader.specs.Names.{slash, up_to_slash}

-- one byte on, the text may still be cut behind the last slash
cut_on : (name : List ℕ) (at so_far byte : ℕ) → IsUtf8 name → at < length name → get_or name at 0 ≡ byte → IsCharBoundary name so_far → IsCharBoundary name (if byte == slash then at + 1 else so_far)
cut_on name at so_far byte utf8 within is cut = chosen (byte == slash) refl
  where
    chosen : (b : Bool) → (byte == slash) ≡ b → IsCharBoundary name (if b then at + 1 else so_far)
    chosen true same = IsCharBoundary-after_ascii name at utf8 within (grind (arith, nat_tests))
    chosen false other = cut

cut_from : (name rest : List ℕ) (at so_far : ℕ) → IsUtf8 name → drop at name ≡ rest → IsCharBoundary name so_far → IsCharBoundary name (up_to_slash at so_far rest)
cut_from name [] at so_far utf8 left cut = cut
cut_from name (byte ∷ rest) at so_far utf8 left cut =
    let within : at < length name = omega (arith, length-drop at name, ap length left) in
    let step = sym (drop_more name at 0 within) ∙ left in
    cut_from name rest (at + 1) _ utf8 (ap (drop 1) step) (cut_on name at so_far byte utf8 within (ap (λ l. get_or l 0 0) step) cut)

-- a text may be cut behind its last slash
pub cut_behind_slash : (name : List ℕ) → IsUtf8 name → IsCharBoundary name (up_to_slash 0 0 name)
cut_behind_slash name utf8 = cut_from name name 0 0 utf8 refl (IsCharBoundary-start name utf8)
