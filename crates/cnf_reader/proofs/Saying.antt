-- What statements say one after another, one more at a time.
use Rattle.std.proofs.Common.{◌≡◌, ℕ, List, [], ◌∷◌, ◌++◌, length, map, refl, sym, ap, ◌∙◌, subst}
use Rattle.std.proofs.lemmas.List.{append-nil, append_assoc, map-append}
use Rattle.tptp_lexer.specs.declared.token.Token.{Token}
use Rattle.cnf_grammar.specs.Meaning.{meaning}
use Rattle.cnf_grammar.specs.Spelling.{spell_statement, spell}
use Rattle.cnf_grammar.specs.Trees.{Statement}
use Rattle.cnf_reader.specs.declared.kept.Kept.{Kept}
use Rattle.cnf_reader.specs.Files.{shapes_in, written_in, SaysOne, Says}
use Rattle.cnf_reader.specs.Meanings.{Written, shapes_of}
use Rattle.cnf_reader.specs.Parts.{Lower}
use Rattle.cnf_reader.specs.Reading.{Source, shape_in}
use Rattle.cnf_reader.specs.Rows.{NoFaultAt}

-- tokens have the same shapes with and without their places
pub shapes_same : (bytes : List ℕ) (tokens : List Token) → shapes_of (map (written_in bytes) tokens) ≡ shapes_in bytes tokens
shapes_same bytes [] = refl
shapes_same bytes (token ∷ tokens) = ap (λ more. shape_in bytes token ∷ more) (shapes_same bytes tokens)

module _ (lower : Lower) (source : Source) where
  -- with one more statement
  pub says_more : (kept : Kept) (tokens : List Written) (file : List Statement) (by_then : Kept) (own : List Written) (t : Statement) (next : Kept) → Says lower source kept tokens file by_then → spell_statement t ≡ shapes_of own
      → NoFaultAt (length by_then.clauses) source.selections (shapes_of own) → SaysOne lower source by_then own (meaning t) next → Says lower source kept (tokens ++ own) (file ++ t ∷ []) next
  says_more kept tokens [] by_then own t next (none, same) alone clear one =
      (own, [], ap (λ u. u ++ own) none ∙ sym (append-nil own), alone, subst (λ (k : Kept). NoFaultAt (length k.clauses) source.selections (shapes_of own)) same clear, next, subst (λ k. SaysOne lower source k own (meaning t) next) same one, (refl, refl))
  says_more kept tokens (u ∷ more) by_then own t next (first, rest, cut, spelled, free, then, said, further) alone clear one =
      (first, rest ++ own, ap (λ v. v ++ own) cut ∙ append_assoc first rest own, spelled, free, then, said, says_more then rest more by_then own t next further alone clear one)

  -- the statements spell the tokens
  pub says_spells : (kept : Kept) (tokens : List Written) (file : List Statement) (after : Kept) → Says lower source kept tokens file after → spell file ≡ shapes_of tokens
  says_spells kept tokens [] after (none, same) = sym (ap shapes_of none)
  says_spells kept tokens (t ∷ more) after (own, rest, cut, alone, free, next, one, further) =
      ap (λ u. u ++ spell more) alone ∙ (ap (λ u. shapes_of own ++ u) (says_spells next rest more after further) ∙ (sym (map-append (λ (w : Written). w.shape) own rest) ∙ sym (ap shapes_of cut)))
