-- Whatever the files hold, a rule says what they read as.
use Rattle.std.proofs.Common.{◌≡◌, ◌⊎◌, inl, inr, ℕ, zero, suc, ◌≤◌, ◌<◌, Bool, true, false, List, [], ◌∷◌, Option, Some, None, Result, Ok, Err, refl, sym, subst}
use Rattle.tptp_lexer.specs.Tokens.{tokens_of}
use Rattle.tptp_lexer.specs.declared.token.Token.{Token}
use Rattle.tptp_lexer.specs.declared.token.LexFault.{LexFault}
use Rattle.cnf_grammar.specs.Table.{is_end}
use Rattle.cnf_grammar.specs.declared.state.State.TheVariants.{ClauseClosed, IncludeClosed}
use Rattle.cnf_reader.specs.declared.fault.ReadKind.{ReadKind}
use Rattle.cnf_reader.specs.declared.fault.ReadFault.{ReadFault}
use Rattle.cnf_reader.specs.declared.pending.Asked.{Asked}
use Rattle.cnf_reader.specs.declared.pending.Pending.{Pending}
use Rattle.cnf_reader.specs.declared.kept.Kept.{Kept}
use Rattle.cnf_reader.specs.Keeping.{keep, is_full}
use Rattle.cnf_reader.specs.Meanings.{ends_statement}
use Rattle.cnf_reader.specs.Names.{tries}
use Rattle.cnf_reader.specs.Statements.{fresh, take}
use Rattle.cnf_reader.specs.Reading.{World, Source, Opening, include_in, read_tokens, opening_of, opened, none_found, too_long, read_failed, shape_in, source_of, with_file, with_include, most_includes}
use Rattle.reading_laws.specs.Rules.{Goes, file_ends, ends_within, no_token, at_token, within, clause_ends, include_ends, include_stops, Includes, one_too_many, too_deep, none_there, all_too_long, not_read, file_reads, OpensIncluded}
use Rattle.reading_laws.proofs.Steps.{state-cases, most-cases}
use Rattle.reading_laws.proofs.Opened.{opens-so}
use Rattle.reading_laws.proofs.Tried.{tries-so}
use Rattle.reading_laws.proofs.ByRules.{lower, goes-as, includes-as}

module _ (world : World) (root : Option (List ℕ)) where
  -- what is read of these tokens goes by the rules
  abbrev GoesSo : ℕ → Source → Pending → Kept → List Token → Option LexFault → Type 0
  GoesSo levels source p kept tokens fault = Goes world root levels source p kept tokens fault (read_tokens (lower world root levels source) source p kept tokens fault)

  -- what goes by a rule is what is read
  by-rule : (levels : ℕ) (source : Source) (p : Pending) (kept : Kept) (tokens : List Token) (fault : Option LexFault) (result : Result Kept ReadFault) → Goes world root levels source p kept tokens fault result → GoesSo levels source p kept tokens fault
  by-rule levels source p kept tokens fault result rule = subst (Goes world root levels source p kept tokens fault) (sym (goes-as world root levels source p kept tokens fault result rule)) rule

  ends-so : (levels : ℕ) (source : Source) (p : Pending) (kept : Kept) (ends : Bool) → is_end p.position ≡ ends → GoesSo levels source p kept [] None
  ends-so levels source p kept true e = by-rule levels source p kept [] None _ (file_ends levels source p kept e)
  ends-so levels source p kept false e = by-rule levels source p kept [] None _ (ends_within levels source p kept e)

  goes-so : (levels : ℕ) (source : Source) → ((asked : Asked) (kept : Kept) → Includes world root levels source asked kept (include_in world root levels source asked kept))
      → (tokens : List Token) (fault : Option LexFault) (p : Pending) (kept : Kept) → GoesSo levels source p kept tokens fault
  goes-so levels source includes [] None p kept = ends-so levels source p kept (is_end p.position) refl
  goes-so levels source includes [] (Some fault) p kept = by-rule levels source p kept [] (Some fault) _ (no_token levels source p kept fault)
  goes-so levels source includes (token ∷ tokens) fault p kept =
      by (take (is_full kept) source.selections p (shape_in source.bytes token) token.line token.column) refl (goes-so levels source includes tokens fault)
    where
      include-so : (next : Pending) (found : Result Kept ReadFault) → take (is_full kept) source.selections p (shape_in source.bytes token) token.line token.column ≡ Ok next → p.position.state ≡ IncludeClosed
          → Includes world root levels source next.asked kept found → ((p : Pending) (kept : Kept) → GoesSo levels source p kept tokens fault) → GoesSo levels source p kept (token ∷ tokens) fault
      include-so next (Ok after) takes state reads more = by-rule levels source p kept (token ∷ tokens) fault _ (include_ends levels source p kept token tokens fault next after _ takes state reads (more fresh after))
      include-so next (Err stop) takes state reads more = by-rule levels source p kept (token ∷ tokens) fault _ (include_stops levels source p kept token tokens fault next stop takes state reads)

      taken-so : (next : Pending) → take (is_full kept) source.selections p (shape_in source.bytes token) token.line token.column ≡ Ok next
          → (p.position.state ≡ ClauseClosed) ⊎ ((p.position.state ≡ IncludeClosed) ⊎ (ends_statement p.position.state ≡ false))
          → ((p : Pending) (kept : Kept) → GoesSo levels source p kept tokens fault) → GoesSo levels source p kept (token ∷ tokens) fault
      taken-so next takes (inl state) more =
          by-rule levels source p kept (token ∷ tokens) fault _ (clause_ends levels source p kept token tokens fault next _ takes state (more fresh (keep source.selections kept source.number next)))
      taken-so next takes (inr (inl state)) more = include-so next (include_in world root levels source next.asked kept) takes state (includes next.asked kept) more
      taken-so next takes (inr (inr state)) more = by-rule levels source p kept (token ∷ tokens) fault _ (within levels source p kept token tokens fault next _ takes state (more next kept))

      by : (found : Result Pending ReadKind) → take (is_full kept) source.selections p (shape_in source.bytes token) token.line token.column ≡ found
          → ((p : Pending) (kept : Kept) → GoesSo levels source p kept tokens fault) → GoesSo levels source p kept (token ∷ tokens) fault
      by (Ok next) takes more = taken-so next takes (state-cases p.position.state) more
      by (Err kind) stands more = by-rule levels source p kept (token ∷ tokens) fault _ (at_token levels source p kept token tokens fault kind stands)

  include-rule : (levels : ℕ) (source : Source) (asked : Asked) (kept : Kept) (result : Result Kept ReadFault) → Includes world root levels source asked kept result
      → Includes world root levels source asked kept (include_in world root levels source asked kept)
  include-rule levels source asked kept result rule = subst (Includes world root levels source asked kept) (sym (includes-as world root levels source asked kept result rule)) rule

  followed-so : (levels : ℕ) (source : Source) (asked : Asked) (kept : Kept) → kept.includes < most_includes
      → ((deeper : Source) (tokens : List Token) (fault : Option LexFault) (p : Pending) (after : Kept) → GoesSo levels deeper p after tokens fault)
      → (opening : Opening) → OpensIncluded world root source asked kept opening → Includes world root (suc levels) source asked kept (include_in world root (suc levels) source asked kept)
  followed-so levels source asked kept few goes (opened name bytes) opens =
      let deeper = source_of name bytes (asked.names ∷ source.selections) kept in
      include-rule (suc levels) source asked kept _
      (file_reads levels source asked kept name bytes _ few opens (goes deeper (tokens_of bytes).tokens (tokens_of bytes).fault fresh (with_file name bytes (with_include kept))))
  followed-so levels source asked kept few goes none_found opens = include-rule (suc levels) source asked kept _ (none_there levels source asked kept few opens)
  followed-so levels source asked kept few goes too_long opens = include-rule (suc levels) source asked kept _ (all_too_long levels source asked kept few opens)
  followed-so levels source asked kept few goes read_failed opens = include-rule (suc levels) source asked kept _ (not_read levels source asked kept few opens)

  pub includes-so : (levels : ℕ) (source : Source) (asked : Asked) (kept : Kept) → Includes world root levels source asked kept (include_in world root levels source asked kept)
  includes-so zero source asked kept = by (most-cases kept.includes)
    where
      by : (most_includes ≤ kept.includes) ⊎ (kept.includes < most_includes) → Includes world root zero source asked kept (include_in world root zero source asked kept)
      by (inl many) = include-rule zero source asked kept _ (one_too_many zero source asked kept many)
      by (inr few) = include-rule zero source asked kept _ (too_deep source asked kept few)
  includes-so (suc levels) source asked kept = by (most-cases kept.includes) (λ deeper. goes-so levels deeper (includes-so levels deeper))
    where
      by : (most_includes ≤ kept.includes) ⊎ (kept.includes < most_includes) → ((deeper : Source) (tokens : List Token) (fault : Option LexFault) (p : Pending) (after : Kept) → GoesSo levels deeper p after tokens fault)
          → Includes world root (suc levels) source asked kept (include_in world root (suc levels) source asked kept)
      by (inl many) goes = include-rule (suc levels) source asked kept _ (one_too_many (suc levels) source asked kept many)
      by (inr few) goes = followed-so levels source asked kept few goes (opening_of world root source asked kept) (record { names = tries root source.name asked.file; tries = tries-so root source.name asked.file; opens = opens-so world _ (tries root source.name asked.file) _ })

  -- so the tokens of each file read by the rules
  pub tokens-so : (levels : ℕ) (source : Source) (tokens : List Token) (fault : Option LexFault) (p : Pending) (kept : Kept)
      → Goes world root levels source p kept tokens fault (read_tokens (lower world root levels source) source p kept tokens fault)
  tokens-so levels source = goes-so levels source (includes-so levels source)
