-- What reads by the rules is what the reading gives.
use Rattle.std.proofs.Common.{◌≡◌, ℕ, suc, ◌+◌, ◌*◌, ◌-◌, List, ◌∷◌, Option, Some, None, Result, Ok, Err, refl, sym, ap, ◌∙◌}
use Rattle.tptp_lexer.specs.declared.token.Token.{Token}
use Rattle.tptp_lexer.specs.declared.token.LexFault.{LexFault}
use Rattle.cnf_grammar.specs.declared.state.State.TheVariants.{ClauseClosed, IncludeClosed}
use Rattle.cnf_reader.specs.declared.fault.ReadFault.{ReadFault}
use Rattle.cnf_reader.specs.declared.pending.Asked.{Asked}
use Rattle.cnf_reader.specs.declared.pending.Pending.{Pending}
use Rattle.cnf_reader.specs.declared.kept.Kept.{Kept}
use Rattle.cnf_reader.specs.Keeping.{keep}
use Rattle.cnf_reader.specs.Statements.{fresh}
use Rattle.cnf_reader.specs.Reading.{World, Source, Opening, and_then, behind, go_on, follow, include_in, read_tokens, opening_of, opened, none_found, too_long, read_failed, open_first, most_bytes}
use Rattle.reading_laws.specs.Rules.{OpensIncluded, Takes, Goes, file_ends, ends_within, no_token, at_token, within, clause_ends, include_ends, include_stops, Includes, one_too_many, too_deep, none_there, all_too_long, not_read, file_reads}
use Rattle.reading_laws.proofs.Steps.{read-end, read-step, goes-behind, include-many, include-deep, include-follows, deeper}
use Rattle.reading_laws.proofs.Opened.{opens-as}
use Rattle.reading_laws.proofs.Tried.{tries-as}

module _ (world : World) (root : Option (List ℕ)) where
  -- the reading of an include of a file below which so many levels are left
  abbrev pub lower : ℕ → Source → Asked → Kept → Result Kept ReadFault
  lower levels source = λ asked kept. include_in world root levels source asked kept

  -- a token that is taken
  pub step-taken : (levels : ℕ) (source : Source) (p : Pending) (kept : Kept) (token : Token) (tokens : List Token) (fault : Option LexFault) (next : Pending) → Takes source kept p token next
      → read_tokens (lower levels source) source p kept (token ∷ tokens) fault ≡ behind (lower levels source) source kept p.position.state next (λ next after. read_tokens (lower levels source) source next after tokens fault)
  step-taken levels source p kept token tokens fault next takes =
      read-step (lower levels source) source p kept token tokens fault
      ∙ ap (λ r. go_on (lower levels source) source kept p.position.state token r (λ next after. read_tokens (lower levels source) source next after tokens fault)) takes

  pub step-clause : (levels : ℕ) (source : Source) (p : Pending) (kept : Kept) (token : Token) (tokens : List Token) (fault : Option LexFault) (next : Pending) → Takes source kept p token next → p.position.state ≡ ClauseClosed
      → read_tokens (lower levels source) source p kept (token ∷ tokens) fault ≡ read_tokens (lower levels source) source fresh (keep source.selections kept source.number next) tokens fault
  step-clause levels source p kept token tokens fault next takes state =
      step-taken levels source p kept token tokens fault next takes
      ∙ ap (λ s. behind (lower levels source) source kept s next (λ next after. read_tokens (lower levels source) source next after tokens fault)) state

  pub step-include : (levels : ℕ) (source : Source) (p : Pending) (kept : Kept) (token : Token) (tokens : List Token) (fault : Option LexFault) (next : Pending) (found : Result Kept ReadFault) → Takes source kept p token next → p.position.state ≡ IncludeClosed
      → include_in world root levels source next.asked kept ≡ found
      → read_tokens (lower levels source) source p kept (token ∷ tokens) fault ≡ and_then found (λ after. read_tokens (lower levels source) source fresh after tokens fault)
  step-include levels source p kept token tokens fault next found takes state reads =
      step-taken levels source p kept token tokens fault next takes
      ∙ ap (λ s. behind (lower levels source) source kept s next (λ next after. read_tokens (lower levels source) source next after tokens fault)) state
      ∙ ap (λ r. and_then r (λ after. read_tokens (lower levels source) source fresh after tokens fault)) reads

  pub step-follow : (levels : ℕ) (source : Source) (asked : Asked) (kept : Kept) (opening : Opening) → include_in world root (suc levels) source asked kept ≡ follow (opening_of world root source asked kept) source asked kept (deeper world root levels)
      → OpensIncluded world root source asked kept opening → include_in world root (suc levels) source asked kept ≡ follow opening source asked kept (deeper world root levels)
  step-follow levels source asked kept opening follows opens =
      follows ∙ ap (λ o. follow o source asked kept (deeper world root levels)) (ap (λ names. open_first world (2 * (kept.includes + 1)) (most_bytes - kept.bytes) names) (sym (tries-as root source.name asked.file opens.names opens.tries)) ∙ opens-as world _ _ opens.names opening opens.opens)

  mutual
    pub goes-as : (levels : ℕ) (source : Source) (p : Pending) (kept : Kept) (tokens : List Token) (fault : Option LexFault) (result : Result Kept ReadFault) → Goes world root levels source p kept tokens fault result
        → read_tokens (lower levels source) source p kept tokens fault ≡ result
    goes-as _ _ _ _ _ _ _ (file_ends levels source p kept ends) = read-end (lower levels source) source p kept None ∙ rw ends refl
    goes-as _ _ _ _ _ _ _ (ends_within levels source p kept ends) = read-end (lower levels source) source p kept None ∙ rw ends refl
    goes-as _ _ _ _ _ _ _ (no_token levels source p kept fault) = read-end (lower levels source) source p kept (Some fault)
    goes-as _ _ _ _ _ _ _ (at_token levels source p kept token tokens fault kind stands) =
        read-step (lower levels source) source p kept token tokens fault
        ∙ ap (λ r. go_on (lower levels source) source kept p.position.state token r (λ next after. read_tokens (lower levels source) source next after tokens fault)) stands
    goes-as _ _ _ _ _ _ _ (within levels source p kept token tokens fault next result takes state rest) =
        step-taken levels source p kept token tokens fault next takes
        ∙ goes-behind (lower levels source) source kept p.position.state next (λ next after. read_tokens (lower levels source) source next after tokens fault) state
        ∙ goes-as levels source next kept tokens fault result rest
    goes-as _ _ _ _ _ _ _ (clause_ends levels source p kept token tokens fault next result takes state rest) =
        step-clause levels source p kept token tokens fault next takes state ∙ goes-as levels source fresh (keep source.selections kept source.number next) tokens fault result rest
    goes-as _ _ _ _ _ _ _ (include_ends levels source p kept token tokens fault next after result takes state reads rest) =
        step-include levels source p kept token tokens fault next (Ok after) takes state (includes-as levels source next.asked kept (Ok after) reads) ∙ goes-as levels source fresh after tokens fault result rest
    goes-as _ _ _ _ _ _ _ (include_stops levels source p kept token tokens fault next stop takes state reads) =
        step-include levels source p kept token tokens fault next (Err stop) takes state (includes-as levels source next.asked kept (Err stop) reads)

    pub includes-as : (levels : ℕ) (source : Source) (asked : Asked) (kept : Kept) (result : Result Kept ReadFault) → Includes world root levels source asked kept result → include_in world root levels source asked kept ≡ result
    includes-as _ _ _ _ _ (one_too_many levels source asked kept many) = include-many world root levels source asked kept many
    includes-as _ _ _ _ _ (too_deep source asked kept few) = include-deep world root source asked kept few
    includes-as _ _ _ _ _ (none_there levels source asked kept few opens) = step-follow levels source asked kept none_found (include-follows world root levels source asked kept few) opens
    includes-as _ _ _ _ _ (all_too_long levels source asked kept few opens) = step-follow levels source asked kept too_long (include-follows world root levels source asked kept few) opens
    includes-as _ _ _ _ _ (not_read levels source asked kept few opens) = step-follow levels source asked kept read_failed (include-follows world root levels source asked kept few) opens
    includes-as _ _ _ _ _ (file_reads levels source asked kept name bytes result few opens reads) =
        step-follow levels source asked kept (opened name bytes) (include-follows world root levels source asked kept few) opens ∙ goes-as levels _ _ _ _ _ result reads
