-- One step of a reading.
use Rattle.std.proofs.Common.{◌≡◌, ◌⊎◌, inl, inr, ℕ, zero, suc, ◌≤◌, ◌<◌, Bool, true, false, true≢false, nat_le, List, [], ◌∷◌, Option, Result, refl, arith}
use Rattle.std.proofs.lemmas.Bool.Decides.{nat_tests}
use Rattle.tptp_lexer.specs.declared.token.Token.{Token}
use Rattle.tptp_lexer.specs.declared.token.LexFault.{LexFault}
use Rattle.cnf_grammar.specs.declared.state.State.{State}
use Rattle.cnf_grammar.specs.declared.state.State.TheVariants.{ClauseClosed, IncludeClosed}
use Rattle.cnf_reader.specs.declared.fault.ReadKind.TheVariants.{IncludeDepth, TooManyIncludes}
use Rattle.cnf_reader.specs.declared.fault.ReadFault.{ReadFault}
use Rattle.cnf_reader.specs.declared.pending.Asked.{Asked}
use Rattle.cnf_reader.specs.declared.pending.Pending.{Pending}
use Rattle.cnf_reader.specs.declared.kept.Kept.{Kept}
use Rattle.cnf_reader.specs.Keeping.{is_full}
use Rattle.cnf_reader.specs.Meanings.{ends_statement}
use Rattle.cnf_reader.specs.Statements.{take}
use Rattle.cnf_reader.specs.Reading.{World, Source, shape_in, behind, go_on, at_end, read_tokens, read_source, follow, opening_of, include_in, fault_at, most_includes}

-- the reading of the file of an include
abbrev pub Lower : Type 0
Lower = Asked → Kept → Result Kept ReadFault

pub read-end : (lower : Lower) (source : Source) (p : Pending) (kept : Kept) (fault : Option LexFault) → read_tokens lower source p kept [] fault ≡ at_end source p kept fault
unfolding read_tokens
read-end lower source p kept fault = refl

pub read-step : (lower : Lower) (source : Source) (p : Pending) (kept : Kept) (token : Token) (tokens : List Token) (fault : Option LexFault)
    → read_tokens lower source p kept (token ∷ tokens) fault
    ≡ go_on lower source kept p.position.state token (take (is_full kept) source.selections p (shape_in source.bytes token) token.line token.column) (λ next after. read_tokens lower source next after tokens fault)
unfolding read_tokens
read-step lower source p kept token tokens fault = refl

-- a statement that does not end goes on
pub goes-behind : (lower : Lower) (source : Source) (kept : Kept) (state : State) (p : Pending) (rest : Pending → Kept → Result Kept ReadFault) → ends_statement state ≡ false → behind lower source kept state p rest ≡ rest p kept
goes-behind lower source kept ClauseClosed p rest e = absurd (true≢false e)
goes-behind lower source kept IncludeClosed p rest e = absurd (true≢false e)
goes-behind lower source kept state p rest e = refl

pub state-cases : (state : State) → (state ≡ ClauseClosed) ⊎ ((state ≡ IncludeClosed) ⊎ (ends_statement state ≡ false))
state-cases ClauseClosed = inl refl
state-cases IncludeClosed = inr (inl refl)
state-cases state = inr (inr refl)

pub many-most : (n : ℕ) → most_includes ≤ n → nat_le most_includes n ≡ true
many-most n many = grind (arith, nat_tests)

pub few-most : (n : ℕ) → n < most_includes → nat_le most_includes n ≡ false
few-most n few = grind (arith, nat_tests)

pub most-cases : (n : ℕ) → (most_includes ≤ n) ⊎ (n < most_includes)
most-cases n = by (nat_le most_includes n) refl
  where
    by : (t : Bool) → nat_le most_includes n ≡ t → (most_includes ≤ n) ⊎ (n < most_includes)
    by true e = inl (grind (arith, nat_tests))
    by false e = inr (grind (arith, nat_tests))

pub include-many : (world : World) (root : Option (List ℕ)) (levels : ℕ) (source : Source) (asked : Asked) (kept : Kept) → most_includes ≤ kept.includes
    → include_in world root levels source asked kept ≡ fault_at TooManyIncludes source.name asked.line asked.column
unfolding include_in
include-many world root zero source asked kept many = rw (many-most kept.includes many) refl
include-many world root (suc levels) source asked kept many = rw (many-most kept.includes many) refl

pub include-deep : (world : World) (root : Option (List ℕ)) (source : Source) (asked : Asked) (kept : Kept) → kept.includes < most_includes
    → include_in world root zero source asked kept ≡ fault_at IncludeDepth source.name asked.line asked.column
unfolding include_in
include-deep world root source asked kept few = rw (few-most kept.includes few) refl

-- the reading of a file that was opened, with so many levels left below it
abbrev pub deeper : World → Option (List ℕ) → ℕ → Source → Kept → Result Kept ReadFault
deeper world root levels source kept = read_source (λ asked more. include_in world root levels source asked more) source kept

pub include-follows : (world : World) (root : Option (List ℕ)) (levels : ℕ) (source : Source) (asked : Asked) (kept : Kept) → kept.includes < most_includes
    → include_in world root (suc levels) source asked kept ≡ follow (opening_of world root source asked kept) source asked kept (deeper world root levels)
unfolding include_in
include-follows world root levels source asked kept few = rw (few-most kept.includes few) refl
