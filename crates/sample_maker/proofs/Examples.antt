-- The samples of sizes 1 and 2, and the end of the greatest, written out by hand.
use Rattle.std.proofs.Common.{◌≡◌, ℕ, Bool, true, false, List, [], ◌∷◌, slice_get, length, Some, codes, refl}
use Rattle.mg_word.specs.Table.{symbol_of}
use Rattle.mg_word.specs.declared.symbol.Kind.TheVariants.{Word}
use Rattle.mg_word.specs.declared.item.Item.TheVariants.{Sym}
use Rattle.mg_word.specs.declared.clause.ClauseLit.{ClauseLit}
use Rattle.mg_word.specs.declared.clause.ClauseLit.TheVariants.{Lit as Literal}
use Rattle.mg_word.specs.declared.clause.Clause.{Clause}
use Rattle.sample_maker.specs.Sample.{sample_input}

abbrev lit : Bool → ℕ → ClauseLit
lit negative number = Literal (record { negative = negative; pattern = Sym number ∷ [] })

abbrev clause : List ℕ → ℕ → List ClauseLit → Clause
clause name line literals = record {
  name = record { kind = Word; text = name };
  place = record { file = 0; line = line; column = 1 };
  literals = literals;
  variables = [];
  conclude = [];
}

-- `a01|b01`
size_one :
    sample_input 1
    ≡ record {
      symbols = symbol_of (codes "a01") 0 Word ∷ symbol_of (codes "b01") 0 Word ∷ [];
      files = codes "sample" ∷ [];
      clauses = clause (codes "c01") 1 (lit false 0 ∷ lit false 1 ∷ []) ∷ [];
    }
size_one = refl

-- `a01|b01`, `a02|b02` and `~a01|~a02`
size_two :
    sample_input 2
    ≡ record {
      symbols = symbol_of (codes "a01") 0 Word ∷ symbol_of (codes "b01") 0 Word ∷ symbol_of (codes "a02") 0 Word ∷ symbol_of (codes "b02") 0 Word ∷ [];
      files = codes "sample" ∷ [];
      clauses = clause (codes "c01") 1 (lit false 0 ∷ lit false 1 ∷ [])
          ∷ clause (codes "c02") 2 (lit false 2 ∷ lit false 3 ∷ [])
          ∷ clause (codes "d01") 3 (lit true 0 ∷ lit true 2 ∷ []) ∷ [];
    }
size_two = refl

-- the last of the greatest: `~a19|~a20`
last_of_twenty : slice_get (sample_input 20).clauses 38 ≡ Some (clause (codes "d19") 39 (lit true 36 ∷ lit true 38 ∷ []))
last_of_twenty = refl

all_of_twenty : length (sample_input 20).clauses ≡ 39
all_of_twenty = refl
