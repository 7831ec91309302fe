-- The status line of want of memory, as it is put in three pieces.
use Rattle.std.proofs.Common.{◌≡◌, ℕ, List, [], ◌∷◌, ◌++◌, Some, append-nil, ap, ◌∙◌}
use Rattle.std.specs.Prelude.{codes}
use Rattle.szs_report.specs.Printing.{text_of}
use Rattle.command_line.specs.Refusals.{memory_printout}

name_line : (name : List ℕ) → ((name ++ []) ++ 10 ∷ []) ++ [] ≡ name ++ ((10 ∷ []) ++ [])
name_line name = append-nil ((name ++ []) ++ 10 ∷ []) ∙ ap (λ bytes. bytes ++ 10 ∷ []) (append-nil name)

-- the status line is what its three pieces have together
pub memory_text : (name : List ℕ) → text_of (memory_printout (Some name)).out ≡ codes "% SZS status MemoryOut for " ++ (name ++ ((10 ∷ []) ++ []))
memory_text name = ap (λ bytes. codes "% SZS status MemoryOut for " ++ bytes) (name_line name)
