-- Lines by their parts, and the literals of a set in one of them.
use Rattle.std.proofs.Common.{◌≡◌, ◌≤◌, ◌<◌, ◌+◌, ◌-◌, ℕ, suc, All, List, [], ◌∷◌, ◌++◌, length, map, take, drop, get_or, refl, sym, ap, ap₂, ◌∙◌, subst, arith, codes, append-nil, append_assoc}
use Rattle.std.proofs.lemmas.List.{take_all, take_more, length-take-le}
use Rattle.std.proofs.lemmas.List.Elements.{All-head, All-tail}
use Rattle.std.specs.Fmt.{decimal}
use Rattle.std.specs.List.{enumerate_from}
use Rattle.mg_word.specs.Table.{Symbol}
use Rattle.mg_word.specs.declared.lit.Lit.{Lit}
use Rattle.szs_report.specs.ModelLines.{block_lines, end_lines, last_set, set_lines}
use Rattle.szs_report.specs.Outputs.{end_line, lits_line, set_line, set_text, space_before, start_line}

-- the lines of sets numbered from there
abbrev lines_from : List Symbol → ℕ → List (List Lit) → List (List ℕ)
lines_from table n sets = map (λ numbered. set_line table numbered.0 numbered.1) (enumerate_from n sets)

-- what stands before the next literal
abbrev pub separator_behind : List Lit → List ℕ
separator_behind [] = []
separator_behind (lit ∷ lits) = codes ", "

-- two texts and a line feed
two_parts : (kind name : List ℕ) → (kind ++ (codes " for " ++ (name ++ []))) ++ 10 ∷ [] ≡ kind ++ (codes " for " ++ (name ++ ((10 ∷ []) ++ [])))
two_parts kind name = append_assoc kind (codes " for " ++ (name ++ [])) (10 ∷ []) ∙ ap (λ t. kind ++ (codes " for " ++ (t ++ 10 ∷ []))) (append-nil name)

-- the lines before and behind an output, by their parts
pub start_line_text : (kind name : List ℕ) → start_line kind name ≡ codes "% SZS output start " ++ (kind ++ (codes " for " ++ (name ++ ((10 ∷ []) ++ []))))
start_line_text kind name = ap (λ t. codes "% SZS output start " ++ t) (two_parts kind name)

pub end_line_text : (kind name : List ℕ) → end_line kind name ≡ codes "% SZS output end " ++ (kind ++ (codes " for " ++ (name ++ ((10 ∷ []) ++ []))))
end_line_text kind name = ap (λ t. codes "% SZS output end " ++ t) (two_parts kind name)

-- the line of a set by its parts
pub set_line_text : (table : List Symbol) (number : ℕ) (set : List Lit) → set_line table number set ≡ codes "model " ++ (decimal number ++ (codes ":" ++ (space_before set ++ (set_text table set ++ ((10 ∷ []) ++ [])))))
set_line_text table number set =
    let text = set_text table set in
    ap (λ t. codes "model " ++ t)
    (append_assoc (decimal number) (58 ∷ (space_before set ++ (text ++ []))) (10 ∷ [])
    ∙ ap (λ t. decimal number ++ 58 ∷ t) (append_assoc (space_before set) (text ++ []) (10 ∷ []) ∙ ap (λ t. space_before set ++ (t ++ 10 ∷ [])) (append-nil text)))

-- the last of sets is the set at the last place
pub last_set_is : (set : List Lit) (sets : List (List Lit)) (d : List Lit) → 1 ≤ length sets → get_or sets (length sets - 1) d ≡ last_set set sets
last_set_is set [] d some = absurd (omega arith)
last_set_is set (next ∷ []) d some = refl
last_set_is set (next ∷ (other ∷ sets)) d some =
    let place : length (next ∷ (other ∷ sets)) - 1 ≡ suc (length (other ∷ sets) - 1) = omega arith in
    ap (λ i. get_or (next ∷ (other ∷ sets)) i d) place ∙ last_set_is next (other ∷ sets) d (omega arith)

-- sets behind the first of them
others : (set : List Lit) (sets : List (List Lit)) → take (length (set ∷ sets) - 1) (drop 1 (set ∷ sets)) ≡ sets
others set sets = take_all (length (set ∷ sets) - 1) sets (omega arith)

-- what holds of a set and of those behind it holds of the last of them
last_all : (P : List Lit → Type 0) (set : List Lit) (sets : List (List Lit)) → P set → All P sets → P (last_set set sets)
last_all P set [] here rest = here
last_all P set (next ∷ sets) here rest = last_all P next sets (All-head P next sets rest) (All-tail P next sets rest)

pub last_of_all : (P : List Lit → Type 0) (sets : List (List Lit)) (first : List Lit) → 1 ≤ length sets → first ≡ get_or sets 0 first → All P sets → P (last_set first (take (length sets - 1) (drop 1 sets)))
last_of_all P [] first some is all = absurd (omega arith)
last_of_all P (set ∷ sets) first some is all =
    subst (λ rest. P (last_set first rest)) (sym (others set sets)) (last_all P first sets (subst P (sym is) (All-head P set sets all)) (All-tail P set sets all))

-- the lines of the first and of the last set
pub end_lines_are : (table : List Symbol) (sets : List (List Lit)) (first : List Lit) → 1 ≤ length sets → first ≡ get_or sets 0 first
    → end_lines table sets ≡ lits_line table (codes "first: ") first ∷ lits_line table (codes "last: ") (last_set first (take (length sets - 1) (drop 1 sets))) ∷ []
end_lines_are table [] first some is = absurd (omega arith)
end_lines_are table (set ∷ sets) first some is = rw (others set sets, is) refl

-- the lines of sets before one more, and its own
set_lines_more : (table : List Symbol) (n : ℕ) (sets : List (List Lit)) (set : List Lit) → lines_from table n (sets ++ set ∷ []) ≡ lines_from table n sets ++ set_line table (n + length sets) set ∷ []
set_lines_more table n [] set =
    let place : n ≡ n + length {A = List Lit} [] = omega arith in
    ap (λ k. set_line table k set ∷ []) place
set_lines_more table n (next ∷ sets) set =
    let place : n + 1 + length sets ≡ n + length (next ∷ sets) = omega arith in
    ap (λ lines. set_line table n next ∷ lines) (set_lines_more table (n + 1) sets set ∙ ap (λ k. lines_from table (n + 1) sets ++ set_line table k set ∷ []) place)

-- a line for the set at the next place
pub sets_step : (table : List Symbol) (sets : List (List Lit)) (i : ℕ) (set : List Lit) (old before after : List (List ℕ)) (text : List ℕ) → i < length sets → set ≡ get_or sets i set
    → before ≡ old ++ set_lines table (take i sets) → text ≡ set_line table (i + 1) set → after ≡ before ++ (text ++ []) ∷ [] → after ≡ old ++ set_lines table (take (i + 1) sets)
sets_step table sets i set old before after text inside is held line added =
    let front = take i sets in
    let more : take (i + 1) sets ≡ front ++ set ∷ [] = take_more sets i set inside ∙ ap (λ one. front ++ one ∷ []) (sym is) in
    let place : 1 + length front ≡ i + 1 = omega (arith, length-take-le i sets (omega (arith, inside))) in
    let lines : set_lines table (take (i + 1) sets) ≡ set_lines table front ++ set_line table (i + 1) set ∷ [] =
    ap (set_lines table) more ∙ (set_lines_more table 1 front set ∙ ap (λ k. set_lines table front ++ set_line table k set ∷ []) place) in
    added
    ∙ (ap₂ (λ one other. one ++ other ∷ []) held (append-nil text ∙ line)
    ∙ (append_assoc old (set_lines table front) (set_line table (i + 1) set ∷ []) ∙ ap (λ l. old ++ l) (sym lines)))

-- the lines of an output, one part after the other
pub block_of : (table : List Symbol) (name : List ℕ) (sets : List (List Lit)) (old begun listed ended : List (List ℕ)) → (sets ≡ [] → ⊥) → begun ≡ old ++ start_line (codes "Model") name ∷ [] → listed ≡ begun ++ set_lines table sets
    → ended ≡ listed ++ end_line (codes "Model") name ∷ [] → ended ≡ old ++ block_lines table name sets
block_of table name [] old begun listed ended some first second third = absurd (some refl)
block_of table name (set ∷ sets) old begun listed ended some first second third =
    let start = start_line (codes "Model") name in
    let lines = set_lines table (set ∷ sets) in
    let end = end_line (codes "Model") name in
    third
    ∙ (ap (λ l. l ++ end ∷ []) (second ∙ (ap (λ l. l ++ lines) first ∙ append_assoc old (start ∷ []) lines))
    ∙ append_assoc old (start ∷ lines) (end ∷ []))
