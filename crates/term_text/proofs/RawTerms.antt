-- What the buffers of a term's reading hold, step by step.
use Rattle.std.proofs.Common.{◌≡◌, ℕ, suc, ◌+◌, ◌-◌, ◌^◌, ◌≤◌, ◌<◌, min, List, [], ◌∷◌, ◌++◌, length, drop, reverse, slice_index_or, slice_set, refl, sym, ap, ◌∙◌, subst, append_assoc, length-append, arith, take}
use Rattle.std.proofs.lemmas.List.{same_from_push, drop_at, take-append-drop, reverse-append}
use Rattle.mg_word.specs.Table.{Symbol}
use Rattle.term_text.specs.Terms.{IsRaw, AreRaws, Level, flat, places, raised, raised_raw, no_raw, AreHeld}
use Rattle.term_text.proofs.TermSteps.{more_of}
use Rattle.term_text.specs.declared.terms.Raw.{Raw}

pub raws_length : (bytes : List ℕ) (raws : List Raw) (symbols : List Symbol) → AreRaws bytes raws symbols → length raws ≡ length symbols
raws_length bytes [] [] are = refl
raws_length bytes [] (symbol ∷ symbols) are = elim are [ ]
raws_length bytes (raw ∷ raws) [] are = elim are [ ]
raws_length bytes (raw ∷ raws) (symbol ∷ symbols) are = ap suc (raws_length bytes raws symbols are.1)

pub raws_push : (bytes : List ℕ) (raws : List Raw) (symbols : List Symbol) (raw : Raw) (symbol : Symbol) → AreRaws bytes raws symbols → IsRaw bytes raw symbol → AreRaws bytes (raws ++ raw ∷ []) (symbols ++ symbol ∷ [])
raws_push bytes [] [] raw symbol are is = (is, tt)
raws_push bytes [] (other ∷ symbols) raw symbol are is = elim are [ ]
raws_push bytes (first ∷ raws) [] raw symbol are is = elim are [ ]
raws_push bytes (first ∷ raws) (other ∷ symbols) raw symbol are is = (are.0, raws_push bytes raws symbols raw symbol are.1 is)

pub raws_at : (bytes : List ℕ) (raws : List Raw) (before : List Symbol) (symbol : Symbol) (after : List Symbol) (d : Raw) → AreRaws bytes raws (before ++ symbol ∷ after) → IsRaw bytes (slice_index_or raws (length before) d) symbol
raws_at bytes [] [] symbol after d are = elim are [ ]
raws_at bytes [] (other ∷ before) symbol after d are = elim are [ ]
raws_at bytes (raw ∷ raws) [] symbol after d are = are.0
raws_at bytes (raw ∷ raws) (other ∷ before) symbol after d are = raws_at bytes raws before symbol after d are.1

pub raws_set : (bytes : List ℕ) (raws : List Raw) (before : List Symbol) (symbol : Symbol) (after : List Symbol) (raw : Raw) (other : Symbol)
    → AreRaws bytes raws (before ++ symbol ∷ after) → IsRaw bytes raw other → AreRaws bytes (slice_set raws (length before) raw) (before ++ other ∷ after)
raws_set bytes [] [] symbol after raw other are is = elim are [ ]
raws_set bytes [] (one ∷ before) symbol after raw other are is = elim are [ ]
raws_set bytes (first ∷ raws) [] symbol after raw other are is = (is, are.1)
raws_set bytes (first ∷ raws) (one ∷ before) symbol after raw other are is = (are.0, raws_set bytes raws before symbol after raw other are.1 is)

pub raw_raised : (bytes : List ℕ) (raw : Raw) (symbol : Symbol) → IsRaw bytes raw symbol → IsRaw bytes (raised_raw raw) (raised 1 symbol)
raw_raised bytes raw symbol is = record { rest = is.rest; name = is.name; arity = more raw.arity symbol.arity is.arity }
  where
    more : (a b : ℕ) → a ≡ min b (2 ^ 64 - 1) → min (a + 1) (2 ^ 64 - 1) ≡ min (b + 1) (2 ^ 64 - 1)
    more a b same = omega (arith, same)

pub flat_append : (levels : List Level) (xs ys : List Symbol) → flat levels (xs ++ ys) ≡ flat levels xs ++ ys
flat_append [] xs ys = refl
flat_append (level ∷ levels) xs ys =
    ap (λ l. flat levels (level.left ++ l)) refl ∙ (ap (flat levels) (sym (append_assoc level.left (level.head ∷ xs) ys)) ∙ flat_append levels (level.left ++ level.head ∷ xs) ys)

pub reverse_cons : {X : Type 0} (x : X) (xs : List X) → reverse (x ∷ xs) ≡ reverse xs ++ x ∷ []
reverse_cons x xs = reverse-append (x ∷ []) xs

-- the innermost open symbol
pub record IsTop (bytes : List ℕ) (raws : List Raw) (opens : List ℕ) (index : ℕ) (levels : List Level) (current : List Symbol) : Type 0 where
  pub top : Level
  pub below : List Level
  pub levels_are : levels ≡ top ∷ below
  pub index_is : index ≡ length (flat below top.left)
  pub opens_are : opens ≡ reverse (places below)
  pub within : index < length raws
  pub raised_are : AreRaws bytes (slice_set raws index (raised_raw (slice_index_or raws index no_raw))) (flat (more_of top ∷ below) current)

pub popped : (bytes : List ℕ) (raws : List Raw) (opens opens' : List ℕ) (index : ℕ) (levels : List Level) (current : List Symbol) → opens ≡ opens' ++ index ∷ [] → AreHeld bytes raws opens levels current → IsTop bytes raws opens' index levels current
popped bytes raws opens opens' index [] current split held = absurd (omega (arith, ap length (sym split ∙ held.opens_are), length-append opens' (index ∷ [])))
popped bytes raws opens opens' index (top ∷ below) current split held =
    let parts = same_from_push opens' (reverse (places below)) index (length (flat below top.left)) (sym split ∙ (held.opens_are ∙ reverse_cons (length (flat below top.left)) (places below))) in
    let whole : flat (top ∷ below) current ≡ flat below top.left ++ top.head ∷ current = flat_append below top.left (top.head ∷ current) in
    let are = subst (λ l. AreRaws bytes raws l) whole held.raws_are in
    let later : flat (more_of top ∷ below) current ≡ flat below top.left ++ raised 1 top.head ∷ current = flat_append below top.left (raised 1 top.head ∷ current) in
    record {
      top = top;
      below = below;
      levels_are = refl;
      index_is = parts.1;
      opens_are = parts.0;
      within = omega (arith, parts.1, raws_length bytes raws (flat below top.left ++ top.head ∷ current) are, length-append (flat below top.left) (top.head ∷ current));
      raised_are =
          subst (λ l. AreRaws bytes (slice_set raws index (raised_raw (slice_index_or raws index no_raw))) l) (sym later)
          (subst (λ i. AreRaws bytes (slice_set raws i (raised_raw (slice_index_or raws i no_raw))) (flat below top.left ++ raised 1 top.head ∷ current)) (sym parts.1)
          (raws_set bytes raws (flat below top.left) top.head current _ (raised 1 top.head) are (raw_raised bytes _ top.head (raws_at bytes raws (flat below top.left) top.head current no_raw are))));
    }

-- the rest of a text begins where its length says
pub suffix_at : (bytes front rest : List ℕ) (at : ℕ) → at ≤ length bytes → front ++ rest ≡ drop at bytes → drop (length bytes - length rest) bytes ≡ rest
suffix_at bytes front rest at within split =
    let whole : (take at bytes ++ front) ++ rest ≡ bytes = append_assoc (take at bytes) front rest ∙ (ap (λ l. take at bytes ++ l) split ∙ take-append-drop at bytes) in
    let count = length-append (take at bytes ++ front) rest in
    ap (λ l. drop (length bytes - length rest) l) (sym whole) ∙ drop_at (take at bytes ++ front) rest (length bytes - length rest) (omega (arith, count, ap length whole))

pub suffix_length : (front rest rest' : List ℕ) → front ++ rest ≡ rest' → length rest ≤ length rest'
suffix_length front rest rest' split = omega (arith, length-append front rest, ap length split)
