-- What clap makes of the value that it holds, when the next argument begins or the words end.
use Rattle.std.proofs.Common.{◌≡◌, ◌≢◌, ◌&&◌, ◌||◌, ℕ, Bool, cond, true, false, List, [], ◌∷◌, ◌++◌, map, Option, Some, None, is_some, refl, sym, ap, ◌∙◌, append_assoc, append-nil}
use Rattle.std.specs.Prelude.{find, option_map, codes}
use Rattle.std.specs.Str.{bytes_eq}
use Rattle.std.proofs.lemmas.Bool.{true≢false}
use Rattle.clap.specs.Values.{reading_of}
use Rattle.clap.specs.Walk.{Held, Row, Rule, arg_by_id, at_row, has_row, more_values, settled, used, with_values, without}
use Rattle.clap.specs.Kinds.{Kinds, or_else}
use Rattle.clap.specs.Faults.{settle_fault, use_fault}
use Rattle.clap.specs.Simple.{new_rule}
use Rattle.clap.specs.declared.builder.action.ArgAction.TheVariants.{Set}
use Rattle.clap.specs.declared.builder.value_parser.ValueParser.TheVariants as parser
use Rattle.clap.specs.declared.error.kind.ErrorKind.TheVariants as kind
use Rattle.clap.specs.declared.parser.matches.ValueSource.TheVariants.{CommandLine}
use Rattle.command_words.specs.Given.{Word, Values, flag, valued, value_of}
use Rattle.command_words.proofs.Rules.{built_option, built_place}
use Rattle.command_words.proofs.Reading.{Read, more}

-- a rule of one value, with what an option and a place do not share
abbrev pub single : Option Word → Option ℕ → Bool → Word → Rule
single long index required name = record (new_rule name) {
  long = long;
  index = index;
  required = required;
  action = Some Set;
  range = Some (record { start_inclusive = 1; end_inclusive = 1 });
  parser = Some parser.String;
}

pub option_single : (name : Word) → built_option (valued name) ≡ single (Some name) None false name
option_single name = refl

pub place_single : (i : ℕ) (name : Word) → built_place i name ≡ single None (Some i) true name
place_single i name = refl

-- what clap keeps of a value
abbrev pub row : Word × Word → Row
row value = record { id = value.0; values = value.1 ∷ []; count = None; source = Some CommandLine; reading = reading_of parser.String }

abbrev pub rows : Values → List Row
rows = map row

pub has_row-rows : (name : Word) (values : Values) → has_row name (rows values) ≡ is_some (value_of name values)
has_row-rows name [] = refl
has_row-rows name (value ∷ values) = go (bytes_eq value.0 name) (has_row-rows name values)
  where
    go : (b : Bool) → has_row name (rows values) ≡ is_some (value_of name values)
        → (b || has_row name (rows values)) ≡ is_some (option_map (λ v. v.1) (cond b (Some value) (find (λ v. bytes_eq v.0 name) values)))
    go true rest = refl
    go false rest = rest

-- where no row has the name, a change of its row leaves the rows, and puts what is missing behind them
pub at_no_row : (name : Word) (change : Row → List Row) (missing : List Row) (all : List Row) → has_row name all ≡ false → at_row name change missing all ≡ all ++ missing
at_no_row name change missing [] none = refl
at_no_row name change missing (r ∷ all) none = go (bytes_eq r.id name) none (at_no_row name change missing all)
  where
    go : (b : Bool) → (b || has_row name all) ≡ false → (has_row name all ≡ false → at_row name change missing all ≡ all ++ missing)
        → cond b (change r ++ all) (r ∷ at_row name change missing all) ≡ r ∷ (all ++ missing)
    go true none rest = absurd (true≢false none)
    go false none rest = ap (λ rs. r ∷ rs) (rest none)

map_last : (values : Values) (value : Word × Word) → rows values ++ row value ∷ [] ≡ rows (values ++ value ∷ [])
map_last [] value = refl
map_last (first ∷ values) value = ap (λ rs. row first ∷ rs) (map_last values value)

-- the rows with one value more
pub one_more : (values : Values) (name value : Word) → value_of name values ≡ None
    → with_values name (reading_of parser.String) CommandLine (value ∷ []) (without name (rows values)) ≡ rows (values ++ (name, value) ∷ [])
one_more values name value new =
    let none : has_row name (rows values) ≡ false = has_row-rows name values ∙ ap is_some new in
    let kept : without name (rows values) ≡ rows values = at_no_row name (λ _. []) [] (rows values) none ∙ append-nil (rows values) in
    rw kept (at_no_row name (more_values CommandLine (value ∷ [])) (row (name, value) ∷ []) (rows values) none ∙ map_last values (name, value))

-- no fault, or that the name has a value already
abbrev pub repeated : Option Word → Kinds
repeated None = []
repeated (Some value) = kind.ArgumentConflict ∷ []

module _ (long : Option Word) (index : Option ℕ) (required : Bool) (name value : Word) (values : Values) where
  pub use_single : use_fault false (single long index required name) (value ∷ []) (rows values) ≡ repeated (value_of name values)
  use_single = rw has_row-rows (go (value_of name values))
    where
      go : (o : Option Word) → or_else (cond (is_some o && true) (kind.ArgumentConflict ∷ []) []) [] ≡ repeated o
      go None = refl
      go (Some v) = refl

  pub used_single : value_of name values ≡ None → used (single long index required name) (value ∷ []) (rows values) ≡ rows (values ++ (name, value) ∷ [])
  used_single new = one_more values name value new

-- a flag is used
pub use_flag : (name : Word) (values : Values) → use_fault false (built_option (flag name)) [] (rows values) ≡ repeated (value_of name values)
use_flag name values = rw has_row-rows (go (value_of name values))
  where
    go : (o : Option Word) → or_else (cond (is_some o && true) (kind.ArgumentConflict ∷ []) []) [] ≡ repeated o
    go None = refl
    go (Some v) = refl

-- what is held when a flag was used
abbrev pub flagged : Word → Held → Held
flagged name h = record h { rows = used (built_option (flag name)) [] h.rows; pending = None }

pub use_nothing : (long : Option Word) (index : Option ℕ) (required : Bool) (name : Word) (all : List Row) → use_fault false (single long index required name) [] all ≡ kind.InvalidValue ∷ []
use_nothing long index required name all = refl

-- each name is new
abbrev pub Fresh : Values → Values → Type 0
Fresh before [] = Unit {0}
Fresh before (value ∷ values) = (value_of value.0 before ≡ None) × Fresh (before ++ value ∷ []) values

-- what is held
abbrev pub held : Values → Option (Word × Word) → Held
held values pending = record { rows = rows values; pending = option_map (λ value. (value.0, value.1 ∷ [])) pending; skip = 0 }

abbrev pub with_pending : Option (Word × Word) → Read → Read
with_pending None read = read
with_pending (Some value) read = more value read

module _ (c : List Rule) where
  -- the rule with the name takes one value
  abbrev pub IsKnown : Word → Type 0
  IsKnown name = (long : Option Word) × (index : Option ℕ) × (required : Bool) × (arg_by_id c name ≡ Some (single long index required name))

  abbrev pub Known : Option (Word × Word) → Type 0
  Known None = Unit {0}
  Known (Some value) = IsKnown value.0

  -- clap fails, or its rows at the end are those of the values before and of those that are read
  abbrev pub Outcome : Values → Read → Kinds → Held → Type 0
  Outcome before None fault end = fault ≢ []
  Outcome before (Some read) fault end = (fault ≡ [] → Fresh before read.0) × (Fresh before read.0 → (fault ≡ []) × (settled c end ≡ held (before ++ read.0) None))

  pub settle_known : (name value : Word) (values : Values) → IsKnown name → settle_fault c false (held values (Some (name, value))) ≡ repeated (value_of name values)
  settle_known name value values known = rw known.3 (use_single known.0 known.1 known.2 name value values)

  pub settled_known : (name value : Word) (values : Values) → IsKnown name → value_of name values ≡ None → settled c (held values (Some (name, value))) ≡ held (values ++ (name, value) ∷ []) None
  settled_known name value values known new = rw known.3 (ap (λ rs. record { rows = rs; pending = None; skip = 0 }) (used_single known.0 known.1 known.2 name value values new))

  -- the fault stays where the value was new, and else the value repeats a name
  module _ (before : Values) (name value : Word) (read : Read) (rest : Held → Kinds) (end : Held → Held) (now : Held)
      (becomes : value_of name before ≡ None → now ≡ held (before ++ (name, value) ∷ []) None)
      (next : (later : Values) → Outcome later read (rest (held later None)) (end (held later None))) where
    pub after_value : (o : Option Word) → value_of name before ≡ o → Outcome before (more (name, value) read) (or_else (repeated o) (rest now)) (end now)
    after_value None new = rw (becomes new) (new_value read (next (before ++ (name, value) ∷ [])))
      where
        new_value : (r : Read) → Outcome (before ++ (name, value) ∷ []) r (rest (held (before ++ (name, value) ∷ []) None)) (end (held (before ++ (name, value) ∷ []) None))
            → Outcome before (more (name, value) r) (rest (held (before ++ (name, value) ∷ []) None)) (end (held (before ++ (name, value) ∷ []) None))
        new_value None fails = fails
        new_value (Some r) (fresh, passes) =
            (λ none. (new, fresh none), λ is. let done = passes is.1 in (done.0, done.1 ∙ ap (λ vs. held vs None) (append_assoc before ((name, value) ∷ []) r.0)))
    after_value (Some v) is = twice read
      where
        fault_none : ◌≡◌ {A = Kinds} (kind.ArgumentConflict ∷ []) [] → ⊥
        fault_none e = cc

        twice : (r : Read) → Outcome before (more (name, value) r) (kind.ArgumentConflict ∷ []) (end now)
        twice None = λ none. fault_none none
        twice (Some r) = (λ none. absurd (fault_none none), λ fresh. (let same : Some v ≡ None = sym is ∙ fresh.0 in cc))

  module _ (before : Values) (name value : Word) (read : Read) (rest : Held → Kinds) (end : Held → Held) (known : IsKnown name)
      (next : (now : Values) → Outcome now read (rest (held now None)) (end (held now None))) where
    pub after_known : Outcome before (more (name, value) read)
        (or_else (settle_fault c false (held before (Some (name, value)))) (rest (settled c (held before (Some (name, value)))))) (end (settled c (held before (Some (name, value)))))
    after_known = rw (settle_known name value before known)
        (after_value before name value read rest end (settled c (held before (Some (name, value)))) (settled_known name value before known) next (value_of name before) refl)

  pub after_flag : (before : Values) (name : Word) (read : Read) (rest : Held → Kinds) (end : Held → Held)
      → ((now : Values) → Outcome now read (rest (held now None)) (end (held now None)))
      → Outcome before (more (name, codes "true") read) (or_else (use_fault false (built_option (flag name)) [] (rows before)) (rest (flagged name (held before None)))) (end (flagged name (held before None)))
  after_flag before name read rest end next =
      rw (use_flag name before)
      (after_value before name (codes "true") read rest end (flagged name (held before None))
      (λ new. ap (λ all. record { rows = all; pending = None; skip = 0 }) (one_more before name (codes "true") new)) next (value_of name before) refl)

  pub after_settled : (before : Values) (pending : Option (Word × Word)) (read : Read) (rest : Held → Kinds) (end : Held → Held) → Known pending
      → ((now : Values) → Outcome now read (rest (held now None)) (end (held now None)))
      → Outcome before (with_pending pending read) (or_else (settle_fault c false (held before pending)) (rest (settled c (held before pending)))) (end (settled c (held before pending)))
  after_settled before None read rest end known next = next before
  after_settled before (Some value) read rest end known next = after_known before value.0 value.1 read rest end known next
