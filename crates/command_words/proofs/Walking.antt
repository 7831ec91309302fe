-- Clap's walk over the words of a command is their reading.
use Rattle.std.proofs.Common.{◌≡◌, ◌≢◌, ◌||◌, ◌+◌, ◌<◌, ℕ, Bool, true, false, List, [], ◌∷◌, ◌++◌, length, min, fold, Option, Some, None, refl, sym, ap, ap₂, ◌∙◌, subst, append_assoc, append-nil, inl, inr, arith, length-append}
use Rattle.std.specs.Prelude.{slice_get, codes}
use Rattle.std.specs.List.{AllByRecursion}
use Rattle.std.specs.Str.{bytes_eq, chars, IsUtf8}
use Rattle.std.proofs.lemmas.Bool.{and_right}
use Rattle.std.proofs.lemmas.Slice.Eq.{bytes_eq-Decides}
use Rattle.clap.specs.Lexer.{long_of, short_of, usize_max}
use Rattle.clap.specs.Walk.{arg_by_id, Held, Rule, Walk, Waiting, after_step, arg_by_index, idle, option, settled, value as in_place, walked, is_pending}
use Rattle.clap.specs.Simple.{Shape}
use Rattle.clap.specs.Kinds.{Kinds, or_else}
use Rattle.clap.specs.Faults.{flags_fault, other_fault, react_fault, settle_fault, step_fault, turn_fault, use_fault, walk_fault}
use Rattle.clap.specs.declared.error.kind.ErrorKind.{ErrorKind}
use Rattle.clap.specs.declared.error.kind.ErrorKind.TheVariants as error
use Rattle.command_words.specs.Given.{Word, Values, Row, flag, takes_value_of, valued as valued_row}
use Rattle.command_words.proofs.Flags.{short_parts, first_flag}
use Rattle.command_words.proofs.Rules.{built_option, built_place, built_rules, first_place, is_among, row_names, by_id, by_index, by_long, by_short, option_by_id}
use Rattle.command_words.proofs.Reading.{Kind, Read, IsKind, IsMisnamed, kind, kind_is, marker, opening, whole, lone, wrong, free, more, reading, step, trailing}
use Rattle.command_words.proofs.Settling.{Outcome, Known, IsKnown, flagged, held, with_pending, after_flag, after_settled, use_nothing}

pub or_else_assoc : (a b d : Kinds) → or_else (or_else a b) d ≡ or_else a (or_else b d)
or_else_assoc [] b d = refl
or_else_assoc (k ∷ ks) b d = refl

pub or_else-nil : (a : Kinds) → or_else a [] ≡ a
or_else-nil [] = refl
or_else-nil (k ∷ ks) = refl

pub some_fault : (k : ErrorKind) (ks : Kinds) → (k ∷ ks) ≡ [] → ⊥
some_fault k ks e = cc

-- what is refused has faults, whatever comes behind
pub faults_stay : (a b : Kinds) → a ≢ [] → or_else a b ≢ []
faults_stay [] b some none = some refl
faults_stay (k ∷ ks) b some none = some_fault k ks none

or_false : (b : Bool) → (b || false) ≡ b
or_false true = refl
or_false false = refl

-- of two faults the second
pub second_stays : (a b : Kinds) → b ≢ [] → or_else a b ≢ []
second_stays [] b some none = some none
second_stays (k ∷ ks) b some none = some_fault k ks none

-- places that are apart from the options and from each other
pub record AreApart (options : List Row) (places : List Word) : Type 0 where
  pub few : length places < 10
  pub apart : (used left : List Word) (place : Word) → used ++ place ∷ left ≡ places → (is_among (row_names options) place ≡ false) × (is_among used place ≡ false)

module _ (base : Shape) (options : List Row) (places : List Word) where
  abbrev pub c : List Rule
  c = built_rules options places

  abbrev pub top : Shape
  top = record base { rules = built_rules options places; args_override_self = false; is_leaf = true }

  abbrev pub fault_from : Walk → List Word → Kinds
  fault_from w words = or_else (walk_fault top [] w words) (settle_fault c false (fold (walked c []) w words).held)

  abbrev pub end_from : Walk → List Word → Held
  end_from w words = (fold (walked c []) w words).held

  pub word_then : (w : Walk) (word : Word) (words : List Word) → fault_from w (word ∷ words) ≡ or_else (turn_fault top [] w word) (fault_from (walked c [] w word) words)
  unfolding walk_fault
  word_then w word words = or_else_assoc (turn_fault top [] w word) _ _

  pub no_word : (w : Walk) → fault_from w [] ≡ settle_fault c false w.held
  unfolding walk_fault
  no_word w = refl

  pub turned : (w after : Walk) (word : Word) (words : List Word) (first then : Kinds) → turn_fault top [] w word ≡ or_else first then → walked c [] w word ≡ after
      → fault_from w (word ∷ words) ≡ or_else first (or_else then (fault_from after words))
  turned w after word words first then turn is =
      word_then w word words ∙ (ap₂ (λ fault now. or_else fault (fault_from now words)) turn is ∙ or_else_assoc first then _)

  abbrev pub at : Held → Waiting → ℕ → Bool → Walk
  at h waiting position is_trailing = record { held = h; waiting = waiting; position = position; is_trailing = is_trailing; stopped = None }

  -- a name that waits for its value, or that has it
  abbrev pub opened : Word → Held → Held
  opened name h = record h { pending = Some (name, []) }

  abbrev pub valued : Word → Word → Held → Held
  valued name given h = record h { pending = Some (name, given ∷ []) }

  -- a place is filled
  module _ (word place : Word) (position : ℕ) (h : Held) (found : arg_by_index c position ≡ Some (built_place position place)) where
    pub place_fault : step_fault top position h in_place ≡ settle_fault c false h
    place_fault = rw (found, and_right (is_pending (built_place position place) h.pending) false refl) refl

    pub place_walked : (g : Held) (waiting : Waiting) (t : Bool) → after_step c word (at g waiting position t) h in_place ≡ at (valued place word (settled c h)) idle (min (position + 1) usize_max) t
    place_walked g waiting t = rw (found, and_right (is_pending (built_place position place) h.pending) false refl, or_false t) refl

  module _ (word : Word) (position : ℕ) (h : Held) where
    -- `--`
    pub marker_turn : IsKind options word marker → turn_fault top [] (at h idle position false) word ≡ []
    marker_turn is = rw is refl

    pub marker_walked : IsKind options word marker → walked c [] (at h idle position false) word ≡ at h idle position true
    unfolding walked
    marker_walked is = rw is refl

    pub marker_turn_waiting : (name : Word) → IsKind options word marker → turn_fault top [] (at h (option name) position false) word ≡ []
    marker_turn_waiting name is = rw is refl

    pub marker_walked_waiting : (name : Word) → IsKind options word marker → walked c [] (at h (option name) position false) word ≡ at h (option name) position true
    unfolding walked
    marker_walked_waiting name is = rw is refl

    module _ (not_marker : bytes_eq word (45 ∷ 45 ∷ []) ≡ false) where
      -- an option with a value begins
      module _ (name : Word) (among : takes_value_of options name ≡ Some true) where
        pub opening_turn : long_of word ≡ Some (name, None) → turn_fault top [] (at h idle position false) word ≡ or_else (settle_fault c false h) []
        opening_turn long = rw (not_marker, long, by_long options places name, among) refl

        pub opening_walked : long_of word ≡ Some (name, None) → walked c [] (at h idle position false) word ≡ at (opened name (settled c h)) (option name) position false
        unfolding walked
        opening_walked long = rw (not_marker, long, by_long options places name, among) refl

        pub whole_turn : (given : Word) → long_of word ≡ Some (name, Some given) → turn_fault top [] (at h idle position false) word ≡ or_else (settle_fault c false h) (settle_fault c false (valued name given (settled c h)))
        whole_turn given long = rw (not_marker, long, by_long options places name, among, option_by_id options places name true among) (or_else-nil _)

        pub whole_walked : (given : Word) → long_of word ≡ Some (name, Some given) → walked c [] (at h idle position false) word ≡ at (settled c (valued name given (settled c h))) idle position false
        unfolding walked
        whole_walked given long = rw (not_marker, long, by_long options places name, among, option_by_id options places name true among) refl

        pub opening_fault : (waiting : Word) → long_of word ≡ Some (name, None) → other_fault top None word h ≡ settle_fault c false h
        opening_fault waiting long = rw (not_marker, long, by_long options places name, among) refl

        pub whole_fault : (given : Word) → long_of word ≡ Some (name, Some given) → other_fault top None word h ≡ react_fault c false (built_option (valued_row name)) (given ∷ []) h
        whole_fault given long = rw (not_marker, long, by_long options places name, among) refl

      -- a flag
      module _ (name : Word) (among : takes_value_of options name ≡ Some false) where
        pub lone_turn : long_of word ≡ Some (name, None) → turn_fault top [] (at h idle position false) word ≡ or_else (settle_fault c false h) (use_fault false (built_option (flag name)) [] (settled c h).rows)
        lone_turn long = rw (not_marker, long, by_long options places name, among) (or_else-nil _)

        pub lone_walked : long_of word ≡ Some (name, None) → walked c [] (at h idle position false) word ≡ at (flagged name (settled c h)) idle position false
        unfolding walked
        lone_walked long = rw (not_marker, long, by_long options places name, among) refl

        pub lone_fault : long_of word ≡ Some (name, None) → other_fault top None word h ≡ react_fault c false (built_option (flag name)) [] h
        lone_fault long = rw (not_marker, long, by_long options places name, among) refl

        pub needless_fault : (given : Word) → long_of word ≡ Some (name, Some given) → other_fault top None word h ≡ error.TooManyValues ∷ []
        needless_fault given long = rw (not_marker, long, by_long options places name, among) refl

      -- a word that is no option
      module _ (long : long_of word ≡ None) (short : short_of word ≡ None) where
        pub free_turn : turn_fault top [] (at h idle position false) word ≡ step_fault top position h in_place
        free_turn = rw (not_marker, long, short) refl

        pub free_walked : walked c [] (at h idle position false) word ≡ after_step c word (at h idle position false) h in_place
        unfolding walked
        free_walked = rw (not_marker, long, short) refl

        pub value_turn : (name : Word) → turn_fault top [] (at h (option name) position false) word ≡ []
        value_turn name = rw (not_marker, long, short) refl

      pub unknown_fault : (p : Word × Option Word) → long_of word ≡ Some p → takes_value_of options p.0 ≡ None → other_fault top None word h ≡ error.UnknownArgument ∷ []
      unknown_fault p long none = rw (not_marker, long, by_long options places p.0, none) refl

  -- a word that is refused
  flags_wrong : (flags tail : List ℕ) (head first : ℕ) (h : Held) → flags ≡ head ∷ tail → slice_get (chars flags) 0 ≡ Some first → flags_fault c false (length flags) flags 0 h ≡ error.UnknownArgument ∷ []
  unfolding flags_fault
  flags_wrong [] tail head first h are is = absurd (cc)
  flags_wrong (x ∷ flags) tail head first h are is = rw (is, by_short options places first) refl

  misnamed_fault : (word : Word) (h : Held) → bytes_eq word (45 ∷ 45 ∷ []) ≡ false → (name : Word) (value : Option Word) → long_of word ≡ Some (name, value) → IsMisnamed options name value
      → other_fault top None word h ≢ []
  misnamed_fault word h not_marker name None long unknown fine = some_fault _ _ (sym (unknown_fault word 0 h not_marker (name, None) long unknown) ∙ fine)
  misnamed_fault word h not_marker name (Some value) long (inl unknown) fine = some_fault _ _ (sym (unknown_fault word 0 h not_marker (name, Some value) long unknown) ∙ fine)
  misnamed_fault word h not_marker name (Some value) long (inr needless) fine = some_fault _ _ (sym (needless_fault word 0 h not_marker name needless value long) ∙ fine)

  pub wrong_fault : (word : Word) (h : Held) → h.skip ≡ 0 → IsUtf8 word → IsKind options word wrong → other_fault top None word h ≢ []
  wrong_fault word h none utf8 (not_marker, inl (p, long, misnamed)) fine = misnamed_fault word h not_marker p.0 p.1 long misnamed fine
  wrong_fault word h none utf8 (not_marker, inr (long, (flags, short))) fine =
      let parts = short_parts word flags short in
      let found = first_flag word flags utf8 parts in
      let is : other_fault top None word h ≡ error.UnknownArgument ∷ [] =
      rw (not_marker, long, short, none) (flags_wrong flags parts.tail parts.head found.first (record h { skip = 0 }) parts.flags_are found.first_is) in
      some_fault _ _ (sym is ∙ fine)

  pub value_walked : (word name : Word) (position : ℕ) (before : Values) → takes_value_of options name ≡ Some true → bytes_eq word (45 ∷ 45 ∷ []) ≡ false → long_of word ≡ None → short_of word ≡ None
      → walked c [] (at (opened name (held before None)) (option name) position false) word ≡ at (held before (Some (name, word))) idle position false
  unfolding walked
  value_walked word name position before among not_marker long short = rw (not_marker, long, short, option_by_id options places name true among, (bytes_eq-Decides name name).1 refl) refl

  -- a word behind `--`
  pub trailing_turn : (word : Word) (waiting : Waiting) (position : ℕ) (h : Held) → turn_fault top [] (at h waiting position true) word ≡ step_fault top position h in_place
  trailing_turn word waiting position h = refl

  pub trailing_walked : (word : Word) (waiting : Waiting) (position : ℕ) (h : Held) → walked c [] (at h waiting position true) word ≡ after_step c word (at h waiting position true) h in_place
  unfolding walked
  trailing_walked word waiting position h = refl

  pub stray : (position : ℕ) (h : Held) → arg_by_index c position ≡ None → step_fault top position h in_place ≡ error.UnknownArgument ∷ []
  stray position h none = rw none refl

  -- an option that waits has no value
  pub unfed : (name : Word) (before : Values) → takes_value_of options name ≡ Some true → settle_fault c false (opened name (held before None)) ≡ error.InvalidValue ∷ []
  unfed name before among = rw (option_by_id options places name true among) (use_nothing (Some name) None false name (held before None).rows)

  -- the position behind the places that are filled
  abbrev pub behind : List Word → ℕ
  behind used = 1 + length used

  pub next_behind : (used : List Word) (place : Word) → length used < 10 → min (behind used + 1) usize_max ≡ behind (used ++ place ∷ [])
  next_behind used place small = omega (arith, length-append used (place ∷ []))

  pub outcome_as : (before : Values) (read : Read) (fault fault' : Kinds) (end end' : Held) → fault ≡ fault' → end ≡ end' → Outcome c before read fault' end' → Outcome c before read fault end
  outcome_as before read fault fault' end end' same ends h = subst (λ e. Outcome c before read fault e) (sym ends) (subst (λ f. Outcome c before read f end') (sym same) h)

  refused : (before : Values) (pending : Option (Word × Word)) (fault : Kinds) (end : Held) → fault ≢ [] → Outcome c before (with_pending pending None) fault end
  refused before None fault end some = some
  refused before (Some p) fault end some = some

  -- the first fault of a word is one of all
  fails : (w : Walk) (word : Word) (words : List Word) → turn_fault top [] w word ≢ [] → fault_from w (word ∷ words) ≢ []
  fails w word words some none = faults_stay (turn_fault top [] w word) _ some (sym (word_then w word words) ∙ none)

  ends : (before : Values) (pending : Option (Word × Word)) (left : List Word) → Known c pending
      → Outcome c before (with_pending pending (Some ([], left))) (settle_fault c false (held before pending)) (held before pending)
  ends before None left known = (λ none. tt, λ fresh. (refl, ap (λ vs. held vs None) (sym (append-nil before))))
  ends before (Some p) left known =
      let done = after_settled c before (Some p) (Some ([], left)) (λ h. []) (λ h. h) known (λ now. (λ none. tt, λ fresh. (refl, ap (λ vs. held vs None) (sym (append-nil now))))) in
      outcome_as before (more p (Some ([], left))) _ _ (held before (Some p)) (held before (Some p)) (sym (or_else-nil _)) refl done

  module _ (are : AreApart options places) where
    index_at : (used left : List Word) → used ++ left ≡ places → arg_by_index c (behind used) ≡ first_place (behind used) left
    index_at used left all = ap (λ names. arg_by_index (built_rules options names) (behind used)) (sym all) ∙ by_index options used left (behind used) refl

    place_known : (used left : List Word) (place : Word) → used ++ place ∷ left ≡ places → IsKnown c place
    place_known used left place all =
        let other = are.apart used left place all in
        (None, Some (behind used), true, ap (λ names. arg_by_id (built_rules options names) place) (sym all) ∙ by_id options used left place other.0 other.1)

    option_known : (name : Word) → takes_value_of options name ≡ Some true → IsKnown c name
    option_known name among = (Some name, None, false, option_by_id options places name true among)

    moved : (used left : List Word) (place : Word) → used ++ place ∷ left ≡ places → (used ++ place ∷ []) ++ left ≡ places
    moved used left place all = append_assoc used (place ∷ []) left ∙ all

    next_place : (used left : List Word) (place : Word) → used ++ place ∷ left ≡ places → min (behind used + 1) usize_max ≡ behind (used ++ place ∷ [])
    next_place used left place all = next_behind used place (omega (arith, length-append used (place ∷ left), ap length all, are.few))

    -- a word goes to the first place that is left
    module _ (word place : Word) (words used left : List Word) (all : used ++ place ∷ left ≡ places) (before : Values) (pending : Option (Word × Word)) (known : Known c pending) where
      goes : (waiting : Waiting) (t : Bool) → turn_fault top [] (at (held before pending) waiting (behind used) t) word ≡ step_fault top (behind used) (held before pending) in_place
          → walked c [] (at (held before pending) waiting (behind used) t) word ≡ after_step c word (at (held before pending) waiting (behind used) t) (held before pending) in_place
          → (read : Read) → ((now : Values) → Outcome c now (more (place, word) read) (fault_from (at (held now (Some (place, word))) idle (behind (used ++ place ∷ [])) t) words) (end_from (at (held now (Some (place, word))) idle (behind (used ++ place ∷ [])) t) words))
          → Outcome c before (with_pending pending (more (place, word) read)) (fault_from (at (held before pending) waiting (behind used) t) (word ∷ words)) (end_from (at (held before pending) waiting (behind used) t) (word ∷ words))
      goes waiting t turn walk_is read next =
          let found = index_at used (place ∷ left) all in
          let h : Held = held before pending in
          let walk_to : walked c [] (at h waiting (behind used) t) word ≡ at (valued place word (settled c h)) idle (behind (used ++ place ∷ [])) t =
          walk_is ∙ (place_walked word place (behind used) h found h waiting t ∙ ap (λ position. at (valued place word (settled c h)) idle position t) (next_place used left place all)) in
          let turn_is : turn_fault top [] (at h waiting (behind used) t) word ≡ or_else (settle_fault c false h) [] = turn ∙ (place_fault word place (behind used) h found ∙ sym (or_else-nil _)) in
          outcome_as before (with_pending pending (more (place, word) read)) _ _ _ _
          (turned (at h waiting (behind used) t) (at (valued place word (settled c h)) idle (behind (used ++ place ∷ [])) t) word words (settle_fault c false h) [] turn_is walk_to)
          (ap (λ w. end_from w words) walk_to)
          (after_settled c before pending (more (place, word) read) (λ k. fault_from (at (valued place word k) idle (behind (used ++ place ∷ [])) t) words)
          (λ k. end_from (at (valued place word k) idle (behind (used ++ place ∷ [])) t) words) known next)

    -- behind `--`
    trails : (words : List Word) (before : Values) (pending : Option (Word × Word)) (used left : List Word) (waiting : Waiting) → used ++ left ≡ places → Known c pending
        → Outcome c before (with_pending pending (trailing words left)) (fault_from (at (held before pending) waiting (behind used) true) words) (end_from (at (held before pending) waiting (behind used) true) words)
    trails [] before pending used left waiting all known =
        outcome_as before (with_pending pending (Some ([], left))) _ _ _ _ (no_word (at (held before pending) waiting (behind used) true)) refl (ends before pending left known)
    trails (word ∷ words) before pending used [] waiting all known =
        let h : Held = held before pending in
        let turn : turn_fault top [] (at h waiting (behind used) true) word ≡ error.UnknownArgument ∷ [] = trailing_turn word waiting (behind used) h ∙ stray (behind used) h (index_at used [] all) in
        refused before pending _ _ (fails (at h waiting (behind used) true) word words (λ none. some_fault _ _ (sym turn ∙ none)))
    trails (word ∷ words) before pending used (place ∷ left) waiting all known =
        let h : Held = held before pending in
        goes word place words used left all before pending known waiting true (trailing_turn word waiting (behind used) h) (trailing_walked word waiting (behind used) h) (trailing words left)
        (λ now. trails words now (Some (place, word)) (used ++ place ∷ []) left idle (moved used left place all) (place_known used left place all))

    -- behind `--`, where an option waits for its value
    never : (words : List Word) (before : Values) (name : Word) (used left : List Word) (waiting : Waiting) → used ++ left ≡ places → takes_value_of options name ≡ Some true
        → fault_from (at (opened name (held before None)) waiting (behind used) true) words ≢ []
    never [] before name used left waiting all among = λ none. some_fault _ _ (sym (no_word (at (opened name (held before None)) waiting (behind used) true) ∙ unfed name before among) ∙ none)
    never (word ∷ words) before name used [] waiting all among =
        let h : Held = opened name (held before None) in
        let turn : turn_fault top [] (at h waiting (behind used) true) word ≡ error.UnknownArgument ∷ [] = trailing_turn word waiting (behind used) h ∙ stray (behind used) h (index_at used [] all) in
        fails (at h waiting (behind used) true) word words (λ none. some_fault _ _ (sym turn ∙ none))
    never (word ∷ words) before name used (place ∷ left) waiting all among =
        let h : Held = opened name (held before None) in
        let turn : turn_fault top [] (at h waiting (behind used) true) word ≡ error.InvalidValue ∷ [] =
        trailing_turn word waiting (behind used) h ∙ (place_fault word place (behind used) h (index_at used (place ∷ left) all) ∙ unfed name before among) in
        fails (at h waiting (behind used) true) word words (λ none. some_fault _ _ (sym turn ∙ none))

    -- the words are read as clap walks over them, from where no option waits, and from where one does
    abbrev StandsIdle : List Word → Type 0
    StandsIdle words = (before : Values) (pending : Option (Word × Word)) (used left : List Word) → used ++ left ≡ places → Known c pending
        → Outcome c before (with_pending pending (reading options words left None)) (fault_from (at (held before pending) idle (behind used) false) words) (end_from (at (held before pending) idle (behind used) false) words)

    abbrev StandsWaiting : List Word → Type 0
    StandsWaiting words = (before : Values) (name : Word) (used left : List Word) → used ++ left ≡ places → takes_value_of options name ≡ Some true
        → Outcome c before (reading options words left (Some name)) (fault_from (at (opened name (held before None)) (option name) (behind used) false) words) (end_from (at (opened name (held before None)) (option name) (behind used) false) words)

    module _ (word : Word) (words : List Word) (utf8 : IsUtf8 word) (idles : StandsIdle words) (waits : StandsWaiting words) where
      idle_word : (k : Kind) → IsKind options word k → (before : Values) (pending : Option (Word × Word)) (used left : List Word) → used ++ left ≡ places → Known c pending
          → Outcome c before (with_pending pending (step k None word words left (reading options words))) (fault_from (at (held before pending) idle (behind used) false) (word ∷ words)) (end_from (at (held before pending) idle (behind used) false) (word ∷ words))
      idle_word marker is before pending used left all known =
          let h : Held = held before pending in
          let walk_to : walked c [] (at h idle (behind used) false) word ≡ at h idle (behind used) true = marker_walked word (behind used) h is in
          outcome_as before (with_pending pending (trailing words left)) _ _ _ _
          (turned (at h idle (behind used) false) (at h idle (behind used) true) word words [] [] (marker_turn word (behind used) h is) walk_to)
          (ap (λ w. end_from w words) walk_to)
          (trails words before pending used left idle all known)
      idle_word (opening name) is before pending used left all known =
          let h : Held = held before pending in
          let walk_to : walked c [] (at h idle (behind used) false) word ≡ at (opened name (settled c h)) (option name) (behind used) false = opening_walked word (behind used) h is.0 name is.2 is.1 in
          outcome_as before (with_pending pending (reading options words left (Some name))) _ _ _ _
          (turned (at h idle (behind used) false) (at (opened name (settled c h)) (option name) (behind used) false) word words (settle_fault c false h) [] (opening_turn word (behind used) h is.0 name is.2 is.1) walk_to)
          (ap (λ w. end_from w words) walk_to)
          (after_settled c before pending (reading options words left (Some name)) (λ k. fault_from (at (opened name k) (option name) (behind used) false) words)
          (λ k. end_from (at (opened name k) (option name) (behind used) false) words) known (λ now. waits now name used left all is.2))
      idle_word (whole name given) is before pending used left all known =
          let h : Held = held before pending in
          let walk_to : walked c [] (at h idle (behind used) false) word ≡ at (settled c (valued name given (settled c h))) idle (behind used) false = whole_walked word (behind used) h is.0 name is.2 given is.1 in
          let read : Read = reading options words left None in
          outcome_as before (with_pending pending (more (name, given) read)) _ _ _ _
          (turned (at h idle (behind used) false) (at (settled c (valued name given (settled c h))) idle (behind used) false) word words (settle_fault c false h) (settle_fault c false (valued name given (settled c h)))
          (whole_turn word (behind used) h is.0 name is.2 given is.1) walk_to)
          (ap (λ w. end_from w words) walk_to)
          (after_settled c before pending (more (name, given) read) (λ k. or_else (settle_fault c false (valued name given k)) (fault_from (at (settled c (valued name given k)) idle (behind used) false) words))
          (λ k. end_from (at (settled c (valued name given k)) idle (behind used) false) words) known
          (λ now. after_settled c now (Some (name, given)) read (λ k. fault_from (at k idle (behind used) false) words) (λ k. end_from (at k idle (behind used) false) words) (option_known name is.2)
          (λ later. idles later None used left all tt)))
      idle_word (lone name) is before pending used left all known =
          let h : Held = held before pending in
          let walk_to : walked c [] (at h idle (behind used) false) word ≡ at (flagged name (settled c h)) idle (behind used) false = lone_walked word (behind used) h is.0 name is.2 is.1 in
          let read : Read = reading options words left None in
          outcome_as before (with_pending pending (more (name, codes "true") read)) _ _ _ _
          (turned (at h idle (behind used) false) (at (flagged name (settled c h)) idle (behind used) false) word words (settle_fault c false h) (use_fault false (built_option (flag name)) [] (settled c h).rows)
          (lone_turn word (behind used) h is.0 name is.2 is.1) walk_to)
          (ap (λ w. end_from w words) walk_to)
          (after_settled c before pending (more (name, codes "true") read) (λ k. or_else (use_fault false (built_option (flag name)) [] k.rows) (fault_from (at (flagged name k) idle (behind used) false) words))
          (λ k. end_from (at (flagged name k) idle (behind used) false) words) known
          (λ now. after_flag c now name read (λ k. fault_from (at k idle (behind used) false) words) (λ k. end_from (at k idle (behind used) false) words)
          (λ later. idles later None used left all tt)))
      idle_word wrong is before pending used left all known =
          let h : Held = held before pending in
          refused before pending _ _ (fails (at h idle (behind used) false) word words (faults_stay (other_fault top None word h) _ (wrong_fault word h refl utf8 is)))
      idle_word free is before pending used [] all known =
          let h : Held = held before pending in
          let turn : turn_fault top [] (at h idle (behind used) false) word ≡ error.UnknownArgument ∷ [] = free_turn word (behind used) h is.0 is.1 is.2 ∙ stray (behind used) h (index_at used [] all) in
          refused before pending _ _ (fails (at h idle (behind used) false) word words (λ none. some_fault _ _ (sym turn ∙ none)))
      idle_word free is before pending used (place ∷ left) all known =
          let h : Held = held before pending in
          goes word place words used left all before pending known idle false (free_turn word (behind used) h is.0 is.1 is.2) (free_walked word (behind used) h is.0 is.1 is.2) (reading options words left None)
          (λ now. idles now (Some (place, word)) (used ++ place ∷ []) left (moved used left place all) (place_known used left place all))

      waiting_word : (k : Kind) → IsKind options word k → (before : Values) (name : Word) (used left : List Word) → used ++ left ≡ places → takes_value_of options name ≡ Some true
          → Outcome c before (step k (Some name) word words left (reading options words)) (fault_from (at (opened name (held before None)) (option name) (behind used) false) (word ∷ words))
          (end_from (at (opened name (held before None)) (option name) (behind used) false) (word ∷ words))
      waiting_word marker is before name used left all among =
          let h : Held = opened name (held before None) in
          λ none. never words before name used left (option name) all among
          (sym (turned (at h (option name) (behind used) false) (at h (option name) (behind used) true) word words [] [] (marker_turn_waiting word (behind used) h name is) (marker_walked_waiting word (behind used) h name is)) ∙ none)
      waiting_word (opening other) is before name used left all among =
          let h : Held = opened name (held before None) in
          let fault : other_fault top None word h ≡ error.InvalidValue ∷ [] = opening_fault word (behind used) h is.0 other is.2 name is.1 ∙ unfed name before among in
          fails (at h (option name) (behind used) false) word words (faults_stay (other_fault top None word h) _ (λ none. some_fault _ _ (sym fault ∙ none)))
      waiting_word (whole other given) is before name used left all among =
          let h : Held = opened name (held before None) in
          let fault : other_fault top None word h ≡ error.InvalidValue ∷ [] = whole_fault word (behind used) h is.0 other is.2 given is.1 ∙ ap (λ first. or_else first (use_fault false (built_option (valued_row other)) (given ∷ []) (settled c h).rows)) (unfed name before among) in
          fails (at h (option name) (behind used) false) word words (faults_stay (other_fault top None word h) _ (λ none. some_fault _ _ (sym fault ∙ none)))
      waiting_word (lone other) is before name used left all among =
          let h : Held = opened name (held before None) in
          let fault : other_fault top None word h ≡ error.InvalidValue ∷ [] = lone_fault word (behind used) h is.0 other is.2 is.1 ∙ ap (λ first. or_else first (use_fault false (built_option (flag other)) [] (settled c h).rows)) (unfed name before among) in
          fails (at h (option name) (behind used) false) word words (faults_stay (other_fault top None word h) _ (λ none. some_fault _ _ (sym fault ∙ none)))
      waiting_word wrong is before name used left all among =
          let h : Held = opened name (held before None) in
          fails (at h (option name) (behind used) false) word words (faults_stay (other_fault top None word h) _ (wrong_fault word h refl utf8 is))
      waiting_word free is before name used left all among =
          let h : Held = opened name (held before None) in
          let walk_to : walked c [] (at h (option name) (behind used) false) word ≡ at (held before (Some (name, word))) idle (behind used) false = value_walked word name (behind used) before among is.0 is.1 is.2 in
          outcome_as before (more (name, word) (reading options words left None)) _ _ _ _
          (turned (at h (option name) (behind used) false) (at (held before (Some (name, word))) idle (behind used) false) word words [] [] (value_turn word (behind used) h is.0 is.1 is.2 name) walk_to)
          (ap (λ w. end_from w words) walk_to)
          (idles before (Some (name, word)) used left all (option_known name among))

    pub stands : (words : List Word) → AllByRecursion IsUtf8 words → StandsIdle words × StandsWaiting words
    stands [] utf8 = (
      λ before pending used left all known.
          outcome_as before (with_pending pending (Some ([], left))) _ _ _ _ (no_word (at (held before pending) idle (behind used) false)) refl (ends before pending left known),
      λ before name used left all among none. some_fault _ _ (sym (no_word (at (opened name (held before None)) (option name) (behind used) false) ∙ unfed name before among) ∙ none),
    )
    stands (word ∷ words) utf8 =
        let rest = stands words utf8.1 in
        (idle_word word words utf8.0 rest.0 rest.1 (kind options word) (kind_is options word), waiting_word word words utf8.0 rest.0 rest.1 (kind options word) (kind_is options word))
