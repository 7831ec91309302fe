-- What clap reads of the options and the places of a command.
use Rattle.std.specs.Prelude.{◌≡◌, ◌&&◌, Bool, true, false, not, nat_eq, List, [], ◌∷◌, ◌++◌, map, Some, nat_lt, length, if◌then◌else◌}
use Rattle.std.specs.List.{list_all, list_any}
use Rattle.std.specs.Str.{bytes_eq}
use Rattle.clap.specs.Matches.{first_value, found_of}
use Rattle.clap.specs.Walk.{Rule}
use Rattle.clap.specs.Simple.{App, new_rule, new_shape}
use Rattle.clap.specs.declared.builder.action.ArgAction.TheVariants.{Set, SetTrue}
use Rattle.command_words.specs.Given.{Word, Values, Row, value_of}
use Rattle.command_words.specs.declared.arguments.Arguments.{Arguments}
use Rattle.command_words.specs.declared.options.OptionRow.{OptionRow}

-- the row of an option
abbrev pub row_seen : OptionRow → Row
row_seen row = record { name = row.name.now; takes_value = row.takes_value }

abbrev pub option_rule : Row → Rule
option_rule row = record (new_rule row.name) {
  long = Some row.name;
  action = Some (if row.takes_value then Set else SetTrue);
}

abbrev pub place_rule : Word → Rule
place_rule name = record (new_rule name) { required = true }

-- the command
abbrev pub app : Word → List Row → List Word → App
app name options places = record { top = record (new_shape name) { disable_help_flag = true; rules = map option_rule options ++ map place_rule places }; subs = [] }

-- the text is not empty and has no `=`
abbrev pub is_option_name : Word → Bool
is_option_name [] = false
is_option_name (byte ∷ bytes) = not (list_any (λ b. nat_eq b 61) (byte ∷ bytes))

-- no place has a name that is taken, or the name of a place before it
abbrev pub are_apart : List Word → List Word → Bool
are_apart taken [] = true
are_apart taken (place ∷ places) = not (list_any (λ name. bytes_eq name place) taken) && are_apart (place ∷ taken) places

-- a command may have these options and places
abbrev pub are_names : List Row → List Word → Bool
are_names options places =
    let names = map (λ row. row.name) options in
    nat_lt (length places) 10 && (list_all is_option_name names && are_apart names places)

-- the names have these values
abbrev pub Hold : Arguments → Values → Type 0
Hold arguments values = (name : Word) → first_value (found_of arguments.matches) name ≡ value_of name values
