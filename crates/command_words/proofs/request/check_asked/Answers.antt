use Rattle.std.proofs.Common.{◌≡◌, true, map, rules, codes, subst, string_bytes}
use Rattle.std.proofs.lemmas.Bool.{not-false}
use Rattle.command_words.specs.Asking.{IsCheck, root_option, tree_places}
use Rattle.command_words.proofs.Commands.{rows_seen, texts}
use Rattle.command_words.proofs.Words.{IsFirst, none_given, some_given, check_result}
use Rattle.command_words.proofs.request.check_asked.Goals as goal

pub returns-in_default : goal.returns-in_default
returns-in_default c =
    let options_are : rows_seen c.as_slice-options.result.now ≡ root_option = search rules in
    let places_are : texts c.as_slice-places.result.now ≡ tree_places = search rules in
    λ name tree folder. none_given root_option tree_places (map string_bytes c.args.words.now) (rows_seen c.as_slice-options.result.now) (texts c.as_slice-places.result.now) options_are places_are c.in_ok-given.field-0 c.in_ok-given.ensures (codes "check") (IsCheck name tree folder) c.in_default.is

pub returns : goal.returns
returns c =
    let options_are : rows_seen c.as_slice-options.result.now ≡ root_option = search rules in
    let places_are : texts c.as_slice-places.result.now ≡ tree_places = search rules in
    let asked : c.is_asked.result ≡ true = search (rules, not-false) in
    let gives = some_given root_option tree_places (map string_bytes c.args.words.now) (rows_seen c.as_slice-options.result.now) (texts c.as_slice-places.result.now) options_are places_are c.in_ok-given.field-0 c.in_ok-given.ensures c.in-Some.given c.in-Some.is in
    check_result (map string_bytes c.args.words.now) c.in-Some.given gives (subst (IsFirst (codes "check") (map string_bytes c.args.words.now)) asked c.is_asked.ensures) c.check_of.result c.check_of.ensures
