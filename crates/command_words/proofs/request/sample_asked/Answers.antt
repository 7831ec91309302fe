use Rattle.std.proofs.Common.{◌≡◌, true, map, rules, codes, subst, string_bytes}
use Rattle.std.proofs.lemmas.Bool.{not-false}
use Rattle.command_words.specs.Asking.{IsSample, sample_options, size_place}
use Rattle.command_words.proofs.Commands.{rows_seen, texts}
use Rattle.command_words.proofs.Words.{IsFirst, none_given, some_given, sample_result}
use Rattle.command_words.proofs.request.sample_asked.Goals as goal

pub returns-in_default : goal.returns-in_default
returns-in_default c =
    let options_are : rows_seen c.as_slice-options.result.now ≡ sample_options = search rules in
    let places_are : texts c.as_slice-places.result.now ≡ size_place = search rules in
    λ k n m. none_given sample_options size_place (map string_bytes c.args.words.now) (rows_seen c.as_slice-options.result.now) (texts c.as_slice-places.result.now) options_are places_are c.in_ok-given.field-0 c.in_ok-given.ensures (codes "sample") (IsSample k n m) c.in_default.is

pub returns : goal.returns
returns c =
    let options_are : rows_seen c.as_slice-options.result.now ≡ sample_options = search rules in
    let places_are : texts c.as_slice-places.result.now ≡ size_place = search rules in
    let asked : c.is_asked.result ≡ true = search (rules, not-false) in
    let gives = some_given sample_options size_place (map string_bytes c.args.words.now) (rows_seen c.as_slice-options.result.now) (texts c.as_slice-places.result.now) options_are places_are c.in_ok-given.field-0 c.in_ok-given.ensures c.in-Some.given c.in-Some.is in
    sample_result (map string_bytes c.args.words.now) c.in-Some.given gives (subst (IsFirst (codes "sample") (map string_bytes c.args.words.now)) asked c.is_asked.ensures) c.sample_of.result c.sample_of.ensures
