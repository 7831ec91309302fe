use Rattle.std.proofs.Common.{map, string_bytes, refl, ap}
use Rattle.std.specs.Option.{option_to_list}
use Rattle.cnf_reader.proofs.Tries.{open_opened, open_too_long, open_failed, open_absent, second_opened, second_absent, second_too_long, second_failed}
use Rattle.mg_outside.specs.declared.files.ReadAnswer.TheVariants.{Done as ReadDone, Absent as ReadAbsent, TooLong as ReadTooLong, Failed as ReadFailed}
use Rattle.cnf_reader.proofs.Counted.{one_read, second_read}
use Rattle.cnf_reader.proofs.opening.open.Goals as goal

pub returns-in-Opened-clause-opened : goal.returns-in-Opened-clause-opened
returns-in-Opened-clause-opened g c = open_opened _ (string_bytes c.args.tries.first) _ c.args.limit c.args.tries.first c.in-Opened.bytes refl (rw (c.as_str.ensures.value, c.in-Opened.is) at c.in_ok-bytes.ensures.tried)

pub returns-in-TooLong-clause-opened : goal.returns-in-TooLong-clause-opened
returns-in-TooLong-clause-opened g c = open_too_long _ (string_bytes c.args.tries.first) _ c.args.limit (rw (c.as_str.ensures.value, c.in-TooLong.is) at c.in_ok-bytes.ensures.tried)

pub returns-in-Failed-clause-opened : goal.returns-in-Failed-clause-opened
returns-in-Failed-clause-opened g c = open_failed _ (string_bytes c.args.tries.first) _ c.args.limit (rw (c.as_str.ensures.value, c.in-Failed.is) at c.in_ok-bytes.ensures.tried)

pub returns-in_default-clause-opened : goal.returns-in_default-clause-opened
returns-in_default-clause-opened g c = open_absent _ (string_bytes c.args.tries.first) _ c.args.limit (ap (λ o. map string_bytes (option_to_list o)) c.in_default.is) (rw (c.as_str.ensures.value, c.in-Absent.is) at c.in_ok-bytes.ensures.tried)

pub returns-in-Opened-2-clause-opened : goal.returns-in-Opened-2-clause-opened
returns-in-Opened-2-clause-opened g c =
    rw c.in-Some.is
    (second_opened _ (string_bytes c.args.tries.first) (string_bytes c.in-Some.second) c.args.limit (rw (c.as_str.ensures.value, c.in-Absent.is) at c.in_ok-bytes.ensures.tried) c.in-Some.second c.in-Opened-2.bytes refl (rw (c.as_str-2.ensures.value, c.in-Opened-2.is, c.try_name.ensures.same) at c.in_ok-bytes-2.ensures.tried))

pub returns-in-Absent-2-clause-opened : goal.returns-in-Absent-2-clause-opened
returns-in-Absent-2-clause-opened g c =
    rw c.in-Some.is
    (second_absent _ (string_bytes c.args.tries.first) (string_bytes c.in-Some.second) c.args.limit (rw (c.as_str.ensures.value, c.in-Absent.is) at c.in_ok-bytes.ensures.tried) (rw (c.as_str-2.ensures.value, c.in-Absent-2.is, c.try_name.ensures.same) at c.in_ok-bytes-2.ensures.tried))

pub returns-in-TooLong-2-clause-opened : goal.returns-in-TooLong-2-clause-opened
returns-in-TooLong-2-clause-opened g c =
    rw c.in-Some.is
    (second_too_long _ (string_bytes c.args.tries.first) (string_bytes c.in-Some.second) c.args.limit (rw (c.as_str.ensures.value, c.in-Absent.is) at c.in_ok-bytes.ensures.tried) (rw (c.as_str-2.ensures.value, c.in-TooLong-2.is, c.try_name.ensures.same) at c.in_ok-bytes-2.ensures.tried))

pub returns-clause-opened : goal.returns-clause-opened
returns-clause-opened g c =
    rw c.in-Some.is
    (second_failed _ (string_bytes c.args.tries.first) (string_bytes c.in-Some.second) c.args.limit (rw (c.as_str.ensures.value, c.in-Absent.is) at c.in_ok-bytes.ensures.tried) (rw (c.as_str-2.ensures.value, c.in-Failed-2.is, c.try_name.ensures.same) at c.in_ok-bytes-2.ensures.tried))

pub returns-in-Opened-clause-counted : goal.returns-in-Opened-clause-counted
returns-in-Opened-clause-counted g c = one_read ReadDone _ _ (rw c.in-Opened.is at c.in_ok-bytes.ensures.counted)

pub returns-in-TooLong-clause-counted : goal.returns-in-TooLong-clause-counted
returns-in-TooLong-clause-counted g c = one_read ReadTooLong _ _ (rw c.in-TooLong.is at c.in_ok-bytes.ensures.counted)

pub returns-in-Failed-clause-counted : goal.returns-in-Failed-clause-counted
returns-in-Failed-clause-counted g c = one_read ReadFailed _ _ (rw c.in-Failed.is at c.in_ok-bytes.ensures.counted)

pub returns-in_default-clause-counted : goal.returns-in_default-clause-counted
returns-in_default-clause-counted g c = one_read ReadAbsent _ _ (rw c.in-Absent.is at c.in_ok-bytes.ensures.counted)

pub returns-in-Opened-2-clause-counted : goal.returns-in-Opened-2-clause-counted
returns-in-Opened-2-clause-counted g c = second_read ReadDone _ _ _ (rw c.in-Absent.is at c.in_ok-bytes.ensures.counted) (rw c.in-Opened-2.is at c.in_ok-bytes-2.ensures.counted)

pub returns-in-Absent-2-clause-counted : goal.returns-in-Absent-2-clause-counted
returns-in-Absent-2-clause-counted g c = second_read ReadAbsent _ _ _ (rw c.in-Absent.is at c.in_ok-bytes.ensures.counted) (rw c.in-Absent-2.is at c.in_ok-bytes-2.ensures.counted)

pub returns-in-TooLong-2-clause-counted : goal.returns-in-TooLong-2-clause-counted
returns-in-TooLong-2-clause-counted g c = second_read ReadTooLong _ _ _ (rw c.in-Absent.is at c.in_ok-bytes.ensures.counted) (rw c.in-TooLong-2.is at c.in_ok-bytes-2.ensures.counted)

pub returns-clause-counted : goal.returns-clause-counted
returns-clause-counted g c = second_read ReadFailed _ _ _ (rw c.in-Absent.is at c.in_ok-bytes.ensures.counted) (rw c.in-Failed-2.is at c.in_ok-bytes-2.ensures.counted)
