-- The order of owners: lemmas by their numbers, and then found sets by the numbers of their nodes.
use Rattle.std.specs.Prelude.{Bool, true, false, nat_lt, Option, None, Some, if◌then◌else◌}
use Rattle.key_watch.specs.declared.owner.Owner.{Owner}
use Rattle.key_watch.specs.declared.owner.Owner.TheVariants.{Lemma, Found}

-- the first comes before the second
abbrev pub owner_lt : Owner → Owner → Bool
owner_lt (Lemma a) (Lemma b) = nat_lt a b
owner_lt (Lemma a) (Found b) = true
owner_lt (Found a) (Lemma b) = false
owner_lt (Found a) (Found b) = nat_lt a b

-- the lesser of the least so far and one more
abbrev pub least_with : Option Owner → Owner → Owner
least_with None owner = owner
least_with (Some held) owner = if owner_lt owner held then owner else held
