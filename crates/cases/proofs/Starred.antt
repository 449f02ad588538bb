-- Every starred case of the specification holds. Assumes nothing.
use mathlib.Core.Path.{refl}
use Rattle.prefix_int.specs.Integer.{int_from, groups, encode, spell}
use Rattle.stream.specs.Instructions.{kind_int, integer_at, integer_bytes}
use Rattle.cases.specs.Starred.{starred, AllHold}

pub starred_hold : AllHold starred
unfolding int_from groups encode spell kind_int integer_at integer_bytes
starred_hold =
    ((refl, refl), ((refl, refl), ((refl, refl), ((refl, refl), ((refl, refl), (refl, (refl, (refl, (refl, (refl, (refl, (refl, tt))))))))))))
