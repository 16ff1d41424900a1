-- What a party is there for.
use Rattle.std.specs.Prelude.{⊤}
use Rattle.cell_core.specs.declared.maker.Purpose.{Purpose}
use Rattle.cell_core.specs.declared.maker.Purpose.TheVariants.{Makes, Sets}
use Rattle.cell_core.specs.Courses.{MakerHere}
use Rattle.sync_program.specs.declared.once_cell.Maker.TheVariants.{Closure, Given}

-- what makes its value, as its places say
abbrev pub maker_of : Purpose → MakerHere
maker_of Makes = Closure
maker_of Sets = Given tt

abbrev pub IsSetting : Purpose → Type 0
IsSetting Sets = ⊤
IsSetting Makes = ⊥

-- whose maker may be pending: not one that has its value from the beginning
abbrev pub IsAwaited : Purpose → Type 0
IsAwaited Sets = ⊥
IsAwaited Makes = ⊤

-- a fact of a party that sets
abbrev pub OnSets : Purpose → Type 0 → Type 0
OnSets Sets F = F
OnSets Makes F = ⊤
