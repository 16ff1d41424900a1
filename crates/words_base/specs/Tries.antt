-- What a try on a mutex's word answers, by cases.
use Rattle.words_base.specs.declared.found.Taking.{Taking}
use Rattle.words_base.specs.declared.found.Taking.TheVariants as taking
use Rattle.words_base.specs.declared.found.TakingAlone.{TakingAlone}
use Rattle.words_base.specs.declared.found.TakingAlone.TheVariants as alone
use Rattle.words_base.specs.declared.found.Setting.{Setting}
use Rattle.words_base.specs.declared.found.Setting.TheVariants as setting

module _ {R : Type 0} where
  abbrev pub OnTaking : Taking R → (R → Type 0) → Type 0 → Type 0 → Type 0
  OnTaking (taking.Got right) got held starved = got right
  OnTaking taking.Held got held starved = held
  OnTaking taking.Starved got held starved = starved

  abbrev pub OnAlone : TakingAlone R → (R → Type 0) → Type 0 → Type 0 → Type 0
  OnAlone (alone.Got right) got held others = got right
  OnAlone alone.Held got held others = held
  OnAlone alone.FreeWithOthers got held others = others

  abbrev pub OnSetting : Setting R → (R → Type 0) → Type 0 → Type 0
  OnSetting (setting.Got right) got was_set = got right
  OnSetting setting.WasSet got was_set = was_set
