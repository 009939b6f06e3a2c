-- The number of each refusal, case by case.
use Rattle.std.specs.Prelude.{ℕ}
use Rattle.sheets.specs.declared.press.PressRefusal.{PressRefusal}
use Rattle.sheets.specs.declared.press.PressRefusal.TheVariants.{NumberZero, NoTree, WorkTooShort, TooManyFields, OutputTooShort}
use Rattle.sheets.specs.declared.look.LookUpRefusal.{LookUpRefusal}
use Rattle.sheets.specs.declared.look.LookUpRefusal.TheVariants.{SheetTooShort, NoSuchNode, BadOffsets}

abbrev pub press_number : PressRefusal → ℕ
press_number NumberZero = 1
press_number (NoTree fault) = 2
press_number WorkTooShort = 3
press_number TooManyFields = 4
press_number OutputTooShort = 5

abbrev pub look_up_number : LookUpRefusal → ℕ
look_up_number SheetTooShort = 6
look_up_number NoSuchNode = 7
look_up_number BadOffsets = 8
