-- The line of a fault is a text.
use Rattle.std.proofs.Common.{ℕ, ◌+◌, ◌<◌, ◌^◌, ◌++◌, arith}
use Rattle.std.specs.Prelude.{codes, refl}
use Rattle.std.specs.Fmt.{decimal}
use Rattle.std.specs.Str.{IsUtf8}
use Rattle.std.proofs.lemmas.Str.{IsUtf8-nil, IsUtf8-append}
use Rattle.pq_text.proofs.PrintedTexts.{number_utf8, ascii_utf8}
use Rattle.plan_form.specs.declared.fault.PlanFaultKind.{PlanFaultKind}
use Rattle.plan_form.specs.declared.fault.PlanFaultKind.TheVariants.{NoSuchMethod, InputNotKnown, UnknownConstant, BadColumn, WrongArity, WrongWidth}
use Rattle.plan_form.specs.declared.fault.PlanFault.{PlanFault}
use Rattle.plan_form.specs.Printing.{kind_text, step_number_text, place_number_text, where_text, illegal_text}

module _ (fault : PlanFault) (branch : fault.branch < 2 ^ 32) (step : fault.step < 2 ^ 32) (place : fault.place < 2 ^ 32) where
  step_utf8 : IsUtf8 (step_number_text fault)
  step_utf8 =
      IsUtf8-append (codes " branch " ++ decimal (fault.branch + 1) ++ codes " step ") (decimal (fault.step + 1))
      (IsUtf8-append (codes " branch " ++ decimal (fault.branch + 1)) (codes " step ")
      (IsUtf8-append (codes " branch ") (decimal (fault.branch + 1)) (ascii_utf8 (codes " branch ") refl) (number_utf8 (fault.branch + 1) (omega arith)))
      (ascii_utf8 (codes " step ") refl))
      (number_utf8 (fault.step + 1) (omega arith))

  place_utf8 : IsUtf8 (place_number_text fault)
  place_utf8 = IsUtf8-append (codes " place ") (decimal (fault.place + 1)) (ascii_utf8 (codes " place ") refl) (number_utf8 (fault.place + 1) (omega arith))

  at_step : IsUtf8 (step_number_text fault ++ codes ":")
  at_step = IsUtf8-append (step_number_text fault) (codes ":") step_utf8 (ascii_utf8 (codes ":") refl)

  at_place : IsUtf8 (step_number_text fault ++ place_number_text fault ++ codes ":")
  at_place =
      IsUtf8-append (step_number_text fault ++ place_number_text fault) (codes ":")
      (IsUtf8-append (step_number_text fault) (place_number_text fault) step_utf8 place_utf8) (ascii_utf8 (codes ":") refl)

  where_utf8 : (kind : PlanFaultKind) → IsUtf8 (where_text kind fault)
  where_utf8 WrongWidth = IsUtf8-nil
  where_utf8 NoSuchMethod = at_step
  where_utf8 WrongArity = at_step
  where_utf8 InputNotKnown = at_place
  where_utf8 UnknownConstant = at_place
  where_utf8 BadColumn = at_place

  kind_utf8 : (kind : PlanFaultKind) → IsUtf8 (kind_text kind)
  kind_utf8 WrongWidth = ascii_utf8 (codes "wrong width") refl
  kind_utf8 NoSuchMethod = ascii_utf8 (codes "no such method") refl
  kind_utf8 WrongArity = ascii_utf8 (codes "wrong arity") refl
  kind_utf8 InputNotKnown = ascii_utf8 (codes "input not known") refl
  kind_utf8 UnknownConstant = ascii_utf8 (codes "unknown constant") refl
  kind_utf8 BadColumn = ascii_utf8 (codes "bad column") refl

  pub illegal_utf8 : IsUtf8 (illegal_text fault)
  illegal_utf8 =
      IsUtf8-append (codes "illegal:" ++ where_text fault.kind fault ++ codes " " ++ kind_text fault.kind) (codes "\n")
      (IsUtf8-append (codes "illegal:" ++ where_text fault.kind fault ++ codes " ") (kind_text fault.kind)
      (IsUtf8-append (codes "illegal:" ++ where_text fault.kind fault) (codes " ")
      (IsUtf8-append (codes "illegal:") (where_text fault.kind fault) (ascii_utf8 (codes "illegal:") refl) (where_utf8 fault.kind))
      (ascii_utf8 (codes " ") refl))
      (kind_utf8 fault.kind))
      (ascii_utf8 (codes "\n") refl)
